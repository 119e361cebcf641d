-- A walked outline clipped over the lists is the definition's `clip_walked`: its arena is tidied, and what the definition reads ring by
-- ring is what is left in the arena. Assumes nothing.
use Rattle.std.specs.Prelude.{Ok, Err}
use mathlib.Core.Path.{◌≡◌, refl, sym, ◌∙◌, ap}
use mathlib.Core.List.{List, [], ◌∷◌, map}
use Prim.Native.Nat.{ℕ, zero, suc, ◌+◌, ◌/◌, ◌<◌, ◌≤◌}
use native.Mathlib.Omega.{arith}
use lib.IntN.{ℤ}
use lib.ListN.{length, get_or, take}
use lib.Seq.{get_or-take}
use Rattle.plane.specs.declared.point.Point64.{Point64}
use Rattle.plane.specs.declared.rect.Rect64.{Rect64}
use Rattle.plane.specs.Basics.{none, upwards, Try, refuse, ok, ◌>>=◌}
use Rattle.plane.specs.Points.{points_of, pt_at, origin}
use Rattle.reference.specs.Walk.{Walked}
use Rattle.reference.specs.Arena.{Arena, pt_of, owner_of, ring, check_edges}
use Rattle.reference.specs.Clip.{enter_all, arena_of, get_paths, clip_walked}
use Rattle.theorems.specs.Rings.{Entered}
use Rattle.theorems.specs.Demand.{signed_area2}
use Rattle.theorems.proofs.Holds.{holds_ok}
use Rattle.theorems.proofs.ReadAll.{Whole, whole_some}
use Rattle.theorems.proofs.WalkArena.{Met, met_whole, walk_behind}
use Rattle.theorems.proofs.AreaKeeps.{four_met}
use Rattle.entry.specs.Answers.{number}
use Rattle.entry.specs.declared.answer.Refusal.{Refusal}
use Rattle.rectclip.specs.declared.arena.Arena as lent
use Rattle.rectclip.specs.declared.clipping.Clipped.{Clipped}
use Rattle.rectclip.specs.declared.outline.Outline.{Outline}
use Rattle.rectclip.specs.declared.call.Call.{Call}
use Rattle.rectclip.specs.Walking.{Fits}
use Rattle.rectclip.specs.Arenas.{Spare}
use Rattle.rectclip.specs.Changes.{pts_of}
use Rattle.rectclip.specs.Changes as changes
use Rattle.rectclip.specs.Stored.{points_in, Drawn}
use Rattle.rectclip.specs.Turns.{tidied_all}
use Rattle.rectclip.specs.Paths.{straighten_results, nodes_read}
use Rattle.rectclip.specs.Clipping.{ClippedAs}
use Rattle.rectclip.specs.Delivering.{walked_of, rings_left, drawing_left, Readable, Arranging, Arranged, OutlineClips}
use Rattle.rectclip.proofs.Adding.{walk_points, walk_length}
use Rattle.rectclip.proofs.Coordinates.{points_length}
use Rattle.rectclip.proofs.Spare.{spare_slots}
use Rattle.rectclip.proofs.Later.{read_later}
use Rattle.rectclip.proofs.Counting.{points_count, paths_count}

-- ---- of the definition alone
-- the sides tidied, and then the paths
pub tidied_read : (A : ℕ) (rect : Rect64) (w : Walked)
    → clip_walked A rect w ≡ (tidied_all w.walk.points A (check_edges w.walk.points rect (arena_of w)) >>= λ t. ok (get_paths w.walk.points t.0 (upwards 0 (length t.0.results)), t.1))
unfolding clip_walked tidied_all
tidied_read A rect w = refl

module _ (A : ℕ) (rect : Rect64) (w : Walked) (small : length w.walk.points ≤ none) (entered : Entered w) where
  tidied_whole : (b : Arena) (turns : ℕ) → tidied_all w.walk.points A (check_edges w.walk.points rect (arena_of w)) ≡ ok (b, turns) → Whole w.walk.points (signed_area2 w.walk.points) b
  unfolding tidied_all
  tidied_whole b turns e =
      let pts = w.walk.points in
      let B = walk_behind rect w small entered in
      met_whole pts rect (signed_area2 pts) B.sd b
      (holds_ok {Q = λ (t : Arena × ℕ). Met pts rect (signed_area2 pts) B.sd t.0} _ (b, turns) (four_met pts small rect (signed_area2 pts) B.sd A (check_edges pts rect (arena_of w), 0) B.met) e)

  -- the paths of the tidied arena b, read once all its rings are straightened
  pub tidied_paths : (b : Arena) (turns : ℕ) → tidied_all w.walk.points A (check_edges w.walk.points rect (arena_of w)) ≡ ok (b, turns)
      → clip_walked A rect w
      ≡ ok (map (map (pt_of w.walk.points)) (nodes_read (length w.walk.points) (straighten_results w.walk.points b (upwards 0 (length b.results))) (upwards 0 (length b.results))), turns)
  tidied_paths b turns e =
      let pts = w.walk.points in
      let W = tidied_whole b turns e in
      let few = W.results in
      tidied_read A rect w
      ∙ ap (λ (t : Try (Arena × ℕ)). t >>= λ t. ok (get_paths pts t.0 (upwards 0 (length t.0.results)), t.1)) e
      ∙ ap (λ (p : List (List Point64)). ok (p, turns)) (read_later pts small (owner_of b) b W.rs (whole_some pts (signed_area2 pts) b W) (λ s h. W.core.found s (omega arith)))

-- ---- over the lists
other_default : {A : Type 0} (l : List A) (i : ℕ) (d d' : A) → i < length l → get_or l i d ≡ get_or l i d'
other_default [] i d d' h = absurd (omega arith)
other_default (x ∷ l) zero d d' h = refl
other_default (x ∷ l) (suc i) d d' h = other_default l i d d' (omega arith)

walk_drawn : {store : List ℤ} {work : List ℕ} (o : Outline) → Fits store work o.walk → Drawn store o.walk.points
unfolding points_in
walk_drawn {store} {work} o F = record {
  room = omega (arith, F.points);
  reached = λ i h.
      let Q = points_of store in
      let n = o.walk.points in
      let e : pt_of (take n Q) i ≡ pt_at Q i = get_or-take n Q i (pt_at (take n Q) 0) h ∙ other_default Q i (pt_at (take n Q) 0) origin (rw (points_length store) (omega (arith, F.points))) in
      rw e (F.near i h);
}

module _ (c : Call) {o : Outline} (x : OutlineClips c o) where
  abbrev w : Walked
  w = walked_of c.store.now c.work.now o

  drawn : Drawn c.store.now o.walk.points
  drawn = walk_drawn o x.fits

  pub arranging : Arranging c.store.now c.work.now (length c.store.now / 2 + c.allowance + 1) o
  arranging = record { room = record { cells = c.room.cells; small = omega (arith, c.room.few, c.room.turns) }; drawn = drawn; points = omega (arith, x.fits.points); corners = x.corners }

  small : length w.walk.points ≤ none
  small = omega (arith, walk_length x.fits, x.fits.points, c.room.few)

  module _ {m : lent.Arena} (a : Arranged c.store.now c.work.now (length c.store.now / 2 + c.allowance + 1) o m) where
    pub may_clip : Spare m.sizes.slots c.allowance (changes.arena_of m)
    may_clip = spare_slots a.slots_are (a.spare c.allowance (omega (arith, x.fits.points)))

    points_are : w.walk.points ≡ pts_of m
    unfolding points_in
    points_are = walk_points x.fits ∙ (λ i. take (sym a.nodes_are i) (points_of (sym a.store i)))

    arena_is : arena_of w ≡ changes.arena_of m
    unfolding arena_of
    arena_is = sym (a.is ∙ (λ i. enter_all (ring (sym (walk_length x.fits) i)) w.entered))

    -- the tidied arena, as the definition has it
    abbrev tidied : Try (Arena × ℕ)
    tidied = tidied_all (pts_of m) c.allowance (check_edges (pts_of m) c.rect (changes.arena_of m))

    tidied_is : tidied_all w.walk.points c.allowance (check_edges w.walk.points c.rect (arena_of w)) ≡ tidied
    tidied_is i = tidied_all (points_are i) c.allowance (check_edges (points_are i) c.rect (arena_is i))

    pub clipped_spent : {m' : lent.Arena} (why : Refusal) → ClippedAs (pts_of m) m m' (Err why) tidied → clip_walked c.allowance c.rect w ≡ refuse (number why)
    clipped_spent why K = tidied_read c.allowance c.rect w ∙ ap (λ (t : Try (Arena × ℕ)). t >>= λ t. ok (get_paths w.walk.points t.0 (upwards 0 (length t.0.results)), t.1)) (tidied_is ∙ K.answer)

    module _ {m' : lent.Arena} (k : Clipped) (K : ClippedAs (pts_of m) m m' (Ok k) tidied) where
      pub clipped_is : clip_walked c.allowance c.rect w ≡ drawing_left m' k
      unfolding drawing_left
      clipped_is =
          let S = K.answer in
          let b = S.b in
          let n : length w.walk.points ≡ m'.sizes.nodes = walk_length x.fits ∙ sym (K.nodes ∙ a.nodes_are) in
          let p : w.walk.points ≡ pts_of m' = points_are ∙ (λ i. points_in (sym K.same.store i) (sym K.nodes i)) in
          let z : straighten_results w.walk.points b (upwards 0 (length b.results)) ≡ changes.arena_of m' = ap (λ (q : List Point64). straighten_results q b (upwards 0 (length b.results))) points_are ∙ sym S.is in
          tidied_paths c.allowance c.rect w small x.entered b k.turns (tidied_is ∙ S.tidied)
          ∙ (λ i. ok (map (map (pt_of (p i))) (nodes_read (n i) (z i) (upwards 0 (S.results i))), k.turns))

      pub readable : Readable m' k
      unfolding drawing_left
      readable =
          let C = K.answer.counts in
          let f = x.few _ k.turns clipped_is in
          record {
            counts = C;
            few_paths = omega (arith, C.paths, paths_count (pts_of m') (rings_left m'), f.0, f.1, c.room.turns);
            few_points = omega (arith, C.points, points_count (pts_of m') (rings_left m'), f.2);
            few_turns = omega (arith, f.0, c.room.turns);
          }
