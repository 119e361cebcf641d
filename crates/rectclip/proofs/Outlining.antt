-- The walk of a closed path: how it ends, what follows the `while`, and where the walk starts. Assumes nothing.
use Rattle.std.specs.Prelude.{if◌then◌else◌, Option, None, Some, Result, Ok, Err}
use mathlib.Core.Path.{◌≡◌, refl, sym, ◌∙◌, ap, subst}
use mathlib.Core.Bool.{Bool, true, false, not, cond, ◌&&◌, ◌||◌}
use borrow.Author.Tests.{not-true, not-false}
use mathlib.Core.List.{[]}
use Prim.Native.Nat.{ℕ, ◌≤◌}
use lib.Dec.{ltb}
use lib.ListN.{length}
use Rattle.plane.specs.declared.rect.Rect64.{Rect64}
use Rattle.plane.specs.declared.location.Location.{Location}
use Rattle.plane.specs.Basics.{Try, refuse, ok, ◌>>=◌}
use Rattle.plane.specs.Locations.{is_inside, same_location, heading_clockwise, get_adjacent_location, start_locs_are_clockwise}
use Rattle.reference.specs.Walk.{Walk, State, add_all, add_round, retrace, add_corner_loc, close_outline, surround, after_while}
use Rattle.reference.specs.Walk as def
use Rattle.entry.specs.declared.answer.Refusal.{Refusal}
use Rattle.rectclip.specs.declared.walk.Walker.{Walker}
use Rattle.rectclip.specs.declared.pass.ClosedState.{ClosedState}
use Rattle.rectclip.specs.Walking.{turned}
use Rattle.rectclip.specs.Steps.{walk, full, points, Answers, Steps}
use Rattle.rectclip.specs.Closing.{state_of}
use Rattle.rectclip.specs.Outlining.{entered_of, entries, outline, round_corners, path_contains, corner_toward, close_walk, Outlines}
use Rattle.rectclip.proofs.Adding.{walk_length}
use Rattle.rectclip.proofs.Closing.{bind_assoc, bind_ap}
use Rattle.rectclip.proofs.Retracing.{count_sides}
use Rattle.rectclip.proofs.Steps.{stays, named, done_is, refused_is, read_as}
use Rattle.rectclip.proofs.GoingRound.{order, round_done, round_lost}

-- ---- how the walk ends
-- nothing is entered
abbrev pub bare : Walk → def.Walked
bare w = record { walk = w; entered = [] }

abbrev pub plain : Walk → Try def.Walked
plain w = ok (bare w)

-- ---- the path contains the rectangle, or not
module _ (x : Walker) {b : Bool} (eb : b ≡ path_contains x.rect (points x)) where
  none_round : path_contains x.rect (points x) ≡ false → plain (walk x) ≡ surround (full x) x.rect (points x) (walk x)
  unfolding surround
  none_round e = rw e refl

  all_round : path_contains x.rect (points x) ≡ true → add_round (full x) x.rect (walk x) [] (order (start_locs_are_clockwise (walk x).start_locs)) ≡ surround (full x) x.rect (points x) (walk x)
  unfolding surround
  all_round e = rw e refl

  pub surround_none : not b ≡ true → Outlines (surround (full x) x.rect (points x) (walk x)) x x (Ok None)
  surround_none t = stays (none_round (sym eb ∙ not-true b t))

  module _ (t : not b ≡ false) {cw : Bool} (ec : cw ≡ start_locs_are_clockwise (walk x).start_locs) {y : Walker} {r : Result Unit Refusal} (R : Steps (add_all (full x) (walk x) (round_corners x.rect cw)) x y r) where
    round_is : add_round (full x) x.rect (walk x) [] (order cw) ≡ surround (full x) x.rect (points x) (walk x)
    round_is = ap (λ (c : Bool). add_round (full x) x.rect (walk x) [] (order c)) ec ∙ all_round (sym eb ∙ not-false b t)

    pub surround_lost : {why : Refusal} → r ≡ Err why → Outlines (surround (full x) x.rect (points x) (walk x)) x y (Err why)
    surround_lost e = record { same = R.same; is = round_lost (full x) x.rect cw (walk x) (refused_is R e) ∙ round_is }

    module _ {u : Unit} (e : r ≡ Ok u) where
      pub surround_all : Outlines (surround (full x) x.rect (points x) (walk x)) x y (Ok (Some cw))
      surround_all = record {
        same = R.same;
        is = ap (λ (m : ℕ). ok (record { walk = walk y; entered = entered_of m (Some cw) })) (sym (walk_length y.fits)) ∙ (round_done (full x) x.rect cw x.sheet.extent (walk x) (done_is R e)).0 ∙ round_is;
      }

      pub surround_counts : entries (Some cw) ≤ y.state.points
      surround_counts = subst (λ (m : ℕ). 4 ≤ m) (walk_length y.fits) (round_done (full x) x.rect cw x.sheet.extent (walk x) (done_is R e)).1

-- ---- what follows the `while`
-- the last corner, as the definition has it
last_is : (full : ℕ → Bool) (rect : Rect64) (w : Walk) (p q : Location)
    → corner_toward full rect w p q ≡ (if not (same_location p q) then (add_corner_loc full rect w p (heading_clockwise p q) >>= λ u. ok u.0) else ok w)
unfolding corner_toward add_corner_loc
last_is full rect w p q = go (same_location p q) (def.add full w (turned rect p (heading_clockwise p q)) false)
  where
    come : Walk → Try (Walk × Location)
    come v = ok (v, get_adjacent_location p (heading_clockwise p q))

    go : (b : Bool) (t : Try Walk) → cond b (ok w) t ≡ cond (not b) (t >>= come >>= λ u. ok u.0) (ok w)
    go true t = refl
    go false (refuse n) = refl
    go false (ok v) = refl

closed_parts : (full : ℕ → Bool) (rect : Rect64) (s : State) → (close_walk full rect s >>= plain) ≡ close_outline full rect s
unfolding close_walk close_outline
closed_parts full rect s =
    bind_assoc (retrace full rect s.walk s.loc s.walk.start_locs) (λ t. corner_toward full rect t.0 t.1 s.first_cross) plain
    ∙ bind_ap (retrace full rect s.walk s.loc s.walk.start_locs) (λ t. corner_toward full rect t.0 t.1 s.first_cross >>= plain)
    (λ t. (if not (same_location t.1 s.first_cross) then (add_corner_loc full rect t.0 t.1 (heading_clockwise t.1 s.first_cross) >>= λ u. ok u.0) else ok t.0) >>= plain)
    (λ t. ap (λ (x : Try Walk). x >>= plain) (last_is full rect t.0 t.1 s.first_cross))

module _ (x : Walker) (start : Location) (s : ClosedState) {b : Bool} (eb : b ≡ is_inside s.first_cross) where
  abbrev whole : Try def.Walked
  whole = after_while (full x) x.rect (points x) start (state_of x s)

  never_in : is_inside s.first_cross ≡ true → is_inside start ≡ true → plain (walk x) ≡ whole
  unfolding after_while
  never_in e f = rw (e, f) refl

  never_out : is_inside s.first_cross ≡ true → is_inside start ≡ false → surround (full x) x.rect (points x) (walk x) ≡ whole
  unfolding after_while
  never_out e f = rw (e, f) refl

  crossed_out : is_inside s.first_cross ≡ false → (not (is_inside s.loc) && (not (same_location s.loc s.first_cross) || ltb 2 (length (walk x).start_locs))) ≡ true
      → (close_walk (full x) x.rect (state_of x s) >>= plain) ≡ whole
  unfolding after_while
  crossed_out e f = rw (e, f) (closed_parts (full x) x.rect (state_of x s))

  crossed_in : is_inside s.first_cross ≡ false → (not (is_inside s.loc) && (not (same_location s.loc s.first_cross) || ltb 2 (length (walk x).start_locs))) ≡ false → plain (walk x) ≡ whole
  unfolding after_while
  crossed_in e f = rw (e, f) refl

  pub after_inside : b ≡ true → {d : Bool} → d ≡ is_inside start → d ≡ true → Outlines whole x x (Ok None)
  after_inside t ed v = stays (never_in (sym eb ∙ t) (sym ed ∙ v))

  pub after_surround : b ≡ true → {d : Bool} → d ≡ is_inside start → d ≡ false → {y : Walker} {r : Result (Option Bool) Refusal} → Outlines (surround (full x) x.rect (points x) (walk x)) x y r → Outlines whole x y r
  after_surround t ed v A = named A (never_out (sym eb ∙ t) (sym ed ∙ v))

  -- the test of the way back, as the code has it
  module _ (t : b ≡ false) {l m z : Bool} (el : l ≡ is_inside s.loc) (em : m ≡ not (same_location s.loc s.first_cross)) (ez : (not l && (m || ltb 2 x.state.start_locs)) ≡ z) where
    way_back : (not (is_inside s.loc) && (not (same_location s.loc s.first_cross) || ltb 2 (length (walk x).start_locs))) ≡ z
    way_back = rw (← el, ← em, count_sides x) ez

    pub after_closes : z ≡ true → {y : Walker} {r : Result Unit Refusal} → Steps (close_walk (full x) x.rect (state_of x s)) x y r → Answers (λ y u. outline y None) whole x y r
    after_closes v R = named (read_as R bare (λ u. refl)) (crossed_out (sym eb ∙ t) (way_back ∙ v))

    pub after_stays : z ≡ false → Outlines whole x x (Ok None)
    after_stays v = stays (crossed_in (sym eb ∙ t) (way_back ∙ v))
