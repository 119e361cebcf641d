-- The polygon clipper's drawing by its cases, in the definition's order, and what a path that is walked gives. Assumes nothing.
use mathlib.Core.Path.{◌≡◌, refl, sym, ◌∙◌, ap}
use mathlib.Core.Bool.{Bool, true, false, not, ◌&&◌, cond}
use mathlib.Core.List.{List, [], ◌∷◌}
use Prim.Native.Nat.{ℕ, ◌/◌, ◌<◌, ◌≤◌}
use native.Mathlib.Omega.{arith}
use borrow.Author.Tests.{lt-ltb, le-ltb}
use lib.Dec.{T, ltb}
use lib.IntN.{ℤ}
use lib.ListN.{length}
use Rattle.integers.specs.Tests.{T_of}
use Rattle.plane.specs.declared.point.Point64.{Point64}
use Rattle.plane.specs.declared.rect.Rect64.{Rect64}
use Rattle.plane.specs.Basics.{Try, refuse, ok, ◌>>=◌}
use Rattle.plane.specs.Points.{points_of}
use Rattle.plane.specs.Rectangle.{is_empty, intersects, contains_rect, get_bounds_path}
use Rattle.reference.specs.Walk.{Walked, walk_closed, no_room}
use Rattle.reference.specs.Clip.{clip_walked, execute}
use Rattle.theorems.specs.Rings.{Entered}
use Rattle.theorems.specs.Demand.{is_walked}
use Rattle.theorems.proofs.Holds.{holds_ok}
use Rattle.theorems.proofs.WalkEnters.{walk_enters}
use Rattle.theorems.proofs.Entering.{entry_found}
use Rattle.theorems.proofs.ClosedArea.{walked_not_empty}
use Rattle.theorems.proofs.FewPoints.{few_points}
use Rattle.theorems.proofs.FewResults.{few_results}
use Rattle.std.specs.Prelude.{Result, Ok, Err}
use Rattle.entry.specs.declared.answer.Counts.{Counts}
use Rattle.entry.specs.declared.answer.Refusal.{Refusal}
use Rattle.rectclip.specs.declared.outline.Outline.{Outline}
use Rattle.rectclip.specs.declared.call.Call.{Call}
use Rattle.rectclip.specs.declared.output.Output.{Output}
use Rattle.entry.specs.Answers.{number}
use Rattle.rectclip.specs.Outlining.{Drawn, Walks}
use Rattle.rectclip.specs.Delivering.{walked_of, walk_drawing, SameCall, Gives, OutlineClips}
use Rattle.rectclip.proofs.Coordinates.{points_length}
use Rattle.rectclip.proofs.Delivering.{gives_refusal, gives_same}

-- ---- a path that is walked
walked_way : {X : Type 0} (b1 b2 b3 b4 : Bool) (x1 x2 x3 x4 y : X) → T (not b1 && not b2 && b3 && not b4) → cond b1 x1 (cond b2 x2 (cond (not b3) x3 (cond b4 x4 y))) ≡ y
walked_way true b2 b3 b4 x1 x2 x3 x4 y h = absurd h
walked_way false true b3 b4 x1 x2 x3 x4 y h = absurd h
walked_way false false false b4 x1 x2 x3 x4 y h = absurd h
walked_way false false true true x1 x2 x3 x4 y h = absurd h
walked_way false false true false x1 x2 x3 x4 y h = refl

pub execute_walked : (W A : ℕ) (rect : Rect64) (path : List Point64) → T (is_walked rect path) → execute (no_room W) A rect path ≡ walk_drawing (no_room W) A rect path
unfolding execute is_walked
execute_walked W A rect path h =
    walked_way (is_empty rect) (ltb (length path) 3) (intersects rect (get_bounds_path path)) (contains_rect rect (get_bounds_path path)) _ _ _ _ (walk_closed (no_room W) rect path >>= clip_walked A rect) h

module _ (x : Call) (walked : T (is_walked x.rect (points_of x.path.now))) where
  abbrev full : ℕ → Bool
  full = no_room (length x.store.now / 2)

  extent : is_empty x.rect ≡ false
  extent = walked_not_empty x.rect (points_of x.path.now) walked

  pub may_walk : Walks x.rect x.path.now x.bounds x.store.now x.work.now
  may_walk = record {
    room = record { cells = omega (arith, x.room.cells); small = omega (arith, x.room.few) };
    few = x.room.few;
    sheet = record { extent = extent; frame = x.admitted.frame; points = x.admitted.points };
    bounded = record { even = x.admitted.even; bound = x.admitted.bound };
  }

  module _ {store : List ℤ} {work : List ℕ} {r : Result Outline Refusal} (d : Drawn (walk_closed full x.rect (points_of x.path.now)) store work r) where
    module _ (o : Outline) (e : r ≡ Ok o) where
      walk_is : walk_closed full x.rect (points_of x.path.now) ≡ ok (walked_of store work o)
      walk_is = sym (rw e at d.answer)

      drawing_is : walk_drawing full x.allowance x.rect (points_of x.path.now) ≡ clip_walked x.allowance x.rect (walked_of store work o)
      drawing_is = ap (λ (t : Try Walked). t >>= clip_walked x.allowance x.rect) walk_is

      pub walk_gives : {p : Output} {a : Result Counts Refusal} {q : Output} → Gives (clip_walked x.allowance x.rect (walked_of store work o)) p a q → Gives (walk_drawing full x.allowance x.rect (points_of x.path.now)) p a q
      walk_gives G = gives_same (sym drawing_is) G

    pub walk_refuses : (why : Refusal) → r ≡ Err why → {p : Output} → Gives (walk_drawing full x.allowance x.rect (points_of x.path.now)) p (Err why) p
    walk_refuses why e =
        let q : walk_closed full x.rect (points_of x.path.now) ≡ refuse (number why) = sym (rw e at d.answer) in
        gives_refusal why (ap (λ (t : Try Walked). t >>= clip_walked x.allowance x.rect) q)

  -- once it is walked, in the call y
  pub outline_clips : {y : Call} → SameCall x y → {r : Result Outline Refusal} → Drawn (walk_closed full x.rect (points_of x.path.now)) y.store.now y.work.now r → (o : Outline) → r ≡ Ok o → OutlineClips y o
  outline_clips {y} S d o e = record {
    fits = d.fits o e;
    corners = d.corners o e;
    entered = holds_ok {Q = Entered} (walk_closed full x.rect (points_of x.path.now)) (walked_of y.store.now y.work.now o) (walk_enters full x.rect extent (points_of x.path.now) (entry_found x.rect x.path.now (T_of x.admitted.frame) (T_of x.admitted.points) extent)) (walk_is d o e);
    few = λ paths turns q.
        let same : clip_walked x.allowance x.rect (walked_of y.store.now y.work.now o) ≡ clip_walked y.allowance y.rect (walked_of y.store.now y.work.now o) = λ i. clip_walked (sym S.allowance i) (sym S.rect i) (walked_of y.store.now y.work.now o) in
        let z : execute full x.allowance x.rect (points_of x.path.now) ≡ ok (paths, turns) = execute_walked (length x.store.now / 2) x.allowance x.rect (points_of x.path.now) walked ∙ drawing_is d o e ∙ same ∙ q in
        let f = few_results full x.allowance x.rect (points_of x.path.now) paths turns z in
        let g = few_points (length x.store.now / 2) x.allowance x.rect x.path.now paths turns (omega (arith, x.room.few)) (T_of x.admitted.frame) (T_of x.admitted.points) walked z in
        (omega (arith, f.0, S.allowance), omega (arith, f.1), omega (arith, x.room.few));
  }

-- ---- the drawing by its cases
module _ (rect : Rect64) (path : List ℤ) (W A : ℕ) where
  pub drawn_empty : is_empty rect ≡ true → execute (no_room W) A rect (points_of path) ≡ ok ([], 0)
  unfolding execute
  drawn_empty e = rw e refl

  module _ (e : is_empty rect ≡ false) where
    pub drawn_short : length path / 2 < 3 → execute (no_room W) A rect (points_of path) ≡ ok ([], 0)
    unfolding execute
    drawn_short h = rw (e, lt-ltb (length (points_of path)) 3 (rw (points_length path) h)) refl

    module _ (h : 3 ≤ length path / 2) where
      long : ltb (length (points_of path)) 3 ≡ false
      long = le-ltb (length (points_of path)) 3 (rw (points_length path) h)

      pub drawn_missed : intersects rect (get_bounds_path (points_of path)) ≡ false → execute (no_room W) A rect (points_of path) ≡ ok ([], 0)
      unfolding execute
      drawn_missed f = rw (e, long, f) refl

      module _ (f : intersects rect (get_bounds_path (points_of path)) ≡ true) where
        pub drawn_copied : contains_rect rect (get_bounds_path (points_of path)) ≡ true → execute (no_room W) A rect (points_of path) ≡ ok (points_of path ∷ [], 0)
        unfolding execute
        drawn_copied g = rw (e, long, f, g) refl

        module _ (g : contains_rect rect (get_bounds_path (points_of path)) ≡ false) where
          pub is_walked_here : T (is_walked rect (points_of path))
          unfolding is_walked
          is_walked_here = rw (e, long, f, g) tt

          pub drawn_walked : execute (no_room W) A rect (points_of path) ≡ walk_drawing (no_room W) A rect (points_of path)
          drawn_walked = execute_walked W A rect (points_of path) is_walked_here
