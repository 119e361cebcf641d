-- The lists of a call fit: at most W walked points, one result more than turns, and in each edge list no more entries than points and turns.
use mathlib.Core.List.{List}
use Prim.Native.Nat.{ℕ, ◌≤◌}
use native.Mathlib.Omega.{arith}
use lib.ListN.{length}
use Rattle.plane.specs.declared.point.Point64.{Point64}
use Rattle.plane.specs.declared.rect.Rect64.{Rect64}
use Rattle.plane.specs.Basics.{none, upwards, Try, ◌>>=◌}
use Rattle.reference.specs.Walk.{Walked, no_room, walk_closed}
use Rattle.reference.specs.Arena.{Arena, check_edges}
use Rattle.reference.specs.Tidy.{tidy_edges}
use Rattle.reference.specs.Clip.{arena_of}
use Rattle.theorems.specs.Rings.{Entered}
use Rattle.theorems.specs.Sizes.{Fits, ListsFit, ListsAlwaysFit}
use Rattle.plane.specs.Points.{points_of}
use Rattle.theorems.proofs.Holds.{Holds, refused, held, bind, holds_ok}
use Rattle.theorems.proofs.FewResults.{Few, check_size, walk_size, turn_size, tidy_few}
use Rattle.theorems.proofs.FewEntries.{Within, turn_more, tidy_within}
use Rattle.theorems.proofs.WalkArena.{walk_behind}
use Rattle.theorems.proofs.Counted.{has_room, walk_counted}
use Rattle.theorems.proofs.WalkEnters.{walk_enters}
use Rattle.theorems.proofs.Entering.{entry_found}

-- both bounds at once
both : (points A : ℕ) (pts : List Point64) (m : Try (Arena × ℕ)) → Holds (Few pts A) m → Holds (Within pts points) m → Holds (Fits points A) m
both points A pts m refused h = refused
both points A pts m (held h) (held k) = held (record { turns = h.0; results = h.1; entries = k })

module _ (points A : ℕ) (pts : List Point64) where
  side_fits : (k : ℕ) (s : Arena × ℕ) → Fits points A s → Holds (Fits points A) (tidy_edges pts k A s)
  side_fits k s F = both points A pts (tidy_edges pts k A s) (tidy_few pts k A s (F.turns, F.results)) (tidy_within pts points k A s F.entries)

  next_fits : (k : ℕ) (m : Try (Arena × ℕ)) → Holds (Fits points A) m → Holds (Fits points A) (m >>= tidy_edges pts k A)
  next_fits k m h = bind (Fits points A) (Fits points A) m (tidy_edges pts k A) h (side_fits k)

check_fits : (A : ℕ) (rect : Rect64) (w : Walked) → length w.walk.points ≤ none → Entered w → Fits (length w.walk.points) A (check_edges w.walk.points rect (arena_of w), 0)
unfolding check_edges
check_fits A rect w small entered =
    let pts = w.walk.points in
    let B = walk_behind rect w small entered in
    let c = check_size pts rect (arena_of w) (upwards 0 (length (arena_of w).results)) in
    let l = walk_size w in
    record { turns = omega arith; results = omega arith; entries = λ e. let h = B.entered e in omega arith }

-- The walk leaves one result and enters each node at most once; a turn adds at most one result and one entry.
pub lists_fit : (A : ℕ) (rect : Rect64) (w : Walked) → length w.walk.points ≤ none → Entered w → ListsFit A rect w
lists_fit A rect w small entered =
    let pts = w.walk.points in
    let n = length pts in
    let c : Arena × ℕ = (check_edges pts rect (arena_of w), 0) in
    let F = check_fits A rect w small entered in
    let one = side_fits n A pts 0 c F in
    let two = next_fits n A pts 1 (tidy_edges pts 0 A c) one in
    let three = next_fits n A pts 2 (tidy_edges pts 0 A c >>= tidy_edges pts 1 A) two in
    let four = next_fits n A pts 3 (tidy_edges pts 0 A c >>= tidy_edges pts 1 A >>= tidy_edges pts 2 A) three in
    record {
      check = F;
      turn_results = turn_size pts;
      turn_entries = λ k a i j e. let h = turn_more pts k a i j e in omega arith;
      left = λ s e. holds_ok _ s one e;
      top = λ s e. holds_ok _ s two e;
      right = λ s e. holds_ok _ s three e;
      bottom = λ s e. holds_ok _ s four e;
    }

-- In every call within the coordinate limit the lists fit their room: W nodes, 1 + A results, W + A entries in each edge list.
pub lists_always_fit : ListsAlwaysFit
lists_always_fit W A rect coords w lim hr hc he e =
    let path = points_of coords in
    let n = holds_ok {Q = λ (v : Walked). length v.walk.points ≤ W} (walk_closed (no_room W) rect path) w (walk_counted (no_room W) W (has_room W) rect he path) e in
    let entered = holds_ok {Q = Entered} (walk_closed (no_room W) rect path) w (walk_enters (no_room W) rect he path (entry_found rect coords hr hc he)) e in
    (n, lists_fit A rect w (omega arith) entered)
