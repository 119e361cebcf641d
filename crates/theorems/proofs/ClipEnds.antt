-- The counts never run out: behind the walk every counted loop over the arena has ended when `execute` goes on from it.
use mathlib.Core.Path.{sym, ap, subst}
use mathlib.Core.Logic.{inl, inr}
use mathlib.Core.List.{List}
use Prim.Native.Nat.{ℕ, ◌≤◌}
use lib.ListN.{length}
use lib.Dec.{eqb}
use lib.IntN.{ℤ}
use Rattle.plane.specs.declared.point.Point64.{Point64}
use Rattle.plane.specs.declared.rect.Rect64.{Rect64}
use Rattle.plane.specs.Basics.{none, upwards}
use Rattle.reference.specs.Walk.{Walked, walk_closed}
use Rattle.reference.specs.Arena.{Arena, check_edges}
use Rattle.reference.specs.Clip.{arena_of}
use Rattle.theorems.specs.Rings.{Entered}
use Rattle.theorems.specs.Demand.{signed_area2}
use Rattle.theorems.specs.LoopsEnd.{CheckEnds, TidyEnds, ClipEnds, CountsNeverRunOut}
use Rattle.plane.specs.Points.{points_of}
use Rattle.theorems.proofs.Assigning.{line_at}
use Rattle.theorems.proofs.WalkArena.{Met, met_whole, Start, empty, ringed, walk_behind}
use Rattle.theorems.proofs.AreaKeeps.{one_met, two_met, three_met, four_met}
use Rattle.theorems.proofs.TidyEnds.{tidy_ends}
use Rattle.theorems.proofs.PathEnds.{check_ends, all_paths_end}
use Rattle.theorems.proofs.Counted.{walk_counted}
use Rattle.theorems.proofs.WalkEnters.{walk_enters}
use Rattle.theorems.proofs.Entering.{entry_found}
use Rattle.theorems.proofs.Tests.{never}
use Rattle.theorems.proofs.Holds.{holds_ok}

module _ (pts : List Point64) (small : length pts ≤ none) (rect : Rect64) (A : ℤ) (sd : ℕ → ℕ) where
  -- on any side the turns end
  side_ends : (k limit : ℕ) (s : Arena × ℕ) → Met pts rect A sd s.0 → TidyEnds pts k limit s
  side_ends k limit s (inl I) = tidy_ends pts (line_at rect) sd A k limit s I
  side_ends k limit s (inr q) = λ e. absurd (never (ap (λ (l : List ℕ). eqb (length l) 0) (q.1 k)) e)

start_ends : (rect : Rect64) (pts : List Point64) (a : Arena) → Start pts a → CheckEnds pts rect a (upwards 0 (length a.results))
start_ends rect pts a (empty e) = subst (λ (l : List ℕ). CheckEnds pts rect a (upwards 0 (length l))) (sym e) tt
start_ends rect pts a (ringed small B i) = check_ends pts small rect (signed_area2 pts) a B i

-- Behind a walk, every counted loop over the arena ends: the nodes that it goes round are a ring, since `check_edges` and every turn of
-- `tidy_edges` keep the arena a set of rings by owner, and a ring has at most as many nodes as the walk has put down.
pub clip_ends : (A : ℕ) (rect : Rect64) (w : Walked) → length w.walk.points ≤ none → Entered w → ClipEnds A rect w
clip_ends A rect w small entered =
    let pts = w.walk.points in
    let B = walk_behind rect w small entered in
    let c : Arena × ℕ = (check_edges pts rect (arena_of w), 0) in
    record {
      check = start_ends rect pts (arena_of w) B.start;
      left = side_ends pts small rect (signed_area2 pts) B.sd 0 A c B.met;
      top = λ s e. side_ends pts small rect (signed_area2 pts) B.sd 1 A s (holds_ok _ s (one_met pts small rect (signed_area2 pts) B.sd A c B.met) e);
      right = λ s e. side_ends pts small rect (signed_area2 pts) B.sd 2 A s (holds_ok _ s (two_met pts small rect (signed_area2 pts) B.sd A c B.met) e);
      bottom = λ s e. side_ends pts small rect (signed_area2 pts) B.sd 3 A s (holds_ok _ s (three_met pts small rect (signed_area2 pts) B.sd A c B.met) e);
      paths = λ s e. all_paths_end pts small (signed_area2 pts) s.0 (met_whole pts rect (signed_area2 pts) B.sd s.0 (holds_ok _ s (four_met pts small rect (signed_area2 pts) B.sd A c B.met) e));
    }

-- The counts never run out, in every call within the coordinate limit with a bounded store.
pub counts_never_run_out : CountsNeverRunOut
counts_never_run_out full A rect coords w room hr hc he e =
    clip_ends A rect w (holds_ok {Q = λ (v : Walked). length v.walk.points ≤ none} (walk_closed full rect (points_of coords)) w (walk_counted full none room rect he (points_of coords)) e)
    (holds_ok {Q = Entered} (walk_closed full rect (points_of coords)) w (walk_enters full rect he (points_of coords) (entry_found rect coords hr hc he)) e)
