-- `contains_from` meets its contract. The loop's invariant: the count so far, over the points that are left, is the whole count. Assumes nothing.
use mathlib.Core.Path.{◌≡◌}
use Prim.Native.Nat.{◌≤◌}
use lib.IntN.{pos, nat_abs}
use lib.ListN.{drop}
use Rattle.plane.specs.Points.{points_of}
use Rattle.plane.specs.Polygon.{contains_from}
use Rattle.rectclip.proofs.polygon.contains_from.Given as goal

abbrev pub invariant-loop-i : goal.invariant-loop-i
invariant-loop-i l =
    (contains_from (points_of l.path1) l.io_count (drop l.i (points_of l.path2)) ≡ contains_from (points_of l.path1) (pos 0) (points_of l.path2))
    × (nat_abs l.io_count ≤ 1)
