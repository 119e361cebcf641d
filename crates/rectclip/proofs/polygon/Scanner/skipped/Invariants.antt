-- `skipped` meets its contract: it counts as the definition does. Assumes nothing.
use mathlib.Core.Path.{◌≡◌}
use Prim.Native.Nat.{◌+◌, ◌-◌, ◌/◌}
use lib.ListN.{length}
use Rattle.plane.specs.Points.{points_of}
use Rattle.plane.specs.Polygon.{skipped}
use Rattle.rectclip.proofs.polygon.Scanner.skipped.Given as goal

abbrev pub invariant-loop-i : goal.invariant-loop-i
invariant-loop-i l =
    skipped l.self.pt (points_of l.self.polygon.now) l.is_above l.wrap l.self.first_idx (length l.self.polygon.now / 2 + l.from - l.i) l.i ≡ skipped l.self.pt (points_of l.self.polygon.now) l.is_above l.wrap l.self.first_idx (length l.self.polygon.now / 2) l.from
