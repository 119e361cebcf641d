-- `scan_loop` meets its contract: it counts as the definition does. Assumes nothing.
use mathlib.Core.Path.{◌≡◌}
use Prim.Native.Nat.{◌-◌, ◌/◌, ◌≤◌}
use lib.ListN.{length}
use Rattle.plane.specs.Points.{points_of}
use Rattle.plane.specs.Polygon.{scan_loop}
use Rattle.rectclip.specs.Scanned.{scan_of}
use Rattle.rectclip.proofs.polygon.Scanner.scan_loop.Given as goal

abbrev pub invariant-loop-pass : goal.invariant-loop-pass
invariant-loop-pass l =
    (scan_loop l.self.pt (points_of l.self.polygon.now) l.self.first_idx (l.passes - l._pass) l.starting_above (scan_of l.s) ≡ scan_loop l.self.pt (points_of l.self.polygon.now) l.self.first_idx l.passes l.starting_above (scan_of l.initial.s)) × (l.s.curr_idx ≤ length l.self.polygon.now / 2)
