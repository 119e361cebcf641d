-- `start_locs_are_clockwise` meets its contract: steps counted each way come to the definition's sum. Assumes nothing.
use Prim.Native.Nat.{◌-◌}
use Rattle.rectclip.proofs.StartSides.{Counting}
use Rattle.rectclip.proofs.walk.Walker.start_locs_are_clockwise.Given as goal

abbrev pub invariant-loop-i : goal.invariant-loop-i
invariant-loop-i l = Counting l.self.work.now l.self.state.start_locs l.t (l.i - 1)
