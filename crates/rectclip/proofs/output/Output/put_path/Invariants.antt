-- `put_path` meets its contract: the points up to `i` stand behind those that were there.
use Rattle.std.proofs.Common.{take}
use Rattle.plane.specs.Points.{points_of}
use Rattle.rectclip.specs.Outputs.{Pointed}
use Rattle.rectclip.proofs.output.Output.put_path.Given as goal

abbrev pub invariant-loop-i : goal.invariant-loop-i
invariant-loop-i l = Pointed l.initial.self l.self (take l.i (points_of l.path))
