-- `read_points` meets its contract: the points that the iterator has given stand behind the first one.
use Rattle.std.proofs.Common.{◌∷◌}
use Rattle.reference.specs.Arena.{pt_of}
use Rattle.rectclip.specs.Changes.{pts_of}
use Rattle.rectclip.specs.Outputs.{Pointed}
use Rattle.rectclip.proofs.arena.Arena.read_points.Given as goal

abbrev pub invariant-loop-p : goal.invariant-loop-p
invariant-loop-p l = Pointed l.fn.output l.output (pt_of (pts_of l.self) l.start ∷ l.yielded)
