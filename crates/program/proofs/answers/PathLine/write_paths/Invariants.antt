-- `program::answers::PathLine::write_paths`: the lines of the first paths are written, of whatever paths the lists hold.
use Rattle.std.proofs.Common.{List}
use Rattle.plane.specs.declared.point.Point64.{Point64}
use Rattle.program.specs.Printed.{Holds}
use Rattle.program.proofs.Lines.{PathsTo}
use Rattle.program.proofs.answers.PathLine.write_paths.Given as goal

abbrev pub invariant-loop-points : goal.invariant-loop-points
invariant-loop-points l =
    (all : List (List Point64)) → Holds l.self.closed l.self.line l.coordinates l.lengths l.fn.out all → PathsTo l.self.closed l.self.line l.lengths l.fn.out all l.out l.points-index l.rest l.end
