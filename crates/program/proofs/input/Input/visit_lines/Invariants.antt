-- `program::input::Input::visit_lines`: the lines so far were visited.
use Rattle.std.proofs.Common.{◌≡◌, length}
use Rattle.program.specs.Taken.{at_hand}
use Rattle.program.proofs.Visiting.{VisitedTo}
use Rattle.program.proofs.input.Input.visit_lines.Given as goal

abbrev pub invariant-loop-number : goal.invariant-loop-number
invariant-loop-number g l = record {
  long : length l.line ≡ g.row.M;
  visited : VisitedTo g.V.Visitor.gives g.row.M l.first (at_hand l.fn.self) (g.R.Read.remaining l.fn.input) (g.R.Read.remaining l.input) l.fn.visitor l.visitor (at_hand l.self) l.number;
}
