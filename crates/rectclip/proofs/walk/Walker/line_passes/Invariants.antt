-- `line_passes` meets its contract: the passes that are left now are those that there were.
use Rattle.rectclip.proofs.Passing.{Passes}
use Rattle.rectclip.proofs.walk.Walker.line_passes.Given as goal

abbrev pub invariant-loop : goal.invariant-loop
invariant-loop l = Passes l.initial.self l.initial.at l.n l.self l.at l.counter
