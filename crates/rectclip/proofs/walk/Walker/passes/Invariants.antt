-- `passes` meets its contract: what is left to do after each pass comes to what there was to do at first. Assumes nothing.
use Rattle.rectclip.proofs.ClosedPasses.{Around}
use Rattle.rectclip.proofs.walk.Walker.passes.Given as goal

abbrev pub invariant-loop : goal.invariant-loop
invariant-loop l = Around l.initial.self l.initial.s l.n l.self l.s l.counter
