-- `straighten_results` meets its contract: the results in their order.
use Rattle.rectclip.proofs.Starts.{Straightened}
use Rattle.rectclip.proofs.arena.Arena.straighten_results.Given as goal

abbrev pub invariant-loop-i : goal.invariant-loop-i
invariant-loop-i l = Straightened l.initial.self l.self l.i
