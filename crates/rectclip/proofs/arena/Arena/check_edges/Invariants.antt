-- `check_edges` meets its contract: the results in their order.
use Rattle.rectclip.proofs.Checking.{Checked}
use Rattle.rectclip.proofs.arena.Arena.check_edges.Given as goal

abbrev pub invariant-loop-i : goal.invariant-loop-i
invariant-loop-i l = Checked l.rect l.initial.self l.self l.i
