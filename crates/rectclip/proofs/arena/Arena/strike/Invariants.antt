-- `strike` meets its contract: the first entry that is the node, if there is one.
use Rattle.rectclip.proofs.Striking.{Striking}
use Rattle.rectclip.proofs.arena.Arena.strike.Given as goal

abbrev pub invariant-loop-i : goal.invariant-loop-i
invariant-loop-i l = Striking l.list.idx l.op l.initial.self l.self l.i
