-- `set_new_owner` meets its contract: the loop goes round as the definition does.
use Rattle.rectclip.proofs.Owners.{Owning}
use Rattle.rectclip.proofs.arena.Arena.set_new_owner.Given as goal

abbrev pub invariant-loop-pass : goal.invariant-loop-pass
invariant-loop-pass l = Owning l.fn.self l.op l.owner l.work l.op2 l._pass
