-- `assign_edges` meets its contract: the loop goes round as the definition does.
use Prim.Native.Nat.{◌-◌}
use Rattle.rectclip.proofs.EdgeLists.{Assigned}
use Rattle.rectclip.proofs.arena.Arena.assign_edges.Given as goal

abbrev pub invariant-loop-pass : goal.invariant-loop-pass
invariant-loop-pass l = Assigned l.rect l.op l.initial.set1 l.initial.self l.self l.op2 l.set1 (l._pass-end - l._pass)
