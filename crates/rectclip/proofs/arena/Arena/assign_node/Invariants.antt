-- `assign_node` meets its contract: the four sides in their order.
use Rattle.rectclip.proofs.EdgeLists.{AssignedTo}
use Rattle.rectclip.proofs.arena.Arena.assign_node.Given as goal

abbrev pub invariant-loop-idx : goal.invariant-loop-idx
invariant-loop-idx l = AssignedTo l.op l.set1 l.set2 l.initial.self l.self l.idx
