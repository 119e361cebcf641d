-- `take_turns` meets its contract: the loop takes the definition's turns, and is left where it is.
use Rattle.rectclip.proofs.Tidying.{Tidying}
use Rattle.rectclip.proofs.arena.Arena.take_turns.Given as goal

abbrev pub invariant-loop-left : goal.invariant-loop-left
invariant-loop-left l = Tidying l.fn.side l.allowed l.initial.self l.self l.at l.left

abbrev pub decreases-loop-left : goal.decreases-loop-left
decreases-loop-left l = l.left
