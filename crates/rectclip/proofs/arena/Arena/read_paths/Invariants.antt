-- `read_paths` meets its contract: the results in their order.
use Rattle.rectclip.proofs.WriteOut.{WritingOn}
use Rattle.rectclip.proofs.arena.Arena.read_paths.Given as goal

abbrev pub invariant-loop-i : goal.invariant-loop-i
invariant-loop-i l = WritingOn l.self l.initial.output l.output l.i
