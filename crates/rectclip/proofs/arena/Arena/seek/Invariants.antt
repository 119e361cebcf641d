-- `seek` meets its contract: the entries in their order.
use Rattle.rectclip.proofs.Seeking.{SeekingOn}
use Rattle.rectclip.proofs.arena.Arena.seek.Given as goal

abbrev pub invariant-loop-j : goal.invariant-loop-j
invariant-loop-j l = SeekingOn l.self l.list.idx l.from l.j
