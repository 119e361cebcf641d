-- `count_paths` meets its contract: the results in their order.
use Rattle.rectclip.proofs.Counting.{CountingAll}
use Rattle.rectclip.proofs.arena.Arena.count_paths.Given as goal

abbrev pub invariant-loop-i : goal.invariant-loop-i
invariant-loop-i l = CountingAll l.self l.so_far l.i
