-- `enter_round` meets its contract: four nodes enter, one after the other.
use Rattle.rectclip.proofs.WalkedArena.{Corners}
use Rattle.rectclip.proofs.arena.Arena.enter_round.Given as goal

abbrev pub invariant-loop-k : goal.invariant-loop-k
invariant-loop-k l = Corners l.clockwise l.initial.self l.self l.k
