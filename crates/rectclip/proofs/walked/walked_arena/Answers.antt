-- `walked_arena` meets its contract: the ring, and the corners in it.
use Rattle.rectclip.proofs.WalkedArena.{ring_cornered, arranged}
use Rattle.rectclip.proofs.walked.walked_arena.Goals as goal

pub enter_round-requires : goal.enter_round-requires
enter_round-requires c = ring_cornered c.requires c.build_ring-a.ensures.built

pub returns-clause-arranged : goal.returns-clause-arranged
returns-clause-arranged c = arranged c.requires c.build_ring-a.ensures.built c.enter_round.ensures
