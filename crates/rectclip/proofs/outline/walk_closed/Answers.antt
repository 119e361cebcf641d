-- `walk_closed` meets its contract: the walker has nothing yet at first, and leaves its walk in the lists. Assumes nothing.
use Rattle.rectclip.proofs.Opening.{walk_fresh}
use Rattle.rectclip.proofs.outline.walk_closed.Goals as goal

pub walk_closed-requires : goal.walk_closed-requires
walk_closed-requires c = (c.requires.bounded, rw c.new.ensures (walk_fresh _ _))
