-- `unlink` meets its contract: the neighbours read are the definition's, and the two stores are its own.
use Rattle.rectclip.proofs.Unlinking.{unlinked_alone, unlinked_joined}
use Rattle.rectclip.proofs.arena.Arena.unlink.Goals as goal

pub returns-then-next-op : goal.returns-then-next-op
returns-then-next-op c = unlinked_alone c.args.op c.next_of-next.result c.next_of-next.ensures.is c.if-next-op.true

pub returns : goal.returns
returns c =
    unlinked_joined c.args.op c.next_of-next.result c.next_of-next.ensures.is c.if-next-op.false c.prev_of-prev.result c.prev_of-prev.ensures.is c.set_next.ensures c.set_prev.ensures c.prev_of-prev.ensures.within c.next_of-next.ensures.within
