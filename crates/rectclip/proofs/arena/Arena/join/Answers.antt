-- `join` meets its contract: the definition's steps, in their order.
use Rattle.rectclip.proofs.Regrouping.{rings_joined}
use Rattle.rectclip.proofs.arena.Arena.join.Goals as goal

pub returns : goal.returns
returns c =
    rings_joined c.args.f.side.idx c.args.f c.owner_of-from.result c.owner_of-to.result c.owner_of-from.ensures.is c.owner_of-to.ensures.is c.set_result.ensures c.set_new_owner.ensures c.relink.ensures
