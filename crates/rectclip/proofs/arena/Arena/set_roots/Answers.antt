-- `set_roots` meets its contract: the owners are read before the results are set.
use Rattle.rectclip.proofs.Regrouping.{roots_set}
use Rattle.rectclip.proofs.arena.Arena.set_roots.Goals as goal

pub returns : goal.returns
returns c =
    roots_set c.args.op c.args.op2 c.owner_of-owner.result c.owner_of-owner2.result c.owner_of-owner.ensures.is c.owner_of-owner2.ensures.is c.set_result.ensures c.set_result-2.ensures
