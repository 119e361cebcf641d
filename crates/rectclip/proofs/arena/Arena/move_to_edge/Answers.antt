-- `move_to_edge` meets its contract: the definition's two steps.
use Rattle.rectclip.proofs.Settling.{moved}
use Rattle.rectclip.proofs.arena.Arena.move_to_edge.Goals as goal

pub returns : goal.returns
returns c =
    moved c.args.list.idx c.args.op c.args.list.within c.requires.0 c.uncouple_edge.ensures c.add_to_edge.ensures
