-- `rectclip::ring::put_node` meets its contract: the four cells stored are the node's.
use Rattle.rectclip.proofs.Building.{placed_node}
use Rattle.rectclip.proofs.ring.put_node.Goals as goal

pub returns : goal.returns
returns c =
    rw (c.put-4.ensures, c.put-3.ensures, c.put-2.ensures, c.put.ensures) (placed_node c.args.work.now c.args.i c.args.next c.args.prev c.requires.0)
