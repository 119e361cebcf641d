-- `rectclip::ring::link_nodes` meets its contract: the nodes passed are linked, and the loop passes all.
use Rattle.rectclip.proofs.Building.{linking_again}
use Rattle.rectclip.proofs.ring.link_nodes.Goals as goal

pub loop-i-preserved : goal.loop-i-preserved
loop-i-preserved c =
    linking_again c.loop-i.invariant c.loop-i-test.true c.put_node.ensures
