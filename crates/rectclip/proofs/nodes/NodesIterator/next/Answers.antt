-- `next` meets its contract: the point of the next node, if that is not the start.
use Rattle.std.proofs.Common.{ap, length, rules}
use Rattle.rectclip.specs.Paths.{points_left}
use Rattle.rectclip.proofs.Counting.{left_stop, left_out, left_step}
use Rattle.rectclip.proofs.nodes.NodesIterator.next.Goals as goal

pub returns-then-self-eq0-clause-steps : goal.returns-then-self-eq0-clause-steps
returns-then-self-eq0-clause-steps c = let e = left_out c.args.self.now c.if-self-eq0.true in (e, e)

pub returns-then-node-self-clause-steps : goal.returns-then-node-self-clause-steps
returns-then-node-self-clause-steps c = let e = left_stop c.args.self.now c.next_of-node.ensures.is c.if-node-self.true in (e, e)

pub returns-clause-steps : goal.returns-clause-steps
unfolding points_left
returns-clause-steps c = left_step c.args.self.now c.next_of-node.ensures.is c.if-node-self.false c.if-self-eq0.false _ c.point_of.ensures

pub returns-clause-goes : goal.returns-clause-goes
unfolding points_left
returns-clause-goes c =
    let shorter = ap length (left_step c.args.self.now c.next_of-node.ensures.is c.if-node-self.false c.if-self-eq0.false _ c.point_of.ensures) in
    search rules
