-- `settle` meets its contract, one law for each way.
use Rattle.rectclip.specs.Changes.{pts_of}
use Rattle.rectclip.proofs.Settling.{settled_first, settled_second, settled_both, settled_each}
use Rattle.rectclip.proofs.arena.Arena.settle.Goals as goal

pub returns-then-is_spent : goal.returns-then-is_spent
returns-then-is_spent c =
    settled_first (pts_of c.args.self.now) c.args.at c.args.op c.args.op2 c.keep_one.result c.is_spent.ensures c.if-is_spent.true c.keep_one.ensures

pub returns-then-is_spent-2 : goal.returns-then-is_spent-2
returns-then-is_spent-2 c =
    settled_second (pts_of c.args.self.now) c.args.at c.args.op c.args.op2 c.keep_one-then-is_spent-2.result c.is_spent.ensures c.if-is_spent.false c.is_spent-2.ensures c.if-is_spent-2.true c.keep_one-then-is_spent-2.ensures

pub returns-then-larger-larger2 : goal.returns-then-larger-larger2
returns-then-larger-larger2 c =
    settled_both (pts_of c.args.self.now) c.args.at c.args.op c.args.op2 c.keep_both.result c.is_spent.ensures c.if-is_spent.false c.is_spent-2.ensures c.if-is_spent-2.false c.is_larger-larger.result c.is_larger-larger2.result c.is_larger-larger.ensures c.is_larger-larger2.ensures c.if-larger-larger2.true c.keep_both.ensures

pub returns : goal.returns
returns c =
    settled_each (pts_of c.args.self.now) c.args.at c.args.op c.args.op2 c.keep_each.result c.is_spent.ensures c.if-is_spent.false c.is_spent-2.ensures c.if-is_spent-2.false c.is_larger-larger.result c.is_larger-larger2.result c.is_larger-larger.ensures c.is_larger-larger2.ensures c.if-larger-larger2.false c.keep_each.ensures
