-- `keep_one` meets its contract, one law for each way.
use Rattle.rectclip.specs.Changes.{pts_of}
use Rattle.rectclip.proofs.Settling.{one_clockwise, one_other}
use Rattle.rectclip.proofs.arena.Arena.keep_one.Goals as goal

pub returns-then-clockwise : goal.returns-then-clockwise
returns-then-clockwise c =
    one_clockwise c.args.at (pts_of c.args.self.now) c.args.op c.is_clockwise-clockwise.result c.is_clockwise-clockwise.ensures c.put_entry.ensures c.put_entry-2.ensures c.if-clockwise.true

pub returns : goal.returns
returns c =
    one_other c.args.at (pts_of c.args.self.now) c.args.op c.is_clockwise-clockwise.result c.is_clockwise-clockwise.ensures c.put_entry.ensures c.put_entry-2.ensures c.if-clockwise.false
