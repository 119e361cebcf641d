-- `keep_each` meets its contract: the definition's two entries.
use Rattle.rectclip.specs.Changes.{pts_of}
use Rattle.rectclip.proofs.Settling.{each_way}
use Rattle.rectclip.proofs.arena.Arena.keep_each.Goals as goal

pub returns : goal.returns
returns c =
    each_way c.args.at (pts_of c.args.self.now) c.args.op c.is_clockwise-clockwise.result c.is_clockwise-clockwise.ensures c.args.op2 c.is_clockwise-clockwise2.result c.is_clockwise-clockwise2.ensures c.put_entry.ensures c.put_entry-2.ensures
