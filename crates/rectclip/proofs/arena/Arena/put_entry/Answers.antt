-- `put_entry` meets its contract, one law for each way.
use Rattle.rectclip.specs.Arenas.{mark}
use Rattle.rectclip.proofs.Settling.{put_clockwise, put_other}
use Rattle.rectclip.proofs.arena.Arena.put_entry.Goals as goal

pub returns-then-clockwise : goal.returns-then-clockwise
returns-then-clockwise c =
    put_clockwise c.args.at.side.idx c.args.at.i c.args.at.j (mark c.args.v) c.args.clockwise c.if-clockwise.true (rw c.cw.ensures at c.set_entry.ensures)

pub returns : goal.returns
returns c =
    put_other c.args.at.side.idx c.args.at.i c.args.at.j (mark c.args.v) c.args.clockwise c.if-clockwise.false (rw c.ccw.ensures at c.set_entry-2.ensures)
