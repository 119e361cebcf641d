-- `keep_both` meets its contract, one law for each way.
use Rattle.rectclip.specs.Changes.{pts_of}
use Rattle.rectclip.proofs.Settling.{both_clockwise, both_other}
use Rattle.rectclip.proofs.arena.Arena.keep_both.Goals as goal

pub returns-then-is_clockwise : goal.returns-then-is_clockwise
returns-then-is_clockwise c =
    both_clockwise c.args.at (pts_of c.args.self.now) c.args.op c.is_clockwise.result c.is_clockwise.ensures c.if-is_clockwise.true c.args.op2 (rw c.cw-cw.ensures at c.set_entry.ensures) (rw c.cw-cw.ensures at c.move_to_edge.ensures) (rw c.ccw-ccw.ensures at c.set_entry-then-is_clockwise.ensures)

pub returns : goal.returns
returns c =
    both_other c.args.at (pts_of c.args.self.now) c.args.op c.is_clockwise.result c.is_clockwise.ensures c.if-is_clockwise.false c.args.op2 (rw c.cw-cw.ensures at c.set_entry-2.ensures) (rw c.ccw-ccw.ensures at c.set_entry-3.ensures) (rw c.ccw-ccw.ensures at c.move_to_edge-2.ensures)
