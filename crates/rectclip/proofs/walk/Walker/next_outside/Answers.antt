-- `next_outside` meets its contract, by the scan and the test of the point where it ends.
use Rattle.rectclip.proofs.Scanning.{outside_past, outside_met}
use Rattle.rectclip.proofs.walk.Walker.next_outside.Goals as goal

pub returns-then-self-i : goal.returns-then-self-i
returns-then-self-i c = outside_past c.line_of.ensures c.args.self.now.path.now c.args.from c.scan-i.ensures c.if-self-i.true _

pub returns : goal.returns
returns c =
    outside_met c.line_of.ensures c.args.self.now.path.now c.args.from c.scan-i.ensures c.if-self-i.false c.point_at.ensures c.next_side-side.ensures _
