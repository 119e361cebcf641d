-- `next_side` meets its contract: the three tests, in order.
use Rattle.rectclip.proofs.Scanning.{side_across, side_lower, side_upper, side_inside}
use Rattle.rectclip.proofs.next.next_side.Goals as goal

pub returns-then-beyond_or_on : goal.returns-then-beyond_or_on
returns-then-beyond_or_on c = side_across c.args.rect c.args.s c.args.p c.opposite-across.ensures c.beyond_or_on.ensures c.if-beyond_or_on.true

pub returns-then-beyond_or_on-2 : goal.returns-then-beyond_or_on-2
returns-then-beyond_or_on-2 c =
    side_lower c.args.rect c.args.s c.args.p c.opposite-across.ensures c.beyond_or_on.ensures c.if-beyond_or_on.false c.lower-lower.ensures c.beyond_or_on-2.ensures c.if-beyond_or_on-2.true

pub returns-then-beyond_or_on-3 : goal.returns-then-beyond_or_on-3
returns-then-beyond_or_on-3 c =
    side_upper c.args.rect c.args.s c.args.p c.opposite-across.ensures c.beyond_or_on.ensures c.if-beyond_or_on.false c.lower-lower.ensures c.beyond_or_on-2.ensures c.if-beyond_or_on-2.false c.upper-upper.ensures c.beyond_or_on-3.ensures c.if-beyond_or_on-3.true

pub returns : goal.returns
returns c =
    side_inside c.args.rect c.args.s c.args.p c.opposite-across.ensures c.beyond_or_on.ensures c.if-beyond_or_on.false c.lower-lower.ensures c.beyond_or_on-2.ensures c.if-beyond_or_on-2.false c.upper-upper.ensures c.beyond_or_on-3.ensures c.if-beyond_or_on-3.false
