-- `drop_collinear_pass` meets its contract, one law for each way.
use Rattle.rectclip.proofs.Dropping.{drop_kept, drop_moved, drop_last, drop_other}
use Rattle.rectclip.proofs.arena.Arena.drop_collinear_pass.Goals as goal

pub returns-then-not-is_flat : goal.returns-then-not-is_flat
returns-then-not-is_flat c =
    drop_kept _ c.args.op c.args.op2 c.is_flat.ensures c.if-not-is_flat.true c.requires.0 c.next_of-next.result c.next_of-next.ensures.is c.next_of-next.ensures.within

pub returns-in_default : goal.returns-in_default
returns-in_default c =
    drop_last _ c.args.op c.args.op2 c.is_flat.ensures c.if-not-is_flat.false c.requires.0 c.in_default.ensures

pub returns-then-op2-op : goal.returns-then-op2-op
returns-then-op2-op c =
    drop_moved _ c.args.op c.args.op2 c.is_flat.ensures c.if-not-is_flat.false c.requires.0 c.in-Some.sides c.in-Some.ensures c.if-op2-op.true c.prev_of-before.result c.prev_of-before.ensures.is c.prev_of-before.ensures.within

pub returns : goal.returns
returns c =
    drop_other _ c.args.op c.args.op2 c.is_flat.ensures c.if-not-is_flat.false c.requires.0 c.in-Some.sides c.in-Some.ensures c.if-op2-op.false
