-- `tidy_all` meets its contract: the sides in their order.
use native.Mathlib.Omega.{arith}
use Rattle.rectclip.proofs.Walking.{thrown}
use Rattle.rectclip.proofs.Tidying.{sides_start, sides_on, sides_spent, sides_all}
use Rattle.rectclip.proofs.arena.Arena.tidy_all.Goals as goal

pub loop-idx-init : goal.loop-idx-init
loop-idx-init c = sides_start c.requires

pub returns-in_err-left : goal.returns-in_err-left
returns-in_err-left c =
    rw (thrown c.from_residual.result c.from_residual.ensures)
    (sides_spent c.loop-idx.idx c.loop-idx.invariant (omega arith) (c.in_err-left.ensures c.args.allowance c.loop-idx.invariant.fewer))

pub loop-idx-preserved : goal.loop-idx-preserved
loop-idx-preserved c = sides_on c.loop-idx.idx c.loop-idx.invariant (c.in_ok-left.ensures c.args.allowance c.loop-idx.invariant.fewer)

pub returns : goal.returns
returns c = sides_all c.loop-idx.idx c.loop-idx.invariant (omega arith)
