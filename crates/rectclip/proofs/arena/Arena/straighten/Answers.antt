-- `straighten` meets its contract: the loop passes as often as the definition's, and leaves where it does.
use native.Mathlib.Omega.{arith}
use Rattle.rectclip.proofs.Straightening.{straightening_again, straightening_gone, straightening_stop, straightening_out}
use Rattle.rectclip.proofs.arena.Arena.straighten.Goals as goal

pub returns-then-op2-op : goal.returns-then-op2-op
returns-then-op2-op c = rw c.next_of-op2.ensures.is at (straightening_stop c.loop-pass.invariant c.if-op2-op.true)

pub returns-in_err-op2 : goal.returns-in_err-op2
returns-in_err-op2 c =
    rw c.from_residual.ensures
    (rw c.next_of-op2.ensures.is at (straightening_gone c.loop-pass.invariant (omega arith) c.if-op2-op.false c.straighten_pass-at.result c.straighten_pass-at.ensures c.in_err-op2.was))

pub loop-pass-preserved : goal.loop-pass-preserved
loop-pass-preserved c =
    straightening_again c.loop-pass.invariant (omega arith) c.if-op2-op.false c.straighten_pass-at.result c.straighten_pass-at.ensures _ c.in_ok-op2.was

pub returns : goal.returns
returns c = rw c.next_of-op2.ensures.is at (straightening_out c.loop-pass.invariant (omega arith))
