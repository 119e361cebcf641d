-- `drop_collinear` meets its contract: the loop passes as often as the definition's, and leaves where it does.
use native.Mathlib.Omega.{arith}
use Rattle.rectclip.proofs.Dropping.{dropping_again, dropping_gone, dropping_stop, dropping_out}
use Rattle.rectclip.proofs.arena.Arena.drop_collinear.Goals as goal

pub returns-in_err-op2 : goal.returns-in_err-op2
returns-in_err-op2 c =
    rw c.from_residual.ensures (dropping_gone c.loop-pass.invariant (omega arith) c.drop_collinear_pass-at.result c.drop_collinear_pass-at.ensures c.in_err-op2.was)

pub returns-then-op2-op : goal.returns-then-op2-op
returns-then-op2-op c =
    dropping_stop c.loop-pass.invariant (omega arith) c.drop_collinear_pass-at.result c.drop_collinear_pass-at.ensures _ c.in_ok-op2.was c.if-op2-op.true

pub loop-pass-preserved : goal.loop-pass-preserved
loop-pass-preserved c =
    dropping_again c.loop-pass.invariant (omega arith) c.drop_collinear_pass-at.result c.drop_collinear_pass-at.ensures _ c.in_ok-op2.was c.if-op2-op.false

pub returns : goal.returns
returns c = dropping_out c.loop-pass.invariant (omega arith)
