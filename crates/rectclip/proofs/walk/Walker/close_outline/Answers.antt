-- `close_outline` meets its contract: each turn goes one start side back. Assumes nothing.
use Rattle.rectclip.proofs.Retracing.{close_parts, retrace_again, retrace_lost, retrace_done}
use Rattle.rectclip.proofs.Steps.{named}
use Rattle.rectclip.proofs.Walking.{thrown}
use Rattle.rectclip.proofs.walk.Walker.close_outline.Goals as goal

pub returns-in_err-corner_toward : goal.returns-in_err-corner_toward
returns-in_err-corner_toward c =
    rw (thrown c.from_residual.result c.from_residual.ensures)
    (named (retrace_lost c.loop-i.invariant c.loop-i-test.true c.start_loc-loc2.ensures c.corner_toward.ensures c.in_err-corner_toward.was) (close_parts _ c.args.self.now.rect _))

pub loop-i-preserved : goal.loop-i-preserved
loop-i-preserved c = retrace_again c.loop-i.invariant c.loop-i-test.true c.start_loc-loc2.ensures c.corner_toward.ensures c.in_ok-corner_toward.was

pub returns : goal.returns
returns c = named (retrace_done c.loop-i.invariant c.loop-i-test.false c.corner_toward-2.ensures) (close_parts _ c.args.self.now.rect _)
