-- `line_passes` meets its contract: the passes that are left now are those that there were.
use Rattle.rectclip.proofs.Passing.{passes_start, passes_past, passes_lost, passes_again, passes_done}
use Rattle.rectclip.proofs.Walking.{thrown}
use Rattle.rectclip.proofs.walk.Walker.line_passes.Goals as goal

pub loop-init : goal.loop-init
loop-init c = passes_start c.args.self.now c.args.start

pub returns-then-n-at : goal.returns-then-n-at
returns-then-n-at c = passes_past c.loop.invariant c.loop-test.true c.if-n-at.true

pub returns-in_err-at : goal.returns-in_err-at
returns-in_err-at c = rw (thrown c.from_residual.result c.from_residual.ensures) (passes_lost c.loop.invariant c.loop-test.true c.if-n-at.false c.line_pass.ensures c.in_err-at.was)

pub loop-preserved : goal.loop-preserved
loop-preserved c = passes_again c.loop.invariant c.loop-test.true c.if-n-at.false c.line_pass.ensures c.in_ok-at.was

pub returns : goal.returns
returns c = passes_done c.loop.invariant c.loop-test.false
