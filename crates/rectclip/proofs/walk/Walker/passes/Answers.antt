-- `passes` meets its contract: what is left to do after each pass comes to what there was to do at first. Assumes nothing.
use Rattle.rectclip.proofs.ClosedPasses.{around_start, around_past, around_lost, around_again, around_done}
use Rattle.rectclip.proofs.Walking.{thrown}
use Rattle.rectclip.proofs.walk.Walker.passes.Goals as goal

pub loop-init : goal.loop-init
loop-init c = around_start c.args.self.now c.args.start

pub returns-then-n-s : goal.returns-then-n-s
returns-then-n-s c = around_past c.loop.invariant c.loop-test.true c.if-n-s.true

pub returns-in_err-s : goal.returns-in_err-s
returns-in_err-s c = rw (thrown c.from_residual.result c.from_residual.ensures) (around_lost c.loop.invariant c.loop-test.true c.if-n-s.false c.one_pass.ensures c.in_err-s.was)

pub loop-preserved : goal.loop-preserved
loop-preserved c = around_again c.loop.invariant c.loop-test.true c.if-n-s.false c.one_pass.ensures c.in_ok-s.was

pub returns : goal.returns
returns c = around_done c.loop.invariant c.loop-test.false
