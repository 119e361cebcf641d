-- `one_pass` meets its contract: `get_next_location`, and what follows it. Assumes nothing.
use Rattle.rectclip.proofs.ClosedPasses.{pass_went, pass_lost}
use Rattle.rectclip.proofs.Walking.{thrown}
use Rattle.rectclip.proofs.walk.Walker.one_pass.Goals as goal

pub returns : goal.returns
returns c = pass_went c.args.self.now c.args.s c.get_next_location.ensures c.in_ok-next.was c.pass_from.ensures

pub returns-in_err-next : goal.returns-in_err-next
returns-in_err-next c = rw (thrown c.from_residual.result c.from_residual.ensures) (pass_lost c.args.self.now c.args.s c.get_next_location.ensures c.in_err-next.was)
