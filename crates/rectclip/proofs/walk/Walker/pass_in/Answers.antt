-- `pass_in` meets its contract: the corner, the start side, and the point, each where the one before was not refused. Assumes nothing.
use Rattle.rectclip.proofs.ClosedPass.{in_lost, in_stopped, in_added}
use Rattle.rectclip.proofs.Walking.{thrown}
use Rattle.rectclip.proofs.walk.Walker.pass_in.Goals as goal

pub returns-in_err-pass_corner : goal.returns-in_err-pass_corner
returns-in_err-pass_corner c =
    rw (thrown c.from_residual.result c.from_residual.ensures) (in_lost c.args.self.now c.args.c c.args.second.point c.args.second.side c.pass_corner.ensures c.in_err-pass_corner.was)

pub returns-in_err-pass_start : goal.returns-in_err-pass_start
returns-in_err-pass_start c =
    rw (thrown c.from_residual-in_err-pass_start.result c.from_residual-in_err-pass_start.ensures)
    (in_stopped c.args.self.now c.args.c c.args.second.point c.args.second.side c.pass_corner.ensures c.in_ok-pass_corner.was c.pass_start.ensures c.in_err-pass_start.was)

pub returns : goal.returns
returns c = in_added c.args.self.now c.args.c c.args.second.point c.args.second.side c.pass_corner.ensures c.in_ok-pass_corner.was c.pass_start.ensures c.in_ok-pass_start.was c.add.ensures
