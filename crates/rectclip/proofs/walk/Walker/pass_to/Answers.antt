-- `pass_to` meets its contract: in and out. Assumes nothing.
use Rattle.rectclip.proofs.ClosedPass.{to_lost, to_out}
use Rattle.rectclip.proofs.Walking.{thrown}
use Rattle.rectclip.proofs.walk.Walker.pass_to.Goals as goal

pub returns-in_err-pass_in : goal.returns-in_err-pass_in
returns-in_err-pass_in c =
    rw (thrown c.from_residual.result c.from_residual.ensures)
    (to_lost c.args.self.now c.args.c c.args.crossing.point c.args.crossing.side c.args.second.point c.args.second.side c.pass_in.ensures c.in_err-pass_in.was)

pub returns : goal.returns
returns c =
    to_out c.args.self.now c.args.c c.args.crossing.point c.args.crossing.side c.args.second.point c.args.second.side c.pass_in.ensures c.in_ok-pass_in.was c.pass_out.ensures
