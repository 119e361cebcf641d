-- `leave` meets its contract, by `add`. Assumes nothing.
use mathlib.Core.Path.{refl}
use Rattle.rectclip.proofs.Steps.{ends_as, lost_as}
use Rattle.rectclip.proofs.ClosedPass.{leave_added}
use Rattle.rectclip.proofs.Walking.{thrown}
use Rattle.rectclip.proofs.walk.Walker.leave.Goals as goal

pub returns-in_err-add : goal.returns-in_err-add
returns-in_err-add c =
    rw (thrown c.from_residual.result c.from_residual.ensures) (lost_as (leave_added c.args.self.now c.args.c c.args.crossing.side c.args.crossing.point c.add.ensures) c.in_err-add.was)

pub returns : goal.returns
returns c = rw c.first_of.ensures (ends_as (leave_added c.args.self.now c.args.c c.args.crossing.side c.args.crossing.point c.add.ensures) c.in_ok-add.was refl)
