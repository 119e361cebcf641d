-- `enter` meets its contract: what comes before the point of entry, then the point. Assumes nothing.
use mathlib.Core.Path.{refl}
use Rattle.rectclip.proofs.Steps.{ends_as, lost_as}
use Rattle.rectclip.proofs.ClosedPass.{enter_lost, enter_on}
use Rattle.rectclip.proofs.Walking.{thrown}
use Rattle.rectclip.proofs.walk.Walker.enter.Goals as goal

pub returns-in_err-enter_corners : goal.returns-in_err-enter_corners
returns-in_err-enter_corners c =
    rw (thrown c.from_residual.result c.from_residual.ensures) (enter_lost c.args.self.now c.args.c c.args.crossing.side c.args.crossing.point c.enter_corners.ensures c.in_err-enter_corners.was)

pub returns-in_err-add : goal.returns-in_err-add
returns-in_err-add c =
    rw (thrown c.from_residual-in_err-add.result c.from_residual-in_err-add.ensures)
    (lost_as (enter_on c.args.self.now c.args.c c.args.crossing.side c.args.crossing.point c.enter_corners.ensures c.in_ok-enter_corners.was c.add.ensures) c.in_err-add.was)

pub returns : goal.returns
returns c =
    rw c.first_of.ensures (ends_as (enter_on c.args.self.now c.args.c c.args.crossing.side c.args.crossing.point c.enter_corners.ensures c.in_ok-enter_corners.was c.add.ensures) c.in_ok-add.was refl)
