-- `remain_outside` meets its contract: start sides, corners or neither. Assumes nothing.
use mathlib.Core.Path.{refl}
use Rattle.rectclip.proofs.Steps.{ends_as, lost_as}
use Rattle.rectclip.proofs.ClosedPass.{remain_starts, remain_corners, remain_stays}
use Rattle.rectclip.proofs.Walking.{thrown}
use Rattle.rectclip.proofs.walk.Walker.remain_outside.Goals as goal

pub returns-in_err-push_start_locs : goal.returns-in_err-push_start_locs
returns-in_err-push_start_locs c =
    rw (thrown c.from_residual.result c.from_residual.ensures)
    (lost_as (remain_starts c.args.self.now c.args.c c.is_inside.ensures c.way_to.ensures c.if-is_inside.true c.push_start_locs.ensures) c.in_err-push_start_locs.was)

pub returns-then-is_inside : goal.returns-then-is_inside
returns-then-is_inside c =
    ends_as (remain_starts c.args.self.now c.args.c c.is_inside.ensures c.way_to.ensures c.if-is_inside.true c.push_start_locs.ensures) c.in_ok-push_start_locs.was refl

pub returns-in_err-add_corners : goal.returns-in_err-add_corners
returns-in_err-add_corners c =
    rw (thrown c.from_residual-in_err-add_corners.result c.from_residual-in_err-add_corners.ensures)
    (lost_as (remain_corners c.args.self.now c.args.c c.is_inside.ensures c.way_to-then-moves_on.ensures c.if-is_inside.false c.moves_on.ensures c.if-moves_on.true c.add_corners.ensures) c.in_err-add_corners.was)

pub returns-then-moves_on : goal.returns-then-moves_on
returns-then-moves_on c =
    ends_as (remain_corners c.args.self.now c.args.c c.is_inside.ensures c.way_to-then-moves_on.ensures c.if-is_inside.false c.moves_on.ensures c.if-moves_on.true c.add_corners.ensures) c.in_ok-add_corners.was refl

pub returns : goal.returns
returns c = remain_stays c.args.self.now c.args.c c.is_inside.ensures c.if-is_inside.false c.moves_on.ensures c.if-moves_on.false
