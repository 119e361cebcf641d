-- `pass_out` meets its contract: a corner where the segment touches in one point, else the point. Assumes nothing.
use mathlib.Core.Path.{refl, ◌∙◌}
use Rattle.plane.proofs.Equality.{same_point_is}
use Rattle.rectclip.proofs.Steps.{ends_as, lost_as}
use Rattle.rectclip.proofs.ClosedPass.{out_turned, out_added}
use Rattle.rectclip.proofs.Walking.{thrown}
use Rattle.rectclip.proofs.walk.Walker.pass_out.Goals as goal

pub returns-in_err-add_corner_prev_curr : goal.returns-in_err-add_corner_prev_curr
returns-in_err-add_corner_prev_curr c =
    rw (thrown c.from_residual.result c.from_residual.ensures)
    (lost_as (out_turned c.args.self.now c.args.c c.args.crossing.point c.args.crossing.side c.args.second.point c.args.second.side (c.eq.ensures ∙ same_point_is c.args.crossing.point c.args.second.point) c.first_of-first_cross.ensures c.if-eq.true c.get_location-on.ensures c.add_corner_prev_curr.ensures) c.in_err-add_corner_prev_curr.was)

pub returns-then-eq : goal.returns-then-eq
returns-then-eq c =
    ends_as (out_turned c.args.self.now c.args.c c.args.crossing.point c.args.crossing.side c.args.second.point c.args.second.side (c.eq.ensures ∙ same_point_is c.args.crossing.point c.args.second.point) c.first_of-first_cross.ensures c.if-eq.true c.get_location-on.ensures c.add_corner_prev_curr.ensures) c.in_ok-add_corner_prev_curr.was refl

pub returns-in_err-add : goal.returns-in_err-add
returns-in_err-add c =
    rw (thrown c.from_residual-in_err-add.result c.from_residual-in_err-add.ensures)
    (lost_as (out_added c.args.self.now c.args.c c.args.crossing.point c.args.crossing.side c.args.second.point c.args.second.side (c.eq.ensures ∙ same_point_is c.args.crossing.point c.args.second.point) c.first_of-first_cross.ensures c.if-eq.false c.add.ensures) c.in_err-add.was)

pub returns : goal.returns
returns c = ends_as (out_added c.args.self.now c.args.c c.args.crossing.point c.args.crossing.side c.args.second.point c.args.second.side (c.eq.ensures ∙ same_point_is c.args.crossing.point c.args.second.point) c.first_of-first_cross.ensures c.if-eq.false c.add.ensures) c.in_ok-add.was refl
