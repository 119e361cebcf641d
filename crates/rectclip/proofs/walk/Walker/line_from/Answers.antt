-- `line_from` meets its contract: past the last point, no crossing, or a crossing.
use mathlib.Core.Path.{ap, ◌∙◌}
use Rattle.std.specs.Option.{option_map}
use Rattle.plane.specs.Points.{pt_at}
use Rattle.rectclip.specs.Steps.{points}
use Rattle.rectclip.specs.Boundary.{side_point}
use Rattle.rectclip.proofs.Limits.{path_limited}
use Rattle.rectclip.proofs.Searches.{found_of}
use Rattle.rectclip.proofs.Crossing.{from_over, from_next, from_crossed, from_lost}
use Rattle.rectclip.proofs.Walking.{thrown}
use Rattle.rectclip.proofs.walk.Walker.line_from.Goals as goal

pub returns-then-self-at : goal.returns-then-self-at
returns-then-self-at c = from_over c.args.self.now c.args.prev c.args.at c.if-self-at.true

pub invariant_of-segment : goal.invariant_of-segment
invariant_of-segment c =
    let limited = path_limited c.args.self.now.path.now c.args.self.now.sheet.points in
    record { start = rw c.point_at.ensures (limited _); end = rw c.point_at-2.ensures (limited _) }

pub returns-in_default : goal.returns-in_default
returns-in_default c = from_next c.args.self.now c.args.prev c.args.at c.if-self-at.false c.point_at-2.ensures (c.point_at.ensures ∙ ap (pt_at (points c.args.self.now)) c.saturating_sub.ensures) (found_of c.search.ensures.frame (c.search.ensures.starts ∙ c.reversed.ensures.starts) (c.search.ensures.ends ∙ c.reversed.ensures.ends) _ c.get_intersection.ensures) (ap (option_map side_point) c.in_default.is)

pub returns-in_err-line_cross : goal.returns-in_err-line_cross
returns-in_err-line_cross c =
    rw (thrown c.from_residual.result c.from_residual.ensures)
    (from_lost c.args.self.now c.args.prev c.args.at c.if-self-at.false c.point_at-2.ensures (c.point_at.ensures ∙ ap (pt_at (points c.args.self.now)) c.saturating_sub.ensures) (found_of c.search.ensures.frame (c.search.ensures.starts ∙ c.reversed.ensures.starts) (c.search.ensures.ends ∙ c.reversed.ensures.ends) _ c.get_intersection.ensures) (ap (option_map side_point) c.in-Some.is) c.line_cross.ensures c.in_err-line_cross.was)

pub returns : goal.returns
returns c =
    from_crossed c.args.self.now c.args.prev c.args.at c.if-self-at.false c.point_at-2.ensures (c.point_at.ensures ∙ ap (pt_at (points c.args.self.now)) c.saturating_sub.ensures) (found_of c.search.ensures.frame (c.search.ensures.starts ∙ c.reversed.ensures.starts) (c.search.ensures.ends ∙ c.reversed.ensures.ends) _ c.get_intersection.ensures) (ap (option_map side_point) c.in-Some.is) c.line_cross.ensures c.in_ok-line_cross.was
