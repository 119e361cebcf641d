-- `pass_from` meets its contract: past the last point, no crossing, or a crossing. Assumes nothing.
use mathlib.Core.Path.{ap, ◌∙◌}
use Rattle.std.specs.Option.{option_map}
use Rattle.rectclip.specs.Boundary.{side_point}
use Rattle.rectclip.proofs.Limits.{path_limited}
use Rattle.rectclip.proofs.Searches.{found_of}
use Rattle.rectclip.proofs.ClosedPasses.{from_ended, from_outside, from_crossed}
use Rattle.rectclip.proofs.walk.Walker.pass_from.Goals as goal

pub returns-then-self-at : goal.returns-then-self-at
returns-then-self-at c = from_ended c.args.self.now c.args.s c.args.at c.if-self-at.true

pub invariant_of-segment : goal.invariant_of-segment
invariant_of-segment c =
    let limited = path_limited c.args.self.now.path.now c.args.self.now.sheet.points in
    record { start = rw c.point_before.ensures (limited _); end = rw c.point_at.ensures (limited _) }

pub returns-in-None : goal.returns-in-None
returns-in-None c =
    from_outside c.args.self.now c.args.s c.args.at c.if-self-at.false c.point_at.ensures c.point_before.ensures (found_of c.search.ensures.frame (c.search.ensures.starts ∙ c.reversed.ensures.starts) (c.search.ensures.ends ∙ c.reversed.ensures.ends) _ c.get_intersection.ensures) (ap (option_map side_point) c.in-None.is) c.remain_outside.ensures

pub returns-in-Some : goal.returns-in-Some
returns-in-Some c =
    from_crossed c.args.self.now c.args.s c.args.at c.if-self-at.false c.point_at.ensures c.point_before.ensures (found_of c.search.ensures.frame (c.search.ensures.starts ∙ c.reversed.ensures.starts) (c.search.ensures.ends ∙ c.reversed.ensures.ends) _ c.get_intersection.ensures) (ap (option_map side_point) c.in-Some.is) c.cross_boundary.ensures
