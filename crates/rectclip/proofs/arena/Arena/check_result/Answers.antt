-- `check_result` meets its contract, one law for each way.
use Rattle.rectclip.proofs.Checking.{result_none, result_dropped, result_may, result_assigned}
use Rattle.rectclip.proofs.arena.Arena.check_result.Goals as goal

pub returns-in_default : goal.returns-in_default
returns-in_default c = result_none c.args.rect c.args.i c.in_default.ensures.is

pub returns-in_default-left : goal.returns-in_default-left
returns-in_default-left c =
    result_dropped c.args.rect c.args.i c.in-Some.start c.in-Some.ensures.is c.in-Some.ensures.within _ c.drop_collinear-left.ensures c.set_result.ensures c.in_default-left.is

pub assign_edges-requires : goal.assign_edges-requires
assign_edges-requires c =
    result_may c.args.rect c.args.i c.in-Some.start c.in-Some.ensures.is c.in-Some.ensures.within _ c.drop_collinear-left.ensures c.set_result.ensures _ c.in-Some-left.is c.requires.0

pub returns : goal.returns
returns c =
    result_assigned c.args.rect c.args.i c.in-Some.start c.in-Some.ensures.is c.in-Some.ensures.within _ c.drop_collinear-left.ensures c.set_result.ensures _ c.in-Some-left.is c.prev_of-prev.result c.prev_of-prev.ensures.is c.point_of.result c.point_of.ensures c.get_edges_for_pt-first.result c.get_edges_for_pt-first.ensures c.assign_edges.ensures
