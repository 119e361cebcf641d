-- `clip_arena` meets its contract: the definition's steps, in their order.
use Rattle.rectclip.proofs.Executing.{may_tidy, clipped_done}
use Rattle.rectclip.proofs.arena.Arena.clip_arena.Goals as goal

pub tidy_all-requires : goal.tidy_all-requires
tidy_all-requires c = may_tidy c.requires c.args.rect c.check_edges.ensures

pub returns : goal.returns
returns c =
    clipped_done c.requires c.args.rect c.check_edges.ensures c.in_ok-left.left c.in_ok-left.ensures c.straighten_results.ensures c.count_paths-counts.result c.count_paths-counts.ensures
