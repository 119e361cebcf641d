-- `edge_ends` meets its contract. Assumes nothing.
use Rattle.std.proofs.Common.{arith, ◌∙◌}
use Rattle.std.proofs.lemmas.Grind.{common_steps}
use Rattle.rectclip.specs.Parted.{edge_ends}
use Rattle.rectclip.proofs.segment.Segment.edge_ends.Goals as goal

pub returns : goal.returns
unfolding edge_ends
returns c = c.get_segment_intersect_pt.ensures.is ∙ grind (arith, common_steps)
