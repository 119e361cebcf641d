-- `count_result` meets its contract, one law for each way.
use mathlib.Core.Path.{refl}
use Rattle.plane.specs.Basics.{none}
use Rattle.rectclip.proofs.Changes.{node_some}
use Rattle.rectclip.proofs.Counting.{counts_none, counts_some}
use Rattle.rectclip.proofs.arena.Arena.count_result.Goals as goal

pub returns-in_default : goal.returns-in_default
returns-in_default c = counts_none c.args.i c.args.so_far c.requires.1 c.requires.2 none c.in_default.ensures.is refl

pub returns : goal.returns
returns c =
    counts_some c.args.i c.args.so_far c.requires.1 c.requires.2 c.in-Some.start c.in-Some.ensures.is (node_some c.args.self.now c.in-Some.start c.in-Some.ensures.within) c.count_nodes-count.result c.count_nodes-count.ensures
