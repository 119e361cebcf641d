-- `count_nodes` meets its contract: the points behind the first one are counted.
use Rattle.std.proofs.Common.{arith, refl, inl}
use Rattle.std.proofs.lemmas.Iterator.Consumers.{count_from_yields_List, YieldsList-from_first}
use Rattle.rectclip.specs.Paths.{points_left}
use Rattle.rectclip.proofs.Counting.{behind_most, counted}
use Rattle.rectclip.proofs.arena.Arena.count_nodes.Goals as goal

pub count-requires-clause-fits : goal.count-requires-clause-fits
count-requires-clause-fits c = inl (omega (arith, behind_most c.args.self.now c.args.start c.points_behind.result c.points_behind.ensures, c.args.self.now.holds.nodes, c.args.self.now.holds.room.small))

pub overflow_add-result : goal.overflow_add-result
overflow_add-result c =
    let n = count_from_yields_List c.points_behind.result _ c.count.ensures.ran (YieldsList-from_first (λ x. x) points_left _ refl) in
    omega (arith, n, behind_most c.args.self.now c.args.start c.points_behind.result c.points_behind.ensures, c.args.self.now.holds.nodes, c.args.self.now.holds.room.small)

pub returns : goal.returns
returns c =
    counted c.args.self.now c.args.start c.points_behind.result c.points_behind.ensures _ (count_from_yields_List c.points_behind.result _ c.count.ensures.ran (YieldsList-from_first (λ x. x) points_left _ refl))
