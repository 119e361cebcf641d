-- `assign_node` meets its contract: the four sides in their order.
use native.Mathlib.Omega.{arith}
use mathlib.Core.Path.{refl, sym, ◌∙◌}
use Rattle.rectclip.proofs.Changes.{enters_same}
use Rattle.rectclip.proofs.EdgeLists.{node_off, node_before, node_on, assigning_on, assigned_on, assigned_all}
use Rattle.rectclip.proofs.arena.Arena.assign_node.Goals as goal

pub returns-then-set2-eq0 : goal.returns-then-set2-eq0
returns-then-set2-eq0 c = node_off c.requires c.args.set1 c.args.set2 c.if-set2-eq0.true

pub returns-then-is_some : goal.returns-then-is_some
returns-then-is_some c = node_before c.requires c.args.set1 c.args.set2 c.if-set2-eq0.false _ c.edge_of.ensures (sym c.is_some.ensures ∙ c.if-is_some.true)

pub loop-idx-init : goal.loop-idx-init
loop-idx-init c = record { goal = refl; so_far = enters_same }

pub assign_side-requires : goal.assign_side-requires
assign_side-requires c = assigning_on c.requires c.loop-idx.invariant.so_far

pub loop-idx-preserved : goal.loop-idx-preserved
loop-idx-preserved c = assigned_on c.loop-idx.invariant (omega arith) c.assign_side.ensures

pub returns : goal.returns
returns c = node_on c.requires c.args.set1 c.args.set2 c.if-set2-eq0.false _ c.edge_of.ensures (sym c.is_some.ensures ∙ c.if-is_some.false) (assigned_all c.loop-idx.invariant (omega arith))
