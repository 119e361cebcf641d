-- `assign_edges` meets its contract: the loop goes round as the definition does.
use native.Mathlib.Omega.{arith}
use Rattle.rectclip.proofs.EdgeLists.{assigned_may, assigned_again, assigned_stop, assigned_out}
use Rattle.rectclip.proofs.arena.Arena.assign_edges.Goals as goal

pub assign_node-requires : goal.assign_node-requires
assign_node-requires c = assigned_may c.loop-pass.invariant c.requires

pub returns-then-op2-op : goal.returns-then-op2-op
returns-then-op2-op c =
    assigned_stop c.loop-pass.invariant (omega arith) c.point_of.result c.point_of.ensures c.get_edges_for_pt-set2.result c.get_edges_for_pt-set2.ensures c.assign_node.ensures c.next_of-op2.result c.next_of-op2.ensures.is c.if-op2-op.true

pub loop-pass-preserved : goal.loop-pass-preserved
loop-pass-preserved c =
    assigned_again c.loop-pass.invariant (omega arith) c.point_of.result c.point_of.ensures c.get_edges_for_pt-set2.result c.get_edges_for_pt-set2.ensures c.assign_node.ensures c.next_of-op2.result c.next_of-op2.ensures.is c.next_of-op2.ensures.within c.if-op2-op.false (omega arith)

pub returns : goal.returns
returns c = assigned_out c.loop-pass.invariant (omega arith)
