-- `assign_side` meets its contract, one law for each way.
use Rattle.std.specs.Prelude.{if◌then◌else◌}
use native.Mathlib.Omega.{arith}
use mathlib.Core.Path.{◌≡◌, sym, ◌∙◌, ap}
use Prim.Native.Nat.{◌+◌, ◌*◌}
use Rattle.rectclip.specs.declared.side.EdgeList.{EdgeList}
use Rattle.rectclip.proofs.Changes.{enters_same, enters_renamed}
use Rattle.rectclip.proofs.EdgeLists.{may_enter, assign_none, assign_one, assign_both}
use Rattle.rectclip.proofs.arena.Arena.assign_side.Goals as goal
use Rattle.rectclip.proofs.arena.Arena.assign_side.Goals.{then-not-is_in-via-then-not-is_in, then-not-is_in-via-else-not-is_in+then-not-is_in-2, then-clockwise, else-clockwise}

pub returns-then-not-is_in : goal.returns-then-not-is_in
returns-then-not-is_in c =
    elim c.then-not-is_in.branch [
      | then-not-is_in-via-then-not-is_in w ↦ enters_renamed enters_same (assign_none _ _ c.args.op c.args.set1 c.args.set2 c.args.side.idx (sym c.is_in.ensures ∙ w.if-not-is_in.true))
      | then-not-is_in-via-else-not-is_in+then-not-is_in-2 w ↦
          enters_renamed enters_same
          (assign_one _ _ c.args.op c.args.set1 c.args.set2 c.args.side.idx (sym c.is_in.ensures ∙ w.if-not-is_in.false) (sym w.is_in-else-not-is_in.ensures ∙ w.if-not-is_in-2.true))
    ]

pub add_to_edge-requires : goal.add_to_edge-requires
add_to_edge-requires c = may_enter c.requires _

pub returns : goal.returns
returns c =
    let e : c.if-clockwise.list.idx ≡ (if c.is_heading_clockwise-clockwise.result then 2 * c.args.side.idx else 2 * c.args.side.idx + 1) =
    elim c.if-clockwise.branch [
      | then-clockwise w ↦ rw w.if-clockwise.true (ap (λ (l : EdgeList). l.idx) w.list-is ∙ omega (arith, w.cw-list.ensures))
      | else-clockwise w ↦ rw w.if-clockwise.false (ap (λ (l : EdgeList). l.idx) w.list-is ∙ omega (arith, w.ccw-list.ensures))
    ] in
    enters_renamed c.add_to_edge.ensures
    (assign_both _ _ _ c.args.set1 c.args.set2 c.args.side.idx (sym c.is_in.ensures ∙ c.if-not-is_in.false) (sym c.is_in-else-not-is_in.ensures ∙ c.if-not-is_in-2.false) c.prev_of-prev.result _ _ _ _ _
    c.prev_of-prev.ensures.is c.point_of.ensures c.point_of-2.ensures c.location.ensures c.is_heading_clockwise-clockwise.ensures e)
