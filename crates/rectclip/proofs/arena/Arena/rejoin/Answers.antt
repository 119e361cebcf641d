-- `rejoin` meets its contract: rings regrouped, results set, entries settled.
use mathlib.Core.Path.{◌≡◌, sym, ◌∙◌}
use native.Mathlib.Omega.{arith}
use Rattle.reference.specs.Tidy.{cw_is_toward_larger, first_op, second_op}
use Rattle.rectclip.specs.Turns.{four}
use Rattle.rectclip.proofs.Changes.{results_many}
use Rattle.rectclip.proofs.Turns.{may_settle, rejoined}
use Rattle.rectclip.proofs.arena.Arena.rejoin.Goals as goal
use Rattle.rectclip.proofs.arena.Arena.rejoin.Goals.{then-cw_is_toward_larger, else-cw_is_toward_larger}

pub regroup-requires : goal.regroup-requires
regroup-requires c = (c.requires.four_in, omega (arith, c.requires.spare.results, results_many c.args.self.now))

pub settle-requires : goal.settle-requires
settle-requires c =
    let w = rw c.requires.side at c.cw_is_toward_larger.ensures in
    let larger = cw_is_toward_larger c.args.at.side.idx in
    let ends : (c.if-cw_is_toward_larger.op.0 ≡ first_op larger (four c.args.f)) × (c.if-cw_is_toward_larger.op.1 ≡ second_op larger (four c.args.f)) =
    elim c.if-cw_is_toward_larger.branch [
      | then-cw_is_toward_larger v ↦ rw (sym w ∙ v.if-cw_is_toward_larger.true) (λ i. (v.op-is i).0, λ i. (v.op-is i).1)
      | else-cw_is_toward_larger v ↦ rw (sym w ∙ v.if-cw_is_toward_larger.false) (λ i. (v.op-is i).0, λ i. (v.op-is i).1)
    ] in
    may_settle c.requires c.owner_of-owner1.result c.owner_of-owner2.result c.owner_of-owner1.ensures.is c.owner_of-owner2.ensures.is (rw c.requires.side at c.regroup.ensures) _ _ ends.0 ends.1 c.set_roots.ensures

pub returns : goal.returns
returns c =
    let w = rw c.requires.side at c.cw_is_toward_larger.ensures in
    let larger = cw_is_toward_larger c.args.at.side.idx in
    let ends : (c.if-cw_is_toward_larger.op.0 ≡ first_op larger (four c.args.f)) × (c.if-cw_is_toward_larger.op.1 ≡ second_op larger (four c.args.f)) =
    elim c.if-cw_is_toward_larger.branch [
      | then-cw_is_toward_larger v ↦ rw (sym w ∙ v.if-cw_is_toward_larger.true) (λ i. (v.op-is i).0, λ i. (v.op-is i).1)
      | else-cw_is_toward_larger v ↦ rw (sym w ∙ v.if-cw_is_toward_larger.false) (λ i. (v.op-is i).0, λ i. (v.op-is i).1)
    ] in
    rejoined c.requires c.owner_of-owner1.result c.owner_of-owner2.result c.owner_of-owner1.ensures.is c.owner_of-owner2.ensures.is (rw c.requires.side at c.regroup.ensures) _ _ ends.0 ends.1 c.set_roots.ensures c.settle.result c.settle.ensures
