-- `next_inside` meets its contract: what is left to do from point `i` on is what there was to do.
use Rattle.rectclip.proofs.Limits.{path_limited}
use Rattle.rectclip.proofs.Reach.{reached}
use Rattle.rectclip.proofs.Walking.{thrown}
use Rattle.rectclip.proofs.Moving.{inward_exits, inward_on, inward_lost, inward_ends}
use Rattle.rectclip.proofs.walk.Walker.next_inside.Goals as goal

pub add-requires : goal.add-requires
add-requires c = rw c.point_at-p.ensures (reached (path_limited c.args.self.now.path.now c.args.self.now.sheet.points c.loop-i.i))

pub returns-then-not-is_inside : goal.returns-then-not-is_inside
returns-then-not-is_inside c = inward_exits c.loop-i.invariant c.loop-i-test.true c.point_at-p.ensures c.exit_side-loc.ensures c.is_inside.ensures c.if-not-is_inside.true

pub returns-in_err-add : goal.returns-in_err-add
returns-in_err-add c =
    rw (thrown c.from_residual.result c.from_residual.ensures) (inward_lost c.loop-i.invariant c.loop-i-test.true c.point_at-p.ensures c.exit_side-loc.ensures c.is_inside.ensures c.if-not-is_inside.false c.add.ensures c.in_err-add.was)

pub loop-i-preserved : goal.loop-i-preserved
loop-i-preserved c = inward_on c.loop-i.invariant c.loop-i-test.true c.point_at-p.ensures c.exit_side-loc.ensures c.is_inside.ensures c.if-not-is_inside.false c.add.ensures c.in_ok-add.was

pub returns : goal.returns
returns c = inward_ends c.loop-i.invariant c.loop-i-test.false c.max.ensures
