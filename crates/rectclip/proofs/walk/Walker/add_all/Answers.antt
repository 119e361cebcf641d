-- `add_all` meets its contract: what is left to add from point `i` on is what there was to add.
use Rattle.rectclip.proofs.Limits.{path_limited}
use Rattle.rectclip.proofs.Reach.{reached}
use Rattle.rectclip.proofs.Turning.{adding_on, adding_lost, adding_ends}
use Rattle.rectclip.proofs.Walking.{thrown}
use Rattle.rectclip.proofs.walk.Walker.add_all.Goals as goal

pub add-requires : goal.add-requires
add-requires c = rw c.point_at.ensures (reached (path_limited c.loop-i.self.path.now c.loop-i.self.sheet.points c.loop-i.i))

pub returns-in_err-add : goal.returns-in_err-add
returns-in_err-add c = rw (thrown c.from_residual.result c.from_residual.ensures) (adding_lost c.loop-i.invariant c.loop-i-test.true c.point_at.ensures c.add.ensures c.in_err-add.was)

pub loop-i-preserved : goal.loop-i-preserved
loop-i-preserved c = adding_on c.loop-i.invariant c.loop-i-test.true c.point_at.ensures c.add.ensures c.in_ok-add.was

pub returns : goal.returns
returns c = adding_ends c.loop-i.invariant c.loop-i-test.false
