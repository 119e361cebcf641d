-- `read_paths` meets its contract: the results in their order.
use Rattle.rectclip.proofs.WriteOut.{writing_none, writing_may, writing_again, writing_all}
use Rattle.rectclip.proofs.arena.Arena.read_paths.Goals as goal

pub loop-i-init : goal.loop-i-init
loop-i-init c = writing_none _ _

pub read_result-requires : goal.read_result-requires
read_result-requires c = (writing_may c.loop-i.invariant c.loop-i-test.true c.requires, c.loop-i-test.true)

pub loop-i-preserved : goal.loop-i-preserved
loop-i-preserved c = writing_again c.loop-i.invariant c.loop-i-test.true c.read_result.ensures

pub returns : goal.returns
returns c = writing_all c.loop-i.invariant c.loop-i-test.false
