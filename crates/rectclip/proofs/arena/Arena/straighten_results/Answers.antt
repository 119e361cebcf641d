-- `straighten_results` meets its contract: the results in their order.
use Rattle.rectclip.proofs.Starts.{straightened_again, straightened_all}
use Rattle.rectclip.proofs.arena.Arena.straighten_results.Goals as goal

pub loop-i-preserved : goal.loop-i-preserved
loop-i-preserved c =
    straightened_again c.loop-i.invariant c.loop-i-test.true _ c.get_start-start.result c.result_of-op.ensures.is c.get_start-start.ensures c.set_result.ensures

pub returns : goal.returns
returns c = straightened_all c.loop-i.invariant c.loop-i-test.false
