-- `count_paths` meets its contract: the results in their order.
use Rattle.rectclip.proofs.Counting.{all_again, all_counted}
use Rattle.rectclip.proofs.arena.Arena.count_paths.Goals as goal

pub loop-i-preserved : goal.loop-i-preserved
loop-i-preserved c = all_again c.loop-i.invariant c.loop-i-test.true c.count_result-so_far.result c.count_result-so_far.ensures

pub returns : goal.returns
returns c = all_counted c.loop-i.invariant c.loop-i-test.false
