-- `check_edges` meets its contract: the results in their order.
use native.Mathlib.Omega.{arith}
use Rattle.rectclip.proofs.Checking.{checked_may, checked_again, checked_all}
use Rattle.rectclip.proofs.arena.Arena.check_edges.Goals as goal

pub check_result-requires : goal.check_result-requires
check_result-requires c = (checked_may c.loop-i.invariant c.requires, omega (arith, c.loop-i.invariant.so_far.becomes.results))

pub loop-i-preserved : goal.loop-i-preserved
loop-i-preserved c = checked_again c.loop-i.invariant (omega arith) c.check_result.ensures

pub returns : goal.returns
returns c = checked_all c.loop-i.invariant (omega arith)
