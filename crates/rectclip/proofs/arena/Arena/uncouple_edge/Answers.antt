-- `uncouple_edge` meets its contract, one law for each way.
use Rattle.rectclip.proofs.Striking.{uncoupled_before, uncoupled}
use Rattle.rectclip.proofs.arena.Arena.uncouple_edge.Goals as goal

pub returns-in_default : goal.returns-in_default
returns-in_default c = uncoupled_before c.args.op c.in_default.ensures

pub returns : goal.returns
returns c = uncoupled c.args.op c.in-Some.list.idx c.in-Some.ensures c.in-Some.list.within c.strike.ensures c.set_edge.ensures
