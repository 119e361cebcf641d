-- `seek` meets its contract: the entries in their order.
use Rattle.rectclip.proofs.Seeking.{seeking_again, seeking_found, seeking_out}
use Rattle.rectclip.proofs.arena.Arena.seek.Goals as goal

pub returns-then-is_live : goal.returns-then-is_live
returns-then-is_live c =
    seeking_found c.loop-j.invariant c.args.list.within c.loop-j-test.true _ c.entry_of.ensures.is c.is_live.result c.is_live.ensures c.if-is_live.true

pub loop-j-preserved : goal.loop-j-preserved
loop-j-preserved c =
    seeking_again c.loop-j.invariant c.args.list.within c.loop-j-test.true _ c.entry_of.ensures.is c.is_live.result c.is_live.ensures c.if-is_live.false

pub returns : goal.returns
returns c = seeking_out c.loop-j.invariant c.args.list.within c.loop-j.auto.j c.loop-j-test.false _ c.max.ensures
