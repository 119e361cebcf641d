-- `relink` meets its contract: the definition's four stores, in their order.
use Rattle.rectclip.proofs.Regrouping.{relinked_larger, relinked_smaller}
use Rattle.rectclip.proofs.arena.Arena.relink.Goals as goal

pub returns-then-cw_is_toward_larger : goal.returns-then-cw_is_toward_larger
returns-then-cw_is_toward_larger c =
    relinked_larger c.args.f.side.idx c.args.f c.cw_is_toward_larger.result c.cw_is_toward_larger.ensures c.if-cw_is_toward_larger.true c.set_next.ensures c.set_prev.ensures c.set_prev-then-cw_is_toward_larger.ensures c.set_next-then-cw_is_toward_larger.ensures

pub returns : goal.returns
returns c =
    relinked_smaller c.args.f.side.idx c.args.f c.cw_is_toward_larger.result c.cw_is_toward_larger.ensures c.if-cw_is_toward_larger.false c.set_prev-2.ensures c.set_next-2.ensures c.set_next-3.ensures c.set_prev-3.ensures
