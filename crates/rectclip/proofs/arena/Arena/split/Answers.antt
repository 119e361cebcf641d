-- `split` meets its contract: the definition's steps, in their order.
use native.Mathlib.Omega.{arith}
use Rattle.rectclip.proofs.Changes.{becomes_left}
use Rattle.rectclip.proofs.Regrouping.{ring_split, grown_results}
use Rattle.rectclip.proofs.arena.Arena.split.Goals as goal

pub set_new_owner-requires : goal.set_new_owner-requires
set_new_owner-requires c =
    let g = grown_results c.push_result.ensures in
    (omega (arith, c.requires.0.p1a_in, g.1, (becomes_left c.relink.ensures).nodes), g.0)

pub returns : goal.returns
returns c =
    ring_split c.args.f.side.idx c.args.f c.relink.ensures c.push_result.ensures c.set_new_owner.ensures
