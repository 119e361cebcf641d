-- `straighten_pass` meets its contract, one law for each way.
use Rattle.std.specs.Prelude.{None, Some, MatchOption}
use Rattle.std.proofs.Common.{rules}
use mathlib.Core.Path.{◌≡◌}
use Rattle.rectclip.proofs.Dropping.{straighten_kept, straighten_unlinked}
use Rattle.rectclip.proofs.arena.Arena.straighten_pass.Goals as goal

pub returns-then-not-is_flat : goal.returns-then-not-is_flat
returns-then-not-is_flat c =
    straighten_kept _ c.args.op c.args.op2 c.is_flat.ensures c.if-not-is_flat.true c.requires.0 c.next_of-next.result c.next_of-next.ensures.is c.next_of-next.ensures.within

pub returns : goal.returns
returns c =
    let next : MatchOption c.unlink-sides.result (c.map.result ≡ None) (λ n. c.map.result ≡ Some n.next) = search rules in
    straighten_unlinked _ c.args.op c.args.op2 c.is_flat.ensures c.if-not-is_flat.false _ _ next c.unlink-sides.ensures c.prev_of-before.result c.prev_of-before.ensures.is c.prev_of-before.ensures.within
