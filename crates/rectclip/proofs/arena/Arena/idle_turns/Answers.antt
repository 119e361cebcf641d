-- `idle_turns` meets its contract: the turns at one clockwise entry, and one turn to the next entry.
use native.Mathlib.Omega.{arith}
use Prim.Native.Nat.{◌+◌, ◌*◌, ◌≤◌}
use lib.ListN.{get_or}
use Rattle.rectclip.proofs.Idling.{may_idle, idling_as, idles_on, idles_end}
use Rattle.rectclip.proofs.arena.Arena.idle_turns.Goals as goal

pub idle_along-progress-requires : goal.idle_along-progress-requires
idle_along-progress-requires c =
    may_idle c.loop-i.progress.at c.args.at.side.idx c.loop-i.i c.loop-i.invariant.idles.side c.loop-i.invariant.here (rw c.cw-cw.ensures at c.loop-i-test.true) _ (rw c.cw-cw.ensures at c.entry_of.ensures.is)
    c.is_live.result c.is_live.ensures c.if-not-is_live.false

pub loop-i-preserved : goal.loop-i-preserved
loop-i-preserved c =
    let may =
    may_idle c.loop-i.progress.at c.args.at.side.idx c.loop-i.i c.loop-i.invariant.idles.side c.loop-i.invariant.here (rw c.cw-cw.ensures at c.loop-i-test.true) _ (rw c.cw-cw.ensures at c.entry_of.ensures.is)
    c.is_live.result c.is_live.ensures c.if-not-is_live.false in
    let x = idling_as may c.idle_along-progress.ensures.turns.side c.idle_along-progress.ensures.entry in
    let on = idles_on c.loop-i.invariant.idles c.idle_along-progress.ensures.turns in
    let out : get_or c.args.self.now.sizes.lens (c.idle_along-progress.result.at.side.idx * 2 + 1) 0 ≤ c.idle_along-progress.result.at.j = rw (on.side, ← c.ccw.ensures) c.if-progress-other.false in
    record { idles = idles_end x on (omega (arith, c.if-progress-eq0.false)) out; here = omega (arith, c.idle_along-progress.ensures.entry, c.loop-i.invariant.here) }
