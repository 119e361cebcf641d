-- `take_turns` meets its contract: the loop takes the definition's turns, and is left where it is.
use native.Mathlib.Omega.{arith}
use Rattle.rectclip.proofs.Tidying.{tidying_start, tidying_idle, tidying_stop, tidying_out, tidying_full, tidying_again}
use Rattle.rectclip.proofs.arena.Arena.take_turns.Goals as goal

pub loop-left-init : goal.loop-left-init
loop-left-init c = tidying_start c.args.side c.requires

pub returns-then-not-is_left : goal.returns-then-not-is_left
returns-then-not-is_left c =
    tidying_stop (tidying_idle c.loop-left.invariant c.idle_turns-progress.ensures) c.is_left.result c.is_left.ensures c.if-not-is_left.true

pub returns-then-progress-eq0 : goal.returns-then-progress-eq0
returns-then-progress-eq0 c =
    tidying_full (tidying_idle c.loop-left.invariant c.idle_turns-progress.ensures) c.is_left.result c.is_left.ensures c.if-not-is_left.false c.if-progress-eq0.true

pub loop-left-preserved : goal.loop-left-preserved
loop-left-preserved c =
    tidying_again (tidying_idle c.loop-left.invariant c.idle_turns-progress.ensures) c.is_left.result c.is_left.ensures (omega (arith, c.if-progress-eq0.false)) c.if-not-is_left.false c.one_turn-at.result c.one_turn-at.ensures

pub returns-then-is_left : goal.returns-then-is_left
returns-then-is_left c = tidying_full c.loop-left.invariant c.is_left-2.result c.is_left-2.ensures c.if-is_left.true (omega (arith, c.loop-left-test.false))

pub returns : goal.returns
returns c = tidying_out c.loop-left.invariant c.is_left-2.result c.is_left-2.ensures c.if-is_left.false (omega (arith, c.loop-left-test.false))
