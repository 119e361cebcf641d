-- `harness::clip_counted` meets its contract: the clipper's promise, with the counts handed over or the promise of a call that has no place for them.
use mathlib.Core.Path.{refl}
use Rattle.rectclip.specs.Promises.{lent}
use Rattle.rectclip.proofs.Walking.{thrown}
use Rattle.harness.proofs.Handing.{three_stored, hands_counted}
use Rattle.harness.proofs.clip_counted.Goals as goal

pub returns-in_err-drawn-clause-hands : goal.returns-in_err-drawn-clause-hands
returns-in_err-drawn-clause-hands c =
    rw (thrown c.from_residual.result c.from_residual.ensures)
    (hands_counted (lent c.args.coordinates.now c.args.lengths.now c.args.store.now c.args.work.now) c.args.counts.now _ c.clip.ensures.clips
    (rw c.in_err-drawn.was (record { value = refl; list = refl })) c.if-counts-lt3.false)

pub returns-clause-hands : goal.returns-clause-hands
returns-clause-hands c =
    hands_counted (lent c.args.coordinates.now c.args.lengths.now c.args.store.now c.args.work.now) c.args.counts.now _ c.clip.ensures.clips
    (rw c.in_ok-drawn.was (record { value = refl; list = three_stored c.args.counts.now _ _ _ c.if-counts-lt3.false })) c.if-counts-lt3.false
