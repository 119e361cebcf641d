-- `harness::clip_uncounted` meets its contract: the clipper's promise, where it is lent no room for a result.
use mathlib.Core.Path.{refl}
use Rattle.rectclip.proofs.Walking.{thrown}
use Rattle.harness.proofs.Handing.{hands_uncounted}
use Rattle.harness.proofs.clip_uncounted.Goals as goal

pub returns-in_err-clip : goal.returns-in_err-clip
returns-in_err-clip c =
    rw (thrown c.from_residual.result c.from_residual.ensures)
    (hands_uncounted c.args.closed c.args.allowance c.args.rect c.args.path.now c.clip.ensures.clips (rw c.in_err-clip.was refl))

pub returns : goal.returns
returns c =
    hands_uncounted c.args.closed c.args.allowance c.args.rect c.args.path.now c.clip.ensures.clips (rw c.in_ok-clip.was refl)
