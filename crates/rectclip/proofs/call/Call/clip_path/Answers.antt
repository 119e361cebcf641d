-- `clip_path` meets its contract: the walk is refused, or its outline is clipped.
use mathlib.Core.Path.{refl}
use Rattle.rectclip.proofs.ClosedEntry.{may_walk, outline_clips, walk_gives, walk_refuses}
use Rattle.rectclip.proofs.Walking.{thrown}
use Rattle.rectclip.proofs.call.Call.clip_path.Goals as goal

pub walk_closed-requires : goal.walk_closed-requires
walk_closed-requires c = may_walk c.args.self.now c.requires

pub returns-in_err-o-clause-gives : goal.returns-in_err-o-clause-gives
returns-in_err-o-clause-gives c =
    rw (thrown c.from_residual.result c.from_residual.ensures) (walk_refuses c.args.self.now c.requires c.walk_closed.ensures _ c.in_err-o.was)

pub clip_outline-requires : goal.clip_outline-requires
clip_outline-requires c =
    outline_clips c.args.self.now c.requires
    (record { rect = refl; path = refl; bounds = refl; allowance = refl; store = refl; work = refl; store_length = c.walk_closed.auto.store; work_length = c.walk_closed.auto.work })
    c.walk_closed.ensures _ c.in_ok-o.was

pub returns-clause-gives : goal.returns-clause-gives
returns-clause-gives c = walk_gives c.args.self.now c.requires c.walk_closed.ensures _ c.in_ok-o.was c.clip_outline.ensures.gives
