-- `clip_outline` meets its contract: the arena, what is left of it, and its paths.
use mathlib.Core.Path.{sym}
use Rattle.rectclip.proofs.Walking.{thrown}
use Rattle.rectclip.proofs.OutlineClips.{arranging, may_clip, clipped_spent, clipped_is, readable}
use Rattle.rectclip.proofs.Delivering.{gives_same, gives_refusal}
use Rattle.rectclip.proofs.call.Call.clip_outline.Goals as goal

pub walked_arena-arena-requires : goal.walked_arena-arena-requires
walked_arena-arena-requires c = arranging c.args.self.now c.requires

pub clip_arena-requires : goal.clip_arena-requires
clip_arena-requires c = may_clip c.args.self.now c.requires c.walked_arena-arena.ensures.arranged

pub returns-in_err-clipped-clause-gives : goal.returns-in_err-clipped-clause-gives
returns-in_err-clipped-clause-gives c =
    rw (thrown c.from_residual.result c.from_residual.ensures) (gives_refusal _ (clipped_spent c.args.self.now c.requires c.walked_arena-arena.ensures.arranged _ c.in_err-clipped.ensures))

pub deliver_paths-requires : goal.deliver_paths-requires
deliver_paths-requires c = readable c.args.self.now c.requires c.walked_arena-arena.ensures.arranged c.in_ok-clipped.clipped c.in_ok-clipped.ensures

pub returns-clause-gives : goal.returns-clause-gives
returns-clause-gives c =
    gives_same (sym (clipped_is c.args.self.now c.requires c.walked_arena-arena.ensures.arranged c.in_ok-clipped.clipped c.in_ok-clipped.ensures)) c.deliver_paths.ensures
