-- `tidy_all` meets its contract: the sides in their order.
use Rattle.std.specs.Prelude.{Ok}
use Rattle.rectclip.specs.Changes.{arena_of, pts_of}
use Rattle.rectclip.specs.Turns.{TidiedAs}
use Rattle.rectclip.proofs.Tidying.{sides_to}
use Rattle.rectclip.proofs.arena.Arena.tidy_all.Given as goal

abbrev pub invariant-loop-idx : goal.invariant-loop-idx
invariant-loop-idx l = TidiedAs l.initial.self l.self l.allowance l.allowance (Ok l.left) (sides_to (pts_of l.initial.self) l.allowance (arena_of l.initial.self) l.idx)
