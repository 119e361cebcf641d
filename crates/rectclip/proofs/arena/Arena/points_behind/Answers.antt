-- `points_behind` meets its contract: the iterator begins behind the start.
use Rattle.std.proofs.Common.{refl}
use Rattle.rectclip.specs.Paths.{points_left}
use Rattle.rectclip.proofs.arena.Arena.points_behind.Goals as goal

pub returns : goal.returns
unfolding points_left
returns c = refl
