-- `deliver_paths` meets its contract: refusal 11, or the counts and the filled lists.
use Rattle.rectclip.proofs.Walking.{thrown}
use Rattle.rectclip.proofs.Handing.{left_short, may_read, read_all}
use Rattle.rectclip.proofs.arena.Arena.deliver_paths.Goals as goal

pub returns-in_err-drawn : goal.returns-in_err-drawn
returns-in_err-drawn c =
    rw (thrown c.from_residual.result c.from_residual.ensures) (left_short c.requires c.in_err-drawn.ensures)

pub read_paths-requires : goal.read_paths-requires
read_paths-requires c = may_read c.requires c.in_ok-drawn.ensures

pub returns : goal.returns
returns c = read_all c.requires c.in_ok-drawn.ensures c.read_paths.ensures
