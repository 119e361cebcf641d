-- `deliver_lines` meets its contract: refusal 11, or the counts and the filled lists.
use native.Mathlib.Omega.{arith}
use Rattle.rectclip.specs.Steps.{walk}
use Rattle.rectclip.specs.Pieces.{paths_of}
use Rattle.rectclip.proofs.Walking.{thrown}
use Rattle.rectclip.proofs.Handing.{counts_fit}
use Rattle.rectclip.proofs.Delivering.{gives_short, takes, gives_all}
use Rattle.rectclip.proofs.deliver.deliver_lines.Goals as goal

pub counts_if_room-requires : goal.counts_if_room-requires
counts_if_room-requires c = let f = counts_fit c.args.walker.now c.count_pieces.ensures in (f.0, f.1, omega arith)

pub returns-in_err-drawn : goal.returns-in_err-drawn
returns-in_err-drawn c =
    rw (thrown c.from_residual.result c.from_residual.ensures)
    (gives_short (paths_of (walk c.args.walker.now)) 0 c.count_pieces.ensures.paths c.count_pieces.ensures.points c.in_err-drawn.ensures)

pub write_pieces-requires : goal.write_pieces-requires
write_pieces-requires c = takes (paths_of (walk c.args.walker.now)) 0 c.count_pieces.ensures.paths c.count_pieces.ensures.points c.in_ok-drawn.ensures

pub returns : goal.returns
returns c =
    gives_all (paths_of (walk c.args.walker.now)) 0 c.count_pieces.ensures.paths c.count_pieces.ensures.points c.in_ok-drawn.ensures c.write_pieces.ensures
