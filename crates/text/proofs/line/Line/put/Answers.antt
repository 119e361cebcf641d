-- `put` meets its contract.
use mathlib.Core.Path.{refl}
use Rattle.text.proofs.Puts.{put_part}
use Rattle.text.proofs.line.Line.put.Goals as goal

pub returns : goal.returns
returns c = record { put = put_part c.copy_from_slice.ensures.after c.requires; same = refl }
