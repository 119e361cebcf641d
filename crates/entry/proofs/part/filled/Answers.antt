-- `filled` meets its promise: the front of the list, where it holds so many points.
use mathlib.Core.Path.{refl}
use Rattle.entry.proofs.Parts.{part_held, part_none}
use Rattle.entry.proofs.part.filled.Goals as goal

pub returns-then-points-room : goal.returns-then-points-room
returns-then-points-room c = record { entries = part_held c.args.coordinates.now c.args.points c.if-points-room.true; own = refl }

pub returns : goal.returns
returns c = record { entries = part_none c.args.coordinates.now c.args.points c.if-points-room.false; own = refl }
