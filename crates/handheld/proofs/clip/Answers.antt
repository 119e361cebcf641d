-- `handheld::clip` meets its contract. Assumes nothing.
use Rattle.handheld.proofs.Calls.{promised}
use Rattle.handheld.proofs.clip.Goals as goal

pub returns-clause-leaves : goal.returns-clause-leaves
returns-clause-leaves c = promised c.args.path.now c.args.coordinates.now c.args.lengths.now _ c.clip.ensures
