-- `set_prev` meets its contract: the cell stored is the arena's entry.
use mathlib.Core.Path.{refl}
use Rattle.rectclip.proofs.Stores.{stored_prev, leaves_by}
use Rattle.rectclip.proofs.arena.Arena.set_prev.Goals as goal

pub invariant_of-self : goal.invariant_of-self
invariant_of-self c = record { drawn = c.args.self.now.drawn; holds = (stored_prev c.args.self.now c.args.i c.args.v c.requires.0 c.requires.1 c.put.ensures).holds }

pub returns : goal.returns
returns c = leaves_by (stored_prev c.args.self.now c.args.i c.args.v c.requires.0 c.requires.1 c.put.ensures) refl refl refl
