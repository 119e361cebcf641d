-- `set_entry` meets its contract: the cell stored is the list's entry.
use mathlib.Core.Path.{refl}
use Rattle.rectclip.proofs.Stores.{stored_entry, leaves_by}
use Rattle.rectclip.proofs.arena.Arena.set_entry.Goals as goal

pub invariant_of-self : goal.invariant_of-self
invariant_of-self c = record { drawn = c.args.self.now.drawn; holds = (stored_entry c.args.self.now c.args.list.idx c.args.i c.args.v c.args.list.within c.requires.0 c.requires.1 c.marked.ensures c.put.ensures).holds }

pub returns : goal.returns
returns c = leaves_by (stored_entry c.args.self.now c.args.list.idx c.args.i c.args.v c.args.list.within c.requires.0 c.requires.1 c.marked.ensures c.put.ensures) refl refl refl
