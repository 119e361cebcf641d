-- `set_edge` meets its contract: the cell stored is the arena's entry.
use mathlib.Core.Path.{refl}
use Rattle.rectclip.proofs.Stores.{stored_edge, leaves_by}
use Rattle.rectclip.proofs.arena.Arena.set_edge.Goals as goal

pub invariant_of-self : goal.invariant_of-self
invariant_of-self c = record { drawn = c.args.self.now.drawn; holds = (stored_edge c.args.self.now c.args.i c.args.v c.requires c.marked_list.ensures c.put.ensures).holds }

pub returns : goal.returns
returns c = leaves_by (stored_edge c.args.self.now c.args.i c.args.v c.requires c.marked_list.ensures c.put.ensures) refl refl refl
