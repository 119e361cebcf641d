-- `push_entry` meets its contract: the cell behind the last entry is stored.
use mathlib.Core.Path.{refl}
use Rattle.rectclip.specs.Arenas.{longer_list}
use Rattle.rectclip.proofs.Stores.{pushed_entry, grows_by}
use Rattle.rectclip.proofs.arena.Arena.push_entry.Goals as goal

pub invariant_of-self : goal.invariant_of-self
unfolding longer_list
invariant_of-self c = record { drawn = c.args.self.now.drawn; holds = (pushed_entry c.args.self.now c.args.list.idx c.args.v c.args.list.within c.requires.0 c.requires.1 c.put.ensures).holds }

pub returns : goal.returns
unfolding longer_list
returns c = grows_by (pushed_entry c.args.self.now c.args.list.idx c.args.v c.args.list.within c.requires.0 c.requires.1 c.put.ensures) refl refl refl
