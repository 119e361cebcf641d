-- `push_result` meets its contract: the cell behind the last result is stored.
use mathlib.Core.Path.{refl}
use Rattle.rectclip.specs.Arenas.{one_result_more}
use Rattle.rectclip.proofs.Stores.{pushed_result, grows_by}
use Rattle.rectclip.proofs.arena.Arena.push_result.Goals as goal

pub invariant_of-self : goal.invariant_of-self
unfolding one_result_more
invariant_of-self c = record { drawn = c.args.self.now.drawn; holds = (pushed_result c.args.self.now c.args.v c.requires.0 c.requires.1 c.put.ensures).holds }

pub returns : goal.returns
unfolding one_result_more
returns c = grows_by (pushed_result c.args.self.now c.args.v c.requires.0 c.requires.1 c.put.ensures) refl refl refl
