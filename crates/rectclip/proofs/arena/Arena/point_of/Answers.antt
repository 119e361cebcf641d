-- `point_of` meets its contract: the store's point is the node's.
use mathlib.Core.Path.{◌∙◌}
use Rattle.rectclip.proofs.Stored.{point_in}
use Rattle.rectclip.proofs.arena.Arena.point_of.Goals as goal

pub returns : goal.returns
returns c = c.point_at.ensures ∙ point_in c.args.self.now.store.now c.args.self.now.sizes.nodes c.args.self.now.drawn c.args.i c.requires
