-- `point_at` meets its contract: two neighbouring coordinates are a point.
use Rattle.rectclip.proofs.Coordinates.{points_at}
use borrow.Author.Rules.{rules}
use Rattle.rectclip.proofs.lists.point_at.Goals as goal

pub returns : goal.returns
returns c = rw (points_at c.args.list.now c.args.i c.requires) (search rules)
