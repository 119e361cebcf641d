-- `get_next_location` meets its contract, from inside and from outside.
use mathlib.Core.Path.{sym, ◌∙◌}
use Rattle.rectclip.proofs.Scanning.{next_as_inside}
use Rattle.rectclip.proofs.Moving.{outside_went}
use Rattle.rectclip.proofs.walk.Walker.get_next_location.Goals as goal

pub returns-then-is_inside : goal.returns-then-is_inside
returns-then-is_inside c = rw (← next_as_inside _ c.args.self.now.rect _ _ c.args.at.loc c.args.at.i (sym c.is_inside.ensures ∙ c.if-is_inside.true)) c.next_inside.ensures

pub returns : goal.returns
returns c = outside_went c.args.self.now c.args.at.loc c.args.at.i (sym c.is_inside.ensures ∙ c.if-is_inside.false) c.next_outside.ensures
