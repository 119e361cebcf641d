-- `add_corner_prev_curr` meets its contract, by `add`'s.
use mathlib.Core.Path.{sym, ◌∙◌}
use Rattle.reference.specs.Walk.{add_corner_prev_curr}
use Rattle.rectclip.proofs.walk.Walker.add_corner_prev_curr.Goals as goal

pub returns-then-heading_clockwise : goal.returns-then-heading_clockwise
unfolding add_corner_prev_curr
returns-then-heading_clockwise c = rw (sym c.heading_clockwise.ensures ∙ c.if-heading_clockwise.true, ← c.corner.ensures) c.add.ensures

pub returns : goal.returns
unfolding add_corner_prev_curr
returns c = rw (sym c.heading_clockwise.ensures ∙ c.if-heading_clockwise.false, ← c.corner-2.ensures) c.add-2.ensures
