-- `is_spent` meets its contract: the two points are the definition's.
use mathlib.Core.Path.{refl, sym, ◌∙◌}
use Rattle.plane.proofs.Equality.{same_point_is}
use Rattle.rectclip.proofs.arena.Arena.is_spent.Goals as goal

pub returns-then-is_stub : goal.returns-then-is_stub
returns-then-is_stub c = rw (sym c.is_stub.ensures ∙ c.if-is_stub.true) refl

pub returns : goal.returns
returns c =
    c.eq.ensures ∙ same_point_is c.point_of-q.result c.point_of-p.result ∙ rw (sym c.is_stub.ensures ∙ c.if-is_stub.false, c.point_of-p.ensures, c.point_of-q.ensures, c.prev_of-prev.ensures.is)
