-- `get_next_location`: the line of a side, and the walk at a place on the path.
use Rattle.std.specs.Prelude.{◌≡◌, Bool, ◌≤◌, eqb, ℤ, if◌then◌else◌}
use Rattle.std.specs.Int.Signed.{le_z}
use Rattle.plane.specs.declared.point.Point64.{Point64}
use Rattle.plane.specs.declared.rect.Rect64.{Rect64}
use Rattle.plane.specs.declared.location.Location.{Location}
use Rattle.plane.specs.declared.location.Location.TheVariants.{Left, Top, Right, Bottom, Inside}
use Rattle.plane.specs.Rectangle.{beyond, beyond_or_on}
use Rattle.reference.specs.Walk.{Walk, Next}
use Rattle.rectclip.specs.declared.next.Line.{Line}
use Rattle.rectclip.specs.declared.next.Place.{Place}

-- ---- the line of a side: a bound on x, at offset 0, or y, at offset 1
-- whether a coordinate is on the line or past it
abbrev pub past : Line → ℤ → Bool
past l v = if l.low then le_z v l.bound else le_z l.bound v

-- the same of a point
abbrev pub past_line : Line → Point64 → Bool
past_line l p = past l (if eqb l.offset 0 then p.x else p.y)

-- the line is that of a side of the rectangle
pub record LineOf (rect : Rect64) (loc : Location) (l : Line) : Type 0 where
  pub offset : l.offset ≤ 1
  pub test : (p : Point64) → past_line l p ≡ beyond_or_on rect loc p

-- the side that a point is beyond, in the order of `get_next_location` from inside
abbrev pub exit_side : Rect64 → Point64 → Location
exit_side rect p =
    if beyond rect Left p then Left
    else if beyond rect Right p then Right
    else if beyond rect Bottom p then Bottom
    else if beyond rect Top p then Top
    else Inside

-- ---- the walk at a place on the path
abbrev pub placed : Walk → Place → Next
placed w p = record { walk = w; loc = p.loc; i = p.i }
