-- Points, rectangles, the sides and a point's depth below each of them; the crossing search of the Rust, to the letter.
use mathlib.Core.Bool.{Bool, true, false, cond, not, ◌&&◌, ◌||◌}
use lib.IntN.{ℤ, pos, negsuc, ◌-ℤ◌, ◌*ℤ◌}
use lib.Signed.{lt_z, ◌<ℤ◌}
use Rattle.integers.specs.Tests.{eq_z}
use Rattle.plane.specs.declared.point.Point64.{Point64}
use Rattle.plane.specs.declared.rect.Rect64.{Rect64}
use Rattle.plane.specs.declared.location.Location.{Location}
use Rattle.plane.specs.declared.location.Location.TheVariants.{Left, Top, Right, Bottom, Inside}

abbrev pub pt : ℤ → ℤ → Point64
pt x y = record { x = x; y = y }

-- ---- get_segment_intersection
abbrev pub sign : ℤ → ℤ
sign z = cond (lt_z (pos 0) z) (pos 1) (cond (lt_z z (pos 0)) (negsuc 0) (pos 0))

abbrev pub cross : Point64 → Point64 → Point64 → ℤ
cross p q r = (q.x -ℤ p.x) *ℤ (r.y -ℤ q.y) -ℤ (q.y -ℤ p.y) *ℤ (r.x -ℤ q.x)

abbrev pub zero? : ℤ → Bool
zero? z = eq_z (sign z) (pos 0)

abbrev pub up? : ℤ → Bool
up? z = lt_z (pos 0) (sign z)

-- `==` of two tests
abbrev pub same : Bool → Bool → Bool
same true b = b
same false b = not b

abbrev pub same_pt : Point64 → Point64 → Bool
same_pt p q = eq_z p.x q.x && eq_z p.y q.y

-- p, which lies on the line through a and b, lies between them or is one of them
abbrev pub on : Point64 → Point64 → Point64 → Bool
on p a b =
    cond (same_pt p a || same_pt p b) true
    (cond (eq_z a.y b.y) (same (lt_z a.x p.x) (lt_z p.x b.x)) (same (lt_z a.y p.y) (lt_z p.y b.y)))

-- none, at a known point, or between the ends of both, to be computed in floats
pub data Hit : Type 0 where
  none : Hit
  known : Point64 → Hit
  proper : Hit

abbrev pub hit? : Hit → Bool
hit? none = false
hit? (known p) = true
hit? proper = true

abbrev pub known? : Bool → Point64 → Hit
known? b p = cond b (known p) none

abbrev pub segment : Point64 → Point64 → Point64 → Point64 → Hit
segment p1 p2 p3 p4 =
    cond (zero? (cross p1 p3 p4)) (cond (zero? (cross p2 p3 p4)) none (known? (on p1 p3 p4) p1))
    (cond (zero? (cross p2 p3 p4)) (known? (on p2 p3 p4) p2)
    (cond (same (up? (cross p1 p3 p4)) (up? (cross p2 p3 p4))) none
    (cond (zero? (cross p3 p1 p2)) (known? (on p3 p1 p2) p3)
    (cond (zero? (cross p4 p1 p2)) (known? (on p4 p1 p2) p4)
    (cond (same (up? (cross p3 p1 p2)) (up? (cross p4 p1 p2))) none proper)))))

-- ---- sides
pub data Side : Type 0 where
  on_left : Side
  on_top : Side
  on_right : Side
  on_bottom : Side

abbrev pub loc : Side → Location
loc on_left = Left
loc on_top = Top
loc on_right = Right
loc on_bottom = Bottom

-- the corners of `as_path` between which the Rust puts the side's edge
abbrev pub from : Rect64 → Side → Point64
from r on_left = pt r.left r.top
from r on_top = pt r.left r.top
from r on_right = pt r.right r.top
from r on_bottom = pt r.right r.bottom

abbrev pub to : Rect64 → Side → Point64
to r on_left = pt r.left r.bottom
to r on_top = pt r.right r.top
to r on_right = pt r.right r.bottom
to r on_bottom = pt r.left r.bottom

abbrev pub edge : Rect64 → Side → Point64 → Point64 → Hit
edge r s p q = segment p q (from r s) (to r s)

abbrev pub met : Rect64 → Point64 → Point64 → Side → Bool
met r p q s = hit? (edge r s p q)

-- ---- get_intersection: nothing, or a side and how it was hit
pub data Found : Type 0 where
  nothing : Found
  found : Side → Hit → Found

abbrev pub try : Rect64 → Point64 → Point64 → Side → Found → Found
try r p q s else = cond (met r p q s) (found s (edge r s p q)) else

abbrev pub search : Rect64 → Point64 → Point64 → Location → Found
search r p q Left = try r p q on_left (cond (lt_z p.y r.top && met r p q on_top) (found on_top (edge r on_top p q)) (try r p q on_bottom nothing))
search r p q Top = try r p q on_top (cond (lt_z p.x r.left && met r p q on_left) (found on_left (edge r on_left p q)) (try r p q on_right nothing))
search r p q Right = try r p q on_right (cond (lt_z p.y r.top && met r p q on_top) (found on_top (edge r on_top p q)) (try r p q on_bottom nothing))
search r p q Bottom = try r p q on_bottom (cond (lt_z p.x r.left && met r p q on_left) (found on_left (edge r on_left p q)) (try r p q on_right nothing))
search r p q Inside = try r p q on_left (try r p q on_top (try r p q on_right (try r p q on_bottom nothing)))

-- ---- how far p lies inside the side s: positive inside, 0 on the line, negative beyond
abbrev pub depth : Rect64 → Side → Point64 → ℤ
depth r on_left p = p.x -ℤ r.left
depth r on_top p = p.y -ℤ r.top
depth r on_right p = r.right -ℤ p.x
depth r on_bottom p = r.bottom -ℤ p.y

abbrev pub opposite : Side → Side
opposite on_left = on_right
opposite on_top = on_bottom
opposite on_right = on_left
opposite on_bottom = on_top

-- the neighbour that the search tries second, if p is strictly beyond it, and the one that it tries last
abbrev pub second : Side → Side
second on_left = on_top
second on_top = on_left
second on_right = on_top
second on_bottom = on_left

abbrev pub last : Side → Side
last s = opposite (second s)

-- from the depth on a side to the one on the opposite side
abbrev pub span : Rect64 → Side → ℤ
span r on_left = r.right -ℤ r.left
span r on_top = r.bottom -ℤ r.top
span r on_right = r.right -ℤ r.left
span r on_bottom = r.bottom -ℤ r.top

pub record Proper (r : Rect64) : Type 0 where
  pub wide : r.left <ℤ r.right
  pub high : r.top <ℤ r.bottom
