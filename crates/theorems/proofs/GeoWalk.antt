-- `get_next_location` at one point, `get_location`, and the point of a hit, in the words of the geometry.
use mathlib.Core.Bool.{Bool, true, false, cond, ◌&&◌, ◌||◌}
use lib.IntN.{pos}
use lib.Signed.{lt_z, le_z}
use Rattle.integers.specs.Tests.{eq_z}
use Rattle.plane.specs.declared.point.Point64.{Point64}
use Rattle.plane.specs.declared.rect.Rect64.{Rect64}
use Rattle.plane.specs.declared.location.Location.{Location}
use Rattle.plane.specs.declared.location.Location.TheVariants.{Left, Top, Right, Bottom, Inside}
use Rattle.theorems.proofs.GeoPlane.{pt, Side, from, to, Hit, none, known, proper}

-- ---- get_next_location at one point: it goes past the point, or stops there with a new location
pub data Step : Type 0 where
  skip : Step
  stop : Location → Step

abbrev pub step : Rect64 → Location → Point64 → Step
step r Left p = cond (le_z p.x r.left) skip (stop (cond (le_z r.right p.x) Right (cond (le_z p.y r.top) Top (cond (le_z r.bottom p.y) Bottom Inside))))
step r Top p = cond (le_z p.y r.top) skip (stop (cond (le_z r.bottom p.y) Bottom (cond (le_z p.x r.left) Left (cond (le_z r.right p.x) Right Inside))))
step r Right p = cond (le_z r.right p.x) skip (stop (cond (le_z p.x r.left) Left (cond (le_z p.y r.top) Top (cond (le_z r.bottom p.y) Bottom Inside))))
step r Bottom p = cond (le_z r.bottom p.y) skip (stop (cond (le_z p.y r.top) Top (cond (le_z p.x r.left) Left (cond (le_z r.right p.x) Right Inside))))
step r Inside p = cond (lt_z p.x r.left) (stop Left) (cond (lt_z r.right p.x) (stop Right) (cond (lt_z r.bottom p.y) (stop Bottom) (cond (lt_z p.y r.top) (stop Top) skip)))

-- ---- get_location: is the point on an edge; its location
abbrev pub is_on_left : Rect64 → Point64 → Bool
is_on_left r p = (eq_z p.x r.left && le_z r.top p.y) && le_z p.y r.bottom

abbrev pub is_on_right : Rect64 → Point64 → Bool
is_on_right r p = (eq_z p.x r.right && le_z r.top p.y) && le_z p.y r.bottom

abbrev pub is_on_top : Rect64 → Point64 → Bool
is_on_top r p = (eq_z p.y r.top && le_z r.left p.x) && le_z p.x r.right

abbrev pub is_on_bottom : Rect64 → Point64 → Bool
is_on_bottom r p = (eq_z p.y r.bottom && le_z r.left p.x) && le_z p.x r.right

abbrev pub located : Rect64 → Point64 → Location
located r p =
    cond (is_on_left r p) Left
    (cond (is_on_right r p) Right
    (cond (is_on_top r p) Top
    (cond (is_on_bottom r p) Bottom
    (cond (lt_z p.x r.left) Left
    (cond (lt_z r.right p.x) Right
    (cond (lt_z p.y r.top) Top
    (cond (lt_z r.bottom p.y) Bottom Inside)))))))

abbrev pub on_edge : Rect64 → Point64 → Bool
on_edge r p = is_on_left r p || (is_on_right r p || (is_on_top r p || is_on_bottom r p))

-- ---- a pass of the outer loop, from where get_next_location stopped
abbrev pub inside? : Location → Bool
inside? Left = false
inside? Top = false
inside? Right = false
inside? Bottom = false
inside? Inside = true

-- the crossing in floats of a segment and an edge, whatever it is
abbrev pub Calc : Type 0
Calc = Point64 → Point64 → Point64 → Point64 → Point64

abbrev pub point : Calc → Rect64 → Point64 → Point64 → Side → Hit → Point64
point f r p q s none = pt (pos 0) (pos 0)
point f r p q s (known e) = e
point f r p q s proper = f p q (from r s) (to r s)
