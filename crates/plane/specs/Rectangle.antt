-- `Rect64` of core.rs: its tests, corners and mid point; bounds of a path; where a point lies. Y grows downward.
use Rattle.std.specs.Prelude.{Bool, true, false, ◌&&◌, ◌||◌, List, [], ◌∷◌, ℕ, ◌+◌, ◌%◌, ◌/◌, ◌^◌, eqb, ℤ, pos, negsuc, ◌+ℤ◌, if◌then◌else◌}
use Rattle.std.specs.Int.Signed.{lt_z, le_z, quot_z}
use Rattle.integers.specs.Tests.{eq_z}
use Rattle.plane.specs.Points.{point}
use Rattle.plane.specs.declared.location.Location.{Location}
use Rattle.plane.specs.declared.location.Location.TheVariants.{Left, Top, Right, Bottom, Inside}
use Rattle.plane.specs.declared.location.Spot.{Spot}
use Rattle.plane.specs.declared.point.Point64.{Point64}
use Rattle.plane.specs.declared.rect.Rect64.{Rect64}

abbrev pub rect : ℤ → ℤ → ℤ → ℤ → Rect64
rect l t r b = record { left = l; top = t; right = r; bottom = b }

abbrev pub is_empty : Rect64 → Bool
is_empty r = le_z r.right r.left || le_z r.bottom r.top

abbrev pub contains_point : Rect64 → Point64 → Bool
contains_point r p = lt_z r.left p.x && lt_z p.x r.right && lt_z r.top p.y && lt_z p.y r.bottom

abbrev pub contains_rect : Rect64 → Rect64 → Bool
contains_rect r s = le_z r.left s.left && le_z s.right r.right && le_z r.top s.top && le_z s.bottom r.bottom

abbrev pub max : ℤ → ℤ → ℤ
max a b = if lt_z b a then a else b

abbrev pub min : ℤ → ℤ → ℤ
min a b = if lt_z a b then a else b

abbrev pub intersects : Rect64 → Rect64 → Bool
intersects r s = le_z (max r.left s.left) (min r.right s.right) && le_z (max r.top s.top) (min r.bottom s.bottom)

-- rectangles
abbrev pub mid_point : Rect64 → Point64
mid_point r = point (quot_z (r.left +ℤ r.right) (pos 2)) (quot_z (r.top +ℤ r.bottom) (pos 2))

-- left-top, right-top, right-bottom, left-bottom
abbrev pub as_path : Rect64 → List Point64
as_path r = point r.left r.top ∷ point r.right r.top ∷ point r.right r.bottom ∷ point r.left r.bottom ∷ []

-- sides
-- `rect_as_path[loc as usize]`; the Rust never asks it of Inside, where it would stop
abbrev pub corner : Rect64 → Location → Point64
corner r Left = point r.left r.top
corner r Top = point r.right r.top
corner r Right = point r.right r.bottom
corner r Bottom = point r.left r.bottom
corner r Inside = point r.left r.top

abbrev pub beyond : Rect64 → Location → Point64 → Bool
beyond r Left p = lt_z p.x r.left
beyond r Top p = lt_z p.y r.top
beyond r Right p = lt_z r.right p.x
beyond r Bottom p = lt_z r.bottom p.y
beyond r Inside p = false

-- on the side's line or beyond it
abbrev pub beyond_or_on : Rect64 → Location → Point64 → Bool
beyond_or_on r Left p = le_z p.x r.left
beyond_or_on r Top p = le_z p.y r.top
beyond_or_on r Right p = le_z r.right p.x
beyond_or_on r Bottom p = le_z r.bottom p.y
beyond_or_on r Inside p = false

-- `get_bounds_path`
abbrev pub grown : Rect64 → Point64 → Rect64
grown s p = record {
  left = if lt_z p.x s.left then p.x else s.left;
  top = if lt_z p.y s.top then p.y else s.top;
  right = if lt_z s.right p.x then p.x else s.right;
  bottom = if lt_z s.bottom p.y then p.y else s.bottom;
}

abbrev pub bounds_from : Rect64 → List Point64 → Rect64
bounds_from s [] = s
bounds_from s (p ∷ path) = bounds_from (grown s p) path

-- `i64::MAX` and `i64::MIN`, as `Rect::invalid`
abbrev pub no_bounds : Rect64
no_bounds = record { left = pos 9223372036854775807; top = pos 9223372036854775807; right = negsuc 9223372036854775807; bottom = negsuc 9223372036854775807 }

unfoldable pub get_bounds_path : List Point64 → Rect64
get_bounds_path path = bounds_from no_bounds path

-- `get_location`: on an edge, answering false; then beyond a side; else inside
abbrev pub spot : Location → Bool → Spot
spot loc off = record { loc = loc; off = off }

unfoldable pub get_location : Rect64 → Point64 → Spot
get_location r p =
    if eq_z p.x r.left && le_z r.top p.y && le_z p.y r.bottom then spot Left false
    else if eq_z p.x r.right && le_z r.top p.y && le_z p.y r.bottom then spot Right false
    else if eq_z p.y r.top && le_z r.left p.x && le_z p.x r.right then spot Top false
    else if eq_z p.y r.bottom && le_z r.left p.x && le_z p.x r.right then spot Bottom false
    else if lt_z p.x r.left then spot Left true
    else if lt_z r.right p.x then spot Right true
    else if lt_z p.y r.top then spot Top true
    else if lt_z r.bottom p.y then spot Bottom true
    else spot Inside true

-- edges as bits: left 1, top 2, right 4, bottom 8
abbrev pub get_edges_for_pt : Point64 → Rect64 → ℕ
get_edges_for_pt pt r =
    (if eq_z pt.x r.left then 1 else if eq_z pt.x r.right then 4 else 0)
    + (if eq_z pt.y r.top then 2 else if eq_z pt.y r.bottom then 8 else 0)

-- `set & (1 << j) != 0`
abbrev pub has_edge : ℕ → ℕ → Bool
has_edge j set = eqb (set / 2 ^ j % 2) 1
