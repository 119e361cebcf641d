-- Signs of cross products and directions along an edge. Only signs are used.
use Rattle.std.specs.Prelude.{Bool, ◌&&◌, Float, ℤ, pos, negsuc, ◌-ℤ◌, ◌*ℤ◌, if◌then◌else◌}
use Rattle.std.specs.Float.{binary64}
use Rattle.std.specs.Float.Ieee.{sub, mul, lt}
use Rattle.std.specs.Int.Signed.{lt_z}
use Rattle.integers.specs.Tests.{eq_z}
use Rattle.rounding.specs.Coordinate.{difference, zero_f}
use Rattle.plane.specs.Locations.{heading_clockwise, are_opposites}
use Rattle.plane.specs.declared.location.Location.{Location}
use Rattle.plane.specs.declared.location.Location.TheVariants.{Left, Top, Right, Bottom, Inside}
use Rattle.plane.specs.declared.point.Point64.{Point64}

-- `cross_product_sign` and `is_collinear` of core.rs; within the coordinate limit i64 holds the products
unfoldable pub cross_product_sign : Point64 → Point64 → Point64 → ℤ
cross_product_sign p1 p2 p3 =
    let ab = (p2.x -ℤ p1.x) *ℤ (p3.y -ℤ p2.y) in
    let cd = (p2.y -ℤ p1.y) *ℤ (p3.x -ℤ p2.x) in
    if lt_z cd ab then pos 1 else if lt_z ab cd then negsuc 0 else pos 0

unfoldable pub is_collinear : Point64 → Point64 → Point64 → Bool
is_collinear p1 shared p2 = eq_z ((shared.x -ℤ p1.x) *ℤ (p2.y -ℤ shared.y)) ((shared.y -ℤ p1.y) *ℤ (p2.x -ℤ shared.x))

-- `cross_product_three_points` of core.rs: coordinates become binary64 first, then each operation rounds once
unfoldable pub cross_product_three_points : Point64 → Point64 → Point64 → Float
cross_product_three_points p1 p2 p3 = sub binary64 (mul binary64 (difference p2.x p1.x) (difference p3.y p2.y)) (mul binary64 (difference p2.y p1.y) (difference p3.x p2.x))

unfoldable pub cross_product_is_negative : Point64 → Point64 → Point64 → Bool
cross_product_is_negative p1 p2 p3 = lt (cross_product_three_points p1 p2 p3) zero_f

abbrev pub is_horizontal : Point64 → Point64 → Bool
is_horizontal p q = eq_z p.y q.y

-- `is_clockwise_dir` of rectclip.rs
unfoldable pub is_clockwise_dir : Location → Location → Point64 → Point64 → Point64 → Bool
is_clockwise_dir prev curr prev_pt curr_pt rect_mp =
    if are_opposites prev curr then cross_product_is_negative prev_pt rect_mp curr_pt else heading_clockwise prev curr

abbrev pub is_heading_clockwise : Point64 → Point64 → Location → Bool
is_heading_clockwise pt1 pt2 Left = lt_z pt2.y pt1.y
is_heading_clockwise pt1 pt2 Top = lt_z pt1.x pt2.x
is_heading_clockwise pt1 pt2 Right = lt_z pt1.y pt2.y
is_heading_clockwise pt1 pt2 Bottom = lt_z pt2.x pt1.x
is_heading_clockwise pt1 pt2 Inside = lt_z pt2.x pt1.x

abbrev pub has_horz_overlap : Point64 → Point64 → Point64 → Point64 → Bool
has_horz_overlap left1 right1 left2 right2 = lt_z left1.x right2.x && lt_z left2.x right1.x

abbrev pub has_vert_overlap : Point64 → Point64 → Point64 → Point64 → Bool
has_vert_overlap top1 bottom1 top2 bottom2 = lt_z top1.y bottom2.y && lt_z top2.y bottom1.y
