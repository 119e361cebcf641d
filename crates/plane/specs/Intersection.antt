-- `get_segment_intersection` and `get_intersection` of rectclip.rs: the crossing of a segment with an edge, and the search over the edges.
-- Beside them stand the two steps of document 02, 2/13, which the Rust does not have.
use Rattle.std.specs.Prelude.{◌||◌, ℕ, ℤ, pos, if◌then◌else◌, Option, None, Some}
use Rattle.std.specs.Bool.{beq}
use Rattle.std.specs.Option.{option_map, option_or, unwrap_or}
use Rattle.std.specs.Int.Signed.{lt_z}
use Rattle.integers.specs.Tests.{eq_z}
use Rattle.plane.specs.Locations.{lower, upper}
use Rattle.plane.specs.Points.{point, same_point, pt_at}
use Rattle.plane.specs.Rectangle.{max, min, as_path, beyond}
use Rattle.plane.specs.Segment.{intersection}
use Rattle.plane.specs.Signs.{cross_product_sign, is_horizontal}
use Rattle.plane.specs.declared.crossing.SidePoint.{SidePoint}
use Rattle.plane.specs.declared.location.Location.{Location}
use Rattle.plane.specs.declared.location.Location.TheVariants.{Left, Top, Right, Bottom, Inside}
use Rattle.plane.specs.declared.point.Point64.{Point64}
use Rattle.plane.specs.declared.rect.Rect64.{Rect64}

-- 2/13: 'The coordinate across the edge is now set to the edge's, and the one along it is held between the edge's ends.'
-- These two steps are not yet a part of `get_segment_intersection`: what it answers is the float crossing as it is.

-- z, held between a and b, which may come in either order
abbrev pub held_between : ℤ → ℤ → ℤ → ℤ
held_between a b z = max (min a b) (min z (max a b))

-- the two steps, on the edge from c to d, which is parallel to an axis
abbrev pub put_on_edge : Point64 → Point64 → Point64 → Point64
put_on_edge c d p =
    if eq_z c.x d.x then point c.x (held_between c.y d.y p.y)
    else point (held_between c.x d.x p.x) c.y

-- on what `get_segment_intersect_pt` answers
abbrev pub held_to_edge : Point64 → Point64 → Option Point64 → Option Point64
held_to_edge c d met = option_map (put_on_edge c d) met

-- `get_segment_intersection` of the segment from p1 to p2 with the edge from p3 to p4
-- p, which is on the line through a and b, is a crossing where it lies between them
unfoldable pub at_end : Point64 → Point64 → Point64 → Option Point64
at_end p a b =
    if same_point p a || same_point p b then Some p
    else if is_horizontal a b then (if beq (lt_z a.x p.x) (lt_z p.x b.x) then Some p else None)
    else (if beq (lt_z a.y p.y) (lt_z p.y b.y) then Some p else None)

unfoldable pub get_segment_intersection : Point64 → Point64 → Point64 → Point64 → Option Point64
get_segment_intersection p1 p2 p3 p4 =
    let res1 = cross_product_sign p1 p3 p4 in
    let res2 = cross_product_sign p2 p3 p4 in
    let res3 = cross_product_sign p3 p1 p2 in
    let res4 = cross_product_sign p4 p1 p2 in
    let known1 = at_end p1 p3 p4 in
    let known2 = at_end p2 p3 p4 in
    let known3 = at_end p3 p1 p2 in
    let known4 = at_end p4 p1 p2 in
    let found = intersection p1 p2 p3 p4 in
    if eq_z res1 (pos 0) then (if eq_z res2 (pos 0) then None else known1)
    else if eq_z res2 (pos 0) then known2
    else if beq (lt_z (pos 0) res1) (lt_z (pos 0) res2) then None
    else if eq_z res3 (pos 0) then known3
    else if eq_z res4 (pos 0) then known4
    else if beq (lt_z (pos 0) res3) (lt_z (pos 0) res4) then None
    else found

-- a side's edge runs from corner `edge_from` to corner `edge_to` of `as_path`
abbrev pub edge_from : Location → ℕ
edge_from Left = 0
edge_from Top = 0
edge_from Right = 1
edge_from Bottom = 2
edge_from Inside = 0

abbrev pub edge_to : Location → ℕ
edge_to Left = 3
edge_to Top = 1
edge_to Right = 2
edge_to Bottom = 3
edge_to Inside = 0

-- a find: a point, and its side
abbrev pub found_at : Point64 → Location → Option SidePoint
found_at q s = Some (record { point = q; side = s })

-- `get_intersection` of the segment from p to p2 with the boundary
abbrev pub met : Location → Option Point64 → Option SidePoint
met s point = option_map (λ q. record { point = q; side = s }) point

-- with the edge of side s
unfoldable pub edge_intersection : Rect64 → Location → Point64 → Point64 → Option SidePoint
edge_intersection r s p p2 =
    let a = pt_at (as_path r) (edge_from s) in
    let b = pt_at (as_path r) (edge_to s) in
    met s (get_segment_intersection p p2 a b)

infixr 4 ◌or_else◌
abbrev pub ◌or_else◌ : Option SidePoint → Option SidePoint → Option SidePoint
found or_else other = option_or found other

-- the side's own edge; the lower neighbour's, if p is beyond that; the upper neighbour's
unfoldable pub side_intersection : Rect64 → Location → Point64 → Point64 → Option SidePoint
side_intersection r s p p2 =
    let low = edge_intersection r (lower s) p p2 in
    edge_intersection r s p p2
    or_else (if beyond r (lower s) p then low else None)
    or_else edge_intersection r (upper s) p p2

unfoldable pub get_intersection : Rect64 → Point64 → Point64 → Location → Option SidePoint
get_intersection r p p2 Left = side_intersection r Left p p2
get_intersection r p p2 Top = side_intersection r Top p p2
get_intersection r p p2 Right = side_intersection r Right p p2
get_intersection r p p2 Bottom = side_intersection r Bottom p p2
get_intersection r p p2 Inside =
    edge_intersection r Left p p2 or_else edge_intersection r Top p p2 or_else edge_intersection r Right p p2 or_else edge_intersection r Bottom p p2

-- what a search found, or the point and the side that are given where it found nothing
abbrev pub found_or : Option SidePoint → Point64 → Location → SidePoint
found_or found p s = unwrap_or found (record { point = p; side = s })
