-- Parts of the definitions that the code has in functions of their own.
use Rattle.std.specs.Bool.{beq}
use Rattle.std.specs.Prelude.{pos, if◌then◌else◌, Option, None}
use Rattle.std.specs.Int.Signed.{lt_z}
use Rattle.integers.specs.Tests.{eq_z}
use Rattle.plane.specs.declared.crossing.SidePoint.{SidePoint}
use Rattle.plane.specs.Segment.{intersection}
use Rattle.plane.specs.Signs.{cross_product_sign}
use Rattle.plane.specs.Rectangle.{beyond}
use Rattle.plane.specs.Intersection.{at_end, edge_intersection}
use Rattle.plane.specs.declared.location.Location.{Location}
use Rattle.plane.specs.declared.point.Point64.{Point64}
use Rattle.plane.specs.declared.rect.Rect64.{Rect64}

-- the later half of `get_segment_intersection`: an end of the edge on the segment, or a point between
unfoldable pub edge_ends : Point64 → Point64 → Point64 → Point64 → Option Point64
edge_ends p1 p2 p3 p4 =
    let res3 = cross_product_sign p3 p1 p2 in
    let res4 = cross_product_sign p4 p1 p2 in
    if eq_z res3 (pos 0) then at_end p3 p1 p2
    else if eq_z res4 (pos 0) then at_end p4 p1 p2
    else if beq (lt_z (pos 0) res3) (lt_z (pos 0) res4) then None
    else intersection p1 p2 p3 p4

-- of `get_intersection`: the edge of a side is tried only where p is beyond the side
unfoldable pub beyond_intersection : Rect64 → Location → Point64 → Point64 → Option SidePoint
beyond_intersection r s p p2 = if beyond r s p then edge_intersection r s p p2 else None
