-- Reference drawings 3, 8 and 10 of document 01 at one segment and one edge, and the two steps of 2/13: by computation.
-- They rule out rounding to the nearest (3), a crossing solved from the edge's end (3) and the return of an overlap (10), and either step left out.
use Rattle.std.specs.Prelude.{◌≡◌, refl, List, [], ◌∷◌, pos, negsuc, Option, None}
use lib.Ieee.{of_int, sub, mul, div, neg, to_signed, eq, le}
use Rattle.plane.specs.declared.crossing.SidePoint.{SidePoint}
use Rattle.plane.specs.declared.location.Location.TheVariants.{Left, Top}
use Rattle.plane.specs.declared.point.Point64.{Point64}
use Rattle.plane.specs.declared.rect.Rect64.{Rect64}
use Rattle.plane.specs.Points.{point}
use Rattle.plane.specs.Rectangle.{rect}
use Rattle.plane.specs.Signs.{cross_product_sign}
use Rattle.plane.specs.Segment.{determinant, numerator, fraction, working_of, crossing_of, point_at, intersection}
use Rattle.plane.specs.Intersection.{put_on_edge, found_at, at_end, get_segment_intersection, edge_intersection, side_intersection, get_intersection}

abbrev square : Rect64
square = rect (pos 0) (pos 0) (pos 100) (pos 100)

found : List (Option SidePoint)
found =
    -- 3: the left edge x = 1, from 0,10 to 49,10: the fraction is 1/49, and 49 times it rounds below 1
    get_intersection (rect (pos 1) (pos 0) (pos 100) (pos 100)) (point (pos 0) (pos 10)) (point (pos 49) (pos 10)) Left ∷
    -- 8: through the left-top corner
    get_intersection square (point (pos 10) (negsuc 9)) (point (negsuc 9) (pos 10)) Top ∷
    []

searches : found ≡ found_at (point (pos 0) (pos 10)) Left ∷ found_at (point (pos 0) (pos 0)) Top ∷ []
unfolding found cross_product_sign determinant numerator fraction working_of crossing_of point_at intersection at_end get_segment_intersection edge_intersection side_intersection get_intersection of_int lib.Ieee.add sub mul div neg to_signed eq le
searches = refl

-- 10: along the top edge
overlap : get_intersection square (point (pos 50) (pos 0)) (point (negsuc 4) (pos 0)) Top ≡ None
unfolding cross_product_sign get_segment_intersection edge_intersection side_intersection get_intersection
overlap = refl

-- 2/13: points beside the left edge from 1,0 to 1,100 and the bottom edge from 100,100 to 1,100, and beyond each end of both
placed : List Point64
placed =
    put_on_edge (point (pos 1) (pos 0)) (point (pos 1) (pos 100)) (point (pos 0) (pos 10)) ∷
    put_on_edge (point (pos 1) (pos 0)) (point (pos 1) (pos 100)) (point (pos 1) (negsuc 0)) ∷
    put_on_edge (point (pos 1) (pos 0)) (point (pos 1) (pos 100)) (point (pos 2) (pos 101)) ∷
    put_on_edge (point (pos 100) (pos 100)) (point (pos 1) (pos 100)) (point (pos 10) (pos 99)) ∷
    put_on_edge (point (pos 100) (pos 100)) (point (pos 1) (pos 100)) (point (pos 0) (pos 100)) ∷
    put_on_edge (point (pos 100) (pos 100)) (point (pos 1) (pos 100)) (point (pos 101) (pos 101)) ∷
    []

steps : placed ≡ point (pos 1) (pos 10) ∷ point (pos 1) (pos 0) ∷ point (pos 1) (pos 100) ∷ point (pos 10) (pos 100) ∷ point (pos 1) (pos 100) ∷ point (pos 100) (pos 100) ∷ []
unfolding placed
steps = refl
