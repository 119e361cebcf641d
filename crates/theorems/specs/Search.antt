-- `get_intersection`: a search finds something exactly where the segment has an exact crossing with one of the sides that it tries.
-- Statements only; proofs: Search, AlongStays. How far a find may be from its exact crossing is in Demand (`NearTo`).
use Rattle.std.specs.Prelude.{◌≡◌, true, false, negsuc, ◌*ℤ◌, ◌≤ℤ◌, None, Some}
use Rattle.plane.specs.declared.point.Point64.{Point64}
use Rattle.plane.specs.declared.rect.Rect64.{Rect64}
use Rattle.plane.specs.declared.location.Location.{Location}
use Rattle.plane.specs.Limit.{Limited, LimitedRect}
use Rattle.plane.specs.Locations.{is_inside, lower, upper}
use Rattle.plane.specs.Rectangle.{as_path, is_empty, beyond}
use Rattle.plane.specs.Points.{pt_at}
use Rattle.plane.specs.Signs.{cross_product_sign}
use Rattle.plane.specs.Segment.{intersection}
use Rattle.plane.specs.Intersection.{found_at, edge_from, edge_to, get_intersection}
use Rattle.theorems.specs.Demand.{ExactCrossing, along, begin_of, end_of}

-- the sides that a search from p tries: its own, the lower neighbour if p is beyond that, the upper neighbour; from inside all four
pub data Tried (r : Rect64) (p : Point64) (loc side : Location) : Type 0 where
  own : is_inside loc ≡ false → side ≡ loc → Tried r p loc side
  low : is_inside loc ≡ false → beyond r (lower loc) p ≡ true → side ≡ lower loc → Tried r p loc side
  up : is_inside loc ≡ false → side ≡ upper loc → Tried r p loc side
  any : is_inside loc ≡ true → is_inside side ≡ false → Tried r p loc side

-- what a find says: a side that was tried, and an exact crossing with it
pub record Finds (r : Rect64) (p q : Point64) (loc side : Location) : Type 0 where
  pub tried : Tried r p loc side
  pub crossing : ExactCrossing r side p q

-- within the coordinate limit, on a rectangle that is not empty: where one of these sides has an exact crossing, the search does not miss
abbrev pub SearchFinds : Type 0
SearchFinds = (r : Rect64) (p q : Point64) (loc side : Location) → LimitedRect r → Limited p → Limited q → is_empty r ≡ false → Finds r p q loc side → get_intersection r p q loc ≡ None → ⊥

-- and what it finds is on such a side
abbrev pub SearchExact : Type 0
SearchExact = (r : Rect64) (p q z : Point64) (loc side : Location) → LimitedRect r → Limited p → Limited q → is_empty r ≡ false → get_intersection r p q loc ≡ found_at z side → Finds r p q loc side

-- ---- document 02, 2/13: crossings lie on their edge
-- where `get_segment_intersection` comes to its float crossing: the ends of the segment lie strictly on either side of the edge's line, and those of the edge on either side of the segment's
pub record Passes (p q a b : Point64) : Type 0 where
  pub segment : cross_product_sign p a b *ℤ cross_product_sign q a b ≡ negsuc 0
  pub edge : cross_product_sign a p q *ℤ cross_product_sign b p q ≡ negsuc 0

-- Within the coordinate limit the step along the edge never moves a float crossing: as the floats give it, it lies between the edge's ends.
abbrev pub AlongStays : Type 0
AlongStays = (r : Rect64) (side : Location) (p q z : Point64) → LimitedRect r → Limited p → Limited q → is_empty r ≡ false → is_inside side ≡ false
    → let a = pt_at (as_path r) (edge_from side) in let b = pt_at (as_path r) (edge_to side) in
    Passes p q a b → intersection p q a b ≡ Some z → (begin_of r side ≤ℤ along side z) × (along side z ≤ℤ end_of r side)
