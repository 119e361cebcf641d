-- What is promised of the returned points and areas. Statements only.
use Rattle.std.specs.Prelude.{◌≡◌, Bool, true, false, not, ◌&&◌, ◌⊎◌, ℕ, ◌+◌, ◌-◌, ◌<◌, length, T, ltb, ℤ, pos, nat_abs, ◌+ℤ◌, ◌-ℤ◌, ◌*ℤ◌, ◌≤ℤ◌, if◌then◌else◌}
use mathlib.Core.List.{List, [], ◌∷◌, Memᴰ}
use Rattle.rounding.specs.Coordinate.{exact, Near}
use Rattle.plane.specs.declared.point.Point64.{Point64}
use Rattle.plane.specs.declared.rect.Rect64.{Rect64}
use Rattle.plane.specs.declared.location.Location.{Location}
use Rattle.plane.specs.declared.location.Location.TheVariants.{Left, Top, Right, Bottom, Inside}
use Rattle.plane.specs.Basics.{none, ok}
use Rattle.plane.specs.Locations.{same_location}
use Rattle.plane.specs.Points.{pt_at, points_of}
use Rattle.plane.specs.Rectangle.{as_path, is_empty, intersects, contains_rect, get_bounds_path}
use Rattle.reference.specs.Walk.{walked_outline}
use Rattle.reference.specs.Entry.{Drawing, drawing_of}
use Rattle.plane.specs.Limit.{all_in_limit, rect_in_limit}

-- ---- signed area, doubled: the sum over neighbours, last to first included, of x × next y − next x × y
abbrev pub area_step : Point64 → Point64 → ℤ
area_step p q = p.x *ℤ q.y -ℤ q.x *ℤ p.y

abbrev pub area_to : Point64 → Point64 → List Point64 → ℤ
area_to first p [] = area_step p first
area_to first p (q ∷ path) = area_step p q +ℤ area_to first q path

unfoldable pub signed_area2 : List Point64 → ℤ
signed_area2 [] = pos 0
signed_area2 (p ∷ path) = area_to p p path

unfoldable pub total_area2 : List (List Point64) → ℤ
total_area2 [] = pos 0
total_area2 (p ∷ paths) = signed_area2 p +ℤ total_area2 paths

-- a closed path that is walked: neither under three points, nor copied, nor missed, nor under an empty rectangle
unfoldable pub is_walked : Rect64 → List Point64 → Bool
is_walked rect path = not (is_empty rect) && not (ltb (length path) 3) && intersects rect (get_bounds_path path) && not (contains_rect rect (get_bounds_path path))

-- the returned paths' areas add up to the walked outline's, which is what the walk puts down and no empty stand-in: Outline (`OutlineDrawn`, `WalksOutline`)
pub record AreaKept (rect : Rect64) (path : List Point64) (paths : List (List Point64)) : Type 0 where
  pub kept : T (is_walked rect path) → total_area2 paths ≡ signed_area2 (walked_outline rect path)

-- ---- where a point comes from
-- a side's line; a point's coordinates across the side and along it; where the edge begins and ends on its line
abbrev pub line_of : Rect64 → Location → ℤ
line_of r Left = r.left
line_of r Top = r.top
line_of r Right = r.right
line_of r Bottom = r.bottom
line_of r Inside = pos 0

abbrev pub is_upright : Location → Bool
is_upright Left = true
is_upright Top = false
is_upright Right = true
is_upright Bottom = false
is_upright Inside = false

abbrev pub across : Location → Point64 → ℤ
across s p = if is_upright s then p.x else p.y

abbrev pub along : Location → Point64 → ℤ
along s p = if is_upright s then p.y else p.x

abbrev pub begin_of : Rect64 → Location → ℤ
begin_of r s = if is_upright s then r.top else r.left

abbrev pub end_of : Rect64 → Location → ℤ
end_of r s = if is_upright s then r.bottom else r.right

-- the segment's extent across the edge, positive; and how much of it lies before the edge's line
abbrev pub extent : Location → Point64 → Point64 → ℕ
extent s a b = nat_abs (across s a -ℤ across s b)

abbrev pub reach : Rect64 → Location → Point64 → ℕ
reach r s a = nat_abs (across s a -ℤ line_of r s)

-- m lies between a and b, ends included
abbrev pub Between : ℤ → ℤ → ℤ → Type 0
Between a m b = ((a ≤ℤ m) × (m ≤ℤ b)) ⊎ ((b ≤ℤ m) × (m ≤ℤ a))

-- The segment from a to b and the edge of side s share a point, ends included, and the segment's extent across the edge is not zero. On each axis the point's coordinate is `exact .. reach extent` / extent.
pub record ExactCrossing (r : Rect64) (s : Location) (a b : Point64) : Type 0 where
  pub is_side : same_location s Inside ≡ false
  pub extends : 0 < extent s a b
  pub crosses : Between (across s a) (line_of r s) (across s b)
  pub not_before : (begin_of r s *ℤ pos (extent s a b)) ≤ℤ exact (along s a) (along s b) (reach r s a) (extent s a b)
  pub not_behind : exact (along s a) (along s b) (reach r s a) (extent s a b) ≤ℤ (end_of r s *ℤ pos (extent s a b))

-- on each axis p is less than 1 + 1/33,554,432 from that exact crossing, in whole numbers
pub record NearTo (r : Rect64) (s : Location) (a b p : Point64) : Type 0 where
  pub near_x : Near p.x (exact a.x b.x (reach r s a) (extent s a b)) (extent s a b)
  pub near_y : Near p.y (exact a.y b.y (reach r s a) (extent s a b)) (extent s a b)

pub record InOrOn (r : Rect64) (p : Point64) : Type 0 where
  pub left : r.left ≤ℤ p.x
  pub right : p.x ≤ℤ r.right
  pub top : r.top ≤ℤ p.y
  pub bottom : p.y ≤ℤ r.bottom

-- the segments of a path, taken either way round: from each point to the next, and of a closed path from the last to the first
pub data Segment (closed : Bool) (path : List Point64) : Point64 → Point64 → Type 0 where
  onward : (i : ℕ) → i + 1 < length path → Segment closed path (pt_at path i) (pt_at path (i + 1))
  closing : T closed → 0 < length path → Segment closed path (pt_at path (length path - 1)) (pt_at path 0)
  turned : {a b : Point64} → Segment closed path a b → Segment closed path b a

-- an input point in or on the rectangle, a corner, or less than 1 + 1/33,554,432 unit on each axis from one exact crossing of an input segment with an edge
pub data Source (closed : Bool) (r : Rect64) (path : List Point64) (p : Point64) : Type 0 where
  input_point : (i : ℕ) → i < length path → InOrOn r (pt_at path i) → p ≡ pt_at path i → Source closed r path p
  corner_point : (k : ℕ) → k < 4 → p ≡ pt_at (as_path r) k → Source closed r path p
  crossing : (a b : Point64) → Segment closed path a b → (s : Location) → ExactCrossing r s a b → NearTo r s a b p → Source closed r path p

-- at most one unit outside: no coordinate is beyond a side by more than 1
pub record AtMostOneOutside (r : Rect64) (p : Point64) : Type 0 where
  pub left : (r.left -ℤ pos 1) ≤ℤ p.x
  pub right : p.x ≤ℤ (r.right +ℤ pos 1)
  pub top : (r.top -ℤ pos 1) ≤ℤ p.y
  pub bottom : p.y ≤ℤ (r.bottom +ℤ pos 1)

pub record Sourced (closed : Bool) (r : Rect64) (path : List Point64) (paths : List (List Point64)) : Type 0 where
  pub source : (q : List Point64) → Memᴰ q paths → (p : Point64) → Memᴰ p q → Source closed r path p
  pub close_by : (q : List Point64) → Memᴰ q paths → (p : Point64) → Memᴰ p q → AtMostOneOutside r p

-- Demand 3 of the paths that are returned of a path: each point has its source and is at most one unit outside; of a closed path that is
-- walked, the areas add up.
pub record Exactness (closed : Bool) (r : Rect64) (path : List Point64) (paths : List (List Point64)) : Type 0 where
  pub sourced : Sourced closed r path paths
  pub area : T closed → AreaKept r path paths

-- ---- demand 3, of the definitions
-- A store is bounded where a list of 4,294,967,295 entries, the number `none`, has no room for one more. Every call's is, since W is at
-- most 65,536. Without the bound the statement fails: a node with that number would be taken for no node.
abbrev pub Bounded : (ℕ → Bool) → Type 0
Bounded full = (n : ℕ) → full n ≡ false → n < none

-- of every bounded store, every allowance, every rectangle and path within the coordinate limit, closed or open; `coords` are the path's
-- coordinates. Proved in proofs/ClosedArea.antt.
abbrev pub Demand3 : Type 0
Demand3 = (closed : Bool) (full : ℕ → Bool) (A : ℕ) (r : Rect64) (coords : List ℤ) (d : Drawing) → Bounded full → T (rect_in_limit r) → T (all_in_limit coords)
    → drawing_of closed full A r (points_of coords) ≡ ok d → Exactness closed r (points_of coords) d.0
