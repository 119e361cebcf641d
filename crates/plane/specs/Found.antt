-- What is promised of a crossing's point. Definitions only.
use Rattle.std.specs.Prelude.{ℕ, ◌<◌, ◌≡◌, nat_abs, ◌-ℤ◌, Option, Some}
use Rattle.rounding.specs.Coordinate.{exact, Near, Crosses}
use Rattle.plane.specs.declared.point.Point64.{Point64}

-- r is a point, and on each axis it is less than 1 + 2 ^ -25 away from the point n / d of the way from a to b
pub record Found (a b : Point64) (n d : ℕ) (r : Option Point64) : Type 0 where
  pub point : Point64
  pub is : r ≡ Some point
  pub near_x : Near point.x (exact a.x b.x n d) d
  pub near_y : Near point.y (exact a.y b.y n d) d

-- What is promised where the edge from c to d is parallel to an axis and the segment from a to b passes its line. n and d are the start's distances from the edge and from the segment's end, across the edge.
pub record NearCrossing (a b c d : Point64) (r : Option Point64) : Type 0 where
  pub upright : d.x ≡ c.x → 0 < nat_abs (d.y -ℤ c.y) → Crosses a.x c.x b.x → Found a b (nat_abs (a.x -ℤ c.x)) (nat_abs (a.x -ℤ b.x)) r
  pub level : d.y ≡ c.y → 0 < nat_abs (d.x -ℤ c.x) → Crosses a.y c.y b.y → Found a b (nat_abs (a.y -ℤ c.y)) (nat_abs (a.y -ℤ b.y)) r
