-- What the functions ask of their points and lists: coordinates within the limit, or one unit past it, as a crossing's may be.
use Rattle.std.specs.Prelude.{List, ℕ, ◌%◌, ◌/◌, ◌≤◌, ◌<◌, length, ℤ, pos, negsuc, nat_abs, ◌-ℤ◌, ◌*ℤ◌, ◌≡◌}
use Rattle.std.specs.declared.cmp.Ordering.{Ordering}
use Rattle.std.specs.declared.cmp.Ordering.TheVariants.{Less, Equal, Greater}
use Rattle.plane.specs.Points.{points_of, pt_at}
use Rattle.plane.specs.declared.point.Point64.{Point64}
use Rattle.rectclip.specs.declared.segment.Products.{Products}

-- one unit past the limit: where a crossing is cut to whole numbers it may lie one unit outside the rectangle
pub record Reached (p : Point64) : Type 0 where
  pub across : nat_abs p.x ≤ 33554433
  pub down : nat_abs p.y ≤ 33554433

-- three points that a cross product is formed of
pub record Turn (p q r : Point64) : Type 0 where
  pub first : Reached p
  pub second : Reached q
  pub third : Reached r

-- the products of `cross_product_sign`
abbrev pub cross_products : Point64 → Point64 → Point64 → Products
cross_products p1 p2 p3 = record { ab = (p2.x -ℤ p1.x) *ℤ (p3.y -ℤ p2.y); cd = (p2.y -ℤ p1.y) *ℤ (p3.x -ℤ p2.x) }

-- the number that the definition has for a sign
abbrev pub sign_of : Ordering → ℤ
sign_of Less = negsuc 0
sign_of Equal = pos 0
sign_of Greater = pos 1

-- a polygon's coordinates, and the point that it is asked about, are within reach
pub record Vertices (pt : Point64) (coords : List ℤ) : Type 0 where
  pub even : length coords % 2 ≡ 0
  pub asked : Reached pt
  pub vertex : (i : ℕ) → i < length coords / 2 → Reached (pt_at (points_of coords) i)

-- each point of the second path may be asked about the first
pub record BothPaths (path1 path2 : List ℤ) : Type 0 where
  pub even : length path2 % 2 ≡ 0
  pub asked : (i : ℕ) → i < length path2 / 2 → Vertices (pt_at (points_of path2) i) path1
