-- The binary64 cross product of three points within the coordinate limit is the whole one; the mid point is within the limit. Assumes nothing.
use mathlib.Core.Path.{◌≡◌, refl}
use Prim.Native.Nat.{ℕ, zero, suc, ◌/◌}
use native.Mathlib.Omega.{arith}
use lib.IntN.{ℤ, pos, negsuc, neg_ℤ, nat_abs, ◌+ℤ◌, ◌-ℤ◌}
use lib.Signed.{quot_z}
use Rattle.integers.specs.Order.{abs_add}
use Rattle.rounding.specs.Coordinate.{Limit}
use Rattle.rounding.proofs.Whole.{Is}
use Rattle.rounding.proofs.Exact.{difference_is, difference_small, cross_is}
use Rattle.rounding.proofs.Inside.{below_zero}
use Rattle.plane.specs.Limit.{Limited}
use Rattle.plane.specs.Signs.{cross_product_three_points, cross_product_is_negative}
use Rattle.plane.specs.CrossProduct.{cross_product, CrossProductExact, MidPointLimited}
use Rattle.plane.specs.declared.point.Point64.{Point64}

cross_product_is : (p1 p2 p3 : Point64) → Limited p1 → Limited p2 → Limited p3 → Is (cross_product_three_points p1 p2 p3) (cross_product p1 p2 p3)
unfolding cross_product_three_points
cross_product_is p1 p2 p3 h i j =
    cross_is _ _ _ _ (p2.x -ℤ p1.x) (p3.y -ℤ p2.y) (p2.y -ℤ p1.y) (p3.x -ℤ p2.x)
    (difference_is p2.x p1.x i.across h.across) (difference_is p3.y p2.y j.down i.down) (difference_is p2.y p1.y i.down h.down) (difference_is p3.x p2.x j.across i.across)
    (difference_small p2.x p1.x i.across h.across) (difference_small p3.y p2.y j.down i.down) (difference_small p2.y p1.y i.down h.down) (difference_small p3.x p2.x j.across i.across)

pub cross_product_exact : CrossProductExact
unfolding cross_product_is_negative
cross_product_exact p1 p2 p3 h i j = below_zero (cross_product_three_points p1 p2 p3) (cross_product p1 p2 p3) (cross_product_is p1 p2 p3 h i j)

-- ---- the mid point
half_size : (z : ℤ) → nat_abs (quot_z z (pos 2)) ≡ nat_abs z / 2
half_size (pos a) = refl
half_size (negsuc a) = size (suc a / 2)
  where
    size : (n : ℕ) → nat_abs (neg_ℤ (pos n)) ≡ n
    size zero = refl
    size (suc n) = refl

middle_limited : (a b : ℤ) → Limit a → Limit b → Limit (quot_z (a +ℤ b) (pos 2))
middle_limited a b h k = let e = half_size (a +ℤ b) in let m = abs_add a b in omega arith

pub mid_point_limited : MidPointLimited
mid_point_limited r h = record { across = middle_limited r.left r.right h.left h.right; down = middle_limited r.top r.bottom h.top h.bottom }
