-- `is_clockwise_dir` asks whether a binary64 cross product is below 0. Within the coordinate limit, where its mid point is too, that is the test of the
-- whole cross product: differences are at most 2 ^ 26, products 2 ^ 52 and their difference 2 ^ 53, so nothing is rounded. Statements only; proofs/CrossProduct.antt.
use Rattle.std.specs.Prelude.{◌≡◌, ℤ, pos, ◌-ℤ◌, ◌*ℤ◌}
use Rattle.std.specs.Int.Signed.{lt_z}
use Rattle.plane.specs.Limit.{Limited, LimitedRect}
use Rattle.plane.specs.Rectangle.{mid_point}
use Rattle.plane.specs.Signs.{cross_product_is_negative}
use Rattle.plane.specs.declared.point.Point64.{Point64}
use Rattle.plane.specs.declared.rect.Rect64.{Rect64}

-- the cross product of the turn p1, p2, p3 in whole numbers
abbrev pub cross_product : Point64 → Point64 → Point64 → ℤ
cross_product p1 p2 p3 = (p2.x -ℤ p1.x) *ℤ (p3.y -ℤ p2.y) -ℤ (p2.y -ℤ p1.y) *ℤ (p3.x -ℤ p2.x)

abbrev pub CrossProductExact : Type 0
CrossProductExact = (p1 p2 p3 : Point64) → Limited p1 → Limited p2 → Limited p3 → cross_product_is_negative p1 p2 p3 ≡ lt_z (cross_product p1 p2 p3) (pos 0)

abbrev pub MidPointLimited : Type 0
MidPointLimited = (r : Rect64) → LimitedRect r → Limited (mid_point r)
