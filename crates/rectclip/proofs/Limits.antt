-- What the coordinate limit says of each point of a path and of each corner of the rectangle. Assumes nothing.
use mathlib.Core.Path.{◌≡◌}
use mathlib.Core.Bool.{true}
use mathlib.Core.List.{List, [], ◌∷◌}
use Prim.Native.Nat.{ℕ, zero, suc, ◌≤◌}
use native.Mathlib.Omega.{arith}
use borrow.Author.Tests.{leb-true}
use lib.IntN.{ℤ, nat_abs}
use Rattle.plane.proofs.Limits.{rect_limited}
use Rattle.plane.specs.declared.rect.Rect64.{Rect64}
use Rattle.plane.specs.declared.location.Location.{Location}
use Rattle.plane.specs.declared.location.Location.TheVariants.{Left, Top, Right, Bottom, Inside}
use Rattle.plane.specs.Limit.{in_limit, all_in_limit, rect_in_limit, Limited, LimitedRect}
use Rattle.plane.specs.Points.{pt_at, points_of}
use Rattle.plane.specs.Rectangle.{corner}
use Rattle.integers.specs.Tests.{T_of}
use Rattle.rectclip.specs.Bounds.{Reached}
use Rattle.theorems.proofs.Tests.{both}

within : (z : ℤ) → in_limit z ≡ true → nat_abs z ≤ 33554432
within z e = leb-true _ _ e

pub path_limited : (path : List ℤ) → all_in_limit path ≡ true → (i : ℕ) → Limited (pt_at (points_of path) i)
path_limited [] e i = record { across = omega arith; down = omega arith }
path_limited (x ∷ []) e i = record { across = omega arith; down = omega arith }
path_limited (x ∷ y ∷ path) e zero = let (a, b) = both (in_limit x) _ e in record { across = within x a; down = within y (both (in_limit y) _ b).0 }
path_limited (x ∷ y ∷ path) e (suc i) = path_limited path (both (in_limit y) _ (both (in_limit x) _ e).1).1 i

pub framed : (r : Rect64) → rect_in_limit r ≡ true → LimitedRect r
framed r e = rect_limited r (T_of e)

pub close_corner : (r : Rect64) (loc : Location) → rect_in_limit r ≡ true → Reached (corner r loc)
close_corner r Left e = let F = framed r e in record { across = omega (arith, F.left); down = omega (arith, F.top) }
close_corner r Top e = let F = framed r e in record { across = omega (arith, F.right); down = omega (arith, F.top) }
close_corner r Right e = let F = framed r e in record { across = omega (arith, F.right); down = omega (arith, F.bottom) }
close_corner r Bottom e = let F = framed r e in record { across = omega (arith, F.left); down = omega (arith, F.bottom) }
close_corner r Inside e = let F = framed r e in record { across = omega (arith, F.left); down = omega (arith, F.top) }
