-- What a sign's tests say, and the tests of `at_end`, as the definitions have them. Assumes nothing.
use mathlib.Core.Path.{◌≡◌, refl, sym, ◌∙◌}
use mathlib.Core.Bool.{Bool, true, false, ◌||◌}
use lib.IntN.{pos}
use lib.Signed.{lt_z}
use Rattle.std.specs.Ordering.{is_eq, is_gt, is_lt}
use Rattle.std.specs.declared.cmp.Ordering.{Ordering}
use Rattle.std.specs.declared.cmp.Ordering.TheVariants.{Less, Equal, Greater}
use Rattle.integers.specs.Tests.{eq_z}
use Rattle.std.specs.Bool.{then_some}
use Rattle.std.specs.Prelude.{if◌then◌else◌, Some, None}
use Rattle.plane.specs.contracts.point.Point64PartialEq.TheImpl as of_points
use Rattle.plane.specs.Points.{same_point}
use Rattle.plane.specs.declared.point.Point64.{Point64}
use Rattle.plane.proofs.Equality.{same_point_is}
use Rattle.rectclip.specs.Bounds.{sign_of}

-- what is asked of a sign is what the definition asks of its number
pub sign_zero : (o : Ordering) → is_eq o ≡ eq_z (sign_of o) (pos 0)
sign_zero Less = refl
sign_zero Equal = refl
sign_zero Greater = refl

pub sign_positive : (o : Ordering) → is_gt o ≡ lt_z (pos 0) (sign_of o)
sign_positive Less = refl
sign_positive Equal = refl
sign_positive Greater = refl

pub sign_negative : (o : Ordering) → is_lt o ≡ lt_z (sign_of o) (pos 0)
sign_negative Less = refl
sign_negative Equal = refl
sign_negative Greater = refl

-- whether a point is an end of a segment
pub is_end : (p a b : Point64) {x y t : Bool} → x ≡ of_points.ghosts.eq p a → y ≡ of_points.ghosts.eq p b → (x || y) ≡ t → (same_point p a || same_point p b) ≡ t
is_end p a b ex ey h = sym (λ i. (ex ∙ same_point_is p a) i || (ey ∙ same_point_is p b) i) ∙ h

-- `then_some` is the test
pub then_some_is : (b : Bool) (p : Point64) → then_some b p ≡ (if b then Some p else None)
then_some_is true p = refl
then_some_is false p = refl
