-- `held_between` meets its contract. Assumes nothing.
use Rattle.std.proofs.Common.{◌≡◌, ℤ, ◌∙◌, ap, arith, to_z-of_z}
use Rattle.std.proofs.lemmas.Int.{ints}
use Rattle.std.specs.Int.{int_min, int_max}
use Rattle.integers.specs.Tests.{back}
use Rattle.plane.specs.Rectangle.{max, min}
use Rattle.plane.proofs.point.held_between.Goals as goal

-- of two equal numbers std's is the first, and the definition's the second
int_min_is : (a b : ℤ) → int_min a b ≡ min a b
int_min_is a b = grind (arith, ints)

pub returns : goal.returns
returns c =
    let a = c.ranges.a in
    let b = c.ranges.b in
    let z = c.ranges.z in
    let low = back c.min.type_inv (simp to_z-of_z at c.min.ensures.value) ∙ int_min_is c.args.a c.args.b in
    let high = back c.max.type_inv (simp to_z-of_z at c.max.ensures.value) in
    let held = back c.clamp.type_inv (simp to_z-of_z at c.clamp.ensures.value) in
    held ∙ (λ i. int_max (low i) (int_min c.args.z (high i))) ∙ ap (int_max (min c.args.a c.args.b)) (int_min_is c.args.z (max c.args.a c.args.b))
