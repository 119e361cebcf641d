-- Worked uses of `fits`, `mo_is` and `lt_is`: a product of differences fits an `i64`, what the machine reads of it, and a test of two such.
use Rattle.std.specs.Prelude.{◌≡◌, List, [], ◌∷◌, ◌≤◌, ℤ, nat_abs, ◌-ℤ◌, ◌*ℤ◌}
use Rattle.std.specs.Int.Signed.{lt_z}
use Rattle.std.specs.Int.{w64}
use Rattle.std.proofs.Common.{SFits}
use Rattle.integers.specs.Ring.{Ex, v0, v1, v2, ◌⊖◌, ◌⊗◌}
use Rattle.integers.specs.Bound.{Num, par, rd, fits, mo_is, lt_is}

module _ (a b c : ℤ) (ha : nat_abs a ≤ 33554432) (hb : nat_abs b ≤ 33554432) (hc : nat_abs c ≤ 33554432) where
  abbrev numbers : List Num
  numbers = par a 33554432 ha tt ∷ par b 33554432 hb tt ∷ par c 33554432 hc tt ∷ []

  abbrev product : Ex
  product = (v0 ⊖ v1) ⊗ (v2 ⊖ v1)

  product_fits : SFits w64 (rd (rd a -ℤ rd b) *ℤ rd (rd c -ℤ rd b))
  product_fits = fits numbers product tt

  product_is : rd (rd (rd a -ℤ rd b) *ℤ rd (rd c -ℤ rd b)) ≡ (a -ℤ b) *ℤ (c -ℤ b)
  product_is = mo_is numbers product tt

  test_is : lt_z (rd (rd a -ℤ rd b)) (rd c) ≡ lt_z (a -ℤ b) c
  test_is = lt_is numbers (v0 ⊖ v1) v2 tt
