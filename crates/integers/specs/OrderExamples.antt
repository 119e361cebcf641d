-- Worked uses of `omega (zint, ..)`, `lin` and `omega ztest`: orders, sums, ranges and tests of the code.
use Rattle.std.specs.Prelude.{◌≡◌, ◌≤◌, ℤ, pos, negsuc, nat_abs, ◌+ℤ◌, ◌-ℤ◌, ◌*ℤ◌, ◌≤ℤ◌, ◌<ℤ◌, [], ◌∷◌, true, false}
use Rattle.std.proofs.Common.{⊎_elim, SFits}
use Rattle.std.specs.Int.{w64}
use Rattle.integers.specs.Order.{zint, add_pn, sub_pn, mul_pn, abs_pn, parts, abs_sub}
use Rattle.integers.specs.Ring.{con, v0, v1, v2, ◌⊕◌, ◌⊖◌}
use Rattle.integers.specs.Linear.{lin}
use Rattle.std.specs.Int.Signed.{lt_z, le_z}
use Rattle.integers.specs.Tests.{ztest}

t1 : (a b c : ℤ) → a ≤ℤ b → b <ℤ c → a <ℤ c
t1 a b c h g = omega zint

t2 : (a b c d : ℤ) → a ≤ℤ b → c ≤ℤ d → (a +ℤ c) ≤ℤ (b +ℤ d)
t2 a b c d h g = omega (zint, add_pn a c, add_pn b d)

t3 : (a b c d : ℤ) → a ≤ℤ b → c <ℤ d → (a -ℤ d) <ℤ (b -ℤ c)
t3 a b c d h g = omega (zint, sub_pn a d, sub_pn b c)

t4 : (a b : ℤ) → a +ℤ b -ℤ a ≡ b
t4 a b = omega (zint, sub_pn (a +ℤ b) a, add_pn a b)

t5 : (a b : ℤ) → nat_abs a ≤ 33554432 → nat_abs b ≤ 33554432 → (a -ℤ b) ≤ℤ pos 67108864
t5 a b h g = omega (zint, sub_pn a b, abs_pn a, abs_pn b)

t6 : (a : ℤ) → pos 0 ≤ℤ a → negsuc 4 <ℤ a
t6 a h = omega zint

t7 : (a b : ℤ) → negsuc 33554431 ≤ℤ a → a ≤ℤ pos 33554432 → b ≡ pos 2 *ℤ a → b <ℤ pos 67108865
t7 a b h g e = omega (zint, mul_pn 2 a)

-- one fact for a long sum
t8 : (a b c d : ℤ) → a ≤ℤ b → c ≤ℤ d → (a +ℤ c -ℤ pos 3 +ℤ (a -ℤ d)) ≤ℤ (b +ℤ b)
t8 a b c d h g = omega (zint, lin (a ∷ c ∷ d ∷ []) (v0 ⊕ v1 ⊖ con (pos 3) ⊕ (v0 ⊖ v2)), add_pn b b)

-- a test's fact, and an equation of ℤ among the hypotheses, by the rule `eq→`
t9 : (a b c : ℤ) → a ≡ b → b <ℤ c → a <ℤ c
t9 a b c e h = omega zint

-- a range, as the code's type asks it
t10 : (a b : ℤ) → nat_abs a ≤ 33554432 → nat_abs b ≤ 33554432 → SFits w64 (a -ℤ b)
t10 a b h g = omega (zint, abs_sub a b)

-- ⊥ from a clash
t11 : (a b : ℤ) → a <ℤ b → (b +ℤ pos 1) ≤ℤ a → ⊥
t11 a b h g = omega (zint, add_pn b (pos 1))

-- the absolute value from two orders
t12 : (a : ℤ) → negsuc 33554431 ≤ℤ a → a ≤ℤ pos 33554432 → nat_abs a ≤ 33554432
t12 a h g = ⊎_elim (λ e. omega (zint, abs_pn a)) (λ e. omega (zint, abs_pn a)) (parts a)

-- tests of the code among the hypotheses
t13 : (a b c : ℤ) → lt_z a b ≡ true → lt_z c b ≡ false → a <ℤ c
t13 a b c h g = omega ztest

t14 : (a b : ℤ) → le_z a b ≡ true → le_z b a ≡ true → a ≡ b
t14 a b h g = omega ztest
