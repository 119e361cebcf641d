-- Worked certificates.
use Rattle.std.specs.Prelude.{◌≡◌, [], ◌∷◌, ℤ, pos, ◌+ℤ◌, ◌-ℤ◌, ◌*ℤ◌, ◌≤ℤ◌, ◌<ℤ◌}
use Rattle.integers.specs.Ring.{Ex, con, v0, v1, v2, v3, ◌⊕◌, ◌⊖◌, ◌⊗◌, ⊝}
use Rattle.integers.specs.Certify.{◌≼◌, ◌≺◌, ◌≈◌, hyp, sqr, times, ◌⊞◌, ◌⊠◌, certify_le, certify_lt, certify_eq, certify_no, certify_le'}

abbrev O : Ex
O = con (pos 0)

-- signs
neg_pos : (a b : ℤ) → a <ℤ pos 0 → pos 0 <ℤ b → (a *ℤ b) <ℤ pos 0
neg_pos a b p q = certify_lt (a ∷ b ∷ []) (v0 ≺ O ∷ O ≺ v1 ∷ []) (v0 ⊗ v1) O (hyp 0 ⊠ hyp 1 ⊞ hyp 0 ⊞ hyp 1) tt (p, (q, tt))

-- monotony
mono : (a b c : ℤ) → a ≤ℤ b → pos 0 ≤ℤ c → (a *ℤ c) ≤ℤ (b *ℤ c)
mono a b c p q = certify_le (a ∷ b ∷ c ∷ []) (v0 ≼ v1 ∷ O ≼ v2 ∷ []) (v0 ⊗ v2) (v1 ⊗ v2) (hyp 0 ⊠ hyp 1) tt (p, (q, tt))

-- a point of a segment lies between its ends: with 0 ≤ t ≤ d and x0 ≤ x1, d x0 ≤ d x0 + t (x1 − x0) ≤ d x1
between : (t d x0 x1 : ℤ) → pos 0 ≤ℤ t → t ≤ℤ d → x0 ≤ℤ x1 → (d *ℤ x0 +ℤ t *ℤ (x1 -ℤ x0)) ≤ℤ (d *ℤ x1)
between t d x0 x1 p q r =
    certify_le (t ∷ d ∷ x0 ∷ x1 ∷ []) (O ≼ v0 ∷ v0 ≼ v1 ∷ v2 ≼ v3 ∷ []) (v1 ⊗ v2 ⊕ v0 ⊗ (v3 ⊖ v2)) (v1 ⊗ v3) (hyp 1 ⊠ hyp 2) tt (p, (q, (r, tt)))

-- Cauchy: (ac + bd)² ≤ (a² + b²)(c² + d²)
cauchy : (a b c d : ℤ) → ((a *ℤ c +ℤ b *ℤ d) *ℤ (a *ℤ c +ℤ b *ℤ d)) ≤ℤ ((a *ℤ a +ℤ b *ℤ b) *ℤ (c *ℤ c +ℤ d *ℤ d))
cauchy a b c d =
    certify_le (a ∷ b ∷ c ∷ d ∷ []) [] ((v0 ⊗ v2 ⊕ v1 ⊗ v3) ⊗ (v0 ⊗ v2 ⊕ v1 ⊗ v3)) ((v0 ⊗ v0 ⊕ v1 ⊗ v1) ⊗ (v2 ⊗ v2 ⊕ v3 ⊗ v3)) (sqr (v0 ⊗ v3 ⊖ v1 ⊗ v2)) tt tt

-- from an equation: a = b gives a c = b c
scaled : (a b c : ℤ) → a ≡ b → a *ℤ c ≡ b *ℤ c
scaled a b c e = certify_eq (a ∷ b ∷ c ∷ []) (v0 ≈ v1 ∷ []) (v0 ⊗ v2) (v1 ⊗ v2) (times v2 0) (times (⊝ v2) 0) tt (e, tt)

-- what cannot be
clash : (a b : ℤ) → a <ℤ b → b <ℤ a → ⊥
clash a b p q = certify_no (a ∷ b ∷ []) (v0 ≺ v1 ∷ v1 ≺ v0 ∷ []) (hyp 0 ⊞ hyp 1) tt (p, (q, tt))

-- rounding: 0 < 2 x gives 1 ≤ x
half_up : (x : ℤ) → pos 0 <ℤ (pos 2 *ℤ x) → pos 1 ≤ℤ x
half_up x p = certify_le' (x ∷ []) 1 (O ≺ con (pos 2) ⊗ v0 ∷ []) (con (pos 1)) v0 (hyp 0) tt (p, tt)
