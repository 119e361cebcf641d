-- Products and orders: signs, monotony, cancellation.
use Rattle.std.specs.Prelude.{◌≡◌, [], ◌∷◌, ◌⊎◌, ℤ, pos, ◌*ℤ◌, ◌≤ℤ◌, ◌<ℤ◌}
use Rattle.std.proofs.Common.{inl, inr, ⊎_elim}
use Rattle.std.specs.Int.Signed.{clash_ℤ}
use Rattle.integers.specs.Order.{zint}
use Rattle.integers.specs.Tests.{tri, lt_or_le}
use Rattle.integers.specs.Ring.{Ex, con, v0, v1, v2, ◌⊗◌}
use Rattle.integers.specs.Certify.{◌≼◌, ◌≺◌, hyp, ◌⊞◌, ◌⊠◌, certify_le, certify_lt}

abbrev O : Ex
O = con (pos 0)

pub pos_pos : (a b : ℤ) → pos 0 <ℤ a → pos 0 <ℤ b → pos 0 <ℤ (a *ℤ b)
pos_pos a b p q = certify_lt (a ∷ b ∷ []) (O ≺ v0 ∷ O ≺ v1 ∷ []) O (v0 ⊗ v1) (hyp 0 ⊠ hyp 1 ⊞ hyp 0 ⊞ hyp 1) tt (p, (q, tt))

pub neg_pos : (a b : ℤ) → a <ℤ pos 0 → pos 0 <ℤ b → (a *ℤ b) <ℤ pos 0
neg_pos a b p q = certify_lt (a ∷ b ∷ []) (v0 ≺ O ∷ O ≺ v1 ∷ []) (v0 ⊗ v1) O (hyp 0 ⊠ hyp 1 ⊞ hyp 0 ⊞ hyp 1) tt (p, (q, tt))

pub pos_neg : (a b : ℤ) → pos 0 <ℤ a → b <ℤ pos 0 → (a *ℤ b) <ℤ pos 0
pos_neg a b p q = certify_lt (a ∷ b ∷ []) (O ≺ v0 ∷ v1 ≺ O ∷ []) (v0 ⊗ v1) O (hyp 0 ⊠ hyp 1 ⊞ hyp 0 ⊞ hyp 1) tt (p, (q, tt))

pub neg_neg : (a b : ℤ) → a <ℤ pos 0 → b <ℤ pos 0 → pos 0 <ℤ (a *ℤ b)
neg_neg a b p q = certify_lt (a ∷ b ∷ []) (v0 ≺ O ∷ v1 ≺ O ∷ []) O (v0 ⊗ v1) (hyp 0 ⊠ hyp 1 ⊞ hyp 0 ⊞ hyp 1) tt (p, (q, tt))

pub mul_le_r : (a b c : ℤ) → a ≤ℤ b → pos 0 ≤ℤ c → (a *ℤ c) ≤ℤ (b *ℤ c)
mul_le_r a b c p q = certify_le (a ∷ b ∷ c ∷ []) (v0 ≼ v1 ∷ O ≼ v2 ∷ []) (v0 ⊗ v2) (v1 ⊗ v2) (hyp 0 ⊠ hyp 1) tt (p, (q, tt))

pub mul_le_neg_r : (a b c : ℤ) → a ≤ℤ b → c ≤ℤ pos 0 → (b *ℤ c) ≤ℤ (a *ℤ c)
mul_le_neg_r a b c p q = certify_le (a ∷ b ∷ c ∷ []) (v0 ≼ v1 ∷ v2 ≼ O ∷ []) (v1 ⊗ v2) (v0 ⊗ v2) (hyp 0 ⊠ hyp 1) tt (p, (q, tt))

pub mul_lt_r : (a b c : ℤ) → a <ℤ b → pos 0 <ℤ c → (a *ℤ c) <ℤ (b *ℤ c)
mul_lt_r a b c p q = certify_lt (a ∷ b ∷ c ∷ []) (v0 ≺ v1 ∷ O ≺ v2 ∷ []) (v0 ⊗ v2) (v1 ⊗ v2) (hyp 0 ⊠ hyp 1 ⊞ hyp 0 ⊞ hyp 1) tt (p, (q, tt))

-- ---- cancellation
pub cancel_le : (a b c : ℤ) → pos 0 <ℤ c → (a *ℤ c) ≤ℤ (b *ℤ c) → a ≤ℤ b
cancel_le a b c h g = ⊎_elim (λ p. clash_ℤ (mul_lt_r b a c p h) g) (λ p. p) (lt_or_le b a)

pub cancel_lt : (a b c : ℤ) → pos 0 <ℤ c → (a *ℤ c) <ℤ (b *ℤ c) → a <ℤ b
cancel_lt a b c h g = ⊎_elim (λ p. p) (λ p. clash_ℤ g (mul_le_r b a c p (omega zint))) (lt_or_le a b)

pub cancel_eq : (a b c : ℤ) → pos 0 <ℤ c → a *ℤ c ≡ b *ℤ c → a ≡ b
cancel_eq a b c h e =
    let p : a ≤ℤ b = cancel_le a b c h (omega zint) in
    let q : b ≤ℤ a = cancel_le b a c h (omega zint) in
    omega zint

-- ---- a product that is 0
pub mul-zero : (a b : ℤ) → a *ℤ b ≡ pos 0 → (a ≡ pos 0) ⊎ (b ≡ pos 0)
mul-zero a b e = go (tri a (pos 0)) (tri b (pos 0))
  where
    none : pos 0 <ℤ (a *ℤ b) → ⊥
    none h = omega zint

    none' : (a *ℤ b) <ℤ pos 0 → ⊥
    none' h = omega zint

    go : (a <ℤ pos 0) ⊎ ((a ≡ pos 0) ⊎ (pos 0 <ℤ a)) → (b <ℤ pos 0) ⊎ ((b ≡ pos 0) ⊎ (pos 0 <ℤ b)) → (a ≡ pos 0) ⊎ (b ≡ pos 0)
    go (inr (inl p)) q = inl p
    go (inl p) (inr (inl q)) = inr q
    go (inr (inr p)) (inr (inl q)) = inr q
    go (inl p) (inl q) = absurd (none (neg_neg a b p q))
    go (inl p) (inr (inr q)) = absurd (none' (neg_pos a b p q))
    go (inr (inr p)) (inl q) = absurd (none' (pos_neg a b p q))
    go (inr (inr p)) (inr (inr q)) = absurd (none (pos_pos a b p q))
