-- Tests of ℤ and the facts that they stand for, both ways; trichotomy.
use Rattle.std.specs.Prelude.{◌≡◌, refl, Bool, true, false, not, cond, ◌&&◌, ◌⊎◌, ℕ, zero, suc, ◌+◌, ◌^◌, ◌≤◌, ◌<◌, T, leb, eqb, ℤ, pos, negsuc, neg_ℤ, nat_abs, ◌-ℤ◌, ◌≤ℤ◌, ◌<ℤ◌}
use Rattle.std.proofs.Common.{sym, ◌∙◌, ap, subst, inl, inr, leb→le, eqb-true, eq-eqb, ne_eqb, SFits, to_z, of_z, to_z-of_z}
use Rattle.std.proofs.Math.Dec.{leb-zero, leb-suc-zero, leb-suc-suc}
use Rattle.std.specs.Int.Signed.{mag, lt_z, le_z, lt_z_no, clash_ℤ}
use Rattle.std.specs.Int.{w64}
use Rattle.integers.specs.Order.{zint, pp, nn, sub_pn, le→, lt→, eq→}

pub T_of : {b : Bool} → b ≡ true → T b
T_of e = subst T (sym e) tt

pub T_not_of : {b : Bool} → b ≡ false → T (not b)
T_not_of e = subst (λ (b : Bool). T (not b)) (sym e) tt

is_true : (b : Bool) → T b → b ≡ true
is_true true h = refl
is_true false h = absurd h

is_false : (b : Bool) → (T b → ⊥) → b ≡ false
is_false true h = absurd (h tt)
is_false false h = refl

-- ---- a test's outcome gives the fact
pub ltZ_true : {a b : ℤ} → lt_z a b ≡ true → a <ℤ b
ltZ_true e = record { lt = T_of e }

pub ltZ_false : {a b : ℤ} → lt_z a b ≡ false → b ≤ℤ a
ltZ_false e = lt_z_no (T_not_of e)

pub leZ_true : {a b : ℤ} → le_z a b ≡ true → a ≤ℤ b
leZ_true e = record { le = T_of e }

pub leZ_false : {a b : ℤ} → le_z a b ≡ false → b <ℤ a
leZ_false {a} {b} e = go (lt_z b a) refl
  where
    go : (t : Bool) → lt_z b a ≡ t → b <ℤ a
    go true q = ltZ_true q
    go false q = absurd (subst T e (ltZ_false {a = b} {b = a} q).le)

-- ---- the fact gives the test's outcome
pub lt_ltZ : (a b : ℤ) → a <ℤ b → lt_z a b ≡ true
lt_ltZ a b h = is_true (lt_z a b) h.lt

pub le_ltZ : (a b : ℤ) → b ≤ℤ a → lt_z a b ≡ false
le_ltZ a b h = is_false (lt_z a b) (λ t. clash_ℤ {a = a} {b = b} (record { lt = t }) h)

pub le_leZ : (a b : ℤ) → a ≤ℤ b → le_z a b ≡ true
le_leZ a b h = is_true (le_z a b) h.le

pub lt_leZ : (a b : ℤ) → b <ℤ a → le_z a b ≡ false
lt_leZ a b h = is_false (le_z a b) (λ t. clash_ℤ {a = b} {b = a} h (record { le = t }))

-- ---- three cases
pub tri : (a b : ℤ) → (a <ℤ b) ⊎ ((a ≡ b) ⊎ (b <ℤ a))
tri a b = go (lt_z a b) refl (lt_z b a) refl
  where
    go : (s : Bool) → lt_z a b ≡ s → (t : Bool) → lt_z b a ≡ t → (a <ℤ b) ⊎ ((a ≡ b) ⊎ (b <ℤ a))
    go true p t q = inl (ltZ_true p)
    go false p true q = inr (inr (ltZ_true q))
    go false p false q =
        let h : b ≤ℤ a = ltZ_false p in
        let g : a ≤ℤ b = ltZ_false q in
        inr (inl (omega zint))

pub lt_or_le : (a b : ℤ) → (a <ℤ b) ⊎ (b ≤ℤ a)
lt_or_le a b = go (lt_z a b) refl
  where
    go : (s : Bool) → lt_z a b ≡ s → (a <ℤ b) ⊎ (b ≤ℤ a)
    go true p = inl (ltZ_true p)
    go false p = inr (ltZ_false p)

-- ---- a test of a difference against 0
pub ltZ_sub : (a b : ℤ) → lt_z (pos 0) (b -ℤ a) ≡ lt_z a b
ltZ_sub a b = go (lt_z a b) refl
  where
    go : (t : Bool) → lt_z a b ≡ t → lt_z (pos 0) (b -ℤ a) ≡ t
    go true e = let h : a <ℤ b = ltZ_true e in lt_ltZ (pos 0) (b -ℤ a) (omega (zint, sub_pn b a))
    go false e = let h : b ≤ℤ a = ltZ_false e in le_ltZ (pos 0) (b -ℤ a) (omega (zint, sub_pn b a))

pub ltZ_sub' : (a b : ℤ) → lt_z (b -ℤ a) (pos 0) ≡ lt_z b a
ltZ_sub' a b = go (lt_z b a) refl
  where
    go : (t : Bool) → lt_z b a ≡ t → lt_z (b -ℤ a) (pos 0) ≡ t
    go true e = let h : b <ℤ a = ltZ_true e in lt_ltZ (b -ℤ a) (pos 0) (omega (zint, sub_pn b a))
    go false e = let h : a ≤ℤ b = ltZ_false e in le_ltZ (b -ℤ a) (pos 0) (omega (zint, sub_pn b a))

-- ---- equality: the test `eq_z`, and `==` of two signed numbers, which tests their bits
abbrev pub eq_z : ℤ → ℤ → Bool
eq_z (pos a) (pos b) = eqb a b
eq_z (pos a) (negsuc b) = false
eq_z (negsuc a) (pos b) = false
eq_z (negsuc a) (negsuc b) = eqb a b

pub eqZ_true : {a b : ℤ} → eq_z a b ≡ true → a ≡ b
eqZ_true {a} {b} e = go a b e
  where
    go : (a b : ℤ) → eq_z a b ≡ true → a ≡ b
    go (pos a) (pos b) e = ap pos (eqb-true a b e)
    go (pos a) (negsuc b) e = absurd (T_of e)
    go (negsuc a) (pos b) e = absurd (T_of e)
    go (negsuc a) (negsuc b) e = ap negsuc (eqb-true a b e)

refl_eqZ : (a : ℤ) → eq_z a a ≡ true
refl_eqZ (pos a) = eq-eqb a a refl
refl_eqZ (negsuc a) = eq-eqb a a refl

pub eq_eqZ : (a b : ℤ) → a ≡ b → eq_z a b ≡ true
eq_eqZ a b e = subst (λ (z : ℤ). eq_z a z ≡ true) e (refl_eqZ a)

pub eqZ_false : {a b : ℤ} → eq_z a b ≡ false → a ≡ b → ⊥
eqZ_false {a} {b} e q = subst T (sym (eq_eqZ a b q) ∙ e) tt

pub ne_eqZ : (a b : ℤ) → (a ≡ b → ⊥) → eq_z a b ≡ false
ne_eqZ a b h = is_false (eq_z a b) (λ t. h (eqZ_true (is_true (eq_z a b) t)))

pub ofZ_inj : {a b : ℤ} → SFits w64 a → SFits w64 b → of_z w64 a ≡ of_z w64 b → a ≡ b
ofZ_inj {a} {b} fa fb e = sym (to_z-of_z fa) ∙ ap (to_z w64) e ∙ to_z-of_z fb

pub bits_eqZ : {a b : ℤ} → SFits w64 a → SFits w64 b → eqb (of_z w64 a) (of_z w64 b) ≡ eq_z a b
bits_eqZ {a} {b} fa fb = go (eq_z a b) refl
  where
    go : (t : Bool) → eq_z a b ≡ t → eqb (of_z w64 a) (of_z w64 b) ≡ t
    go true e = eq-eqb (of_z w64 a) (of_z w64 b) (ap (of_z w64) (eqZ_true {a = a} {b = b} e))
    go false e = ne_eqb (of_z w64 a) (of_z w64 b) (λ q. eqZ_false {a = a} {b = b} e (ofZ_inj fa fb q))

-- ---- a test on what the machine reads back, as a test of the numbers
module _ {a b : ℤ} (fa : SFits w64 a) (fb : SFits w64 b) where
  pub lt_plain : {t : Bool} → lt_z (to_z w64 (of_z w64 a)) (to_z w64 (of_z w64 b)) ≡ t → lt_z a b ≡ t
  lt_plain e = sym (λ i. lt_z (to_z-of_z fa i) (to_z-of_z fb i)) ∙ e

  pub le_plain : {t : Bool} → le_z (to_z w64 (of_z w64 a)) (to_z w64 (of_z w64 b)) ≡ t → le_z a b ≡ t
  le_plain e = sym (λ i. le_z (to_z-of_z fa i) (to_z-of_z fb i)) ∙ e

-- for `simp (plain, f) at test`, f the record or the facts that each number fits
pub ruleset plain = (to_z-of_z, bits_eqZ)

-- ---- a choice by a test
pub cond_true {ℓ} : {A : Type ℓ} (b : Bool) (x y : A) → b ≡ true → cond b x y ≡ x
cond_true true x y e = refl
cond_true false x y e = absurd (subst T (sym e) tt)

pub cond_false {ℓ} : {A : Type ℓ} (b : Bool) (x y : A) → b ≡ false → cond b x y ≡ y
cond_false true x y e = absurd (subst T e tt)
cond_false false x y e = refl

-- a difference is 0
pub eqZ_sub : (a b : ℤ) → eq_z (b -ℤ a) (pos 0) ≡ eq_z b a
eqZ_sub a b = go (eq_z b a) refl
  where
    go : (t : Bool) → eq_z b a ≡ t → eq_z (b -ℤ a) (pos 0) ≡ t
    go true e =
        let h : b ≡ a = eqZ_true e in
        eq_eqZ (b -ℤ a) (pos 0) (omega (zint, sub_pn b a, eq→ h))
    go false e =
        ne_eqZ (b -ℤ a) (pos 0) (λ q. eqZ_false {a = b} {b = a} e (omega (zint, sub_pn b a, eq→ q)))

-- ---- `==` and `!=` of two numbers in a condition hand over the equation of the bits
pub eq_plain : (a b : ℤ) → SFits w64 a → SFits w64 b → of_z w64 a ≡ of_z w64 b → eq_z a b ≡ true
eq_plain a b fa fb e = eq_eqZ a b (ofZ_inj fa fb e)

pub ne_plain : (a b : ℤ) → SFits w64 a → SFits w64 b → (of_z w64 a ≡ of_z w64 b → ⊥) → eq_z a b ≡ false
ne_plain a b fa fb h = ne_eqZ a b (λ e. h (ap (of_z w64) e))

-- ---- rules for `omega`: a test's outcome among the hypotheses counts as the order
pub lt_yes : (a b : ℤ) → lt_z a b ≡ true → pp a + nn b < pp b + nn a
lt_yes a b e = lt→ {a = a} {b = b} (ltZ_true e)

pub lt_no : (a b : ℤ) → lt_z a b ≡ false → pp b + nn a ≤ pp a + nn b
lt_no a b e = le→ {a = b} {b = a} (ltZ_false e)

pub le_yes : (a b : ℤ) → le_z a b ≡ true → pp a + nn b ≤ pp b + nn a
le_yes a b e = le→ {a = a} {b = b} (leZ_true e)

pub le_no : (a b : ℤ) → le_z a b ≡ false → pp b + nn a < pp a + nn b
le_no a b e = lt→ {a = b} {b = a} (leZ_false e)

pub eq_yes : (a b : ℤ) → eq_z a b ≡ true → pp a + nn b ≡ pp b + nn a
eq_yes a b e = eq→ {a = a} {b = b} (eqZ_true e)

pub ruleset ztest = (zint, lt_yes, lt_no, le_yes, le_no, eq_yes)

-- ---- a call's signed result r: what the machine reads of it is what the callee ensures. `back c.f.type_inv c.f.ensures`
pub back : {r z : ℤ} → mag r < 2 ^ 63 → r ≡ z → to_z w64 (of_z w64 r) ≡ z
back {r} {z} h e = to_z-of_z {w = w64} (record { sfits = h }) ∙ e

-- ---- the range check of the code, `(-B <= z) & (z <= B)`, is a test of the absolute value
pub range_is : (B : ℕ) (z : ℤ) → (le_z (neg_ℤ (pos B)) z && le_z z (pos B)) ≡ leb (nat_abs z) B
range_is zero (pos n) = ap (λ (t : Bool). t && leb n 0) (leb-zero n)
range_is (suc b) (pos n) = refl
range_is zero (negsuc n) = sym (leb-suc-zero n)
range_is (suc b) (negsuc n) = and_true (leb n b) ∙ sym (leb-suc-suc n b)
  where
    and_true : (t : Bool) → (t && true) ≡ t
    and_true true = refl
    and_true false = refl

pub range_yes : (B : ℕ) (z : ℤ) → (le_z (neg_ℤ (pos B)) z && le_z z (pos B)) ≡ true → nat_abs z ≤ B
range_yes B z e = leb→le (nat_abs z) B (T_of (sym (range_is B z) ∙ e))
