-- Orders over ℤ that are not linear, by a certificate: the goal's gap is a sum of products of the hypotheses' gaps, of squares
-- and of numbers, and a number of ℕ is left over. `certify ρ hs g c tt ps` checks that by `Ring`'s polynomials.
-- For what is linear `omega zint` of `Order` needs no certificate.
use Rattle.std.specs.Prelude.{◌≡◌, refl, Bool, true, ◌&&◌, List, [], ◌∷◌, ℕ, zero, suc, ◌+◌, ◌≤◌, T, ◌≤ℤ◌, ◌<ℤ◌}
use Rattle.std.proofs.Common.{◌∙◌, ap, subst, arith}
use Rattle.std.specs.Float.Ieee.Fits.{and_l, and_r}
use lib.IntN.{ℤ, pos, negsuc, ◌+ℤ◌, ◌-ℤ◌, ◌*ℤ◌, zero-*ℤ}
use Rattle.std.specs.Int.Signed.{≤ℤ_refl, non_neg}
use Rattle.integers.specs.Order.{zint, pp, nn, le→, eq→, add_pn, sub_pn, mul_pn}
use Rattle.integers.specs.Ring.{Ex, con, ◌⊕◌, ◌⊖◌, ◌⊗◌, ev, Term, tm, norm, ev_p, ev_m, norm_ok, is_z, isZ_ok}

infix 70 ◌≼◌ ◌≺◌ ◌≈◌
pub data Rel : Type 0 where
  ◌≼◌ : Ex → Ex → Rel
  ◌≺◌ : Ex → Ex → Rel
  ◌≈◌ : Ex → Ex → Rel

abbrev pub Holds : List ℤ → Rel → Type 0
Holds ρ (a ≼ b) = ev ρ a ≤ℤ ev ρ b
Holds ρ (a ≺ b) = ev ρ a <ℤ ev ρ b
Holds ρ (a ≈ b) = ev ρ a ≡ ev ρ b

abbrev pub HoldAll : List ℤ → List Rel → Type 0
HoldAll ρ [] = Unit {0}
HoldAll ρ (r ∷ rs) = Holds ρ r × HoldAll ρ rs

-- what is at least 0 where r holds
abbrev gap : Rel → Ex
gap (a ≼ b) = b ⊖ a
gap (a ≺ b) = b ⊖ a ⊖ con (pos 1)
gap (a ≈ b) = b ⊖ a

-- what is 0 where r holds
abbrev nil : Rel → Ex
nil (a ≼ b) = con (pos 0)
nil (a ≺ b) = con (pos 0)
nil (a ≈ b) = b ⊖ a

infixl 60 ◌⊞◌
infixl 70 ◌⊠◌
pub data Cert : Type 0 where
  hyp : ℕ → Cert
  num : ℕ → Cert
  sqr : Ex → Cert
  times : Ex → ℕ → Cert
  ◌⊞◌ : Cert → Cert → Cert
  ◌⊠◌ : Cert → Cert → Cert

abbrev at : List Rel → ℕ → Rel
at [] i = con (pos 0) ≼ con (pos 0)
at (r ∷ rs) zero = r
at (r ∷ rs) (suc i) = at rs i

abbrev pub cexp : List Rel → Cert → Ex
cexp hs (hyp i) = gap (at hs i)
cexp hs (num m) = con (pos m)
cexp hs (sqr e) = e ⊗ e
cexp hs (times e i) = e ⊗ nil (at hs i)
cexp hs (c ⊞ d) = cexp hs c ⊕ cexp hs d
cexp hs (c ⊠ d) = cexp hs c ⊗ cexp hs d

-- a polynomial that is a number of ℕ
abbrev is_nat : List Term → Bool
is_nat [] = true
is_nat (tm c [] ∷ p) = non_neg c && is_nat p
is_nat (tm c (x ∷ m) ∷ p) = is_z c && is_nat p

abbrev pub checks : List Rel → Rel → Cert → Bool
checks hs g c = is_nat (norm (gap g ⊖ cexp hs c))

abbrev pub checks' : ℕ → List Rel → Rel → Cert → Bool
checks' d hs g c = is_nat (norm (con (pos (suc d)) ⊗ gap g ⊕ con (pos d) ⊖ cexp hs c))

-- ---- at least 0
pub nn_scaled : (d : ℕ) (x : ℤ) → pos 0 ≤ℤ (pos (suc d) *ℤ x +ℤ pos d) → pos 0 ≤ℤ x
nn_scaled d (pos n) h = omega zint
nn_scaled d (negsuc n) h = absurd (none d n (le→ h))
  where
    none : (d n : ℕ) → pp (pos 0) + nn (pos (suc d) *ℤ negsuc n +ℤ pos d) ≤ pp (pos (suc d) *ℤ negsuc n +ℤ pos d) + nn (pos 0) → ⊥
    none d n h = omega (arith, add_pn (pos (suc d) *ℤ negsuc n) (pos d), mul_pn (suc d) (negsuc n))

pub nn_add : {a b : ℤ} → pos 0 ≤ℤ a → pos 0 ≤ℤ b → pos 0 ≤ℤ (a +ℤ b)
nn_add {a} {b} p q = omega (zint, add_pn a b)

pub nn_mul : {a b : ℤ} → pos 0 ≤ℤ a → pos 0 ≤ℤ b → pos 0 ≤ℤ (a *ℤ b)
nn_mul {a} {b} p q = go a b p q
  where
    go : (a b : ℤ) → pos 0 ≤ℤ a → pos 0 ≤ℤ b → pos 0 ≤ℤ (a *ℤ b)
    go (pos a) (pos b) p q = omega zint
    go (pos a) (negsuc b) p q = absurd q.le
    go (negsuc a) b p q = absurd p.le

pub nn_sq : (a : ℤ) → pos 0 ≤ℤ (a *ℤ a)
nn_sq (pos a) = omega zint
nn_sq (negsuc a) = omega zint

pub nn_le : {a b : ℤ} → a ≤ℤ b → pos 0 ≤ℤ (b -ℤ a)
nn_le {a} {b} p = omega (zint, sub_pn b a)

pub le_nn : {a b : ℤ} → pos 0 ≤ℤ (b -ℤ a) → a ≤ℤ b
le_nn {a} {b} p = omega (zint, sub_pn b a)

pub nn_lt : {a b : ℤ} → a <ℤ b → pos 0 ≤ℤ (b -ℤ a -ℤ pos 1)
nn_lt {a} {b} p = omega (zint, sub_pn b a, sub_pn (b -ℤ a) (pos 1))

pub lt_nn : {a b : ℤ} → pos 0 ≤ℤ (b -ℤ a -ℤ pos 1) → a <ℤ b
lt_nn {a} {b} p = omega (zint, sub_pn b a, sub_pn (b -ℤ a) (pos 1))

sub_self : (a b : ℤ) → a ≡ b → b -ℤ a ≡ pos 0
sub_self a b e = omega (zint, sub_pn b a, eq→ e)

nn_zero : {z : ℤ} → z ≡ pos 0 → pos 0 ≤ℤ z
nn_zero {z} e = omega (zint, eq→ e)

module _ (ρ : List ℤ) where
  gap_nn : (r : Rel) → Holds ρ r → pos 0 ≤ℤ ev ρ (gap r)
  gap_nn (a ≼ b) p = nn_le p
  gap_nn (a ≺ b) p = nn_lt p
  gap_nn (a ≈ b) p = nn_zero (sub_self (ev ρ a) (ev ρ b) p)

  nil_0 : (r : Rel) → Holds ρ r → ev ρ (nil r) ≡ pos 0
  nil_0 (a ≼ b) p = refl
  nil_0 (a ≺ b) p = refl
  nil_0 (a ≈ b) p = sub_self (ev ρ a) (ev ρ b) p

  at_holds : (hs : List Rel) → HoldAll ρ hs → (i : ℕ) → Holds ρ (at hs i)
  at_holds [] ps i = ≤ℤ_refl (pos 0)
  at_holds (r ∷ rs) ps zero = ps.0
  at_holds (r ∷ rs) ps (suc i) = at_holds rs ps.1 i

  cexp_nn : (hs : List Rel) → HoldAll ρ hs → (c : Cert) → pos 0 ≤ℤ ev ρ (cexp hs c)
  cexp_nn hs ps (hyp i) = gap_nn (at hs i) (at_holds hs ps i)
  cexp_nn hs ps (num m) = omega zint
  cexp_nn hs ps (sqr e) = nn_sq (ev ρ e)
  cexp_nn hs ps (times e i) = nn_zero (ap (λ (z : ℤ). ev ρ e *ℤ z) (nil_0 (at hs i) (at_holds hs ps i)) ∙ lib.IntN.*ℤ-zero (ev ρ e))
  cexp_nn hs ps (c ⊞ d) = nn_add (cexp_nn hs ps c) (cexp_nn hs ps d)
  cexp_nn hs ps (c ⊠ d) = nn_mul (cexp_nn hs ps c) (cexp_nn hs ps d)

  nonNeg_nn : (c : ℤ) → T (non_neg c) → pos 0 ≤ℤ (c *ℤ pos 1)
  nonNeg_nn (pos c) t = omega zint
  nonNeg_nn (negsuc c) t = absurd t

  isNat_nn : (p : List Term) → T (is_nat p) → pos 0 ≤ℤ ev_p ρ p
  isNat_nn [] t = ≤ℤ_refl (pos 0)
  isNat_nn (tm c [] ∷ p) t = nn_add (nonNeg_nn c (and_l (non_neg c) (is_nat p) t)) (isNat_nn p (and_r (non_neg c) (is_nat p) t))
  isNat_nn (tm c (x ∷ m) ∷ p) t =
      nn_add (nn_zero (ap (λ (z : ℤ). z *ℤ ev_m ρ (x ∷ m)) (isZ_ok ρ c (and_l (is_z c) (is_nat p) t)) ∙ zero-*ℤ (ev_m ρ (x ∷ m)))) (isNat_nn p (and_r (is_z c) (is_nat p) t))

  gap_holds : (hs : List Rel) (g : Rel) (c : Cert) → T (checks hs g c) → HoldAll ρ hs → pos 0 ≤ℤ ev ρ (gap g)
  gap_holds hs g c t ps =
      let x = ev ρ (gap g) in
      let y = ev ρ (cexp hs c) in
      let p : pos 0 ≤ℤ y = cexp_nn hs ps c in
      let q : pos 0 ≤ℤ (x -ℤ y) = subst (λ (z : ℤ). pos 0 ≤ℤ z) (norm_ok ρ (gap g ⊖ cexp hs c)) (isNat_nn (norm (gap g ⊖ cexp hs c)) t) in
      omega (zint, sub_pn x y)

  -- an order from its certificate
  pub certify_le : (hs : List Rel) (a b : Ex) (c : Cert) → T (checks hs (a ≼ b) c) → HoldAll ρ hs → ev ρ a ≤ℤ ev ρ b
  certify_le hs a b c t ps = le_nn (gap_holds hs (a ≼ b) c t ps)

  pub certify_lt : (hs : List Rel) (a b : Ex) (c : Cert) → T (checks hs (a ≺ b) c) → HoldAll ρ hs → ev ρ a <ℤ ev ρ b
  certify_lt hs a b c t ps = lt_nn (gap_holds hs (a ≺ b) c t ps)

  -- an equation, by a certificate each way
  pub certify_eq : (hs : List Rel) (a b : Ex) (c d : Cert) → T (checks hs (a ≼ b) c && checks hs (b ≼ a) d) → HoldAll ρ hs → ev ρ a ≡ ev ρ b
  certify_eq hs a b c d t ps =
      let p : ev ρ a ≤ℤ ev ρ b = certify_le hs a b c (and_l (checks hs (a ≼ b) c) (checks hs (b ≼ a) d) t) ps in
      let q : ev ρ b ≤ℤ ev ρ a = certify_le hs b a d (and_r (checks hs (a ≼ b) c) (checks hs (b ≼ a) d) t) ps in
      omega zint

  -- hypotheses that cannot all hold
  pub certify_no : (hs : List Rel) (c : Cert) → T (checks hs (con (pos 0) ≺ con (pos 0)) c) → HoldAll ρ hs → ⊥
  certify_no hs c t ps = (certify_lt hs (con (pos 0)) (con (pos 0)) c t ps).lt

  -- the same where the gap is to be multiplied first: (d + 1) gap + d is the certificate's sum and a number of ℕ, so the gap, which
  -- is whole, is at least 0. For a certificate with fractions, and for rounding (0 < 2 x gives 1 ≤ x)
  gap_holds' : (d : ℕ) (hs : List Rel) (g : Rel) (c : Cert) → T (checks' d hs g c) → HoldAll ρ hs → pos 0 ≤ℤ ev ρ (gap g)
  gap_holds' d hs g c t ps =
      let x = ev ρ (gap g) in
      let y = ev ρ (cexp hs c) in
      let z = pos (suc d) *ℤ x +ℤ pos d in
      let p : pos 0 ≤ℤ y = cexp_nn hs ps c in
      let q : pos 0 ≤ℤ (z -ℤ y) = subst (λ (z : ℤ). pos 0 ≤ℤ z) (norm_ok ρ (con (pos (suc d)) ⊗ gap g ⊕ con (pos d) ⊖ cexp hs c)) (isNat_nn (norm (con (pos (suc d)) ⊗ gap g ⊕ con (pos d) ⊖ cexp hs c)) t) in
      let r : pos 0 ≤ℤ z = omega (zint, sub_pn z y) in
      nn_scaled d x r

  pub certify_le' : (d : ℕ) (hs : List Rel) (a b : Ex) (c : Cert) → T (checks' d hs (a ≼ b) c) → HoldAll ρ hs → ev ρ a ≤ℤ ev ρ b
  certify_le' d hs a b c t ps = le_nn (gap_holds' d hs (a ≼ b) c t ps)

  pub certify_lt' : (d : ℕ) (hs : List Rel) (a b : Ex) (c : Cert) → T (checks' d hs (a ≺ b) c) → HoldAll ρ hs → ev ρ a <ℤ ev ρ b
  certify_lt' d hs a b c t ps = lt_nn (gap_holds' d hs (a ≺ b) c t ps)
