-- Tests and what they decide: signs of multiples, a number between two others, the two tests of `on`.
use mathlib.Core.Path.{◌≡◌, refl, sym, ◌∙◌, ap, subst}
use mathlib.Core.Bool.{Bool, true, false, cond, ◌||◌}
use mathlib.Core.List.{[], ◌∷◌}
use mathlib.Core.Logic.{◌⊎◌, inl, inr}
use lib.Dec.{T}
use lib.IntN.{ℤ, pos, negsuc, ◌+ℤ◌, ◌-ℤ◌, ◌*ℤ◌, *ℤ-zero}
use lib.Signed.{lt_z, ◌≤ℤ◌, ◌<ℤ◌}
use Rattle.integers.specs.Order.{zint, sub_pn, eq→}
use Rattle.integers.specs.Tests.{tri, lt_or_le, eq_z, lt_ltZ, le_ltZ, eq_eqZ, ne_eqZ}
use Rattle.integers.specs.Sign.{pos_pos, pos_neg, neg_pos, neg_neg}
use Rattle.integers.specs.Ring.{Ex, con, v0, v1, v2, v3, ◌⊕◌, ◌⊗◌}
use Rattle.integers.specs.Certify.{◌≼◌, ◌≺◌, ◌≈◌, hyp, times, ◌⊞◌, ◌⊠◌, certify_no}
use Rattle.theorems.proofs.GeoPlane.{sign, zero?, up?, same}

-- b is the answer to the question P
abbrev pub Decides : Bool → Type 0 → Type 0
Decides b P = ((b ≡ true) × P) ⊎ ((b ≡ false) × (P → ⊥))

pub yes_of : {b : Bool} {P : Type 0} → Decides b P → b ≡ true → P
yes_of (inl h) e = h.1
yes_of (inr h) e = absurd (subst T (sym e ∙ h.0) tt)

pub is_yes : {b : Bool} {P : Type 0} → Decides b P → P → b ≡ true
is_yes (inl h) p = h.0
is_yes (inr h) p = absurd (h.1 p)

pub decided : {b c : Bool} {P Q : Type 0} → c ≡ b → (P → Q) → (Q → P) → Decides b P → Decides c Q
decided e f g (inl h) = inl (e ∙ h.0, f h.1)
decided e f g (inr h) = inr (e ∙ h.0, λ q. h.1 (g q))

abbrev pub NonZero : ℤ → Type 0
NonZero e = (pos 0 <ℤ e) ⊎ (e <ℤ pos 0)

-- ---- the sign of a number
sign_up : (z : ℤ) → pos 0 <ℤ z → sign z ≡ pos 1
sign_up z h = λ i. cond (lt_ltZ (pos 0) z h i) (pos 1) (cond (lt_z z (pos 0)) (negsuc 0) (pos 0))

sign_down : (z : ℤ) → z <ℤ pos 0 → sign z ≡ negsuc 0
sign_down z h = λ i. cond (le_ltZ (pos 0) z (omega zint) i) (pos 1) (cond (lt_ltZ z (pos 0) h i) (negsuc 0) (pos 0))

pub zero_yes : (z : ℤ) → z ≡ pos 0 → zero? z ≡ true
zero_yes z e = ap zero? e

pub zero_no : (z : ℤ) → NonZero z → zero? z ≡ false
zero_no z (inl h) = ap (λ (s : ℤ). eq_z s (pos 0)) (sign_up z h)
zero_no z (inr h) = ap (λ (s : ℤ). eq_z s (pos 0)) (sign_down z h)

pub up_yes : (z : ℤ) → pos 0 <ℤ z → up? z ≡ true
up_yes z h = ap (λ (s : ℤ). lt_z (pos 0) s) (sign_up z h)

pub up_no : (z : ℤ) → z <ℤ pos 0 → up? z ≡ false
up_no z h = ap (λ (s : ℤ). lt_z (pos 0) s) (sign_down z h)

-- ---- multiples by a number that is not 0
pub times_zero : (e u : ℤ) → u ≡ pos 0 → e *ℤ u ≡ pos 0
times_zero e u q = ap (λ (z : ℤ). e *ℤ z) q ∙ *ℤ-zero e

pub times_nonzero : (e u : ℤ) → NonZero e → NonZero u → NonZero (e *ℤ u)
times_nonzero e u (inl p) (inl q) = inl (pos_pos e u p q)
times_nonzero e u (inl p) (inr q) = inr (pos_neg e u p q)
times_nonzero e u (inr p) (inl q) = inr (neg_pos e u p q)
times_nonzero e u (inr p) (inr q) = inl (neg_neg e u p q)

-- two multiples of equal sign, of unequal sign
pub alike : (e u v : ℤ) → NonZero e → ((pos 0 <ℤ u) × (pos 0 <ℤ v)) ⊎ ((u <ℤ pos 0) × (v <ℤ pos 0)) → same (up? (e *ℤ u)) (up? (e *ℤ v)) ≡ true
alike e u v (inl p) (inl h) = λ i. same (up_yes (e *ℤ u) (pos_pos e u p h.0) i) (up_yes (e *ℤ v) (pos_pos e v p h.1) i)
alike e u v (inl p) (inr h) = λ i. same (up_no (e *ℤ u) (pos_neg e u p h.0) i) (up_no (e *ℤ v) (pos_neg e v p h.1) i)
alike e u v (inr p) (inl h) = λ i. same (up_no (e *ℤ u) (neg_pos e u p h.0) i) (up_no (e *ℤ v) (neg_pos e v p h.1) i)
alike e u v (inr p) (inr h) = λ i. same (up_yes (e *ℤ u) (neg_neg e u p h.0) i) (up_yes (e *ℤ v) (neg_neg e v p h.1) i)

pub unlike : (e u v : ℤ) → NonZero e → ((pos 0 <ℤ u) × (v <ℤ pos 0)) ⊎ ((u <ℤ pos 0) × (pos 0 <ℤ v)) → same (up? (e *ℤ u)) (up? (e *ℤ v)) ≡ false
unlike e u v (inl p) (inl h) = λ i. same (up_yes (e *ℤ u) (pos_pos e u p h.0) i) (up_no (e *ℤ v) (pos_neg e v p h.1) i)
unlike e u v (inl p) (inr h) = λ i. same (up_no (e *ℤ u) (pos_neg e u p h.0) i) (up_yes (e *ℤ v) (pos_pos e v p h.1) i)
unlike e u v (inr p) (inl h) = λ i. same (up_no (e *ℤ u) (neg_pos e u p h.0) i) (up_yes (e *ℤ v) (neg_neg e v p h.1) i)
unlike e u v (inr p) (inr h) = λ i. same (up_yes (e *ℤ u) (neg_neg e u p h.0) i) (up_no (e *ℤ v) (neg_pos e v p h.1) i)

-- ---- y between a and b, ends included: the three tests of `on`, along one axis
abbrev pub ranged : ℤ → ℤ → ℤ → Bool
ranged y a b = cond (eq_z y a || eq_z y b) true (same (lt_z a y) (lt_z y b))

pub ranged_up : (y a b : ℤ) → a <ℤ b → Decides (ranged y a b) ((a ≤ℤ y) × (y ≤ℤ b))
ranged_up y a b ab = go (tri y a) (tri y b)
  where
    val : {s t m n : Bool} → eq_z y a ≡ s → eq_z y b ≡ t → lt_z a y ≡ m → lt_z y b ≡ n → ranged y a b ≡ cond (s || t) true (same m n)
    val e f g h = λ i. cond (e i || f i) true (same (g i) (h i))

    go : (y <ℤ a) ⊎ ((y ≡ a) ⊎ (a <ℤ y)) → (y <ℤ b) ⊎ ((y ≡ b) ⊎ (b <ℤ y)) → Decides (ranged y a b) ((a ≤ℤ y) × (y ≤ℤ b))
    go (inr (inl e)) q = inl ((λ i. cond (eq_eqZ y a e i || eq_z y b) true (same (lt_z a y) (lt_z y b))), (omega (zint, eq→ e), omega (zint, eq→ e)))
    go (inl p) q = inr (val (ne_eqZ y a (λ e. omega (zint, eq→ e))) (ne_eqZ y b (λ e. omega (zint, eq→ e))) (le_ltZ a y (omega zint)) (lt_ltZ y b (omega zint)), λ h. omega (zint, h.0))
    go (inr (inr p)) (inl q) = inl (val (ne_eqZ y a (λ e. omega (zint, eq→ e))) (ne_eqZ y b (λ e. omega (zint, eq→ e))) (lt_ltZ a y p) (lt_ltZ y b q), (omega zint, omega zint))
    go (inr (inr p)) (inr (inl e)) = inl (val (ne_eqZ y a (λ e. omega (zint, eq→ e))) (eq_eqZ y b e) refl refl, (omega zint, omega (zint, eq→ e)))
    go (inr (inr p)) (inr (inr q)) = inr (val (ne_eqZ y a (λ e. omega (zint, eq→ e))) (ne_eqZ y b (λ e. omega (zint, eq→ e))) (lt_ltZ a y p) (le_ltZ y b (omega zint)), λ h. omega (zint, h.1))

pub ranged_down : (y a b : ℤ) → b <ℤ a → Decides (ranged y a b) ((b ≤ℤ y) × (y ≤ℤ a))
ranged_down y a b ba = go (tri y a) (tri y b)
  where
    val : {s t m n : Bool} → eq_z y a ≡ s → eq_z y b ≡ t → lt_z a y ≡ m → lt_z y b ≡ n → ranged y a b ≡ cond (s || t) true (same m n)
    val e f g h = λ i. cond (e i || f i) true (same (g i) (h i))

    go : (y <ℤ a) ⊎ ((y ≡ a) ⊎ (a <ℤ y)) → (y <ℤ b) ⊎ ((y ≡ b) ⊎ (b <ℤ y)) → Decides (ranged y a b) ((b ≤ℤ y) × (y ≤ℤ a))
    go (inr (inl e)) q = inl ((λ i. cond (eq_eqZ y a e i || eq_z y b) true (same (lt_z a y) (lt_z y b))), (omega (zint, eq→ e), omega (zint, eq→ e)))
    go (inr (inr p)) q = inr (val (ne_eqZ y a (λ e. omega (zint, eq→ e))) (ne_eqZ y b (λ e. omega (zint, eq→ e))) (lt_ltZ a y p) (le_ltZ y b (omega zint)), λ h. omega (zint, h.1))
    go (inl p) (inl q) = inr (val (ne_eqZ y a (λ e. omega (zint, eq→ e))) (ne_eqZ y b (λ e. omega (zint, eq→ e))) (le_ltZ a y (omega zint)) (lt_ltZ y b q), λ h. omega (zint, h.0))
    go (inl p) (inr (inl e)) = inl (val (ne_eqZ y a (λ e. omega (zint, eq→ e))) (eq_eqZ y b e) refl refl, (omega (zint, eq→ e), omega zint))
    go (inl p) (inr (inr q)) = inl (val (ne_eqZ y a (λ e. omega (zint, eq→ e))) (ne_eqZ y b (λ e. omega (zint, eq→ e))) (le_ltZ a y (omega zint)) (le_ltZ y b (omega zint)), (omega zint, omega zint))

-- ---- a point of a segment strictly between its ends: along each axis it lies between, or all three agree
abbrev O : Ex
O = con (pos 0)

pub between : (u v y a b : ℤ) → ((u <ℤ pos 0) × (pos 0 <ℤ v)) ⊎ ((v <ℤ pos 0) × (pos 0 <ℤ u)) → v *ℤ (y -ℤ a) +ℤ u *ℤ (b -ℤ y) ≡ pos 0 → same (lt_z a y) (lt_z y b) ≡ true
between u v y a b s e = go (lt_or_le a y) (lt_or_le y b)
  where
    up_flat : (u v z w : ℤ) → ((u <ℤ pos 0) × (pos 0 <ℤ v)) ⊎ ((v <ℤ pos 0) × (pos 0 <ℤ u)) → v *ℤ z +ℤ u *ℤ w ≡ pos 0 → pos 0 <ℤ z → w ≤ℤ pos 0 → ⊥
    up_flat u v z w (inl h) e p q =
        certify_no (u ∷ v ∷ z ∷ w ∷ []) (v0 ≺ O ∷ O ≺ v1 ∷ O ≺ v2 ∷ v3 ≼ O ∷ (v1 ⊗ v2 ⊕ v0 ⊗ v3) ≈ O ∷ []) (hyp 1 ⊠ hyp 2 ⊞ hyp 1 ⊞ hyp 2 ⊞ hyp 0 ⊠ hyp 3 ⊞ hyp 3 ⊞ times (con (pos 1)) 4) tt (h.0, (h.1, (p, (q, (e, tt)))))
    up_flat u v z w (inr h) e p q =
        certify_no (u ∷ v ∷ z ∷ w ∷ []) (O ≺ v0 ∷ v1 ≺ O ∷ O ≺ v2 ∷ v3 ≼ O ∷ (v1 ⊗ v2 ⊕ v0 ⊗ v3) ≈ O ∷ []) (hyp 1 ⊠ hyp 2 ⊞ hyp 1 ⊞ hyp 2 ⊞ hyp 0 ⊠ hyp 3 ⊞ hyp 3 ⊞ times (con (negsuc 0)) 4) tt (h.1, (h.0, (p, (q, (e, tt)))))

    flat_up : (u v z w : ℤ) → ((u <ℤ pos 0) × (pos 0 <ℤ v)) ⊎ ((v <ℤ pos 0) × (pos 0 <ℤ u)) → v *ℤ z +ℤ u *ℤ w ≡ pos 0 → z ≤ℤ pos 0 → pos 0 <ℤ w → ⊥
    flat_up u v z w (inl h) e p q =
        certify_no (u ∷ v ∷ z ∷ w ∷ []) (v0 ≺ O ∷ O ≺ v1 ∷ v2 ≼ O ∷ O ≺ v3 ∷ (v1 ⊗ v2 ⊕ v0 ⊗ v3) ≈ O ∷ []) (hyp 1 ⊠ hyp 2 ⊞ hyp 2 ⊞ hyp 0 ⊠ hyp 3 ⊞ hyp 0 ⊞ hyp 3 ⊞ times (con (negsuc 0)) 4) tt (h.0, (h.1, (p, (q, (e, tt)))))
    flat_up u v z w (inr h) e p q =
        certify_no (u ∷ v ∷ z ∷ w ∷ []) (O ≺ v0 ∷ v1 ≺ O ∷ v2 ≼ O ∷ O ≺ v3 ∷ (v1 ⊗ v2 ⊕ v0 ⊗ v3) ≈ O ∷ []) (hyp 1 ⊠ hyp 2 ⊞ hyp 2 ⊞ hyp 0 ⊠ hyp 3 ⊞ hyp 0 ⊞ hyp 3 ⊞ times (con (pos 1)) 4) tt (h.1, (h.0, (p, (q, (e, tt)))))

    go : (a <ℤ y) ⊎ (y ≤ℤ a) → (y <ℤ b) ⊎ (b ≤ℤ y) → same (lt_z a y) (lt_z y b) ≡ true
    go (inl p) (inl q) = λ i. same (lt_ltZ a y p i) (lt_ltZ y b q i)
    go (inr p) (inr q) = λ i. same (le_ltZ a y p i) (le_ltZ y b q i)
    go (inl p) (inr q) = absurd (up_flat u v (y -ℤ a) (b -ℤ y) s e (omega (zint, sub_pn y a)) (omega (zint, sub_pn b y)))
    go (inr p) (inl q) = absurd (flat_up u v (y -ℤ a) (b -ℤ y) s e (omega (zint, sub_pn y a)) (omega (zint, sub_pn b y)))
