-- Bounds that are computed: an expression over numbers with known bounds fits an `i64`, and what the machine reads of it is its value.
use Rattle.std.specs.Prelude.{◌≡◌, refl, Bool, ◌&&◌, List, [], ◌∷◌, ℕ, zero, suc, ◌+◌, ◌*◌, ◌^◌, ◌≤◌, T, eqb, ltb, get_or, ℤ, pos, neg_ℤ, nat_abs, ◌+ℤ◌, ◌-ℤ◌, ◌*ℤ◌}
use Rattle.std.proofs.Common.{sym, ◌∙◌, ap, subst, le_trans, le_refl, arith, ltb→lt, SFits, to_z, of_z, to_z-of_z}
use Rattle.std.specs.Float.Ieee.Fits.{and_l, and_r}
use Rattle.std.specs.Int.Signed.{lt_z, le_z}
use Rattle.std.specs.Int.{w64}
use Rattle.integers.specs.Order.{abs_neg, abs_add, abs_sub, abs_mul_le, sfits_abs}
use Rattle.integers.specs.Tests.{eq_z, bits_eqZ}
use Rattle.integers.specs.Ring.{Ex, var, con, ◌⊕◌, ◌⊖◌, ◌⊗◌, ⊝, ev}

pub suc_le : {a b : ℕ} → a ≤ b → suc a ≤ suc b
suc_le h = omega arith

-- ---- a number as the machine has it: `m` is what it reads from its bits, `x` the number, `b` a bound of |x|
abbrev pub rd : ℤ → ℤ
rd z = to_z w64 (of_z w64 z)

pub record Num : Type 0 where
  pub m : ℤ
  pub x : ℤ
  pub b : ℕ
  pub is : m ≡ x
  pub lim : nat_abs x ≤ b

-- a parameter, a field, an element or a call's result: the goal has `to_z w64 (of_z w64 x)`
abbrev pub par : (x : ℤ) (b : ℕ) → nat_abs x ≤ b → T (ltb b (2 ^ 63)) → Num
par x b h t = record { m = rd x; x = x; b = b; is = to_z-of_z (sfits_abs (le_trans (suc_le h) (ltb→lt b (2 ^ 63) t))); lim = h }

-- a variable that a loop changes, which a goal has by its bits: the goal has `to_z w64 n`
abbrev pub loc : (n : ℕ) (b : ℕ) → nat_abs (to_z w64 n) ≤ b → Num
loc n b h = record { m = to_z w64 n; x = to_z w64 n; b = b; is = refl; lim = h }

abbrev pub zero_n : Num
zero_n = record { m = pos 0; x = pos 0; b = 0; is = refl; lim = le_refl 0 }

abbrev pub xs : List Num → List ℤ
xs [] = []
xs (a ∷ E) = a.x ∷ xs E

-- ---- a bound of an expression's value, computed
abbrev pub bnd : List Num → Ex → ℕ
bnd E (var i) = (get_or E i zero_n).b
bnd E (con c) = nat_abs c
bnd E (a ⊕ b) = bnd E a + bnd E b
bnd E (a ⊖ b) = bnd E a + bnd E b
bnd E (a ⊗ b) = bnd E a * bnd E b
bnd E (⊝ a) = bnd E a

x_at : (E : List Num) (i : ℕ) → get_or (xs E) i (pos 0) ≡ (get_or E i zero_n).x
x_at [] i = refl
x_at (a ∷ E) zero = refl
x_at (a ∷ E) (suc i) = x_at E i

pub bnd_ok : (E : List Num) (e : Ex) → nat_abs (ev (xs E) e) ≤ bnd E e
bnd_ok E (var i) = subst (λ (z : ℤ). nat_abs z ≤ (get_or E i zero_n).b) (sym (x_at E i)) (get_or E i zero_n).lim
bnd_ok E (con c) = le_refl (nat_abs c)
bnd_ok E (a ⊕ b) = omega (arith, abs_add (ev (xs E) a) (ev (xs E) b), bnd_ok E a, bnd_ok E b)
bnd_ok E (a ⊖ b) = omega (arith, abs_sub (ev (xs E) a) (ev (xs E) b), bnd_ok E a, bnd_ok E b)
bnd_ok E (a ⊗ b) = abs_mul_le (ev (xs E) a) (ev (xs E) b) (bnd_ok E a) (bnd_ok E b)
bnd_ok E (⊝ a) = subst (λ (n : ℕ). n ≤ bnd E a) (sym (abs_neg (ev (xs E) a))) (bnd_ok E a)

-- ---- what the machine reads of a computed value, and what an operation computes from its operands
abbrev pub mo : List Num → Ex → ℤ
mo E (var i) = (get_or E i zero_n).m
mo E (con c) = rd c
mo E (a ⊕ b) = rd (mo E a +ℤ mo E b)
mo E (a ⊖ b) = rd (mo E a -ℤ mo E b)
mo E (a ⊗ b) = rd (mo E a *ℤ mo E b)
mo E (⊝ a) = rd (neg_ℤ (mo E a))

abbrev pub op : List Num → Ex → ℤ
op E (var i) = (get_or E i zero_n).m
op E (con c) = c
op E (a ⊕ b) = mo E a +ℤ mo E b
op E (a ⊖ b) = mo E a -ℤ mo E b
op E (a ⊗ b) = mo E a *ℤ mo E b
op E (⊝ a) = neg_ℤ (mo E a)

-- each value on the way fits an `i64`
abbrev pub safe : List Num → Ex → Bool
safe E (var i) = ltb (get_or E i zero_n).b (2 ^ 63)
safe E (con c) = ltb (nat_abs c) (2 ^ 63)
safe E (a ⊕ b) = ltb (bnd E a + bnd E b) (2 ^ 63) && (safe E a && safe E b)
safe E (a ⊖ b) = ltb (bnd E a + bnd E b) (2 ^ 63) && (safe E a && safe E b)
safe E (a ⊗ b) = ltb (bnd E a * bnd E b) (2 ^ 63) && (safe E a && safe E b)
safe E (⊝ a) = safe E a

module _ (E : List Num) where
  below : (e : Ex) → T (ltb (bnd E e) (2 ^ 63)) → SFits w64 (ev (xs E) e)
  below e t = sfits_abs (le_trans (suc_le (bnd_ok E e)) (ltb→lt (bnd E e) (2 ^ 63) t))

  bnd_of : (e : Ex) → T (safe E e) → T (ltb (bnd E e) (2 ^ 63))
  bnd_of (var i) t = t
  bnd_of (con c) t = t
  bnd_of (a ⊕ b) t = and_l (ltb (bnd E a + bnd E b) (2 ^ 63)) (safe E a && safe E b) t
  bnd_of (a ⊖ b) t = and_l (ltb (bnd E a + bnd E b) (2 ^ 63)) (safe E a && safe E b) t
  bnd_of (a ⊗ b) t = and_l (ltb (bnd E a * bnd E b) (2 ^ 63)) (safe E a && safe E b) t
  bnd_of (⊝ a) t = bnd_of a t

  -- the expression's value fits
  pub ev_fits : (e : Ex) → T (safe E e) → SFits w64 (ev (xs E) e)
  ev_fits e t = below e (bnd_of e t)

  -- what the machine reads is the expression's value
  pub mo_is : (e : Ex) → T (safe E e) → mo E e ≡ ev (xs E) e
  mo_is (var i) t = (get_or E i zero_n).is ∙ sym (x_at E i)
  mo_is (con c) t = to_z-of_z (ev_fits (con c) t)
  mo_is (a ⊕ b) t =
      let u = and_r (ltb (bnd E a + bnd E b) (2 ^ 63)) (safe E a && safe E b) t in
      let p = mo_is a (and_l (safe E a) (safe E b) u) in
      let q = mo_is b (and_r (safe E a) (safe E b) u) in
      (λ i. rd (p i +ℤ q i)) ∙ to_z-of_z (ev_fits (a ⊕ b) t)
  mo_is (a ⊖ b) t =
      let u = and_r (ltb (bnd E a + bnd E b) (2 ^ 63)) (safe E a && safe E b) t in
      let p = mo_is a (and_l (safe E a) (safe E b) u) in
      let q = mo_is b (and_r (safe E a) (safe E b) u) in
      (λ i. rd (p i -ℤ q i)) ∙ to_z-of_z (ev_fits (a ⊖ b) t)
  mo_is (a ⊗ b) t =
      let u = and_r (ltb (bnd E a * bnd E b) (2 ^ 63)) (safe E a && safe E b) t in
      let p = mo_is a (and_l (safe E a) (safe E b) u) in
      let q = mo_is b (and_r (safe E a) (safe E b) u) in
      (λ i. rd (p i *ℤ q i)) ∙ to_z-of_z (ev_fits (a ⊗ b) t)
  mo_is (⊝ a) t = (λ i. rd (neg_ℤ (mo_is a t i))) ∙ to_z-of_z (ev_fits (⊝ a) t)

  pub op_is : (e : Ex) → T (safe E e) → op E e ≡ ev (xs E) e
  op_is (var i) t = mo_is (var i) t
  op_is (con c) t = refl
  op_is (a ⊕ b) t =
      let u = and_r (ltb (bnd E a + bnd E b) (2 ^ 63)) (safe E a && safe E b) t in
      λ i. mo_is a (and_l (safe E a) (safe E b) u) i +ℤ mo_is b (and_r (safe E a) (safe E b) u) i
  op_is (a ⊖ b) t =
      let u = and_r (ltb (bnd E a + bnd E b) (2 ^ 63)) (safe E a && safe E b) t in
      λ i. mo_is a (and_l (safe E a) (safe E b) u) i -ℤ mo_is b (and_r (safe E a) (safe E b) u) i
  op_is (a ⊗ b) t =
      let u = and_r (ltb (bnd E a * bnd E b) (2 ^ 63)) (safe E a && safe E b) t in
      λ i. mo_is a (and_l (safe E a) (safe E b) u) i *ℤ mo_is b (and_r (safe E a) (safe E b) u) i
  op_is (⊝ a) t = ap neg_ℤ (mo_is a t)

  -- what an operation asks: its exact result, on the operands as the machine reads them, fits
  pub fits : (e : Ex) → T (safe E e) → SFits w64 (op E e)
  fits e t = subst (λ (z : ℤ). SFits w64 z) (sym (op_is e t)) (ev_fits e t)

  -- what a test of two computed values says: the same of the expressions' values
  pub lt_is : (a b : Ex) → T (safe E a && safe E b) → lt_z (mo E a) (mo E b) ≡ lt_z (ev (xs E) a) (ev (xs E) b)
  lt_is a b t = λ i. lt_z (mo_is a (and_l (safe E a) (safe E b) t) i) (mo_is b (and_r (safe E a) (safe E b) t) i)

  pub le_is : (a b : Ex) → T (safe E a && safe E b) → le_z (mo E a) (mo E b) ≡ le_z (ev (xs E) a) (ev (xs E) b)
  le_is a b t = λ i. le_z (mo_is a (and_l (safe E a) (safe E b) t) i) (mo_is b (and_r (safe E a) (safe E b) t) i)

  -- `==` of two computed values, which tests their bits
  pub eq_is : (a b : Ex) → T (safe E a && safe E b) → eqb (of_z w64 (op E a)) (of_z w64 (op E b)) ≡ eq_z (ev (xs E) a) (ev (xs E) b)
  eq_is a b t =
      let ta = and_l (safe E a) (safe E b) t in
      let tb = and_r (safe E a) (safe E b) t in
      (λ i. eqb (of_z w64 (op_is a ta i)) (of_z w64 (op_is b tb i))) ∙ bits_eqZ (ev_fits a ta) (ev_fits b tb)
