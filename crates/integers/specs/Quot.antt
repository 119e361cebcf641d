-- Division toward zero by a positive number: it fits where the dividend does, and what it is in terms of the product.
use Rattle.std.specs.Prelude.{◌≡◌, refl, ℕ, zero, suc, ◌/◌, ◌≤◌, ◌<◌, ℤ, pos, negsuc, neg_ℤ, nat_abs, ◌&&◌, List, T, ltb}
use Rattle.std.proofs.Common.{sym, ◌∙◌, ap, subst, div-le_self, le_trans, arith, SFits, to_z, of_z, to_z-of_z, ltb→lt}
use Rattle.std.specs.Int.Signed.{mag, quot_z}
use Rattle.std.specs.Int.{w64}
use Rattle.std.specs.Float.Ieee.Fits.{and_l, and_r}
use Rattle.integers.specs.Ring.{Ex, ev}
use Rattle.integers.specs.Bound.{Num, xs, mo, safe, mo_is, ev_fits}

mag_neg : (r a : ℕ) → r ≤ suc a → mag (neg_ℤ (pos r)) ≤ a
mag_neg zero a h = omega arith
mag_neg (suc r) a h = omega arith

mag_quot : (z : ℤ) (n : ℕ) → mag (quot_z z (pos n)) ≤ mag z
mag_quot (pos a) n = div-le_self a n
mag_quot (negsuc a) n = mag_neg (suc a / n) a (div-le_self (suc a) n)

pub quot_fits : (z : ℤ) (n : ℕ) → SFits w64 z → SFits w64 (quot_z z (pos n))
quot_fits z n f = record { sfits = le_trans (suc_le (mag_quot z n)) f.sfits }
  where
    suc_le : {a b : ℕ} → a ≤ b → suc a ≤ suc b
    suc_le h = omega arith

abs_quot' : (r : ℕ) → nat_abs (neg_ℤ (pos r)) ≡ r
abs_quot' zero = refl
abs_quot' (suc r) = refl

pub abs_quot : (z : ℤ) (n : ℕ) → nat_abs (quot_z z (pos n)) ≤ nat_abs z
abs_quot (pos a) n = div-le_self a n
abs_quot (negsuc a) n = subst (λ (m : ℕ). m ≤ suc a) (sym (abs_quot' (suc a / n))) (div-le_self (suc a) n)

-- ---- `e / n` in code, n a positive literal: what it asks, and what the machine reads of it
module _ (E : List Num) (e : Ex) (n : ℕ) where
  pub div_fits : T (safe E e && ltb 0 n) → (0 < n) × SFits w64 (quot_z (mo E e) (pos n))
  div_fits t = (
    ltb→lt 0 n (and_r (safe E e) (ltb 0 n) t),
    subst (λ (z : ℤ). SFits w64 (quot_z z (pos n))) (sym (mo_is E e (and_l (safe E e) (ltb 0 n) t))) (quot_fits (ev (xs E) e) n (ev_fits E e (and_l (safe E e) (ltb 0 n) t))),
  )

  pub div_is : T (safe E e && ltb 0 n) → to_z w64 (of_z w64 (quot_z (mo E e) (pos n))) ≡ quot_z (ev (xs E) e) (pos n)
  div_is t = to_z-of_z (div_fits t).1 ∙ ap (λ (z : ℤ). quot_z z (pos n)) (mo_is E e (and_l (safe E e) (ltb 0 n) t))
