-- The definition's decimal numbers are the library's. Assumes nothing.
use mathlib.Core.Path.{◌≡◌, refl, sym, ◌∙◌}
use mathlib.Core.List.{List, [], ◌∷◌, ◌++◌}
use Prim.Native.Nat.{ℕ, zero, suc, ◌+◌, ◌/◌, ◌%◌, ◌^◌, ◌<◌, ◌≤◌}
use native.Mathlib.Omega.{arith}
use lib.ListN.{length, length-append}
use lib.IntN.{ℤ, pos, negsuc}
use mir.Syntax.{w64}
use mir.Val.{SFits}
use borrow.Author.Tests.{eq-eqb, ne_eqb}
use Rattle.std.specs.Fmt as fmt
use Rattle.std.proofs.lemmas.Fmt.{AppendsLastDigit, decimal_from_appends, length-decimal-le}
use Rattle.text.specs.Decimal.{places, last_digits, decimal, signed_decimal}

pub places_more : (k n : ℕ) → 9 < n → places (suc k) n ≡ suc (places k (n / 10))
places_more k n h = let g : n / 10 ≡ 0 → ⊥ = λ q. omega arith in rw (ne_eqb (n / 10) 0 g) refl

pub places_stop : (k n : ℕ) → n ≤ 9 → places k n ≡ 1
places_stop zero n h = refl
places_stop (suc k) n h = let g : n / 10 ≡ 0 = omega arith in rw (eq-eqb (n / 10) 0 g) refl

pub length_last : (k n : ℕ) → length (last_digits k n) ≡ k
length_last zero n = refl
length_last (suc k) n = length-append (last_digits k (n / 10)) ((48 + n % 10) ∷ []) ∙ (omega (arith, length_last k (n / 10)))

-- the definition with k digits at most
unfoldable digits_in : ℕ → ℕ → List ℕ
digits_in zero n = []
digits_in (suc k) n = last_digits (places k n) n

appends : AppendsLastDigit digits_in
unfolding digits_in
appends = record { one = one; more = more }
  where
    one : (k n : ℕ) → n < 10 → last_digits (places k n) n ≡ (48 + n) ∷ []
    one k n h = let m : n % 10 ≡ n = omega arith in rw (places_stop k n (omega arith), m) refl

    more : (k n : ℕ) → 10 ≤ n → last_digits (places k n) n ≡ digits_in k (n / 10) ++ ((48 + n % 10) ∷ [])
    more zero n h = refl
    more (suc k) n h = rw (places_more k n (omega arith)) refl

pub decimal_is : (n : ℕ) → n < 2 ^ 64 → fmt.decimal n ≡ decimal n
unfolding decimal digits_in
decimal_is n h = sym (decimal_from_appends digits_in appends 20 n h (length-decimal-le 20 n (omega arith) (omega arith) h))

pub signed_decimal_is : (z : ℤ) → SFits w64 z → fmt.signed_decimal z ≡ signed_decimal z
unfolding signed_decimal
signed_decimal_is (pos n) f = decimal_is n (omega (arith, f.sfits))
signed_decimal_is (negsuc n) f = let e = decimal_is (suc n) (omega (arith, f.sfits)) in rw e refl
