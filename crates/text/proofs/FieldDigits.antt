-- A field's number is that of its digits, which are gone through one behind another: what is too large on the way stays too large.
-- Assumes nothing.
use Rattle.std.specs.Prelude.{Option, Some, None, if◌then◌else◌, Result, Ok, Err}
use mathlib.Core.Path.{◌≡◌, refl, sym, ◌∙◌, ap}
use mathlib.Core.Bool.{Bool, true, false, not, ◌&&◌, ◌||◌}
use mathlib.Core.List.{List, [], ◌∷◌}
use Prim.Native.Nat.{ℕ, zero, suc, ◌+◌, ◌-◌, ◌*◌, ◌^◌, ◌<◌, ◌≤◌}
use native.Mathlib.Omega.{arith}
use Rattle.integers.specs.Order.{zint, sub_pn}
use native.Mathlib.Numerals.{add-one}
use lib.ListN.{length, take, drop, get_or, drop_of_length-le}
use lib.Dec.{eqb, leb}
use lib.IntN.{ℤ, pos, negsuc, neg_ℤ, ◌-ℤ◌}
use lib.Pointwise.{pointwise}
use lib.Seq.{drop-cons}
use borrow.Author.Tests.{leb-false, le-leb, lt-leb, leb-true}
use mir.Syntax.{w64, w128}
use mir.Val.{SFits}
use Rattle.std.specs.Result.{OkIff, result_ok}
use Rattle.plane.specs.Basics.{is_nil}
use Rattle.text.specs.Decimal.{field, digits_of, is_digit, all_digits, value_from}
use Rattle.text.specs.Scanning.{magnitude}

-- ---- digits behind those that stand for n
unfoldable pub digits_from : ℕ → List ℕ → Option ℕ
digits_from n [] = Some n
digits_from n (b ∷ bs) =
    let more = digits_from (10 * n + (b - 48)) bs in
    if is_digit b && leb n 922337203685477580 then more else None

digits_from_by : (n b : ℕ) (bs : List ℕ) {d t : Bool} → is_digit b ≡ d → leb n 922337203685477580 ≡ t
    → digits_from n (b ∷ bs) ≡ (if d && t then digits_from (10 * n + (b - 48)) bs else None)
unfolding digits_from
digits_from_by n b bs p q = λ i. if p i && q i then digits_from (10 * n + (b - 48)) bs else None

value_grows : (n : ℕ) (bs : List ℕ) → n ≤ value_from n bs
value_grows n [] = omega arith
value_grows n (b ∷ bs) = omega (arith, value_grows (10 * n + (b - 48)) bs)

held : Bool → ℕ → Option ℕ
held a v = if not a then None else if leb v (2 ^ 63 + 1) then Some v else None

too_large : (a : Bool) (v : ℕ) → 9223372036854775809 < v → None ≡ held a v
unfolding held
too_large true v h = rw (lt-leb v (2 ^ 63 + 1) h) refl
too_large false v h = refl

-- a digit is at most 9
at_most : (b : ℕ) → is_digit b ≡ true → b - 48 ≤ 9
at_most b e = go (leb 48 b) (leb b 57) refl e
  where
    go : (t u : Bool) → leb b 57 ≡ u → (t && u) ≡ true → b - 48 ≤ 9
    go true true q e = let h = leb-true _ _ q in omega (arith, h)
    go true false q e = absurd (let y : ◌≡◌ {A = ℕ} 0 1 = cc in omega arith)
    go false u q e = absurd (let y : ◌≡◌ {A = ℕ} 0 1 = cc in omega arith)

digits_from_is : (n : ℕ) (bs : List ℕ) → n ≤ 9223372036854775809 → digits_from n bs ≡ held (all_digits bs) (value_from n bs)
unfolding digits_from held
digits_from_is n [] h = rw (le-leb n (2 ^ 63 + 1) h) refl
digits_from_is n (b ∷ bs) h = go (λ g. digits_from_is (10 * n + (b - 48)) bs g) (is_digit b) (leb n 922337203685477580) refl refl
  where
    go : (10 * n + (b - 48) ≤ 9223372036854775809 → digits_from (10 * n + (b - 48)) bs ≡ held (all_digits bs) (value_from (10 * n + (b - 48)) bs))
        → (d t : Bool) → is_digit b ≡ d → leb n 922337203685477580 ≡ t
        → (if d && t then digits_from (10 * n + (b - 48)) bs else None) ≡ held (d && all_digits bs) (value_from (10 * n + (b - 48)) bs)
    go f false t p e = refl
    go f true true p e = let g = leb-true _ _ e in let k = at_most b p in f (omega (arith, g, k))
    go f true false p e = too_large (all_digits bs) (value_from (10 * n + (b - 48)) bs) (let g = leb-false _ _ e in omega (arith, g, value_grows (10 * n + (b - 48)) bs))

pub magnitude_none : (bs : List ℕ) → length bs ≡ 0 → None ≡ magnitude bs
unfolding magnitude
magnitude_none [] h = refl
magnitude_none (b ∷ bs) h = absurd (omega arith)

-- ---- the first i of a field's bytes are digits that stand for a number
pub record MagnitudeTo (bs : List ℕ) (n i : ℕ) : Type 0 where
  pub goal : digits_from n (drop i bs) ≡ magnitude bs

pub magnitude_start : (bs : List ℕ) → (length bs ≡ 0 → ⊥) → MagnitudeTo bs 0 0
unfolding magnitude held
magnitude_start [] h = absurd (h refl)
magnitude_start (b ∷ bs) h = record { goal = digits_from_is 0 (b ∷ bs) (omega arith) }

module _ {bs : List ℕ} {n i : ℕ} (s : MagnitudeTo bs n i) where
  module _ (h : i < length bs) where
    step : digits_from n (drop i bs) ≡ digits_from n (get_or bs i 0 ∷ drop (i + 1) bs)
    step = ap (digits_from n) (drop-cons bs i 0 h ∙ ap (λ (k : ℕ). get_or bs i 0 ∷ drop k bs) (sym (add-one i)))

    pub no_digit : false ≡ is_digit (get_or bs i 0) → None ≡ magnitude bs
    no_digit e = sym (digits_from_by n (get_or bs i 0) (drop (i + 1) bs) (sym e) refl) ∙ sym step ∙ s.goal

    pub no_room : 922337203685477580 < n → None ≡ magnitude bs
    no_room g = go (is_digit (get_or bs i 0)) ∙ sym (digits_from_by n (get_or bs i 0) (drop (i + 1) bs) refl (lt-leb _ _ g)) ∙ sym step ∙ s.goal
      where
        go : (d : Bool) → None ≡ (if d && false then digits_from (10 * n + (get_or bs i 0 - 48)) (drop (i + 1) bs) else None)
        go true = refl
        go false = refl

    pub magnitude_again : true ≡ is_digit (get_or bs i 0) → n ≤ 922337203685477580 → MagnitudeTo bs (10 * n + (get_or bs i 0 - 48)) (i + 1)
    magnitude_again e g = record { goal = sym (digits_from_by n (get_or bs i 0) (drop (i + 1) bs) (sym e) (le-leb _ _ g)) ∙ sym step ∙ s.goal }

  pub magnitude_end : length bs ≤ i → Some n ≡ magnitude bs
  unfolding digits_from
  magnitude_end h = sym (ap (digits_from n) (drop_of_length-le bs h)) ∙ s.goal

-- ---- the field of digits with a minus or without one
abbrev pub signed : Bool → Option ℕ → Option ℤ
signed negative None = None
signed true (Some n) = if leb n (2 ^ 63) then Some (neg_ℤ (pos n)) else None
signed false (Some n) = if leb n (2 ^ 63 - 1) then Some (pos n) else None

digits_sized : (negative : Bool) (bs : List ℕ) → signed negative (magnitude bs) ≡ digits_of negative bs
unfolding magnitude digits_of
digits_sized negative bs = go negative (is_nil bs || not (all_digits bs)) (leb (value_from 0 bs) (2 ^ 63 + 1)) refl
  where
    go : (s t u : Bool) → leb (value_from 0 bs) (2 ^ 63 + 1) ≡ u
        → signed s (if t then None else if u then Some (value_from 0 bs) else None)
        ≡ (if t then None else if s then (if leb (value_from 0 bs) (2 ^ 63) then Some (neg_ℤ (pos (value_from 0 bs))) else None)
        else (if leb (value_from 0 bs) (2 ^ 63 - 1) then Some (pos (value_from 0 bs)) else None))
    go true true u e = refl
    go false true u e = refl
    go true false true e = refl
    go false false true e = refl
    go true false false e = let g = leb-false _ _ e in let h : 9223372036854775808 < value_from 0 bs = omega (arith, g) in rw (lt-leb (value_from 0 bs) (2 ^ 63) h) refl
    go false false false e = let g = leb-false _ _ e in let h : 9223372036854775807 < value_from 0 bs = omega (arith, g) in rw (lt-leb (value_from 0 bs) (2 ^ 63 - 1) h) refl

pub field_minus : (bs ds : List ℕ) {m : Option ℕ} → pointwise eqb (take 1 bs) (45 ∷ []) ≡ true → ds ≡ drop 1 bs → m ≡ magnitude ds → signed true m ≡ field bs
unfolding field
field_minus bs ds h q e = ap (signed true) (e ∙ ap magnitude q) ∙ digits_sized true (drop 1 bs) ∙ go bs h
  where
    by_test : (t : Bool) (xs ys : List ℕ) → (t && true) ≡ true → digits_of true ys ≡ (if t then digits_of true ys else digits_of false xs)
    by_test true xs ys h = refl
    by_test false xs ys h = absurd (let y : ◌≡◌ {A = ℕ} 0 1 = cc in omega arith)

    go : (bs : List ℕ) → pointwise eqb (take 1 bs) (45 ∷ []) ≡ true → digits_of true (drop 1 bs) ≡ field bs
    go [] h = absurd (let y : ◌≡◌ {A = ℕ} 0 1 = cc in omega arith)
    go (b ∷ bs) h = by_test (eqb b 45) (b ∷ bs) bs h

pub field_plain : (bs : List ℕ) {m : Option ℕ} → pointwise eqb (take 1 bs) (45 ∷ []) ≡ false → m ≡ magnitude bs → signed false m ≡ field bs
unfolding field digits_of
field_plain bs h e = ap (signed false) e ∙ digits_sized false bs ∙ go bs h
  where
    by_test : (t : Bool) (xs ys : List ℕ) → (t && true) ≡ false → digits_of false xs ≡ (if t then digits_of true ys else digits_of false xs)
    by_test true xs ys h = absurd (let y : ◌≡◌ {A = ℕ} 0 1 = cc in omega arith)
    by_test false xs ys h = refl

    go : (bs : List ℕ) → pointwise eqb (take 1 bs) (45 ∷ []) ≡ false → digits_of false bs ≡ field bs
    go [] h = refl
    go (b ∷ bs) h = by_test (eqb b 45) (b ∷ bs) bs h

-- what 64 signed bits hold of it
pub signed_plain : {E : Type 0} (n : ℕ) (r : Result ℤ E) → OkIff r (SFits w64 (pos n)) (pos n) → result_ok r ≡ signed false (Some n)
signed_plain n (Ok z) h = let g = h.0.sfits in rw (le-leb n (2 ^ 63 - 1) (omega (arith, g))) (ap Some h.1)
signed_plain n (Err x) h = go (leb n (2 ^ 63 - 1)) refl
  where
    go : (t : Bool) → leb n (2 ^ 63 - 1) ≡ t → None ≡ (if t then Some (pos n) else None)
    go true e = absurd (h (record { sfits = let g = leb-true _ _ e in omega (arith, g) }))
    go false e = refl

pub minus_is : (n : ℕ) → pos 0 -ℤ pos n ≡ neg_ℤ (pos n)
minus_is zero = refl
minus_is (suc n) = omega (zint, sub_pn (pos 0) (pos (suc n)))

pub minus_fits : (n : ℕ) → n < 2 ^ 64 → SFits w128 (neg_ℤ (pos n))
minus_fits zero h = record { sfits = omega arith }
minus_fits (suc n) h = record { sfits = omega arith }

pub signed_minus : {E : Type 0} (n : ℕ) (r : Result ℤ E) → OkIff r (SFits w64 (neg_ℤ (pos n))) (neg_ℤ (pos n)) → result_ok r ≡ signed true (Some n)
signed_minus zero (Ok z) h = ap Some h.1
signed_minus zero (Err x) h = absurd (h (record { sfits = omega arith }))
signed_minus (suc n) (Ok z) h = let g = h.0.sfits in rw (le-leb (suc n) (2 ^ 63) (omega (arith, g))) (ap Some h.1)
signed_minus (suc n) (Err x) h = go (leb (suc n) (2 ^ 63)) refl
  where
    go : (t : Bool) → leb (suc n) (2 ^ 63) ≡ t → None ≡ (if t then Some (negsuc n) else None)
    go true e = absurd (h (record { sfits = let g = leb-true _ _ e in omega (arith, g) }))
    go false e = refl
