-- The chain of Chain never takes a value past a whole number, where the fraction's denominator is at most 2 ^ 26 and the last rounding keeps whole numbers: a value
-- that lies strictly on one side of a whole number is at least 2 ^ -26 away from it, and the error before the sum is rounded is at most that. Assumes nothing.
use Rattle.std.proofs.Common.{◌≡◌, ℕ, suc, ◌+◌, ◌*◌, ◌^◌, ◌<◌, ◌≤◌, Bool, true, false, ◌⊎◌, ℤ, pos, ◌+ℤ◌, ◌-ℤ◌, ◌*ℤ◌, nat_abs, ◌≤ℤ◌, ◌<ℤ◌, sym, refl, ap, ◌∙◌, subst, inl, inr, le_trans, le_of_eq, le_refl, lt_of_lt_of_le, le_of_suc-le-suc, lt_of_le_of_lt, add-zero, mul-le-mul_right, suc-mul, add-mul, mul-le-mul, lt_of_mul-lt-mul_right, zero-add, zero-mul, mul_right_comm, le_of_mul-le-mul_right, arith}
use Rattle.integers.specs.Order.{zint, sub_pn, eq→}
use Rattle.rounding.specs.Coordinate.{is_negative}
use Rattle.rounding.proofs.Whole.{signed, signed_of}
use Rattle.rounding.proofs.Apart.{above, under, above_mul, under_mul, signed_parts, gap_is}
use Rattle.rounding.proofs.Chain.{Roundings, unrounded_sum}

-- ---- to the sum: a - b stands for the sum times U, A - B for its exact value times d, l - k for a whole number below that value
past : (l k A B a b d W U : ℕ) → 0 < d → d ≤ 2 ^ 26 → U ≡ 2 ^ 53 * W → l * d + B < k * d + A → b * d + A * U ≤ a * d + B * U + 2 ^ 27 * (W * d) → l * U + b ≤ k * U + a
past l k A B a b d W U D L e h g =
    let x : suc (l * d + B) * U ≤ (k * d + A) * U = mul-le-mul_right U h in
    let x1 : suc (l * d + B) * U ≡ (l * d + B) * U + U = suc-mul (l * d + B) U in
    let x2 : (l * d + B) * U ≡ l * U * d + B * U = add-mul (l * d) B U ∙ ap (λ (z : ℕ). z + B * U) (mul_right_comm l d U) in
    let x3 : (k * d + A) * U ≡ k * U * d + A * U = add-mul (k * d) A U ∙ ap (λ (z : ℕ). z + A * U) (mul_right_comm k d U) in
    let y : W * d ≤ W * 2 ^ 26 = mul-le-mul (le_refl W) L in
    let z1 : (l * U + b) * d ≡ l * U * d + b * d = add-mul (l * U) b d in
    let z2 : (k * U + a) * d ≡ k * U * d + a * d = add-mul (k * U) a d in
    le_of_mul-le-mul_right (omega arith) D

-- ---- to the cut: Y is rounded to S, which keeps whole numbers, and q is the whole part
module _ (U Y S q : ℕ) (P : 0 < U) (down : (c : ℕ) → Y ≤ c * U → S ≤ c * U) (up : (c : ℕ) → c * U ≤ Y → c * U ≤ S) (le : q * U ≤ S) (lt : S < q * U + U) where
  whole_le : (c : ℕ) → Y ≤ c * U → q ≤ c
  whole_le c h = le_of_mul-le-mul_right (le_trans le (down c h)) P

  whole_ge : (c : ℕ) → c * U ≤ Y → c ≤ q
  whole_ge c h = le_of_suc-le-suc (lt_of_mul-lt-mul_right U (lt_of_le_of_lt (up c h) (lt_of_lt_of_le lt (le_of_eq (sym (suc-mul q U))))))

  none : (l y : ℕ) → l * U + y ≤ 0 * U → l ≡ 0
  none l y h = let x : l ≤ 0 = le_of_mul-le-mul_right (le_trans (omega arith) h) P in omega arith

  cut_past : (s : Bool) (l k : ℕ) → (l ≡ 0) ⊎ (k ≡ 0) → l * U + under s Y ≤ k * U + above s Y → l + under s q ≤ k + above s q
  cut_past false l k (inl e) h = omega arith
  cut_past false l k (inr e) h = let x = whole_ge l (le_trans (omega arith) (le_trans h (le_of_eq (ap (λ (z : ℕ). z * U + Y) e ∙ no_units Y)))) in omega arith
    where
      no_units : (y : ℕ) → 0 * U + y ≡ y
      no_units y = ap (λ (z : ℕ). z + y) (zero-mul U) ∙ zero-add y
  cut_past true l k (inl e) h = let x = whole_le k (omega arith) in omega arith
  cut_past true l k (inr e) h =
      let x = whole_le k (omega arith) in
      let z = none l Y (le_trans h (le_of_eq (ap (λ (z : ℕ). z * U + 0) e ∙ add-zero (0 * U)))) in
      omega arith

  cut_past_back : (s : Bool) (l k : ℕ) → (l ≡ 0) ⊎ (k ≡ 0) → l * U + above s Y ≤ k * U + under s Y → l + above s q ≤ k + under s q
  cut_past_back false = cut_past true
  cut_past_back true = cut_past false

-- ---- whole numbers in parts
signed_le : (s t : Bool) (a b : ℕ) → above s a + under t b ≤ under s a + above t b → signed s a ≤ℤ signed t b
signed_le s t a b h =
    subst (λ (z : ℤ). z ≤ℤ signed t b) (sym (signed_parts s a))
    (subst (λ (z : ℤ). (pos (above s a) -ℤ pos (under s a)) ≤ℤ z) (sym (signed_parts t b))
    (omega (zint, sub_pn (pos (above s a)) (pos (under s a)), sub_pn (pos (above t b)) (pos (under t b)))))

gap_lt : (z k : ℤ) (p q : ℕ) → z -ℤ k ≡ pos p -ℤ pos q → z <ℤ k → p < q
gap_lt z k p q e h = omega (zint, sub_pn z k, sub_pn (pos p) (pos q), eq→ e)

gap_gt : (z k : ℤ) (p q : ℕ) → z -ℤ k ≡ pos p -ℤ pos q → k <ℤ z → q < p
gap_gt z k p q e h = omega (zint, sub_pn z k, sub_pn (pos p) (pos q), eq→ e)

one_part : (s : Bool) (n : ℕ) → (above s n ≡ 0) ⊎ (under s n ≡ 0)
one_part false n = inr refl
one_part true n = inl refl

one_part_back : (s : Bool) (n : ℕ) → (under s n ≡ 0) ⊎ (above s n ≡ 0)
one_part_back false n = inl refl
one_part_back true n = inr refl

-- ---- the chain: ±q is not past a whole number that lies strictly on one side of the exact value
module _ (s t u : Bool) (W U n d m x G P Y S q : ℕ) (D : 0 < d) (L : d ≤ 2 ^ 26) (h : Roundings s t u W U n d m x G P Y S q)
    (down : (c : ℕ) → Y ≤ c * U → S ≤ c * U) (up : (c : ℕ) → c * U ≤ Y → c * U ≤ S) where
  abbrev E : ℤ
  E = signed t x *ℤ pos d +ℤ signed u m *ℤ pos n

  abbrev A : ℕ
  A = above t (x * d) + above u (m * n)

  abbrev B : ℕ
  B = under t (x * d) + under u (m * n)

  pub not_under : (c : ℤ) → (c *ℤ pos d) <ℤ E → c ≤ℤ signed s q
  not_under c = subst (λ (z : ℤ). (z *ℤ pos d) <ℤ E → z ≤ℤ signed s q) (signed_of c) (go (is_negative c) (nat_abs c))
    where
      go : (v : Bool) (k : ℕ) → (signed v k *ℤ pos d) <ℤ E → signed v k ≤ℤ signed s q
      go v k l =
          let p : above v (k * d) + B < under v (k * d) + A = gap_lt (signed v k *ℤ pos d) E _ _ (gap_is v t u k x m d n) l in
          let i = above_mul v k d in
          let j = under_mul v k d in
          signed_le v s k q
          (cut_past U Y S q h.unit_pos down up h.cut_le h.cut_lt s (above v k) (under v k) (one_part v k)
          (past (above v k) (under v k) A B (above s Y) (under s Y) d W U D L h.unit (omega arith) (unrounded_sum s t u W U n d m x G P Y S q D h).1))

  pub not_over : (c : ℤ) → E <ℤ (c *ℤ pos d) → signed s q ≤ℤ c
  not_over c = subst (λ (z : ℤ). E <ℤ (z *ℤ pos d) → signed s q ≤ℤ z) (signed_of c) (go (is_negative c) (nat_abs c))
    where
      go : (v : Bool) (k : ℕ) → E <ℤ (signed v k *ℤ pos d) → signed s q ≤ℤ signed v k
      go v k l =
          let p : under v (k * d) + A < above v (k * d) + B = gap_gt (signed v k *ℤ pos d) E _ _ (gap_is v t u k x m d n) l in
          let i = above_mul v k d in
          let j = under_mul v k d in
          let r = cut_past_back U Y S q h.unit_pos down up h.cut_le h.cut_lt s (under v k) (above v k) (one_part_back v k)
          (past (under v k) (above v k) B A (under s Y) (above s Y) d W U D L h.unit (omega arith) (unrounded_sum s t u W U n d m x G P Y S q D h).0) in
          signed_le s v q k (omega arith)
