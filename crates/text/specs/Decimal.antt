-- Decimal numbers as bytes, as document 01's clip program reads and prints them: 'an optional minus and digits', fitting 64 signed bits;
-- 'printed without leading zeros, and zero without a minus'.
use Rattle.std.specs.Prelude.{Bool, true, false, not, ◌&&◌, ◌||◌, List, [], ◌∷◌, ◌++◌, ℕ, zero, suc, ◌+◌, ◌-◌, ◌*◌, ◌/◌, ◌%◌, ◌^◌, eqb, leb, ℤ, pos, negsuc, neg_ℤ, Option, Some, None, if◌then◌else◌}
use Rattle.plane.specs.Basics.{is_nil}

-- ---- reading
abbrev pub is_digit : ℕ → Bool
is_digit b = leb 48 b && leb b 57

abbrev pub all_digits : List ℕ → Bool
all_digits [] = true
all_digits (b ∷ bs) = is_digit b && all_digits bs

-- the number that digits stand for, where those before them stood for n
abbrev pub value_from : ℕ → List ℕ → ℕ
value_from n [] = n
value_from n (b ∷ bs) = value_from (10 * n + (b - 48)) bs

-- one digit or more that stand for a number of 64 signed bits; None where they do not
unfoldable pub digits_of : Bool → List ℕ → Option ℤ
digits_of negative bs =
    let n = value_from 0 bs in
    if is_nil bs || not (all_digits bs) then None
    else if negative then (if leb n (2 ^ 63) then Some (neg_ℤ (pos n)) else None)
    else (if leb n (2 ^ 63 - 1) then Some (pos n) else None)

-- a field's number; None where it is none
unfoldable pub field : List ℕ → Option ℤ
field [] = None
field (b ∷ bs) = if eqb b 45 then digits_of true bs else digits_of false (b ∷ bs)

-- ---- printing
-- the last k digits of n, the most significant first
abbrev pub last_digits : ℕ → ℕ → List ℕ
last_digits zero n = []
last_digits (suc k) n = last_digits k (n / 10) ++ (48 + n % 10) ∷ []

-- how many digits n takes, at most k and at least one
abbrev pub places : ℕ → ℕ → ℕ
places zero n = 1
places (suc k) n = let more = suc (places k (n / 10)) in if eqb (n / 10) 0 then 1 else more

-- 20 digits hold every number of 64 bits
unfoldable pub decimal : ℕ → List ℕ
decimal n = last_digits (places 19 n) n

unfoldable pub signed_decimal : ℤ → List ℕ
signed_decimal (pos n) = decimal n
signed_decimal (negsuc n) = 45 ∷ decimal (suc n)
