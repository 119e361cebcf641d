-- How many bytes a printed line takes at most. Assumes nothing.
use Rattle.std.specs.Prelude.{if◌then◌else◌}
use mathlib.Core.Path.{◌≡◌, refl}
use mathlib.Core.Bool.{Bool, true, false}
use mathlib.Core.List.{List, [], ◌∷◌, Memᴰ}
use Prim.Native.Nat.{ℕ, zero, suc, ◌+◌, ◌*◌, ◌/◌, ◌^◌, ◌<◌, ◌≤◌}
use native.Mathlib.Nat.{pow-suc}
use native.Mathlib.Omega.{arith}
use lib.ListN.{length, length-append}
use lib.Dec.{leb}
use lib.IntN.{ℤ, pos, negsuc, nat_abs}
use borrow.Author.Tests.{leb-true, leb-false}
use Rattle.plane.specs.Points.{coordinates_of}
use Rattle.plane.specs.declared.point.Point64.{Point64}
use Rattle.text.specs.Decimal.{places, decimal, signed_decimal}
use Rattle.text.specs.Printing.{comma_numbers, line_of, path_line}
use Rattle.text.proofs.Puts.{line_length}
use Rattle.text.proofs.DecimalText.{places_more, places_stop, length_last}

-- ---- the digits of a number
-- one digit, or one more than a tenth of the number takes
places_step : (k n m : ℕ) → (9 < n → suc (places k (n / 10)) ≤ m) → 1 ≤ m → places (suc k) n ≤ m
places_step k n m more one = go (leb n 9) refl
  where
    go : (b : Bool) → leb n 9 ≡ b → places (suc k) n ≤ m
    go true e = omega (arith, places_stop (suc k) n (leb-true n 9 e), one)
    go false e = let h = leb-false n 9 e in omega (arith, places_more k n h, more h)

-- a number below 10 ^ (j + 1) takes at most j + 1
places_below : (j k n : ℕ) → n < 10 ^ suc j → places k n ≤ suc j
places_below j zero n h = omega arith
places_below zero (suc k) n h = omega (arith, places_stop (suc k) n (omega (arith, pow-suc 10 0)))
places_below (suc j) (suc k) n h =
    let m : n / 10 < 10 ^ suc j = omega (arith, pow-suc 10 (suc j)) in
    let d = places_below j k (n / 10) m in
    places_step k n (suc (suc j)) (λ g. omega (arith, d)) (omega arith)

-- at most one more than are counted off, and one more than the number says
places_counted : (k n : ℕ) → places k n ≤ suc k
places_counted zero n = omega arith
places_counted (suc k) n = let d = places_counted k (n / 10) in places_step k n (suc (suc k)) (λ g. omega (arith, d)) (omega arith)

places_said : (k n : ℕ) → places k n ≤ suc n
places_said zero n = omega arith
places_said (suc k) n = let d = places_said k (n / 10) in places_step k n (suc n) (λ g. omega (arith, d)) (omega arith)

-- ---- a number
any : (n : ℕ) → length (decimal n) ≤ 20
unfolding decimal
any n = omega (arith, length_last (places 19 n) n, places_counted 19 n)

pub number_width : (z : ℤ) → length (signed_decimal z) ≤ 21
unfolding signed_decimal
number_width (pos n) = omega (arith, any n)
number_width (negsuc n) = omega (arith, any (suc n))

count_width : (n : ℕ) → length (signed_decimal (pos n)) ≤ suc n
unfolding signed_decimal decimal
count_width n = omega (arith, length_last (places 19 n) n, places_said 19 n)

-- a coordinate of at most 33,554,433
eight : (n : ℕ) → n ≤ 33554433 → length (decimal n) ≤ 8
unfolding decimal
eight n h = omega (arith, length_last (places 19 n) n, places_below 7 19 n (omega arith))

coordinate_width : (z : ℤ) → nat_abs z ≤ 33554433 → length (signed_decimal z) ≤ 9
unfolding signed_decimal
coordinate_width (pos n) h = omega (arith, eight n h)
coordinate_width (negsuc n) h = omega (arith, eight (suc n) h)

-- ---- a line
comma_width : (z : ℤ) (zs : List ℤ) → length (comma_numbers (z ∷ zs)) ≡ suc (length (signed_decimal z) + length (comma_numbers zs))
comma_width z zs = omega (arith, length-append (signed_decimal z) (comma_numbers zs))

pub commas_width : (zs : List ℤ) → length (comma_numbers zs) ≤ 22 * length zs
commas_width [] = omega arith
commas_width (z ∷ zs) = omega (arith, comma_width z zs, number_width z, commas_width zs)

-- of any numbers: a letter, a line feed and 22 bytes for each
pub line_width : (letter : ℕ) (zs : List ℤ) → length (line_of letter zs) ≤ 2 + 22 * length zs
line_width letter zs = omega (arith, line_length letter [] zs, commas_width zs)

-- within the limit and one unit more
abbrev pub Near : Point64 → Type 0
Near p = (nat_abs p.x ≤ 33554433) × (nat_abs p.y ≤ 33554433)

coordinates_width : (p : List Point64) → ((q : Point64) → Memᴰ q p → Near q) → length (comma_numbers (coordinates_of p)) ≤ 20 * length p
coordinates_width [] near = omega arith
coordinates_width (q ∷ p) near =
    let m = near q (Memᴰ.head refl) in
    omega (arith, comma_width q.x (q.y ∷ coordinates_of p), comma_width q.y (coordinates_of p), coordinate_width q.x m.0, coordinate_width q.y m.1, coordinates_width p (λ q' i. near q' (Memᴰ.tail i)))

-- of a path: 26 bytes, and 21 for each point
pub path_width : (closed : Bool) (line : ℤ) (p : List Point64) → ((q : Point64) → Memᴰ q p → Near q) → length (path_line closed line p) ≤ 26 + 21 * length p
path_width closed line p near =
    let cs = coordinates_of p in
    omega (arith, line_length (if closed then 67 else 76) [] (line ∷ pos (length p) ∷ cs), comma_width line (pos (length p) ∷ cs), comma_width (pos (length p)) cs, number_width line, count_width (length p), coordinates_width p near)
