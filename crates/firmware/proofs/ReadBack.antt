-- What is read from the bytes of a result are the definition's coordinates: each is at most one unit outside the coordinate limit, so
-- that 32 signed bits hold it. Assumes nothing.
use mathlib.Core.Path.{◌≡◌, refl, sym, ◌∙◌, ap}
use mathlib.Core.List.{List, [], ◌∷◌, ◌++◌, map, Memᴰ}
use Prim.Native.Nat.{ℕ, suc, ◌+◌, ◌-◌, ◌*◌, ◌/◌, ◌%◌, ◌<◌, ◌≤◌}
use native.Mathlib.Omega.{arith}
use native.Mathlib.Nat.{div-div-eq-div-mul}
use lib.ListN.{length, length-append}
use lib.IntN.{ℤ, pos, negsuc, nat_abs}
use borrow.Author.Tests.{lt-ltb, le-ltb}
use Rattle.integers.specs.Order.{zint, sub_pn}
use Rattle.plane.specs.declared.point.Point64.{Point64}
use Rattle.plane.specs.Points.{coordinates_of}
use Rattle.reference.specs.Entry.{joined}
use Rattle.reference.specs.Exported.{signed, bits, words, read_words}
use Rattle.handheld.proofs.Bounded.{always_bounded}
use Rattle.firmware.specs.ReadBack.{ReadsBack}

-- ---- one number
-- each quotient is 256 times the next and its byte
quotients : (n q r s : ℕ) → n < 4294967296 → q ≡ n / 256 → r ≡ q / 256 → s ≡ r / 256 → n % 256 + 256 * (q % 256) + 65536 * (r % 256) + 16777216 * (s % 256) ≡ n
quotients n q r s h e f g =
    let a : 256 * q + n % 256 ≡ n = omega arith in
    let b : 256 * r + q % 256 ≡ q = omega arith in
    let c : 256 * s + r % 256 ≡ r = omega arith in
    let d : s % 256 ≡ s = omega arith in
    sums n q r s (n % 256) (q % 256) (r % 256) (s % 256) a b c d
  where
    sums : (n q r s w x y z : ℕ) → 256 * q + w ≡ n → 256 * r + x ≡ q → 256 * s + y ≡ r → z ≡ s → w + 256 * x + 65536 * y + 16777216 * z ≡ n
    sums n q r s w x y z a b c d = omega arith

back_bytes : (n : ℕ) → n < 4294967296 → n % 256 + 256 * (n / 256 % 256) + 65536 * (n / 65536 % 256) + 16777216 * (n / 16777216 % 256) ≡ n
back_bytes n h = quotients n (n / 256) (n / 65536) (n / 16777216) h refl (sym (div-div-eq-div-mul n 256 256)) (sym (div-div-eq-div-mul n 65536 256))

bits_fit : (z : ℤ) → nat_abs z ≤ 33554433 → bits z < 4294967296
bits_fit (pos n) h = omega arith
bits_fit (negsuc n) h = omega arith

signed_bits : (z : ℤ) → nat_abs z ≤ 33554433 → signed (bits z) ≡ z
signed_bits (pos n) h = rw (lt-ltb n 2147483648 (omega arith)) refl
signed_bits (negsuc n) h = rw (le-ltb (4294967296 - suc n) 2147483648 (omega arith)) (omega (zint, sub_pn (pos (4294967296 - suc n)) (pos 4294967296)))

-- ---- counts and lengths
pub count_read : (n : ℕ) → n ≤ 257 → signed (n % 256 + 256 * (n / 256 % 256) + 65536 * (n / 65536 % 256) + 16777216 * (n / 16777216 % 256)) ≡ pos n
count_read n h = ap signed (back_bytes n (omega arith)) ∙ rw (lt-ltb n 2147483648 (omega arith)) refl

pub lengths_read : (paths : List (List Point64)) → length (joined paths) ≤ 257 → read_words (words (map length paths)) ≡ map (λ q. pos (length q)) paths
lengths_read [] h = refl
lengths_read (q ∷ paths) h =
    let e = count_read (length q) (omega (arith, length-append q (joined paths))) in
    let f = lengths_read paths (omega (arith, length-append q (joined paths))) in
    λ i. e i ∷ f i

-- ---- a list of coordinates
data Small : List ℤ → Type 0 where
  none : Small []
  more : {z : ℤ} {cs : List ℤ} → nat_abs z ≤ 33554433 → Small cs → Small (z ∷ cs)

read_back : {cs : List ℤ} → Small cs → read_words (words (map bits cs)) ≡ cs
read_back none = refl
read_back (more {z} {cs} h s) = let e = ap signed (back_bytes (bits z) (bits_fit z h)) ∙ signed_bits z h in λ i. e i ∷ read_back s i

-- ---- the coordinates of returned points
near_path : (q : List Point64) → ((p : Point64) → Memᴰ p q → (nat_abs p.x ≤ 33554433) × (nat_abs p.y ≤ 33554433)) → (rest : List Point64) → Small (coordinates_of rest) → Small (coordinates_of (q ++ rest))
near_path [] near rest s = s
near_path (p ∷ q) near rest s = let m = near p (Memᴰ.head refl) in more m.0 (more m.1 (near_path q (λ p' i. near p' (Memᴰ.tail i)) rest s))

near_joined : (paths : List (List Point64)) → ((q : List Point64) → Memᴰ q paths → (p : Point64) → Memᴰ p q → (nat_abs p.x ≤ 33554433) × (nat_abs p.y ≤ 33554433)) → Small (coordinates_of (joined paths))
near_joined [] near = none
near_joined (q ∷ paths) near = near_path q (near q (Memᴰ.head refl)) (joined paths) (near_joined paths (λ q' i. near q' (Memᴰ.tail i)))

pub reads_back : ReadsBack
reads_back closed R path d e = read_back (near_joined d.0 (always_bounded closed R path d e).near)
