-- The loops of `point_in_polygon`, turn by turn. Assumes nothing.
use Rattle.std.specs.Prelude.{if◌then◌else◌}
use mathlib.Core.Path.{◌≡◌, refl, sym, ap, ◌∙◌, subst}
use mathlib.Core.Bool.{Bool, true, false, not, ◌&&◌, ◌||◌}
use mathlib.Core.List.{List}
use Prim.Native.Nat.{ℕ, zero, suc, ◌+◌, ◌-◌, ◌/◌, ◌≤◌, ◌<◌}
use native.Mathlib.Omega.{arith}
use lib.Dec.{eqb, ltb, leb}
use lib.IntN.{ℤ}
use lib.ListN.{length}
use lib.Signed.{lt_z}
use borrow.Author.Tests.{eq-eqb, ne_eqb, lt-ltb, leb-false, leb-true, le-ltb}
use Rattle.integers.specs.Tests.{eq_z}
use Rattle.plane.specs.Points.{points_of, pt_at}
use Rattle.plane.specs.Polygon.{first_off, skipped}
use Rattle.plane.specs.declared.point.Point64.{Point64}
use Rattle.rectclip.proofs.Coordinates.{points_length}

module _ (pt : Point64) (c : List ℤ) where
  abbrev n : ℕ
  n = length c / 2

  inside : (i : ℕ) → i < n → ltb i (length (points_of c)) ≡ true
  inside i h = lt-ltb i (length (points_of c)) (subst (λ (k : ℕ). i < k) (sym (points_length c)) h)

  off_end : (i : ℕ) → i < n → eqb i (length (points_of c)) ≡ false
  off_end i h = ne_eqb i (length (points_of c)) (λ e. omega (arith, points_length c))

  -- ---- the first vertex with another y
  first_on : (left i : ℕ) → i < n → eq_z (pt_at (points_of c) i).y pt.y ≡ true → first_off pt (points_of c) (suc left) i ≡ first_off pt (points_of c) left (i + 1)
  first_on left i h e = rw (inside i h, e)

  first_other : (left i : ℕ) → i < n → eq_z (pt_at (points_of c) i).y pt.y ≡ false → first_off pt (points_of c) (suc left) i ≡ i
  first_other left i h e = rw (inside i h, e)

  pub first_turn : (i : ℕ) → i < n → eq_z (pt_at (points_of c) i).y pt.y ≡ true → first_off pt (points_of c) (n - i) i ≡ first_off pt (points_of c) (n - (i + 1)) (i + 1)
  first_turn i h e = ap (λ (k : ℕ). first_off pt (points_of c) k i) {x = n - i} {y = suc (n - (i + 1))} (omega arith) ∙ first_on (n - (i + 1)) i h e

  pub first_stop : (i : ℕ) → i < n → eq_z (pt_at (points_of c) i).y pt.y ≡ false → first_off pt (points_of c) (n - i) i ≡ i
  first_stop i h e = ap (λ (k : ℕ). first_off pt (points_of c) k i) {x = n - i} {y = suc (n - (i + 1))} (omega arith) ∙ first_other (n - (i + 1)) i h e

  pub first_end : (i : ℕ) → i ≡ n → first_off pt (points_of c) (n - i) i ≡ i
  first_end i e = ap (λ (k : ℕ). first_off pt (points_of c) k i) {x = n - i} {y = 0} (omega arith)

  -- ---- vertices that are skipped
  module _ (is_above wrap : Bool) (first : ℕ) where
    abbrev skip : ℕ → ℕ → ℕ
    skip left i = skipped pt (points_of c) is_above wrap first left i

    abbrev alike : ℕ → Bool
    alike i = if is_above then lt_z (pt_at (points_of c) i).y pt.y else lt_z pt.y (pt_at (points_of c) i).y

    not_round : (i : ℕ) → (wrap && leb first i) ≡ false → (not wrap || ltb i first) ≡ true
    not_round i e = go wrap e
      where
        go : (w : Bool) → (w && leb first i) ≡ false → (not w || ltb i first) ≡ true
        go true e = lt-ltb i first (leb-false first i e)
        go false e = refl

    round : (i : ℕ) → (wrap && leb first i) ≡ true → (not wrap || ltb i first) ≡ false
    round i e = go wrap e
      where
        go : (w : Bool) → (w && leb first i) ≡ true → (not w || ltb i first) ≡ false
        go true e = le-ltb i first (leb-true first i e)
        go false e = sym e

    skip_on : (left i : ℕ) → i < n → (wrap && leb first i) ≡ false → alike i ≡ true → skip (suc left) i ≡ skip left (i + 1)
    skip_on left i h w e = rw (off_end i h, not_round i w, e)

    skip_round : (left i : ℕ) → i < n → (wrap && leb first i) ≡ true → skip (suc left) i ≡ i
    skip_round left i h w = rw (off_end i h, round i w)

    skip_other : (left i : ℕ) → i < n → (wrap && leb first i) ≡ false → alike i ≡ false → skip (suc left) i ≡ i
    skip_other left i h w e = rw (off_end i h, not_round i w, e)

    -- the passes that are left, from a start at `from`
    counted : (from i : ℕ) → from ≤ i → i < n → skip (n + from - i) i ≡ skip (suc (n + from - (i + 1))) i
    counted from i g h = ap (λ (k : ℕ). skip k i) {x = n + from - i} {y = suc (n + from - (i + 1))} (omega arith)

    pub skip_turn : (from i : ℕ) → from ≤ i → i < n → (wrap && leb first i) ≡ false → alike i ≡ true → skip (n + from - i) i ≡ skip (n + from - (i + 1)) (i + 1)
    skip_turn from i g h w e = counted from i g h ∙ skip_on (n + from - (i + 1)) i h w e

    pub skip_wraps : (from i : ℕ) → from ≤ i → i < n → (wrap && leb first i) ≡ true → skip (n + from - i) i ≡ i
    skip_wraps from i g h w = counted from i g h ∙ skip_round (n + from - (i + 1)) i h w

    pub skip_stops : (from i : ℕ) → from ≤ i → i < n → (wrap && leb first i) ≡ false → alike i ≡ false → skip (n + from - i) i ≡ i
    skip_stops from i g h w e = counted from i g h ∙ skip_other (n + from - (i + 1)) i h w e

    pub skip_end : (left i : ℕ) → i ≡ n → skip left i ≡ i
    skip_end zero i e = refl
    skip_end (suc left) i e = rw (eq-eqb i (length (points_of c)) (e ∙ sym (points_length c)))
