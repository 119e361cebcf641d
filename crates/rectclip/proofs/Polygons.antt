-- `point_in_polygon` way by way, and the turns of `path1_contains_path2`. Assumes nothing.
use Rattle.std.specs.Prelude.{if◌then◌else◌}
use mathlib.Core.Path.{◌≡◌, refl, sym, ap, ◌∙◌}
use mathlib.Core.Bool.{Bool, true, false, ◌||◌}
use mathlib.Core.List.{List, [], ◌∷◌}
use Prim.Native.Nat.{ℕ, zero, suc, ◌+◌, ◌*◌, ◌/◌, ◌%◌, ◌≤◌, ◌<◌}
use native.Mathlib.Numerals.{add-one}
use native.Mathlib.Omega.{arith}
use lib.Dec.{eqb, ltb}
use lib.IntN.{ℤ, pos, negsuc, nat_abs}
use lib.ListN.{length, drop, length-drop}
use lib.Seq.{drop-cons}
use lib.Signed.{lt_z}
use borrow.Author.Tests.{eq-eqb, ne_eqb, lt-ltb, le-ltb}
use Rattle.integers.specs.Tests.{cond_true, cond_false}
use Rattle.plane.specs.Points.{origin, points_of, pt_at}
use Rattle.plane.specs.Polygon.{first_off, scan_loop, point_in_polygon, counted, contains_from}
use Rattle.plane.specs.Polygon as polygon
use Rattle.plane.specs.declared.location.PointInPolygonResult.{PointInPolygonResult}
use Rattle.plane.specs.declared.location.PointInPolygonResult.TheVariants.{IsOutside}
use Rattle.plane.specs.declared.point.Point64.{Point64}
use Rattle.rectclip.proofs.Coordinates.{points_length}

module _ (pt : Point64) (c : List ℤ) where
  abbrev n : ℕ
  n = length c / 2

  abbrev start : ℕ → Bool → ℕ → polygon.Scan
  start f above k = record { curr_idx = (f + 1) % k; is_above = above; wrap_to_start = false; val = 0 }

  -- with k vertices
  abbrev of_size : ℕ → PointInPolygonResult
  of_size k =
      let f = first_off pt (points_of c) k 0 in
      let above = lt_z (pt_at (points_of c) f).y pt.y in
      let answer = scan_loop pt (points_of c) f (2 * k + 2) above (start f above k) in
      if ltb k 3 then IsOutside else if eqb f k then IsOutside else answer

  sized : point_in_polygon pt (points_of c) ≡ of_size n
  unfolding point_in_polygon
  sized = ap of_size (points_length c)

  pub too_few : n < 3 → IsOutside ≡ point_in_polygon pt (points_of c)
  too_few h = rw (sized, lt-ltb n 3 h)

  pub all_level : {f : ℕ} → 3 ≤ n → f ≡ first_off pt (points_of c) n 0 → f ≡ n → IsOutside ≡ point_in_polygon pt (points_of c)
  all_level h e g = rw (sized, le-ltb n 3 h, eq-eqb (first_off pt (points_of c) n 0) n (sym e ∙ g))

  pub scanned : {f : ℕ} {r : PointInPolygonResult} → 3 ≤ n → f ≡ first_off pt (points_of c) n 0 → (f ≡ n → ⊥)
      → r ≡ scan_loop pt (points_of c) f (2 * n + 2) (lt_z (pt_at (points_of c) f).y pt.y) (start f (lt_z (pt_at (points_of c) f).y pt.y) n) → r ≡ point_in_polygon pt (points_of c)
  scanned h e g k =
      k ∙ ap (λ (x : ℕ). scan_loop pt (points_of c) x (2 * n + 2) (lt_z (pt_at (points_of c) x).y pt.y) (start x (lt_z (pt_at (points_of c) x).y pt.y) n)) e
      ∙ rw (sized, le-ltb n 3 h, ne_eqb (first_off pt (points_of c) n 0) n (λ q. g (e ∙ q)))

-- ---- the other path's points
module _ (P Q : List Point64) where
  contains_turn : (i : ℕ) (io : ℤ) → i < length Q
      → contains_from P io (drop i Q) ≡ (let x = counted io (point_in_polygon (pt_at Q i) P) in if ltb 1 (nat_abs x) then x else contains_from P x (drop (i + 1) Q))
  contains_turn i io h = rw (add-one, drop-cons Q i origin h)

  -- x is the count with point i, which is p, and a is its answer
  module _ (i : ℕ) (io : ℤ) {p : Point64} {a : PointInPolygonResult} {x : ℤ} (h : i < length Q) (e : p ≡ pt_at Q i) (f : a ≡ point_in_polygon p P) (g : x ≡ counted io a) where
    counts : x ≡ counted io (point_in_polygon (pt_at Q i) P)
    counts = g ∙ ap (counted io) (f ∙ ap (λ (q : Point64). point_in_polygon q P) e)

    pub contains_stops : ltb 1 (nat_abs x) ≡ true → x ≡ contains_from P io (drop i Q)
    contains_stops t =
        counts
        ∙ sym (cond_true (ltb 1 (nat_abs (counted io (point_in_polygon (pt_at Q i) P)))) (counted io (point_in_polygon (pt_at Q i) P)) (contains_from P (counted io (point_in_polygon (pt_at Q i) P)) (drop (i + 1) Q)) (sym (ap (λ (z : ℤ). ltb 1 (nat_abs z)) counts) ∙ t))
        ∙ sym (contains_turn i io h)

    pub contains_goes_on : ltb 1 (nat_abs x) ≡ false → contains_from P x (drop (i + 1) Q) ≡ contains_from P io (drop i Q)
    contains_goes_on t =
        ap (λ (z : ℤ). contains_from P z (drop (i + 1) Q)) counts
        ∙ sym (cond_false (ltb 1 (nat_abs (counted io (point_in_polygon (pt_at Q i) P)))) (counted io (point_in_polygon (pt_at Q i) P)) (contains_from P (counted io (point_in_polygon (pt_at Q i) P)) (drop (i + 1) Q)) (sym (ap (λ (z : ℤ). ltb 1 (nat_abs z)) counts) ∙ t))
        ∙ sym (contains_turn i io h)

  pub contains_none : (i : ℕ) (io : ℤ) → length Q ≤ i → contains_from P io (drop i Q) ≡ io
  contains_none i io h = go (drop i Q) (omega (arith, length-drop i Q))
    where
      none : (n : ℕ) → suc n ≤ 0 → ⊥
      none n h = omega arith

      go : (l : List Point64) → length l ≤ 0 → contains_from P io l ≡ io
      go [] h = refl
      go (x ∷ l) h = absurd (none (length l) h)

-- the code's test of the count
pub past_one : (z : ℤ) → (lt_z z (negsuc 0) || lt_z (pos 1) z) ≡ ltb 1 (nat_abs z)
past_one (pos m) = refl
past_one (negsuc m) = go m
  where
    go : (m : ℕ) → (ltb 0 m || false) ≡ ltb 1 (suc m)
    go zero = refl
    go (suc m) = ap (λ (b : Bool). b || false) (lt-ltb 0 (suc m) (omega arith)) ∙ sym (lt-ltb 1 (suc (suc m)) (omega arith))
