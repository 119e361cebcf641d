-- A pass, the end and the loop of `point_in_polygon`, way by way. Assumes nothing.
use Rattle.std.specs.Prelude.{if◌then◌else◌}
use mathlib.Core.Path.{◌≡◌, refl, sym, ap, ◌∙◌, subst}
use mathlib.Core.Bool.{Bool, true, false, not, ◌&&◌, ◌||◌, beq}
use mathlib.Core.List.{List}
use Prim.Native.Nat.{ℕ, suc, ◌-◌, ◌/◌, ◌<◌}
use native.Mathlib.Omega.{arith}
use lib.Dec.{eqb, leb}
use lib.IntN.{ℤ, pos}
use lib.ListN.{length}
use lib.Signed.{lt_z}
use Rattle.integers.specs.Tests.{eq_z}
use Rattle.plane.specs.Points.{points_of, pt_at}
use Rattle.plane.specs.Signs.{cross_product_sign}
use Rattle.plane.specs.Polygon.{skipped, before_idx, at_vertex, scan_pass, scan_answer, scan_loop}
use Rattle.plane.specs.Polygon as polygon
use Rattle.plane.specs.declared.location.PointInPolygonResult.{PointInPolygonResult}
use Rattle.plane.specs.declared.location.PointInPolygonResult.TheVariants.{IsOn, IsInside, IsOutside}
use Rattle.plane.specs.declared.point.Point64.{Point64}
use Rattle.rectclip.specs.Scanned.{bit, scan_of, answer_of}
use Rattle.rectclip.specs.declared.polygon.Scan.{Scan}
use Rattle.rectclip.proofs.Coordinates.{points_length}
use Rattle.rectclip.proofs.ScanSteps.{turned}

-- ---- a pass
module _ (pt : Point64) (c : List ℤ) (first : ℕ) (s : Scan) where
  abbrev n : ℕ
  n = length c / 2

  abbrev whole : polygon.ScanStep
  whole = scan_pass pt (points_of c) first (scan_of s)

  abbrev vertex : Bool → ℕ → polygon.ScanStep
  vertex w i = at_vertex pt (points_of c) first s.is_above w (bit s.val) i

  abbrev skipping : Bool → ℕ → polygon.ScanStep
  skipping w i = polygon.again (record { curr_idx = i; is_above = s.is_above; wrap_to_start = w; val = bit s.val })

  -- with k vertices
  abbrev counted : ℕ → polygon.ScanStep
  counted k =
      let e = eqb s.curr_idx k in
      let w = e || s.wrap_to_start in
      let i = skipped pt (points_of c) s.is_above w first k (if e then 0 else s.curr_idx) in
      if e && (s.wrap_to_start || eqb first 0) then polygon.stop (scan_of s)
      else if eqb i k || (w && leb first i) then skipping w i
      else vertex w i

  pass_counted : whole ≡ counted n
  unfolding scan_pass
  pass_counted = ap counted (points_length c)

  abbrev at_end : Bool
  at_end = eqb s.curr_idx n

  abbrev wrap : Bool
  wrap = at_end || s.wrap_to_start

  pub pass_stops : (at_end && (s.wrap_to_start || eqb first 0)) ≡ true → polygon.stop (scan_of s) ≡ whole
  pass_stops e = rw (pass_counted, e)

  module _ {i from : ℕ} (go : (at_end && (s.wrap_to_start || eqb first 0)) ≡ false) (f : from ≡ (if at_end then 0 else s.curr_idx)) (h : i ≡ skipped pt (points_of c) s.is_above wrap first n from) where
    abbrev I : ℕ
    I = skipped pt (points_of c) s.is_above wrap first n (if at_end then 0 else s.curr_idx)

    here : i ≡ I
    here = h ∙ ap (λ (k : ℕ). skipped pt (points_of c) s.is_above wrap first n k) f

    pub pass_skips : (eqb i n || (wrap && leb first i)) ≡ true → skipping wrap i ≡ whole
    pass_skips e =
        let e2 : (eqb I n || (wrap && leb first I)) ≡ true = subst (λ (k : ℕ). (eqb k n || (wrap && leb first k)) ≡ true) here e in
        ap (skipping wrap) here ∙ rw (pass_counted, go, e2)

    pub pass_vertex : {x : polygon.ScanStep} → (eqb i n || (wrap && leb first i)) ≡ false → x ≡ vertex wrap i → x ≡ whole
    pass_vertex e g =
        let e2 : (eqb I n || (wrap && leb first I)) ≡ false = subst (λ (k : ℕ). (eqb k n || (wrap && leb first k)) ≡ false) here e in
        g ∙ ap (vertex wrap) here ∙ rw (pass_counted, go, e2)

-- ---- the end
-- the definition's answer of a number, and the code's of a truth value
abbrev number_answer : ℕ → PointInPolygonResult
number_answer val = if eqb val 0 then IsOutside else IsInside

answered : (v : Bool) → answer_of v ≡ number_answer (bit v)
answered true = refl
answered false = refl

module _ (pt : Point64) (c : List ℤ) (starting : Bool) (s : Scan) where
  abbrev ending : PointInPolygonResult
  ending = scan_answer pt (points_of c) starting (scan_of s)

  pub ends_alike : {r : PointInPolygonResult} → beq s.is_above starting ≡ true → r ≡ answer_of s.val → r ≡ ending
  unfolding scan_answer
  ends_alike e f = f ∙ answered s.val ∙ rw e

  -- the last edge ends at vertex i, from p to q, and d is the sign of its turn
  module _ {i b : ℕ} {p q : Point64} {d : ℤ} (other : beq s.is_above starting ≡ false) (f : i ≡ (if leb (length c / 2) s.curr_idx then 0 else s.curr_idx))
      (g : q ≡ pt_at (points_of c) i) (h : p ≡ pt_at (points_of c) b) (k : b ≡ (if eqb i 0 then length c / 2 - 1 else i - 1)) (l : d ≡ cross_product_sign p q pt) where
    abbrev last_idx : ℕ
    last_idx = if leb (length (points_of c)) s.curr_idx then 0 else s.curr_idx

    abbrev D : ℤ
    D = cross_product_sign (pt_at (points_of c) (before_idx pt (points_of c) last_idx)) (pt_at (points_of c) last_idx) pt

    at : i ≡ last_idx
    at = f ∙ ap (λ (n : ℕ). if leb n s.curr_idx then 0 else s.curr_idx) (sym (points_length c))

    before : b ≡ before_idx pt (points_of c) last_idx
    before = k ∙ (λ j. if eqb (at j) 0 then sym (points_length c) j - 1 else at j - 1)

    turn : d ≡ D
    turn = l ∙ λ j. cross_product_sign ((h ∙ ap (pt_at (points_of c)) before) j) ((g ∙ ap (pt_at (points_of c)) at) j) pt

    pub ends_on : eq_z d (pos 0) ≡ true → IsOn ≡ ending
    unfolding scan_answer
    ends_on e = let z : eq_z D (pos 0) ≡ true = sym (ap (λ (x : ℤ). eq_z x (pos 0)) turn) ∙ e in rw (other, z)

    pub ends_across : {r : PointInPolygonResult} → eq_z d (pos 0) ≡ false → beq (lt_z d (pos 0)) s.is_above ≡ true → r ≡ answer_of (not s.val) → r ≡ ending
    unfolding scan_answer
    ends_across e m t =
        let z : eq_z D (pos 0) ≡ false = sym (ap (λ (x : ℤ). eq_z x (pos 0)) turn) ∙ e in
        let y : beq (lt_z D (pos 0)) s.is_above ≡ true = sym (ap (λ (x : ℤ). beq (lt_z x (pos 0)) s.is_above) turn) ∙ m in
        t ∙ answered (not s.val) ∙ ap number_answer (turned s.val) ∙ rw (other, z, y)

    pub ends_aside : {r : PointInPolygonResult} → eq_z d (pos 0) ≡ false → beq (lt_z d (pos 0)) s.is_above ≡ false → r ≡ answer_of s.val → r ≡ ending
    unfolding scan_answer
    ends_aside e m t =
        let z : eq_z D (pos 0) ≡ false = sym (ap (λ (x : ℤ). eq_z x (pos 0)) turn) ∙ e in
        let y : beq (lt_z D (pos 0)) s.is_above ≡ false = sym (ap (λ (x : ℤ). beq (lt_z x (pos 0)) s.is_above) turn) ∙ m in
        t ∙ answered s.val ∙ rw (other, z, y)

-- ---- the loop
module _ (pt : Point64) (c : List ℤ) (first : ℕ) (starting : Bool) (s : Scan) where
  abbrev run : ℕ → Scan → PointInPolygonResult
  run left t = scan_loop pt (points_of c) first left starting (scan_of t)

  abbrev pass : polygon.ScanStep
  pass = scan_pass pt (points_of c) first (scan_of s)

  abbrev told : ℕ → polygon.ScanStep → PointInPolygonResult
  told left x = elim x [ polygon.on_edge ↦ IsOn | polygon.stop t ↦ scan_answer pt (points_of c) starting t | polygon.again t ↦ scan_loop pt (points_of c) first left starting t ]

  once : (left : ℕ) → run (suc left) s ≡ told left pass
  unfolding scan_loop
  once left = refl

  more : (left : ℕ) → 0 < left → run left s ≡ told (left - 1) pass
  more left h = ap (λ (k : ℕ). run k s) {x = left} {y = suc (left - 1)} (omega arith) ∙ once (left - 1)

  pub loop_on : (left : ℕ) → 0 < left → polygon.on_edge ≡ pass → IsOn ≡ run left s
  loop_on left h e = ap (told (left - 1)) e ∙ sym (more left h)

  pub loop_stops : (left : ℕ) (t : Scan) {r : PointInPolygonResult} → 0 < left → polygon.stop (scan_of t) ≡ pass → r ≡ scan_answer pt (points_of c) starting (scan_of t) → r ≡ run left s
  loop_stops left t h e f = f ∙ ap (told (left - 1)) e ∙ sym (more left h)

  pub loop_goes_on : (left : ℕ) (t : Scan) → 0 < left → polygon.again (scan_of t) ≡ pass → run (left - 1) t ≡ run left s
  loop_goes_on left t h e = ap (told (left - 1)) e ∙ sym (more left h)

  pub loop_ends : (left : ℕ) {r : PointInPolygonResult} → left ≡ 0 → r ≡ scan_answer pt (points_of c) starting (scan_of s) → r ≡ run left s
  unfolding scan_loop
  loop_ends left h f = f ∙ ap (λ (k : ℕ). run k s) {x = 0} {y = left} (sym h)
