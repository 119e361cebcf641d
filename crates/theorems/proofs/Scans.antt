-- The passes of `point_in_polygon` are enough: it goes to the end of the polygon and then, if it wraps, only over the vertices before the first, which all lie on the point's row.
use mathlib.Core.Path.{◌≡◌, refl, sym, ap, ◌∙◌, subst}
use mathlib.Core.Bool.{Bool, true, false, cond, not, ◌&&◌, ◌||◌, beq}
use mathlib.Core.Logic.{◌⊎◌, inl, inr}
use mathlib.Core.List.{List}
use Prim.Native.Nat.{ℕ, zero, suc, ◌+◌, ◌*◌, ◌<◌, ◌≤◌, zero-le}
use native.Mathlib.Nat.{mod-lt}
use native.Mathlib.Omega.{arith}
use lib.ListN.{length}
use lib.Dec.{eqb, ltb, leb, ltb→lt, leb→le, eqb→eq}
use borrow.Author.Tests.{eq-eqb}
use lib.IntN.{pos}
use lib.Signed.{lt_z}
use Rattle.integers.specs.Order.{zint, eq→}
use Rattle.integers.specs.Tests.{eq_z, eqZ_true, le_ltZ, T_of}
use Rattle.plane.specs.declared.point.Point64.{Point64}
use Rattle.plane.specs.declared.location.PointInPolygonResult.{PointInPolygonResult}
use Rattle.plane.specs.declared.location.PointInPolygonResult.TheVariants.{IsOn}
use Rattle.plane.specs.Points.{pt_at}
use Rattle.plane.specs.Signs.{cross_product_sign}
use Rattle.plane.specs.Polygon.{Scan, ScanStep, on_edge, stop, again, first_off, skipped, before_idx, at_vertex, scan_pass, scan_answer, scan_loop, scan_start}
use Rattle.theorems.specs.Bounds.{Ends, Stops, ScanStops, FirstOffEnds, SkippedEnds, ScanEnds}
use Rattle.theorems.proofs.Ends.{more_of}
use Rattle.theorems.proofs.Tests.{never}

not_eq : (m n : ℕ) → eqb m n ≡ false → m ≡ n → ⊥
not_eq m n e q = never (eq-eqb m n q) e

and_false : (a b : Bool) → ((a && b) && false) ≡ false
and_false true true = refl
and_false true false = refl
and_false false b = refl

le_or : (i j : ℕ) → i ≤ j → (i ≡ j) ⊎ (i + 1 ≤ j)
le_or i j h = go (eqb i j) refl
  where
    go : (b : Bool) → eqb i j ≡ b → (i ≡ j) ⊎ (i + 1 ≤ j)
    go true e = inl (eqb→eq i j (T_of e))
    go false e = inr (let q = not_eq i j e in omega arith)

module _ (pt : Point64) (polygon : List Point64) where
  abbrev n : ℕ
  n = length polygon

  abbrev row? : ℕ → Bool
  row? i = eq_z (pt_at polygon i).y pt.y

  -- the vertices before the first are on the point's row
  pub before_first : (left i j : ℕ) → i ≤ j → j < first_off pt polygon left i → row? j ≡ true
  before_first zero i j h l = absurd (omega arith)
  before_first (suc left) i j h l = go (ltb i n) (row? i) refl l (λ g k. before_first left (i + 1) j g k)
    where
      go : (b c : Bool) → row? i ≡ c → j < cond (b && c) (first_off pt polygon left (i + 1)) i → (i + 1 ≤ j → j < first_off pt polygon left (i + 1) → row? j ≡ true) → row? j ≡ true
      go true true e l k = at_or (le_or i j h)
        where
          at_or : (i ≡ j) ⊎ (i + 1 ≤ j) → row? j ≡ true
          at_or (inl q) = subst (λ (x : ℕ). row? x ≡ true) q e
          at_or (inr q) = k q l
      go true false e l k = absurd (omega arith)
      go false c e l k = absurd (omega arith)

  pub first_in : (left i : ℕ) → i ≤ n → first_off pt polygon left i ≤ n
  first_in zero i h = h
  first_in (suc left) i h = go (ltb i n) refl (row? i) (first_in left (i + 1))
    where
      go : (b : Bool) → ltb i n ≡ b → (c : Bool) → (i + 1 ≤ n → first_off pt polygon left (i + 1) ≤ n) → cond (b && c) (first_off pt polygon left (i + 1)) i ≤ n
      go true e true k = k (let l = ltb→lt i n (T_of e) in omega arith)
      go true e false k = h
      go false e c k = h

  -- ---- the skipping
  skips_in : (a w : Bool) (first left i : ℕ) → i ≤ n → (i ≤ skipped pt polygon a w first left i) × (skipped pt polygon a w first left i ≤ n)
  skips_in a w first zero i h = (omega arith, h)
  skips_in a w first (suc left) i h = go (eqb i n) refl ((not w || ltb i first)) (cond a (lt_z (pt_at polygon i).y pt.y) (lt_z pt.y (pt_at polygon i).y)) (λ g. skips_in a w first left (i + 1) g)
    where
      rest : ℕ
      rest = skipped pt polygon a w first left (i + 1)

      go : (e : Bool) → eqb i n ≡ e → (b c : Bool) → (i + 1 ≤ n → (i + 1 ≤ rest) × (rest ≤ n)) → (i ≤ cond ((not e && b) && c) rest i) × (cond ((not e && b) && c) rest i ≤ n)
      go true q b c k = (omega arith, h)
      go false q true true k = let ne = not_eq i n q in let r = k (omega arith) in (omega (arith, r.0), r.1)
      go false q true false k = (omega arith, h)
      go false q false c k = (omega arith, h)

  -- no vertex on the row is skipped
  row_stays : (a w : Bool) (first left i : ℕ) → row? i ≡ true → skipped pt polygon a w first left i ≡ i
  row_stays a w first zero i e = refl
  row_stays a w first (suc left) i e =
      ap (λ (c : Bool). cond ((not (eqb i n) && (not w || ltb i first)) && c) (skipped pt polygon a w first left (i + 1)) i) (same a) ∙ ap (λ (c : Bool). cond c (skipped pt polygon a w first left (i + 1)) i) (and_false (not (eqb i n)) (not w || ltb i first))
    where
      q : (pt_at polygon i).y ≡ pt.y
      q = eqZ_true e

      same : (a : Bool) → cond a (lt_z (pt_at polygon i).y pt.y) (lt_z pt.y (pt_at polygon i).y) ≡ false
      same true = le_ltZ (pt_at polygon i).y pt.y (omega (zint, eq→ q))
      same false = le_ltZ pt.y (pt_at polygon i).y (omega (zint, eq→ q))

  module _ (first : ℕ) (fi : first < n) (rows : (j : ℕ) → j < first → row? j ≡ true) where
    -- m passes are enough from vertex c on; w: it has wrapped
    abbrev Fuel : ℕ → ℕ → Bool → Type 0
    Fuel m c false = (c ≤ n) × (n + 1 + first ≤ m + c)
    Fuel m c true = (c < first) × (first ≤ m + c)

    abbrev Then : ℕ → ScanStep → Type 0
    Then m on_edge = Unit {0}
    Then m (stop t) = Unit {0}
    Then m (again t) = Fuel m t.curr_idx t.wrap_to_start

    by_if : (P : ScanStep → Type 0) (b : Bool) (x y : ScanStep) → (b ≡ true → P x) → (b ≡ false → P y) → P (cond b x y)
    by_if P true x y h k = h refl
    by_if P false x y h k = k refl

    vertex : (m : ℕ) (a w : Bool) (v i : ℕ) → ((eqb (i + 1) first ≡ false) ⊎ (row? i ≡ false) → Fuel m (i + 1) w) → Then m (at_vertex pt polygon first a w v i)
    unfolding at_vertex
    vertex m a w v i h =
        by_if (Then m) (row? i) _ _
        (λ e. by_if (Then m) (eq_z (pt_at polygon i).x pt.x || (row2 && not (beq (lt_z pt.x prev.x) (lt_z pt.x (pt_at polygon i).x)))) _ _ (λ _. tt)
        (λ _. by_if (Then m) (eqb (i + 1) first) _ _ (λ _. tt) (λ f. h (inl f))))
        (λ e. by_if (Then m) (lt_z pt.x (pt_at polygon i).x && lt_z pt.x prev.x) _ _ (λ _. h (inr e))
        (λ _. by_if (Then m) (lt_z prev.x pt.x && lt_z (pt_at polygon i).x pt.x) _ _ (λ _. h (inr e))
        (λ _. by_if (Then m) (eq_z (cross_product_sign prev (pt_at polygon i) pt) (pos 0)) _ _ (λ _. tt)
        (λ _. by_if (Then m) (beq (lt_z (cross_product_sign prev (pt_at polygon i) pt) (pos 0)) a) _ _ (λ _. h (inr e)) (λ _. h (inr e))))))
      where
        prev : Point64
        prev = pt_at polygon (before_idx pt polygon i)

        row2 : Bool
        row2 = eq_z (pt_at polygon i).y prev.y

    -- a pass, by its tests
    abbrev body : Scan → Bool → Bool → ScanStep
    body s at w =
        let i = skipped pt polygon s.is_above (at || w) first n (cond at 0 s.curr_idx) in
        cond (at && (w || eqb first 0)) (stop s)
        (cond (eqb i n || ((at || w) && leb first i)) (again (record { curr_idx = i; is_above = s.is_above; wrap_to_start = at || w; val = s.val }))
        (at_vertex pt polygon first s.is_above (at || w) s.val i))

    body_is : (s : Scan) → scan_pass pt polygon first s ≡ body s (eqb s.curr_idx n) s.wrap_to_start
    unfolding scan_pass
    body_is s = refl

    -- having wrapped, at a vertex before the first
    wrapped : (m : ℕ) (a : Bool) (v c i : ℕ) (s : Scan) → c < first → first ≤ suc m + c → i ≡ c
        → Then m (cond (eqb i n || leb first i) (again (record { curr_idx = i; is_above = a; wrap_to_start = true; val = v })) (at_vertex pt polygon first a true v i))
    wrapped m a v c i s l h e =
        by_if (Then m) (eqb i n || leb first i) _ _ (λ q. absurd (neither (eqb i n) refl (leb first i) refl q))
        (λ _. vertex m a true v i (λ o. further o))
      where
        neither : (x : Bool) → eqb i n ≡ x → (y : Bool) → leb first i ≡ y → (x || y) ≡ true → ⊥
        neither true p y q r = let z : i ≡ n = eqb→eq i n (T_of p) in omega arith
        neither false p true q r = let z : first ≤ i = leb→le first i (T_of q) in omega arith
        neither false p false q r = never r refl

        further : (eqb (i + 1) first ≡ false) ⊎ (row? i ≡ false) → Fuel m (i + 1) true
        further (inl q) = let ne = not_eq (i + 1) first q in (omega arith, omega arith)
        further (inr q) = never (rows i (omega arith)) q

    pass : (m : ℕ) (s : Scan) (at w : Bool) → eqb s.curr_idx n ≡ at → Fuel (suc m) s.curr_idx w → Then m (body s at w)
    pass m s true true e h = absurd (let q : s.curr_idx ≡ n = eqb→eq s.curr_idx n (T_of e) in omega (arith, h.0))
    pass m s true false e h =
        by_if (Then m) (eqb first 0) _ _ (λ _. tt)
        (λ z. let ne = not_eq first 0 z in let q : s.curr_idx ≡ n = eqb→eq s.curr_idx n (T_of e) in
        wrapped m s.is_above s.val 0 _ s (omega arith) (omega (arith, h.1)) (row_stays s.is_above true first n 0 (rows 0 (omega arith))))
    pass m s false true e h = wrapped m s.is_above s.val s.curr_idx _ s h.0 h.1 (row_stays s.is_above true first n s.curr_idx (rows s.curr_idx h.0))
    pass m s false false e h = ahead (skipped pt polygon s.is_above false first n s.curr_idx) k.0 k.1
      where
        k : (s.curr_idx ≤ skipped pt polygon s.is_above false first n s.curr_idx) × (skipped pt polygon s.is_above false first n s.curr_idx ≤ n)
        k = skips_in s.is_above false first n s.curr_idx h.0

        ahead : (i : ℕ) → s.curr_idx ≤ i → i ≤ n
            → Then m (cond (eqb i n || false) (again (record { curr_idx = i; is_above = s.is_above; wrap_to_start = false; val = s.val })) (at_vertex pt polygon first s.is_above false s.val i))
        ahead i l g = on (eqb i n) refl
          where
            on : (b : Bool) → eqb i n ≡ b → Then m (cond (b || false) (again (record { curr_idx = i; is_above = s.is_above; wrap_to_start = false; val = s.val })) (at_vertex pt polygon first s.is_above false s.val i))
            on true q = let z : i ≡ n = eqb→eq i n (T_of q) in let ne = not_eq s.curr_idx n e in (g, omega (arith, h.1, h.0))
            on false q = let ne = not_eq i n q in vertex m s.is_above false s.val i (λ _. (omega arith, omega (arith, h.1)))

    -- it ends at a vertex where it stops, or on an edge, before its passes are used up
    pub stops : (m : ℕ) (s : Scan) → Fuel m s.curr_idx s.wrap_to_start → Stops pt polygon first m s
    stops zero s h = none s.wrap_to_start h
      where
        none : (w : Bool) → Fuel 0 s.curr_idx w → ⊥
        none true h = omega (arith, h.0, h.1)
        none false h = omega (arith, h.0, h.1)
    stops (suc m) s h = go (scan_pass pt polygon first s) (subst (Then m) (sym (body_is s)) (pass m s (eqb s.curr_idx n) s.wrap_to_start refl h)) (λ t g. stops m t g)
      where
        go : (z : ScanStep) → Then m z → ((t : Scan) → Fuel m t.curr_idx t.wrap_to_start → Stops pt polygon first m t) → Ends (Stops pt polygon first m) z
        go on_edge f k = tt
        go (stop t) f k = tt
        go (again t) f k = k t f

  -- a loop that has ended is not changed by more passes
  loops : (first m : ℕ) (above : Bool) (s : Scan) → Stops pt polygon first m s → scan_loop pt polygon first (suc m) above s ≡ scan_loop pt polygon first m above s
  unfolding scan_loop
  loops first zero above s h = absurd h
  loops first (suc m) above s h = go (scan_pass pt polygon first s) h (λ t g. loops first m above t g)
    where
      go : (z : ScanStep) → Ends (Stops pt polygon first m) z → ((t : Scan) → Stops pt polygon first m t → scan_loop pt polygon first (suc m) above t ≡ scan_loop pt polygon first m above t)
          → ◌≡◌ {A = PointInPolygonResult} (elim z [ on_edge ↦ IsOn | stop t ↦ scan_answer pt polygon above t | again t ↦ scan_loop pt polygon first (suc m) above t ])
          (elim z [ on_edge ↦ IsOn | stop t ↦ scan_answer pt polygon above t | again t ↦ scan_loop pt polygon first m above t ])
      go on_edge f k = refl
      go (stop t) f k = refl
      go (again t) f k = k t f

  -- ---- the two `while`s
  first_more : (m i : ℕ) → n ≤ m + i → first_off pt polygon (suc m) i ≡ first_off pt polygon m i
  first_more zero i h = go (ltb i n) refl
    where
      go : (b : Bool) → ltb i n ≡ b → cond (b && row? i) (i + 1) i ≡ i
      go true e = absurd (let z : i < n = ltb→lt i n (T_of e) in omega arith)
      go false e = refl
  first_more (suc m) i h = ap (λ (x : ℕ). cond (ltb i n && row? i) x i) (first_more m (i + 1) (omega arith))

  skip_more : (a w : Bool) (first m i : ℕ) → i ≤ n → n ≤ m + i → skipped pt polygon a w first (suc m) i ≡ skipped pt polygon a w first m i
  skip_more a w first zero i l h = go (eqb i n) refl
    where
      same : Bool
      same = cond a (lt_z (pt_at polygon i).y pt.y) (lt_z pt.y (pt_at polygon i).y)

      go : (b : Bool) → eqb i n ≡ b → cond ((not b && (not w || ltb i first)) && same) (i + 1) i ≡ i
      go true e = refl
      go false e = absurd (let ne = not_eq i n e in omega arith)
  skip_more a w first (suc m) i l h = go (eqb i n) refl (λ g. skip_more a w first m (i + 1) g (omega arith))
    where
      same : Bool
      same = cond a (lt_z (pt_at polygon i).y pt.y) (lt_z pt.y (pt_at polygon i).y)

      go : (b : Bool) → eqb i n ≡ b → (i + 1 ≤ n → skipped pt polygon a w first (suc m) (i + 1) ≡ skipped pt polygon a w first m (i + 1))
          → cond ((not b && (not w || ltb i first)) && same) (skipped pt polygon a w first (suc m) (i + 1)) i ≡ cond ((not b && (not w || ltb i first)) && same) (skipped pt polygon a w first m (i + 1)) i
      go true e k = refl
      go false e k = ap (λ (x : ℕ). cond (((not w || ltb i first)) && same) x i) (k (let ne = not_eq i n e in omega arith))

-- from a vertex, within any number of passes that is large enough
from_vertex : (pt : Point64) (polygon : List Point64) (s : Scan) (m : ℕ) → first_off pt polygon (length polygon) 0 < length polygon → s.curr_idx < length polygon → s.wrap_to_start ≡ false → 2 * length polygon + 2 ≤ m
    → Stops pt polygon (first_off pt polygon (length polygon) 0) m s
from_vertex pt polygon s m fi ci w h =
    let first = first_off pt polygon (length polygon) 0 in
    let rows : (j : ℕ) → j < first → row? pt polygon j ≡ true = λ j l. before_first pt polygon (length polygon) 0 j (omega arith) l in
    stops pt polygon first fi rows m s (subst (Fuel pt polygon first fi rows m s.curr_idx) (sym w) (omega arith, omega arith))

-- the Rust's loop ends
pub scan_stops : ScanStops
scan_stops pt polygon e =
    let first = first_off pt polygon (length polygon) 0 in
    let ne = not_eq first (length polygon) e in
    let le = first_in pt polygon (length polygon) 0 zero-le in
    let fi : first < length polygon = omega arith in
    from_vertex pt polygon (scan_start pt polygon first) (2 * length polygon + 2) fi (mod-lt (first + 1) (omega arith)) refl (omega arith)

pub first_off_ends : FirstOffEnds
first_off_ends pt polygon = more_of (λ (k : ℕ). first_off pt polygon k 0) (length polygon) (λ m h. first_more pt polygon m 0 (omega arith))

pub skipped_ends : SkippedEnds
skipped_ends pt polygon a w first i l = more_of (λ (k : ℕ). skipped pt polygon a w first k i) (length polygon) (λ m h. skip_more pt polygon a w first m i l (omega arith))

pub scan_ends : ScanEnds
scan_ends pt polygon s above fi ci w =
    let first = first_off pt polygon (length polygon) 0 in
    more_of (λ (k : ℕ). scan_loop pt polygon first k above s) (2 * length polygon + 2) (λ m h. loops pt polygon first m above s (from_vertex pt polygon s m fi ci w (omega arith)))
