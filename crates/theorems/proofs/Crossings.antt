-- What the search for a crossing finds: a corner, or a point near an exact crossing.
use mathlib.Core.Path.{◌≡◌, refl, sym, ap, ◌∙◌, subst}
use mathlib.Core.Bool.{Bool, true, false, cond, not, ◌&&◌, ◌||◌, beq}
use mathlib.Core.Logic.{◌⊎◌, inl, inr}
use Prim.Native.Nat.{◌<◌, zero-le}
use native.Mathlib.Nat.{lt_of_le_of_lt}
use native.Mathlib.Omega.{arith}
use lib.IntN.{ℤ, pos, nat_abs, ◌-ℤ◌, ◌*ℤ◌, *ℤ-zero, zero-*ℤ}
use lib.Signed.{lt_z, ◌≤ℤ◌, ◌<ℤ◌}
use Rattle.integers.specs.Order.{zint}
use Rattle.integers.specs.Laws.{ -ℤ_zero}
use Rattle.integers.specs.Sign.{mul-zero}
use Rattle.integers.specs.Tests.{eq_z, eqZ_true, eqZ_false}
use Rattle.rounding.specs.Coordinate.{exact, Crosses, is_negative}
use Rattle.rounding.proofs.Exact.{crosses_lt, none, left_product}
use Rattle.rounding.proofs.Edge.{crosses_of_signs}
use Rattle.rounding.proofs.Along.{between_ends}
use Rattle.std.specs.Prelude.{Option, None}
use Rattle.std.proofs.lemmas.Option.{none-some}
use Rattle.plane.specs.declared.point.Point64.{Point64}
use Rattle.plane.specs.Limit.{AllLimited}
use Rattle.plane.specs.Segment.{intersection}
use Rattle.theorems.proofs.Holds.{same_find}
use Rattle.theorems.proofs.Crossed.{near_crossing}
use Rattle.plane.specs.declared.location.Location.{Location}
use Rattle.plane.specs.Points.{same_point}
use Rattle.plane.specs.Signs.{cross_product_sign, is_horizontal}
use Rattle.plane.specs.Intersection.{found_at, at_end, get_segment_intersection, met}
use Rattle.theorems.proofs.Tests.{never}
use Rattle.theorems.proofs.CrossingSigns.{sgn_zero, sgn_facts, differ, NearBy, apart, at_start, at_finish, crosses_between, Ends, ordered, along_edge, sgn_facts', differ_back, unlike_plain, unlike_first}

-- ---- what is found, case by case
module _ (s : Location) (q : Point64) (t : Location) where
  chain : {W : Type 0} (b : Bool) (x y : Option Point64) → (b ≡ true → met s x ≡ found_at q t → W) → (b ≡ false → met s y ≡ found_at q t → W) → met s (cond b x y) ≡ found_at q t → W
  chain true x y h k e = h refl e
  chain false x y h k e = k refl e

  nothing : {W : Type 0} → None ≡ found_at q t → W
  nothing e = absurd (none-some _ e)

  same : (p : Point64) → found_at p s ≡ found_at q t → q ≡ p
  same p e = (same_find (sym e)).0

  -- an end of one on the other: the end itself
  end_is : (p a b : Point64) → met s (at_end p a b) ≡ found_at q t → q ≡ p
  unfolding at_end
  end_is p a b =
      chain (same_point p a || same_point p b) _ _ (λ _ e. same p e)
      (λ _. chain (is_horizontal a b) _ _
      (λ _. chain (beq (lt_z a.x p.x) (lt_z p.x b.x)) _ _ (λ _ e. same p e) (λ _ e. nothing e))
      (λ _. chain (beq (lt_z a.y p.y) (lt_z p.y b.y)) _ _ (λ _ e. same p e) (λ _ e. nothing e)))

pub same_is : (p q : Point64) → same_point p q ≡ true → p ≡ q
same_is p q e = go (eq_z p.x q.x) refl (eq_z p.y q.y) refl e
  where
    go : (s : Bool) → eq_z p.x q.x ≡ s → (t : Bool) → eq_z p.y q.y ≡ t → (s && t) ≡ true → p ≡ q
    go true f true g e = λ i. record { x = eqZ_true {a = p.x} {b = q.x} f i; y = eqZ_true {a = p.y} {b = q.y} g i }
    go true f false g e = never e refl
    go false f t g e = never e refl

one_of : (p a b : Point64) → (same_point p a || same_point p b) ≡ true → (p ≡ a) ⊎ (p ≡ b)
one_of p a b e = go (same_point p a) refl e
  where
    go : (s : Bool) → same_point p a ≡ s → (s || same_point p b) ≡ true → (p ≡ a) ⊎ (p ≡ b)
    go true f e = inl (same_is p a f)
    go false f e = inr (same_is p b e)

pub data Got (c d q : Point64) (N : Type 0) : Type 0 where
  got_from : q ≡ c → Got c d q N
  got_to : q ≡ d → Got c d q N
  got_near : N → Got c d q N

-- ---- an upright edge
module _ (a b c d : Point64) (lo hi : ℤ) (e : d.x ≡ c.x) (ends : Ends c.y d.y lo hi) (l : lo <ℤ hi) (lim : AllLimited a b c d) where
  abbrev ByUpright : Point64 → Type 0
  ByUpright q = NearBy a.x a.y b.x b.y c.x lo hi q.x q.y

  tall : d.y ≡ c.y → ⊥
  tall q = go ends
    where
      go : Ends c.y d.y lo hi → ⊥
      go (inl h) = let u = h.0 in let v = h.1 in omega zint
      go (inr h) = let u = h.0 in let v = h.1 in omega zint

  on_line : (p : Point64) → eq_z (cross_product_sign p c d) (pos 0) ≡ true → p.x ≡ c.x
  unfolding cross_product_sign
  on_line p h = go (mul-zero (c.x -ℤ p.x) (d.y -ℤ c.y)
      (sgn_zero ((c.x -ℤ p.x) *ℤ (d.y -ℤ c.y)) ((c.y -ℤ p.y) *ℤ (d.x -ℤ c.x)) h ∙ ap (λ (z : ℤ). (c.y -ℤ p.y) *ℤ z) (none d.x c.x e) ∙ *ℤ-zero (c.y -ℤ p.y)))
    where
      go : (c.x -ℤ p.x ≡ pos 0) ⊎ (d.y -ℤ c.y ≡ pos 0) → p.x ≡ c.x
      go (inl z) = sym (-ℤ_zero c.x p.x z)
      go (inr z) = absurd (tall (-ℤ_zero d.y c.y z))

  off_value : (p : Point64) → eq_z (cross_product_sign p c d) (pos 0) ≡ false
      → (0 < nat_abs ((c.x -ℤ p.x) *ℤ (d.y -ℤ c.y))) × (lt_z (pos 0) (cross_product_sign p c d) ≡ not (is_negative ((c.x -ℤ p.x) *ℤ (d.y -ℤ c.y))))
  unfolding cross_product_sign
  off_value p h =
      subst (λ (z : ℤ). (0 < nat_abs z) × (lt_z (pos 0) (cross_product_sign p c d) ≡ not (is_negative z)))
      (left_product (c.x -ℤ p.x) (d.y -ℤ c.y) (c.y -ℤ p.y) (d.x -ℤ c.x) (none d.x c.x e))
      (sgn_facts ((c.x -ℤ p.x) *ℤ (d.y -ℤ c.y)) ((c.y -ℤ p.y) *ℤ (d.x -ℤ c.x)) h)

  off_line : (p : Point64) → eq_z (cross_product_sign p c d) (pos 0) ≡ false → p.x ≡ c.x → ⊥
  off_line p h q =
      let z : nat_abs ((c.x -ℤ p.x) *ℤ (d.y -ℤ c.y)) ≡ 0 = ap nat_abs (ap (λ (u : ℤ). u *ℤ (d.y -ℤ c.y)) (none c.x p.x (sym q)) ∙ zero-*ℤ (d.y -ℤ c.y)) in
      let k = (off_value p h).0 in
      omega arith

  -- an end of the segment on the edge
  touch : (s : Location) (q : Point64) (t : Location) (p : Point64) → ((lo ≤ℤ p.y) → (p.y ≤ℤ hi) → ByUpright p) → met s (at_end p c d) ≡ found_at q t → Got c d q (ByUpright q)
  unfolding at_end
  touch s q t p f =
      chain s q t (same_point p c || same_point p d) _ _ (λ b m. go (one_of p c d b) (same s q t p m))
      (λ _. chain s q t (is_horizontal c d) _ _ (λ b _. absurd (tall (sym (eqZ_true {a = c.y} {b = d.y} b))))
      (λ _. chain s q t (beq (lt_z c.y p.y) (lt_z p.y d.y)) _ _
      (λ b m. let g = along_edge p.y c.y d.y lo hi l ends b in got_near (subst ByUpright (sym (same s q t p m)) (f g.0 g.1)))
      (λ _ m. nothing s q t m)))
    where
      go : (p ≡ c) ⊎ (p ≡ d) → q ≡ p → Got c d q (ByUpright q)
      go (inl u) v = got_from (v ∙ u)
      go (inr u) v = got_to (v ∙ u)

  passing : (s : Location) (q : Point64) (t : Location) → eq_z (cross_product_sign a c d) (pos 0) ≡ false → eq_z (cross_product_sign b c d) (pos 0) ≡ false
      → beq (lt_z (pos 0) (cross_product_sign a c d)) (lt_z (pos 0) (cross_product_sign b c d)) ≡ false
      → eq_z (cross_product_sign c a b) (pos 0) ≡ false → eq_z (cross_product_sign d a b) (pos 0) ≡ false
      → beq (lt_z (pos 0) (cross_product_sign c a b)) (lt_z (pos 0) (cross_product_sign d a b)) ≡ false
      → met s (intersection a b c d) ≡ found_at q t → ByUpright q
  unfolding cross_product_sign
  passing s q t z1 z2 n12 z3 z4 n34 m =
      let v1 = off_value a z1 in
      let v2 = off_value b z2 in
      let K : Crosses a.x c.x b.x = crosses_of_signs a.x c.x b.x (d.y -ℤ c.y) v1.0 v2.0 (differ _ _ (is_negative ((c.x -ℤ a.x) *ℤ (d.y -ℤ c.y))) (is_negative ((c.x -ℤ b.x) *ℤ (d.y -ℤ c.y))) n12 v1.1 v2.1) in
      let v3 = sgn_facts ((a.x -ℤ c.x) *ℤ (b.y -ℤ a.y)) ((a.y -ℤ c.y) *ℤ (b.x -ℤ a.x)) z3 in
      let v4 = subst (λ (u : ℤ). (0 < nat_abs ((a.x -ℤ u) *ℤ (b.y -ℤ a.y) -ℤ (a.y -ℤ d.y) *ℤ (b.x -ℤ a.x))) × (lt_z (pos 0) (cross_product_sign d a b) ≡ not (is_negative ((a.x -ℤ u) *ℤ (b.y -ℤ a.y) -ℤ (a.y -ℤ d.y) *ℤ (b.x -ℤ a.x))))) e
      (sgn_facts ((a.x -ℤ d.x) *ℤ (b.y -ℤ a.y)) ((a.y -ℤ d.y) *ℤ (b.x -ℤ a.x)) z4) in
      let B = ordered (exact a.y b.y (nat_abs (a.x -ℤ c.x)) (nat_abs (a.x -ℤ b.x))) c.y d.y lo hi (nat_abs (a.x -ℤ b.x)) l ends
      (between_ends a.x a.y b.x b.y c.x c.y d.y K v3.0 v4.0 (differ_back _ _ (is_negative ((a.x -ℤ c.x) *ℤ (b.y -ℤ a.y) -ℤ (a.y -ℤ c.y) *ℤ (b.x -ℤ a.x))) (is_negative ((a.x -ℤ c.x) *ℤ (b.y -ℤ a.y) -ℤ (a.y -ℤ d.y) *ℤ (b.x -ℤ a.x))) n34 v3.1 v4.1)) in
      let f = (near_crossing a b c d lim).upright e (apart d.y c.y tall) K in
      let p : q ≡ f.point = same s q t f.point (subst (λ (k : Option Point64). met s k ≡ found_at q t) f.is m) in
      subst ByUpright (sym p) (record {
        crossed = record { extends = lt_of_le_of_lt zero-le (crosses_lt a.x c.x b.x K); crosses = crosses_between a.x c.x b.x K; not_before = B.0; not_behind = B.1 };
        near_across = f.near_x;
        near_along = f.near_y;
      })

  pub upright_got : (s : Location) (q : Point64) (t : Location) → met s (get_segment_intersection a b c d) ≡ found_at q t → Got c d q (ByUpright q)
  unfolding get_segment_intersection
  upright_got s q t =
      chain s q t (eq_z (cross_product_sign a c d) (pos 0)) _ _
      (λ z1. chain s q t (eq_z (cross_product_sign b c d) (pos 0)) _ _ (λ _ m. nothing s q t m)
      (λ z2. touch s q t a (at_start a.x a.y b.x b.y c.x lo hi (on_line a z1) (off_line b z2))))
      (λ z1. chain s q t (eq_z (cross_product_sign b c d) (pos 0)) _ _
      (λ z2. touch s q t b (at_finish a.x a.y b.x b.y c.x lo hi (on_line b z2) (off_line a z1)))
      (λ z2. chain s q t (beq (lt_z (pos 0) (cross_product_sign a c d)) (lt_z (pos 0) (cross_product_sign b c d))) _ _ (λ _ m. nothing s q t m)
      (λ n12. chain s q t (eq_z (cross_product_sign c a b) (pos 0)) _ _ (λ _ m. got_from (end_is s q t c a b m))
      (λ z3. chain s q t (eq_z (cross_product_sign d a b) (pos 0)) _ _ (λ _ m. got_to (end_is s q t d a b m))
      (λ z4. chain s q t (beq (lt_z (pos 0) (cross_product_sign c a b)) (lt_z (pos 0) (cross_product_sign d a b))) _ _ (λ _ m. nothing s q t m)
      (λ n34 m. got_near (passing s q t z1 z2 n12 z3 z4 n34 m)))))))

-- ---- a level edge
module _ (a b c d : Point64) (lo hi : ℤ) (e : d.y ≡ c.y) (ends : Ends c.x d.x lo hi) (l : lo <ℤ hi) (lim : AllLimited a b c d) where
  abbrev ByLevel : Point64 → Type 0
  ByLevel q = NearBy a.y a.x b.y b.x c.y lo hi q.y q.x

  wide : d.x ≡ c.x → ⊥
  wide q = go ends
    where
      go : Ends c.x d.x lo hi → ⊥
      go (inl h) = let u = h.0 in let v = h.1 in omega zint
      go (inr h) = let u = h.0 in let v = h.1 in omega zint

  on_level : (p : Point64) → eq_z (cross_product_sign p c d) (pos 0) ≡ true → p.y ≡ c.y
  unfolding cross_product_sign
  on_level p h = go (mul-zero (c.y -ℤ p.y) (d.x -ℤ c.x)
      (sym (sgn_zero ((c.x -ℤ p.x) *ℤ (d.y -ℤ c.y)) ((c.y -ℤ p.y) *ℤ (d.x -ℤ c.x)) h) ∙ ap (λ (z : ℤ). (c.x -ℤ p.x) *ℤ z) (none d.y c.y e) ∙ *ℤ-zero (c.x -ℤ p.x)))
    where
      go : (c.y -ℤ p.y ≡ pos 0) ⊎ (d.x -ℤ c.x ≡ pos 0) → p.y ≡ c.y
      go (inl z) = sym (-ℤ_zero c.y p.y z)
      go (inr z) = absurd (wide (-ℤ_zero d.x c.x z))

  level_value : (p : Point64) → eq_z (cross_product_sign p c d) (pos 0) ≡ false
      → (0 < nat_abs ((c.y -ℤ p.y) *ℤ (d.x -ℤ c.x))) × (lt_z (pos 0) (cross_product_sign p c d) ≡ is_negative ((c.y -ℤ p.y) *ℤ (d.x -ℤ c.x)))
  unfolding cross_product_sign
  level_value p h =
      subst (λ (z : ℤ). (0 < nat_abs z) × (lt_z (pos 0) (cross_product_sign p c d) ≡ is_negative z))
      (left_product (c.y -ℤ p.y) (d.x -ℤ c.x) (c.x -ℤ p.x) (d.y -ℤ c.y) (none d.y c.y e))
      (sgn_facts' ((c.x -ℤ p.x) *ℤ (d.y -ℤ c.y)) ((c.y -ℤ p.y) *ℤ (d.x -ℤ c.x)) h)

  off_level : (p : Point64) → eq_z (cross_product_sign p c d) (pos 0) ≡ false → p.y ≡ c.y → ⊥
  off_level p h q =
      let z : nat_abs ((c.y -ℤ p.y) *ℤ (d.x -ℤ c.x)) ≡ 0 = ap nat_abs (ap (λ (u : ℤ). u *ℤ (d.x -ℤ c.x)) (none c.y p.y (sym q)) ∙ zero-*ℤ (d.x -ℤ c.x)) in
      let k = (level_value p h).0 in
      omega arith

  level_touch : (s : Location) (q : Point64) (t : Location) (p : Point64) → ((lo ≤ℤ p.x) → (p.x ≤ℤ hi) → ByLevel p) → met s (at_end p c d) ≡ found_at q t → Got c d q (ByLevel q)
  unfolding at_end
  level_touch s q t p f =
      chain s q t (same_point p c || same_point p d) _ _ (λ b m. go (one_of p c d b) (same s q t p m))
      (λ _. chain s q t (is_horizontal c d) _ _
      (λ _. chain s q t (beq (lt_z c.x p.x) (lt_z p.x d.x)) _ _
      (λ b m. let g = along_edge p.x c.x d.x lo hi l ends b in got_near (subst ByLevel (sym (same s q t p m)) (f g.0 g.1)))
      (λ _ m. nothing s q t m))
      (λ b _. absurd (eqZ_false {a = c.y} {b = d.y} b (sym e))))
    where
      go : (p ≡ c) ⊎ (p ≡ d) → q ≡ p → Got c d q (ByLevel q)
      go (inl u) v = got_from (v ∙ u)
      go (inr u) v = got_to (v ∙ u)

  level_passing : (s : Location) (q : Point64) (t : Location) → eq_z (cross_product_sign a c d) (pos 0) ≡ false → eq_z (cross_product_sign b c d) (pos 0) ≡ false
      → beq (lt_z (pos 0) (cross_product_sign a c d)) (lt_z (pos 0) (cross_product_sign b c d)) ≡ false
      → eq_z (cross_product_sign c a b) (pos 0) ≡ false → eq_z (cross_product_sign d a b) (pos 0) ≡ false
      → beq (lt_z (pos 0) (cross_product_sign c a b)) (lt_z (pos 0) (cross_product_sign d a b)) ≡ false
      → met s (intersection a b c d) ≡ found_at q t → ByLevel q
  unfolding cross_product_sign
  level_passing s q t z1 z2 n12 z3 z4 n34 m =
      let v1 = level_value a z1 in
      let v2 = level_value b z2 in
      let K : Crosses a.y c.y b.y = crosses_of_signs a.y c.y b.y (d.x -ℤ c.x) v1.0 v2.0 (unlike_first _ _ _ _ n12 v1.1 v2.1) in
      let v3 = sgn_facts' ((a.x -ℤ c.x) *ℤ (b.y -ℤ a.y)) ((a.y -ℤ c.y) *ℤ (b.x -ℤ a.x)) z3 in
      let v4 = subst (λ (u : ℤ). (0 < nat_abs ((a.y -ℤ u) *ℤ (b.x -ℤ a.x) -ℤ (a.x -ℤ d.x) *ℤ (b.y -ℤ a.y))) × (lt_z (pos 0) (cross_product_sign d a b) ≡ is_negative ((a.y -ℤ u) *ℤ (b.x -ℤ a.x) -ℤ (a.x -ℤ d.x) *ℤ (b.y -ℤ a.y)))) e
      (sgn_facts' ((a.x -ℤ d.x) *ℤ (b.y -ℤ a.y)) ((a.y -ℤ d.y) *ℤ (b.x -ℤ a.x)) z4) in
      let B = ordered (exact a.x b.x (nat_abs (a.y -ℤ c.y)) (nat_abs (a.y -ℤ b.y))) c.x d.x lo hi (nat_abs (a.y -ℤ b.y)) l ends
      (between_ends a.y a.x b.y b.x c.y c.x d.x K v3.0 v4.0 (unlike_plain _ _ _ _ n34 v3.1 v4.1)) in
      let f = (near_crossing a b c d lim).level e (apart d.x c.x wide) K in
      let p : q ≡ f.point = same s q t f.point (subst (λ (k : Option Point64). met s k ≡ found_at q t) f.is m) in
      subst ByLevel (sym p) (record {
        crossed = record { extends = lt_of_le_of_lt zero-le (crosses_lt a.y c.y b.y K); crosses = crosses_between a.y c.y b.y K; not_before = B.0; not_behind = B.1 };
        near_across = f.near_y;
        near_along = f.near_x;
      })

  pub level_got : (s : Location) (q : Point64) (t : Location) → met s (get_segment_intersection a b c d) ≡ found_at q t → Got c d q (ByLevel q)
  unfolding get_segment_intersection
  level_got s q t =
      chain s q t (eq_z (cross_product_sign a c d) (pos 0)) _ _
      (λ z1. chain s q t (eq_z (cross_product_sign b c d) (pos 0)) _ _ (λ _ m. nothing s q t m)
      (λ z2. level_touch s q t a (at_start a.y a.x b.y b.x c.y lo hi (on_level a z1) (off_level b z2))))
      (λ z1. chain s q t (eq_z (cross_product_sign b c d) (pos 0)) _ _
      (λ z2. level_touch s q t b (at_finish a.y a.x b.y b.x c.y lo hi (on_level b z2) (off_level a z1)))
      (λ z2. chain s q t (beq (lt_z (pos 0) (cross_product_sign a c d)) (lt_z (pos 0) (cross_product_sign b c d))) _ _ (λ _ m. nothing s q t m)
      (λ n12. chain s q t (eq_z (cross_product_sign c a b) (pos 0)) _ _ (λ _ m. got_from (end_is s q t c a b m))
      (λ z3. chain s q t (eq_z (cross_product_sign d a b) (pos 0)) _ _ (λ _ m. got_to (end_is s q t d a b m))
      (λ z4. chain s q t (beq (lt_z (pos 0) (cross_product_sign c a b)) (lt_z (pos 0) (cross_product_sign d a b))) _ _ (λ _ m. nothing s q t m)
      (λ n34 m. got_near (level_passing s q t z1 z2 n12 z3 z4 n34 m)))))))
