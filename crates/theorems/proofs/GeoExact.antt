-- A segment cuts an edge, in depths, exactly where the two have an exact crossing as document 01 defines it. Two arguments, upward and downward across the edge's line, serve the four sides. Assumes nothing.
use mathlib.Core.Path.{◌≡◌, refl}
use mathlib.Core.List.{List, [], ◌∷◌}
use mathlib.Core.Logic.{◌⊎◌, inl, inr, ⊎_elim}
use Prim.Native.Nat.{◌<◌}
use lib.IntN.{ℤ, pos, nat_abs, ◌+ℤ◌, ◌-ℤ◌, ◌*ℤ◌}
use lib.Signed.{◌≤ℤ◌, ◌<ℤ◌}
use Rattle.integers.specs.Order.{zint, sub_pn, abs_pn, parts, size_up, size_down}
use Rattle.integers.specs.Ring.{Ex, v0, v1, v2, v3, v4, v5, v6, ◌⊕◌, ◌⊖◌, ◌⊗◌}
use Rattle.integers.specs.Certify.{◌≼◌, hyp, certify_le}
use Rattle.plane.specs.declared.point.Point64.{Point64}
use Rattle.plane.specs.declared.rect.Rect64.{Rect64}
use Rattle.theorems.specs.Demand.{ExactCrossing}
use Rattle.theorems.proofs.CrossingSigns.{Crossed}
use Rattle.theorems.proofs.GeoPlane.{Side, on_left, on_top, on_right, on_bottom, loc}
use Rattle.theorems.proofs.GeoCut.{Cut}
use Rattle.theorems.proofs.GeoSides.{Meets}

apart : (a b : ℤ) → a <ℤ b → 0 < nat_abs (a -ℤ b)
apart a b h = omega (zint, abs_pn (a -ℤ b), sub_pn a b)

apart_back : (a b : ℤ) → b <ℤ a → 0 < nat_abs (a -ℤ b)
apart_back a b h = omega (zint, abs_pn (a -ℤ b), sub_pn a b)

-- the segment goes from (x1, y1) to (x2, y2), and the edge lies on the line x3, between lo and hi
module _ (x1 y1 x2 y2 x3 lo hi : ℤ) where
  abbrev ρ : List ℤ
  ρ = x1 ∷ y1 ∷ x2 ∷ y2 ∷ x3 ∷ lo ∷ hi ∷ []

  -- upward: the extent is x2 − x1, and x3 − x1 of it lies before the line
  abbrev Up : Type 0
  Up = (((x1 -ℤ x3) *ℤ (y2 -ℤ lo)) ≤ℤ ((x2 -ℤ x3) *ℤ (y1 -ℤ lo))) × (((x1 -ℤ x3) *ℤ (hi -ℤ y2)) ≤ℤ ((x2 -ℤ x3) *ℤ (hi -ℤ y1)))

  -- downward: the extent is x1 − x2, and x1 − x3 of it lies before the line
  abbrev Down : Type 0
  Down = (((x2 -ℤ x3) *ℤ (y1 -ℤ lo)) ≤ℤ ((x1 -ℤ x3) *ℤ (y2 -ℤ lo))) × (((x2 -ℤ x3) *ℤ (hi -ℤ y1)) ≤ℤ ((x1 -ℤ x3) *ℤ (hi -ℤ y2)))

  abbrev up_e : Ex
  up_e = v1 ⊗ (v2 ⊖ v0) ⊕ (v3 ⊖ v1) ⊗ (v4 ⊖ v0)

  abbrev down_e : Ex
  down_e = v1 ⊗ (v0 ⊖ v2) ⊕ (v3 ⊖ v1) ⊗ (v0 ⊖ v4)

  abbrev up_low : Ex × Ex
  up_low = ((v0 ⊖ v4) ⊗ (v3 ⊖ v5), (v2 ⊖ v4) ⊗ (v1 ⊖ v5))

  abbrev up_high : Ex × Ex
  up_high = ((v0 ⊖ v4) ⊗ (v6 ⊖ v3), (v2 ⊖ v4) ⊗ (v6 ⊖ v1))

  abbrev down_low : Ex × Ex
  down_low = ((v2 ⊖ v4) ⊗ (v1 ⊖ v5), (v0 ⊖ v4) ⊗ (v3 ⊖ v5))

  abbrev down_high : Ex × Ex
  down_high = ((v2 ⊖ v4) ⊗ (v6 ⊖ v1), (v0 ⊖ v4) ⊗ (v6 ⊖ v3))

  module _ (before : x1 ≤ℤ x3) (after : x3 ≤ℤ x2) where
    D : pos (nat_abs (x1 -ℤ x2)) ≡ x2 -ℤ x1
    D = size_down x1 x2 (omega zint)

    R : pos (nat_abs (x1 -ℤ x3)) ≡ x3 -ℤ x1
    R = size_down x1 x3 before

    up_to : x1 <ℤ x2 → Up → Crossed x1 y1 x2 y2 x3 lo hi
    up_to h i = record {
      extends = apart x1 x2 h;
      crosses = inl (before, after);
      not_before = rw (D, R) (certify_le ρ ((up_low.0 ≼ up_low.1) ∷ []) (v5 ⊗ (v2 ⊖ v0)) up_e (hyp 0) tt (i.0, tt));
      not_behind = rw (D, R) (certify_le ρ ((up_high.0 ≼ up_high.1) ∷ []) up_e (v6 ⊗ (v2 ⊖ v0)) (hyp 0) tt (i.1, tt));
    }

    up_from : Crossed x1 y1 x2 y2 x3 lo hi → Up
    up_from c =
        let e : (lo *ℤ (x2 -ℤ x1)) ≤ℤ (y1 *ℤ (x2 -ℤ x1) +ℤ (y2 -ℤ y1) *ℤ (x3 -ℤ x1)) = rw (D, R) at c.not_before in
        let f : (y1 *ℤ (x2 -ℤ x1) +ℤ (y2 -ℤ y1) *ℤ (x3 -ℤ x1)) ≤ℤ (hi *ℤ (x2 -ℤ x1)) = rw (D, R) at c.not_behind in
        (certify_le ρ ((v5 ⊗ (v2 ⊖ v0) ≼ up_e) ∷ []) up_low.0 up_low.1 (hyp 0) tt (e, tt), certify_le ρ ((up_e ≼ v6 ⊗ (v2 ⊖ v0)) ∷ []) up_high.0 up_high.1 (hyp 0) tt (f, tt))

  module _ (before : x3 ≤ℤ x1) (after : x2 ≤ℤ x3) where
    D' : pos (nat_abs (x1 -ℤ x2)) ≡ x1 -ℤ x2
    D' = size_up x1 x2 (omega zint)

    R' : pos (nat_abs (x1 -ℤ x3)) ≡ x1 -ℤ x3
    R' = size_up x1 x3 before

    down_to : x2 <ℤ x1 → Down → Crossed x1 y1 x2 y2 x3 lo hi
    down_to h i = record {
      extends = apart_back x1 x2 h;
      crosses = inr (after, before);
      not_before = rw (D', R') (certify_le ρ ((down_low.0 ≼ down_low.1) ∷ []) (v5 ⊗ (v0 ⊖ v2)) down_e (hyp 0) tt (i.0, tt));
      not_behind = rw (D', R') (certify_le ρ ((down_high.0 ≼ down_high.1) ∷ []) down_e (v6 ⊗ (v0 ⊖ v2)) (hyp 0) tt (i.1, tt));
    }

    down_from : Crossed x1 y1 x2 y2 x3 lo hi → Down
    down_from c =
        let e : (lo *ℤ (x1 -ℤ x2)) ≤ℤ (y1 *ℤ (x1 -ℤ x2) +ℤ (y2 -ℤ y1) *ℤ (x1 -ℤ x3)) = rw (D', R') at c.not_before in
        let f : (y1 *ℤ (x1 -ℤ x2) +ℤ (y2 -ℤ y1) *ℤ (x1 -ℤ x3)) ≤ℤ (hi *ℤ (x1 -ℤ x2)) = rw (D', R') at c.not_behind in
        (certify_le ρ ((v5 ⊗ (v0 ⊖ v2) ≼ down_e) ∷ []) down_low.0 down_low.1 (hyp 0) tt (e, tt), certify_le ρ ((down_e ≼ v6 ⊗ (v0 ⊖ v2)) ∷ []) down_high.0 down_high.1 (hyp 0) tt (f, tt))

  -- ---- from depths to the crossing and back: a depth is x − x3 at the sides of the smaller coordinates, and x3 − x at the others
  rises : x1 ≤ℤ x2 → 0 < nat_abs (x1 -ℤ x2) → x1 <ℤ x2
  rises h e = ⊎_elim (λ f. omega (zint, abs_pn (x1 -ℤ x2), sub_pn x1 x2)) (λ f. omega (zint, abs_pn (x1 -ℤ x2), sub_pn x1 x2)) (parts (x1 -ℤ x2))

  falls : x2 ≤ℤ x1 → 0 < nat_abs (x1 -ℤ x2) → x2 <ℤ x1
  falls h e = ⊎_elim (λ f. omega (zint, abs_pn (x1 -ℤ x2), sub_pn x1 x2)) (λ f. omega (zint, abs_pn (x1 -ℤ x2), sub_pn x1 x2)) (parts (x1 -ℤ x2))

  abbrev Near : Type 0
  Near = Cut (x1 -ℤ x3) (x2 -ℤ x3) (y1 -ℤ lo) (y2 -ℤ lo) (hi -ℤ y1) (hi -ℤ y2) ⊎ Cut (x2 -ℤ x3) (x1 -ℤ x3) (y2 -ℤ lo) (y1 -ℤ lo) (hi -ℤ y2) (hi -ℤ y1)

  abbrev Far : Type 0
  Far = Cut (x3 -ℤ x1) (x3 -ℤ x2) (y1 -ℤ lo) (y2 -ℤ lo) (hi -ℤ y1) (hi -ℤ y2) ⊎ Cut (x3 -ℤ x2) (x3 -ℤ x1) (y2 -ℤ lo) (y1 -ℤ lo) (hi -ℤ y2) (hi -ℤ y1)

  near_to : Near → Crossed x1 y1 x2 y2 x3 lo hi
  near_to (inl c) =
      let l = c.low in
      let h = c.high in
      let r = c.rise in
      up_to (omega (zint, sub_pn x1 x3)) (omega (zint, sub_pn x2 x3)) (omega (zint, sub_pn x1 x3, sub_pn x2 x3)) (c.one, c.two)
  near_to (inr c) =
      let l = c.low in
      let h = c.high in
      let r = c.rise in
      down_to (omega (zint, sub_pn x1 x3)) (omega (zint, sub_pn x2 x3)) (omega (zint, sub_pn x1 x3, sub_pn x2 x3)) (c.one, c.two)

  near_from : Crossed x1 y1 x2 y2 x3 lo hi → Near
  near_from c = go c.crosses
    where
      go : ((x1 ≤ℤ x3) × (x3 ≤ℤ x2)) ⊎ ((x2 ≤ℤ x3) × (x3 ≤ℤ x1)) → Near
      go (inl b) =
          let f = b.0 in
          let g = b.1 in
          let u = up_from f g c in
          let r = rises (omega zint) c.extends in
          inl (record { low = omega (zint, sub_pn x1 x3); high = omega (zint, sub_pn x2 x3); rise = omega (zint, sub_pn x1 x3, sub_pn x2 x3); one = u.0; two = u.1 })
      go (inr b) =
          let f = b.0 in
          let g = b.1 in
          let u = down_from g f c in
          let r = falls (omega zint) c.extends in
          inr (record { low = omega (zint, sub_pn x2 x3); high = omega (zint, sub_pn x1 x3); rise = omega (zint, sub_pn x1 x3, sub_pn x2 x3); one = u.0; two = u.1 })

  far_to : Far → Crossed x1 y1 x2 y2 x3 lo hi
  far_to (inl c) =
      let l = c.low in
      let h = c.high in
      let r = c.rise in
      down_to (omega (zint, sub_pn x3 x1)) (omega (zint, sub_pn x3 x2)) (omega (zint, sub_pn x3 x1, sub_pn x3 x2)) (
        certify_le ρ (((v4 ⊖ v0) ⊗ (v3 ⊖ v5) ≼ (v4 ⊖ v2) ⊗ (v1 ⊖ v5)) ∷ []) down_low.0 down_low.1 (hyp 0) tt (c.one, tt),
        certify_le ρ (((v4 ⊖ v0) ⊗ (v6 ⊖ v3) ≼ (v4 ⊖ v2) ⊗ (v6 ⊖ v1)) ∷ []) down_high.0 down_high.1 (hyp 0) tt (c.two, tt),
      )
  far_to (inr c) =
      let l = c.low in
      let h = c.high in
      let r = c.rise in
      up_to (omega (zint, sub_pn x3 x1)) (omega (zint, sub_pn x3 x2)) (omega (zint, sub_pn x3 x1, sub_pn x3 x2)) (
        certify_le ρ (((v4 ⊖ v2) ⊗ (v1 ⊖ v5) ≼ (v4 ⊖ v0) ⊗ (v3 ⊖ v5)) ∷ []) up_low.0 up_low.1 (hyp 0) tt (c.one, tt),
        certify_le ρ (((v4 ⊖ v2) ⊗ (v6 ⊖ v1) ≼ (v4 ⊖ v0) ⊗ (v6 ⊖ v3)) ∷ []) up_high.0 up_high.1 (hyp 0) tt (c.two, tt),
      )

  far_from : Crossed x1 y1 x2 y2 x3 lo hi → Far
  far_from c = go c.crosses
    where
      go : ((x1 ≤ℤ x3) × (x3 ≤ℤ x2)) ⊎ ((x2 ≤ℤ x3) × (x3 ≤ℤ x1)) → Far
      go (inl b) =
          let f = b.0 in
          let g = b.1 in
          let u = up_from f g c in
          let r = rises (omega zint) c.extends in
          inr (record {
            low = omega (zint, sub_pn x3 x2);
            high = omega (zint, sub_pn x3 x1);
            rise = omega (zint, sub_pn x3 x1, sub_pn x3 x2);
            one = certify_le ρ ((up_low.0 ≼ up_low.1) ∷ []) ((v4 ⊖ v2) ⊗ (v1 ⊖ v5)) ((v4 ⊖ v0) ⊗ (v3 ⊖ v5)) (hyp 0) tt (u.0, tt);
            two = certify_le ρ ((up_high.0 ≼ up_high.1) ∷ []) ((v4 ⊖ v2) ⊗ (v6 ⊖ v1)) ((v4 ⊖ v0) ⊗ (v6 ⊖ v3)) (hyp 0) tt (u.1, tt);
          })
      go (inr b) =
          let f = b.0 in
          let g = b.1 in
          let u = down_from g f c in
          let r = falls (omega zint) c.extends in
          inl (record {
            low = omega (zint, sub_pn x3 x1);
            high = omega (zint, sub_pn x3 x2);
            rise = omega (zint, sub_pn x3 x1, sub_pn x3 x2);
            one = certify_le ρ ((down_low.0 ≼ down_low.1) ∷ []) ((v4 ⊖ v0) ⊗ (v3 ⊖ v5)) ((v4 ⊖ v2) ⊗ (v1 ⊖ v5)) (hyp 0) tt (u.0, tt);
            two = certify_le ρ ((down_high.0 ≼ down_high.1) ∷ []) ((v4 ⊖ v0) ⊗ (v6 ⊖ v3)) ((v4 ⊖ v2) ⊗ (v6 ⊖ v1)) (hyp 0) tt (u.1, tt);
          })

-- ---- the four sides
module _ (r : Rect64) (p q : Point64) where
  pub meets_exact : (s : Side) → Meets r s p q → ExactCrossing r (loc s) p q
  meets_exact on_left m = let c = near_to p.x p.y q.x q.y r.left r.top r.bottom m in record { is_side = refl; extends = c.extends; crosses = c.crosses; not_before = c.not_before; not_behind = c.not_behind }
  meets_exact on_top m = let c = near_to p.y p.x q.y q.x r.top r.left r.right m in record { is_side = refl; extends = c.extends; crosses = c.crosses; not_before = c.not_before; not_behind = c.not_behind }
  meets_exact on_right m = let c = far_to p.x p.y q.x q.y r.right r.top r.bottom m in record { is_side = refl; extends = c.extends; crosses = c.crosses; not_before = c.not_before; not_behind = c.not_behind }
  meets_exact on_bottom m = let c = far_to p.y p.x q.y q.x r.bottom r.left r.right m in record { is_side = refl; extends = c.extends; crosses = c.crosses; not_before = c.not_before; not_behind = c.not_behind }

  pub exact_meets : (s : Side) → ExactCrossing r (loc s) p q → Meets r s p q
  exact_meets on_left c = near_from p.x p.y q.x q.y r.left r.top r.bottom (record { extends = c.extends; crosses = c.crosses; not_before = c.not_before; not_behind = c.not_behind })
  exact_meets on_top c = near_from p.y p.x q.y q.x r.top r.left r.right (record { extends = c.extends; crosses = c.crosses; not_before = c.not_before; not_behind = c.not_behind })
  exact_meets on_right c = far_from p.x p.y q.x q.y r.right r.top r.bottom (record { extends = c.extends; crosses = c.crosses; not_before = c.not_before; not_behind = c.not_behind })
  exact_meets on_bottom c = far_from p.y p.x q.y q.x r.bottom r.left r.right (record { extends = c.extends; crosses = c.crosses; not_before = c.not_before; not_behind = c.not_behind })
