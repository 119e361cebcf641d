-- The step along the edge (document 02, 2/13) would never move a float crossing within the coordinate limit: the exact crossing lies strictly between the edge's ends,
-- and so what the floats make of it does not leave them (`coordinate_between`, of rounding). Assumes nothing.
use mathlib.Core.Path.{◌≡◌, refl, sym, ap, ◌∙◌, subst}
use mathlib.Core.Bool.{Bool, true, false, beq}
use mathlib.Core.Logic.{inl, inr}
use Prim.Native.Nat.{ℕ, zero, suc}
use lib.IntN.{ℤ, pos, negsuc, nat_abs, ◌-ℤ◌, ◌*ℤ◌, zero-*ℤ, *ℤ-zero}
use lib.Ieee.{binary64, round}
use lib.Signed.{lt_z, ◌≤ℤ◌, ◌<ℤ◌}
use Rattle.integers.specs.Order.{zint}
use Rattle.integers.specs.Tests.{eq_z, ne_eqZ, lt_ltZ}
use Rattle.rounding.specs.Coordinate.{Limit, Crosses, is_negative, coordinate}
use Rattle.rounding.proofs.Exact.{crosses_lt, difference_small}
use Rattle.rounding.proofs.Nearby.{coordinate_between}
use Rattle.std.specs.Prelude.{Some}
use Rattle.plane.specs.declared.location.Location.TheVariants.{Left, Top, Right, Bottom, Inside}
use Rattle.plane.specs.declared.point.Point64.{Point64}
use Rattle.plane.specs.Limit.{Limited, AllLimited}
use Rattle.plane.specs.Points.{point}
use Rattle.plane.specs.Segment.{intersection}
use Rattle.plane.specs.Signs.{cross_product_sign}
use Rattle.theorems.specs.Search.{Passes, AlongStays}
use Rattle.theorems.proofs.Axes.{Axes, Passed, upright, level, long, passed}
use Rattle.theorems.proofs.Crossed.{part_way, upright_at, level_at}
use Rattle.theorems.proofs.CrossingSigns.{Ends, apart}
use Rattle.theorems.proofs.Demand.{not_empty_order}
use Rattle.theorems.proofs.Tests.{never}

above_zero : (m : ℕ) → (eq_z (pos (suc m)) (pos 0) ≡ false) × (lt_z (pos 0) (pos (suc m)) ≡ true)
above_zero m = (ne_eqZ (pos (suc m)) (pos 0) (λ e. omega zint), lt_ltZ (pos 0) (pos (suc m)) (omega zint))

-- two numbers whose product is -1: neither is zero, and one is above it
abbrev Sides : ℤ → ℤ → Type 0
Sides x y = (eq_z x (pos 0) ≡ false) × (eq_z y (pos 0) ≡ false) × (beq (lt_z (pos 0) x) (lt_z (pos 0) y) ≡ false)

other_sides : (x y : ℤ) → x *ℤ y ≡ negsuc 0 → Sides x y
other_sides (pos zero) y e = never (ap is_negative (sym (zero-*ℤ y) ∙ e)) refl
other_sides (pos (suc m)) (pos n) e = never (ap is_negative e) refl
other_sides (pos (suc m)) (negsuc n) e = let k = above_zero m in (k.0, refl, ap (λ (t : Bool). beq t false) k.1)
other_sides (negsuc m) (pos zero) e = never (ap is_negative (sym (*ℤ-zero (negsuc m)) ∙ e)) refl
other_sides (negsuc m) (pos (suc n)) e = let k = above_zero n in (refl, k.0, ap (λ (t : Bool). beq false t) k.1)
other_sides (negsuc m) (negsuc n) e = never (ap is_negative e) refl

-- the segment goes from x1, y1 to x2, y2 and passes the edge, which is at x3 between lo and hi
stays : (x1 y1 x2 y2 x3 lo hi : ℤ) → Limit x1 → Limit y1 → Limit x2 → Limit y2 → Passed x1 y1 x2 y2 x3 lo hi
    → let y = coordinate y1 y2 (round binary64 false (nat_abs (x1 -ℤ x3)) (nat_abs (x1 -ℤ x2))) in (lo ≤ℤ y) × (y ≤ℤ hi)
stays x1 y1 x2 y2 x3 lo hi a b c d k =
    coordinate_between y1 y2 lo hi (nat_abs (x1 -ℤ x3)) (nat_abs (x1 -ℤ x2)) b d (crosses_lt x1 x3 x2 k.crosses) (difference_small x1 x2 a c) k.behind_low k.before_high

-- ---- an edge from a to b, upright or level
module _ (p q z a b : Point64) (lo hi : ℤ) (l : lo <ℤ hi) (lim : AllLimited p q a b) (h : Passes p q a b) (m : intersection p q a b ≡ Some z) where
  is_met : (w : Point64) → intersection p q a b ≡ Some w → w ≡ z
  is_met w e = let f : Some w ≡ Some z = sym e ∙ m in cc

  by_edge : Sides (cross_product_sign p a b) (cross_product_sign q a b)
  by_edge = other_sides (cross_product_sign p a b) (cross_product_sign q a b) h.segment

  by_segment : Sides (cross_product_sign a p q) (cross_product_sign b p q)
  by_segment = other_sides (cross_product_sign a p q) (cross_product_sign b p q) h.edge

  along_in : (A : Axes) (e : A.across b ≡ A.across a) → Ends (A.along a) (A.along b) lo hi → Limit (A.across p) → Limit (A.along p) → Limit (A.across q) → Limit (A.along q)
      → (Crosses (A.across p) (A.across a) (A.across q) → intersection p q a b ≡ Some (part_way p q (nat_abs (A.across p -ℤ A.across a)) (nat_abs (A.across p -ℤ A.across q))))
      → ((m n : ℕ) → A.along (part_way p q m n) ≡ coordinate (A.along p) (A.along q) (round binary64 false m n)) → (lo ≤ℤ A.along z) × (A.along z ≤ℤ hi)
  along_in A e ends i j k n meets part =
      let c = passed A p q a b lo hi e ends l by_edge.0 by_edge.1 by_edge.2 by_segment.0 by_segment.1 by_segment.2 in
      subst (λ (u : ℤ). (lo ≤ℤ u) × (u ≤ℤ hi)) (sym (part _ _) ∙ ap A.along (is_met _ (meets c.crosses)))
      (stays (A.across p) (A.along p) (A.across q) (A.along q) (A.across a) lo hi i j k n c)

  by_upright : b.x ≡ a.x → Ends a.y b.y lo hi → (lo ≤ℤ z.y) × (z.y ≤ℤ hi)
  by_upright e ends =
      along_in upright e ends lim.start.across lim.start.down lim.end.across lim.end.down
      (upright_at p q a b lim e (apart b.y a.y (long upright p q a b lo hi e ends l))) (λ m n. refl)

  by_level : b.y ≡ a.y → Ends a.x b.x lo hi → (lo ≤ℤ z.x) × (z.x ≤ℤ hi)
  by_level e ends =
      along_in level e ends lim.start.down lim.start.across lim.end.down lim.end.across
      (level_at p q a b lim e (apart b.x a.x (long level p q a b lo hi e ends l))) (λ m n. refl)

-- ---- the four sides
corner : {a b c d : ℤ} → Limit a → Limit b → Limit c → Limit d → (p q : Point64) → Limited p → Limited q → AllLimited p q (point a b) (point c d)
corner h k l m p q lp lq = record { start = lp; end = lq; edge = record { across = h; down = k }; far = record { across = l; down = m } }

pub along_stays : AlongStays
along_stays r Left p q z lr lp lq n i h m =
    by_upright p q z _ _ r.top r.bottom (not_empty_order r n).1 (corner lr.left lr.top lr.left lr.bottom p q lp lq) h m refl (inl (refl, refl))
along_stays r Top p q z lr lp lq n i h m =
    by_level p q z _ _ r.left r.right (not_empty_order r n).0 (corner lr.left lr.top lr.right lr.top p q lp lq) h m refl (inl (refl, refl))
along_stays r Right p q z lr lp lq n i h m =
    by_upright p q z _ _ r.top r.bottom (not_empty_order r n).1 (corner lr.right lr.top lr.right lr.bottom p q lp lq) h m refl (inl (refl, refl))
along_stays r Bottom p q z lr lp lq n i h m =
    by_level p q z _ _ r.left r.right (not_empty_order r n).0 (corner lr.right lr.bottom lr.left lr.bottom p q lp lq) h m refl (inr (refl, refl))
along_stays r Inside p q z lr lp lq n i h m = never refl i
