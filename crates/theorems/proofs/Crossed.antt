-- A segment that passes an edge of the rectangle, parallel to an axis, has a crossing with it, at a point that is less than 1 + 2 ^ -25 away from the exact one on each axis. Assumes nothing.
use mathlib.Core.Path.{◌≡◌, refl, sym, ap, ◌∙◌, subst}
use Prim.Native.Nat.{ℕ, ◌≤◌, ◌<◌, zero-le}
use native.Mathlib.Nat.{lt_of_le_of_lt, mul-pos}
use mathlib.Core.Bool.{Bool, false, cond}
use lib.IntN.{ℤ, pos, neg_ℤ, nat_abs, ◌-ℤ◌, ◌*ℤ◌, *ℤ_comm}
use lib.Ieee.{Float, binary64, round, eq, le}
use Rattle.rounding.specs.Coordinate.{is_negative, Crosses, difference, zero_f, one_f, coordinate}
use Rattle.rounding.proofs.Whole.{Is}
use Rattle.rounding.proofs.Exact.{crosses_sign, crosses_lt, quotient, size_neg, cross_is, difference_is, difference_small, left_product, right_product, level_product, neg_difference, none}
use Rattle.rounding.proofs.Nearby.{coordinate_near}
use Rattle.rounding.proofs.Inside.{not_eq_zero, rounded_above_zero, rounded_below_one}
use Rattle.std.specs.Prelude.{Option, None, Some}
use Rattle.plane.specs.declared.point.Point64.{Point64}
use Rattle.plane.specs.declared.crossing.Crossing.{Crossing}
use Rattle.plane.specs.declared.crossing.Crossing.TheVariants.{At, Along}
use Rattle.plane.specs.Limit.{AllLimited}
use Rattle.plane.specs.Points as points
use Rattle.plane.specs.Segment.{determinant, numerator, fraction, working_of, crossing_of, point_at, settled_of, intersection}
use Rattle.plane.specs.Found.{Found, NearCrossing}
use Rattle.integers.specs.Order.{abs_mul as size_mul}

-- the point n / d of the way from a to b, as binary64 has it
abbrev pub part_way : Point64 → Point64 → ℕ → ℕ → Point64
part_way a b n d = points.point (coordinate a.x b.x (round binary64 false n d)) (coordinate a.y b.y (round binary64 false n d))

-- ---- numerator and determinant are exact
module _ (a b c d : Point64) (h : AllLimited a b c d) where
  pub numerator_is : Is (numerator a c d) ((a.x -ℤ c.x) *ℤ (d.y -ℤ c.y) -ℤ (a.y -ℤ c.y) *ℤ (d.x -ℤ c.x))
  unfolding numerator
  numerator_is =
      cross_is (difference a.x c.x) (difference d.y c.y) (difference a.y c.y) (difference d.x c.x) (a.x -ℤ c.x) (d.y -ℤ c.y) (a.y -ℤ c.y) (d.x -ℤ c.x)
      (difference_is a.x c.x h.start.across h.edge.across) (difference_is d.y c.y h.far.down h.edge.down)
      (difference_is a.y c.y h.start.down h.edge.down) (difference_is d.x c.x h.far.across h.edge.across)
      (difference_small a.x c.x h.start.across h.edge.across) (difference_small d.y c.y h.far.down h.edge.down)
      (difference_small a.y c.y h.start.down h.edge.down) (difference_small d.x c.x h.far.across h.edge.across)

  pub determinant_is : Is (determinant a b c d) ((b.y -ℤ a.y) *ℤ (d.x -ℤ c.x) -ℤ (d.y -ℤ c.y) *ℤ (b.x -ℤ a.x))
  unfolding determinant
  determinant_is =
      cross_is (difference b.y a.y) (difference d.x c.x) (difference d.y c.y) (difference b.x a.x) (b.y -ℤ a.y) (d.x -ℤ c.x) (d.y -ℤ c.y) (b.x -ℤ a.x)
      (difference_is b.y a.y h.end.down h.start.down) (difference_is d.x c.x h.far.across h.edge.across)
      (difference_is d.y c.y h.far.down h.edge.down) (difference_is b.x a.x h.end.across h.start.across)
      (difference_small b.y a.y h.end.down h.start.down) (difference_small d.x c.x h.far.across h.edge.across)
      (difference_small d.y c.y h.far.down h.edge.down) (difference_small b.x a.x h.end.across h.start.across)

  -- ---- p is the start's distance from the edge, q its distance from the end, on the axis across the edge, and w the edge's length
  module _ (p q w : ℤ) (P : 0 < nat_abs p) (W : 0 < nat_abs w) (L : nat_abs p < nat_abs q) (Q : nat_abs q ≤ 67108864) (e : is_negative p ≡ is_negative q)
      (i : Is (numerator a c d) (p *ℤ w)) (j : Is (determinant a b c d) (q *ℤ w)) where
    q_pos : 0 < nat_abs q
    q_pos = lt_of_le_of_lt zero-le L

    fraction_is : fraction a b c d ≡ round binary64 false (nat_abs p) (nat_abs q)
    unfolding fraction
    fraction_is = quotient binary64 (numerator a c d) (determinant a b c d) p q w i j P q_pos W e

    determinant_not_zero : eq (determinant a b c d) zero_f ≡ false
    determinant_not_zero = not_eq_zero (determinant a b c d) (q *ℤ w) j (subst (λ (n : ℕ). 0 < n) (sym (size_mul q w)) (mul-pos q_pos W))

    crossing_is : crossing_of (working_of a b c d) a b ≡ Some (Along (fraction a b c d))
    unfolding crossing_of working_of
    crossing_is =
        let t = fraction a b c d in
        ap (λ (z : Bool). cond z None (cond (le t zero_f) (Some (At a)) (cond (le one_f t) (Some (At b)) (Some (Along t))))) determinant_not_zero
        ∙ ap (λ (z : Bool). cond z (Some (At a)) (cond (le one_f t) (Some (At b)) (Some (Along t))))
        (ap (λ (z : Float). le z zero_f) fraction_is ∙ rounded_above_zero (nat_abs p) (nat_abs q) P L Q)
        ∙ ap (λ (z : Bool). cond z (Some (At b)) (Some (Along t)))
        (ap (λ (z : Float). le one_f z) fraction_is ∙ rounded_below_one (nat_abs p) (nat_abs q) P L Q)

    point : Point64
    point = record {
      x = coordinate a.x b.x (round binary64 false (nat_abs p) (nat_abs q));
      y = coordinate a.y b.y (round binary64 false (nat_abs p) (nat_abs q));
    }

    point_is : point_at (working_of a b c d) (round binary64 false (nat_abs p) (nat_abs q)) ≡ point
    unfolding point point_at working_of coordinate
    point_is = refl

    crossed_at : Found a b (nat_abs p) (nat_abs q) (intersection a b c d)
    unfolding intersection point
    crossed_at = record {
      point = point;
      is =
          ap (λ (k : Option Crossing). settled_of k (working_of a b c d)) (crossing_is ∙ ap (λ (t : Float). Some (Along t)) fraction_is) ∙ ap Some point_is;
      near_x = coordinate_near a.x b.x (nat_abs p) (nat_abs q) h.start.across h.end.across L;
      near_y = coordinate_near a.y b.y (nat_abs p) (nat_abs q) h.start.down h.end.down L;
    }

  -- ---- an edge along x = c.x
  pub upright_near : d.x ≡ c.x → 0 < nat_abs (d.y -ℤ c.y) → Crosses a.x c.x b.x
      → Found a b (nat_abs (a.x -ℤ c.x)) (nat_abs (a.x -ℤ b.x)) (intersection a b c d)
  upright_near e w k =
      let z : d.x -ℤ c.x ≡ pos 0 = none d.x c.x e in
      crossed_at (a.x -ℤ c.x) (a.x -ℤ b.x) (d.y -ℤ c.y) k.before w (crosses_lt a.x c.x b.x k)
      (difference_small a.x b.x h.start.across h.end.across) (crosses_sign a.x c.x b.x k)
      (subst (λ (u : ℤ). Is (numerator a c d) u) (left_product (a.x -ℤ c.x) (d.y -ℤ c.y) (a.y -ℤ c.y) (d.x -ℤ c.x) z) numerator_is)
      (subst (λ (u : ℤ). Is (determinant a b c d) u)
      (right_product (b.y -ℤ a.y) (d.x -ℤ c.x) (d.y -ℤ c.y) (b.x -ℤ a.x) z ∙ ap (λ (u : ℤ). u *ℤ (d.y -ℤ c.y)) (neg_difference b.x a.x)) determinant_is)

  pub upright_at : d.x ≡ c.x → 0 < nat_abs (d.y -ℤ c.y) → Crosses a.x c.x b.x
      → intersection a b c d ≡ Some (part_way a b (nat_abs (a.x -ℤ c.x)) (nat_abs (a.x -ℤ b.x)))
  unfolding point crossed_at upright_near
  upright_at e w k = (upright_near e w k).is

  -- ---- an edge along y = c.y
  pub level_near : d.y ≡ c.y → 0 < nat_abs (d.x -ℤ c.x) → Crosses a.y c.y b.y
      → Found a b (nat_abs (a.y -ℤ c.y)) (nat_abs (a.y -ℤ b.y)) (intersection a b c d)
  level_near e w k =
      let z : d.y -ℤ c.y ≡ pos 0 = none d.y c.y e in
      crossed_at (a.y -ℤ c.y) (a.y -ℤ b.y) (neg_ℤ (d.x -ℤ c.x)) k.before (subst (λ (n : ℕ). 0 < n) (sym (size_neg (d.x -ℤ c.x))) w) (crosses_lt a.y c.y b.y k)
      (difference_small a.y b.y h.start.down h.end.down) (crosses_sign a.y c.y b.y k)
      (subst (λ (u : ℤ). Is (numerator a c d) u)
      (right_product (a.x -ℤ c.x) (d.y -ℤ c.y) (a.y -ℤ c.y) (d.x -ℤ c.x) z ∙ *ℤ_comm (neg_ℤ (d.x -ℤ c.x)) (a.y -ℤ c.y)) numerator_is)
      (subst (λ (u : ℤ). Is (determinant a b c d) u)
      (level_product (b.y -ℤ a.y) (d.x -ℤ c.x) (d.y -ℤ c.y) (b.x -ℤ a.x) z ∙ ap (λ (u : ℤ). u *ℤ neg_ℤ (d.x -ℤ c.x)) (neg_difference b.y a.y)) determinant_is)

  pub level_at : d.y ≡ c.y → 0 < nat_abs (d.x -ℤ c.x) → Crosses a.y c.y b.y
      → intersection a b c d ≡ Some (part_way a b (nat_abs (a.y -ℤ c.y)) (nat_abs (a.y -ℤ b.y)))
  unfolding point crossed_at level_near
  level_at e w k = (level_near e w k).is

pub near_crossing : (a b c d : Point64) → AllLimited a b c d → NearCrossing a b c d (intersection a b c d)
near_crossing a b c d h = record { upright = upright_near a b c d h; level = level_near a b c d h }
