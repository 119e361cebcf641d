-- To unlink a node that is in line with its neighbours changes no ring's area.
use mathlib.Core.Path.{◌≡◌, ◌∙◌, subst}
use mathlib.Core.Bool.{true}
use mathlib.Core.List.{List, [], ◌∷◌}
use Prim.Native.Nat.{ℕ}
use lib.IntN.{ℤ, ◌+ℤ◌, ◌-ℤ◌, ◌*ℤ◌}
use Rattle.integers.specs.Laws.{ -ℤ_zero}
use Rattle.integers.specs.Tests.{eqZ_true}
use Rattle.integers.specs.Ring.{var, ◌⊕◌, ◌⊖◌, ◌⊗◌, ring}
use Rattle.rounding.proofs.Exact.{none}
use Rattle.plane.specs.declared.point.Point64.{Point64}
use Rattle.plane.specs.Signs.{is_collinear}
use Rattle.reference.specs.Arena.{Arena, pt_of, next_of, prev_of, is_flat}
use Rattle.theorems.specs.Demand.{area_step}
use Rattle.theorems.proofs.RingLaw.{Ring, end}
use Rattle.theorems.proofs.AreaLaw.{area, area_unlink}

triangle : (ux uy bx by vx vy : ℤ) → ((ux *ℤ by -ℤ bx *ℤ uy) +ℤ (bx *ℤ vy -ℤ vx *ℤ by)) -ℤ (ux *ℤ vy -ℤ vx *ℤ uy) ≡ (bx -ℤ ux) *ℤ (vy -ℤ by) -ℤ (by -ℤ uy) *ℤ (vx -ℤ bx)
triangle ux uy bx by vx vy =
    ring (ux ∷ uy ∷ bx ∷ by ∷ vx ∷ vy ∷ [])
    (((var 0 ⊗ var 3 ⊖ var 2 ⊗ var 1) ⊕ (var 2 ⊗ var 5 ⊖ var 4 ⊗ var 3)) ⊖ (var 0 ⊗ var 5 ⊖ var 4 ⊗ var 1))
    ((var 2 ⊖ var 0) ⊗ (var 5 ⊖ var 3) ⊖ (var 3 ⊖ var 1) ⊗ (var 4 ⊖ var 2)) tt

in_line : (u b v : Point64) → is_collinear u b v ≡ true → area_step u b +ℤ area_step b v ≡ area_step u v
unfolding is_collinear
in_line u b v e =
    -ℤ_zero (area_step u b +ℤ area_step b v) (area_step u v)
    (triangle u.x u.y b.x b.y v.x v.y ∙ none _ _ (eqZ_true {a = (b.x -ℤ u.x) *ℤ (v.y -ℤ b.y)} {b = (b.y -ℤ u.y) *ℤ (v.x -ℤ b.x)} e))

-- the area of a ring of nodes, doubled
abbrev pub ring_area2 : List Point64 → ℕ → List ℕ → ℤ
ring_area2 pts x xs = area (λ i j. area_step (pt_of pts i) (pt_of pts j)) x xs

pub flat_keeps : (pts : List Point64) (a : Arena) (b x : ℕ) (xs : List ℕ) → Ring (next_of a) (prev_of a) b (x ∷ xs) → is_flat pts a b ≡ true → ring_area2 pts b (x ∷ xs) ≡ ring_area2 pts x xs
flat_keeps pts a b x xs r e =
    area_unlink (λ i j. area_step (pt_of pts i) (pt_of pts j)) b x xs
    (subst (λ (k : ℕ). area_step (pt_of pts (end x xs)) (pt_of pts b) +ℤ area_step (pt_of pts b) (pt_of pts k) ≡ area_step (pt_of pts (end x xs)) (pt_of pts k)) r.chain.0.fore
    (subst (λ (k : ℕ). area_step (pt_of pts k) (pt_of pts b) +ℤ area_step (pt_of pts b) (pt_of pts (next_of a b)) ≡ area_step (pt_of pts k) (pt_of pts (next_of a b))) r.closes.back
    (in_line (pt_of pts (prev_of a b)) (pt_of pts b) (pt_of pts (next_of a b)) e)))
