-- The area of a path, and what dropping a point does to it: `ring` inside an induction.
use Rattle.std.specs.Prelude.{◌≡◌, List, [], ◌∷◌, ℤ, pos, ◌+ℤ◌, ◌-ℤ◌, ◌*ℤ◌}
use Rattle.std.proofs.Common.{◌∙◌, ap}
use Rattle.integers.specs.Ring.{con, v0, v1, v2, v3, v4, v5, v6, ◌⊕◌, ◌⊖◌, ◌⊗◌, ring}

abbrev cross : ℤ → ℤ → ℤ → ℤ → ℤ
cross ax ay bx by = ax *ℤ by -ℤ bx *ℤ ay

abbrev orient : ℤ → ℤ → ℤ → ℤ → ℤ → ℤ → ℤ
orient ax ay bx by cx cy = (bx -ℤ ax) *ℤ (cy -ℤ by) -ℤ (by -ℤ ay) *ℤ (cx -ℤ bx)

-- the sum over neighbours, from a point before the list
abbrev walk : ℤ → ℤ → List ℤ → ℤ
walk ax ay [] = pos 0
walk ax ay (x ∷ []) = pos 0
walk ax ay (x ∷ y ∷ p) = cross ax ay x y +ℤ walk x y p

-- a point that is dropped takes its triangle with it
drop_one : (ax ay bx by cx cy : ℤ) (p : List ℤ) → walk ax ay (bx ∷ by ∷ cx ∷ cy ∷ p) ≡ orient ax ay bx by cx cy +ℤ walk ax ay (cx ∷ cy ∷ p)
drop_one ax ay bx by cx cy p =
    ring (ax ∷ ay ∷ bx ∷ by ∷ cx ∷ cy ∷ walk cx cy p ∷ [])
    ((v0 ⊗ v3 ⊖ v2 ⊗ v1) ⊕ ((v2 ⊗ v5 ⊖ v4 ⊗ v3) ⊕ v6))
    ((v2 ⊖ v0) ⊗ (v5 ⊖ v3) ⊖ (v3 ⊖ v1) ⊗ (v4 ⊖ v2) ⊕ ((v0 ⊗ v5 ⊖ v4 ⊗ v1) ⊕ v6)) tt

-- moved by (dx, dy), the sum changes by what the two ends say: by induction, `ring` at each step
abbrev moved : ℤ → List ℤ → List ℤ
moved dx [] = []
moved dx (x ∷ []) = x ∷ []
moved dx (x ∷ y ∷ p) = (x +ℤ dx) ∷ y ∷ moved dx p

abbrev last_y : ℤ → List ℤ → ℤ
last_y a [] = a
last_y a (x ∷ []) = a
last_y a (x ∷ y ∷ p) = last_y y p

none : (dx ay : ℤ) → pos 0 ≡ pos 0 +ℤ dx *ℤ (ay -ℤ ay)
none dx ay = ring (dx ∷ ay ∷ []) (con (pos 0)) (con (pos 0) ⊕ v0 ⊗ (v1 ⊖ v1)) tt

walk_moved : (dx ax ay : ℤ) (p : List ℤ) → walk (ax +ℤ dx) ay (moved dx p) ≡ walk ax ay p +ℤ dx *ℤ (last_y ay p -ℤ ay)
walk_moved dx ax ay [] = none dx ay
walk_moved dx ax ay (x ∷ []) = none dx ay
walk_moved dx ax ay (x ∷ y ∷ p) =
    ap (λ (z : ℤ). cross (ax +ℤ dx) ay (x +ℤ dx) y +ℤ z) (walk_moved dx x y p)
    ∙ ring (dx ∷ ax ∷ ay ∷ x ∷ y ∷ walk x y p ∷ last_y y p ∷ [])
    (((v1 ⊕ v0) ⊗ v4 ⊖ (v3 ⊕ v0) ⊗ v2) ⊕ (v5 ⊕ v0 ⊗ (v6 ⊖ v4)))
    (((v1 ⊗ v4 ⊖ v3 ⊗ v2) ⊕ v5) ⊕ v0 ⊗ (v6 ⊖ v2)) tt
