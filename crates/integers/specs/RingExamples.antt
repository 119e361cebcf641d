-- Worked identities, and what they cost.
use Rattle.std.specs.Prelude.{◌≡◌, [], ◌∷◌, ℤ, ◌+ℤ◌, ◌-ℤ◌, ◌*ℤ◌}
use Rattle.integers.specs.Ring.{Ex, var, ◌⊕◌, ◌⊖◌, ◌⊗◌, ev, ring, ring6, ◌≗◌}

abbrev cross : ℤ → ℤ → ℤ → ℤ → ℤ
cross ax ay bx by = ax *ℤ by -ℤ bx *ℤ ay

abbrev orient : ℤ → ℤ → ℤ → ℤ → ℤ → ℤ → ℤ
orient ax ay bx by cx cy = (bx -ℤ ax) *ℤ (cy -ℤ by) -ℤ (by -ℤ ay) *ℤ (cx -ℤ bx)

abbrev cross_e : Ex → Ex → Ex → Ex → Ex
cross_e ax ay bx by = ax ⊗ by ⊖ bx ⊗ ay

abbrev orient_e : Ex → Ex → Ex → Ex → Ex → Ex → Ex
orient_e ax ay bx by cx cy = (bx ⊖ ax) ⊗ (cy ⊖ by) ⊖ (by ⊖ ay) ⊗ (cx ⊖ bx)

area3 : (ax ay bx by cx cy : ℤ) → cross ax ay bx by +ℤ cross bx by cx cy -ℤ cross ax ay cx cy ≡ orient ax ay bx by cx cy
area3 ax ay bx by cx cy =
    ring (ax ∷ ay ∷ bx ∷ by ∷ cx ∷ cy ∷ [])
    (cross_e (var 0) (var 1) (var 2) (var 3) ⊕ cross_e (var 2) (var 3) (var 4) (var 5) ⊖ cross_e (var 0) (var 1) (var 4) (var 5))
    (orient_e (var 0) (var 1) (var 2) (var 3) (var 4) (var 5)) tt

-- Lagrange: |p|² |q|² − (p·q)² = |p × q|², degree 4, 6 variables
lagrange : (a b c d e f : ℤ) → (a *ℤ a +ℤ b *ℤ b +ℤ c *ℤ c) *ℤ (d *ℤ d +ℤ e *ℤ e +ℤ f *ℤ f) -ℤ (a *ℤ d +ℤ b *ℤ e +ℤ c *ℤ f) *ℤ (a *ℤ d +ℤ b *ℤ e +ℤ c *ℤ f)
    ≡ (a *ℤ e -ℤ b *ℤ d) *ℤ (a *ℤ e -ℤ b *ℤ d) +ℤ (a *ℤ f -ℤ c *ℤ d) *ℤ (a *ℤ f -ℤ c *ℤ d) +ℤ (b *ℤ f -ℤ c *ℤ e) *ℤ (b *ℤ f -ℤ c *ℤ e)
lagrange a b c d e f =
    ring (a ∷ b ∷ c ∷ d ∷ e ∷ f ∷ [])
    ((A ⊗ A ⊕ B ⊗ B ⊕ C ⊗ C) ⊗ (D ⊗ D ⊕ E ⊗ E ⊕ F ⊗ F) ⊖ (A ⊗ D ⊕ B ⊗ E ⊕ C ⊗ F) ⊗ (A ⊗ D ⊕ B ⊗ E ⊕ C ⊗ F))
    ((A ⊗ E ⊖ B ⊗ D) ⊗ (A ⊗ E ⊖ B ⊗ D) ⊕ (A ⊗ F ⊖ C ⊗ D) ⊗ (A ⊗ F ⊖ C ⊗ D) ⊕ (B ⊗ F ⊖ C ⊗ E) ⊗ (B ⊗ F ⊖ C ⊗ E)) tt
  where
    A : Ex
    A = var 0

    B : Ex
    B = var 1

    C : Ex
    C = var 2

    D : Ex
    D = var 3

    E : Ex
    E = var 4

    F : Ex
    F = var 5

-- det of a 3 × 3 matrix, expanded along a row and a column: degree 3, 9 variables
det_row_col : (a b c d e f g h i : ℤ) → a *ℤ (e *ℤ i -ℤ f *ℤ h) -ℤ b *ℤ (d *ℤ i -ℤ f *ℤ g) +ℤ c *ℤ (d *ℤ h -ℤ e *ℤ g)
    ≡ a *ℤ (e *ℤ i -ℤ h *ℤ f) -ℤ d *ℤ (b *ℤ i -ℤ c *ℤ h) +ℤ g *ℤ (b *ℤ f -ℤ c *ℤ e)
det_row_col a b c d e f g h i =
    ring (a ∷ b ∷ c ∷ d ∷ e ∷ f ∷ g ∷ h ∷ i ∷ [])
    (var 0 ⊗ (var 4 ⊗ var 8 ⊖ var 5 ⊗ var 7) ⊖ var 1 ⊗ (var 3 ⊗ var 8 ⊖ var 5 ⊗ var 6) ⊕ var 2 ⊗ (var 3 ⊗ var 7 ⊖ var 4 ⊗ var 6))
    (var 0 ⊗ (var 4 ⊗ var 8 ⊖ var 7 ⊗ var 5) ⊖ var 3 ⊗ (var 1 ⊗ var 8 ⊖ var 2 ⊗ var 7) ⊕ var 6 ⊗ (var 1 ⊗ var 5 ⊖ var 2 ⊗ var 4)) tt

-- a heavy one, for the cost: (a + b + c + d)^6 multiplied two ways
abbrev S : Ex
S = var 0 ⊕ var 1 ⊕ var 2 ⊕ var 3

heavy : (a b c d : ℤ) → ev (a ∷ b ∷ c ∷ d ∷ []) ((S ⊗ S ⊗ S) ⊗ (S ⊗ S ⊗ S)) ≡ ev (a ∷ b ∷ c ∷ d ∷ []) ((S ⊗ S) ⊗ (S ⊗ S) ⊗ (S ⊗ S))
heavy a b c d = ring (a ∷ b ∷ c ∷ d ∷ []) ((S ⊗ S ⊗ S) ⊗ (S ⊗ S ⊗ S)) ((S ⊗ S) ⊗ (S ⊗ S) ⊗ (S ⊗ S)) tt

-- with named variables
area3' : (ax ay bx by cx cy : ℤ) → cross ax ay bx by +ℤ cross bx by cx cy -ℤ cross ax ay cx cy ≡ orient ax ay bx by cx cy
area3' = ring6 (λ ax ay bx by cx cy. cross_e ax ay bx by ⊕ cross_e bx by cx cy ⊖ cross_e ax ay cx cy ≗ orient_e ax ay bx by cx cy) tt
