-- A sum of many parts in one fact for `omega`: `lin ρ e` says of ⟦ e ⟧ ρ what `add_pn`, `sub_pn` .. say of one operation.
-- A product is multiplied out: omega takes each product of two parts for an unknown.
use Rattle.std.specs.Prelude.{◌≡◌, Bool, true, false, List, ℕ, suc, ◌+◌, ◌*◌, get_or, ℤ, pos, negsuc, ◌*ℤ◌}
use Rattle.std.proofs.Common.{ap, arith}
use Rattle.integers.specs.Order.{pp, nn, Is, add_pn, sub_pn, neg_pn}
use Rattle.integers.specs.Ring.{Ex, var, con, ◌⊕◌, ◌⊖◌, ◌⊗◌, ⊝, ev}

-- the parts of a product
pub times_pn : (a b : ℤ) → Is (a *ℤ b) (pp a * pp b + nn a * nn b) (pp a * nn b + nn a * pp b)
times_pn (pos a) (pos b) = omega arith
times_pn (pos a) (negsuc b) = omega (arith, neg_pn (pos (a * suc b)))
times_pn (negsuc a) (pos b) = omega (arith, neg_pn (pos (suc a * b)))
times_pn (negsuc a) (negsuc b) = omega arith

-- what is added (true) and what is taken away (false)
abbrev pub side : Bool → List ℤ → Ex → ℕ
side true ρ (var i) = pp (get_or ρ i (pos 0))
side true ρ (con c) = pp c
side true ρ (a ⊕ b) = side true ρ a + side true ρ b
side true ρ (a ⊖ b) = side true ρ a + side false ρ b
side true ρ (a ⊗ b) = side true ρ a * side true ρ b + side false ρ a * side false ρ b
side true ρ (⊝ a) = side false ρ a
side false ρ (var i) = nn (get_or ρ i (pos 0))
side false ρ (con c) = nn c
side false ρ (a ⊕ b) = side false ρ a + side false ρ b
side false ρ (a ⊖ b) = side false ρ a + side true ρ b
side false ρ (a ⊗ b) = side true ρ a * side false ρ b + side false ρ a * side true ρ b
side false ρ (⊝ a) = side true ρ a

mul_is : (x y a b c d : ℕ) (p n q m : ℕ) → p + b ≡ n + a → q + d ≡ m + c → x + (p * m + n * q) ≡ y + (p * q + n * m) → x + (a * d + b * c) ≡ y + (a * c + b * d)
mul_is x y a b c d p n q m e f g = omega (arith, ap (λ (z : ℕ). z * q) e, ap (λ (z : ℕ). z * m) e, ap (λ (z : ℕ). a * z) f, ap (λ (z : ℕ). b * z) f)

pub lin : (ρ : List ℤ) (e : Ex) → Is (ev ρ e) (side true ρ e) (side false ρ e)
lin ρ (var i) = omega arith
lin ρ (con c) = omega arith
lin ρ (a ⊕ b) = omega (arith, add_pn (ev ρ a) (ev ρ b), lin ρ a, lin ρ b)
lin ρ (a ⊖ b) = omega (arith, sub_pn (ev ρ a) (ev ρ b), lin ρ a, lin ρ b)
lin ρ (a ⊗ b) =
    let x = ev ρ a in
    let y = ev ρ b in
    mul_is (pp (x *ℤ y)) (nn (x *ℤ y)) (side true ρ a) (side false ρ a) (side true ρ b) (side false ρ b) (pp x) (nn x) (pp y) (nn y) (lin ρ a) (lin ρ b) (times_pn x y)
lin ρ (⊝ a) = omega (arith, neg_pn (ev ρ a), lin ρ a)
