-- The two products of a turn are below 2 ^ 53, so the machine's tests of them are the definitions' tests, and how they compare is the turn's sign.
use Rattle.std.specs.Prelude.{if◌then◌else◌}
use Rattle.std.specs.Ordering.{int_cmp}
use Rattle.std.specs.declared.cmp.Ordering.{Ordering}
use Rattle.std.specs.declared.cmp.Ordering.TheVariants.{Less, Equal, Greater}
use mathlib.Core.Path.{◌≡◌, refl, ap, ◌∙◌}
use mathlib.Core.Bool.{Bool, true, false}
use mathlib.Core.List.{List, [], ◌∷◌}
use Prim.Native.Nat.{ℕ}
use native.Mathlib.Omega.{arith}
use lib.Dec.{eqb}
use lib.IntN.{ℤ, pos, negsuc}
use lib.Signed.{lt_z}
use mir.Syntax.{w64}
use mir.Val.{SFits, of_z}
use mir.Facts.{to_z-of_z}
use Rattle.integers.specs.Bound.{Num, par, rd, ev_fits}
use Rattle.integers.specs.Ring.{Ex, v0, v1, v2, v3, v4, v5, ◌⊖◌, ◌⊗◌}
use Rattle.integers.specs.Tests.{eq_z, bits_eqZ, lt_yes}
use Rattle.plane.specs.Signs.{cross_product_sign}
use Rattle.plane.specs.declared.point.Point64.{Point64}
use Rattle.rectclip.specs.Bounds.{Turn, cross_products, sign_of}
use Rattle.rectclip.specs.declared.segment.Products.{Products}

abbrev B : ℕ
B = 33554433

-- the products, over the points' numbers
abbrev pub AB : Ex
AB = (v2 ⊖ v0) ⊗ (v5 ⊖ v3)

abbrev pub CD : Ex
CD = (v3 ⊖ v1) ⊗ (v4 ⊖ v2)

-- a difference's sign, by how the two numbers compare
compared : (x y : ℤ) → sign_of (int_cmp x y) ≡ (if lt_z y x then pos 1 else if lt_z x y then negsuc 0 else pos 0)
compared x y = go (lt_z x y) (lt_z y x) refl refl
  where
    go : (a b : Bool) → lt_z x y ≡ a → lt_z y x ≡ b → sign_of (if a then Less else if b then Greater else Equal) ≡ (if b then pos 1 else if a then negsuc 0 else pos 0)
    go true true e f = absurd (omega (arith, lt_yes x y e, lt_yes y x f))
    go true false e f = refl
    go false true e f = refl
    go false false e f = refl

module _ {p1 p2 p3 : Point64} (t : Turn p1 p2 p3) where
  -- the points' numbers, with their bounds
  abbrev pub numbers : List Num
  numbers =
      par p1.x B t.first.across tt ∷ par p1.y B t.first.down tt ∷ par p2.x B t.second.across tt ∷ par p2.y B t.second.down tt ∷ par p3.x B t.third.across tt ∷ par p3.y B t.third.down tt ∷ []

  ab_fits : SFits w64 (cross_products p1 p2 p3).ab
  ab_fits = ev_fits numbers AB tt

  cd_fits : SFits w64 (cross_products p1 p2 p3).cd
  cd_fits = ev_fits numbers CD tt

  module _ {r : Products} (e : r ≡ cross_products p1 p2 p3) where
    pub ab_below : lt_z (rd r.ab) (rd r.cd) ≡ lt_z (cross_products p1 p2 p3).ab (cross_products p1 p2 p3).cd
    ab_below = ap (λ (q : Products). lt_z (rd q.ab) (rd q.cd)) e ∙ (λ i. lt_z (to_z-of_z ab_fits i) (to_z-of_z cd_fits i))

    pub ab_is_cd : eqb (of_z w64 r.ab) (of_z w64 r.cd) ≡ eq_z (cross_products p1 p2 p3).ab (cross_products p1 p2 p3).cd
    ab_is_cd = ap (λ (q : Products). eqb (of_z w64 q.ab) (of_z w64 q.cd)) e ∙ bits_eqZ ab_fits cd_fits

    -- how the products compare is the sign of their difference
    pub sign_is : {o : Ordering} → o ≡ int_cmp r.ab r.cd → sign_of o ≡ cross_product_sign p1 p2 p3
    unfolding cross_product_sign
    sign_is f = ap sign_of (f ∙ ap (λ (q : Products). int_cmp q.ab q.cd) e) ∙ compared (cross_products p1 p2 p3).ab (cross_products p1 p2 p3).cd
