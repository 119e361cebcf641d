-- The searches for a point off the edges, forwards and backwards, by the positions that they look at. Assumes nothing.
use Rattle.std.specs.Prelude.{if◌then◌else◌, Option, None, Some}
use mathlib.Core.Path.{◌≡◌, refl, sym, ◌∙◌, subst}
use mathlib.Core.Bool.{Bool, true, false}
use mathlib.Core.List.{List}
use Prim.Native.Nat.{ℕ, zero, suc, ◌+◌, ◌-◌, ◌<◌, ◌≤◌}
use native.Mathlib.Decide.{ℕ_discrete}
use native.Mathlib.Omega.{arith}
use native.Mathlib.Numerals.{add-one}
use lib.ListN.{length, drop, drop_of_length-le}
use lib.Seq.{drop-cons}
use Rattle.plane.specs.declared.crossing.SidePoint.{SidePoint}
use Rattle.plane.specs.declared.location.Spot.{Spot}
use Rattle.plane.specs.declared.point.Point64.{Point64}
use Rattle.plane.specs.declared.rect.Rect64.{Rect64}
use Rattle.plane.specs.Intersection.{found_at}
use Rattle.plane.specs.Points.{origin, pt_at}
use Rattle.plane.specs.Rectangle.{get_location}
use Rattle.reference.specs.Lines.{first_off_edge}
use Rattle.reference.specs.Walk.{last_off}
use Rattle.rectclip.specs.Walking.{off_edges}
use Rattle.rectclip.proofs.Positions.{First, Last}

-- a search that looks at one more point, which is not off the edges, or is
module _ (p : Point64) (s : Spot) (rest : Option SidePoint) where
  passes : (if s.off then found_at p s.loc else None) ≡ None → (if s.off then found_at p s.loc else rest) ≡ rest
  passes e = go s.off e
    where
      go : (b : Bool) → (if b then found_at p s.loc else None) ≡ None → (if b then found_at p s.loc else rest) ≡ rest
      go true e = cc
      go false e = refl

  stops : {y : SidePoint} → (if s.off then found_at p s.loc else None) ≡ Some y → (if s.off then found_at p s.loc else rest) ≡ Some y
  stops {y} e = go s.off e
    where
      go : (b : Bool) → (if b then found_at p s.loc else None) ≡ Some y → (if b then found_at p s.loc else rest) ≡ Some y
      go true e = e
      go false e = cc

module _ (rect : Rect64) (P : List Point64) where
  abbrev pub off_at : ℕ → Option SidePoint
  off_at k = off_edges rect (pt_at P k)

  -- ---- backwards
  last_on : (n : ℕ) → off_at n ≡ None → last_off rect P (suc n) ≡ last_off rect P n
  unfolding last_off
  last_on n e = passes (pt_at P n) (get_location rect (pt_at P n)) (last_off rect P n) e

  last_found : (n : ℕ) {y : SidePoint} → off_at n ≡ Some y → last_off rect P (suc n) ≡ Some y
  unfolding last_off
  last_found n e = stops (pt_at P n) (get_location rect (pt_at P n)) (last_off rect P n) e

  pub last_is : (n : ℕ) (r : Option SidePoint) → Last off_at n r → r ≡ last_off rect P n
  unfolding last_off
  last_is zero None h = refl
  last_is zero (Some y) (k, l, e, f) = absurd (omega arith)
  last_is (suc n) None h = last_is n None (λ k l. h k (omega arith)) ∙ sym (last_on n (h n (omega arith)))
  last_is (suc n) (Some y) (k, l, e, f) =
      elim (ℕ_discrete k n) [
        | yes q ↦ sym (last_found n (subst (λ (i : ℕ). off_at i ≡ Some y) q e))
        | no q ↦ last_is n (Some y) (k, omega arith, e, λ j a b. f j a (omega arith)) ∙ sym (last_on n (f n (omega arith) (omega arith)))
      ]

  -- ---- forwards
  module _ (a : ℕ) (h : a < length P) where
    first_on : off_at a ≡ None → first_off_edge rect (drop a P) ≡ first_off_edge rect (drop (a + 1) P)
    unfolding first_off_edge
    first_on e = rw (drop-cons P a origin h, add-one a) (passes (pt_at P a) (get_location rect (pt_at P a)) (first_off_edge rect (drop (suc a) P)) e)

    first_found : {y : SidePoint} → off_at a ≡ Some y → first_off_edge rect (drop a P) ≡ Some y
    unfolding first_off_edge
    first_found e = rw (drop-cons P a origin h) (stops (pt_at P a) (get_location rect (pt_at P a)) (first_off_edge rect (drop (suc a) P)) e)

  first_none : (a : ℕ) → length P ≤ a → first_off_edge rect (drop a P) ≡ None
  unfolding first_off_edge
  first_none a h = rw (drop_of_length-le P {i = a} h) refl

  -- with so many points left
  first_left : (left a : ℕ) → length P ≤ a + left → (r : Option SidePoint) → First off_at a (length P) r → r ≡ first_off_edge rect (drop a P)
  first_left zero a h None f = sym (first_none a (omega arith))
  first_left zero a h (Some y) (k, l, m, e, f) = absurd (omega arith)
  first_left (suc left) a h None f =
      elim (ℕ_discrete (length P - a) 0) [
        | yes q ↦ sym (first_none a (omega arith))
        | no q ↦ first_left left (a + 1) (omega arith) None (λ k l. f k (omega arith)) ∙ sym (first_on a (omega arith) (f a (omega arith) (omega arith)))
      ]
  first_left (suc left) a h (Some y) (k, l, m, e, f) =
      elim (ℕ_discrete k a) [
        | yes q ↦ sym (first_found a (omega arith) (subst (λ (i : ℕ). off_at i ≡ Some y) q e))
        | no q ↦ first_left left (a + 1) (omega arith) (Some y) (k, omega arith, m, e, λ j b. f j (omega arith)) ∙ sym (first_on a (omega arith) (f a (omega arith) (omega arith)))
      ]

  pub first_is : (a : ℕ) (r : Option SidePoint) → First off_at a (length P) r → r ≡ first_off_edge rect (drop a P)
  first_is a r f = first_left (length P) a (omega arith) r f
