-- What the search hands on: a known point lies on its edge (2/13); a crossing to be computed in floats is strictly between the ends
-- of the segment and of the edge.
use mathlib.Core.Path.{◌≡◌, refl, sym, ◌∙◌, ap, subst}
use mathlib.Core.Bool.{Bool, true, false}
use mathlib.Core.Logic.{◌⊎◌, inl, inr}
use lib.Dec.{T}
use lib.IntN.{ℤ, pos, ◌-ℤ◌, ◌*ℤ◌}
use lib.Signed.{◌≤ℤ◌, ◌<ℤ◌}
use Rattle.integers.specs.Order.{zint, add_pn, sub_pn, eq→}
use Rattle.plane.specs.declared.point.Point64.{Point64}
use Rattle.plane.specs.declared.rect.Rect64.{Rect64}
use Rattle.theorems.proofs.GeoPlane.{Side, on_left, on_top, on_right, on_bottom, from, to, edge, Hit, none, known, proper, depth, opposite, second, last, Proper}
use Rattle.theorems.proofs.GeoCut.{Depths}
use Rattle.theorems.proofs.GeoAnswers.{Answer, no_hit, at_p, at_q, at_from, at_to, rising, falling, answer}
use Rattle.integers.specs.Ring.{Ex, v0, v1, v2, v3, v4, v5, v6, v7, ◌⊖◌, ◌⊗◌, ring}
use Rattle.theorems.proofs.GeoTell.{NonZero, times_nonzero}
use Rattle.theorems.proofs.GeoSides.{near, seen, around, pts}
use Rattle.theorems.proofs.GeoSearch.{Closed, place}

-- on the edge of the side s: on its line, and not beyond any side
pub record OnEdge (r : Rect64) (s : Side) (e : Point64) : Type 0 where
  pub on_line : depth r s e ≡ pos 0
  pub inside : Closed r e

abbrev at_pt : Point64 → Hit → Point64
at_pt d none = d
at_pt d (known p) = p
at_pt d proper = d

abbrev is_known : Hit → Bool
is_known none = false
is_known (known p) = true
is_known proper = false

-- from the depths along the edge
module _ (r : Rect64) (k : Proper r) where
  ends_on : (s : Side) (p : Point64) → depth r s p ≡ pos 0 → pos 0 ≤ℤ depth r (second s) p → pos 0 ≤ℤ depth r (last s) p → OnEdge r s p
  ends_on s p z a b = record { on_line = z; inside = λ t. go t (place s t) }
    where
      wide : Depths (depth r s p) (depth r s p) (depth r (opposite s) p) (depth r (opposite s) p) (depth r (second s) p) (depth r (second s) p) (depth r (last s) p) (depth r (last s) p) → depth r s p ≡ pos 0 → pos 0 ≤ℤ depth r (opposite s) p
      wide d z = omega (zint, d.p_across, d.W_pos, eq→ z, add_pn (depth r s p) (depth r (opposite s) p))

      zero-le : depth r s p ≡ pos 0 → pos 0 ≤ℤ depth r s p
      zero-le z = omega (zint, eq→ z)

      go : (t : Side) → (t ≡ s) ⊎ ((t ≡ second s) ⊎ ((t ≡ last s) ⊎ (t ≡ opposite s))) → pos 0 ≤ℤ depth r t p
      go t (inl e) = subst (λ (t : Side). pos 0 ≤ℤ depth r t p) (sym e) (zero-le z)
      go t (inr (inl e)) = subst (λ (t : Side). pos 0 ≤ℤ depth r t p) (sym e) a
      go t (inr (inr (inl e))) = subst (λ (t : Side). pos 0 ≤ℤ depth r t p) (sym e) b
      go t (inr (inr (inr e))) = subst (λ (t : Side). pos 0 ≤ℤ depth r t p) (sym e) (wide (around r k s p p) z)

  near_on : (s : Side) (p : Point64) → depth r s p ≡ pos 0 → pos 0 ≤ℤ depth r (near s) p → pos 0 ≤ℤ depth r (opposite (near s)) p → OnEdge r s p
  near_on on_left p z a b = ends_on on_left p z a b
  near_on on_top p z a b = ends_on on_top p z a b
  near_on on_right p z a b = ends_on on_right p z a b
  near_on on_bottom p z a b = ends_on on_bottom p z b a

  from_on : (s : Side) → OnEdge r s (from r s)
  from_on on_left = near_on on_left (from r on_left) (omega (zint, sub_pn r.left r.left)) (omega (zint, sub_pn r.top r.top)) (omega (zint, k.high, sub_pn r.bottom r.top))
  from_on on_top = near_on on_top (from r on_top) (omega (zint, sub_pn r.top r.top)) (omega (zint, sub_pn r.left r.left)) (omega (zint, k.wide, sub_pn r.right r.left))
  from_on on_right = near_on on_right (from r on_right) (omega (zint, sub_pn r.right r.right)) (omega (zint, sub_pn r.top r.top)) (omega (zint, k.high, sub_pn r.bottom r.top))
  from_on on_bottom = near_on on_bottom (from r on_bottom) (omega (zint, sub_pn r.bottom r.bottom)) (omega (zint, sub_pn r.right r.right)) (omega (zint, k.wide, sub_pn r.right r.left))

  to_on : (s : Side) → OnEdge r s (to r s)
  to_on on_left = near_on on_left (to r on_left) (omega (zint, sub_pn r.left r.left)) (omega (zint, k.high, sub_pn r.bottom r.top)) (omega (zint, sub_pn r.bottom r.bottom))
  to_on on_top = near_on on_top (to r on_top) (omega (zint, sub_pn r.top r.top)) (omega (zint, k.wide, sub_pn r.right r.left)) (omega (zint, sub_pn r.right r.right))
  to_on on_right = near_on on_right (to r on_right) (omega (zint, sub_pn r.right r.right)) (omega (zint, k.high, sub_pn r.bottom r.top)) (omega (zint, sub_pn r.bottom r.bottom))
  to_on on_bottom = near_on on_bottom (to r on_bottom) (omega (zint, sub_pn r.bottom r.bottom)) (omega (zint, k.wide, sub_pn r.right r.left)) (omega (zint, sub_pn r.left r.left))

  -- a known point lies on its edge
  pub known_on : (s : Side) (p q e : Point64) → edge r s p q ≡ known e → OnEdge r s e
  known_on s p q e h = go (answer (seen r k s p q))
    where
      is : {a : Point64} → edge r s p q ≡ known a → a ≡ e
      is x = ap (at_pt e) (sym x ∙ h)

      go : Answer p q (from r s) (to r s) (depth r s p) (depth r s q) (depth r (near s) p) (depth r (near s) q) (depth r (opposite (near s)) p) (depth r (opposite (near s)) q) → OnEdge r s e
      go (no_hit x) = absurd (subst (λ (b : Bool). T b) (ap is_known (sym h ∙ x)) tt)
      go (at_p x z a b) = subst (OnEdge r s) (is x) (near_on s p z a b)
      go (at_q x z a b) = subst (OnEdge r s) (is x) (near_on s q z a b)
      go (at_from x) = subst (OnEdge r s) (is x) (from_on s)
      go (at_to x) = subst (OnEdge r s) (is x) (to_on s)
      go (rising x a b c d) = absurd (subst (λ (b : Bool). T b) (ap is_known (sym h ∙ x)) tt)
      go (falling x a b c d) = absurd (subst (λ (b : Bool). T b) (ap is_known (sym h ∙ x)) tt)

  -- a crossing for the floats: p and q strictly on either side of the line, the crossing strictly between the edge's ends. g, h: the
  -- depths of the two on a neighbour t, so that (v g − u h) / (v − u) is the exact crossing's depth on t
  pub record Within (s : Side) (p q : Point64) : Type 0 where
    pub apart : depth r s p <ℤ pos 0
    pub apart' : pos 0 <ℤ depth r s q
    pub near_in : (depth r s p *ℤ depth r (near s) q) <ℤ (depth r s q *ℤ depth r (near s) p)
    pub far_in : (depth r s p *ℤ depth r (opposite (near s)) q) <ℤ (depth r s q *ℤ depth r (opposite (near s)) p)

  pub proper_in : (s : Side) (p q : Point64) → edge r s p q ≡ proper → Within s p q ⊎ Within s q p
  proper_in s p q h = go (answer (seen r k s p q))
    where
      is_proper : Hit → Bool
      is_proper none = false
      is_proper (known p) = false
      is_proper proper = true

      no : {x : Hit} → edge r s p q ≡ x → is_proper x ≡ false → Within s p q ⊎ Within s q p
      no e f = absurd (subst (λ (b : Bool). T b) (sym (ap is_proper h) ∙ ap is_proper e ∙ f) tt)

      go : Answer p q (from r s) (to r s) (depth r s p) (depth r s q) (depth r (near s) p) (depth r (near s) q) (depth r (opposite (near s)) p) (depth r (opposite (near s)) q) → Within s p q ⊎ Within s q p
      go (no_hit x) = no x refl
      go (at_p x z a b) = no x refl
      go (at_q x z a b) = no x refl
      go (at_from x) = no x refl
      go (at_to x) = no x refl
      go (rising x a b c d) = inl (record { apart = a; apart' = b; near_in = c; far_in = d })
      go (falling x a b c d) = inr (record { apart = a; apart' = b; near_in = c; far_in = d })

-- ---- the float crossing's determinant and numerator, exactly: with e of `Seen`, e (v − u) and e (0 − u). So the fraction is u / (u − v), strictly
-- between 0 and 1, and the determinant is not 0: `get_segment_intersect_pt` always answers
abbrev pub det : Point64 → Point64 → Point64 → Point64 → ℤ
det a b c d = (b.y -ℤ a.y) *ℤ (d.x -ℤ c.x) -ℤ (d.y -ℤ c.y) *ℤ (b.x -ℤ a.x)

abbrev det_e : Ex → Ex → Ex → Ex → Ex → Ex → Ex → Ex → Ex
det_e ax ay bx by cx cy dx dy = (by ⊖ ay) ⊗ (dx ⊖ cx) ⊖ (dy ⊖ cy) ⊗ (bx ⊖ ax)

-- the edge's length, with the sign that its direction gives it
abbrev pub lead : Rect64 → Side → ℤ
lead r on_left = r.top -ℤ r.bottom
lead r on_top = r.right -ℤ r.left
lead r on_right = r.bottom -ℤ r.top
lead r on_bottom = r.right -ℤ r.left

pub det_is : (r : Rect64) (s : Side) (p q : Point64) → det p q (from r s) (to r s) ≡ lead r s *ℤ (depth r s q -ℤ depth r s p)
det_is r on_left p q = ring (pts r p q) (det_e v4 v5 v6 v7 v0 v1 v0 v3) ((v1 ⊖ v3) ⊗ ((v6 ⊖ v0) ⊖ (v4 ⊖ v0))) tt
det_is r on_top p q = ring (pts r p q) (det_e v4 v5 v6 v7 v0 v1 v2 v1) ((v2 ⊖ v0) ⊗ ((v7 ⊖ v1) ⊖ (v5 ⊖ v1))) tt
det_is r on_right p q = ring (pts r p q) (det_e v4 v5 v6 v7 v2 v1 v2 v3) ((v3 ⊖ v1) ⊗ ((v2 ⊖ v6) ⊖ (v2 ⊖ v4))) tt
det_is r on_bottom p q = ring (pts r p q) (det_e v4 v5 v6 v7 v2 v3 v0 v3) ((v2 ⊖ v0) ⊗ ((v3 ⊖ v7) ⊖ (v3 ⊖ v5))) tt

lead_non : (r : Rect64) → Proper r → (s : Side) → NonZero (lead r s)
lead_non r k on_left = inr (omega (zint, k.high, sub_pn r.top r.bottom))
lead_non r k on_top = inl (omega (zint, k.wide, sub_pn r.right r.left))
lead_non r k on_right = inl (omega (zint, k.high, sub_pn r.bottom r.top))
lead_non r k on_bottom = inl (omega (zint, k.wide, sub_pn r.right r.left))

pub det_non : (r : Rect64) → Proper r → (s : Side) (p q : Point64) → edge r s p q ≡ proper → NonZero (det p q (from r s) (to r s))
det_non r k s p q h = subst NonZero (sym (det_is r s p q)) (times_nonzero (lead r s) (depth r s q -ℤ depth r s p) (lead_non r k s) (gap (proper_in r k s p q h)))
  where
    gap : Within r k s p q ⊎ Within r k s q p → NonZero (depth r s q -ℤ depth r s p)
    gap (inl w) = inl (omega (zint, w.apart, w.apart', sub_pn (depth r s q) (depth r s p)))
    gap (inr w) = inr (omega (zint, w.apart, w.apart', sub_pn (depth r s q) (depth r s p)))
