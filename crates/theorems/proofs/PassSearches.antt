-- What the two searches of a pass find: the side that the walk goes on from, and where both points lie on one line of an edge, one known point.
use mathlib.Core.Path.{◌≡◌, refl, sym, ◌∙◌, ap, subst}
use mathlib.Core.Bool.{Bool, true, false}
use mathlib.Core.Logic.{◌⊎◌, inl, inr}
use lib.IntN.{ℤ, pos}
use lib.Signed.{◌≤ℤ◌, ◌<ℤ◌}
use Rattle.integers.specs.Order.{zint, add_pn, eq→}
use Rattle.std.specs.Prelude.{Option, None, Some, is_some}
use Rattle.plane.specs.declared.crossing.SidePoint.{SidePoint}
use Rattle.plane.specs.declared.point.Point64.{Point64}
use Rattle.plane.specs.Limit.{Limited, LimitedRect}
use Rattle.plane.specs.declared.rect.Rect64.{Rect64}
use Rattle.plane.specs.declared.location.Location.{Location}
use Rattle.plane.specs.declared.location.Location.TheVariants.{Inside}
use Rattle.plane.specs.Points.{origin, same_point}
use Rattle.plane.specs.Intersection.{found_at, get_intersection}
use Rattle.theorems.proofs.GeoPlane.{same_pt, Side, on_left, on_top, on_right, on_bottom, loc, edge, Found as Finding, nothing, found, search, depth, opposite, second, last, Proper}
use Rattle.theorems.proofs.GeoCut.{Depths}
use Rattle.theorems.proofs.GeoSides.{Meets, around}
use Rattle.theorems.proofs.GeoSearch.{Seek, own, next, rest, none, seek, Finds, FindsNone, finds_or_none, Beyond, Along, place}
use Rattle.theorems.proofs.GeoWalk.{Calc}
use Rattle.theorems.proofs.GeoProgress.{In, in_side, SameAt, same_is, same_last, along_same, stayed}
use Rattle.theorems.proofs.Bridge.{floats, told, search_told}
use Rattle.theorems.proofs.Tests.{never}

-- ---- the one case of G2, from any side that p is strictly within
abbrev side_of : Finding → Side
side_of nothing = on_left
side_of (found s h) = s

abbrev some : Finding → Bool
some nothing = false
some (found s h) = true

module _ (f : Calc) (r : Rect64) (k : Proper r) (p q : Point64) (t u : Side) (a : Along r t u p q) where
  -- both points lie on the line of t
  level : (x : Side) → (x ≡ t) ⊎ (x ≡ opposite t) → (depth r x p ≡ depth r x q) × (pos 0 ≤ℤ depth r x q)
  level x (inl e) = subst (λ (x : Side). (depth r x p ≡ depth r x q) × (pos 0 ≤ℤ depth r x q)) (sym e) (a.p_on ∙ sym a.q_on, on a.q_on)
    where
      on : {z : ℤ} → z ≡ pos 0 → pos 0 ≤ℤ z
      on {z} e = omega (zint, eq→ e)
  level x (inr e) = subst (λ (x : Side). (depth r x p ≡ depth r x q) × (pos 0 ≤ℤ depth r x q)) (sym e) (across (around r k t p q) a.p_on a.q_on)
    where
      across : Depths (depth r t p) (depth r t q) (depth r (opposite t) p) (depth r (opposite t) q) (depth r (second t) p) (depth r (second t) q) (depth r (last t) p) (depth r (last t) q)
          → depth r t p ≡ pos 0 → depth r t q ≡ pos 0 → (depth r (opposite t) p ≡ depth r (opposite t) q) × (pos 0 ≤ℤ depth r (opposite t) q)
      across d x y = (
        omega (zint, d.p_across, d.q_across, eq→ x, eq→ y, add_pn (depth r t p) (depth r (opposite t) p), add_pn (depth r t q) (depth r (opposite t) q)),
        omega (zint, d.q_across, d.W_pos, eq→ y, add_pn (depth r t q) (depth r (opposite t) q)),
      )

  not_met : (x : Side) → (x ≡ t) ⊎ (x ≡ opposite t) → Meets r x q p → ⊥
  not_met x w (inl c) = clash (level x w).0 c.rise
    where
      clash : {y z : ℤ} → y ≡ z → z <ℤ y → ⊥
      clash {y} {z} e h = omega (zint, eq→ e)
  not_met x w (inr c) = clash (level x w).0 c.rise
    where
      clash : {y z : ℤ} → y ≡ z → y <ℤ z → ⊥
      clash {y} {z} e h = omega (zint, eq→ e)

  not_beyond : (x : Side) → (x ≡ t) ⊎ (x ≡ opposite t) → depth r x q <ℤ pos 0 → ⊥
  not_beyond x w h = clash (level x w).1 h
    where
      clash : {z : ℤ} → pos 0 ≤ℤ z → z <ℤ pos 0 → ⊥
      clash {z} g h = omega zint

  -- q is strictly within `second t`
  q_within : pos 0 <ℤ depth r (second t) q
  q_within = along (around r k t p q) a.q_out
    where
      along : Depths (depth r t p) (depth r t q) (depth r (opposite t) p) (depth r (opposite t) q) (depth r (second t) p) (depth r (second t) q) (depth r (last t) p) (depth r (last t) q)
          → depth r (last t) q ≤ℤ pos 0 → pos 0 <ℤ depth r (second t) q
      along d y = omega (zint, d.q_along, d.H_pos, add_pn (depth r (second t) q) (depth r (last t) q))

  second_second : (t : Side) → (second (second t) ≡ t) ⊎ (second (second t) ≡ opposite t)
  second_second on_left = inl refl
  second_second on_top = inl refl
  second_second on_right = inr refl
  second_second on_bottom = inr refl

  last_second : (t : Side) → (last (second t) ≡ t) ⊎ (last (second t) ≡ opposite t)
  last_second on_left = inr refl
  last_second on_top = inr refl
  last_second on_right = inl refl
  last_second on_bottom = inl refl

  second_opposite : (t : Side) → second (opposite t) ≡ second t
  second_opposite on_left = refl
  second_opposite on_top = refl
  second_opposite on_right = refl
  second_opposite on_bottom = refl

  last_opposite : (t : Side) → last (opposite t) ≡ last t
  last_opposite on_left = refl
  last_opposite on_top = refl
  last_opposite on_right = refl
  last_opposite on_bottom = refl

  apart : {y z : ℤ} → pos 0 <ℤ y → pos 0 <ℤ z → y ≤ℤ pos 0 → ⊥
  apart {y} {z} g h l = omega zint

  from_second : (g : Side) → pos 0 <ℤ depth r (second t) p → search r q p (loc (second t)) ≡ found g (edge r g q p) → ⊥
  from_second g i e = go (seek r k q p (second t))
    where
      go : Seek r q p (second t) → ⊥
      go (own e (inl c)) = apart q_within i c.low
      go (own e (inr c)) = apart i q_within c.low
      go (next e n h m) = not_beyond (second (second t)) (second_second t) h
      go (rest e n h m) = not_met (last (second t)) (last_second t) m
      go (none n) = never (ap some e) (ap some n.at)

  from_opposite : (g : Side) → search r q p (loc (opposite t)) ≡ found g (edge r g q p) → last t ≡ g
  from_opposite g e = go (seek r k q p (opposite t))
    where
      clash : {z : ℤ} → pos 0 <ℤ z → z <ℤ pos 0 → ⊥
      clash {z} g h = omega zint

      go : Seek r q p (opposite t) → last t ≡ g
      go (own e m) = absurd (not_met (opposite t) (inr refl) m)
      go (next e n h m) = absurd (clash q_within (subst (λ (x : Side). depth r x q <ℤ pos 0) (second_opposite t) h))
      go (rest e' n h m) = sym (last_opposite t) ∙ ap side_of (sym e' ∙ e)
      go (none n) = absurd (never (ap some e) (ap some n.at))

  pub along_any : (s : Side) → pos 0 <ℤ depth r s p → Meets r u p q → (g : Side) → search r q p (loc s) ≡ found g (edge r g q p) → SameAt f r p q u g
  along_any s i m g e = go (place t s)
    where
      clash : {z : ℤ} → z ≡ pos 0 → pos 0 <ℤ z → ⊥
      clash {z} e h = omega (zint, eq→ e)

      go : (s ≡ t) ⊎ ((s ≡ second t) ⊎ ((s ≡ last t) ⊎ (s ≡ opposite t))) → SameAt f r p q u g
      go (inl n) = absurd (clash a.p_on (subst (λ (x : Side). pos 0 <ℤ depth r x p) n i))
      go (inr (inl n)) = absurd (from_second g (subst (λ (x : Side). pos 0 <ℤ depth r x p) n i) (subst (λ (x : Side). search r q p (loc x) ≡ found g (edge r g q p)) n e))
      go (inr (inr (inl n))) = along_same f r k p q s t u i (subst (λ (x : Side). Beyond r x q) (sym n) a.q_out) a m g e
      go (inr (inr (inr n))) =
          let lg : last t ≡ g = from_opposite g (subst (λ (x : Side). search r q p (loc x) ≡ found g (edge r g q p)) n e) in
          subst (λ (x : Side). SameAt f r p q u x) lg
          (subst (λ (x : Side). SameAt f r p q x (last t)) (sym a.is_last) (same_last f r k p q t (subst (λ (x : Side). Along r t x p q) a.is_last a)))

-- ---- what the searches of a pass find
abbrev loc_of : Option SidePoint → Location
loc_of None = Inside
loc_of (Some f) = f.side

abbrev pt_of : Option SidePoint → Point64
pt_of None = origin
pt_of (Some f) = f.point

module _ (r : Rect64) (lr : LimitedRect r) (k : Proper r) (p q : Point64) (lp : Limited p) (lq : Limited q) where
  forth : (l : Location) (s : Option SidePoint) (w : Finding) → get_intersection r p q l ≡ s → search r p q l ≡ w → s ≡ told r lr k p q lp lq w
  forth l s w e g = sym e ∙ search_told r lr k p q lp lq l ∙ ap (told r lr k p q lp lq) g

  back : (l : Location) (s : Option SidePoint) (w : Finding) → get_intersection r q p l ≡ s → search r q p l ≡ w → s ≡ told r lr k q p lq lp w
  back l s w e g = sym e ∙ search_told r lr k q p lq lp l ∙ ap (told r lr k q p lq lp) g

  -- from inside: p is strictly beyond t
  pub leave_in : (t : Side) → depth r t p <ℤ pos 0 → (ip : Point64) (c : Location) → get_intersection r p q (loc t) ≡ found_at ip c → In r c p
  leave_in t n ip c e = go (finds_or_none r k p q t)
    where
      b : Beyond r t p
      b = omega zint

      only : {u : Side} → Beyond r u p ⊎ Along r t u p q → Beyond r u p
      only (inl b) = b
      only (inr a) = absurd (clash a.p_on n)
        where
          clash : {z : ℤ} → z ≡ pos 0 → z <ℤ pos 0 → ⊥
          clash {z} e h = omega (zint, eq→ e)

      go : Finds r p q (loc t) ⊎ FindsNone r p q t → In r c p
      go (inl g) = subst (λ (l : Location). In r l p) (sym (ap loc_of (forth (loc t) (found_at ip c) _ e g.at))) (in_side r g.side p (only (stayed r k p q t b g)))
      go (inr n) = absurd (never refl (ap is_some (forth (loc t) (found_at ip c) _ e n.at)))

  -- from side s right through to side t
  pub through_in : (s t : Side) → pos 0 <ℤ depth r s p → Beyond r t p → (ip ip2 : Point64) (c d : Location) → get_intersection r p q (loc t) ≡ found_at ip c → get_intersection r q p (loc s) ≡ found_at ip2 d
      → same_point ip ip2 ≡ false → In r c p
  through_in s t i b ip ip2 c d e e2 ne = go (finds_or_none r k p q t) (finds_or_none r k q p s)
    where
      go : Finds r p q (loc t) ⊎ FindsNone r p q t → Finds r q p (loc s) ⊎ FindsNone r q p s → In r c p
      go (inr n) h = absurd (never refl (ap is_some (forth (loc t) (found_at ip c) _ e n.at)))
      go (inl g) (inr n) = absurd (never refl (ap is_some (back (loc s) (found_at ip2 d) _ e2 n.at)))
      go (inl g) (inl h) = subst (λ (l : Location). In r l p) (sym (ap loc_of ge)) (in_side r g.side p (only (stayed r k p q t b g)))
        where
          ge : found_at ip c ≡ told r lr k p q lp lq (found g.side (edge r g.side p q))
          ge = forth (loc t) (found_at ip c) _ e g.at

          he : found_at ip2 d ≡ told r lr k q p lq lp (found h.side (edge r h.side q p))
          he = back (loc s) (found_at ip2 d) _ e2 h.at

          only : Beyond r g.side p ⊎ Along r t g.side p q → Beyond r g.side p
          only (inl b) = b
          only (inr a) =
              absurd (never ((λ j. same_pt (ap pt_of ge j) (ap pt_of he j)) ∙ same_is floats r p q g.side h.side (along_any floats r k p q t g.side a s i g.meets h.side h.at)) ne)
