-- What a search for a crossing finds. A found point is a corner of the rectangle or is near an exact crossing of the segment with an edge,
-- and it lies at most one unit outside. A search finds something exactly where one of the sides that it tries has an exact crossing with the segment.
-- Rectangle and segment are within the coordinate limit, and the rectangle is not empty. Assumes nothing.
use Rattle.std.specs.Prelude.{if◌then◌else◌, Option, None, Some}
use Rattle.std.proofs.lemmas.Option.{none-some}
use mathlib.Core.Path.{◌≡◌, refl, sym, ap, ◌∙◌, subst}
use mathlib.Core.Bool.{Bool, true, false}
use mathlib.Core.List.{[], ◌∷◌}
use Prim.Native.Nat.{◌≤◌}
use native.Mathlib.Omega.{arith}
use lib.IntN.{ℤ, pos, nat_abs, ◌+ℤ◌, ◌-ℤ◌}
use lib.Signed.{◌≤ℤ◌}
use mathlib.Core.Logic.{◌⊎◌, inl, inr, ⊎_elim}
use Rattle.integers.specs.Order.{zint, add_pn, sub_pn, abs_pn, parts}
use Rattle.plane.specs.declared.crossing.SidePoint.{SidePoint}
use Rattle.plane.specs.declared.point.Point64.{Point64}
use Rattle.plane.specs.declared.rect.Rect64.{Rect64}
use Rattle.plane.specs.declared.location.Location.{Location}
use Rattle.plane.specs.declared.location.Location.TheVariants.{Left, Top, Right, Bottom, Inside}
use Rattle.plane.specs.Limit.{Limited, LimitedRect}
use Rattle.plane.specs.Rectangle.{is_empty, beyond}
use Rattle.plane.specs.Locations.{is_inside, lower, upper}
use Rattle.plane.specs.Intersection.{found_at, edge_intersection, ◌or_else◌, side_intersection, get_intersection}
use Rattle.theorems.proofs.Holds.{same_find}
use Rattle.theorems.specs.Demand.{ExactCrossing, AtMostOneOutside, onward, corner_point, crossing}
use Rattle.theorems.specs.Search.{Tried, own, low, up, any, Finds, SearchFinds, SearchExact}
use Rattle.theorems.proofs.Demand.{search_hits, not_empty_order, outside}
use Rattle.theorems.proofs.Sources as sources
use Rattle.theorems.proofs.Sources.{at_corner, at_crossing}
use Rattle.theorems.proofs.GeoPlane.{Hit, none, known, proper, hit?, Side, on_left, on_top, on_right, on_bottom, loc, edge, Proper}
use Rattle.theorems.proofs.GeoTell.{yes_of, is_yes}
use Rattle.theorems.proofs.GeoSides.{met_decides}
use Rattle.theorems.proofs.GeoExact.{meets_exact, exact_meets}
use Rattle.theorems.proofs.Bridge.{hit, edge_is}
use Rattle.theorems.proofs.Tests.{never}

module _ (r : Rect64) (lr : LimitedRect r) (not_empty : is_empty r ≡ false) (a b : Point64) (la : Limited a) (lb : Limited b) where
  -- a corner, or less than 1 + 1/33,554,432 unit on each axis from an exact crossing of the segment with an edge
  pub found_source : (loc : Location) (q : Point64) (side : Location) → get_intersection r a b loc ≡ found_at q side → sources.Hit r a b q
  found_source = let o = not_empty_order r not_empty in search_hits r lr o.0 o.1 a b la lb

  -- at most one unit outside the rectangle
  pub found_outside : (loc : Location) (q : Point64) (side : Location) → get_intersection r a b loc ≡ found_at q side → AtMostOneOutside r q
  found_outside loc q side e = near (found_source loc q side e)
    where
      near : sources.Hit r a b q → AtMostOneOutside r q
      near (at_corner k l h) = let o = not_empty_order r not_empty in outside r o.0 o.1 {closed = false} {path = []} q (corner_point k l h)
      near (at_crossing s x n) = let o = not_empty_order r not_empty in outside r o.0 o.1 {closed = false} {path = a ∷ b ∷ []} q (crossing a b (onward 0 (omega arith)) s x n)

-- a number at most one past numbers within the limit
reach : (a z b : ℤ) → nat_abs a ≤ 33554432 → nat_abs b ≤ 33554432 → (a -ℤ pos 1) ≤ℤ z → z ≤ℤ (b +ℤ pos 1) → nat_abs z ≤ 33554433
reach a z b h k u v =
    ⊎_elim (λ e. omega (zint, abs_pn a, abs_pn z, abs_pn b, sub_pn a (pos 1), add_pn b (pos 1)))
    (λ e. omega (zint, abs_pn a, abs_pn z, abs_pn b, sub_pn a (pos 1), add_pn b (pos 1))) (parts z)

-- so its coordinates are at most one past the limit
pub outside_across : {r : Rect64} {q : Point64} → LimitedRect r → AtMostOneOutside r q → nat_abs q.x ≤ 33554433
outside_across {r} {q} lr o = reach r.left q.x r.right lr.left lr.right o.left o.right

pub outside_down : {r : Rect64} {q : Point64} → LimitedRect r → AtMostOneOutside r q → nat_abs q.y ≤ 33554433
outside_down {r} {q} lr o = reach r.top q.y r.bottom lr.top lr.bottom o.top o.bottom

-- ---- where it finds something
clash : {W : Type 0} {q : Point64} {s : Location} {x : Option SidePoint} → x ≡ None → x ≡ found_at q s → W
clash e f = absurd (none-some _ (sym e ∙ f))

same_side : {x : Option SidePoint} {z w : Point64} {s t : Location} → x ≡ found_at z s → x ≡ found_at w t → t ≡ s
same_side e f = (same_find (sym f ∙ e)).1

-- the first of two that found something
first_missed : (x y : Option SidePoint) → (x or_else y) ≡ None → (x ≡ None) × (y ≡ None)
first_missed None y e = (refl, e)
first_missed (Some found) y e = clash e refl

first_found : (x y : Option SidePoint) {z : Point64} {t : Location} → (x or_else y) ≡ found_at z t → (x ≡ found_at z t) ⊎ (y ≡ found_at z t)
first_found None y e = inr e
first_found (Some found) y e = inl e

guard_missed : (g : Bool) (x : Option SidePoint) → (if g then x else None) ≡ None → g ≡ true → x ≡ None
guard_missed true x e h = e
guard_missed false x e h = never h refl

guard_found : (g : Bool) (x : Option SidePoint) {z : Point64} {t : Location} → (if g then x else None) ≡ found_at z t → (g ≡ true) × (x ≡ found_at z t)
guard_found true x e = (refl, e)
guard_found false x e = clash refl e

module _ (r : Rect64) (lr : LimitedRect r) (not_empty : is_empty r ≡ false) (p q : Point64) (lp : Limited p) (lq : Limited q) where
  proper_rect : Proper r
  proper_rect = let o = not_empty_order r not_empty in record { wide = o.0; high = o.1 }

  side_missed : (s : Side) → edge_intersection r (loc s) p q ≡ None → ExactCrossing r (loc s) p q → ⊥
  side_missed s e x = go (edge r s p q) (is_yes (met_decides r proper_rect s p q) (exact_meets r p q s x)) (sym (edge_is r lr proper_rect p q lp lq s) ∙ e)
    where
      go : (h : Hit) → hit? h ≡ true → hit r lr proper_rect p q lp lq s h ≡ None → ⊥
      go none t e = never t refl
      go (known w) t e = clash e refl
      go proper t e = clash e refl

  side_exact : (s : Side) {z : Point64} {t : Location} → edge_intersection r (loc s) p q ≡ found_at z t → (t ≡ loc s) × ExactCrossing r (loc s) p q
  side_exact s {z} {t} e = go (edge r s p q) refl (sym (edge_is r lr proper_rect p q lp lq s) ∙ e)
    where
      met_it : (h : Hit) → edge r s p q ≡ h → hit? h ≡ true → ExactCrossing r (loc s) p q
      met_it h f g = meets_exact r p q s (yes_of (met_decides r proper_rect s p q) (ap hit? f ∙ g))

      go : (h : Hit) → edge r s p q ≡ h → hit r lr proper_rect p q lp lq s h ≡ found_at z t → (t ≡ loc s) × ExactCrossing r (loc s) p q
      go none f e = clash refl e
      go (known w) f e = (same_side refl e, met_it (known w) f refl)
      go proper f e = (same_side refl e, met_it proper f refl)

  edge_missed : (l : Location) → edge_intersection r l p q ≡ None → ExactCrossing r l p q → ⊥
  edge_missed Left e x = side_missed on_left e x
  edge_missed Top e x = side_missed on_top e x
  edge_missed Right e x = side_missed on_right e x
  edge_missed Bottom e x = side_missed on_bottom e x
  edge_missed Inside e x = never refl x.is_side

  edge_exact : (l : Location) → is_inside l ≡ false → {z : Point64} {t : Location} → edge_intersection r l p q ≡ found_at z t → (t ≡ l) × ExactCrossing r l p q
  edge_exact Left i e = side_exact on_left e
  edge_exact Top i e = side_exact on_top e
  edge_exact Right i e = side_exact on_right e
  edge_exact Bottom i e = side_exact on_bottom e
  edge_exact Inside i e = never refl i

  finds_on : {loc : Location} {z : Point64} {t : Location} (l : Location) → is_inside l ≡ false → Tried r p loc l → edge_intersection r l p q ≡ found_at z t → Finds r p q loc t
  finds_on {loc} {z} {t} l i w e = let x = edge_exact l i e in subst (Finds r p q loc) (sym x.0) (record { tried = w; crossing = x.1 })

  -- from a side
  module _ (s : Location) (i : is_inside s ≡ false) (j : is_inside (lower s) ≡ false) (k : is_inside (upper s) ≡ false) where
    side_finds : (side : Location) → Tried r p s side → ExactCrossing r side p q → side_intersection r s p q ≡ None → ⊥
    unfolding side_intersection
    side_finds side w x e =
        let a = first_missed (edge_intersection r s p q) _ e in
        let b = first_missed (if beyond r (lower s) p then edge_intersection r (lower s) p q else None) (edge_intersection r (upper s) p q) a.1 in
        go side w x a.0 b.0 b.1
      where
        go : (side : Location) → Tried r p s side → ExactCrossing r side p q → edge_intersection r s p q ≡ None → (if beyond r (lower s) p then edge_intersection r (lower s) p q else None) ≡ None → edge_intersection r (upper s) p q ≡ None → ⊥
        go side (own h f) x a b d = edge_missed s a (subst (λ (l : Location). ExactCrossing r l p q) f x)
        go side (low h g f) x a b d = edge_missed (lower s) (guard_missed (beyond r (lower s) p) (edge_intersection r (lower s) p q) b g) (subst (λ (l : Location). ExactCrossing r l p q) f x)
        go side (up h f) x a b d = edge_missed (upper s) d (subst (λ (l : Location). ExactCrossing r l p q) f x)
        go side (any h f) x a b d = never refl (sym h ∙ i)

    side_told : {z : Point64} {t : Location} → side_intersection r s p q ≡ found_at z t → Finds r p q s t
    unfolding side_intersection
    side_told {z} {t} e =
        ⊎_elim (finds_on s i (own i refl))
        (λ f. ⊎_elim (λ g. let u = guard_found (beyond r (lower s) p) (edge_intersection r (lower s) p q) g in finds_on (lower s) j (low i u.0 refl) u.1) (finds_on (upper s) k (up i refl))
        (first_found (if beyond r (lower s) p then edge_intersection r (lower s) p q else None) (edge_intersection r (upper s) p q) f))
        (first_found (edge_intersection r s p q) _ e)

  not_missed : (loc side : Location) → Tried r p loc side → ExactCrossing r side p q → get_intersection r p q loc ≡ None → ⊥
  unfolding get_intersection
  not_missed Left side w x e = side_finds Left refl refl refl side w x e
  not_missed Top side w x e = side_finds Top refl refl refl side w x e
  not_missed Right side w x e = side_finds Right refl refl refl side w x e
  not_missed Bottom side w x e = side_finds Bottom refl refl refl side w x e
  not_missed Inside side w x e =
      let a = first_missed (edge_intersection r Left p q) _ e in
      let b = first_missed (edge_intersection r Top p q) _ a.1 in
      let d = first_missed (edge_intersection r Right p q) (edge_intersection r Bottom p q) b.1 in
      go side x a.0 b.0 d.0 d.1
    where
      go : (side : Location) → ExactCrossing r side p q → edge_intersection r Left p q ≡ None → edge_intersection r Top p q ≡ None → edge_intersection r Right p q ≡ None → edge_intersection r Bottom p q ≡ None → ⊥
      go Left x a b c d = edge_missed Left a x
      go Top x a b c d = edge_missed Top b x
      go Right x a b c d = edge_missed Right c x
      go Bottom x a b c d = edge_missed Bottom d x
      go Inside x a b c d = never refl x.is_side

  told : (loc : Location) {z : Point64} {side : Location} → get_intersection r p q loc ≡ found_at z side → Finds r p q loc side
  unfolding get_intersection
  told Left e = side_told Left refl refl refl e
  told Top e = side_told Top refl refl refl e
  told Right e = side_told Right refl refl refl e
  told Bottom e = side_told Bottom refl refl refl e
  told Inside e =
      ⊎_elim (finds_on Left refl (any refl refl))
      (λ f. ⊎_elim (finds_on Top refl (any refl refl))
      (λ g. ⊎_elim (finds_on Right refl (any refl refl)) (finds_on Bottom refl (any refl refl)) (first_found (edge_intersection r Right p q) (edge_intersection r Bottom p q) g))
      (first_found (edge_intersection r Top p q) _ f))
      (first_found (edge_intersection r Left p q) _ e)

-- a side that is tried and has an exact crossing is not missed
pub search_finds : SearchFinds
search_finds r p q loc side lr lp lq ne f e = not_missed r lr ne p q lp lq loc side f.tried f.crossing e

-- and what is found is on a side that was tried, which has an exact crossing with the segment
pub search_exact : SearchExact
search_exact r p q z loc side lr lp lq ne e = told r lr ne p q lp lq loc e
