-- Every returned point of both clippers has a source, and is at most one unit outside.
use mathlib.Core.Path.{◌≡◌, refl, sym, ap, ◌∙◌, subst}
use mathlib.Core.Bool.{Bool, true, false, cond, ◌&&◌}
use mathlib.Core.Logic.{◌⊎◌, inl, inr}
use mathlib.Core.List.Memᴰ
use mathlib.Core.List.{List, [], ◌∷◌, Memᴰ}
use Prim.Native.Nat.{ℕ, zero, suc, ◌+◌, ◌-◌, ◌<◌}
use native.Mathlib.Omega.{arith}
use lib.ListN.{length}
use lib.Dec.{T, lit<, leb→le}
use lib.Ieee.Fits.{and_l, and_r}
use lib.IntN.{ℤ, pos, nat_abs, ◌+ℤ◌, ◌-ℤ◌, ◌*ℤ◌}
use lib.Signed.{le_z, ◌≤ℤ◌, ◌<ℤ◌}
use Rattle.integers.specs.Order.{zint, sub_pn, add_pn, size_up, size_down}
use Rattle.integers.specs.Tests.{leZ_false}
use Rattle.integers.specs.Ring.{var, ◌⊕◌, ◌⊖◌, ◌⊗◌, ring}
use Rattle.rounding.specs.Coordinate.{exact, Near}
use Rattle.rounding.proofs.Edge.{low_side, high_side}
use Rattle.std.specs.Prelude.{None}
use Rattle.plane.specs.declared.point.Point64.{Point64}
use Rattle.plane.specs.Limit.{LimitedRect, Limited, AllLimited, in_limit, all_in_limit, rect_in_limit}
use Rattle.plane.proofs.Limits.{rect_limited}
use Rattle.plane.specs.declared.rect.Rect64.{Rect64}
use Rattle.plane.specs.declared.location.Location.{Location}
use Rattle.plane.specs.declared.location.Location.TheVariants.{Left, Top, Right, Bottom, Inside}
use Rattle.plane.specs.Basics.{ok}
use Rattle.plane.specs.Points.{pt_at, point, origin, points_of}
use Rattle.plane.specs.Rectangle.{as_path, is_empty, beyond}
use Rattle.plane.specs.Locations.{same_location, lower, upper}
use Rattle.plane.specs.Intersection.{found_at, edge_intersection, side_intersection, get_intersection}
use Rattle.reference.specs.Clip.{execute}
use Rattle.reference.specs.Lines.{execute_lines}
use Rattle.theorems.specs.Demand.{ExactCrossing, NearTo, Segment, onward, closing, turned, Source, input_point, corner_point, crossing, AtMostOneOutside, Sourced, Between}
use Rattle.theorems.proofs.Holds.{Holds, held, either, All, all_at, holds_map, or_cases, guarded}
use Rattle.theorems.proofs.Returned.{AllPaths, KeptPaths}
use Rattle.theorems.proofs.Sources.{Hit, at_corner, at_crossing, Searches, closed_sources, open_sources}
use Rattle.theorems.proofs.CrossingSigns.{NearBy, scaled}
use Rattle.theorems.proofs.Crossings.{Got, got_from, got_to, got_near, upright_got, level_got}
use Rattle.theorems.proofs.Tests.{neither}

-- ---- the search
module _ (r : Rect64) (lr : LimitedRect r) (wide : r.left <ℤ r.right) (high : r.top <ℤ r.bottom) (a b : Point64) (la : Limited a) (lb : Limited b) where
  corners_limited : (c d : Point64) → Limited c → Limited d → AllLimited a b c d
  corners_limited c d h k = record { start = la; end = lb; edge = h; far = k }

  left_top : Limited (point r.left r.top)
  left_top = record { across = lr.left; down = lr.top }

  right_top : Limited (point r.right r.top)
  right_top = record { across = lr.right; down = lr.top }

  right_bottom : Limited (point r.right r.bottom)
  right_bottom = record { across = lr.right; down = lr.bottom }

  left_bottom : Limited (point r.left r.bottom)
  left_bottom = record { across = lr.left; down = lr.bottom }

  edge_hit : (s : Location) → same_location s Inside ≡ false → (q : Point64) (t : Location) → edge_intersection r s a b ≡ found_at q t → Hit r a b q
  unfolding edge_intersection
  edge_hit Left i q t m = go (upright_got a b _ _ r.top r.bottom refl (inl (refl, refl)) high (corners_limited _ _ left_top left_bottom) Left q t m)
    where
      go : Got (point r.left r.top) (point r.left r.bottom) q (NearBy a.x a.y b.x b.y r.left r.top r.bottom q.x q.y) → Hit r a b q
      go (got_from u) = at_corner 0 (lit< tt) u
      go (got_to u) = at_corner 3 (lit< tt) u
      go (got_near n) = at_crossing Left (record { is_side = i; extends = n.crossed.extends; crosses = n.crossed.crosses; not_before = n.crossed.not_before; not_behind = n.crossed.not_behind }) (record { near_x = n.near_across; near_y = n.near_along })
  edge_hit Right i q t m = go (upright_got a b _ _ r.top r.bottom refl (inl (refl, refl)) high (corners_limited _ _ right_top right_bottom) Right q t m)
    where
      go : Got (point r.right r.top) (point r.right r.bottom) q (NearBy a.x a.y b.x b.y r.right r.top r.bottom q.x q.y) → Hit r a b q
      go (got_from u) = at_corner 1 (lit< tt) u
      go (got_to u) = at_corner 2 (lit< tt) u
      go (got_near n) = at_crossing Right (record { is_side = i; extends = n.crossed.extends; crosses = n.crossed.crosses; not_before = n.crossed.not_before; not_behind = n.crossed.not_behind }) (record { near_x = n.near_across; near_y = n.near_along })
  edge_hit Top i q t m = go (level_got a b _ _ r.left r.right refl (inl (refl, refl)) wide (corners_limited _ _ left_top right_top) Top q t m)
    where
      go : Got (point r.left r.top) (point r.right r.top) q (NearBy a.y a.x b.y b.x r.top r.left r.right q.y q.x) → Hit r a b q
      go (got_from u) = at_corner 0 (lit< tt) u
      go (got_to u) = at_corner 1 (lit< tt) u
      go (got_near n) = at_crossing Top (record { is_side = i; extends = n.crossed.extends; crosses = n.crossed.crosses; not_before = n.crossed.not_before; not_behind = n.crossed.not_behind }) (record { near_x = n.near_along; near_y = n.near_across })
  edge_hit Bottom i q t m = go (level_got a b _ _ r.left r.right refl (inr (refl, refl)) wide (corners_limited _ _ right_bottom left_bottom) Bottom q t m)
    where
      go : Got (point r.right r.bottom) (point r.left r.bottom) q (NearBy a.y a.x b.y b.x r.bottom r.left r.right q.y q.x) → Hit r a b q
      go (got_from u) = at_corner 2 (lit< tt) u
      go (got_to u) = at_corner 3 (lit< tt) u
      go (got_near n) = at_crossing Bottom (record { is_side = i; extends = n.crossed.extends; crosses = n.crossed.crosses; not_before = n.crossed.not_before; not_behind = n.crossed.not_behind }) (record { near_x = n.near_along; near_y = n.near_across })
  edge_hit Inside i q t m = let z : ◌≡◌ {A = ℕ} 0 1 = cc in absurd (omega arith)

  side_hit : (s : Location) → same_location s Inside ≡ false → same_location (lower s) Inside ≡ false → same_location (upper s) Inside ≡ false → (q : Point64) (t : Location) → side_intersection r s a b ≡ found_at q t → Hit r a b q
  unfolding side_intersection
  side_hit s i j k q t =
      or_cases (edge_intersection r s a b) _ q t (edge_hit s i q t)
      (or_cases (cond (beyond r (lower s) a) (edge_intersection r (lower s) a b) None) _ q t
      (guarded (beyond r (lower s) a) (edge_intersection r (lower s) a b) q t (edge_hit (lower s) j q t)) (edge_hit (upper s) k q t))

  pub search_hits : Searches r a b
  unfolding get_intersection
  search_hits Left q t = side_hit Left refl refl refl q t
  search_hits Top q t = side_hit Top refl refl refl q t
  search_hits Right q t = side_hit Right refl refl refl q t
  search_hits Bottom q t = side_hit Bottom refl refl refl q t
  search_hits Inside q t =
      or_cases (edge_intersection r Left a b) _ q t (edge_hit Left refl q t)
      (or_cases (edge_intersection r Top a b) _ q t (edge_hit Top refl q t)
      (or_cases (edge_intersection r Right a b) _ q t (edge_hit Right refl q t) (edge_hit Bottom refl q t)))

-- ---- limits
pub points_limited : (c : List ℤ) → T (all_in_limit c) → All Limited (points_of c)
points_limited [] h = tt
points_limited (x ∷ []) h = tt
points_limited (x ∷ y ∷ c) h =
    let u = and_r (in_limit x) (in_limit y && all_in_limit c) h in
    (record { across = leb→le _ _ (and_l (in_limit x) (in_limit y && all_in_limit c) h); down = leb→le _ _ (and_l (in_limit y) (all_in_limit c) u) }, points_limited c (and_r (in_limit y) (all_in_limit c) u))

segment_limited : {closed : Bool} {path : List Point64} {a b : Point64} → All Limited path → Segment closed path a b → Limited a × Limited b
segment_limited {path} h (onward i l) = (all_at Limited path i origin h (omega arith), all_at Limited path (i + 1) origin h l)
segment_limited {path} h (closing c l) = (all_at Limited path (length path - 1) origin h (omega arith), all_at Limited path 0 origin h l)
segment_limited h (turned s) = let k = segment_limited h s in (k.1, k.0)

pub not_empty_order : (r : Rect64) → is_empty r ≡ false → (r.left <ℤ r.right) × (r.top <ℤ r.bottom)
not_empty_order r e = let n = neither (le_z r.right r.left) (le_z r.bottom r.top) e in (leZ_false n.0, leZ_false n.1)

-- ---- at most one unit outside
-- across the edge the exact crossing is on the edge's line
exact_across : (a m b : ℤ) → Between a m b → exact a b (nat_abs (a -ℤ m)) (nat_abs (a -ℤ b)) ≡ m *ℤ pos (nat_abs (a -ℤ b))
exact_across a m b (inl h) =
    let p : a ≤ℤ m = h.0 in
    let q : m ≤ℤ b = h.1 in
    (λ i. a *ℤ size_down a b (omega zint) i +ℤ (b -ℤ a) *ℤ size_down a m p i)
    ∙ ring (a ∷ m ∷ b ∷ []) (var 0 ⊗ (var 2 ⊖ var 0) ⊕ (var 2 ⊖ var 0) ⊗ (var 1 ⊖ var 0)) (var 1 ⊗ (var 2 ⊖ var 0)) tt
    ∙ ap (λ (z : ℤ). m *ℤ z) (sym (size_down a b (omega zint)))
exact_across a m b (inr h) =
    let p : b ≤ℤ m = h.0 in
    let q : m ≤ℤ a = h.1 in
    (λ i. a *ℤ size_up a b (omega zint) i +ℤ (b -ℤ a) *ℤ size_up a m q i)
    ∙ ring (a ∷ m ∷ b ∷ []) (var 0 ⊗ (var 0 ⊖ var 2) ⊕ (var 2 ⊖ var 0) ⊗ (var 0 ⊖ var 1)) (var 1 ⊗ (var 0 ⊖ var 2)) tt
    ∙ ap (λ (z : ℤ). m *ℤ z) (sym (size_up a b (omega zint)))

module _ (r : Rect64) (wide : r.left <ℤ r.right) (high : r.top <ℤ r.bottom) where
  inner_outside : (p : Point64) → r.left ≤ℤ p.x → p.x ≤ℤ r.right → r.top ≤ℤ p.y → p.y ≤ℤ r.bottom → AtMostOneOutside r p
  inner_outside p h k l m = record {
    left = omega (zint, sub_pn r.left (pos 1));
    right = omega (zint, add_pn r.right (pos 1));
    top = omega (zint, sub_pn r.top (pos 1));
    bottom = omega (zint, add_pn r.bottom (pos 1));
  }

  -- near a point between the sides
  near_outside : (p : Point64) (u v : ℤ) (d : ℕ) → Near p.x u d → Near p.y v d
      → (r.left *ℤ pos d) ≤ℤ u → u ≤ℤ (r.right *ℤ pos d) → (r.top *ℤ pos d) ≤ℤ v → v ≤ℤ (r.bottom *ℤ pos d) → AtMostOneOutside r p
  near_outside p u v d h k a b c e = record {
    left = low_side r.left p.x u d a h;
    right = high_side r.right p.x u d b h;
    top = low_side r.top p.y v d c k;
    bottom = high_side r.bottom p.y v d e k;
  }

  le_self : (z : ℤ) → z ≤ℤ z
  le_self z = omega zint

  upright_outside : (m : ℤ) (a b p : Point64) → r.left ≤ℤ m → m ≤ℤ r.right → Between a.x m b.x
      → Near p.x (exact a.x b.x (nat_abs (a.x -ℤ m)) (nat_abs (a.x -ℤ b.x))) (nat_abs (a.x -ℤ b.x)) → Near p.y (exact a.y b.y (nat_abs (a.x -ℤ m)) (nat_abs (a.x -ℤ b.x))) (nat_abs (a.x -ℤ b.x))
      → (r.top *ℤ pos (nat_abs (a.x -ℤ b.x))) ≤ℤ exact a.y b.y (nat_abs (a.x -ℤ m)) (nat_abs (a.x -ℤ b.x)) → exact a.y b.y (nat_abs (a.x -ℤ m)) (nat_abs (a.x -ℤ b.x)) ≤ℤ (r.bottom *ℤ pos (nat_abs (a.x -ℤ b.x)))
      → AtMostOneOutside r p
  upright_outside m a b p h k g n o s t =
      let d = nat_abs (a.x -ℤ b.x) in
      let E = exact_across a.x m b.x g in
      near_outside p _ _ d n o (subst (λ (z : ℤ). (r.left *ℤ pos d) ≤ℤ z) (sym E) (scaled r.left m d h)) (subst (λ (z : ℤ). z ≤ℤ (r.right *ℤ pos d)) (sym E) (scaled m r.right d k)) s t

  level_outside : (m : ℤ) (a b p : Point64) → r.top ≤ℤ m → m ≤ℤ r.bottom → Between a.y m b.y
      → Near p.x (exact a.x b.x (nat_abs (a.y -ℤ m)) (nat_abs (a.y -ℤ b.y))) (nat_abs (a.y -ℤ b.y)) → Near p.y (exact a.y b.y (nat_abs (a.y -ℤ m)) (nat_abs (a.y -ℤ b.y))) (nat_abs (a.y -ℤ b.y))
      → (r.left *ℤ pos (nat_abs (a.y -ℤ b.y))) ≤ℤ exact a.x b.x (nat_abs (a.y -ℤ m)) (nat_abs (a.y -ℤ b.y)) → exact a.x b.x (nat_abs (a.y -ℤ m)) (nat_abs (a.y -ℤ b.y)) ≤ℤ (r.right *ℤ pos (nat_abs (a.y -ℤ b.y)))
      → AtMostOneOutside r p
  level_outside m a b p h k g n o s t =
      let d = nat_abs (a.y -ℤ b.y) in
      let E = exact_across a.y m b.y g in
      near_outside p _ _ d n o s t (subst (λ (z : ℤ). (r.top *ℤ pos d) ≤ℤ z) (sym E) (scaled r.top m d h)) (subst (λ (z : ℤ). z ≤ℤ (r.bottom *ℤ pos d)) (sym E) (scaled m r.bottom d k))

  crossing_outside : (s : Location) (a b p : Point64) → ExactCrossing r s a b → NearTo r s a b p → AtMostOneOutside r p
  crossing_outside Left a b p x n = upright_outside r.left a b p (le_self r.left) (omega zint) x.crosses n.near_x n.near_y x.not_before x.not_behind
  crossing_outside Right a b p x n = upright_outside r.right a b p (omega zint) (le_self r.right) x.crosses n.near_x n.near_y x.not_before x.not_behind
  crossing_outside Top a b p x n = level_outside r.top a b p (le_self r.top) (omega zint) x.crosses n.near_x n.near_y x.not_before x.not_behind
  crossing_outside Bottom a b p x n = level_outside r.bottom a b p (omega zint) (le_self r.bottom) x.crosses n.near_x n.near_y x.not_before x.not_behind
  crossing_outside Inside a b p x n = let z : true ≡ false = x.is_side in let y : ◌≡◌ {A = ℕ} 0 1 = cc in absurd (omega arith)

  corner_outside : (k : ℕ) → k < 4 → AtMostOneOutside r (pt_at (as_path r) k)
  corner_outside zero l = inner_outside _ (le_self r.left) (omega zint) (le_self r.top) (omega zint)
  corner_outside (suc zero) l = inner_outside _ (omega zint) (le_self r.right) (le_self r.top) (omega zint)
  corner_outside (suc (suc zero)) l = inner_outside _ (omega zint) (le_self r.right) (omega zint) (le_self r.bottom)
  corner_outside (suc (suc (suc zero))) l = inner_outside _ (le_self r.left) (omega zint) (omega zint) (le_self r.bottom)
  corner_outside (suc (suc (suc (suc k)))) l = absurd (omega arith)

  pub outside : {closed : Bool} {path : List Point64} (p : Point64) → Source closed r path p → AtMostOneOutside r p
  outside {path} p (input_point i l h e) = subst (AtMostOneOutside r) (sym e) (inner_outside (pt_at path i) h.left h.right h.top h.bottom)
  outside p (corner_point k l e) = subst (AtMostOneOutside r) (sym e) (corner_outside k l)
  outside p (crossing a b g s x n) = crossing_outside s a b p x n

-- ---- both, of every returned point
module _ {P R : Point64 → Type 0} (f : (p : Point64) → P p → R p) where
  all_map : (ps : List Point64) → All P ps → All R ps
  all_map [] h = tt
  all_map (p ∷ ps) h = (f p h.0, all_map ps h.1)

  paths_map : (qs : List (List Point64)) → AllPaths P qs → AllPaths R qs
  paths_map [] h = tt
  paths_map (q ∷ qs) h = (all_map q h.0, paths_map qs h.1)

holds_at : {A : Type 0} {Q : A → Type 0} (a : A) → Holds Q (ok a) → Q a
holds_at a (held h) = h

module _ (P : Point64 → Type 0) where
  all_member : (ps : List Point64) → All P ps → (p : Point64) → Memᴰ p ps → P p
  all_member [] h p m = absurd (Memᴰ.not-nil m)
  all_member (x ∷ ps) h p m = go (Memᴰ.cases_cons m) (all_member ps h.1 p)
    where
      go : (p ≡ x) ⊎ Memᴰ p ps → (Memᴰ p ps → P p) → P p
      go (inl e) k = subst P (sym e) h.0
      go (inr n) k = k n

  path_member : (qs : List (List Point64)) → AllPaths P qs → (q : List Point64) → Memᴰ q qs → All P q
  path_member [] h q m = absurd (Memᴰ.not-nil m)
  path_member (x ∷ qs) h q m = go (Memᴰ.cases_cons m) (path_member qs h.1 q)
    where
      go : (q ≡ x) ⊎ Memᴰ q qs → (Memᴰ q qs → All P q) → All P q
      go (inl e) k = subst (All P) (sym e) h.0
      go (inr n) k = k n

abbrev Both : Bool → Rect64 → List Point64 → Point64 → Type 0
Both closed r path p = Source closed r path p × AtMostOneOutside r p

sourced : (closed : Bool) (r : Rect64) (path : List Point64) (paths : List (List Point64)) → AllPaths (Both closed r path) paths → Sourced closed r path paths
sourced closed r path paths h = record {
  source = λ q m p n. (all_member (Both closed r path) q (path_member (Both closed r path) paths h q m) p n).0;
  close_by = λ q m p n. (all_member (Both closed r path) q (path_member (Both closed r path) paths h q m) p n).1;
}

module _ (r : Rect64) (coords : List ℤ) (hr : T (rect_in_limit r)) (hc : T (all_in_limit coords)) where
  searches : (closed : Bool) → is_empty r ≡ false → (a b : Point64) → Segment closed (points_of coords) a b → Searches r a b
  searches closed e a b g =
      let o = not_empty_order r e in
      let k = segment_limited (points_limited coords hc) g in
      search_hits r (rect_limited r hr) o.0 o.1 a b k.0 k.1

  both : (closed : Bool) → is_empty r ≡ false → (p : Point64) → Source closed r (points_of coords) p → Both closed r (points_of coords) p
  both closed e p h = let o = not_empty_order r e in (h, outside r o.0 o.1 p h)

  closed_both : (full : ℕ → Bool) (A : ℕ) → Holds (KeptPaths (Both true r (points_of coords))) (execute full A r (points_of coords))
  unfolding execute
  closed_both full A = go (is_empty r) refl
    where
      go : (b : Bool) → is_empty r ≡ b → Holds (KeptPaths (Both true r (points_of coords))) (execute full A r (points_of coords))
      go true e = either (KeptPaths (Both true r (points_of coords))) (is_empty r) _ _ (λ _. held tt) (λ f. let z : ◌≡◌ {A = ℕ} 0 1 = cc in absurd (omega arith))
      go false e = holds_map (λ d. paths_map (both true e) d.0) (closed_sources full A r (points_of coords) (searches true e))

  open_both : (full : ℕ → Bool) → Holds (AllPaths (Both false r (points_of coords))) (execute_lines full r (points_of coords))
  unfolding execute_lines
  open_both full = go (is_empty r) refl
    where
      go : (b : Bool) → is_empty r ≡ b → Holds (AllPaths (Both false r (points_of coords))) (execute_lines full r (points_of coords))
      go true e = either (AllPaths (Both false r (points_of coords))) (is_empty r) _ _ (λ _. held tt) (λ f. let z : ◌≡◌ {A = ℕ} 0 1 = cc in absurd (omega arith))
      go false e = holds_map (paths_map (both false e)) (open_sources full r (points_of coords) (searches false e))

  -- sources and distance, of either kind
  pub closed_sourced : (full : ℕ → Bool) (A : ℕ) (paths : List (List Point64)) (turns : ℕ) → execute full A r (points_of coords) ≡ ok (paths, turns) → Sourced true r (points_of coords) paths
  closed_sourced full A paths turns e =
      sourced true r (points_of coords) paths (holds_at (paths, turns) (subst (Holds (KeptPaths (Both true r (points_of coords)))) e (closed_both full A)))

  pub open_sourced : (full : ℕ → Bool) (paths : List (List Point64)) → execute_lines full r (points_of coords) ≡ ok paths → Sourced false r (points_of coords) paths
  open_sourced full paths e = sourced false r (points_of coords) paths (holds_at paths (subst (Holds (AllPaths (Both false r (points_of coords)))) e (open_both full)))
