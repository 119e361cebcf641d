-- Once the walk has found a crossing, its first crossing is a side.
use Rattle.std.specs.Prelude.{if◌then◌else◌, Option, None, Some}
use Rattle.std.proofs.lemmas.Option.{none-some}
use mathlib.Core.Path.{◌≡◌, refl, subst}
use mathlib.Core.Bool.{Bool, true, false, cond, not, ◌&&◌}
use mathlib.Core.List.{List, []}
use mathlib.Core.Logic.{◌⊎◌, inl, inr}
use Prim.Native.Nat.{ℕ, zero, suc, ◌<◌}
use native.Mathlib.Omega.{arith}
use lib.ListN.{length}
use lib.Signed.{le_z, lt_z, ◌<ℤ◌}
use Rattle.integers.specs.Order.{zint}
use Rattle.integers.specs.Tests.{eq_z, eqZ_true, ltZ_true, le_leZ}
use Rattle.plane.specs.declared.point.Point64.{Point64}
use Rattle.plane.specs.declared.rect.Rect64.{Rect64}
use Rattle.plane.specs.declared.location.Location.{Location}
use Rattle.plane.specs.declared.location.Location.TheVariants.{Left, Top, Right, Bottom, Inside}
use Rattle.plane.specs.Basics.{ok}
use Rattle.plane.specs.declared.location.Spot.{Spot}
use Rattle.plane.specs.Points.{pt_at, same_point}
use Rattle.plane.specs.Locations.{same_location, lower, upper, get_adjacent_location, is_inside}
use Rattle.plane.specs.Rectangle.{get_location, mid_point, as_path, beyond, beyond_or_on}
use Rattle.plane.specs.Intersection.{found_at, edge_from, edge_to, get_segment_intersection, met, edge_intersection, side_intersection, get_intersection}
use Rattle.plane.specs.Signs.{is_clockwise_dir}
use Rattle.reference.specs.Walk.{Walk, add, push_start_loc, add_corner_prev_curr, add_corners, push_start_locs, next_side, State, Pass, remain_outside, enter, pass_to, pass_through, leave, cross_boundary, pt_before}
use Rattle.theorems.proofs.Holds.{Holds, refused, held, bind, either, anything, or_cases, guarded, by_second_search, same_find}
use Rattle.theorems.proofs.Tests.{not-false}

-- The one fact of geometry that the area equation asks for (proved in Entering): where the walk comes from a point on or beyond side s to a point strictly inside, the search for a crossing finds one.
-- walkgeo proves this of its own search (`Search.enter`: strictly inside, and on or beyond a side); left is that this search misses only where that one does. For a crossing
-- to be computed in floats that wants the coordinate limit: the float determinant is not zero.
abbrev pub EntryFound : Rect64 → List Point64 → Type 0
EntryFound rect path =
    (s : Location) (k : ℕ) → k < length path → is_inside s ≡ false → beyond_or_on rect s (pt_before path k) ≡ true → beyond_or_on rect s (pt_at path k) ≡ false → next_side rect s (pt_at path k) ≡ Inside
    → get_intersection rect (pt_at path k) (pt_before path k) Inside ≡ None → ⊥

pub clash : {W : Type 0} (b : Bool) → b ≡ true → b ≡ false → W
clash b p q = let z : ◌≡◌ {A = ℕ} 0 1 = cc in absurd (omega arith)

-- ---- a search finds a side
met_side : (s : Location) (c : Option Point64) (q : Point64) (t : Location) → is_inside s ≡ false → met s c ≡ found_at q t → is_inside t ≡ false
met_side s None q t h e = absurd (none-some _ e)
met_side s (Some p) q t h e = subst (λ (l : Location). is_inside l ≡ false) (same_find e).1 h

module _ (r : Rect64) (a b : Point64) (q : Point64) (t : Location) where
  edge_side : (s : Location) → is_inside s ≡ false → edge_intersection r s a b ≡ found_at q t → is_inside t ≡ false
  unfolding edge_intersection
  edge_side s h e = met_side s (get_segment_intersection a b (pt_at (as_path r) (edge_from s)) (pt_at (as_path r) (edge_to s))) q t h e

  side_side : (s : Location) → is_inside s ≡ false → is_inside (lower s) ≡ false → is_inside (upper s) ≡ false → side_intersection r s a b ≡ found_at q t → is_inside t ≡ false
  unfolding side_intersection
  side_side s i j k =
      or_cases (edge_intersection r s a b) _ q t (edge_side s i)
      (or_cases (cond (beyond r (lower s) a) (edge_intersection r (lower s) a b) None) _ q t
      (guarded (beyond r (lower s) a) (edge_intersection r (lower s) a b) q t (edge_side (lower s) j)) (edge_side (upper s) k))

  pub found_side : (s : Location) → get_intersection r a b s ≡ found_at q t → is_inside t ≡ false
  unfolding get_intersection
  found_side Left = side_side Left refl refl refl
  found_side Top = side_side Top refl refl refl
  found_side Right = side_side Right refl refl refl
  found_side Bottom = side_side Bottom refl refl refl
  found_side Inside =
      or_cases (edge_intersection r Left a b) _ q t (edge_side Left refl)
      (or_cases (edge_intersection r Top a b) _ q t (edge_side Top refl)
      (or_cases (edge_intersection r Right a b) _ q t (edge_side Right refl) (edge_side Bottom refl)))

-- ---- once a crossing is found, the first crossing is a side
abbrev pub NotIn : State → Type 0
NotIn s = is_inside s.first_cross ≡ false

chosen : (b : Bool) (x l : Location) → is_inside x ≡ b → is_inside l ≡ false → is_inside (cond b l x) ≡ false
chosen true x l e h = h
chosen false x l e h = e

module _ (full : ℕ → Bool) (rect : Rect64) where
  enter_out : (c : Pass) (ip : Point64) (l : Location) → is_inside l ≡ false → Holds NotIn (enter full rect c ip l)
  unfolding enter
  enter_out c ip l h =
      bind (λ w. Unit {0}) NotIn
      (if is_inside c.first_cross then push_start_loc full c.walk c.prev
      else if not (same_location c.prev l) then add_corners full rect 4 c.walk c.prev l (is_clockwise_dir c.prev l c.prev_pt c.pt (mid_point rect))
      else ok c.walk) _ (anything _) (λ w z. bind (λ v. Unit {0}) NotIn (add full w ip false) _ (anything _) (λ v y. held (chosen (is_inside c.first_cross) c.first_cross l refl h)))

  pass_out : (c : Pass) (ip : Point64) (l : Location) (ip2 : Point64) (l2 : Location) → is_inside l2 ≡ false → Holds NotIn (pass_to full rect c ip l ip2 l2)
  unfolding pass_to
  pass_out c ip l ip2 l2 h =
      let f = chosen (is_inside c.first_cross) c.first_cross l2 refl h in
      bind (λ w. Unit {0}) NotIn
      (if not (is_inside c.crossing_prev) && not (same_location c.crossing_prev l2)
      then add_corner_prev_curr full rect c.walk c.crossing_prev l2 else ok c.walk) _ (anything _) (λ w z. bind (λ v. Unit {0}) NotIn (if is_inside c.first_cross then push_start_loc full w c.prev else ok w) _ (anything _) (λ v y. bind (λ u. Unit {0}) NotIn (add full v ip2 false) _ (anything _)
      (λ u x. either NotIn (same_point ip ip2) _ _ (λ e. bind (λ t. Unit {0}) NotIn (add_corner_prev_curr full rect u l (get_location rect c.pt).loc) _ (anything _) (λ t g. held f)) (λ e. bind (λ t. Unit {0}) NotIn (add full u ip false) _ (anything _) (λ t g. held f)))))

  leave_out : (c : Pass) (ip : Point64) (l : Location) → is_inside l ≡ false → Holds NotIn (leave full rect c ip l)
  unfolding leave
  leave_out c ip l h = bind (λ w. Unit {0}) NotIn (add full c.walk ip false) _ (anything _) (λ w z. held (chosen (is_inside c.first_cross) c.first_cross l refl h))

  pub cross_out : (c : Pass) (ip : Point64) (l : Location) → is_inside l ≡ false → Holds NotIn (cross_boundary full rect c ip l)
  unfolding cross_boundary pass_through
  cross_out c ip l h =
      either NotIn (is_inside c.loc) _ _ (λ e. enter_out c ip l h)
      (λ e. either NotIn (not (is_inside c.prev)) _ _
      (λ g. by_second_search (λ ip2 l2. Holds NotIn (pass_to full rect c ip l ip2 l2)) rect c.prev_pt c.pt c.prev ip (pass_out c ip l ip c.prev (not-false (is_inside c.prev) g))
      (λ ip2 l2 m. pass_out c ip l ip2 l2 (found_side rect c.prev_pt c.pt ip2 l2 c.prev m)))
      (λ g. leave_out c ip l h))

  pub remain_out : (c : Pass) → is_inside c.first_cross ≡ false → Holds NotIn (remain_outside full rect c)
  unfolding remain_outside
  remain_out c h =
      either NotIn (is_inside c.crossing_prev) _ _ (λ e. bind (λ w. Unit {0}) NotIn (push_start_locs full rect 4 c.walk c.prev c.loc (is_clockwise_dir c.prev c.loc c.prev_pt c.pt (mid_point rect))) _ (anything _) (λ w z. held h))
      (λ e. either NotIn (not (is_inside c.prev) && not (same_location c.prev c.loc)) _ _ (λ g. bind (λ w. Unit {0}) NotIn (add_corners full rect 4 c.walk c.prev c.loc (is_clockwise_dir c.prev c.loc c.prev_pt c.pt (mid_point rect))) _ (anything _) (λ w z. held h)) (λ g. held h))

  -- pushing start locations puts down no point
  pub start_points : (left : ℕ) (w : Walk) (p l : Location) (cw : Bool) → w.points ≡ [] → Holds (λ (v : Walk). v.points ≡ []) (push_start_locs full rect left w p l cw)
  unfolding push_start_locs push_start_loc
  start_points zero w p l cw h = held h
  start_points (suc left) w p l cw h =
      bind (λ (v : Walk). v.points ≡ []) (λ (v : Walk). v.points ≡ []) (push_start_loc full w p) _ (either (λ (v : Walk). v.points ≡ []) (full (length w.start_locs)) _ _ (λ e. refused) (λ e. held h))
      (λ v k. either (λ (u : Walk). u.points ≡ []) (same_location (get_adjacent_location p cw) l) _ _ (λ e. held k) (λ e. start_points left v (get_adjacent_location p cw) l cw k))

  -- ---- regions
  -- l is Inside, or p is on or beyond it
  abbrev Region : Point64 → Location → Type 0
  Region p l = (l ≡ Inside) ⊎ ((is_inside l ≡ false) × (beyond_or_on rect l p ≡ true))

  pick : (P : Location → Type 0) (t : Bool) (x y : Location) → (t ≡ true → P x) → P y → P (cond t x y)
  pick P true x y h k = h refl
  pick P false x y h k = k

  pub next_region : (s : Location) (p : Point64) → is_inside s ≡ false → Region p (next_side rect s p)
  unfolding next_side
  next_region Left p h = pick (Region p) (beyond_or_on rect Right p) _ _ (λ e. inr (refl, e)) (pick (Region p) (beyond_or_on rect Top p) _ _ (λ e. inr (refl, e)) (pick (Region p) (beyond_or_on rect Bottom p) _ _ (λ e. inr (refl, e)) (inl refl)))
  next_region Top p h = pick (Region p) (beyond_or_on rect Bottom p) _ _ (λ e. inr (refl, e)) (pick (Region p) (beyond_or_on rect Left p) _ _ (λ e. inr (refl, e)) (pick (Region p) (beyond_or_on rect Right p) _ _ (λ e. inr (refl, e)) (inl refl)))
  next_region Right p h = pick (Region p) (beyond_or_on rect Left p) _ _ (λ e. inr (refl, e)) (pick (Region p) (beyond_or_on rect Top p) _ _ (λ e. inr (refl, e)) (pick (Region p) (beyond_or_on rect Bottom p) _ _ (λ e. inr (refl, e)) (inl refl)))
  next_region Bottom p h = pick (Region p) (beyond_or_on rect Top p) _ _ (λ e. inr (refl, e)) (pick (Region p) (beyond_or_on rect Left p) _ _ (λ e. inr (refl, e)) (pick (Region p) (beyond_or_on rect Right p) _ _ (λ e. inr (refl, e)) (inl refl)))
  next_region Inside p h = inl refl

  spot_pick : (P : Location → Type 0) (t : Bool) (x y : Spot) → (t ≡ true → P x.loc) → P y.loc → P (cond t x y).loc
  spot_pick P true x y h k = h refl
  spot_pick P false x y h k = k

  pub first : (x y z : Bool) → x && y && z ≡ true → x ≡ true
  first true y z e = refl
  first false y z e = let w : ◌≡◌ {A = ℕ} 0 1 = cc in absurd (omega arith)

  same_le : (x y : lib.IntN.ℤ) → eq_z x y ≡ true → le_z x y ≡ true
  same_le x y e = let q = eqZ_true {a = x} {b = y} e in le_leZ x y (omega zint)

  same_ge : (x y : lib.IntN.ℤ) → eq_z x y ≡ true → le_z y x ≡ true
  same_ge x y e = let q = eqZ_true {a = x} {b = y} e in le_leZ y x (omega zint)

  less_le : (x y : lib.IntN.ℤ) → lt_z x y ≡ true → le_z x y ≡ true
  less_le x y e = let q : x <ℤ y = ltZ_true e in le_leZ x y (omega zint)

  pub spot_region : (p : Point64) → Region p (get_location rect p).loc
  unfolding get_location
  spot_region p =
      spot_pick (Region p) (eq_z p.x rect.left && le_z rect.top p.y && le_z p.y rect.bottom) _ _ (λ e. inr (refl, same_le p.x rect.left (first _ _ _ e)))
      (spot_pick (Region p) (eq_z p.x rect.right && le_z rect.top p.y && le_z p.y rect.bottom) _ _ (λ e. inr (refl, same_ge p.x rect.right (first _ _ _ e)))
      (spot_pick (Region p) (eq_z p.y rect.top && le_z rect.left p.x && le_z p.x rect.right) _ _ (λ e. inr (refl, same_le p.y rect.top (first _ _ _ e)))
      (spot_pick (Region p) (eq_z p.y rect.bottom && le_z rect.left p.x && le_z p.x rect.right) _ _ (λ e. inr (refl, same_ge p.y rect.bottom (first _ _ _ e)))
      (spot_pick (Region p) (lt_z p.x rect.left) _ _ (λ e. inr (refl, less_le p.x rect.left e))
      (spot_pick (Region p) (lt_z rect.right p.x) _ _ (λ e. inr (refl, less_le rect.right p.x e))
      (spot_pick (Region p) (lt_z p.y rect.top) _ _ (λ e. inr (refl, less_le p.y rect.top e))
      (spot_pick (Region p) (lt_z rect.bottom p.y) _ _ (λ e. inr (refl, less_le rect.bottom p.y e)) (inl refl))))))))
