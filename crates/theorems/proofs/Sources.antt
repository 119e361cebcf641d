-- Every returned point has a source, for both clippers, given what a search for a crossing finds.
use mathlib.Core.Path.{◌≡◌, refl, sym, ◌∙◌, subst}
use mathlib.Core.Bool.{Bool, true, false, cond, not, ◌&&◌}
use mathlib.Core.List.{List, [], ◌∷◌}
use Prim.Native.Nat.{ℕ, zero, suc, ◌+◌, ◌-◌, ◌<◌, suc-le-suc, zero-le}
use native.Mathlib.Omega.{arith}
use lib.ListN.{length}
use lib.Dec.{ltb, lt→ltb, lit<}
use lib.Signed.{lt_z, le_z}
use Rattle.integers.specs.Tests.{eq_z, ltZ_false, cond_true}
use Rattle.plane.specs.declared.point.Point64.{Point64}
use Rattle.plane.specs.declared.rect.Rect64.{Rect64}
use Rattle.plane.specs.declared.location.Spot.{Spot}
use Rattle.plane.specs.declared.location.Location.{Location}
use Rattle.plane.specs.declared.location.Location.TheVariants.{Left, Top, Right, Bottom, Inside}
use Rattle.plane.specs.Points.{pt_at, origin}
use Rattle.plane.specs.Rectangle.{as_path, get_location, is_empty, intersects, contains_rect, get_bounds_path, corner}
use Rattle.plane.specs.Intersection.{found_at, get_intersection}
use Rattle.reference.specs.Walk.{pt_before, walk_closed}
use Rattle.plane.specs.Locations.{is_inside}
use Rattle.reference.specs.Clip.{execute}
use Rattle.reference.specs.Lines.{execute_lines}
use Rattle.theorems.specs.Demand.{ExactCrossing, NearTo, InOrOn, Segment, onward, closing, turned, Source, input_point, corner_point, crossing}
use Rattle.theorems.proofs.Holds.{Holds, held, bind, holds_both, either, All, all_of}
use Rattle.theorems.proofs.Points.{WithinSides, all_keeping, walked_kept}
use Rattle.theorems.proofs.Returned.{EnteredWithPoints, walked_entered, AllPaths, KeptPaths, clip_kept}
use Rattle.theorems.proofs.OnEdge.{on_edge, contained}
use Rattle.theorems.proofs.PointsOpen.{walk_open_kept, lines_kept}
use Rattle.theorems.proofs.Tests.{never, true_of}

-- what a search finds on the segment from a to b: a corner, or a point near an exact crossing
pub data Hit (r : Rect64) (a b q : Point64) : Type 0 where
  at_corner : (k : ℕ) → k < 4 → q ≡ pt_at (as_path r) k → Hit r a b q
  at_crossing : (s : Location) → ExactCrossing r s a b → NearTo r s a b q → Hit r a b q

abbrev pub Searches : Rect64 → Point64 → Point64 → Type 0
Searches r a b = (s : Location) (q : Point64) (t : Location) → get_intersection r a b s ≡ found_at q t → Hit r a b q

in_or_on : (r : Rect64) (p : Point64) → WithinSides r p → InOrOn r p
in_or_on r p h = record { left = ltZ_false h.left; right = ltZ_false h.right; top = ltZ_false h.top; bottom = ltZ_false h.bottom }

-- Inside, off the edges
pub inner : (r : Rect64) (p : Point64) → (get_location r p).off ≡ true → is_inside (get_location r p).loc ≡ true → WithinSides r p
unfolding get_location
inner r p =
    chain (eq_z p.x r.left && le_z r.top p.y && le_z p.y r.bottom) _ _ (λ e _. never e refl)
    (λ _. chain (eq_z p.x r.right && le_z r.top p.y && le_z p.y r.bottom) _ _ (λ e _. never e refl)
    (λ _. chain (eq_z p.y r.top && le_z r.left p.x && le_z p.x r.right) _ _ (λ e _. never e refl)
    (λ _. chain (eq_z p.y r.bottom && le_z r.left p.x && le_z p.x r.right) _ _ (λ e _. never e refl)
    (λ _. chain (lt_z p.x r.left) _ _ (λ _ e. never e refl)
    (λ a. chain (lt_z r.right p.x) _ _ (λ _ e. never e refl)
    (λ b. chain (lt_z p.y r.top) _ _ (λ _ e. never e refl)
    (λ c. chain (lt_z r.bottom p.y) _ _ (λ _ e. never e refl)
    (λ d _ _. record { left = a; right = b; bottom = d; top = c }))))))))
  where
    chain : {W : Type 0} (b : Bool) (s t : Spot) → (s.off ≡ true → is_inside s.loc ≡ true → W) → (b ≡ false → t.off ≡ true → is_inside t.loc ≡ true → W)
        → (cond b s t).off ≡ true → is_inside (cond b s t).loc ≡ true → W
    chain true s t h k e f = h e f
    chain false s t h k e f = k refl e f

module _ (closed : Bool) (r : Rect64) (path : List Point64) (searches : (a b : Point64) → Segment closed path a b → Searches r a b) where
  abbrev From : Point64 → Type 0
  From p = Source closed r path p

  found : (a b : Point64) → Segment closed path a b → (s : Location) (q : Point64) (t : Location) → get_intersection r a b s ≡ found_at q t → From q
  found a b g s q t e = go (searches a b g s q t e)
    where
      go : Hit r a b q → From q
      go (at_corner k l m) = corner_point k l m
      go (at_crossing u x n) = crossing a b g u x n

  corners : (s : Location) → From (corner r s)
  corners Left = corner_point 0 (lit< tt) refl
  corners Top = corner_point 1 (lit< tt) refl
  corners Right = corner_point 2 (lit< tt) refl
  corners Bottom = corner_point 3 (lit< tt) refl
  corners Inside = corner_point 0 (lit< tt) refl

  inputs : All (λ p. WithinSides r p → From p) path
  inputs = all_of (λ p. WithinSides r p → From p) path origin (λ i l h. input_point i l (in_or_on r (pt_at path i) h) refl)

module _ (full : ℕ → Bool) (A : ℕ) (r : Rect64) (path : List Point64) (searches : (a b : Point64) → Segment true path a b → Searches r a b) where
  before : (i : ℕ) → i < length path → Segment true path (pt_before path i) (pt_at path i)
  before zero l = closing tt l
  before (suc j) l =
      subst (λ (n : ℕ). Segment true path (pt_at path n) (pt_at path (suc j))) (sym (cond_true (ltb 0 (suc j)) (suc j - 1) (length path - 1) later ∙ less j))
      (subst (λ (n : ℕ). Segment true path (pt_at path j) (pt_at path n)) (more j) (onward j (omega arith)))
    where
      later : ltb 0 (suc j) ≡ true
      later = true_of (ltb 0 (suc j)) (lt→ltb 0 (suc j) (suc-le-suc zero-le))

      less : (j : ℕ) → suc j - 1 ≡ j
      less j = omega arith

      more : (j : ℕ) → j + 1 ≡ suc j
      more j = omega arith

  all_inputs : (ps : List Point64) → All (λ p. WithinSides r p → Source true r path p) ps → All (WithinSides r) ps → All (Source true r path) ps
  all_inputs [] h k = tt
  all_inputs (p ∷ ps) h k = (h.0 k.0, all_inputs ps h.1 k.1)

  pub closed_sources : Holds (KeptPaths (Source true r path)) (execute full A r path)
  unfolding execute
  closed_sources =
      either (KeptPaths (Source true r path)) (is_empty r) _ _ (λ _. held tt)
      (λ n. either (KeptPaths (Source true r path)) (ltb (length path) 3) _ _ (λ _. held tt)
      (λ _. either (KeptPaths (Source true r path)) (not (intersects r (get_bounds_path path))) _ _ (λ _. held tt)
      (λ _. either (KeptPaths (Source true r path)) (contains_rect r (get_bounds_path path)) _ _
      (λ c. held (all_inputs path (inputs true r path searches) (contained r path c), tt))
      (λ _. bind (λ w. All (Source true r path) w.walk.points × EnteredWithPoints w) (KeptPaths (Source true r path)) (walk_closed full r path) _
      (holds_both
      (walked_kept full (Source true r path) (λ w. All (Source true r path) w.points) (all_keeping full (Source true r path)) r (corners true r path searches) path (inputs true r path searches)
      (λ i l. found true r path searches (pt_at path i) (pt_before path i) (turned (before i l)))
      (λ i l. found true r path searches (pt_before path i) (pt_at path i) (before i l)) (on_edge r n))
      (walked_entered full r path))
      (λ w h. clip_kept (Source true r path) A r w h.1 h.0)))))

module _ (full : ℕ → Bool) (r : Rect64) (path : List Point64) (searches : (a b : Point64) → Segment false path a b → Searches r a b) where
  step : (i : ℕ) → 0 < i → i < length path → Segment false path (pt_at path (i - 1)) (pt_at path i)
  step i z l = subst (λ (n : ℕ). Segment false path (pt_at path (i - 1)) (pt_at path n)) e (onward (i - 1) (omega arith))
    where
      e : i - 1 + 1 ≡ i
      e = omega arith

  pub open_sources : Holds (AllPaths (Source false r path)) (execute_lines full r path)
  open_sources =
      lines_kept (Source false r path) full r path
      (λ n. walk_open_kept full (Source false r path) (λ w. All (Source false r path) w.points) (all_keeping full (Source false r path)) r path (inputs false r path searches)
      (λ i z l. found false r path searches (pt_at path i) (pt_at path (i - 1)) (turned (step i z l)))
      (λ i z l. found false r path searches (pt_at path (i - 1)) (pt_at path i) (step i z l)) n (inner r))
