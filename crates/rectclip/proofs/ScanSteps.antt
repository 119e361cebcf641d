-- One pass of `point_in_polygon` from a vertex that is not skipped, way by way. Assumes nothing.
use Rattle.std.specs.Prelude.{if◌then◌else◌}
use mathlib.Core.Path.{◌≡◌, refl, sym, ap, ◌∙◌}
use mathlib.Core.Bool.{Bool, true, false, not, ◌&&◌, ◌||◌, beq}
use mathlib.Core.List.{List}
use Prim.Native.Nat.{ℕ, ◌+◌, ◌-◌, ◌/◌}
use lib.Dec.{eqb}
use lib.IntN.{ℤ, pos}
use lib.ListN.{length}
use lib.Signed.{lt_z}
use Rattle.integers.specs.Tests.{eq_z}
use Rattle.plane.specs.Points.{points_of, pt_at}
use Rattle.plane.specs.Signs.{cross_product_sign}
use Rattle.plane.specs.Polygon.{before_idx, at_vertex}
use Rattle.plane.specs.Polygon as polygon
use Rattle.plane.specs.declared.point.Point64.{Point64}
use Rattle.rectclip.specs.Scanned.{bit, step_of, passing_of, line_of, passed_of, level_of}
use Rattle.rectclip.specs.declared.polygon.Scan.{Scan}
use Rattle.rectclip.specs.declared.polygon.ScanStep.{ScanStep}
use Rattle.rectclip.specs.declared.polygon.ScanStep.TheVariants.{OnEdge, Stop, Again}
use Rattle.rectclip.specs.declared.polygon.Passing.{Passing}
use Rattle.rectclip.specs.declared.polygon.Passing.TheVariants.{Through, Aside, Across}
use Rattle.rectclip.proofs.Coordinates.{points_length}

-- the index before i, of n vertices
pub index_before : (pt : Point64) (c : List ℤ) (i : ℕ) → (if eqb i 0 then length c / 2 - 1 else i - 1) ≡ before_idx pt (points_of c) i
index_before pt c i = ap (λ (n : ℕ). if eqb i 0 then n - 1 else i - 1) (sym (points_length c))

-- the other truth value's number
pub turned : (v : Bool) → bit (not v) ≡ 1 - bit v
turned true = refl
turned false = refl

module _ (pt : Point64) (c : List ℤ) (first : ℕ) (s : Scan) (i : ℕ) where
  abbrev whole : polygon.ScanStep
  whole = at_vertex pt (points_of c) first s.is_above s.wrap_to_start (bit s.val) i

  abbrev curr : Point64
  curr = pt_at (points_of c) i

  abbrev prev : Point64
  prev = pt_at (points_of c) (before_idx pt (points_of c) i)

  -- the vertex is at the point's height
  level_step : eq_z curr.y pt.y ≡ true → step_of (level_of s i first (line_of pt prev curr)) ≡ whole
  unfolding at_vertex line_of
  level_step e =
      rw e (go (eq_z curr.x pt.x || (eq_z curr.y prev.y && not (beq (lt_z pt.x prev.x) (lt_z pt.x curr.x)))) (eqb (i + 1) first))
    where
      go : (on b : Bool) → step_of (if on then OnEdge else if b then Stop (record { curr_idx = i + 1; is_above = s.is_above; wrap_to_start = s.wrap_to_start; val = s.val }) else Again (record { curr_idx = i + 1; is_above = s.is_above; wrap_to_start = s.wrap_to_start; val = s.val }))
          ≡ (if on then polygon.on_edge else if b then polygon.stop (record { curr_idx = i + 1; is_above = s.is_above; wrap_to_start = s.wrap_to_start; val = bit s.val }) else polygon.again (record { curr_idx = i + 1; is_above = s.is_above; wrap_to_start = s.wrap_to_start; val = bit s.val }))
      go true b = refl
      go false true = refl
      go false false = refl

  -- it is not
  pass_step : eq_z curr.y pt.y ≡ false → step_of (passed_of s i (passing_of pt prev curr s.is_above)) ≡ whole
  unfolding at_vertex passing_of
  pass_step e =
      rw e (go (lt_z pt.x curr.x && lt_z pt.x prev.x) (lt_z prev.x pt.x && lt_z curr.x pt.x) (eq_z (cross_product_sign prev curr pt) (pos 0)) (beq (lt_z (cross_product_sign prev curr pt) (pos 0)) s.is_above))
    where
      aside : polygon.ScanStep
      aside = polygon.again (record { curr_idx = i + 1; is_above = not s.is_above; wrap_to_start = s.wrap_to_start; val = bit s.val })

      across : polygon.ScanStep
      across = polygon.again (record { curr_idx = i + 1; is_above = not s.is_above; wrap_to_start = s.wrap_to_start; val = 1 - bit s.val })

      crossed : step_of (passed_of s i Across) ≡ across
      crossed = ap (λ (v : ℕ). polygon.again (record { curr_idx = i + 1; is_above = not s.is_above; wrap_to_start = s.wrap_to_start; val = v })) (turned s.val)

      go : (a b d e : Bool) → step_of (passed_of s i (if a then Aside else if b then Across else if d then Through else if e then Across else Aside))
          ≡ (if a then aside else if b then across else if d then polygon.on_edge else if e then across else aside)
      go true b d e = refl
      go false true d e = crossed
      go false false true e = refl
      go false false false true = crossed
      go false false false false = refl

  pub level_is : {p q : Point64} {on : Bool} {r : ScanStep} → q ≡ curr → p ≡ prev → eq_z q.y pt.y ≡ true → on ≡ line_of pt p q → r ≡ level_of s i first on → step_of r ≡ whole
  level_is f g h k e =
      ap step_of (e ∙ ap (level_of s i first) (k ∙ λ j. line_of pt (g j) (f j))) ∙ level_step (sym (ap (λ (q : Point64). eq_z q.y pt.y) f) ∙ h)

  pub pass_is : {p q : Point64} {how : Passing} {r : ScanStep} → q ≡ curr → p ≡ prev → eq_z q.y pt.y ≡ false → how ≡ passing_of pt p q s.is_above → r ≡ passed_of s i how → step_of r ≡ whole
  pass_is f g h k e =
      ap step_of (e ∙ ap (passed_of s i) (k ∙ λ j. passing_of pt (g j) (f j) s.is_above)) ∙ pass_step (sym (ap (λ (q : Point64). eq_z q.y pt.y) f) ∙ h)
