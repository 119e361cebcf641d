-- A path with a point strictly inside the rectangle and the next one beyond a side is walked: its bounds meet the rectangle and are not contained.
use mathlib.Core.Path.{◌≡◌, refl}
use mathlib.Core.Bool.{Bool, true, false, cond, not, ◌&&◌}
use mathlib.Core.List.{List, [], ◌∷◌, ◌++◌}
use Prim.Native.Nat.{ℕ, ◌≤◌}
use lib.ListN.{length}
use lib.Dec.{T, ltb}
use lib.IntN.{ℤ}
use lib.Signed.{lt_z, le_z, ◌≤ℤ◌, ◌<ℤ◌}
use borrow.Author.Tests.{le-ltb}
use Rattle.integers.specs.Tests.{ztest, le_leZ}
use Rattle.plane.specs.declared.point.Point64.{Point64}
use Rattle.plane.specs.declared.rect.Rect64.{Rect64}
use Rattle.plane.specs.Basics.{ok, ◌>>=◌}
use Rattle.plane.specs.Rectangle.{max, min, is_empty, intersects, contains_rect, no_bounds, get_bounds_path, beyond}
use Rattle.reference.specs.Walk.{walk_closed}
use Rattle.reference.specs.Clip.{clip_walked, execute}
use Rattle.reference.specs.Lines.{walk_open, pieces, longer_than_one, execute_lines}
use Rattle.theorems.specs.Detour.{Leaves}
use Rattle.theorems.proofs.Holds.{all_split}
use Rattle.theorems.proofs.GeoPlane.{Side, on_left, on_top, on_right, on_bottom, loc}
use Rattle.theorems.proofs.Points.{WithinSides}
use Rattle.theorems.proofs.OnEdge.{In, all_in, contained}
use Rattle.theorems.proofs.Run.{StrictlyInside, inside_of, not_empty}
use Rattle.theorems.proofs.Tests.{never, true_of}

-- on one axis: x is strictly between a and c, and between b and d
meet : (a b c d x : ℤ) → a <ℤ x → x <ℤ c → b ≤ℤ x → x ≤ℤ d → le_z (max a b) (min c d) ≡ true
meet a b c d x h k l m = go (lt_z b a) refl (lt_z c d) refl
  where
    go : (s : Bool) → lt_z b a ≡ s → (t : Bool) → lt_z c d ≡ t → le_z (cond s a b) (cond t c d) ≡ true
    go true e true f = le_leZ a c (omega ztest)
    go true e false f = le_leZ a d (omega ztest)
    go false e true f = le_leZ b c (omega ztest)
    go false e false f = le_leZ b d (omega ztest)

meets : (r b : Rect64) (p : Point64) → StrictlyInside r p → In b p → intersects r b ≡ true
meets r b p h i = λ j. meet r.left b.left r.right b.right p.x h.left h.right i.0 i.1 j && meet r.top b.top r.bottom b.bottom p.y h.top h.bottom i.2 i.3 j

beyond_no : (r : Rect64) (s : Side) (q : Point64) → T (beyond r (loc s) q) → WithinSides r q → ⊥
beyond_no r on_left q h w = never (true_of _ h) w.left
beyond_no r on_top q h w = never (true_of _ h) w.top
beyond_no r on_right q h w = never (true_of _ h) w.right
beyond_no r on_bottom q h w = never (true_of _ h) w.bottom

-- what is chosen behind four tests
past_four_tests : {X : Type 0} (b1 b2 b3 b4 : Bool) (x1 x2 x3 x4 y : X) → b1 ≡ false → b2 ≡ false → b3 ≡ true → b4 ≡ false → cond b1 x1 (cond b2 x2 (cond (not b3) x3 (cond b4 x4 y))) ≡ y
past_four_tests b1 b2 b3 b4 x1 x2 x3 x4 y e1 e2 e3 e4 = λ i. cond (e1 i) x1 (cond (e2 i) x2 (cond (not (e3 i)) x3 (cond (e4 i) x4 y)))

module _ (r : Rect64) (s : Side) (front : List Point64) (p q : Point64) (rest : List Point64) (h : Leaves r (loc s) p q) where
  abbrev path : List Point64
  path = front ++ (p ∷ q ∷ rest)

  inside : StrictlyInside r p
  inside = inside_of r (loc s) p q h

  bounds_meet : intersects r (get_bounds_path path) ≡ true
  unfolding get_bounds_path
  bounds_meet = meets r (get_bounds_path path) p inside (all_split (In (get_bounds_path path)) front (p ∷ q ∷ rest) (all_in no_bounds path)).1.0

  bounds_out : contains_rect r (get_bounds_path path) ≡ false
  bounds_out = go (contains_rect r (get_bounds_path path)) refl
    where
      go : (b : Bool) → contains_rect r (get_bounds_path path) ≡ b → b ≡ false
      go true e = absurd (beyond_no r s q h.out (all_split (WithinSides r) front (p ∷ q ∷ rest) (contained r path e)).1.1.0)
      go false e = refl

  pub closed_walked : (full : ℕ → Bool) (A : ℕ) → 3 ≤ length path → execute full A r path ≡ (walk_closed full r path >>= clip_walked A r)
  unfolding execute
  closed_walked full A l =
      past_four_tests (is_empty r) (ltb (length path) 3) (intersects r (get_bounds_path path)) (contains_rect r (get_bounds_path path)) _ _ _ _ _ (not_empty r p inside) (le-ltb (length path) 3 l) bounds_meet bounds_out

  pub open_walked : (full : ℕ → Bool) → execute_lines full r path ≡ (walk_open full r path >>= λ w. ok (longer_than_one (pieces w.points w.starts)))
  unfolding execute_lines
  open_walked full = past_four_tests (is_empty r) false (intersects r (get_bounds_path path)) false _ (ok []) _ (ok []) _ (not_empty r p inside) refl bounds_meet refl
