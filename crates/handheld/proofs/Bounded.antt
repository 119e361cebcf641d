-- How large a drawing is: the clippers return at most as many points as the store holds and one path more than turns, and no point
-- that is more than one unit outside the rectangle. Assumes nothing.
use mathlib.Core.Path.{◌≡◌, refl, subst}
use mathlib.Core.Bool.{Bool, true, false}
use mathlib.Core.List.{List, [], ◌∷◌}
use Prim.Native.Nat.{ℕ, suc, ◌/◌, ◌≤◌}
use native.Mathlib.Omega.{arith}
use lib.ListN.{length, length-append}
use lib.Dec.{ltb}
use lib.IntN.{ℤ, pos, negsuc, nat_abs, ◌+ℤ◌, ◌-ℤ◌}
use lib.Signed.{◌≤ℤ◌}
use Rattle.integers.specs.Tests.{T_of}
use Rattle.integers.specs.Order.{zint, add_pn, sub_pn}
use Rattle.plane.proofs.Limits.{rect_limited}
use Rattle.plane.specs.declared.point.Point64.{Point64}
use Rattle.plane.specs.declared.rect.Rect64.{Rect64}
use Rattle.plane.specs.Basics.{Try, ok}
use Rattle.plane.specs.Points.{points_of}
use Rattle.plane.specs.Limit.{rect_in_limit, all_in_limit, LimitedRect}
use Rattle.plane.specs.Rectangle.{is_empty, intersects, contains_rect, get_bounds_path}
use Rattle.reference.specs.Walk.{no_room}
use Rattle.reference.specs.Clip.{execute}
use Rattle.reference.specs.Entry.{Drawing, joined, drawing_of}
use Rattle.theorems.specs.Demand.{AtMostOneOutside, is_walked}
use Rattle.theorems.proofs.ClosedArea.{lines_drawn}
use Rattle.theorems.proofs.FewPoints.{few_points}
use Rattle.theorems.proofs.FewResults.{few_results}
use Rattle.theorems.proofs.FewLines.{few_lines}
use Rattle.rectclip.proofs.Coordinates.{points_length}
use Rattle.handheld.specs.Drawn.{AlwaysBounded}
use Rattle.handheld.proofs.Exact.{admitted, always_exact}

-- ---- coordinates
upper : (b : ℤ) (n : ℕ) → nat_abs b ≤ 33554432 → pos n ≤ℤ (b +ℤ pos 1) → n ≤ 33554433
upper (pos b) n g k = omega (zint, add_pn (pos b) (pos 1))
upper (negsuc b) n g k = omega (zint, add_pn (negsuc b) (pos 1))

lower : (a : ℤ) (n : ℕ) → nat_abs a ≤ 33554432 → (a -ℤ pos 1) ≤ℤ negsuc n → suc n ≤ 33554433
lower (pos a) n g k = omega (zint, sub_pn (pos a) (pos 1))
lower (negsuc a) n g k = omega (zint, sub_pn (negsuc a) (pos 1))

within : (a b z : ℤ) → nat_abs a ≤ 33554432 → nat_abs b ≤ 33554432 → (a -ℤ pos 1) ≤ℤ z → z ≤ℤ (b +ℤ pos 1) → nat_abs z ≤ 33554433
within a b (pos n) f g h k = upper b n g k
within a b (negsuc n) f g h k = lower a n f h

near : (R : Rect64) → LimitedRect R → (p : Point64) → AtMostOneOutside R p → (nat_abs p.x ≤ 33554433) × (nat_abs p.y ≤ 33554433)
near R lim p o = (within R.left R.right p.x lim.left lim.right o.left o.right, within R.top R.bottom p.y lim.top lim.bottom o.top o.bottom)

-- ---- points and paths
abbrev Few : Drawing → Type 0
Few d = (length (joined d.0) ≤ 256) × (length d.0 ≤ 257)

module _ (R : Rect64) (path : List ℤ) (frame : rect_in_limit R ≡ true) (points : all_in_limit path ≡ true) where
  few_open : (d : Drawing) → drawing_of false (no_room 256) 256 R (points_of path) ≡ ok d → Few d
  few_open d e =
      let m = few_lines 256 R (points_of path) d.0 (lines_drawn (no_room 256) 256 R (points_of path) d e) in
      (m.0, omega (arith, m.1))

  -- a closed path that is not walked is returned whole or gives nothing
  few_closed : length path / 2 ≤ 128 → (d : Drawing) → execute (no_room 256) 256 R (points_of path) ≡ ok d → Few d
  unfolding execute is_walked
  few_closed short d e = go (is_empty R) refl (ltb (length (points_of path)) 3) refl (intersects R (get_bounds_path (points_of path))) refl (contains_rect R (get_bounds_path (points_of path))) refl
    where
      nothing : ◌≡◌ {A = Try Drawing} (ok ([], 0)) (ok d) → Few d
      nothing q = let z : ◌≡◌ {A = Drawing} ([], 0) d = cc in subst Few z (omega arith, omega arith)

      whole : ◌≡◌ {A = Try Drawing} (ok (points_of path ∷ [], 0)) (ok d) → Few d
      whole q =
          let z : ◌≡◌ {A = Drawing} (points_of path ∷ [], 0) d = cc in
          subst Few z (omega (arith, length-append (points_of path) [], points_length path), omega arith)

      go : (a : Bool) → is_empty R ≡ a → (b : Bool) → ltb (length (points_of path)) 3 ≡ b → (s : Bool) → intersects R (get_bounds_path (points_of path)) ≡ s → (t : Bool) → contains_rect R (get_bounds_path (points_of path)) ≡ t → Few d
      go true p b q s u t v = nothing (rw p at e)
      go false p true q s u t v = nothing (rw (p, q) at e)
      go false p false q false u t v = nothing (rw (p, q, u) at e)
      go false p false q true u true v = whole (rw (p, q, u, v) at e)
      go false p false q true u false v =
          let w : is_walked R (points_of path) ≡ true = rw (p, q, u, v) refl in
          let m = few_results (no_room 256) 256 R (points_of path) d.0 d.1 e in
          (few_points 256 256 R path d.0 d.1 (omega arith) (T_of frame) (T_of points) (T_of w) e, omega (arith, m.0, m.1))

  few : (closed : Bool) → length path / 2 ≤ 128 → (d : Drawing) → drawing_of closed (no_room 256) 256 R (points_of path) ≡ ok d → Few d
  few true short d e = few_closed short d e
  few false short d e = few_open d e

pub always_bounded : AlwaysBounded
always_bounded closed R path d e =
    let a = admitted closed R path d e in
    let m = few R path a.frame a.points closed a.short d a.drawn in
    record { points = m.0; paths = m.1; near = λ q i p j. near R (rect_limited R (T_of a.frame)) p ((always_exact closed R path d e).sourced.close_by q i p j) }
