-- Demand 3, whole: sources and distance of both clippers, and the area equation of the closed one.
use mathlib.Core.Path.{◌≡◌, refl, ap}
use mathlib.Core.Bool.{Bool, true, false, not, ◌&&◌}
use mathlib.Core.List.{List}
use Prim.Native.Nat.{ℕ, ◌≤◌}
use native.Mathlib.Omega.{arith}
use lib.ListN.{length}
use lib.Dec.{T, ltb}
use Rattle.plane.specs.declared.point.Point64.{Point64}
use Rattle.plane.specs.declared.rect.Rect64.{Rect64}
use Rattle.plane.specs.Basics.{none, Try, refuse, ok, ◌>>=◌}
use Rattle.plane.specs.Rectangle.{is_empty, intersects, contains_rect, get_bounds_path}
use Rattle.reference.specs.Walk.{Walked, walk_closed, no_room}
use Rattle.reference.specs.Clip.{execute}
use Rattle.reference.specs.Lines.{execute_lines}
use Rattle.reference.specs.Entry.{Drawing, drawing_of}
use Rattle.theorems.specs.Rings.{Entered}
use Rattle.theorems.specs.Demand.{is_walked, AreaKept, Bounded, Demand3}
use Rattle.plane.specs.Points.{points_of}
use Rattle.theorems.proofs.Counted.{has_room, walk_counted}
use Rattle.theorems.proofs.AreaKeeps.{closed_area_of}
use Rattle.theorems.proofs.FirstCrossing.{EntryFound}
use Rattle.theorems.proofs.WalkEnters.{walk_enters}
use Rattle.theorems.proofs.Entering.{entry_found}
use Rattle.theorems.proofs.Holds.{holds_ok}
use Rattle.theorems.proofs.Demand.{closed_sourced, open_sourced}

first_not : (b1 b2 b3 b4 : Bool) → T (not b1 && not b2 && b3 && not b4) → b1 ≡ false
first_not true b2 b3 b4 h = absurd h
first_not false b2 b3 b4 h = refl

pub walked_not_empty : (rect : Rect64) (path : List Point64) → T (is_walked rect path) → is_empty rect ≡ false
unfolding is_walked
walked_not_empty rect path h = first_not (is_empty rect) (ltb (length path) 3) (intersects rect (get_bounds_path path)) (contains_rect rect (get_bounds_path path)) h

-- The areas of the returned paths add up to the walked outline's, from the one fact of geometry that entering finds a side.
pub closed_area : (full : ℕ → Bool) (limit : ℕ) (rect : Rect64) (path : List Point64) → Bounded full → (is_empty rect ≡ false → EntryFound rect path)
    → (paths : List (List Point64)) (turns : ℕ) → execute full limit rect path ≡ ok (paths, turns) → AreaKept rect path paths
closed_area full limit rect path room found paths turns e = record {
  kept = λ h.
      let p = walked_not_empty rect path h in
      (closed_area_of full limit rect path
      (λ w q. (
        holds_ok {Q = λ (v : Walked). length v.walk.points ≤ none} (walk_closed full rect path) w (walk_counted full none room rect p path) q,
        holds_ok {Q = Entered} (walk_closed full rect path) w (walk_enters full rect p path (found p)) q,
      ))
      paths turns e).kept h;
}

-- A call with W at most `none` is bounded: its store has room for no entry W.
pub call_bounded : (W : ℕ) → W ≤ none → Bounded (no_room W)
call_bounded W h n e = let l = has_room W n e in omega arith

-- the paths of an open path's drawing
pub lines_drawn : (full : ℕ → Bool) (A : ℕ) (r : Rect64) (path : List Point64) (d : Drawing) → drawing_of false full A r path ≡ ok d → execute_lines full r path ≡ ok d.0
lines_drawn full A r path d e = go (execute_lines full r path) e
  where
    go : (t : Try (List (List Point64))) → (t >>= λ paths. ok (paths, 0)) ≡ ok d → t ≡ ok d.0
    go (refuse n) q = absurd (let z : ◌≡◌ {A = ℕ} 0 1 = cc in omega arith)
    go (ok paths) q = let z : paths ≡ d.0 = cc in ap ok z

-- Demand 3. Sources and distance hold of every walk; the areas add up since entering the rectangle finds a side.
pub demand_3 : Demand3
demand_3 true full A r coords d room hr hc e = record {
  sourced = closed_sourced r coords hr hc full A d.0 d.1 e;
  area = λ _. closed_area full A r (points_of coords) room (entry_found r coords hr hc) d.0 d.1 e;
}
demand_3 false full A r coords d room hr hc e = record {
  sourced = open_sourced r coords hr hc full d.0 (lines_drawn full A r (points_of coords) d e);
  area = λ no. absurd no;
}
