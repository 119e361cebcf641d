-- The line clipper's walk from its start: the state that has nothing yet, the starting location, and the passes. Assumes nothing.
use mathlib.Core.Path.{◌≡◌, refl, sym, ◌∙◌, ap}
use mathlib.Core.Bool.{Bool, true, false}
use mathlib.Core.List.{List}
use Prim.Native.Nat.{ℕ, ◌/◌, ◌<◌, ◌≤◌}
use borrow.Author.Tests.{lt-ltb, le-ltb}
use lib.Dec.{ltb}
use lib.IntN.{ℤ}
use lib.ListN.{length, drop}
use Rattle.plane.specs.declared.crossing.SidePoint.{SidePoint}
use Rattle.plane.specs.Intersection.{found_at}
use Rattle.plane.specs.declared.point.Point64.{Point64}
use Rattle.plane.specs.declared.rect.Rect64.{Rect64}
use Rattle.plane.specs.declared.location.Location.{Location}
use Rattle.plane.specs.declared.location.Location.TheVariants.{Inside}
use Rattle.plane.specs.declared.location.Spot.{Spot}
use Rattle.plane.specs.Basics.{Try, ok, ◌>>=◌}
use Rattle.plane.specs.Locations.{is_inside}
use Rattle.plane.specs.Points.{pt_at, points_of}
use Rattle.plane.specs.Rectangle.{get_location}
use Rattle.reference.specs.Walk.{Walk, no_room, nothing_yet, add_all}
use Rattle.reference.specs.Lines.{first_off_edge, line_walk_from, walk_open}
use Rattle.rectclip.specs.declared.walk.WalkState.{WalkState}
use Rattle.std.specs.Prelude.{Option, None}
use Rattle.rectclip.specs.Memory.{from, column}
use Rattle.rectclip.specs.Walking.{walk_of}
use Rattle.rectclip.specs.Crossing.{all_passes, first_point}
use Rattle.rectclip.proofs.Coordinates.{points_length}

-- ---- nothing yet
abbrev pub fresh : WalkState
fresh = record { points = 0; starts = 0; start_locs = 0 }

pub walk_fresh : (store : List ℤ) (work : List ℕ) → walk_of store work fresh ≡ nothing_yet
unfolding walk_of column from
walk_fresh store work = refl

-- ---- the passes from there
-- the passes from a starting location
abbrev pub passes_at : Location → (ℕ → Bool) → Rect64 → List Point64 → Walk → Try Walk
passes_at loc full rect path w = all_passes full rect path (record { walk = w; loc = loc; i = 1 })

pub from_parts : (full : ℕ → Bool) (rect : Rect64) (P : List Point64) (loc : Location) {w : Walk} → w ≡ nothing_yet → (first_point full w P loc >>= passes_at loc full rect P) ≡ line_walk_from full rect P loc
unfolding line_walk_from
from_parts full rect P loc e = rw e refl

-- ---- the starting location
module _ (rect : Rect64) (path store : List ℤ) {p : Point64} (ep : p ≡ pt_at (points_of path) 0) {s : Spot} (es : s ≡ get_location rect p) where
  abbrev whole : Try Walk
  whole = walk_open (no_room (length store / 2)) rect (points_of path)

  first_is : s ≡ get_location rect (pt_at (points_of path) 0)
  first_is = es ∙ ap (get_location rect) ep

  many : 2 ≤ length path / 2 → ltb (length (points_of path)) 2 ≡ false
  many h = le-ltb (length (points_of path)) 2 (rw (points_length path) h)

  pub open_off : 2 ≤ length path / 2 → s.off ≡ true → line_walk_from (no_room (length store / 2)) rect (points_of path) s.loc ≡ whole
  unfolding walk_open
  open_off h t = rw (many h, ← first_is, t) refl

  module _ (h : 2 ≤ length path / 2) (t : s.off ≡ false) {f : Option SidePoint} (ef : f ≡ first_off_edge rect (drop 1 (points_of path))) where
    pub open_edges : f ≡ None → add_all (no_room (length store / 2)) nothing_yet (points_of path) ≡ whole
    unfolding walk_open
    open_edges e = rw (many h, ← first_is, t, sym ef ∙ e) refl

    pub open_inside : {q : Point64} {prev : Location} → f ≡ found_at q prev → is_inside prev ≡ true → line_walk_from (no_room (length store / 2)) rect (points_of path) Inside ≡ whole
    unfolding walk_open
    open_inside e i = rw (many h, ← first_is, t, sym ef ∙ e, i) refl

    pub open_outside : {q : Point64} {prev : Location} → f ≡ found_at q prev → is_inside prev ≡ false → line_walk_from (no_room (length store / 2)) rect (points_of path) s.loc ≡ whole
    unfolding walk_open
    open_outside e i = rw (many h, ← first_is, t, sym ef ∙ e, i, ← first_is) refl

pub open_short : (rect : Rect64) (path store : List ℤ) → length path / 2 < 2 → ok nothing_yet ≡ walk_open (no_room (length store / 2)) rect (points_of path)
unfolding walk_open
open_short rect path store h = rw (lt-ltb (length (points_of path)) 2 (rw (points_length path) h)) refl
