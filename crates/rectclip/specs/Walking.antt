-- The walk in the lent lists: which part of them is the walk, what every step keeps, and what a step answers.
use Rattle.std.specs.Prelude.{◌≡◌, List, map, ℕ, zero, suc, ◌+◌, ◌*◌, ◌/◌, ◌<◌, ◌≤◌, length, take, ℤ, Bool, true, false, if◌then◌else◌, Option, None}
use Rattle.plane.specs.declared.point.Point64.{Point64}
use Rattle.plane.specs.declared.location.Location.{Location}
use Rattle.plane.specs.declared.location.Location.TheVariants.{Left, Top, Right, Bottom, Inside}
use Rattle.plane.specs.declared.rect.Rect64.{Rect64}
use Rattle.plane.specs.Limit.{all_in_limit, rect_in_limit}
use Rattle.plane.specs.Locations.{get_adjacent_location}
use Rattle.plane.specs.Points.{pt_at, points_of}
use Rattle.plane.specs.Rectangle.{is_empty, corner, get_location}
use Rattle.plane.specs.Intersection.{found_at}
use Rattle.plane.specs.declared.crossing.SidePoint.{SidePoint}
use Rattle.reference.specs.Walk.{Walk}
use Rattle.rectclip.specs.declared.walk.WalkState.{WalkState}
use Rattle.rectclip.specs.Bounds.{Reached}
use Rattle.rectclip.specs.Memory.{at, Room, column}

-- the location of a number of the side order
abbrev pub location : ℕ → Location
location zero = Left
location (suc zero) = Top
location (suc (suc zero)) = Right
location (suc (suc (suc zero))) = Bottom
location (suc (suc (suc (suc n)))) = Inside

-- the walk: its points stand in the store, each result's start in field 4 and the start sides in field 5 of the work list
unfoldable pub walk_of : List ℤ → List ℕ → WalkState → Walk
walk_of store work s = record {
  points = points_of (take (2 * s.points) store);
  starts = column 4 s.starts work;
  start_locs = map location (column 5 s.start_locs work);
}

-- the walk has its place in the lists, with a slot for each of W points and one more
pub record Fits (store : List ℤ) (work : List ℕ) (s : WalkState) : Type 0 where
  pub room : Room (length store / 2 + 1) work
  pub few : length store / 2 ≤ 65536
  pub points : s.points ≤ length store / 2
  pub starts : s.starts ≤ s.points
  pub start_locs : s.start_locs ≤ length store / 2
  pub begun : (i : ℕ) → i < s.starts → at 4 work i < s.points
  pub rising : (i : ℕ) → i + 1 < s.starts → at 4 work i ≤ at 4 work (i + 1)
  pub near : (i : ℕ) → i < s.points → Reached (pt_at (points_of store) i)

-- a rectangle that is not empty, and a path, within the coordinate limit
pub record Sheet (rect : Rect64) (path : List ℤ) : Type 0 where
  pub extent : is_empty rect ≡ false
  pub frame : rect_in_limit rect ≡ true
  pub points : all_in_limit path ≡ true

-- a point off the edges, and its location
abbrev pub off_edges : Rect64 → Point64 → Option SidePoint
off_edges rect p = let s = get_location rect p in if s.off then found_at p s.loc else None

-- the corner that `add_corner_loc` adds
abbrev pub turned : Rect64 → Location → Bool → Point64
turned rect loc is_clockwise = corner rect (if is_clockwise then loc else get_adjacent_location loc is_clockwise)
