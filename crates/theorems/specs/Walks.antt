-- The passes of both walks in the same words, so that what holds in every pass is said once. `closed` tells which: true for the closed path's `while`,
-- that of `walk_closed`, false for the open path's, that of `walk_open`.
use Rattle.std.specs.Prelude.{◌≡◌, Bool, true, false, List, ℕ, zero, suc, ◌-◌, length, drop, ltb, leb, if◌then◌else◌, Option}
use Rattle.plane.specs.declared.crossing.SidePoint.{SidePoint}
use Rattle.plane.specs.Intersection.{found_at}
use Rattle.plane.specs.declared.point.Point64.{Point64}
use Rattle.plane.specs.declared.rect.Rect64.{Rect64}
use Rattle.plane.specs.declared.location.Location.{Location}
use Rattle.plane.specs.declared.location.Location.TheVariants.{Inside}
use Rattle.plane.specs.Basics.{Try, ok, ◌>>=◌}
use Rattle.plane.specs.Points.{pt_at}
use Rattle.plane.specs.Locations.{is_inside}
use Rattle.plane.specs.Rectangle.{get_location}
use Rattle.reference.specs.Counts.{walk_passes, line_walk_passes}
use Rattle.reference.specs.Walk.{Walk, Walked, nothing_yet, add, Next, get_next_location, State, last_off, pt_before, pass_from, walk_closed}
use Rattle.reference.specs.Lines.{first_off_edge, line_from, walk_open}

-- what a pass hands to the next
abbrev pub StateOf : Bool → Type 0
StateOf true = State
StateOf false = Next

-- what `get_next_location` is given of it
abbrev pub given : (closed : Bool) → StateOf closed → Next
given true s = record { walk = s.walk; loc = s.loc; i = s.i }
given false s = s

-- what the walk answers
abbrev pub WalkedOf : Bool → Type 0
WalkedOf true = Walked
WalkedOf false = Walk

abbrev pub walk_of : (closed : Bool) → (ℕ → Bool) → Rect64 → List Point64 → Try (WalkedOf closed)
walk_of true full rect path = walk_closed full rect path
walk_of false full rect path = walk_open full rect path

-- ---- where the `while` starts
-- the point whose location is looked up: the last one, or the first
abbrev pub start_point : List Point64 → Bool → Point64
start_point path true = pt_at path (length path - 1)
start_point path false = pt_at path 0

module _ (rect : Rect64) (path : List Point64) where
  -- the search for a point off the edges, where that one is on an edge
  abbrev pub point_off : Bool → Option SidePoint
  point_off true = last_off rect path (length path - 1)
  point_off false = first_off_edge rect (drop 1 path)

  -- the two locations that it may start from
  pub data StartsFrom (closed : Bool) : Location → Type 0 where
    off_edges : (get_location rect (start_point path closed)).off ≡ true → StartsFrom closed (get_location rect (start_point path closed)).loc
    on_edge : (get_location rect (start_point path closed)).off ≡ false → (p : Point64) (prev : Location) → point_off closed ≡ found_at p prev
        → StartsFrom closed (if is_inside prev then Inside else (get_location rect (start_point path closed)).loc)

-- its state there: nothing is put down, but for the first point of an open path that starts inside
abbrev pub begun : (ℕ → Bool) → List Point64 → (closed : Bool) → Location → Try (StateOf closed)
begun full path true loc = ok (record { walk = nothing_yet; i = 0; loc = loc; crossing_loc = Inside; first_cross = Inside })
begun full path false loc =
    (if is_inside loc then add full nothing_yet (pt_at path 0) false else ok nothing_yet) >>= λ w. ok (record { walk = w; loc = loc; i = 1 })

-- ---- its passes
-- how many it may take
abbrev pub pass_count : List Point64 → Bool → ℕ
pass_count path true = walk_passes (length path)
pass_count path false = line_walk_passes (length path)

-- where the segment to point i comes from
abbrev pub point_before : List Point64 → Bool → ℕ → Point64
point_before path true i = pt_before path i
point_before path false i = pt_at path (i - 1)

module _ (full : ℕ → Bool) (rect : Rect64) (path : List Point64) where
  -- a pass behind `get_next_location`
  abbrev pub pass_behind : (closed : Bool) → StateOf closed → Next → Try (StateOf closed)
  pass_behind true s nx = pass_from full rect path s nx
  pass_behind false s nx = line_from full rect path s.loc nx

  -- from s on, of at most `left` passes: P of the state and of what `get_next_location` gives, in each that is taken and not past the last point
  abbrev pub EachPass : (closed : Bool) → (StateOf closed → Next → Type 0) → ℕ → StateOf closed → Type 0
  EachPass closed P zero s = Unit {0}
  EachPass closed P (suc left) s =
      ltb (given closed s).i (length path) ≡ true → (nx : Next) → get_next_location full rect path (given closed s).walk (given closed s).loc (given closed s).i ≡ ok nx
      → (leb (length path) nx.i ≡ false → P s nx) × ((t : StateOf closed) → pass_behind closed s nx ≡ ok t → EachPass closed P left t)

  -- in every pass of a call
  abbrev pub InEveryPass : (closed : Bool) → (StateOf closed → Next → Type 0) → Type 0
  InEveryPass closed P = (loc : Location) → StartsFrom rect path closed loc → (s : StateOf closed) → begun full path closed loc ≡ ok s → EachPass closed P (pass_count path closed) s
