-- The walks of `RectClip64::execute_internal` and `RectClipLines64::execute_internal`, over a rectangle and a path alone.
use Rattle.std.specs.Prelude.{Bool, false, not, ◌&&◌, ◌||◌, List, [], ◌∷◌, ℕ, zero, suc, ◌+◌, ◌-◌, ◌*◌, length, drop, ltb, leb, if◌then◌else◌, Option, None, Some}
use Rattle.plane.specs.declared.point.Point64.{Point64}
use Rattle.plane.specs.declared.rect.Rect64.{Rect64}
use Rattle.plane.specs.declared.location.Location.{Location}
use Rattle.plane.specs.declared.location.Location.TheVariants.{Left, Top, Right, Bottom, Inside}
use Rattle.plane.specs.declared.crossing.SidePoint.{SidePoint}
use Rattle.plane.specs.Basics.{push, is_nil, lead, Try, refuse, ok, ◌>>=◌}
use Rattle.plane.specs.Locations.{is_inside, same_location, side, opposite, lower, upper, get_adjacent_location, heading_clockwise, start_locs_are_clockwise}
use Rattle.plane.specs.Points.{pt_at, same_point}
use Rattle.plane.specs.Rectangle.{as_path, mid_point, contains_point, get_bounds_path, get_location, corner, beyond, beyond_or_on}
use Rattle.plane.specs.Intersection.{found_at, get_intersection, found_or}
use Rattle.plane.specs.Signs.{is_clockwise_dir}
use Rattle.plane.specs.Polygon.{path1_contains_path2}
use Rattle.reference.specs.Counts.{corner_steps, walk_passes}

-- What the walk has put down. Points are only ever put behind the last one, so one list holds those of all results, in order.
pub record Walk : Type 0 where
  pub points : List Point64
  pub starts : List ℕ  -- for each result, the position of its first point
  pub start_locs : List Location

abbrev pub nothing_yet : Walk
nothing_yet = record { points = []; starts = []; start_locs = [] }

-- `full n`: a list of n entries has no room for another. A call has `no_room W`; the walked outline of 01 has `unlimited`.
abbrev pub no_room : ℕ → ℕ → Bool
no_room W n = leb W n

abbrev pub unlimited : ℕ → Bool
unlimited n = false

module _ (full : ℕ → Bool) where
  -- ---- `add`: a point equal to the one before is skipped. `results` is empty where there is no point yet
  unfoldable pub add : Walk → Point64 → Bool → Try Walk
  add w pt start_new =
      let n = length w.points in
      let begun : Try Walk = ok (record { points = push w.points pt; starts = push w.starts n; start_locs = w.start_locs }) in
      let longer : Try Walk = ok (record { points = push w.points pt; starts = w.starts; start_locs = w.start_locs }) in
      if is_nil w.points || start_new then (if full n then refuse 8 else begun)
      else if same_point (pt_at w.points (n - 1)) pt then ok w
      else if full n then refuse 8
      else longer

  -- `for pt in path { self.add(*pt, false); }`
  unfoldable pub add_all : Walk → List Point64 → Try Walk
  add_all w [] = ok w
  add_all w (pt ∷ path) = add w pt false >>= λ v. add_all v path

  -- `self.start_locs.push(loc)`
  unfoldable pub push_start_loc : Walk → Location → Try Walk
  push_start_loc w loc =
      if full (length w.start_locs) then refuse 8
      else ok (record { points = w.points; starts = w.starts; start_locs = push w.start_locs loc })

-- the variables that `get_next_location` changes
pub record Next : Type 0 where
  pub walk : Walk
  pub loc : Location
  pub i : ℕ

module _ (rect : Rect64) where
  -- ---- `get_next_location`, of both clippers, but for what it adds
  -- where the point is, seen from side s: across, beyond a neighbour, or inside
  unfoldable pub next_side : Location → Point64 → Location
  next_side s p =
      if beyond_or_on rect (opposite s) p then opposite s
      else if beyond_or_on rect (lower s) p then lower s
      else if beyond_or_on rect (upper s) p then upper s
      else Inside

  -- from outside side s: points on its line or beyond are passed over
  unfoldable pub next_outside : List Point64 → Walk → Location → ℕ → Next
  next_outside path w s i =
      let k = i + lead (beyond_or_on rect s) (drop i path) in
      record { walk = w; loc = if leb (length path) k then s else next_side s (pt_at path k); i = k }

module _ (full : ℕ → Bool) (rect : Rect64) where
  unfoldable pub add_corner_prev_curr : Walk → Location → Location → Try Walk
  add_corner_prev_curr w prev curr = add full w (corner rect (if heading_clockwise prev curr then prev else curr)) false

  -- the walk, and the location that it has come to
  unfoldable pub add_corner_loc : Walk → Location → Bool → Try (Walk × Location)
  add_corner_loc w loc is_clockwise =
      let next = get_adjacent_location loc is_clockwise in
      add full w (corner rect (if is_clockwise then loc else next)) false >>= λ v. ok (v, next)

  -- `loop { self.add_corner_loc(&mut p, ..); if p == loc { break; } }`; at most `left` passes
  unfoldable pub add_corners : ℕ → Walk → Location → Location → Bool → Try Walk
  add_corners zero w p loc is_clockwise = ok w
  add_corners (suc left) w p loc is_clockwise =
      add_corner_loc w p is_clockwise >>= λ t.
      let rest = add_corners left t.0 t.1 loc is_clockwise in
      if same_location t.1 loc then ok t.0 else rest

  -- `loop { self.start_locs.push(p); p = get_adjacent_location(p, ..); if p == loc { break; } }`; at most `left` passes
  unfoldable pub push_start_locs : ℕ → Walk → Location → Location → Bool → Try Walk
  push_start_locs zero w p loc is_clockwise = ok w
  push_start_locs (suc left) w p loc is_clockwise =
      push_start_loc full w p >>= λ v.
      let q = get_adjacent_location p is_clockwise in
      let rest = push_start_locs left v q loc is_clockwise in
      if same_location q loc then ok v else rest

  -- from inside: points are added until one is beyond a side
  unfoldable pub next_inside : Walk → ℕ → List Point64 → Try Next
  next_inside w i [] = ok (record { walk = w; loc = Inside; i = i })
  next_inside w i (p ∷ path) =
      let found : Location → Try Next = λ s. ok (record { walk = w; loc = s; i = i }) in
      if beyond rect Left p then found Left
      else if beyond rect Right p then found Right
      else if beyond rect Bottom p then found Bottom
      else if beyond rect Top p then found Top
      else (add full w p false >>= λ v. next_inside v (i + 1) path)

  unfoldable pub get_next_location : List Point64 → Walk → Location → ℕ → Try Next
  get_next_location path w Left i = ok (next_outside rect path w Left i)
  get_next_location path w Top i = ok (next_outside rect path w Top i)
  get_next_location path w Right i = ok (next_outside rect path w Right i)
  get_next_location path w Bottom i = ok (next_outside rect path w Bottom i)
  get_next_location path w Inside i = next_inside w i (drop i path)

-- ---- The second `get_intersection` of a segment that passes right through, from prev-pt to pt, whose first one found ip. Before it the Rust has
-- `prev` as the side, which a search that finds nothing leaves, and 0, 0 in `ip2`, over which a failed test may write an end or a corner. It never
-- finds nothing where a call comes to it (`SecondSearchFinds` in theorems/specs/SecondSearch.antt); here ip would stand for the point.
unfoldable pub second_search : Rect64 → Point64 → Point64 → Location → Point64 → SidePoint
second_search rect prev_pt pt prev ip = found_or (get_intersection rect prev_pt pt prev) ip prev

-- ---- `RectClip64::execute_internal`
-- what a pass of its `while` hands to the next
pub record State : Type 0 where
  pub walk : Walk
  pub i : ℕ
  pub loc : Location
  pub crossing_loc : Location
  pub first_cross : Location

-- what a pass knows once `get_next_location` has moved on to the point `path[i]`
pub record Pass : Type 0 where
  pub walk : Walk
  pub i : ℕ
  pub prev : Location
  pub loc : Location
  pub crossing_prev : Location
  pub first_cross : Location
  pub prev_pt : Point64
  pub pt : Point64

-- the walked points, and what the walk entered in edge lists: the list, and the position of the point
pub record Walked : Type 0 where
  pub walk : Walk
  pub entered : List (ℕ × ℕ)

module _ (full : ℕ → Bool) (rect : Rect64) where
  -- "remaining outside": no crossing is found
  unfoldable pub remain_outside : Pass → Try State
  remain_outside c =
      let is_clockw = is_clockwise_dir c.prev c.loc c.prev_pt c.pt (mid_point rect) in
      let went_on : Location → Walk → Try State = λ crossing_loc w.
      ok (record { walk = w; i = c.i + 1; loc = c.loc; crossing_loc = crossing_loc; first_cross = c.first_cross }) in
      if is_inside c.crossing_prev then (push_start_locs full rect corner_steps c.walk c.prev c.loc is_clockw >>= went_on c.crossing_prev)
      else if not (is_inside c.prev) && not (same_location c.prev c.loc) then (add_corners full rect corner_steps c.walk c.prev c.loc is_clockw >>= went_on c.loc)
      else went_on c.loc c.walk

  -- "path must be entering rect", at ip
  unfoldable pub enter : Pass → Point64 → Location → Try State
  enter c ip crossing_loc =
      let is_clockw = is_clockwise_dir c.prev crossing_loc c.prev_pt c.pt (mid_point rect) in
      let first = is_inside c.first_cross in
      (if first then push_start_loc full c.walk c.prev
      else if not (same_location c.prev crossing_loc) then add_corners full rect corner_steps c.walk c.prev crossing_loc is_clockw
      else ok c.walk)
      >>= λ w. add full w ip false
      >>= λ v. ok (record { walk = v; i = c.i; loc = c.loc; crossing_loc = crossing_loc; first_cross = if first then crossing_loc else c.first_cross })

  -- "passing right through rect": in at ip2 on side loc, out at ip on side crossing-loc
  unfoldable pub pass_to : Pass → Point64 → Location → Point64 → Location → Try State
  pass_to c ip crossing_loc ip2 loc =
      let first = is_inside c.first_cross in
      let first_cross = if first then loc else c.first_cross in
      let after : Location → Walk → Try State = λ l w. ok (record { walk = w; i = c.i; loc = l; crossing_loc = l; first_cross = first_cross }) in
      (if not (is_inside c.crossing_prev) && not (same_location c.crossing_prev loc)
      then add_corner_prev_curr full rect c.walk c.crossing_prev loc else ok c.walk)
      >>= λ w. (if first then push_start_loc full w c.prev else ok w)
      >>= λ v. add full v ip2 false
      >>= λ u.
      let on : Location = (get_location rect c.pt).loc in
      if same_point ip ip2 then (add_corner_prev_curr full rect u crossing_loc on >>= after on)
      else (add full u ip false >>= after crossing_loc)

  -- in where the second search finds the segment, out where the first one did
  unfoldable pub pass_through : Pass → Point64 → Location → Try State
  pass_through c ip crossing_loc =
      let second = second_search rect c.prev_pt c.pt c.prev ip in
      pass_to c ip crossing_loc second.point second.side

  -- "path must be exiting rect", at ip
  unfoldable pub leave : Pass → Point64 → Location → Try State
  leave c ip crossing_loc =
      add full c.walk ip false >>= λ w.
      ok (record { walk = w; i = c.i; loc = crossing_loc; crossing_loc = crossing_loc; first_cross = if is_inside c.first_cross then crossing_loc else c.first_cross })

  unfoldable pub cross_boundary : Pass → Point64 → Location → Try State
  cross_boundary c ip crossing_loc =
      if is_inside c.loc then enter c ip crossing_loc
      else if not (is_inside c.prev) then pass_through c ip crossing_loc
      else leave c ip crossing_loc

  -- ---- what follows the `while`
  -- the path goes round the rectangle: each corner is added, and entered in its edge list
  unfoldable pub add_round : Walk → List (ℕ × ℕ) → List ℕ → Try Walked
  add_round w entered [] = ok (record { walk = w; entered = entered })
  add_round w entered (k ∷ ks) =
      add full w (corner rect (side k)) false >>= λ v. add_round v (push entered (2 * k, length v.points - 1)) ks

  -- `for &loc2 in &start_locs_clone`: the walk, and the location that it has come to
  unfoldable pub retrace : Walk → Location → List Location → Try (Walk × Location)
  retrace w p [] = ok (w, p)
  retrace w p (loc2 ∷ locs) =
      let same = retrace w p locs in
      let other = add_corner_loc full rect w p (heading_clockwise p loc2) >>= λ t. retrace t.0 loc2 locs in
      if same_location p loc2 then same else other

  unfoldable pub close_outline : State → Try Walked
  close_outline s =
      retrace s.walk s.loc s.walk.start_locs >>= λ t.
      (if not (same_location t.1 s.first_cross)
      then (add_corner_loc full rect t.0 t.1 (heading_clockwise t.1 s.first_cross) >>= λ u. ok u.0)
      else ok t.0)
      >>= λ w. ok (record { walk = w; entered = [] })

-- the search of `execute_internal` for a point off the edges, backwards from the last but one: its location, if there is one
unfoldable pub last_off : Rect64 → List Point64 → ℕ → Option SidePoint
last_off rect path zero = None
last_off rect path (suc i) =
    let before = last_off rect path i in
    let s = get_location rect (pt_at path i) in
    if s.off then found_at (pt_at path i) s.loc else before

-- the point before point i, round the closed path
abbrev pub pt_before : List Point64 → ℕ → Point64
pt_before path i = pt_at path (if ltb 0 i then i - 1 else length path - 1)

module _ (full : ℕ → Bool) (rect : Rect64) (path : List Point64) where
  -- behind `get_next_location`; past the last point the `while` ends
  unfoldable pub pass_from : State → Next → Try State
  pass_from s nx =
      let c : Pass = record { walk = nx.walk; i = nx.i; prev = s.loc; loc = nx.loc; crossing_prev = s.crossing_loc; first_cross = s.first_cross; prev_pt = pt_before path nx.i; pt = pt_at path nx.i } in
      let crossed : Try State =
      elim (get_intersection rect c.pt c.prev_pt c.loc) [ None ↦ remain_outside full rect c | Some found ↦ cross_boundary full rect c found.point found.side ] in
      if leb (length path) nx.i
      then ok (record { walk = nx.walk; i = nx.i; loc = nx.loc; crossing_loc = s.crossing_loc; first_cross = s.first_cross })
      else crossed

  -- the `while i <= high_i`; at most `left` passes. A pass that leaves i where it was is followed by one that moves past that point
  unfoldable pub passes : ℕ → State → Try State
  passes zero s = ok s
  passes (suc left) s =
      let more = get_next_location full rect path s.walk s.loc s.i >>= pass_from s >>= passes left in
      if ltb s.i (length path) then more else ok s

  -- ---- what follows the `while`
  unfoldable pub surround : Walk → Try Walked
  surround w =
      if contains_point (get_bounds_path path) (mid_point rect) && path1_contains_path2 path (as_path rect)
      then add_round full rect w [] (if start_locs_are_clockwise w.start_locs then 0 ∷ 1 ∷ 2 ∷ 3 ∷ [] else 3 ∷ 2 ∷ 1 ∷ 0 ∷ [])
      else ok (record { walk = w; entered = [] })

  unfoldable pub after_while : Location → State → Try Walked
  after_while starting_loc s =
      let unchanged : Try Walked = ok (record { walk = s.walk; entered = [] }) in
      if is_inside s.first_cross then (if not (is_inside starting_loc) then surround s.walk else unchanged)
      else if not (is_inside s.loc) && (not (same_location s.loc s.first_cross) || ltb 2 (length s.walk.start_locs)) then close_outline full rect s
      else unchanged

  unfoldable pub walk_from : Location → Try Walked
  walk_from loc =
      passes (walk_passes (length path)) (record { walk = nothing_yet; i = 0; loc = loc; crossing_loc = Inside; first_cross = Inside }) >>= after_while loc

  -- `execute_internal`
  unfoldable pub walk_closed : Try Walked
  walk_closed =
      let at_last = get_location rect (pt_at path (length path - 1)) in
      let on_edges : Try Walked = add_all full nothing_yet path >>= λ w. ok (record { walk = w; entered = [] }) in
      let from_edge : Try Walked =
      elim (last_off rect path (length path - 1)) [ None ↦ on_edges | Some found ↦ walk_from (if is_inside found.side then Inside else at_last.loc) ] in
      if is_nil path then ok (record { walk = nothing_yet; entered = [] })
      else if at_last.off then walk_from at_last.loc
      else from_edge

-- The walked outline of a rectangle and a closed path. With room for all points no walk is refused: the case of a refusal never comes (`OutlineDrawn`
-- in theorems/specs/Outline.antt).
unfoldable pub walked_outline : Rect64 → List Point64 → List Point64
walked_outline rect path = elim (walk_closed unlimited rect path) [ refuse n ↦ [] | ok w ↦ w.walk.points ]
