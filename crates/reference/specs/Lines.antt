-- `RectClipLines64::execute_internal` and `execute` for one open path.
use Rattle.std.specs.Prelude.{Bool, true, false, not, List, [], ◌∷◌, ℕ, zero, suc, ◌+◌, ◌-◌, length, take, drop, ltb, leb, if◌then◌else◌, Option, None, Some}
use Rattle.plane.specs.declared.point.Point64.{Point64}
use Rattle.plane.specs.declared.rect.Rect64.{Rect64}
use Rattle.plane.specs.declared.location.Location.{Location}
use Rattle.plane.specs.declared.location.Location.TheVariants.{Inside}
use Rattle.plane.specs.declared.crossing.SidePoint.{SidePoint}
use Rattle.plane.specs.Basics.{Try, ok, ◌>>=◌}
use Rattle.plane.specs.Points.{pt_at}
use Rattle.plane.specs.Rectangle.{is_empty, intersects, get_bounds_path, get_location}
use Rattle.plane.specs.Intersection.{found_at, get_intersection}
use Rattle.reference.specs.Walk.{Walk, nothing_yet, add, add_all, Next, get_next_location, second_search}
use Rattle.plane.specs.Locations.{is_inside}
use Rattle.reference.specs.Counts.{line_walk_passes}

-- the search for a point off the edges, forwards from the second: its location, if there is one
unfoldable pub first_off_edge : Rect64 → List Point64 → Option SidePoint
first_off_edge rect [] = None
first_off_edge rect (p ∷ rest) =
    let after = first_off_edge rect rest in
    let s = get_location rect p in
    if s.off then found_at p s.loc else after

module _ (full : ℕ → Bool) (rect : Rect64) where
  -- "passing right through rect": in where the second search finds the segment, out at ip
  unfoldable pub line_through : Next → Location → Point64 → Point64 → Point64 → Try Next
  line_through nx prev prev_pt pt ip =
      let second = second_search rect prev_pt pt prev ip in
      add full nx.walk second.point true >>= λ w. add full w ip false >>= λ v. ok (record { walk = v; loc = nx.loc; i = nx.i })

  -- a crossing is found at ip: entering, passing right through, or exiting
  unfoldable pub line_cross : Next → Location → Point64 → Point64 → Point64 → Try Next
  line_cross nx prev prev_pt pt ip =
      if is_inside nx.loc then (add full nx.walk ip true >>= λ w. ok (record { walk = w; loc = nx.loc; i = nx.i }))
      else if not (is_inside prev) then line_through nx prev prev_pt pt ip
      else (add full nx.walk ip false >>= λ w. ok (record { walk = w; loc = nx.loc; i = nx.i }))

module _ (full : ℕ → Bool) (rect : Rect64) (path : List Point64) where
  -- behind `get_next_location`; past the last point the `while` ends
  unfoldable pub line_from : Location → Next → Try Next
  line_from prev nx =
      let pt = pt_at path nx.i in
      let prev_pt = pt_at path (nx.i - 1) in
      let crossed : Try Next =
      elim (get_intersection rect pt prev_pt nx.loc) [
        | None ↦ ok (record { walk = nx.walk; loc = nx.loc; i = nx.i + 1 })
        | Some found ↦ line_cross full rect nx prev prev_pt pt found.point
      ] in
      if leb (length path) nx.i then ok nx else crossed

  -- the `while i <= high_i`; at most `left` passes
  unfoldable pub line_passes : ℕ → Next → Try Next
  line_passes zero s = ok s
  line_passes (suc left) s =
      let more = get_next_location full rect path s.walk s.loc s.i >>= line_from s.loc >>= line_passes left in
      if ltb s.i (length path) then more else ok s

  unfoldable pub line_walk_from : Location → Try Walk
  line_walk_from loc =
      (if is_inside loc then add full nothing_yet (pt_at path 0) false else ok nothing_yet)
      >>= λ w. line_passes (line_walk_passes (length path)) (record { walk = w; loc = loc; i = 1 })
      >>= λ s. ok s.walk

  -- `execute_internal`, of a path of two points or more
  unfoldable pub walk_open : Try Walk
  walk_open =
      let at_first = get_location rect (pt_at path 0) in
      let on_edges = add_all full nothing_yet path in
      let from_edge : Try Walk =
      elim (first_off_edge rect (drop 1 path)) [ None ↦ on_edges | Some found ↦ line_walk_from (if is_inside found.side then Inside else at_first.loc) ] in
      if ltb (length path) 2 then ok nothing_yet
      else if at_first.off then line_walk_from at_first.loc
      else from_edge

-- the results' points: each runs from its start to the next one's
unfoldable pub pieces : List Point64 → List ℕ → List (List Point64)
pieces points [] = []
pieces points (a ∷ []) = drop a points ∷ []
pieces points (a ∷ b ∷ starts) = drop a (take b points) ∷ pieces points (b ∷ starts)

-- `get_path`: a result of one point gives no path
unfoldable pub longer_than_one : List (List Point64) → List (List Point64)
longer_than_one [] = []
longer_than_one (p ∷ paths) = if ltb 1 (length p) then p ∷ longer_than_one paths else longer_than_one paths

-- the returned paths of one open path, with room for W points
unfoldable pub execute_lines : (ℕ → Bool) → Rect64 → List Point64 → Try (List (List Point64))
execute_lines full rect path =
    let walked : Try (List (List Point64)) = walk_open full rect path >>= λ w. ok (longer_than_one (pieces w.points w.starts)) in
    if is_empty rect then ok []
    else if not (intersects rect (get_bounds_path path)) then ok []
    else walked
