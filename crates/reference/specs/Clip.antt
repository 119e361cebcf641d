-- `RectClip64::get_path`, and `execute` for one closed path.
use Rattle.std.specs.Prelude.{Bool, not, ◌||◌, List, [], ◌∷◌, ℕ, zero, suc, length, eqb, ltb, if◌then◌else◌}
use Rattle.plane.specs.declared.point.Point64.{Point64}
use Rattle.plane.specs.declared.rect.Rect64.{Rect64}
use Rattle.plane.specs.Basics.{none, is_nil, upwards, Try, ok, ◌>>=◌}
use Rattle.plane.specs.Rectangle.{is_empty, intersects, contains_rect, get_bounds_path}
use Rattle.reference.specs.Walk.{Walked, walk_closed}
use Rattle.reference.specs.Arena.{Arena, pt_of, next_of, prev_of, result_of, set_result, ring, add_to_edge, unlink, unlink_op, is_flat, Round, check_edges}
use Rattle.reference.specs.Tidy.{is_stub, tidy_edges}
use Rattle.reference.specs.Counts.{straighten_passes, ring_passes}

-- the arena that the walk leaves
unfoldable pub enter_all : Arena → List (ℕ × ℕ) → Arena
enter_all a [] = a
enter_all a (e ∷ es) = enter_all (add_to_edge a e.0 e.1) es

unfoldable pub arena_of : Walked → Arena
arena_of w = enter_all (ring (length w.walk.points)) w.entered

module _ (pts : List Point64) where
  -- ---- `get_path`
  -- one pass of its `while op2 != op`
  unfoldable pub straighten_pass : Arena → ℕ → ℕ → Round
  straighten_pass a op op2 =
      let dropped : Round = record { arena = unlink a op2; op = prev_of a op2; op2 = unlink_op a op2 } in
      let kept : Round = record { arena = a; op = op; op2 = next_of a op2 } in
      if is_flat pts a op2 then dropped else kept

  -- the `while`; at most `left` passes. Each node that is dropped lets it go round the others once more
  unfoldable pub straighten : ℕ → Arena → ℕ → ℕ → Round
  straighten zero a op op2 = record { arena = a; op = op; op2 = op2 }
  straighten (suc left) a op op2 =
      let s = straighten_pass a op op2 in
      let rest = straighten left s.arena s.op s.op2 in
      let done : Round = record { arena = a; op = op; op2 = op2 } in
      if eqb op2 none || eqb op2 op then done else rest

  -- the points from node curr on, up to node start; at most `left` of them
  unfoldable pub points_from : ℕ → Arena → ℕ → ℕ → List Point64
  points_from zero a start curr = []
  points_from (suc left) a start curr =
      let rest = pt_of pts curr ∷ points_from left a start (next_of a curr) in
      if eqb curr start then [] else rest

  -- the arena, the result's node afterwards, and the path
  unfoldable pub get_path : Arena → ℕ → Arena × ℕ × List Point64
  get_path a op_start =
      let s = straighten (straighten_passes (length pts)) a op_start (next_of a op_start) in
      let start = s.op2 in
      let b = s.arena in
      let read : Arena × ℕ × List Point64 = (b, start, pt_of pts start ∷ points_from (ring_passes (length pts)) b start (next_of b start)) in
      let emptied : Arena × ℕ × List Point64 = (b, none, []) in
      let straightened = if eqb start none then emptied else if is_stub b start then emptied else read in
      if eqb op_start none then (a, none, [])
      else if is_stub a op_start then (a, none, [])
      else straightened

  -- `for ri in 0..self.results.len()`
  unfoldable pub get_paths : Arena → List ℕ → List (List Point64)
  get_paths a [] = []
  get_paths a (r ∷ rs) =
      let g = get_path a (result_of a r) in
      let rest = get_paths (set_result g.0 r g.1) rs in
      if is_nil g.2 then rest else g.2 ∷ rest

-- ---- `execute` for one path: the returned paths, and the turns of all four edges
unfoldable pub clip_walked : ℕ → Rect64 → Walked → Try (List (List Point64) × ℕ)
clip_walked A rect w =
    let pts = w.walk.points in
    tidy_edges pts 0 A (check_edges pts rect (arena_of w), 0) >>= tidy_edges pts 1 A >>= tidy_edges pts 2 A >>= tidy_edges pts 3 A
    >>= λ t. ok (get_paths pts t.0 (upwards 0 (length t.0.results)), t.1)

unfoldable pub execute : (ℕ → Bool) → ℕ → Rect64 → List Point64 → Try (List (List Point64) × ℕ)
execute full A rect path =
    let bounds = get_bounds_path path in
    let walked = walk_closed full rect path >>= clip_walked A rect in
    if is_empty rect then ok ([], 0)
    else if ltb (length path) 3 then ok ([], 0)
    else if not (intersects rect bounds) then ok ([], 0)
    else if contains_rect rect bounds then ok (path ∷ [], 0)
    else walked
