-- `point_in_polygon` of core.rs, as written, and `path1_contains_path2` of rectclip.rs.
use Rattle.std.specs.Prelude.{Bool, false, not, ◌&&◌, ◌||◌, List, [], ◌∷◌, ℕ, zero, suc, ◌+◌, ◌-◌, ◌*◌, ◌%◌, eqb, ltb, leb, ℤ, pos, nat_abs, ◌+ℤ◌, ◌-ℤ◌, length, if◌then◌else◌}
use Rattle.std.specs.Bool.{beq}
use Rattle.std.specs.Int.Signed.{lt_z, le_z}
use Rattle.integers.specs.Tests.{eq_z}
use Rattle.plane.specs.Points.{pt_at}
use Rattle.plane.specs.Signs.{cross_product_sign}
use Rattle.plane.specs.declared.location.PointInPolygonResult.{PointInPolygonResult}
use Rattle.plane.specs.declared.location.PointInPolygonResult.TheVariants.{IsOn, IsInside, IsOutside}
use Rattle.plane.specs.declared.point.Point64.{Point64}

-- The variables of the `loop` of `point_in_polygon`.
pub record Scan : Type 0 where
  pub curr_idx : ℕ
  pub is_above : Bool
  pub wrap_to_start : Bool
  pub val : ℕ

-- how one pass of the `loop` ends: by `return IsOn`, by `break`, or by going on
pub data ScanStep : Type 0 where
  on_edge : ScanStep
  stop : Scan → ScanStep
  again : Scan → ScanStep

module _ (pt : Point64) (polygon : List Point64) where
  abbrev pub len : ℕ
  len = length polygon

  -- the `while` that finds the first vertex with another y; at most `left` passes, `len` is enough
  abbrev pub first_off : ℕ → ℕ → ℕ
  first_off zero i = i
  first_off (suc left) i =
      let rest = first_off left (i + 1) in
      if ltb i len && eq_z (pt_at polygon i).y pt.y then rest else i

  -- "Skip vertices while moving in same direction relative to pt.y"; at most `left` passes, `len` is enough
  abbrev pub skipped : Bool → Bool → ℕ → ℕ → ℕ → ℕ
  skipped is_above wrap first_idx zero i = i
  skipped is_above wrap first_idx (suc left) i =
      let rest = skipped is_above wrap first_idx left (i + 1) in
      let y = (pt_at polygon i).y in
      let same = if is_above then lt_z y pt.y else lt_z pt.y y in
      if not (eqb i len) && (not wrap || ltb i first_idx) && same then rest else i

  abbrev pub before_idx : ℕ → ℕ
  before_idx i = if eqb i 0 then len - 1 else i - 1

  -- a pass from the vertex at i, which is not skipped
  unfoldable pub at_vertex : ℕ → Bool → Bool → ℕ → ℕ → ScanStep
  at_vertex first_idx is_above wrap val i =
      let curr = pt_at polygon i in
      let prev = pt_at polygon (before_idx i) in
      let moved : ScanStep = again (record { curr_idx = i + 1; is_above = is_above; wrap_to_start = wrap; val = val }) in
      let ended : ScanStep = stop (record { curr_idx = i + 1; is_above = is_above; wrap_to_start = wrap; val = val }) in
      let passed : ScanStep = again (record { curr_idx = i + 1; is_above = not is_above; wrap_to_start = wrap; val = val }) in
      let toggled : ScanStep = again (record { curr_idx = i + 1; is_above = not is_above; wrap_to_start = wrap; val = 1 - val }) in
      let d = cross_product_sign prev curr pt in
      if eq_z curr.y pt.y
      then (if eq_z curr.x pt.x || (eq_z curr.y prev.y && not (beq (lt_z pt.x prev.x) (lt_z pt.x curr.x))) then on_edge
      else if eqb (i + 1) first_idx then ended
      else moved)
      else if lt_z pt.x curr.x && lt_z pt.x prev.x then passed
      else if lt_z prev.x pt.x && lt_z curr.x pt.x then toggled
      else if eq_z d (pos 0) then on_edge
      else if beq (lt_z d (pos 0)) is_above then toggled
      else passed

  -- one pass of the `loop`
  unfoldable pub scan_pass : ℕ → Scan → ScanStep
  scan_pass first_idx s =
      let at_end = eqb s.curr_idx len in
      let wrap = at_end || s.wrap_to_start in
      let i = skipped s.is_above wrap first_idx len (if at_end then 0 else s.curr_idx) in
      let skipping : ScanStep = again (record { curr_idx = i; is_above = s.is_above; wrap_to_start = wrap; val = s.val }) in
      let vertex = at_vertex first_idx s.is_above wrap s.val i in
      if at_end && (s.wrap_to_start || eqb first_idx 0) then stop s
      else if eqb i len || (wrap && leb first_idx i) then skipping
      else vertex

  -- "Final edge case check", and the answer
  unfoldable pub scan_answer : Bool → Scan → PointInPolygonResult
  scan_answer starting_above s =
      let i = if leb len s.curr_idx then 0 else s.curr_idx in
      let d = cross_product_sign (pt_at polygon (before_idx i)) (pt_at polygon i) pt in
      let answer : ℕ → PointInPolygonResult = λ val. if eqb val 0 then IsOutside else IsInside in
      if not (beq s.is_above starting_above)
      then (if eq_z d (pos 0) then IsOn else if beq (lt_z d (pos 0)) s.is_above then answer (1 - s.val) else answer s.val)
      else answer s.val

  -- the `loop`; at most `left` passes
  unfoldable pub scan_loop : ℕ → ℕ → Bool → Scan → PointInPolygonResult
  scan_loop first_idx zero starting_above s = scan_answer starting_above s
  scan_loop first_idx (suc left) starting_above s =
      elim (scan_pass first_idx s) [ on_edge ↦ IsOn | stop t ↦ scan_answer starting_above t | again t ↦ scan_loop first_idx left starting_above t ]

  -- the variables as the `loop` begins, behind the first vertex off the point's row
  abbrev pub scan_start : ℕ → Scan
  scan_start first_idx = record { curr_idx = (first_idx + 1) % len; is_above = lt_z (pt_at polygon first_idx).y pt.y; wrap_to_start = false; val = 0 }

  -- The passes of the `loop`: each but two moves on by a vertex or ends, and it goes round at most twice.
  abbrev pub scan_passes : ℕ
  scan_passes = 2 * len + 2

  unfoldable pub point_in_polygon : PointInPolygonResult
  point_in_polygon =
      let first_idx = first_off len 0 in
      let start = scan_start first_idx in
      let answer = scan_loop first_idx scan_passes start.is_above start in
      if ltb len 3 then IsOutside
      else if eqb first_idx len then IsOutside
      else answer

-- `path1_contains_path2`
abbrev pub counted : ℤ → PointInPolygonResult → ℤ
counted io_count IsOutside = io_count +ℤ pos 1
counted io_count IsInside = io_count -ℤ pos 1
counted io_count IsOn = io_count

abbrev pub contains_from : List Point64 → ℤ → List Point64 → ℤ
contains_from path1 io_count [] = io_count
contains_from path1 io_count (pt ∷ path2) =
    let io = counted io_count (point_in_polygon pt path1) in
    let rest = contains_from path1 io path2 in
    if ltb 1 (nat_abs io) then io else rest

unfoldable pub path1_contains_path2 : List Point64 → List Point64 → Bool
path1_contains_path2 path1 path2 = le_z (contains_from path1 (pos 0) path2) (pos 0)
