-- The scan of `point_in_polygon` as the code has it: its variables and steps, and parts of a pass in functions of their own.
use Rattle.std.specs.Prelude.{Bool, true, false, not, ◌&&◌, ◌||◌, ℕ, ◌+◌, ◌≤◌, eqb, pos, if◌then◌else◌}
use Rattle.std.specs.Bool.{beq}
use Rattle.std.specs.Int.Signed.{lt_z}
use Rattle.integers.specs.Tests.{eq_z}
use Rattle.plane.specs.Polygon as polygon
use Rattle.plane.specs.Signs.{cross_product_sign}
use Rattle.plane.specs.declared.location.PointInPolygonResult.{PointInPolygonResult}
use Rattle.plane.specs.declared.location.PointInPolygonResult.TheVariants.{IsInside, IsOutside}
use Rattle.plane.specs.declared.point.Point64.{Point64}
use Rattle.rectclip.specs.declared.polygon.Scan.{Scan}
use Rattle.rectclip.specs.declared.polygon.ScanStep.{ScanStep}
use Rattle.rectclip.specs.declared.polygon.ScanStep.TheVariants.{OnEdge, Stop, Again}
use Rattle.rectclip.specs.declared.polygon.Passing.{Passing}
use Rattle.rectclip.specs.declared.polygon.Passing.TheVariants.{Through, Aside, Across}

-- a truth value as the number that the definition has for it
abbrev pub bit : Bool → ℕ
bit false = 0
bit true = 1

abbrev pub scan_of : Scan → polygon.Scan
scan_of s = record { curr_idx = s.curr_idx; is_above = s.is_above; wrap_to_start = s.wrap_to_start; val = bit s.val }

abbrev pub step_of : ScanStep → polygon.ScanStep
step_of OnEdge = polygon.on_edge
step_of (Stop s) = polygon.stop (scan_of s)
step_of (Again s) = polygon.again (scan_of s)

-- how the edge from prev to curr, whose end is not at the point's height, passes the point
unfoldable pub passing_of : Point64 → Point64 → Point64 → Bool → Passing
passing_of pt prev curr is_above =
    let d = cross_product_sign prev curr pt in
    if lt_z pt.x curr.x && lt_z pt.x prev.x then Aside
    else if lt_z prev.x pt.x && lt_z curr.x pt.x then Across
    else if eq_z d (pos 0) then Through
    else if beq (lt_z d (pos 0)) is_above then Across
    else Aside

-- whether an edge whose end is at the point's height holds the point
unfoldable pub line_of : Point64 → Point64 → Point64 → Bool
line_of pt prev curr = eq_z curr.x pt.x || (eq_z curr.y prev.y && not (beq (lt_z pt.x prev.x) (lt_z pt.x curr.x)))

-- a scan stays on the polygon's n vertices
abbrev pub Scanning : ℕ → ScanStep → Type 0
Scanning n OnEdge = 0 ≤ n
Scanning n (Stop s) = s.curr_idx ≤ n
Scanning n (Again s) = s.curr_idx ≤ n

-- a pass from the vertex at i, whose edge passes the point so
abbrev pub passed_of : Scan → ℕ → Passing → ScanStep
passed_of s i Through = OnEdge
passed_of s i Aside = Again (record { curr_idx = i + 1; is_above = not s.is_above; wrap_to_start = s.wrap_to_start; val = s.val })
passed_of s i Across = Again (record { curr_idx = i + 1; is_above = not s.is_above; wrap_to_start = s.wrap_to_start; val = not s.val })

-- a pass from the vertex at i, which is at the point's height
abbrev pub level_of : Scan → ℕ → ℕ → Bool → ScanStep
level_of s i first_idx on =
    let t : Scan = record { curr_idx = i + 1; is_above = s.is_above; wrap_to_start = s.wrap_to_start; val = s.val } in
    if on then OnEdge else if eqb (i + 1) first_idx then Stop t else Again t

-- the answer of the variable's value
abbrev pub answer_of : Bool → PointInPolygonResult
answer_of val = if val then IsInside else IsOutside
