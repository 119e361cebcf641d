-- The line clipper's walk: parts of the definition that the code has in functions of their own.
use Rattle.std.specs.Prelude.{Bool, false, List, ℕ, length, if◌then◌else◌}
use Rattle.plane.specs.declared.point.Point64.{Point64}
use Rattle.plane.specs.declared.rect.Rect64.{Rect64}
use Rattle.plane.specs.declared.location.Location.{Location}
use Rattle.plane.specs.Basics.{Try, ok, ◌>>=◌}
use Rattle.plane.specs.Locations.{is_inside}
use Rattle.plane.specs.Points.{pt_at}
use Rattle.reference.specs.Walk.{Walk, Next, add, get_next_location}
use Rattle.reference.specs.Lines.{line_from, line_passes}

-- one pass of the `while`
abbrev pub one_pass : (ℕ → Bool) → Rect64 → List Point64 → Next → Try Next
one_pass full rect path s = get_next_location full rect path s.walk s.loc s.i >>= line_from full rect path s.loc

-- the passes, and the walk that they end with
abbrev pub all_passes : (ℕ → Bool) → Rect64 → List Point64 → Next → Try Walk
all_passes full rect path s = line_passes full rect path (length path) s >>= λ e. ok e.walk

-- a walk that starts inside has the first point
abbrev pub first_point : (ℕ → Bool) → Walk → List Point64 → Location → Try Walk
first_point full w path loc = if is_inside loc then add full w (pt_at path 0) false else ok w
