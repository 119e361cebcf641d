-- The line clipper's returned paths, read from the walker: where each result starts, and how many are returned.
use Rattle.std.specs.Prelude.{◌≡◌, List, ℕ, ◌+◌, ◌*◌, ◌≤◌, ltb, ℤ, length, if◌then◌else◌}
use Rattle.std.specs.List.{between}
use Rattle.plane.specs.declared.point.Point64.{Point64}
use Rattle.reference.specs.Walk.{Walk}
use Rattle.reference.specs.Lines.{pieces, longer_than_one}
use Rattle.reference.specs.Entry.{joined}
use Rattle.rectclip.specs.declared.walk.Walker.{Walker}
use Rattle.rectclip.specs.declared.walk.WalkState.{WalkState}
use Rattle.rectclip.specs.declared.paths.Tally.{Tally}
use Rattle.rectclip.specs.Memory.{at}
use Rattle.rectclip.specs.Steps.{walk}

-- the returned paths of a walk
abbrev pub paths_of : Walk → List (List Point64)
paths_of w = longer_than_one (pieces w.points w.starts)

-- where result j starts; behind the last, where the points end
abbrev pub start_of : List ℕ → WalkState → ℕ → ℕ
start_of work s j = if ltb j s.starts then at 4 work j else s.points

-- the coordinates of result j
abbrev pub piece : Walker → ℕ → List ℤ
piece x j = between (2 * start_of x.work.now x.state j) (2 * start_of x.work.now x.state (j + 1)) x.store.now

-- how many paths there are, and how many points they have
pub record Tallied (x : Walker) (r : Tally) : Type 0 where
  pub paths : r.paths ≡ length (paths_of (walk x))
  pub points : r.points ≡ length (joined (paths_of (walk x)))
  pub few : r.paths ≤ x.state.starts
  pub within : r.points ≤ x.state.points
