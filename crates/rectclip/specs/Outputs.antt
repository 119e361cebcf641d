-- The caller's lists for a result: paths written behind those that they have, and the room for them.
use Rattle.std.specs.Prelude.{◌≡◌, List, [], ◌∷◌, map, ℕ, ◌+◌, ◌*◌, ◌/◌, ◌%◌, ◌<◌, ◌≤◌, ℤ, length, set}
use Rattle.std.proofs.lemmas.List.Edits.{sets}
use Rattle.plane.specs.declared.point.Point64.{Point64}
use Rattle.plane.specs.Points.{points_of, coordinates_of}
use Rattle.reference.specs.Entry.{joined}
use Rattle.rectclip.specs.declared.output.Output.{Output}

-- nothing is filled yet
pub record Unfilled (x : Output) : Type 0 where
  pub paths : x.paths ≡ 0
  pub points : x.points ≡ 0

-- there is room for these paths
pub record Takes (x : Output) (ps : List (List Point64)) : Type 0 where
  pub points : 2 * (x.points + length (joined ps)) ≤ length x.coordinates.now
  pub paths : x.paths + length ps ≤ length x.lengths.now

-- the same lists, whatever they hold
pub record SameLists (x y : Output) : Type 0 where
  pub coordinates : y.coordinates.ghost_name ≡ x.coordinates.ghost_name
  pub lengths : y.lengths.ghost_name ≡ x.lengths.ghost_name

-- these paths stand behind those that were there, and are filled too
pub record Written (x y : Output) (ps : List (List Point64)) : Type 0 where
  pub coordinates : y.coordinates.now ≡ sets x.coordinates.now (2 * x.points) (coordinates_of (joined ps))
  pub lengths : y.lengths.now ≡ sets x.lengths.now x.paths (map length ps)
  pub points : y.points ≡ x.points + length (joined ps)
  pub paths : y.paths ≡ x.paths + length ps
  pub same : SameLists x y

-- these points stand behind those that were there, and are filled too
pub record Pointed (x y : Output) (ps : List Point64) : Type 0 where
  pub coordinates : y.coordinates.now ≡ sets x.coordinates.now (2 * x.points) (coordinates_of ps)
  pub points : y.points ≡ x.points + length ps
  pub lengths : y.lengths.now ≡ x.lengths.now
  pub paths : y.paths ≡ x.paths
  pub same : SameLists x y

-- the last n points are a path
pub record Ended (x y : Output) (n : ℕ) : Type 0 where
  pub coordinates : y.coordinates.now ≡ x.coordinates.now
  pub points : y.points ≡ x.points
  pub lengths : y.lengths.now ≡ set x.lengths.now x.paths n
  pub paths : y.paths ≡ x.paths + 1
  pub same : SameLists x y

-- a list of coordinates may be written as a path
pub record Puts (x : Output) (path : List ℤ) : Type 0 where
  pub even : length path % 2 ≡ 0
  pub few : length path / 2 < 4294967296
  pub takes : Takes x (points_of path ∷ [])
