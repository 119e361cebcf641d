-- The store as the definition's points: the first n points that it holds are those of the nodes.
use Rattle.std.specs.Prelude.{List, ℕ, ◌*◌, ◌<◌, ◌≤◌, length, take, ℤ}
use Rattle.plane.specs.declared.point.Point64.{Point64}
use Rattle.plane.specs.Points.{points_of}
use Rattle.reference.specs.Arena.{pt_of}
use Rattle.rectclip.specs.Bounds.{Reached}

unfoldable pub points_in : List ℤ → ℕ → List Point64
points_in store n = take n (points_of store)

-- the store has n points, none more than a unit past the limit
pub record Drawn (store : List ℤ) (n : ℕ) : Type 0 where
  pub room : 2 * n ≤ length store
  pub reached : (i : ℕ) → i < n → Reached (pt_of (points_in store n) i)
