-- What the early checks of a call tell: of its path and rectangle, and of the lists that it works in.
use Rattle.std.specs.Prelude.{◌≡◌, true, List, ℕ, ◌+◌, ◌*◌, ◌/◌, ◌%◌, ◌≤◌, ℤ, length}
use Rattle.plane.specs.declared.rect.Rect64.{Rect64}
use Rattle.plane.specs.Limit.{all_in_limit, rect_in_limit}
use Rattle.plane.specs.Points.{points_of}
use Rattle.plane.specs.Rectangle.{get_bounds_path}

-- a rectangle, and a path with its bounds
pub record Admitted (rect : Rect64) (path : List ℤ) (bounds : Rect64) : Type 0 where
  pub even : length path % 2 ≡ 0
  pub short : length path / 2 ≤ 4096
  pub frame : rect_in_limit rect ≡ true
  pub points : all_in_limit path ≡ true
  pub bound : bounds ≡ get_bounds_path (points_of path)

-- room for the points that the store has, for A turns, and for one slot more
pub record Allowance (A : ℕ) (store : List ℤ) (work : List ℕ) : Type 0 where
  pub cells : 16 * (length store / 2 + A + 1) ≤ length work
  pub few : length store / 2 ≤ 65536
  pub turns : A ≤ 65535
