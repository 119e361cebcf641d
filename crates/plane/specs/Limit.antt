-- The coordinate limit of document 01, ±33,554,432.
use Rattle.std.specs.Prelude.{Bool, true, ◌&&◌, List, [], ◌∷◌, ℕ, leb, ℤ, nat_abs}
use Rattle.rounding.specs.Coordinate.{Limit}
use Rattle.plane.specs.declared.point.Point64.{Point64}
use Rattle.plane.specs.declared.rect.Rect64.{Rect64}

-- the coordinate limit
abbrev pub MAX_COORDINATE : ℕ
MAX_COORDINATE = 33554432

abbrev pub in_limit : ℤ → Bool
in_limit z = leb (nat_abs z) MAX_COORDINATE

abbrev pub all_in_limit : List ℤ → Bool
all_in_limit [] = true
all_in_limit (z ∷ c) = in_limit z && all_in_limit c

abbrev pub rect_in_limit : Rect64 → Bool
rect_in_limit r = in_limit r.left && in_limit r.top && in_limit r.right && in_limit r.bottom

-- the same of a rectangle, a point, and a segment and an edge, as facts
pub record LimitedRect (r : Rect64) : Type 0 where
  pub left : Limit r.left
  pub top : Limit r.top
  pub right : Limit r.right
  pub bottom : Limit r.bottom

pub record Limited (p : Point64) : Type 0 where
  pub across : Limit p.x
  pub down : Limit p.y

pub record AllLimited (a b c d : Point64) : Type 0 where
  pub start : Limited a
  pub end : Limited b
  pub edge : Limited c
  pub far : Limited d
