-- Points, as core.rs has them, and a path's coordinates: x then y.
use Rattle.std.specs.Prelude.{Bool, ◌&&◌, List, [], ◌∷◌, ℕ, ℤ, pos, get_or}
use Rattle.integers.specs.Tests.{eq_z}
use Rattle.plane.specs.declared.point.Point64.{Point64}

-- points
abbrev pub point : ℤ → ℤ → Point64
point x y = record { x = x; y = y }

abbrev pub origin : Point64
origin = point (pos 0) (pos 0)

-- `p == q`
abbrev pub same_point : Point64 → Point64 → Bool
same_point p q = eq_z p.x q.x && eq_z p.y q.y

-- `path[i]`
abbrev pub pt_at : List Point64 → ℕ → Point64
pt_at path i = get_or path i origin

-- coordinates and points: x then y
abbrev pub points_of : List ℤ → List Point64
points_of [] = []
points_of (x ∷ []) = []
points_of (x ∷ y ∷ c) = point x y ∷ points_of c

abbrev pub coordinates_of : List Point64 → List ℤ
coordinates_of [] = []
coordinates_of (p ∷ path) = p.x ∷ p.y ∷ coordinates_of path
