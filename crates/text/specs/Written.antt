-- What the functions that write a line promise: the line at the front of the lent list and the rest as it came, where the list can hold the line.
use Rattle.std.specs.Prelude.{◌≡◌, refl, Bool, List, [], ◌∷◌, ◌++◌, ℕ, ◌+◌, ◌/◌, ◌≤◌, length, drop, leb, ℤ, pos, Option, Some, None, IfSome, if◌then◌else◌}
use Rattle.std.proofs.Common.{ap, arith}
use Rattle.plane.specs.Points.{coordinates_of}
use Rattle.plane.specs.declared.point.Point64.{Point64}
use Rattle.text.specs.Printing.{line_of, path_line}

-- the answer is how many bytes the line has, and None where it does not fit
pub record Written (line out : List ℕ) (r : Option ℕ) (after : List ℕ) : Type 0 where
  pub count : r ≡ (if leb (length line) (length out) then Some (length line) else None)
  pub list_after : after ≡ (if leb (length line) (length out) then line ++ drop (length line) out else out)
  pub within : IfSome r (λ n. n ≤ length after)

-- a path's line from its coordinates
abbrev pub coordinates_line : Bool → ℤ → List ℤ → List ℕ
coordinates_line closed line zs = line_of (if closed then 67 else 76) (line ∷ pos (length zs / 2) ∷ zs)

-- for the coordinates of points it is the line of Printing
pub points_line : (closed : Bool) (line : ℤ) (p : List Point64) → coordinates_line closed line (coordinates_of p) ≡ path_line closed line p
points_line closed line p = ap (λ (n : ℕ). line_of (if closed then 67 else 76) (line ∷ pos n ∷ coordinates_of p)) (half p)
  where
    half : (p : List Point64) → length (coordinates_of p) / 2 ≡ length p
    half p = let e : length (coordinates_of p) ≡ length p + length p = twice p in omega arith
      where
        twice : (p : List Point64) → length (coordinates_of p) ≡ length p + length p
        twice [] = refl
        twice (q ∷ p) = omega (arith, twice p)
