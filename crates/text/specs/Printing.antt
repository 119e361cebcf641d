-- What the clip program prints: 'the R line, then for each returned path: kind, input line (from 1), number of points, coordinates.
-- A refusal prints X,line,number.' Lines end with a line feed, 10.
use Rattle.std.specs.Prelude.{Bool, List, [], ◌∷◌, ◌++◌, ℕ, length, ℤ, pos, if◌then◌else◌}
use Rattle.plane.specs.Points.{coordinates_of}
use Rattle.plane.specs.declared.point.Point64.{Point64}
use Rattle.plane.specs.declared.rect.Rect64.{Rect64}
use Rattle.text.specs.Decimal.{signed_decimal}

-- `,number` for each number
abbrev pub comma_numbers : List ℤ → List ℕ
comma_numbers [] = []
comma_numbers (z ∷ zs) = 44 ∷ signed_decimal z ++ comma_numbers zs

-- a letter, numbers, a line feed
abbrev pub line_of : ℕ → List ℤ → List ℕ
line_of letter zs = letter ∷ comma_numbers zs ++ 10 ∷ []

abbrev pub rectangle_line : Rect64 → List ℕ
rectangle_line r = line_of 82 (r.left ∷ r.top ∷ r.right ∷ r.bottom ∷ [])

abbrev pub refusal_line : ℤ → ℕ → List ℕ
refusal_line line number = line_of 88 (line ∷ pos number ∷ [])

-- C or L, the line, how many points, and their coordinates
abbrev pub path_line : Bool → ℤ → List Point64 → List ℕ
path_line closed line p = line_of (if closed then 67 else 76) (line ∷ pos (length p) ∷ coordinates_of p)

abbrev pub path_lines : Bool → ℤ → List (List Point64) → List ℕ
path_lines closed line [] = []
path_lines closed line (p ∷ paths) = path_line closed line p ++ path_lines closed line paths
