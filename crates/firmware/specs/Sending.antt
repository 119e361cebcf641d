-- Words of the functions that clip and send a result.
use Rattle.std.specs.Prelude.{not, ◌||◌, List, [], ◌∷◌, map, ℕ, ◌*◌, ◌%◌, ◌≤◌, length, take, eqb, ltb, ℤ, if◌then◌else◌}
use Rattle.reference.specs.Entry.{Outcome, refused, drawn, filled}
use Rattle.reference.specs.Exported.{Bytes, bits, words}

-- what a path's bytes alone are refused for
abbrev pub path_refusal : List ℕ → ℕ
path_refusal bytes = if not (eqb (length bytes % 8) 0) then 1 else if ltb 1024 (length bytes) then 5 else 0

-- what is sent of an answer with its lists
abbrev pub sent : Outcome → List ℤ → List ℕ → List ℕ → List ℕ → List ℕ → Bytes
sent (refused n) results numbers coordinates lengths counts = (n, coordinates, lengths, counts)
sent (drawn paths points turns) results numbers coordinates lengths counts =
    if ltb (length coordinates) (8 * points) || ltb (length lengths) (4 * paths) || ltb (length counts) 12 then (11, coordinates, lengths, counts)
    else (0, filled (words (map bits (take (2 * points) results))) coordinates, filled (words (take paths numbers)) lengths, filled (words (paths ∷ points ∷ turns ∷ [])) counts)

-- the lists hold as many entries as the answer says
abbrev pub Sendable : Outcome → List ℤ → List ℕ → Type 0
Sendable (refused n) results numbers = 0 ≤ n
Sendable (drawn paths points turns) results numbers = (2 * points ≤ length results) × (paths ≤ length numbers)
