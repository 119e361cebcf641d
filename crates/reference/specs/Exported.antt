-- The exported entries of document 01: 'little-endian signed 32-bit coordinates as bytes, with W = A = 256 and paths up to 128 points'.
-- 'Coordinates and path lengths come back in two lent byte lists, 4 little-endian bytes a number, and paths, points and turns likewise in a third'.
use Rattle.std.specs.Prelude.{Bool, not, ◌||◌, List, [], ◌∷◌, ◌++◌, map, ℕ, suc, ◌+◌, ◌-◌, ◌*◌, ◌/◌, ◌%◌, ◌^◌, length, eqb, ltb, ℤ, pos, negsuc, ◌-ℤ◌, if◌then◌else◌}
use Rattle.plane.specs.declared.rect.Rect64.{Rect64}
use Rattle.plane.specs.Basics.{refuse, ok}
use Rattle.plane.specs.Points.{points_of, coordinates_of}
use Rattle.reference.specs.Walk.{no_room}
use Rattle.reference.specs.Entry.{Drawing, joined, drawing_of, sheet_refusal, filled}

-- four bytes of a number, the lowest first
abbrev pub word : ℕ → List ℕ
word n = n % 256 ∷ n / 256 % 256 ∷ n / 65536 % 256 ∷ n / 16777216 % 256 ∷ []

-- a number of 32 bits, read as signed; and a signed one as 32 bits
abbrev pub signed : ℕ → ℤ
signed n = if ltb n (2 ^ 31) then pos n else pos n -ℤ pos (2 ^ 32)

abbrev pub bits : ℤ → ℕ
bits (pos n) = n
bits (negsuc n) = 2 ^ 32 - suc n

abbrev pub read_words : List ℕ → List ℤ
read_words [] = []
read_words (a ∷ []) = []
read_words (a ∷ b ∷ []) = []
read_words (a ∷ b ∷ c ∷ []) = []
read_words (a ∷ b ∷ c ∷ d ∷ bytes) = signed (a + 256 * b + 65536 * c + 16777216 * d) ∷ read_words bytes

abbrev pub words : List ℕ → List ℕ
words [] = []
words (n ∷ ns) = word n ++ words ns

-- value, coordinate bytes, length bytes, count bytes
abbrev pub Bytes : Type 0
Bytes = ℕ × List ℕ × List ℕ × List ℕ

unfoldable pub exported : Bool → Rect64 → List ℕ → List ℕ → List ℕ → List ℕ → Bytes
exported closed rect bytes coordinates lengths counts =
    let coords = read_words bytes in
    let refused : ℕ → Bytes = λ n. (n, coordinates, lengths, counts) in
    let early = if not (eqb (length bytes % 8) 0) then 1 else sheet_refusal 128 rect coords in
    let drawing = drawing_of closed (no_room 256) 256 rect (points_of coords) in
    let sent : Drawing → Bytes = λ d.
    let c = words (map bits (coordinates_of (joined d.0))) in
    let n = words (map length d.0) in
    let k = words (length d.0 ∷ length (joined d.0) ∷ d.1 ∷ []) in
    if ltb (length coordinates) (length c) || ltb (length lengths) (length n) || ltb (length counts) 12 then refused 11
    else (0, filled c coordinates, filled n lengths, filled k counts) in
    let late : Bytes = elim drawing [ refuse n ↦ refused n | ok d ↦ sent d ] in
    if eqb early 0 then late else refused early
