-- What `visit_lines` does with the lines of the input, of document 01's sentence 'Lines end with a line feed, which the last may lack'.
use Rattle.std.specs.Prelude.{◌≡◌, List, [], ◌∷◌, ◌++◌, ℕ, ◌+◌, take, eqb, ltb, ℤ, pos, Option, Result, Ok, Err, ◌⊎◌, if◌then◌else◌}
use Rattle.std.specs.List.{onto_first}
use Rattle.std.specs.Io.KnownBytes.{Consumes}

abbrev pub lines_of : List ℕ → List (List ℕ)
lines_of [] = []
lines_of (b ∷ bs) =
    let rest = lines_of bs in
    if eqb b 10 then [] ∷ rest else onto_first b rest

-- the lines with their numbers, from n on, a long one cut behind so many bytes; a line's number is one of 64 signed bits, which no run uses up
abbrev pub numbered : ℕ → ℕ → List (List ℕ) → List (ℤ × List ℕ)
numbered room n [] = []
numbered room n (l ∷ ls) =
    let rest = numbered room (n + 1) ls in
    if ltb n 9223372036854775808 then (pos n, take room l) ∷ rest else []

module _ {S E : Type 0} (gives : S → ℤ → List ℕ → Result (Unit {0}) E → S → Type 0) where
  -- a visitor is given all of the lines, or those up to one to which it answers an error
  abbrev pub Visits : List (ℤ × List ℕ) → S → Result (Unit {0}) E → S → Type 0
  Visits [] s r t = (r ≡ Ok tt) × (t ≡ s)
  Visits (l ∷ ls) s r t = ((u : S) × gives s l.0 l.1 (Ok tt) u × Visits ls u r t) ⊎ ((e : E) × gives s l.0 l.1 (Err e) t × (r ≡ Err e))

  -- of the bytes at hand and those that came behind them
  pub record VisitsLines (room first : ℕ) (ahead ahead' : Option (List ℕ)) (hand : List ℕ) (s : S) (r : Result (Unit {0}) E) (t : S) : Type 0 where
    pub came : List ℕ
    pub given : Consumes ahead ahead' came
    pub visited : Visits (numbered room first (lines_of (hand ++ came))) s r t
