-- What the private functions that read a line answer, step by step. The definitions that the public ones cite are in Decimal and Reading.
use Rattle.std.specs.Prelude.{Bool, not, ◌||◌, List, [], ◌∷◌, ℕ, ◌+◌, ◌^◌, length, eqb, leb, ℤ, Option, Some, None, if◌then◌else◌}
use Rattle.plane.specs.Basics.{is_nil, Try, refuse, ok}
use Rattle.text.specs.Decimal.{all_digits, value_from, field}
use Rattle.text.specs.Reading.{Request, unreadable, path, rectangle_of, fields, numbers}

-- the number that one digit or more stand for, where it is at most one more than 2 ^ 63, which is beyond every field's; None where it is larger, or where
-- one is no digit
unfoldable pub magnitude : List ℕ → Option ℕ
magnitude bs = let n = value_from 0 bs in if is_nil bs || not (all_digits bs) then None else if leb n (2 ^ 63 + 1) then Some n else None

-- how many numbers there are behind n of them, where all fields are numbers
abbrev pub counted : ℕ → Try (List ℤ) → Option ℕ
counted n (refuse k) = None
counted n (ok zs) = Some (n + length zs)

-- the numbers before the first field that is none
abbrev pub leading : List (List ℕ) → List ℤ
leading [] = []
leading (f ∷ fs) = elim (field f) [ None ↦ [] | Some z ↦ z ∷ leading fs ]

-- the numbers behind the letter, from the bytes behind it
abbrev pub behind : List ℕ → Try (List ℤ)
behind [] = ok []
behind (c ∷ bs) = if eqb c 44 then numbers (fields bs) else refuse 12

abbrev pub leading_behind : List ℕ → List ℤ
leading_behind [] = []
leading_behind (c ∷ bs) = if eqb c 44 then leading (fields bs) else []

abbrev pub path_asked : Bool → Try (List ℤ) → Request
path_asked closed (refuse k) = unreadable
path_asked closed (ok zs) = path closed zs

abbrev pub rectangle_asked : Try (List ℤ) → Request
rectangle_asked (refuse k) = unreadable
rectangle_asked (ok zs) = rectangle_of zs
