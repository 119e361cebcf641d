-- What the clip program prints for the bytes that it reads, where no write fails: the answer to line 1 and, under its rectangle, those to the lines behind
-- it, one behind another, of a reader and a writer that say which bytes they have and hold. Standard input and output do not, and of them nothing is said
-- here. Nor is it said that the input is read to its end.
use Rattle.std.specs.Prelude.{◌≡◌, if◌then◌else◌, true, false, Option, List, [], ◌∷◌, ◌++◌, ℕ, ◌+◌, ltb, ℤ, pos}
use Rattle.std.specs.Io.KnownBytes.{Appends, Consumes}
use Rattle.plane.specs.Limit.{rect_in_limit}
use Rattle.plane.specs.declared.rect.Rect64.{Rect64}
use Rattle.text.specs.Reading.{Request, unreadable, rectangle, path}
use Rattle.text.specs.Asked.{request}
use Rattle.program.specs.Visited.{lines_of}
use Rattle.program.specs.Answered.{first_answer, answer}

-- the answers to the lines from number n on; a line's number is one of 64 signed bits, which no run uses up
abbrev pub answers_from : Rect64 → ℕ → List (List ℕ) → List ℕ
answers_from rect n [] = []
answers_from rect n (l ∷ ls) =
    let rest = answers_from rect (n + 1) ls in
    if ltb n 9223372036854775808 then answer rect (pos n) (request false l) ++ rest else []

-- what follows the answer to line 1: nothing where that is refused
abbrev pub following : Request → List (List ℕ) → List ℕ
following unreadable ls = []
following (path closed zs) ls = []
following (rectangle r) ls = if rect_in_limit r then answers_from r 2 ls else []

-- where there is no line at all, line 1 is an empty one
abbrev pub answers : List (List ℕ) → List ℕ
answers [] = first_answer (request true [])
answers (l ∷ ls) = first_answer (request true l) ++ following (request true l) ls

-- of the bytes at hand and those that came behind them, the lines behind line 1
pub record PrintsBehind (rect : Rect64) (hand : List ℕ) (ahead ahead' held held' : Option (List ℕ)) : Type 0 where
  pub came : List ℕ
  pub given : Consumes ahead ahead' came
  pub printed : Appends held held' (answers_from rect 2 (lines_of (hand ++ came)))

-- of all that came
pub record PrintsAll (ahead ahead' held held' : Option (List ℕ)) : Type 0 where
  pub came : List ℕ
  pub given : Consumes ahead ahead' came
  pub printed : Appends held held' (answers (lines_of came))

-- of a line behind line 1, by its number and bytes; the rectangle stays
pub record PrintsLine (rect rect' : Rect64) (held held' : Option (List ℕ)) (line : ℤ) (bytes : List ℕ) : Type 0 where
  pub same : rect' ≡ rect
  pub printed : Appends held held' (answer rect line (request false bytes))
