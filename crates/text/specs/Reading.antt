-- What a line of the clip program's input asks, of document 01's section 'The clip program'. A line is its bytes, line feed left out.
use Rattle.std.specs.Prelude.{Bool, true, false, List, [], ◌∷◌, ℕ, length, eqb, ltb, ℤ, Some, None, if◌then◌else◌}
use Rattle.std.specs.List.{slice_split}
use Rattle.plane.specs.Basics.{Try, refuse, ok, ◌>>=◌}
use Rattle.plane.specs.Rectangle.{rect}
use Rattle.plane.specs.declared.rect.Rect64.{Rect64}
use Rattle.text.specs.Decimal.{field}

-- 'lines up to 4,096 bytes, line feed not counted'
abbrev pub MAX_LINE : ℕ
MAX_LINE = 4096

-- ---- fields parted by commas: there is one more than commas
abbrev pub fields : List ℕ → List (List ℕ)
fields = slice_split (λ b. eqb b 44)

-- the numbers of all fields; 12 where one is none
abbrev pub numbers : List (List ℕ) → Try (List ℤ)
numbers [] = ok []
numbers (f ∷ fs) = elim (field f) [ None ↦ refuse 12 | Some z ↦ numbers fs >>= λ zs. ok (z ∷ zs) ]

-- ---- what a line asks
pub data Request : Type 0 where
  unreadable : Request
  rectangle : Rect64 → Request
  path : (closed : Bool) → List ℤ → Request

-- an R line has four numbers
abbrev pub rectangle_of : List ℤ → Request
rectangle_of [] = unreadable
rectangle_of (l ∷ []) = unreadable
rectangle_of (l ∷ t ∷ []) = unreadable
rectangle_of (l ∷ t ∷ r ∷ []) = unreadable
rectangle_of (l ∷ t ∷ r ∷ b ∷ []) = rectangle (rect l t r b)
rectangle_of (l ∷ t ∷ r ∷ b ∷ x ∷ more) = unreadable

-- the letter and the numbers behind it: R on line 1; C or L on the others
unfoldable pub asked : Bool → ℕ → Try (List ℤ) → Request
asked first letter (refuse n) = unreadable
asked first letter (ok zs) =
    if first then (if eqb letter 82 then rectangle_of zs else unreadable)
    else if eqb letter 67 then path true zs
    else if eqb letter 76 then path false zs
    else unreadable

-- the first field is the letter alone
abbrev pub asked_by : Bool → List (List ℕ) → Request
asked_by first [] = unreadable
asked_by first ([] ∷ fs) = unreadable
asked_by first ((b ∷ []) ∷ fs) = asked first b (numbers fs)
asked_by first ((b ∷ c ∷ bs) ∷ fs) = unreadable

-- line 1 is `first`. An empty line has one empty field
unfoldable pub request : Bool → List ℕ → Request
request first line = if ltb MAX_LINE (length line) then unreadable else asked_by first (fields line)
