-- What `read_line` answers and what its lent list holds afterwards, by the definition of Reading: document 01's number or values for each case of
-- the answer, a path's numbers counted, and those numbers at the front of the list, as many as it can hold.
use Rattle.std.specs.Prelude.{◌≡◌, Bool, List, [], ◌++◌, ℕ, ℤ, length, take, drop, Option, Some, None}
use Rattle.plane.specs.declared.rect.Rect64.{Rect64}
use Rattle.text.specs.declared.reading.Request.{Request as Answer}
use Rattle.text.specs.declared.reading.Request.TheVariants.{Rectangle, Path}
use Rattle.text.specs.Reading.{Request, unreadable, rectangle, path}
use Rattle.text.specs.Reading as reading

abbrev pub request : Bool → List ℕ → Request
request = reading.request

-- ---- what the answer tells: a refusal's number; line 1's rectangle; or a path's kind and how many numbers it has
pub data Told : Type 0 where
  told_refusal : ℕ → Told
  told_rectangle : Rect64 → Told
  told_path : (closed : Bool) (count : ℕ) → Told

-- of each case of the answer. '12 unreadable line'
abbrev pub told : Option Answer → Told
told None = told_refusal 12
told (Some (Rectangle r)) = told_rectangle r
told (Some (Path closed count)) = told_path closed count

-- of each request
abbrev pub tells : Request → Told
tells unreadable = told_refusal 12
tells (rectangle r) = told_rectangle r
tells (path closed zs) = told_path closed (length zs)

-- ---- the lent list
-- a path's numbers; nothing is stored for another line
abbrev pub stored : Request → List ℤ
stored unreadable = []
stored (rectangle r) = []
stored (path closed zs) = zs

-- the numbers in place of the list's leading entries, as many as it can hold, and the others as they came
abbrev pub led_by : List ℤ → List ℤ → List ℤ
led_by zs list = take (length list) zs ++ drop (length zs) list

pub record Asks (asked : Request) (list : List ℤ) (r : Option Answer) (after : List ℤ) : Type 0 where
  pub is : told r ≡ tells asked
  pub list_after : after ≡ led_by (stored asked) list
