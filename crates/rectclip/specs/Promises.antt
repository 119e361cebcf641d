-- What the entries of both clippers promise: the answer, every lent list afterwards, and demand 3 of the paths that a result returns.
use Rattle.std.specs.Prelude.{◌≡◌, Bool, false, List, map, ℕ, ℤ, length, take, Result, Ok}
use Rattle.plane.specs.declared.point.Point64.{Point64}
use Rattle.plane.specs.declared.rect.Rect64.{Rect64}
use Rattle.plane.specs.Basics.{Try}
use Rattle.plane.specs.Points.{points_of, coordinates_of}
use Rattle.theorems.specs.Demand.{Exactness}
use Rattle.reference.specs.Entry.{Drawing, Lent, After, joined, drawing_of, clip_path, filled_part}
use Rattle.reference.specs.Walk.{no_room}
use Rattle.entry.specs.declared.answer.Refusal.{Refusal}
use Rattle.entry.specs.declared.answer.Counts.{Counts}
use Rattle.entry.specs.Answers.{outcome}

-- four lists lent by the caller
abbrev pub lent : List ℤ → List ℕ → List ℤ → List ℕ → Lent
lent coordinates lengths store work = record { coordinates = coordinates; lengths = lengths; store = store; work = work }

-- The answer r and the four lent lists afterwards are those of the definition's call a (reference, Entry). Renders of document 01:
-- 'Checks run in number order; the first that applies is given, and only then', and 'Each returns its number alone, and leaves coordinate
-- and length lists as they came. 1 to 7 leave store and work too; 8 to 11, and every result, leave both all zero. A result gives paths,
-- points and turns, and changes only the leading entries it fills.'
pub record Clips (a : After) (r : Result Counts Refusal) (after : Lent) : Type 0 where
  pub answer : outcome r ≡ a.answer
  pub coordinates : after.coordinates ≡ a.lists.coordinates
  pub lengths : after.lengths ≡ a.lists.lengths
  pub store : after.store ≡ a.lists.store
  pub work : after.work ≡ a.lists.work

-- the answer and the two lists that are filled alone: where store and work are not lent, or are still to be cleared
pub record Leaves (a : After) (r : Result Counts Refusal) (coordinates : List ℤ) (lengths : List ℕ) : Type 0 where
  pub answer : outcome r ≡ a.answer
  pub coords : coordinates ≡ a.lists.coordinates
  pub counts : lengths ≡ a.lists.lengths

-- so many paths with so many points stand in the leading entries of the two lists that a result fills, and they have demand 3
pub record Returned (closed : Bool) (rect : Rect64) (path : List ℤ) (count points : ℕ) (coordinates : List ℤ) (lengths : List ℕ) : Type 0 where
  pub paths : List (List Point64)
  pub path_count : count ≡ length paths
  pub point_count : points ≡ length (joined paths)
  pub point_entries : filled_part coordinates points ≡ coordinates_of (joined paths)
  pub length_entries : take count lengths ≡ map length paths
  pub exact : Exactness closed rect (points_of path) paths

-- where the answer is a result: as many paths and points as its counts say
abbrev pub ReturnedBy : Bool → Rect64 → List ℤ → Result Counts Refusal → List ℤ → List ℕ → Type 0
ReturnedBy closed rect path r coordinates lengths = (c : Counts) → r ≡ Ok c → Returned closed rect path c.paths c.points coordinates lengths

-- `RectClip64::execute` with the turn allowance A, and `RectClipLines64::execute`, by the path's kind: r is the answer, `before` and `after` are
-- the lent lists
pub record ClipsPath (closed : Bool) (A : ℕ) (rect : Rect64) (path : List ℤ) (before : Lent) (r : Result Counts Refusal) (after : Lent) : Type 0 where
  pub clips : Clips (clip_path closed A rect path before) r after
  pub returned : ReturnedBy closed rect path r after.coordinates after.lengths

-- ---- words of the private functions
-- the line clipper's drawing
abbrev pub line_drawing : Rect64 → List ℤ → ℕ → Try Drawing
line_drawing rect path W = drawing_of false (no_room W) 0 rect (points_of path)
