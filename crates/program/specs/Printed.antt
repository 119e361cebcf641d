-- Bytes at the front of a lent list, and words of the functions that write them.
use Rattle.std.specs.Prelude.{◌≡◌, Bool, List, ◌++◌, map, ℕ, ◌+◌, ◌%◌, ◌≤◌, length, take, drop, eqb, ltb, ℤ, if◌then◌else◌}
use Rattle.plane.specs.Points.{coordinates_of}
use Rattle.plane.specs.declared.point.Point64.{Point64}
use Rattle.plane.specs.declared.rect.Rect64.{Rect64}
use Rattle.reference.specs.Entry.{joined, filled}
use Rattle.text.specs.Printing.{refusal_line, path_lines}
use Rattle.handheld.specs.Drawn.{clipped}
use Rattle.program.specs.Answered.{path_answer}

-- the bytes, and how many they are
pub record Gives (bytes out : List ℕ) (r : ℕ) (after : List ℕ) : Type 0 where
  pub count : r ≡ length bytes
  pub list_after : after ≡ filled bytes out

-- ---- words of the private functions
-- one line more behind the first `end` bytes
pub record Added (l : List ℕ) (end : ℕ) (out : List ℕ) (r : ℕ) (after : List ℕ) : Type 0 where
  pub ends : r ≡ end + length l
  pub list_after : after ≡ take end out ++ filled l (drop end out)

-- a list's leading entries
pub record Begins {A : Type 0} (xs l : List A) : Type 0 where
  pub others : List A
  pub is : l ≡ xs ++ others

-- paths of these lengths lead the coordinates, and their lines fit
pub record Holds (closed : Bool) (line : ℤ) (coordinates : List ℤ) (lengths out : List ℕ) (paths : List (List Point64)) : Type 0 where
  pub points : Begins (coordinates_of (joined paths)) coordinates
  pub counts : lengths ≡ map length paths
  pub room : length (path_lines closed line paths) ≤ length out

pub record Printable (closed : Bool) (line : ℤ) (coordinates : List ℤ) (lengths out : List ℕ) : Type 0 where
  pub paths : List (List Point64)
  pub holds : Holds closed line coordinates lengths out paths

-- the lines of the paths that the lists hold
pub record Prints (closed : Bool) (line : ℤ) (coordinates : List ℤ) (lengths out : List ℕ) (r : ℕ) (after : List ℕ) : Type 0 where
  pub is : (paths : List (List Point64)) → Holds closed line coordinates lengths out paths → Gives (path_lines closed line paths) out r after

-- a path of `count` numbers; zs has all of them where they are at most 256
abbrev pub numbers_answer : Rect64 → ℤ → Bool → ℕ → List ℤ → List ℕ
numbers_answer rect line closed count zs =
    if eqb (count % 2) 1 then refusal_line line 1
    else if ltb 256 count then refusal_line line 5
    else path_answer closed line (clipped closed rect zs)
