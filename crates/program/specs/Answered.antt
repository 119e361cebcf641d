-- What the clip program prints for a line, of document 01's section 'The clip program': 'Line 1 gives only 12 or 6', '12 comes before
-- the other checks', and for a path the refusal or the lines of its drawing's paths. Functions of rectangle, line number and request alone.
use Rattle.std.specs.Prelude.{◌≡◌, Bool, List, ℕ, ◌≤◌, length, ℤ, pos, Ok, Err, if◌then◌else◌}
use Rattle.plane.specs.Basics.{Try, refuse, ok}
use Rattle.plane.specs.Limit.{rect_in_limit}
use Rattle.plane.specs.declared.rect.Rect64.{Rect64}
use Rattle.reference.specs.Entry.{Drawing, filled}
use Rattle.entry.specs.Answers.{number}
use Rattle.text.specs.Reading.{Request, unreadable, rectangle, path}
use Rattle.text.specs.Printing.{rectangle_line, refusal_line, path_lines}
use Rattle.handheld.specs.Drawn.{clipped}
use Rattle.program.specs.declared.answers.Start.{Start}

-- ---- line 1: a refusal and nothing that follows, or the R line and its rectangle
abbrev pub first_answer : Request → List ℕ
first_answer unreadable = refusal_line (pos 1) 12
first_answer (path closed zs) = refusal_line (pos 1) 12
first_answer (rectangle r) = if rect_in_limit r then rectangle_line r else refusal_line (pos 1) 6

-- what it starts: nothing, by a refusal's number, or the answers under a rectangle; with how many bytes are printed
pub data Started : Type 0 where
  start_refused : (number bytes : ℕ) → Started
  start_ready : Rect64 → (bytes : ℕ) → Started

-- of each case of the answer
abbrev pub started : Start → Started
started s = elim s.rect [ Err why ↦ start_refused (number why) s.count | Ok r ↦ start_ready r s.count ]

-- of each request
abbrev pub start : Request → ℕ → Started
start unreadable n = start_refused 12 n
start (path closed zs) n = start_refused 12 n
start (rectangle r) n = if rect_in_limit r then start_ready r n else start_refused 6 n

pub record First (asked : Request) (out : List ℕ) (r : Start) (after : List ℕ) : Type 0 where
  pub is : started r ≡ start asked (length (first_answer asked))
  pub list_after : after ≡ filled (first_answer asked) out

-- ---- the other lines
-- a path's refusal, or its drawing
abbrev pub path_answer : Bool → ℤ → Try Drawing → List ℕ
path_answer closed line (refuse n) = refusal_line line n
path_answer closed line (ok d) = path_lines closed line d.0

abbrev pub answer : Rect64 → ℤ → Request → List ℕ
answer rect line unreadable = refusal_line line 12
answer rect line (rectangle r) = refusal_line line 12
answer rect line (path closed zs) = path_answer closed line (clipped closed rect zs)

-- ---- the program's lists have room for every answer, whatever the line's number. Statements only; proved in proofs/Fits.antt
abbrev pub FirstFits : Type 0
FirstFits = (asked : Request) → length (first_answer asked) ≤ 128

abbrev pub AnswerFits : Type 0
AnswerFits = (rect : Rect64) (line : ℤ) (asked : Request) → length (answer rect line asked) ≤ 12288
