-- Document 01's numbers and values for the cases of the answers.
use Rattle.std.specs.Prelude.{List, ℕ, eqb, ℤ, Bool, true, false, Result, Ok, Err, if◌then◌else◌}
use Rattle.plane.specs.Points.{points_of}
use Rattle.plane.specs.Rectangle.{get_bounds_path}
use Rattle.plane.specs.declared.rect.Rect64.{Rect64}
use Rattle.reference.specs.Entry.{Outcome, refused, drawn, Presence, unknown, yes, no}
use Rattle.entry.specs.declared.answer.Refusal.{Refusal}
use Rattle.entry.specs.declared.answer.Refusal.TheVariants.{OddCoordinates, StoreTooLong, AllowanceTooLarge, WorkTooShort, PathTooLong, RectangleOutside, PathOutside, StoreFull, TurnsSpent, ListsTooShort, UnreadableLine}
use Rattle.entry.specs.declared.answer.Counts.{Counts}

-- 9 is not used: document 02, change 4/13
abbrev pub number : Refusal → ℕ
number OddCoordinates = 1
number StoreTooLong = 2
number AllowanceTooLarge = 3
number WorkTooShort = 4
number PathTooLong = 5
number RectangleOutside = 6
number PathOutside = 7
number StoreFull = 8
number TurnsSpent = 10
number ListsTooShort = 11
number UnreadableLine = 12

-- 0 where nothing is refused
abbrev pub value : {A : Type 0} → Result A Refusal → ℕ
value (Ok a) = 0
value (Err r) = number r

abbrev pub outcome : Result Counts Refusal → Outcome
outcome (Ok c) = drawn c.paths c.points c.turns
outcome (Err r) = refused (number r)

abbrev pub presence : Result Bool Refusal → Presence
presence (Ok true) = yes
presence (Ok false) = no
presence (Err r) = unknown (number r)

-- ---- what the checks say: a refusal's number, or the bounds of a path that they let through
pub data Checked : Type 0 where
  stopped : ℕ → Checked
  surveyed : Rect64 → Checked

abbrev pub checked : Result Rect64 Refusal → Checked
checked (Ok b) = surveyed b
checked (Err r) = stopped (number r)

-- 0 where no check stops the call
abbrev pub admission : ℕ → List ℤ → Checked
admission n coords = if eqb n 0 then surveyed (get_bounds_path (points_of coords)) else stopped n
