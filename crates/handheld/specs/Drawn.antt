-- What the handheld draws of a path, a function of rectangle and path alone: document 01's 'W = A = 256 and paths up to 128 points'; lines have A = 0.
-- Stated of it and proved in proofs/Exact.antt, Bounded.antt and HandsOver.antt: it has demand 3, how large it can be, and a call leaves it in its lists.
use Rattle.std.specs.Prelude.{◌≡◌, Bool, ℕ, ◌/◌, ◌%◌, ◌≤◌, length, eqb, ℤ, nat_abs, if◌then◌else◌, Result}
use mathlib.Core.List.{List, map, Memᴰ}
use Rattle.plane.specs.declared.point.Point64.{Point64}
use Rattle.plane.specs.declared.rect.Rect64.{Rect64}
use Rattle.plane.specs.Basics.{Try, refuse, ok}
use Rattle.plane.specs.Points.{points_of, coordinates_of}
use Rattle.reference.specs.Walk.{no_room}
use Rattle.reference.specs.Entry.{Drawing, Outcome, refused, joined, filled, counts_of, sheet_refusal, drawing_of}
use Rattle.theorems.specs.Demand.{Exactness}
use Rattle.entry.specs.declared.answer.Counts.{Counts}
use Rattle.entry.specs.declared.answer.Refusal.{Refusal}
use Rattle.entry.specs.Answers.{outcome}
use Rattle.rectclip.specs.Promises.{Leaves}
use Rattle.handheld.specs.Called.{called}

-- the drawing, after the refusals that need none: 1, and 5 to 7
unfoldable pub clipped : Bool → Rect64 → List ℤ → Try Drawing
clipped closed rect path =
    let early = if eqb (length path % 2) 1 then 1 else sheet_refusal 128 rect path in
    if eqb early 0 then drawing_of closed (no_room 256) 256 rect (points_of path) else refuse early

-- ---- demand 3 of every drawing
abbrev pub AlwaysExact : Type 0
AlwaysExact = (closed : Bool) (rect : Rect64) (path : List ℤ) (d : Drawing) → clipped closed rect path ≡ ok d → Exactness closed rect (points_of path) d.0

-- ---- a call with room for every drawing: the answer, and the two lists as they came or with the drawing's paths in the leading entries
abbrev pub handed : List ℤ → List ℕ → Try Drawing → Outcome × List ℤ × List ℕ
handed coordinates lengths (refuse n) = (refused n, coordinates, lengths)
handed coordinates lengths (ok d) = (counts_of d, filled (coordinates_of (joined d.0)) coordinates, filled (map length d.0) lengths)

abbrev pub HandsOver : Type 0
HandsOver = (closed : Bool) (rect : Rect64) (path coordinates : List ℤ) (lengths : List ℕ) (r : Result Counts Refusal) (coordinates' : List ℤ) (lengths' : List ℕ) → length path / 2 ≤ 128 → length coordinates ≡ 512 → length lengths ≡ 257
    → Leaves (called closed rect path coordinates lengths) r coordinates' lengths' → ◌≡◌ {A = Outcome × List ℤ × List ℕ} (outcome r, coordinates', lengths') (handed coordinates lengths (clipped closed rect path))

-- ---- how large a drawing is: points, paths, and coordinates, which are at most one unit outside the limit
pub record Bounded (d : Drawing) : Type 0 where
  pub points : length (joined d.0) ≤ 256
  pub paths : length d.0 ≤ 257
  pub near : (q : List Point64) → Memᴰ q d.0 → (p : Point64) → Memᴰ p q → (nat_abs p.x ≤ 33554433) × (nat_abs p.y ≤ 33554433)

abbrev pub AlwaysBounded : Type 0
AlwaysBounded = (closed : Bool) (rect : Rect64) (path : List ℤ) (d : Drawing) → clipped closed rect path ≡ ok d → Bounded d
