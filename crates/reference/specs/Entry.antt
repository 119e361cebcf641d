-- The entries: which refusal comes first, what a result gives, and what every lent list holds afterwards.
use Rattle.std.specs.Prelude.{Bool, true, false, not, ◌&&◌, ◌||◌, List, [], ◌∷◌, ◌++◌, map, ℕ, ◌+◌, ◌*◌, ◌/◌, ◌%◌, length, take, drop, replicate, eqb, ltb, leb, ℤ, pos, if◌then◌else◌}
use Rattle.plane.specs.declared.point.Point64.{Point64}
use Rattle.plane.specs.declared.rect.Rect64.{Rect64}
use Rattle.plane.specs.Basics.{Try, refuse, ok, ◌>>=◌}
use Rattle.plane.specs.Points.{points_of, coordinates_of}
use Rattle.plane.specs.Limit.{all_in_limit, rect_in_limit}
use Rattle.plane.specs.Rectangle.{is_empty, intersects, get_bounds_path}
use Rattle.reference.specs.Walk.{no_room}
use Rattle.reference.specs.Clip.{execute}
use Rattle.reference.specs.Lines.{execute_lines}

-- the returned paths, and the turns
abbrev pub Drawing : Type 0
Drawing = List (List Point64) × ℕ

-- the points of all paths, one behind the other
abbrev pub joined : List (List Point64) → List Point64
joined [] = []
joined (p ∷ paths) = p ++ joined paths

-- ---- the refusals that need no drawing, in number order; 0 where none applies
-- whoever drew the sheet: a path of at most `most` points
unfoldable pub sheet_refusal : ℕ → Rect64 → List ℤ → ℕ
sheet_refusal most rect coords =
    if ltb most (length coords / 2) then 5
    else if not (rect_in_limit rect) then 6
    else if not (all_in_limit coords) then 7
    else 0

-- the programmer, and then the sheet: a store for W points, the allowance A, and a work list of so many numbers
unfoldable pub early_refusal : ℕ → ℕ → ℕ → Rect64 → List ℤ → ℕ
early_refusal W A work rect coords =
    if eqb (length coords % 2) 1 then 1
    else if ltb 65536 W then 2
    else if ltb 65535 A then 3
    else if ltb work (16 * (W + A + 1)) then 4
    else sheet_refusal 4096 rect coords

-- ---- what an entry answers: a refusal's number, or how many paths and points a result has and how many turns it took
pub data Outcome : Type 0 where
  refused : ℕ → Outcome
  drawn : (paths points turns : ℕ) → Outcome

-- ---- lists lent by the caller
pub record Lent : Type 0 where
  pub coordinates : List ℤ
  pub lengths : List ℕ
  pub store : List ℤ
  pub work : List ℕ

pub record After : Type 0 where
  pub answer : Outcome
  pub lists : Lent

-- the leading entries are filled, the others as they came
abbrev pub filled : {A : Type 0} → List A → List A → List A
filled new old = new ++ drop (length new) old

-- store and work all zero
abbrev pub cleared : List ℤ → List ℕ → Lent → Lent
cleared c n l = record { coordinates = c; lengths = n; store = replicate (length l.store) (pos 0); work = replicate (length l.work) 0 }

abbrev pub counts_of : Drawing → Outcome
counts_of d = drawn (length d.0) (length (joined d.0)) d.1

-- the drawing, or refusal 11 where the lists to fill are too short for all of it
unfoldable pub delivered : Lent → Drawing → After
delivered l d =
    let c = coordinates_of (joined d.0) in
    let n = map length d.0 in
    if ltb (length l.coordinates) (length c) || ltb (length l.lengths) (length n)
    then record { answer = refused 11; lists = cleared l.coordinates l.lengths l }
    else record { answer = counts_of d; lists = cleared (filled c l.coordinates) (filled n l.lengths) l }

-- what a call leaves, of the drawing that it works out
unfoldable pub answered : Lent → ℕ → Try Drawing → After
answered l early drawing =
    let late : After = elim drawing [ refuse n ↦ record { answer = refused n; lists = cleared l.coordinates l.lengths l } | ok d ↦ delivered l d ] in
    if eqb early 0 then late else record { answer = refused early; lists = l }

-- ---- the two clippers, for one path
-- `RectClip64::execute` and `RectClipLines64::execute`, by the path's kind, with the turn allowance A; lines take no turns
abbrev pub drawing_of : Bool → (ℕ → Bool) → ℕ → Rect64 → List Point64 → Try Drawing
drawing_of true full A rect path = execute full A rect path
drawing_of false full A rect path = execute_lines full rect path >>= λ paths. ok (paths, 0)

-- W is half the store's length, rounded down
unfoldable pub clip_closed : ℕ → Rect64 → List ℤ → Lent → After
clip_closed A rect coords l =
    let W = length l.store / 2 in
    answered l (early_refusal W A (length l.work) rect coords) (drawing_of true (no_room W) A rect (points_of coords))

unfoldable pub clip_open : Rect64 → List ℤ → Lent → After
clip_open rect coords l =
    let W = length l.store / 2 in
    answered l (early_refusal W 0 (length l.work) rect coords) (drawing_of false (no_room W) 0 rect (points_of coords))

-- the clipper of the path's kind
abbrev pub clip_path : Bool → ℕ → Rect64 → List ℤ → Lent → After
clip_path true A rect coords l = clip_closed A rect coords l
clip_path false A rect coords l = clip_open rect coords l

-- the second call: the filled part of the coordinate list, for a number of points; empty where the list cannot hold them
unfoldable pub filled_part : List ℤ → ℕ → List ℤ
filled_part coordinates points = if leb (2 * points) (length coordinates) then take (2 * points) coordinates else []

-- ---- *present*: a refusal's number, or whether the rectangle is not empty and the path's bounds meet it
pub data Presence : Type 0 where
  unknown : ℕ → Presence
  yes : Presence
  no : Presence

unfoldable pub is_present : Rect64 → List ℤ → Presence
is_present rect coords =
    let early = if eqb (length coords % 2) 1 then 1 else sheet_refusal 4096 rect coords in
    if not (eqb early 0) then unknown early
    else if not (is_empty rect) && intersects rect (get_bounds_path (points_of coords)) then yes
    else no
