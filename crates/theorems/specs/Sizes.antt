-- What a call returns at most, and what its lists hold at most. Statements only.
use Rattle.std.specs.Prelude.{◌≡◌, Bool, true, false, List, [], ◌∷◌, ℕ, suc, ◌+◌, ◌*◌, ◌≤◌, length, T, ℤ}
use Rattle.plane.specs.declared.point.Point64.{Point64}
use Rattle.plane.specs.declared.rect.Rect64.{Rect64}
use Rattle.plane.specs.Basics.{none, ok, ◌>>=◌}
use Rattle.plane.specs.Rectangle.{is_empty, intersects, contains_rect, get_bounds_path}
use Rattle.reference.specs.Walk.{Walked, no_room, walk_closed}
use Rattle.reference.specs.Arena.{Arena, edge_list, check_edges}
use Rattle.reference.specs.Tidy.{one_turn, tidy_edges}
use Rattle.reference.specs.Clip.{arena_of, execute}
use Rattle.reference.specs.Lines.{execute_lines}
use Rattle.plane.specs.Points.{points_of}
use Rattle.reference.specs.Entry.{joined}
use Rattle.plane.specs.Limit.{rect_in_limit, all_in_limit}
use Rattle.theorems.specs.Demand.{is_walked}

-- ---- paths that are not walked
-- bounds in a rectangle that is not empty: a path of three points or more is returned as it came
abbrev pub CopiedWhole : Type 0
CopiedWhole = (full : ℕ → Bool) (A : ℕ) (rect : Rect64) (path : List Point64) → is_empty rect ≡ false → 3 ≤ length path → contains_rect rect (get_bounds_path path) ≡ true → execute full A rect path ≡ ok (path ∷ [], 0)

-- bounds that miss the rectangle
abbrev pub MissedClosed : Type 0
MissedClosed = (full : ℕ → Bool) (A : ℕ) (rect : Rect64) (path : List Point64) → intersects rect (get_bounds_path path) ≡ false → execute full A rect path ≡ ok ([], 0)

abbrev pub MissedOpen : Type 0
MissedOpen = (full : ℕ → Bool) (rect : Rect64) (path : List Point64) → intersects rect (get_bounds_path path) ≡ false → execute_lines full rect path ≡ ok []

-- ---- a call with the allowance A: no more turns, and at most one path more than turns
abbrev pub FewResults : Type 0
FewResults = (full : ℕ → Bool) (A : ℕ) (rect : Rect64) (path : List Point64) (paths : List (List Point64)) (turns : ℕ) → execute full A rect path ≡ ok (paths, turns) → (turns ≤ A) × (length paths ≤ suc turns)

-- ---- a call with room for W points: no more points are returned of a closed path that is walked, and of an open path, whose paths have two or more
abbrev pub FewPoints : Type 0
FewPoints = (W A : ℕ) (rect : Rect64) (coords : List ℤ) (paths : List (List Point64)) (turns : ℕ) → W ≤ none → T (rect_in_limit rect) → T (all_in_limit coords) → T (is_walked rect (points_of coords))
    → execute (no_room W) A rect (points_of coords) ≡ ok (paths, turns) → length (joined paths) ≤ W

abbrev pub FewLines : Type 0
FewLines = (W : ℕ) (rect : Rect64) (path : List Point64) (paths : List (List Point64)) → execute_lines (no_room W) rect path ≡ ok paths → (length (joined paths) ≤ W) × (2 * length paths ≤ W)

-- ---- the lists behind the walk
-- of an arena, and the turns taken: at most one result more than turns, and in each edge list at most as many entries as points and turns
pub record Fits (points A : ℕ) (s : Arena × ℕ) : Type 0 where
  pub turns : s.1 ≤ A
  pub results : length s.0.results ≤ suc s.1
  pub entries : (e : ℕ) → length (edge_list s.0 e) ≤ points + s.1

module _ (A : ℕ) (rect : Rect64) (w : Walked) where
  abbrev pts : List Point64
  pts = w.walk.points

  abbrev checked : Arena × ℕ
  checked = (check_edges pts rect (arena_of w), 0)

  pub record ListsFit : Type 0 where
    pub check : Fits (length pts) A checked
    -- a turn adds at most one result, and at most one entry to any list
    pub turn_results : (idx : ℕ) (a : Arena) (i j : ℕ) → length (one_turn pts idx a i j).arena.results ≤ suc (length a.results)
    pub turn_entries : (idx : ℕ) (a : Arena) (i j e : ℕ) → length (edge_list (one_turn pts idx a i j).arena e) ≤ suc (length (edge_list a e))
    pub left : (s : Arena × ℕ) → tidy_edges pts 0 A checked ≡ ok s → Fits (length pts) A s
    pub top : (s : Arena × ℕ) → (tidy_edges pts 0 A checked >>= tidy_edges pts 1 A) ≡ ok s → Fits (length pts) A s
    pub right : (s : Arena × ℕ) → (tidy_edges pts 0 A checked >>= tidy_edges pts 1 A >>= tidy_edges pts 2 A) ≡ ok s → Fits (length pts) A s
    pub bottom : (s : Arena × ℕ) → (tidy_edges pts 0 A checked >>= tidy_edges pts 1 A >>= tidy_edges pts 2 A >>= tidy_edges pts 3 A) ≡ ok s → Fits (length pts) A s

-- in every call within the coordinate limit, with room for W points: at most W are walked, and the lists fit
abbrev pub ListsAlwaysFit : Type 0
ListsAlwaysFit = (W A : ℕ) (rect : Rect64) (coords : List ℤ) (w : Walked) → W ≤ none → T (rect_in_limit rect) → T (all_in_limit coords) → is_empty rect ≡ false
    → walk_closed (no_room W) rect (points_of coords) ≡ ok w → (length w.walk.points ≤ W) × ListsFit A rect w
