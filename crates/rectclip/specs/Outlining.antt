-- The walk of a closed path on the lent lists: its answer as the definition's, and parts of what follows the `while` that the code
-- has in functions of their own.
use Rattle.std.specs.Prelude.{IfOk, ◌≡◌, Bool, true, false, ◌&&◌, ◌||◌, List, [], ◌∷◌, ℕ, ◌+◌, ◌-◌, ◌/◌, ◌%◌, ◌≤◌, eqb, ℤ, length, if◌then◌else◌, Option, None, Some, Result, Ok, Err}
use Rattle.plane.specs.declared.point.Point64.{Point64}
use Rattle.plane.specs.declared.rect.Rect64.{Rect64}
use Rattle.plane.specs.declared.location.Location.{Location}
use Rattle.plane.specs.declared.location.Location.TheVariants.{Left, Top, Right, Bottom}
use Rattle.plane.specs.Basics.{Try, refuse, ok, ◌>>=◌}
use Rattle.plane.specs.Locations.{side_number, same_location, heading_clockwise}
use Rattle.plane.specs.Points.{points_of}
use Rattle.plane.specs.Polygon.{path1_contains_path2}
use Rattle.plane.specs.Rectangle.{as_path, mid_point, contains_point, get_bounds_path, corner}
use Rattle.reference.specs.Walk.{Walk, State, add, retrace}
use Rattle.reference.specs.Walk as def
use Rattle.rectclip.specs.declared.walk.Walker.{Walker}
use Rattle.entry.specs.declared.answer.Refusal.{Refusal}
use Rattle.rectclip.specs.declared.outline.Outline.{Outline}
use Rattle.rectclip.specs.declared.outline.StepCounts.{StepCounts}
use Rattle.entry.specs.Answers.{number}
use Rattle.rectclip.specs.Memory.{Room}
use Rattle.rectclip.specs.Walking.{walk_of, turned, Fits, Sheet}
use Rattle.rectclip.specs.Steps.{walk, Answers}

-- ---- the answer
-- what the walk of n points entered in edge lists: where it went round, its last four points are the corners
abbrev pub entered_of : ℕ → Option Bool → List (ℕ × ℕ)
entered_of n None = []
entered_of n (Some true) = (0, n - 4) ∷ (2, n - 3) ∷ (4, n - 2) ∷ (6, n - 1) ∷ []
entered_of n (Some false) = (6, n - 4) ∷ (4, n - 3) ∷ (2, n - 2) ∷ (0, n - 1) ∷ []

-- how many of its points are corners that it entered
abbrev pub entries : Option Bool → ℕ
entries None = 0
entries (Some is_clockwise) = 4

abbrev pub outlined : Result Outline Refusal → List ℤ → List ℕ → Try def.Walked
outlined (Ok o) store work = ok (record { walk = walk_of store work o.walk; entered = entered_of o.walk.points o.around })
outlined (Err why) store work = refuse (number why)

-- what the walk ensures of the lists as it leaves them: the answer is the definition's, the walk fits, and it has the corners
pub record Drawn (goal : Try def.Walked) (store : List ℤ) (work : List ℕ) (r : Result Outline Refusal) : Type 0 where
  pub answer : outlined r store work ≡ goal
  pub fits : (o : Outline) → r ≡ Ok o → Fits store work o.walk
  pub corners : (o : Outline) → r ≡ Ok o → entries o.around ≤ o.walk.points

-- the same of a walker, by how it went round
abbrev pub outline : Walker → Option Bool → def.Walked
outline x k = record { walk = walk x; entered = entered_of x.state.points k }

abbrev pub Outlines : Try def.Walked → Walker → Walker → Result (Option Bool) Refusal → Type 0
Outlines = Answers outline

-- the same, and the walk has the corners that it entered
pub record Traces (goal : Try def.Walked) (x y : Walker) (r : Result (Option Bool) Refusal) : Type 0 where
  pub outlines : Outlines goal x y r
  pub corners : IfOk r (λ k. entries k ≤ y.state.points)

-- ---- the start sides' direction
abbrev pub steps_up : Location → Location → Bool
steps_up a b = eqb (side_number b) (side_number a + 1) || eqb (side_number a) (side_number b + 3)

abbrev pub turned_by : StepCounts → Location → Location → StepCounts
turned_by t a b =
    if steps_up a b then record { ups = t.ups + 1; downs = t.downs }
    else if steps_up b a then record { ups = t.ups; downs = t.downs + 1 }
    else t

-- ---- round the rectangle
abbrev pub round_corners : Rect64 → Bool → List Point64
round_corners rect is_clockwise =
    if is_clockwise then corner rect Left ∷ corner rect Top ∷ corner rect Right ∷ corner rect Bottom ∷ []
    else corner rect Bottom ∷ corner rect Right ∷ corner rect Top ∷ corner rect Left ∷ []

abbrev pub path_contains : Rect64 → List Point64 → Bool
path_contains rect path = contains_point (get_bounds_path path) (mid_point rect) && path1_contains_path2 path (as_path rect)

-- ---- back to the side that was crossed first
module _ (full : ℕ → Bool) (rect : Rect64) where
  -- the corner on the way from side p to side q
  unfoldable pub corner_toward : Walk → Location → Location → Try Walk
  corner_toward w p q = if same_location p q then ok w else add full w (turned rect p (heading_clockwise p q)) false

  unfoldable pub close_walk : State → Try Walk
  close_walk s = retrace full rect s.walk s.loc s.walk.start_locs >>= λ t. corner_toward t.0 t.1 s.first_cross

-- ---- what the functions ask
-- a path whose coordinates come in pairs, and its bounds
pub record Bounded (path : List ℤ) (bounds : Rect64) : Type 0 where
  pub even : length path % 2 ≡ 0
  pub bound : bounds ≡ get_bounds_path (points_of path)

-- lists with room for a walk of a path round a rectangle
pub record Walks (rect : Rect64) (path : List ℤ) (bounds : Rect64) (store : List ℤ) (work : List ℕ) : Type 0 where
  pub room : Room (length store / 2 + 1) work
  pub few : length store / 2 ≤ 65536
  pub sheet : Sheet rect path
  pub bounded : Bounded path bounds
