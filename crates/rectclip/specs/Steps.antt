-- The walker's steps: what its methods ensure of the walker before and after, and of their answer.
use Rattle.std.specs.Prelude.{◌≡◌, Bool, true, false, suc, List, ℕ, ◌/◌, length, Result, Ok, Err}
use Rattle.std.specs.Borrow.{MutBor}
use Rattle.plane.specs.declared.point.Point64.{Point64}
use Rattle.plane.specs.declared.location.Location.{Location}
use Rattle.plane.specs.Locations.{same_location, get_adjacent_location}
use Rattle.plane.specs.Basics.{Try, refuse, ok}
use Rattle.plane.specs.Points.{points_of}
use Rattle.reference.specs.Walk.{Walk, Next, no_room}
use Rattle.entry.specs.declared.answer.Refusal.{Refusal}
use Rattle.entry.specs.Answers.{number}
use Rattle.rectclip.specs.declared.walk.Walker.{Walker}
use Rattle.rectclip.specs.declared.next.Place.{Place}
use Rattle.rectclip.specs.Walking.{walk_of}
use Rattle.rectclip.specs.Moving.{placed}

-- ---- the definition's words, of a walker
abbrev pub walk : Walker → Walk
walk x = walk_of x.store.now x.work.now x.state

abbrev pub full : Walker → ℕ → Bool
full x = no_room (length x.store.now / 2)

abbrev pub points : Walker → List Point64
points x = points_of x.path.now

-- the walk, at a place on the path
abbrev pub next_of : Walker → Place → Next
next_of x p = placed (walk x) p

-- ---- the same rectangle, path and lists
pub record Same (x y : Walker) : Type 0 where
  pub rect : y.rect ≡ x.rect
  pub path : y.path.now ≡ x.path.now
  pub store : y.store.ghost_name ≡ x.store.ghost_name
  pub work : y.work.ghost_name ≡ x.work.ghost_name
  pub store_length : length y.store.now ≡ length x.store.now
  pub work_length : length y.work.now ≡ length x.work.now

-- what a step answers, or why it is refused
abbrev pub answer : {T A : Type 0} → (T → A) → Result T Refusal → Try A
answer f (Ok t) = ok (f t)
answer f (Err why) = refuse (number why)

-- A step from the walker x to y with the answer r is the definition's `goal`: `view` reads the definition's answer from y and what r holds.
pub record Answers {T A : Type 0} (view : Walker → T → A) (goal : Try A) (x y : Walker) (r : Result T Refusal) : Type 0 where
  pub same : Same x y
  pub is : answer (view y) r ≡ goal

-- a step that answers nothing more than the walk, and one that answers a place too
abbrev pub Steps : Try Walk → Walker → Walker → Result Unit Refusal → Type 0
Steps = Answers (λ y u. walk y)

abbrev pub Moves : Try Next → Walker → Walker → Result Place Refusal → Type 0
Moves = Answers next_of

-- one that answers nothing more than the walk, of a definition that has it at the place
abbrev pub Lands : Place → Try Next → Walker → Walker → Result Unit Refusal → Type 0
Lands at = Answers (λ y u. next_of y at)

-- ---- round the boundary
-- what `run` does at each side from a side on, up to loc, is `one`
pub record Rounds (loc : Location) (cw : Bool) (one : Walk → Location → Try Walk) (run : ℕ → Walk → Location → Try Walk) : Type 0 where
  pub stop : (left : ℕ) (w : Walk) (p : Location) (n : ℕ) → refuse n ≡ one w p → refuse n ≡ run (suc left) w p
  pub end : (left : ℕ) (w v : Walk) (p : Location) → ok v ≡ one w p → same_location (get_adjacent_location p cw) loc ≡ true → ok v ≡ run (suc left) w p
  pub go : (left : ℕ) (w v : Walk) (p : Location) → ok v ≡ one w p → same_location (get_adjacent_location p cw) loc ≡ false → run left v (get_adjacent_location p cw) ≡ run (suc left) w p
  pub none : (w : Walk) (p : Location) → ok w ≡ run 0 w p

-- a call of a closure is `one`, on a walker like x
abbrev pub CallsAre : Walker → (Walk → Location → Try Walk) → (MutBor Walker → Location → Result Unit Refusal → MutBor Walker → Type 0) → Type 0
CallsAre x one call = (v : MutBor Walker) (p : Location) (r : Result Unit Refusal) (w : MutBor Walker) → Same x v.now → call v p r w → Steps (one (walk v.now) p) v.now w.now r
