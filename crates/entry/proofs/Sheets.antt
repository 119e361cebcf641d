-- The refusals of a sheet, 5, 6 and 7, and what *present* answers, way by way. Assumes nothing.
use Rattle.std.specs.Prelude.{if◌then◌else◌}
use mathlib.Core.Path.{◌≡◌, refl, ◌∙◌}
use mathlib.Core.Bool.{Bool, true, false, not, ◌&&◌}
use mathlib.Core.List.{List}
use Prim.Native.Nat.{ℕ, ◌/◌, ◌%◌, ◌≤◌, ◌<◌}
use lib.Dec.{eqb}
use lib.IntN.{ℤ}
use lib.ListN.{length}
use borrow.Author.Tests.{eq-eqb, ne_eqb, lt-ltb, le-ltb}
use Rattle.plane.specs.Limit.{all_in_limit, rect_in_limit}
use Rattle.plane.specs.Points.{points_of}
use Rattle.plane.specs.Rectangle.{is_empty, intersects, get_bounds_path}
use Rattle.plane.specs.declared.rect.Rect64.{Rect64}
use Rattle.reference.specs.Entry.{sheet_refusal, is_present, unknown, yes, no}
use Rattle.std.specs.Prelude.{Ok}
use Rattle.entry.specs.Answers.{number, presence}
use Rattle.entry.specs.declared.answer.Refusal.{Refusal}
use Rattle.entry.specs.declared.answer.Refusal.TheVariants.{OddCoordinates, StoreTooLong, AllowanceTooLarge, WorkTooShort, PathTooLong, RectangleOutside, PathOutside, StoreFull, TurnsSpent, ListsTooShort, UnreadableLine}

module _ (most : ℕ) (r : Rect64) (c : List ℤ) where
  pub too_long : most < length c / 2 → 5 ≡ sheet_refusal most r c
  unfolding sheet_refusal
  too_long h = rw (lt-ltb most (length c / 2) h)

  pub rect_outside : length c / 2 ≤ most → rect_in_limit r ≡ false → 6 ≡ sheet_refusal most r c
  unfolding sheet_refusal
  rect_outside h e = rw (le-ltb most (length c / 2) h, e)

  pub path_outside : length c / 2 ≤ most → rect_in_limit r ≡ true → all_in_limit c ≡ false → 7 ≡ sheet_refusal most r c
  unfolding sheet_refusal
  path_outside h e f = rw (le-ltb most (length c / 2) h, e, f)

  pub sheet_passes : length c / 2 ≤ most → rect_in_limit r ≡ true → all_in_limit c ≡ true → 0 ≡ sheet_refusal most r c
  unfolding sheet_refusal
  sheet_passes h e f = rw (le-ltb most (length c / 2) h, e, f)

module _ (r : Rect64) (c : List ℤ) where
  pub present_odd : length c % 2 ≡ 1 → unknown 1 ≡ is_present r c
  unfolding is_present
  present_odd h = rw (eq-eqb (length c % 2) 1 h)

  pub present_refused : (length c % 2 ≡ 1 → ⊥) → (n : ℕ) → eqb n 0 ≡ false → n ≡ sheet_refusal 4096 r c → unknown n ≡ is_present r c
  unfolding is_present
  present_refused h n z e = rw (ne_eqb (length c % 2) 1 h, ← e, z)

  pub present_told : (length c % 2 ≡ 1 → ⊥) → 0 ≡ sheet_refusal 4096 r c
      → (if not (is_empty r) && intersects r (get_bounds_path (points_of c)) then yes else no) ≡ is_present r c
  unfolding is_present
  present_told h e = rw (ne_eqb (length c % 2) 1 h, ← e)

  pub present_meets : (length c % 2 ≡ 1 → ⊥) → 0 ≡ sheet_refusal 4096 r c → {empty meets : Bool} {bounds : Rect64}
      → empty ≡ is_empty r → meets ≡ intersects r bounds → bounds ≡ get_bounds_path (points_of c) → presence (Ok (not empty && meets)) ≡ is_present r c
  present_meets h e f g b = rw (f, g, b) (said _ ∙ present_told h e)
    where
      said : (t : Bool) → presence (Ok t) ≡ (if t then yes else no)
      said true = refl
      said false = refl

-- no refusal has the number 0
pub number_not_zero : (why : Refusal) → eqb (number why) 0 ≡ false
number_not_zero OddCoordinates = refl
number_not_zero StoreTooLong = refl
number_not_zero AllowanceTooLarge = refl
number_not_zero WorkTooShort = refl
number_not_zero PathTooLong = refl
number_not_zero RectangleOutside = refl
number_not_zero PathOutside = refl
number_not_zero StoreFull = refl
number_not_zero TurnsSpent = refl
number_not_zero ListsTooShort = refl
number_not_zero UnreadableLine = refl
