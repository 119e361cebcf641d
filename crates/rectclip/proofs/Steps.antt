-- Steps of the walker, one after the other. Assumes nothing.
use mathlib.Core.Path.{◌≡◌, refl, ◌∙◌, ap}
use mathlib.Core.Bool.{Bool}
use mathlib.Core.List.{List}
use Prim.Native.Nat.{ℕ, ◌/◌}
use Rattle.std.specs.Prelude.{Result, Ok, Err}
use Rattle.plane.specs.declared.point.Point64.{Point64}
use Rattle.plane.specs.declared.rect.Rect64.{Rect64}
use Rattle.plane.specs.Basics.{Try, refuse, ok, ◌>>=◌}
use Rattle.plane.specs.Points.{points_of}
use Rattle.reference.specs.Walk.{no_room}
use Rattle.entry.specs.declared.answer.Refusal.{Refusal}
use Rattle.entry.specs.Answers.{number}
use Rattle.rectclip.specs.declared.walk.Walker.{Walker}
use Rattle.rectclip.specs.Steps.{full, points, Same, answer, Answers}
use Rattle.rectclip.proofs.Walking.{on_ok, on_refuse}

pub same_refl : (x : Walker) → Same x x
same_refl x = record { rect = refl; path = refl; store = refl; work = refl; store_length = refl; work_length = refl }

pub same_then : {x y z : Walker} → Same x y → Same y z → Same x z
same_then S U = record {
  rect = U.rect ∙ S.rect;
  path = U.path ∙ S.path;
  store = U.store ∙ S.store;
  work = U.work ∙ S.work;
  store_length = U.store_length ∙ S.store_length;
  work_length = U.work_length ∙ S.work_length;
}

-- what a definition says of a walker's room, rectangle and path, and that a step leaves it so
abbrev pub on : {A : Type 0} → ((ℕ → Bool) → Rect64 → List Point64 → A) → Walker → A
on f x = f (full x) x.rect (points x)

pub on_same : {A : Type 0} (f : (ℕ → Bool) → Rect64 → List Point64 → A) {x y : Walker} → Same x y → on f y ≡ on f x
on_same f S = λ j. f (no_room (S.store_length j / 2)) (S.rect j) (points_of (S.path j))

-- ---- a step that changes nothing
module _ {T A : Type 0} {view : Walker → T → A} {goal : Try A} {x : Walker} where
  pub stays : {t : T} → ok (view x t) ≡ goal → Answers view goal x x (Ok t)
  stays e = record { same = same_refl x; is = e }

  pub refused : {why : Refusal} → refuse (number why) ≡ goal → Answers view goal x x (Err why)
  refused e = record { same = same_refl x; is = e }

-- ---- what follows a step
module _ {T A : Type 0} {view : Walker → T → A} {goal : Try A} {x y : Walker} {r : Result T Refusal} (R : Answers view goal x y r) where
  -- the goal by another name
  pub named : {goal' : Try A} → goal ≡ goal' → Answers view goal' x y r
  named e = record { same = R.same; is = R.is ∙ e }

  pub done_is : {t : T} → r ≡ Ok t → ok (view y t) ≡ goal
  done_is e = rw e at R.is

  pub refused_is : {why : Refusal} → r ≡ Err why → refuse (number why) ≡ goal
  refused_is e = rw e at R.is

  module _ {U B : Type 0} {look : Walker → U → B} where
    -- a step follows, of what the first one answers
    pub step_then : {t : T} → r ≡ Ok t → (f : (ℕ → Bool) → Rect64 → List Point64 → A → Try B) {z : Walker} {q : Result U Refusal} → Answers look (on f y (view y t)) y z q → Answers look (goal >>= on f x) x z q
    step_then {t} e f Q = record {
      same = same_then R.same Q.same;
      is = Q.is ∙ ap (λ (g : A → Try B). g (view y t)) (on_same f R.same) ∙ on_ok (on f x) (done_is e);
    }

    -- nothing follows a refusal
    pub step_lost : {why : Refusal} → r ≡ Err why → (f : A → Try B) → Answers look (goal >>= f) x y (Err why)
    step_lost e f = record { same = R.same; is = on_refuse f (refused_is e) }

  -- the same goal, answered in other words
  pub ends_as : {U : Type 0} {look : Walker → U → A} {t : T} → r ≡ Ok t → {u : U} → look y u ≡ view y t → Answers look goal x y (Ok u)
  ends_as e h = record { same = R.same; is = ap ok h ∙ done_is e }

  pub lost_as : {U : Type 0} {look : Walker → U → A} {why : Refusal} → r ≡ Err why → Answers look goal x y (Err why)
  lost_as e = record { same = R.same; is = refused_is e }

  -- the same answer, read in another way
  pub read_as : {B : Type 0} {look : Walker → T → B} (f : A → B) → ((t : T) → look y t ≡ f (view y t)) → Answers look (goal >>= λ a. ok (f a)) x y r
  read_as {B} {look} f h = record {
    same = R.same;
    is =
        elim r as (λ (r : Result T Refusal). answer (view y) r ≡ goal → answer (look y) r ≡ (goal >>= λ a. ok (f a))) [
          | Ok t ↦ λ e. ap ok (h t) ∙ on_ok (λ a. ok (f a)) e
          | Err why ↦ λ e. on_refuse (λ a. ok (f a)) e
        ] R.is;
  }

-- a step after others that changed no answer yet
pub after : {T A : Type 0} {view : Walker → T → A} (f : (ℕ → Bool) → Rect64 → List Point64 → Try A) {x y z : Walker} {r : Result T Refusal} → Same x y → Answers view (on f y) y z r → Answers view (on f x) x z r
after f S R = record { same = same_then S R.same; is = R.is ∙ on_same f S }

-- the same, where the goal does not tell them apart
pub since : {T A : Type 0} {view : Walker → T → A} {goal : Try A} {x y z : Walker} {r : Result T Refusal} → Same x y → Answers view goal y z r → Answers view goal x z r
since S R = record { same = same_then S R.same; is = R.is }
