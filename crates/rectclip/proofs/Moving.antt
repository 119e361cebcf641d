-- Moves along the path: one that went on, one that was stopped, and the loop that adds points from inside. Assumes nothing.
use mathlib.Core.Path.{◌≡◌, sym, ◌∙◌, ap}
use mathlib.Core.Bool.{Bool, true, false}
use mathlib.Core.List.{List}
use Prim.Native.Nat.{ℕ, ◌+◌, ◌/◌, ◌<◌, ◌≤◌, max}
use native.Mathlib.Omega.{arith}
use lib.IntN.{ℤ}
use lib.ListN.{length, drop}
use Rattle.plane.specs.declared.point.Point64.{Point64}
use Rattle.plane.specs.declared.location.Location.{Location}
use Rattle.plane.specs.declared.location.Location.TheVariants.{Inside}
use Rattle.plane.specs.Basics.{Try, ok}
use Rattle.plane.specs.Locations.{is_inside}
use Rattle.plane.specs.Points.{pt_at}
use Rattle.reference.specs.Walk.{Next, add, next_outside, next_inside, get_next_location}
use Rattle.entry.specs.declared.answer.Refusal.{Refusal}
use Rattle.std.specs.Prelude.{Result, Ok, Err}
use Rattle.rectclip.specs.declared.next.Place.{Place}
use Rattle.rectclip.specs.Moving.{exit_side}
use Rattle.rectclip.specs.declared.walk.Walker.{Walker}
use Rattle.rectclip.specs.Steps.{walk, full, points, next_of, Same, Steps, Moves}
use Rattle.rectclip.proofs.Steps.{same_refl, on_same, stays}
use Rattle.rectclip.proofs.Steps as steps
use Rattle.rectclip.proofs.Coordinates.{points_length}
use Rattle.rectclip.proofs.Scanning.{next_as_outside, inside_out, inside_go, inside_stop, inside_end}

pub outside_went : (x : Walker) (loc : Location) (from : ℕ) {r : Place} → is_inside loc ≡ false → next_of x r ≡ next_outside x.rect (points x) (walk x) loc from
    → Moves (get_next_location (full x) x.rect (points x) (walk x) loc from) x x (Ok r)
outside_went x loc from h e = stays (ap ok e ∙ next_as_outside _ x.rect (points x) (walk x) loc from h)

-- from inside, point i of n is next
pub record Inward (x : Walker) (from n : ℕ) (y : Walker) (i : ℕ) : Type 0 where
  pub goal : next_inside (full x) x.rect (walk y) i (drop i (points x)) ≡ next_inside (full x) x.rect (walk x) from (drop from (points x))
  pub same : Same x y
  pub end : n ≡ length y.path.now / 2
  pub forth : from ≤ i
  pub here : i ≤ max from n

module _ {x : Walker} {from n : ℕ} {y : Walker} {i : ℕ} (I : Inward x from n y i) where
  abbrev all_inside : Try Next
  all_inside = next_inside (full x) x.rect (walk x) from (drop from (points x))

  many : length (points x) ≡ n
  many = points_length x.path.now ∙ ap (λ (l : List ℤ). length l / 2) (sym I.same.path) ∙ sym I.end

  module _ (h : i < n) {p : Point64} (ep : p ≡ pt_at (points x) i) {q : Location} (eq : q ≡ exit_side y.rect p) {b : Bool} (eb : b ≡ is_inside q) where
    within : i < length (points x)
    within = rw many h

    exit_is : q ≡ exit_side x.rect (pt_at (points x) i)
    exit_is = eq ∙ (λ j. exit_side (I.same.rect j) (ep j))

    pub inward_exits : b ≡ false → Moves all_inside x y (Ok (record { loc = q; i = i }))
    inward_exits t = record { same = I.same; is = rw exit_is (inside_out _ x.rect (points x) (walk y) i within (rw exit_is at (sym eb ∙ t)) ∙ I.goal) }

    module _ (t : b ≡ true) {z : Walker} {r : Result Unit Refusal} (R : Steps (add (full y) (walk y) p false) y z r) where
      one : Steps (add (full x) (walk y) (pt_at (points x) i) false) x z r
      one = rw ep at (steps.after (λ full rect path. add full (walk y) p false) I.same R)

      pub inward_on : {u : Unit} → r ≡ Ok u → Inward x from n z (i + 1)
      inward_on e = record {
        goal = inside_go _ x.rect (points x) (walk y) i within (walk z) (rw exit_is at (sym eb ∙ t)) (steps.done_is one e) ∙ I.goal;
        same = one.same;
        end = I.end ∙ ap (λ (l : List ℤ). length l / 2) (sym R.same.path);
        forth = omega (arith, I.forth);
        here = omega arith;
      }

      pub inward_lost : {why : Refusal} → r ≡ Err why → Moves all_inside x z (Err why)
      inward_lost e = record { same = one.same; is = inside_stop _ x.rect (points x) (walk y) i within _ (rw exit_is at (sym eb ∙ t)) (steps.refused_is one e) ∙ I.goal }

  pub inward_ends : n ≤ i → {m : ℕ} → m ≡ max from n → Moves all_inside x y (Ok (record { loc = Inside; i = m }))
  inward_ends h e =
      let f : max from n ≡ i = omega (arith, I.forth, I.here) in
      record { same = I.same; is = rw (e, f) (inside_end _ x.rect (points x) (walk y) i (rw many h) ∙ I.goal) }
