-- A drawing handed out: refusal 11 where a list is too short for all of it, else its counts and the filled lists. Assumes nothing.
use mathlib.Core.Logic.{⊎_elim}
use mathlib.Core.Path.{◌≡◌, refl, ◌∙◌, ap}
use mathlib.Core.Bool.{Bool, true, false, ◌||◌}
use mathlib.Core.List.{List, [], map}
use Prim.Native.Nat.{ℕ, ◌*◌, ◌<◌, ◌≤◌}
use native.Mathlib.Omega.{arith}
use borrow.Author.Tests.{lt-ltb, le-ltb}
use lib.Dec.{ltb}
use lib.IntN.{ℤ}
use lib.ListN.{length, length-map}
use lib.Seq.{sets}
use Rattle.plane.specs.declared.point.Point64.{Point64}
use Rattle.plane.specs.Basics.{Try, refuse, ok}
use Rattle.plane.specs.Points.{coordinates_of}
use Rattle.reference.specs.Entry.{Drawing, Lent, joined, filled, delivered, answered}
use Rattle.std.specs.Prelude.{Result, Ok, Err}
use Rattle.entry.specs.Answers.{number}
use Rattle.entry.specs.declared.answer.Counts.{Counts}
use Rattle.entry.specs.declared.answer.Refusal.{Refusal}
use Rattle.entry.specs.declared.answer.Refusal.TheVariants.{ListsTooShort}
use Rattle.rectclip.specs.declared.paths.Tally.{Tally}
use Rattle.rectclip.specs.declared.output.Output.{Output}
use Rattle.rectclip.specs.Outputs.{Takes, Written}
use Rattle.rectclip.specs.Promises.{lent, Leaves}
use Rattle.rectclip.specs.Delivering.{Gives, Roomy, Short}
use Rattle.rectclip.proofs.Writing.{coordinates_length, sets_filled, same_lists}

or_right : (a : Bool) {b : Bool} → b ≡ true → (a || b) ≡ true
or_right true e = refl
or_right false e = e

-- ---- the definition's cases
module _ (coordinates : List ℤ) (lengths : List ℕ) (store : List ℤ) (work : List ℕ) (paths : List (List Point64)) (turns : ℕ) where
  abbrev l : Lent
  l = lent coordinates lengths store work

  drawn_length : length (coordinates_of (joined paths)) ≡ 2 * length (joined paths)
  drawn_length = coordinates_length (joined paths)

  counts_length : length (map length paths) ≡ length paths
  counts_length = length-map paths length

  pub short_coordinates : length coordinates < 2 * length (joined paths) → Leaves (delivered l (paths, turns)) (Err ListsTooShort) coordinates lengths
  unfolding delivered
  short_coordinates h =
      let t : ltb (length coordinates) (length (coordinates_of (joined paths))) ≡ true = lt-ltb (length coordinates) (length (coordinates_of (joined paths))) (rw drawn_length h) in
      record { answer = rw t refl; coords = rw t refl; counts = rw t refl }

  pub short_lengths : length lengths < length paths → Leaves (delivered l (paths, turns)) (Err ListsTooShort) coordinates lengths
  unfolding delivered
  short_lengths h =
      let t : (ltb (length coordinates) (length (coordinates_of (joined paths))) || ltb (length lengths) (length (map length paths))) ≡ true =
      or_right (ltb (length coordinates) (length (coordinates_of (joined paths)))) (lt-ltb (length lengths) (length (map length paths)) (rw counts_length h)) in
      record { answer = rw t refl; coords = rw t refl; counts = rw t refl }

  pub long_enough : 2 * length (joined paths) ≤ length coordinates → length paths ≤ length lengths → {c : Counts} → c.paths ≡ length paths → c.points ≡ length (joined paths) → c.turns ≡ turns
      → {coordinates' : List ℤ} {lengths' : List ℕ} → coordinates' ≡ filled (coordinates_of (joined paths)) coordinates → lengths' ≡ filled (map length paths) lengths
      → Leaves (delivered l (paths, turns)) (Ok c) coordinates' lengths'
  unfolding delivered
  long_enough h k e f g p q =
      let t : ltb (length coordinates) (length (coordinates_of (joined paths))) ≡ false = le-ltb (length coordinates) (length (coordinates_of (joined paths))) (rw drawn_length h) in
      let u : ltb (length lengths) (length (map length paths)) ≡ false = le-ltb (length lengths) (length (map length paths)) (rw counts_length k) in
      record { answer = rw (t, u, e, f, g) refl; coords = rw (t, u) p; counts = rw (t, u) q }

-- ---- what a call gives of a drawing
module _ {x : Output} {d : Try Drawing} where
  pub gives_none : d ≡ ok ([], 0) → {r : Result Counts Refusal} → r ≡ Ok (record { paths = 0; points = 0; turns = 0 }) → Gives d x r x
  unfolding answered
  gives_none e q = record {
    same = same_lists x;
    is = λ U st wk. rw (e, q) (long_enough x.coordinates.now x.lengths.now st wk [] 0 (omega arith) (omega arith) refl refl refl refl refl);
  }

  pub gives_refusal : (why : Refusal) → d ≡ refuse (number why) → Gives d x (Err why) x
  unfolding answered
  gives_refusal why e = record { same = same_lists x; is = λ U st wk. rw e (record { answer = refl; coords = refl; counts = refl }) }

  pub gives_same : {d' : Try Drawing} → d ≡ d' → {r : Result Counts Refusal} {y : Output} → Gives d x r y → Gives d' x r y
  gives_same e G = rw e at G

module _ {x : Output} (paths : List (List Point64)) (turns : ℕ) {t : Tally} (paths_are : t.paths ≡ length paths) (points_are : t.points ≡ length (joined paths)) where
  pub gives_short : {why : Refusal} → Short t x why → Gives (ok (paths, turns)) x (Err why) x
  unfolding answered
  gives_short S =
      rw S.is
      (record {
        same = same_lists x;
        is = λ U st wk.
            ⊎_elim (λ h. short_coordinates x.coordinates.now x.lengths.now st wk paths turns (omega (arith, U.points, points_are, h)))
            (λ h. short_lengths x.coordinates.now x.lengths.now st wk paths turns (omega (arith, U.paths, paths_are, h))) S.lacks;
      })

  module _ {a : Counts} (R : Roomy t turns x a) where
    pub takes : Takes x paths
    takes = record { points = omega (arith, R.points, points_are); paths = omega (arith, R.paths, paths_are) }

    pub gives_all : {y : Output} → Written x y paths → Gives (ok (paths, turns)) x (Ok a) y
    unfolding answered
    gives_all W =
        rw R.is
        (record {
          same = W.same;
          is = λ U st wk.
              long_enough x.coordinates.now x.lengths.now st wk paths turns (omega (arith, takes.points)) (omega (arith, takes.paths)) paths_are points_are refl
              (W.coordinates ∙ ap (λ (n : ℕ). sets x.coordinates.now (2 * n) (coordinates_of (joined paths))) U.points
              ∙ sets_filled x.coordinates.now (coordinates_of (joined paths)) (omega (arith, takes.points, coordinates_length (joined paths))))
              (W.lengths ∙ ap (λ (n : ℕ). sets x.lengths.now n (map length paths)) U.paths
              ∙ sets_filled x.lengths.now (map length paths) (omega (arith, takes.paths, length-map paths (length {A = Point64}))));
        })
