-- What the exported functions hand over, from what the clippers promise. Assumes nothing.
use mathlib.Core.Path.{◌≡◌, refl, sym, ◌∙◌, ap, subst}
use mathlib.Core.Bool.{Bool, true, false, ◌||◌}
use mathlib.Core.List.{List, [], ◌∷◌, map}
use Prim.Native.Nat.{ℕ, suc, ◌≤◌}
use native.Mathlib.Omega.{arith}
use lib.ListN.{length, get_or, set}
use lib.IntN.{ℤ}
use lib.Dec.{eqb, ltb}
use borrow.Author.Tests.{le-ltb, lt-ltb, ltb-false, eqb-false}
use Rattle.plane.specs.declared.rect.Rect64.{Rect64}
use Rattle.plane.specs.Basics.{Try, refuse, ok}
use Rattle.plane.specs.Points.{coordinates_of}
use Rattle.reference.specs.Entry.{filled, Outcome, refused, drawn, Lent, After, Drawing, joined, delivered, answered, clip_open, clip_closed, clip_path}
use Rattle.entry.specs.declared.answer.Refusal.{Refusal}
use Rattle.std.specs.Prelude.{Result, Ok, Err}
use Rattle.entry.specs.declared.answer.Counts.{Counts}
use Rattle.entry.specs.Answers.{number, outcome}
use Rattle.entry.proofs.Sheets.{number_not_zero}
use Rattle.rectclip.specs.Promises.{lent, Clips, Returned, ReturnedBy}
use Rattle.harness.specs.Values.{Exported, counted_by, counted, uncounted_value, Uncounted, Counted, Hands, ReturnedAt}
use Rattle.theorems.proofs.Tests.{neither}

-- three numbers stored at the front fill it
pub three_stored : (l : List ℕ) (a b c : ℕ) → 3 ≤ length l → set (set (set l 0 a) 1 b) 2 c ≡ filled (a ∷ b ∷ c ∷ []) l
three_stored [] a b c h = absurd (omega arith)
three_stored (x ∷ []) a b c h = absurd (omega arith)
three_stored (x ∷ y ∷ []) a b c h = absurd (omega arith)
three_stored (x ∷ y ∷ z ∷ l) a b c h = refl

-- ---- a result with its counts
module _ (before : Lent) {after : Lent} (counts : List ℕ) {counts' : List ℕ} {v : ℕ} where
  -- with room for the counts: the answer o, and lists that are the definition's
  hands_by : (o : Outcome) (lists : Lent) → Counted o counts v counts' → ltb (length counts) 3 ≡ false
      → after.coordinates ≡ lists.coordinates → after.lengths ≡ lists.lengths → after.store ≡ lists.store → after.work ≡ lists.work
      → Hands (counted_by before counts o lists) v after counts'
  hands_by (refused n) lists k e c l s w = record { value = k.value; coordinates = c; lengths = l; store = s; work = w; counts = k.list }
  hands_by (drawn p q t) lists k e c l s w = rw e (record { value = k.value; coordinates = c; lengths = l; store = s; work = w; counts = k.list })

  pub hands_counted : (a : After) {r : Result Counts Refusal} → Clips a r after → Counted (outcome r) counts v counts' → 3 ≤ length counts → Hands (counted before counts a) v after counts'
  unfolding counted
  hands_counted a k n h = hands_by a.answer a.lists (rw k.answer at n) (le-ltb _ _ h) k.coordinates k.lengths k.store k.work

nothing : {A : Type 0} (l : List A) → ltb 0 (length l) ≡ false → l ≡ []
nothing [] e = refl
nothing (x ∷ l) e = absurd (no (length l) e)
  where
    no : (n : ℕ) → ltb 0 (suc n) ≡ false → ⊥
    no n e = omega (arith, ltb-false 0 (suc n) e)

-- ---- no room for the counts: the entry is lent no room for the result
abbrev pub bare : Lent → Lent
bare l = record { coordinates = []; lengths = []; store = l.store; work = l.work }

-- what is left of a call with no room for a result: its value, and the two working lists; the other lists as they came
record Bare (e : Exported) (l : Lent) (counts : List ℕ) (a : After) : Type 0 where
  pub value : e.value ≡ uncounted_value a.answer
  pub coordinates : e.lists.coordinates ≡ l.coordinates
  pub lengths : e.lists.lengths ≡ l.lengths
  pub store : e.lists.store ≡ a.lists.store
  pub work : e.lists.work ≡ a.lists.work
  pub numbers : e.counts ≡ counts
  pub no_coordinates : a.lists.coordinates ≡ []
  pub no_lengths : a.lists.lengths ≡ []

module _ (l : Lent) (counts : List ℕ) (h : ltb (length counts) 3 ≡ true) where
  -- a drawing that is handed out, or refused for want of room
  uncounted_drawn : (d : Drawing) → Bare (counted l counts (delivered l d)) l counts (delivered (bare l) d)
  unfolding counted delivered
  uncounted_drawn d =
      go (ltb (length l.coordinates) (length (coordinates_of (joined d.0))) || ltb (length l.lengths) (length (map length d.0))) refl
      (ltb 0 (length (coordinates_of (joined d.0))) || ltb 0 (length (map length d.0))) refl
    where
      go : (s : Bool) → (ltb (length l.coordinates) (length (coordinates_of (joined d.0))) || ltb (length l.lengths) (length (map length d.0))) ≡ s
          → (t : Bool) → (ltb 0 (length (coordinates_of (joined d.0))) || ltb 0 (length (map length d.0))) ≡ t
          → Bare (counted l counts (delivered l d)) l counts (delivered (bare l) d)
      go true e true f = rw (e, f) (record { value = refl; coordinates = refl; lengths = refl; store = refl; work = refl; numbers = refl; no_coordinates = refl; no_lengths = refl })
      go true e false f =
          let p = neither (ltb 0 (length (coordinates_of (joined d.0)))) (ltb 0 (length (map length d.0))) f in
          rw (e, f) (record { value = refl; coordinates = refl; lengths = refl; store = refl; work = refl; numbers = refl; no_coordinates = ap (λ c. filled c []) (nothing (coordinates_of (joined d.0)) p.0); no_lengths = ap (λ c. filled c []) (nothing (map length d.0) p.1) })
      go false e true f = rw (e, f, h) (record { value = refl; coordinates = refl; lengths = refl; store = refl; work = refl; numbers = refl; no_coordinates = refl; no_lengths = refl })
      go false e false f =
          let p = neither (ltb 0 (length (coordinates_of (joined d.0)))) (ltb 0 (length (map length d.0))) f in
          rw (e, f, h) (record { value = refl; coordinates = refl; lengths = refl; store = refl; work = refl; numbers = refl; no_coordinates = ap (λ c. filled c []) (nothing (coordinates_of (joined d.0)) p.0); no_lengths = ap (λ c. filled c []) (nothing (map length d.0) p.1) })

  uncounted_is : (early : ℕ) (drawing : Try Drawing) → Bare (counted l counts (answered l early drawing)) l counts (answered (bare l) early drawing)
  unfolding counted answered
  uncounted_is early drawing = go (eqb early 0) refl drawing
    where
      go : (b : Bool) → eqb early 0 ≡ b → (drawing : Try Drawing) → Bare (counted l counts (answered l early drawing)) l counts (answered (bare l) early drawing)
      go true e (refuse n) = rw e (record { value = refl; coordinates = refl; lengths = refl; store = refl; work = refl; numbers = refl; no_coordinates = refl; no_lengths = refl })
      go true e (ok d) = rw e (uncounted_drawn d)
      go false e drawing = rw e (record { value = refl; coordinates = refl; lengths = refl; store = refl; work = refl; numbers = refl; no_coordinates = refl; no_lengths = refl })

  -- the clipper of either kind
  uncounted_clip : (closed : Bool) (A : ℕ) (R : Rect64) (path : List ℤ) → Bare (counted l counts (clip_path closed A R path l)) l counts (clip_path closed A R path (bare l))
  unfolding clip_closed clip_open
  uncounted_clip true A R path = uncounted_is _ _
  uncounted_clip false A R path = uncounted_is _ _

-- a refusal has no value 0
refused_value : (why : Refusal) {v : ℕ} → v ≡ number why → v ≡ 0 → ⊥
refused_value why e z = eqb-false (number why) 0 (number_not_zero why) (sym e ∙ z)

refused_uncounted : (r : Result Counts Refusal) {v : ℕ} → v ≡ uncounted_value (outcome r) → v ≡ 0 → ⊥
refused_uncounted (Ok c) e z = omega arith
refused_uncounted (Err why) e z = refused_value why e z

-- what a clipper that was lent no room for a result leaves, handed over
pub hands_uncounted : (closed : Bool) (A : ℕ) (R : Rect64) (path : List ℤ) {store : List ℤ} {work : List ℕ} {after : Lent} {r : Result Counts Refusal} {v : ℕ}
    → Clips (clip_path closed A R path (lent [] [] store work)) r after → v ≡ uncounted_value (outcome r) → Uncounted closed A R path store work v after.store after.work
hands_uncounted closed A R path {store} {work} {r = r} k n = record {
  hands = λ coordinates lengths counts h.
      let u = uncounted_clip (lent coordinates lengths store work) counts (lt-ltb _ _ h) closed A R path in
      record {
        value = n ∙ ap uncounted_value k.answer ∙ sym u.value;
        coordinates = sym u.coordinates;
        lengths = sym u.lengths;
        store = k.store ∙ sym u.store;
        work = k.work ∙ sym u.work;
        counts = sym u.numbers;
      };
  none = refused_uncounted r n;
}

-- ---- the paths that were returned
module _ (closed : Bool) (R : Rect64) (path coordinates : List ℤ) (lengths : List ℕ) where
  pub returned_counted : (counts : List ℕ) (r : Result Counts Refusal) {v : ℕ} {counts' : List ℕ} → ReturnedBy closed R path r coordinates lengths → Counted (outcome r) counts v counts' → ReturnedAt closed R path v coordinates lengths counts'
  returned_counted counts (Ok c) h k z = subst (λ (l : List ℕ). Returned closed R path (get_or l 0 0) (get_or l 1 0) coordinates lengths) (sym k.list) (h c refl)
  returned_counted counts (Err why) h k z = absurd (refused_value why k.value z)
