-- What `find_map` finds over a range of positions, forwards and backwards: the first, or the last, for which the closure answers; and what `find` finds.
-- Assumes nothing.
use Rattle.std.specs.Prelude.{Option, None, Some, IfSome, IsSomeAnd, IsTrue, MatchOption}
use Rattle.std.specs.Option.{option_map, unwrap_or}
use denote.Bor.{Bor}
use Rattle.std.specs.Iterator.Runs.{Run, AllItemsGive, IsFirstToGive, NoItemPasses, EndsAtFirstPassing, CallKeepsClosure, ItemsCountUp, ItemsCountDown, IsIdenticalRun}
use Rattle.std.specs.Fn.{CalledAt}
use denote.Param.Members.{Mut, Called}
use mathlib.Core.Path.{◌≡◌, sym, ◌∙◌, ap, subst}
use mathlib.Core.Bool.{Bool, true, false}
use Prim.Native.Nat.{ℕ, zero, suc, ◌+◌, ◌-◌, ◌<◌, ◌≤◌, max}
use native.Mathlib.Decide.{ℕ_discrete}
use native.Mathlib.Omega.{arith}

module _ {B : Type 0} (h : ℕ → Option B) where
  -- r is what h has at the first position from a on, below b, where it has something
  abbrev pub First : ℕ → ℕ → Option B → Type 0
  First a b r = MatchOption r ((k : ℕ) → a ≤ k → k < b → h k ≡ None) (λ y. (k : ℕ) × (a ≤ k) × (k < b) × (h k ≡ Some y) × ((j : ℕ) → a ≤ j → j < k → h j ≡ None))

  -- r is what h has at the last position below n where it has something
  abbrev pub Last : ℕ → Option B → Type 0
  Last n r = MatchOption r ((k : ℕ) → k < n → h k ≡ None) (λ y. (k : ℕ) × (k < n) × (h k ≡ Some y) × ((j : ℕ) → k < j → j < n → h j ≡ None))

there : {A : Type 0} (o : Option A) {x : A} → option_map (λ y. y) o ≡ Some x → o ≡ Some x
there None e = cc
there (Some z) e = e

-- a run of an adapter counts down as the run behind it does
pub counts_down : {S T : Type 0} {steps : S → Option ℕ → S → Type 0} {source : T → Option ℕ → T → Type 0} (p : Run steps) (q : Run source) (a b : ℕ) → IsIdenticalRun p q → ItemsCountDown q a b → ItemsCountDown p a b
counts_down p q a b ((len, items, ats), whole) (few, long, range, counts) = (
  omega arith,
  λ w. sym len ∙ long (whole ∙ w),
  λ k. subst (λ (o : Option ℕ). IfSome o (λ x. (x + k + 1 ≡ b) × (a ≤ x))) (ats k) (range k),
  λ k l. subst (λ (o : Option ℕ). option_map (λ y. y) o ≡ Some (b - 1 - k)) (ats k) (counts k (omega arith)),
)

module _ {S F B : Type 0} {steps : S → Option ℕ → S → Type 0} (p : Run steps) (g : Mut F (ℕ × Unit {0}) (Option B)) (f : F) (h : ℕ → Option B) (keeps : CallKeepsClosure g f)
    (calls : (x : ℕ) (r : Option B) → Called g f (x, tt) r f → r ≡ h x) where
  abbrev Ran : Option B → Type 0
  Ran r = MatchOption r (IsTrue p.whole × AllItemsGive p g f None) (λ y. (i : ℕ) × (i < p.len) × (p.len ≡ i + 1) × IsFirstToGive p g f (Some y) None i)

  -- what a call at the position of place i answered
  at_if : (r : Option B) (i x : ℕ) → p.at i ≡ Some x → IfSome (p.at i) (λ z. Called g f (z, tt) r f) → h x ≡ r
  at_if r i x e q = sym (calls x r (subst (λ (o : Option ℕ). IfSome o (λ z. Called g f (z, tt) r f)) e q))

  at_and : (r : Option B) (i x : ℕ) → p.at i ≡ Some x → IsSomeAnd (p.at i) (λ z. Called g f (z, tt) r f) → h x ≡ r
  at_and r i x e q = sym (calls x r (subst (λ (o : Option ℕ). IsSomeAnd o (λ z. Called g f (z, tt) r f)) e q))

  pub found_last : (n : ℕ) → ItemsCountDown p 0 n → (r : Option B) → Ran r → Last h n r
  found_last n (few, long, range, counts) None (w, all) = λ k l.
      let i : ℕ = n - 1 - k in
      let e : n - 1 - i ≡ k = omega arith in
      let len : p.len ≡ n - 0 = long w in
      at_if None i k (subst (λ (x : ℕ). p.at i ≡ Some x) e (there (p.at i) (counts i (omega arith)))) (all keeps i)
  found_last n (few, long, range, counts) (Some y) (i, l, m, first) =
      let (hit, miss) = first keeps in
      let k : ℕ = n - 1 - i in (
        k,
        omega arith,
        at_and (Some y) i k (there (p.at i) (counts i l)) hit,
        λ j a b.
            let t : ℕ = n - 1 - j in
            let e : n - 1 - t ≡ j = omega arith in
            at_and None t j (subst (λ (x : ℕ). p.at t ≡ Some x) e (there (p.at t) (counts t (omega arith)))) (miss t (omega arith)),
      )

  pub found_first : (a b : ℕ) → ItemsCountUp p a b → (r : Option B) → Ran r → First h a b r
  found_first a b (few, long, range, counts) None (w, all) = λ k q l.
      let i : ℕ = k - a in
      let e : a + i ≡ k = omega arith in
      let len : p.len ≡ b - a = long w in
      at_if None i k (subst (λ (x : ℕ). p.at i ≡ Some x) e (there (p.at i) (counts i (omega arith)))) (all keeps i)
  found_first a b (few, long, range, counts) (Some y) (i, l, m, first) =
      let (hit, miss) = first keeps in (
        a + i,
        omega arith,
        omega arith,
        at_and (Some y) i (a + i) (there (p.at i) (counts i l)) hit,
        λ j q t.
            let e : a + (j - a) ≡ j = omega arith in
            at_and None (j - a) j (subst (λ (x : ℕ). p.at (j - a) ≡ Some x) e (there (p.at (j - a)) (counts (j - a) (omega arith)))) (miss (j - a) (omega arith)),
      )

-- ---- the first position that passes a test
module _ (t : ℕ → Bool) (a b : ℕ) where
  -- r is the first position from a on, below b, that passes
  abbrev pub FirstPassing : Option ℕ → Type 0
  FirstPassing r = MatchOption r ((k : ℕ) → a ≤ k → k < b → t k ≡ false) (λ i. (a ≤ i) × (i < b) × (t i ≡ true) × ((j : ℕ) → a ≤ j → j < i → t j ≡ false))

module _ {S F : Type 0} {steps : S → Option ℕ → S → Type 0} (p : Run steps) (g : Mut F (Bor ℕ × Unit {0}) Bool) (f : F) (t : ℕ → Bool) (keeps : CallKeepsClosure g f)
    (calls : (x : ℕ) (r : Bool) → CalledAt g f x r f → r ≡ t x) where
  pub found_passing : (a b : ℕ) → ItemsCountUp p a b → (r : Option ℕ) → MatchOption r (IsTrue p.whole × NoItemPasses p g f) (EndsAtFirstPassing p g f) → FirstPassing t a b r
  found_passing a b (few, long, range, counts) None (w, all) = λ k q l.
      let i : ℕ = k - a in
      let e : a + i ≡ k = omega arith in
      let len : p.len ≡ b - a = long w in
      let at : p.at i ≡ Some k = subst (λ (x : ℕ). p.at i ≡ Some x) e (there (p.at i) (counts i (omega arith))) in
      sym (calls k false (subst (λ (o : Option ℕ). IfSome o (λ z. CalledAt g f z false f)) at (all keeps i)))
  found_passing a b (few, long, range, counts) (Some x) (i, m, at, passed) =
      let (hit, miss) = passed keeps in
      let place : ◌≡◌ {A = Option ℕ} (Some x) (Some (a + i)) = sym at ∙ there (p.at i) (counts i (omega arith)) in
      let is : x ≡ a + i = cc in (
        omega arith,
        omega arith,
        sym (calls x true hit),
        λ j q l.
            let e : a + (j - a) ≡ j = omega arith in
            let here : p.at (j - a) ≡ Some j = subst (λ (x : ℕ). p.at (j - a) ≡ Some x) e (there (p.at (j - a)) (counts (j - a) (omega arith))) in
            sym (calls j false (subst (λ (o : Option ℕ). IsSomeAnd o (λ z. CalledAt g f z false f)) here (miss (j - a) (omega arith)))),
      )

-- a run of a definition from position to position, which goes on where the test fails and stops where it passes
module _ (t : ℕ → Bool) (a b : ℕ) {m : ℕ} (last : m ≡ max a b) where
  module _ (run : ℕ → ℕ) (on : (i : ℕ) → a ≤ i → i < b → t i ≡ false → run i ≡ run (i + 1)) (stop : (i : ℕ) → a ≤ i → i < b → t i ≡ true → run i ≡ i) (end : run m ≡ m) where
    until : (d i k : ℕ) → i + d ≡ k → a ≤ i → k ≤ b → ((j : ℕ) → i ≤ j → j < k → t j ≡ false) → run i ≡ run k
    until zero i k e h l f = let q : i ≡ k = omega arith in ap run q
    until (suc d) i k e h l f = on i h (omega arith) (f i (omega arith) (omega arith)) ∙ until d (i + 1) k (omega arith) (omega arith) l (λ j p q. f j (omega arith) q)

    pub first_or : (r : Option ℕ) → FirstPassing t a b r → unwrap_or r m ≡ run a
    first_or None f =
        elim (ℕ_discrete (b - a) 0) [
          | yes q ↦ let e : m ≡ a = omega arith in sym end ∙ ap run e
          | no q ↦ let e : m ≡ b = omega arith in sym end ∙ ap run e ∙ sym (until (b - a) a b (omega arith) (omega arith) (omega arith) f)
        ]
    first_or (Some i) (h, l, hit, miss) = sym (until (i - a) a i (omega arith) (omega arith) (omega arith) miss ∙ stop i h l hit)

  pub first_within : (r : Option ℕ) → FirstPassing t a b r → unwrap_or r m ≤ m
  first_within None f = omega arith
  first_within (Some i) (h, l, hit, miss) = omega arith
