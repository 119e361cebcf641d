-- The loops over a line's fields, a field at a time. Assumes nothing.
use Rattle.std.specs.Prelude.{Option, Some, None, MatchOption}
use Rattle.std.specs.Iterator.{AlwaysYields}
use denote.Ref.{Bor}
use mathlib.Core.Path.{◌≡◌, refl, sym, ◌∙◌, ap}
use mathlib.Core.List.{List, [], ◌∷◌}
use Prim.Native.Nat.{ℕ, ◌+◌, ◌<◌, ◌≤◌}
use native.Mathlib.Omega.{arith}
use native.Mathlib.Numerals.{add-one}
use lib.ListN.{length, drop, get_or, set, drop_of_length-le}
use lib.Seq.{sets, drop-cons}
use lib.IntN.{ℤ}
use Rattle.plane.specs.Basics.{Try, refuse, ok, ◌>>=◌}
use Rattle.text.specs.Decimal.{field}
use Rattle.text.specs.Reading.{fields, numbers}
use Rattle.text.specs.Scanning.{counted, leading}
use Rattle.text.proofs.Stores.{sets_out}

-- ---- a field at place k: its number, or none
module _ (fs : List (List ℕ)) (k : ℕ) (h : k < length fs) {f : List ℕ} (is : f ≡ get_or fs k f) where
  split : drop k fs ≡ f ∷ drop (k + 1) fs
  split = drop-cons fs k f h ∙ (λ i. sym is i ∷ drop (sym (add-one k) i) fs)

  numbers_none : None ≡ field f → numbers (drop k fs) ≡ refuse 12
  numbers_none e = ap numbers split ∙ rw (sym e, numbers) refl

  numbers_some : {z : ℤ} → Some z ≡ field f → numbers (drop k fs) ≡ (numbers (drop (k + 1) fs) >>= λ zs. ok (z ∷ zs))
  numbers_some e = ap numbers split ∙ rw (sym e, numbers) refl

-- ---- counting: n numbers so far
pub record CountedTo (bs : List ℕ) (count n : ℕ) : Type 0 where
  pub goal : counted count (numbers (drop n (fields bs))) ≡ counted 0 (numbers (fields bs))
  pub many : count ≡ n

pub count_start : (bs : List ℕ) → CountedTo bs 0 0
count_start bs = record { goal = refl; many = refl }

module _ {bs : List ℕ} {count n : ℕ} (s : CountedTo bs count n) where
  module _ (h : n < length (fields bs)) {f : List ℕ} (is : f ≡ get_or (fields bs) n f) where
    pub count_none : None ≡ field f → None ≡ counted 0 (numbers (fields bs))
    count_none e = sym (ap (counted count) (numbers_none (fields bs) n h is e)) ∙ s.goal

    pub count_again : {z : ℤ} → Some z ≡ field f → CountedTo bs (count + 1) (n + 1)
    count_again {z} e = record { goal = one_more (numbers (drop (n + 1) (fields bs))) ∙ sym (ap (counted count) (numbers_some (fields bs) n h is e)) ∙ s.goal; many = omega (arith, s.many) }
      where
        one_more : (t : Try (List ℤ)) → counted (count + 1) t ≡ counted count (t >>= λ zs. ok (z ∷ zs))
        one_more (refuse k) = refl
        one_more (ok zs) = ap Some (omega arith)

  pub count_end : n ≡ length (fields bs) → Some count ≡ counted 0 (numbers (fields bs))
  count_end e =
      let none : drop n (fields bs) ≡ [] = drop_of_length-le (fields bs) {i = n} (omega arith) in
      ap Some (omega arith) ∙ sym (ap (λ (fs : List (List ℕ)). counted count (numbers fs)) none) ∙ s.goal

-- ---- storing: n numbers so far, and the fields that the iterator still gives
pub record Storing {S : Type 0} (steps : S → Option (Bor (List ℕ)) → S → Type 0) (bs : List ℕ) (list now : List ℤ) (n : ℕ) (s : S) : Type 0 where
  pub left : List (List ℕ)
  pub gives : AlwaysYields steps (λ f. f.now) s left
  pub goal : sets now n (leading left) ≡ sets list 0 (leading (fields bs))

module _ {S : Type 0} {steps : S → Option (Bor (List ℕ)) → S → Type 0} {bs : List ℕ} {list now : List ℤ} {n : ℕ} {s : S} (to : Storing steps bs list now n s) where
  pub store_full : length now ≤ n → now ≡ sets list 0 (leading (fields bs))
  store_full h = sym (sets_out (leading to.left) now n h) ∙ to.goal

  -- the next field's number: none where no field is left
  module _ {o : Option (Bor (List ℕ))} {t : S} (next : steps s o t) {r : Option ℤ} (number : MatchOption o (r ≡ None) (λ f. r ≡ field f.now)) where
    pub store_none : r ≡ None → now ≡ sets list 0 (leading (fields bs))
    store_none e = ap (sets now n) (sym (go to.left to.gives o next number)) ∙ to.goal
      where
        go : (left : List (List ℕ)) → AlwaysYields steps (λ f. f.now) s left → (o : Option (Bor (List ℕ))) → steps s o t → MatchOption o (r ≡ None) (λ f. r ≡ field f.now) → leading left ≡ []
        go [] a o p m = refl
        go (l ∷ ls) a None p m = absurd (a.0 t p)
        go (l ∷ ls) a (Some f) p m = let w : field l ≡ None = ap field (sym (a.1 f t p).0) ∙ sym m ∙ e in rw (w, leading) refl

    pub store_again : {z : ℤ} → r ≡ Some z → Storing steps bs list (set now n z) (n + 1) t
    store_again {z} e = go to.left to.gives to.goal o next number
      where
        go : (left : List (List ℕ)) → AlwaysYields steps (λ f. f.now) s left → sets now n (leading left) ≡ sets list 0 (leading (fields bs)) → (o : Option (Bor (List ℕ))) → steps s o t
            → MatchOption o (r ≡ None) (λ f. r ≡ field f.now) → Storing steps bs list (set now n z) (n + 1) t
        go [] a g None p m = absurd (let y : None ≡ Some z = sym m ∙ e in cc)
        go [] a g (Some f) p m = absurd (a f t p)
        go (l ∷ ls) a g None p m = absurd (a.0 t p)
        go (l ∷ ls) a g (Some f) p m =
            let w : field l ≡ Some z = ap field (sym (a.1 f t p).0) ∙ sym m ∙ e in
            let first : leading (l ∷ ls) ≡ z ∷ leading ls = rw (w, leading) refl in
            record { left = ls; gives = (a.1 f t p).1; goal = ap (λ (k : ℕ). sets (set now n z) k (leading ls)) (add-one n) ∙ sym (ap (sets now n) first) ∙ g }
