-- Laws of runs of stores, `sets`: one run behind another, one store more at either end, and a run past the list's end. Assumes nothing.
use mathlib.Core.Path.{◌≡◌, refl, sym, ◌∙◌, ap}
use mathlib.Core.List.{List, [], ◌∷◌, ◌++◌}
use Prim.Native.Nat.{ℕ, suc, ◌+◌, ◌≤◌}
use native.Mathlib.Omega.{arith}
use lib.ListN.{length, take, drop, set}
use lib.Seq.{sets, sets-eq, set_out, set_comm, take-nil}

module _ {A : Type 0} where
  pub sets_append : (xs ys l : List A) (i : ℕ) → sets l i (xs ++ ys) ≡ sets (sets l i xs) (i + length xs) ys
  sets_append [] ys l i = ap (λ (k : ℕ). sets l k ys) (omega arith)
  sets_append (x ∷ xs) ys l i = sets_append xs ys (set l i x) (suc i) ∙ ap (λ (k : ℕ). sets (sets (set l i x) (suc i) xs) k ys) (omega arith)

  -- the last store may come first
  pub sets_last : (xs l : List A) (i : ℕ) (d : A) → sets l i (xs ++ d ∷ []) ≡ sets (set l (i + length xs) d) i xs
  sets_last [] l i d = ap (λ (k : ℕ). set l k d) (omega arith)
  sets_last (x ∷ xs) l i d =
      sets_last xs (set l i x) (suc i) d
      ∙ ap (λ (k : ℕ). sets (set (set l i x) k d) (suc i) xs) (omega arith)
      ∙ ap (λ (k : List A). sets k (suc i) xs) (set_comm l i (i + suc (length xs)) x d (λ (e : i ≡ i + suc (length xs)). omega arith))

  pub sets_out : (xs l : List A) (i : ℕ) → length l ≤ i → sets l i xs ≡ l
  sets_out [] l i h = refl
  sets_out (x ∷ xs) l i h = ap (λ (k : List A). sets k (suc i) xs) (set_out l i x h) ∙ sets_out xs l (suc i) (omega arith)

  -- a whole run from the front
  pub sets_front : (xs l : List A) → length xs ≤ length l → sets l 0 xs ≡ xs ++ drop (length xs) l
  sets_front xs l h = let e : 0 + length xs ≡ length xs = omega arith in sets-eq xs l 0 (omega arith) ∙ ap (λ (k : ℕ). xs ++ drop k l) e

  -- the same with what the list cannot hold left out
  sets_shift : (y : A) (l : List A) (i : ℕ) (zs : List A) → sets (y ∷ l) (suc i) zs ≡ y ∷ sets l i zs
  sets_shift y l i [] = refl
  sets_shift y l i (z ∷ zs) = sets_shift y (set l i z) (suc i) zs

  pub sets_lead : (zs l : List A) → sets l 0 zs ≡ take (length l) zs ++ drop (length zs) l
  sets_lead [] l = ap (λ (k : List A). k ++ l) (sym (take-nil (length l)))
  sets_lead (z ∷ zs) [] = sets_out zs [] 1 (omega arith)
  sets_lead (z ∷ zs) (y ∷ l) = sets_shift z l 0 zs ∙ ap (λ (k : List A). z ∷ k) (sets_lead zs l)
