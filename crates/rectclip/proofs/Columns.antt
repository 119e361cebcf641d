-- The memory seen as lists: column k is the list of field k of the first n slots. What it reads, and what a store and one slot more do to it. Assumes nothing.
use mathlib.Core.Path.{◌≡◌, refl, sym, ◌∙◌, ap}
use mathlib.Core.List.{List, [], ◌∷◌, ◌++◌}
use Prim.Native.Nat.{ℕ, zero, suc, ◌+◌, ◌*◌, ◌<◌, ◌≤◌}
use lib.ListN.{length, get_or, set, length-set}
use lib.Seq.{ext_get_or, get_or-set_same, get_or-set_other}
use native.Mathlib.Omega.{arith}
use native.Mathlib.Numerals.{add-one}
use native.Mathlib.Decide.{ℕ_discrete}
use Rattle.rectclip.specs.Memory.{at, put, Room, from, column}
use Rattle.rectclip.proofs.Memory.{at_put, at_put_slot, at_put_field}

from_length : (f : ℕ → ℕ) (i n : ℕ) → length (from f i n) ≡ n
unfolding from
from_length f i zero = refl
from_length f i (suc n) = ap suc (from_length f (suc i) n)

from_getD : (f : ℕ → ℕ) (i n j d : ℕ) → j < n → get_or (from f i n) j d ≡ f (i + j)
unfolding from
from_getD f i zero j d h = absurd (omega arith)
from_getD f i (suc n) zero d h = ap f (omega arith)
from_getD f i (suc n) (suc j) d h = from_getD f (suc i) n j d (omega arith) ∙ ap f (omega arith)

from_push : (f : ℕ → ℕ) (i n : ℕ) → from f i (suc n) ≡ from f i n ++ f (i + n) ∷ []
unfolding from
from_push f i zero = ap (λ (k : ℕ). f k ∷ []) (omega arith)
from_push f i (suc n) = ap (λ (l : List ℕ). f i ∷ l) (from_push f (suc i) n ∙ ap (λ (k : ℕ). from f (suc i) n ++ f k ∷ []) (omega arith))

pub column_length : (k n : ℕ) (m : List ℕ) → length (column k n m) ≡ n
unfolding column
column_length k n m = from_length (at k m) 0 n

-- entry i, whatever stands for a missing one
pub column_at : (k n : ℕ) (m : List ℕ) (i d : ℕ) → i < n → get_or (column k n m) i d ≡ at k m i
unfolding column
column_at k n m i d h = from_getD (at k m) 0 n i d h ∙ ap (at k m) (omega arith)

-- one entry more
pub column_push : (k n : ℕ) (m : List ℕ) → column k (n + 1) m ≡ column k n m ++ at k m n ∷ []
unfolding column
column_push k n m = rw (add-one n) (from_push (at k m) 0 n ∙ ap (λ (j : ℕ). from (at k m) 0 n ++ at k m j ∷ []) (omega arith))

-- a store to entry i
pub column_put : (k n : ℕ) (m : List ℕ) (i v : ℕ) → k < 16 → Room n m → i < n → column k n (put k m i v) ≡ set (column k n m) i v
column_put k n m i v hk R hi =
    ext_get_or 0 (column k n (put k m i v)) (set (column k n m) i v) (column_length k n (put k m i v) ∙ sym (length-set (column k n m) i v ∙ column_length k n m))
    (λ j h.
    let hj : j < n = rw (column_length k n (put k m i v)) at h in
    column_at k n (put k m i v) j 0 hj
    ∙ elim (ℕ_discrete j i) [
      | yes e ↦ rw e (at_put k m i v (omega (arith, R.cells)) ∙ sym (get_or-set_same (column k n m) i v 0 (rw column_length hi)))
      | no q ↦ at_put_slot k m i j v q ∙ sym (get_or-set_other (column k n m) i j v 0 q ∙ column_at k n m j 0 hj)
    ])

-- a store to another field
pub column_other : (k l n : ℕ) (m : List ℕ) (i v : ℕ) → k < 16 → l < 16 → (l ≡ k → ⊥) → column l n (put k m i v) ≡ column l n m
column_other k l n m i v hk hl q =
    ext_get_or 0 (column l n (put k m i v)) (column l n m) (column_length l n (put k m i v) ∙ sym (column_length l n m))
    (λ j h.
    let hj : j < n = rw (column_length l n (put k m i v)) at h in
    column_at l n (put k m i v) j 0 hj ∙ at_put_field k l m i j v hk hl q ∙ sym (column_at l n m j 0 hj))

-- a store behind the last entry
pub column_behind : (k n : ℕ) (m : List ℕ) (i v : ℕ) → n ≤ i → column k n (put k m i v) ≡ column k n m
column_behind k n m i v h =
    ext_get_or 0 (column k n (put k m i v)) (column k n m) (column_length k n (put k m i v) ∙ sym (column_length k n m))
    (λ j hj.
    let hj' : j < n = rw (column_length k n (put k m i v)) at hj in
    column_at k n (put k m i v) j 0 hj' ∙ at_put_slot k m i j v (λ e. omega arith) ∙ sym (column_at k n m j 0 hj'))

-- an entry pushed: stored behind the last one
pub column_pushed : (k n : ℕ) (m : List ℕ) (v : ℕ) → 16 * n + k < length m → column k (n + 1) (put k m n v) ≡ column k n m ++ v ∷ []
column_pushed k n m v h =
    column_push k n (put k m n v)
    ∙ (λ j. column_behind k n m n v (omega arith) j ++ at_put k m n v h j ∷ [])
