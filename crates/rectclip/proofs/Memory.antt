-- The laws of the work list's memory, for all fields at once: what is read after a store. Assumes nothing.
use mathlib.Core.Path.{◌≡◌, ap, ◌∙◌}
use mathlib.Core.List.{List}
use mathlib.Core.Logic.{◌⊎◌, inl, inr}
use Prim.Native.Nat.{ℕ, ◌+◌, ◌*◌, ◌<◌}
use lib.ListN.{get_or, set, length, length-set}
use lib.Seq.{get_or-set_same, get_or-set_other, set_out}
use native.Mathlib.Omega.{arith}
use native.Mathlib.Decide.{ℕ_discrete, dec_lt}
use Rattle.rectclip.specs.Memory.{at, put, Room}

pub length_put : (k : ℕ) (m : List ℕ) (i v : ℕ) → length (put k m i v) ≡ length m
unfolding put
length_put k m i v = length-set m (16 * i + k) v

pub room_put : (N k : ℕ) (m : List ℕ) (i v : ℕ) → Room N m → Room N (put k m i v)
room_put N k m i v r = record { cells = simp length_put r.cells; small = r.small }

pub at_put : (k : ℕ) (m : List ℕ) (i v : ℕ) → 16 * i + k < length m → at k (put k m i v) i ≡ v
unfolding put at
at_put k m i v h = get_or-set_same m (16 * i + k) v 0 h

pub at_put_field : (k l : ℕ) (m : List ℕ) (i j v : ℕ) → k < 16 → l < 16 → (l ≡ k → ⊥) → at l (put k m i v) j ≡ at l m j
unfolding put at
at_put_field k l m i j v hk hl h = get_or-set_other m (16 * i + k) (16 * j + l) v 0 (λ e. h (omega arith))

pub at_put_slot : (k : ℕ) (m : List ℕ) (i j v : ℕ) → (j ≡ i → ⊥) → at k (put k m i v) j ≡ at k m j
unfolding put at
at_put_slot k m i j v h = get_or-set_other m (16 * i + k) (16 * j + k) v 0 (λ e. h (omega arith))

-- whatever is read after a store is what was stored, in the field that was stored to, or what was there
pub at_put_or : (k l : ℕ) (m : List ℕ) (i j v : ℕ) → k < 16 → l < 16
    → ((l ≡ k) × (at l (put k m i v) j ≡ v)) ⊎ (at l (put k m i v) j ≡ at l m j)
unfolding put at
at_put_or k l m i j v hk hl =
    elim (ℕ_discrete (16 * j + l) (16 * i + k)) [
      | yes e ↦
          elim (dec_lt (16 * i + k) (length m)) [
            | yes h ↦ inl (omega arith, ap (λ (a : ℕ). get_or (set m (16 * i + k) v) a 0) e ∙ get_or-set_same m (16 * i + k) v 0 h)
            | no h ↦ inr (ap (λ (s : List ℕ). get_or s (16 * j + l) 0) (set_out m (16 * i + k) v (omega arith)))
          ]
      | no h ↦ inr (get_or-set_other m (16 * i + k) (16 * j + l) v 0 h)
    ]
