-- The entries of a side after a split or a rejoining, over the work list, are the definition's. Assumes nothing.
use mathlib.Core.Path.{◌≡◌, refl, sym, ◌∙◌, subst}
use mathlib.Core.Bool.{Bool, true, false, not, beq}
use mathlib.Core.List.{List}
use Prim.Native.Nat.{ℕ, suc, ◌+◌, ◌*◌, ◌<◌}
use native.Mathlib.Omega.{arith}
use Rattle.plane.specs.declared.point.Point64.{Point64}
use Rattle.plane.specs.Basics.{none}
use Rattle.reference.specs.Arena.{Arena, set_entry, add_to_edge, uncouple_edge}
use Rattle.reference.specs.Tidy.{cw_is_toward_larger, is_larger, is_spent, keep_one, keep_both, keep_each, settle}
use Rattle.rectclip.specs.declared.arena.Arena as lent
use Rattle.rectclip.specs.declared.settle.Turn.{Turn}
use Rattle.rectclip.specs.declared.side.Side.{Side}
use Rattle.rectclip.specs.Arenas.{Space}
use Rattle.rectclip.specs.Changes.{arena_of, Leaves, Becomes, Enters}
use Rattle.rectclip.specs.Turns.{Entries, put_entry, Settled, Moves}
use Rattle.rectclip.proofs.Space.{space_less, space_entry, space_put, space_moved}
use Rattle.rectclip.proofs.Changes.{nodes_many, then_leaves, becomes_left, then_becomes}

abbrev pub turn_at : Side → ℕ → ℕ → Turn
turn_at side i j = record { side = side; i = i; j = j }

-- ---- put_entry
module _ {m m' : lent.Arena} (idx i j v : ℕ) where
  pub put_clockwise : (b : Bool) → b ≡ true → Leaves m m' (set_entry (arena_of m) (idx * 2) i v) → Leaves m m' (put_entry idx (arena_of m) i j v b)
  unfolding put_entry
  put_clockwise b t l = rw t l

  pub put_other : (b : Bool) → b ≡ false → Leaves m m' (set_entry (arena_of m) (idx * 2 + 1) j v) → Leaves m m' (put_entry idx (arena_of m) i j v b)
  unfolding put_entry
  put_other b t l = rw t l

pub entries_on : {m m₁ : lent.Arena} {at : Turn} {b : Arena} → Becomes m m₁ b → Entries m at → Entries m₁ at
entries_on {at = at} k x = record { i_in = omega (arith, x.i_in, k.lists (at.side.idx * 2)); j_in = omega (arith, x.j_in, k.lists (at.side.idx * 2 + 1)) }

-- ---- keep_one, keep_both, keep_each
module _ (at : Turn) where
  abbrev idx : ℕ
  idx = at.side.idx

  abbrev i : ℕ
  i = at.i

  abbrev j : ℕ
  j = at.j

  side_in : idx < 4
  side_in = at.side.within

  module _ (pts : List Point64) {m : lent.Arena} (op : ℕ) (b : Bool) (w : b ≡ beq (is_larger pts idx (arena_of m) op) (cw_is_toward_larger idx)) where
    module _ {m₁ m₂ : lent.Arena} (k : Leaves m m₁ (put_entry idx (arena_of m) i j op b)) (l : Leaves m₁ m₂ (put_entry idx (arena_of m₁) i j none (not b))) where
      both : Becomes m m₂ (put_entry idx (put_entry idx (arena_of m) i j op b) i j none (not b))
      both = becomes_left (then_leaves (λ _ _ a. put_entry idx a i j none (not b)) k l)

      space_one : (N p n : ℕ) → Space N p (suc n) (arena_of m) → Space N p n (put_entry idx (put_entry idx (arena_of m) i j op b) i j none (not b))
      space_one N p n S = space_less (space_put idx i j none (not b) side_in (space_put idx i j op b side_in S))

      pub one_clockwise : b ≡ true → Settled m m₂ at (turn_at at.side i (j + 1)) (keep_one pts idx (arena_of m) i j op)
      unfolding keep_one put_entry
      one_clockwise t = rw (sym w ∙ t) (record { turned = record { becomes = rw t at both; side = refl; i = refl; j = refl }; space = rw t at space_one })

      pub one_other : b ≡ false → Settled m m₂ at (turn_at at.side (i + 1) j) (keep_one pts idx (arena_of m) i j op)
      unfolding keep_one put_entry
      one_other t = rw (sym w ∙ t) (record { turned = record { becomes = rw t at both; side = refl; i = refl; j = refl }; space = rw t at space_one })

    pub both_clockwise : b ≡ true → (op2 : ℕ) {m₁ m₂ m₃ : lent.Arena} → Leaves m m₁ (set_entry (arena_of m) (idx * 2) i op)
        → Moves m₁ m₂ (add_to_edge (uncouple_edge (arena_of m₁) op2) (idx * 2) op2) → Leaves m₂ m₃ (set_entry (arena_of m₂) (idx * 2 + 1) j none)
        → Settled m m₃ at (turn_at at.side i (j + 1)) (keep_both pts idx (arena_of m) i j op op2)
    unfolding keep_both
    both_clockwise t op2 k₁ k₂ k₃ =
        let moves : Arena → Arena = λ a. add_to_edge (uncouple_edge a op2) (idx * 2) op2 in
        let space = subst (λ a. (N p n : ℕ) → Space N p (suc n) a → Space N p n (moves a)) k₁.is k₂.space in
        rw (sym w ∙ t) (record {
          turned = record {
            becomes = then_becomes (λ _ _ a. set_entry a (idx * 2 + 1) j none) (then_becomes (λ _ _ a. moves a) (becomes_left k₁) k₂.becomes) (becomes_left k₃);
            side = refl;
            i = refl;
            j = refl;
          };
          space = λ N p n S. space_entry (idx * 2 + 1) j none (omega arith) (space N p n (space_entry (idx * 2) i op (omega arith) S));
        })

    pub both_other : b ≡ false → (op2 : ℕ) {m₁ m₂ m₃ : lent.Arena} → Leaves m m₁ (set_entry (arena_of m) (idx * 2) i none)
        → Leaves m₁ m₂ (set_entry (arena_of m₁) (idx * 2 + 1) j op2) → Moves m₂ m₃ (add_to_edge (uncouple_edge (arena_of m₂) op) (idx * 2 + 1) op)
        → Settled m m₃ at (turn_at at.side (i + 1) 0) (keep_both pts idx (arena_of m) i j op op2)
    unfolding keep_both
    both_other t op2 k₁ k₂ k₃ =
        let moves : Arena → Arena = λ a. add_to_edge (uncouple_edge a op) (idx * 2 + 1) op in
        let k = then_leaves (λ _ _ a. set_entry a (idx * 2 + 1) j op2) k₁ k₂ in
        let space = subst (λ a. (N p n : ℕ) → Space N p (suc n) a → Space N p n (moves a)) k.is k₃.space in
        rw (sym w ∙ t) (record {
          turned = record { becomes = then_becomes (λ _ _ a. moves a) (becomes_left k) k₃.becomes; side = refl; i = refl; j = refl };
          space = λ N p n S. space N p n (space_entry (idx * 2 + 1) j op2 (omega arith) (space_entry (idx * 2) i none (omega arith) S));
        })

    pub each_way : (op2 : ℕ) (b2 : Bool) → b2 ≡ beq (is_larger pts idx (arena_of m) op2) (cw_is_toward_larger idx) → {m₁ m₂ : lent.Arena}
        → Leaves m m₁ (put_entry idx (arena_of m) i j op b) → Leaves m₁ m₂ (put_entry idx (arena_of m₁) i j op2 b2)
        → Settled m m₂ at at (keep_each pts idx (arena_of m) i j op op2)
    unfolding keep_each put_entry
    each_way op2 b2 w2 k l =
        rw (← w, ← w2) (record {
          turned = record { becomes = becomes_left (then_leaves (λ _ _ a. put_entry idx a i j op2 b2) k l); side = refl; i = refl; j = refl };
          space = λ N p n S. space_less (space_put idx i j op2 b2 side_in (space_put idx i j op b side_in S));
        })

pub moved : {m m₁ m₂ : lent.Arena} (e op : ℕ) → e < 8 → op < m.sizes.nodes → Leaves m m₁ (uncouple_edge (arena_of m) op) → Enters m₁ m₂ (add_to_edge (arena_of m₁) e op)
    → Moves m m₂ (add_to_edge (uncouple_edge (arena_of m) op) e op)
moved {m} e op f g k l = record {
  becomes = then_becomes (λ _ _ a. add_to_edge a e op) (becomes_left k) l.becomes;
  space = λ N p n S. space_moved S e op f (omega (arith, nodes_many m)) (m.holds.valid.edge_in op g);
}

-- ---- settle
module _ {m m' : lent.Arena} (pts : List Point64) (at : Turn) (op op2 : ℕ) (next : Turn) where
  module _ {c : Bool} (told : c ≡ is_spent pts 0 (arena_of m) op) where
    pub settled_first : c ≡ true → Settled m m' at next (keep_one pts at.side.idx (arena_of m) at.i at.j op2) → Settled m m' at next (settle pts at.side.idx (arena_of m) at.i at.j op op2)
    unfolding settle
    settled_first e k = rw (← told, e) k

    module _ (e : c ≡ false) {c2 : Bool} (told2 : c2 ≡ is_spent pts 0 (arena_of m) op2) where
      pub settled_second : c2 ≡ true → Settled m m' at next (keep_one pts at.side.idx (arena_of m) at.i at.j op) → Settled m m' at next (settle pts at.side.idx (arena_of m) at.i at.j op op2)
      unfolding settle
      settled_second f k = rw (← told, e, ← told2, f) k

      module _ (f : c2 ≡ false) (b b2 : Bool) (w : b ≡ is_larger pts at.side.idx (arena_of m) op) (w2 : b2 ≡ is_larger pts at.side.idx (arena_of m) op2) where
        pub settled_both : beq b b2 ≡ true → Settled m m' at next (keep_both pts at.side.idx (arena_of m) at.i at.j op op2) → Settled m m' at next (settle pts at.side.idx (arena_of m) at.i at.j op op2)
        unfolding settle
        settled_both q k = rw (← told, e, ← told2, f, ← w, ← w2, q) k

        pub settled_each : beq b b2 ≡ false → Settled m m' at next (keep_each pts at.side.idx (arena_of m) at.i at.j op op2) → Settled m m' at next (settle pts at.side.idx (arena_of m) at.i at.j op op2)
        unfolding settle
        settled_each q k = rw (← told, e, ← told2, f, ← w, ← w2, q) k
