-- The nodes put down one after another are the definition's ring of the walked points. Assumes nothing.
use mathlib.Core.Path.{◌≡◌, refl, sym, ◌∙◌, ap}
use mathlib.Core.List.{List, [], ◌∷◌}
use Prim.Native.Nat.{ℕ, zero, suc, ◌+◌, ◌*◌, ◌-◌, ◌%◌, ◌<◌, ◌≤◌}
use native.Mathlib.Omega.{arith}
use native.Mathlib.Decide.{ℕ_discrete}
use lib.ListN.{length, get_or, replicate, length-append, length-replicate, get_or-replicate, get_or-append}
use lib.IntN.{ℤ}
use lib.Seq.{ext_get_or, get_or_at}
use borrow.Author.Tests.{eq-eqb, ne_eqb}
use Rattle.std.proofs.Math.Nat.{mod_self, mod-eq_of_lt}
use Rattle.plane.specs.Basics.{none, push, upwards}
use Rattle.reference.specs.Arena.{edge_list, ring}
use Rattle.rectclip.specs.declared.arena.Sizes.{Sizes}
use Rattle.rectclip.specs.Memory.{at, put, Room, column, from}
use Rattle.rectclip.specs.declared.arena.Arena as lent
use Rattle.rectclip.specs.Arenas.{arena_at, Holds}
use Rattle.rectclip.specs.Rings.{NodeAt, Placed, after, before, Linked, Built}
use Rattle.rectclip.proofs.Memory.{length_put, room_put, at_put, at_put_field, at_put_slot}
use Rattle.rectclip.proofs.Columns.{column_at, column_length}
use Rattle.rectclip.proofs.Arenas.{next_at, prev_at, owner_at, edge_at, result_at}
use Rattle.rectclip.proofs.Spare.{list_length}

-- ---- one node
kept : (f k : ℕ) (m : List ℕ) (i j v : ℕ) → f < 16 → k < 16 → (j ≡ i → ⊥) → at f (put k m i v) j ≡ at f m j
kept f k m i j v hf hk q = elim (ℕ_discrete f k) [ yes e ↦ rw e (at_put_slot k m i j v q) | no n ↦ at_put_field k f m i j v hk hf n ]

module _ (m : List ℕ) (i next prev : ℕ) (h : 16 * i + 16 ≤ length m) where
  m₁ : List ℕ
  m₁ = put 0 m i next

  m₂ : List ℕ
  m₂ = put 1 m₁ i prev

  m₃ : List ℕ
  m₃ = put 2 m₂ i 0

  m₄ : List ℕ
  m₄ = put 3 m₃ i none

  len₁ : length m₁ ≡ length m
  unfolding m₁
  len₁ = length_put 0 m i next

  len₂ : length m₂ ≡ length m
  unfolding m₂
  len₂ = length_put 1 m₁ i prev ∙ len₁

  len₃ : length m₃ ≡ length m
  unfolding m₃
  len₃ = length_put 2 m₂ i 0 ∙ len₂

  stays : (f j : ℕ) → f < 16 → (j ≡ i → ⊥) → at f m₄ j ≡ at f m j
  unfolding m₁ m₂ m₃ m₄
  stays f j hf q =
      kept f 3 m₃ i j none hf (omega arith) q ∙ kept f 2 m₂ i j 0 hf (omega arith) q ∙ kept f 1 m₁ i j prev hf (omega arith) q ∙ kept f 0 m i j next hf (omega arith) q

  pub placed_node : Placed m (put 3 (put 2 (put 1 (put 0 m i next) i prev) i 0) i none) i next prev
  unfolding m₁ m₂ m₃ m₄
  placed_node = record {
    here = record {
      next_is = at_put_field 3 0 m₃ i i none (omega arith) (omega arith) (λ e. omega arith) ∙ at_put_field 2 0 m₂ i i 0 (omega arith) (omega arith) (λ e. omega arith)
          ∙ at_put_field 1 0 m₁ i i prev (omega arith) (omega arith) (λ e. omega arith) ∙ at_put 0 m i next (omega arith);
      prev_is = at_put_field 3 1 m₃ i i none (omega arith) (omega arith) (λ e. omega arith) ∙ at_put_field 2 1 m₂ i i 0 (omega arith) (omega arith) (λ e. omega arith)
          ∙ at_put 1 m₁ i prev (omega (arith, len₁));
      owner_is = at_put_field 3 2 m₃ i i none (omega arith) (omega arith) (λ e. omega arith) ∙ at_put 2 m₂ i 0 (omega (arith, len₂));
      edge_is = at_put 3 m₃ i none (omega (arith, len₃));
    };
    others = λ j a b q n. record {
      next_is = stays 0 j (omega arith) q ∙ n.next_is;
      prev_is = stays 1 j (omega arith) q ∙ n.prev_is;
      owner_is = stays 2 j (omega arith) q ∙ n.owner_is;
      edge_is = stays 3 j (omega arith) q ∙ n.edge_is;
    };
    same = length_put 3 m₃ i none ∙ len₃;
  }

-- ---- the loop
pub record Linking (n : ℕ) (m₀ m : List ℕ) (prev i : ℕ) : Type 0 where
  pub each : (j : ℕ) → j < i → NodeAt m j (after n j) (before n j)
  pub prev_is : prev ≡ before n i
  pub prev_in : prev < n
  pub here : i ≤ n
  pub same : length m ≡ length m₀

after_is : (n i : ℕ) → i < n → (i + 1) % n ≡ after n i
after_is n i h =
    elim (ℕ_discrete (i + 1) n) [
      | yes e ↦ rw (eq-eqb (i + 1) n e, e) (mod_self n)
      | no q ↦ rw (ne_eqb (i + 1) n q) (mod-eq_of_lt (omega arith))
    ]

pub linking_again : {n : ℕ} {m₀ m : List ℕ} {prev i : ℕ} → Linking n m₀ m prev i → i < n → {m' : List ℕ} → Placed m m' i ((i + 1) % n) prev → Linking n m₀ m' i (i + 1)
linking_again {n} {prev = prev} {i = i} I h {m'} p = record {
  each = λ j l.
      elim (ℕ_discrete j i) [
        | yes q ↦ rw (q, ← after_is n i h, ← I.prev_is) p.here
        | no q ↦ p.others j (after n j) (before n j) q (I.each j (omega arith))
      ];
  prev_is = rw (ne_eqb (i + 1) 0 (λ q. omega arith)) (omega arith);
  prev_in = h;
  here = omega arith;
  same = p.same ∙ I.same;
}

-- ---- the lists
upwards_length : (k n : ℕ) → length (upwards k n) ≡ n
upwards_length k zero = refl
upwards_length k (suc n) = ap suc (upwards_length (suc k) n)

upwards_at : (k n j d : ℕ) → j < n → get_or (upwards k n) j d ≡ k + j
upwards_at k zero j d h = absurd (omega arith)
upwards_at k (suc n) zero d h = omega arith
upwards_at k (suc n) (suc j) d h = upwards_at (suc k) n j d (omega arith) ∙ omega arith

column_is : (k n : ℕ) (m l : List ℕ) → length l ≡ n → ((j : ℕ) → j < n → at k m j ≡ get_or l j 0) → column k n m ≡ l
column_is k n m l e h =
    ext_get_or 0 (column k n m) l (column_length k n m ∙ sym e) (λ j g. let i : j < n = omega (arith, column_length k n m) in column_at k n m j 0 i ∙ h j i)

after_at : (n j : ℕ) → j < n → after n j ≡ get_or (push (upwards 1 (n - 1)) 0) j 0
after_at n j h =
    elim (ℕ_discrete (j + 1) n) [
      | yes e ↦ rw (eq-eqb (j + 1) n e) (sym (get_or_at (upwards 1 (n - 1)) 0 [] 0 j (upwards_length 1 (n - 1) ∙ omega arith)))
      | no q ↦
          rw (ne_eqb (j + 1) n q)
          (omega (arith, get_or-append (upwards 1 (n - 1)) (0 ∷ []) 0 j (omega (arith, upwards_length 1 (n - 1))), upwards_at 1 (n - 1) j 0 (omega arith)))
    ]

before_at : (n j : ℕ) → j < n → before n j ≡ get_or ((n - 1) ∷ upwards 0 (n - 1)) j 0
before_at n zero h = refl
before_at n (suc j) h = rw (ne_eqb (suc j) 0 (λ q. omega arith)) (omega (arith, upwards_at 0 (n - 1) j 0 (omega arith)))

pub after_in : (n j : ℕ) → j < n → after n j < n
after_in n j h = elim (ℕ_discrete (j + 1) n) [ yes e ↦ rw (eq-eqb (j + 1) n e) (omega arith) | no q ↦ rw (ne_eqb (j + 1) n q) (omega arith) ]

before_in : (n j : ℕ) → j < n → before n j < n
before_in n j h = elim (ℕ_discrete j 0) [ yes e ↦ rw (eq-eqb j 0 e) (omega arith) | no q ↦ rw (ne_eqb j 0 q) (omega arith) ]

-- ---- the arena
abbrev pub sizes : ℕ → ℕ → ℕ → Sizes
sizes slots n results = record { slots = slots; nodes = n; results = results; lens = replicate 8 0 }

-- the list m' holds the ring of n nodes in the sizes s
pub record Laid (m m' : List ℕ) (slots n : ℕ) (s : Sizes) : Type 0 where
  pub is : arena_at m' s ≡ ring n
  pub holds : Holds m' s
  pub slots_are : s.slots ≡ slots
  pub nodes_are : s.nodes ≡ n
  pub cells : length m' ≡ length m

pub built_by : {points : List ℤ} {m : List ℕ} {slots n : ℕ} {r : lent.Arena} → Laid m r.work.now slots n r.sizes → r.store.now ≡ points → Built points m slots n r
built_by L e = record { is = L.is; store = e; slots_are = L.slots_are; nodes_are = L.nodes_are; cells = L.cells }

no_lens : (e : ℕ) → e < 8 → ◌≡◌ {A = ℕ} (get_or (replicate 8 0) e 0) 0
no_lens e h = get_or-replicate {A = ℕ} 8 e 0 0 h

no_entries : (m : List ℕ) (slots n results e : ℕ) → e < 8 → length (edge_list (arena_at m (sizes slots n results)) e) ≡ 0
no_entries m slots n results e h = list_length m (sizes slots n results) refl e h ∙ no_lens e h

module _ {m : List ℕ} (slots : ℕ) (R : Room slots m) where
  pub built_none : Laid m m slots 0 (sizes slots 0 0)
  unfolding arena_at ring column from
  built_none = record {
    is = refl;
    holds = record {
      room = R;
      nodes = omega arith;
      results = omega arith;
      eight = refl;
      lists = λ e h. omega (arith, no_lens e h);
      valid = record {
        next_in = λ i h. absurd (omega arith);
        prev_in = λ i h. absurd (omega arith);
        owner_in = λ i h. absurd (omega arith);
        edge_in = λ i h. absurd (omega arith);
        result_in = λ i h. absurd (omega arith);
        entry_in = λ e j h g. absurd (omega (arith, no_entries m slots 0 0 e h));
      };
    };
    slots_are = refl;
    nodes_are = refl;
    cells = refl;
  }

  module _ (n : ℕ) (h : n ≤ slots) (q : n ≡ 0 → ⊥) {k : List ℕ} (L : Linked m k n) where
    big : 16 * 0 + 4 < length k
    big = omega (arith, R.cells, L.same)

    field_kept : (f j : ℕ) → f < 4 → at f (put 4 k 0 (n - 1)) j ≡ at f k j
    field_kept f j l = at_put_field 4 f k 0 j (n - 1) (omega arith) (omega arith) (λ e. omega arith)

    pub built : {m' : List ℕ} → m' ≡ put 4 k 0 (n - 1) → Laid m m' slots n (sizes slots n 1)
    unfolding ring arena_at column from
    built w =
        let z = put 4 k 0 (n - 1) in
        let s = sizes slots n 1 in
        rw w (record {
          is = rw (ne_eqb n 0 q) (λ i. record {
            owner = column_is 2 n z (replicate n 0) (length-replicate n 0) (λ j l. field_kept 2 j (omega arith) ∙ (L.each j l).owner_is ∙ sym (get_or-replicate n j 0 0 l)) i;
            edge = column_is 3 n z (replicate n none) (length-replicate n none) (λ j l. field_kept 3 j (omega arith) ∙ (L.each j l).edge_is ∙ sym (get_or-replicate n j none 0 l)) i;
            next = column_is 0 n z (push (upwards 1 (n - 1)) 0) (length-append (upwards 1 (n - 1)) (0 ∷ []) ∙ omega (arith, upwards_length 1 (n - 1)))
                (λ j l. field_kept 0 j (omega arith) ∙ (L.each j l).next_is ∙ after_at n j l) i;
            prev = column_is 1 n z ((n - 1) ∷ upwards 0 (n - 1)) (omega (arith, upwards_length 0 (n - 1))) (λ j l. field_kept 1 j (omega arith) ∙ (L.each j l).prev_is ∙ before_at n j l) i;
            results = at_put 4 k 0 (n - 1) big i ∷ [];
            edges = replicate 8 [];
          });
          holds = record {
            room = room_put slots 4 k 0 (n - 1) (record { cells = omega (arith, R.cells, L.same); small = R.small });
            nodes = h;
            results = omega arith;
            eight = refl;
            lists = λ e l. omega (arith, no_lens e l);
            valid = record {
              next_in = λ i l. rw (next_at z s i l ∙ field_kept 0 i (omega arith) ∙ (L.each i l).next_is) (after_in n i l);
              prev_in = λ i l. rw (prev_at z s i l ∙ field_kept 1 i (omega arith) ∙ (L.each i l).prev_is) (before_in n i l);
              owner_in = λ i l. rw (owner_at z s i l ∙ field_kept 2 i (omega arith) ∙ (L.each i l).owner_is) (omega arith);
              edge_in = λ i l w. absurd (w (edge_at z s i l ∙ field_kept 3 i (omega arith) ∙ (L.each i l).edge_is));
              result_in = λ r l w. let e : r ≡ 0 = omega arith in rw (result_at z s r l ∙ ap (at 4 z) e ∙ at_put 4 k 0 (n - 1) big) (omega arith);
              entry_in = λ e j l g. absurd (omega (arith, no_entries z slots n 1 e l));
            };
          };
          slots_are = refl;
          nodes_are = refl;
          cells = length_put 4 k 0 (n - 1) ∙ L.same;
        })
