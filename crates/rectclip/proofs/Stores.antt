-- One store to the work list is one store to the arena that it holds, and what it holds stays valid: a law for each leaf of arena.rt. Assumes nothing.
use Rattle.std.specs.Prelude.{Option, None, Some, IfSome}
use mathlib.Core.Path.{◌≡◌, refl, ◌∙◌}
use mathlib.Core.List.{List}
use Prim.Native.Nat.{ℕ, ◌+◌, ◌<◌, ◌≤◌}
use native.Mathlib.Omega.{arith}
use native.Mathlib.Decide.{ℕ_discrete}
use lib.ListN.{length, get_or, length-set}
use lib.Seq.{get_or-set_same, get_or-set_other}
use Rattle.plane.specs.Basics.{none, push}
use Rattle.reference.specs.Arena.{Arena, edge_list, set_next, set_prev, set_owner, set_edge, set_result, set_results, set_entry, set_edge_list}
use Rattle.rectclip.specs.declared.arena.Sizes.{Sizes}
use Rattle.rectclip.specs.declared.side.EdgeList.{EdgeList}
use Rattle.rectclip.specs.Memory.{put}
use Rattle.rectclip.specs.declared.arena.Arena as lent
use Rattle.rectclip.specs.Arenas.{arena_at, mark, list_mark, Valid, Holds, Marked, longer_list, one_result_more}
use Rattle.rectclip.specs.Changes.{arena_of, Leaves, Grows}
use Rattle.rectclip.proofs.Memory.{length_put, room_put}
use Rattle.rectclip.proofs.Columns.{column_length}
use Rattle.rectclip.proofs.Arenas.{put_next, put_prev, put_owner, put_edge, put_result, put_entry, push_entry, push_result}
use Rattle.rectclip.proofs.Ranges.{valid_next, valid_prev, valid_owner, valid_edge, valid_result, valid_entry, valid_push_result, valid_push_entry}

-- what an Option stands for in the list, and back
pub marked_in : (v : Option ℕ) (n : ℕ) → IfSome v (λ i. i < n) → Marked n (mark v)
marked_in None n h = λ q. absurd (q refl)
marked_in (Some i) n h = λ _. h

pub list_in : (v : Option EdgeList) → Marked 8 (list_mark v)
list_in None = λ q. absurd (q refl)
list_in (Some l) = λ _. l.within

pub some_in : (v : Option ℕ) (n x : ℕ) → mark v ≡ x → IfSome v (λ i. i ≡ none → ⊥) → Marked n x → IfSome v (λ i. i < n)
some_in None n x e q h = tt
some_in (Some i) n x e q h = let l = h (λ w. q (e ∙ w)) in omega arith

-- the list m' holds the arena b in the sizes s
pub record Kept (x : lent.Arena) (m' : List ℕ) (s : Sizes) (b : Arena) : Type 0 where
  pub is : arena_at m' s ≡ b
  pub holds : Holds m' s
  pub cells : length m' ≡ length x.work.now

pub leaves_by : {x y : lent.Arena} {b : Arena} → Kept x y.work.now y.sizes b → y.sizes ≡ x.sizes → y.work.ghost_name ≡ x.work.ghost_name → y.store.now ≡ x.store.now → Leaves x y b
leaves_by k e n f = record { is = k.is; sizes = e; same = record { name = n; store = f; cells = k.cells } }

pub grows_by : {x y : lent.Arena} {s : Sizes} {b : Arena} → Kept x y.work.now y.sizes b → y.sizes ≡ s → y.work.ghost_name ≡ x.work.ghost_name → y.store.now ≡ x.store.now → Grows x y s b
grows_by k e n f = record { is = k.is; sizes = e; same = record { name = n; store = f; cells = k.cells } }

module _ (x : lent.Arena) where
  abbrev m : List ℕ
  m = x.work.now

  abbrev s : Sizes
  s = x.sizes

  abbrev h : Holds x.work.now x.sizes
  h = x.holds

  -- a store that changes the arena to b, valid again
  kept : (k i v : ℕ) (b : Arena) {m' : List ℕ} → m' ≡ put k m i v → arena_at (put k m i v) s ≡ b → Valid s.nodes s.results b → Kept x m' s b
  kept k i v b w e l =
      rw w (record {
        is = e;
        holds = record { room = room_put s.slots k m i v h.room; nodes = h.nodes; results = h.results; eight = h.eight; lists = h.lists; valid = rw e l };
        cells = length_put k m i v;
      })

  -- the lengths with one more in list e
  longer_within : (e : ℕ) → e < 8 → get_or s.lens e 0 < s.slots → (f : ℕ) → f < 8 → get_or (longer_list s e).lens f 0 ≤ s.slots
  unfolding longer_list
  longer_within e k g f l =
      elim (ℕ_discrete f e) [
        | yes q ↦ rw q (rw (get_or-set_same s.lens e (get_or s.lens e 0 + 1) 0 (rw h.eight k)) (omega arith))
        | no q ↦ rw (get_or-set_other s.lens e f (get_or s.lens e 0 + 1) 0 q) (h.lists f l)
      ]

  module _ {m' : List ℕ} where
    pub stored_next : (i v : ℕ) → i < s.nodes → v < s.nodes → m' ≡ put 0 m i v → Kept x m' s (set_next (arena_of x) i v)
    stored_next i v g l w = kept 0 i v _ w (put_next s.slots m s h.room h.eight i v h.nodes g) (valid_next h.valid i v l)

    pub stored_prev : (i v : ℕ) → i < s.nodes → v < s.nodes → m' ≡ put 1 m i v → Kept x m' s (set_prev (arena_of x) i v)
    stored_prev i v g l w = kept 1 i v _ w (put_prev s.slots m s h.room h.eight i v h.nodes g) (valid_prev h.valid i v l)

    pub stored_owner : (i v : ℕ) → i < s.nodes → v < s.results → m' ≡ put 2 m i v → Kept x m' s (set_owner (arena_of x) i v)
    stored_owner i v g l w = kept 2 i v _ w (put_owner s.slots m s h.room h.eight i v h.nodes g) (valid_owner h.valid i v l)

    pub stored_edge : (i : ℕ) (v : Option EdgeList) → i < s.nodes → {k : ℕ} → k ≡ list_mark v → m' ≡ put 3 m i k → Kept x m' s (set_edge (arena_of x) i (list_mark v))
    stored_edge i v g e w = kept 3 i (list_mark v) _ (rw e at w) (put_edge s.slots m s h.room h.eight i (list_mark v) h.nodes g) (valid_edge h.valid i (list_mark v) (list_in v))

    pub stored_result : (i : ℕ) (v : Option ℕ) → i < s.results → IfSome v (λ op. op < s.nodes) → {k : ℕ} → k ≡ mark v → m' ≡ put 4 m i k → Kept x m' s (set_result (arena_of x) i (mark v))
    stored_result i v g l e w = kept 4 i (mark v) _ (rw e at w) (put_result s.slots m s h.room h.eight i (mark v) h.results g) (valid_result h.valid i (mark v) (marked_in v s.nodes l))

    pub stored_entry : (e i : ℕ) (v : Option ℕ) → e < 8 → i < get_or s.lens e 0 → IfSome v (λ op. op < s.nodes) → {k : ℕ} → k ≡ mark v → m' ≡ put (8 + e) m i k → Kept x m' s (set_entry (arena_of x) e i (mark v))
    stored_entry e i v f g l q w = kept (8 + e) i (mark v) _ (rw q at w) (put_entry s.slots m s h.room h.eight e i (mark v) f (h.lists e f) g) (valid_entry h.valid e i (mark v) f (marked_in v s.nodes l))

    pub pushed_result : (v : ℕ) → s.results < s.slots → v < s.nodes → m' ≡ put 4 m s.results v
        → Kept x m' (one_result_more s) (set_results (arena_of x) (push (arena_of x).results v))
    unfolding one_result_more arena_at
    pushed_result v g l w =
        let e = push_result s.slots m s h.room h.eight v g in
        rw w (record {
          is = e;
          holds = record {
            room = room_put s.slots 4 m s.results v h.room;
            nodes = h.nodes;
            results = omega arith;
            eight = h.eight;
            lists = h.lists;
            valid = rw e (valid_push_result h.valid v (column_length 4 s.results m) (λ _. l));
          };
          cells = length_put 4 m s.results v;
        })

    pub pushed_entry : (e v : ℕ) → e < 8 → get_or s.lens e 0 < s.slots → v < s.nodes → m' ≡ put (8 + e) m (get_or s.lens e 0) v
        → Kept x m' (longer_list s e) (set_edge_list (arena_of x) e (push (edge_list (arena_of x) e) v))
    unfolding longer_list
    pushed_entry e v k g l w =
        let q = push_entry s.slots m s h.room h.eight e v k g in
        rw w (record {
          is = q;
          holds = record {
            room = room_put s.slots (8 + e) m (get_or s.lens e 0) v h.room;
            nodes = h.nodes;
            results = h.results;
            eight = length-set s.lens e (get_or s.lens e 0 + 1) ∙ h.eight;
            lists = longer_within e k g;
            valid = rw q (valid_push_entry h.valid e v k (λ _. l));
          };
          cells = length_put (8 + e) m (get_or s.lens e 0) v;
        })
