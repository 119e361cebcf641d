-- The loop of `set_new_owner` over the work list is the definition's, pass by pass. Assumes nothing.
use mathlib.Core.Path.{◌≡◌, refl, ◌∙◌}
use mathlib.Core.List.{List}
use Prim.Native.Nat.{ℕ, zero, suc, ◌<◌}
use lib.ListN.{length}
use borrow.Author.Tests.{eq-eqb, ne_eqb}
use Rattle.reference.specs.Arena.{Arena, next_of, set_owner, own_from, set_new_owner}
use Rattle.rectclip.specs.declared.arena.Arena as lent
use Rattle.rectclip.specs.Memory.{at, put}
use Rattle.rectclip.specs.Arenas.{arena_at, Holds}
use Rattle.rectclip.specs.Changes.{arena_of}
use Rattle.rectclip.proofs.Arenas.{next_at}
use Rattle.rectclip.proofs.Stores.{Kept, stored_owner}

own_stop : (left : ℕ) (a : Arena) (op x owner : ℕ) → x ≡ op → a ≡ own_from left a op x owner
unfolding own_from
own_stop zero a op x owner e = refl
own_stop (suc left) a op x owner e = rw (eq-eqb x op e)

own_on : (left : ℕ) (a : Arena) (op x owner : ℕ) → (x ≡ op → ⊥) → own_from left (set_owner a x owner) op (next_of (set_owner a x owner) x) owner ≡ own_from (suc left) a op x owner
unfolding own_from set_owner
own_on left a op x owner q = rw (ne_eqb x op q)

-- the struct with the list m
abbrev with_list : (a : lent.Arena) (m : List ℕ) → Holds m a.sizes → lent.Arena
with_list a m h = record { store = a.store; work = record { ref_ptr = a.work.ref_ptr; ghost_name = a.work.ghost_name; now = m }; sizes = a.sizes; drawn = a.drawn; holds = h }

-- at the head of the loop, at node x, where the list is m: what is left to do gives what the whole was to give
pub record Owning (a : lent.Arena) (op owner : ℕ) (m : List ℕ) (x left : ℕ) : Type 0 where
  pub holds : Holds m a.sizes
  pub cells : length m ≡ length a.work.now
  pub goal : own_from left (arena_at m a.sizes) op x owner ≡ set_new_owner a.sizes.nodes (arena_of a) op owner
  pub here : x < a.sizes.nodes

-- the node behind one, as the list has it
behind : (a : lent.Arena) (m : List ℕ) {x x' : ℕ} → x < a.sizes.nodes → x' ≡ at 0 m x → x' ≡ next_of (arena_at m a.sizes) x
behind a m {x} h e = rw (next_at m a.sizes x h) e

module _ {a : lent.Arena} {op owner : ℕ} (g : owner < a.sizes.results) {m' : List ℕ} {x' : ℕ} where
  pub owning_start : op < a.sizes.nodes → m' ≡ put 2 a.work.now op owner → x' ≡ at 0 m' op → Owning a op owner m' x' a.sizes.nodes
  unfolding set_new_owner set_owner
  owning_start h w e =
      let k = stored_owner a op owner h g w in
      let n = behind a m' h e in
      record {
        holds = k.holds;
        cells = k.cells;
        goal = rw (n, k.is);
        here = rw n (k.holds.valid.next_in op h);
      }

  pub owning_again : {m : List ℕ} {x left left' : ℕ} → Owning a op owner m x left → left ≡ suc left' → (x ≡ op → ⊥) → m' ≡ put 2 m x owner → x' ≡ at 0 m' x → Owning a op owner m' x' left'
  owning_again {m} {x} {left' = left'} I z q w e =
      let k = stored_owner (with_list a m I.holds) x owner I.here g w in
      let n = behind a m' I.here e in
      record {
        holds = k.holds;
        cells = k.cells ∙ I.cells;
        goal = rw (n, k.is) (own_on left' (arena_at m a.sizes) op x owner q ∙ rw z at I.goal);
        here = rw n (k.holds.valid.next_in x I.here);
      }

module _ {a : lent.Arena} {op owner : ℕ} {m : List ℕ} {x left : ℕ} (I : Owning a op owner m x left) where
  -- the loop is left: what the whole was to give is there
  pub owning_stop : x ≡ op → Kept a m a.sizes (set_new_owner a.sizes.nodes (arena_of a) op owner)
  owning_stop e = record { is = own_stop left (arena_at m a.sizes) op x owner e ∙ I.goal; holds = I.holds; cells = I.cells }

  pub owning_out : left ≡ 0 → Kept a m a.sizes (set_new_owner a.sizes.nodes (arena_of a) op owner)
  unfolding own_from
  owning_out z = record { is = rw z at I.goal; holds = I.holds; cells = I.cells }
