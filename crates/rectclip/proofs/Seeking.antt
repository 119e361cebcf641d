-- The inner loop of `tidy_edges`, over the work list, stops where the definition's does. Assumes nothing.
use Rattle.std.specs.Prelude.{Option, None, Some}
use Rattle.std.specs.Option.{IsSome}
use mathlib.Core.Path.{◌≡◌, refl, sym, ◌∙◌, ap}
use mathlib.Core.Bool.{Bool, true, false, not, ◌&&◌}
use mathlib.Core.List.{List}
use Prim.Native.Nat.{ℕ, ◌+◌, ◌<◌, ◌≤◌, max}
use native.Mathlib.Omega.{arith}
use native.Mathlib.Numerals.{add-one}
use lib.ListN.{length, get_or, drop, drop_of_length-le}
use lib.Seq.{drop-cons}
use lib.Dec.{eqb, ltb}
use borrow.Author.Tests.{eq-eqb, ltb-true, ltb-false}
use Rattle.plane.specs.Basics.{none}
use Rattle.reference.specs.Arena.{Arena, edge_list}
use Rattle.reference.specs.Tidy.{is_stub, seek}
use Rattle.rectclip.specs.declared.arena.Arena as lent
use Rattle.rectclip.specs.Arenas.{mark}
use Rattle.rectclip.specs.Changes.{arena_of}
use Rattle.rectclip.specs.Turns.{is_live, Sought}
use Rattle.rectclip.proofs.Changes.{list_long}

module _ (a : Arena) (l : List ℕ) (j : ℕ) (h : j < length l) where
  seek_here : is_live a (get_or l j none) ≡ true → seek a j (drop j l) ≡ j
  unfolding seek
  seek_here e = rw (drop-cons l j none h) (rw e refl)

  seek_on : is_live a (get_or l j none) ≡ false → seek a j (drop j l) ≡ seek a (j + 1) (drop (j + 1) l)
  unfolding seek
  seek_on e = rw (drop-cons l j none h) (rw e (ap (λ (k : ℕ). seek a (j + 1) (drop k l)) (sym (add-one j))))

seek_end : (a : Arena) (l : List ℕ) (j : ℕ) → length l ≤ j → seek a j (drop j l) ≡ j
unfolding seek
seek_end a l j h = rw (drop_of_length-le l h) refl

pub live_some : (a : Arena) (x : ℕ) → is_live a x ≡ true → x ≡ none → ⊥
live_some a x e q =
    let t : is_live a x ≡ false = rw (eq-eqb x none q) refl in
    let z : ◌≡◌ {A = ℕ} 0 1 = cc in
    omega arith

pub live_ring : (a : Arena) (x : ℕ) → is_live a x ≡ true → is_stub a x ≡ false
live_ring a x e = go (eqb x none) (is_stub a x) e
  where
    go : (b c : Bool) → not b && not c ≡ true → c ≡ false
    go b false e = refl
    go false true e = sym e
    go true true e = sym e

-- what is sought from where it stops is there
pub sought_there : {a : Arena} {e j k : ℕ} → Sought a e j k → Sought a e k k
sought_there {a} {e} {j} {k} z = record { is = sym (go (ltb k (length l)) refl); live = z.live }
  where
    l : List ℕ
    l = edge_list a e

    go : (b : Bool) → ltb k (length l) ≡ b → seek a k (drop k l) ≡ k
    go true t = seek_here a l k (ltb-true k (length l) t) (z.live (ltb-true k (length l) t))
    go false t = seek_end a l k (ltb-false k (length l) t)

-- the entry where `seek` stops within the list is a node
pub entry_some : (m : lent.Arena) (e from j : ℕ) (x : Option ℕ) → e < 8 → Sought (arena_of m) e from j → j < get_or m.sizes.lens e 0 → mark x ≡ get_or (edge_list (arena_of m) e) j none → IsSome x
entry_some m e from j None k z h w = absurd (live_some (arena_of m) (get_or (edge_list (arena_of m) e) j none) (z.live (omega (arith, list_long m e k))) (sym w))
entry_some m e from j (Some v) k z h w = refl

-- at the head of the loop, at position j
pub record SeekingOn (m : lent.Arena) (e from j : ℕ) : Type 0 where
  pub goal : seek (arena_of m) j (drop j (edge_list (arena_of m) e)) ≡ seek (arena_of m) from (drop from (edge_list (arena_of m) e))
  pub most : j ≤ max from (get_or m.sizes.lens e 0)

module _ {m : lent.Arena} {e from j : ℕ} (I : SeekingOn m e from j) (k : e < 8) where
  module _ (z : j < get_or m.sizes.lens e 0) (x : ℕ) (g : x ≡ get_or (edge_list (arena_of m) e) j none) (b : Bool) (w : b ≡ is_live (arena_of m) x) where
    inside : j < length (edge_list (arena_of m) e)
    inside = omega (arith, list_long m e k)

    live : is_live (arena_of m) (get_or (edge_list (arena_of m) e) j none) ≡ b
    live = ap (is_live (arena_of m)) (sym g) ∙ sym w

    pub seeking_again : b ≡ false → SeekingOn m e from (j + 1)
    seeking_again t = record { goal = sym (seek_on (arena_of m) (edge_list (arena_of m) e) j inside (live ∙ t)) ∙ I.goal; most = omega arith }

    pub seeking_found : b ≡ true → Sought (arena_of m) e from j
    seeking_found t = record {
      is = sym (seek_here (arena_of m) (edge_list (arena_of m) e) j inside (live ∙ t)) ∙ I.goal;
      live = λ _. live ∙ t;
    }

  pub seeking_end : get_or m.sizes.lens e 0 ≤ j → Sought (arena_of m) e from j
  seeking_end z = record {
    is = sym (seek_end (arena_of m) (edge_list (arena_of m) e) j (omega (arith, list_long m e k))) ∙ I.goal;
    live = λ l. absurd (omega (arith, list_long m e k));
  }

  pub seeking_out : from ≤ j → get_or m.sizes.lens e 0 ≤ j → (r : ℕ) → r ≡ max from (get_or m.sizes.lens e 0) → Sought (arena_of m) e from r
  seeking_out h z r w = let there : r ≡ j = omega (arith, I.most) in rw there (seeking_end z)
