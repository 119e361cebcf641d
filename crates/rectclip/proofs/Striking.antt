-- A node taken out of its edge list, over the work list, is the definition's `uncouple_edge`. Assumes nothing.
use mathlib.Core.Path.{◌≡◌, refl, sym, ◌∙◌, ap}
use mathlib.Core.List.{List, [], ◌∷◌}
use Prim.Native.Nat.{ℕ, zero, suc, ◌<◌, ◌≤◌}
use native.Mathlib.Omega.{arith}
use lib.ListN.{length, get_or, set}
use lib.Seq.{set-get_or}
use borrow.Author.Tests.{eq-eqb, ne_eqb}
use Rattle.plane.specs.Basics.{none}
use Rattle.reference.specs.Arena.{Arena, edge_of, edge_list, set_edge, set_edge_list, set_entry, struck, uncouple_edge}
use Rattle.rectclip.specs.declared.arena.Arena as lent
use Rattle.rectclip.specs.Changes.{arena_of, Leaves}
use Rattle.rectclip.proofs.Changes.{list_long, leaves_same, leaves_renamed, then_leaves}

-- ---- the list
struck_first : (l : List ℕ) (op i : ℕ) → i < length l → get_or l i none ≡ op → ((j : ℕ) → j < i → get_or l j none ≡ op → ⊥) → set l i none ≡ struck l op
unfolding struck
struck_first [] op i h e q = absurd (omega arith)
struck_first (x ∷ l) op zero h e q = rw (eq-eqb x op e) refl
struck_first (x ∷ l) op (suc i) h e q =
    rw (ne_eqb x op (q 0 (omega arith))) (ap (λ (k : List ℕ). x ∷ k) (struck_first l op i (omega arith) e (λ j g. q (suc j) (omega arith))))

struck_never : (l : List ℕ) (op : ℕ) → ((j : ℕ) → j < length l → get_or l j none ≡ op → ⊥) → l ≡ struck l op
unfolding struck
struck_never [] op q = refl
struck_never (x ∷ l) op q = rw (ne_eqb x op (q 0 (omega arith))) (ap (λ (k : List ℕ). x ∷ k) (struck_never l op (λ j g. q (suc j) (omega arith))))

-- ---- the loop: nothing is written yet, and no entry passed is op
pub record Striking (e op : ℕ) (m₀ m : lent.Arena) (i : ℕ) : Type 0 where
  pub untouched : Leaves m₀ m (arena_of m₀)
  pub passed : (j : ℕ) → j < i → get_or (edge_list (arena_of m₀) e) j none ≡ op → ⊥

module _ {e op : ℕ} {m₀ m : lent.Arena} {i : ℕ} (I : Striking e op m₀ m i) where
  -- what the entry that is read says of the list at the start
  there : {x : ℕ} → x ≡ get_or (edge_list (arena_of m) e) i none → x ≡ get_or (edge_list (arena_of m₀) e) i none
  there g = g ∙ ap (λ a. get_or (edge_list a e) i none) I.untouched.is

  pub striking_found : e < 8 → i < get_or m₀.sizes.lens e 0 → (x : ℕ) → x ≡ get_or (edge_list (arena_of m) e) i none → x ≡ op → {m' : lent.Arena} → Leaves m m' (set_entry (arena_of m) e i none)
      → Leaves m₀ m' (set_edge_list (arena_of m₀) e (struck (edge_list (arena_of m₀) e) op))
  striking_found k z x g q l =
      let a = arena_of m₀ in
      let first = struck_first (edge_list a e) op i (omega (arith, list_long m₀ e k)) (sym (there g) ∙ q) I.passed in
      leaves_renamed (then_leaves (λ _ _ b. set_entry b e i none) I.untouched l) (ap (set_edge_list a e) first)

  same_list : (a : Arena) → a ≡ set_edge_list a e (edge_list a e)
  unfolding set_edge_list
  same_list a = λ j. record { owner = a.owner; edge = a.edge; next = a.next; prev = a.prev; results = a.results; edges = sym (set-get_or a.edges e []) j }

  pub striking_none : e < 8 → get_or m₀.sizes.lens e 0 ≤ i → Leaves m₀ m (set_edge_list (arena_of m₀) e (struck (edge_list (arena_of m₀) e) op))
  striking_none k z =
      let a = arena_of m₀ in
      leaves_renamed I.untouched (same_list a ∙ ap (set_edge_list a e) (struck_never (edge_list a e) op (λ j g. I.passed j (omega (arith, list_long m₀ e k)))))

-- ---- uncouple_edge
module _ {m : lent.Arena} (op : ℕ) where
  pub uncoupled_before : none ≡ edge_of (arena_of m) op → Leaves m m (uncouple_edge (arena_of m) op)
  unfolding uncouple_edge
  uncoupled_before g = rw (eq-eqb (edge_of (arena_of m) op) none (sym g)) leaves_same

  pub uncoupled : (e : ℕ) → e ≡ edge_of (arena_of m) op → e < 8 → {m₁ m₂ : lent.Arena} → Leaves m m₁ (set_edge_list (arena_of m) e (struck (edge_list (arena_of m) e) op)) → Leaves m₁ m₂ (set_edge (arena_of m₁) op none)
      → Leaves m m₂ (uncouple_edge (arena_of m) op)
  unfolding uncouple_edge
  uncoupled e g h k l =
      let a = arena_of m in
      rw (ne_eqb (edge_of a op) none (λ w. omega (arith, g, w)))
      (leaves_renamed (then_leaves (λ _ _ b. set_edge b op none) k l) (ap (λ (f : ℕ). set_edge (set_edge_list a f (struck (edge_list a f) op)) op none) g))
