-- A node taken out of its ring over the work list is the definition's `unlink`, and its neighbours are handed back. Assumes nothing.
use Rattle.std.specs.Prelude.{None, Some}
use mathlib.Core.Path.{◌≡◌, refl, sym, ◌∙◌}
use mathlib.Core.Bool.{true, false}
use Prim.Native.Nat.{ℕ, ◌<◌}
use lib.Dec.{eqb}
use borrow.Author.Tests.{eq-eqb, ne_eqb}
use Rattle.reference.specs.Arena.{next_of, prev_of, set_next, set_prev, unlink}
use Rattle.rectclip.specs.declared.arena.Arena as lent
use Rattle.rectclip.specs.Changes.{arena_of, Leaves}
use Rattle.rectclip.specs.Rings.{Unlinked}
use Rattle.rectclip.proofs.Changes.{leaves_same, leaves_renamed, then_leaves}

module _ {m : lent.Arena} (op next : ℕ) (n : next ≡ next_of (arena_of m) op) where
  -- the node is alone in its ring
  module _ (t : next ≡ op) where
    left_alone : Leaves m m (unlink (arena_of m) op)
    unfolding unlink
    left_alone = rw (eq-eqb (next_of (arena_of m) op) op (sym n ∙ t)) leaves_same

    pub unlinked_alone : Unlinked m m op None
    unlinked_alone =
        let alone : eqb (next_of (arena_of m) op) op ≡ true = eq-eqb _ _ (sym n ∙ t) in
        record { leaves = left_alone; next = rw alone refl; prev = rw alone refl; within = tt }

  -- its neighbours are joined
  module _ (t : next ≡ op → ⊥) (prev : ℕ) (p : prev ≡ prev_of (arena_of m) op) {m₁ m₂ : lent.Arena}
      (k : Leaves m m₁ (set_next (arena_of m) prev next)) (l : Leaves m₁ m₂ (set_prev (arena_of m₁) next prev)) where
    others : eqb (next_of (arena_of m) op) op ≡ false
    others = ne_eqb _ _ (λ e. t (n ∙ e))

    joined : Leaves m m₂ (unlink (arena_of m) op)
    unfolding unlink
    joined = rw others (leaves_renamed (then_leaves (λ _ _ a. set_prev a next prev) k l) (λ i. set_prev (set_next (arena_of m) (p i) (n i)) (n i) (p i)))

    pub unlinked_joined : prev < m.sizes.nodes → next < m.sizes.nodes → Unlinked m m₂ op (Some (record { prev = prev; next = next }))
    unlinked_joined h g = record { leaves = joined; next = rw others n; prev = rw others p; within = (h, g) }
