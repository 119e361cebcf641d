-- Rings split and rejoined, over the work list, are the definition's. Assumes nothing.
use mathlib.Core.Path.{◌≡◌, refl, sym, ◌∙◌, ap}
use mathlib.Core.Bool.{Bool, true, false}
use Prim.Native.Nat.{ℕ, ◌<◌}
use native.Mathlib.Omega.{arith}
use lib.ListN.{length}
use Rattle.plane.specs.Basics.{none, push}
use Rattle.reference.specs.Arena.{Arena, owner_of, set_next, set_prev, set_result, set_results, set_new_owner}
use Rattle.reference.specs.Tidy.{cw_is_toward_larger, relink}
use Rattle.rectclip.specs.declared.arena.Arena as lent
use Rattle.rectclip.specs.declared.regroup.Four.{Four}
use Rattle.rectclip.specs.Arenas.{one_result_more}
use Rattle.rectclip.specs.Changes.{arena_of, Leaves, Grows, Becomes}
use Rattle.rectclip.specs.Turns.{four, joined, split, set_roots}
use Rattle.rectclip.proofs.Changes.{results_many, leaves_renamed, then_leaves, becomes_left, becomes_renamed, becomes_result, then_becomes}

-- ---- relink
module _ {m m₁ m₂ m₃ m₄ : lent.Arena} (idx : ℕ) (f : Four) (b : Bool) (w : b ≡ cw_is_toward_larger idx) where
  pub relinked_larger : b ≡ true → Leaves m m₁ (set_next (arena_of m) f.p1 f.p2) → Leaves m₁ m₂ (set_prev (arena_of m₁) f.p2 f.p1)
      → Leaves m₂ m₃ (set_prev (arena_of m₂) f.p1a f.p2a) → Leaves m₃ m₄ (set_next (arena_of m₃) f.p2a f.p1a) → Leaves m m₄ (relink (cw_is_toward_larger idx) (arena_of m) (four f))
  unfolding relink
  relinked_larger t k₁ k₂ k₃ k₄ =
      rw (sym w ∙ t) (then_leaves (λ _ _ a. set_next a f.p2a f.p1a) (then_leaves (λ _ _ a. set_prev a f.p1a f.p2a) (then_leaves (λ _ _ a. set_prev a f.p2 f.p1) k₁ k₂) k₃) k₄)

  pub relinked_smaller : b ≡ false → Leaves m m₁ (set_prev (arena_of m) f.p1 f.p2) → Leaves m₁ m₂ (set_next (arena_of m₁) f.p2 f.p1)
      → Leaves m₂ m₃ (set_next (arena_of m₂) f.p1a f.p2a) → Leaves m₃ m₄ (set_prev (arena_of m₃) f.p2a f.p1a) → Leaves m m₄ (relink (cw_is_toward_larger idx) (arena_of m) (four f))
  unfolding relink
  relinked_smaller t k₁ k₂ k₃ k₄ =
      rw (sym w ∙ t) (then_leaves (λ _ _ a. set_prev a f.p2a f.p1a) (then_leaves (λ _ _ a. set_next a f.p1a f.p2a) (then_leaves (λ _ _ a. set_next a f.p2 f.p1) k₁ k₂) k₃) k₄)

-- ---- join, split and the results
pub rings_joined : {m m₁ m₂ m₃ : lent.Arena} (idx : ℕ) (f : Four) (from to : ℕ) → from ≡ owner_of (arena_of m) f.p2 → to ≡ owner_of (arena_of m) f.p1
    → Leaves m m₁ (set_result (arena_of m) from none) → Leaves m₁ m₂ (set_new_owner m₁.sizes.nodes (arena_of m₁) f.p2 to) → Leaves m₂ m₃ (relink (cw_is_toward_larger idx) (arena_of m₂) (four f))
    → Leaves m m₃ (joined idx m.sizes.nodes (arena_of m) (four f))
unfolding joined
rings_joined {m} idx f from to e g k₁ k₂ k₃ =
    leaves_renamed (then_leaves (λ _ _ a. relink (cw_is_toward_larger idx) a (four f)) (then_leaves (λ _ n a. set_new_owner n a f.p2 to) k₁ k₂) k₃)
    (λ i. relink (cw_is_toward_larger idx) (set_new_owner m.sizes.nodes (set_result (arena_of m) (e i) none) f.p2 (g i)) (four f))

pub grown_results : {m m' : lent.Arena} {b : Arena} → Grows m m' (one_result_more m.sizes) b → (m.sizes.results < m'.sizes.results) × (m'.sizes.nodes ≡ m.sizes.nodes)
unfolding one_result_more
grown_results g = rw g.sizes (omega arith, refl)

pub ring_split : {m m₁ m₂ m₃ : lent.Arena} (idx : ℕ) (f : Four) → Leaves m m₁ (relink (cw_is_toward_larger idx) (arena_of m) (four f))
    → Grows m₁ m₂ (one_result_more m₁.sizes) (set_results (arena_of m₁) (push (arena_of m₁).results f.p1a)) → Leaves m₂ m₃ (set_new_owner m₂.sizes.nodes (arena_of m₂) f.p1a m₁.sizes.results)
    → Becomes m m₃ (split idx m.sizes.nodes (arena_of m) (four f))
unfolding split
ring_split {m} {m₁} idx f k g l =
    let apart = relink (cw_is_toward_larger idx) (arena_of m) (four f) in
    let count : m₁.sizes.results ≡ length apart.results = sym (results_many m₁) ∙ ap (λ a. length a.results) k.is in
    becomes_renamed
    (then_becomes (λ _ n a. set_new_owner n a f.p1a m₁.sizes.results) (then_becomes (λ _ _ a. set_results a (push a.results f.p1a)) (becomes_left k) (becomes_result g)) (becomes_left l))
    (ap (set_new_owner m.sizes.nodes (set_results apart (push apart.results f.p1a)) f.p1a) count)

pub roots_set : {m m₁ m₂ : lent.Arena} (op op2 o o2 : ℕ) → o ≡ owner_of (arena_of m) op → o2 ≡ owner_of (arena_of m) op2
    → Leaves m m₁ (set_result (arena_of m) o op) → Leaves m₁ m₂ (set_result (arena_of m₁) o2 op2) → Leaves m m₂ (set_roots (arena_of m) op op2)
unfolding set_roots
roots_set {m} op op2 o o2 e f k l = leaves_renamed (then_leaves (λ _ _ a. set_result a o2 op2) k l) (λ i. set_result (set_result (arena_of m) (e i) op) (f i) op2)
