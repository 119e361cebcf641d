-- The polygon clipper after its walk is the definition's: one step's arena is the next one's. Assumes nothing.
use Rattle.std.specs.Prelude.{Result, Ok}
use mathlib.Core.Path.{◌≡◌, sym, ◌∙◌}
use Prim.Native.Nat.{ℕ, ◌-◌}
use Rattle.plane.specs.declared.rect.Rect64.{Rect64}
use Rattle.plane.specs.Basics.{upwards}
use Rattle.reference.specs.Arena.{check_edges}
use Rattle.entry.specs.declared.answer.Refusal.{Refusal}
use Rattle.rectclip.specs.declared.arena.Arena as lent
use Rattle.rectclip.specs.declared.paths.Tally.{Tally}
use Rattle.rectclip.specs.Arenas.{Spare}
use Rattle.rectclip.specs.Changes.{arena_of, pts_of, Leaves, Enters}
use Rattle.rectclip.specs.Paths.{straighten_results, nodes_read, CountedAll}
use Rattle.rectclip.specs.Turns.{answer, TidiedAs, tidied_all}
use Rattle.rectclip.specs.Clipping.{ClippedAs}
use Rattle.rectclip.proofs.Spare.{spare_slots}
use Rattle.rectclip.proofs.Changes.{results_many, then_same, becomes_left, points_stay, then_becomes}

module _ {m : lent.Arena} {A : ℕ} (x : Spare m.sizes.slots A (arena_of m)) (rect : Rect64) {m₁ : lent.Arena} (k : Enters m m₁ (check_edges (pts_of m) rect (arena_of m))) where
  pub may_tidy : Spare m₁.sizes.slots A (arena_of m₁)
  may_tidy = spare_slots k.becomes.slots (rw k.becomes.is (k.spare m.sizes.slots A x))

  -- the definition's answer
  is_wanted : {m₂ : lent.Arena} (u : Result ℕ Refusal) → TidiedAs m₁ m₂ A A u (tidied_all (pts_of m₁) A (arena_of m₁)) → answer m₂ A u ≡ tidied_all (pts_of m) A (check_edges (pts_of m) rect (arena_of m))
  is_wanted u t = t.is ∙ (λ i. tidied_all (points_stay k.becomes i) A (k.becomes.is i))

  pub clipped_done : {m₂ : lent.Arena} (left : ℕ) → TidiedAs m₁ m₂ A A (Ok left) (tidied_all (pts_of m₁) A (arena_of m₁))
      → {m₃ : lent.Arena} → Leaves m₂ m₃ (straighten_results (pts_of m₂) (arena_of m₂) (upwards 0 m₂.sizes.results))
      → (c : Tally) → CountedAll c (nodes_read m₃.sizes.nodes (arena_of m₃) (upwards 0 m₃.sizes.results))
      → ClippedAs (pts_of m) m m₃ (Ok (record { turns = A - left; counts = c })) (tidied_all (pts_of m) A (check_edges (pts_of m) rect (arena_of m)))
  clipped_done {m₂} left t l c n =
      let both = then_becomes (λ _ _ _. arena_of m₂) k.becomes t.becomes in
      record {
        answer = record {
          b = arena_of m₂;
          tidied = sym (is_wanted (Ok left) t);
          is = l.is ∙ (λ i. straighten_results (points_stay both i) (arena_of m₂) (upwards 0 (sym (results_many m₂) i)));
          counts = n;
          results = results_many m₂ ∙ sym (λ i. (l.sizes i).results);
        };
        nodes = (becomes_left l).nodes ∙ both.nodes;
        same = then_same both.same l.same;
      }
