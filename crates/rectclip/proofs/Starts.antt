-- The first step of `get_path`, over the work list, is the definition's for each result. Assumes nothing.
use Rattle.std.specs.Prelude.{Option, None, Some}
use mathlib.Core.Path.{◌≡◌, refl, sym, ◌∙◌, ap}
use mathlib.Core.Bool.{Bool, true, false}
use Prim.Native.Nat.{ℕ, suc, ◌+◌, ◌*◌, ◌-◌, ◌<◌, ◌≤◌}
use native.Mathlib.Omega.{arith}
use native.Mathlib.Numerals.{add-one}
use lib.ListN.{length}
use borrow.Author.Tests.{eq-eqb, ne_eqb}
use Rattle.plane.specs.Basics.{none, upwards}
use Rattle.reference.specs.Arena.{next_of, result_of, set_result}
use Rattle.reference.specs.Arena as reference
use Rattle.reference.specs.Tidy.{is_stub}
use Rattle.reference.specs.Clip.{straighten, get_path}
use Rattle.rectclip.specs.declared.arena.Arena as lent
use Rattle.rectclip.specs.Arenas.{mark}
use Rattle.rectclip.specs.Changes.{arena_of, pts_of, Leaves}
use Rattle.rectclip.specs.Rings.{EndsAt}
use Rattle.rectclip.specs.Paths.{Started, straighten_result, straighten_results}
use Rattle.rectclip.proofs.Changes.{points_many, node_some, leaves_same, leaves_renamed, then_leaves, becomes_left, points_stay}

-- ---- get_start, one law for each way
module _ {m : lent.Arena} where
  pub start_none : Started m m None (get_path (pts_of m) (arena_of m) none)
  unfolding get_path
  start_none = record { leaves = leaves_same; start = refl; start_in = tt }

  module _ (op : ℕ) (h : op < m.sizes.nodes) where
    pub start_stub : is_stub (arena_of m) op ≡ true → Started m m None (get_path (pts_of m) (arena_of m) op)
    unfolding get_path
    start_stub e = rw (ne_eqb op none (node_some m op h), e) (record { leaves = leaves_same; start = refl; start_in = tt })

    module _ (f : is_stub (arena_of m) op ≡ false) {m₁ : lent.Arena} (r : Option ℕ)
        (p : EndsAt m m₁ r (straighten (pts_of m) (m.sizes.nodes * m.sizes.nodes) (arena_of m) op (next_of (arena_of m) op))) where
      -- where the loop of the definition ends
      abbrev at : reference.Round
      at = straighten (pts_of m) (length (pts_of m) * length (pts_of m)) (arena_of m) op (next_of (arena_of m) op)

      is_at : straighten (pts_of m) (m.sizes.nodes * m.sizes.nodes) (arena_of m) op (next_of (arena_of m) op) ≡ at
      is_at = ap (λ (n : ℕ). straighten (pts_of m) (n * n) (arena_of m) op (next_of (arena_of m) op)) (sym (points_many m))

      left_at : Leaves m m₁ at.arena
      left_at = leaves_renamed p.leaves (ap (λ z. z.arena) is_at)

      pub start_lost : r ≡ None → Started m m₁ None (get_path (pts_of m) (arena_of m) op)
      unfolding get_path
      start_lost g =
          let gone : at.op2 ≡ none = sym (p.is ∙ ap (λ z. z.op2) is_at) ∙ ap mark g in
          rw (ne_eqb op none (node_some m op h), f, eq-eqb at.op2 none gone) (record { leaves = left_at; start = refl; start_in = tt })

      module _ (y : ℕ) (g : r ≡ Some y) where
        op2_is : y ≡ at.op2
        op2_is = sym (ap mark g) ∙ p.is ∙ ap (λ z. z.op2) is_at

        inside : y < m.sizes.nodes
        inside = rw g at p.within

        some : at.op2 ≡ none → ⊥
        some w = node_some m y inside (op2_is ∙ w)

        stub_at : (b : Bool) → is_stub (arena_of m₁) y ≡ b → is_stub at.arena at.op2 ≡ b
        stub_at b e = (λ i. is_stub (sym left_at.is i) (sym op2_is i)) ∙ e

        pub start_small : is_stub (arena_of m₁) y ≡ true → Started m m₁ None (get_path (pts_of m) (arena_of m) op)
        unfolding get_path
        start_small e = rw (ne_eqb op none (node_some m op h), f, ne_eqb at.op2 none some, stub_at true e) (record { leaves = left_at; start = refl; start_in = tt })

        pub start_left : is_stub (arena_of m₁) y ≡ false → Started m m₁ (Some y) (get_path (pts_of m) (arena_of m) op)
        unfolding get_path
        start_left e = rw (ne_eqb op none (node_some m op h), f, ne_eqb at.op2 none some, stub_at false e) (record { leaves = left_at; start = op2_is; start_in = inside })

-- ---- the loop over the results
pub record Straightened (m₀ m : lent.Arena) (i : ℕ) : Type 0 where
  pub goal : straighten_results (pts_of m₀) (arena_of m) (upwards i (m₀.sizes.results - i)) ≡ straighten_results (pts_of m₀) (arena_of m₀) (upwards 0 m₀.sizes.results)
  pub so_far : Leaves m₀ m (arena_of m)

module _ {m₀ m : lent.Arena} {i : ℕ} (I : Straightened m₀ m i) where
  pub straightened_again : i < m₀.sizes.results → (op : ℕ) (start : Option ℕ) → op ≡ result_of (arena_of m) i → {m₁ m₂ : lent.Arena}
      → Started m m₁ start (get_path (pts_of m) (arena_of m) op) → Leaves m₁ m₂ (set_result (arena_of m₁) i (mark start)) → Straightened m₀ m₂ (i + 1)
  unfolding straighten_results straighten_result
  straightened_again z op start e k l =
      let one : m₀.sizes.results - i ≡ suc (m₀.sizes.results - (i + 1)) = omega arith in
      let g = get_path (pts_of m₀) (arena_of m) (result_of (arena_of m) i) in
      let to : get_path (pts_of m) (arena_of m) op ≡ g = λ j. get_path (points_stay (becomes_left I.so_far) j) (arena_of m) (e j) in
      let on = then_leaves (λ _ _ a. set_result a i (mark start)) k.leaves l in
      record {
        goal = rw (add-one i) (ap (λ a. straighten_results (pts_of m₀) a (upwards (suc i) (m₀.sizes.results - suc i)))
            (l.is ∙ (λ j. set_result ((k.leaves.is ∙ ap (λ w. w.0) to) j) i ((k.start ∙ ap (λ w. w.1) to) j)))) ∙ rw one at I.goal;
        so_far = leaves_renamed (then_leaves (λ _ _ _. set_result (get_path (pts_of m) (arena_of m) op).0 i (mark start)) I.so_far on) (sym on.is);
      }

  pub straightened_all : m₀.sizes.results ≤ i → Leaves m₀ m (straighten_results (pts_of m₀) (arena_of m₀) (upwards 0 m₀.sizes.results))
  unfolding straighten_results
  straightened_all h = let z : m₀.sizes.results - i ≡ 0 = omega arith in leaves_renamed I.so_far (rw z at I.goal)
