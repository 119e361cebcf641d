-- `check_edges` over the work list is the definition's, result by result. Assumes nothing.
use Rattle.std.specs.Prelude.{Option, None, Some}
use mathlib.Core.Path.{◌≡◌, refl, sym, ◌∙◌, ap}
use mathlib.Core.List.{List}
use Prim.Native.Nat.{ℕ, suc, ◌+◌, ◌*◌, ◌-◌, ◌<◌, ◌≤◌}
use native.Mathlib.Omega.{arith}
use native.Mathlib.Numerals.{add-one}
use lib.ListN.{length}
use borrow.Author.Tests.{eq-eqb, ne_eqb}
use Rattle.plane.specs.declared.point.Point64.{Point64}
use Rattle.plane.specs.declared.rect.Rect64.{Rect64}
use Rattle.plane.specs.Basics.{none, upwards}
use Rattle.plane.specs.Rectangle.{get_edges_for_pt}
use Rattle.reference.specs.Arena as reference
use Rattle.reference.specs.Arena.{Arena, pt_of, prev_of, result_of, set_result, drop_collinear, assign_edges, check_ring, check_from, check_edges}
use Rattle.rectclip.specs.declared.arena.Arena as lent
use Rattle.rectclip.specs.Arenas.{mark, Spare}
use Rattle.rectclip.specs.Changes.{arena_of, pts_of, Leaves, Enters}
use Rattle.rectclip.specs.Rings.{Dropped}
use Rattle.rectclip.specs.Edges.{Assigning, check_result}
use Rattle.rectclip.proofs.Spare.{spare_dropped, spare_result, spare_slots}
use Rattle.rectclip.proofs.Changes.{points_many, results_many, node_some, then_leaves, becomes_left, becomes_renamed, enters_same, enters_renamed, points_stay, then_enters}

module _ {m : lent.Arena} (rect : Rect64) (i : ℕ) where
  -- there is no ring
  pub result_none : none ≡ result_of (arena_of m) i → Enters m m (check_result (pts_of m) rect (arena_of m) i)
  unfolding check_result
  result_none e = rw (eq-eqb (result_of (arena_of m) i) none (sym e)) enters_same

  module _ (start : ℕ) (e : start ≡ result_of (arena_of m) i) (l : start < m.sizes.nodes) {m₁ : lent.Arena} (r : Option ℕ)
      (p : Dropped m m₁ r (drop_collinear (pts_of m) (2 * m.sizes.nodes + 1) (arena_of m) start start)) {m₂ : lent.Arena} (k : Leaves m₁ m₂ (set_result (arena_of m₁) i (mark r))) where
    -- where the loop of the definition ends
    abbrev at : reference.Round
    at = drop_collinear (pts_of m) (2 * length (pts_of m) + 1) (arena_of m) (result_of (arena_of m) i) (result_of (arena_of m) i)

    is_at : drop_collinear (pts_of m) (2 * m.sizes.nodes + 1) (arena_of m) start start ≡ at
    is_at = (λ j. drop_collinear (pts_of m) (2 * sym (points_many m) j + 1) (arena_of m) (e j) (e j))

    start_some : result_of (arena_of m) i ≡ none → ⊥
    start_some w = node_some m start l (e ∙ w)

    -- its result set
    dropped : Enters m m₂ (set_result at.arena i (mark r))
    dropped = record {
      becomes = becomes_renamed (becomes_left (then_leaves (λ _ _ a. set_result a i (mark r)) p.leaves k)) (ap (λ d. set_result d.arena i (mark r)) is_at);
      spare = λ N n S. spare_result (spare_dropped (pts_of m) S _ _ _) i (mark r);
    }

    pub result_dropped : r ≡ None → Enters m m₂ (check_result (pts_of m) rect (arena_of m) i)
    unfolding check_result check_ring
    result_dropped g =
        let gone : at.op2 ≡ none = sym (ap (λ d. d.op2) is_at) ∙ rw g at p.ends in
        rw (ne_eqb (result_of (arena_of m) i) none start_some, eq-eqb at.op2 none gone) (rw g at dropped)

    module _ (op : ℕ) (g : r ≡ Some op) where
      ends : (op ≡ at.op) × (at.op2 ≡ none → ⊥) × (op < m.sizes.nodes)
      ends = let h = rw g at p.ends in (h.0 ∙ ap (λ d. d.op) is_at, λ w. h.1 (ap (λ d. d.op2) is_at ∙ w), h.2)

      pub result_may : Spare m.sizes.slots 0 (arena_of m) → Assigning m₂ op
      result_may S = record {
        spare = spare_slots dropped.becomes.slots (rw dropped.becomes.is (dropped.spare m.sizes.slots 0 S));
        op_in = rw dropped.becomes.nodes ends.2;
      }

      pub result_assigned : (prev : ℕ) → prev ≡ prev_of (arena_of m₂) op → (pt : Point64) → pt ≡ pt_of (pts_of m₂) prev → (first : ℕ) → first ≡ get_edges_for_pt pt rect
          → {m₃ : lent.Arena} → Enters m₂ m₃ (assign_edges (pts_of m₂) m₂.sizes.nodes rect (arena_of m₂) op op first)
          → Enters m m₃ (check_result (pts_of m) rect (arena_of m) i)
      unfolding check_result check_ring
      result_assigned prev e₁ pt e₂ first e₃ t =
          let b : Arena = set_result at.arena i at.op in
          let to_b : set_result at.arena i (mark r) ≡ b = ap (set_result at.arena i) (ap mark g ∙ ends.0) in
          let is_b : arena_of m₂ ≡ b = dropped.becomes.is ∙ to_b in
          let first_is : first ≡ get_edges_for_pt (pt_of (pts_of m) (prev_of b at.op)) rect =
          e₃ ∙ ap (λ (z : Point64). get_edges_for_pt z rect) (e₂ ∙ (λ j. pt_of (points_stay dropped.becomes j) ((e₁ ∙ (λ j. prev_of (is_b j) (ends.0 j))) j))) in
          rw (ne_eqb (result_of (arena_of m) i) none start_some, ne_eqb at.op2 none ends.1)
          (enters_renamed (then_enters (λ pts n a. assign_edges pts n rect a op op first) dropped t)
          (λ j. assign_edges (pts_of m) (sym (points_many m) j) rect (to_b j) (ends.0 j) (ends.0 j) (first_is j)))

-- ---- the loop
-- at the head of the loop, at result i
pub record Checked (rect : Rect64) (m₀ m : lent.Arena) (i : ℕ) : Type 0 where
  pub goal : check_from (pts_of m₀) rect (arena_of m) (upwards i (m₀.sizes.results - i)) ≡ check_from (pts_of m₀) rect (arena_of m₀) (upwards 0 m₀.sizes.results)
  pub so_far : Enters m₀ m (arena_of m)

module _ {rect : Rect64} {m₀ m : lent.Arena} {i : ℕ} (I : Checked rect m₀ m i) where
  pub checked_may : Spare m₀.sizes.slots 0 (arena_of m₀) → Spare m.sizes.slots 0 (arena_of m)
  checked_may S = spare_slots I.so_far.becomes.slots (I.so_far.spare m₀.sizes.slots 0 S)

  pub checked_again : i < m₀.sizes.results → {m' : lent.Arena} → Enters m m' (check_result (pts_of m) rect (arena_of m) i) → Checked rect m₀ m' (i + 1)
  unfolding check_from check_result
  checked_again z k =
      let one : m₀.sizes.results - i ≡ suc (m₀.sizes.results - (i + 1)) = omega arith in
      let e = ap (λ (t : List Point64). check_result t rect (arena_of m) i) (points_stay I.so_far.becomes) in
      record {
        goal = rw (add-one i) (ap (λ a. check_from (pts_of m₀) rect a (upwards (suc i) (m₀.sizes.results - suc i))) (k.becomes.is ∙ e)) ∙ rw one at I.goal;
        so_far = enters_renamed (then_enters (λ t _ a. check_result t rect a i) I.so_far k) (sym (k.becomes.is ∙ e));
      }

  pub checked_all : m₀.sizes.results ≤ i → Enters m₀ m (check_edges (pts_of m₀) rect (arena_of m₀))
  unfolding check_from check_edges
  checked_all h =
      let z : m₀.sizes.results - i ≡ 0 = omega arith in
      enters_renamed I.so_far (rw z at I.goal ∙ rw (results_many m₀) refl)
