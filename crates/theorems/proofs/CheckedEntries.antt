-- `check_edges` enters each node of the walk's one ring at most once.
use mathlib.Core.Path.{◌≡◌, sym, ◌∙◌, ap, subst}
use mathlib.Core.Logic.{⊎_elim}
use mathlib.Core.List.{List, []}
use Prim.Native.Nat.{ℕ, ◌<◌, ◌≤◌}
use native.Mathlib.Omega.{arith}
use lib.ListN.{length, get_or}
use lib.Dec.{eqb}
use lib.IntN.{ℤ}
use borrow.Author.Tests.{eqb-false}
use Rattle.plane.specs.declared.point.Point64.{Point64}
use Rattle.plane.specs.declared.rect.Rect64.{Rect64}
use Rattle.plane.specs.Basics.{none}
use Rattle.plane.specs.Rectangle.{get_edges_for_pt}
use Rattle.reference.specs.Arena.{Arena, pt_of, next_of, prev_of, owner_of, result_of, set_results, set_result, check_ring, check_edges}
use Rattle.theorems.proofs.RingLists.{In}
use Rattle.theorems.proofs.RingStep.{node_in, next_live}
use Rattle.theorems.proofs.TidyInv.{weight}
use Rattle.theorems.proofs.Checking.{One}
use Rattle.theorems.proofs.Checked.{S, E, pick, once}
use Rattle.theorems.proofs.FewEntries.{entries, More, assign_more}

module _ (pts : List Point64) (small : length pts ≤ none) (rect : Rect64) (A : ℤ) (a : Arena) (B : One pts A a) (i0 : In (result_of a 0) (get_or B.rs 0 [])) (l : length a.edge ≡ length pts) where
  ring_more : More a (check_ring pts rect a 0) (length pts)
  unfolding check_ring set_results
  ring_more =
      let s = S pts small rect A a B i0 in
      let D = E pts small rect A a B i0 in
      let b = set_result s.arena 0 s.op in
      let same : (e : ℕ) → entries s.arena e ≡ entries a e = λ e. ap (λ (L : List (List ℕ)). length (get_or L e [])) D.still.edges in
      pick pts small rect A a B i0 (λ c. More a c (length pts)) (eqb s.op2 none) _ _ (λ _ e. let q = same e in omega arith)
      (λ n. ⊎_elim (λ z. absurd (eqb-false s.op2 none n z.0))
      (λ z e.
      let q = same e in
      let h = assign_more pts rect (length pts) b s.op s.op (get_edges_for_pt (pt_of pts (prev_of b s.op)) rect) (λ i. In i (get_or D.rs' 0 []))
      (λ i m. subst (λ (k : ℕ). i < k) (sym (ap length D.still.edge ∙ l)) (node_in (weight pts) (length pts) (next_of s.arena) (prev_of s.arena) (owner_of a) D.rs' D.some.rings 0 i m))
      (next_live (weight pts) (length pts) (next_of s.arena) (prev_of s.arena) (owner_of a) D.rs' D.some.rings 0) z.0 e in
      omega arith) D.fate)

  pub check_more : More a (check_edges pts rect a) (length pts)
  check_more = once pts small rect A a B i0 (λ c. More a c (length pts)) ring_more
