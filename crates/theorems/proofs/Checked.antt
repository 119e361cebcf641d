-- `check_edges` after the walk: the invariant of `tidy_edges`, or, where the walk has entered all nodes, nothing for `tidy_edges` to do.
use mathlib.Core.Path.{◌≡◌, refl, sym, ◌∙◌, ap, subst}
use mathlib.Core.Bool.{Bool, true, false, cond, not, ◌&&◌}
use mathlib.Core.List.{List, [], ◌∷◌}
use mathlib.Core.Logic.{⊎_elim}
use Prim.Native.Nat.{ℕ, zero, suc, ◌<◌, ◌≤◌}
use lib.ListN.{length, get_or}
use lib.Dec.{eqb}
use lib.IntN.{ℤ}
use native.Mathlib.Omega.{arith}
use borrow.Author.Tests.{eqb-true, eqb-false, ne_eqb}
use Rattle.plane.specs.declared.point.Point64.{Point64}
use Rattle.plane.specs.declared.rect.Rect64.{Rect64}
use Rattle.plane.specs.Basics.{none, upwards}
use Rattle.plane.specs.Rectangle.{get_edges_for_pt}
use Rattle.reference.specs.Arena.{Arena, pt_of, next_of, prev_of, owner_of, edge_of, edge_list, result_of, set_results, set_result, Round, assign_sides, assign_edges, check_ring, check_from, check_edges}
use Rattle.theorems.proofs.RingLists.{In}
use Rattle.theorems.proofs.RingStep.{node_in, next_live}
use Rattle.theorems.proofs.TidyLinks.{at}
use Rattle.theorems.proofs.TidyInv.{weight, Inv}
use Rattle.theorems.proofs.Dropping.{Dropped}
use Rattle.theorems.proofs.Assigning.{line_at}
use Rattle.theorems.proofs.Checking.{One, s, D, gone, there, assigned_inv, bare_inv}

pub record Ready (pts : List Point64) (rect : Rect64) (A : ℤ) (c : Arena) : Type 0 where
  pub sd : ℕ → ℕ
  pub inv : Inv pts (line_at rect) sd A c

-- one ring, and the lists of another arena
pub record Plain (pts : List Point64) (A : ℤ) (a c : Arena) : Type 0 where
  pub one : One pts A c
  pub edges : c.edges ≡ a.edges

module _ (pts : List Point64) (small : length pts ≤ none) (rect : Rect64) (A : ℤ) (a : Arena) (B : One pts A a) (i0 : In (result_of a 0) (get_or B.rs 0 [])) where
  pub pick : (P : Arena → Type 0) (t : Bool) (x y : Arena) → (t ≡ true → P x) → (t ≡ false → P y) → P (cond t x y)
  pick P true x y h k = h refl
  pick P false x y h k = k refl

  abbrev pub S : Round
  S = s pts small rect A a B i0

  abbrev pub E : Dropped pts (owner_of a) a B.rs 0 S
  E = D pts small rect A a B i0

  op2_there : In S.op2 (get_or E.rs' 0 []) → S.op2 ≡ none → ⊥
  op2_there i e =
      let l = node_in (weight pts) (length pts) (next_of S.arena) (prev_of S.arena) (owner_of a) E.rs' E.some.rings 0 S.op2 i in
      omega arith

  first_there : result_of a 0 ≡ none → ⊥
  first_there e = let l = node_in (weight pts) (length pts) (next_of a) (prev_of a) (owner_of a) B.rs B.core.rings 0 (result_of a 0) i0 in omega arith

  -- what holds after `check_edges` holds after its one ring
  pub once : (P : Arena → Type 0) → P (check_ring pts rect a 0) → P (check_edges pts rect a)
  unfolding check_edges check_from
  once P h = subst (λ (m : ℕ). P (check_from pts rect a (upwards 0 m))) (sym B.results) (pick P (eqb (result_of a 0) none) a (check_ring pts rect a 0) (λ e. absurd (first_there (eqb-true (result_of a 0) none e))) (λ e. h))

  -- ---- no node is entered yet
  module _ (l : length a.edge ≡ length pts) (eight : length a.edges ≡ 8) (h : (e : ℕ) → edge_list a e ≡ []) where
    ring_ready : Ready pts rect A (check_ring pts rect a 0)
    unfolding check_ring set_results there
    ring_ready =
        let le : length S.arena.edge ≡ length pts = ap length E.still.edge ∙ l in
        let l8 : length S.arena.edges ≡ 8 = ap length E.still.edges ∙ eight in
        let he : (e : ℕ) → edge_list S.arena e ≡ [] = λ e. ap (λ (z : List (List ℕ)). get_or z e []) E.still.edges ∙ h e in
        pick (Ready pts rect A) (eqb S.op2 none) _ _
        (λ e. ⊎_elim (λ z. record { sd = _; inv = bare_inv pts rect A (set_result S.arena 0 none) (gone pts small rect A a B i0 z.1) le l8 he })
        (λ q. absurd (op2_there q.1 (eqb-true S.op2 none e))) E.fate)
        (λ e. ⊎_elim (λ z. absurd (eqb-false S.op2 none e z.0))
        (λ q. record { sd = _; inv = assigned_inv pts rect A (set_result S.arena 0 S.op) (there pts small rect A a B i0 q.0) le l8 he (length pts) S.op q.0 }) E.fate)

    pub edges_ready : Ready pts rect A (check_edges pts rect a)
    edges_ready = once (Ready pts rect A) ring_ready

  -- ---- all nodes are entered
  module _ (full : (i : ℕ) → i < length pts → edge_of a i ≡ none → ⊥) where
    and_false : {X : Type 0} (x : Bool) (y z : X) → cond (x && false) y z ≡ z
    and_false true y z = refl
    and_false false y z = refl

    cond_same : {X : Type 0} (t : Bool) (y z : X) → z ≡ y → cond t y z ≡ y
    cond_same true y z e = refl
    cond_same false y z e = e

    assign_full : (M : ℕ → Type 0) (b : Arena) → ((i : ℕ) → M i → edge_of b i ≡ none → ⊥) → ((i : ℕ) → M i → M (next_of b i)) → (left op op2 e : ℕ) → M op2 → assign_edges pts left rect b op op2 e ≡ b
    unfolding assign_edges
    assign_full M b f on zero op op2 e m = refl
    assign_full M b f on (suc left) op op2 e m =
        let t = get_edges_for_pt (pt_of pts op2) rect in
        let X = assign_sides pts b op2 e t (0 ∷ 1 ∷ 2 ∷ 3 ∷ []) in
        let q : cond (not (eqb t 0) && eqb (edge_of b op2) none) X b ≡ b = ap (λ (z : Bool). cond (not (eqb t 0) && z) X b) (ne_eqb (edge_of b op2) none (f op2 m)) ∙ and_false (not (eqb t 0)) X b in
        ap (λ (c : Arena). cond (eqb (next_of c op2) op) c (assign_edges pts left rect c op (next_of c op2) t)) q
        ∙ cond_same (eqb (next_of b op2) op) b (assign_edges pts left rect b op (next_of b op2) t) (assign_full M b f on left op (next_of b op2) t (on op2 m))

    ring_plain : Plain pts A a (check_ring pts rect a 0)
    unfolding check_ring set_results there
    ring_plain =
        pick (Plain pts A a) (eqb S.op2 none) _ _
        (λ e. ⊎_elim (λ z. record { one = gone pts small rect A a B i0 z.1; edges = E.still.edges }) (λ q. absurd (op2_there q.1 (eqb-true S.op2 none e))) E.fate)
        (λ e. ⊎_elim (λ z. absurd (eqb-false S.op2 none e z.0))
        (λ q.
        subst (Plain pts A a)
        (sym (assign_full (λ i. In i (get_or E.rs' 0 [])) (set_result S.arena 0 S.op)
        (λ i m z. full i (node_in (weight pts) (length pts) (next_of S.arena) (prev_of S.arena) (owner_of a) E.rs' E.some.rings 0 i m) (ap (λ (x : List ℕ). at x i) (sym E.still.edge) ∙ z))
        (next_live (weight pts) (length pts) (next_of S.arena) (prev_of S.arena) (owner_of a) E.rs' E.some.rings 0)
        (length pts) S.op S.op _ q.0))
        (record { one = there pts small rect A a B i0 q.0; edges = E.still.edges })) E.fate)

    pub edges_plain : Plain pts A a (check_edges pts rect a)
    edges_plain = once (Plain pts A a) ring_plain
