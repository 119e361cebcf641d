-- Room for results and edge lists, as the arena's lists have it: what entering a list, striking an entry and pushing take. Assumes nothing.
use Rattle.std.specs.Prelude.{if◌then◌else◌}
use mathlib.Core.Path.{◌≡◌, ◌∙◌, ap}
use mathlib.Core.Bool.{Bool, true, false, not, ◌&&◌, ◌||◌}
use mathlib.Core.List.{List, [], ◌∷◌}
use mathlib.Core.Logic.{⊎_elim}
use Prim.Native.Nat.{ℕ, zero, suc, ◌+◌, ◌<◌, ◌≤◌}
use native.Mathlib.Omega.{arith}
use native.Mathlib.Decide.{ℕ_discrete}
use lib.ListN.{length, get_or, set, length-set, length-append}
use lib.Dec.{eqb}
use borrow.Author.Tests.{eq-eqb, ne_eqb}
use Rattle.plane.specs.declared.point.Point64.{Point64}
use Rattle.plane.specs.Basics.{none, push}
use Rattle.reference.specs.Arena.{Arena, Round, next_of, prev_of, edge_of, edge_list, set_edge, set_next, set_prev, set_result, set_results, set_edge_list, unlink, unlink_op_back, is_flat, drop_collinear_pass, drop_collinear}
use Rattle.rectclip.specs.declared.arena.Sizes.{Sizes}
use Rattle.rectclip.specs.Arenas.{arena_at, free, Space, Spare}
use Rattle.rectclip.proofs.Columns.{column_length}
use Rattle.rectclip.proofs.Arenas.{list_at}
use Rattle.rectclip.proofs.Ranges.{set_or}

-- a fact by the two answers of a test
pub by_test : (b : Bool) (P : Bool → Type 0) → P true → P false → P b
by_test true P p q = p
by_test false P p q = q

-- ---- the arena's sizes
pub edge_length : (m : List ℕ) (s : Sizes) → length (arena_at m s).edge ≡ s.nodes
unfolding arena_at
edge_length m s = column_length 3 s.nodes m

pub results_length : (m : List ℕ) (s : Sizes) → length (arena_at m s).results ≡ s.results
unfolding arena_at
results_length m s = column_length 4 s.results m

pub list_length : (m : List ℕ) (s : Sizes) → length s.lens ≡ 8 → (e : ℕ) → e < 8 → length (edge_list (arena_at m s) e) ≡ get_or s.lens e 0
list_length m s c e h = ap length (list_at m s e (omega arith)) ∙ column_length (8 + e) (get_or s.lens e 0) m

-- ---- marks
pub free_here : (l : List ℕ) (i : ℕ) → i < length l → get_or l i none ≡ none → 0 < free l
free_here [] i h e = absurd (omega arith)
free_here (x ∷ l) zero h e = rw (eq-eqb x none e) (omega arith)
free_here (x ∷ l) (suc i) h e = omega (arith, free_here l i (omega arith) e)

pub free_taken : (l : List ℕ) (i v : ℕ) → i < length l → get_or l i none ≡ none → (v ≡ none → ⊥) → suc (free (set l i v)) ≡ free l
free_taken [] i v h e q = absurd (omega arith)
free_taken (x ∷ l) zero v h e q = rw (eq-eqb x none e, ne_eqb v none q) (omega arith)
free_taken (x ∷ l) (suc i) v h e q = omega (arith, free_taken l i v (omega arith) e q)

at_most : (x : ℕ) (k : ℕ) → (if eqb x none then 1 else 0) + k ≤ suc k
at_most x k = elim (ℕ_discrete x none) [ yes e ↦ rw (eq-eqb x none e) (omega arith) | no q ↦ rw (ne_eqb x none q) (omega arith) ]

pub free_any : (l : List ℕ) (i v : ℕ) → free (set l i v) ≤ suc (free l)
free_any [] i v = omega arith
free_any (x ∷ l) zero v = omega (arith, at_most v (free l))
free_any (x ∷ l) (suc i) v = omega (arith, free_any l i v)

pub spare_slots : {N N' k : ℕ} {a : Arena} → N' ≡ N → Spare N k a → Spare N' k a
spare_slots e S = record { results = omega (arith, S.results); lists = λ f h. omega (arith, S.lists f h) }

-- ---- a node that is in no list enters one
pub spare_room : {N k : ℕ} {a : Arena} → Spare N k a → (e op : ℕ) → e < 8 → op < length a.edge → edge_of a op ≡ none → length (edge_list a e) + k < N
spare_room {a = a} S e op h l q = omega (arith, S.lists e h, free_here a.edge op l q)

pub spare_entered : {N r k : ℕ} {a : Arena} → Space N r k a → (e op : ℕ) → e < 8 → op < length a.edge → edge_of a op ≡ none
    → Space N r k (set_edge_list (set_edge a op e) e (push (edge_list a e) op))
unfolding set_edge set_edge_list
spare_entered {a = a} S e op h l q =
    let t = free_taken a.edge op e l q (λ w. omega arith) in
    record {
      results = S.results;
      lists = λ f g.
          ⊎_elim
          (λ w. omega (arith, ap length w, length-append (edge_list a e) (op ∷ []), S.lists e h))
          (λ w. omega (arith, ap length w, S.lists f g))
          (set_or a.edges e f (push (edge_list a e) op) []);
    }

-- a number set among the results
pub spare_result : {N r k : ℕ} {a : Arena} → Space N r k a → (i v : ℕ) → Space N r k (set_result a i v)
unfolding set_results
spare_result {a = a} S i v = record { results = omega (arith, length-set a.results i v, S.results); lists = S.lists }

-- ---- dropping nodes from a ring keeps the lists
pub spare_unlinked : {N k : ℕ} {a : Arena} → Spare N k a → (x : ℕ) → Spare N k (unlink a x)
unfolding unlink set_next set_prev
spare_unlinked {a = a} S x =
    elim (ℕ_discrete (next_of a x) x) [
      | yes e ↦ rw (eq-eqb (next_of a x) x e) S
      | no q ↦ rw (ne_eqb (next_of a x) x q) (record { results = S.results; lists = S.lists })
    ]

module _ (pts : List Point64) {N k : ℕ} where
  spare_drop_pass : {a : Arena} → Spare N k a → (op x : ℕ) → Spare N k (drop_collinear_pass pts a op x).arena
  unfolding drop_collinear_pass
  spare_drop_pass {a} S op x =
      let back = unlink_op_back a x in
      let dropped : Round = record { arena = unlink a x; op = if eqb x op && not (eqb back none) then prev_of (unlink a x) back else op; op2 = back } in
      let kept : Round = record { arena = a; op = op; op2 = next_of a x } in
      by_test (is_flat pts a x) (λ b. Spare N k (if b then dropped else kept).arena) (spare_unlinked S x) S

  pub spare_dropped : {a : Arena} → Spare N k a → (left op x : ℕ) → Spare N k (drop_collinear pts left a op x).arena
  unfolding drop_collinear
  spare_dropped {a} S zero op x = S
  spare_dropped {a} S (suc left) op x =
      let d = drop_collinear_pass pts a op x in
      by_test (eqb d.op2 none || eqb d.op2 d.op) (λ b. Spare N k (if b then d else drop_collinear pts left d.arena d.op d.op2).arena)
      (spare_drop_pass S op x) (spare_dropped {a = d.arena} (spare_drop_pass S op x) left d.op d.op2)
