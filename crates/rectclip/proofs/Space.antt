-- Room for results and edge lists over the steps of a turn: a turn takes at most one result and one entry more. Assumes nothing.
use Rattle.std.specs.Prelude.{if◌then◌else◌}
use mathlib.Core.Path.{◌≡◌, ap}
use mathlib.Core.Bool.{Bool, true, false}
use mathlib.Core.List.{[], ◌∷◌}
use mathlib.Core.Logic.{⊎_elim}
use Prim.Native.Nat.{ℕ, zero, suc, ◌+◌, ◌*◌, ◌<◌}
use native.Mathlib.Omega.{arith}
use native.Mathlib.Decide.{ℕ_discrete}
use lib.ListN.{length, set, length-set, length-append}
use lib.Seq.{get_or-set_same}
use lib.Dec.{eqb}
use borrow.Author.Tests.{eq-eqb, ne_eqb}
use Rattle.plane.specs.Basics.{none, push}
use Rattle.reference.specs.Arena.{Arena, next_of, owner_of, edge_of, edge_list, set_next, set_prev, set_owner, set_edge, set_edge_list, set_results, set_entry, struck, own_from, set_new_owner, add_to_edge, uncouple_edge}
use Rattle.reference.specs.Tidy.{Four, relink, cw_is_toward_larger}
use Rattle.rectclip.specs.Arenas.{Marked, Space}
use Rattle.rectclip.specs.Turns.{put_entry, joined, split, set_roots}
use Rattle.rectclip.proofs.Ranges.{set_or}
use Rattle.rectclip.proofs.Spare.{by_test, free_any, spare_entered, spare_result}
use Rattle.theorems.proofs.FewEntries.{struck_length}

module _ {N r k : ℕ} {a : Arena} where
  pub space_less : Space N r (suc k) a → Space N r k a
  space_less S = record { results = S.results; lists = λ e h. omega (arith, S.lists e h) }

  pub space_fewer : Space N (suc r) k a → Space N r k a
  space_fewer S = record { results = omega (arith, S.results); lists = S.lists }

  -- ---- entries
  pub space_entry : (e i v : ℕ) → e < 8 → Space N r k a → Space N r k (set_entry a e i v)
  unfolding set_edge_list
  space_entry e i v h S = record {
    results = S.results;
    lists = λ f g.
        ⊎_elim
        (λ w. omega (arith, ap length w, length-set (edge_list a e) i v, S.lists e h))
        (λ w. omega (arith, ap length w, S.lists f g))
        (set_or a.edges e f (set (edge_list a e) i v) []);
  }

pub space_put : {N r k : ℕ} {a : Arena} (idx i j v : ℕ) (b : Bool) → idx < 4 → Space N r k a → Space N r k (put_entry idx a i j v b)
unfolding put_entry
space_put idx i j v true h S = space_entry (idx * 2) i v (omega arith) S
space_put idx i j v false h S = space_entry (idx * 2 + 1) j v (omega arith) S

-- a node leaves its list and enters list e
pub space_moved : {N r k : ℕ} {a : Arena} → Space N r (suc k) a → (e op : ℕ) → e < 8 → op < length a.edge → Marked 8 (edge_of a op) → Space N r k (add_to_edge (uncouple_edge a op) e op)
unfolding add_to_edge uncouple_edge set_edge set_edge_list
space_moved {N} {r} {k} {a} S e op h l g =
    elim (ℕ_discrete (edge_of a op) none) [
      | yes q ↦ rw (eq-eqb (edge_of a op) none q) (rw (eq-eqb (edge_of a op) none q) (space_less (spare_entered S e op h l q)))
      | no q ↦
          let f = edge_of a op in
          let b : Arena = set_edge (set_edge_list a f (struck (edge_list a f) op)) op none in
          let free_b : edge_of b op ≡ none = get_or-set_same a.edge op none none l in
          let len_b : op < length b.edge = omega (arith, length-set a.edge op none) in
          let T : Space N r k b = record {
            results = S.results;
            lists = λ d w.
                ⊎_elim
                (λ z. omega (arith, ap length z, struck_length (edge_list a f) op, S.lists f (g q), free_any a.edge op none))
                (λ z. omega (arith, ap length z, S.lists d w, free_any a.edge op none))
                (set_or a.edges f d (struck (edge_list a f) op) []);
          } in
          rw (ne_eqb (edge_of a op) none q) (rw (eq-eqb (edge_of b op) none free_b) (spare_entered T e op h len_b free_b))
    ]

-- ---- links and owners
pub space_relinked : {N r k : ℕ} {a : Arena} (idx : ℕ) (f : Four) → Space N r k a → Space N r k (relink (cw_is_toward_larger idx) a f)
unfolding relink set_next set_prev
space_relinked {N} {r} {k} {a} idx f S =
    by_test (cw_is_toward_larger idx)
    (λ b. Space N r k
    (if b then set_next (set_prev (set_prev (set_next a f.p1 f.p2) f.p2 f.p1) f.p1a f.p2a) f.p2a f.p1a
    else set_prev (set_next (set_next (set_prev a f.p1 f.p2) f.p2 f.p1) f.p1a f.p2a) f.p2a f.p1a))
    (record { results = S.results; lists = S.lists })
    (record { results = S.results; lists = S.lists })

space_own : {N r k : ℕ} {a : Arena} (op v : ℕ) → Space N r k a → Space N r k (set_owner a op v)
unfolding set_owner
space_own op v S = record { results = S.results; lists = S.lists }

space_own_from : {N r k : ℕ} (left : ℕ) {a : Arena} (op x v : ℕ) → Space N r k a → Space N r k (own_from left a op x v)
unfolding own_from
space_own_from zero op x v S = S
space_own_from {N} {r} {k} (suc left) {a} op x v S =
    by_test (eqb x op) (λ b. Space N r k (if b then a else own_from left (set_owner a x v) op (next_of a x) v)) S
    (space_own_from left op (next_of a x) v (space_own x v S))

pub space_owned : {N r k : ℕ} {a : Arena} (n op v : ℕ) → Space N r k a → Space N r k (set_new_owner n a op v)
unfolding set_new_owner
space_owned {a = a} n op v S = space_own_from n op (next_of a op) v (space_own op v S)

-- ---- rings joined and split
pub space_joined : {N r k : ℕ} {a : Arena} (idx n : ℕ) (f : Four) → Space N (suc r) k a → Space N r k (joined idx n a f)
unfolding joined
space_joined {a = a} idx n f S = space_relinked idx f (space_owned n f.p2 (owner_of a f.p1) (spare_result (space_fewer S) (owner_of a f.p2) none))

space_pushed : {N r k : ℕ} {a : Arena} (v : ℕ) → Space N (suc r) k a → Space N r k (set_results a (push a.results v))
unfolding set_results
space_pushed {a = a} v S = record { results = omega (arith, S.results, length-append a.results (v ∷ [])); lists = S.lists }

pub space_split : {N r k : ℕ} {a : Arena} (idx n : ℕ) (f : Four) → Space N (suc r) k a → Space N r k (split idx n a f)
unfolding split
space_split {a = a} idx n f S = space_owned n f.p1a (length (relink (cw_is_toward_larger idx) a f).results) (space_pushed f.p1a (space_relinked idx f S))

pub space_roots : {N r k : ℕ} {a : Arena} (op op2 : ℕ) → Space N r k a → Space N r k (set_roots a op op2)
unfolding set_roots
space_roots {a = a} op op2 S = spare_result (spare_result S (owner_of a op) op) (owner_of a op2) op2
