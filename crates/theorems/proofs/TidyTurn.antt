-- One turn of `tidy_edges` keeps the invariant, and so do all turns.
use mathlib.Core.Path.{◌≡◌, refl, sym, ◌∙◌, ap, subst}
use mathlib.Core.Bool.{Bool, true, false, cond, not, beq}
use mathlib.Core.List.{List, [], ◌∷◌}
use mathlib.Core.Logic.{⊎_elim, ◌⊎◌, inl, inr}
use Prim.Native.Nat.{ℕ, zero, suc, ◌+◌, ◌*◌, ◌<◌}
use lib.ListN.{length, get_or, set, length-set}
use lib.Dec.{eqb}
use lib.IntN.{ℤ}
use native.Mathlib.Omega.{arith}
use borrow.Author.Tests.{eqb-true, eqb-false}
use Rattle.plane.specs.declared.point.Point64.{Point64}
use Rattle.plane.specs.Basics.{none, push}
use Rattle.reference.specs.Arena.{Arena, next_of, prev_of, owner_of, edge_of, edge_list, set_next, set_prev, set_results, set_result, set_edge, set_edge_list, set_entry, add_to_edge, struck, uncouple_edge}
use Rattle.reference.specs.Tidy.{first_op, second_op, Turn, four_of, relink, regroup, is_spent, is_larger, keep_one, keep_both, keep_each, settle, cw_is_toward_larger}
use Rattle.theorems.proofs.RingLaw.{Exchanged}
use Rattle.theorems.proofs.RingLists.{In, in_append}
use Rattle.theorems.proofs.RingStep.{next_prev, prev_live, node_in, owner_is}
use Rattle.theorems.proofs.TidyLinks.{at, cw_exchange, ccw_exchange, exchanged_sym, keeps_new}
use Rattle.theorems.proofs.TidyInv.{weight, Of, On, Inv, split_inv, join_inv}

-- ---- the split or rejoining
module _ (pts : List Point64) (line : ℕ → ℤ) (sd : ℕ → ℕ) (A : ℤ) (a : Arena) (I : Inv pts line sd A a) (k r1 r2 : ℕ)
    (on1 : On pts line sd (prev_of a) (owner_of a) I.rs k r1) (on2 : On pts line sd (prev_of a) (owner_of a) I.rs k r2) (ne : r1 ≡ r2 → ⊥) where
  abbrev u : ℕ
  u = prev_of a r1

  abbrev v : ℕ
  v = prev_of a r2

  in_u : In u (get_or I.rs (owner_of a r1) [])
  in_u = prev_live (weight pts) (length pts) (next_of a) (prev_of a) (owner_of a) I.rs I.core.rings (owner_of a r1) r1 on1.lives

  in_v : In v (get_or I.rs (owner_of a r2) [])
  in_v = prev_live (weight pts) (length pts) (next_of a) (prev_of a) (owner_of a) I.rs I.core.rings (owner_of a r2) r2 on2.lives

  own_u : owner_of a u ≡ owner_of a r1
  own_u = owner_is (weight pts) (length pts) (next_of a) (prev_of a) (owner_of a) I.rs I.core.rings (owner_of a r1) u in_u

  own_v : owner_of a v ≡ owner_of a r2
  own_v = owner_is (weight pts) (length pts) (next_of a) (prev_of a) (owner_of a) I.rs I.core.rings (owner_of a r2) v in_v

  inside : (s i : ℕ) → In i (get_or I.rs s []) → i < length pts
  inside = node_in (weight pts) (length pts) (next_of a) (prev_of a) (owner_of a) I.rs I.core.rings

  n_1 : next_of a u ≡ r1
  n_1 = next_prev (weight pts) (length pts) (next_of a) (prev_of a) (owner_of a) I.rs I.core.rings (owner_of a r1) r1 on1.lives

  n_2 : next_of a v ≡ r2
  n_2 = next_prev (weight pts) (length pts) (next_of a) (prev_of a) (owner_of a) I.rs I.core.rings (owner_of a r2) r2 on2.lives

  hu : u < length a.next
  hu = subst (λ (m : ℕ). u < m) (sym I.nexts) (inside (owner_of a r1) u in_u)

  hv : v < length a.next
  hv = subst (λ (m : ℕ). v < m) (sym I.nexts) (inside (owner_of a r2) v in_v)

  h_1 : r1 < length a.prev
  h_1 = subst (λ (m : ℕ). r1 < m) (sym I.prevs) (inside (owner_of a r1) r1 on1.lives)

  h_2 : r2 < length a.prev
  h_2 = subst (λ (m : ℕ). r2 < m) (sym I.prevs) (inside (owner_of a r2) r2 on2.lives)

  abbrev Ncw : List ℕ
  Ncw = set (set a.next u r2) v r1

  abbrev Pcw : List ℕ
  Pcw = set (set a.prev r2 u) r1 v

  abbrev Nccw : List ℕ
  Nccw = set (set a.next v r1) u r2

  abbrev Pccw : List ℕ
  Pccw = set (set a.prev r1 v) r2 u

  Xcw : Exchanged (next_of a) (prev_of a) (at Ncw) (at Pcw) u v
  Xcw = cw_exchange a.next a.prev r1 r2 n_1 n_2 hu hv h_1 h_2 ne

  Xccw : Exchanged (next_of a) (prev_of a) (at Nccw) (at Pccw) u v
  Xccw = ccw_exchange a.next a.prev r1 r2 n_1 n_2 hu hv h_1 h_2 ne

  len_two : (l : List ℕ) (i j v w : ℕ) → length l ≡ length pts → length (set (set l i v) j w) ≡ length pts
  len_two l i j v w e = length-set (set l i v) j w ∙ length-set l i v ∙ e

  -- The split or rejoining and the two new results keep the invariant, whichever way round the side goes (c): the four stores exchange the
  -- nodes before r1 and r2, which lie on one line, so the total area stays; only the ring that gets the new owner differs.
  pub rejoined : (c t : Bool) → eqb (owner_of a r1) (owner_of a r2) ≡ t → (b : Arena) → b ≡ regroup c (length pts) a (four_of c a r1 r2) (not t)
      → Inv pts line sd A (set_result (set_result b (owner_of b (first_op c (four_of c a r1 r2))) (first_op c (four_of c a r1 r2))) (owner_of b (second_op c (four_of c a r1 r2))) (second_op c (four_of c a r1 r2)))
  unfolding regroup relink set_next set_prev set_results
  rejoined false true e b q =
      subst (λ (c : Arena). Inv pts line sd A (set_result (set_result c (owner_of c r1) r1) (owner_of c r2) r2)) (sym q)
      (split_inv pts line sd A a I k r2 r1 on2 on1 (λ z. ne (sym z)) Nccw Pccw (exchanged_sym (next_of a) (prev_of a) (at Nccw) (at Pccw) u v Xccw) (len_two a.next v u r1 r2 I.nexts) (len_two a.prev r1 r2 v u I.prevs) u (inr refl) (eqb-true _ _ e))
  rejoined false false e b q =
      let K = keeps_new (length pts) (set_result a (owner_of a v) none) v (owner_of a r1) in
      join_inv pts line sd A a I k r1 r2 on1 on2 ne Nccw Pccw Xccw (len_two a.next v u r1 r2 I.nexts) (len_two a.prev r1 r2 v u I.prevs)
      v (owner_of a v) (owner_of a r1) r1 r2 (inr refl) (eqb-false _ _ e) own_v refl (inl refl) (inr refl) b
      (ap (λ (c : Arena). c.next) q ∙ ap (λ (l : List ℕ). set (set l v r1) u r2) K.next) (ap (λ (c : Arena). c.prev) q ∙ ap (λ (l : List ℕ). set (set l r1 v) r2 u) K.prev)
      (ap (λ (c : Arena). c.owner) q) (ap (λ (c : Arena). c.results) q) (ap (λ (c : Arena). c.edges) q ∙ K.edges)
  rejoined true true e b q =
      subst (λ (c : Arena). Inv pts line sd A (set_result (set_result c (owner_of c r2) r2) (owner_of c r1) r1)) (sym q)
      (split_inv pts line sd A a I k r1 r2 on1 on2 ne Ncw Pcw Xcw (len_two a.next u v r2 r1 I.nexts) (len_two a.prev r2 r1 u v I.prevs) r1 (inl refl) (sym (eqb-true _ _ e)))
  rejoined true false e b q =
      let K = keeps_new (length pts) (set_result a (owner_of a r2) none) r2 (owner_of a u) in
      join_inv pts line sd A a I k r1 r2 on1 on2 ne Ncw Pcw Xcw (len_two a.next u v r2 r1 I.nexts) (len_two a.prev r2 r1 u v I.prevs)
      r2 (owner_of a r2) (owner_of a u) r2 r1 (inl refl) (eqb-false _ _ e) refl own_u (inr refl) (inl refl) b
      (ap (λ (c : Arena). c.next) q ∙ ap (λ (l : List ℕ). set (set l u r2) v r1) K.next) (ap (λ (c : Arena). c.prev) q ∙ ap (λ (l : List ℕ). set (set l r2 u) r1 v) K.prev)
      (ap (λ (c : Arena). c.owner) q) (ap (λ (c : Arena). c.results) q) (ap (λ (c : Arena). c.edges) q ∙ K.edges)

-- ---- edge lists: only entries change
abbrev pub Lists : (ℕ → ℕ → Type 0) → List (List ℕ) → Type 0
Lists O L = (k e i : ℕ) → Of k e → In i (get_or L e []) → (i ≡ none → ⊥) → O k i

pub record Fine (O : ℕ → ℕ → Type 0) (a b : Arena) : Type 0 where
  pub next : b.next ≡ a.next
  pub prev : b.prev ≡ a.prev
  pub owner : b.owner ≡ a.owner
  pub results : b.results ≡ a.results
  pub lists : Lists O b.edges

pub of_same : (k j e : ℕ) → Of k e → Of j e → k ≡ j
of_same k j e (inl p) (inl q) = omega arith
of_same k j e (inl p) (inr q) = absurd (odd k j (sym p ∙ q))
  where
    odd : (k j : ℕ) → k * 2 ≡ j * 2 + 1 → ⊥
    odd k j e = omega arith
of_same k j e (inr p) (inl q) = absurd (odd j k (sym q ∙ p))
  where
    odd : (k j : ℕ) → k * 2 ≡ j * 2 + 1 → ⊥
    odd k j e = omega arith
of_same k j e (inr p) (inr q) = omega arith

pub in_set_list : (L : List (List ℕ)) (e e' x : ℕ) (w : List ℕ) → In x (get_or (set L e w) e' []) → ((e' ≡ e) × In x w) ⊎ In x (get_or L e' [])
in_set_list [] e e' x w h = inr h
in_set_list (l ∷ L) zero zero x w h = inl (refl, h)
in_set_list (l ∷ L) zero (suc e') x w h = inr h
in_set_list (l ∷ L) (suc e) zero x w h = inr h
in_set_list (l ∷ L) (suc e) (suc e') x w h = ⊎_elim (λ m. inl (ap suc m.0, m.1)) (λ m. inr m) (in_set_list L e e' x w h)

in_set : (l : List ℕ) (i x w : ℕ) → In x (set l i w) → (x ≡ w) ⊎ In x l
in_set [] i x w h = elim h [ ]
in_set (y ∷ l) zero x w (inl e) = inl (sym e)
in_set (y ∷ l) zero x w (inr h) = inr (inr h)
in_set (y ∷ l) (suc i) x w (inl e) = inr (inl e)
in_set (y ∷ l) (suc i) x w (inr h) = ⊎_elim (λ m. inl m) (λ m. inr (inr m)) (in_set l i x w h)

in_cond : (t : Bool) (x : ℕ) (l m : List ℕ) → In x (cond t l m) → In x l ⊎ In x m
in_cond true x l m h = inl h
in_cond false x l m h = inr h

in_struck : (l : List ℕ) (op x : ℕ) → In x (struck l op) → (x ≡ none) ⊎ In x l
unfolding struck
in_struck [] op x h = absurd h
in_struck (y ∷ l) op x h =
    ⊎_elim (λ m. ⊎_elim (λ e. inl (sym e)) (λ n. inr (inr n)) m) (λ m. ⊎_elim (λ e. inr (inl e)) (λ n. ⊎_elim (λ e. inl e) (λ q. inr (inr q)) (in_struck l op x n)) m)
    (in_cond (eqb y op) x (none ∷ l) (y ∷ struck l op) h)

module _ (O : ℕ → ℕ → Type 0) (a : Arena) where
  fine_cond : (t : Bool) (b c : Arena) → Fine O a b → Fine O a c → Fine O a (cond t b c)
  fine_cond true b c h k = h
  fine_cond false b c h k = k

  fine_turn : (t : Bool) (b c : Turn) → Fine O a b.arena → Fine O a c.arena → Fine O a (cond t b c).arena
  fine_turn true b c h k = h
  fine_turn false b c h k = k

  -- a list is changed for one whose entries are old ones or on the side
  fine_put : (b : Arena) (k e : ℕ) (w : List ℕ) → Fine O a b → Of k e → ((x : ℕ) → In x w → (x ≡ none → ⊥) → In x (edge_list b e) ⊎ O k x) → Fine O a (set_edge_list b e w)
  unfolding set_edge_list
  fine_put b k e w F o f = record {
    next = F.next;
    prev = F.prev;
    owner = F.owner;
    results = F.results;
    lists = λ j e' i oj h nn. ⊎_elim
        (λ m. ⊎_elim (λ q. F.lists j e i (subst (Of j) m.0 oj) q nn) (λ q. subst (λ (z : ℕ). O z i) (of_same k j e o (subst (Of j) m.0 oj)) q) (f i m.1 nn))
        (λ m. F.lists j e' i oj m nn)
        (in_set_list b.edges e e' i w h);
  }

  pub fine_entry : (b : Arena) (k e i op : ℕ) → Fine O a b → Of k e → (op ≡ none) ⊎ O k op → Fine O a (set_entry b e i op)
  fine_entry b k e i op F o h =
      fine_put b k e (set (edge_list b e) i op) F o
      (λ x m nn. ⊎_elim (λ q. ⊎_elim (λ z. absurd (nn (q ∙ z))) (λ z. inr (subst (O k) (sym q) z)) h) (λ q. inl q) (in_set (edge_list b e) i x op m))

  fine_edge : (b : Arena) (i w : ℕ) → Fine O a b → Fine O a (set_edge b i w)
  unfolding set_edge
  fine_edge b i w F = record { next = F.next; prev = F.prev; owner = F.owner; results = F.results; lists = F.lists }

  pub fine_add : (b : Arena) (k e op : ℕ) → Fine O a b → Of k e → O k op → Fine O a (add_to_edge b e op)
  unfolding add_to_edge set_edge
  fine_add b k e op F o h =
      fine_cond (not (eqb (edge_of b op) none)) b _ F
      (fine_put (set_edge b op e) k e (push (edge_list b e) op) (fine_edge b op e F) o
      (λ x m nn. ⊎_elim (λ q. inl q) (λ q. ⊎_elim (λ z. inr (subst (O k) z h)) (λ z. absurd z) q) (in_append x (edge_list b e) (op ∷ []) m)))

  -- striking out needs no side
  fine_strike : (b : Arena) (e op : ℕ) → Fine O a b → Fine O a (set_edge_list b e (struck (edge_list b e) op))
  unfolding set_edge_list
  fine_strike b e op F = record {
    next = F.next;
    prev = F.prev;
    owner = F.owner;
    results = F.results;
    lists = λ j e' i oj h nn. ⊎_elim
        (λ m. ⊎_elim (λ q. absurd (nn q)) (λ q. F.lists j e i (subst (Of j) m.0 oj) q nn) (in_struck (edge_list b e) op i m.1))
        (λ m. F.lists j e' i oj m nn)
        (in_set_list b.edges e e' i (struck (edge_list b e) op) h);
  }

  pub fine_uncouple : (b : Arena) (op : ℕ) → Fine O a b → Fine O a (uncouple_edge b op)
  unfolding uncouple_edge
  fine_uncouple b op F = fine_cond (eqb (edge_of b op) none) b _ F (fine_edge _ op none (fine_strike b (edge_of b op) op F))

  module _ (pts : List Point64) (k : ℕ) where
    cw : Of k (k * 2)
    cw = inl refl

    ccw : Of k (k * 2 + 1)
    ccw = inr refl

    fine_one : (b : Arena) (i j op : ℕ) → Fine O a b → O k op → Fine O a (keep_one pts k b i j op).arena
    unfolding keep_one
    fine_one b i j op F h =
        fine_turn (beq (is_larger pts k b op) (cw_is_toward_larger k)) _ _
        (fine_entry _ k (k * 2 + 1) j none (fine_entry b k (k * 2) i op F cw (inr h)) ccw (inl refl))
        (fine_entry _ k (k * 2) i none (fine_entry b k (k * 2 + 1) j op F ccw (inr h)) cw (inl refl))

    fine_both : (b : Arena) (i j op op2 : ℕ) → Fine O a b → O k op → O k op2 → Fine O a (keep_both pts k b i j op op2).arena
    unfolding keep_both
    fine_both b i j op op2 F h g =
        fine_turn (beq (is_larger pts k b op) (cw_is_toward_larger k)) _ _
        (fine_entry _ k (k * 2 + 1) j none (fine_add _ k (k * 2) op2 (fine_uncouple _ op2 (fine_entry b k (k * 2) i op F cw (inr h))) cw g) ccw (inl refl))
        (fine_add _ k (k * 2 + 1) op (fine_uncouple _ op (fine_entry _ k (k * 2 + 1) j op2 (fine_entry b k (k * 2) i none F cw (inl refl)) ccw (inr g))) ccw h)

    fine_each : (b : Arena) (i j op op2 : ℕ) → Fine O a b → O k op → O k op2 → Fine O a (keep_each pts k b i j op op2).arena
    unfolding keep_each
    fine_each b i j op op2 F h g =
        let G = fine_cond (beq (is_larger pts k b op) (cw_is_toward_larger k)) _ _ (fine_entry b k (k * 2) i op F cw (inr h)) (fine_entry b k (k * 2 + 1) j op F ccw (inr h)) in
        fine_cond (beq (is_larger pts k b op2) (cw_is_toward_larger k)) _ _ (fine_entry _ k (k * 2) i op2 G cw (inr g)) (fine_entry _ k (k * 2 + 1) j op2 G ccw (inr g))

    pub fine_settle : (b : Arena) (i j op op2 : ℕ) → Fine O a b → O k op → O k op2 → Fine O a (settle pts k b i j op op2).arena
    unfolding settle
    fine_settle b i j op op2 F h g =
        fine_turn (is_spent pts k b op) _ _ (fine_one b i j op2 F g)
        (fine_turn (is_spent pts k b op2) _ _ (fine_one b i j op F h)
        (fine_turn (beq (is_larger pts k b op) (is_larger pts k b op2)) _ _ (fine_both b i j op op2 F h g) (fine_each b i j op op2 F h g)))
