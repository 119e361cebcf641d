-- `set_new_owner` ends within its count in every turn of `tidy_edges`: the nodes it goes round are a ring, before a rejoining and after a split.
use mathlib.Core.Path.{◌≡◌, refl, sym, ◌∙◌, ap, subst}
use mathlib.Core.Bool.{Bool, true, false}
use mathlib.Core.Logic.{inr}
use mathlib.Core.List.{List, []}
use Prim.Native.Nat.{ℕ, zero, suc, ◌+◌, ◌-◌, ◌*◌, ◌<◌}
use lib.ListN.{length, get_or, set, drop, length-set}
use lib.Seq.{get_or-set_same}
use lib.Dec.{eqb}
use lib.IntN.{ℤ}
use native.Mathlib.Omega.{arith}
use borrow.Author.Tests.{eqb-false, leb-false}
use Rattle.plane.specs.declared.point.Point64.{Point64}
use Rattle.plane.specs.Basics.{none, push}
use Rattle.reference.specs.Arena.{Arena, next_of, prev_of, owner_of, edge_list, set_next, set_prev, set_results, set_result}
use Rattle.reference.specs.Tidy.{Turn, turn, cw_is_toward_larger, four_of, relink, regroup, seek, one_turn}
use Rattle.theorems.specs.LoopsEnd.{Comes, OwnerEnds, TurnEnds, TurnsEnd, TidyEnds}
use Rattle.theorems.proofs.RingLists.{In}
use Rattle.theorems.proofs.RingStep.{prev_live, node_in}
use Rattle.theorems.proofs.TidyLinks.{keeps_new}
use Rattle.theorems.proofs.TidyInv.{weight, Inv}
use Rattle.theorems.proofs.TidyAll.{in_getD, seek_hit, Regrouped, joined_arena, regrouped, turn_inv}
use Rattle.theorems.proofs.RingEnds.{ring_comes}
use Rattle.theorems.proofs.Tests.{not-true}

module _ (pts : List Point64) (line : ℕ → ℤ) (sd : ℕ → ℕ) (A : ℤ) where
  -- any node of a ring, in an arena with the invariant
  inv_comes : (a : Arena) (I : Inv pts line sd A a) (s i : ℕ) → In i (get_or I.rs s []) → OwnerEnds (length pts) a i
  inv_comes a I s i h = ring_comes (length pts) a (owner_of a) I.rs I.core.rings s i h (length pts) (omega arith)

  -- the node before one that lives is in its ring
  before : (b : Arena) (J : Inv pts line sd A b) (i : ℕ) → In i (get_or J.rs (owner_of b i) []) → In (prev_of b i) (get_or J.rs (owner_of b i) [])
  before b J i = prev_live (weight pts) (length pts) (next_of b) (prev_of b) (owner_of b) J.rs J.core.rings (owner_of b i) i

  -- Rejoining: the loop goes round the ring of r2, which the arena has.
  join_ends : (c : Bool) (a : Arena) (I : Inv pts line sd A a) (r1 r2 : ℕ) → In r2 (get_or I.rs (owner_of a r2) []) → let f = four_of c a r1 r2 in OwnerEnds (length pts) (set_result a (owner_of a f.p2) none) f.p2
  unfolding set_results
  join_ends true a I r1 r2 h = inv_comes a I (owner_of a r2) r2 h
  join_ends false a I r1 r2 h = inv_comes a I (owner_of a r2) (prev_of a r2) (before a I r2 h)

  -- Splitting: the loop goes round one of the two rings that the stores have made. The arena afterwards has them, with the same links.
  split_ends : (k : ℕ) (c : Bool) (a : Arena) (r1 r2 : ℕ) → r2 < length a.prev → eqb (owner_of a r1) (owner_of a r2) ≡ true → Regrouped pts line sd A k (joined_arena pts c (eqb (owner_of a r1) (owner_of a r2)) a r1 r2) r1 r2
      → let f = four_of c a r1 r2 in OwnerEnds (length pts) (set_results (relink c a f) (push (relink c a f).results f.p1a)) f.p1a
  unfolding set_results regroup relink set_next set_prev
  split_ends k true a r1 r2 l e R =
      let x = set_results (relink true a (four_of true a r1 r2)) (push a.results r1) in
      let K = keeps_new (length pts) x r1 (length a.results) in
      let J = subst (λ (t : Bool). Regrouped pts line sd A k (joined_arena pts true t a r1 r2) r1 r2) e R in
      subst (λ (l : List ℕ). Comes (λ i. get_or l i none) r1 (length pts) (get_or l r1 none)) K.next (inv_comes _ J.inv _ r1 J.on1.lives)
  split_ends k false a r1 r2 l e R =
      let u = prev_of a r1 in
      let x = set_results (relink false a (four_of false a r1 r2)) (push a.results u) in
      let K = keeps_new (length pts) x u (length a.results) in
      let J = subst (λ (t : Bool). Regrouped pts line sd A k (joined_arena pts false t a r1 r2) r1 r2) e R in
      let q : prev_of (joined_arena pts false true a r1 r2) r2 ≡ u = ap (λ (m : List ℕ). get_or m r2 none) K.prev ∙ get_or-set_same (set a.prev r1 (prev_of a r2)) r2 u none (subst (λ (m : ℕ). r2 < m) (sym (length-set a.prev r1 (prev_of a r2))) l) in
      subst (λ (l : List ℕ). Comes (λ i. get_or l i none) u (length pts) (get_or l u none)) K.next
      (subst (λ (i : ℕ). OwnerEnds (length pts) (joined_arena pts false true a r1 r2) i) q (inv_comes _ J.inv _ _ (before _ J.inv r2 J.on2.lives)))

  -- Each turn: where it comes to its split or rejoining, the two entries are on the side, and so in rings.
  turn_ends : (k : ℕ) (a : Arena) → Inv pts line sd A a → (i j : ℕ) → TurnEnds pts k a i j
  turn_ends k a I i j e1 e2 e3 e4 =
      let r1 = get_or (edge_list a (k * 2)) i none in
      let s = seek a j (drop j (edge_list a (k * 2 + 1))) in
      let r2 = get_or (edge_list a (k * 2 + 1)) s none in
      let n1 : r1 ≡ none → ⊥ = eqb-false r1 none e1 in
      let n2 : r2 ≡ none → ⊥ = seek_hit a (edge_list a (k * 2 + 1)) (drop j (edge_list a (k * 2 + 1))) j refl (leb-false (length (edge_list a (k * 2 + 1))) s e3) in
      let i1 = in_getD (edge_list a (k * 2)) i n1 in
      let i2 = in_getD (edge_list a (k * 2 + 1)) s n2 in
      let on2 = I.lists k (k * 2 + 1) r2 (inr refl) i2 n2 in
      let h2 : r2 < length a.prev = subst (λ (m : ℕ). r2 < m) (sym I.prevs) (node_in (weight pts) (length pts) (next_of a) (prev_of a) (owner_of a) I.rs I.core.rings (owner_of a r2) r2 on2.lives) in
      record {
        rejoined = λ q. join_ends (cw_is_toward_larger k) a I r1 r2 on2.lives;
        split = λ q. split_ends k (cw_is_toward_larger k) a r1 r2 h2 (not-true (eqb (owner_of a r1) (owner_of a r2)) q) (regrouped pts line sd A k a I r1 r2 i1 i2 n1 n2 e4);
      }

  turns_end : (k left : ℕ) (t : Turn) → Inv pts line sd A t.arena → TurnsEnd pts k left t
  turns_end k zero t I = tt
  turns_end k (suc left) t I = λ e. (turn_ends k t.arena I t.i t.j, turns_end k left (one_turn pts k t.arena t.i t.j) (turn_inv pts line sd A k t.arena I t.i t.j))

  pub tidy_ends : (k limit : ℕ) (s : Arena × ℕ) → Inv pts line sd A s.0 → TidyEnds pts k limit s
  tidy_ends k limit s I e = turns_end k (limit - s.1) (turn s.0 0 0) I
