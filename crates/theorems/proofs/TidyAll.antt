-- `tidy_edges` keeps the invariant, on any side.
use mathlib.Core.Path.{◌≡◌, refl, sym, ◌∙◌, ap, subst, subst₂}
use mathlib.Core.Bool.{Bool, true, false, cond, not, ◌&&◌}
use mathlib.Core.List.{List, [], ◌∷◌}
use mathlib.Core.Logic.{inl, inr}
use Prim.Native.Nat.{ℕ, zero, suc, ◌+◌, ◌*◌, ◌-◌, ◌<◌, ◌≤◌}
use lib.ListN.{length, get_or, drop}
use lib.Dec.{eqb, ltb, leb}
use lib.IntN.{ℤ}
use lib.Signed.{lt_z, ◌<ℤ◌}
use native.Mathlib.Omega.{arith}
use native.Mathlib.Numerals.{add-one}
use borrow.Author.Tests.{eqb-false, leb-false}
use Rattle.integers.specs.Order.{zint}
use Rattle.integers.specs.Tests.{ltZ_true}
use Rattle.plane.specs.declared.point.Point64.{Point64}
use Rattle.plane.specs.Basics.{none, push, ok}
use Rattle.reference.specs.Arena.{Arena, pt_of, next_of, prev_of, owner_of, result_of, edge_list, set_next, set_prev, set_results, set_result}
use Rattle.reference.specs.Tidy.{Four, is_horz, cw_is_toward_larger, first_op, second_op, Turn, turn, four_of, overlap, relink, regroup, is_stub, seek, rejoin, one_turn, turns_from, tidy_edges}
use Rattle.theorems.proofs.Holds.{Holds, refused, held, either}
use Rattle.theorems.proofs.RingLists.{In}
use Rattle.theorems.proofs.RingStep.{Core}
use Rattle.theorems.proofs.TidyLinks.{at, keeps_new}
use Rattle.theorems.proofs.TidyInv.{weight, On, Inv}
use Rattle.theorems.proofs.TidyTurn.{Fine, fine_entry, fine_settle, rejoined}
use Rattle.theorems.proofs.Tests.{both, not-false, not-true}

not_less : (z : ℤ) → lt_z z z ≡ true → ⊥
not_less z e = let l : z <ℤ z = ltZ_true e in omega zint

pub in_getD : (l : List ℕ) (i : ℕ) → (get_or l i none ≡ none → ⊥) → In (get_or l i none) l
in_getD [] i h = absurd (h refl)
in_getD (x ∷ l) zero h = inl refl
in_getD (x ∷ l) (suc i) h = inr (in_getD l i h)

-- what `seek` stops at is an entry
drop-nil : (l : List ℕ) (j : ℕ) → drop j l ≡ [] → length l ≤ j
drop-nil [] j e = omega arith
drop-nil (x ∷ l) zero e = let z : ◌≡◌ {A = ℕ} 0 1 = cc in absurd (omega arith)
drop-nil (x ∷ l) (suc j) e = let h = drop-nil l j e in omega arith

drop_head : (l : List ℕ) (j x : ℕ) (xs : List ℕ) → drop j l ≡ x ∷ xs → (get_or l j none ≡ x) × (drop (suc j) l ≡ xs)
drop_head [] zero x xs e = let z : ◌≡◌ {A = ℕ} 0 1 = cc in absurd (omega arith)
drop_head [] (suc j) x xs e = let z : ◌≡◌ {A = ℕ} 0 1 = cc in absurd (omega arith)
drop_head (y ∷ l) zero x xs e = (cc, cc)
drop_head (y ∷ l) (suc j) x xs e = let r = drop_head l j x xs e in (r.0, r.1)

seek_cases : (l : List ℕ) (j x m : ℕ) (s t : Bool) → not (eqb x none) && s ≡ t → get_or l j none ≡ x → (m < length l → get_or l m none ≡ none → ⊥) → cond t j m < length l → get_or l (cond t j m) none ≡ none → ⊥
seek_cases l j x m s true q d r h w = eqb-false x none (not-false (eqb x none) (both _ _ q).0) (sym d ∙ w)
seek_cases l j x m s false q d r h w = r h w

pub seek_hit : (a : Arena) (l xs : List ℕ) (j : ℕ) → drop j l ≡ xs → seek a j xs < length l → get_or l (seek a j xs) none ≡ none → ⊥
unfolding seek
seek_hit a l [] j e = λ h w. let k = drop-nil l j e in omega arith
seek_hit a l (x ∷ xs) j e =
    let d = drop_head l j x xs e in
    seek_cases l j x (seek a (j + 1) xs) (not (is_stub a x)) (not (eqb x none) && not (is_stub a x)) refl d.0 (seek_hit a l xs (j + 1) (ap (λ (m : ℕ). drop m l) (add-one j) ∙ d.1))

-- ---- on any side, for any direction c
module _ (pts : List Point64) where
  -- entries that overlap are two: each begins strictly before the other ends
  apart_on : (g : Point64 → ℤ) (c : Bool) (a : Arena) (r1 r2 : ℕ) → let f = four_of c a r1 r2 in lt_z (g (pt_of pts f.p1)) (g (pt_of pts f.p2a)) && lt_z (g (pt_of pts f.p2)) (g (pt_of pts f.p1a)) ≡ true → r1 ≡ r2 → ⊥
  apart_on g true a r1 r2 e q =
      not_less (g (pt_of pts r2)) (subst (λ (m : ℕ). lt_z (g (pt_of pts r2)) (g (pt_of pts m)) ≡ true) q (both (lt_z (g (pt_of pts (prev_of a r1))) (g (pt_of pts (prev_of a r2)))) (lt_z (g (pt_of pts r2)) (g (pt_of pts r1))) e).1)
  apart_on g false a r1 r2 e q =
      not_less (g (pt_of pts r2)) (subst (λ (m : ℕ). lt_z (g (pt_of pts m)) (g (pt_of pts r2)) ≡ true) q (both (lt_z (g (pt_of pts r1)) (g (pt_of pts r2))) (lt_z (g (pt_of pts (prev_of a r2))) (g (pt_of pts (prev_of a r1)))) e).0)

  pub overlap_apart : (h c : Bool) (a : Arena) (r1 r2 : ℕ) → overlap pts h (four_of c a r1 r2) ≡ true → r1 ≡ r2 → ⊥
  overlap_apart true = apart_on (λ p. p.x)
  overlap_apart false = apart_on (λ p. p.y)

  pub regroup_edges : (c : Bool) (a : Arena) (f : Four) (t : Bool) → (regroup c (length pts) a f t).edges ≡ a.edges
  unfolding regroup relink set_next set_prev set_results
  regroup_edges true a f true = (keeps_new (length pts) (set_result a (owner_of a f.p2) none) f.p2 (owner_of a f.p1)).edges
  regroup_edges true a f false = (keeps_new (length pts) (set_results (relink true a f) (push a.results f.p1a)) f.p1a (length a.results)).edges
  regroup_edges false a f true = (keeps_new (length pts) (set_result a (owner_of a f.p2) none) f.p2 (owner_of a f.p1)).edges
  regroup_edges false a f false = (keeps_new (length pts) (set_results (relink false a f) (push a.results f.p1a)) f.p1a (length a.results)).edges

  -- the two ops are the two roots
  ops_on : (O : ℕ → ℕ → Type 0) (k : ℕ) (c : Bool) (a : Arena) (r1 r2 : ℕ) → O k r1 → O k r2 → O k (first_op c (four_of c a r1 r2)) × O k (second_op c (four_of c a r1 r2))
  ops_on O k true a r1 r2 h g = (g, h)
  ops_on O k false a r1 r2 h g = (h, g)

  -- the arena behind the split or rejoining, with its two results
  abbrev pub joined_arena : Bool → Bool → Arena → ℕ → ℕ → Arena
  joined_arena c one_owner a r1 r2 =
      let f = four_of c a r1 r2 in
      let b = regroup c (length pts) a f (not one_owner) in
      set_result (set_result b (owner_of b (first_op c f)) (first_op c f)) (owner_of b (second_op c f)) (second_op c f)

module _ (pts : List Point64) (line : ℕ → ℤ) (sd : ℕ → ℕ) (A : ℤ) where
  pub inv_fine : (a : Arena) (I : Inv pts line sd A a) (b : Arena) → Fine (On pts line sd (prev_of a) (owner_of a) I.rs) a b → Inv pts line sd A b
  inv_fine a I b F = record {
    rs = I.rs;
    core = subst₂ (λ (N P : List ℕ). Core (weight pts) (length pts) (at N) (at P) (owner_of b) (result_of b) I.rs A) (sym F.next) (sym F.prev)
        (subst₂ (λ (O R : List ℕ). Core (weight pts) (length pts) (next_of a) (prev_of a) (at O) (at R) I.rs A) (sym F.owner) (sym F.results) I.core);
    nexts = ap length F.next ∙ I.nexts;
    prevs = ap length F.prev ∙ I.prevs;
    owners = ap length F.owner ∙ I.owners;
    results = ap length F.results ∙ I.results;
    lists = λ k e i o h nn. subst₂ (λ (P O : List ℕ). On pts line sd (at P) (at O) I.rs k i) (sym F.prev) (sym F.owner) (F.lists k e i o h nn);
  }

  fine_self : (a : Arena) (I : Inv pts line sd A a) → Fine (On pts line sd (prev_of a) (owner_of a) I.rs) a a
  fine_self a I = record { next = refl; prev = refl; owner = refl; results = refl; lists = I.lists }

  -- it keeps the invariant, and the two entries stay on their side
  pub record Regrouped (k : ℕ) (c : Arena) (r1 r2 : ℕ) : Type 0 where
    pub inv : Inv pts line sd A c
    pub on1 : On pts line sd (prev_of c) (owner_of c) inv.rs k r1
    pub on2 : On pts line sd (prev_of c) (owner_of c) inv.rs k r2

  -- on any side, of two entries that overlap
  module _ (k : ℕ) (a : Arena) (I : Inv pts line sd A a) (r1 r2 : ℕ) (i1 : In r1 (edge_list a (k * 2))) (i2 : In r2 (edge_list a (k * 2 + 1))) (nn1 : r1 ≡ none → ⊥) (nn2 : r2 ≡ none → ⊥)
      (e : overlap pts (is_horz k) (four_of (cw_is_toward_larger k) a r1 r2) ≡ true) where
    pub regrouped : Regrouped k (joined_arena pts (cw_is_toward_larger k) (eqb (owner_of a r1) (owner_of a r2)) a r1 r2) r1 r2
    unfolding set_results
    regrouped =
        let d = cw_is_toward_larger k in
        let f = four_of d a r1 r2 in
        let t = eqb (owner_of a r1) (owner_of a r2) in
        let K = rejoined pts line sd A a I k r1 r2 (I.lists k (k * 2) r1 (inl refl) i1 nn1) (I.lists k (k * 2 + 1) r2 (inr refl) i2 nn2) (overlap_apart pts (is_horz k) d a r1 r2 e) d t refl (regroup d (length pts) a f (not t)) refl in
        let E = regroup_edges pts d a f (not t) in
        record {
          inv = K;
          on1 = K.lists k (k * 2) r1 (inl refl) (subst (λ (l : List (List ℕ)). In r1 (get_or l (k * 2) [])) (sym E) i1) nn1;
          on2 = K.lists k (k * 2 + 1) r2 (inr refl) (subst (λ (l : List (List ℕ)). In r2 (get_or l (k * 2 + 1) [])) (sym E) i2) nn2;
        }

    joined : (i j : ℕ) → Inv pts line sd A (rejoin pts k a i j r1 r2 (four_of (cw_is_toward_larger k) a r1 r2)).arena
    unfolding rejoin
    joined i j =
        let d = cw_is_toward_larger k in
        let c = joined_arena pts d (eqb (owner_of a r1) (owner_of a r2)) a r1 r2 in
        let R = regrouped in
        let O = On pts line sd (prev_of c) (owner_of c) R.inv.rs in
        let o = ops_on pts O k d a r1 r2 R.on1 R.on2 in
        inv_fine c R.inv _ (fine_settle O c pts k c i j (first_op d (four_of d a r1 r2)) (second_op d (four_of d a r1 r2)) (fine_self c R.inv) o.0 o.1)

  -- ---- a turn
  pick : (t : Bool) (x y : Turn) → (t ≡ true → Inv pts line sd A x.arena) → (t ≡ false → Inv pts line sd A y.arena) → Inv pts line sd A (cond t x y).arena
  pick true x y h k = h refl
  pick false x y h k = k refl

  module _ (k : ℕ) where
    pub turn_inv : (a : Arena) → Inv pts line sd A a → (i j : ℕ) → Inv pts line sd A (one_turn pts k a i j).arena
    unfolding one_turn
    turn_inv a I i j =
        let r1 = get_or (edge_list a (k * 2)) i none in
        let s = seek a j (drop j (edge_list a (k * 2 + 1))) in
        let r2 = get_or (edge_list a (k * 2 + 1)) s none in
        pick (eqb r1 none) _ _ (λ e. I)
        (λ e1. pick (is_stub a r1) _ _ (λ e. inv_fine a I _ (fine_entry (On pts line sd (prev_of a) (owner_of a) I.rs) a a k (k * 2) i none (fine_self a I) (inl refl) (inl refl)))
        (λ e2. pick (leb (length (edge_list a (k * 2 + 1))) s) _ _ (λ e. I)
        (λ e3. pick (not (overlap pts (is_horz k) (four_of (cw_is_toward_larger k) a r1 r2))) _ _ (λ e. I)
        (λ e4.
        let n1 : r1 ≡ none → ⊥ = eqb-false r1 none e1 in
        let n2 : r2 ≡ none → ⊥ = seek_hit a (edge_list a (k * 2 + 1)) (drop j (edge_list a (k * 2 + 1))) j refl (leb-false (length (edge_list a (k * 2 + 1))) s e3) in
        joined k a I r1 r2 (in_getD (edge_list a (k * 2)) i n1) (in_getD (edge_list a (k * 2 + 1)) s n2) n1 n2 (not-true (overlap pts (is_horz k) (four_of (cw_is_toward_larger k) a r1 r2)) e4) i s))))

    abbrev Kept : Arena × ℕ → Type 0
    Kept s = Inv pts line sd A s.0

    turns_inv : (left turns : ℕ) (t : Turn) → Inv pts line sd A t.arena → Holds Kept (turns_from pts k left turns t)
    unfolding turns_from
    turns_inv zero turns t I = either Kept (ltb t.i (length (edge_list t.arena (k * 2)))) _ _ (λ e. refused) (λ e. held I)
    turns_inv (suc left) turns t I =
        either Kept (ltb t.i (length (edge_list t.arena (k * 2)))) _ _
        (λ e. turns_inv left (turns + 1) (one_turn pts k t.arena t.i t.j) (turn_inv t.arena I t.i t.j)) (λ e. held I)

    pub tidy_inv : (limit : ℕ) (s : Arena × ℕ) → Inv pts line sd A s.0 → Holds Kept (tidy_edges pts k limit s)
    unfolding tidy_edges
    tidy_inv limit s I = either Kept (eqb (length (edge_list s.0 (k * 2 + 1))) 0) _ _ (λ e. held I) (λ e. turns_inv (limit - s.1) s.1 (turn s.0 0 0) I)

-- where all counter-clockwise lists are empty nothing is done
pub none_side : (pts : List Point64) (limit : ℕ) (s : Arena × ℕ) → ((k : ℕ) → edge_list s.0 (k * 2 + 1) ≡ []) → (k : ℕ) → tidy_edges pts k limit s ≡ ok s
unfolding tidy_edges
none_side pts limit s h k = ap (λ (l : List ℕ). cond (eqb (length l) 0) (ok s) (turns_from pts k (limit - s.1) s.1 (turn s.0 0 0))) (h k)
