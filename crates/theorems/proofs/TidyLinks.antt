-- What the stores of `tidy_edges` and the loop of `set_new_owner` do, over lists of links and owners.
use mathlib.Core.Path.{◌≡◌, refl, sym, ◌∙◌, ap, subst}
use mathlib.Core.Bool.{Bool, true, false, cond, ◌||◌}
use mathlib.Core.List.{List, [], ◌∷◌}
use mathlib.Core.Logic.{inl, inr}
use Prim.Native.Nat.{ℕ, zero, suc, ◌-◌, ◌<◌, ◌≤◌}
use lib.ListN.{length, get_or, set, length-set}
use lib.Seq.{get_or-set_same, get_or-set_other}
use lib.Dec.{eqb}
use lib.IntN.{ℤ, pos, ◌+ℤ◌, ◌-ℤ◌, ◌*ℤ◌}
use native.Mathlib.Omega.{arith}
use native.Mathlib.Decide.{ℕ_discrete}
use borrow.Author.Tests.{eq-eqb, ne_eqb}
use Rattle.integers.specs.Ring.{var, ◌⊕◌, ◌⊖◌, ◌⊗◌, ring}
use Rattle.plane.specs.declared.point.Point64.{Point64}
use Rattle.plane.specs.Basics.{none}
use Rattle.reference.specs.Arena.{Arena, next_of, prev_of, owner_of, set_owner, own_from, set_new_owner}
use Rattle.theorems.specs.Demand.{area_step}
use Rattle.theorems.proofs.RingLaw.{Chain, Ring, end, Off, Distinct, Exchanged}
use Rattle.theorems.proofs.Pigeon.{pigeon, Below}
use Rattle.theorems.proofs.RingLists.{RingOf, All, In, all_map, off_in, off_of, all_in}
use Rattle.theorems.proofs.RingSet.{beginning}
use Rattle.theorems.proofs.RingStep.{Owned, Turned, turned, unturned}
use Rattle.integers.specs.Tests.{cond_true, cond_false}

-- ---- four points on one line
four_x : (c y1 y2 y3 y4 : ℤ) → (c *ℤ y2 -ℤ c *ℤ y1) +ℤ (c *ℤ y4 -ℤ c *ℤ y3) ≡ (c *ℤ y4 -ℤ c *ℤ y1) +ℤ (c *ℤ y2 -ℤ c *ℤ y3)
four_x c y1 y2 y3 y4 =
    ring (c ∷ y1 ∷ y2 ∷ y3 ∷ y4 ∷ []) ((var 0 ⊗ var 2 ⊖ var 0 ⊗ var 1) ⊕ (var 0 ⊗ var 4 ⊖ var 0 ⊗ var 3)) ((var 0 ⊗ var 4 ⊖ var 0 ⊗ var 1) ⊕ (var 0 ⊗ var 2 ⊖ var 0 ⊗ var 3)) tt

four_y : (c x1 x2 x3 x4 : ℤ) → (x1 *ℤ c -ℤ x2 *ℤ c) +ℤ (x3 *ℤ c -ℤ x4 *ℤ c) ≡ (x1 *ℤ c -ℤ x4 *ℤ c) +ℤ (x3 *ℤ c -ℤ x2 *ℤ c)
four_y c x1 x2 x3 x4 =
    ring (c ∷ x1 ∷ x2 ∷ x3 ∷ x4 ∷ []) ((var 1 ⊗ var 0 ⊖ var 2 ⊗ var 0) ⊕ (var 3 ⊗ var 0 ⊖ var 4 ⊗ var 0)) ((var 1 ⊗ var 0 ⊖ var 4 ⊗ var 0) ⊕ (var 3 ⊗ var 0 ⊖ var 2 ⊗ var 0)) tt

-- a point's coordinate across side k, 0 to 3 as left, top, right, bottom
abbrev pub level : ℕ → Bool
level k = eqb k 1 || eqb k 3

abbrev pub coord : Bool → Point64 → ℤ
coord true p = p.y
coord false p = p.x

pub four : (l : Bool) (c : ℤ) (p1 p2 p3 p4 : Point64) → coord l p1 ≡ c → coord l p2 ≡ c → coord l p3 ≡ c → coord l p4 ≡ c
    → area_step p1 p2 +ℤ area_step p3 p4 ≡ area_step p1 p4 +ℤ area_step p3 p2
four true c p1 p2 p3 p4 e1 e2 e3 e4 = rw (e1, e2, e3, e4) (four_y c p1.x p2.x p3.x p4.x)
four false c p1 p2 p3 p4 e1 e2 e3 e4 = rw (e1, e2, e3, e4) (four_x c p1.y p2.y p3.y p4.y)

-- ---- two stores to one list
module _ (l : List ℕ) (i j v w : ℕ) (hi : i < length l) (hj : j < length l) (ne : i ≡ j → ⊥) where
  two_first : get_or (set (set l i v) j w) i none ≡ v
  two_first = get_or-set_other (set l i v) j i w none ne ∙ get_or-set_same l i v none hi

  two_second : get_or (set (set l i v) j w) j none ≡ w
  two_second = get_or-set_same (set l i v) j w none (subst (λ (k : ℕ). j < k) (sym (length-set l i v)) hj)

  two_other : (k : ℕ) → (k ≡ i → ⊥) → (k ≡ j → ⊥) → get_or (set (set l i v) j w) k none ≡ get_or l k none
  two_other k a b = get_or-set_other (set l i v) j k w none b ∙ get_or-set_other l i k v none a

abbrev pub at : List ℕ → ℕ → ℕ
at l i = get_or l i none

module _ (N P : List ℕ) (r1 r2 : ℕ) (n1 : at N (at P r1) ≡ r1) (n2 : at N (at P r2) ≡ r2) (hu : at P r1 < length N) (hv : at P r2 < length N) (h1 : r1 < length P) (h2 : r2 < length P) (ne : r1 ≡ r2 → ⊥) where
  apart : at P r1 ≡ at P r2 → ⊥
  apart e = ne (sym n1 ∙ ap (at N) e ∙ n2)

  -- the four stores in the one order, and in the other
  pub cw_exchange : Exchanged (at N) (at P) (at (set (set N (at P r1) r2) (at P r2) r1)) (at (set (set P r2 (at P r1)) r1 (at P r2))) (at P r1) (at P r2)
  cw_exchange = record {
    one = record { fore = two_first N (at P r1) (at P r2) r2 r1 hu hv apart ∙ sym n2; back = ap (at (set (set P r2 (at P r1)) r1 (at P r2))) n2 ∙ two_first P r2 r1 (at P r1) (at P r2) h2 h1 (λ e. ne (sym e)) };
    two = record { fore = two_second N (at P r1) (at P r2) r2 r1 hu hv apart ∙ sym n1; back = ap (at (set (set P r2 (at P r1)) r1 (at P r2))) n1 ∙ two_second P r2 r1 (at P r1) (at P r2) h2 h1 (λ e. ne (sym e)) };
    fore = λ i a b. two_other N (at P r1) (at P r2) r2 r1 hu hv apart i a b;
    back = λ i a b. two_other P r2 r1 (at P r1) (at P r2) h2 h1 (λ e. ne (sym e)) i (λ e. b (e ∙ sym n2)) (λ e. a (e ∙ sym n1));
  }

  pub ccw_exchange : Exchanged (at N) (at P) (at (set (set N (at P r2) r1) (at P r1) r2)) (at (set (set P r1 (at P r2)) r2 (at P r1))) (at P r1) (at P r2)
  ccw_exchange = record {
    one = record { fore = two_second N (at P r2) (at P r1) r1 r2 hv hu (λ e. apart (sym e)) ∙ sym n2; back = ap (at (set (set P r1 (at P r2)) r2 (at P r1))) n2 ∙ two_second P r1 r2 (at P r2) (at P r1) h1 h2 ne };
    two = record { fore = two_first N (at P r2) (at P r1) r1 r2 hv hu (λ e. apart (sym e)) ∙ sym n1; back = ap (at (set (set P r1 (at P r2)) r2 (at P r1))) n1 ∙ two_first P r1 r2 (at P r2) (at P r1) h1 h2 ne };
    fore = λ i a b. two_other N (at P r2) (at P r1) r1 r2 hv hu (λ e. apart (sym e)) i b a;
    back = λ i a b. two_other P r1 r2 (at P r2) (at P r1) h1 h2 ne i (λ e. a (e ∙ sym n1)) (λ e. b (e ∙ sym n2));
  }

pub exchanged_sym : (nx pv nx' pv' : ℕ → ℕ) (u v : ℕ) → Exchanged nx pv nx' pv' u v → Exchanged nx pv nx' pv' v u
exchanged_sym nx pv nx' pv' u v x = record { one = x.two; two = x.one; fore = λ i a b. x.fore i b a; back = λ i a b. x.back i b a }

-- ---- `set_new_owner`
-- only owners change
pub record Keeps (a b : Arena) : Type 0 where
  pub edge : b.edge ≡ a.edge
  pub next : b.next ≡ a.next
  pub prev : b.prev ≡ a.prev
  pub results : b.results ≡ a.results
  pub edges : b.edges ≡ a.edges
  pub owners : length b.owner ≡ length a.owner

keeps_trans : (a b c : Arena) → Keeps a b → Keeps b c → Keeps a c
keeps_trans a b c h k = record {
  edge = k.edge ∙ h.edge;
  next = k.next ∙ h.next;
  prev = k.prev ∙ h.prev;
  results = k.results ∙ h.results;
  edges = k.edges ∙ h.edges;
  owners = k.owners ∙ h.owners;
}

keeps_cond : (t : Bool) (a b c : Arena) → Keeps a b → Keeps a c → Keeps a (cond t b c)
keeps_cond true a b c h k = h
keeps_cond false a b c h k = k

keeps_self : (a : Arena) → Keeps a a
keeps_self a = record { edge = refl; next = refl; prev = refl; results = refl; edges = refl; owners = refl }

keeps_set : (a : Arena) (i v : ℕ) → Keeps a (set_owner a i v)
unfolding set_owner
keeps_set a i v = record { edge = refl; next = refl; prev = refl; results = refl; edges = refl; owners = length-set a.owner i v }

keeps_from : (left : ℕ) (a : Arena) (op op2 new : ℕ) → Keeps a (own_from left a op op2 new)
unfolding own_from
keeps_from zero a op op2 new = keeps_self a
keeps_from (suc left) a op op2 new =
    keeps_cond (eqb op2 op) a a _ (keeps_self a) (keeps_trans a (set_owner a op2 new) _ (keeps_set a op2 new) (keeps_from left (set_owner a op2 new) op (next_of a op2) new))

pub keeps_new : (nodes : ℕ) (a : Arena) (op new : ℕ) → Keeps a (set_new_owner nodes a op new)
unfolding set_new_owner
keeps_new nodes a op new = keeps_trans a (set_owner a op new) _ (keeps_set a op new) (keeps_from nodes (set_owner a op new) op (next_of a op) new)

-- all nodes of a list get an owner
unfoldable own_list : List ℕ → List ℕ → ℕ → List ℕ
own_list o [] new = o
own_list o (x ∷ xs) new = own_list (set o x new) xs new

unfoldable with_owner : Arena → List ℕ → Arena
with_owner a o = record { owner = o; edge = a.edge; next = a.next; prev = a.prev; results = a.results; edges = a.edges }

own_stop : (left : ℕ) (a : Arena) (op op2 new : ℕ) → op2 ≡ op → own_from left a op op2 new ≡ a
unfolding own_from
own_stop zero a op op2 new e = refl
own_stop (suc left) a op op2 new e = cond_true (eqb op2 op) _ _ (eq-eqb op2 op e)

module _ (nx pv : ℕ → ℕ) (op new : ℕ) where
  own_ring : (xs : List ℕ) (left : ℕ) (a : Arena) (x : ℕ) → ((i : ℕ) → next_of a i ≡ nx i) → length xs ≤ left → Off op (x ∷ xs) → Chain nx pv x xs → nx (end x xs) ≡ op
      → own_from (suc left) a op x new ≡ with_owner a (own_list a.owner (x ∷ xs) new)
  unfolding own_from own_list with_owner set_owner
  own_ring [] left a x same h off c e = cond_false (eqb x op) _ _ (ne_eqb x op off.0) ∙ own_stop left (set_owner a x new) op (next_of a x) new (same x ∙ e)
  own_ring (y ∷ ys) zero a x same h off c e = absurd (omega arith)
  own_ring (y ∷ ys) (suc left) a x same h off c e =
      cond_false (eqb x op) _ _ (ne_eqb x op off.0)
      ∙ ap (λ (z : ℕ). own_from (suc left) (set_owner a x new) op z new) (same x ∙ c.0.fore)
      ∙ own_ring ys left (set_owner a x new) y same (omega arith) off.1 c.1 e

pub below_of : (n : ℕ) (xs : List ℕ) → All (λ i. i < n) xs → Below n xs
below_of n [] h = tt
below_of n (x ∷ xs) h = (h.0, below_of n xs h.1)

new_owner_ring : (n : ℕ) (a : Arena) (op new : ℕ) (xs : List ℕ) → Ring (next_of a) (prev_of a) op xs → Distinct (op ∷ xs) → All (λ i. i < n) (op ∷ xs)
    → set_new_owner n a op new ≡ with_owner a (own_list a.owner (op ∷ xs) new)
unfolding set_new_owner own_list with_owner set_owner
new_owner_ring n a op new [] r d b = own_stop n (set_owner a op new) op (next_of a op) new r.closes.fore
new_owner_ring n a op new (x ∷ xs) r d b =
    let p : length (op ∷ x ∷ xs) ≤ n = pigeon n (op ∷ x ∷ xs) d (below_of n (op ∷ x ∷ xs) b) in
    let one : suc (n - 1) ≡ n = omega arith in
    ap (λ (z : ℕ). own_from n (set_owner a op new) op z new) r.chain.0.fore
    ∙ ap (λ (z : ℕ). own_from z (set_owner a op new) op x new) (sym one)
    ∙ own_ring (next_of a) (prev_of a) op new xs (n - 1) (set_owner a op new) x (λ i. refl) (omega arith) d.0 r.chain.1 r.closes.fore

own_off : (xs : List ℕ) (o : List ℕ) (new i : ℕ) → Off i xs → at (own_list o xs new) i ≡ at o i
unfolding own_list
own_off [] o new i h = refl
own_off (x ∷ xs) o new i h = own_off xs (set o x new) new i h.1 ∙ get_or-set_other o x i new none (λ e. h.0 (sym e))

own_stays : (xs : List ℕ) (o : List ℕ) (new i : ℕ) → i < length o → at o i ≡ new → at (own_list o xs new) i ≡ new
unfolding own_list
own_stays [] o new i l h = h
own_stays (x ∷ xs) o new i l h =
    own_stays xs (set o x new) new i (subst (λ (k : ℕ). i < k) (sym (length-set o x new)) l)
    (elim (ℕ_discrete i x) [ yes e ↦ subst (λ (k : ℕ). at (set o x new) k ≡ new) (sym e) (get_or-set_same o x new none (subst (λ (k : ℕ). k < length o) e l)) | no q ↦ get_or-set_other o x i new none q ∙ h ])

own_in : (xs : List ℕ) (o : List ℕ) (new i : ℕ) → i < length o → In i xs → at (own_list o xs new) i ≡ new
unfolding own_list
own_in [] o new i l h = elim h [ ]
own_in (x ∷ xs) o new i l (inl e) =
    own_stays xs (set o x new) new i (subst (λ (k : ℕ). i < k) (sym (length-set o x new)) l) (subst (λ (k : ℕ). at (set o x new) k ≡ new) e (get_or-set_same o x new none (subst (λ (k : ℕ). k < length o) (sym e) l)))
own_in (x ∷ xs) o new i l (inr h) = own_in xs (set o x new) new i (subst (λ (k : ℕ). i < k) (sym (length-set o x new)) l) h

pub owned_new : (n : ℕ) (a : Arena) (op new : ℕ) (zs : List ℕ) → length a.owner ≡ n → In op zs → RingOf (next_of a) (prev_of a) zs → Distinct zs → All (λ i. i < n) zs
    → Owned (owner_of a) (owner_of (set_new_owner n a op new)) new zs
unfolding with_owner
owned_new n a op new zs len h r d b =
    let T = Turned (λ i j. pos 0) n (next_of a) (prev_of a) (λ i. 0) 0 zs in
    let q = beginning T (turned (λ i j. pos 0) n (next_of a) (prev_of a) (λ i. 0) 0 zs) op zs h
    (unturned (λ i j. pos 0) n (next_of a) (prev_of a) (λ i. 0) 0 zs (record { ring = r; once = d; own = all_map _ _ zs (λ i l. (l, refl)) b })) in
    let xs = q.0 in
    let t = q.1 in
    let e = new_owner_ring n a op new xs t.fine.ring t.fine.once (all_map _ _ (op ∷ xs) (λ i l. l.0) t.fine.own) in
    record {
      inner = λ i m. ap (λ (c : Arena). owner_of c i) e ∙ own_in (op ∷ xs) a.owner new i (subst (λ (k : ℕ). i < k) (sym len) (all_in _ i zs b m)) (t.back i m);
      outer = λ i m. ap (λ (c : Arena). owner_of c i) e ∙ own_off (op ∷ xs) a.owner new i (off_of i (op ∷ xs) (λ k. off_in i zs m (t.from i k)));
    }
