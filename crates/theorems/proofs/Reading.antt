-- Unlinking flat nodes, and reading the paths out: the paths' areas add up to the rings'.
use mathlib.Core.Path.{◌≡◌, refl, sym, ◌∙◌, ap, subst}
use mathlib.Core.Bool.{Bool, true, false, cond, ◌||◌}
use mathlib.Core.List.{List, [], ◌∷◌}
use mathlib.Core.Logic.{⊎_elim, inr}
use Prim.Native.Nat.{ℕ, zero, suc, ◌<◌, ◌≤◌}
use lib.ListN.{length, get_or, set, length-set}
use lib.Seq.{get_or-set_same, get_or-set_other}
use lib.Dec.{eqb}
use lib.IntN.{ℤ, pos, ◌+ℤ◌, ◌-ℤ◌, ◌*ℤ◌, +ℤ_assoc, +ℤ_idl}
use native.Mathlib.Omega.{arith}
use native.Mathlib.Decide.{ℕ_discrete}
use borrow.Author.Tests.{eqb-false, eq-eqb, ne_eqb}
use Rattle.integers.specs.Ring.{var, con, ◌⊕◌, ◌⊖◌, ◌⊗◌, ring}
use Rattle.plane.specs.declared.point.Point64.{Point64}
use Rattle.plane.specs.Basics.{none}
use Rattle.reference.specs.Arena.{Arena, pt_of, next_of, prev_of, set_next, set_prev, unlink, unlink_op, is_flat, Round}
use Rattle.reference.specs.Clip.{straighten_pass, straighten, points_from}
use Rattle.theorems.specs.Demand.{area_to, signed_area2}
use Rattle.theorems.proofs.Unlinked.{bypassed}
use Rattle.theorems.proofs.RingLaw.{Chain, Ring, end, off_end, Off, Distinct, Bypassed}
use Rattle.theorems.proofs.AreaLaw.{sum, area}
use Rattle.theorems.proofs.Flat.{flat_keeps}
use Rattle.theorems.proofs.Pigeon.{pigeon}
use Rattle.theorems.proofs.RingLists.{All, In}
use Rattle.theorems.proofs.RingSet.{Ok, Rings, area_of, unlink_rings}
use Rattle.theorems.proofs.RingStep.{Turned, numbered, from_node, next_live, prev_live, node_in}
use Rattle.theorems.proofs.TidyLinks.{below_of}
use Rattle.theorems.proofs.TidyInv.{weight}
use Rattle.integers.specs.Tests.{cond_true, cond_false}

-- the rings of an arena whose owners are ow
pub record Some (pts : List Point64) (ow : ℕ → ℕ) (a : Arena) (rs : List (List ℕ)) : Type 0 where
  pub rings : Rings (length pts) (next_of a) (prev_of a) ow rs
  pub nexts : length a.next ≡ length pts
  pub prevs : length a.prev ≡ length pts

-- ring r has other nodes and its area, the others are as they were
pub record Shrunk (wt : ℕ → ℕ → ℤ) (r : ℕ) (rs rs' : List (List ℕ)) : Type 0 where
  pub len : length rs' ≡ length rs
  pub others : (s : ℕ) → (s ≡ r → ⊥) → get_or rs' s [] ≡ get_or rs s []
  pub area : area_of wt (get_or rs' r []) ≡ area_of wt (get_or rs r [])
  pub from : (i : ℕ) → In i (get_or rs' r []) → In i (get_or rs r [])

pub shrunk_self : (wt : ℕ → ℕ → ℤ) (r : ℕ) (rs : List (List ℕ)) → Shrunk wt r rs rs
shrunk_self wt r rs = record { len = refl; others = λ s h. refl; area = refl; from = λ i h. h }

pub shrunk_trans : (wt : ℕ → ℕ → ℤ) (r : ℕ) (rs rs1 rs2 : List (List ℕ)) → Shrunk wt r rs rs1 → Shrunk wt r rs1 rs2 → Shrunk wt r rs rs2
shrunk_trans wt r rs rs1 rs2 h k = record {
  len = k.len ∙ h.len;
  others = λ s n. k.others s n ∙ h.others s n;
  area = k.area ∙ h.area;
  from = λ i m. h.from i (k.from i m);
}

-- ---- a flat node that is not alone is unlinked
pub record Cut (pts : List Point64) (ow : ℕ → ℕ) (a : Arena) (rs : List (List ℕ)) (r b : ℕ) : Type 0 where
  pub rs' : List (List ℕ)
  pub some : Some pts ow (unlink a b) rs'
  pub shrunk : Shrunk (weight pts) r rs rs'
  pub stay : (i : ℕ) → In i (get_or rs r []) → (i ≡ b → ⊥) → In i (get_or rs' r [])

unlink_sizes : (a : Arena) (b : ℕ) → (length (unlink a b).next ≡ length a.next) × (length (unlink a b).prev ≡ length a.prev)
unfolding unlink set_next set_prev
unlink_sizes a b = go (eqb (next_of a b) b)
  where
    go : (t : Bool) → (length (cond t a (set_prev (set_next a (prev_of a b) (next_of a b)) (next_of a b) (prev_of a b))).next ≡ length a.next) × (length (cond t a (set_prev (set_next a (prev_of a b) (next_of a b)) (next_of a b) (prev_of a b))).prev ≡ length a.prev)
    go true = (refl, refl)
    go false = (length-set a.next (prev_of a b) (next_of a b), length-set a.prev (next_of a b) (prev_of a b))

-- what `unlink` leaves alone
pub unlink_results : (a : Arena) (b : ℕ) → (unlink a b).results ≡ a.results
unfolding unlink set_next set_prev
unlink_results a b = go (eqb (next_of a b) b)
  where
    go : (t : Bool) → (cond t a (set_prev (set_next a (prev_of a b) (next_of a b)) (next_of a b) (prev_of a b))).results ≡ a.results
    go true = refl
    go false = refl

module _ (pts : List Point64) (ow : ℕ → ℕ) (a : Arena) (rs : List (List ℕ)) (S : Some pts ow a rs) (r b : ℕ) (h : In b (get_or rs r [])) where
  by_it : (next_of a b ≡ b → ⊥) → Bypassed (next_of a) (prev_of a) (next_of (unlink a b)) (prev_of (unlink a b)) b
  by_it more =
      bypassed a b more
      (subst (λ (k : ℕ). prev_of a b < k) (sym S.nexts) (node_in (weight pts) (length pts) (next_of a) (prev_of a) ow rs S.rings r (prev_of a b) (prev_live (weight pts) (length pts) (next_of a) (prev_of a) ow rs S.rings r b h)))
      (subst (λ (k : ℕ). next_of a b < k) (sym S.prevs) (node_in (weight pts) (length pts) (next_of a) (prev_of a) ow rs S.rings r (next_of a b) (next_live (weight pts) (length pts) (next_of a) (prev_of a) ow rs S.rings r b h)))

  cut_go : (xs : List ℕ) → Turned (weight pts) (length pts) (next_of a) (prev_of a) ow r (get_or rs r []) (b ∷ xs) → (next_of a b ≡ b → ⊥) → is_flat pts a b ≡ true → Cut pts ow a rs r b
  unfolding area_of
  cut_go [] t more f = absurd (more t.fine.ring.closes.fore)
  cut_go (x ∷ xs) t more f =
      let hr = numbered rs r b h in
      let rs1 = set rs r (b ∷ x ∷ xs) in
      let hr1 : r < length rs1 = subst (λ (k : ℕ). r < k) (sym (length-set rs r (b ∷ x ∷ xs))) hr in
      let rs2 = set rs1 r (x ∷ xs) in
      let G1 : Rings (length pts) (next_of a) (prev_of a) ow rs1 = λ s.
      elim (ℕ_discrete s r) [
        | yes e ↦ subst (λ (k : ℕ). Ok (length pts) (next_of a) (prev_of a) ow k (get_or rs1 k [])) (sym e) (rw (get_or-set_same rs r (b ∷ x ∷ xs) [] hr) t.fine)
        | no q ↦ rw (get_or-set_other rs r s (b ∷ x ∷ xs) [] q) (S.rings s)
      ] in
      let at_r : get_or rs2 r [] ≡ x ∷ xs = get_or-set_same rs1 r (x ∷ xs) [] hr1 in
      record {
        rs' = rs2;
        some = record {
          rings = unlink_rings (length pts) (next_of a) (prev_of a) ow (next_of (unlink a b)) (prev_of (unlink a b)) rs1 r b x xs G1 hr1 (get_or-set_same rs r (b ∷ x ∷ xs) [] hr) (by_it more);
          nexts = (unlink_sizes a b).0 ∙ S.nexts;
          prevs = (unlink_sizes a b).1 ∙ S.prevs;
        };
        shrunk = record {
          len = length-set rs1 r (x ∷ xs) ∙ length-set rs r (b ∷ x ∷ xs);
          others = λ s q. get_or-set_other rs1 r s (x ∷ xs) [] q ∙ get_or-set_other rs r s (b ∷ x ∷ xs) [] q;
          area = ap (area_of (weight pts)) at_r ∙ sym (flat_keeps pts a b x xs t.fine.ring f) ∙ t.area;
          from = λ i m. t.from i (inr (subst (In i) at_r m));
        };
        stay = λ i m q. subst (In i) (sym at_r) (⊎_elim (λ e. absurd (q (sym e))) (λ w. w) (t.back i m));
      }

  pub cut_flat : (next_of a b ≡ b → ⊥) → is_flat pts a b ≡ true → Cut pts ow a rs r b
  cut_flat more f = let t = from_node (weight pts) (length pts) (next_of a) (prev_of a) ow rs S.rings r b h in cut_go t.0 t.1 more f

  -- another node in the ring: not alone
  not_alone_go : (xs : List ℕ) → Turned (weight pts) (length pts) (next_of a) (prev_of a) ow r (get_or rs r []) (b ∷ xs) → (c : ℕ) → In c (get_or rs r []) → (c ≡ b → ⊥) → (next_of a b ≡ b → ⊥) × (prev_of a b ≡ b → ⊥)
  not_alone_go [] t c m q = absurd (⊎_elim (λ e. q (sym e)) (λ w. w) (t.back c m))
  not_alone_go (x ∷ xs) t c m q = (
    (λ e. t.fine.once.0.0 (sym t.fine.ring.chain.0.fore ∙ e)),
    (λ e. off_end b x xs t.fine.once.0 (sym t.fine.ring.closes.back ∙ e)),
  )

  pub not_alone : (c : ℕ) → In c (get_or rs r []) → (c ≡ b → ⊥) → (next_of a b ≡ b → ⊥) × (prev_of a b ≡ b → ⊥)
  not_alone = let t = from_node (weight pts) (length pts) (next_of a) (prev_of a) ow rs S.rings r b h in not_alone_go t.0 t.1

-- ---- `get_path`'s first loop
pub record Kept (pts : List Point64) (ow : ℕ → ℕ) (a : Arena) (rs : List (List ℕ)) (r : ℕ) (s : Round) : Type 0 where
  pub rs' : List (List ℕ)
  pub some : Some pts ow s.arena rs'
  pub shrunk : Shrunk (weight pts) r rs rs'
  pub results : s.arena.results ≡ a.results
  pub in_op : In s.op (get_or rs' r [])
  pub in_op2 : In s.op2 (get_or rs' r [])

module _ (pts : List Point64) (ow : ℕ → ℕ) (r : ℕ) where
  kept_self : (a : Arena) (rs : List (List ℕ)) (op op2 : ℕ) → Some pts ow a rs → In op (get_or rs r []) → In op2 (get_or rs r []) → Kept pts ow a rs r (record { arena = a; op = op; op2 = op2 })
  kept_self a rs op op2 S i j = record { rs' = rs; some = S; shrunk = shrunk_self (weight pts) r rs; results = refl; in_op = i; in_op2 = j }

  pass_kept : (a : Arena) (rs : List (List ℕ)) (op op2 : ℕ) → Some pts ow a rs → In op (get_or rs r []) → In op2 (get_or rs r []) → (op2 ≡ op → ⊥) → (t : Bool) → is_flat pts a op2 ≡ t
      → Kept pts ow a rs r (cond t (record { arena = unlink a op2; op = prev_of a op2; op2 = unlink_op a op2 }) (record { arena = a; op = op; op2 = next_of a op2 }))
  pass_kept a rs op op2 S i j ne true f =
      let two = not_alone pts ow a rs S r op2 j op i (λ e. ne (sym e)) in
      let C = cut_flat pts ow a rs S r op2 j two.0 f in
      let to : unlink_op a op2 ≡ next_of a op2 = ap (λ (z : Bool). cond z none (next_of a op2)) (ne_eqb (next_of a op2) op2 two.0) in
      record {
        rs' = C.rs';
        some = C.some;
        shrunk = C.shrunk;
        results = unlink_results a op2;
        in_op = C.stay (prev_of a op2) (prev_live (weight pts) (length pts) (next_of a) (prev_of a) ow rs S.rings r op2 j) two.1;
        in_op2 = subst (λ (m : ℕ). In m (get_or C.rs' r [])) (sym to) (C.stay (next_of a op2) (next_live (weight pts) (length pts) (next_of a) (prev_of a) ow rs S.rings r op2 j) two.0);
      }
  pass_kept a rs op op2 S i j ne false f = kept_self a rs op (next_of a op2) S i (next_live (weight pts) (length pts) (next_of a) (prev_of a) ow rs S.rings r op2 j)

  kept_cond : (a : Arena) (rs : List (List ℕ)) (t : Bool) (x y : Round) → (t ≡ true → Kept pts ow a rs r x) → (t ≡ false → Kept pts ow a rs r y) → Kept pts ow a rs r (cond t x y)
  kept_cond a rs true x y h k = h refl
  kept_cond a rs false x y h k = k refl

  kept_trans : (a : Arena) (rs : List (List ℕ)) (s t : Round) (K : Kept pts ow a rs r s) → Kept pts ow s.arena K.rs' r t → Kept pts ow a rs r t
  kept_trans a rs s t K L = record {
    rs' = L.rs';
    some = L.some;
    shrunk = shrunk_trans (weight pts) r rs K.rs' L.rs' K.shrunk L.shrunk;
    results = L.results ∙ K.results;
    in_op = L.in_op;
    in_op2 = L.in_op2;
  }

  neither : (x y : Bool) → x || y ≡ false → y ≡ false
  neither false y e = e
  neither true y e = let z : ◌≡◌ {A = ℕ} 0 1 = cc in absurd (omega arith)

  pub straight_kept : (left : ℕ) (a : Arena) (rs : List (List ℕ)) (op op2 : ℕ) → Some pts ow a rs → In op (get_or rs r []) → In op2 (get_or rs r []) → Kept pts ow a rs r (straighten pts left a op op2)
  unfolding straighten straighten_pass
  straight_kept zero a rs op op2 S i j = kept_self a rs op op2 S i j
  straight_kept (suc left) a rs op op2 S i j =
      kept_cond a rs (eqb op2 none || eqb op2 op) _ _ (λ e. kept_self a rs op op2 S i j)
      (λ e.
      let K = pass_kept a rs op op2 S i j (eqb-false op2 op (neither (eqb op2 none) (eqb op2 op) e)) (is_flat pts a op2) refl in
      kept_trans a rs _ _ K (straight_kept left _ K.rs' _ _ K.some K.in_op K.in_op2))

-- ---- a ring of one or two nodes has no area
self : (x y : ℤ) → x *ℤ y -ℤ x *ℤ y ≡ pos 0
self x y = ring (x ∷ y ∷ []) (var 0 ⊗ var 1 ⊖ var 0 ⊗ var 1) (con (pos 0)) tt

forth_back : (x y u v : ℤ) → ((x *ℤ v -ℤ u *ℤ y) +ℤ pos 0) +ℤ (u *ℤ y -ℤ x *ℤ v) ≡ pos 0
forth_back x y u v = ring (x ∷ y ∷ u ∷ v ∷ []) (((var 0 ⊗ var 3 ⊖ var 2 ⊗ var 1) ⊕ con (pos 0)) ⊕ (var 2 ⊗ var 1 ⊖ var 0 ⊗ var 3)) (con (pos 0)) tt

pub stub_area : (pts : List Point64) (nx pv : ℕ → ℕ) (x : ℕ) (xs : List ℕ) → Ring nx pv x xs → Distinct (x ∷ xs) → nx x ≡ pv x → area_of (weight pts) (x ∷ xs) ≡ pos 0
unfolding area_of area sum
stub_area pts nx pv x [] r d e = +ℤ_idl (weight pts x x) ∙ self (pt_of pts x).x (pt_of pts x).y
stub_area pts nx pv x (y ∷ []) r d e = forth_back (pt_of pts x).x (pt_of pts x).y (pt_of pts y).x (pt_of pts y).y
stub_area pts nx pv x (y ∷ z ∷ zs) r d e = absurd (off_end y z zs d.1.0 (sym (sym r.chain.0.fore ∙ e ∙ r.closes.back)))

-- ---- reading a ring
unfoldable pub pt_list : List Point64 → List ℕ → List Point64
pt_list pts [] = []
pt_list pts (x ∷ xs) = pt_of pts x ∷ pt_list pts xs

pub list_area : (pts : List Point64) (f x : ℕ) (xs : List ℕ) → area_to (pt_of pts f) (pt_of pts x) (pt_list pts xs) ≡ sum (weight pts) x xs +ℤ weight pts (end x xs) f
unfolding pt_list sum
list_area pts f x [] = sym (+ℤ_idl (weight pts x f))
list_area pts f x (y ∷ ys) = ap (λ (z : ℤ). weight pts x y +ℤ z) (list_area pts f y ys) ∙ sym (+ℤ_assoc (weight pts x y) (sum (weight pts) y ys) (weight pts (end y ys) f))

read_stop : (pts : List Point64) (left : ℕ) (a : Arena) (start curr : ℕ) → curr ≡ start → points_from pts left a start curr ≡ []
unfolding points_from
read_stop pts zero a start curr e = refl
read_stop pts (suc left) a start curr e = cond_true (eqb curr start) _ _ (eq-eqb curr start e)

read_chain : (pts : List Point64) (left : ℕ) (a : Arena) (start x : ℕ) (xs : List ℕ) → Chain (next_of a) (prev_of a) x xs → next_of a (end x xs) ≡ start → Off start (x ∷ xs) → length xs < left
    → points_from pts left a start x ≡ pt_list pts (x ∷ xs)
unfolding points_from pt_list
read_chain pts zero a start x xs c e o l = absurd (omega arith)
read_chain pts (suc left) a start x [] c e o l = cond_false (eqb x start) _ _ (ne_eqb x start o.0) ∙ ap (λ (p : List Point64). pt_of pts x ∷ p) (read_stop pts left a start (next_of a x) e)
read_chain pts (suc left) a start x (y ∷ ys) c e o l =
    cond_false (eqb x start) _ _ (ne_eqb x start o.0)
    ∙ ap (λ (p : List Point64). pt_of pts x ∷ p) (ap (points_from pts left a start) c.0.fore ∙ read_chain pts left a start y ys c.1 e o.1 (omega arith))

-- a ring is read as the points of its nodes, each once
pub read_list : (pts : List Point64) (a : Arena) (x : ℕ) (xs : List ℕ) → Ring (next_of a) (prev_of a) x xs → Distinct (x ∷ xs) → All (λ i. i < length pts) (x ∷ xs)
    → pt_of pts x ∷ points_from pts (length pts) a x (next_of a x) ≡ pt_list pts (x ∷ xs)
unfolding pt_list
read_list pts a x [] r d b = ap (λ (l : List Point64). pt_of pts x ∷ l) (read_stop pts (length pts) a x (next_of a x) r.closes.fore)
read_list pts a x (y ∷ ys) r d b =
    let p : length (x ∷ y ∷ ys) ≤ length pts = pigeon (length pts) (x ∷ y ∷ ys) d (below_of (length pts) (x ∷ y ∷ ys) b) in
    ap (λ (l : List Point64). pt_of pts x ∷ l) (ap (points_from pts (length pts) a x) r.chain.0.fore ∙ read_chain pts (length pts) a x y ys r.chain.1 r.closes.fore d.0 (omega arith))

pub list_length : (pts : List Point64) (xs : List ℕ) → length (pt_list pts xs) ≡ length xs
unfolding pt_list
list_length pts [] = refl
list_length pts (x ∷ xs) = ap suc (list_length pts xs)

pub read_ring : (pts : List Point64) (a : Arena) (x : ℕ) (xs : List ℕ) → Ring (next_of a) (prev_of a) x xs → Distinct (x ∷ xs) → All (λ i. i < length pts) (x ∷ xs)
    → signed_area2 (pt_of pts x ∷ points_from pts (length pts) a x (next_of a x)) ≡ area_of (weight pts) (x ∷ xs)
unfolding signed_area2 area_of area pt_list
read_ring pts a x xs r d b = ap signed_area2 (read_list pts a x xs r d b) ∙ list_area pts x x xs
