-- "Remove collinear points" of `check_edges` keeps the ring's area, and the arena that the walk leaves is one ring with the outline's area.
use mathlib.Core.Path.{◌≡◌, refl, sym, ◌∙◌, ap, subst}
use mathlib.Core.Bool.{Bool, true, false, cond, not, ◌&&◌, ◌||◌}
use mathlib.Core.List.{List, [], ◌∷◌}
use mathlib.Core.Logic.{⊎_elim, ◌⊎◌, inl, inr}
use Prim.Native.Nat.{ℕ, zero, suc, ◌+◌, ◌-◌, ◌<◌, ◌≤◌}
use lib.ListN.{length, get_or, drop, replicate, get_or-append, get_or-replicate}
use lib.Seq.{get_or_at, drop-cons}
use lib.Dec.{eqb}
use lib.IntN.{pos, +ℤ_idr}
use native.Mathlib.Omega.{arith}
use native.Mathlib.Decide.{ℕ_discrete}
use borrow.Author.Tests.{eqb-false, eq-eqb, ne_eqb}
use Rattle.plane.specs.declared.point.Point64.{Point64}
use Rattle.plane.specs.Basics.{none, push, upwards}
use Rattle.reference.specs.Arena.{Arena, pt_of, next_of, prev_of, owner_of, result_of, set_next, set_prev, unlink, unlink_op_back, is_flat, Round, drop_collinear_pass, drop_collinear, ring}
use Rattle.theorems.specs.Demand.{area_to, signed_area2}
use Rattle.theorems.proofs.RingLaw.{Chain, Ring, end, Off, Distinct}
use Rattle.theorems.proofs.AreaLaw.{area}
use Rattle.theorems.proofs.RingLists.{All, In, in_end}
use Rattle.theorems.proofs.RingSet.{Rings, area_of, total}
use Rattle.theorems.proofs.RingStep.{Found, Core, from_node, next_live, prev_live, next_prev, prev_next, node_in}
use Rattle.theorems.proofs.TidyInv.{weight}
use Rattle.theorems.proofs.Reading.{Some, Shrunk, shrunk_self, shrunk_trans, cut_flat, stub_area, pt_list, list_area}

-- what is no link stays
pub record Still (a b : Arena) : Type 0 where
  pub owner : b.owner ≡ a.owner
  pub edge : b.edge ≡ a.edge
  pub results : b.results ≡ a.results
  pub edges : b.edges ≡ a.edges

pub unlink_still : (a : Arena) (b : ℕ) → Still a (unlink a b)
unfolding unlink set_next set_prev
unlink_still a b = go (eqb (next_of a b) b)
  where
    go : (t : Bool) → Still a (cond t a (set_prev (set_next a (prev_of a b) (next_of a b)) (next_of a b) (prev_of a b)))
    go true = record { owner = refl; edge = refl; results = refl; edges = refl }
    go false = record { owner = refl; edge = refl; results = refl; edges = refl }

unlink_alone : (a : Arena) (b : ℕ) → next_of a b ≡ b → unlink a b ≡ a
unfolding unlink
unlink_alone a b e = ap (λ (t : Bool). cond t a (set_prev (set_next a (prev_of a b) (next_of a b)) (next_of a b) (prev_of a b))) (eq-eqb (next_of a b) b e)

pub record Dropped (pts : List Point64) (ow : ℕ → ℕ) (a : Arena) (rs : List (List ℕ)) (r : ℕ) (s : Round) : Type 0 where
  pub rs' : List (List ℕ)
  pub some : Some pts ow s.arena rs'
  pub shrunk : Shrunk (weight pts) r rs rs'
  pub still : Still a s.arena
  pub fate : ((s.op2 ≡ none) × (area_of (weight pts) (get_or rs' r []) ≡ pos 0)) ⊎ (In s.op (get_or rs' r []) × In s.op2 (get_or rs' r []))

module _ (pts : List Point64) (small : length pts ≤ none) (ow : ℕ → ℕ) (r : ℕ) where
  drop_cond : (a : Arena) (rs : List (List ℕ)) (t : Bool) (x y : Round) → (t ≡ true → Dropped pts ow a rs r x) → (t ≡ false → Dropped pts ow a rs r y) → Dropped pts ow a rs r (cond t x y)
  drop_cond a rs true x y h k = h refl
  drop_cond a rs false x y h k = k refl

  module _ (a : Arena) (rs : List (List ℕ)) (op op2 : ℕ) (S : Some pts ow a rs) (i : In op (get_or rs r [])) (j : In op2 (get_or rs r [])) where
    abbrev back : ℕ
    back = unlink_op_back a op2

    choose : (P : ℕ → Type 0) (t : Bool) (x y : ℕ) → (t ≡ true → P x) → (t ≡ false → P y) → P (cond t x y)
    choose P true x y h k = h refl
    choose P false x y h k = k refl

    left_false : (x y : Bool) → x && not y ≡ false → y ≡ false → x ≡ false
    left_false false y e q = refl
    left_false true false e q = let z : ◌≡◌ {A = ℕ} 0 1 = cc in absurd (omega arith)
    left_false true true e q = let z : ◌≡◌ {A = ℕ} 0 1 = cc in absurd (omega arith)

    dropped_two : (next_of a op2 ≡ op2 → ⊥) → is_flat pts a op2 ≡ true
        → Dropped pts ow a rs r (record { arena = unlink a op2; op = cond (eqb op2 op && not (eqb back none)) (prev_of (unlink a op2) back) op; op2 = back })
    dropped_two more f =
        let C = cut_flat pts ow a rs S r op2 j more f in
        let np = next_prev (weight pts) (length pts) (next_of a) (prev_of a) ow rs S.rings r op2 j in
        let to : back ≡ prev_of a op2 = ap (λ (z : Bool). cond z none (prev_of a op2)) (ne_eqb (next_of a op2) op2 more) in
        let ib : In back (get_or C.rs' r []) =
        subst (λ (m : ℕ). In m (get_or C.rs' r [])) (sym to)
        (C.stay (prev_of a op2) (prev_live (weight pts) (length pts) (next_of a) (prev_of a) ow rs S.rings r op2 j) (λ e. more (ap (next_of a) (sym e) ∙ np))) in
        let nb : back ≡ none → ⊥ = λ e. let l = node_in (weight pts) (length pts) (next_of (unlink a op2)) (prev_of (unlink a op2)) ow C.rs' C.some.rings r back ib in omega arith in
        record {
          rs' = C.rs';
          some = C.some;
          shrunk = C.shrunk;
          still = unlink_still a op2;
          fate = inr (
            choose (λ (m : ℕ). In m (get_or C.rs' r [])) (eqb op2 op && not (eqb back none)) _ _
                (λ e. prev_live (weight pts) (length pts) (next_of (unlink a op2)) (prev_of (unlink a op2)) ow C.rs' C.some.rings r back ib)
                (λ e. C.stay op i (λ q. eqb-false op2 op (left_false (eqb op2 op) (eqb back none) e (ne_eqb back none nb)) (sym q))),
            ib,
          );
        }

    dropped_one : next_of a op2 ≡ op2
        → Dropped pts ow a rs r (record { arena = unlink a op2; op = cond (eqb op2 op && not (eqb back none)) (prev_of (unlink a op2) back) op; op2 = back })
    dropped_one e =
        let t = from_node (weight pts) (length pts) (next_of a) (prev_of a) ow rs S.rings r op2 j in
        let pn : prev_of a op2 ≡ op2 = ap (prev_of a) (sym e) ∙ prev_next (weight pts) (length pts) (next_of a) (prev_of a) ow rs S.rings r op2 j in
        record {
          rs' = rs;
          some = subst (λ (c : Arena). Some pts ow c rs) (sym (unlink_alone a op2 e)) S;
          shrunk = shrunk_self (weight pts) r rs;
          still = unlink_still a op2;
          fate = inl (
            ap (λ (z : Bool). cond z none (prev_of a op2)) (eq-eqb (next_of a op2) op2 e),
            sym t.1.area ∙ stub_area pts (next_of a) (prev_of a) op2 t.0 t.1.fine.ring t.1.fine.once (e ∙ sym pn),
          );
        }

    pass_dropped : Dropped pts ow a rs r (drop_collinear_pass pts a op op2)
    unfolding drop_collinear_pass
    pass_dropped =
        drop_cond a rs (is_flat pts a op2) _ _
        (λ f. elim (ℕ_discrete (next_of a op2) op2) [ yes e ↦ dropped_one e | no q ↦ dropped_two q f ])
        (λ f. record {
          rs' = rs;
          some = S;
          shrunk = shrunk_self (weight pts) r rs;
          still = record { owner = refl; edge = refl; results = refl; edges = refl };
          fate = inr (i, next_live (weight pts) (length pts) (next_of a) (prev_of a) ow rs S.rings r op2 j);
        })

  dropped_trans : (a : Arena) (rs : List (List ℕ)) (s t : Round) (K : Dropped pts ow a rs r s) → Dropped pts ow s.arena K.rs' r t → Dropped pts ow a rs r t
  dropped_trans a rs s t K L = record {
    rs' = L.rs';
    some = L.some;
    shrunk = shrunk_trans (weight pts) r rs K.rs' L.rs' K.shrunk L.shrunk;
    still = record { owner = L.still.owner ∙ K.still.owner; edge = L.still.edge ∙ K.still.edge; results = L.still.results ∙ K.still.results; edges = L.still.edges ∙ K.still.edges };
    fate = L.fate;
  }

  first_false : (x y : Bool) → x || y ≡ false → x ≡ false
  first_false false y e = refl
  first_false true y e = let z : ◌≡◌ {A = ℕ} 0 1 = cc in absurd (omega arith)

  pub all_dropped : (left : ℕ) (a : Arena) (rs : List (List ℕ)) (op op2 : ℕ) → Some pts ow a rs → In op (get_or rs r []) → In op2 (get_or rs r []) → Dropped pts ow a rs r (drop_collinear pts left a op op2)
  unfolding drop_collinear
  all_dropped zero a rs op op2 S i j = record { rs' = rs; some = S; shrunk = shrunk_self (weight pts) r rs; still = record { owner = refl; edge = refl; results = refl; edges = refl }; fate = inr (i, j) }
  all_dropped (suc left) a rs op op2 S i j =
      let s = drop_collinear_pass pts a op op2 in
      let K : Dropped pts ow a rs r s = pass_dropped a rs op op2 S i j in
      drop_cond a rs (eqb s.op2 none || eqb s.op2 s.op) s _ (λ e. K)
      (λ e. ⊎_elim (λ q. absurd (eqb-false s.op2 none (first_false (eqb s.op2 none) (eqb s.op2 s.op) e) q.0))
      (λ q. dropped_trans a rs s _ K (all_dropped left s.arena K.rs' s.op s.op2 K.some q.0 q.1)) K.fate)

-- ---- the arena that the walk leaves
pub len_up : (k m : ℕ) → length (upwards k m) ≡ m
len_up k zero = refl
len_up k (suc m) = ap suc (len_up (suc k) m)

up_at : (k m i : ℕ) → i < m → get_or (upwards k m) i none ≡ k + i
up_at k zero i h = absurd (omega arith)
up_at k (suc m) zero h = omega arith
up_at k (suc m) (suc i) h = up_at (suc k) m i (omega arith) ∙ omega arith

off_up : (u k m : ℕ) → u < k → Off u (upwards k m)
off_up u k zero h = tt
off_up u k (suc m) h = ((λ e. omega arith), off_up u (suc k) m (omega arith))

distinct_up : (k m : ℕ) → Distinct (upwards k m)
distinct_up k zero = tt
distinct_up k (suc m) = (off_up k (suc k) m (omega arith), distinct_up (suc k) m)

end_up : (k m : ℕ) → end k (upwards (suc k) m) ≡ k + m
end_up k zero = omega arith
end_up k (suc m) = end_up (suc k) m ∙ omega arith

all_up : (P : ℕ → Type 0) (k m : ℕ) → ((i : ℕ) → i < k + m → P i) → All P (upwards k m)
all_up P k zero f = tt
all_up P k (suc m) f = (f k (omega arith), all_up P (suc k) m (λ i h. f i (omega arith)))

abbrev pub one_ring : ℕ → Arena
one_ring m = record { owner = replicate (suc m) 0; edge = replicate (suc m) none; next = push (upwards 1 m) 0; prev = m ∷ upwards 0 m; results = m ∷ []; edges = replicate 8 [] }

pub ring_is : (m : ℕ) → ring (suc m) ≡ one_ring m
unfolding ring
ring_is m =
    let e : suc m - 1 ≡ m = omega arith in
    let made : ℕ → Arena = λ z. record { owner = replicate (suc m) 0; edge = replicate (suc m) none; next = push (upwards 1 z) 0; prev = z ∷ upwards 0 z; results = z ∷ []; edges = replicate 8 [] } in
    let empty : Arena = record { owner = []; edge = []; next = []; prev = []; results = []; edges = replicate 8 [] } in
    ap (λ (t : Bool). cond t empty (made (suc m - 1))) (ne_eqb (suc m) 0 (λ q. omega arith)) ∙ ap made e

module _ (m : ℕ) where
  next_up : (k : ℕ) → k < m → next_of (one_ring m) k ≡ suc k
  next_up k h = get_or-append (upwards 1 m) (0 ∷ []) none k (subst (λ (z : ℕ). k < z) (sym (len_up 1 m)) h) ∙ up_at 1 m k h ∙ omega arith

  next_last : next_of (one_ring m) m ≡ 0
  next_last = get_or_at (upwards 1 m) 0 [] none m (len_up 1 m)

  prev_up : (k : ℕ) → k < m → prev_of (one_ring m) (suc k) ≡ k
  prev_up k h = up_at 0 m k h ∙ omega arith

  chain_up : (j k : ℕ) → k + j ≡ m → Chain (next_of (one_ring m)) (prev_of (one_ring m)) k (upwards (suc k) j)
  chain_up zero k e = tt
  chain_up (suc j) k e = (record { fore = next_up k (omega arith); back = prev_up k (omega arith) }, chain_up j (suc k) (omega arith))

  ring_up : Ring (next_of (one_ring m)) (prev_of (one_ring m)) 0 (upwards 1 m)
  ring_up =
      let e : end 0 (upwards 1 m) ≡ m = end_up 0 m ∙ omega arith in
      record { chain = chain_up m 0 (omega arith); closes = record { fore = ap (next_of (one_ring m)) e ∙ next_last; back = sym e } }

list_up : (pts : List Point64) (m k : ℕ) → k + m ≡ length pts → pt_list pts (upwards k m) ≡ drop k pts
unfolding pt_list
list_up pts zero k e = sym (drop_all pts k (omega arith))
  where
    drop_all : (l : List Point64) (k : ℕ) → length l ≤ k → drop k l ≡ []
    drop_all [] zero h = refl
    drop_all [] (suc k) h = refl
    drop_all (x ∷ l) zero h = absurd (omega arith)
    drop_all (x ∷ l) (suc k) h = drop_all l k (omega arith)
list_up pts (suc m) k e = ap (λ (l : List Point64). pt_of pts k ∷ l) (list_up pts m (suc k) (omega arith)) ∙ sym (drop-cons pts k (Rattle.plane.specs.Points.pt_at pts 0) (omega arith))

outline_area : (p : Point64) (ps : List Point64) → area_of (weight (p ∷ ps)) (0 ∷ upwards 1 (length ps)) ≡ signed_area2 (p ∷ ps)
unfolding area_of area signed_area2
outline_area p ps = sym (list_area (p ∷ ps) 0 0 (upwards 1 (length ps))) ∙ ap (area_to p p) (list_up (p ∷ ps) (length ps) 1 (omega arith))

pub first_core : (p : Point64) (ps : List Point64)
    → Core (weight (p ∷ ps)) (length (p ∷ ps)) (next_of (one_ring (length ps))) (prev_of (one_ring (length ps))) (owner_of (one_ring (length ps))) (result_of (one_ring (length ps))) ((0 ∷ upwards 1 (length ps)) ∷ []) (signed_area2 (p ∷ ps))
unfolding total
first_core p ps = record {
  rings = rings;
  found = found;
  area = +ℤ_idr (area_of (weight (p ∷ ps)) (0 ∷ upwards 1 (length ps))) ∙ outline_area p ps;
}
  where
    m : ℕ
    m = length ps

    rings : Rings (length (p ∷ ps)) (next_of (one_ring (length ps))) (prev_of (one_ring (length ps))) (owner_of (one_ring (length ps))) ((0 ∷ upwards 1 (length ps)) ∷ [])
    rings zero = record {
      ring = ring_up (length ps);
      once = distinct_up 0 (suc (length ps));
      own = all_up _ 0 (suc (length ps)) (λ i h. (omega arith, get_or-replicate (suc (length ps)) i 0 none (omega arith)));
    }
    rings (suc s) = record { ring = tt; once = tt; own = tt }

    found : (s : ℕ) → s < 1 → Found (result_of (one_ring (length ps)) s) (get_or ((0 ∷ upwards 1 (length ps)) ∷ []) s [])
    found zero h = subst (λ (k : ℕ). In k (0 ∷ upwards 1 (length ps))) (end_up 0 (length ps) ∙ omega arith) (in_end 0 (upwards 1 (length ps)))
    found (suc s) h = absurd (omega arith)
