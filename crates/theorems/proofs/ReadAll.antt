-- The returned paths' areas add up to the total of the rings.
use mathlib.Core.Path.{◌≡◌, refl, sym, ◌∙◌, ap, subst, subst₂}
use mathlib.Core.Bool.{Bool, true, false, cond}
use mathlib.Core.List.{List, [], ◌∷◌}
use Prim.Native.Nat.{ℕ, zero, suc, ◌+◌, ◌*◌, ◌<◌, ◌≤◌}
use lib.ListN.{length, get_or}
use lib.Seq.{get_or-set_other}
use lib.Dec.{eqb}
use lib.IntN.{ℤ, pos, ◌+ℤ◌, +ℤ_idl}
use native.Mathlib.Omega.{arith}
use borrow.Author.Tests.{eqb-true, eq-eqb}
use Rattle.plane.specs.declared.point.Point64.{Point64}
use Rattle.plane.specs.Basics.{none, is_nil, upwards}
use Rattle.reference.specs.Arena.{Arena, pt_of, next_of, prev_of, owner_of, result_of, set_results, set_result}
use Rattle.reference.specs.Tidy.{is_stub}
use Rattle.reference.specs.Clip.{straighten, points_from, get_path, get_paths}
use Rattle.theorems.specs.Demand.{signed_area2, total_area2}
use Rattle.theorems.proofs.RingLists.{In, all_map}
use Rattle.theorems.proofs.RingSet.{area_of, total}
use Rattle.theorems.proofs.RingStep.{Found, Core, from_node, next_live, node_in}
use Rattle.theorems.proofs.TidyInv.{weight}
use Rattle.theorems.proofs.Reading.{Some, Shrunk, shrunk_self, straight_kept, stub_area, read_list, list_length, read_ring}

pub record Got (pts : List Point64) (ow : ℕ → ℕ) (a : Arena) (rs : List (List ℕ)) (r : ℕ) (g : Arena × ℕ × List Point64) : Type 0 where
  pub rs' : List (List ℕ)
  pub some : Some pts ow g.0 rs'
  pub shrunk : Shrunk (weight pts) r rs rs'
  pub results : g.0.results ≡ a.results
  pub area : signed_area2 g.2 ≡ area_of (weight pts) (get_or rs r [])
  pub count : length g.2 ≤ length (get_or rs' r [])

module _ (pts : List Point64) (small : length pts ≤ none) (ow : ℕ → ℕ) where
  got_cond : (a : Arena) (rs : List (List ℕ)) (r : ℕ) (t : Bool) (x y : Arena × ℕ × List Point64) → (t ≡ true → Got pts ow a rs r x) → (t ≡ false → Got pts ow a rs r y) → Got pts ow a rs r (cond t x y)
  got_cond a rs r true x y h k = h refl
  got_cond a rs r false x y h k = k refl

  -- the area of the ring of a node of a ring of one or two
  stub_ring : (a : Arena) (rs : List (List ℕ)) (r i : ℕ) → Some pts ow a rs → In i (get_or rs r []) → is_stub a i ≡ true → area_of (weight pts) (get_or rs r []) ≡ pos 0
  stub_ring a rs r i S h e =
      let t = from_node (weight pts) (length pts) (next_of a) (prev_of a) ow rs S.rings r i h in
      sym t.1.area ∙ stub_area pts (next_of a) (prev_of a) i t.0 t.1.fine.ring t.1.fine.once (eqb-true (next_of a i) (prev_of a i) e)

  ring_read : (a : Arena) (rs : List (List ℕ)) (r i : ℕ) → Some pts ow a rs → In i (get_or rs r [])
      → signed_area2 (pt_of pts i ∷ points_from pts (length pts) a i (next_of a i)) ≡ area_of (weight pts) (get_or rs r [])
  ring_read a rs r i S h =
      let t = from_node (weight pts) (length pts) (next_of a) (prev_of a) ow rs S.rings r i h in
      read_ring pts a i t.0 t.1.fine.ring t.1.fine.once (all_map _ _ (i ∷ t.0) (λ j m. m.0) t.1.fine.own) ∙ t.1.area

  ring_count : (a : Arena) (rs : List (List ℕ)) (r i : ℕ) → Some pts ow a rs → In i (get_or rs r []) → length (pt_of pts i ∷ points_from pts (length pts) a i (next_of a i)) ≤ length (get_or rs r [])
  ring_count a rs r i S h =
      let t = from_node (weight pts) (length pts) (next_of a) (prev_of a) ow rs S.rings r i h in
      let e = ap length (read_list pts a i t.0 t.1.fine.ring t.1.fine.once (all_map _ _ (i ∷ t.0) (λ j m. m.0) t.1.fine.own)) in
      let l = list_length pts (i ∷ t.0) in
      let k = t.1.long in
      omega arith

  not_none : (a : Arena) (rs : List (List ℕ)) (r i : ℕ) → Some pts ow a rs → In i (get_or rs r []) → i ≡ none → ⊥
  not_none a rs r i S h e = let l = node_in (weight pts) (length pts) (next_of a) (prev_of a) ow rs S.rings r i h in omega arith

  clash : (b : Bool) → b ≡ true → b ≡ false → ⊥
  clash b p q = let z : ◌≡◌ {A = ℕ} 0 1 = cc in omega arith

  got_live : (a : Arena) (rs : List (List ℕ)) (r i : ℕ) → Some pts ow a rs → In i (get_or rs r []) → Got pts ow a rs r (get_path pts a i)
  unfolding get_path signed_area2
  got_live a rs r i S h =
      let K = straight_kept pts ow r (length pts * length pts) a rs i (next_of a i) S h (next_live (weight pts) (length pts) (next_of a) (prev_of a) ow rs S.rings r i h) in
      let s = straighten pts (length pts * length pts) a i (next_of a i) in
      got_cond a rs r (eqb i none) _ _ (λ e. absurd (not_none a rs r i S h (eqb-true i none e)))
      (λ e1. got_cond a rs r (is_stub a i) _ _ (λ e. record { rs' = rs; some = S; shrunk = shrunk_self (weight pts) r rs; results = refl; area = sym (stub_ring a rs r i S h e); count = omega arith })
      (λ e2. got_cond a rs r (eqb s.op2 none) _ _ (λ e. absurd (not_none s.arena K.rs' r s.op2 K.some K.in_op2 (eqb-true s.op2 none e)))
      (λ e3. got_cond a rs r (is_stub s.arena s.op2) _ _
      (λ e. record { rs' = K.rs'; some = K.some; shrunk = K.shrunk; results = K.results; area = sym (stub_ring s.arena K.rs' r s.op2 K.some K.in_op2 e) ∙ K.shrunk.area; count = omega arith })
      (λ e. record { rs' = K.rs'; some = K.some; shrunk = K.shrunk; results = K.results; area = ring_read s.arena K.rs' r s.op2 K.some K.in_op2 ∙ K.shrunk.area; count = ring_count s.arena K.rs' r s.op2 K.some K.in_op2 }))))

  got_none : (a : Arena) (rs : List (List ℕ)) (r i : ℕ) → Some pts ow a rs → get_or rs r [] ≡ [] → i ≡ none → Got pts ow a rs r (get_path pts a i)
  unfolding get_path signed_area2 area_of
  got_none a rs r i S e q =
      got_cond a rs r (eqb i none) _ _ (λ z. record { rs' = rs; some = S; shrunk = shrunk_self (weight pts) r rs; results = refl; area = sym (ap (area_of (weight pts)) e); count = omega arith })
      (λ z. absurd (clash (eqb i none) (eq-eqb i none q) z))

  got : (a : Arena) (rs : List (List ℕ)) (r i : ℕ) → Some pts ow a rs → (l : List ℕ) → get_or rs r [] ≡ l → Found i l → Got pts ow a rs r (get_path pts a i)
  got a rs r i S [] e f = got_none a rs r i S e f
  got a rs r i S (x ∷ l) e f = got_live a rs r i S (subst (In i) (sym e) f)

  -- ---- all rings from number k on
  unfoldable totals : ℕ → ℕ → List (List ℕ) → ℤ
  totals k zero rs = pos 0
  totals k (suc m) rs = area_of (weight pts) (get_or rs k []) +ℤ totals (suc k) m rs

  totals_same : (k m : ℕ) (rs rs' : List (List ℕ)) → ((s : ℕ) → k ≤ s → get_or rs' s [] ≡ get_or rs s []) → totals k m rs' ≡ totals k m rs
  unfolding totals
  totals_same k zero rs rs' h = refl
  totals_same k (suc m) rs rs' h =
      ap (λ (l : List ℕ). area_of (weight pts) l +ℤ totals (suc k) m rs') (h k (omega arith)) ∙ ap (λ (z : ℤ). area_of (weight pts) (get_or rs k []) +ℤ z) (totals_same (suc k) m rs rs' (λ s l. h s (omega arith)))

  totals_cons : (k m : ℕ) (x : List ℕ) (rs : List (List ℕ)) → totals (suc k) m (x ∷ rs) ≡ totals k m rs
  unfolding totals
  totals_cons k zero x rs = refl
  totals_cons k (suc m) x rs = ap (λ (z : ℤ). area_of (weight pts) (get_or rs k []) +ℤ z) (totals_cons (suc k) m x rs)

  totals_all : (rs : List (List ℕ)) → totals 0 (length rs) rs ≡ total (weight pts) rs
  unfolding totals total
  totals_all [] = refl
  totals_all (x ∷ rs) = ap (λ (z : ℤ). area_of (weight pts) x +ℤ z) (totals_cons 0 (length rs) x rs ∙ totals_all rs)

  add_path : (p : List Point64) (ps : List (List Point64)) → total_area2 (cond (is_nil p) ps (p ∷ ps)) ≡ signed_area2 p +ℤ total_area2 ps
  unfolding total_area2 signed_area2
  add_path [] ps = sym (+ℤ_idl (total_area2 ps))
  add_path (q ∷ p) ps = refl

  -- the results from number k on, m of them, are in their rings
  abbrev pub Ahead : ℕ → ℕ → Arena → List (List ℕ) → Type 0
  Ahead k m a rs = (s : ℕ) → k ≤ s → s < k + m → Found (result_of a s) (get_or rs s [])

  -- one path is read: the others' rings and results stay
  pub record Advanced (k m : ℕ) (a : Arena) (rs : List (List ℕ)) : Type 0 where
    pub path : Got pts ow a rs k (get_path pts a (result_of a k))
    pub some : let g = get_path pts a (result_of a k) in Some pts ow (set_result g.0 k g.1) path.rs'
    pub ahead : let g = get_path pts a (result_of a k) in Ahead (suc k) m (set_result g.0 k g.1) path.rs'

  pub advance : (k m : ℕ) (a : Arena) (rs : List (List ℕ)) → Some pts ow a rs → Ahead k (suc m) a rs → Advanced k m a rs
  unfolding set_results
  advance k m a rs S F =
      let G = got a rs k (result_of a k) S (get_or rs k []) refl (F k (omega arith) (omega arith)) in
      let g = get_path pts a (result_of a k) in
      record {
        path = G;
        some = record { rings = G.some.rings; nexts = G.some.nexts; prevs = G.some.prevs };
        ahead = λ s l u.
            let ne : s ≡ k → ⊥ = λ e. omega arith in
            subst₂ Found (sym (get_or-set_other g.0.results k s g.1 none ne ∙ ap (λ (z : List ℕ). get_or z s none) G.results)) (sym (G.shrunk.others s ne)) (F s (omega arith) (omega arith));
      }

  paths_area : (m k : ℕ) (a : Arena) (rs : List (List ℕ)) → Some pts ow a rs → Ahead k m a rs → total_area2 (get_paths pts a (upwards k m)) ≡ totals k m rs
  unfolding get_paths totals total_area2
  paths_area zero k a rs S F = refl
  paths_area (suc m) k a rs S F =
      let N = advance k m a rs S F in
      let g = get_path pts a (result_of a k) in
      let b = set_result g.0 k g.1 in
      add_path g.2 (get_paths pts b (upwards (suc k) m))
      ∙ ap (λ (z : ℤ). z +ℤ total_area2 (get_paths pts b (upwards (suc k) m))) N.path.area
      ∙ ap (λ (z : ℤ). area_of (weight pts) (get_or rs k []) +ℤ z) (paths_area m (suc k) b N.path.rs' N.some N.ahead ∙ totals_same (suc k) m rs N.path.rs' (λ s l. N.path.shrunk.others s (λ e. omega arith)))

-- an arena whose rings and results are known, with total area A
pub record Whole (pts : List Point64) (A : ℤ) (a : Arena) : Type 0 where
  pub rs : List (List ℕ)
  pub core : Core (weight pts) (length pts) (next_of a) (prev_of a) (owner_of a) (result_of a) rs A
  pub nexts : length a.next ≡ length pts
  pub prevs : length a.prev ≡ length pts
  pub results : length a.results ≡ length rs

pub whole_some : (pts : List Point64) (A : ℤ) (a : Arena) (W : Whole pts A a) → Some pts (owner_of a) a W.rs
whole_some pts A a W = record { rings = W.core.rings; nexts = W.nexts; prevs = W.prevs }

pub whole_ahead : (pts : List Point64) (small : length pts ≤ none) (A : ℤ) (a : Arena) (W : Whole pts A a) → Ahead pts small (owner_of a) 0 (length a.results) a W.rs
whole_ahead pts small A a W s l u = let e = W.results in W.core.found s (omega arith)

-- its paths' areas add up to A
pub read_whole : (pts : List Point64) → length pts ≤ none → (A : ℤ) (a : Arena) → Whole pts A a → total_area2 (get_paths pts a (upwards 0 (length a.results))) ≡ A
read_whole pts small A a W =
    paths_area pts small (owner_of a) (length a.results) 0 a W.rs (whole_some pts A a W) (whole_ahead pts small A a W)
    ∙ ap (λ (m : ℕ). totals pts small (owner_of a) 0 m W.rs) W.results ∙ totals_all pts small (owner_of a) W.rs ∙ W.core.area
