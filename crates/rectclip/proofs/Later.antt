-- The paths may be read out once all rings are straightened: rings share no node, so straightening one leaves the others as they are.
-- What the definition reads ring by ring is what is read at the end. Assumes nothing.
use mathlib.Core.Path.{◌≡◌, refl, sym, ◌∙◌, ap, subst}
use mathlib.Core.Bool.{Bool, true, false, cond}
use mathlib.Core.List.{List, [], ◌∷◌, map}
use mathlib.Core.Logic.{◌⊎◌, inl, inr, ⊎_elim}
use Prim.Native.Nat.{ℕ, zero, suc, ◌+◌, ◌*◌, ◌<◌, ◌≤◌}
use native.Mathlib.Omega.{arith}
use native.Mathlib.Decide.{ℕ_discrete}
use lib.ListN.{length, get_or, length-set}
use lib.Seq.{get_or-set_same, get_or-set_other}
use lib.Dec.{eqb}
use borrow.Author.Tests.{eq-eqb, ne_eqb, eqb-true}
use Rattle.plane.specs.declared.point.Point64.{Point64}
use Rattle.plane.specs.Basics.{none, upwards}
use Rattle.reference.specs.Arena.{Arena, pt_of, next_of, prev_of, result_of, set_result, set_results}
use Rattle.reference.specs.Tidy.{is_stub}
use Rattle.reference.specs.Clip.{straighten, points_from, get_path, get_paths}
use Rattle.rectclip.specs.Paths.{straighten_result, straighten_results, nodes_from, nodes_of, nodes_read}
use Rattle.theorems.proofs.RingLaw.{Chain, end}
use Rattle.theorems.proofs.RingLists.{RingOf, In}
use Rattle.theorems.proofs.RingStep.{Found, node_in, next_live}
use Rattle.theorems.proofs.TidyInv.{weight}
use Rattle.theorems.proofs.Reading.{Some, straight_kept}

-- ---- points and nodes
points_nodes : (pts : List Point64) (left : ℕ) (a : Arena) (start curr : ℕ) → points_from pts left a start curr ≡ map (pt_of pts) (nodes_from left a start curr)
unfolding points_from nodes_from
points_nodes pts zero a start curr = refl
points_nodes pts (suc left) a start curr =
    elim (ℕ_discrete curr start) [
      | yes e ↦ rw (eq-eqb curr start e) refl
      | no q ↦ rw (ne_eqb curr start q) (ap (λ (l : List Point64). pt_of pts curr ∷ l) (points_nodes pts left a start (next_of a curr)))
    ]

-- ---- one list of nodes is a ring in two arenas: each node has the same next in both
chain_next : (nx pv nx' pv' : ℕ → ℕ) (a i : ℕ) (xs : List ℕ) → Chain nx pv a xs → Chain nx' pv' a xs → nx (end a xs) ≡ nx' (end a xs) → In i (a ∷ xs) → nx i ≡ nx' i
chain_next nx pv nx' pv' a i [] c d e h = ⊎_elim (λ w. ap nx (sym w) ∙ e ∙ ap nx' w) (λ w. absurd w) h
chain_next nx pv nx' pv' a i (x ∷ xs) c d e h =
    ⊎_elim (λ w. ap nx (sym w) ∙ c.0.fore ∙ sym d.0.fore ∙ ap nx' w) (λ w. chain_next nx pv nx' pv' x i xs c.1 d.1 e w) h

ring_next : (nx pv nx' pv' : ℕ → ℕ) (i : ℕ) (l : List ℕ) → RingOf nx pv l → RingOf nx' pv' l → In i l → nx i ≡ nx' i
ring_next nx pv nx' pv' i [] r s h = absurd h
ring_next nx pv nx' pv' i (a ∷ xs) r s h = chain_next nx pv nx' pv' a i xs r.chain s.chain (r.closes.fore ∙ sym s.closes.fore) h

nodes_same : (left : ℕ) (a z : Arena) (start curr : ℕ) (P : ℕ → Type 0) → P curr → ((i : ℕ) → P i → P (next_of a i)) → ((i : ℕ) → P i → next_of a i ≡ next_of z i)
    → nodes_from left a start curr ≡ nodes_from left z start curr
unfolding nodes_from
nodes_same zero a z start curr P p live same = refl
nodes_same (suc left) a z start curr P p live same =
    elim (ℕ_discrete curr start) [
      | yes e ↦ rw (eq-eqb curr start e) refl
      | no q ↦
          rw (ne_eqb curr start q)
          (ap (λ (l : List ℕ). curr ∷ l) (nodes_same left a z start (next_of a curr) P (live curr p) live same ∙ ap (nodes_from left z start) (same curr p)))
    ]

-- ---- one result: nothing, or the path of a node of the ring
module _ (pts : List Point64) (small : length pts ≤ none) (ow : ℕ → ℕ) where
  pub record Gives (a : Arena) (rs : List (List ℕ)) (r : ℕ) (g : Arena × ℕ × List Point64) : Type 0 where
    pub rs' : List (List ℕ)
    pub some : Some pts ow g.0 rs'
    pub others : (s : ℕ) → (s ≡ r → ⊥) → get_or rs' s [] ≡ get_or rs s []
    pub results : g.0.results ≡ a.results
    pub path : ((g.1 ≡ none) × (g.2 ≡ [])) ⊎ (In g.1 (get_or rs' r []) × (g.2 ≡ pt_of pts g.1 ∷ points_from pts (length pts) g.0 g.1 (next_of g.0 g.1)))

  gives_cond : (a : Arena) (rs : List (List ℕ)) (r : ℕ) (t : Bool) (x y : Arena × ℕ × List Point64) → (t ≡ true → Gives a rs r x) → (t ≡ false → Gives a rs r y) → Gives a rs r (cond t x y)
  gives_cond a rs r true x y h k = h refl
  gives_cond a rs r false x y h k = k refl

  not_none : (a : Arena) (rs : List (List ℕ)) (r i : ℕ) → Some pts ow a rs → In i (get_or rs r []) → i ≡ none → ⊥
  not_none a rs r i S h e = let l = node_in (weight pts) (length pts) (next_of a) (prev_of a) ow rs S.rings r i h in omega arith

  nothing : (a : Arena) (rs : List (List ℕ)) (r : ℕ) → Some pts ow a rs → Gives a rs r (a, none, [])
  nothing a rs r S = record { rs' = rs; some = S; others = λ s q. refl; results = refl; path = inl (refl, refl) }

  gives_live : (a : Arena) (rs : List (List ℕ)) (r i : ℕ) → Some pts ow a rs → In i (get_or rs r []) → Gives a rs r (get_path pts a i)
  unfolding get_path
  gives_live a rs r i S h =
      let K = straight_kept pts ow r (length pts * length pts) a rs i (next_of a i) S h (next_live (weight pts) (length pts) (next_of a) (prev_of a) ow rs S.rings r i h) in
      let s = straighten pts (length pts * length pts) a i (next_of a i) in
      let emptied : Gives a rs r (s.arena, none, []) = record { rs' = K.rs'; some = K.some; others = K.shrunk.others; results = K.results; path = inl (refl, refl) } in
      gives_cond a rs r (eqb i none) _ _ (λ e. absurd (not_none a rs r i S h (eqb-true i none e)))
      (λ e. gives_cond a rs r (is_stub a i) _ _ (λ e. nothing a rs r S)
      (λ e. gives_cond a rs r (eqb s.op2 none) _ _ (λ e. emptied)
      (λ e. gives_cond a rs r (is_stub s.arena s.op2) _ _ (λ e. emptied)
      (λ e. record { rs' = K.rs'; some = K.some; others = K.shrunk.others; results = K.results; path = inr (K.in_op2, refl) }))))

  gives_none : (a : Arena) (rs : List (List ℕ)) (r i : ℕ) → Some pts ow a rs → i ≡ none → Gives a rs r (get_path pts a i)
  unfolding get_path
  gives_none a rs r i S q = rw (eq-eqb i none q) (nothing a rs r S)

  gives : (a : Arena) (rs : List (List ℕ)) (r i : ℕ) → Some pts ow a rs → (l : List ℕ) → get_or rs r [] ≡ l → Found i l → Gives a rs r (get_path pts a i)
  gives a rs r i S [] e f = gives_none a rs r i S f
  gives a rs r i S (x ∷ l) e f = gives_live a rs r i S (subst (In i) (sym e) f)

  -- ---- results from k on: the arena z afterwards keeps the rings and results before k
  pub record Keeps (k : ℕ) (a : Arena) (rs : List (List ℕ)) (z : Arena) : Type 0 where
    pub rs' : List (List ℕ)
    pub some : Some pts ow z rs'
    pub rings : (s : ℕ) → s < k → get_or rs' s [] ≡ get_or rs s []
    pub results : (s : ℕ) → s < k → result_of z s ≡ result_of a s

  -- the path of result k, read before and after
  same_path : (k : ℕ) (b : Arena) (rs : List (List ℕ)) (z : Arena) (rs' : List (List ℕ)) → Some pts ow b rs → Some pts ow z rs' → get_or rs' k [] ≡ get_or rs k [] → (i : ℕ) → In i (get_or rs k [])
      → pt_of pts i ∷ points_from pts (length pts) b i (next_of b i) ≡ map (pt_of pts) (nodes_of (length pts) z i)
  unfolding nodes_of
  same_path k b rs z rs' S T e i h =
      let l = get_or rs k [] in
      let same : (j : ℕ) → In j l → next_of b j ≡ next_of z j = λ j m.
      ring_next (next_of b) (prev_of b) (next_of z) (prev_of z) j l (S.rings k).ring (subst (λ x. RingOf (next_of z) (prev_of z) x) e (T.rings k).ring) m in
      let live : (j : ℕ) → In j l → In (next_of b j) l = λ j m. next_live (weight pts) (length pts) (next_of b) (prev_of b) ow rs S.rings k j m in
      ap (λ (p : List Point64). pt_of pts i ∷ p)
      (points_nodes pts (length pts) b i (next_of b i)
      ∙ ap (map (pt_of pts)) (nodes_same (length pts) b z i (next_of b i) (λ j. In j l) (live i h) live same ∙ ap (nodes_from (length pts) z i) (same i h)))

  pub record Later (k m : ℕ) (a : Arena) (rs : List (List ℕ)) : Type 0 where
    pub keeps : Keeps k a rs (straighten_results pts a (upwards k m))
    pub paths : get_paths pts a (upwards k m) ≡ map (map (pt_of pts)) (nodes_read (length pts) (straighten_results pts a (upwards k m)) (upwards k m))

  later : (m k : ℕ) (a : Arena) (rs : List (List ℕ)) → Some pts ow a rs → k + m ≤ length a.results → ((s : ℕ) → k ≤ s → s < k + m → Found (result_of a s) (get_or rs s [])) → Later k m a rs
  unfolding get_paths straighten_results straighten_result nodes_read set_results
  later zero k a rs S l F = record { keeps = record { rs' = rs; some = S; rings = λ s h. refl; results = λ s h. refl }; paths = refl }
  later (suc m) k a rs S l F =
      let G = gives a rs k (result_of a k) S (get_or rs k []) refl (F k (omega arith) (omega arith)) in
      let g = get_path pts a (result_of a k) in
      let b = set_result g.0 k g.1 in
      let T : Some pts ow b G.rs' = record { rings = G.some.rings; nexts = G.some.nexts; prevs = G.some.prevs } in
      let other : (s : ℕ) → (s ≡ k → ⊥) → result_of b s ≡ result_of a s = λ s q. get_or-set_other g.0.results k s g.1 none q ∙ ap (λ (z : List ℕ). get_or z s none) G.results in
      let F' : (s : ℕ) → suc k ≤ s → s < suc k + m → Found (result_of b s) (get_or G.rs' s []) = λ s p q.
      let ne : s ≡ k → ⊥ = λ e. omega arith in
      subst (λ x. Found x (get_or G.rs' s [])) (sym (other s ne)) (subst (Found (result_of a s)) (sym (G.others s ne)) (F s (omega arith) (omega arith))) in
      let L = later m (suc k) b G.rs' T (omega (arith, length-set g.0.results k g.1, ap length G.results)) F' in
      let z = straighten_results pts b (upwards (suc k) m) in
      let start : result_of z k ≡ g.1 = L.keeps.results k (omega arith) ∙ get_or-set_same g.0.results k g.1 none (omega (arith, ap length G.results)) in
      let rest = nodes_read (length pts) z (upwards (suc k) m) in
      record {
        keeps = record {
          rs' = L.keeps.rs';
          some = L.keeps.some;
          rings = λ s h. L.keeps.rings s (omega arith) ∙ G.others s (λ e. omega arith);
          results = λ s h. L.keeps.results s (omega arith) ∙ other s (λ e. omega arith);
        };
        paths = ⊎_elim
            (λ w. rw (w.1, eq-eqb (result_of z k) none (start ∙ w.0)) L.paths)
            (λ w.
            let path = same_path k g.0 G.rs' z L.keeps.rs' G.some L.keeps.some (L.keeps.rings k (omega arith)) g.1 w.0 in
            let ne : result_of z k ≡ none → ⊥ = λ e. not_none b G.rs' k g.1 T w.0 (sym start ∙ e) in
            rw (w.1, ne_eqb (result_of z k) none ne, start) (λ j. path j ∷ L.paths j))
            G.path;
      }

  -- all results: what the definition returns is read from the straightened arena
  pub read_later : (a : Arena) (rs : List (List ℕ)) → Some pts ow a rs → ((s : ℕ) → s < length a.results → Found (result_of a s) (get_or rs s []))
      → get_paths pts a (upwards 0 (length a.results))
      ≡ map (map (pt_of pts)) (nodes_read (length pts) (straighten_results pts a (upwards 0 (length a.results))) (upwards 0 (length a.results)))
  read_later a rs S F = (later (length a.results) 0 a rs S (omega arith) (λ s h l. F s (omega arith))).paths
