-- "Assign edges" of `check_edges`: what enters a list of side k is a node that lies on the line of side k, and so does the node before.
use mathlib.Core.Path.{◌≡◌, refl, sym, ◌∙◌, ap, subst, subst₂}
use mathlib.Core.Bool.{Bool, true, false, cond, not, ◌&&◌, ◌||◌}
use mathlib.Core.List.{List, [], ◌∷◌}
use mathlib.Core.Logic.{⊎_elim, inl, inr}
use Prim.Native.Nat.{ℕ, zero, suc, ◌+◌, ◌*◌, ◌<◌, ◌≤◌}
use lib.ListN.{length, set, length-set, get_or-eq_default}
use lib.Seq.{get_or-set_same, get_or-set_other}
use lib.Dec.{eqb, lit<}
use lib.IntN.{ℤ}
use native.Mathlib.Omega.{arith}
use native.Mathlib.Decide.{ℕ_discrete}
use borrow.Author.Tests.{eqb-true}
use Rattle.integers.specs.Tests.{eq_z, eqZ_true}
use Rattle.plane.specs.declared.point.Point64.{Point64}
use Rattle.plane.specs.declared.rect.Rect64.{Rect64}
use Rattle.plane.specs.Basics.{none, push}
use Rattle.plane.specs.Locations.{side}
use Rattle.plane.specs.Rectangle.{get_edges_for_pt, has_edge}
use Rattle.plane.specs.Signs.{is_heading_clockwise}
use Rattle.reference.specs.Arena.{Arena, pt_of, next_of, prev_of, edge_of, edge_list, set_edge, set_edge_list, add_to_edge, assign_side, assign_sides, assign_edges}
use Rattle.theorems.proofs.RingLists.{All, In, in_append}
use Rattle.theorems.proofs.TidyLinks.{level, coord, at}
use Rattle.theorems.proofs.TidyInv.{Of}
use Rattle.theorems.proofs.TidyTurn.{of_same, in_set_list}
use Rattle.theorems.proofs.Tests.{both, not-true}

-- where side k lies
abbrev pub line_at : Rect64 → ℕ → ℤ
line_at r zero = r.left
line_at r (suc zero) = r.top
line_at r (suc (suc zero)) = r.right
line_at r (suc (suc (suc k))) = r.bottom

-- ---- the bits of `get_edges_for_pt`
-- the test that side j stands for, of the four: left, top, right, bottom
abbrev test_of : ℕ → Bool → Bool → Bool → Bool → Bool
test_of zero l t r b = l
test_of (suc zero) l t r b = t
test_of (suc (suc zero)) l t r b = r
test_of (suc (suc (suc j))) l t r b = b

abbrev every : (Bool → Bool) → Bool
every f = f true && f false

every_at : (f : Bool → Bool) → every f ≡ true → (b : Bool) → f b ≡ true
every_at f e true = (both (f true) (f false) e).0
every_at f e false = (both (f true) (f false) e).1

-- bit j is set only where the test of side j holds: all sixteen cases, computed
abbrev told : ℕ → Bool → Bool → Bool → Bool → Bool
told j l t r b = not (has_edge j (cond l 1 (cond r 4 0) + cond t 2 (cond b 8 0))) || test_of j l t r b

all_told : (j : ℕ) → j < 4 → every (λ l. every (λ t. every (λ r. every (told j l t r)))) ≡ true
all_told zero h = refl
all_told (suc zero) h = refl
all_told (suc (suc zero)) h = refl
all_told (suc (suc (suc zero))) h = refl
all_told (suc (suc (suc (suc j)))) h = absurd (omega arith)

says : (x y : Bool) → not x || y ≡ true → x ≡ true → y ≡ true
says true y e h = e
says false y e h = let z : ◌≡◌ {A = ℕ} 0 1 = cc in absurd (omega arith)

-- a point with bit j lies on the line of side j
on_side : (rect : Rect64) (p : Point64) (j : ℕ) → j < 4 → has_edge j (get_edges_for_pt p rect) ≡ true → coord (level j) p ≡ line_at rect j
on_side rect p j h e =
    let l = eq_z p.x rect.left in
    let t = eq_z p.y rect.top in
    let r = eq_z p.x rect.right in
    let b = eq_z p.y rect.bottom in
    lies j h
    (says (has_edge j (get_edges_for_pt p rect)) (test_of j l t r b)
    (every_at (told j l t r) (every_at (λ r. every (told j l t r)) (every_at (λ t. every (λ r. every (told j l t r))) (every_at (λ l. every (λ t. every (λ r. every (told j l t r)))) (all_told j h) l) t) r) b) e)
  where
    lies : (j : ℕ) → j < 4 → test_of j (eq_z p.x rect.left) (eq_z p.y rect.top) (eq_z p.x rect.right) (eq_z p.y rect.bottom) ≡ true → coord (level j) p ≡ line_at rect j
    lies zero h e = eqZ_true {a = p.x} {b = rect.left} e
    lies (suc zero) h e = eqZ_true {a = p.y} {b = rect.top} e
    lies (suc (suc zero)) h e = eqZ_true {a = p.x} {b = rect.right} e
    lies (suc (suc (suc zero))) h e = eqZ_true {a = p.y} {b = rect.bottom} e
    lies (suc (suc (suc (suc j)))) h e = absurd (omega arith)

-- ---- entries: O k i, and the node's own field says the side
pub record Asg (O : ℕ → ℕ → Type 0) (n : ℕ) (a b : Arena) : Type 0 where
  pub next : b.next ≡ a.next
  pub prev : b.prev ≡ a.prev
  pub owner : b.owner ≡ a.owner
  pub results : b.results ≡ a.results
  pub fields : length b.edge ≡ n
  pub eight : length b.edges ≡ 8
  pub lists : (k e i : ℕ) → Of k e → In i (edge_list b e) → (i ≡ none → ⊥) → O k i × Of k (edge_of b i)

-- no list has the number of a side that none stands for
far : (k e : ℕ) → Of k none → Of k e → 8 ≤ e
far k e (inl p) (inl q) = omega arith
far k e (inl p) (inr q) = omega arith
far k e (inr p) (inl q) = omega arith
far k e (inr p) (inr q) = omega arith

module _ (O : ℕ → ℕ → Type 0) (n : ℕ) (a : Arena) where
  asg_cond : (t : Bool) (b c : Arena) → (t ≡ true → Asg O n a b) → (t ≡ false → Asg O n a c) → Asg O n a (cond t b c)
  asg_cond true b c h k = h refl
  asg_cond false b c h k = k refl

  asg_new : (b : Arena) (k e op : ℕ) → Asg O n a b → Of k e → O k op → op < n → edge_of b op ≡ none → Asg O n a (set_edge_list (set_edge b op e) e (push (edge_list b e) op))
  unfolding set_edge_list set_edge
  asg_new b k e op F o h l z =
      let old : (j e' i : ℕ) → Of j e' → In i (edge_list b e') → (i ≡ none → ⊥) → O j i × Of j (at (set b.edge op e) i) = λ j e' i oj m nn.
      let q = F.lists j e' i oj m nn in (
        q.0,
        elim (ℕ_discrete i op) [
          | yes w ↦ (let g = far j e' (subst (Of j) (ap (edge_of b) w ∙ z) q.1) oj in
              absurd (subst (In i) (get_or-eq_default b.edges [] {n = e'} (let c = F.eight in omega arith)) m))
          | no w ↦ subst (Of j) (sym (get_or-set_other b.edge op i e none w)) q.1
        ],
      ) in
      record {
        next = F.next;
        prev = F.prev;
        owner = F.owner;
        results = F.results;
        fields = length-set b.edge op e ∙ F.fields;
        eight = length-set b.edges e (push (edge_list b e) op) ∙ F.eight;
        lists = λ j e' i oj m nn. ⊎_elim
            (λ w.
            let oe : Of j e = subst (Of j) w.0 oj in
            ⊎_elim (λ q. old j e i oe q nn)
            (λ q. ⊎_elim
            (λ r. (subst₂ (λ (x y : ℕ). O x y) (of_same k j e o oe) r h, subst (Of j) (sym (ap (at (set b.edge op e)) (sym r) ∙ get_or-set_same b.edge op e none (subst (λ (x : ℕ). op < x) (sym F.fields) l))) oe))
            (λ r. absurd r) q)
            (in_append i (edge_list b e) (op ∷ []) w.1))
            (λ w. old j e' i oj w nn)
            (in_set_list b.edges e e' i (push (edge_list b e) op) m);
      }

  asg_add : (b : Arena) (k e op : ℕ) → Asg O n a b → Of k e → O k op → op < n → Asg O n a (add_to_edge b e op)
  unfolding add_to_edge
  asg_add b k e op F o h l = asg_cond (not (eqb (edge_of b op) none)) b _ (λ q. F) (λ q. asg_new b k e op F o h l (eqb-true (edge_of b op) none (not-true (eqb (edge_of b op) none) q)))

  of_cond : (t : Bool) (j : ℕ) → Of j (cond t (2 * j) (2 * j + 1))
  of_cond true j = inl (omega arith)
  of_cond false j = inr (omega arith)

  -- side j
  asg_side : (pts : List Point64) (b : Arena) (op s t j : ℕ) → Asg O n a b → op < n → (has_edge j s ≡ true → has_edge j t ≡ true → O j op) → Asg O n a (assign_side pts b op s t j)
  unfolding assign_side
  asg_side pts b op s t j F l h =
      asg_cond (has_edge j s && has_edge j t) _ b
      (λ e. let q = both (has_edge j s) (has_edge j t) e in asg_add b j _ op F (of_cond (is_heading_clockwise (pt_of pts (prev_of b op)) (pt_of pts op) (side j)) j) (h q.0 q.1) l)
      (λ e. F)

  -- the nodes that are passed: closed under next
  module _ (pts : List Point64) (rect : Rect64) (M : ℕ → Type 0) (inside : (i : ℕ) → M i → i < n) (onward : (i : ℕ) → M i → M (next_of a i)) (back : (i : ℕ) → M i → prev_of a (next_of a i) ≡ i)
      (make : (k i : ℕ) → M i → coord (level k) (pt_of pts i) ≡ line_at rect k → coord (level k) (pt_of pts (prev_of a i)) ≡ line_at rect k → O k i) where
    asg_sides : (js : List ℕ) → All (λ j. j < 4) js → (b : Arena) (op s : ℕ) → Asg O n a b → M op → s ≡ get_edges_for_pt (pt_of pts (prev_of a op)) rect
        → Asg O n a (assign_sides pts b op s (get_edges_for_pt (pt_of pts op) rect) js)
    asg_sides [] h b op s F m e = F
    asg_sides (j ∷ js) h b op s F m e =
        asg_sides js h.1 _ op s
        (asg_side pts b op s (get_edges_for_pt (pt_of pts op) rect) j F (inside op m)
        (λ x y. make j op m (on_side rect (pt_of pts op) j h.0 y) (on_side rect (pt_of pts (prev_of a op)) j h.0 (subst (λ (z : ℕ). has_edge j z ≡ true) e x))))
        m e

    pub asg_edges : (left : ℕ) (b : Arena) (op op2 s : ℕ) → Asg O n a b → M op2 → s ≡ get_edges_for_pt (pt_of pts (prev_of a op2)) rect → Asg O n a (assign_edges pts left rect b op op2 s)
    unfolding assign_edges
    asg_edges zero b op op2 s F m e = F
    asg_edges (suc left) b op op2 s F m e =
        let t = get_edges_for_pt (pt_of pts op2) rect in
        let c = cond (not (eqb t 0) && eqb (edge_of b op2) none) (assign_sides pts b op2 s t (0 ∷ 1 ∷ 2 ∷ 3 ∷ [])) b in
        let G : Asg O n a c = asg_cond (not (eqb t 0) && eqb (edge_of b op2) none) _ b (λ q. asg_sides (0 ∷ 1 ∷ 2 ∷ 3 ∷ []) (lit< tt, (lit< tt, (lit< tt, (lit< tt, tt)))) b op2 s F m e) (λ q. F) in
        let to : next_of c op2 ≡ next_of a op2 = ap (λ (l : List ℕ). at l op2) G.next in
        asg_cond (eqb (next_of c op2) op) c _ (λ q. G)
        (λ q. asg_edges left c op (next_of c op2) t G (subst M (sym to) (onward op2 m))
        (ap (λ (i : ℕ). get_edges_for_pt (pt_of pts i) rect) (sym (ap (prev_of a) to ∙ back op2 m))))
