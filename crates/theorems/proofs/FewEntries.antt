-- An edge list has at most as many entries as the walk has put down points and as turns are taken: "Assign edges" enters a node at most once, and
-- a turn adds at most one entry.
use mathlib.Core.Path.{◌≡◌, refl, sym, ◌∙◌, ap, subst}
use mathlib.Core.Bool.{Bool, true, false, cond, not, ◌&&◌, beq}
use mathlib.Core.List.{List, [], ◌∷◌}
use Prim.Native.Nat.{ℕ, zero, suc, ◌+◌, ◌-◌, ◌*◌, ◌<◌, ◌≤◌}
use native.Mathlib.Omega.{arith}
use lib.ListN.{length, get_or, set, drop, length-set, length-append}
use lib.Seq.{get_or-set_same}
use lib.Dec.{eqb, ltb, leb, lit<}
use borrow.Author.Tests.{eqb-false, ne_eqb}
use Rattle.plane.specs.declared.point.Point64.{Point64}
use Rattle.plane.specs.declared.rect.Rect64.{Rect64}
use Rattle.plane.specs.Basics.{none, push}
use Rattle.plane.specs.Locations.{side}
use Rattle.plane.specs.Rectangle.{get_edges_for_pt, has_edge}
use Rattle.plane.specs.Signs.{is_heading_clockwise}
use Rattle.reference.specs.Arena.{Arena, pt_of, next_of, prev_of, owner_of, edge_of, edge_list, set_results, set_edge, set_edge_list, set_entry, add_to_edge, struck, uncouple_edge, assign_side, assign_sides, assign_edges}
use Rattle.reference.specs.Tidy.{Turn, turn, is_horz, cw_is_toward_larger, first_op, second_op, is_stub, is_spent, is_larger, four_of, overlap, seek, keep_one, keep_both, keep_each, settle, rejoin, one_turn, turns_from, tidy_edges}
use Rattle.theorems.proofs.Holds.{Holds, refused, held, either}
use Rattle.theorems.proofs.RingLists.{All}
use Rattle.theorems.proofs.TidyAll.{regroup_edges, joined_arena}
use Rattle.theorems.proofs.Ends.{assigned, assigned_links, assigned_next}

-- how many entries a list has
abbrev pub entries : Arena → ℕ → ℕ
entries a e = length (edge_list a e)

-- from a to b no list gets more than d entries
abbrev pub More : Arena → Arena → ℕ → Type 0
More a b d = (e : ℕ) → entries b e ≤ d + entries a e

put_more : (L : List (List ℕ)) (k : ℕ) (w : List ℕ) (d : ℕ) → length w ≤ d + length (get_or L k []) → (e : ℕ) → length (get_or (set L k w) e []) ≤ d + length (get_or L e [])
put_more [] k w d h e = omega arith
put_more (l ∷ L) zero w d h zero = h
put_more (l ∷ L) zero w d h (suc e) = omega arith
put_more (l ∷ L) (suc k) w d h zero = omega arith
put_more (l ∷ L) (suc k) w d h (suc e) = put_more L k w d h e

same_more : (a : Arena) (d : ℕ) → More a a d
same_more a d e = omega arith

more_more : (a b c : Arena) (d f : ℕ) → More a b d → More b c f → More a c (d + f)
more_more a b c d f h k e = let x = h e in let y = k e in omega arith

cond_more : (a : Arena) (d : ℕ) (t : Bool) (b c : Arena) → (t ≡ true → More a b d) → (t ≡ false → More a c d) → More a (cond t b c) d
cond_more a d true b c h k = h refl
cond_more a d false b c h k = k refl

list_more : (a : Arena) (k : ℕ) (w : List ℕ) (d : ℕ) → length w ≤ d + entries a k → More a (set_edge_list a k w) d
unfolding set_edge_list
list_more a k w d h = put_more a.edges k w d h

entry_more : (a : Arena) (k i v : ℕ) → More a (set_entry a k i v) 0
entry_more a k i v = list_more a k (set (edge_list a k) i v) 0 (let e = length-set (edge_list a k) i v in omega arith)

pub struck_length : (l : List ℕ) (op : ℕ) → length (struck l op) ≡ length l
unfolding struck
struck_length [] op = refl
struck_length (x ∷ l) op = go (eqb x op) (struck_length l op)
  where
    go : (b : Bool) → length (struck l op) ≡ length l → length (cond b (none ∷ l) (x ∷ struck l op)) ≡ suc (length l)
    go true e = refl
    go false e = ap suc e

uncouple_more : (a : Arena) (op : ℕ) → More a (uncouple_edge a op) 0
unfolding uncouple_edge set_edge
uncouple_more a op =
    cond_more a 0 (eqb (edge_of a op) none) a _ (λ _. same_more a 0) (λ _. list_more a (edge_of a op) (struck (edge_list a (edge_of a op)) op) 0 (let e = struck_length (edge_list a (edge_of a op)) op in omega arith))

add_more : (a : Arena) (k op : ℕ) → More a (add_to_edge a k op) 1
unfolding add_to_edge set_edge
add_more a k op =
    cond_more a 1 (not (eqb (edge_of a op) none)) a _ (λ _. same_more a 1)
    (λ _. list_more (set_edge a op k) k (push (edge_list a k) op) 1 (let e = length-append (edge_list a k) (op ∷ []) in omega arith))

-- ---- "Assign edges": one entry a pass
-- a node that is entered is not entered again
add_none : (a : Arena) (k op : ℕ) → (edge_of a op ≡ none → ⊥) → add_to_edge a k op ≡ a
unfolding add_to_edge
add_none a k op h = ap (λ (t : Bool). cond (not t) a (set_edge_list (set_edge a op k) k (push (edge_list a k) op))) (ne_eqb (edge_of a op) none h)

add_entered : (a : Arena) (k op : ℕ) → op < length a.edge → (k ≡ none → ⊥) → edge_of (add_to_edge a k op) op ≡ none → ⊥
unfolding add_to_edge set_edge set_edge_list
add_entered a k op l h = go (eqb (edge_of a op) none) refl
  where
    go : (b : Bool) → eqb (edge_of a op) none ≡ b → edge_of (cond (not b) a (set_edge_list (set_edge a op k) k (push (edge_list a k) op))) op ≡ none → ⊥
    go true e q = h (sym (get_or-set_same a.edge op k none l) ∙ q)
    go false e q = eqb-false (edge_of a op) none e q

cond_same : (t : Bool) (x y : Arena) → x ≡ y → cond t x y ≡ y
cond_same true x y e = e
cond_same false x y e = refl

module _ (pts : List Point64) where
  sides_none : (js : List ℕ) (a : Arena) (op s t : ℕ) → (edge_of a op ≡ none → ⊥) → assign_sides pts a op s t js ≡ a
  unfolding assign_side
  sides_none [] a op s t h = refl
  sides_none (j ∷ js) a op s t h =
      let e : assign_side pts a op s t j ≡ a = cond_same (has_edge j s && has_edge j t) _ a (add_none a _ op h) in
      ap (λ (b : Arena). assign_sides pts b op s t js) e ∙ sides_none js a op s t h

  list_number : (t : Bool) (j : ℕ) → j < 4 → cond t (2 * j) (2 * j + 1) ≡ none → ⊥
  list_number true j h e = omega arith
  list_number false j h e = omega arith

  sides_more : (js : List ℕ) → All (λ j. j < 4) js → (a : Arena) (op s t : ℕ) → op < length a.edge → More a (assign_sides pts a op s t js) 1
  unfolding assign_side
  sides_more [] h a op s t l = same_more a 1
  sides_more (j ∷ js) h a op s t l = go (has_edge j s && has_edge j t) (sides_more js h.1 a op s t l)
    where
      k : ℕ
      k = cond (is_heading_clockwise (pt_of pts (prev_of a op)) (pt_of pts op) (side j)) (2 * j) (2 * j + 1)

      go : (b : Bool) → More a (assign_sides pts a op s t js) 1 → More a (assign_sides pts (cond b (add_to_edge a k op) a) op s t js) 1
      go true r =
          subst (λ (b : Arena). More a b 1) (sym (sides_none js (add_to_edge a k op) op s t (add_entered a k op l (list_number (is_heading_clockwise (pt_of pts (prev_of a op)) (pt_of pts op) (side j)) j h.0)))) (add_more a k op)
      go false r = r

  -- nodes below n, whose links stay below n: each pass enters at most its own
  module _ (rect : Rect64) where
    pub assign_more : (left : ℕ) (a : Arena) (op x set : ℕ) (M : ℕ → Type 0) → ((i : ℕ) → M i → i < length a.edge) → ((i : ℕ) → M i → M (next_of a i)) → M x → More a (assign_edges pts left rect a op x set) left
    unfolding assign_edges
    assign_more zero a op x set M below on m = same_more a 0
    assign_more (suc left) a op x set M below on m =
        let b = assigned pts rect a x set in
        let k = assigned_links pts rect a x set in
        let q = assigned_next pts rect a x set in
        let h : More a b 1 = cond_more a 1 (not (eqb (get_edges_for_pt (pt_of pts x) rect) 0) && eqb (edge_of a x) none) _ a
        (λ _. sides_more (0 ∷ 1 ∷ 2 ∷ 3 ∷ []) (lit< tt, (lit< tt, (lit< tt, (lit< tt, tt)))) a x set (get_edges_for_pt (pt_of pts x) rect) (below x m)) (λ _. same_more a 1) in
        let r : More b (assign_edges pts left rect b op (next_of b x) (get_edges_for_pt (pt_of pts x) rect)) left =
        assign_more left b op (next_of b x) (get_edges_for_pt (pt_of pts x) rect) M (λ i z. subst (λ (l : ℕ). i < l) (sym k.fields) (below i z))
        (λ i z. subst M (sym (ap (λ (l : List ℕ). get_or l i none) k.next)) (on i z)) (subst M (sym q) (on x m)) in
        cond_more a (suc left) (eqb (next_of b x) op) b _ (λ _ e. let y = h e in omega arith) (λ _ e. let y = h e in let z = r e in omega arith)

  -- ---- a turn: at most one entry
  turn_cond : (a : Arena) (d : ℕ) (t : Bool) (x y : Turn) → More a x.arena d → More a y.arena d → More a (cond t x y).arena d
  turn_cond a d true x y h k = h
  turn_cond a d false x y h k = k

  one_more : (k : ℕ) (a : Arena) (i j op : ℕ) → More a (keep_one pts k a i j op).arena 1
  unfolding keep_one
  one_more k a i j op =
      turn_cond a 1 (beq (is_larger pts k a op) (cw_is_toward_larger k)) _ _
      (λ e. let x = entry_more a (k * 2) i op e in let y = entry_more (set_entry a (k * 2) i op) (k * 2 + 1) j none e in omega arith)
      (λ e. let x = entry_more a (k * 2 + 1) j op e in let y = entry_more (set_entry a (k * 2 + 1) j op) (k * 2) i none e in omega arith)

  both_more : (k : ℕ) (a : Arena) (i j op op2 : ℕ) → More a (keep_both pts k a i j op op2).arena 1
  unfolding keep_both
  both_more k a i j op op2 =
      turn_cond a 1 (beq (is_larger pts k a op) (cw_is_toward_larger k)) _ _
      (λ e.
      let b = set_entry a (k * 2) i op in
      let c = uncouple_edge b op2 in
      let x = entry_more a (k * 2) i op e in
      let y = uncouple_more b op2 e in
      let z = add_more c (k * 2) op2 e in
      let u = entry_more (add_to_edge c (k * 2) op2) (k * 2 + 1) j none e in
      omega arith)
      (λ e.
      let b = set_entry a (k * 2) i none in
      let c = set_entry b (k * 2 + 1) j op2 in
      let d = uncouple_edge c op in
      let x = entry_more a (k * 2) i none e in
      let y = entry_more b (k * 2 + 1) j op2 e in
      let z = uncouple_more c op e in
      let u = add_more d (k * 2 + 1) op e in
      omega arith)

  each_more : (k : ℕ) (a : Arena) (i j op op2 : ℕ) → More a (keep_each pts k a i j op op2).arena 1
  unfolding keep_each
  each_more k a i j op op2 =
      let t = beq (is_larger pts k a op) (cw_is_toward_larger k) in
      let u = beq (is_larger pts k a op2) (cw_is_toward_larger k) in
      let b = cond t (set_entry a (k * 2) i op) (set_entry a (k * 2 + 1) j op) in
      let c = cond u (set_entry b (k * 2) i op2) (set_entry b (k * 2 + 1) j op2) in
      let x : More a b 0 = cond_more a 0 t _ _ (λ _. entry_more a (k * 2) i op) (λ _. entry_more a (k * 2 + 1) j op) in
      let y : More b c 0 = cond_more b 0 u _ _ (λ _. entry_more b (k * 2) i op2) (λ _. entry_more b (k * 2 + 1) j op2) in
      λ e. let z = more_more a b c 0 0 x y e in omega arith

  settle_more : (k : ℕ) (a : Arena) (i j op op2 : ℕ) → More a (settle pts k a i j op op2).arena 1
  unfolding settle
  settle_more k a i j op op2 =
      turn_cond a 1 (is_spent pts k a op) _ _ (one_more k a i j op2)
      (turn_cond a 1 (is_spent pts k a op2) _ _ (one_more k a i j op)
      (turn_cond a 1 (beq (is_larger pts k a op) (is_larger pts k a op2)) _ _ (both_more k a i j op op2) (each_more k a i j op op2)))

  -- a turn adds at most one entry to any list
  pub turn_more : (k : ℕ) (a : Arena) (i j : ℕ) → More a (one_turn pts k a i j).arena 1
  unfolding one_turn rejoin set_results
  turn_more k a i j =
      let r1 = get_or (edge_list a (k * 2)) i none in
      let s = seek a j (drop j (edge_list a (k * 2 + 1))) in
      let r2 = get_or (edge_list a (k * 2 + 1)) s none in
      let d = cw_is_toward_larger k in
      let f = four_of d a r1 r2 in
      let t = not (eqb (owner_of a r1) (owner_of a r2)) in
      let c = joined_arena pts d (eqb (owner_of a r1) (owner_of a r2)) a r1 r2 in
      let E = regroup_edges pts d a f t in
      turn_cond a 1 (eqb r1 none) _ _ (same_more a 1)
      (turn_cond a 1 (is_stub a r1) _ _ (λ e. let x = entry_more a (k * 2) i none e in omega arith)
      (turn_cond a 1 (leb (length (edge_list a (k * 2 + 1))) s) _ _ (same_more a 1)
      (turn_cond a 1 (not (overlap pts (is_horz k) f)) _ _ (same_more a 1)
      (λ e.
      let x = settle_more k c i s (first_op d f) (second_op d f) e in
      let y = ap (λ (L : List (List ℕ)). length (get_or L e [])) E in
      omega arith))))

  -- m points and as many turns as are taken
  abbrev pub Within : ℕ → Arena × ℕ → Type 0
  Within m t = (e : ℕ) → entries t.0 e ≤ m + t.1

  turns_within : (m k left turns : ℕ) (t : Turn) → Within m (t.arena, turns) → Holds (Within m) (turns_from pts k left turns t)
  unfolding turns_from
  turns_within m k zero turns t h = either (Within m) (ltb t.i (length (edge_list t.arena (k * 2)))) _ _ (λ _. refused) (λ _. held h)
  turns_within m k (suc left) turns t h =
      either (Within m) (ltb t.i (length (edge_list t.arena (k * 2)))) _ _
      (λ _. turns_within m k left (turns + 1) (one_turn pts k t.arena t.i t.j) (λ e. let x = h e in let y = turn_more k t.arena t.i t.j e in omega arith)) (λ _. held h)

  pub tidy_within : (m k limit : ℕ) (s : Arena × ℕ) → Within m s → Holds (Within m) (tidy_edges pts k limit s)
  unfolding tidy_edges
  tidy_within m k limit s h = either (Within m) (eqb (length (edge_list s.0 (k * 2 + 1))) 0) _ _ (λ _. held h) (λ _. turns_within m k (limit - s.1) s.1 (turn s.0 0 0) h)
