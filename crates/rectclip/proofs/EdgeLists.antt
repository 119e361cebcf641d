-- A node that enters an edge list over the work list, and "Assign edges" with it, are the definition's. Assumes nothing.
use Rattle.std.specs.Prelude.{Option, None, Some, if◌then◌else◌}
use Rattle.std.specs.Option.{is_some}
use mathlib.Core.Path.{◌≡◌, refl, sym, ◌∙◌, ap}
use mathlib.Core.Bool.{Bool, true, false}
use mathlib.Core.List.{List}
use Prim.Native.Nat.{ℕ, suc, ◌+◌, ◌*◌, ◌-◌, ◌<◌, ◌≤◌}
use native.Mathlib.Omega.{arith}
use native.Mathlib.Numerals.{add-one}
use borrow.Author.Tests.{eq-eqb, ne_eqb}
use Rattle.plane.specs.declared.point.Point64.{Point64}
use Rattle.plane.specs.declared.rect.Rect64.{Rect64}
use Rattle.plane.specs.declared.location.Location.{Location}
use Rattle.plane.specs.Basics.{none, push, upwards}
use Rattle.plane.specs.Locations.{side}
use Rattle.plane.specs.Signs.{is_heading_clockwise}
use Rattle.plane.specs.Rectangle.{get_edges_for_pt, has_edge}
use Rattle.reference.specs.Arena.{Arena, pt_of, next_of, prev_of, edge_of, edge_list, set_edge, set_edge_list, add_to_edge, assign_side, assign_sides, assign_edges}
use Rattle.rectclip.specs.declared.arena.Arena as lent
use Rattle.rectclip.specs.declared.side.EdgeList.{EdgeList}
use Rattle.rectclip.specs.Arenas.{list_mark, longer_list}
use Rattle.rectclip.specs.Changes.{arena_of, pts_of, Leaves, Grows, Enters}
use Rattle.rectclip.specs.Edges.{Entering, Assigning, assign_node}
use Rattle.rectclip.proofs.Spare.{spare_room, spare_entered, spare_slots}
use Rattle.rectclip.proofs.Changes.{nodes_many, list_long, becomes_left, becomes_entry, enters_same, enters_renamed, points_stay, then_becomes, then_enters}

-- ---- a node that is in a list, and one that is in none
some_edge : (v : Option EdgeList) → is_some v ≡ true → list_mark v ≡ none → ⊥
some_edge (Some l) t w = omega (arith, l.within, w)
some_edge None t w = cc

no_edge : (v : Option EdgeList) → is_some v ≡ false → list_mark v ≡ none
no_edge (Some l) t = cc
no_edge None t = refl

-- ---- add_to_edge
module _ {m : lent.Arena} {l : EdgeList} {op : ℕ} (x : Entering m l op) where
  abbrev e : ℕ
  e = l.idx

  pub entered_before : (v : Option EdgeList) → list_mark v ≡ edge_of (arena_of m) op → is_some v ≡ true → Enters m m (add_to_edge (arena_of m) e op)
  unfolding add_to_edge
  entered_before v h t = rw (ne_eqb (edge_of (arena_of m) op) none (λ w. some_edge v t (h ∙ w))) enters_same

  pub entered : (v : Option EdgeList) → list_mark v ≡ edge_of (arena_of m) op → is_some v ≡ false → {m₁ m₂ : lent.Arena} → Leaves m m₁ (set_edge (arena_of m) op e)
      → Grows m₁ m₂ (longer_list m₁.sizes e) (set_edge_list (arena_of m₁) e (push (edge_list (arena_of m₁) e) op)) → Enters m m₂ (add_to_edge (arena_of m) e op)
  unfolding add_to_edge set_edge
  entered v h t {m₁} k g =
      let f : edge_of (arena_of m) op ≡ none = sym h ∙ no_edge v t in
      rw (eq-eqb (edge_of (arena_of m) op) none f)
      (record {
        becomes = then_becomes (λ _ _ b. set_edge_list b e (push (edge_list b e) op)) (becomes_left k) (becomes_entry e (omega (arith, m₁.holds.eight, l.within)) g);
        spare = λ N n S. spare_entered S e op l.within (omega (arith, nodes_many m, x.op_in)) f;
      })

-- ---- assign_side
pub may_enter : {m : lent.Arena} {op : ℕ} → Assigning m op → (l : EdgeList) → Entering m l op
may_enter {m = m} {op = op} x l = record {
  op_in = x.op_in;
  room = λ q. omega (arith, spare_room x.spare l.idx op l.within (omega (arith, nodes_many m, x.op_in)) q, list_long m l.idx l.within);
}

module _ (pts : List Point64) (a : Arena) (op set1 set2 j : ℕ) where
  pub assign_none : has_edge j set1 ≡ false → a ≡ assign_side pts a op set1 set2 j
  unfolding assign_side
  assign_none h = rw h refl

  pub assign_one : has_edge j set1 ≡ true → has_edge j set2 ≡ false → a ≡ assign_side pts a op set1 set2 j
  unfolding assign_side
  assign_one h g = rw (h, g) refl

  pub assign_both : has_edge j set1 ≡ true → has_edge j set2 ≡ true → (prev : ℕ) (p q : Point64) (l : Location) (c : Bool) (e : ℕ) → prev ≡ prev_of a op → p ≡ pt_of pts prev → q ≡ pt_of pts op
      → l ≡ side j → c ≡ is_heading_clockwise p q l → e ≡ (if c then 2 * j else 2 * j + 1) → add_to_edge a e op ≡ assign_side pts a op set1 set2 j
  unfolding assign_side
  assign_both h g prev p q l c e e₀ e₁ e₂ e₃ e₄ e₅ =
      let w : is_heading_clockwise (pt_of pts (prev_of a op)) (pt_of pts op) (side j) ≡ c = (λ i. is_heading_clockwise (sym (e₁ ∙ ap (pt_of pts) e₀) i) (sym e₂ i) (sym e₃ i)) ∙ sym e₄ in
      rw (h, g, w) (ap (λ (x : ℕ). add_to_edge a x op) e₅)

-- ---- assign_node
pub assigning_on : {m m₁ : lent.Arena} {op : ℕ} {b : Arena} → Assigning m op → Enters m m₁ b → Assigning m₁ op
assigning_on {m} x k = record {
  spare = spare_slots k.becomes.slots (rw k.becomes.is (k.spare m.sizes.slots 0 x.spare));
  op_in = rw k.becomes.nodes x.op_in;
}

module _ {m : lent.Arena} {op : ℕ} (x : Assigning m op) (set1 set2 : ℕ) where
  pub node_off : set2 ≡ 0 → Enters m m (assign_node (pts_of m) (arena_of m) op set1 set2)
  unfolding assign_node
  node_off e = rw (eq-eqb set2 0 e) enters_same

  module _ (q : set2 ≡ 0 → ⊥) where
    pub node_before : (v : Option EdgeList) → list_mark v ≡ edge_of (arena_of m) op → is_some v ≡ true → Enters m m (assign_node (pts_of m) (arena_of m) op set1 set2)
    unfolding assign_node
    node_before v h t = rw (ne_eqb set2 0 q, ne_eqb (edge_of (arena_of m) op) none (λ w. some_edge v t (h ∙ w))) enters_same

    -- the sides in their order
    pub node_on : (v : Option EdgeList) → list_mark v ≡ edge_of (arena_of m) op → is_some v ≡ false → {m₁ : lent.Arena} → Enters m m₁ (assign_sides (pts_of m) (arena_of m) op set1 set2 (upwards 0 4)) → Enters m m₁ (assign_node (pts_of m) (arena_of m) op set1 set2)
    unfolding assign_node
    node_on v h t k = rw (ne_eqb set2 0 q, eq-eqb (edge_of (arena_of m) op) none (sym h ∙ no_edge v t)) k

-- at the head of the loop, at side j
pub record AssignedTo (op set1 set2 : ℕ) (m₀ m : lent.Arena) (j : ℕ) : Type 0 where
  pub goal : assign_sides (pts_of m₀) (arena_of m) op set1 set2 (upwards j (4 - j)) ≡ assign_sides (pts_of m₀) (arena_of m₀) op set1 set2 (upwards 0 4)
  pub so_far : Enters m₀ m (arena_of m)

module _ {op set1 set2 : ℕ} {m₀ m : lent.Arena} {j : ℕ} (I : AssignedTo op set1 set2 m₀ m j) where
  pub assigned_on : j < 4 → {m₁ : lent.Arena} → Enters m m₁ (assign_side (pts_of m) (arena_of m) op set1 set2 j) → AssignedTo op set1 set2 m₀ m₁ (j + 1)
  assigned_on h k =
      let one : 4 - j ≡ suc (4 - (j + 1)) = omega arith in
      let e = ap (λ (t : List Point64). assign_side t (arena_of m) op set1 set2 j) (points_stay I.so_far.becomes) in
      record {
        goal = rw (add-one j) (ap (λ a. assign_sides (pts_of m₀) a op set1 set2 (upwards (suc j) (4 - suc j))) (k.becomes.is ∙ e)) ∙ rw one at I.goal;
        so_far = enters_renamed (then_enters (λ t _ a. assign_side t a op set1 set2 j) I.so_far k) (sym (k.becomes.is ∙ e));
      }

  pub assigned_all : 4 ≤ j → Enters m₀ m (assign_sides (pts_of m₀) (arena_of m₀) op set1 set2 (upwards 0 4))
  assigned_all h =
      let z : 4 - j ≡ 0 = omega arith in
      enters_renamed I.so_far (rw z at I.goal)

-- ---- assign_edges
module _ (pts : List Point64) (rect : Rect64) where
  abbrev passed : Arena → ℕ → ℕ → Arena
  passed a x set = assign_node pts a x set (get_edges_for_pt (pt_of pts x) rect)

  assign_stops : (left : ℕ) (a : Arena) (op x set : ℕ) → next_of (passed a x set) x ≡ op → passed a x set ≡ assign_edges pts (suc left) rect a op x set
  unfolding assign_edges assign_node
  assign_stops left a op x set e = rw (eq-eqb (next_of (passed a x set) x) op e) refl

  assign_goes_on : (left : ℕ) (a : Arena) (op x set : ℕ) → (next_of (passed a x set) x ≡ op → ⊥)
      → assign_edges pts left rect (passed a x set) op (next_of (passed a x set) x) (get_edges_for_pt (pt_of pts x) rect) ≡ assign_edges pts (suc left) rect a op x set
  unfolding assign_edges assign_node
  assign_goes_on left a op x set q = rw (ne_eqb (next_of (passed a x set) x) op q) refl

-- at the head of the loop, at node x
pub record Assigned (rect : Rect64) (op first : ℕ) (m₀ m : lent.Arena) (x set left : ℕ) : Type 0 where
  pub goal : assign_edges (pts_of m₀) left rect (arena_of m) op x set ≡ assign_edges (pts_of m₀) m₀.sizes.nodes rect (arena_of m₀) op op first
  pub so_far : Enters m₀ m (arena_of m)
  pub here : x < m.sizes.nodes

module _ {rect : Rect64} {op first : ℕ} {m₀ m : lent.Arena} {x set left : ℕ} (I : Assigned rect op first m₀ m x set left) where
  pub assigned_may : {o : ℕ} → Assigning m₀ o → Assigning m x
  assigned_may {o} y = record { spare = spare_slots I.so_far.becomes.slots (I.so_far.spare m₀.sizes.slots 0 y.spare); op_in = I.here }

  module _ (z : 0 < left) (p : Point64) (ep : p ≡ pt_of (pts_of m) x) (set2 : ℕ) (e : set2 ≡ get_edges_for_pt p rect) {m' : lent.Arena}
      (k : Enters m m' (assign_node (pts_of m) (arena_of m) x set set2)) where
    sides : set2 ≡ get_edges_for_pt (pt_of (pts_of m₀) x) rect
    sides = e ∙ ap (λ (q : Point64). get_edges_for_pt q rect) (ep ∙ ap (λ (t : List Point64). pt_of t x) (points_stay I.so_far.becomes))

    is_passed : arena_of m' ≡ passed (pts_of m₀) rect (arena_of m) x set
    is_passed = k.becomes.is ∙ (λ i. assign_node (points_stay I.so_far.becomes i) (arena_of m) x set (sides i))

    on : Enters m₀ m' (arena_of m')
    on = enters_renamed (then_enters (λ t _ a. assign_node t a x set set2) I.so_far k) (sym (k.becomes.is ∙ ap (λ (t : List Point64). assign_node t (arena_of m) x set set2) (points_stay I.so_far.becomes)))

    one : left ≡ suc (left - 1)
    one = omega arith

    module _ (y : ℕ) (g : y ≡ next_of (arena_of m') x) where
      pub assigned_again : y < m'.sizes.nodes → (y ≡ op → ⊥) → {left' : ℕ} → left ≡ suc left' → Assigned rect op first m₀ m' y set2 left'
      assigned_again h q {left'} s = record {
        goal = (λ i. assign_edges (pts_of m₀) left' rect (is_passed i) op ((g ∙ ap (λ a. next_of a x) is_passed) i) (sides i))
            ∙ assign_goes_on (pts_of m₀) rect left' (arena_of m) op x set (λ w. q (g ∙ ap (λ a. next_of a x) is_passed ∙ w)) ∙ rw s at I.goal;
        so_far = on;
        here = h;
      }

      pub assigned_stop : y ≡ op → Enters m₀ m' (assign_edges (pts_of m₀) m₀.sizes.nodes rect (arena_of m₀) op op first)
      assigned_stop q =
          enters_renamed on (is_passed ∙ assign_stops (pts_of m₀) rect (left - 1) (arena_of m) op x set (sym (g ∙ ap (λ a. next_of a x) is_passed) ∙ q) ∙ rw one at I.goal)

  pub assigned_out : left ≡ 0 → Enters m₀ m (assign_edges (pts_of m₀) m₀.sizes.nodes rect (arena_of m₀) op op first)
  unfolding assign_edges
  assigned_out z = enters_renamed I.so_far (rw z at I.goal)
