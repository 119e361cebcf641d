-- `RectClip64`'s arena, results and edge lists, and what `check_edges` does to them.
use Rattle.std.specs.Prelude.{Bool, not, ◌&&◌, ◌||◌, List, [], ◌∷◌, ℕ, zero, suc, ◌+◌, ◌-◌, ◌*◌, length, get_or, set, replicate, eqb, if◌then◌else◌}
use Rattle.plane.specs.declared.point.Point64.{Point64}
use Rattle.plane.specs.declared.rect.Rect64.{Rect64}
use Rattle.plane.specs.Basics.{none, push, upwards}
use Rattle.plane.specs.Points.{pt_at}
use Rattle.plane.specs.Locations.{side}
use Rattle.plane.specs.Signs.{is_collinear, is_heading_clockwise}
use Rattle.plane.specs.Rectangle.{get_edges_for_pt, has_edge}
use Rattle.reference.specs.Counts.{drop_passes, ring_passes}

-- Entry i of the first four lists is the node i: `arena[i].owner_idx`, `.edge_idx`, `.next`, `.prev`. `none` stands for `None`.
-- The nodes' points, `arena[i].pt`, do not change after the walk: they are the parameter `pts`.
pub record Arena : Type 0 where
  pub owner : List ℕ
  pub edge : List ℕ
  pub next : List ℕ
  pub prev : List ℕ
  pub results : List ℕ
  pub edges : List (List ℕ)

-- ---- reading
-- `arena[i].pt`; no index is out of range, and there this is the first point
abbrev pub pt_of : List Point64 → ℕ → Point64
pt_of pts i = get_or pts i (pt_at pts 0)

abbrev pub owner_of : Arena → ℕ → ℕ
owner_of a i = get_or a.owner i none

abbrev pub edge_of : Arena → ℕ → ℕ
edge_of a i = get_or a.edge i none

abbrev pub next_of : Arena → ℕ → ℕ
next_of a i = get_or a.next i none

abbrev pub prev_of : Arena → ℕ → ℕ
prev_of a i = get_or a.prev i none

abbrev pub result_of : Arena → ℕ → ℕ
result_of a r = get_or a.results r none

abbrev pub edge_list : Arena → ℕ → List ℕ
edge_list a e = get_or a.edges e []

-- ---- writing
unfoldable pub set_owner : Arena → ℕ → ℕ → Arena
set_owner a i v = record { owner = set a.owner i v; edge = a.edge; next = a.next; prev = a.prev; results = a.results; edges = a.edges }

unfoldable pub set_edge : Arena → ℕ → ℕ → Arena
set_edge a i v = record { owner = a.owner; edge = set a.edge i v; next = a.next; prev = a.prev; results = a.results; edges = a.edges }

unfoldable pub set_next : Arena → ℕ → ℕ → Arena
set_next a i v = record { owner = a.owner; edge = a.edge; next = set a.next i v; prev = a.prev; results = a.results; edges = a.edges }

unfoldable pub set_prev : Arena → ℕ → ℕ → Arena
set_prev a i v = record { owner = a.owner; edge = a.edge; next = a.next; prev = set a.prev i v; results = a.results; edges = a.edges }

unfoldable pub set_results : Arena → List ℕ → Arena
set_results a v = record { owner = a.owner; edge = a.edge; next = a.next; prev = a.prev; results = v; edges = a.edges }

unfoldable pub set_edge_list : Arena → ℕ → List ℕ → Arena
set_edge_list a e v = record { owner = a.owner; edge = a.edge; next = a.next; prev = a.prev; results = a.results; edges = set a.edges e v }

abbrev pub set_result : Arena → ℕ → ℕ → Arena
set_result a r v = set_results a (set a.results r v)

abbrev pub set_entry : Arena → ℕ → ℕ → ℕ → Arena
set_entry a e i v = set_edge_list a e (set (edge_list a e) i v)

-- ---- the arena that `add` has made of n walked points: one ring of them in order, whose result is the last
unfoldable pub ring : ℕ → Arena
ring n =
    let linked : Arena = record {
      owner = replicate n 0;
      edge = replicate n none;
      next = push (upwards 1 (n - 1)) 0;
      prev = (n - 1) ∷ upwards 0 (n - 1);
      results = (n - 1) ∷ [];
      edges = replicate 8 [];
    } in
    let empty : Arena = record { owner = []; edge = []; next = []; prev = []; results = []; edges = replicate 8 [] } in
    if eqb n 0 then empty else linked

-- ---- `unlink_op` and `unlink_op_back`: the arena afterwards, and the next or the previous node, `none` if the node was alone
unfoldable pub unlink : Arena → ℕ → Arena
unlink a op = if eqb (next_of a op) op then a else set_prev (set_next a (prev_of a op) (next_of a op)) (next_of a op) (prev_of a op)

abbrev pub unlink_op : Arena → ℕ → ℕ
unlink_op a op = if eqb (next_of a op) op then none else next_of a op

abbrev pub unlink_op_back : Arena → ℕ → ℕ
unlink_op_back a op = if eqb (next_of a op) op then none else prev_of a op

-- ---- `add_to_edge`, `uncouple_edge`, `set_new_owner`
unfoldable pub add_to_edge : Arena → ℕ → ℕ → Arena
add_to_edge a edge_idx op =
    if not (eqb (edge_of a op) none) then a
    else set_edge_list (set_edge a op edge_idx) edge_idx (push (edge_list a edge_idx) op)

-- the first entry that is op, struck out
unfoldable pub struck : List ℕ → ℕ → List ℕ
struck [] op = []
struck (x ∷ xs) op =
    let rest = x ∷ struck xs op in
    if eqb x op then none ∷ xs else rest

unfoldable pub uncouple_edge : Arena → ℕ → Arena
uncouple_edge a op =
    let e = edge_of a op in
    if eqb e none then a else set_edge (set_edge_list a e (struck (edge_list a e) op)) op none

-- the `while op2 != op`; at most `left` passes
unfoldable pub own_from : ℕ → Arena → ℕ → ℕ → ℕ → Arena
own_from zero a op op2 new_idx = a
own_from (suc left) a op op2 new_idx =
    let rest = own_from left (set_owner a op2 new_idx) op (next_of a op2) new_idx in
    if eqb op2 op then a else rest

unfoldable pub set_new_owner : ℕ → Arena → ℕ → ℕ → Arena
set_new_owner nodes a op new_idx = own_from nodes (set_owner a op new_idx) op (next_of a op) new_idx

-- ---- `check_edges`
-- the arena and the two nodes of a loop that goes round a ring
pub record Round : Type 0 where
  pub arena : Arena
  pub op : ℕ
  pub op2 : ℕ

module _ (pts : List Point64) where
  abbrev pub is_flat : Arena → ℕ → Bool
  is_flat a i = is_collinear (pt_of pts (prev_of a i)) (pt_of pts i) (pt_of pts (next_of a i))

  -- one pass of "Remove collinear points"
  unfoldable pub drop_collinear_pass : Arena → ℕ → ℕ → Round
  drop_collinear_pass a op op2 =
      let b = unlink a op2 in
      let back = unlink_op_back a op2 in
      let dropped : Round = record { arena = b; op = if eqb op2 op && not (eqb back none) then prev_of b back else op; op2 = back } in
      let kept : Round = record { arena = a; op = op; op2 = next_of a op2 } in
      if is_flat a op2 then dropped else kept

  -- the `loop`; at most `left` passes. It goes round once, and a node that is dropped takes no more than its own pass
  unfoldable pub drop_collinear : ℕ → Arena → ℕ → ℕ → Round
  drop_collinear zero a op op2 = record { arena = a; op = op; op2 = op2 }
  drop_collinear (suc left) a op op2 =
      let s = drop_collinear_pass a op op2 in
      let rest = drop_collinear left s.arena s.op s.op2 in
      if eqb s.op2 none || eqb s.op2 s.op then s else rest

  -- `for j in 0..4`: op enters the list of the first side that it and the point before share
  unfoldable pub assign_side : Arena → ℕ → ℕ → ℕ → ℕ → Arena
  assign_side a op2 edge_set1 edge_set2 j =
      let clockwise = is_heading_clockwise (pt_of pts (prev_of a op2)) (pt_of pts op2) (side j) in
      if has_edge j edge_set1 && has_edge j edge_set2 then add_to_edge a (if clockwise then 2 * j else 2 * j + 1) op2 else a

  abbrev pub assign_sides : Arena → ℕ → ℕ → ℕ → List ℕ → Arena
  assign_sides a op2 edge_set1 edge_set2 [] = a
  assign_sides a op2 edge_set1 edge_set2 (j ∷ js) = assign_sides (assign_side a op2 edge_set1 edge_set2 j) op2 edge_set1 edge_set2 js

  -- the `loop` of "Assign edges"; at most `left` passes
  unfoldable pub assign_edges : ℕ → Rect64 → Arena → ℕ → ℕ → ℕ → Arena
  assign_edges zero rect a op op2 edge_set1 = a
  assign_edges (suc left) rect a op op2 edge_set1 =
      let edge_set2 = get_edges_for_pt (pt_of pts op2) rect in
      let assigned = assign_sides a op2 edge_set1 edge_set2 (0 ∷ 1 ∷ 2 ∷ 3 ∷ []) in
      let b = if not (eqb edge_set2 0) && eqb (edge_of a op2) none then assigned else a in
      let rest = assign_edges left rect b op (next_of b op2) edge_set2 in
      if eqb (next_of b op2) op then b else rest

  -- the ring of result r, one that is not `none`
  unfoldable pub check_ring : Rect64 → Arena → ℕ → Arena
  check_ring rect a r =
      let s = drop_collinear (drop_passes (length pts)) a (result_of a r) (result_of a r) in
      let b = set_result s.arena r s.op in
      let assigned = assign_edges (ring_passes (length pts)) rect b s.op s.op (get_edges_for_pt (pt_of pts (prev_of b s.op)) rect) in
      if eqb s.op2 none then set_result s.arena r none else assigned

  -- `for i in 0..self.results.len()`
  unfoldable pub check_from : Rect64 → Arena → List ℕ → Arena
  check_from rect a [] = a
  check_from rect a (r ∷ rs) = check_from rect (if eqb (result_of a r) none then a else check_ring rect a r) rs

  unfoldable pub check_edges : Rect64 → Arena → Arena
  check_edges rect a = check_from rect a (upwards 0 (length a.results))
