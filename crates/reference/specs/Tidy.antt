-- `tidy_edges`, with its turns counted.
use Rattle.std.specs.Prelude.{Bool, not, ◌&&◌, ◌||◌, List, [], ◌∷◌, ℕ, zero, suc, ◌+◌, ◌-◌, ◌*◌, length, get_or, drop, eqb, ltb, leb, if◌then◌else◌}
use Rattle.std.specs.Bool.{beq}
use Rattle.std.specs.Int.Signed.{lt_z}
use Rattle.plane.specs.declared.point.Point64.{Point64}
use Rattle.plane.specs.Basics.{none, push, Try, refuse, ok}
use Rattle.plane.specs.Points.{same_point}
use Rattle.plane.specs.Signs.{has_horz_overlap, has_vert_overlap}
use Rattle.reference.specs.Arena.{Arena, pt_of, owner_of, next_of, prev_of, edge_list, set_next, set_prev, set_results, set_result, set_entry, add_to_edge, uncouple_edge, set_new_owner}
use Rattle.reference.specs.Counts.{ring_passes}

-- what a turn hands to the next
pub record Turn : Type 0 where
  pub arena : Arena
  pub i : ℕ
  pub j : ℕ

abbrev pub turn : Arena → ℕ → ℕ → Turn
turn a i j = record { arena = a; i = i; j = j }

-- the four nodes of a split or a rejoining
pub record Four : Type 0 where
  pub p1 : ℕ
  pub p1a : ℕ
  pub p2 : ℕ
  pub p2a : ℕ

-- a ring of one or two nodes: `next == prev`
abbrev pub is_stub : Arena → ℕ → Bool
is_stub a op = eqb (next_of a op) (prev_of a op)

-- the inner `while`: the first entry from position j on whose ring is no stub
unfoldable pub seek : Arena → ℕ → List ℕ → ℕ
seek a j [] = j
seek a j (x ∷ xs) =
    let rest = seek a (j + 1) xs in
    if not (eqb x none) && not (is_stub a x) then j else rest

-- ---- the side: `is_horz`, `cw_is_toward_larger`, and the numbers of its two lists
module _ (idx : ℕ) where
  abbrev pub is_horz : Bool
  is_horz = eqb idx 1 || eqb idx 3

  abbrev pub cw_is_toward_larger : Bool
  cw_is_toward_larger = eqb idx 1 || eqb idx 2

  abbrev pub cw_idx : ℕ
  cw_idx = idx * 2

  abbrev pub ccw_idx : ℕ
  ccw_idx = idx * 2 + 1

-- ---- what depends on the side's direction alone: whether clockwise is toward larger coordinates
module _ (toward_larger : Bool) where
  abbrev pub four_of : Arena → ℕ → ℕ → Four
  four_of a p1_root p2_root =
      if toward_larger then record { p1 = prev_of a p1_root; p1a = p1_root; p2 = p2_root; p2a = prev_of a p2_root }
      else record { p1 = p1_root; p1a = prev_of a p1_root; p2 = prev_of a p2_root; p2a = p2_root }

  -- "Do the split or re-join"
  unfoldable pub relink : Arena → Four → Arena
  relink a f =
      if toward_larger then set_next (set_prev (set_prev (set_next a f.p1 f.p2) f.p2 f.p1) f.p1a f.p2a) f.p2a f.p1a
      else set_prev (set_next (set_next (set_prev a f.p1 f.p2) f.p2 f.p1) f.p1a f.p2a) f.p2a f.p1a

  -- the rings split or rejoined, with their owners and results; an owner is set for at most `nodes` nodes
  unfoldable pub regroup : ℕ → Arena → Four → Bool → Arena
  regroup nodes a f is_rejoining =
      let rejoined = relink (set_new_owner nodes (set_result a (owner_of a f.p2) none) f.p2 (owner_of a f.p1)) f in
      let apart = relink a f in
      let split = set_new_owner nodes (set_results apart (push apart.results f.p1a)) f.p1a (length apart.results) in
      if is_rejoining then rejoined else split

  -- the two nodes whose links back are new: `op` and `op2`
  abbrev pub first_op : Four → ℕ
  first_op f = if toward_larger then f.p2 else f.p1

  abbrev pub second_op : Four → ℕ
  second_op f = if toward_larger then f.p1a else f.p2a

-- ---- what depends on the edge's axis alone
abbrev pub overlap : List Point64 → Bool → Four → Bool
overlap pts horz f =
    if horz then has_horz_overlap (pt_of pts f.p1) (pt_of pts f.p1a) (pt_of pts f.p2) (pt_of pts f.p2a)
    else has_vert_overlap (pt_of pts f.p1) (pt_of pts f.p1a) (pt_of pts f.p2) (pt_of pts f.p2a)

module _ (pts : List Point64) (idx : ℕ) where
  -- "Get ready for the next loop": the new entries at i and j
  abbrev pub is_larger : Arena → ℕ → Bool
  is_larger a op =
      if is_horz idx then lt_z (pt_of pts (prev_of a op)).x (pt_of pts op).x
      else lt_z (pt_of pts (prev_of a op)).y (pt_of pts op).y

  -- no length is left before op, or it is in a stub
  abbrev pub is_spent : Arena → ℕ → Bool
  is_spent a op = is_stub a op || same_point (pt_of pts op) (pt_of pts (prev_of a op))

  -- one of the two entries stays, for op; the other is struck out
  unfoldable pub keep_one : Arena → ℕ → ℕ → ℕ → Turn
  keep_one a i j op =
      if beq (is_larger a op) (cw_is_toward_larger idx) then turn (set_entry (set_entry a (cw_idx idx) i op) (ccw_idx idx) j none) i (j + 1)
      else turn (set_entry (set_entry a (ccw_idx idx) j op) (cw_idx idx) i none) (i + 1) j

  -- both op and op2 go one way
  unfoldable pub keep_both : Arena → ℕ → ℕ → ℕ → ℕ → Turn
  keep_both a i j op op2 =
      let cw_a = add_to_edge (uncouple_edge (set_entry a (cw_idx idx) i op) op2) (cw_idx idx) op2 in
      let ccw_a = add_to_edge (uncouple_edge (set_entry (set_entry a (cw_idx idx) i none) (ccw_idx idx) j op2) op) (ccw_idx idx) op in
      if beq (is_larger a op) (cw_is_toward_larger idx) then turn (set_entry cw_a (ccw_idx idx) j none) i (j + 1)
      else turn ccw_a (i + 1) 0

  -- one goes each way
  unfoldable pub keep_each : Arena → ℕ → ℕ → ℕ → ℕ → Turn
  keep_each a i j op op2 =
      let b = if beq (is_larger a op) (cw_is_toward_larger idx) then set_entry a (cw_idx idx) i op else set_entry a (ccw_idx idx) j op in
      let c = if beq (is_larger a op2) (cw_is_toward_larger idx) then set_entry b (cw_idx idx) i op2 else set_entry b (ccw_idx idx) j op2 in
      turn c i j

  unfoldable pub settle : Arena → ℕ → ℕ → ℕ → ℕ → Turn
  settle a i j op op2 =
      if is_spent a op then keep_one a i j op2
      else if is_spent a op2 then keep_one a i j op
      else if beq (is_larger a op) (is_larger a op2) then keep_both a i j op op2
      else keep_each a i j op op2

  -- "To get here we're either splitting or rejoining"
  unfoldable pub rejoin : Arena → ℕ → ℕ → ℕ → ℕ → Four → Turn
  rejoin a i j p1_root p2_root f =
      let b = regroup (cw_is_toward_larger idx) (ring_passes (length pts)) a f (not (eqb (owner_of a p1_root) (owner_of a p2_root))) in
      let op = first_op (cw_is_toward_larger idx) f in
      let op2 = second_op (cw_is_toward_larger idx) f in
      settle (set_result (set_result b (owner_of b op) op) (owner_of b op2) op2) i j op op2

  -- one turn: a pass of the outer `while`
  unfoldable pub one_turn : Arena → ℕ → ℕ → Turn
  one_turn a i j =
      let p1_root = get_or (edge_list a (cw_idx idx)) i none in
      let k = seek a j (drop j (edge_list a (ccw_idx idx))) in
      let p2_root = get_or (edge_list a (ccw_idx idx)) k none in
      let f = four_of (cw_is_toward_larger idx) a p1_root p2_root in
      let joined = rejoin a i k p1_root p2_root f in
      if eqb p1_root none then turn a (i + 1) 0
      else if is_stub a p1_root then turn (set_entry a (cw_idx idx) i none) (i + 1) 0
      else if leb (length (edge_list a (ccw_idx idx))) k then turn a (i + 1) 0
      else if not (overlap pts (is_horz idx) f) then turn a i (k + 1)
      else joined

  -- the `while`, with `left` turns allowed and `turns` taken: refusal 10 where one more is needed
  unfoldable pub turns_from : ℕ → ℕ → Turn → Try (Arena × ℕ)
  turns_from zero turns t = if ltb t.i (length (edge_list t.arena (cw_idx idx))) then refuse 10 else ok (t.arena, turns)
  turns_from (suc left) turns t =
      let more = turns_from left (turns + 1) (one_turn t.arena t.i t.j) in
      if ltb t.i (length (edge_list t.arena (cw_idx idx))) then more else ok (t.arena, turns)

  -- `tidy_edges` with the allowance A, `turns` of which are taken
  unfoldable pub tidy_edges : ℕ → Arena × ℕ → Try (Arena × ℕ)
  tidy_edges A s =
      let tidied = turns_from (A - s.1) s.1 (turn s.0 0 0) in
      if eqb (length (edge_list s.0 (ccw_idx idx))) 0 then ok s else tidied
