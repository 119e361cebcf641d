-- The counted loops over the arena have all ended when a call of `execute` goes on from them: their counts never run out.
-- Statements only, loop by loop along the definition. The loops of the walk are in Bounds and CornerLoops, those of `point_in_polygon` in Bounds.
use Rattle.std.specs.Prelude.{◌≡◌, Bool, true, false, not, ◌||◌, ◌⊎◌, List, [], ◌∷◌, ℕ, zero, suc, ◌-◌, length, get_or, drop, T, eqb, ltb, leb, ℤ, if◌then◌else◌}
use Rattle.plane.specs.declared.point.Point64.{Point64}
use Rattle.plane.specs.declared.rect.Rect64.{Rect64}
use Rattle.plane.specs.Basics.{none, push, upwards, ok, ◌>>=◌}
use Rattle.plane.specs.Rectangle.{is_empty}
use Rattle.reference.specs.Walk.{Walked, walk_closed}
use Rattle.reference.specs.Arena.{Arena, next_of, owner_of, result_of, edge_list, set_results, set_result, Round, drop_collinear, check_ring, check_edges}
use Rattle.reference.specs.Tidy.{Four, Turn, turn, is_horz, cw_is_toward_larger, cw_idx, ccw_idx, is_stub, seek, four_of, overlap, relink, one_turn, tidy_edges}
use Rattle.reference.specs.Clip.{arena_of, straighten, get_path}
use Rattle.theorems.specs.Demand.{Bounded}
use Rattle.plane.specs.Points.{points_of}
use Rattle.plane.specs.Limit.{rect_in_limit, all_in_limit}
use Rattle.reference.specs.Counts.{drop_passes, straighten_passes}

-- ---- when a loop has ended
-- from x, at most n steps along the links come to op: the loops that go round a ring end at op, and change no `next`
abbrev pub Comes : (ℕ → ℕ) → ℕ → ℕ → ℕ → Type 0
Comes next op zero x = x ≡ op
Comes next op (suc n) x = (x ≡ op) ⊎ Comes next op n (next x)

-- the two loops that drop collinear nodes end where no node is left or op2 is op
abbrev pub Ended : Round → Type 0
Ended s = (eqb s.op2 none || eqb s.op2 s.op) ≡ true

-- ---- `set_new_owner`
abbrev pub OwnerEnds : ℕ → Arena → ℕ → Type 0
OwnerEnds nodes a op = Comes (next_of a) op nodes (next_of a op)

-- ---- `check_edges`
module _ (pts : List Point64) (rect : Rect64) where
  pub record RingChecked (a : Arena) (r : ℕ) : Type 0 where
    pub dropped : Ended (drop_collinear pts (drop_passes (length pts)) a (result_of a r) (result_of a r))
    -- the first pass is at op itself
    pub assigned : let s = drop_collinear pts (drop_passes (length pts)) a (result_of a r) (result_of a r) in eqb s.op2 none ≡ false → Comes (next_of s.arena) s.op (length pts - 1) (next_of s.arena s.op)

  abbrev pub CheckEnds : Arena → List ℕ → Type 0
  CheckEnds a [] = Unit {0}
  CheckEnds a (r ∷ rs) = (eqb (result_of a r) none ≡ false → RingChecked a r) × CheckEnds (if eqb (result_of a r) none then a else check_ring pts rect a r) rs

-- ---- `tidy_edges`
-- both branches of `regroup`
pub record RegroupEnds (toward_larger : Bool) (nodes : ℕ) (a : Arena) (f : Four) (is_rejoining : Bool) : Type 0 where
  pub rejoined : is_rejoining ≡ true → OwnerEnds nodes (set_result a (owner_of a f.p2) none) f.p2
  pub split : is_rejoining ≡ false → let apart = relink toward_larger a f in OwnerEnds nodes (set_results apart (push apart.results f.p1a)) f.p1a

module _ (pts : List Point64) (idx : ℕ) where
  -- a turn that comes to its split or rejoining
  abbrev pub TurnEnds : Arena → ℕ → ℕ → Type 0
  TurnEnds a i j =
      let p1_root = get_or (edge_list a (cw_idx idx)) i none in
      let k = seek a j (drop j (edge_list a (ccw_idx idx))) in
      let p2_root = get_or (edge_list a (ccw_idx idx)) k none in
      let f = four_of (cw_is_toward_larger idx) a p1_root p2_root in
      eqb p1_root none ≡ false → is_stub a p1_root ≡ false → leb (length (edge_list a (ccw_idx idx))) k ≡ false → overlap pts (is_horz idx) f ≡ true
      → RegroupEnds (cw_is_toward_larger idx) (length pts) a f (not (eqb (owner_of a p1_root) (owner_of a p2_root)))

  -- all turns that are taken
  abbrev pub TurnsEnd : ℕ → Turn → Type 0
  TurnsEnd zero t = Unit {0}
  TurnsEnd (suc left) t = ltb t.i (length (edge_list t.arena (cw_idx idx))) ≡ true → TurnEnds t.arena t.i t.j × TurnsEnd left (one_turn pts idx t.arena t.i t.j)

  abbrev pub TidyEnds : ℕ → Arena × ℕ → Type 0
  TidyEnds A s = eqb (length (edge_list s.0 (ccw_idx idx))) 0 ≡ false → TurnsEnd (A - s.1) (turn s.0 0 0)

-- ---- `get_path`
module _ (pts : List Point64) where
  pub record PathEnds (a : Arena) (op_start : ℕ) : Type 0 where
    pub straightened : Ended (straighten pts (straighten_passes (length pts)) a op_start (next_of a op_start))
    pub read : let s = straighten pts (straighten_passes (length pts)) a op_start (next_of a op_start) in eqb s.op2 none ≡ false → Comes (next_of s.arena) s.op2 (length pts) (next_of s.arena s.op2)

  abbrev pub PathsEnd : Arena → List ℕ → Type 0
  PathsEnd a [] = Unit {0}
  PathsEnd a (r ∷ rs) = let g = get_path pts a (result_of a r) in (eqb (result_of a r) none ≡ false → PathEnds a (result_of a r)) × PathsEnd (set_result g.0 r g.1) rs

-- ---- `execute` behind the walk
module _ (A : ℕ) (rect : Rect64) (w : Walked) where
  abbrev pts : List Point64
  pts = w.walk.points

  abbrev checked : Arena × ℕ
  checked = (check_edges pts rect (arena_of w), 0)

  pub record ClipEnds : Type 0 where
    pub check : CheckEnds pts rect (arena_of w) (upwards 0 (length (arena_of w).results))
    pub left : TidyEnds pts 0 A checked
    pub top : (s : Arena × ℕ) → tidy_edges pts 0 A checked ≡ ok s → TidyEnds pts 1 A s
    pub right : (s : Arena × ℕ) → (tidy_edges pts 0 A checked >>= tidy_edges pts 1 A) ≡ ok s → TidyEnds pts 2 A s
    pub bottom : (s : Arena × ℕ) → (tidy_edges pts 0 A checked >>= tidy_edges pts 1 A >>= tidy_edges pts 2 A) ≡ ok s → TidyEnds pts 3 A s
    pub paths : (s : Arena × ℕ) → (tidy_edges pts 0 A checked >>= tidy_edges pts 1 A >>= tidy_edges pts 2 A >>= tidy_edges pts 3 A) ≡ ok s
        → PathsEnd pts s.0 (upwards 0 (length s.0.results))

-- in every call within the coordinate limit whose store is bounded; proved in proofs/ClipEnds.antt
abbrev pub CountsNeverRunOut : Type 0
CountsNeverRunOut = (full : ℕ → Bool) (A : ℕ) (rect : Rect64) (coords : List ℤ) (w : Walked) → Bounded full → T (rect_in_limit rect) → T (all_in_limit coords) → is_empty rect ≡ false
    → walk_closed full rect (points_of coords) ≡ ok w → ClipEnds A rect w
