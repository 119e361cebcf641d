-- What the functions of `tidy_edges` ask and leave, in the definition's words.
use Rattle.std.specs.Prelude.{◌≡◌, Bool, true, not, ◌&&◌, Result, Ok, Err, IfOk, List, ℕ, suc, ◌+◌, ◌*◌, ◌-◌, ◌<◌, ◌≤◌, length, get_or, drop, eqb, if◌then◌else◌}
use Rattle.plane.specs.declared.point.Point64.{Point64}
use Rattle.plane.specs.Basics.{none, push, Try, refuse, ok, ◌>>=◌}
use Rattle.reference.specs.Arena.{Arena, owner_of, edge_list, set_entry, set_result, set_results, set_new_owner}
use Rattle.reference.specs.Tidy.{is_stub, seek, turn, turns_from, tidy_edges}
use Rattle.reference.specs.Tidy as reference
use Rattle.entry.specs.Answers.{number}
use Rattle.entry.specs.declared.answer.Refusal.{Refusal}
use Rattle.rectclip.specs.declared.arena.Arena as lent
use Rattle.rectclip.specs.declared.regroup.Four.{Four}
use Rattle.rectclip.specs.declared.settle.Turn.{Turn}
use Rattle.rectclip.specs.declared.side.Side.{Side}
use Rattle.rectclip.specs.declared.idle.Progress.{Progress}
use Rattle.rectclip.specs.Arenas.{Space, Spare}
use Rattle.rectclip.specs.Changes.{arena_of, pts_of, Becomes}

-- an entry that `seek` stops at
abbrev pub is_live : Arena → ℕ → Bool
is_live a x = not (eqb x none) && not (is_stub a x)

-- the first position from j on whose entry is one, or the list's length and more
pub record Sought (a : Arena) (e j r : ℕ) : Type 0 where
  pub is : r ≡ seek a j (drop j (edge_list a e))
  pub live : r < length (edge_list a e) → is_live a (get_or (edge_list a e) r none) ≡ true

-- the four nodes as the definition has them
abbrev pub four : Four → reference.Four
four f = record { p1 = f.p1; p1a = f.p1a; p2 = f.p2; p2a = f.p2a }

pub record FourIn (n : ℕ) (f : Four) : Type 0 where
  pub p1_in : f.p1 < n
  pub p1a_in : f.p1a < n
  pub p2_in : f.p2 < n
  pub p2a_in : f.p2a < n

pub record Fourth (n : ℕ) (side : Side) (f : Four) (b : reference.Four) : Type 0 where
  pub side_is : f.side.idx ≡ side.idx
  pub is : four f ≡ b
  pub within : FourIn n f

-- `regroup`'s two ways: the ring of p2 becomes a part of that of p1, or that of p1a is cut off
unfoldable pub joined : ℕ → ℕ → Arena → reference.Four → Arena
joined idx n a f = reference.relink (reference.cw_is_toward_larger idx) (set_new_owner n (set_result a (owner_of a f.p2) none) f.p2 (owner_of a f.p1)) f

unfoldable pub split : ℕ → ℕ → Arena → reference.Four → Arena
split idx n a f =
    let apart = reference.relink (reference.cw_is_toward_larger idx) a f in
    set_new_owner n (set_results apart (push apart.results f.p1a)) f.p1a (length apart.results)

-- the results of the two rings are op and op2
unfoldable pub set_roots : Arena → ℕ → ℕ → Arena
set_roots a op op2 = set_result (set_result a (owner_of a op) op) (owner_of a op2) op2

-- there are entries at a turn's place in the two lists of its side
pub record Entries (m : lent.Arena) (at : Turn) : Type 0 where
  pub i_in : at.i < get_or m.sizes.lens (at.side.idx * 2) 0
  pub j_in : at.j < get_or m.sizes.lens (at.side.idx * 2 + 1) 0

-- one of them set to v
unfoldable pub put_entry : ℕ → Arena → ℕ → ℕ → ℕ → Bool → Arena
put_entry idx a i j v clockwise = if clockwise then set_entry a (idx * 2) i v else set_entry a (idx * 2 + 1) j v

-- the entries at a turn's place may be settled for the nodes op and op2, and one entry more put into a list
pub record Settling (m : lent.Arena) (at : Turn) (op op2 : ℕ) : Type 0 where
  pub entries : Entries m at
  pub op_in : op < m.sizes.nodes
  pub op2_in : op2 < m.sizes.nodes
  pub room : (e : ℕ) → e < 8 → get_or m.sizes.lens e 0 < m.sizes.slots

-- what a turn hands to the next is of the same side, and what the definition's b has
pub record Turned (x y : lent.Arena) (at next : Turn) (b : reference.Turn) : Type 0 where
  pub becomes : Becomes x y b.arena
  pub side : next.side.idx ≡ at.side.idx
  pub i : next.i ≡ b.i
  pub j : next.j ≡ b.j

-- the same with the room that is left: at most one entry more is in a list
pub record Settled (x y : lent.Arena) (at next : Turn) (b : reference.Turn) : Type 0 where
  pub turned : Turned x y at next b
  pub space : (N p k : ℕ) → Space N p (suc k) (arena_of x) → Space N p k b.arena

-- a whole turn: at most one result more, and one entry
pub record Whole (x y : lent.Arena) (at next : Turn) (b : reference.Turn) : Type 0 where
  pub turned : Turned x y at next b
  pub space : (N k : ℕ) → Spare N (suc k) (arena_of x) → Spare N k b.arena

-- a node that enters a list, out of another
pub record Moves (x y : lent.Arena) (b : Arena) : Type 0 where
  pub becomes : Becomes x y b
  pub space : (N p k : ℕ) → Space N p (suc k) (arena_of x) → Space N p k b

-- rings that are split or joined: at most one result more
pub record Groups (x y : lent.Arena) (b : Arena) : Type 0 where
  pub becomes : Becomes x y b
  pub space : (N p k : ℕ) → Space N (suc p) k (arena_of x) → Space N p k b

unfoldable pub regrouped : ℕ → ℕ → Arena → reference.Four → Bool → Arena
regrouped idx n a f is_rejoining = if is_rejoining then joined idx n a f else split idx n a f

-- the rings of the two entries at a turn's place may be split or rejoined at f
pub record Rejoining (m : lent.Arena) (at : Turn) (root1 root2 : ℕ) (f : Four) : Type 0 where
  pub spare : Spare m.sizes.slots 1 (arena_of m)
  pub entries : Entries m at
  pub side : f.side.idx ≡ at.side.idx
  pub root1_in : root1 < m.sizes.nodes
  pub root2_in : root2 < m.sizes.nodes
  pub four_in : FourIn m.sizes.nodes f

-- the idle turns at a clockwise entry may be taken: it is live
pub record Idling (m : lent.Arena) (at : Turn) : Type 0 where
  pub i_in : at.i < get_or m.sizes.lens (at.side.idx * 2) 0
  pub live : is_live (arena_of m) (get_or (edge_list (arena_of m) (at.side.idx * 2)) at.i none) ≡ true

-- What idle turns leave, which change no list: the definition's turns from i' and j' on, with left' left of an allowance A, are those
-- from i and j on, with `left` left.
pub record Idled (pts : List Point64) (idx : ℕ) (a : Arena) (left i j left' i' j' : ℕ) : Type 0 where
  pub same : (A : ℕ) → left ≤ A → turns_from pts idx left' (A - left') (turn a i' j') ≡ turns_from pts idx left (A - left) (turn a i j)
  pub fewer : left' ≤ left

-- the same of the turns that are left at `at`
pub record Idles (m : lent.Arena) (at : Turn) (left : ℕ) (r : Progress) : Type 0 where
  pub side : r.at.side.idx ≡ at.side.idx
  pub idled : Idled (pts_of m) at.side.idx (arena_of m) left at.i at.j r.left r.at.i r.at.j

-- what `tidy_edges` answers: refusal 10, or the arena and the turns taken of an allowance A, by how many are left
abbrev pub answer : lent.Arena → ℕ → Result ℕ Refusal → Try (Arena × ℕ)
answer m A (Ok left) = ok (arena_of m, A - left)
answer m A (Err why) = refuse (number why)

-- where `allowed` turns are left of the allowance A, the answer is the definition's b, and what is left has room
pub record TidiedAs (x y : lent.Arena) (allowed A : ℕ) (r : Result ℕ Refusal) (b : Try (Arena × ℕ)) : Type 0 where
  pub is : answer y A r ≡ b
  pub becomes : Becomes x y (arena_of y)
  pub spare : IfOk r (λ left. Spare x.sizes.slots left (arena_of y))
  pub fewer : IfOk r (λ left. left ≤ allowed)

-- the four sides in their order, as `execute` has them
unfoldable pub tidied_all : List Point64 → ℕ → Arena → Try (Arena × ℕ)
tidied_all pts A a = tidy_edges pts 0 A (a, 0) >>= tidy_edges pts 1 A >>= tidy_edges pts 2 A >>= tidy_edges pts 3 A
