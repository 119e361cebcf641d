-- The arena as the work list holds it: fields 0 to 3 of slot i are node i's links, owner and edge, field 4 is result i,
-- and fields 8 to 15 are the eight edge lists. `arena_at` is what the definition's Arena is here; `Valid` says that every number is in its range.
use Rattle.std.specs.Prelude.{◌≡◌, Option, None, Some, List, [], ◌∷◌, ℕ, suc, ◌+◌, ◌<◌, ◌≤◌, length, get_or, set, eqb, if◌then◌else◌}
use Rattle.plane.specs.Basics.{none}
use Rattle.reference.specs.Arena.{Arena, owner_of, edge_of, next_of, prev_of, result_of, edge_list}
use Rattle.rectclip.specs.declared.arena.Sizes.{Sizes}
use Rattle.rectclip.specs.declared.side.EdgeList.{EdgeList}
use Rattle.rectclip.specs.Memory.{Room, column}

-- the edge lists in the fields from k on, so many entries of each
abbrev pub columns : ℕ → List ℕ → List ℕ → List (List ℕ)
columns k [] m = []
columns k (n ∷ lens) m = column k n m ∷ columns (suc k) lens m

unfoldable pub arena_at : List ℕ → Sizes → Arena
arena_at m s = record {
  owner = column 2 s.nodes m;
  edge = column 3 s.nodes m;
  next = column 0 s.nodes m;
  prev = column 1 s.nodes m;
  results = column 4 s.results m;
  edges = columns 8 s.lens m;
}

-- the number that stands for an index in the list, or the mark for none
abbrev pub mark : Option ℕ → ℕ
mark None = none
mark (Some v) = v

-- the same for an edge list
abbrev pub list_mark : Option EdgeList → ℕ
list_mark None = none
list_mark (Some l) = l.idx

-- v is the mark, or below n
abbrev pub Marked : ℕ → ℕ → Type 0
Marked n v = (v ≡ none → ⊥) → v < n

-- every number of the arena is in its range: n nodes and R results
pub record Valid (n R : ℕ) (a : Arena) : Type 0 where
  pub next_in : (i : ℕ) → i < n → next_of a i < n
  pub prev_in : (i : ℕ) → i < n → prev_of a i < n
  pub owner_in : (i : ℕ) → i < n → owner_of a i < R
  pub edge_in : (i : ℕ) → i < n → Marked 8 (edge_of a i)
  pub result_in : (r : ℕ) → r < R → Marked n (result_of a r)
  pub entry_in : (e j : ℕ) → e < 8 → j < length (edge_list a e) → Marked n (get_or (edge_list a e) j none)

-- the work list has the slots, the sizes are within them, and the arena that it holds is valid
pub record Holds (m : List ℕ) (s : Sizes) : Type 0 where
  pub room : Room s.slots m
  pub nodes : s.nodes ≤ s.slots
  pub results : s.results ≤ s.slots
  pub eight : length s.lens ≡ 8
  pub lists : (e : ℕ) → e < 8 → get_or s.lens e 0 ≤ s.slots
  pub valid : Valid s.nodes s.results (arena_at m s)

-- the sizes with one entry more in list e, and with one result more
abbrev pub longer : List ℕ → ℕ → List ℕ
longer lens e = set lens e (get_or lens e 0 + 1)

unfoldable pub longer_list : Sizes → ℕ → Sizes
longer_list s e = record { slots = s.slots; nodes = s.nodes; results = s.results; lens = longer s.lens e }

unfoldable pub one_result_more : Sizes → Sizes
one_result_more s = record { slots = s.slots; nodes = s.nodes; results = s.results + 1; lens = s.lens }

-- how many entries of a list are the mark
abbrev pub free : List ℕ → ℕ
free [] = 0
free (x ∷ xs) = (if eqb x none then 1 else 0) + free xs

-- N slots are enough for r results more, and for k entries more in each edge list beside one for each node that is in none
pub record Space (N r k : ℕ) (a : Arena) : Type 0 where
  pub results : length a.results + r ≤ N
  pub lists : (e : ℕ) → e < 8 → length (edge_list a e) + free a.edge + k ≤ N

abbrev pub Spare : ℕ → ℕ → Arena → Type 0
Spare N k a = Space N k k a
