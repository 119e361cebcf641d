-- What the functions over rings leave in the lists, in the definition's words.
use Rattle.std.specs.Prelude.{◌≡◌, Option, None, Some, IfSome, MatchOption, List, ℕ, ◌+◌, ◌-◌, ◌<◌, ℤ, length, eqb, if◌then◌else◌}
use Rattle.plane.specs.Basics.{none}
use Rattle.reference.specs.Arena.{unlink, unlink_op, unlink_op_back}
use Rattle.reference.specs.Arena as reference
use Rattle.rectclip.specs.declared.arena.Arena as lent
use Rattle.rectclip.specs.declared.rings.Neighbours.{Neighbours}
use Rattle.rectclip.specs.declared.rings.RingPlace.{RingPlace}
use Rattle.rectclip.specs.Memory.{at}
use Rattle.rectclip.specs.Arenas.{mark}
use Rattle.rectclip.specs.Changes.{arena_of, Leaves}

-- a node's neighbours, as numbers of the list
abbrev pub next_or : Option Neighbours → ℕ
next_or None = none
next_or (Some r) = r.next

abbrev pub prev_or : Option Neighbours → ℕ
prev_or None = none
prev_or (Some r) = r.prev

-- op is taken out of its ring, and r has its neighbours
pub record Unlinked (x y : lent.Arena) (op : ℕ) (r : Option Neighbours) : Type 0 where
  pub leaves : Leaves x y (unlink (arena_of x) op)
  pub next : next_or r ≡ unlink_op (arena_of x) op
  pub prev : prev_or r ≡ unlink_op_back (arena_of x) op
  pub within : IfSome r (λ n. (n.prev < x.sizes.nodes) × (n.next < x.sizes.nodes))

-- the pass leaves what the definition's b has: its arena and its two nodes, of which the second may be none
pub record Passed (x y : lent.Arena) (r : RingPlace) (b : reference.Round) : Type 0 where
  pub leaves : Leaves x y b.arena
  pub op : r.op ≡ b.op
  pub op2 : mark r.op2 ≡ b.op2
  pub op_in : r.op < x.sizes.nodes
  pub op2_in : IfSome r.op2 (λ i. i < x.sizes.nodes)

-- the loop leaves the arena of the definition's b, and ends at its node, unless nothing is left of the ring
pub record Dropped (x y : lent.Arena) (r : Option ℕ) (b : reference.Round) : Type 0 where
  pub leaves : Leaves x y b.arena
  pub ends : MatchOption r (b.op2 ≡ none) (λ op. (op ≡ b.op) × (b.op2 ≡ none → ⊥) × (op < x.sizes.nodes))

-- the same where it ends at the second node
pub record EndsAt (x y : lent.Arena) (r : Option ℕ) (b : reference.Round) : Type 0 where
  pub leaves : Leaves x y b.arena
  pub is : mark r ≡ b.op2
  pub within : IfSome r (λ i. i < x.sizes.nodes)

-- node i of a new ring: its links, owner 0, in no edge list
pub record NodeAt (m : List ℕ) (i next prev : ℕ) : Type 0 where
  pub next_is : at 0 m i ≡ next
  pub prev_is : at 1 m i ≡ prev
  pub owner_is : at 2 m i ≡ 0
  pub edge_is : at 3 m i ≡ none

-- it is put down, and no other node changes
pub record Placed (m m' : List ℕ) (i next prev : ℕ) : Type 0 where
  pub here : NodeAt m' i next prev
  pub others : (j a b : ℕ) → (j ≡ i → ⊥) → NodeAt m j a b → NodeAt m' j a b
  pub same : length m' ≡ length m

-- the neighbours of node i in the ring of n nodes in their order
abbrev pub after : ℕ → ℕ → ℕ
after n i = if eqb (i + 1) n then 0 else i + 1

abbrev pub before : ℕ → ℕ → ℕ
before n i = if eqb i 0 then n - 1 else i - 1

pub record Linked (m m' : List ℕ) (n : ℕ) : Type 0 where
  pub each : (i : ℕ) → i < n → NodeAt m' i (after n i) (before n i)
  pub same : length m' ≡ length m

-- the arena r that `add` has made of n walked points, which the list `points` holds
pub record Built (points : List ℤ) (m : List ℕ) (slots n : ℕ) (r : lent.Arena) : Type 0 where
  pub is : arena_of r ≡ reference.ring n
  pub store : r.store.now ≡ points
  pub slots_are : r.sizes.slots ≡ slots
  pub nodes_are : r.sizes.nodes ≡ n
  pub cells : length r.work.now ≡ length m
