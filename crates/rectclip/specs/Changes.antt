-- The arena and its points as the lent lists hold them, and what a function leaves of them. `lent.Arena` is the struct, `Arena` the definition's.
use Rattle.std.specs.Prelude.{◌≡◌, List, ℕ, ◌≤◌, length, get_or}
use Rattle.plane.specs.declared.point.Point64.{Point64}
use Rattle.reference.specs.Arena.{Arena}
use Rattle.rectclip.specs.declared.arena.Arena as lent
use Rattle.rectclip.specs.declared.arena.Sizes.{Sizes}
use Rattle.rectclip.specs.Arenas.{arena_at, Spare}
use Rattle.rectclip.specs.Stored.{points_in}

abbrev pub arena_of : lent.Arena → Arena
arena_of m = arena_at m.work.now m.sizes

-- the nodes' points
abbrev pub pts_of : lent.Arena → List Point64
pts_of m = points_in m.store.now m.sizes.nodes

-- the lists are the same, and as long
pub record Same (x y : lent.Arena) : Type 0 where
  pub name : y.work.ghost_name ≡ x.work.ghost_name
  pub store : y.store.now ≡ x.store.now
  pub cells : length y.work.now ≡ length x.work.now

-- What a function leaves that changes the arena to b and no size.
pub record Leaves (x y : lent.Arena) (b : Arena) : Type 0 where
  pub is : arena_of y ≡ b
  pub sizes : y.sizes ≡ x.sizes
  pub same : Same x y

-- the same where the sizes are s afterwards
pub record Grows (x y : lent.Arena) (s : Sizes) (b : Arena) : Type 0 where
  pub is : arena_of y ≡ b
  pub sizes : y.sizes ≡ s
  pub same : Same x y

-- What a function leaves that changes the arena to b and may push to results and edge lists.
pub record Becomes (x y : lent.Arena) (b : Arena) : Type 0 where
  pub is : arena_of y ≡ b
  pub slots : y.sizes.slots ≡ x.sizes.slots
  pub nodes : y.sizes.nodes ≡ x.sizes.nodes
  pub results : x.sizes.results ≤ y.sizes.results
  pub lists : (e : ℕ) → get_or x.sizes.lens e 0 ≤ get_or y.sizes.lens e 0
  pub same : Same x y

-- the same where each node enters one edge list at most: it takes no room but the node's own
pub record Enters (x y : lent.Arena) (b : Arena) : Type 0 where
  pub becomes : Becomes x y b
  pub spare : (N k : ℕ) → Spare N k (arena_of x) → Spare N k b
