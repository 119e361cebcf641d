-- What the functions that put nodes into edge lists ask and leave, in the definition's words.
use Rattle.std.specs.Prelude.{◌≡◌, not, ◌&&◌, List, [], ◌∷◌, ℕ, ◌<◌, get_or, eqb, if◌then◌else◌}
use Rattle.plane.specs.declared.point.Point64.{Point64}
use Rattle.plane.specs.declared.rect.Rect64.{Rect64}
use Rattle.plane.specs.Basics.{none}
use Rattle.reference.specs.Arena.{Arena, edge_of, result_of, assign_sides, check_ring}
use Rattle.rectclip.specs.declared.arena.Arena as lent
use Rattle.rectclip.specs.declared.side.EdgeList.{EdgeList}
use Rattle.rectclip.specs.Arenas.{Spare}
use Rattle.rectclip.specs.Changes.{arena_of}

-- node op may enter the list
pub record Entering (m : lent.Arena) (l : EdgeList) (op : ℕ) : Type 0 where
  pub op_in : op < m.sizes.nodes
  pub room : edge_of (arena_of m) op ≡ none → get_or m.sizes.lens l.idx 0 < m.sizes.slots

-- node op may enter any list: each node that is in none has room in all
pub record Assigning (m : lent.Arena) (op : ℕ) : Type 0 where
  pub spare : Spare m.sizes.slots 0 (arena_of m)
  pub op_in : op < m.sizes.nodes

-- a pass of "Assign edges" at node op: it enters a list where it is on a side and in none
unfoldable pub assign_node : List Point64 → Arena → ℕ → ℕ → ℕ → Arena
assign_node pts a op set1 set2 = if not (eqb set2 0) && eqb (edge_of a op) none then assign_sides pts a op set1 set2 (0 ∷ 1 ∷ 2 ∷ 3 ∷ []) else a

-- a pass of `check_edges` at result r
unfoldable pub check_result : List Point64 → Rect64 → Arena → ℕ → Arena
check_result pts rect a r = if eqb (result_of a r) none then a else check_ring pts rect a r
