-- `get_path` in two steps. First every ring is straightened and its result is its start or none; then the rings are read out.
-- The nodes of a path stand for its points: `points_from` of the definition reads the points of `nodes_from`.
use Rattle.std.specs.Prelude.{◌≡◌, Option, IfSome, List, [], ◌∷◌, ◌++◌, map, ℕ, zero, suc, ◌+◌, ◌*◌, ◌<◌, ◌≤◌, length, eqb, if◌then◌else◌}
use Rattle.plane.specs.declared.point.Point64.{Point64}
use Rattle.plane.specs.Basics.{none}
use Rattle.reference.specs.Arena.{Arena, pt_of, next_of, result_of, set_result}
use Rattle.reference.specs.Clip.{get_path}
use Rattle.rectclip.specs.declared.arena.Arena as lent
use Rattle.rectclip.specs.declared.arena.Sizes.{Sizes}
use Rattle.rectclip.specs.declared.paths.Tally.{Tally}
use Rattle.rectclip.specs.declared.output.Output.{Output}
use Rattle.rectclip.specs.declared.nodes.Nodes.{Nodes}
use Rattle.rectclip.specs.Arenas.{mark}
use Rattle.rectclip.specs.Changes.{arena_of, pts_of, Leaves}
use Rattle.rectclip.specs.Outputs.{Pointed}

-- ---- the first step
-- the ring of result r is straightened, and the result set to its start
unfoldable pub straighten_result : List Point64 → Arena → ℕ → Arena
straighten_result pts a r = let g = get_path pts a (result_of a r) in set_result g.0 r g.1

unfoldable pub straighten_results : List Point64 → Arena → List ℕ → Arena
straighten_results pts a [] = a
straighten_results pts a (r ∷ rs) = straighten_results pts (straighten_result pts a r) rs

-- a ring that was straightened: its arena g, and its start r
pub record Started (x y : lent.Arena) (r : Option ℕ) (g : Arena × ℕ × List Point64) : Type 0 where
  pub leaves : Leaves x y g.0
  pub start : mark r ≡ g.1
  pub start_in : IfSome r (λ i. i < x.sizes.nodes)

-- ---- the second step
-- the nodes from curr on, up to node start; at most `left` of them
unfoldable pub nodes_from : ℕ → Arena → ℕ → ℕ → List ℕ
nodes_from zero a start curr = []
nodes_from (suc left) a start curr =
    let rest = curr ∷ nodes_from left a start (next_of a curr) in
    if eqb curr start then [] else rest

-- the points that an iterator over a ring has left
unfoldable pub points_left : Nodes → List Point64
points_left s = map (pt_of (pts_of s.arena.now)) (nodes_from s.left (arena_of s.arena.now) s.start (next_of (arena_of s.arena.now) s.at))

-- the nodes of the ring of start
unfoldable pub nodes_of : ℕ → Arena → ℕ → List ℕ
nodes_of n a start = start ∷ nodes_from n a start (next_of a start)

-- the points of the ring of start behind that of start itself
abbrev pub points_behind : lent.Arena → ℕ → List Point64
points_behind m start = map (pt_of (pts_of m)) (nodes_from m.sizes.nodes (arena_of m) start (next_of (arena_of m) start))

-- the nodes of each result that has a start
unfoldable pub nodes_read : ℕ → Arena → List ℕ → List (List ℕ)
nodes_read n a [] = []
nodes_read n a (r ∷ rs) =
    let rest = nodes_read n a rs in
    let more = nodes_of n a (result_of a r) ∷ rest in
    if eqb (result_of a r) none then rest else more

-- the points of those nodes: the paths of these results
abbrev pub paths_at : lent.Arena → List ℕ → List (List Point64)
paths_at m rs = map (map (pt_of (pts_of m))) (nodes_read m.sizes.nodes (arena_of m) rs)

-- how many nodes there are in all
abbrev pub all_nodes : List (List ℕ) → List ℕ
all_nodes [] = []
all_nodes (p ∷ ps) = p ++ all_nodes ps

-- what a count of a ring's nodes answers
pub record Counted (n r : ℕ) (nodes : List ℕ) : Type 0 where
  pub is : r ≡ length nodes
  pub most : r ≤ n + 1

-- the counts so far with those of result i: its ring's, if it has a start
pub record CountsOn (a : Arena) (s : Sizes) (i : ℕ) (c r : Tally) : Type 0 where
  pub paths : r.paths ≡ c.paths + length (nodes_read s.nodes a (i ∷ []))
  pub points : r.points ≡ c.points + length (all_nodes (nodes_read s.nodes a (i ∷ [])))
  pub most_paths : r.paths ≤ i + 1
  pub most_points : r.points ≤ (i + 1) * (s.nodes + 1)

pub record CountedAll (r : Tally) (ps : List (List ℕ)) : Type 0 where
  pub paths : r.paths ≡ length ps
  pub points : r.points ≡ length (all_nodes ps)

-- the nodes' points may be read out
pub record Reading (x : Output) (nodes : List ℕ) : Type 0 where
  pub room : 2 * (x.points + length nodes) ≤ length x.coordinates.now

-- and they are, r of them
pub record Read (x y : Output) (r : ℕ) (pts : List Point64) (nodes : List ℕ) : Type 0 where
  pub pointed : Pointed x y (map (pt_of pts) nodes)
  pub count : r ≡ length nodes
