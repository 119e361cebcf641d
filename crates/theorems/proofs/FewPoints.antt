-- A closed path that is walked returns no more points than its walk has put down: every returned path is a ring of nodes, each read once, and
-- no node is in two rings.
use mathlib.Core.Path.{◌≡◌, refl, ◌∙◌, ap}
use mathlib.Core.Bool.{cond}
use mathlib.Core.Logic.{⊎_elim}
use mathlib.Core.List.{List, [], ◌∷◌, ◌++◌}
use Prim.Native.Nat.{ℕ, zero, suc, ◌+◌, ◌<◌, ◌≤◌}
use native.Mathlib.Omega.{arith}
use lib.ListN.{length, get_or, length-append}
use lib.IntN.{ℤ}
use Rattle.plane.specs.declared.point.Point64.{Point64}
use Rattle.plane.specs.Basics.{none, is_nil, upwards}
use Rattle.reference.specs.Walk.{no_room, Walked, walk_closed}
use Rattle.reference.specs.Arena.{Arena, next_of, prev_of, owner_of, result_of, set_result}
use Rattle.reference.specs.Clip.{get_path, get_paths, clip_walked}
use Rattle.theorems.specs.Rings.{Entered}
use Rattle.theorems.specs.Demand.{signed_area2}
use Rattle.plane.specs.Points.{points_of}
use Rattle.reference.specs.Entry.{joined}
use Rattle.theorems.specs.Sizes.{FewPoints}
use Rattle.theorems.proofs.RingLaw.{Distinct}
use Rattle.theorems.proofs.Pigeon.{pigeon}
use Rattle.theorems.proofs.RingLists.{All, In, all_map, all_in, all_append, in_append, off_of, distinct_append}
use Rattle.theorems.proofs.RingSet.{Rings}
use Rattle.theorems.proofs.TidyLinks.{below_of}
use Rattle.theorems.proofs.Reading.{Some}
use Rattle.theorems.proofs.ReadAll.{Ahead, advance, Whole, whole_some, whole_ahead}
use Rattle.theorems.proofs.AreaKeeps.{clip_whole, called}
use Rattle.theorems.proofs.Counted.{has_room, walk_counted}
use Rattle.theorems.proofs.WalkEnters.{walk_enters}
use Rattle.theorems.proofs.Entering.{entry_found}
use Rattle.theorems.proofs.ClosedArea.{walked_not_empty}
use Rattle.theorems.proofs.Holds.{holds_ok}

-- ---- the nodes of m rings from number k on
unfoldable nodes : ℕ → ℕ → List (List ℕ) → List ℕ
nodes k zero rs = []
nodes k (suc m) rs = get_or rs k [] ++ nodes (suc k) m rs

module _ (n : ℕ) (nx pv ow : ℕ → ℕ) (rs : List (List ℕ)) (G : Rings n nx pv ow rs) where
  owner_from : (k m i : ℕ) → In i (nodes k m rs) → k ≤ ow i
  unfolding nodes
  owner_from k zero i h = absurd h
  owner_from k (suc m) i h =
      ⊎_elim (λ q. let e = (all_in _ i (get_or rs k []) (G k).own q).1 in omega arith) (λ q. let l = owner_from (suc k) m i q in omega arith) (in_append i (get_or rs k []) (nodes (suc k) m rs) h)

  -- they are different, since their owners or their places differ
  nodes_distinct : (k m : ℕ) → Distinct (nodes k m rs)
  unfolding nodes
  nodes_distinct k zero = tt
  nodes_distinct k (suc m) =
      distinct_append (get_or rs k []) (nodes (suc k) m rs) (G k).once (nodes_distinct (suc k) m)
      (all_map _ _ (get_or rs k []) (λ i h. off_of i (nodes (suc k) m rs) (λ q. let l = owner_from (suc k) m i q in let e = h.1 in omega arith)) (G k).own)

  nodes_below : (k m : ℕ) → All (λ i. i < n) (nodes k m rs)
  unfolding nodes
  nodes_below k zero = tt
  nodes_below k (suc m) = all_append _ (get_or rs k []) (nodes (suc k) m rs) (all_map _ _ (get_or rs k []) (λ i h. h.0) (G k).own) (nodes_below (suc k) m)

  nodes_few : (k m : ℕ) → length (nodes k m rs) ≤ n
  nodes_few k m = pigeon n (nodes k m rs) (nodes_distinct k m) (below_of n (nodes k m rs) (nodes_below k m))

-- ---- the paths from number k on: their points are at most the nodes that are left in their rings
module _ (pts : List Point64) (small : length pts ≤ none) (ow : ℕ → ℕ) where
  record Left (k m : ℕ) (rs : List (List ℕ)) (paths : List (List Point64)) : Type 0 where
    arena : Arena
    rs' : List (List ℕ)
    some : Some pts ow arena rs'
    before : (s : ℕ) → s < k → get_or rs' s [] ≡ get_or rs s []
    few : length (joined paths) ≤ length (nodes k m rs')

  add_path : (p : List Point64) (ps : List (List Point64)) → length (joined (cond (is_nil p) ps (p ∷ ps))) ≡ length p + length (joined ps)
  add_path [] ps = omega arith
  add_path (q ∷ p) ps = length-append (q ∷ p) (joined ps)

  paths_left : (m k : ℕ) (a : Arena) (rs : List (List ℕ)) → Some pts ow a rs → Ahead pts small ow k m a rs → Left k m rs (get_paths pts a (upwards k m))
  unfolding get_paths nodes
  paths_left zero k a rs S F = record { arena = a; rs' = rs; some = S; before = λ s l. refl; few = omega arith }
  paths_left (suc m) k a rs S F =
      let N = advance pts small ow k m a rs S F in
      let g = get_path pts a (result_of a k) in
      let b = set_result g.0 k g.1 in
      let L = paths_left m (suc k) b N.path.rs' N.some N.ahead in
      record {
        arena = L.arena;
        rs' = L.rs';
        some = L.some;
        before = λ s l. L.before s (omega arith) ∙ N.path.shrunk.others s (λ e. omega arith);
        few =
            let e = add_path g.2 (get_paths pts b (upwards (suc k) m)) in
            let c = N.path.count in
            let q = ap length (L.before k (omega arith)) in
            let f = L.few in
            let l = length-append (get_or L.rs' k []) (nodes (suc k) m L.rs') in
            omega arith;
      }

whole_few : (pts : List Point64) (small : length pts ≤ none) (A : ℤ) (a : Arena) → Whole pts A a → length (joined (get_paths pts a (upwards 0 (length a.results)))) ≤ length pts
whole_few pts small A a W =
    let L = paths_left pts small (owner_of a) (length a.results) 0 a W.rs (whole_some pts A a W) (whole_ahead pts small A a W) in
    let f = L.few in
    let n = nodes_few (length pts) (next_of L.arena) (prev_of L.arena) (owner_of a) L.rs' L.some.rings 0 (length a.results) in
    omega arith

-- The returned points of a closed path that is walked are no more than the W that its store has room for: `get_path` only drops points.
pub few_points : FewPoints
few_points W A rect coords paths turns lim hr hc h e =
    let path = points_of coords in
    let full = no_room W in
    let he = walked_not_empty rect path h in
    let c = called full A rect path (paths, turns) h e in
    let w = c.walked in
    let n = holds_ok {Q = λ (v : Walked). length v.walk.points ≤ W} (walk_closed full rect path) w (walk_counted full W (has_room W) rect he path) c.is_walk in
    let small : length w.walk.points ≤ none = omega arith in
    let entered = holds_ok {Q = Entered} (walk_closed full rect path) w (walk_enters full rect he path (entry_found rect coords hr hc he)) c.is_walk in
    let q = holds_ok (clip_walked A rect w) (paths, turns)
    (clip_whole A rect w small entered (λ paths. length (joined paths) ≤ length w.walk.points) (whole_few w.walk.points small (signed_area2 w.walk.points))) c.is_answer in
    omega arith
