-- The nodes of rings are counted over the work list as the definition goes round them. Assumes nothing.
use mathlib.Core.Path.{◌≡◌, refl, sym, ◌∙◌, ap}
use mathlib.Core.List.{List, [], ◌∷◌, ◌++◌, map}
use Prim.Native.Nat.{ℕ, zero, suc, ◌+◌, ◌*◌, ◌-◌, ◌<◌, ◌≤◌}
use native.Mathlib.Omega.{arith}
use native.Mathlib.Numerals.{add-one}
use native.Mathlib.Decide.{ℕ_discrete}
use native.Mathlib.Nat.{mul-le-mul, add-mul, one-mul}
use lib.ListN.{length, length-append, length-map}
use borrow.Author.Tests.{eq-eqb, ne_eqb}
use Rattle.plane.specs.Basics.{none, upwards}
use Rattle.plane.specs.declared.point.Point64.{Point64}
use Rattle.reference.specs.Arena.{Arena, pt_of, next_of, result_of}
use Rattle.reference.specs.Entry.{joined}
use Rattle.rectclip.specs.declared.arena.Arena as lent
use Rattle.rectclip.specs.declared.arena.Sizes.{Sizes}
use Rattle.rectclip.specs.declared.paths.Tally.{Tally}
use Rattle.rectclip.specs.declared.nodes.Nodes.{Nodes}
use Rattle.rectclip.specs.Changes.{arena_of, pts_of}
use Rattle.rectclip.specs.Paths.{points_left, points_behind, nodes_from, nodes_of, nodes_read, all_nodes, Counted, CountsOn, CountedAll}
use Rattle.rectclip.proofs.Writing.{map_join}

-- ---- going round
nodes_stop : (left : ℕ) (a : Arena) (start curr : ℕ) → curr ≡ start → nodes_from left a start curr ≡ []
unfolding nodes_from
nodes_stop zero a start curr e = refl
nodes_stop (suc left) a start curr e = rw (eq-eqb curr start e) refl

nodes_on : (left : ℕ) (a : Arena) (start curr : ℕ) → (curr ≡ start → ⊥) → nodes_from (suc left) a start curr ≡ curr ∷ nodes_from left a start (next_of a curr)
unfolding nodes_from
nodes_on left a start curr q = rw (ne_eqb curr start q) refl

nodes_step : {left left' : ℕ} (a : Arena) (start curr : ℕ) → left ≡ suc left' → (curr ≡ start → ⊥) → (next : ℕ) → next ≡ next_of a curr → nodes_from left a start curr ≡ curr ∷ nodes_from left' a start next
nodes_step {left' = left'} a start curr one q next e =
    ap (λ (k : ℕ). nodes_from k a start curr) one ∙ nodes_on left' a start curr q ∙ ap (λ (x : ℕ). curr ∷ nodes_from left' a start x) (sym e)

nodes_out : (left : ℕ) (a : Arena) (start curr : ℕ) → left ≤ 0 → nodes_from left a start curr ≡ []
unfolding nodes_from
nodes_out left a start curr h = let z : left ≡ 0 = omega arith in rw z refl

-- ---- the points that an iterator over a ring has left
module _ (s : Nodes) where
  abbrev after : ℕ
  after = next_of (arena_of s.arena.now) s.at

  pub left_out : s.left ≡ 0 → points_left s ≡ []
  unfolding points_left
  left_out e = ap (map (pt_of (pts_of s.arena.now))) (nodes_out s.left (arena_of s.arena.now) s.start after (omega (arith, e)))

  module _ {node : ℕ} (n : node ≡ next_of (arena_of s.arena.now) s.at) where
    pub left_stop : node ≡ s.start → points_left s ≡ []
    unfolding points_left
    left_stop e = ap (map (pt_of (pts_of s.arena.now))) (nodes_stop s.left (arena_of s.arena.now) s.start after (sym n ∙ e))

    pub left_step : (node ≡ s.start → ⊥) → (s.left ≡ 0 → ⊥) → (p : Point64) → p ≡ pt_of (pts_of s.arena.now) node
        → points_left s ≡ p ∷ map (pt_of (pts_of s.arena.now)) (nodes_from (s.left - 1) (arena_of s.arena.now) s.start (next_of (arena_of s.arena.now) node))
    unfolding points_left
    left_step q z p e =
        let one : s.left ≡ suc (s.left - 1) = omega (arith, z) in
        rw (e, ← n) (ap (map (pt_of (pts_of s.arena.now))) (nodes_step (arena_of s.arena.now) s.start node one q (next_of (arena_of s.arena.now) node) refl))

-- ---- the count of one ring
nodes_most : (left : ℕ) (a : Arena) (start curr : ℕ) → length (nodes_from left a start curr) ≤ left
unfolding nodes_from
nodes_most zero a start curr = omega arith
nodes_most (suc left) a start curr =
    elim (ℕ_discrete curr start) [
      | yes e ↦ rw (eq-eqb curr start e) (omega arith)
      | no q ↦ rw (ne_eqb curr start q) (omega (arith, nodes_most left a start (next_of a curr)))
    ]

module _ (m : lent.Arena) (start : ℕ) (s : Nodes) (e : points_left s ≡ points_behind m start) where
  behind : length (points_left s) ≡ length (nodes_from m.sizes.nodes (arena_of m) start (next_of (arena_of m) start))
  behind = ap length e ∙ length-map _ _

  pub behind_most : length (points_left s) ≤ m.sizes.nodes
  behind_most = omega (arith, behind, nodes_most m.sizes.nodes (arena_of m) start (next_of (arena_of m) start))

  pub counted : (n : ℕ) → n ≡ length (points_left s) → Counted m.sizes.nodes (n + 1) (nodes_of m.sizes.nodes (arena_of m) start)
  unfolding nodes_of
  counted n w = record { is = omega (arith, w, behind); most = omega (arith, w, behind_most) }

-- ---- the count of all
one_more : (i n : ℕ) → (i + 1) * n ≡ i * n + n
one_more i n = add-mul i 1 n ∙ omega (arith, one-mul n)

pub counts_fit : (i n p : ℕ) → i < 4294967295 → n < 4294967295 → p ≤ i * (n + 1) → p + (n + 1) < 18446744073709551616
counts_fit i n p h l g =
    let a : i + 1 ≤ 4294967295 = omega arith in
    let b : n + 1 ≤ 4294967295 = omega arith in
    let q : (i + 1) * (n + 1) ≤ 18446744065119617025 = mul-le-mul a b in
    omega (arith, one_more i (n + 1))

pub read_none : (n : ℕ) (a : Arena) (i start : ℕ) → start ≡ result_of a i → start ≡ none → nodes_read n a (i ∷ []) ≡ []
unfolding nodes_read
read_none n a i start e h = rw (eq-eqb (result_of a i) none (sym e ∙ h)) refl

pub read_some : (n : ℕ) (a : Arena) (i start : ℕ) → start ≡ result_of a i → (start ≡ none → ⊥) → nodes_read n a (i ∷ []) ≡ nodes_of n a start ∷ []
unfolding nodes_read
read_some n a i start e h = rw (ne_eqb (result_of a i) none (λ w. h (e ∙ w)), e) refl

module _ {s : Sizes} {a : Arena} (i : ℕ) (c : Tally) (p : c.paths ≤ i) (q : c.points ≤ i * (s.nodes + 1)) (start : ℕ) (e : start ≡ result_of a i) where
  pub counts_none : start ≡ none → CountsOn a s i c c
  counts_none h =
      let n = read_none s.nodes a i start e h in
      record {
        paths = omega (arith, ap length n);
        points = omega (arith, ap (λ (l : List (List ℕ)). length (all_nodes l)) n);
        most_paths = omega arith;
        most_points = omega (arith, one_more i (s.nodes + 1));
      }

  pub counts_some : (start ≡ none → ⊥) → (k : ℕ) → Counted s.nodes k (nodes_of s.nodes a start) → CountsOn a s i c (record { paths = c.paths + 1; points = c.points + k })
  counts_some h k x =
      let n = read_some s.nodes a i start e h in
      record {
        paths = omega (arith, ap length n);
        points = omega (arith, ap (λ (l : List (List ℕ)). length (all_nodes l)) n, x.is, length-append (nodes_of s.nodes a start) []);
        most_paths = omega arith;
        most_points = omega (arith, x.most, one_more i (s.nodes + 1));
      }

pub read_append : (n : ℕ) (a : Arena) (rs qs : List ℕ) → nodes_read n a (rs ++ qs) ≡ nodes_read n a rs ++ nodes_read n a qs
unfolding nodes_read
read_append n a [] qs = refl
read_append n a (r ∷ rs) qs =
    elim (ℕ_discrete (result_of a r) none) [
      | yes e ↦ rw (eq-eqb (result_of a r) none e) (read_append n a rs qs)
      | no q ↦ rw (ne_eqb (result_of a r) none q) (ap (λ (l : List (List ℕ)). nodes_of n a (result_of a r) ∷ l) (read_append n a rs qs))
    ]

all_append : (ps qs : List (List ℕ)) → length (all_nodes (ps ++ qs)) ≡ length (all_nodes ps) + length (all_nodes qs)
all_append [] qs = omega arith
all_append (p ∷ ps) qs = omega (arith, length-append p (all_nodes (ps ++ qs)), length-append p (all_nodes ps), all_append ps qs)

pub record CountingAll (m : lent.Arena) (c : Tally) (i : ℕ) : Type 0 where
  pub paths : c.paths + length (nodes_read m.sizes.nodes (arena_of m) (upwards i (m.sizes.results - i))) ≡ length (nodes_read m.sizes.nodes (arena_of m) (upwards 0 m.sizes.results))
  pub points : c.points + length (all_nodes (nodes_read m.sizes.nodes (arena_of m) (upwards i (m.sizes.results - i)))) ≡ length (all_nodes (nodes_read m.sizes.nodes (arena_of m) (upwards 0 m.sizes.results)))
  pub most_paths : c.paths ≤ i
  pub most_points : c.points ≤ i * (m.sizes.nodes + 1)

module _ {m : lent.Arena} {c : Tally} {i : ℕ} (I : CountingAll m c i) where
  pub all_again : i < m.sizes.results → (r : Tally) → CountsOn (arena_of m) m.sizes i c r → CountingAll m r (i + 1)
  all_again z r k =
      let a = arena_of m in
      let rest = upwards (suc i) (m.sizes.results - suc i) in
      let one : m.sizes.results - i ≡ suc (m.sizes.results - suc i) = omega arith in
      let cut : nodes_read m.sizes.nodes a (upwards i (m.sizes.results - i)) ≡ nodes_read m.sizes.nodes a (i ∷ []) ++ nodes_read m.sizes.nodes a rest =
      ap (λ (l : ℕ). nodes_read m.sizes.nodes a (upwards i l)) one ∙ read_append m.sizes.nodes a (i ∷ []) rest in
      record {
        paths = rw (add-one i) (omega (arith, ap length cut, length-append (nodes_read m.sizes.nodes a (i ∷ [])) (nodes_read m.sizes.nodes a rest), I.paths, k.paths));
        points = rw (add-one i) (omega (arith, ap (λ (l : List (List ℕ)). length (all_nodes l)) cut, all_append (nodes_read m.sizes.nodes a (i ∷ [])) (nodes_read m.sizes.nodes a rest), I.points, k.points));
        most_paths = k.most_paths;
        most_points = k.most_points;
      }

  pub all_counted : m.sizes.results ≤ i → CountedAll c (nodes_read m.sizes.nodes (arena_of m) (upwards 0 m.sizes.results))
  unfolding nodes_read
  all_counted h =
      let z : m.sizes.results - i ≡ 0 = omega arith in
      record { paths = omega (arith, rw z at I.paths); points = omega (arith, rw z at I.points) }

-- ---- the same of the paths that the nodes stand for
module _ (pts : List Point64) where
  points_joined : (ps : List (List ℕ)) → map (pt_of pts) (all_nodes ps) ≡ joined (map (map (pt_of pts)) ps)
  points_joined [] = refl
  points_joined (p ∷ ps) = map_join (pt_of pts) p (all_nodes ps) ∙ ap (λ (l : List Point64). map (pt_of pts) p ++ l) (points_joined ps)

  pub points_count : (ps : List (List ℕ)) → length (all_nodes ps) ≡ length (joined (map (map (pt_of pts)) ps))
  points_count ps = sym (length-map (all_nodes ps) (pt_of pts)) ∙ ap length (points_joined ps)

  pub paths_count : (ps : List (List ℕ)) → length ps ≡ length (map (map (pt_of pts)) ps)
  paths_count ps = sym (length-map ps (map (pt_of pts)))
