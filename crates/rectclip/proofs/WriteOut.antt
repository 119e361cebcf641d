-- The polygon clipper's paths written to the caller's lists, result by result. Assumes nothing.
use mathlib.Core.Path.{◌≡◌, sym, ◌∙◌, ap, subst}
use mathlib.Core.List.{List, [], ◌∷◌, ◌++◌, map, append-nil}
use Prim.Native.Nat.{ℕ, zero, suc, ◌+◌, ◌-◌, ◌<◌, ◌≤◌}
use native.Mathlib.Omega.{arith}
use native.Mathlib.Decide.{ℕ_discrete}
use lib.ListN.{length, length-map}
use borrow.Author.Tests.{eq-eqb, ne_eqb}
use Rattle.plane.specs.declared.point.Point64.{Point64}
use Rattle.plane.specs.Basics.{none, upwards}
use Rattle.reference.specs.Entry.{joined}
use Rattle.reference.specs.Arena.{Arena, pt_of, next_of, result_of}
use Rattle.rectclip.specs.declared.arena.Arena as lent
use Rattle.rectclip.specs.declared.output.Output.{Output}
use Rattle.rectclip.specs.Changes.{arena_of, pts_of}
use Rattle.rectclip.specs.Outputs.{Takes, Written, Ended}
use Rattle.rectclip.specs.Paths.{nodes_from, nodes_of, nodes_read, paths_at, Reading, Read}
use Rattle.rectclip.proofs.Counting.{read_none, read_some, read_append}
use Rattle.rectclip.proofs.Writing.{map_join, written_none, takes_front, takes_behind, written_then, path_written}

nodes_most : (left : ℕ) (a : Arena) (start curr : ℕ) → length (nodes_from left a start curr) ≤ left
unfolding nodes_from
nodes_most zero a start curr = omega arith
nodes_most (suc left) a start curr =
    elim (ℕ_discrete curr start) [
      | yes e ↦ rw (eq-eqb curr start e) (omega arith)
      | no q ↦ rw (ne_eqb curr start q) (omega (arith, nodes_most left a start (next_of a curr)))
    ]

-- ---- one result
module _ (m : lent.Arena) (i start : ℕ) (e : start ≡ result_of (arena_of m) i) where
  abbrev ring : List ℕ
  ring = nodes_of m.sizes.nodes (arena_of m) start

  abbrev path : List Point64
  path = map (pt_of (pts_of m)) ring

  pub write_none : start ≡ none → (x : Output) → Written x x (paths_at m (i ∷ []))
  write_none h x = rw (read_none m.sizes.nodes (arena_of m) i start e h) (written_none x)

  module _ (h : start ≡ none → ⊥) where
    one : paths_at m (i ∷ []) ≡ path ∷ []
    one = ap (map (map (pt_of (pts_of m)))) (read_some m.sizes.nodes (arena_of m) i start e h)

    module _ {x : Output} (T : Takes x (paths_at m (i ∷ []))) where
      room : Takes x (path ∷ [])
      room = rw one at T

      points_are : length (joined (path ∷ [])) ≡ length ring
      points_are = ap length (append-nil path) ∙ length-map ring (pt_of (pts_of m))

      pub write_room : Reading x ring
      write_room = record { room = omega (arith, room.points, points_are) }

      module _ {y : Output} {n : ℕ} (r : Read x y n (pts_of m) ring) where
        pub write_ends : (y.paths < length y.lengths.now) × (n < 4294967296)
        unfolding nodes_of
        write_ends = (
          omega (arith, room.paths, r.pointed.paths, ap length r.pointed.lengths),
          omega (arith, r.count, nodes_most m.sizes.nodes (arena_of m) start (next_of (arena_of m) start), m.holds.nodes, m.holds.room.small),
        )

        pub write_one : {z : Output} → Ended y z n → Written x z (paths_at m (i ∷ []))
        write_one E = rw one (path_written r.pointed (r.count ∙ sym (length-map ring (pt_of (pts_of m)))) E)

-- ---- all results
upwards_join : (k n m : ℕ) → upwards k (n + m) ≡ upwards k n ++ upwards (k + n) m
upwards_join k zero m =
    let a : 0 + m ≡ m = omega arith in
    let b : k ≡ k + 0 = omega arith in
    λ j. upwards (b j) (a j)
upwards_join k (suc n) m =
    let a : suc n + m ≡ suc (n + m) = omega arith in
    let b : suc k + n ≡ k + suc n = omega arith in
    ap (upwards k) a ∙ ap (λ (l : List ℕ). k ∷ l) (upwards_join (suc k) n m ∙ ap (λ (i : ℕ). upwards (suc k) n ++ upwards i m) b)

paths_join : (m : lent.Arena) (rs qs : List ℕ) → paths_at m (rs ++ qs) ≡ paths_at m rs ++ paths_at m qs
paths_join m rs qs =
    ap (map (map (pt_of (pts_of m)))) (read_append m.sizes.nodes (arena_of m) rs qs)
    ∙ map_join (map (pt_of (pts_of m))) (nodes_read m.sizes.nodes (arena_of m) rs) (nodes_read m.sizes.nodes (arena_of m) qs)

-- at the head of the loop, at result i: the paths of those before it are written
pub record WritingOn (m : lent.Arena) (x y : Output) (i : ℕ) : Type 0 where
  pub written : Written x y (paths_at m (upwards 0 i))
  pub below : i ≤ m.sizes.results

pub writing_none : (m : lent.Arena) (x : Output) → WritingOn m x x 0
unfolding nodes_read
writing_none m x = record { written = written_none x; below = omega arith }

module _ {m : lent.Arena} {x y : Output} {i : ℕ} (I : WritingOn m x y i) where
  module _ (z : i < m.sizes.results) where
    up : paths_at m (upwards 0 (i + 1)) ≡ paths_at m (upwards 0 i) ++ paths_at m (i ∷ [])
    up = ap (paths_at m) (upwards_join 0 i 1) ∙ paths_join m (upwards 0 i) (upwards (0 + i) 1) ∙ ap (λ (k : ℕ). paths_at m (upwards 0 i) ++ paths_at m (k ∷ [])) (omega arith)

    rest : List (List Point64)
    rest = paths_at m (upwards (i + 1) (m.sizes.results - (i + 1)))

    all : paths_at m (upwards 0 m.sizes.results) ≡ (paths_at m (upwards 0 i) ++ paths_at m (i ∷ [])) ++ rest
    unfolding rest
    all =
        let n : m.sizes.results ≡ i + 1 + (m.sizes.results - (i + 1)) = omega arith in
        ap (λ (k : ℕ). paths_at m (upwards 0 k)) n ∙ ap (paths_at m) (upwards_join 0 (i + 1) (m.sizes.results - (i + 1))) ∙ paths_join m (upwards 0 (i + 1)) (upwards (0 + (i + 1)) (m.sizes.results - (i + 1)))
        ∙ (λ j. up j ++ paths_at m (upwards (zero_plus j) (m.sizes.results - (i + 1))))
      where
        zero_plus : 0 + (i + 1) ≡ i + 1
        zero_plus = omega arith

    pub writing_may : Takes x (paths_at m (upwards 0 m.sizes.results)) → Takes y (paths_at m (i ∷ []))
    writing_may T = takes_behind I.written (takes_front rest (rw all at T))

    pub writing_again : {w : Output} → Written y w (paths_at m (i ∷ [])) → WritingOn m x w (i + 1)
    writing_again W = record { written = rw up (written_then I.written W); below = omega arith }

  pub writing_all : m.sizes.results ≤ i → Written x y (paths_at m (upwards 0 m.sizes.results))
  writing_all h = let e : i ≡ m.sizes.results = omega (arith, I.below) in subst (λ (k : ℕ). Written x y (paths_at m (upwards 0 k))) e I.written
