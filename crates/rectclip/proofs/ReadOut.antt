-- The points of a ring are read out, one behind the other, as the definition goes round the ring. Assumes nothing.
use mathlib.Core.Path.{◌≡◌, ap}
use mathlib.Core.List.{List, ◌∷◌}
use Prim.Native.Nat.{ℕ, ◌+◌, ◌-◌, ◌*◌, ◌<◌}
use native.Mathlib.Omega.{arith}
use lib.ListN.{length, length-map}
use Rattle.plane.specs.declared.point.Point64.{Point64}
use Rattle.reference.specs.Arena.{pt_of, next_of}
use Rattle.rectclip.specs.declared.arena.Arena as lent
use Rattle.rectclip.specs.declared.output.Output.{Output}
use Rattle.rectclip.specs.Changes.{arena_of, pts_of}
use Rattle.rectclip.specs.Outputs.{Pointed}
use Rattle.rectclip.specs.Paths.{points_behind, nodes_from, nodes_of, Reading, Read}
use Rattle.rectclip.proofs.Writing.{pointed_length}

module _ (m : lent.Arena) (start : ℕ) where
  many : length (points_behind m start) ≡ length (nodes_from m.sizes.nodes (arena_of m) start (next_of (arena_of m) start))
  many = length-map _ _

  pub first_room : {x : Output} → Reading x (nodes_of m.sizes.nodes (arena_of m) start) → 2 * x.points + 1 < length x.coordinates.now
  unfolding nodes_of
  first_room R = omega (arith, R.room)

  module _ {x y : Output} {p : Point64} {xs : List Point64} (W : Pointed x y (p ∷ xs)) where
    pub next_room : Reading x (nodes_of m.sizes.nodes (arena_of m) start) → length xs < length (points_behind m start) → 2 * y.points + 1 < length y.coordinates.now
    unfolding nodes_of
    next_room R h = omega (arith, R.room, W.points, pointed_length W, h, many)

    pub read_whole : p ≡ pt_of (pts_of m) start → xs ≡ points_behind m start → Read x y (y.points - x.points) (pts_of m) (nodes_of m.sizes.nodes (arena_of m) start)
    unfolding nodes_of
    read_whole e q = record { pointed = rw (e, q) at W; count = omega (arith, W.points, ap length q, many) }
