-- The points of the nodes, as the store holds them: how many there are, and what stands at a node. Assumes nothing.
use mathlib.Core.Path.{◌≡◌, refl, sym, ◌∙◌}
use mathlib.Core.List.{List, [], ◌∷◌}
use Prim.Native.Nat.{ℕ, zero, suc, ◌<◌, ◌≤◌}
use native.Mathlib.Omega.{arith}
use lib.ListN.{length, get_or, take}
use lib.Seq.{get_or-take, length-take-le}
use lib.IntN.{ℤ}
use Rattle.plane.specs.declared.point.Point64.{Point64}
use Rattle.plane.specs.Points.{pt_at, points_of, origin}
use Rattle.reference.specs.Arena.{pt_of}
use Rattle.rectclip.specs.Stored.{points_in, Drawn}
use Rattle.rectclip.proofs.Coordinates.{points_length}

-- what stands at i does not depend on what stands for a missing point
default_any : (l : List Point64) (i : ℕ) (d e : Point64) → i < length l → get_or l i d ≡ get_or l i e
default_any [] i d e h = absurd (omega arith)
default_any (x ∷ l) zero d e h = refl
default_any (x ∷ l) (suc i) d e h = default_any l i d e (omega arith)

module _ (store : List ℤ) (n : ℕ) (d : Drawn store n) where
  enough : n ≤ length (points_of store)
  enough = omega (arith, points_length store, d.room)

  pub points_in_length : length (points_in store n) ≡ n
  unfolding points_in
  points_in_length = length-take-le n (points_of store) enough

  pub point_in : (i : ℕ) → i < n → pt_at (points_of store) i ≡ pt_of (points_in store n) i
  unfolding points_in
  point_in i h =
      default_any (points_of store) i origin _ (omega (arith, enough)) ∙ sym (get_or-take n (points_of store) i (pt_at (take n (points_of store)) 0) h)
