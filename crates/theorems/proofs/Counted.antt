-- A walk puts down no more points than there is room for, closed or open.
use mathlib.Core.Path.{◌≡◌}
use mathlib.Core.Bool.{Bool, false, ◌||◌}
use mathlib.Core.List.{List, [], ◌∷◌}
use Prim.Native.Nat.{ℕ, ◌-◌, ◌<◌, ◌≤◌}
use native.Mathlib.Omega.{arith}
use lib.ListN.{length, length-append}
use lib.Dec.{nleb→lt}
use Rattle.integers.specs.Tests.{T_not_of}
use Rattle.plane.specs.declared.point.Point64.{Point64}
use Rattle.plane.specs.declared.rect.Rect64.{Rect64}
use Rattle.plane.specs.Basics.{push, is_nil}
use Rattle.plane.specs.Rectangle.{is_empty}
use Rattle.plane.specs.Points.{pt_at, same_point}
use Rattle.reference.specs.Walk.{no_room, Walk, add, push_start_loc, walk_closed}
use Rattle.theorems.proofs.Holds.{Holds, refused, held, either, All}
use Rattle.theorems.proofs.OnEdge.{on_edge}
use Rattle.theorems.proofs.Points.{WithinSides, Keeping, walked_kept}

abbrev pub Any : Point64 → Type 0
Any p = Unit {0}

grow : (W : ℕ) (ps : List Point64) (p : Point64) → length ps < W → length (push ps p) ≤ W
grow W ps p h = simp length-append (omega arith)

pub any_input : (rect : Rect64) (ps : List Point64) → All (λ p. WithinSides rect p → Any p) ps
any_input rect [] = tt
any_input rect (p ∷ ps) = ((λ h. tt), any_input rect ps)

pub has_room : (W n : ℕ) → no_room W n ≡ false → n < W
has_room W n e = nleb→lt W n (T_not_of e)

counting : (full : ℕ → Bool) (W : ℕ) → ((n : ℕ) → full n ≡ false → n < W) → Keeping full Any (λ w. length w.points ≤ W)
unfolding add push_start_loc
counting full W room = record {
  start = omega arith;
  adds = λ w pt b h q.
      either K (is_nil w.points || b) _ _
      (λ _. either K (full (length w.points)) _ _ (λ _. refused) (λ f. held (grow W w.points pt (room (length w.points) f))))
      (λ _. either K (same_point (pt_at w.points (length w.points - 1)) pt) _ _ (λ _. held h)
      (λ _. either K (full (length w.points)) _ _ (λ _. refused) (λ f. held (grow W w.points pt (room (length w.points) f)))));
  pushes = λ w loc h. either K (full (length w.start_locs)) _ _ (λ _. refused) (λ _. held h);
}
  where
    K : Walk → Type 0
    K w = length w.points ≤ W

-- A point is put down only where there is room for it.
pub walk_counted : (full : ℕ → Bool) (W : ℕ) → ((n : ℕ) → full n ≡ false → n < W) → (rect : Rect64) → is_empty rect ≡ false → (path : List Point64)
    → Holds (λ w. length w.walk.points ≤ W) (walk_closed full rect path)
walk_counted full W room rect proper path =
    walked_kept full Any (λ w. length w.points ≤ W) (counting full W room) rect (λ s. tt) path (any_input rect path) (λ i l s q t e. tt) (λ i l s q t e. tt) (on_edge rect proper)
