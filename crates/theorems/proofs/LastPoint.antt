-- `last_of`: of two lists joined, by its position, and what it has if all points have it; and a walk over two lists joined. Assumes nothing.
use mathlib.Core.Path.{◌≡◌, refl, ◌∙◌, ap}
use mathlib.Core.List.{List, [], ◌∷◌, ◌++◌}
use Prim.Native.Nat.{suc, ◌-◌}
use native.Mathlib.Omega.{arith}
use lib.ListN.{length}
use lib.Dec.{T}
use Rattle.plane.specs.declared.point.Point64.{Point64}
use Rattle.plane.specs.declared.rect.Rect64.{Rect64}
use Rattle.plane.specs.declared.location.Location.{Location}
use Rattle.plane.specs.Basics.{Try, refuse, ok, ◌>>=◌}
use Rattle.plane.specs.Points.{origin, pt_at}
use Rattle.plane.specs.Rectangle.{beyond}
use Rattle.theorems.specs.Detour.{AllBeyond, last_of}
use Rattle.theorems.proofs.Holds.{All}
use Rattle.theorems.proofs.WalkOver.{walk_over}

pub last_append : (q : Point64) (xs ys : List Point64) → last_of q (xs ++ ys) ≡ last_of (last_of q xs) ys
last_append q [] ys = refl
last_append q (x ∷ xs) ys = last_append x xs ys

at_end : (x : Point64) (xs : List Point64) → pt_at (x ∷ xs) (length xs) ≡ last_of x xs
at_end x [] = refl
at_end x (y ∷ ys) = at_end y ys

pub last_at : (path : List Point64) → pt_at path (length path - 1) ≡ last_of origin path
last_at [] = refl
last_at (x ∷ xs) = ap (pt_at (x ∷ xs)) (let z : suc (length xs) - 1 ≡ length xs = omega arith in z) ∙ at_end x xs

-- what all points have, the last one has
pub last_all : (P : Point64 → Type 0) (q : Point64) (xs : List Point64) → P q → All P xs → P (last_of q xs)
last_all P q [] h hs = h
last_all P q (x ∷ xs) h hs = last_all P x xs hs.0 hs.1

pub last_beyond : (r : Rect64) (s : Location) (q : Point64) (run : List Point64) → T (beyond r s q) → AllBeyond r s run → T (beyond r s (last_of q run))
last_beyond r s q [] b h = b
last_beyond r s q (x ∷ run) b h = last_beyond r s x run h.0 h.1

-- ---- a walk
module _ {S : Type 0} (visit : S → Point64 → Point64 → Try S) where
  -- one list of points behind another
  pub over_append : (xs ys : List Point64) (s : S) (q : Point64) → walk_over visit s q (xs ++ ys) ≡ (walk_over visit s q xs >>= λ t. walk_over visit t (last_of q xs) ys)
  unfolding walk_over
  over_append [] ys s q = refl
  over_append (x ∷ xs) ys s q = go (visit s q x) (λ t. over_append xs ys t x)
    where
      go : (m : Try S) → ((t : S) → walk_over visit t x (xs ++ ys) ≡ (walk_over visit t x xs >>= λ v. walk_over visit v (last_of x xs) ys))
          → (m >>= λ t. walk_over visit t x (xs ++ ys)) ≡ (m >>= (λ t. walk_over visit t x xs) >>= λ v. walk_over visit v (last_of x xs) ys)
      go (refuse n) rest = refl
      go (ok t) rest = rest t
