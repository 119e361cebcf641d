-- A list of coordinates as points: what stands at a position, how many there are, and one point more. Assumes nothing.
use mathlib.Core.Path.{◌≡◌, refl, sym, ◌∙◌, ap}
use mathlib.Core.List.{List, [], ◌∷◌}
use Prim.Native.Nat.{ℕ, zero, suc, ◌+◌, ◌*◌, ◌<◌, ◌/◌}
use native.Mathlib.Omega.{arith}
use lib.ListN.{length, get_or, set, take, length-set}
use lib.Seq.{take-nil}
use lib.IntN.{ℤ, pos}
use Rattle.plane.specs.declared.point.Point64.{Point64}
use Rattle.plane.specs.Points.{point, pt_at, points_of}
use Rattle.rectclip.specs.Memory.{put_point}

-- point i is made of the coordinates at 2 i and 2 i + 1
pub points_at : (l : List ℤ) (i : ℕ) → 2 * i + 1 < length l → pt_at (points_of l) i ≡ point (get_or l (2 * i) (pos 0)) (get_or l (2 * i + 1) (pos 0))
points_at [] i h = absurd (omega arith)
points_at (x ∷ []) i h = absurd (omega arith)
points_at (x ∷ y ∷ l) zero h = refl
points_at (x ∷ y ∷ l) (suc i) h =
    let a : 2 * suc i ≡ suc (suc (2 * i)) = omega arith in
    let b : 2 * suc i + 1 ≡ suc (suc (2 * i + 1)) = omega arith in
    points_at l i (omega arith) ∙ (λ k. point (get_or (x ∷ y ∷ l) (sym a k) (pos 0)) (get_or (x ∷ y ∷ l) (sym b k) (pos 0)))

pub points_length : (l : List ℤ) → length (points_of l) ≡ length l / 2
points_length [] = refl
points_length (x ∷ []) = refl
points_length (x ∷ y ∷ l) = ap suc (points_length l) ∙ omega arith

-- the first n points are those of the first 2 n coordinates
pub points_take : (n : ℕ) (l : List ℤ) → points_of (take (2 * n) l) ≡ take n (points_of l)
points_take zero l = refl
points_take (suc n) [] = ap points_of (take-nil (2 * suc n))
points_take (suc n) (x ∷ []) = let a : 2 * suc n ≡ suc (suc (2 * n)) = omega arith in rw a
points_take (suc n) (x ∷ y ∷ l) =
    let a : 2 * suc n ≡ suc (suc (2 * n)) = omega arith in
    rw a (ap (λ (k : List Point64). point x y ∷ k) (points_take n l))

-- a point put into the list of coordinates is put into the list of points
pub points_put : (l : List ℤ) (i : ℕ) (p : Point64) → points_of (put_point l i p) ≡ set (points_of l) i p
unfolding put_point
points_put [] zero p = refl
points_put [] (suc i) p = refl
points_put (x ∷ []) zero p = refl
points_put (x ∷ []) (suc i) p =
    let a : 2 * suc i ≡ suc (suc (2 * i)) = omega arith in
    let b : 2 * suc i + 1 ≡ suc (suc (2 * i + 1)) = omega arith in
    λ k. points_of (set (set (x ∷ []) (a k) p.x) (b k) p.y)
points_put (x ∷ y ∷ l) zero p = refl
points_put (x ∷ y ∷ l) (suc i) p =
    let a : 2 * suc i ≡ suc (suc (2 * i)) = omega arith in
    let b : 2 * suc i + 1 ≡ suc (suc (2 * i + 1)) = omega arith in
    (λ k. points_of (set (set (x ∷ y ∷ l) (a k) p.x) (b k) p.y)) ∙ ap (λ (k : List Point64). point x y ∷ k) (points_put l i p)

pub length_put_point : (l : List ℤ) (i : ℕ) (p : Point64) → length (put_point l i p) ≡ length l
unfolding put_point
length_put_point l i p = length-set (set l (2 * i) p.x) (2 * i + 1) p.y ∙ length-set l (2 * i) p.x
