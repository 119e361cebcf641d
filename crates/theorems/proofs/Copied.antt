-- Closed paths that are not walked: one whose bounds lie in the rectangle is returned as it came, and one whose bounds miss it gives nothing.
use mathlib.Core.Path.{◌≡◌, refl, ap}
use mathlib.Core.Bool.{Bool, true, false, cond, not, ◌&&◌}
use mathlib.Core.List.{List, [], ◌∷◌}
use Prim.Native.Nat.{ℕ}
use native.Mathlib.Omega.{arith}
use lib.ListN.{length}
use lib.Dec.{ltb}
use lib.IntN.{ℤ}
use lib.Signed.{lt_z, le_z, ◌≤ℤ◌}
use borrow.Author.Tests.{le-ltb}
use Rattle.integers.specs.Tests.{ztest, leZ_true, le_leZ, cond_true}
use Rattle.plane.specs.declared.point.Point64.{Point64}
use Rattle.plane.specs.declared.rect.Rect64.{Rect64}
use Rattle.plane.specs.Basics.{ok}
use Rattle.plane.specs.Rectangle.{max, min, is_empty, intersects, contains_rect, get_bounds_path}
use Rattle.reference.specs.Clip.{execute}
use Rattle.reference.specs.Lines.{execute_lines}
use Rattle.theorems.specs.Sizes.{CopiedWhole, MissedClosed, MissedOpen}
use Rattle.theorems.proofs.OnEdge.{four, bounds_order}

-- one of four answers
first_of : {X : Type 0} (b1 b2 b3 b4 : Bool) (x1 x2 x3 x4 y : X) → b1 ≡ false → b2 ≡ false → b3 ≡ true → b4 ≡ true → cond b1 x1 (cond b2 x2 (cond (not b3) x3 (cond b4 x4 y))) ≡ x4
first_of b1 b2 b3 b4 x1 x2 x3 x4 y e1 e2 e3 e4 = λ i. cond (e1 i) x1 (cond (e2 i) x2 (cond (not (e3 i)) x3 (cond (e4 i) x4 y)))

all_of : {X : Type 0} (b1 b2 b3 : Bool) (x y : X) → b3 ≡ false → cond b1 x (cond b2 x (cond (not b3) x y)) ≡ x
all_of true b2 b3 x y e = refl
all_of false true b3 x y e = refl
all_of false false b3 x y e = ap (λ (b : Bool). cond (not b) x y) e

-- four numbers in order: the larger of the first two is at most the smaller of the others
meet : (a b c d : ℤ) → a ≤ℤ b → b ≤ℤ c → c ≤ℤ d → le_z (max a b) (min d c) ≡ true
meet a b c d h k l = go (lt_z b a) refl (lt_z d c) refl
  where
    go : (s : Bool) → lt_z b a ≡ s → (t : Bool) → lt_z d c ≡ t → le_z (cond s a b) (cond t d c) ≡ true
    go true e true f = le_leZ a d (omega ztest)
    go true e false f = le_leZ a c (omega ztest)
    go false e true f = le_leZ b d (omega ztest)
    go false e false f = le_leZ b c (omega ztest)

-- bounds that lie in the rectangle meet it
contained_meets : (r : Rect64) (p : Point64) (path : List Point64) → contains_rect r (get_bounds_path (p ∷ path)) ≡ true → intersects r (get_bounds_path (p ∷ path)) ≡ true
contained_meets r p path e =
    let b = get_bounds_path (p ∷ path) in
    let f = four (le_z r.left b.left) (le_z b.right r.right) (le_z r.top b.top) (le_z b.bottom r.bottom) e in
    let o = bounds_order p path in
    λ i. meet r.left b.left b.right r.right (leZ_true f.0) o.0 (leZ_true f.1) i && meet r.top b.top b.bottom r.bottom (leZ_true f.2) o.1 (leZ_true f.3) i

-- A closed path of three or more points whose bounds lie in a rectangle that is not empty is returned as it came, with no turn.
pub copied : CopiedWhole
unfolding execute
copied full A rect [] e l c = absurd (omega arith)
copied full A rect (p ∷ path) e l c =
    first_of (is_empty rect) (ltb (length (p ∷ path)) 3) (intersects rect (get_bounds_path (p ∷ path))) (contains_rect rect (get_bounds_path (p ∷ path))) _ _ _ _ _ e (le-ltb (length (p ∷ path)) 3 l) (contained_meets rect p path c) c

-- A closed path whose bounds miss the rectangle gives nothing.
pub missed : MissedClosed
unfolding execute
missed full A rect path e = all_of (is_empty rect) (ltb (length path) 3) (intersects rect (get_bounds_path path)) _ _ e

-- So does an open one.
pub missed_open : MissedOpen
unfolding execute_lines
missed_open full rect path e = all_of (is_empty rect) false (intersects rect (get_bounds_path path)) _ _ e

-- An empty rectangle gives nothing either way.
pub under_empty : (full : ℕ → Bool) (A : ℕ) (rect : Rect64) (path : List Point64) → is_empty rect ≡ true → (execute full A rect path ≡ ok ([], 0)) × (execute_lines full rect path ≡ ok [])
unfolding execute execute_lines
under_empty full A rect path e = (cond_true (is_empty rect) _ _ e, cond_true (is_empty rect) _ _ e)
