-- What the tests of points against a rectangle say: a point on an edge, and each point of a path whose bounds are contained, is beyond no side.
use mathlib.Core.Path.{◌≡◌, refl}
use mathlib.Core.Bool.{Bool, true, false, cond, ◌&&◌}
use mathlib.Core.List.{List, [], ◌∷◌}
use lib.IntN.{ℤ}
use lib.Signed.{lt_z, le_z, ◌≤ℤ◌, ◌<ℤ◌}
use Rattle.integers.specs.Order.{zint}
use Rattle.integers.specs.Tests.{eq_z, ztest, le_ltZ, leZ_false}
use Rattle.plane.specs.declared.point.Point64.{Point64}
use Rattle.plane.specs.declared.rect.Rect64.{Rect64}
use Rattle.plane.specs.declared.location.Spot.{Spot}
use Rattle.plane.specs.Rectangle.{no_bounds, get_location, is_empty, contains_rect, grown, bounds_from, get_bounds_path}
use Rattle.theorems.proofs.Holds.{All}
use Rattle.theorems.proofs.Points.{WithinSides}
use Rattle.theorems.proofs.Tests.{never, neither}

-- one case of a chain of tests
chain : {W : Type 0} (b : Bool) (s t : Spot) → (b ≡ true → s.off ≡ false → W) → (t.off ≡ false → W) → (cond b s t).off ≡ false → W
chain true s t h k e = h refl e
chain false s t h k e = k e

pub within : (r : Rect64) (p : Point64) → r.left ≤ℤ p.x → p.x ≤ℤ r.right → r.top ≤ℤ p.y → p.y ≤ℤ r.bottom → WithinSides r p
within r p h k l m = record {
  left = le_ltZ p.x r.left h;
  right = le_ltZ r.right p.x k;
  bottom = le_ltZ r.bottom p.y m;
  top = le_ltZ p.y r.top l;
}

module _ (r : Rect64) (not_empty : is_empty r ≡ false) where
  wide : r.left <ℤ r.right
  wide = leZ_false (neither (le_z r.right r.left) (le_z r.bottom r.top) not_empty).0

  high : r.top <ℤ r.bottom
  high = leZ_false (neither (le_z r.right r.left) (le_z r.bottom r.top) not_empty).1

  pub on_edge : (p : Point64) → (get_location r p).off ≡ false → WithinSides r p
  unfolding get_location
  on_edge p =
      chain (eq_z p.x r.left && le_z r.top p.y && le_z p.y r.bottom) _ _
      (λ b _. let t = three (eq_z p.x r.left) (le_z r.top p.y) (le_z p.y r.bottom) b in let w = wide in let e = t.0 in let f = t.1 in let g = t.2 in within r p (omega ztest) (omega ztest) (omega ztest) (omega ztest))
      (chain (eq_z p.x r.right && le_z r.top p.y && le_z p.y r.bottom) _ _
      (λ b _. let t = three (eq_z p.x r.right) (le_z r.top p.y) (le_z p.y r.bottom) b in let w = wide in let e = t.0 in let f = t.1 in let g = t.2 in within r p (omega ztest) (omega ztest) (omega ztest) (omega ztest))
      (chain (eq_z p.y r.top && le_z r.left p.x && le_z p.x r.right) _ _
      (λ b _. let t = three (eq_z p.y r.top) (le_z r.left p.x) (le_z p.x r.right) b in let w = high in let e = t.0 in let f = t.1 in let g = t.2 in within r p (omega ztest) (omega ztest) (omega ztest) (omega ztest))
      (chain (eq_z p.y r.bottom && le_z r.left p.x && le_z p.x r.right) _ _
      (λ b _. let t = three (eq_z p.y r.bottom) (le_z r.left p.x) (le_z p.x r.right) b in let w = high in let e = t.0 in let f = t.1 in let g = t.2 in within r p (omega ztest) (omega ztest) (omega ztest) (omega ztest))
      (chain (lt_z p.x r.left) _ _ (λ _ e. never refl e)
      (chain (lt_z r.right p.x) _ _ (λ _ e. never refl e)
      (chain (lt_z p.y r.top) _ _ (λ _ e. never refl e)
      (chain (lt_z r.bottom p.y) _ _ (λ _ e. never refl e) (λ e. never refl e))))))))
    where
      three : (a b c : Bool) → (a && b && c) ≡ true → (a ≡ true) × (b ≡ true) × (c ≡ true)
      three true true true e = (refl, refl, refl)
      three true true false e = never e refl
      three true false c e = never e refl
      three false b c e = never e refl

-- ---- bounds
pub record Inner (s t : Rect64) : Type 0 where
  pub left : t.left ≤ℤ s.left
  pub top : t.top ≤ℤ s.top
  pub right : s.right ≤ℤ t.right
  pub bottom : s.bottom ≤ℤ t.bottom

min_le : (a b : ℤ) → (cond (lt_z a b) a b ≤ℤ a) × (cond (lt_z a b) a b ≤ℤ b)
min_le a b = go (lt_z a b) refl
  where
    go : (t : Bool) → lt_z a b ≡ t → (cond t a b ≤ℤ a) × (cond t a b ≤ℤ b)
    go true e = (omega ztest, omega ztest)
    go false e = (omega ztest, omega ztest)

max_le : (a b : ℤ) → (b ≤ℤ cond (lt_z a b) b a) × (a ≤ℤ cond (lt_z a b) b a)
max_le a b = go (lt_z a b) refl
  where
    go : (t : Bool) → lt_z a b ≡ t → (b ≤ℤ cond t b a) × (a ≤ℤ cond t b a)
    go true e = (omega ztest, omega ztest)
    go false e = (omega ztest, omega ztest)

grown_inner : (s : Rect64) (p : Point64) → Inner s (grown s p)
grown_inner s p = record { left = (min_le p.x s.left).1; top = (min_le p.y s.top).1; right = (max_le s.right p.x).1; bottom = (max_le s.bottom p.y).1 }

inner_trans : (s t u : Rect64) → Inner s t → Inner t u → Inner s u
inner_trans s t u h k =
    let a = h.left in let b = k.left in let c = h.top in let d = k.top in let e = h.right in let f = k.right in let g = h.bottom in let i = k.bottom in
    record { left = omega zint; top = omega zint; right = omega zint; bottom = omega zint }

from_inner : (s : Rect64) (path : List Point64) → Inner s (bounds_from s path)
from_inner s [] = record { left = omega zint; top = omega zint; right = omega zint; bottom = omega zint }
from_inner s (p ∷ path) = inner_trans s (grown s p) (bounds_from (grown s p) path) (grown_inner s p) (from_inner (grown s p) path)

abbrev pub In : Rect64 → Point64 → Type 0
In t p = (t.left ≤ℤ p.x) × (p.x ≤ℤ t.right) × (t.top ≤ℤ p.y) × (p.y ≤ℤ t.bottom)

pub all_in : (s : Rect64) (path : List Point64) → All (In (bounds_from s path)) path
all_in s [] = tt
all_in s (p ∷ path) =
    let k = from_inner (grown s p) path in
    let a = k.left in let b = k.top in let c = k.right in let d = k.bottom in
    let e = (min_le p.x s.left).0 in let f = (min_le p.y s.top).0 in let g = (max_le s.right p.x).0 in let h = (max_le s.bottom p.y).0 in
    ((omega zint, omega zint, omega zint, omega zint), all_in (grown s p) path)

pub four : (a b c d : Bool) → (a && b && c && d) ≡ true → (a ≡ true) × (b ≡ true) × (c ≡ true) × (d ≡ true)
four true true true true e = (refl, refl, refl, refl)
four true true true false e = never e refl
four true true false d e = never e refl
four true false c d e = never e refl
four false b c d e = never e refl

inside : (r t : Rect64) (ps : List Point64) → contains_rect r t ≡ true → All (In t) ps → All (WithinSides r) ps
inside r t [] e h = tt
inside r t (p ∷ ps) e h =
    let f = four (le_z r.left t.left) (le_z t.right r.right) (le_z r.top t.top) (le_z t.bottom r.bottom) e in
    let a = f.0 in let b = f.1 in let c = f.2 in let d = f.3 in
    let u = h.0.0 in let v = h.0.1 in let w = h.0.2 in let x = h.0.3 in
    (within r p (omega ztest) (omega ztest) (omega ztest) (omega ztest), inside r t ps e h.1)

pub contained : (r : Rect64) (path : List Point64) → contains_rect r (get_bounds_path path) ≡ true → All (WithinSides r) path
unfolding get_bounds_path
contained r path e = inside r (bounds_from no_bounds path) path e (all_in no_bounds path)

-- the bounds of a path with a point are the right way round
pub bounds_order : (p : Point64) (path : List Point64) → let b = get_bounds_path (p ∷ path) in (b.left ≤ℤ b.right) × (b.top ≤ℤ b.bottom)
unfolding get_bounds_path
bounds_order p path =
    let h = (all_in no_bounds (p ∷ path)).0 in
    let u = h.0 in let v = h.1 in let w = h.2 in let x = h.3 in
    (omega zint, omega zint)
