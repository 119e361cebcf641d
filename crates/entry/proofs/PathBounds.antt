-- A path's bounds: the loop that grows them, and that all coordinates are within the limit exactly if the path has no points or its bounds are. Assumes nothing.
use Rattle.std.specs.Prelude.{if◌then◌else◌}
use mathlib.Core.Path.{◌≡◌, refl, sym, ap, ◌∙◌, subst}
use mathlib.Core.Bool.{Bool, true, false, ◌&&◌}
use mathlib.Core.Logic.{⊎_elim}
use mathlib.Core.List.{List, [], ◌∷◌}
use Prim.Native.Nat.{◌-◌, ◌%◌, ◌≤◌, ◌<◌}
use native.Mathlib.Omega.{arith}
use lib.Dec.{T, leb→le, le→leb}
use lib.IntN.{ℤ, pos, nat_abs}
use lib.ListN.{length, take, drop, get_or}
use Rattle.std.proofs.lemmas.List.{take_all}
use lib.Signed.{lt_z, ◌≤ℤ◌, ◌<ℤ◌}
use Rattle.integers.specs.Order.{zint, abs_pn, parts}
use Rattle.integers.specs.Tests.{ltZ_true, ltZ_false, lt_ltZ, cond_true}
use Rattle.plane.specs.Limit.{in_limit, all_in_limit, rect_in_limit, LimitedRect}
use Rattle.plane.specs.Points.{point, points_of, coordinates_of}
use Rattle.plane.specs.Rectangle.{grown, bounds_from, no_bounds, get_bounds_path}
use Rattle.plane.proofs.Limits.{rect_limited}
use Rattle.plane.specs.declared.point.Point64.{Point64}
use Rattle.plane.specs.declared.rect.Rect64.{Rect64}
use Rattle.entry.specs.declared.survey.Extent.{Extent}
use Rattle.entry.specs.Survey.{survey, BoundsTellLimit}

-- ---- the loop
-- one turn: what the bounds and the points that are left come to, the bounds with the next point and the points behind it do
pub grow_step : (left : List ℤ) (s : Rect64) → 2 ≤ length left → {t : Rect64} → t ≡ grown s (point (get_or left 0 (pos 0)) (get_or left 1 (pos 0))) → {goal : Rect64}
    → bounds_from s (points_of left) ≡ goal → bounds_from t (points_of (take (length left - 2) (drop 2 left))) ≡ goal
grow_step [] s h e g = absurd (omega arith)
grow_step (x ∷ []) s h e g = absurd (omega arith)
grow_step (x ∷ y ∷ left) s h e g =
    let all : take (length (x ∷ y ∷ left) - 2) left ≡ left = take_all _ left (omega arith) in
    rw (all, e) g

-- no point is left
pub grow_short : (left : List ℤ) (s : Rect64) → length left < 2 → bounds_from s (points_of left) ≡ s
grow_short [] s h = refl
grow_short (x ∷ []) s h = refl
grow_short (x ∷ y ∷ left) s h = absurd (omega arith)

-- ---- one axis: the lower and the upper bound with one more number
abbrev low : ℤ → ℤ → ℤ
low z l = if lt_z z l then z else l

abbrev high : ℤ → ℤ → ℤ
high z r = if lt_z r z then z else r

abbrev In : ℤ → Type 0
In z = nat_abs z ≤ 33554432

between : (a b c : ℤ) → a ≤ℤ b → b ≤ℤ c → In a → In c → In b
between a b c h k u v =
    ⊎_elim (λ e. omega (zint, abs_pn a, abs_pn b, abs_pn c)) (λ e. omega (zint, abs_pn a, abs_pn b, abs_pn c)) (parts b)

pub record Axis (l z r : ℤ) : Type 0 where
  pub lowest : In l
  pub number : In z
  pub highest : In r

-- bounds that are within the limit with one more number were before, and the number is
axis_in : (l z r : ℤ) → l ≤ℤ r → In (low z l) → In (high z r) → Axis l z r
axis_in l z r o = go (lt_z z l) refl (lt_z r z) refl
  where
    go : (s : Bool) → lt_z z l ≡ s → (t : Bool) → lt_z r z ≡ t → In (if s then z else l) → In (if t then z else r) → Axis l z r
    go true p true q u v =
        let a = ltZ_true {a = z} {b = l} p in
        let b = ltZ_true {a = r} {b = z} q in
        record { lowest = between z l z (omega zint) (omega zint) u v; number = u; highest = between z r z (omega zint) (omega zint) u v }
    go true p false q u v =
        let a = ltZ_true {a = z} {b = l} p in
        record { lowest = between z l r (omega zint) o u v; number = u; highest = v }
    go false p true q u v =
        let b = ltZ_true {a = r} {b = z} q in
        record { lowest = u; number = v; highest = between l r z o (omega zint) u v }
    go false p false q u v =
        let a = ltZ_false {a = z} {b = l} p in
        let b = ltZ_false {a = r} {b = z} q in
        record { lowest = u; number = between l z r a b u v; highest = v }

choose : (b : Bool) (x y : ℤ) → In x → In y → In (if b then x else y)
choose true x y u v = u
choose false x y u v = v

axis_order : (l z r : ℤ) → l ≤ℤ r → low z l ≤ℤ high z r
axis_order l z r o = go (lt_z z l) refl (lt_z r z) refl
  where
    go : (s : Bool) → lt_z z l ≡ s → (t : Bool) → lt_z r z ≡ t → (if s then z else l) ≤ℤ (if t then z else r)
    go true p true q = omega zint
    go true p false q = let a = ltZ_true {a = z} {b = l} p in omega zint
    go false p true q = let b = ltZ_true {a = r} {b = z} q in omega zint
    go false p false q = o

-- of the first number, with `i64::MAX` and `i64::MIN` for the bounds of nothing
first_in : (z : ℤ) → In (low z no_bounds.left) → In (high z no_bounds.right) → In z
first_in z u v = go (lt_z z no_bounds.left) refl u v
  where
    far : In no_bounds.left → ⊥
    far h = omega arith

    go : (s : Bool) → lt_z z no_bounds.left ≡ s → In (if s then z else no_bounds.left) → In (high z no_bounds.right) → In z
    go true p u v = u
    go false p u v = absurd (far u)

below_max : (z : ℤ) → In z → z <ℤ no_bounds.left
below_max z u = ⊎_elim (λ e. omega (zint, abs_pn z)) (λ e. omega (zint, abs_pn z)) (parts z)

above_min : (z : ℤ) → In z → no_bounds.right <ℤ z
above_min z u = ⊎_elim (λ e. omega (zint, abs_pn z)) (λ e. omega (zint, abs_pn z)) (parts z)

first_out : (z : ℤ) → In z → In (low z no_bounds.left) × In (high z no_bounds.right)
first_out z u = (
  subst In (sym (cond_true (lt_z z no_bounds.left) z no_bounds.left (lt_ltZ z no_bounds.left (below_max z u)))) u,
  subst In (sym (cond_true (lt_z no_bounds.right z) z no_bounds.right (lt_ltZ no_bounds.right z (above_min z u)))) u,
)

first_order : (z : ℤ) → low z no_bounds.left ≤ℤ high z no_bounds.right
first_order z = go (lt_z z no_bounds.left) refl (lt_z no_bounds.right z) refl
  where
    go : (s : Bool) → lt_z z no_bounds.left ≡ s → (t : Bool) → lt_z no_bounds.right z ≡ t → (if s then z else no_bounds.left) ≤ℤ (if t then z else no_bounds.right)
    go true p true q = omega zint
    go true p false q = let b = ltZ_false {a = no_bounds.right} {b = z} q in b
    go false p true q = let a = ltZ_false {a = z} {b = no_bounds.left} p in a
    go false p false q =
        let a = ltZ_false {a = z} {b = no_bounds.left} p in
        let b = ltZ_false {a = no_bounds.right} {b = z} q in
        omega zint

-- ---- both axes
pub record Ordered (s : Rect64) : Type 0 where
  pub wide : s.left ≤ℤ s.right
  pub tall : s.top ≤ℤ s.bottom

grown_ordered : (s : Rect64) (p : Point64) → Ordered s → Ordered (grown s p)
grown_ordered s p o = record { wide = axis_order s.left p.x s.right o.wide; tall = axis_order s.top p.y s.bottom o.tall }

grown_in : (s : Rect64) (p : Point64) → Ordered s → LimitedRect (grown s p) → LimitedRect s × (In p.x × In p.y)
grown_in s p o l =
    let a = axis_in s.left p.x s.right o.wide l.left l.right in
    let b = axis_in s.top p.y s.bottom o.tall l.top l.bottom in
    (record { left = a.lowest; top = b.lowest; right = a.highest; bottom = b.highest }, (a.number, b.number))

grown_out : (s : Rect64) (p : Point64) → LimitedRect s → In p.x → In p.y → LimitedRect (grown s p)
grown_out s p l u v = record {
  left = choose (lt_z p.x s.left) p.x s.left u l.left;
  top = choose (lt_z p.y s.top) p.y s.top v l.top;
  right = choose (lt_z s.right p.x) p.x s.right u l.right;
  bottom = choose (lt_z s.bottom p.y) p.y s.bottom v l.bottom;
}

-- ---- the whole path
pub record Within (path : List Point64) (s : Rect64) : Type 0 where
  pub coordinates : T (all_in_limit (coordinates_of path))
  pub bounds : LimitedRect s

and_in : (a b : Bool) → T a → T b → T (a && b)
and_in true true u v = tt
and_in false b u v = elim u [ ]
and_in true false u v = elim v [ ]

and_out : (a b : Bool) → T (a && b) → T a × T b
and_out true b t = (tt, t)
and_out false b t = absurd t

point_in : (p : Point64) (path : List Point64) → In p.x → In p.y → T (all_in_limit (coordinates_of path)) → T (all_in_limit (coordinates_of (p ∷ path)))
point_in p path u v t =
    and_in (in_limit p.x) (in_limit p.y && all_in_limit (coordinates_of path)) (le→leb _ _ u) (and_in (in_limit p.y) (all_in_limit (coordinates_of path)) (le→leb _ _ v) t)

point_out : (p : Point64) (path : List Point64) → T (all_in_limit (coordinates_of (p ∷ path))) → In p.x × (In p.y × T (all_in_limit (coordinates_of path)))
point_out p path t =
    let u = and_out (in_limit p.x) (in_limit p.y && all_in_limit (coordinates_of path)) t in
    let v = and_out (in_limit p.y) (all_in_limit (coordinates_of path)) u.1 in
    (leb→le _ _ u.0, (leb→le _ _ v.0, v.1))

from_in : (s : Rect64) (path : List Point64) → Ordered s → LimitedRect (bounds_from s path) → Within path s
from_in s [] o l = record { coordinates = tt; bounds = l }
from_in s (p ∷ path) o l =
    let w = from_in (grown s p) path (grown_ordered s p o) l in
    let g = grown_in s p o w.bounds in
    record { coordinates = point_in p path g.1.0 g.1.1 w.coordinates; bounds = g.0 }

from_out : (s : Rect64) (path : List Point64) → T (all_in_limit (coordinates_of path)) → LimitedRect s → LimitedRect (bounds_from s path)
from_out s [] t l = l
from_out s (p ∷ path) t l = let q = point_out p path t in from_out (grown s p) path q.1.1 (grown_out s p l q.0 q.1.0)

all_in : (p : Point64) (path : List Point64) → LimitedRect (get_bounds_path (p ∷ path)) → T (all_in_limit (coordinates_of (p ∷ path)))
unfolding get_bounds_path
all_in p path l =
    let w = from_in (grown no_bounds p) path (record { wide = first_order p.x; tall = first_order p.y }) l in
    point_in p path (first_in p.x w.bounds.left w.bounds.right) (first_in p.y w.bounds.top w.bounds.bottom) w.coordinates

all_out : (p : Point64) (path : List Point64) → T (all_in_limit (coordinates_of (p ∷ path))) → LimitedRect (get_bounds_path (p ∷ path))
unfolding get_bounds_path
all_out p path t =
    let q = point_out p path t in
    let u = first_out p.x q.0 in
    let v = first_out p.y q.1.0 in
    from_out (grown no_bounds p) path q.1.1 (record { left = u.0; top = v.0; right = u.1; bottom = v.1 })

limited_rect : (r : Rect64) → LimitedRect r → T (rect_in_limit r)
limited_rect r l =
    and_in (in_limit r.left && in_limit r.top && in_limit r.right) (in_limit r.bottom)
    (and_in (in_limit r.left && in_limit r.top) (in_limit r.right) (and_in (in_limit r.left) (in_limit r.top) (le→leb _ _ l.left) (le→leb _ _ l.top)) (le→leb _ _ l.right))
    (le→leb _ _ l.bottom)

same : (a b : Bool) → (T a → T b) → (T b → T a) → a ≡ b
same true true f g = refl
same true false f g = absurd (f tt)
same false true f g = absurd (g tt)
same false false f g = refl

-- Bounds with one more point are within the limit exactly if the bounds before are and the point is; the bounds of nothing take the first
-- point whole.
pub bounds_tell_limit : BoundsTellLimit
bounds_tell_limit [] h = absurd (omega arith)
bounds_tell_limit (p ∷ path) h =
    same (rect_in_limit (get_bounds_path (p ∷ path))) (all_in_limit (coordinates_of (p ∷ path)))
    (λ t. all_in p path (rect_limited (get_bounds_path (p ∷ path)) t))
    (λ t. limited_rect (get_bounds_path (p ∷ path)) (all_out p path t))

-- ---- what `survey` tells
-- of a path without points
pub surveyed_none : (c : List ℤ) → length c < 2 → {b : Rect64} → b ≡ get_bounds_path (points_of c) → ◌≡◌ {A = Extent} (record { bounds = b; in_limit = true }) (survey (points_of c))
surveyed_none c n h = λ i. record { bounds = h i; in_limit = all_within c n i }
  where
    all_within : (c : List ℤ) → length c < 2 → true ≡ all_in_limit (coordinates_of (points_of c))
    all_within [] n = refl
    all_within (x ∷ []) n = refl
    all_within (x ∷ y ∷ c) n = absurd (omega arith)

-- and of one with points
pub surveyed_some : (c : List ℤ) → 2 ≤ length c → {b : Rect64} → b ≡ get_bounds_path (points_of c) → {t : Bool} → t ≡ rect_in_limit b → ◌≡◌ {A = Extent} (record { bounds = b; in_limit = t }) (survey (points_of c))
surveyed_some c n h g = λ i. record { bounds = h i; in_limit = (g ∙ ap (λ (r : Rect64). rect_in_limit r) h ∙ bounds_tell_limit (points_of c) (has_points c n)) i }
  where
    has_points : (c : List ℤ) → 2 ≤ length c → 0 < length (points_of c)
    has_points [] n = absurd (omega arith)
    has_points (x ∷ []) n = absurd (omega arith)
    has_points (x ∷ y ∷ c) n = omega arith

-- coordinates in pairs are those of their points
coordinates_back : (c : List ℤ) → length c % 2 ≡ 0 → coordinates_of (points_of c) ≡ c
coordinates_back [] e = refl
coordinates_back (x ∷ []) e = absurd (omega arith)
coordinates_back (x ∷ y ∷ c) e = ap (λ (l : List ℤ). x ∷ y ∷ l) (coordinates_back c (omega arith))

module _ (c : List ℤ) {e : Extent} (h : e ≡ survey (points_of c)) where
  pub surveyed_bounds : e.bounds ≡ get_bounds_path (points_of c)
  surveyed_bounds = ap (λ (x : Extent). x.bounds) h

  pub surveyed_limit : length c % 2 ≡ 0 → e.in_limit ≡ all_in_limit c
  surveyed_limit v = ap (λ (x : Extent). x.in_limit) h ∙ ap all_in_limit (coordinates_back c v)
