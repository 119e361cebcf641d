-- The search of the definitions is the search of the geometry: within the coordinate limit, on a proper rectangle, with the crossing in floats for `Calc`.
use mathlib.Core.Path.{◌≡◌, refl, sym, ◌∙◌, ap}
use mathlib.Core.Bool.{Bool, true, false, cond, ◌&&◌, ◌||◌, beq}
use mathlib.Core.Logic.{inl, inr}
use Prim.Native.Nat.{ℕ, zero, suc, ◌<◌, suc-le-suc, zero-le}
use native.Mathlib.Omega.{arith}
use lib.IntN.{ℤ, pos, negsuc, nat_abs, ◌-ℤ◌, ◌*ℤ◌}
use lib.Ieee.{eq, le}
use lib.Signed.{lt_z, <ℤ_irrefl}
use Rattle.integers.specs.Tests.{eq_z, ltZ_sub, ltZ_sub'}
use Rattle.rounding.specs.Coordinate.{zero_f, one_f}
use Rattle.rounding.proofs.Inside.{not_eq_zero}
use Rattle.std.specs.Prelude.{Option, None, Some}
use Rattle.plane.specs.declared.crossing.SidePoint.{SidePoint}
use Rattle.plane.specs.declared.point.Point64.{Point64}
use Rattle.plane.specs.declared.crossing.Crossing.TheVariants.{At, Along}
use Rattle.plane.specs.Limit.{Limited, AllLimited, LimitedRect}
use Rattle.plane.specs.Segment.{determinant, fraction, working_of, crossing_of, settled_of, intersection}
use Rattle.theorems.proofs.Crossed.{determinant_is}
use Rattle.plane.specs.declared.rect.Rect64.{Rect64}
use Rattle.plane.specs.declared.location.Location.{Location}
use Rattle.plane.specs.declared.location.Location.TheVariants.{Left, Top, Right, Bottom, Inside}
use Rattle.plane.specs.Signs.{cross_product_sign}
use Rattle.plane.specs.Points.{origin}
use Rattle.plane.specs.Intersection.{found_at, at_end, get_segment_intersection, met, edge_intersection, ◌or_else◌, side_intersection, get_intersection}
use Rattle.theorems.proofs.GeoPlane.{sign, cross, zero?, up?, same, same_pt, on, Hit, none, known, proper, hit?, known?, segment, Side, on_left, on_top, on_right, on_bottom, loc, from, to, edge, Found as Finding, nothing, found, try, search, Proper}
use Rattle.theorems.proofs.GeoTell.{NonZero}
use Rattle.theorems.proofs.GeoCrossing.{det_non}
use Rattle.theorems.proofs.GeoWalk.{Calc, point}

sign_is : (p q r : Point64) → cross_product_sign p q r ≡ sign (cross p q r)
unfolding cross_product_sign
sign_is p q r = λ i. cond (sym (ltZ_sub cd ab) i) (pos 1) (cond (sym (ltZ_sub' cd ab) i) (negsuc 0) (pos 0))
  where
    ab : ℤ
    ab = (q.x -ℤ p.x) *ℤ (r.y -ℤ q.y)

    cd : ℤ
    cd = (q.y -ℤ p.y) *ℤ (r.x -ℤ q.x)

same_is : (a b : Bool) → beq a b ≡ same a b
same_is true true = refl
same_is true false = refl
same_is false true = refl
same_is false false = refl

-- what the definitions answer for a hit; f: the answer in floats
abbrev answer : Option Point64 → Hit → Option Point64
answer f none = None
answer f (known e) = Some e
answer f proper = f

at_end_is : (f : Option Point64) (p a b : Point64) → at_end p a b ≡ answer f (known? (on p a b) p)
unfolding at_end
at_end_is f p a b =
    (λ i. cond ends (Some p) (cond level (cond (same_is (lt_z a.x p.x) (lt_z p.x b.x) i) (Some p) None) (cond (same_is (lt_z a.y p.y) (lt_z p.y b.y) i) (Some p) None)))
    ∙ all ends level (same (lt_z a.x p.x) (lt_z p.x b.x)) (same (lt_z a.y p.y) (lt_z p.y b.y))
  where
    ends : Bool
    ends = same_pt p a || same_pt p b

    level : Bool
    level = eq_z a.y b.y

    all : (c h x y : Bool) → cond c (Some p) (cond h (cond x (Some p) None) (cond y (Some p) None)) ≡ answer f (known? (cond c true (cond h x y)) p)
    all true h x y = refl
    all false true true y = refl
    all false true false y = refl
    all false false x true = refl
    all false false x false = refl

segment_is : (p1 p2 p3 p4 : Point64) → get_segment_intersection p1 p2 p3 p4 ≡ answer (intersection p1 p2 p3 p4) (segment p1 p2 p3 p4)
unfolding get_segment_intersection
segment_is p1 p2 p3 p4 =
    (λ i. cond (eq_z (sign_is p1 p3 p4 i) (pos 0)) (cond (eq_z (sign_is p2 p3 p4 i) (pos 0)) None (at_end_is f p1 p3 p4 i))
    (cond (eq_z (sign_is p2 p3 p4 i) (pos 0)) (at_end_is f p2 p3 p4 i)
    (cond (same_is (lt_z (pos 0) (cross_product_sign p1 p3 p4)) (lt_z (pos 0) (cross_product_sign p2 p3 p4)) i) None
    (cond (eq_z (sign_is p3 p1 p2 i) (pos 0)) (at_end_is f p3 p1 p2 i)
    (cond (eq_z (sign_is p4 p1 p2 i) (pos 0)) (at_end_is f p4 p1 p2 i)
    (cond (same_is (lt_z (pos 0) (cross_product_sign p3 p1 p2)) (lt_z (pos 0) (cross_product_sign p4 p1 p2)) i) None f))))))
    ∙ (λ i. cond (zero? (cross p1 p3 p4)) (cond (zero? (cross p2 p3 p4)) None (answer f h1))
    (cond (zero? (cross p2 p3 p4)) (answer f h2)
    (cond (same (lt_z (pos 0) (sign_is p1 p3 p4 i)) (lt_z (pos 0) (sign_is p2 p3 p4 i))) None
    (cond (zero? (cross p3 p1 p2)) (answer f h3)
    (cond (zero? (cross p4 p1 p2)) (answer f h4)
    (cond (same (lt_z (pos 0) (sign_is p3 p1 p2 i)) (lt_z (pos 0) (sign_is p4 p1 p2 i))) None f))))))
    ∙ all (zero? (cross p1 p3 p4)) (zero? (cross p2 p3 p4)) (same (up? (cross p1 p3 p4)) (up? (cross p2 p3 p4))) (zero? (cross p3 p1 p2)) (zero? (cross p4 p1 p2)) (same (up? (cross p3 p1 p2)) (up? (cross p4 p1 p2)))
  where
    f : Option Point64
    f = intersection p1 p2 p3 p4

    h1 : Hit
    h1 = known? (on p1 p3 p4) p1

    h2 : Hit
    h2 = known? (on p2 p3 p4) p2

    h3 : Hit
    h3 = known? (on p3 p1 p2) p3

    h4 : Hit
    h4 = known? (on p4 p1 p2) p4

    all : (a b c d e g : Bool) → cond a (cond b None (answer f h1)) (cond b (answer f h2) (cond c None (cond d (answer f h3) (cond e (answer f h4) (cond g None f)))))
        ≡ answer f (cond a (cond b none h1) (cond b h2 (cond c none (cond d h3 (cond e h4 (cond g none proper))))))
    all true true c d e g = refl
    all true false c d e g = refl
    all false true c d e g = refl
    all false false true d e g = refl
    all false false false true e g = refl
    all false false false false true g = refl
    all false false false false false true = refl
    all false false false false false false = refl

-- ---- a crossing in floats is always found
abbrev pub at : Option Point64 → Point64
at None = origin
at (Some e) = e

-- the crossing in floats
abbrev pub floats : Calc
floats p q a b = at (intersection p q a b)

non_size : (z : ℤ) → NonZero z → 0 < nat_abs z
non_size (pos zero) (inl h) = absurd (<ℤ_irrefl h)
non_size (pos zero) (inr h) = absurd (<ℤ_irrefl h)
non_size (pos (suc n)) h = suc-le-suc zero-le
non_size (negsuc n) h = suc-le-suc zero-le

finds : (s : Location) (p q a b : Point64) → AllLimited p q a b → NonZero ((q.y -ℤ p.y) *ℤ (b.x -ℤ a.x) -ℤ (b.y -ℤ a.y) *ℤ (q.x -ℤ p.x))
    → met s (intersection p q a b) ≡ found_at (floats p q a b) s
unfolding intersection crossing_of working_of
finds s p q a b l h = go (eq (determinant p q a b) zero_f) (le (fraction p q a b) zero_f) (le one_f (fraction p q a b)) (not_eq_zero (determinant p q a b) _ (determinant_is p q a b l) (non_size _ h))
  where
    go : (z c d : Bool) → z ≡ false → met s (settled_of (cond z None (cond c (Some (At p)) (cond d (Some (At q)) (Some (Along (fraction p q a b)))))) (working_of p q a b))
        ≡ found_at (at (settled_of (cond z None (cond c (Some (At p)) (cond d (Some (At q)) (Some (Along (fraction p q a b)))))) (working_of p q a b))) s
    go true c d e = let z : ◌≡◌ {A = ℕ} 0 1 = cc in absurd (omega arith)
    go false true d e = refl
    go false false true e = refl
    go false false false e = refl

-- ---- the search
module _ (r : Rect64) (lr : LimitedRect r) (k : Proper r) (p q : Point64) (lp : Limited p) (lq : Limited q) where
  abbrev pub hit : Side → Hit → Option SidePoint
  hit s none = None
  hit s (known e) = found_at e (loc s)
  hit s proper = found_at (floats p q (from r s) (to r s)) (loc s)

  abbrev pub told : Finding → Option SidePoint
  told nothing = None
  told (found s h) = found_at (point floats r p q s h) (loc s)

  corners : (s : Side) → AllLimited p q (from r s) (to r s)
  corners on_left = record { start = lp; end = lq; edge = record { across = lr.left; down = lr.top }; far = record { across = lr.left; down = lr.bottom } }
  corners on_top = record { start = lp; end = lq; edge = record { across = lr.left; down = lr.top }; far = record { across = lr.right; down = lr.top } }
  corners on_right = record { start = lp; end = lq; edge = record { across = lr.right; down = lr.top }; far = record { across = lr.right; down = lr.bottom } }
  corners on_bottom = record { start = lp; end = lq; edge = record { across = lr.right; down = lr.bottom }; far = record { across = lr.left; down = lr.bottom } }

  met_is : (s : Side) (h : Hit) → edge r s p q ≡ h → met (loc s) (answer (intersection p q (from r s) (to r s)) h) ≡ hit s h
  met_is s none e = refl
  met_is s (known x) e = refl
  met_is s proper e = finds (loc s) p q (from r s) (to r s) (corners s) (det_non r k s p q e)

  pub edge_is : (s : Side) → edge_intersection r (loc s) p q ≡ hit s (edge r s p q)
  unfolding edge_intersection
  edge_is on_left = ap (met Left) (segment_is p q (from r on_left) (to r on_left)) ∙ met_is on_left (edge r on_left p q) refl
  edge_is on_top = ap (met Top) (segment_is p q (from r on_top) (to r on_top)) ∙ met_is on_top (edge r on_top p q) refl
  edge_is on_right = ap (met Right) (segment_is p q (from r on_right) (to r on_right)) ∙ met_is on_right (edge r on_right p q) refl
  edge_is on_bottom = ap (met Bottom) (segment_is p q (from r on_bottom) (to r on_bottom)) ∙ met_is on_bottom (edge r on_bottom p q) refl

  try_is : (s : Side) (h : Hit) (rest : Finding) → (hit s h or_else told rest) ≡ told (cond (hit? h) (found s h) rest)
  try_is s none rest = refl
  try_is s (known e) rest = refl
  try_is s proper rest = refl

  guard_is : (g : Bool) (s : Side) (h : Hit) (rest : Finding) → (cond g (hit s h) None or_else told rest) ≡ told (cond (g && hit? h) (found s h) rest)
  guard_is true s h rest = try_is s h rest
  guard_is false s h rest = refl

  alone : (s : Side) (h : Hit) → hit s h ≡ told (cond (hit? h) (found s h) nothing)
  alone s none = refl
  alone s (known e) = refl
  alone s proper = refl

  -- a side, the neighbour that is tried if p is beyond it, and the last
  three : (g : Bool) (s t u : Side)
      → (edge_intersection r (loc s) p q or_else cond g (edge_intersection r (loc t) p q) None or_else edge_intersection r (loc u) p q)
      ≡ told (try r p q s (cond (g && hit? (edge r t p q)) (found t (edge r t p q)) (try r p q u nothing)))
  three g s t u =
      (λ i. edge_is s i or_else cond g (edge_is t i) None or_else (edge_is u ∙ alone u (edge r u p q)) i)
      ∙ ap (λ (z : Option SidePoint). hit s (edge r s p q) or_else z) (guard_is g t (edge r t p q) (try r p q u nothing))
      ∙ try_is s (edge r s p q) (cond (g && hit? (edge r t p q)) (found t (edge r t p q)) (try r p q u nothing))

  pub search_told : (l : Location) → get_intersection r p q l ≡ told (search r p q l)
  unfolding get_intersection side_intersection
  search_told Left = three (lt_z p.y r.top) on_left on_top on_bottom
  search_told Top = three (lt_z p.x r.left) on_top on_left on_right
  search_told Right = three (lt_z p.y r.top) on_right on_top on_bottom
  search_told Bottom = three (lt_z p.x r.left) on_bottom on_left on_right
  search_told Inside =
      (λ i. edge_is on_left i or_else edge_is on_top i or_else edge_is on_right i or_else (edge_is on_bottom ∙ alone on_bottom (edge r on_bottom p q)) i)
      ∙ ap (λ (z : Option SidePoint). hit on_left (edge r on_left p q) or_else hit on_top (edge r on_top p q) or_else z) (try_is on_right (edge r on_right p q) (try r p q on_bottom nothing))
      ∙ ap (λ (z : Option SidePoint). hit on_left (edge r on_left p q) or_else z) (try_is on_top (edge r on_top p q) (try r p q on_right (try r p q on_bottom nothing)))
      ∙ try_is on_left (edge r on_left p q) (try r p q on_top (try r p q on_right (try r p q on_bottom nothing)))
