-- A segment that passes an edge, in coordinates across the edge and along it, which are x and y for an upright edge and y and x for a level one: its exact crossing
-- lies strictly between the edge's ends. Assumes nothing.
use mathlib.Core.Path.{◌≡◌, subst}
use mathlib.Core.Bool.{Bool, true, false, cond, not, beq}
use mathlib.Core.Logic.{◌⊎◌, inl, inr}
use Prim.Native.Nat.{ℕ, ◌<◌}
use lib.IntN.{ℤ, pos, nat_abs, ◌-ℤ◌, ◌*ℤ◌}
use lib.Signed.{lt_z, ◌<ℤ◌}
use Rattle.integers.specs.Order.{zint}
use Rattle.integers.specs.Tests.{eq_z}
use Rattle.rounding.specs.Coordinate.{exact, Crosses, is_negative}
use Rattle.rounding.proofs.Exact.{none, left_product}
use Rattle.rounding.proofs.Edge.{crosses_of_signs}
use Rattle.rounding.proofs.Along.{strictly_between_ends}
use Rattle.plane.specs.declared.point.Point64.{Point64}
use Rattle.plane.specs.Signs.{cross_product_sign}
use Rattle.theorems.proofs.CrossingSigns.{sgn_facts, sgn_facts', differ, differ_back, unlike_plain, unlike_first, Ends, scaled}

-- The segment's first coordinates are across the edge, which is at x3 and runs between lo and hi: it passes the edge, and no end of one is on the other.
pub record Passed (x1 y1 x2 y2 x3 lo hi : ℤ) : Type 0 where
  pub crosses : Crosses x1 x3 x2
  pub behind_low : (lo *ℤ pos (nat_abs (x1 -ℤ x2))) <ℤ exact y1 y2 (nat_abs (x1 -ℤ x3)) (nat_abs (x1 -ℤ x2))
  pub before_high : exact y1 y2 (nat_abs (x1 -ℤ x3)) (nat_abs (x1 -ℤ x2)) <ℤ (hi *ℤ pos (nat_abs (x1 -ℤ x2)))

strictly_ordered : (u v w lo hi : ℤ) (d : ℕ) → lo <ℤ hi → Ends v w lo hi → (((v *ℤ pos d) <ℤ u) × (u <ℤ (w *ℤ pos d))) ⊎ (((w *ℤ pos d) <ℤ u) × (u <ℤ (v *ℤ pos d)))
    → ((lo *ℤ pos d) <ℤ u) × (u <ℤ (hi *ℤ pos d))
strictly_ordered u v w lo hi d l (inl e) (inl h) = (subst (λ (z : ℤ). (z *ℤ pos d) <ℤ u) e.0 h.0, subst (λ (z : ℤ). u <ℤ (z *ℤ pos d)) e.1 h.1)
strictly_ordered u v w lo hi d l (inr e) (inr h) = (subst (λ (z : ℤ). (z *ℤ pos d) <ℤ u) e.1 h.0, subst (λ (z : ℤ). u <ℤ (z *ℤ pos d)) e.0 h.1)
strictly_ordered u v w lo hi d l (inl e) (inr h) =
    let a = subst (λ (z : ℤ). (z *ℤ pos d) <ℤ u) e.1 h.0 in
    let b = subst (λ (z : ℤ). u <ℤ (z *ℤ pos d)) e.0 h.1 in
    let c = scaled lo hi d (omega zint) in
    (omega zint, omega zint)
strictly_ordered u v w lo hi d l (inr e) (inl h) =
    let a = subst (λ (z : ℤ). (z *ℤ pos d) <ℤ u) e.0 h.0 in
    let b = subst (λ (z : ℤ). u <ℤ (z *ℤ pos d)) e.1 h.1 in
    let c = scaled lo hi d (omega zint) in
    (omega zint, omega zint)

-- ---- the tests of `get_segment_intersection`: p is off the line through q and r; a and b are on either side of it
abbrev pub Off : Point64 → Point64 → Point64 → Type 0
Off p q r = eq_z (cross_product_sign p q r) (pos 0) ≡ false

abbrev pub EitherSide : Point64 → Point64 → Point64 → Point64 → Type 0
EitherSide a b q r = beq (lt_z (pos 0) (cross_product_sign a q r)) (lt_z (pos 0) (cross_product_sign b q r)) ≡ false

-- what `0 < sign` says of a number that is negative or not: of the difference of the two products, or, where it is not the plain one, of the difference turned round
abbrev pub told : Bool → Bool → Bool
told plain negative = cond plain (not negative) negative

-- two signs that differ
unlike : (plain x y s t : Bool) → beq x y ≡ false → x ≡ told plain s → y ≡ told plain t → s ≡ not t
unlike true = differ
unlike false = unlike_first

unlike_back : (plain x y s t : Bool) → beq x y ≡ false → x ≡ told plain s → y ≡ told plain t → t ≡ not s
unlike_back true = differ_back
unlike_back false = unlike_plain

-- ---- coordinates across an edge and along it, and what the tests say in them; the cross product's sign is turned round by the exchange
pub record Axes : Type 0 where
  pub across : Point64 → ℤ
  pub along : Point64 → ℤ
  pub plain : Bool
  pub off : (p q r : Point64) → Off p q r
      → (0 < nat_abs ((across q -ℤ across p) *ℤ (along r -ℤ along q) -ℤ (along q -ℤ along p) *ℤ (across r -ℤ across q)))
      × (lt_z (pos 0) (cross_product_sign p q r) ≡ told plain (is_negative ((across q -ℤ across p) *ℤ (along r -ℤ along q) -ℤ (along q -ℤ along p) *ℤ (across r -ℤ across q))))

-- the edge from c to d lies on one line, between lo and hi; the segment goes from a to b
module _ (A : Axes) (a b c d : Point64) (lo hi : ℤ) (e : A.across d ≡ A.across c) (ends : Ends (A.along c) (A.along d) lo hi) (l : lo <ℤ hi) where
  abbrev x : Point64 → ℤ
  x = A.across

  abbrev y : Point64 → ℤ
  y = A.along

  pub long : y d ≡ y c → ⊥
  long q = go ends
    where
      go : Ends (y c) (y d) lo hi → ⊥
      go (inl h) = let u = h.0 in let v = h.1 in omega zint
      go (inr h) = let u = h.0 in let v = h.1 in omega zint

  off_value : (p : Point64) → Off p c d → (0 < nat_abs ((x c -ℤ x p) *ℤ (y d -ℤ y c))) × (lt_z (pos 0) (cross_product_sign p c d) ≡ told A.plain (is_negative ((x c -ℤ x p) *ℤ (y d -ℤ y c))))
  off_value p h =
      subst (λ (z : ℤ). (0 < nat_abs z) × (lt_z (pos 0) (cross_product_sign p c d) ≡ told A.plain (is_negative z)))
      (left_product (x c -ℤ x p) (y d -ℤ y c) (y c -ℤ y p) (x d -ℤ x c) (none (x d) (x c) e)) (A.off p c d h)

  -- the segment's ends are on either side of the edge's line
  crosses : Off a c d → Off b c d → EitherSide a b c d → Crosses (x a) (x c) (x b)
  crosses z1 z2 n12 =
      let v1 = off_value a z1 in
      let v2 = off_value b z2 in
      crosses_of_signs (x a) (x c) (x b) (y d -ℤ y c) v1.0 v2.0 (unlike A.plain _ _ (is_negative ((x c -ℤ x a) *ℤ (y d -ℤ y c))) (is_negative ((x c -ℤ x b) *ℤ (y d -ℤ y c))) n12 v1.1 v2.1)

  -- and the edge's ends on either side of the segment's: the floats' case
  pub passed : Off a c d → Off b c d → EitherSide a b c d → Off c a b → Off d a b → EitherSide c d a b → Passed (x a) (y a) (x b) (y b) (x c) lo hi
  passed z1 z2 n12 z3 z4 n34 =
      let K = crosses z1 z2 n12 in
      let v3 = A.off c a b z3 in
      let v4 = subst (λ (u : ℤ). (0 < nat_abs ((x a -ℤ u) *ℤ (y b -ℤ y a) -ℤ (y a -ℤ y d) *ℤ (x b -ℤ x a)))
      × (lt_z (pos 0) (cross_product_sign d a b) ≡ told A.plain (is_negative ((x a -ℤ u) *ℤ (y b -ℤ y a) -ℤ (y a -ℤ y d) *ℤ (x b -ℤ x a))))) e (A.off d a b z4) in
      let B = strictly_ordered (exact (y a) (y b) (nat_abs (x a -ℤ x c)) (nat_abs (x a -ℤ x b))) (y c) (y d) lo hi (nat_abs (x a -ℤ x b)) l ends
      (strictly_between_ends (x a) (y a) (x b) (y b) (x c) (y c) (y d) K v3.0 v4.0 (unlike_back A.plain _ _ (is_negative ((x a -ℤ x c) *ℤ (y b -ℤ y a) -ℤ (y a -ℤ y c) *ℤ (x b -ℤ x a))) (is_negative ((x a -ℤ x c) *ℤ (y b -ℤ y a) -ℤ (y a -ℤ y d) *ℤ (x b -ℤ x a))) n34 v3.1 v4.1)) in
      record { crosses = K; behind_low = B.0; before_high = B.1 }

-- ---- of an upright edge, and of a level one
pub upright_off : (p q r : Point64) → Off p q r
    → (0 < nat_abs ((q.x -ℤ p.x) *ℤ (r.y -ℤ q.y) -ℤ (q.y -ℤ p.y) *ℤ (r.x -ℤ q.x)))
    × (lt_z (pos 0) (cross_product_sign p q r) ≡ not (is_negative ((q.x -ℤ p.x) *ℤ (r.y -ℤ q.y) -ℤ (q.y -ℤ p.y) *ℤ (r.x -ℤ q.x))))
unfolding cross_product_sign
upright_off p q r = sgn_facts ((q.x -ℤ p.x) *ℤ (r.y -ℤ q.y)) ((q.y -ℤ p.y) *ℤ (r.x -ℤ q.x))

abbrev pub upright : Axes
upright = record { across = λ p. p.x; along = λ p. p.y; plain = true; off = upright_off }

pub level_off : (p q r : Point64) → Off p q r
    → (0 < nat_abs ((q.y -ℤ p.y) *ℤ (r.x -ℤ q.x) -ℤ (q.x -ℤ p.x) *ℤ (r.y -ℤ q.y)))
    × (lt_z (pos 0) (cross_product_sign p q r) ≡ is_negative ((q.y -ℤ p.y) *ℤ (r.x -ℤ q.x) -ℤ (q.x -ℤ p.x) *ℤ (r.y -ℤ q.y)))
unfolding cross_product_sign
level_off p q r = sgn_facts' ((q.x -ℤ p.x) *ℤ (r.y -ℤ q.y)) ((q.y -ℤ p.y) *ℤ (r.x -ℤ q.x))

abbrev pub level : Axes
level = record { across = λ p. p.y; along = λ p. p.x; plain = false; off = level_off }
