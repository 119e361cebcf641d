-- Signs of cross products and the coordinates of a crossing on an edge.
use mathlib.Core.Path.{◌≡◌, refl, sym, ap, ◌∙◌, subst}
use mathlib.Core.Bool.{Bool, true, false, cond, not, beq}
use mathlib.Core.Logic.{◌⊎◌, inl, inr}
use mathlib.Core.List.{[], ◌∷◌}
use Prim.Native.Nat.{ℕ, zero, suc, ◌*◌, ◌<◌, suc-le-suc, zero-le}
use native.Mathlib.Omega.{arith}
use lib.IntN.{ℤ, pos, negsuc, nat_abs, ◌+ℤ◌, ◌-ℤ◌, ◌*ℤ◌, +ℤ_invr, *ℤ-zero, +ℤ_idr}
use lib.Signed.{lt_z, ◌≤ℤ◌, ◌<ℤ◌, <ℤ_irrefl}
use Rattle.integers.specs.Order.{zint}
use Rattle.integers.specs.Laws.{ -ℤ_zero}
use Rattle.integers.specs.Sign.{mul_le_r}
use Rattle.integers.specs.Tests.{eq_z, ztest, ltZ_true, ltZ_sub, ltZ_sub', lt_or_le}
use Rattle.integers.specs.Ring.{var, ◌⊕◌, ◌⊖◌, ◌⊗◌, ring}
use Rattle.rounding.specs.Coordinate.{exact, Near, Crosses, is_negative}
use Rattle.rounding.proofs.Exact.{none}
use Rattle.rounding.proofs.Along.{at_least, at_most}
use Rattle.theorems.specs.Demand.{Between}
use Rattle.theorems.proofs.Tests.{never}

-- ---- signs
pos_facts : (z : ℤ) → pos 0 <ℤ z → (0 < nat_abs z) × (is_negative z ≡ false)
pos_facts (pos zero) h = absurd (<ℤ_irrefl h)
pos_facts (pos (suc n)) h = (suc-le-suc zero-le, refl)
pos_facts (negsuc n) h = absurd h.lt

neg_facts : (z : ℤ) → z <ℤ pos 0 → (0 < nat_abs z) × (is_negative z ≡ true)
neg_facts (pos zero) h = absurd (<ℤ_irrefl h)
neg_facts (pos (suc n)) h = let k : pos (suc n) <ℤ pos 0 = h in absurd (omega zint)
neg_facts (negsuc n) h = (suc-le-suc zero-le, refl)

-- the sign of ab − cd as `cross_product_sign` has it
abbrev sgn : ℤ → ℤ → ℤ
sgn ab cd = cond (lt_z cd ab) (pos 1) (cond (lt_z ab cd) (negsuc 0) (pos 0))

pub sgn_zero : (ab cd : ℤ) → eq_z (sgn ab cd) (pos 0) ≡ true → ab ≡ cd
sgn_zero ab cd = go (lt_z cd ab) refl (lt_z ab cd) refl
  where
    go : (s : Bool) → lt_z cd ab ≡ s → (t : Bool) → lt_z ab cd ≡ t → eq_z (cond s (pos 1) (cond t (negsuc 0) (pos 0))) (pos 0) ≡ true → ab ≡ cd
    go true p t q e = never e refl
    go false p true q e = never e refl
    go false p false q e = omega ztest

pub sgn_facts : (ab cd : ℤ) → eq_z (sgn ab cd) (pos 0) ≡ false → (0 < nat_abs (ab -ℤ cd)) × (lt_z (pos 0) (sgn ab cd) ≡ not (is_negative (ab -ℤ cd)))
sgn_facts ab cd = go (lt_z cd ab) refl (lt_z ab cd) refl
  where
    go : (s : Bool) → lt_z cd ab ≡ s → (t : Bool) → lt_z ab cd ≡ t → eq_z (cond s (pos 1) (cond t (negsuc 0) (pos 0))) (pos 0) ≡ false
        → (0 < nat_abs (ab -ℤ cd)) × (lt_z (pos 0) (cond s (pos 1) (cond t (negsuc 0) (pos 0))) ≡ not (is_negative (ab -ℤ cd)))
    go true p t q e = let f = pos_facts (ab -ℤ cd) (ltZ_true (ltZ_sub cd ab ∙ p)) in (f.0, sym (ap not f.1))
    go false p true q e = let f = neg_facts (ab -ℤ cd) (ltZ_true (ltZ_sub' cd ab ∙ q)) in (f.0, sym (ap not f.1))
    go false p false q e = never refl e

-- two signs that differ
pub differ : (x y s t : Bool) → beq x y ≡ false → x ≡ not s → y ≡ not t → s ≡ not t
differ true true s t e f g = never refl e
differ true false s true e f g = flip s f
  where
    flip : (s : Bool) → true ≡ not s → s ≡ false
    flip true f = never refl f
    flip false f = refl
differ true false s false e f g = never g refl
differ false true s true e f g = never refl g
differ false true s false e f g = flip s f
  where
    flip : (s : Bool) → false ≡ not s → s ≡ true
    flip true f = refl
    flip false f = never f refl
differ false false s t e f g = never refl e

-- ---- coordinates
not_zero : (z : ℤ) → (z ≡ pos 0 → ⊥) → 0 < nat_abs z
not_zero (pos zero) h = absurd (h refl)
not_zero (pos (suc n)) h = suc-le-suc zero-le
not_zero (negsuc n) h = suc-le-suc zero-le

-- at the start and at the end of the segment
exact_start : (y1 y2 : ℤ) (d : ℕ) → exact y1 y2 0 d ≡ y1 *ℤ pos d
exact_start y1 y2 d = ap (λ (z : ℤ). y1 *ℤ pos d +ℤ z) (*ℤ-zero (y2 -ℤ y1)) ∙ +ℤ_idr (y1 *ℤ pos d)

exact_end : (y1 y2 : ℤ) (d : ℕ) → exact y1 y2 d d ≡ y2 *ℤ pos d
exact_end y1 y2 d = ring (y1 ∷ y2 ∷ pos d ∷ []) (var 0 ⊗ var 2 ⊕ (var 1 ⊖ var 0) ⊗ var 2) (var 1 ⊗ var 2) tt

near_self : (z : ℤ) (d : ℕ) → 0 < d → Near z (z *ℤ pos d) d
unfolding Near
near_self z d h = subst (λ (u : ℤ). nat_abs u * 33554432 < d * 33554433) (sym (+ℤ_invr (z *ℤ pos d))) (omega arith)

-- the segment's first coordinates are across the edge, which is at x3 and runs between lo and hi
pub record Crossed (x1 y1 x2 y2 x3 lo hi : ℤ) : Type 0 where
  pub extends : 0 < nat_abs (x1 -ℤ x2)
  pub crosses : Between x1 x3 x2
  pub not_before : (lo *ℤ pos (nat_abs (x1 -ℤ x2))) ≤ℤ exact y1 y2 (nat_abs (x1 -ℤ x3)) (nat_abs (x1 -ℤ x2))
  pub not_behind : exact y1 y2 (nat_abs (x1 -ℤ x3)) (nat_abs (x1 -ℤ x2)) ≤ℤ (hi *ℤ pos (nat_abs (x1 -ℤ x2)))

-- and (x, y) is near that crossing
pub record NearBy (x1 y1 x2 y2 x3 lo hi x y : ℤ) : Type 0 where
  pub crossed : Crossed x1 y1 x2 y2 x3 lo hi
  pub near_across : Near x (exact x1 x2 (nat_abs (x1 -ℤ x3)) (nat_abs (x1 -ℤ x2))) (nat_abs (x1 -ℤ x2))
  pub near_along : Near y (exact y1 y2 (nat_abs (x1 -ℤ x3)) (nat_abs (x1 -ℤ x2))) (nat_abs (x1 -ℤ x2))

either_way : (a b : ℤ) → Between a a b
either_way a b = go (lt_or_le a b)
  where
    go : (a <ℤ b) ⊎ (b ≤ℤ a) → Between a a b
    go (inl h) = inl (omega zint, omega zint)
    go (inr h) = inr (h, omega zint)

either_way' : (a b : ℤ) → Between a b b
either_way' a b = go (lt_or_le a b)
  where
    go : (a <ℤ b) ⊎ (b ≤ℤ a) → Between a b b
    go (inl h) = inl (omega zint, omega zint)
    go (inr h) = inr (omega zint, h)

size_none : (a b : ℤ) → a ≡ b → nat_abs (a -ℤ b) ≡ 0
size_none a b e = ap nat_abs (none a b e)

pub scaled : (a b : ℤ) (d : ℕ) → a ≤ℤ b → (a *ℤ pos d) ≤ℤ (b *ℤ pos d)
scaled a b d h = let z : pos 0 ≤ℤ pos d = omega zint in mul_le_r a b (pos d) h z

pub apart : (a b : ℤ) → (a ≡ b → ⊥) → 0 < nat_abs (a -ℤ b)
apart a b h = not_zero (a -ℤ b) (λ e. h (-ℤ_zero a b e))

-- the start is on the edge
pub at_start : (x1 y1 x2 y2 x3 lo hi : ℤ) → x1 ≡ x3 → (x2 ≡ x3 → ⊥) → lo ≤ℤ y1 → y1 ≤ℤ hi → NearBy x1 y1 x2 y2 x3 lo hi x1 y1
at_start x1 y1 x2 y2 x3 lo hi e h l m =
    let d = nat_abs (x1 -ℤ x2) in
    let D : 0 < d = apart x1 x2 (λ q. h (sym q ∙ e)) in
    let z : nat_abs (x1 -ℤ x3) ≡ 0 = size_none x1 x3 e in
    let E : (u v : ℤ) → exact u v (nat_abs (x1 -ℤ x3)) d ≡ u *ℤ pos d = λ u v. ap (λ (n : ℕ). exact u v n d) z ∙ exact_start u v d in
    record {
      crossed = record {
        extends = D;
        crosses = subst (λ (u : ℤ). Between x1 u x2) e (either_way x1 x2);
        not_before = subst (λ (u : ℤ). (lo *ℤ pos d) ≤ℤ u) (sym (E y1 y2)) (scaled lo y1 d l);
        not_behind = subst (λ (u : ℤ). u ≤ℤ (hi *ℤ pos d)) (sym (E y1 y2)) (scaled y1 hi d m);
      };
      near_across = subst (λ (u : ℤ). Near x1 u d) (sym (E x1 x2)) (near_self x1 d D);
      near_along = subst (λ (u : ℤ). Near y1 u d) (sym (E y1 y2)) (near_self y1 d D);
    }

-- the end is on the edge
pub at_finish : (x1 y1 x2 y2 x3 lo hi : ℤ) → x2 ≡ x3 → (x1 ≡ x3 → ⊥) → lo ≤ℤ y2 → y2 ≤ℤ hi → NearBy x1 y1 x2 y2 x3 lo hi x2 y2
at_finish x1 y1 x2 y2 x3 lo hi e h l m =
    let d = nat_abs (x1 -ℤ x2) in
    let D : 0 < d = apart x1 x2 (λ q. h (q ∙ e)) in
    let z : nat_abs (x1 -ℤ x3) ≡ d = ap (λ (u : ℤ). nat_abs (x1 -ℤ u)) (sym e) in
    let E : (u v : ℤ) → exact u v (nat_abs (x1 -ℤ x3)) d ≡ v *ℤ pos d = λ u v. ap (λ (n : ℕ). exact u v n d) z ∙ exact_end u v d in
    record {
      crossed = record {
        extends = D;
        crosses = subst (λ (u : ℤ). Between x1 u x2) e (either_way' x1 x2);
        not_before = subst (λ (u : ℤ). (lo *ℤ pos d) ≤ℤ u) (sym (E y1 y2)) (scaled lo y2 d l);
        not_behind = subst (λ (u : ℤ). u ≤ℤ (hi *ℤ pos d)) (sym (E y1 y2)) (scaled y2 hi d m);
      };
      near_across = subst (λ (u : ℤ). Near x2 u d) (sym (E x1 x2)) (near_self x2 d D);
      near_along = subst (λ (u : ℤ). Near y2 u d) (sym (E y1 y2)) (near_self y2 d D);
    }

-- the edge is passed
pub crosses_between : (a c b : ℤ) → Crosses a c b → Between a c b
crosses_between a c b k = go (is_negative (a -ℤ c)) refl
  where
    go : (s : Bool) → is_negative (a -ℤ c) ≡ s → Between a c b
    go true e = inl (at_most a c e, at_most c b (sym k.alike ∙ e))
    go false e = inr (at_least c b (sym k.alike ∙ e), at_least a c e)

-- the edge's ends, in either order
abbrev pub Ends : ℤ → ℤ → ℤ → ℤ → Type 0
Ends c d lo hi = ((c ≡ lo) × (d ≡ hi)) ⊎ ((c ≡ hi) × (d ≡ lo))

pub ordered : (u v w lo hi : ℤ) (d : ℕ) → lo <ℤ hi → Ends v w lo hi → (((v *ℤ pos d) ≤ℤ u) × (u ≤ℤ (w *ℤ pos d))) ⊎ (((w *ℤ pos d) ≤ℤ u) × (u ≤ℤ (v *ℤ pos d)))
    → ((lo *ℤ pos d) ≤ℤ u) × (u ≤ℤ (hi *ℤ pos d))
ordered u v w lo hi d l (inl e) (inl h) = (subst (λ (z : ℤ). (z *ℤ pos d) ≤ℤ u) e.0 h.0, subst (λ (z : ℤ). u ≤ℤ (z *ℤ pos d)) e.1 h.1)
ordered u v w lo hi d l (inr e) (inr h) = (subst (λ (z : ℤ). (z *ℤ pos d) ≤ℤ u) e.1 h.0, subst (λ (z : ℤ). u ≤ℤ (z *ℤ pos d)) e.0 h.1)
ordered u v w lo hi d l (inl e) (inr h) =
    let a = subst (λ (z : ℤ). (z *ℤ pos d) ≤ℤ u) e.1 h.0 in
    let b = subst (λ (z : ℤ). u ≤ℤ (z *ℤ pos d)) e.0 h.1 in
    let c = scaled lo hi d (omega zint) in
    (omega zint, omega zint)
ordered u v w lo hi d l (inr e) (inl h) =
    let a = subst (λ (z : ℤ). (z *ℤ pos d) ≤ℤ u) e.0 h.0 in
    let b = subst (λ (z : ℤ). u ≤ℤ (z *ℤ pos d)) e.1 h.1 in
    let c = scaled lo hi d (omega zint) in
    (omega zint, omega zint)

-- strictly between the ends, or equal tests
pub along_edge : (y v w lo hi : ℤ) → lo <ℤ hi → Ends v w lo hi → beq (lt_z v y) (lt_z y w) ≡ true → (lo ≤ℤ y) × (y ≤ℤ hi)
along_edge y v w lo hi l e = go (lt_z v y) refl (lt_z y w) refl e
  where
    go : (s : Bool) → lt_z v y ≡ s → (t : Bool) → lt_z y w ≡ t → Ends v w lo hi → beq s t ≡ true → (lo ≤ℤ y) × (y ≤ℤ hi)
    go true p true q (inl e) b = let a = e.0 in let c = e.1 in (omega ztest, omega ztest)
    go true p true q (inr e) b = let a = e.0 in let c = e.1 in (omega ztest, omega ztest)
    go false p false q (inl e) b = let a = e.0 in let c = e.1 in (omega ztest, omega ztest)
    go false p false q (inr e) b = let a = e.0 in let c = e.1 in (omega ztest, omega ztest)
    go true p false q e b = never b refl
    go false p true q e b = never b refl

-- ---- the same signs, turned round
pub sgn_facts' : (ab cd : ℤ) → eq_z (sgn ab cd) (pos 0) ≡ false → (0 < nat_abs (cd -ℤ ab)) × (lt_z (pos 0) (sgn ab cd) ≡ is_negative (cd -ℤ ab))
sgn_facts' ab cd = go (lt_z cd ab) refl (lt_z ab cd) refl
  where
    go : (s : Bool) → lt_z cd ab ≡ s → (t : Bool) → lt_z ab cd ≡ t → eq_z (cond s (pos 1) (cond t (negsuc 0) (pos 0))) (pos 0) ≡ false
        → (0 < nat_abs (cd -ℤ ab)) × (lt_z (pos 0) (cond s (pos 1) (cond t (negsuc 0) (pos 0))) ≡ is_negative (cd -ℤ ab))
    go true p t q e = let f = neg_facts (cd -ℤ ab) (ltZ_true (ltZ_sub' ab cd ∙ p)) in (f.0, sym f.1)
    go false p true q e = let f = pos_facts (cd -ℤ ab) (ltZ_true (ltZ_sub ab cd ∙ q)) in (f.0, sym f.1)
    go false p false q e = never refl e

-- the second sign is not the first
pub differ_back : (x y s t : Bool) → beq x y ≡ false → x ≡ not s → y ≡ not t → t ≡ not s
differ_back x y s t e f g = swap s t (differ x y s t e f g)
  where
    swap : (s t : Bool) → s ≡ not t → t ≡ not s
    swap true true e = never refl e
    swap true false e = refl
    swap false true e = refl
    swap false false e = never e refl

pub unlike_plain : (x y s t : Bool) → beq x y ≡ false → x ≡ s → y ≡ t → t ≡ not s
unlike_plain true true s t e f g = never refl e
unlike_plain true false s t e f g = sym g ∙ ap not f
unlike_plain false true s t e f g = sym g ∙ ap not f
unlike_plain false false s t e f g = never refl e

pub unlike_first : (x y s t : Bool) → beq x y ≡ false → x ≡ s → y ≡ t → s ≡ not t
unlike_first true true s t e f g = never refl e
unlike_first true false s t e f g = sym f ∙ ap not g
unlike_first false true s t e f g = sym f ∙ ap not g
unlike_first false false s t e f g = never refl e
