-- What each answer of `segment` means, and that a known point is the same from both ends.
use mathlib.Core.Path.{◌≡◌, refl, ◌∙◌, ap}
use mathlib.Core.Bool.{Bool, true}
use mathlib.Core.Logic.{◌⊎◌, inl, inr}
use lib.IntN.{ℤ, pos, ◌-ℤ◌, ◌*ℤ◌, *ℤ-zero}
use lib.Signed.{◌≤ℤ◌, ◌<ℤ◌}
use Rattle.integers.specs.Order.{zint, sub_pn, eq→}
use Rattle.integers.specs.Tests.{tri}
use Rattle.integers.specs.Ring.{v0}
use Rattle.plane.specs.declared.point.Point64.{Point64}
use Rattle.theorems.proofs.GeoPlane.{cross, zero?, up?, same, on, Hit, none, known, proper, known?, segment}
use Rattle.theorems.proofs.GeoTell.{Decides, NonZero, zero_yes, zero_no, times_zero, times_nonzero, alike, unlike}
use Rattle.theorems.proofs.GeoEdge.{Seen, both_sum, tail, z1_yes, z2_yes, z1_no, z2_no, s12, only, Opposed, A_mid, B_mid}

-- ---- a known point is the same from both ends
pub record Twin (a b : Hit) : Type 0 where
  pub is : Bool
  pub at : Point64
  pub one : a ≡ known? is at
  pub two : b ≡ known? is at

-- a segment whose ends both lie on a neighbour's line: it meets the edge at an end of its own or at the corner, never in between
pub twins : {p q A B : Point64} {u v g h w x : ℤ} → Seen p q A B u v g h w x → Seen q p A B v u h g x w → pos 0 <ℤ u → v ≤ℤ pos 0
    → ((g ≡ pos 0) × (h ≡ pos 0)) ⊎ ((w ≡ pos 0) × (x ≡ pos 0)) → Twin (segment p q A B) (segment q p A B)
unfolding only Opposed
twins {p} {q} {A} {B} {u} {v} {g} {h} {w} {x} k j up vn z = go (tri v (pos 0)) z
  where
    fst : {z1 z2 s : Bool} → zero? (cross p A B) ≡ z1 → zero? (cross q A B) ≡ z2 → same (up? (cross p A B)) (up? (cross q A B)) ≡ s → segment p q A B ≡ only k z1 z2 s
    fst e f t = λ i. only k (e i) (f i) (t i)

    snd : {z1 z2 s : Bool} → zero? (cross q A B) ≡ z1 → zero? (cross p A B) ≡ z2 → same (up? (cross q A B)) (up? (cross p A B)) ≡ s → segment q p A B ≡ only j z1 z2 s
    snd e f t = λ i. only j (e i) (f i) (t i)

    Y0 : (g ≡ pos 0) × (h ≡ pos 0) → u *ℤ h -ℤ v *ℤ g ≡ pos 0
    Y0 e = (λ i. u *ℤ e.1 i -ℤ v *ℤ e.0 i) ∙ (λ i. *ℤ-zero u i -ℤ *ℤ-zero v i)

    Y0' : (g ≡ pos 0) × (h ≡ pos 0) → v *ℤ g -ℤ u *ℤ h ≡ pos 0
    Y0' e = (λ i. v *ℤ e.0 i -ℤ u *ℤ e.1 i) ∙ (λ i. *ℤ-zero v i -ℤ *ℤ-zero u i)

    Z0 : (w ≡ pos 0) × (x ≡ pos 0) → v *ℤ w -ℤ u *ℤ x ≡ pos 0
    Z0 e = (λ i. v *ℤ e.0 i -ℤ u *ℤ e.1 i) ∙ (λ i. *ℤ-zero v i -ℤ *ℤ-zero u i)

    Z0' : (w ≡ pos 0) × (x ≡ pos 0) → u *ℤ x -ℤ v *ℤ w ≡ pos 0
    Z0' e = (λ i. u *ℤ e.1 i -ℤ v *ℤ e.0 i) ∙ (λ i. *ℤ-zero u i -ℤ *ℤ-zero v i)

    go : (v <ℤ pos 0) ⊎ ((v ≡ pos 0) ⊎ (pos 0 <ℤ v)) → ((g ≡ pos 0) × (h ≡ pos 0)) ⊎ ((w ≡ pos 0) × (x ≡ pos 0)) → Twin (segment p q A B) (segment q p A B)
    go (inr (inr vp)) c = absurd (clash vp vn)
      where
        clash : pos 0 <ℤ v → v ≤ℤ pos 0 → ⊥
        clash a b = omega zint
    go (inr (inl v0)) c =
        record { is = on q A B; at = q; one = fst (z1_no k (inl up)) (z2_yes k v0) refl; two = snd (z1_yes j v0) (z2_no j (inl up)) refl }
    go (inl v-) (inl e) =
        record {
          is = true;
          at = A;
          one = fst (z1_no k (inl up)) (z2_no k (inr v-)) (s12 k (unlike k.e u v k.e_non (inl (up, v-))))
              ∙ (λ i. tail (zero_yes (cross A p q) (k.A_off ∙ times_zero k.c (u *ℤ h -ℤ v *ℤ g) (Y0 e)) i) (A_mid k (inr (v-, up)) (Y0 e) i) (zero? (cross B p q)) (on B p q) (same (up? (cross A p q)) (up? (cross B p q))) A B);
          two = snd (z1_no j (inr v-)) (z2_no j (inl up)) (s12 j (unlike j.e v u j.e_non (inr (v-, up))))
              ∙ (λ i. tail (zero_yes (cross A q p) (j.A_off ∙ times_zero j.c (v *ℤ g -ℤ u *ℤ h) (Y0' e)) i) (A_mid j (inl (v-, up)) (Y0' e) i) (zero? (cross B q p)) (on B q p) (same (up? (cross A q p)) (up? (cross B q p))) A B);
        }
    go (inl v-) (inr e) =
        let lt : (v *ℤ g -ℤ u *ℤ h) <ℤ (u *ℤ x -ℤ v *ℤ w) = both_sum v u h g x w k.m k.q_along k.p_along k.m_pos (omega zint) in
        let y : pos 0 <ℤ (u *ℤ h -ℤ v *ℤ g) = omega (zint, eq→ (Z0' e), sub_pn (u *ℤ h) (v *ℤ g), sub_pn (v *ℤ g) (u *ℤ h)) in
        let y' : (v *ℤ g -ℤ u *ℤ h) <ℤ pos 0 = omega (zint, eq→ (Z0' e)) in
        record {
          is = true;
          at = B;
          one = fst (z1_no k (inl up)) (z2_no k (inr v-)) (s12 k (unlike k.e u v k.e_non (inl (up, v-))))
              ∙ (λ i. tail ((ap zero? k.A_off ∙ zero_no (k.c *ℤ (u *ℤ h -ℤ v *ℤ g)) (times_nonzero k.c (u *ℤ h -ℤ v *ℤ g) k.c_non (inl y))) i) (on A p q) (zero_yes (cross B p q) (k.B_off ∙ times_zero k.c (v *ℤ w -ℤ u *ℤ x) (Z0 e)) i) (B_mid k (inr (v-, up)) (Z0 e) i) (same (up? (cross A p q)) (up? (cross B p q))) A B);
          two = snd (z1_no j (inr v-)) (z2_no j (inl up)) (s12 j (unlike j.e v u j.e_non (inr (v-, up))))
              ∙ (λ i. tail ((ap zero? j.A_off ∙ zero_no (j.c *ℤ (v *ℤ g -ℤ u *ℤ h)) (times_nonzero j.c (v *ℤ g -ℤ u *ℤ h) j.c_non (inr y'))) i) (on A q p) (zero_yes (cross B q p) (j.B_off ∙ times_zero j.c (u *ℤ x -ℤ v *ℤ w) (Z0' e)) i) (B_mid j (inl (v-, up)) (Z0' e) i) (same (up? (cross A q p)) (up? (cross B q p))) A B);
        }

-- ---- each answer of `segment`, and what it means: a known point is an end of the segment that lies on the edge, or an end of the
-- edge strictly between those of the segment; a proper crossing is strictly between the ends of both
pub data Answer (p q A B : Point64) (u v g h w x : ℤ) : Type 0 where
  no_hit : segment p q A B ≡ none → Answer p q A B u v g h w x
  at_p : segment p q A B ≡ known p → u ≡ pos 0 → pos 0 ≤ℤ g → pos 0 ≤ℤ w → Answer p q A B u v g h w x
  at_q : segment p q A B ≡ known q → v ≡ pos 0 → pos 0 ≤ℤ h → pos 0 ≤ℤ x → Answer p q A B u v g h w x
  at_from : segment p q A B ≡ known A → Answer p q A B u v g h w x
  at_to : segment p q A B ≡ known B → Answer p q A B u v g h w x
  rising : segment p q A B ≡ proper → u <ℤ pos 0 → pos 0 <ℤ v → (u *ℤ h) <ℤ (v *ℤ g) → (u *ℤ x) <ℤ (v *ℤ w) → Answer p q A B u v g h w x
  falling : segment p q A B ≡ proper → v <ℤ pos 0 → pos 0 <ℤ u → (v *ℤ g) <ℤ (u *ℤ h) → (v *ℤ w) <ℤ (u *ℤ x) → Answer p q A B u v g h w x

pub answer : {p q A B : Point64} {u v g h w x : ℤ} → Seen p q A B u v g h w x → Answer p q A B u v g h w x
unfolding only Opposed
answer {p} {q} {A} {B} {u} {v} {g} {h} {w} {x} k = go (tri u (pos 0)) (tri v (pos 0))
  where
    Y : ℤ
    Y = u *ℤ h -ℤ v *ℤ g

    Z : ℤ
    Z = v *ℤ w -ℤ u *ℤ x

    fst : {z1 z2 s : Bool} → zero? (cross p A B) ≡ z1 → zero? (cross q A B) ≡ z2 → same (up? (cross p A B)) (up? (cross q A B)) ≡ s → segment p q A B ≡ only k z1 z2 s
    fst e f t = λ i. only k (e i) (f i) (t i)

    start : segment p q A B ≡ known? (on p A B) p → u ≡ pos 0 → Decides (on p A B) ((pos 0 ≤ℤ g) × (pos 0 ≤ℤ w)) → Answer p q A B u v g h w x
    start e z (inl d) = at_p (e ∙ ap (λ (b : Bool). known? b p) d.0) z d.1.0 d.1.1
    start e z (inr d) = no_hit (e ∙ ap (λ (b : Bool). known? b p) d.0)

    end : segment p q A B ≡ known? (on q A B) q → v ≡ pos 0 → Decides (on q A B) ((pos 0 ≤ℤ h) × (pos 0 ≤ℤ x)) → Answer p q A B u v g h w x
    end e z (inl d) = at_q (e ∙ ap (λ (b : Bool). known? b q) d.0) z d.1.0 d.1.1
    end e z (inr d) = no_hit (e ∙ ap (λ (b : Bool). known? b q) d.0)

    cut_line : (NonZero u) → (NonZero v) → ((pos 0 <ℤ u) × (v <ℤ pos 0)) ⊎ ((u <ℤ pos 0) × (pos 0 <ℤ v)) → segment p q A B ≡ tail (zero? (k.c *ℤ Y)) (on A p q) (zero? (k.c *ℤ Z)) (on B p q) (same (up? (k.c *ℤ Y)) (up? (k.c *ℤ Z))) A B
    cut_line nu nv o = fst (z1_no k nu) (z2_no k nv) (s12 k (unlike k.e u v k.e_non o)) ∙ (λ i. tail (zero? (k.A_off i)) (on A p q) (zero? (k.B_off i)) (on B p q) (same (up? (k.A_off i)) (up? (k.B_off i))) A B)

    tails : Bool → Bool → Bool → Bool → Bool → Hit
    tails a b c d e = tail a b c d e A B

    crossing : ((u <ℤ pos 0) × (pos 0 <ℤ v)) ⊎ ((v <ℤ pos 0) × (pos 0 <ℤ u)) → segment p q A B ≡ tail (zero? (k.c *ℤ Y)) (on A p q) (zero? (k.c *ℤ Z)) (on B p q) (same (up? (k.c *ℤ Y)) (up? (k.c *ℤ Z))) A B
        → (Y <ℤ pos 0) ⊎ ((Y ≡ pos 0) ⊎ (pos 0 <ℤ Y)) → (Z <ℤ pos 0) ⊎ ((Z ≡ pos 0) ⊎ (pos 0 <ℤ Z)) → Answer p q A B u v g h w x
    crossing o e (inr (inl y)) z = at_from (e ∙ (λ i. tails (zero_yes (k.c *ℤ Y) (times_zero k.c Y y) i) (A_mid k o y i) (zero? (k.c *ℤ Z)) (on B p q) (same (up? (k.c *ℤ Y)) (up? (k.c *ℤ Z)))))
    crossing o e (inl y) (inr (inl z)) = at_to (e ∙ (λ i. tails (zero_no (k.c *ℤ Y) (times_nonzero k.c Y k.c_non (inr y)) i) (on A p q) (zero_yes (k.c *ℤ Z) (times_zero k.c Z z) i) (B_mid k o z i) (same (up? (k.c *ℤ Y)) (up? (k.c *ℤ Z)))))
    crossing o e (inr (inr y)) (inr (inl z)) = at_to (e ∙ (λ i. tails (zero_no (k.c *ℤ Y) (times_nonzero k.c Y k.c_non (inl y)) i) (on A p q) (zero_yes (k.c *ℤ Z) (times_zero k.c Z z) i) (B_mid k o z i) (same (up? (k.c *ℤ Y)) (up? (k.c *ℤ Z)))))
    crossing o e (inl y) (inl z) = no_hit (e ∙ (λ i. tails (zero_no (k.c *ℤ Y) (times_nonzero k.c Y k.c_non (inr y)) i) (on A p q) (zero_no (k.c *ℤ Z) (times_nonzero k.c Z k.c_non (inr z)) i) (on B p q) (alike k.c Y Z k.c_non (inr (y, z)) i)))
    crossing o e (inr (inr y)) (inr (inr z)) = no_hit (e ∙ (λ i. tails (zero_no (k.c *ℤ Y) (times_nonzero k.c Y k.c_non (inl y)) i) (on A p q) (zero_no (k.c *ℤ Z) (times_nonzero k.c Z k.c_non (inl z)) i) (on B p q) (alike k.c Y Z k.c_non (inl (y, z)) i)))
    crossing (inl o) e (inl y) (inr (inr z)) =
        rising (e ∙ (λ i. tails (zero_no (k.c *ℤ Y) (times_nonzero k.c Y k.c_non (inr y)) i) (on A p q) (zero_no (k.c *ℤ Z) (times_nonzero k.c Z k.c_non (inl z)) i) (on B p q) (unlike k.c Y Z k.c_non (inr (y, z)) i)))
        o.0 o.1 (omega (zint, sub_pn (u *ℤ h) (v *ℤ g))) (omega (zint, sub_pn (v *ℤ w) (u *ℤ x)))
    crossing (inr o) e (inr (inr y)) (inl z) =
        falling (e ∙ (λ i. tails (zero_no (k.c *ℤ Y) (times_nonzero k.c Y k.c_non (inl y)) i) (on A p q) (zero_no (k.c *ℤ Z) (times_nonzero k.c Z k.c_non (inr z)) i) (on B p q) (unlike k.c Y Z k.c_non (inl (y, z)) i)))
        o.0 o.1 (omega (zint, sub_pn (u *ℤ h) (v *ℤ g))) (omega (zint, sub_pn (v *ℤ w) (u *ℤ x)))
    crossing (inl o) e (inr (inr y)) (inl z) = absurd (clash (both_sum u v g h w x k.m k.p_along k.q_along k.m_pos (lower o.0 o.1)) y z)
      where
        lower : u <ℤ pos 0 → pos 0 <ℤ v → u <ℤ v
        lower a b = omega zint

        clash : Y <ℤ Z → pos 0 <ℤ Y → Z <ℤ pos 0 → ⊥
        clash a b c = omega zint
    crossing (inr o) e (inl y) (inr (inr z)) = absurd (clash (both_sum v u h g x w k.m k.q_along k.p_along k.m_pos (lower o.0 o.1)) y z)
      where
        lower : v <ℤ pos 0 → pos 0 <ℤ u → v <ℤ u
        lower a b = omega zint

        clash : (v *ℤ g -ℤ u *ℤ h) <ℤ (u *ℤ x -ℤ v *ℤ w) → Y <ℤ pos 0 → pos 0 <ℤ Z → ⊥
        clash a b c = omega (zint, sub_pn (u *ℤ h) (v *ℤ g), sub_pn (v *ℤ g) (u *ℤ h), sub_pn (v *ℤ w) (u *ℤ x), sub_pn (u *ℤ x) (v *ℤ w))

    go : (u <ℤ pos 0) ⊎ ((u ≡ pos 0) ⊎ (pos 0 <ℤ u)) → (v <ℤ pos 0) ⊎ ((v ≡ pos 0) ⊎ (pos 0 <ℤ v)) → Answer p q A B u v g h w x
    go (inr (inl a)) (inr (inl b)) = no_hit (fst (z1_yes k a) (z2_yes k b) refl)
    go (inr (inl a)) (inr (inr b)) = start (fst (z1_yes k a) (z2_no k (inl b)) refl) a (k.p_on a)
    go (inr (inl a)) (inl b) = start (fst (z1_yes k a) (z2_no k (inr b)) refl) a (k.p_on a)
    go (inr (inr a)) (inr (inl b)) = end (fst (z1_no k (inl a)) (z2_yes k b) refl) b (k.q_on b)
    go (inl a) (inr (inl b)) = end (fst (z1_no k (inr a)) (z2_yes k b) refl) b (k.q_on b)
    go (inl a) (inl b) = no_hit (fst (z1_no k (inr a)) (z2_no k (inr b)) (s12 k (alike k.e u v k.e_non (inr (a, b)))))
    go (inr (inr a)) (inr (inr b)) = no_hit (fst (z1_no k (inl a)) (z2_no k (inl b)) (s12 k (alike k.e u v k.e_non (inl (a, b)))))
    go (inl a) (inr (inr b)) = crossing (inl (a, b)) (cut_line (inr a) (inl b) (inr (a, b))) (tri Y (pos 0)) (tri Z (pos 0))
    go (inr (inr a)) (inl b) = crossing (inr (b, a)) (cut_line (inl a) (inr b) (inl (a, b))) (tri Y (pos 0)) (tri Z (pos 0))
