-- `segment` against an edge of the rectangle: it answers whether the segment cuts the edge, in depths. One argument over what a
-- side's edge shows of the two points (`Seen`), with the four sides at the end.
use mathlib.Core.Path.{◌≡◌, refl, sym, ◌∙◌, ap}
use mathlib.Core.Bool.{Bool, true, false, cond, ◌||◌}
use mathlib.Core.List.{[], ◌∷◌}
use mathlib.Core.Logic.{◌⊎◌, inl, inr, ⊎_elim}
use lib.IntN.{ℤ, pos, ◌+ℤ◌, ◌-ℤ◌, ◌*ℤ◌}
use lib.Signed.{◌≤ℤ◌, ◌<ℤ◌}
use Rattle.integers.specs.Order.{zint, sub_pn, eq→}
use Rattle.integers.specs.Tests.{tri, lt_or_le, eq_z}
use Rattle.integers.specs.Ring.{Ex, con, v0, v1, v2, v3, v4, v5, v6, ◌⊕◌, ◌⊖◌, ◌⊗◌, ⊝}
use Rattle.integers.specs.Certify.{◌≼◌, ◌≺◌, ◌≈◌, hyp, times, ◌⊞◌, ◌⊠◌, certify_lt, certify_le, certify_no}
use Rattle.plane.specs.declared.point.Point64.{Point64}
use Rattle.theorems.proofs.GeoPlane.{cross, zero?, up?, same, same_pt, on, Hit, none, proper, hit?, known?, segment}
use Rattle.theorems.proofs.GeoCut.{Cut}
use Rattle.theorems.proofs.GeoTell.{Decides, NonZero, zero_yes, zero_no, times_zero, times_nonzero, alike, unlike, between, decided}

-- the tests of `segment`, by their outcomes
abbrev pub pick : Bool → Bool → Bool → Bool → Bool → Bool → Bool → Bool → Bool → Bool → Point64 → Point64 → Point64 → Point64 → Hit
pick z1 z2 o1 o2 s12 z3 o3 z4 o4 s34 p q A B =
    cond z1 (cond z2 none (known? o1 p))
    (cond z2 (known? o2 q)
    (cond s12 none
    (cond z3 (known? o3 A)
    (cond z4 (known? o4 B)
    (cond s34 none proper)))))

-- what the edge from A to B shows of p and q: u and v are their depths on its side, g and h those on the neighbour at A, w and x
-- those on the neighbour at B
pub record Seen (p q A B : Point64) (u v g h w x : ℤ) : Type 0 where
  pub m : ℤ
  pub m_pos : pos 0 <ℤ m
  pub p_along : g +ℤ w ≡ m
  pub q_along : h +ℤ x ≡ m
  pub e : ℤ
  pub e_non : NonZero e
  pub p_off : cross p A B ≡ e *ℤ u
  pub q_off : cross q A B ≡ e *ℤ v
  pub c : ℤ
  pub c_non : NonZero c
  pub A_off : cross A p q ≡ c *ℤ (u *ℤ h -ℤ v *ℤ g)
  pub B_off : cross B p q ≡ c *ℤ (v *ℤ w -ℤ u *ℤ x)
  pub p_on : u ≡ pos 0 → Decides (on p A B) ((pos 0 ≤ℤ g) × (pos 0 ≤ℤ w))
  pub q_on : v ≡ pos 0 → Decides (on q A B) ((pos 0 ≤ℤ h) × (pos 0 ≤ℤ x))
  pub ax : ℤ
  pub ay : ℤ
  pub bx : ℤ
  pub by : ℤ
  pub A_x : v *ℤ (A.x -ℤ p.x) +ℤ u *ℤ (q.x -ℤ A.x) ≡ ax *ℤ (u *ℤ h -ℤ v *ℤ g)
  pub A_y : v *ℤ (A.y -ℤ p.y) +ℤ u *ℤ (q.y -ℤ A.y) ≡ ay *ℤ (u *ℤ h -ℤ v *ℤ g)
  pub B_x : v *ℤ (B.x -ℤ p.x) +ℤ u *ℤ (q.x -ℤ B.x) ≡ bx *ℤ (v *ℤ w -ℤ u *ℤ x)
  pub B_y : v *ℤ (B.y -ℤ p.y) +ℤ u *ℤ (q.y -ℤ B.y) ≡ by *ℤ (v *ℤ w -ℤ u *ℤ x)

abbrev O : Ex
O = con (pos 0)

both : (s t : Bool) {x y : Bool} → x ≡ true → y ≡ true → cond s true (cond t x y) ≡ true
both true t e f = refl
both false true e f = e
both false false e f = f

hit_known : (b : Bool) (p : Point64) → hit? (known? b p) ≡ b
hit_known true p = refl
hit_known false p = refl

-- from a depth of 0 on the side: what the neighbours' depths say
touch : (u v g h : ℤ) → u ≡ pos 0 → pos 0 <ℤ v → pos 0 ≤ℤ g → (u *ℤ h) ≤ℤ (v *ℤ g)
touch u v g h p0 p1 p2 = certify_le (u ∷ v ∷ g ∷ h ∷ []) (v0 ≈ O ∷ O ≺ v1 ∷ O ≼ v2 ∷ []) (v0 ⊗ v3) (v1 ⊗ v2) (hyp 1 ⊠ hyp 2 ⊞ hyp 2 ⊞ times v3 0) tt (p0, (p1, (p2, tt)))

untouch : (u v g h : ℤ) → u ≡ pos 0 → pos 0 <ℤ v → (u *ℤ h) ≤ℤ (v *ℤ g) → pos 0 ≤ℤ g
untouch u v g h p0 p1 p2 =
    ⊎_elim (λ n. absurd (certify_no (u ∷ v ∷ g ∷ h ∷ []) (v0 ≈ O ∷ O ≺ v1 ∷ v2 ≺ O ∷ (v0 ⊗ v3) ≼ (v1 ⊗ v2) ∷ []) (hyp 1 ⊠ hyp 2 ⊞ hyp 1 ⊞ hyp 2 ⊞ hyp 3 ⊞ times (⊝ v3) 0) tt (p0, (p1, (n, (p2, tt)))))) (λ n. n) (lt_or_le g (pos 0))

-- the same where the depth of 0 is the inner end's
touch' : (u v g h : ℤ) → v ≡ pos 0 → u <ℤ pos 0 → pos 0 ≤ℤ h → (u *ℤ h) ≤ℤ (v *ℤ g)
touch' u v g h p0 p1 p2 = certify_le (u ∷ v ∷ g ∷ h ∷ []) (v1 ≈ O ∷ v0 ≺ O ∷ O ≼ v3 ∷ []) (v0 ⊗ v3) (v1 ⊗ v2) (hyp 1 ⊠ hyp 2 ⊞ hyp 2 ⊞ times (⊝ v2) 0) tt (p0, (p1, (p2, tt)))

untouch' : (u v g h : ℤ) → v ≡ pos 0 → u <ℤ pos 0 → (u *ℤ h) ≤ℤ (v *ℤ g) → pos 0 ≤ℤ h
untouch' u v g h p0 p1 p2 =
    ⊎_elim (λ n. absurd (certify_no (u ∷ v ∷ g ∷ h ∷ []) (v1 ≈ O ∷ v0 ≺ O ∷ v3 ≺ O ∷ (v0 ⊗ v3) ≼ (v1 ⊗ v2) ∷ []) (hyp 1 ⊠ hyp 2 ⊞ hyp 1 ⊞ hyp 2 ⊞ hyp 3 ⊞ times v2 0) tt (p0, (p1, (n, (p2, tt)))))) (λ n. n) (lt_or_le h (pos 0))

-- the two corner products of a segment that crosses the line: their sum is below 0
pub both_sum : (u v g h w x m : ℤ) → g +ℤ w ≡ m → h +ℤ x ≡ m → pos 0 <ℤ m → u <ℤ v → (u *ℤ h -ℤ v *ℤ g) <ℤ (v *ℤ w -ℤ u *ℤ x)
both_sum u v g h w x m p0 p1 p2 p3 =
    certify_lt (u ∷ v ∷ g ∷ h ∷ w ∷ x ∷ m ∷ []) ((v2 ⊕ v4) ≈ v6 ∷ (v3 ⊕ v5) ≈ v6 ∷ O ≺ v6 ∷ v0 ≺ v1 ∷ []) (v0 ⊗ v3 ⊖ v1 ⊗ v2) (v1 ⊗ v4 ⊖ v0 ⊗ v5) (hyp 2 ⊠ hyp 3 ⊞ hyp 2 ⊞ hyp 3 ⊞ times (⊝ v1) 0 ⊞ times v0 1) tt (p0, (p1, (p2, (p3, tt))))

-- the last four tests
abbrev pub tail : Bool → Bool → Bool → Bool → Bool → Point64 → Point64 → Hit
tail z3 o3 z4 o4 s34 A B = cond z3 (known? o3 A) (cond z4 (known? o4 B) (cond s34 none proper))

abbrev Split : ℤ → ℤ → Type 0
Split Y Z = ((Y ≤ℤ pos 0) × (pos 0 ≤ℤ Z)) ⊎ ((Z ≤ℤ pos 0) × (pos 0 ≤ℤ Y))

module _ (A B : Point64) (o3 o4 : Bool) (c Y Z : ℤ) (cn : NonZero c) (e_a : Y ≡ pos 0 → o3 ≡ true) (e_b : Z ≡ pos 0 → o4 ≡ true) where
  abbrev here : Hit
  here = tail (zero? (c *ℤ Y)) o3 (zero? (c *ℤ Z)) o4 (same (up? (c *ℤ Y)) (up? (c *ℤ Z))) A B

  at_A : Y ≡ pos 0 → hit? here ≡ true
  at_A e = (λ i. hit? (tail (zero_yes (c *ℤ Y) (times_zero c Y e) i) o3 (zero? (c *ℤ Z)) o4 (same (up? (c *ℤ Y)) (up? (c *ℤ Z))) A B)) ∙ hit_known o3 A ∙ e_a e

  at_B : NonZero Y → Z ≡ pos 0 → hit? here ≡ true
  at_B n e =
      (λ i. hit? (tail (zero_no (c *ℤ Y) (times_nonzero c Y cn n) i) o3 (zero_yes (c *ℤ Z) (times_zero c Z e) i) o4 (same (up? (c *ℤ Y)) (up? (c *ℤ Z))) A B)) ∙ hit_known o4 B ∙ e_b e

  off : {s : Bool} → NonZero Y → NonZero Z → same (up? (c *ℤ Y)) (up? (c *ℤ Z)) ≡ s → hit? here ≡ hit? (tail false o3 false o4 s A B)
  off n k e = λ i. hit? (tail (zero_no (c *ℤ Y) (times_nonzero c Y cn n) i) o3 (zero_no (c *ℤ Z) (times_nonzero c Z cn k) i) o4 (e i) A B)

  tail_splits : (Y ≡ Z → ⊥) → Decides (hit? here) (Split Y Z)
  tail_splits ne = go (tri Y (pos 0)) (tri Z (pos 0))
    where
      go : (Y <ℤ pos 0) ⊎ ((Y ≡ pos 0) ⊎ (pos 0 <ℤ Y)) → (Z <ℤ pos 0) ⊎ ((Z ≡ pos 0) ⊎ (pos 0 <ℤ Z)) → Decides (hit? here) (Split Y Z)
      go (inr (inl y)) (inl z) = inl (at_A y, inr (omega zint, omega (zint, eq→ y)))
      go (inr (inl y)) (inr (inl z)) = absurd (ne (y ∙ sym z))
      go (inr (inl y)) (inr (inr z)) = inl (at_A y, inl (omega (zint, eq→ y), omega zint))
      go (inl y) (inr (inl z)) = inl (at_B (inr y) z, inl (omega zint, omega (zint, eq→ z)))
      go (inr (inr y)) (inr (inl z)) = inl (at_B (inl y) z, inr (omega (zint, eq→ z), omega zint))
      go (inl y) (inr (inr z)) = inl (off (inr y) (inl z) (unlike c Y Z cn (inr (y, z))), inl (omega zint, omega zint))
      go (inr (inr y)) (inl z) = inl (off (inl y) (inr z) (unlike c Y Z cn (inl (y, z))), inr (omega zint, omega zint))
      go (inl y) (inl z) = inr (off (inr y) (inr z) (alike c Y Z cn (inr (y, z))), λ s. ⊎_elim (λ h. omega (zint, h.1)) (λ h. omega (zint, h.1)) s)
      go (inr (inr y)) (inr (inr z)) = inr (off (inl y) (inl z) (alike c Y Z cn (inl (y, z))), λ s. ⊎_elim (λ h. omega (zint, h.0)) (λ h. omega (zint, h.0)) s)

module _ {p q A B : Point64} {u v g h w x : ℤ} (k : Seen p q A B u v g h w x) where
  abbrev Cuts : Type 0
  Cuts = Cut u v g h w x ⊎ Cut v u h g x w

  pub z1_yes : u ≡ pos 0 → zero? (cross p A B) ≡ true
  z1_yes e = zero_yes (cross p A B) (k.p_off ∙ times_zero k.e u e)

  pub z2_yes : v ≡ pos 0 → zero? (cross q A B) ≡ true
  z2_yes e = zero_yes (cross q A B) (k.q_off ∙ times_zero k.e v e)

  pub z1_no : NonZero u → zero? (cross p A B) ≡ false
  z1_no n = ap zero? k.p_off ∙ zero_no (k.e *ℤ u) (times_nonzero k.e u k.e_non n)

  pub z2_no : NonZero v → zero? (cross q A B) ≡ false
  z2_no n = ap zero? k.q_off ∙ zero_no (k.e *ℤ v) (times_nonzero k.e v k.e_non n)

  pub s12 : {s : Bool} → same (up? (k.e *ℤ u)) (up? (k.e *ℤ v)) ≡ s → same (up? (cross p A B)) (up? (cross q A B)) ≡ s
  s12 e = (λ i. same (up? (k.p_off i)) (up? (k.q_off i))) ∙ e

  -- by the first three tests
  unfoldable pub only : Bool → Bool → Bool → Hit
  only z1 z2 s =
      pick z1 z2 (on p A B) (on q A B) s (zero? (cross A p q)) (on A p q) (zero? (cross B p q)) (on B p q) (same (up? (cross A p q)) (up? (cross B p q))) p q A B

  first : {z1 z2 s : Bool} → zero? (cross p A B) ≡ z1 → zero? (cross q A B) ≡ z2 → same (up? (cross p A B)) (up? (cross q A B)) ≡ s → hit? (segment p q A B) ≡ hit? (only z1 z2 s)
  unfolding only
  first e f t = λ i. hit? (only (e i) (f i) (t i))

  unfoldable pub Opposed : Type 0
  Opposed = ((u <ℤ pos 0) × (pos 0 <ℤ v)) ⊎ ((v <ℤ pos 0) × (pos 0 <ℤ u))

  pub A_mid : Opposed → u *ℤ h -ℤ v *ℤ g ≡ pos 0 → on A p q ≡ true
  unfolding Opposed
  A_mid s e =
      both (same_pt A p || same_pt A q) (eq_z p.y q.y) (between u v A.x p.x q.x s (k.A_x ∙ times_zero k.ax (u *ℤ h -ℤ v *ℤ g) e))
      (between u v A.y p.y q.y s (k.A_y ∙ times_zero k.ay (u *ℤ h -ℤ v *ℤ g) e))

  pub B_mid : Opposed → v *ℤ w -ℤ u *ℤ x ≡ pos 0 → on B p q ≡ true
  unfolding Opposed
  B_mid s e =
      both (same_pt B p || same_pt B q) (eq_z p.y q.y) (between u v B.x p.x q.x s (k.B_x ∙ times_zero k.bx (v *ℤ w -ℤ u *ℤ x) e))
      (between u v B.y p.y q.y s (k.B_y ∙ times_zero k.by (v *ℤ w -ℤ u *ℤ x) e))

  -- the two ends on opposite sides of the edge's line
  opposed : Opposed → (u *ℤ h -ℤ v *ℤ g ≡ v *ℤ w -ℤ u *ℤ x → ⊥) → Decides (hit? (segment p q A B)) (Split (u *ℤ h -ℤ v *ℤ g) (v *ℤ w -ℤ u *ℤ x))
  unfolding Opposed only
  opposed s ne =
      decided (first (z1_no (nu s)) (z2_no (nv s)) (s12 (unlike k.e u v k.e_non (un s))) ∙ (λ i. hit? (tail (zero? (k.A_off i)) (on A p q) (zero? (k.B_off i)) (on B p q) (same (up? (k.A_off i)) (up? (k.B_off i))) A B)))
      (λ h. h) (λ h. h) (tail_splits A B (on A p q) (on B p q) k.c (u *ℤ h -ℤ v *ℤ g) (v *ℤ w -ℤ u *ℤ x) k.c_non (A_mid s) (B_mid s) ne)
    where
      nu : ((u <ℤ pos 0) × (pos 0 <ℤ v)) ⊎ ((v <ℤ pos 0) × (pos 0 <ℤ u)) → NonZero u
      nu (inl h) = inr h.0
      nu (inr h) = inl h.1

      nv : ((u <ℤ pos 0) × (pos 0 <ℤ v)) ⊎ ((v <ℤ pos 0) × (pos 0 <ℤ u)) → NonZero v
      nv (inl h) = inl h.1
      nv (inr h) = inr h.0

      un : ((u <ℤ pos 0) × (pos 0 <ℤ v)) ⊎ ((v <ℤ pos 0) × (pos 0 <ℤ u)) → ((pos 0 <ℤ u) × (v <ℤ pos 0)) ⊎ ((u <ℤ pos 0) × (pos 0 <ℤ v))
      un (inl h) = inr h
      un (inr h) = inl (h.1, h.0)

  pub segment_cuts : Decides (hit? (segment p q A B)) Cuts
  unfolding only Opposed
  segment_cuts = go (tri u (pos 0)) (tri v (pos 0))
    where
      no_up : pos 0 <ℤ u → pos 0 <ℤ v → Cuts → ⊥
      no_up a b (inl c) = omega (zint, c.low)
      no_up a b (inr c) = omega (zint, c.low)

      no_down : u <ℤ pos 0 → v <ℤ pos 0 → Cuts → ⊥
      no_down a b (inl c) = omega (zint, c.high)
      no_down a b (inr c) = omega (zint, c.high)

      no_both : u ≡ pos 0 → v ≡ pos 0 → Cuts → ⊥
      no_both a b (inl c) = omega (zint, c.rise, eq→ a, eq→ b)
      no_both a b (inr c) = omega (zint, c.rise, eq→ a, eq→ b)

      p_at : u ≡ pos 0 → NonZero v → hit? (segment p q A B) ≡ on p A B
      p_at a n = first (z1_yes a) (z2_no n) refl ∙ hit_known (on p A B) p

      q_at : NonZero u → v ≡ pos 0 → hit? (segment p q A B) ≡ on q A B
      q_at n b = first (z1_no n) (z2_yes b) refl ∙ hit_known (on q A B) q

      -- p on the line
      p_up : u ≡ pos 0 → pos 0 <ℤ v → Cuts → (pos 0 ≤ℤ g) × (pos 0 ≤ℤ w)
      p_up a b (inl c) = (untouch u v g h a b c.one, untouch u v w x a b c.two)
      p_up a b (inr c) = absurd (no c.low b)
        where
          no : v ≤ℤ pos 0 → pos 0 <ℤ v → ⊥
          no l m = omega zint

      p_down : u ≡ pos 0 → v <ℤ pos 0 → Cuts → (pos 0 ≤ℤ g) × (pos 0 ≤ℤ w)
      p_down a b (inr c) = (untouch' v u h g a b c.one, untouch' v u x w a b c.two)
      p_down a b (inl c) = absurd (no c.high b)
        where
          no : pos 0 ≤ℤ v → v <ℤ pos 0 → ⊥
          no l m = omega zint

      q_up : v ≡ pos 0 → pos 0 <ℤ u → Cuts → (pos 0 ≤ℤ h) × (pos 0 ≤ℤ x)
      q_up a b (inr c) = (untouch v u h g a b c.one, untouch v u x w a b c.two)
      q_up a b (inl c) = absurd (no c.low b)
        where
          no : u ≤ℤ pos 0 → pos 0 <ℤ u → ⊥
          no l m = omega zint

      q_down : v ≡ pos 0 → u <ℤ pos 0 → Cuts → (pos 0 ≤ℤ h) × (pos 0 ≤ℤ x)
      q_down a b (inl c) = (untouch' u v g h a b c.one, untouch' u v w x a b c.two)
      q_down a b (inr c) = absurd (no c.high b)
        where
          no : pos 0 ≤ℤ u → u <ℤ pos 0 → ⊥
          no l m = omega zint

      -- the ends on opposite sides
      rising : u <ℤ pos 0 → pos 0 <ℤ v → Decides (hit? (segment p q A B)) Cuts
      rising a b =
          let lt : (u *ℤ h -ℤ v *ℤ g) <ℤ (v *ℤ w -ℤ u *ℤ x) = both_sum u v g h w x k.m k.p_along k.q_along k.m_pos (omega zint) in
          decided refl to_cut from_cut (opposed (inl (a, b)) (λ e. omega (zint, eq→ e)))
        where
          to_cut : Split (u *ℤ h -ℤ v *ℤ g) (v *ℤ w -ℤ u *ℤ x) → Cuts
          to_cut (inl s) = inl (record { low = omega zint; high = omega zint; rise = omega zint; one = omega (zint, s.0, sub_pn (u *ℤ h) (v *ℤ g)); two = omega (zint, s.1, sub_pn (v *ℤ w) (u *ℤ x)) })
          to_cut (inr s) =
              let lt : (u *ℤ h -ℤ v *ℤ g) <ℤ (v *ℤ w -ℤ u *ℤ x) = both_sum u v g h w x k.m k.p_along k.q_along k.m_pos (omega zint) in
              absurd (no lt s.0 s.1)
            where
              no : (u *ℤ h -ℤ v *ℤ g) <ℤ (v *ℤ w -ℤ u *ℤ x) → (v *ℤ w -ℤ u *ℤ x) ≤ℤ pos 0 → pos 0 ≤ℤ (u *ℤ h -ℤ v *ℤ g) → ⊥
              no l m n = omega zint

          from_cut : Cuts → Split (u *ℤ h -ℤ v *ℤ g) (v *ℤ w -ℤ u *ℤ x)
          from_cut (inl c) = inl (omega (zint, c.one, sub_pn (u *ℤ h) (v *ℤ g)), omega (zint, c.two, sub_pn (v *ℤ w) (u *ℤ x)))
          from_cut (inr c) = absurd (no c.low b)
            where
              no : v ≤ℤ pos 0 → pos 0 <ℤ v → ⊥
              no l m = omega zint

      falling : v <ℤ pos 0 → pos 0 <ℤ u → Decides (hit? (segment p q A B)) Cuts
      falling a b =
          let lt : (v *ℤ g -ℤ u *ℤ h) <ℤ (u *ℤ x -ℤ v *ℤ w) = both_sum v u h g x w k.m k.q_along k.p_along k.m_pos (omega zint) in
          decided refl to_cut from_cut
          (opposed (inr (a, b)) (λ e. omega (zint, eq→ e, sub_pn (u *ℤ h) (v *ℤ g), sub_pn (v *ℤ g) (u *ℤ h), sub_pn (v *ℤ w) (u *ℤ x), sub_pn (u *ℤ x) (v *ℤ w))))
        where
          to_cut : Split (u *ℤ h -ℤ v *ℤ g) (v *ℤ w -ℤ u *ℤ x) → Cuts
          to_cut (inr s) = inr (record { low = omega zint; high = omega zint; rise = omega zint; one = omega (zint, s.1, sub_pn (u *ℤ h) (v *ℤ g)); two = omega (zint, s.0, sub_pn (v *ℤ w) (u *ℤ x)) })
          to_cut (inl s) =
              let lt : (v *ℤ g -ℤ u *ℤ h) <ℤ (u *ℤ x -ℤ v *ℤ w) = both_sum v u h g x w k.m k.q_along k.p_along k.m_pos (omega zint) in
              absurd (no lt s.0 s.1)
            where
              no : (v *ℤ g -ℤ u *ℤ h) <ℤ (u *ℤ x -ℤ v *ℤ w) → (u *ℤ h -ℤ v *ℤ g) ≤ℤ pos 0 → pos 0 ≤ℤ (v *ℤ w -ℤ u *ℤ x) → ⊥
              no l m n = omega (zint, sub_pn (u *ℤ h) (v *ℤ g), sub_pn (v *ℤ g) (u *ℤ h), sub_pn (v *ℤ w) (u *ℤ x), sub_pn (u *ℤ x) (v *ℤ w))

          from_cut : Cuts → Split (u *ℤ h -ℤ v *ℤ g) (v *ℤ w -ℤ u *ℤ x)
          from_cut (inr c) = inr (omega (zint, c.two, sub_pn (v *ℤ w) (u *ℤ x)), omega (zint, c.one, sub_pn (u *ℤ h) (v *ℤ g)))
          from_cut (inl c) = absurd (no c.low b)
            where
              no : u ≤ℤ pos 0 → pos 0 <ℤ u → ⊥
              no l m = omega zint

      go : (u <ℤ pos 0) ⊎ ((u ≡ pos 0) ⊎ (pos 0 <ℤ u)) → (v <ℤ pos 0) ⊎ ((v ≡ pos 0) ⊎ (pos 0 <ℤ v)) → Decides (hit? (segment p q A B)) Cuts
      go (inr (inl a)) (inr (inl b)) = inr (first (z1_yes a) (z2_yes b) refl, no_both a b)
      go (inr (inl a)) (inr (inr b)) =
          decided (p_at a (inl b)) (λ s. inl (record { low = omega (zint, eq→ a); high = omega zint; rise = omega (zint, eq→ a); one = touch u v g h a b s.0; two = touch u v w x a b s.1 })) (p_up a b) (k.p_on a)
      go (inr (inl a)) (inl b) =
          decided (p_at a (inr b)) (λ s. inr (record { low = omega zint; high = omega (zint, eq→ a); rise = omega (zint, eq→ a); one = touch' v u h g a b s.0; two = touch' v u x w a b s.1 })) (p_down a b) (k.p_on a)
      go (inr (inr a)) (inr (inl b)) =
          decided (q_at (inl a) b) (λ s. inr (record { low = omega (zint, eq→ b); high = omega zint; rise = omega (zint, eq→ b); one = touch v u h g b a s.0; two = touch v u x w b a s.1 })) (q_up b a) (k.q_on b)
      go (inl a) (inr (inl b)) =
          decided (q_at (inr a) b) (λ s. inl (record { low = omega zint; high = omega (zint, eq→ b); rise = omega (zint, eq→ b); one = touch' u v g h b a s.0; two = touch' u v w x b a s.1 })) (q_down b a) (k.q_on b)
      go (inl a) (inl b) = inr (first (z1_no (inr a)) (z2_no (inr b)) (s12 (alike k.e u v k.e_non (inr (a, b)))), no_down a b)
      go (inr (inr a)) (inr (inr b)) = inr (first (z1_no (inl a)) (z2_no (inl b)) (s12 (alike k.e u v k.e_non (inl (a, b)))), no_up a b)
      go (inl a) (inr (inr b)) = rising a b
      go (inr (inr a)) (inl b) = falling b a
