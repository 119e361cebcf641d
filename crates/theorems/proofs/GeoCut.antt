-- Where a segment cuts an edge, in depths alone, and what the search order makes of it: one argument for the four sides.
-- A segment goes from p to q. On the side s the depths are a and b; on its neighbours g, h and u, v; on the opposite side o, k.
-- Depths on opposite sides add up to the rectangle's width or height.
use mathlib.Core.Path.{◌≡◌, ap}
use mathlib.Core.List.{[], ◌∷◌}
use mathlib.Core.Logic.{◌⊎◌, inl, inr, ⊎_elim}
use lib.IntN.{ℤ, pos, ◌+ℤ◌, ◌*ℤ◌, *ℤ_comm}
use lib.Signed.{◌≤ℤ◌, ◌<ℤ◌}
use Rattle.integers.specs.Order.{zint, add_pn}
use Rattle.integers.specs.Tests.{lt_or_le}
use Rattle.integers.specs.Ring.{Ex, con, v0, v1, v2, v3, v4, v5, v6, ◌⊕◌, ◌⊗◌, ⊝}
use Rattle.integers.specs.Certify.{◌≼◌, ◌≺◌, ◌≈◌, hyp, num, times, ◌⊞◌, ◌⊠◌, certify_le, certify_no}

-- The segment comes from beyond the side (depth a) to within it (depth b), and crosses its line between the neighbours' lines.
pub record Cut (a b t t' w w' : ℤ) : Type 0 where
  pub low : a ≤ℤ pos 0
  pub high : pos 0 ≤ℤ b
  pub rise : a <ℤ b
  pub one : (a *ℤ t') ≤ℤ (b *ℤ t)
  pub two : (a *ℤ w') ≤ℤ (b *ℤ w)

pub swap : {a b t t' w w' : ℤ} → Cut a b t t' w w' → Cut a b w w' t t'
swap c = record { low = c.low; high = c.high; rise = c.rise; one = c.two; two = c.one }

pub flip_le : (a b c d : ℤ) → (a *ℤ b) ≤ℤ (c *ℤ d) → (b *ℤ a) ≤ℤ (d *ℤ c)
flip_le a b c d h = rw (*ℤ_comm b a, *ℤ_comm d c) h

abbrev O : Ex
O = con (pos 0)

-- ---- signs
below : (A B x y : ℤ) → A ≤ℤ pos 0 → pos 0 ≤ℤ y → pos 0 ≤ℤ B → (B *ℤ x) <ℤ (A *ℤ y) → x <ℤ pos 0
below A B x y p0 p1 p2 p3 =
    ⊎_elim (λ h. h) (λ p4. absurd (certify_no (A ∷ B ∷ x ∷ y ∷ []) (v0 ≼ O ∷ O ≼ v3 ∷ O ≼ v1 ∷ (v1 ⊗ v2) ≺ (v0 ⊗ v3) ∷ O ≼ v2 ∷ []) (hyp 3 ⊞ hyp 0 ⊠ hyp 1 ⊞ hyp 2 ⊠ hyp 4) tt (p0, (p1, (p2, (p3, (p4, tt)))))))
    (lt_or_le x (pos 0))

pub apart : (x y ox oy : ℤ) → x ≤ℤ pos 0 → pos 0 ≤ℤ y → pos 0 ≤ℤ ox → pos 0 ≤ℤ oy → (x *ℤ oy) ≤ℤ (y *ℤ ox)
apart x y ox oy p0 p1 p2 p3 =
    certify_le (x ∷ y ∷ ox ∷ oy ∷ []) (v0 ≼ O ∷ O ≼ v1 ∷ O ≼ v2 ∷ O ≼ v3 ∷ []) (v0 ⊗ v3) (v1 ⊗ v2) (hyp 0 ⊠ hyp 3 ⊞ hyp 1 ⊠ hyp 2) tt (p0, (p1, (p2, (p3, tt))))

-- from a neighbour's crossing to the opposite neighbour's
slide : (x y wx wy ox oy H : ℤ) → x +ℤ wx ≡ H → y +ℤ wy ≡ H → pos 0 ≤ℤ H → oy ≤ℤ ox → (wy *ℤ ox) ≤ℤ (wx *ℤ oy) → (x *ℤ oy) ≤ℤ (y *ℤ ox)
slide x y wx wy ox oy H p0 p1 p2 p3 p4 =
    certify_le (x ∷ y ∷ wx ∷ wy ∷ ox ∷ oy ∷ H ∷ []) ((v0 ⊕ v2) ≈ v6 ∷ (v1 ⊕ v3) ≈ v6 ∷ O ≼ v6 ∷ v5 ≼ v4 ∷ (v3 ⊗ v4) ≼ (v2 ⊗ v5) ∷ []) (v0 ⊗ v5) (v1 ⊗ v4) (hyp 4 ⊞ hyp 2 ⊠ hyp 3 ⊞ times v5 0 ⊞ times (⊝ v4) 1) tt
    (p0, (p1, (p2, (p3, (p4, tt)))))

-- Where the segment passes the corner on a neighbour's far side, it cuts the neighbour, and begins strictly beyond it.
pub corner : (A B x y ox oy : ℤ) → A ≤ℤ pos 0 → pos 0 ≤ℤ y → pos 0 ≤ℤ B → (B *ℤ x) <ℤ (A *ℤ y) → (x *ℤ oy) ≤ℤ (y *ℤ ox) → (x <ℤ pos 0) × Cut x y A B ox oy
corner A B x y ox oy p0 p1 p2 p3 p4 =
    let n : x <ℤ pos 0 = below A B x y p0 p1 p2 p3 in
    let q : (x *ℤ B) ≤ℤ (y *ℤ A) = flip_le B x A y (omega zint) in
    (n, record { low = omega zint; high = p1; rise = omega zint; one = q; two = p4 })

-- ---- the depths of two points on a side, its opposite and its two neighbours
pub record Depths (a b o k g h u v : ℤ) : Type 0 where
  pub W : ℤ
  pub H : ℤ
  pub W_pos : pos 0 <ℤ W
  pub H_pos : pos 0 <ℤ H
  pub p_across : a +ℤ o ≡ W
  pub q_across : b +ℤ k ≡ W
  pub p_along : g +ℤ u ≡ H
  pub q_along : h +ℤ v ≡ H

module _ {a b o k g h u v : ℤ} (d : Depths a b o k g h u v) where
  -- Entering. p is strictly inside, q on or beyond s: the segment cuts s or one of its neighbours.
  pub enters : pos 0 <ℤ a → pos 0 <ℤ o → pos 0 <ℤ g → pos 0 <ℤ u → b ≤ℤ pos 0 → Cut b a h g v u ⊎ (Cut h g b a k o ⊎ Cut v u b a k o)
  enters ap op gp up bn = go (lt_or_le (a *ℤ h) (b *ℤ g)) (lt_or_le (a *ℤ v) (b *ℤ u))
    where
      kp : pos 0 ≤ℤ k
      kp = omega (zint, add_pn b k, d.q_across, d.W_pos)

      go : ((a *ℤ h) <ℤ (b *ℤ g)) ⊎ ((b *ℤ g) ≤ℤ (a *ℤ h)) → ((a *ℤ v) <ℤ (b *ℤ u)) ⊎ ((b *ℤ u) ≤ℤ (a *ℤ v)) → Cut b a h g v u ⊎ (Cut h g b a k o ⊎ Cut v u b a k o)
      go (inr one) (inr two) = inl (record { low = bn; high = omega zint; rise = omega zint; one = one; two = two })
      go (inl f) y =
          let n : h <ℤ pos 0 = below b a h g bn (omega zint) (omega zint) f in
          inr (inl (corner b a h g k o bn (omega zint) (omega zint) f (apart h g k o (omega zint) (omega zint) kp (omega zint))).1)
      go (inr one) (inl f) =
          let n : v <ℤ pos 0 = below b a v u bn (omega zint) (omega zint) f in
          inr (inr (corner b a v u k o bn (omega zint) (omega zint) f (apart v u k o (omega zint) (omega zint) kp (omega zint))).1)

  -- Leaving. q is in the closed rectangle, p strictly beyond s: the segment cuts s, or a neighbour that p is strictly beyond.
  pub leaves : a <ℤ pos 0 → pos 0 ≤ℤ b → pos 0 ≤ℤ k → pos 0 ≤ℤ h → pos 0 ≤ℤ v → Cut a b g h u v ⊎ (((g <ℤ pos 0) × Cut g h a b o k) ⊎ ((u <ℤ pos 0) × Cut u v a b o k))
  leaves an bp kp hp vp = go (lt_or_le (b *ℤ g) (a *ℤ h)) (lt_or_le (b *ℤ u) (a *ℤ v))
    where
      op : pos 0 ≤ℤ o
      op = omega (zint, add_pn a o, d.p_across, d.W_pos)

      az : a ≤ℤ pos 0
      az = omega zint

      go : ((b *ℤ g) <ℤ (a *ℤ h)) ⊎ ((a *ℤ h) ≤ℤ (b *ℤ g)) → ((b *ℤ u) <ℤ (a *ℤ v)) ⊎ ((a *ℤ v) ≤ℤ (b *ℤ u))
          → Cut a b g h u v ⊎ (((g <ℤ pos 0) × Cut g h a b o k) ⊎ ((u <ℤ pos 0) × Cut u v a b o k))
      go (inr one) (inr two) = inl (record { low = az; high = bp; rise = omega zint; one = one; two = two })
      go (inl f) y =
          let n : g <ℤ pos 0 = below a b g h az hp bp f in
          inr (inl (corner a b g h o k az hp bp f (apart g h o k (omega zint) hp op kp)))
      go (inr one) (inl f) =
          let n : u <ℤ pos 0 = below a b u v az vp bp f in
          inr (inr (corner a b u v o k az vp bp f (apart u v o k (omega zint) vp op kp)))

  -- Staying on its side. p is on or beyond s and strictly within u, and the segment cuts u: it cuts s or, p being strictly
  -- beyond it, g; or both points lie on the line of s.
  pub keeps : a ≤ℤ pos 0 → pos 0 <ℤ u → Cut v u b a k o → ((a ≡ pos 0) × (b ≡ pos 0)) ⊎ (Cut a b g h u v ⊎ ((g <ℤ pos 0) × Cut g h a b o k))
  keeps an up c = go (lt_or_le b (pos 0)) (lt_or_le a b) (lt_or_le (b *ℤ g) (a *ℤ h))
    where
      clash : b <ℤ pos 0 → ⊥
      clash n = certify_no (a ∷ b ∷ u ∷ v ∷ []) (v3 ≼ O ∷ v0 ≼ O ∷ O ≺ v2 ∷ v1 ≺ O ∷ (v3 ⊗ v0) ≼ (v2 ⊗ v1) ∷ []) (hyp 2 ⊞ hyp 3 ⊞ hyp 4 ⊞ hyp 0 ⊠ hyp 1 ⊞ hyp 2 ⊠ hyp 3) tt (c.low, (an, (up, (n, (c.one, tt)))))

      hp : pos 0 ≤ℤ h
      hp = omega (zint, add_pn h v, d.q_along, d.H_pos, c.low)

      go : (b <ℤ pos 0) ⊎ (pos 0 ≤ℤ b) → (a <ℤ b) ⊎ (b ≤ℤ a) → ((b *ℤ g) <ℤ (a *ℤ h)) ⊎ ((a *ℤ h) ≤ℤ (b *ℤ g)) → ((a ≡ pos 0) × (b ≡ pos 0)) ⊎ (Cut a b g h u v ⊎ ((g <ℤ pos 0) × Cut g h a b o k))
      go (inl n) x y = absurd (clash n)
      go (inr bp) (inr le) y = inl (omega zint, omega zint)
      go (inr bp) (inl lt) (inr one) = inr (inl (record { low = an; high = bp; rise = lt; one = one; two = flip_le v a u b c.one }))
      go (inr bp) (inl lt) (inl f) =
          let ko : k ≤ℤ o = omega (zint, add_pn a o, add_pn b k, d.p_across, d.q_across) in
          inr (inr (corner a b g h o k an hp bp f (slide g h u v o k d.H d.p_along d.q_along (omega (zint, d.H_pos)) ko c.two)))

  -- The way back. q is on or beyond s, p strictly within it. A segment that cuts the neighbour g, q not strictly beyond it, cuts s or u.
  pub back_beside : b ≤ℤ pos 0 → pos 0 <ℤ a → pos 0 ≤ℤ h → Cut g h a b o k ⊎ Cut h g b a k o → Cut b a h g v u ⊎ Cut v u b a k o
  back_beside bn ap hp (inl c) = go (lt_or_le (a *ℤ v) (b *ℤ u))
    where
      one : (b *ℤ g) ≤ℤ (a *ℤ h)
      one = flip_le g b h a c.one

      up : pos 0 ≤ℤ u
      up = omega (zint, add_pn g u, d.p_along, d.H_pos, c.low)

      go : ((a *ℤ v) <ℤ (b *ℤ u)) ⊎ ((b *ℤ u) ≤ℤ (a *ℤ v)) → Cut b a h g v u ⊎ Cut v u b a k o
      go (inr two) = inl (record { low = bn; high = omega zint; rise = omega zint; one = one; two = two })
      go (inl f) =
          let ok : o ≤ℤ k = omega (zint, add_pn a o, add_pn b k, d.p_across, d.q_across) in
          inr
          (corner b a v u k o bn up (omega zint) f
          (slide v u h g k o d.H (omega (zint, add_pn h v, add_pn v h, d.q_along)) (omega (zint, add_pn g u, add_pn u g, d.p_along)) (omega (zint, d.H_pos)) ok c.two)).1
  back_beside bn ap hp (inr c) = inl (record { low = bn; high = omega zint; rise = omega zint; one = apart b a h g bn (omega zint) hp c.high; two = two })
    where
      hz : h ≡ pos 0
      hz = omega (zint, c.low)

      gp : pos 0 <ℤ g
      gp = omega (zint, c.rise)

      clash : b <ℤ pos 0 → ⊥
      clash n = certify_no (a ∷ b ∷ g ∷ h ∷ []) (v3 ≈ O ∷ (v3 ⊗ v0) ≼ (v2 ⊗ v1) ∷ O ≺ v2 ∷ v1 ≺ O ∷ []) (hyp 1 ⊞ hyp 2 ⊞ hyp 3 ⊞ hyp 2 ⊠ hyp 3 ⊞ times (⊝ v0) 0) tt (hz, (c.one, (gp, (n, tt))))

      bz : b ≡ pos 0
      bz = ⊎_elim (λ n. absurd (clash n)) (λ n. omega zint) (lt_or_le b (pos 0))

      vp : pos 0 ≤ℤ v
      vp = omega (zint, add_pn h v, d.q_along, d.H_pos)

      two : (b *ℤ u) ≤ℤ (a *ℤ v)
      two = certify_le (a ∷ b ∷ u ∷ v ∷ []) (v1 ≈ O ∷ O ≼ v0 ∷ O ≼ v3 ∷ []) (v1 ⊗ v2) (v0 ⊗ v3) (hyp 1 ⊠ hyp 2 ⊞ times v2 0) tt (bz, (omega zint, (vp, tt)))

-- the cut of the opposite side bounds the neighbour's depth at the segment's inner end
inner : (a b g h o k W : ℤ) → a +ℤ o ≡ W → b +ℤ k ≡ W → pos 0 <ℤ W → o ≤ℤ pos 0 → pos 0 <ℤ k → (o *ℤ h) ≤ℤ (k *ℤ g) → (a *ℤ h) <ℤ (b *ℤ g) → pos 0 ≤ℤ g
inner a b g h o k W e f w on kp c fail =
    ⊎_elim (λ gn. absurd (⊎_elim (λ hg. steep gn hg) (λ gh. flat gh) (lt_or_le h g))) (λ gp. gp) (lt_or_le g (pos 0))
  where
    flat : g ≤ℤ h → ⊥
    flat gh =
        certify_no (a ∷ b ∷ g ∷ h ∷ o ∷ k ∷ W ∷ []) ((v0 ⊕ v4) ≈ v6 ∷ (v1 ⊕ v5) ≈ v6 ∷ O ≺ v6 ∷ (v4 ⊗ v3) ≼ (v5 ⊗ v2) ∷ (v0 ⊗ v3) ≺ (v1 ⊗ v2) ∷ v2 ≼ v3 ∷ [])
        (hyp 3 ⊞ hyp 4 ⊞ hyp 5 ⊞ hyp 2 ⊠ hyp 5 ⊞ times (⊝ v3) 0 ⊞ times v2 1) tt (e, (f, (w, (c, (fail, (gh, tt))))))

    steep : g <ℤ pos 0 → h <ℤ g → ⊥
    steep gn hg =
        certify_no (g ∷ h ∷ o ∷ k ∷ []) (v2 ≼ O ∷ O ≺ v3 ∷ (v2 ⊗ v1) ≼ (v3 ⊗ v0) ∷ v1 ≺ v0 ∷ v0 ≺ O ∷ [])
        (num 2 ⊠ hyp 0 ⊞ hyp 1 ⊞ hyp 2 ⊞ hyp 4 ⊞ hyp 0 ⊠ hyp 3 ⊞ hyp 0 ⊠ hyp 4 ⊞ hyp 1 ⊠ hyp 4) tt (on, (kp, (c, (hg, (gn, tt)))))

module _ {a b o k g h u v : ℤ} (d : Depths a b o k g h u v) where
  -- A segment that cuts the opposite side cuts s, or a neighbour that q is strictly beyond.
  pub back_across : b ≤ℤ pos 0 → Cut o k g h u v → Cut b a h g v u ⊎ (((h <ℤ pos 0) × Cut h g b a k o) ⊎ ((v <ℤ pos 0) × Cut v u b a k o))
  back_across bn c = go (lt_or_le (a *ℤ h) (b *ℤ g)) (lt_or_le (a *ℤ v) (b *ℤ u))
    where
      kp : pos 0 <ℤ k
      kp = omega (zint, add_pn b k, d.q_across, d.W_pos)

      ap : pos 0 <ℤ a
      ap = omega (zint, add_pn a o, d.p_across, d.W_pos, c.low)

      go : ((a *ℤ h) <ℤ (b *ℤ g)) ⊎ ((b *ℤ g) ≤ℤ (a *ℤ h)) → ((a *ℤ v) <ℤ (b *ℤ u)) ⊎ ((b *ℤ u) ≤ℤ (a *ℤ v)) → Cut b a h g v u ⊎ (((h <ℤ pos 0) × Cut h g b a k o) ⊎ ((v <ℤ pos 0) × Cut v u b a k o))
      go (inr one) (inr two) = inl (record { low = bn; high = omega (zint, ap); rise = omega (zint, ap); one = one; two = two })
      go (inl f) y =
          inr (inl (corner b a h g k o bn (inner a b g h o k d.W d.p_across d.q_across d.W_pos c.low kp c.one f) (omega (zint, ap)) f (flip_le o h k g c.one)))
      go (inr one) (inl f) =
          inr (inr (corner b a v u k o bn (inner a b u v o k d.W d.p_across d.q_across d.W_pos c.low kp c.two f) (omega (zint, ap)) f (flip_le o v k u c.two)))
