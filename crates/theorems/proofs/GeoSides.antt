-- The four sides: what their edges show (`Seen`), the depths of two points around a side (`Depths`), and so `met` decides `Meets`.
use mathlib.Core.Path.{◌≡◌, refl}
use mathlib.Core.Bool.{Bool, true, false, cond, ◌&&◌, ◌||◌}
use mathlib.Core.List.{List, [], ◌∷◌}
use mathlib.Core.Logic.{◌⊎◌, inl, inr}
use lib.Dec.{T}
use lib.IntN.{ℤ, pos, negsuc, ◌+ℤ◌, ◌-ℤ◌}
use lib.Signed.{lt_z, ◌≤ℤ◌, ◌<ℤ◌}
use Rattle.integers.specs.Order.{zint, sub_pn, eq→}
use Rattle.integers.specs.Tests.{eq_z, eq_eqZ, ne_eqZ}
use Rattle.integers.specs.Ring.{Ex, ev, norm, zero_p, con, v0, v1, v2, v3, v4, v5, v6, v7, ◌⊕◌, ◌⊖◌, ◌⊗◌, ring}
use Rattle.plane.specs.declared.point.Point64.{Point64}
use Rattle.plane.specs.declared.rect.Rect64.{Rect64}
use Rattle.theorems.proofs.GeoPlane.{pt, same, on, Side, on_left, on_top, on_right, on_bottom, from, to, edge, met, depth, opposite, second, last, span, Proper}
use Rattle.theorems.proofs.GeoCut.{Cut, Depths, swap}
use Rattle.theorems.proofs.GeoTell.{Decides, NonZero, ranged, ranged_up, ranged_down, decided}
use Rattle.theorems.proofs.GeoEdge.{Seen, segment_cuts}
use Rattle.theorems.proofs.GeoAnswers.{Twin, twins}

-- ---- a point on the line of an edge: `on` decides whether it is between the ends
upright_on : (p : Point64) (c a b : ℤ) → a <ℤ b → p.x ≡ c → Decides (on p (pt c a) (pt c b)) ((pos 0 ≤ℤ (p.y -ℤ a)) × (pos 0 ≤ℤ (b -ℤ p.y)))
upright_on p c a b ab e =
    decided
    (λ i. cond ((eq_eqZ p.x c e i && eq_z p.y a) || (eq_eqZ p.x c e i && eq_z p.y b)) true (cond (ne_eqZ a b (λ q. omega (zint, eq→ q)) i) (same (lt_z c p.x) (lt_z p.x c)) (same (lt_z a p.y) (lt_z p.y b))))
    (λ h. (omega (zint, h.0, sub_pn p.y a), omega (zint, h.1, sub_pn b p.y))) (λ h. (omega (zint, h.0, sub_pn p.y a), omega (zint, h.1, sub_pn b p.y))) (ranged_up p.y a b ab)

and_true : (b : Bool) {t : Bool} → t ≡ true → (b && t) ≡ b
and_true true e = e
and_true false e = refl

level_ranged : (p : Point64) (c a b : ℤ) → p.y ≡ c → on p (pt a c) (pt b c) ≡ ranged p.x a b
level_ranged p c a b e =
    λ i. cond (and_true (eq_z p.x a) (eq_eqZ p.y c e) i || and_true (eq_z p.x b) (eq_eqZ p.y c e) i) true (cond (eq_eqZ c c refl i) (same (lt_z a p.x) (lt_z p.x b)) (same (lt_z c p.y) (lt_z p.y c)))

level_on : (p : Point64) (c a b : ℤ) → a <ℤ b → p.y ≡ c → Decides (on p (pt a c) (pt b c)) ((pos 0 ≤ℤ (p.x -ℤ a)) × (pos 0 ≤ℤ (b -ℤ p.x)))
level_on p c a b ab e =
    decided (level_ranged p c a b e)
    (λ h. (omega (zint, h.0, sub_pn p.x a), omega (zint, h.1, sub_pn b p.x))) (λ h. (omega (zint, h.0, sub_pn p.x a), omega (zint, h.1, sub_pn b p.x))) (ranged_up p.x a b ab)

level_on' : (p : Point64) (c a b : ℤ) → b <ℤ a → p.y ≡ c → Decides (on p (pt a c) (pt b c)) ((pos 0 ≤ℤ (a -ℤ p.x)) × (pos 0 ≤ℤ (p.x -ℤ b)))
level_on' p c a b ba e =
    decided (level_ranged p c a b e)
    (λ h. (omega (zint, h.1, sub_pn a p.x), omega (zint, h.0, sub_pn p.x b))) (λ h. (omega (zint, h.1, sub_pn p.x b), omega (zint, h.0, sub_pn a p.x))) (ranged_down p.x a b ba)

-- ---- the neighbour at the edge's first end
abbrev pub near : Side → Side
near on_left = on_top
near on_top = on_left
near on_right = on_top
near on_bottom = on_right

-- rectangle and points, for the ring
abbrev pub pts : Rect64 → Point64 → Point64 → List ℤ
pts r p q = r.left ∷ r.top ∷ r.right ∷ r.bottom ∷ p.x ∷ p.y ∷ q.x ∷ q.y ∷ []

abbrev cross_e : Ex → Ex → Ex → Ex → Ex → Ex → Ex
cross_e ax ay bx by cx cy = (bx ⊖ ax) ⊗ (cy ⊖ by) ⊖ (by ⊖ ay) ⊗ (cx ⊖ bx)

zeroed : {a b : ℤ} → a -ℤ b ≡ pos 0 → a ≡ b
zeroed {a} {b} e = omega (zint, eq→ e, sub_pn a b)

zeroed' : {a b : ℤ} → b -ℤ a ≡ pos 0 → a ≡ b
zeroed' {a} {b} e = omega (zint, eq→ e, sub_pn b a)

-- An edge in expressions over rectangle and points: its ends, the depths of a point on its side and on the neighbours at its first and last
-- end, its length, and its direction (dx, dy). A point's cross product with the edge is e times its depth, and that of an end with the
-- segment is c times the cut.
record Edge : Type 0 where
  ax : Ex
  ay : Ex
  bx : Ex
  by : Ex
  side : Ex → Ex → Ex
  first : Ex → Ex → Ex
  last : Ex → Ex → Ex
  m : Ex
  e : Ex
  c : ℤ
  dx : ℤ
  dy : ℤ

abbrev edge_of : Side → Edge
edge_of on_left =
    record { ax = v0; ay = v1; bx = v0; by = v3; side = λ x y. x ⊖ v0; first = λ x y. y ⊖ v1; last = λ x y. v3 ⊖ y; m = v3 ⊖ v1; e = v1 ⊖ v3; c = pos 1; dx = pos 0; dy = pos 1 }
edge_of on_top =
    record { ax = v0; ay = v1; bx = v2; by = v1; side = λ x y. y ⊖ v1; first = λ x y. x ⊖ v0; last = λ x y. v2 ⊖ x; m = v2 ⊖ v0; e = v2 ⊖ v0; c = negsuc 0; dx = pos 1; dy = pos 0 }
edge_of on_right =
    record { ax = v2; ay = v1; bx = v2; by = v3; side = λ x y. v2 ⊖ x; first = λ x y. y ⊖ v1; last = λ x y. v3 ⊖ y; m = v3 ⊖ v1; e = v3 ⊖ v1; c = negsuc 0; dx = pos 0; dy = pos 1 }
edge_of on_bottom =
    record { ax = v2; ay = v3; bx = v0; by = v3; side = λ x y. v3 ⊖ y; first = λ x y. v2 ⊖ x; last = λ x y. x ⊖ v0; m = v2 ⊖ v0; e = v2 ⊖ v0; c = negsuc 0; dx = negsuc 0; dy = pos 0 }

module _ (d : Edge) where
  -- the depths of p and q on the side, and on the two neighbours
  abbrev u_e : Ex
  u_e = d.side v4 v5

  abbrev v_e : Ex
  v_e = d.side v6 v7

  abbrev g_e : Ex
  g_e = d.first v4 v5

  abbrev h_e : Ex
  h_e = d.first v6 v7

  abbrev w_e : Ex
  w_e = d.last v4 v5

  abbrev x_e : Ex
  x_e = d.last v6 v7

  -- where the segment is cut, as seen from the first end and from the last
  abbrev cut_a : Ex
  cut_a = u_e ⊗ h_e ⊖ v_e ⊗ g_e

  abbrev cut_b : Ex
  cut_b = v_e ⊗ w_e ⊖ u_e ⊗ x_e

  -- the identities between them, computed
  abbrev Is : Ex → Ex → Type 0
  Is l r = T (zero_p (norm (l ⊖ r)))

  record Identities : Type 0 where
    p_along : Is (g_e ⊕ w_e) d.m
    q_along : Is (h_e ⊕ x_e) d.m
    p_off : Is (cross_e v4 v5 d.ax d.ay d.bx d.by) (d.e ⊗ u_e)
    q_off : Is (cross_e v6 v7 d.ax d.ay d.bx d.by) (d.e ⊗ v_e)
    A_off : Is (cross_e d.ax d.ay v4 v5 v6 v7) (con d.c ⊗ cut_a)
    B_off : Is (cross_e d.bx d.by v4 v5 v6 v7) (con d.c ⊗ cut_b)
    A_x : Is (v_e ⊗ (d.ax ⊖ v4) ⊕ u_e ⊗ (v6 ⊖ d.ax)) (con d.dx ⊗ cut_a)
    A_y : Is (v_e ⊗ (d.ay ⊖ v5) ⊕ u_e ⊗ (v7 ⊖ d.ay)) (con d.dy ⊗ cut_a)
    B_x : Is (v_e ⊗ (d.bx ⊖ v4) ⊕ u_e ⊗ (v6 ⊖ d.bx)) (con d.dx ⊗ cut_b)
    B_y : Is (v_e ⊗ (d.by ⊖ v5) ⊕ u_e ⊗ (v7 ⊖ d.by)) (con d.dy ⊗ cut_b)

identities : (s : Side) → Identities (edge_of s)
identities on_left = record { p_along = tt; q_along = tt; p_off = tt; q_off = tt; A_off = tt; B_off = tt; A_x = tt; A_y = tt; B_x = tt; B_y = tt }
identities on_top = record { p_along = tt; q_along = tt; p_off = tt; q_off = tt; A_off = tt; B_off = tt; A_x = tt; A_y = tt; B_x = tt; B_y = tt }
identities on_right = record { p_along = tt; q_along = tt; p_off = tt; q_off = tt; A_off = tt; B_off = tt; A_x = tt; A_y = tt; B_x = tt; B_y = tt }
identities on_bottom = record { p_along = tt; q_along = tt; p_off = tt; q_off = tt; A_off = tt; B_off = tt; A_x = tt; A_y = tt; B_x = tt; B_y = tt }

-- what an edge shows of p and q, from its identities
module _ (ρ : List ℤ) (d : Edge) (i : Identities d) where
  abbrev at : Ex → ℤ
  at z = ev ρ z

  shown : pos 0 <ℤ at d.m → NonZero (at d.e) → NonZero d.c
      → (at (u_e d) ≡ pos 0 → Decides (on (pt (at v4) (at v5)) (pt (at d.ax) (at d.ay)) (pt (at d.bx) (at d.by))) ((pos 0 ≤ℤ at (g_e d)) × (pos 0 ≤ℤ at (w_e d))))
      → (at (v_e d) ≡ pos 0 → Decides (on (pt (at v6) (at v7)) (pt (at d.ax) (at d.ay)) (pt (at d.bx) (at d.by))) ((pos 0 ≤ℤ at (h_e d)) × (pos 0 ≤ℤ at (x_e d))))
      → Seen (pt (at v4) (at v5)) (pt (at v6) (at v7)) (pt (at d.ax) (at d.ay)) (pt (at d.bx) (at d.by)) (at (u_e d)) (at (v_e d)) (at (g_e d)) (at (h_e d)) (at (w_e d)) (at (x_e d))
  shown m_pos e_non c_non p_on q_on =
      record {
        m = at d.m;
        m_pos = m_pos;
        p_along = ring ρ (g_e d ⊕ w_e d) d.m i.p_along;
        q_along = ring ρ (h_e d ⊕ x_e d) d.m i.q_along;
        e = at d.e;
        e_non = e_non;
        p_off = ring ρ (cross_e v4 v5 d.ax d.ay d.bx d.by) (d.e ⊗ u_e d) i.p_off;
        q_off = ring ρ (cross_e v6 v7 d.ax d.ay d.bx d.by) (d.e ⊗ v_e d) i.q_off;
        c = d.c;
        c_non = c_non;
        A_off = ring ρ (cross_e d.ax d.ay v4 v5 v6 v7) (con d.c ⊗ cut_a d) i.A_off;
        B_off = ring ρ (cross_e d.bx d.by v4 v5 v6 v7) (con d.c ⊗ cut_b d) i.B_off;
        p_on = p_on;
        q_on = q_on;
        ax = d.dx;
        ay = d.dy;
        bx = d.dx;
        by = d.dy;
        A_x = ring ρ (v_e d ⊗ (d.ax ⊖ v4) ⊕ u_e d ⊗ (v6 ⊖ d.ax)) (con d.dx ⊗ cut_a d) i.A_x;
        A_y = ring ρ (v_e d ⊗ (d.ay ⊖ v5) ⊕ u_e d ⊗ (v7 ⊖ d.ay)) (con d.dy ⊗ cut_a d) i.A_y;
        B_x = ring ρ (v_e d ⊗ (d.bx ⊖ v4) ⊕ u_e d ⊗ (v6 ⊖ d.bx)) (con d.dx ⊗ cut_b d) i.B_x;
        B_y = ring ρ (v_e d ⊗ (d.by ⊖ v5) ⊕ u_e d ⊗ (v7 ⊖ d.by)) (con d.dy ⊗ cut_b d) i.B_y;
      }

abbrev pub SeenAt : Rect64 → Side → Point64 → Point64 → Type 0
SeenAt r s p q = Seen p q (from r s) (to r s) (depth r s p) (depth r s q) (depth r (near s) p) (depth r (near s) q) (depth r (opposite (near s)) p) (depth r (opposite (near s)) q)

pub seen : (r : Rect64) → Proper r → (s : Side) (p q : Point64) → SeenAt r s p q
seen r k on_left p q =
    shown (pts r p q) (edge_of on_left) (identities on_left) (omega (zint, k.high, sub_pn r.bottom r.top)) (inr (omega (zint, k.high, sub_pn r.top r.bottom))) (inl (omega zint))
    (λ e. upright_on p r.left r.top r.bottom k.high (zeroed e)) (λ e. upright_on q r.left r.top r.bottom k.high (zeroed e))
seen r k on_top p q =
    shown (pts r p q) (edge_of on_top) (identities on_top) (omega (zint, k.wide, sub_pn r.right r.left)) (inl (omega (zint, k.wide, sub_pn r.right r.left))) (inr (omega zint))
    (λ e. level_on p r.top r.left r.right k.wide (zeroed e)) (λ e. level_on q r.top r.left r.right k.wide (zeroed e))
seen r k on_right p q =
    shown (pts r p q) (edge_of on_right) (identities on_right) (omega (zint, k.high, sub_pn r.bottom r.top)) (inl (omega (zint, k.high, sub_pn r.bottom r.top))) (inr (omega zint))
    (λ e. upright_on p r.right r.top r.bottom k.high (zeroed' e)) (λ e. upright_on q r.right r.top r.bottom k.high (zeroed' e))
seen r k on_bottom p q =
    shown (pts r p q) (edge_of on_bottom) (identities on_bottom) (omega (zint, k.wide, sub_pn r.right r.left)) (inl (omega (zint, k.wide, sub_pn r.right r.left))) (inr (omega zint))
    (λ e. level_on' p r.bottom r.right r.left k.wide (zeroed' e)) (λ e. level_on' q r.bottom r.right r.left k.wide (zeroed' e))

-- ---- the search's relation: the segment between p and q cuts the edge of s, either way; t is one of the neighbours
abbrev pub CutAt : Rect64 → Side → Side → Point64 → Point64 → Type 0
CutAt r s t p q = Cut (depth r s p) (depth r s q) (depth r t p) (depth r t q) (depth r (opposite t) p) (depth r (opposite t) q)

abbrev pub MeetsBy : Rect64 → Side → Side → Point64 → Point64 → Type 0
MeetsBy r s t p q = CutAt r s t p q ⊎ CutAt r s t q p

abbrev pub Meets : Rect64 → Side → Point64 → Point64 → Type 0
Meets r s p q = MeetsBy r s (second s) p q

both_swap : {a b c d e f a' b' c' d' e' f' : ℤ} → Cut a b c d e f ⊎ Cut a' b' c' d' e' f' → Cut a b e f c d ⊎ Cut a' b' e' f' c' d'
both_swap (inl c) = inl (swap c)
both_swap (inr c) = inr (swap c)

near→ : (r : Rect64) (s : Side) (p q : Point64) → MeetsBy r s (near s) p q → Meets r s p q
near→ r on_left p q m = m
near→ r on_top p q m = m
near→ r on_right p q m = m
near→ r on_bottom p q m = both_swap m

→near : (r : Rect64) (s : Side) (p q : Point64) → Meets r s p q → MeetsBy r s (near s) p q
→near r on_left p q m = m
→near r on_top p q m = m
→near r on_right p q m = m
→near r on_bottom p q m = both_swap m

-- THE EDGE: the test of `get_segment_intersection` decides the relation
pub met_decides : (r : Rect64) → Proper r → (s : Side) (p q : Point64) → Decides (met r p q s) (Meets r s p q)
met_decides r k s p q = decided refl (near→ r s p q) (→near r s p q) (segment_cuts (seen r k s p q))

-- ---- the depths around a side: s, its opposite, and its neighbours `second s` and `last s`
pub around : (r : Rect64) → Proper r → (s : Side) (p q : Point64)
    → Depths (depth r s p) (depth r s q) (depth r (opposite s) p) (depth r (opposite s) q) (depth r (second s) p) (depth r (second s) q) (depth r (last s) p) (depth r (last s) q)
around r k s p q =
    record {
      W = span r s;
      H = span r (second s);
      W_pos = span_pos s;
      H_pos = span_pos (second s);
      p_across = across s p;
      q_across = across s q;
      p_along = across (second s) p;
      q_along = across (second s) q;
    }
  where
    span_pos : (s : Side) → pos 0 <ℤ span r s
    span_pos on_left = omega (zint, k.wide, sub_pn r.right r.left)
    span_pos on_top = omega (zint, k.high, sub_pn r.bottom r.top)
    span_pos on_right = omega (zint, k.wide, sub_pn r.right r.left)
    span_pos on_bottom = omega (zint, k.high, sub_pn r.bottom r.top)

    across : (s : Side) (p : Point64) → depth r s p +ℤ depth r (opposite s) p ≡ span r s
    across on_left p = ring (pts r p p) ((v4 ⊖ v0) ⊕ (v2 ⊖ v4)) (v2 ⊖ v0) tt
    across on_top p = ring (pts r p p) ((v5 ⊖ v1) ⊕ (v3 ⊖ v5)) (v3 ⊖ v1) tt
    across on_right p = ring (pts r p p) ((v2 ⊖ v4) ⊕ (v4 ⊖ v0)) (v2 ⊖ v0) tt
    across on_bottom p = ring (pts r p p) ((v3 ⊖ v5) ⊕ (v5 ⊖ v1)) (v3 ⊖ v1) tt

-- ---- the neighbours' own relation, with s for the neighbour's neighbour
pub by_second : (r : Rect64) (s : Side) (p q : Point64) → MeetsBy r (second s) s p q → Meets r (second s) p q
by_second r on_left p q m = m
by_second r on_top p q m = m
by_second r on_right p q m = both_swap m
by_second r on_bottom p q m = both_swap m

pub second_by : (r : Rect64) (s : Side) (p q : Point64) → Meets r (second s) p q → MeetsBy r (second s) s p q
second_by r on_left p q m = m
second_by r on_top p q m = m
second_by r on_right p q m = both_swap m
second_by r on_bottom p q m = both_swap m

pub by_last : (r : Rect64) (s : Side) (p q : Point64) → MeetsBy r (last s) s p q → Meets r (last s) p q
by_last r on_left p q m = m
by_last r on_top p q m = m
by_last r on_right p q m = both_swap m
by_last r on_bottom p q m = both_swap m

pub last_by : (r : Rect64) (s : Side) (p q : Point64) → Meets r (last s) p q → MeetsBy r (last s) s p q
last_by r on_left p q m = m
last_by r on_top p q m = m
last_by r on_right p q m = both_swap m
last_by r on_bottom p q m = both_swap m

pub opposite_by : (r : Rect64) (s : Side) (p q : Point64) → Meets r (opposite s) p q → MeetsBy r (opposite s) (second s) p q
opposite_by r on_left p q m = m
opposite_by r on_top p q m = m
opposite_by r on_right p q m = m
opposite_by r on_bottom p q m = m

-- ---- a segment along the line of s meets the edge of `last s` at a known point, the same from both ends
pub twin_last : (r : Rect64) → Proper r → (s : Side) (p q : Point64) → depth r s p ≡ pos 0 → depth r s q ≡ pos 0 → pos 0 <ℤ depth r (last s) p → depth r (last s) q ≤ℤ pos 0
    → Twin (edge r (last s) p q) (edge r (last s) q p)
twin_last r k s p q a b c d = twins (seen r k (last s) p q) (seen r k (last s) q p) c d (which s a b)
  where
    which : (s : Side) → depth r s p ≡ pos 0 → depth r s q ≡ pos 0
        → ((depth r (near (last s)) p ≡ pos 0) × (depth r (near (last s)) q ≡ pos 0)) ⊎ ((depth r (opposite (near (last s))) p ≡ pos 0) × (depth r (opposite (near (last s))) q ≡ pos 0))
    which on_left a b = inr (a, b)
    which on_top a b = inl (a, b)
    which on_right a b = inl (a, b)
    which on_bottom a b = inr (a, b)
