-- `get_intersection` on a proper rectangle: entering (G1), leaving, staying on its side (G2), the way back (G3).
use mathlib.Core.Path.{◌≡◌, refl, sym, ◌∙◌, ap, subst}
use mathlib.Core.Bool.{Bool, cond, ◌&&◌}
use mathlib.Core.Logic.{◌⊎◌, inl, inr, ⊎_elim}
use lib.IntN.{pos}
use lib.Signed.{lt_z, ◌≤ℤ◌, ◌<ℤ◌}
use Rattle.integers.specs.Order.{zint, add_pn}
use Rattle.integers.specs.Tests.{lt_or_le, lt_ltZ, le_ltZ, ltZ_sub'}
use Rattle.plane.specs.declared.point.Point64.{Point64}
use Rattle.plane.specs.declared.rect.Rect64.{Rect64}
use Rattle.plane.specs.declared.location.Location.{Location}
use Rattle.plane.specs.declared.location.Location.TheVariants.{Inside}
use Rattle.theorems.proofs.GeoPlane.{Side, on_left, on_top, on_right, on_bottom, loc, edge, met, Found, nothing, found, search, depth, opposite, second, last, Proper}
use Rattle.theorems.proofs.GeoCut.{Depths, enters, leaves, keeps, back_beside, back_across}
use Rattle.theorems.proofs.GeoTell.{Decides}
use Rattle.theorems.proofs.GeoSides.{CutAt, MeetsBy, Meets, met_decides, around, by_second, second_by, by_last, last_by, opposite_by}

-- ---- the search from a side, one formula for the four
abbrev pub chosen : Rect64 → Side → Point64 → Point64 → Bool → Bool → Bool → Bool → Found
chosen r s p q own guard next rest =
    cond own (found s (edge r s p q)) (cond (guard && next) (found (second s) (edge r (second s) p q)) (cond rest (found (last s) (edge r (last s) p q)) nothing))

pub search_is : (r : Rect64) (s : Side) (p q : Point64) → search r p q (loc s) ≡ chosen r s p q (met r p q s) (lt_z (depth r (second s) p) (pos 0)) (met r p q (second s)) (met r p q (last s))
search_is r on_left p q = ap (λ (t : Bool). chosen r on_left p q (met r p q on_left) t (met r p q on_top) (met r p q on_bottom)) (sym (ltZ_sub' r.top p.y))
search_is r on_top p q = ap (λ (t : Bool). chosen r on_top p q (met r p q on_top) t (met r p q on_left) (met r p q on_right)) (sym (ltZ_sub' r.left p.x))
search_is r on_right p q = ap (λ (t : Bool). chosen r on_right p q (met r p q on_right) t (met r p q on_top) (met r p q on_bottom)) (sym (ltZ_sub' r.top p.y))
search_is r on_bottom p q = ap (λ (t : Bool). chosen r on_bottom p q (met r p q on_bottom) t (met r p q on_left) (met r p q on_right)) (sym (ltZ_sub' r.left p.x))

-- ---- what a search finds
pub record Finds (r : Rect64) (p q : Point64) (l : Location) : Type 0 where
  pub side : Side
  pub at : search r p q l ≡ found side (edge r side p q)
  pub meets : Meets r side p q

pub record FindsNone (r : Rect64) (p q : Point64) (s : Side) : Type 0 where
  pub at : search r p q (loc s) ≡ nothing
  pub own : Meets r s p q → ⊥
  pub next : depth r (second s) p <ℤ pos 0 → Meets r (second s) p q → ⊥
  pub rest : Meets r (last s) p q → ⊥

-- the outcomes of a search from the side s, in its order
pub data Seek (r : Rect64) (p q : Point64) (s : Side) : Type 0 where
  own : search r p q (loc s) ≡ found s (edge r s p q) → Meets r s p q → Seek r p q s
  next : search r p q (loc s) ≡ found (second s) (edge r (second s) p q) → (Meets r s p q → ⊥) → depth r (second s) p <ℤ pos 0 → Meets r (second s) p q → Seek r p q s
  rest : search r p q (loc s) ≡ found (last s) (edge r (last s) p q) → (Meets r s p q → ⊥) → (depth r (second s) p <ℤ pos 0 → Meets r (second s) p q → ⊥) → Meets r (last s) p q → Seek r p q s
  none : FindsNone r p q s → Seek r p q s

pub seek : (r : Rect64) → Proper r → (p q : Point64) (s : Side) → Seek r p q s
seek r k p q s = go (met_decides r k s p q) (lt_or_le (depth r (second s) p) (pos 0)) (met_decides r k (second s) p q) (met_decides r k (last s) p q)
  where
    is : {a b c d : Bool} → met r p q s ≡ a → lt_z (depth r (second s) p) (pos 0) ≡ b → met r p q (second s) ≡ c → met r p q (last s) ≡ d → search r p q (loc s) ≡ chosen r s p q a b c d
    is e f g h = search_is r s p q ∙ (λ i. chosen r s p q (e i) (f i) (g i) (h i))

    go : Decides (met r p q s) (Meets r s p q) → (depth r (second s) p <ℤ pos 0) ⊎ (pos 0 ≤ℤ depth r (second s) p) → Decides (met r p q (second s)) (Meets r (second s) p q)
        → Decides (met r p q (last s)) (Meets r (last s) p q) → Seek r p q s
    go (inl m) g n l = own (is m.0 refl refl refl) m.1
    go (inr m) (inl g) (inl n) l = next (is m.0 (lt_ltZ (depth r (second s) p) (pos 0) g) n.0 refl) m.1 g n.1
    go (inr m) (inl g) (inr n) (inl l) = rest (is m.0 (lt_ltZ (depth r (second s) p) (pos 0) g) n.0 l.0) m.1 (λ h. n.1) l.1
    go (inr m) (inl g) (inr n) (inr l) =
        none (record { at = is m.0 (lt_ltZ (depth r (second s) p) (pos 0) g) n.0 l.0; own = m.1; next = λ h. n.1; rest = l.1 })
    go (inr m) (inr g) n (inl l) = rest (is m.0 (le_ltZ (depth r (second s) p) (pos 0) g) refl l.0) m.1 (λ h. absurd (clash h g)) l.1
      where
        clash : depth r (second s) p <ℤ pos 0 → pos 0 ≤ℤ depth r (second s) p → ⊥
        clash a b = omega zint
    go (inr m) (inr g) n (inr l) =
        none (record { at = is m.0 (le_ltZ (depth r (second s) p) (pos 0) g) refl l.0; own = m.1; next = λ h. absurd (clash h g); rest = l.1 })
      where
        clash : depth r (second s) p <ℤ pos 0 → pos 0 ≤ℤ depth r (second s) p → ⊥
        clash a b = omega zint

-- found, unless the segment meets none of the sides that are tried
pub finds_or_none : (r : Rect64) → Proper r → (p q : Point64) (s : Side) → Finds r p q (loc s) ⊎ FindsNone r p q s
finds_or_none r k p q s = go (seek r k p q s)
  where
    go : Seek r p q s → Finds r p q (loc s) ⊎ FindsNone r p q s
    go (own e m) = inl (record { side = s; at = e; meets = m })
    go (next e n g m) = inl (record { side = second s; at = e; meets = m })
    go (rest e n g m) = inl (record { side = last s; at = e; meets = m })
    go (none f) = inr f

-- ---- from Inside: the four in order
pub inside_or : (r : Rect64) → Proper r → (p q : Point64) → Finds r p q Inside ⊎ ((s : Side) → Meets r s p q → ⊥)
inside_or r k p q = go (met_decides r k on_left p q) (met_decides r k on_top p q) (met_decides r k on_right p q) (met_decides r k on_bottom p q)
  where
    four : Bool → Bool → Bool → Bool → Found
    four a b c d = cond a (found on_left (edge r on_left p q)) (cond b (found on_top (edge r on_top p q)) (cond c (found on_right (edge r on_right p q)) (cond d (found on_bottom (edge r on_bottom p q)) nothing)))

    is : {a b c d : Bool} → met r p q on_left ≡ a → met r p q on_top ≡ b → met r p q on_right ≡ c → met r p q on_bottom ≡ d → search r p q Inside ≡ four a b c d
    is e f g h = λ i. four (e i) (f i) (g i) (h i)

    no : (Meets r on_left p q → ⊥) → (Meets r on_top p q → ⊥) → (Meets r on_right p q → ⊥) → (Meets r on_bottom p q → ⊥) → (s : Side) → Meets r s p q → ⊥
    no a b c d on_left = a
    no a b c d on_top = b
    no a b c d on_right = c
    no a b c d on_bottom = d

    go : Decides (met r p q on_left) (Meets r on_left p q) → Decides (met r p q on_top) (Meets r on_top p q) → Decides (met r p q on_right) (Meets r on_right p q) → Decides (met r p q on_bottom) (Meets r on_bottom p q)
        → Finds r p q Inside ⊎ ((s : Side) → Meets r s p q → ⊥)
    go (inl a) b c d = inl (record { side = on_left; at = is a.0 refl refl refl; meets = a.1 })
    go (inr a) (inl b) c d = inl (record { side = on_top; at = is a.0 b.0 refl refl; meets = b.1 })
    go (inr a) (inr b) (inl c) d = inl (record { side = on_right; at = is a.0 b.0 c.0 refl; meets = c.1 })
    go (inr a) (inr b) (inr c) (inl d) = inl (record { side = on_bottom; at = is a.0 b.0 c.0 d.0; meets = d.1 })
    go (inr a) (inr b) (inr c) (inr d) = inr (no a.1 b.1 c.1 d.1)

-- ---- where a point is
abbrev pub Inner : Rect64 → Point64 → Type 0
Inner r p = (s : Side) → pos 0 <ℤ depth r s p

abbrev pub Closed : Rect64 → Point64 → Type 0
Closed r p = (s : Side) → pos 0 ≤ℤ depth r s p

abbrev pub Beyond : Rect64 → Side → Point64 → Type 0
Beyond r s p = depth r s p ≤ℤ pos 0

pub record Outside (r : Rect64) (p : Point64) : Type 0 where
  pub side : Side
  pub beyond : Beyond r side p

-- ---- G1, entering: from p strictly inside toward q, which is not, a side is found, and q lies on or beyond it
pub record Enters (r : Rect64) (p q : Point64) : Type 0 where
  pub finds : Finds r p q Inside
  pub beyond : Beyond r finds.side q

pub enter : (r : Rect64) → Proper r → (p q : Point64) → Inner r p → Outside r q → Enters r p q
enter r k p q i o = go (inside_or r k p q)
  where
    s : Side
    s = o.side

    cut : ((t : Side) → Meets r t p q → ⊥) → ⊥
    cut never = pick (enters (around r k s p q) (i s) (i (opposite s)) (i (second s)) (i (last s)) o.beyond)
      where
        pick : CutAt r s (second s) q p ⊎ (CutAt r (second s) s q p ⊎ CutAt r (last s) s q p) → ⊥
        pick (inl c) = never s (inr c)
        pick (inr (inl c)) = never (second s) (by_second r s p q (inr c))
        pick (inr (inr c)) = never (last s) (by_last r s p q (inr c))

    end : (t : Side) → Meets r t p q → Beyond r t q
    end t (inl c) = absurd (clash (i t) c.low)
      where
        clash : pos 0 <ℤ depth r t p → depth r t p ≤ℤ pos 0 → ⊥
        clash a b = omega zint
    end t (inr c) = c.low

    go : Finds r p q Inside ⊎ ((t : Side) → Meets r t p q → ⊥) → Enters r p q
    go (inl f) = record { finds = f; beyond = end f.side f.meets }
    go (inr never) = absurd (cut never)

-- ---- leaving: from p strictly beyond s toward q in the closed rectangle, the search from s finds a side, and p lies on or beyond it
pub leave : (r : Rect64) → Proper r → (p q : Point64) (s : Side) → depth r s p <ℤ pos 0 → Closed r q → Finds r p q (loc s)
leave r k p q s n c = go (finds_or_none r k p q s)
  where
    cut : FindsNone r p q s → ⊥
    cut f = pick (leaves (around r k s p q) n (c s) (c (opposite s)) (c (second s)) (c (last s)))
      where
        pick : CutAt r s (second s) p q ⊎ (((depth r (second s) p <ℤ pos 0) × CutAt r (second s) s p q) ⊎ ((depth r (last s) p <ℤ pos 0) × CutAt r (last s) s p q)) → ⊥
        pick (inl c) = f.own (inl c)
        pick (inr (inl h)) = f.next h.0 (by_second r s p q (inl h.1))
        pick (inr (inr h)) = f.rest (by_last r s p q (inl h.1))

    go : Finds r p q (loc s) ⊎ FindsNone r p q s → Finds r p q (loc s)
    go (inl f) = f
    go (inr f) = absurd (cut f)

-- ---- G2, staying: for p on or beyond s, p lies on or beyond the side that the search from s finds; but for one case, where both
-- points lie on the line of s, p on its edge, and the segment leaves that edge across its last neighbour
pub record Along (r : Rect64) (s t : Side) (p q : Point64) : Type 0 where
  pub is_last : t ≡ last s
  pub p_on : depth r s p ≡ pos 0
  pub q_on : depth r s q ≡ pos 0
  pub p_in : pos 0 <ℤ depth r (last s) p
  pub q_out : Beyond r (last s) q

abbrev pub Stays : Rect64 → Side → Point64 → Point64 → Found → Type 0
Stays r s p q nothing = Unit {0}
Stays r s p q (found t h) = Beyond r t p ⊎ Along r s t p q

pub stay : (r : Rect64) → Proper r → (p q : Point64) (s : Side) → Beyond r s p → Stays r s p q (search r p q (loc s))
stay r k p q s b = go (seek r k p q s)
  where
    kept : (Meets r s p q → ⊥) → (depth r (second s) p <ℤ pos 0 → Meets r (second s) p q → ⊥) → Meets r (last s) p q → Beyond r (last s) p ⊎ Along r s (last s) p q
    kept nm nx m = ⊎_elim (λ i. inside i (last_by r s p q m)) (λ o. inl o) (lt_or_le (pos 0) (depth r (last s) p))
      where
        inside : pos 0 <ℤ depth r (last s) p → MeetsBy r (last s) s p q → Beyond r (last s) p ⊎ Along r s (last s) p q
        inside i (inl c) = inl c.low
        inside i (inr c) = pick (keeps (around r k s p q) b i c)
          where
            pick : ((depth r s p ≡ pos 0) × (depth r s q ≡ pos 0)) ⊎ (CutAt r s (second s) p q ⊎ ((depth r (second s) p <ℤ pos 0) × CutAt r (second s) s p q)) → Beyond r (last s) p ⊎ Along r s (last s) p q
            pick (inl e) = inr (record { is_last = refl; p_on = e.0; q_on = e.1; p_in = i; q_out = c.low })
            pick (inr (inl c)) = absurd (nm (inl c))
            pick (inr (inr h)) = absurd (nx h.0 (by_second r s p q (inl h.1)))

    go : Seek r p q s → Stays r s p q (search r p q (loc s))
    go (own e m) = subst (Stays r s p q) (sym e) (inl b)
    go (next e n g m) = subst (Stays r s p q) (sym e) (inl (omega zint))
    go (rest e nm nx m) = subst (Stays r s p q) (sym e) (kept nm nx m)
    go (none f) = subst (Stays r s p q) (sym f.at) tt

-- where the side t stands from s
pub place : (s t : Side) → (t ≡ s) ⊎ ((t ≡ second s) ⊎ ((t ≡ last s) ⊎ (t ≡ opposite s)))
place on_left on_left = inl refl
place on_left on_top = inr (inl refl)
place on_left on_right = inr (inr (inr refl))
place on_left on_bottom = inr (inr (inl refl))
place on_top on_left = inr (inl refl)
place on_top on_top = inl refl
place on_top on_right = inr (inr (inl refl))
place on_top on_bottom = inr (inr (inr refl))
place on_right on_left = inr (inr (inr refl))
place on_right on_top = inr (inl refl)
place on_right on_right = inl refl
place on_right on_bottom = inr (inr (inl refl))
place on_bottom on_left = inr (inl refl)
place on_bottom on_top = inr (inr (inr refl))
place on_bottom on_right = inr (inr (inl refl))
place on_bottom on_bottom = inl refl

-- ---- G3, the way back: where the segment meets any side at all, q lies on or beyond s and p strictly within it, the search
-- from q at s finds a side
pub back : (r : Rect64) → Proper r → (p q : Point64) (s t : Side) → Beyond r s q → pos 0 <ℤ depth r s p → Meets r t p q → Finds r q p (loc s)
back r k p q s t b i m = go (finds_or_none r k q p s)
  where
    turn : {A B : Type 0} → A ⊎ B → B ⊎ A
    turn (inl a) = inr a
    turn (inr b) = inl b

    beside : FindsNone r q p s → MeetsBy r (second s) s p q → ⊥
    beside f m = ⊎_elim (λ n. f.next n (by_second r s q p (turn m))) (λ n. pick (back_beside (around r k s p q) b i n m)) (lt_or_le (depth r (second s) q) (pos 0))
      where
        pick : CutAt r s (second s) q p ⊎ CutAt r (last s) s q p → ⊥
        pick (inl c) = f.own (inl c)
        pick (inr c) = f.rest (by_last r s q p (inl c))

    across : FindsNone r q p s → MeetsBy r (opposite s) (second s) p q → ⊥
    across f (inl c) = pick (back_across (around r k s p q) b c)
      where
        pick : CutAt r s (second s) q p ⊎ (((depth r (second s) q <ℤ pos 0) × CutAt r (second s) s q p) ⊎ ((depth r (last s) q <ℤ pos 0) × CutAt r (last s) s q p)) → ⊥
        pick (inl c) = f.own (inl c)
        pick (inr (inl h)) = f.next h.0 (by_second r s q p (inl h.1))
        pick (inr (inr h)) = f.rest (by_last r s q p (inl h.1))
    across f (inr c) = away (around r k s p q) b c.low
      where
        away : Depths (depth r s p) (depth r s q) (depth r (opposite s) p) (depth r (opposite s) q) (depth r (second s) p) (depth r (second s) q) (depth r (last s) p) (depth r (last s) q)
            → depth r s q ≤ℤ pos 0 → depth r (opposite s) q ≤ℤ pos 0 → ⊥
        away d x y = omega (zint, d.q_across, d.W_pos, add_pn (depth r s q) (depth r (opposite s) q))

    which : FindsNone r q p s → (t ≡ s) ⊎ ((t ≡ second s) ⊎ ((t ≡ last s) ⊎ (t ≡ opposite s))) → ⊥
    which f (inl e) = f.own (turn (subst (λ (t : Side). Meets r t p q) e m))
    which f (inr (inl e)) = beside f (second_by r s p q (subst (λ (t : Side). Meets r t p q) e m))
    which f (inr (inr (inl e))) = f.rest (turn (subst (λ (t : Side). Meets r t p q) e m))
    which f (inr (inr (inr e))) = across f (opposite_by r s p q (subst (λ (t : Side). Meets r t p q) e m))

    go : Finds r q p (loc s) ⊎ FindsNone r q p s → Finds r q p (loc s)
    go (inl f) = f
    go (inr f) = absurd (which f (place s t))
