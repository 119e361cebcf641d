-- The regions of the locations, where `get_next_location` stops, and the one case of G2.
use mathlib.Core.Path.{◌≡◌, refl, sym, ◌∙◌, ap, subst}
use mathlib.Core.Bool.{Bool, true, false, cond, ◌&&◌, ◌||◌}
use mathlib.Core.Logic.{◌⊎◌, inl, inr}
use lib.IntN.{ℤ, pos}
use lib.Signed.{lt_z, le_z, ◌≤ℤ◌, ◌<ℤ◌}
use Rattle.integers.specs.Order.{zint, add_pn, sub_pn, eq→}
use Rattle.integers.specs.Tests.{lt_or_le, eq_z, eq_eqZ, lt_ltZ, le_ltZ, le_leZ, lt_leZ, ltZ_true, ltZ_false, leZ_true, eqZ_true}
use Rattle.plane.specs.declared.point.Point64.{Point64}
use Rattle.plane.specs.declared.rect.Rect64.{Rect64}
use Rattle.plane.specs.declared.location.Location.{Location}
use Rattle.plane.specs.declared.location.Location.TheVariants.{Left, Top, Right, Bottom, Inside}
use Rattle.theorems.proofs.GeoPlane.{same_pt, Side, on_left, on_top, on_right, on_bottom, loc, edge, Hit, known?, Found, nothing, found, search, depth, opposite, second, last, Proper}
use Rattle.theorems.proofs.GeoCut.{Depths}
use Rattle.theorems.proofs.GeoSides.{Meets, around, twin_last}
use Rattle.theorems.proofs.GeoAnswers.{Twin}
use Rattle.theorems.proofs.GeoSearch.{Finds, Seek, own, next, rest, none, seek, Inner, Closed, Beyond, Outside, Along, Stays, stay, place}
use Rattle.theorems.proofs.GeoWalk.{Step, skip, stop, step, located, on_edge, is_on_left, is_on_right, is_on_top, is_on_bottom, inside?, Calc, point}
use Rattle.theorems.proofs.Tests.{never}

-- ---- the region of a location: what get_next_location goes past
abbrev pub In : Rect64 → Location → Point64 → Type 0
In r Left p = Beyond r on_left p
In r Top p = Beyond r on_top p
In r Right p = Beyond r on_right p
In r Bottom p = Beyond r on_bottom p
In r Inside p = Closed r p

pub in_side : (r : Rect64) (s : Side) (p : Point64) → Beyond r s p → In r (loc s) p
in_side r on_left p b = b
in_side r on_top p b = b
in_side r on_right p b = b
in_side r on_bottom p b = b

pub side_in : (r : Rect64) (s : Side) (p : Point64) → In r (loc s) p → Beyond r s p
side_in r on_left p b = b
side_in r on_top p b = b
side_in r on_right p b = b
side_in r on_bottom p b = b

-- ---- where get_next_location stops
pub data Stop (r : Rect64) (p : Point64) : Location → Location → Type 0 where
  enters : (s : Side) → pos 0 <ℤ depth r s p → Inner r p → Stop r p (loc s) Inside
  passes : (s t : Side) → pos 0 <ℤ depth r s p → Beyond r t p → Stop r p (loc s) (loc t)
  leaves : (t : Side) → depth r t p <ℤ pos 0 → Stop r p Inside (loc t)

pub data Steps (r : Rect64) (p : Point64) (l : Location) : Type 0 where
  goes : step r l p ≡ skip → In r l p → Steps r p l
  halts : (l' : Location) → step r l p ≡ stop l' → Stop r p l l' → Steps r p l

-- one formula for the four sides
abbrev landed : Side → Bool → Bool → Bool → Bool → Step
landed s a b c d = cond a skip (stop (cond b (loc (opposite s)) (cond c (loc (second s)) (cond d (loc (last s)) Inside))))

abbrev beyond? : Rect64 → Side → Point64 → Bool
beyond? r on_left p = le_z p.x r.left
beyond? r on_top p = le_z p.y r.top
beyond? r on_right p = le_z r.right p.x
beyond? r on_bottom p = le_z r.bottom p.y

step_is : (r : Rect64) (s : Side) (p : Point64) → step r (loc s) p ≡ landed s (beyond? r s p) (beyond? r (opposite s) p) (beyond? r (second s) p) (beyond? r (last s) p)
step_is r on_left p = refl
step_is r on_top p = refl
step_is r on_right p = refl
step_is r on_bottom p = refl

beyond_yes : (r : Rect64) (s : Side) (p : Point64) → Beyond r s p → beyond? r s p ≡ true
beyond_yes r on_left p b = le_leZ p.x r.left (omega (zint, sub_pn p.x r.left))
beyond_yes r on_top p b = le_leZ p.y r.top (omega (zint, sub_pn p.y r.top))
beyond_yes r on_right p b = le_leZ r.right p.x (omega (zint, sub_pn r.right p.x))
beyond_yes r on_bottom p b = le_leZ r.bottom p.y (omega (zint, sub_pn r.bottom p.y))

beyond_no : (r : Rect64) (s : Side) (p : Point64) → pos 0 <ℤ depth r s p → beyond? r s p ≡ false
beyond_no r on_left p b = lt_leZ p.x r.left (omega (zint, sub_pn p.x r.left))
beyond_no r on_top p b = lt_leZ p.y r.top (omega (zint, sub_pn p.y r.top))
beyond_no r on_right p b = lt_leZ r.right p.x (omega (zint, sub_pn r.right p.x))
beyond_no r on_bottom p b = lt_leZ r.bottom p.y (omega (zint, sub_pn r.bottom p.y))

all_of : (r : Rect64) (s : Side) (p : Point64) → pos 0 <ℤ depth r s p → pos 0 <ℤ depth r (opposite s) p → pos 0 <ℤ depth r (second s) p → pos 0 <ℤ depth r (last s) p → Inner r p
all_of r s p a b c d t = go (place s t)
  where
    go : (t ≡ s) ⊎ ((t ≡ second s) ⊎ ((t ≡ last s) ⊎ (t ≡ opposite s))) → pos 0 <ℤ depth r t p
    go (inl e) = subst (λ (t : Side). pos 0 <ℤ depth r t p) (sym e) a
    go (inr (inl e)) = subst (λ (t : Side). pos 0 <ℤ depth r t p) (sym e) c
    go (inr (inr (inl e))) = subst (λ (t : Side). pos 0 <ℤ depth r t p) (sym e) d
    go (inr (inr (inr e))) = subst (λ (t : Side). pos 0 <ℤ depth r t p) (sym e) b

steps_side : (r : Rect64) (s : Side) (p : Point64) → Steps r p (loc s)
steps_side r s p = go (lt_or_le (pos 0) (depth r s p)) (lt_or_le (pos 0) (depth r (opposite s) p)) (lt_or_le (pos 0) (depth r (second s) p)) (lt_or_le (pos 0) (depth r (last s) p))
  where
    is : {a b c d : Bool} → beyond? r s p ≡ a → beyond? r (opposite s) p ≡ b → beyond? r (second s) p ≡ c → beyond? r (last s) p ≡ d → step r (loc s) p ≡ landed s a b c d
    is e f g h = step_is r s p ∙ (λ i. landed s (e i) (f i) (g i) (h i))

    go : (pos 0 <ℤ depth r s p) ⊎ Beyond r s p → (pos 0 <ℤ depth r (opposite s) p) ⊎ Beyond r (opposite s) p → (pos 0 <ℤ depth r (second s) p) ⊎ Beyond r (second s) p → (pos 0 <ℤ depth r (last s) p) ⊎ Beyond r (last s) p
        → Steps r p (loc s)
    go (inr a) b c d = goes (is (beyond_yes r s p a) refl refl refl) (in_side r s p a)
    go (inl a) (inr b) c d = halts (loc (opposite s)) (is (beyond_no r s p a) (beyond_yes r (opposite s) p b) refl refl) (passes s (opposite s) a b)
    go (inl a) (inl b) (inr c) d = halts (loc (second s)) (is (beyond_no r s p a) (beyond_no r (opposite s) p b) (beyond_yes r (second s) p c) refl) (passes s (second s) a c)
    go (inl a) (inl b) (inl c) (inr d) = halts (loc (last s)) (is (beyond_no r s p a) (beyond_no r (opposite s) p b) (beyond_no r (second s) p c) (beyond_yes r (last s) p d)) (passes s (last s) a d)
    go (inl a) (inl b) (inl c) (inl d) = halts Inside (is (beyond_no r s p a) (beyond_no r (opposite s) p b) (beyond_no r (second s) p c) (beyond_no r (last s) p d)) (enters s a (all_of r s p a b c d))

steps_inside : (r : Rect64) (p : Point64) → Steps r p Inside
steps_inside r p = go (lt_or_le p.x r.left) (lt_or_le r.right p.x) (lt_or_le r.bottom p.y) (lt_or_le p.y r.top)
  where
    four : Bool → Bool → Bool → Bool → Step
    four a b c d = cond a (stop Left) (cond b (stop Right) (cond c (stop Bottom) (cond d (stop Top) skip)))

    is : {a b c d : Bool} → lt_z p.x r.left ≡ a → lt_z r.right p.x ≡ b → lt_z r.bottom p.y ≡ c → lt_z p.y r.top ≡ d → step r Inside p ≡ four a b c d
    is e f g h = λ i. four (e i) (f i) (g i) (h i)

    all : r.left ≤ℤ p.x → p.x ≤ℤ r.right → p.y ≤ℤ r.bottom → r.top ≤ℤ p.y → Closed r p
    all a b c d on_left = omega (zint, sub_pn p.x r.left)
    all a b c d on_top = omega (zint, sub_pn p.y r.top)
    all a b c d on_right = omega (zint, sub_pn r.right p.x)
    all a b c d on_bottom = omega (zint, sub_pn r.bottom p.y)

    go : (p.x <ℤ r.left) ⊎ (r.left ≤ℤ p.x) → (r.right <ℤ p.x) ⊎ (p.x ≤ℤ r.right) → (r.bottom <ℤ p.y) ⊎ (p.y ≤ℤ r.bottom) → (p.y <ℤ r.top) ⊎ (r.top ≤ℤ p.y) → Steps r p Inside
    go (inl a) b c d = halts Left (is (lt_ltZ p.x r.left a) refl refl refl) (leaves on_left (omega (zint, sub_pn p.x r.left)))
    go (inr a) (inl b) c d = halts Right (is (le_ltZ p.x r.left a) (lt_ltZ r.right p.x b) refl refl) (leaves on_right (omega (zint, sub_pn r.right p.x)))
    go (inr a) (inr b) (inl c) d = halts Bottom (is (le_ltZ p.x r.left a) (le_ltZ r.right p.x b) (lt_ltZ r.bottom p.y c) refl) (leaves on_bottom (omega (zint, sub_pn r.bottom p.y)))
    go (inr a) (inr b) (inr c) (inl d) = halts Top (is (le_ltZ p.x r.left a) (le_ltZ r.right p.x b) (le_ltZ r.bottom p.y c) (lt_ltZ p.y r.top d)) (leaves on_top (omega (zint, sub_pn p.y r.top)))
    go (inr a) (inr b) (inr c) (inr d) = goes (is (le_ltZ p.x r.left a) (le_ltZ r.right p.x b) (le_ltZ r.bottom p.y c) (le_ltZ p.y r.top d)) (all a b c d)

pub steps : (r : Rect64) (l : Location) (p : Point64) → Steps r p l
steps r Left p = steps_side r on_left p
steps r Top p = steps_side r on_top p
steps r Right p = steps_side r on_right p
steps r Bottom p = steps_side r on_bottom p
steps r Inside p = steps_inside r p

side_clash : {a : ℤ} → pos 0 <ℤ a → a ≤ℤ pos 0 → ⊥
side_clash {a} h g = omega zint

in_clash : {a : ℤ} → a <ℤ pos 0 → pos 0 ≤ℤ a → ⊥
in_clash {a} h g = omega zint

pub stop_clash : {r : Rect64} {l l' : Location} {p : Point64} → Stop r p l l' → In r l p → ⊥
stop_clash {r} {l} {l'} {p} (enters s a n) i = side_clash a (side_in r s p i)
stop_clash {r} {l} {l'} {p} (passes s t a n) i = side_clash a (side_in r s p i)
stop_clash {r} {l} {l'} {p} (leaves t a) i = in_clash a (i t)

-- a point of the region is gone past
pub skips_in : (r : Rect64) (l : Location) (p : Point64) → In r l p → step r l p ≡ skip
skips_in r l p h = go (steps r l p)
  where
    go : Steps r p l → step r l p ≡ skip
    go (goes e i) = e
    go (halts l' e t) = absurd (stop_clash t h)

-- ---- get_location: the point lies in the region of its location, and only a point strictly inside is located there
by_cond : (P : Location → Type 0) (b : Bool) {x y : Location} → (b ≡ true → P x) → (b ≡ false → P y) → P (cond b x y)
by_cond P true f g = f refl
by_cond P false f g = g refl

and_first : (a b c : Bool) → ((a && b) && c) ≡ true → a ≡ true
and_first true b c e = refl
and_first false b c e = e

edge_eq : (a b : ℤ) (c d : Bool) → ((eq_z a b && c) && d) ≡ true → a ≡ b
edge_eq a b c d e = eqZ_true {a = a} {b = b} (and_first (eq_z a b) c d e)

lt_of : (a b : ℤ) → lt_z a b ≡ true → a <ℤ b
lt_of a b e = ltZ_true e

le_of : (a b : ℤ) → lt_z a b ≡ false → b ≤ℤ a
le_of a b e = ltZ_false e

and_all : {a b c : Bool} → a ≡ true → b ≡ true → c ≡ true → ((a && b) && c) ≡ true
and_all e f g = λ i. (e i && f i) && g i

pub located_in : (r : Rect64) (p : Point64) → In r (located r p) p × (Outside r p → inside? (located r p) ≡ false)
located_in r p =
    by_cond P (is_on_left r p) (λ e. (omega (zint, sub_pn p.x r.left, edge_eq p.x r.left (le_z r.top p.y) (le_z p.y r.bottom) e), λ o. refl)) λ nl.
    by_cond P (is_on_right r p) (λ e. (omega (zint, sub_pn r.right p.x, edge_eq p.x r.right (le_z r.top p.y) (le_z p.y r.bottom) e), λ o. refl)) λ nr.
    by_cond P (is_on_top r p) (λ e. (omega (zint, sub_pn p.y r.top, edge_eq p.y r.top (le_z r.left p.x) (le_z p.x r.right) e), λ o. refl)) λ nt.
    by_cond P (is_on_bottom r p) (λ e. (omega (zint, sub_pn r.bottom p.y, edge_eq p.y r.bottom (le_z r.left p.x) (le_z p.x r.right) e), λ o. refl)) λ nb.
    by_cond P (lt_z p.x r.left) (λ e. (omega (zint, lt_of p.x r.left e, sub_pn p.x r.left), λ o. refl)) λ l.
    by_cond P (lt_z r.right p.x) (λ e. (omega (zint, lt_of r.right p.x e, sub_pn r.right p.x), λ o. refl)) λ t.
    by_cond P (lt_z p.y r.top) (λ e. (omega (zint, lt_of p.y r.top e, sub_pn p.y r.top), λ o. refl)) λ u.
    by_cond P (lt_z r.bottom p.y) (λ e. (omega (zint, lt_of r.bottom p.y e, sub_pn r.bottom p.y), λ o. refl)) λ v.
    (all (le_of p.x r.left l) (le_of r.right p.x t) (le_of p.y r.top u) (le_of r.bottom p.y v), λ o. absurd (no_edge nl nr nt nb (le_of p.x r.left l) (le_of r.right p.x t) (le_of p.y r.top u) (le_of r.bottom p.y v) o.side o.beyond))
  where
    P : Location → Type 0
    P l = In r l p × (Outside r p → inside? l ≡ false)

    all : r.left ≤ℤ p.x → p.x ≤ℤ r.right → r.top ≤ℤ p.y → p.y ≤ℤ r.bottom → Closed r p
    all a b c d on_left = omega (zint, sub_pn p.x r.left)
    all a b c d on_top = omega (zint, sub_pn p.y r.top)
    all a b c d on_right = omega (zint, sub_pn r.right p.x)
    all a b c d on_bottom = omega (zint, sub_pn r.bottom p.y)

    no_edge : is_on_left r p ≡ false → is_on_right r p ≡ false → is_on_top r p ≡ false → is_on_bottom r p ≡ false → r.left ≤ℤ p.x → p.x ≤ℤ r.right → r.top ≤ℤ p.y → p.y ≤ℤ r.bottom
        → (s : Side) → Beyond r s p → ⊥
    no_edge nl nr nt nb a b c d on_left o = never (and_all (eq_eqZ p.x r.left (omega (zint, sub_pn p.x r.left))) (le_leZ r.top p.y c) (le_leZ p.y r.bottom d)) nl
    no_edge nl nr nt nb a b c d on_top o = never (and_all (eq_eqZ p.y r.top (omega (zint, sub_pn p.y r.top))) (le_leZ r.left p.x a) (le_leZ p.x r.right b)) nt
    no_edge nl nr nt nb a b c d on_right o = never (and_all (eq_eqZ p.x r.right (omega (zint, sub_pn r.right p.x))) (le_leZ r.top p.y c) (le_leZ p.y r.bottom d)) nr
    no_edge nl nr nt nb a b c d on_bottom o = never (and_all (eq_eqZ p.y r.bottom (omega (zint, sub_pn r.bottom p.y))) (le_leZ r.left p.x a) (le_leZ p.x r.right b)) nb

pub same_refl : (p : Point64) → same_pt p p ≡ true
same_refl p = λ i. eq_eqZ p.x p.x refl i && eq_eqZ p.y p.y refl i

point_known : (f : Calc) (r : Rect64) (p q : Point64) (s : Side) (b : Bool) (e : Point64) → point f r p q s (known? b e) ≡ point f r q p s (known? b e)
point_known f r p q s true e = refl
point_known f r p q s false e = refl

twin_same : (f : Calc) (r : Rect64) (p q : Point64) (s : Side) (a b : Hit) → Twin a b → same_pt (point f r p q s a) (point f r q p s b) ≡ true
twin_same f r p q s a b t =
    (λ i. same_pt (point f r p q s (t.one i)) (point f r q p s (t.two i))) ∙ ap (λ (z : Point64). same_pt z (point f r q p s (known? t.is t.at))) (point_known f r p q s t.is t.at) ∙ same_refl (point f r q p s (known? t.is t.at))

-- the one case of G2: the segment runs along the line of t; then the way back begins at the side that was found, and both
-- crossings are one point
pub SameAt : Calc → Rect64 → Point64 → Point64 → Side → Side → Type 0
SameAt f r p q u g = same_pt (point f r p q u (edge r u p q)) (point f r q p g (edge r g q p)) ≡ true

pub same_is : (f : Calc) (r : Rect64) (p q : Point64) (u g : Side) → SameAt f r p q u g → same_pt (point f r p q u (edge r u p q)) (point f r q p g (edge r g q p)) ≡ true
unfolding SameAt
same_is f r p q u g e = e

abbrev side_of : Found → Side
side_of nothing = on_left
side_of (found s h) = s

turn : {A B : Type 0} → A ⊎ B → B ⊎ A
turn (inl a) = inr a
turn (inr b) = inl b

-- where the segment meets the side s, the search from s finds s
pub own_first : (r : Rect64) → Proper r → (p q : Point64) (s : Side) → Meets r s p q → search r p q (loc s) ≡ found s (edge r s p q)
own_first r k p q s m = go (seek r k p q s)
  where
    go : Seek r p q s → search r p q (loc s) ≡ found s (edge r s p q)
    go (own e m') = e
    go (next e n g m') = absurd (n m)
    go (rest e n g m') = absurd (n m)
    go (none f) = absurd (f.own m)

pub same_last : (f : Calc) (r : Rect64) → Proper r → (p q : Point64) (t : Side) → Along r t (last t) p q → SameAt f r p q (last t) (last t)
unfolding SameAt
same_last f r k p q t a = twin_same f r p q (last t) (edge r (last t) p q) (edge r (last t) q p) (twin_last r k t p q a.p_on a.q_on a.p_in a.q_out)

pub along_same : (f : Calc) (r : Rect64) → Proper r → (p q : Point64) (s t u : Side) → pos 0 <ℤ depth r s p → Beyond r s q → Along r t u p q → Meets r u p q
    → (g : Side) → search r q p (loc s) ≡ found g (edge r g q p) → SameAt f r p q u g
along_same f r k p q s t u i b a m g e = go (place t s)
  where
    W_clash : Depths (depth r t p) (depth r t q) (depth r (opposite t) p) (depth r (opposite t) q) (depth r (second t) p) (depth r (second t) q) (depth r (last t) p) (depth r (last t) q)
        → depth r t q ≡ pos 0 → depth r (opposite t) q ≤ℤ pos 0 → ⊥
    W_clash d x y = omega (zint, d.q_across, d.W_pos, eq→ x, add_pn (depth r t q) (depth r (opposite t) q))

    H_clash : Depths (depth r t p) (depth r t q) (depth r (opposite t) p) (depth r (opposite t) q) (depth r (second t) p) (depth r (second t) q) (depth r (last t) p) (depth r (last t) q)
        → depth r (second t) q ≤ℤ pos 0 → depth r (last t) q ≤ℤ pos 0 → ⊥
    H_clash d x y = omega (zint, d.q_along, d.H_pos, add_pn (depth r (second t) q) (depth r (last t) q))

    p_clash : depth r t p ≡ pos 0 → pos 0 <ℤ depth r t p → ⊥
    p_clash x y = omega (zint, eq→ x)

    by_last : s ≡ last t → SameAt f r p q u g
    by_last n =
        let us : u ≡ s = a.is_last ∙ sym n in
        let e' : search r q p (loc s) ≡ found s (edge r s q p) = own_first r k q p s (turn (subst (λ (z : Side). Meets r z p q) us m)) in
        let gs : g ≡ s = ap side_of (sym e ∙ e') in
        let a' : Along r t (last t) p q = subst (λ (z : Side). Along r t z p q) a.is_last a in
        subst (λ (z : Side). SameAt f r p q u z) (◌∙'◌ n gs) (subst (λ (z : Side). SameAt f r p q z (last t)) (sym a.is_last) (same_last f r k p q t a'))
      where
        ◌∙'◌ : s ≡ last t → g ≡ s → last t ≡ g
        ◌∙'◌ x y = sym (y ∙ x)

    go : (s ≡ t) ⊎ ((s ≡ second t) ⊎ ((s ≡ last t) ⊎ (s ≡ opposite t))) → SameAt f r p q u g
    go (inl n) = absurd (p_clash a.p_on (subst (λ (z : Side). pos 0 <ℤ depth r z p) n i))
    go (inr (inl n)) = absurd (H_clash (around r k t p q) (subst (λ (z : Side). depth r z q ≤ℤ pos 0) n b) a.q_out)
    go (inr (inr (inl n))) = by_last n
    go (inr (inr (inr n))) = absurd (W_clash (around r k t p q) a.q_on (subst (λ (z : Side). depth r z q ≤ℤ pos 0) n b))

-- what G2 says of the side that was found
pub stayed : (r : Rect64) → Proper r → (p q : Point64) (t : Side) → Beyond r t p → (f : Finds r p q (loc t)) → Beyond r f.side p ⊎ Along r t f.side p q
stayed r k p q t b f = subst (Stays r t p q) f.at (stay r k p q t b)

-- ---- the start
or_cases : (a b : Bool) → (a || b) ≡ true → (a ≡ true) ⊎ (b ≡ true)
or_cases true b e = inl refl
or_cases false b e = inr e

and_2 : (a b c : Bool) → ((a && b) && c) ≡ true → b ≡ true
and_2 true true c e = refl
and_2 true false c e = e
and_2 false b c e = absurd (never e refl)

and_3 : (a b c : Bool) → ((a && b) && c) ≡ true → c ≡ true
and_3 true true c e = e
and_3 true false c e = absurd (never e refl)
and_3 false b c e = absurd (never e refl)

le_is : (a b : ℤ) → le_z a b ≡ true → a ≤ℤ b
le_is a b e = leZ_true e

-- a point on an edge is in the closed rectangle
pub edge_closed : (r : Rect64) → Proper r → (p : Point64) → on_edge r p ≡ true → Closed r p
edge_closed r k p e = go (or_cases (is_on_left r p) (is_on_right r p || (is_on_top r p || is_on_bottom r p)) e)
  where
    all : r.left ≤ℤ p.x → p.x ≤ℤ r.right → r.top ≤ℤ p.y → p.y ≤ℤ r.bottom → Closed r p
    all a b c d on_left = omega (zint, sub_pn p.x r.left)
    all a b c d on_top = omega (zint, sub_pn p.y r.top)
    all a b c d on_right = omega (zint, sub_pn r.right p.x)
    all a b c d on_bottom = omega (zint, sub_pn r.bottom p.y)

    upright : (c : ℤ) → r.left ≤ℤ c → c ≤ℤ r.right → ((eq_z p.x c && le_z r.top p.y) && le_z p.y r.bottom) ≡ true → Closed r p
    upright c a b e =
        let x : p.x ≡ c = edge_eq p.x c (le_z r.top p.y) (le_z p.y r.bottom) e in
        all (omega (zint, eq→ x)) (omega (zint, eq→ x)) (le_is r.top p.y (and_2 (eq_z p.x c) (le_z r.top p.y) (le_z p.y r.bottom) e)) (le_is p.y r.bottom (and_3 (eq_z p.x c) (le_z r.top p.y) (le_z p.y r.bottom) e))

    level : (c : ℤ) → r.top ≤ℤ c → c ≤ℤ r.bottom → ((eq_z p.y c && le_z r.left p.x) && le_z p.x r.right) ≡ true → Closed r p
    level c a b e =
        let y : p.y ≡ c = edge_eq p.y c (le_z r.left p.x) (le_z p.x r.right) e in
        all (le_is r.left p.x (and_2 (eq_z p.y c) (le_z r.left p.x) (le_z p.x r.right) e)) (le_is p.x r.right (and_3 (eq_z p.y c) (le_z r.left p.x) (le_z p.x r.right) e)) (omega (zint, eq→ y)) (omega (zint, eq→ y))

    go3 : (is_on_top r p ≡ true) ⊎ (is_on_bottom r p ≡ true) → Closed r p
    go3 (inl e) = level r.top (omega zint) (omega (zint, k.high)) e
    go3 (inr e) = level r.bottom (omega (zint, k.high)) (omega zint) e

    go2 : (is_on_right r p ≡ true) ⊎ ((is_on_top r p || is_on_bottom r p) ≡ true) → Closed r p
    go2 (inl e) = upright r.right (omega (zint, k.wide)) (omega zint) e
    go2 (inr e) = go3 (or_cases (is_on_top r p) (is_on_bottom r p) e)

    go : (is_on_left r p ≡ true) ⊎ ((is_on_right r p || (is_on_top r p || is_on_bottom r p)) ≡ true) → Closed r p
    go (inl e) = upright r.left (omega zint) (omega (zint, k.wide)) e
    go (inr e) = go2 (or_cases (is_on_right r p) (is_on_top r p || is_on_bottom r p) e)
