-- A reflective decision of polynomial identities over ℤ.
-- `Ex` is an expression over numbered variables; `⟦ e ⟧ ρ` its value, ρ the list of the variables' values; `norm e` its
-- polynomial, a sorted list of terms. `ring ρ a b tt` proves ⟦ a ⟧ ρ ≡ ⟦ b ⟧ ρ where the two are one polynomial.
use Rattle.std.specs.Prelude.{◌≡◌, refl, Bool, true, false, ◌&&◌, List, [], ◌∷◌, get_or}
use Rattle.std.proofs.Common.{sym, ◌∙◌, ap, subst}
use Prim.Native.Nat.{ℕ, compare, Ordering}
use lib.Dec.{T, eqb, eqb→eq}
use Rattle.std.specs.Float.Ieee.Fits.{and_l, and_r}
use lib.IntN.{ℤ, pos, negsuc, neg_ℤ, ◌+ℤ◌, ◌-ℤ◌, ◌*ℤ◌, +ℤ_idl, +ℤ_idr, +ℤ_assoc, zero-*ℤ, *ℤ_comm, neg_ℤ-+ℤ}
use Rattle.integers.specs.Laws.{+ℤ_swap_l, *ℤ_distr_r, *ℤ_distr_l, *ℤ_assoc, *ℤ_mid, *ℤ_swap_l, neg-*ℤ, one-*ℤ, -ℤ_zero}

infixl 80 ◌⊕◌ ◌⊖◌
infixl 85 ◌⊗◌
pub data Ex : Type 0 where
  var : ℕ → Ex
  con : ℤ → Ex
  ◌⊕◌ : Ex → Ex → Ex
  ◌⊖◌ : Ex → Ex → Ex
  ◌⊗◌ : Ex → Ex → Ex
  ⊝ : Ex → Ex

-- short names of the first variables: no constructors, so they clash with no pattern
abbrev pub v0 : Ex
v0 = var 0

abbrev pub v1 : Ex
v1 = var 1

abbrev pub v2 : Ex
v2 = var 2

abbrev pub v3 : Ex
v3 = var 3

abbrev pub v4 : Ex
v4 = var 4

abbrev pub v5 : Ex
v5 = var 5

abbrev pub v6 : Ex
v6 = var 6

abbrev pub v7 : Ex
v7 = var 7

abbrev pub v8 : Ex
v8 = var 8

abbrev pub v9 : Ex
v9 = var 9

abbrev pub v10 : Ex
v10 = var 10

abbrev pub v11 : Ex
v11 = var 11

abbrev pub ev : List ℤ → Ex → ℤ
ev ρ (var i) = get_or ρ i (pos 0)
ev ρ (con c) = c
ev ρ (a ⊕ b) = ev ρ a +ℤ ev ρ b
ev ρ (a ⊖ b) = ev ρ a -ℤ ev ρ b
ev ρ (a ⊗ b) = ev ρ a *ℤ ev ρ b
ev ρ (⊝ a) = neg_ℤ (ev ρ a)

-- ---- polynomials
pub data Term : Type 0 where
  tm : ℤ → List ℕ → Term

-- the order of monomials
abbrev and_then : Ordering → Ordering → Ordering
and_then Ordering.lt o = Ordering.lt
and_then Ordering.eq o = o
and_then Ordering.gt o = Ordering.gt

abbrev cmp_m : List ℕ → List ℕ → Ordering
cmp_m [] [] = Ordering.eq
cmp_m [] (y ∷ ys) = Ordering.lt
cmp_m (x ∷ xs) [] = Ordering.gt
cmp_m (x ∷ xs) (y ∷ ys) = and_then (compare x y) (cmp_m xs ys)

abbrev pick : {A : Type 0} → Ordering → A → A → A → A
pick Ordering.lt a b c = a
pick Ordering.eq a b c = b
pick Ordering.gt a b c = c

abbrev ins_v : ℕ → List ℕ → List ℕ
ins_v x [] = x ∷ []
ins_v x (y ∷ ys) = let r = y ∷ ins_v x ys in pick (compare x y) (x ∷ y ∷ ys) (x ∷ y ∷ ys) r

abbrev mul_m : List ℕ → List ℕ → List ℕ
mul_m [] m = m
mul_m (x ∷ xs) m = ins_v x (mul_m xs m)

abbrev add_t : ℤ → List ℕ → List Term → List Term
add_t c m [] = tm c m ∷ []
add_t c m (tm d n ∷ p) = let r = tm d n ∷ add_t c m p in pick (cmp_m m n) (tm c m ∷ tm d n ∷ p) (tm (c +ℤ d) n ∷ p) r

abbrev add_p : List Term → List Term → List Term
add_p [] q = q
add_p (tm c m ∷ p) q = add_t c m (add_p p q)

-- c m times p, added to q
abbrev mul_t : ℤ → List ℕ → List Term → List Term → List Term
mul_t c m [] q = q
mul_t c m (tm d n ∷ p) q = add_t (c *ℤ d) (mul_m m n) (mul_t c m p q)

abbrev mul_p : List Term → List Term → List Term
mul_p [] q = []
mul_p (tm c m ∷ p) q = mul_t c m q (mul_p p q)

abbrev neg_p : List Term → List Term
neg_p [] = []
neg_p (tm c m ∷ p) = tm (neg_ℤ c) m ∷ neg_p p

abbrev pub norm : Ex → List Term
norm (var i) = tm (pos 1) (i ∷ []) ∷ []
norm (con c) = tm c [] ∷ []
norm (a ⊕ b) = add_p (norm a) (norm b)
norm (a ⊖ b) = add_p (norm a) (neg_p (norm b))
norm (a ⊗ b) = mul_p (norm a) (norm b)
norm (⊝ a) = neg_p (norm a)

abbrev pub is_z : ℤ → Bool
is_z (pos n) = eqb n 0
is_z (negsuc n) = false

abbrev pub zero_p : List Term → Bool
zero_p [] = true
zero_p (tm c m ∷ p) = is_z c && zero_p p

-- ---- what a polynomial is worth
abbrev pub ev_m : List ℤ → List ℕ → ℤ
ev_m ρ [] = pos 1
ev_m ρ (x ∷ xs) = get_or ρ x (pos 0) *ℤ ev_m ρ xs

abbrev pub ev_p : List ℤ → List Term → ℤ
ev_p ρ [] = pos 0
ev_p ρ (tm c m ∷ p) = c *ℤ ev_m ρ m +ℤ ev_p ρ p

pick_ind : {A : Type 0} (P : A → Type 0) (o : Ordering) (a b c : A) → P a → (o ≡ Ordering.eq → P b) → P c → P (pick o a b c)
pick_ind P Ordering.lt a b c x y z = x
pick_ind P Ordering.eq a b c x y z = y refl
pick_ind P Ordering.gt a b c x y z = z

-- equal monomials
IsEqO : Ordering → Type 0
IsEqO Ordering.lt = ⊥
IsEqO Ordering.eq = Unit {0}
IsEqO Ordering.gt = ⊥

then_l : (o q : Ordering) → IsEqO (and_then o q) → IsEqO o
unfolding IsEqO
then_l Ordering.lt q h = h
then_l Ordering.eq q h = tt
then_l Ordering.gt q h = h

then_r : (o q : Ordering) → IsEqO (and_then o q) → IsEqO q
unfolding IsEqO
then_r Ordering.lt q h = absurd h
then_r Ordering.eq q h = h
then_r Ordering.gt q h = absurd h

cmpN_eq : (o : Ordering) → IsEqO o → T (lib.Dec.compare_is_eq o)
unfolding IsEqO
cmpN_eq Ordering.lt h = h
cmpN_eq Ordering.eq h = tt
cmpN_eq Ordering.gt h = h

cmpM_eq : (m n : List ℕ) → IsEqO (cmp_m m n) → m ≡ n
unfolding IsEqO
cmpM_eq [] [] h = refl
cmpM_eq [] (y ∷ ys) h = absurd h
cmpM_eq (x ∷ xs) [] h = absurd h
cmpM_eq (x ∷ xs) (y ∷ ys) h =
    let p : x ≡ y = eqb→eq x y (cmpN_eq (compare x y) (then_l (compare x y) (cmp_m xs ys) h)) in
    let q : xs ≡ ys = cmpM_eq xs ys (then_r (compare x y) (cmp_m xs ys) h) in
    λ i. p i ∷ q i

to_eq : (m n : List ℕ) → cmp_m m n ≡ Ordering.eq → m ≡ n
unfolding IsEqO
to_eq m n e = cmpM_eq m n (subst IsEqO (sym e) tt)

module _ (ρ : List ℤ) where
  insV_ok : (x : ℕ) (m : List ℕ) → ev_m ρ (ins_v x m) ≡ get_or ρ x (pos 0) *ℤ ev_m ρ m
  insV_ok x [] = refl
  insV_ok x (y ∷ ys) =
      pick_ind (λ (l : List ℕ). ev_m ρ l ≡ get_or ρ x (pos 0) *ℤ ev_m ρ (y ∷ ys)) (compare x y) (x ∷ y ∷ ys) (x ∷ y ∷ ys) (y ∷ ins_v x ys)
      refl (λ _. refl)
      (ap (λ (z : ℤ). get_or ρ y (pos 0) *ℤ z) (insV_ok x ys) ∙ *ℤ_swap_l (get_or ρ y (pos 0)) (get_or ρ x (pos 0)) (ev_m ρ ys))

  mulM_ok : (m n : List ℕ) → ev_m ρ (mul_m m n) ≡ ev_m ρ m *ℤ ev_m ρ n
  mulM_ok [] n = sym (one-*ℤ (ev_m ρ n))
  mulM_ok (x ∷ xs) n = insV_ok x (mul_m xs n) ∙ ap (λ (z : ℤ). get_or ρ x (pos 0) *ℤ z) (mulM_ok xs n) ∙ sym (*ℤ_assoc (get_or ρ x (pos 0)) (ev_m ρ xs) (ev_m ρ n))

  addT_ok : (c : ℤ) (m : List ℕ) (p : List Term) → ev_p ρ (add_t c m p) ≡ c *ℤ ev_m ρ m +ℤ ev_p ρ p
  addT_ok c m [] = refl
  addT_ok c m (tm d n ∷ p) =
      pick_ind (λ (l : List Term). ev_p ρ l ≡ c *ℤ ev_m ρ m +ℤ ev_p ρ (tm d n ∷ p)) (cmp_m m n) (tm c m ∷ tm d n ∷ p) (tm (c +ℤ d) n ∷ p) (tm d n ∷ add_t c m p)
      refl
      (λ e. ap (λ (z : ℤ). z +ℤ ev_p ρ p) (*ℤ_distr_r c d (ev_m ρ n)) ∙ +ℤ_assoc (c *ℤ ev_m ρ n) (d *ℤ ev_m ρ n) (ev_p ρ p) ∙ ap (λ (l : List ℕ). c *ℤ ev_m ρ l +ℤ (d *ℤ ev_m ρ n +ℤ ev_p ρ p)) (sym (to_eq m n e)))
      (ap (λ (z : ℤ). d *ℤ ev_m ρ n +ℤ z) (addT_ok c m p) ∙ +ℤ_swap_l (d *ℤ ev_m ρ n) (c *ℤ ev_m ρ m) (ev_p ρ p))

  addP_ok : (p q : List Term) → ev_p ρ (add_p p q) ≡ ev_p ρ p +ℤ ev_p ρ q
  addP_ok [] q = sym (+ℤ_idl (ev_p ρ q))
  addP_ok (tm c m ∷ p) q = addT_ok c m (add_p p q) ∙ ap (λ (z : ℤ). c *ℤ ev_m ρ m +ℤ z) (addP_ok p q) ∙ sym (+ℤ_assoc (c *ℤ ev_m ρ m) (ev_p ρ p) (ev_p ρ q))

  mulT_ok : (c : ℤ) (m : List ℕ) (p q : List Term) → ev_p ρ (mul_t c m p q) ≡ (c *ℤ ev_m ρ m) *ℤ ev_p ρ p +ℤ ev_p ρ q
  mulT_ok c m [] q = sym (ap (λ (z : ℤ). z +ℤ ev_p ρ q) (lib.IntN.*ℤ-zero (c *ℤ ev_m ρ m)) ∙ +ℤ_idl (ev_p ρ q))
  mulT_ok c m (tm d n ∷ p) q =
      addT_ok (c *ℤ d) (mul_m m n) (mul_t c m p q)
      ∙ (λ i. (c *ℤ d) *ℤ mulM_ok m n i +ℤ mulT_ok c m p q i)
      ∙ ap (λ (z : ℤ). z +ℤ ((c *ℤ ev_m ρ m) *ℤ ev_p ρ p +ℤ ev_p ρ q)) (*ℤ_mid c d (ev_m ρ m) (ev_m ρ n))
      ∙ sym (+ℤ_assoc ((c *ℤ ev_m ρ m) *ℤ (d *ℤ ev_m ρ n)) ((c *ℤ ev_m ρ m) *ℤ ev_p ρ p) (ev_p ρ q))
      ∙ ap (λ (z : ℤ). z +ℤ ev_p ρ q) (sym (*ℤ_distr_l (c *ℤ ev_m ρ m) (d *ℤ ev_m ρ n) (ev_p ρ p)))

  mulP_ok : (p q : List Term) → ev_p ρ (mul_p p q) ≡ ev_p ρ p *ℤ ev_p ρ q
  mulP_ok [] q = sym (zero-*ℤ (ev_p ρ q))
  mulP_ok (tm c m ∷ p) q = mulT_ok c m q (mul_p p q) ∙ ap (λ (z : ℤ). (c *ℤ ev_m ρ m) *ℤ ev_p ρ q +ℤ z) (mulP_ok p q) ∙ sym (*ℤ_distr_r (c *ℤ ev_m ρ m) (ev_p ρ p) (ev_p ρ q))

  negP_ok : (p : List Term) → ev_p ρ (neg_p p) ≡ neg_ℤ (ev_p ρ p)
  negP_ok [] = refl
  negP_ok (tm c m ∷ p) = (λ i. neg-*ℤ c (ev_m ρ m) i +ℤ negP_ok p i) ∙ sym (neg_ℤ-+ℤ (c *ℤ ev_m ρ m) (ev_p ρ p))

  pub norm_ok : (e : Ex) → ev_p ρ (norm e) ≡ ev ρ e
  norm_ok (var i) = +ℤ_idr (pos 1 *ℤ (get_or ρ i (pos 0) *ℤ pos 1)) ∙ one-*ℤ (get_or ρ i (pos 0) *ℤ pos 1) ∙ *ℤ_comm (get_or ρ i (pos 0)) (pos 1) ∙ one-*ℤ (get_or ρ i (pos 0))
  norm_ok (con c) = +ℤ_idr (c *ℤ pos 1) ∙ *ℤ_comm c (pos 1) ∙ one-*ℤ c
  norm_ok (a ⊕ b) = addP_ok (norm a) (norm b) ∙ (λ i. norm_ok a i +ℤ norm_ok b i)
  norm_ok (a ⊖ b) = addP_ok (norm a) (neg_p (norm b)) ∙ ap (λ (z : ℤ). ev_p ρ (norm a) +ℤ z) (negP_ok (norm b)) ∙ (λ i. norm_ok a i -ℤ norm_ok b i)
  norm_ok (a ⊗ b) = mulP_ok (norm a) (norm b) ∙ (λ i. norm_ok a i *ℤ norm_ok b i)
  norm_ok (⊝ a) = negP_ok (norm a) ∙ ap neg_ℤ (norm_ok a)

  pub isZ_ok : (c : ℤ) → T (is_z c) → c ≡ pos 0
  isZ_ok (pos n) t = ap pos (eqb→eq n 0 t)
  isZ_ok (negsuc n) t = absurd t

  pub zeroP_ok : (p : List Term) → T (zero_p p) → ev_p ρ p ≡ pos 0
  zeroP_ok [] t = refl
  zeroP_ok (tm c m ∷ p) t =
      (λ i. isZ_ok c (and_l (is_z c) (zero_p p) t) i *ℤ ev_m ρ m +ℤ zeroP_ok p (and_r (is_z c) (zero_p p) t) i)
      ∙ +ℤ_idr (pos 0 *ℤ ev_m ρ m) ∙ zero-*ℤ (ev_m ρ m)

  -- the solver: a goal ⟦ a ⟧ ≡ ⟦ b ⟧ by `ring ρ a b tt`
  pub ring : (a b : Ex) → T (zero_p (norm (a ⊖ b))) → ev ρ a ≡ ev ρ b
  ring a b t = -ℤ_zero (ev ρ a) (ev ρ b) (sym (norm_ok (a ⊖ b)) ∙ zeroP_ok (norm (a ⊖ b)) t)

-- ---- the same with named variables: `ring_by f tt`, f the equation over its variables
infix 40 ◌≗◌
pub data Eqn : Type 0 where
  ◌≗◌ : Ex → Ex → Eqn

abbrev pub lhs : Eqn → Ex
lhs (a ≗ b) = a

abbrev pub rhs : Eqn → Ex
rhs (a ≗ b) = b

abbrev pub Solved : List ℤ → Eqn → Type 0
Solved ρ e = ev ρ (lhs e) ≡ ev ρ (rhs e)

abbrev pub same : Eqn → Bool
same e = zero_p (norm (lhs e ⊖ rhs e))

pub ring2 : (f : Ex → Ex → Eqn) → T (same (f v0 v1)) → (a b : ℤ) → Solved (a ∷ b ∷ []) (f v0 v1)
ring2 f t a b = ring (a ∷ b ∷ []) (lhs (f v0 v1)) (rhs (f v0 v1)) t

pub ring3 : (f : Ex → Ex → Ex → Eqn) → T (same (f v0 v1 v2)) → (a b c : ℤ) → Solved (a ∷ b ∷ c ∷ []) (f v0 v1 v2)
ring3 f t a b c = ring (a ∷ b ∷ c ∷ []) (lhs (f v0 v1 v2)) (rhs (f v0 v1 v2)) t

pub ring4 : (f : Ex → Ex → Ex → Ex → Eqn) → T (same (f v0 v1 v2 v3)) → (a b c d : ℤ) → Solved (a ∷ b ∷ c ∷ d ∷ []) (f v0 v1 v2 v3)
ring4 f t a b c d = ring (a ∷ b ∷ c ∷ d ∷ []) (lhs (f v0 v1 v2 v3)) (rhs (f v0 v1 v2 v3)) t

pub ring6 : (f : Ex → Ex → Ex → Ex → Ex → Ex → Eqn) → T (same (f v0 v1 v2 v3 v4 v5)) → (a b c d e g : ℤ) → Solved (a ∷ b ∷ c ∷ d ∷ e ∷ g ∷ []) (f v0 v1 v2 v3 v4 v5)
ring6 f t a b c d e g = ring (a ∷ b ∷ c ∷ d ∷ e ∷ g ∷ []) (lhs (f v0 v1 v2 v3 v4 v5)) (rhs (f v0 v1 v2 v3 v4 v5)) t
