-- The sum over a ring of a weight of each node and the next, and what splitting, joining and unlinking do to it.
use mathlib.Core.Path.{◌≡◌, sym, ◌∙◌, ap}
use mathlib.Core.List.{List, [], ◌∷◌, ◌++◌}
use Prim.Native.Nat.{ℕ}
use lib.IntN.{ℤ, pos, ◌+ℤ◌, ◌-ℤ◌, neg_ℤ, +ℤ_assoc, +ℤ_comm, +ℤ_idl}
use Rattle.theorems.proofs.RingLaw.{end, end_append}
use Rattle.integers.specs.Laws.{swap_middle as swap_mid}

module _ (wt : ℕ → ℕ → ℤ) where
  unfoldable pub sum : ℕ → List ℕ → ℤ
  sum a [] = pos 0
  sum a (x ∷ xs) = wt a x +ℤ sum x xs

  -- the whole way round
  unfoldable pub area : ℕ → List ℕ → ℤ
  area a xs = sum a xs +ℤ wt (end a xs) a

  sum_append : (a b : ℕ) (xs ys : List ℕ) → sum a (xs ++ b ∷ ys) ≡ sum a xs +ℤ (wt (end a xs) b +ℤ sum b ys)
  unfolding sum
  sum_append a b [] ys = sym (+ℤ_idl (wt a b +ℤ sum b ys))
  sum_append a b (x ∷ xs) ys = ap (λ (z : ℤ). wt a x +ℤ z) (sum_append x b xs ys) ∙ sym (+ℤ_assoc (wt a x) (sum x xs) (wt (end x xs) b +ℤ sum b ys))

  -- two rings and the one that they make, where the weights of the exchanged links have one sum
  pub area_split : (a b : ℕ) (xs ys : List ℕ) → wt (end a xs) b +ℤ wt (end b ys) a ≡ wt (end a xs) a +ℤ wt (end b ys) b
      → area a (xs ++ b ∷ ys) ≡ area a xs +ℤ area b ys
  unfolding area
  area_split a b xs ys h =
      let S = sum a xs in
      let T = sum b ys in
      let p = wt (end a xs) b in
      let q = wt (end b ys) a in
      rw (sum_append a b xs ys, end_append a b xs ys)
      (+ℤ_assoc S (p +ℤ T) q
      ∙ ap (λ (z : ℤ). S +ℤ z) (ap (λ (z : ℤ). z +ℤ q) (+ℤ_comm p T) ∙ +ℤ_assoc T p q ∙ ap (λ (z : ℤ). T +ℤ z) h)
      ∙ sym (+ℤ_assoc S T (wt (end a xs) a +ℤ wt (end b ys) b))
      ∙ swap_mid S T (wt (end a xs) a) (wt (end b ys) b)
      )

  -- a node whose two weights sum to the weight past it may go
  pub area_unlink : (b a : ℕ) (xs : List ℕ) → wt (end a xs) b +ℤ wt b a ≡ wt (end a xs) a → area b (a ∷ xs) ≡ area a xs
  unfolding area sum
  area_unlink b a xs h =
      ap (λ (z : ℤ). z +ℤ wt (end a xs) b) (+ℤ_comm (wt b a) (sum a xs)) ∙ +ℤ_assoc (sum a xs) (wt b a) (wt (end a xs) b)
      ∙ ap (λ (z : ℤ). sum a xs +ℤ z) (+ℤ_comm (wt b a) (wt (end a xs) b) ∙ h)

  -- a ring's sum does not depend on where it starts
  pub area_turn : (a b : ℕ) (xs ys : List ℕ) → area a (xs ++ b ∷ ys) ≡ area b (ys ++ a ∷ xs)
  unfolding area
  area_turn a b xs ys =
      let S = sum a xs in
      let T = sum b ys in
      let p = wt (end a xs) b in
      let q = wt (end b ys) a in
      rw (sum_append a b xs ys, end_append a b xs ys, sum_append b a ys xs, end_append b a ys xs)
      (ap (λ (z : ℤ). z +ℤ q) (sym (+ℤ_assoc S p T)) ∙ +ℤ_assoc (S +ℤ p) T q ∙ +ℤ_comm (S +ℤ p) (T +ℤ q)
      ∙ +ℤ_assoc T q (S +ℤ p) ∙ ap (λ (z : ℤ). T +ℤ z) (sym (+ℤ_assoc q S p)) ∙ sym (+ℤ_assoc T (q +ℤ S) p))

-- four nodes on one side of the rectangle: each weight is a difference of two numbers of its nodes
pub on_line : (f : ℕ → ℤ) (wt : ℕ → ℕ → ℤ) (u v a b : ℕ) → wt u b ≡ f b -ℤ f u → wt v a ≡ f a -ℤ f v → wt u a ≡ f a -ℤ f u → wt v b ≡ f b -ℤ f v
    → wt u b +ℤ wt v a ≡ wt u a +ℤ wt v b
on_line f wt u v a b e1 e2 e3 e4 =
    rw (e1, e2, e3, e4)
    (swap_mid (f b) (neg_ℤ (f u)) (f a) (neg_ℤ (f v)) ∙ ap (λ (z : ℤ). z +ℤ (neg_ℤ (f u) +ℤ neg_ℤ (f v))) (+ℤ_comm (f b) (f a))
    ∙ swap_mid (f a) (f b) (neg_ℤ (f u)) (neg_ℤ (f v)))
