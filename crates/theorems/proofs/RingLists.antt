-- Lists of nodes: members, what holds of all, and turning them round.
use mathlib.Core.Path.{◌≡◌, refl, sym, subst}
use mathlib.Core.List.{List, [], ◌∷◌, ◌++◌}
use mathlib.Core.Logic.{⊎_elim, ◌⊎◌, inl, inr}
use Prim.Native.Nat.{ℕ}
use Rattle.theorems.proofs.RingLaw.{Ring, end, Off, Distinct, off_right}

abbrev pub RingOf : (ℕ → ℕ) → (ℕ → ℕ) → List ℕ → Type 0
RingOf nx pv [] = Unit {0}
RingOf nx pv (a ∷ xs) = Ring nx pv a xs

abbrev pub All : (ℕ → Type 0) → List ℕ → Type 0
All P [] = Unit {0}
All P (x ∷ xs) = P x × All P xs

-- u is one of xs
abbrev pub In : ℕ → List ℕ → Type 0
In u [] = ⊥
In u (x ∷ xs) = (x ≡ u) ⊎ In u xs

-- ---- lists
pub all_map : (P Q : ℕ → Type 0) (xs : List ℕ) → ((i : ℕ) → P i → Q i) → All P xs → All Q xs
all_map P Q [] f h = tt
all_map P Q (x ∷ xs) f h = (f x h.0, all_map P Q xs f h.1)

pub all_end : (P : ℕ → Type 0) (a : ℕ) (xs : List ℕ) → All P (a ∷ xs) → P (end a xs)
all_end P a [] h = h.0
all_end P a (x ∷ xs) h = all_end P x xs h.1

pub all_in : (P : ℕ → Type 0) (u : ℕ) (xs : List ℕ) → All P xs → In u xs → P u
all_in P u [] h k = elim k [ ]
all_in P u (x ∷ xs) h (inl e) = subst P e h.0
all_in P u (x ∷ xs) h (inr k) = all_in P u xs h.1 k

-- what holds of each node in the list
pub all_of : (P : ℕ → Type 0) (xs : List ℕ) → ((i : ℕ) → In i xs → P i) → All P xs
all_of P [] f = tt
all_of P (x ∷ xs) f = (f x (inl refl), all_of P xs (λ i h. f i (inr h)))

pub all_left : (P : ℕ → Type 0) (xs ys : List ℕ) → All P (xs ++ ys) → All P xs
all_left P [] ys h = tt
all_left P (x ∷ xs) ys h = (h.0, all_left P xs ys h.1)

pub all_right : (P : ℕ → Type 0) (xs ys : List ℕ) → All P (xs ++ ys) → All P ys
all_right P [] ys h = h
all_right P (x ∷ xs) ys h = all_right P xs ys h.1

pub all_append : (P : ℕ → Type 0) (xs ys : List ℕ) → All P xs → All P ys → All P (xs ++ ys)
all_append P [] ys a b = b
all_append P (x ∷ xs) ys a b = (a.0, all_append P xs ys a.1 b)

-- of two lists that share nothing, each of the first is none of the second
pub all_off : (P : ℕ → Type 0) (xs ys : List ℕ) → Distinct (xs ++ ys) → All P xs → All (λ i. P i × Off i ys) xs
all_off P [] ys d a = tt
all_off P (x ∷ xs) ys d a = ((a.0, off_right x xs ys d.0), all_off P xs ys d.1 a.1)

pub all_both : (P Q : ℕ → Type 0) (xs : List ℕ) → All P xs → All Q xs → All (λ i. P i × Q i) xs
all_both P Q [] a b = tt
all_both P Q (x ∷ xs) a b = ((a.0, b.0), all_both P Q xs a.1 b.1)

off_append : (u : ℕ) (xs ys : List ℕ) → Off u xs → Off u ys → Off u (xs ++ ys)
off_append u [] ys a b = b
off_append u (x ∷ xs) ys a b = (a.0, off_append u xs ys a.1 b)

pub distinct_append : (xs ys : List ℕ) → Distinct xs → Distinct ys → All (λ i. Off i ys) xs → Distinct (xs ++ ys)
distinct_append [] ys a b c = b
distinct_append (x ∷ xs) ys a b c = (off_append x xs ys a.0 c.0, distinct_append xs ys a.1 b c.1)

pub in_append : (u : ℕ) (l k : List ℕ) → In u (l ++ k) → In u l ⊎ In u k
in_append u [] k h = inr h
in_append u (x ∷ l) k (inl e) = inl (inl e)
in_append u (x ∷ l) k (inr h) = ⊎_elim (λ w. inl (inr w)) (λ w. inr w) (in_append u l k h)

pub in_left : (u : ℕ) (l k : List ℕ) → In u l → In u (l ++ k)
in_left u [] k h = elim h [ ]
in_left u (x ∷ l) k (inl e) = inl e
in_left u (x ∷ l) k (inr h) = inr (in_left u l k h)

pub in_right : (u : ℕ) (l k : List ℕ) → In u k → In u (l ++ k)
in_right u [] k h = h
in_right u (x ∷ l) k h = inr (in_right u l k h)

pub off_in : (u : ℕ) (xs : List ℕ) → Off u xs → In u xs → ⊥
off_in u [] o h = elim h [ ]
off_in u (x ∷ xs) o (inl e) = o.0 e
off_in u (x ∷ xs) o (inr h) = off_in u xs o.1 h

pub off_of : (u : ℕ) (xs : List ℕ) → (In u xs → ⊥) → Off u xs
off_of u [] f = tt
off_of u (x ∷ xs) f = ((λ e. f (inl e)), off_of u xs (λ h. f (inr h)))

off_turn : (u a : ℕ) (xs : List ℕ) → Off u xs → (a ≡ u → ⊥) → Off u (xs ++ a ∷ [])
off_turn u a [] o h = (h, tt)
off_turn u a (x ∷ xs) o h = (o.0, off_turn u a xs o.1 h)

pub distinct_turn : (a : ℕ) (xs : List ℕ) → Off a xs → Distinct xs → Distinct (xs ++ a ∷ [])
distinct_turn a [] o d = (tt, tt)
distinct_turn a (x ∷ xs) o d = (off_turn x a xs d.0 (λ e. o.0 (sym e)), distinct_turn a xs o.1 d.1)

pub in_end : (a : ℕ) (xs : List ℕ) → In (end a xs) (a ∷ xs)
in_end a [] = inl refl
in_end a (x ∷ xs) = inr (in_end x xs)
