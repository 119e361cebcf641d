-- Distinct numbers below n are at most n.
use mathlib.Core.Path.{◌≡◌}
use mathlib.Core.List.{List, [], ◌∷◌}
use Prim.Native.Nat.{ℕ, zero, suc, ◌<◌, ◌≤◌}
use lib.ListN.{length}
use native.Mathlib.Omega.{arith}
use native.Mathlib.Decide.{ℕ_discrete}
use Rattle.theorems.proofs.RingLaw.{Off, Distinct}

abbrev pub Below : ℕ → List ℕ → Type 0
Below n [] = Unit {0}
Below n (x ∷ xs) = (x < n) × Below n xs

-- xs is ys, with k somewhere in it or not
data Less (k : ℕ) : List ℕ → List ℕ → Type 0 where
  none : Less k [] []
  here : {xs : List ℕ} → Less k (k ∷ xs) xs
  there : {x : ℕ} {xs ys : List ℕ} → (x ≡ k → ⊥) → Less k xs ys → Less k (x ∷ xs) (x ∷ ys)

less : (k : ℕ) (xs : List ℕ) → (ys : List ℕ) × Less k xs ys
less k [] = ([], none)
less k (x ∷ xs) =
    elim (ℕ_discrete x k)
    [ yes e ↦ (xs, rw e here) | no h ↦ (let r = less k xs in (x ∷ r.0, there h r.1)) ]

less_length : {k : ℕ} {xs ys : List ℕ} → Less k xs ys → length xs ≤ suc (length ys)
less_length none = omega arith
less_length here = omega arith
less_length (there h l) = let r = less_length l in omega arith

less_off : {k : ℕ} {xs ys : List ℕ} (u : ℕ) → Less k xs ys → Off u xs → Off u ys
less_off u none o = tt
less_off u here o = o.1
less_off u (there h l) o = (o.0, less_off u l o.1)

less_distinct : {k : ℕ} {xs ys : List ℕ} → Less k xs ys → Distinct xs → Distinct ys
less_distinct none d = tt
less_distinct here d = d.1
less_distinct (there {x = x} h l) d = (less_off x l d.0, less_distinct l d.1)

off_below : (n : ℕ) (xs : List ℕ) → Off n xs → Below (suc n) xs → Below n xs
off_below n [] o b = tt
off_below n (x ∷ xs) o b = (omega (arith, o.0, b.0), off_below n xs o.1 b.1)

less_below : {n : ℕ} {xs ys : List ℕ} → Less n xs ys → Distinct xs → Below (suc n) xs → Below n ys
less_below none d b = tt
less_below {n} (here {xs = xs}) d b = off_below n xs d.0 b.1
less_below (there h l) d b = (omega (arith, h, b.0), less_below l d.1 b.1)

pub pigeon : (n : ℕ) (xs : List ℕ) → Distinct xs → Below n xs → length xs ≤ n
pigeon zero [] d b = omega arith
pigeon zero (x ∷ xs) d b = absurd (omega (arith, b.0))
pigeon (suc n) xs d b =
    let r = less n xs in
    let q = pigeon n r.0 (less_distinct r.1 d) (less_below r.1 d b) in
    omega (arith, less_length r.1)
