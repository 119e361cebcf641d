-- Two answers alike: both are the same refusal, or both are results that stand in a relation. Assumes nothing.
use mathlib.Core.Path.{◌≡◌, refl, sym, subst}
use mathlib.Core.Bool.{Bool, true, false, cond}
use Prim.Native.Nat.{ℕ}
use Rattle.std.specs.Prelude.{Option, None, Some}
use Rattle.plane.specs.declared.crossing.SidePoint.{SidePoint}
use Rattle.plane.specs.declared.point.Point64.{Point64}
use Rattle.plane.specs.declared.location.Location.{Location}
use Rattle.plane.specs.Basics.{Try, refuse, ok, ◌>>=◌}
use Rattle.theorems.proofs.Tests.{never}
use Rattle.theorems.proofs.Holds.{Holds, refused, held}

pub data Alike {A B : Type 0} (R : A → B → Type 0) : Try A → Try B → Type 0 where
  refuses : {n : ℕ} → Alike R (refuse n) (refuse n)
  comes : {a : A} {b : B} → R a b → Alike R (ok a) (ok b)

-- from answers equal to these
pub both : {A B : Type 0} {R : A → B → Type 0} {m m' : Try A} {n n' : Try B} → m ≡ m' → n ≡ n' → Alike R m' n' → Alike R m n
both {R} {m} {m'} {n} {n'} e f h = subst (λ (m : Try _). Alike R m n) (sym e) (subst (Alike R m') (sym f) h)

pub alike_refl : {A : Type 0} (R : A → A → Type 0) → ((a : A) → R a a) → (m : Try A) → Alike R m m
alike_refl R h (refuse n) = refuses
alike_refl R h (ok a) = comes (h a)

pub alike_sym : {A : Type 0} (R : A → A → Type 0) → ((a b : A) → R a b → R b a) → {m n : Try A} → Alike R m n → Alike R n m
alike_sym R h refuses = refuses
alike_sym R h (comes {a} {b} g) = comes (h a b g)

pub alike_trans : {A : Type 0} (R : A → A → Type 0) → ((a b c : A) → R a b → R b c → R a c) → {l m n : Try A} → Alike R l m → Alike R m n → Alike R l n
alike_trans R h refuses refuses = refuses
alike_trans R h (comes {a} {b} f) (comes {b = c} g) = comes (h a b c f g)

-- and what holds of the first
pub alike_and : {A : Type 0} (R : A → A → Type 0) (Q : A → Type 0) {m n : Try A} → Alike R m n → Holds Q m → Alike (λ a b. R a b × Q a) m n
alike_and R Q refuses h = refuses
alike_and R Q (comes g) (held h) = comes (g, h)

-- ---- one step after another
pub alike_bind : {A B C D : Type 0} (R : A → B → Type 0) (S : C → D → Type 0) {m : Try A} {n : Try B} (f : A → Try C) (g : B → Try D) → Alike R m n → ((a : A) (b : B) → R a b → Alike S (f a) (g b)) → Alike S (m >>= f) (n >>= g)
alike_bind R S f g refuses k = refuses
alike_bind R S f g (comes {a} {b} h) k = k a b h

-- behind the same step
pub alike_after : {A C D : Type 0} (Q : A → Type 0) (S : C → D → Type 0) (m : Try A) (f : A → Try C) (g : A → Try D) → Holds Q m → ((a : A) → Q a → Alike S (f a) (g a)) → Alike S (m >>= f) (m >>= g)
alike_after Q S m f g refused k = refuses
alike_after Q S m f g (held {a} h) k = k a h

-- what is made of both results is the same
pub alike_equal : {A B C : Type 0} (R : A → B → Type 0) {m : Try A} {n : Try B} (f : A → Try C) (g : B → Try C) → Alike R m n → ((a : A) (b : B) → R a b → f a ≡ g b) → (m >>= f) ≡ (n >>= g)
alike_equal R f g refuses k = refl
alike_equal R f g (comes {a} {b} h) k = k a b h

-- ---- choices
module _ {A B : Type 0} (R : A → B → Type 0) where
  pub alike_if : (b : Bool) {x y : Try A} {x' y' : Try B} → Alike R x x' → Alike R y y' → Alike R (cond b x y) (cond b x' y')
  alike_if true h k = h
  alike_if false h k = k

  pub alike_tests : (b b' : Bool) {x y : Try A} {x' y' : Try B} → b ≡ b' → Alike R x x' → Alike R y y' → Alike R (cond b x y) (cond b' x' y')
  alike_tests b b' {x} {y} {x'} {y'} e h k = subst (λ (c : Bool). Alike R (cond b x y) (cond c x' y')) e (alike_if b h k)

  -- the first test fails
  pub alike_else : (b : Bool) (x : Try A) {y : Try A} (x' : Try B) {y' : Try B} → b ≡ false → Alike R y y' → Alike R (cond b x y) (cond b x' y')
  alike_else true x x' e k = never refl e
  alike_else false x x' e k = k

  pub alike_search : (m : Option SidePoint) (x : Try A) (y : Try B) (f : Point64 → Location → Try A) (g : Point64 → Location → Try B) → Alike R x y → ((q : Point64) (t : Location) → Alike R (f q t) (g q t))
      → Alike R (elim m [ None ↦ x | Some found ↦ f found.point found.side ]) (elim m [ None ↦ y | Some found ↦ g found.point found.side ])
  alike_search None x y f g h k = h
  alike_search (Some found) x y f g h k = k found.point found.side
