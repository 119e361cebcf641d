-- What holds of an answer unless it is a refusal, and of all points of a list.
use mathlib.Core.Path.{◌≡◌, refl, ap, subst}
use mathlib.Core.Bool.{Bool, true, false, cond}
use mathlib.Core.List.{List, [], ◌∷◌, ◌++◌}
use Prim.Native.Nat.{ℕ, zero, suc, ◌<◌}
use native.Mathlib.Nat.{not-suc-le-zero, le_of_suc-le-suc}
use lib.ListN.{length, get_or, drop}
use Rattle.std.specs.Prelude.{Option, None, Some}
use Rattle.std.proofs.lemmas.Option.{same_Some, none-some}
use Rattle.plane.specs.declared.crossing.SidePoint.{SidePoint}
use Rattle.plane.specs.declared.point.Point64.{Point64}
use Rattle.plane.specs.declared.location.Location.{Location}
use Rattle.plane.specs.declared.rect.Rect64.{Rect64}
use Rattle.plane.specs.Basics.{Try, refuse, ok, ◌>>=◌}
use native.Mathlib.Omega.{arith}
use Rattle.plane.specs.Intersection.{found_at, ◌or_else◌, get_intersection, found_or}
use Rattle.reference.specs.Walk.{second_search}

pub data Holds {A : Type 0} (Q : A → Type 0) : Try A → Type 0 where
  refused : {n : ℕ} → Holds Q (refuse n)
  held : {a : A} → Q a → Holds Q (ok a)

pub bind : {A B : Type 0} (Q : A → Type 0) (R : B → Type 0) (m : Try A) (f : A → Try B) → Holds Q m → ((a : A) → Q a → Holds R (f a)) → Holds R (m >>= f)
bind Q R m f refused k = refused
bind Q R m f (held {a} h) k = k a h

pub either : {A : Type 0} (Q : A → Type 0) (b : Bool) (x y : Try A) → (b ≡ true → Holds Q x) → (b ≡ false → Holds Q y) → Holds Q (cond b x y)
either Q true x y h k = h refl
either Q false x y h k = k refl

pub by_search : {A : Type 0} (Q : A → Type 0) (m : Option SidePoint) (x : Try A) (f : Point64 → Location → Try A) → (m ≡ None → Holds Q x) → ((q : Point64) (t : Location) → m ≡ found_at q t → Holds Q (f q t))
    → Holds Q (elim m [ None ↦ x | Some found ↦ f found.point found.side ])
by_search Q None x f h k = h refl
by_search Q (Some found) x f h k = k found.point found.side refl

pub anything : {A : Type 0} (m : Try A) → Holds (λ (a : A). Unit {0}) m
anything (refuse n) = refused
anything (ok a) = held tt

pub weaker : {A : Type 0} (Q R : A → Type 0) (m : Try A) → Holds Q m → ((a : A) → Q a → R a) → Holds R m
weaker Q R m refused f = refused
weaker Q R m (held {a} h) f = held (f a h)

pub holds_map : {A : Type 0} {Q R : A → Type 0} {m : Try A} → ((a : A) → Q a → R a) → Holds Q m → Holds R m
holds_map f refused = refused
holds_map f (held {a} h) = held (f a h)

pub holds_both : {A : Type 0} {Q R : A → Type 0} {m : Try A} → Holds Q m → Holds R m → Holds (λ a. Q a × R a) m
holds_both {m = refuse n} h k = refused
holds_both {Q} {R} {m = ok a} (held h) (held k) = held (h, k)

pub holds_ok : {A : Type 0} {Q : A → Type 0} (m : Try A) (x : A) → Holds Q m → m ≡ ok x → Q x
holds_ok {A} {Q} m x (held {a} h) e = let q : a ≡ x = cc in subst Q q h
holds_ok m x refused e = let z : ◌≡◌ {A = ℕ} 0 1 = cc in absurd (omega arith)

-- ---- a search that found something
-- two finds are one exactly if their points and sides are
pub same_find : {p q : Point64} {s t : Location} → found_at p s ≡ found_at q t → (p ≡ q) × (s ≡ t)
same_find e = let f = same_Some _ _ e in (ap (λ (x : SidePoint). x.point) f, ap (λ (x : SidePoint). x.side) f)

pub or_cases : {W : Type 0} (x y : Option SidePoint) (q : Point64) (t : Location) → (x ≡ found_at q t → W) → (y ≡ found_at q t → W) → (x or_else y) ≡ found_at q t → W
or_cases (Some found) y q t h k e = h e
or_cases None y q t h k e = k e

pub guarded : {W : Type 0} (g : Bool) (x : Option SidePoint) (q : Point64) (t : Location) → (x ≡ found_at q t → W) → (cond g x None) ≡ found_at q t → W
guarded true x q t h e = h e
guarded false x q t h e = absurd (none-some _ e)

-- what holds of ip and prev, and of all that the search may find, holds of the second search's answer
pub by_second_search : (P : Point64 → Location → Type 0) (r : Rect64) (q p : Point64) (prev : Location) (ip : Point64) → P ip prev → ((ip2 : Point64) (l : Location) → get_intersection r q p prev ≡ found_at ip2 l → P ip2 l)
    → P (second_search r q p prev ip).point (second_search r q p prev ip).side
unfolding second_search
by_second_search P r q p prev ip h f = go (get_intersection r q p prev) refl
  where
    go : (m : Option SidePoint) → get_intersection r q p prev ≡ m → P (found_or m ip prev).point (found_or m ip prev).side
    go None e = h
    go (Some found) e = f found.point found.side e

-- ---- all points of a list
abbrev pub All : (Point64 → Type 0) → List Point64 → Type 0
All P [] = Unit {0}
All P (p ∷ ps) = P p × All P ps

module _ (P : Point64 → Type 0) where
  pub all_push : (ps : List Point64) (p : Point64) → All P ps → P p → All P (ps ++ p ∷ [])
  all_push [] p h q = (q, tt)
  all_push (x ∷ ps) p h q = (h.0, all_push ps p h.1 q)

  pub all_split : (xs ys : List Point64) → All P (xs ++ ys) → All P xs × All P ys
  all_split [] ys h = (tt, h)
  all_split (x ∷ xs) ys h = let k = all_split xs ys h.1 in ((h.0, k.0), k.1)

  pub all_drop : (i : ℕ) (ps : List Point64) → All P ps → All P (drop i ps)
  all_drop zero ps h = h
  all_drop (suc i) [] h = tt
  all_drop (suc i) (p ∷ ps) h = all_drop i ps h.1

  pub all_at : (ps : List Point64) (i : ℕ) (d : Point64) → All P ps → i < length ps → P (get_or ps i d)
  all_at [] i d h l = absurd (not-suc-le-zero l)
  all_at (p ∷ ps) zero d h l = h.0
  all_at (p ∷ ps) (suc i) d h l = all_at ps i d h.1 (le_of_suc-le-suc l)

  pub all_of : (ps : List Point64) (d : Point64) → ((i : ℕ) → i < length ps → P (get_or ps i d)) → All P ps
  all_of [] d h = tt
  all_of (p ∷ ps) d h = (h zero (Prim.Native.Nat.suc-le-suc Prim.Native.Nat.zero-le), all_of ps d (λ i l. h (suc i) (Prim.Native.Nat.suc-le-suc l)))
