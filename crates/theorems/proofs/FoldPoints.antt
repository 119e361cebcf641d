-- The walk as a fold over the points, its words, and one point of `get_next_location`.
use Rattle.std.specs.Prelude.{if◌then◌else◌, None, Some}
use mathlib.Core.Path.{◌≡◌, refl, ◌∙◌, ap, subst}
use mathlib.Core.Bool.{Bool, true, false, cond}
use mathlib.Core.List.{List}
use Prim.Native.Nat.{ℕ, ◌+◌, ◌<◌, ◌≤◌}
use native.Mathlib.Omega.{arith}
use lib.Dec.{leb, ltb, leb→le, nleb→lt, ltb→lt, nltb→le}
use lib.Signed.{lt_z, le_z}
use Rattle.integers.specs.Tests.{T_of, T_not_of}
use Rattle.plane.specs.declared.point.Point64.{Point64}
use Rattle.plane.specs.declared.rect.Rect64.{Rect64}
use Rattle.plane.specs.declared.location.Location.{Location}
use Rattle.plane.specs.declared.location.Location.TheVariants.{Left, Top, Right, Bottom, Inside}
use Rattle.plane.specs.Basics.{Try, ok, ◌>>=◌}
use Rattle.plane.specs.Locations.{same_location, is_inside}
use Rattle.plane.specs.Rectangle.{beyond, beyond_or_on}
use Rattle.plane.specs.Intersection.{get_intersection}
use Rattle.reference.specs.Walk.{add, next_side, State, Pass, remain_outside, cross_boundary}
use Rattle.theorems.proofs.WalkOver.{walk_over}
use Rattle.theorems.proofs.GeoWalk.{Step, skip, stop, step}
use Rattle.theorems.proofs.GeoProgress.{In, Stop, stop_clash}
use Rattle.theorems.proofs.Passes.{stop_in}
use Rattle.theorems.proofs.Tests.{never}
use Rattle.theorems.proofs.Locations.{same_place}

-- ---- the definition, as it would stand in specs/Walk
module _ (full : ℕ → Bool) (rect : Rect64) where
  -- `get_next_location` at one point: where it stops, or the same location where it goes past the point
  unfoldable pub next_location : Location → Point64 → Location
  next_location Left p = if beyond_or_on rect Left p then Left else next_side rect Left p
  next_location Top p = if beyond_or_on rect Top p then Top else next_side rect Top p
  next_location Right p = if beyond_or_on rect Right p then Right else next_side rect Right p
  next_location Bottom p = if beyond_or_on rect Bottom p then Bottom else next_side rect Bottom p
  next_location Inside p =
      if beyond rect Left p then Left
      else if beyond rect Right p then Right
      else if beyond rect Bottom p then Bottom
      else if beyond rect Top p then Top
      else Inside

  -- going past a point: inside, it is added
  unfoldable pub go_past : Point64 → State → Try State
  go_past p s =
      (if is_inside s.loc then add full s.walk p false else ok s.walk)
      >>= λ w. ok (record { walk = w; i = s.i + 1; loc = s.loc; crossing_loc = s.crossing_loc; first_cross = s.first_cross })

  -- all that the walk does at the point p, which comes after q. A pass that finds a crossing is followed by one that goes past the point
  unfoldable pub at_point : State → Point64 → Point64 → Try State
  at_point s q p =
      let l = next_location s.loc p in
      let c : Pass = record { walk = s.walk; i = s.i; prev = s.loc; loc = l; crossing_prev = s.crossing_loc; first_cross = s.first_cross; prev_pt = q; pt = p } in
      let stopped : Try State = elim (get_intersection rect p q l) [ None ↦ remain_outside full rect c | Some found ↦ cross_boundary full rect c found.point found.side >>= go_past p ] in
      if same_location l s.loc then go_past p s else stopped

  abbrev pub walk_on : State → Point64 → List Point64 → Try State
  walk_on = walk_over at_point

-- ---- one point of `get_next_location`
abbrev pub after : Location → Step → Location
after l skip = l
after l (stop l') = l'

module _ (full : ℕ → Bool) (r : Rect64) where
  pub next_is : (l : Location) (p : Point64) → next_location full r l p ≡ after l (step r l p)
  unfolding next_location next_side
  next_is Left p = go (le_z p.x r.left)
    where
      go : (b : Bool) → cond b Left (next_side r Left p) ≡ after Left (cond b skip (stop (next_side r Left p)))
      go true = refl
      go false = refl
  next_is Top p = go (le_z p.y r.top)
    where
      go : (b : Bool) → cond b Top (next_side r Top p) ≡ after Top (cond b skip (stop (next_side r Top p)))
      go true = refl
      go false = refl
  next_is Right p = go (le_z r.right p.x)
    where
      go : (b : Bool) → cond b Right (next_side r Right p) ≡ after Right (cond b skip (stop (next_side r Right p)))
      go true = refl
      go false = refl
  next_is Bottom p = go (le_z r.bottom p.y)
    where
      go : (b : Bool) → cond b Bottom (next_side r Bottom p) ≡ after Bottom (cond b skip (stop (next_side r Bottom p)))
      go true = refl
      go false = refl
  next_is Inside p = go (lt_z p.x r.left) (lt_z r.right p.x) (lt_z r.bottom p.y) (lt_z p.y r.top)
    where
      go : (a b c d : Bool) → cond a Left (cond b Right (cond c Bottom (cond d Top Inside))) ≡ after Inside (cond a (stop Left) (cond b (stop Right) (cond c (stop Bottom) (cond d (stop Top) skip))))
      go true b c d = refl
      go false true c d = refl
      go false false true d = refl
      go false false false true = refl
      go false false false false = refl

  same_refl : (l : Location) → same_location l l ≡ true
  same_refl Left = refl
  same_refl Top = refl
  same_refl Right = refl
  same_refl Bottom = refl
  same_refl Inside = refl

  -- where it goes past
  pub past_next : (l : Location) (p : Point64) → step r l p ≡ skip → same_location (next_location full r l p) l ≡ true
  past_next l p e = ap (λ (z : Location). same_location z l) (next_is l p ∙ ap (after l) e) ∙ same_refl l

  pub differ : (p : Point64) (l l' : Location) → Stop r p l l' → (b : Bool) → same_location l' l ≡ b → b ≡ false
  differ p l l' t true e = absurd (stop_clash t (subst (λ (z : Location). In r z p) (same_place l' l e) (stop_in r p t)))
  differ p l l' t false e = refl

-- ---- tests of numbers
pub lt_yes : (m n : ℕ) → m < n → ltb m n ≡ true
lt_yes m n h = go (ltb m n) refl
  where
    go : (b : Bool) → ltb m n ≡ b → b ≡ true
    go true e = refl
    go false e = absurd (let z : n ≤ m = nltb→le m n (T_not_of e) in omega arith)

pub lt_no : (m n : ℕ) → n ≤ m → ltb m n ≡ false
lt_no m n h = go (ltb m n) refl
  where
    go : (b : Bool) → ltb m n ≡ b → b ≡ false
    go true e = absurd (let z : m < n = ltb→lt m n (T_of e) in omega arith)
    go false e = refl

pub le_yes : (m n : ℕ) → m ≤ n → leb m n ≡ true
le_yes m n h = go (leb m n) refl
  where
    go : (b : Bool) → leb m n ≡ b → b ≡ true
    go true e = refl
    go false e = absurd (let z : n < m = nleb→lt m n (T_not_of e) in omega arith)

pub le_no : (m n : ℕ) → n < m → leb m n ≡ false
le_no m n h = go (leb m n) refl
  where
    go : (b : Bool) → leb m n ≡ b → b ≡ false
    go true e = absurd (let z : m ≤ n = leb→le m n (T_of e) in omega arith)
    go false e = refl

pub cond_no : {A : Type 0} (b : Bool) (x y : A) → b ≡ false → cond b x y ≡ y
cond_no true x y e = absurd (never refl e)
cond_no false x y e = refl
