-- A run beyond one side, seen by the walk: from p strictly inside to q strictly beyond side s and no other the walk leaves over s, and goes past
-- every point beyond s. All four sides by one argument.
use mathlib.Core.Path.{◌≡◌, refl, sym, ◌∙◌, ap}
use mathlib.Core.Bool.{Bool, true, false, not, ◌&&◌, ◌||◌}
use mathlib.Core.List.{List, ◌∷◌, ◌++◌}
use mathlib.Core.Logic.{inl, ⊎_elim}
use lib.Dec.{T}
use lib.IntN.{ℤ, pos}
use lib.Signed.{lt_z, ◌≤ℤ◌, ◌<ℤ◌}
use lib.Ieee.Fits.{and_l, and_r}
use Rattle.integers.specs.Order.{zint, sub_pn}
use Rattle.integers.specs.Tests.{lt_or_le, lt_leZ}
use Rattle.plane.specs.declared.point.Point64.{Point64}
use Rattle.plane.specs.declared.rect.Rect64.{Rect64}
use Rattle.plane.specs.declared.location.Location.{Location}
use Rattle.plane.specs.declared.location.Location.TheVariants.{Left, Top, Right, Bottom, Inside}
use Rattle.plane.specs.Limit.{Limited, LimitedRect}
use Rattle.plane.specs.Locations.{is_inside}
use Rattle.plane.specs.Rectangle.{contains_point, beyond, is_empty, get_location}
use Rattle.plane.specs.Intersection.{found_at, get_intersection}
use Rattle.theorems.specs.Detour.{Leaves, AllBeyond, last_of}
use Rattle.theorems.proofs.GeoPlane.{Side, on_left, on_top, on_right, on_bottom, loc, edge, depth, second, last, Proper}
use Rattle.theorems.proofs.GeoCut.{apart}
use Rattle.theorems.proofs.GeoSides.{Meets}
use Rattle.theorems.proofs.GeoSearch.{Inner}
use Rattle.theorems.proofs.GeoWalk.{skip, stop, step, point}
use Rattle.theorems.proofs.GeoProgress.{In, in_side, Stop, enters, passes, leaves, Steps, goes, halts, steps, skips_in, own_first}
use Rattle.theorems.proofs.Bridge.{floats, told, search_told}
use Rattle.theorems.proofs.OnEdge.{on_edge}
use Rattle.theorems.proofs.Passes.{sides_out}
use Rattle.theorems.proofs.Tests.{never, true_of}

-- ---- the side of a location that has points beyond it
pub record IsSide (s : Location) : Type 0 where
  pub side : Side
  pub is : loc side ≡ s

pub side_of : (r : Rect64) (s : Location) (q : Point64) → T (beyond r s q) → IsSide s
side_of r Left q h = record { side = on_left; is = refl }
side_of r Top q h = record { side = on_top; is = refl }
side_of r Right q h = record { side = on_right; is = refl }
side_of r Bottom q h = record { side = on_bottom; is = refl }
side_of r Inside q h = absurd h

abbrev side_at : Location → Side
side_at Left = on_left
side_at Top = on_top
side_at Right = on_right
side_at Bottom = on_bottom
side_at Inside = on_left

side_is : (s : Side) → side_at (loc s) ≡ s
side_is on_left = refl
side_is on_top = refl
side_is on_right = refl
side_is on_bottom = refl

-- ---- depths
depth_of : (r : Rect64) (s : Side) (q : Point64) → T (beyond r (loc s) q) → depth r s q <ℤ pos 0
depth_of r on_left q h = let e : q.x <ℤ r.left = record { lt = h } in omega (zint, sub_pn q.x r.left)
depth_of r on_top q h = let e : q.y <ℤ r.top = record { lt = h } in omega (zint, sub_pn q.y r.top)
depth_of r on_right q h = let e : r.right <ℤ q.x = record { lt = h } in omega (zint, sub_pn r.right q.x)
depth_of r on_bottom q h = let e : r.bottom <ℤ q.y = record { lt = h } in omega (zint, sub_pn r.bottom q.y)

beyond_of : (r : Rect64) (s : Side) (q : Point64) → depth r s q <ℤ pos 0 → T (beyond r (loc s) q)
beyond_of r on_left q h = let e : q.x <ℤ r.left = omega (zint, sub_pn q.x r.left) in e.lt
beyond_of r on_top q h = let e : q.y <ℤ r.top = omega (zint, sub_pn q.y r.top) in e.lt
beyond_of r on_right q h = let e : r.right <ℤ q.x = omega (zint, sub_pn r.right q.x) in e.lt
beyond_of r on_bottom q h = let e : r.bottom <ℤ q.y = omega (zint, sub_pn r.bottom q.y) in e.lt

pub record StrictlyInside (r : Rect64) (p : Point64) : Type 0 where
  pub left : r.left <ℤ p.x
  pub right : p.x <ℤ r.right
  pub top : r.top <ℤ p.y
  pub bottom : p.y <ℤ r.bottom

strictly : (r : Rect64) (p : Point64) → T (contains_point r p) → StrictlyInside r p
strictly r p h =
    let a = lt_z r.left p.x in
    let b = lt_z p.x r.right in
    let c = lt_z r.top p.y in
    let d = lt_z p.y r.bottom in
    let three = and_l (a && b && c) d h in
    let two = and_l (a && b) c three in
    record { left = record { lt = and_l a b two }; right = record { lt = and_r a b two }; top = record { lt = and_r (a && b) c three }; bottom = record { lt = and_r (a && b && c) d h } }

pub inside_of : (r : Rect64) (s : Location) (p q : Point64) → Leaves r s p q → StrictlyInside r p
inside_of r s p q h = strictly r p h.inside

pub inner_of : (r : Rect64) (p : Point64) → StrictlyInside r p → Inner r p
inner_of r p h on_left = omega (zint, sub_pn p.x r.left, h.left)
inner_of r p h on_top = omega (zint, sub_pn p.y r.top, h.top)
inner_of r p h on_right = omega (zint, sub_pn r.right p.x, h.right)
inner_of r p h on_bottom = omega (zint, sub_pn r.bottom p.y, h.bottom)

pub proper_of : (r : Rect64) (p : Point64) → StrictlyInside r p → Proper r
proper_of r p h = record { wide = omega (zint, h.left, h.right); high = omega (zint, h.top, h.bottom) }

pub not_empty : (r : Rect64) (p : Point64) → StrictlyInside r p → is_empty r ≡ false
not_empty r p h = λ j. lt_leZ r.right r.left (omega (zint, h.left, h.right)) j || lt_leZ r.bottom r.top (omega (zint, h.top, h.bottom)) j

-- ---- strictly beyond the side s and no other
pub record BeyondOnly (r : Rect64) (s : Side) (q : Point64) : Type 0 where
  pub out : depth r s q <ℤ pos 0
  pub no_other : (t : Side) → depth r t q <ℤ pos 0 → t ≡ s

pub only_of : (r : Rect64) (s : Side) (p q : Point64) → Leaves r (loc s) p q → BeyondOnly r s q
only_of r s p q h = record { out = depth_of r s q h.out; no_other = λ t n. sym (side_is t) ∙ ap side_at (h.no_other (loc t) (beyond_of r t q n)) ∙ side_is s }

side_clash : {a : ℤ} → pos 0 <ℤ a → a ≤ℤ pos 0 → ⊥
side_clash {a} h g = omega zint

out_clash : {a : ℤ} → a <ℤ pos 0 → pos 0 ≤ℤ a → ⊥
out_clash {a} h g = omega zint

weak : {a : ℤ} → a <ℤ pos 0 → a ≤ℤ pos 0
weak {a} h = omega zint

weak' : {a : ℤ} → pos 0 <ℤ a → pos 0 ≤ℤ a
weak' {a} h = omega zint

-- ---- a side is not one beside it
abbrev upright? : Side → Bool
upright? on_left = true
upright? on_top = false
upright? on_right = true
upright? on_bottom = false

beside_turns : (s : Side) → (upright? (second s) ≡ not (upright? s)) × (upright? (last s) ≡ not (upright? s))
beside_turns on_left = (refl, refl)
beside_turns on_top = (refl, refl)
beside_turns on_right = (refl, refl)
beside_turns on_bottom = (refl, refl)

turned_other : (s t : Side) → upright? t ≡ not (upright? s) → t ≡ s → ⊥
turned_other s t h e = no (upright? s) (sym h ∙ ap upright? e)
  where
    no : (b : Bool) → not b ≡ b → ⊥
    no true f = never f refl
    no false f = never refl f

-- a location whose region has a point strictly inside is Inside
pub inner_in : (r : Rect64) (l : Location) (p : Point64) → Inner r p → In r l p → l ≡ Inside
inner_in r Left p n i = absurd (side_clash (n on_left) i)
inner_in r Top p n i = absurd (side_clash (n on_top) i)
inner_in r Right p n i = absurd (side_clash (n on_right) i)
inner_in r Bottom p n i = absurd (side_clash (n on_bottom) i)
inner_in r Inside p n i = refl

-- the segment from q to p meets the edge of s: q is between the lines of the two neighbours, and p too
meets_own : (r : Rect64) (s : Side) (p q : Point64) → Inner r p → BeyondOnly r s q → Meets r s q p
meets_own r s p q n o =
    inl
    (record {
      low = weak o.out;
      high = weak' (n s);
      rise = below o.out (n s);
      one = apart (depth r s q) (depth r s p) (depth r (second s) q) (depth r (second s) p) (weak o.out) (weak' (n s)) (beside (second s) (turned_other s (second s) (beside_turns s).0)) (weak' (n (second s)));
      two = apart (depth r s q) (depth r s p) (depth r (last s) q) (depth r (last s) p) (weak o.out) (weak' (n s)) (beside (last s) (turned_other s (last s) (beside_turns s).1)) (weak' (n (last s)));
    })
  where
    below : {x y : ℤ} → x <ℤ pos 0 → pos 0 <ℤ y → x <ℤ y
    below {x} {y} a b = omega zint

    beside : (t : Side) → (t ≡ s → ⊥) → pos 0 ≤ℤ depth r t q
    beside t ne = ⊎_elim (λ h. absurd (ne (o.no_other t h))) (λ h. h) (lt_or_le (depth r t q) (pos 0))

-- ---- two runs behind p with the same ends, both beyond the side u
pub record TwoRuns (r : Rect64) (u : Side) (p q : Point64) (run run' : List Point64) : Type 0 where
  pub leaves : Leaves r (loc u) p q
  pub one : AllBeyond r (loc u) run
  pub other : AllBeyond r (loc u) run'
  pub same : last_of q run ≡ last_of q run'

abbrev pub route : List Point64 → Point64 → Point64 → List Point64 → List Point64 → List Point64
route front p q run back = front ++ (p ∷ q ∷ run ++ back)

-- ---- what the walk does there
-- from Inside, `get_next_location` stops at q with s
pub stops_at : (r : Rect64) (s : Side) (q : Point64) → BeyondOnly r s q → step r Inside q ≡ stop (loc s)
stops_at r s q o = go (steps r Inside q)
  where
    to : {l l' : Location} → Stop r q l l' → l ≡ Inside → l' ≡ loc s
    to (enters t i n) e = absurd (side_clash (n s) (weak o.out))
    to (passes t u i n) e = absurd (never (ap is_inside e) (sides_out t))
    to (leaves t n) e = ap loc (o.no_other t n)

    go : Steps r q Inside → step r Inside q ≡ stop (loc s)
    go (goes e i) = absurd (out_clash o.out (i s))
    go (halts l e t) = e ∙ ap stop (to t refl)

-- and the search finds s
module _ (r : Rect64) (lr : LimitedRect r) (k : Proper r) (s : Side) (p q : Point64) (lp : Limited p) (lq : Limited q) where
  abbrev pub way_out : Point64
  way_out = point floats r q p s (edge r s q p)

  pub finds_own : Inner r p → BeyondOnly r s q → get_intersection r q p (loc s) ≡ found_at way_out (loc s)
  finds_own n o = search_told r lr k q p lq lp (loc s) ∙ ap (told r lr k q p lq lp) (own_first r k q p s (meets_own r s p q n o))

-- a point beyond s is gone past from s
pub goes_past : (r : Rect64) (s : Side) (q : Point64) → T (beyond r (loc s) q) → step r (loc s) q ≡ skip
goes_past r s q h = skips_in r (loc s) q (in_side r s q (weak (depth_of r s q h)))

-- a point strictly beyond a side is off the edges
pub off_edges : (r : Rect64) → is_empty r ≡ false → (s : Side) (q : Point64) → T (beyond r (loc s) q) → (get_location r q).off ≡ true
off_edges r ne s q h = go (get_location r q).off refl
  where
    go : (b : Bool) → (get_location r q).off ≡ b → b ≡ true
    go true e = refl
    go false e = absurd (no s h)
      where
        no : (s : Side) → T (beyond r (loc s) q) → ⊥
        no on_left h = never (true_of _ h) (on_edge r ne q e).left
        no on_top h = never (true_of _ h) (on_edge r ne q e).top
        no on_right h = never (true_of _ h) (on_edge r ne q e).right
        no on_bottom h = never (true_of _ h) (on_edge r ne q e).bottom
