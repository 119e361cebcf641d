-- Entering the rectangle finds a side: from a point strictly inside, the search toward a point on or beyond a side cannot miss.
-- So the premise `EntryFound` of the area equation holds within the coordinate limit.
use Rattle.std.specs.Prelude.{if◌then◌else◌, None, is_some}
use mathlib.Core.Path.{◌≡◌, refl, sym, ◌∙◌, ap}
use mathlib.Core.Bool.{Bool, true, false, cond}
use mathlib.Core.List.{List}
use Prim.Native.Nat.{ℕ, ◌-◌, ◌<◌}
use native.Mathlib.Omega.{arith}
use lib.ListN.{length}
use lib.Dec.{T, ltb}
use lib.IntN.{ℤ, pos, ◌-ℤ◌}
use lib.Signed.{◌<ℤ◌, ◌≤ℤ◌}
use Rattle.integers.specs.Order.{zint, sub_pn}
use Rattle.integers.specs.Tests.{leZ_true, leZ_false}
use Rattle.plane.proofs.Limits.{rect_limited}
use Rattle.plane.specs.declared.point.Point64.{Point64}
use Rattle.plane.specs.Limit.{Limited, all_in_limit, rect_in_limit, LimitedRect}
use Rattle.plane.specs.declared.rect.Rect64.{Rect64}
use Rattle.plane.specs.declared.location.Location.{Location}
use Rattle.plane.specs.declared.location.Location.TheVariants.{Left, Top, Right, Bottom, Inside}
use Rattle.plane.specs.Points.{origin, pt_at, points_of}
use Rattle.plane.specs.Rectangle.{is_empty, beyond_or_on}
use Rattle.plane.specs.Intersection.{get_intersection}
use Rattle.reference.specs.Walk.{next_side, pt_before}
use Rattle.plane.specs.Locations.{is_inside}
use Rattle.theorems.proofs.Holds.{All, all_at}
use Rattle.theorems.proofs.Demand.{points_limited, not_empty_order}
use Rattle.theorems.proofs.GeoPlane.{on_left, on_top, on_right, on_bottom, Proper}
use Rattle.theorems.proofs.GeoSearch.{Inner, Outside, enter}
use Rattle.theorems.proofs.Bridge.{told, search_told}
use Rattle.theorems.proofs.FirstCrossing.{EntryFound}
use Rattle.theorems.proofs.Tests.{never}

-- ---- what the tests say in depths
below : (a b : ℤ) → a ≤ℤ b → (a -ℤ b) ≤ℤ pos 0
below a b h = omega (zint, sub_pn a b)

above : (a b : ℤ) → a <ℤ b → pos 0 <ℤ (b -ℤ a)
above a b h = omega (zint, sub_pn b a)

outside : (r : Rect64) (s : Location) (p : Point64) → beyond_or_on r s p ≡ true → Outside r p
outside r Left p e = record { side = on_left; beyond = below p.x r.left (leZ_true e) }
outside r Top p e = record { side = on_top; beyond = below p.y r.top (leZ_true e) }
outside r Right p e = record { side = on_right; beyond = below r.right p.x (leZ_true e) }
outside r Bottom p e = record { side = on_bottom; beyond = below r.bottom p.y (leZ_true e) }
outside r Inside p e = absurd (never e refl)

inner : (r : Rect64) (p : Point64) → beyond_or_on r Left p ≡ false → beyond_or_on r Top p ≡ false → beyond_or_on r Right p ≡ false → beyond_or_on r Bottom p ≡ false → Inner r p
inner r p a b c d on_left = above r.left p.x (leZ_false a)
inner r p a b c d on_top = above r.top p.y (leZ_false b)
inner r p a b c d on_right = above p.x r.right (leZ_false c)
inner r p a b c d on_bottom = above p.y r.bottom (leZ_false d)

three : (b1 b2 b3 : Bool) (x y z : Location) → is_inside x ≡ false → is_inside y ≡ false → is_inside z ≡ false → cond b1 x (cond b2 y (cond b3 z Inside)) ≡ Inside → (b1 ≡ false) × (b2 ≡ false) × (b3 ≡ false)
three true b2 b3 x y z h k l e = absurd (never (ap is_inside e) h)
three false true b3 x y z h k l e = absurd (never (ap is_inside e) k)
three false false true x y z h k l e = absurd (never (ap is_inside e) l)
three false false false x y z h k l e = (refl, refl, refl)

-- a point that is not beyond s, and for which `get_next_location` finds no other side, is strictly inside
strictly : (r : Rect64) (s : Location) (p : Point64) → is_inside s ≡ false → beyond_or_on r s p ≡ false → next_side r s p ≡ Inside → Inner r p
unfolding next_side
strictly r Left p i h e = let t = three (beyond_or_on r Right p) (beyond_or_on r Top p) (beyond_or_on r Bottom p) Right Top Bottom refl refl refl e in inner r p h t.1 t.0 t.2
strictly r Top p i h e = let t = three (beyond_or_on r Bottom p) (beyond_or_on r Left p) (beyond_or_on r Right p) Bottom Left Right refl refl refl e in inner r p t.1 h t.2 t.0
strictly r Right p i h e = let t = three (beyond_or_on r Left p) (beyond_or_on r Top p) (beyond_or_on r Bottom p) Left Top Bottom refl refl refl e in inner r p t.0 t.1 h t.2
strictly r Bottom p i h e = let t = three (beyond_or_on r Top p) (beyond_or_on r Left p) (beyond_or_on r Right p) Top Left Right refl refl refl e in inner r p t.1 t.0 t.2 h
strictly r Inside p i h e = absurd (never refl i)

-- The segment from p, strictly inside, to q, on or beyond a side, leaves the rectangle through a point of one of the four edges, and the
-- search from inside tries all four.
pub search_enters : (r : Rect64) → LimitedRect r → Proper r → (p q : Point64) → Limited p → Limited q → Inner r p → Outside r q → get_intersection r p q Inside ≡ None → ⊥
search_enters r lr k p q lp lq i o e =
    let n = enter r k p q i o in
    never refl (sym (ap is_some (search_told r lr k p q lp lq Inside ∙ ap (told r lr k p q lp lq) n.finds.at)) ∙ ap is_some e)

before_limited : (path : List Point64) → All Limited path → (k : ℕ) → k < length path → Limited (pt_before path k)
before_limited path l k h = go (ltb 0 k)
  where
    go : (b : Bool) → Limited (pt_at path (if b then k - 1 else length path - 1))
    go true = all_at Limited path (k - 1) origin l (omega arith)
    go false = all_at Limited path (length path - 1) origin l (omega arith)

-- Where the walk comes from a point on or beyond a side to one strictly inside, its search finds a crossing.
pub entry_found : (r : Rect64) (coords : List ℤ) → T (rect_in_limit r) → T (all_in_limit coords) → is_empty r ≡ false → EntryFound r (points_of coords)
entry_found r coords hr hc he s k l i b n e m =
    let o = not_empty_order r he in
    let lim = points_limited coords hc in
    let path = points_of coords in
    search_enters r (rect_limited r hr) (record { wide = o.0; high = o.1 }) (pt_at path k) (pt_before path k) (all_at Limited path k origin lim l) (before_limited path lim k l)
    (strictly r s (pt_at path k) i n e) (outside r s (pt_before path k) b) m
