-- Change 4/13: where a pass goes from outside to outside and the first search finds the segment, it meets an edge that the second search, from the
-- other end and the location there, comes to. One argument for both clippers: a pass knows where it comes from (EachPass).
use mathlib.Core.Path.{◌≡◌, refl, sym, ◌∙◌, ap}
use mathlib.Core.Bool.{false}
use mathlib.Core.Logic.{◌⊎◌, inl, inr}
use Rattle.std.specs.Prelude.{Option, None, Some, is_some}
use Rattle.plane.specs.declared.crossing.SidePoint.{SidePoint}
use Rattle.plane.proofs.Limits.{rect_limited}
use Rattle.plane.specs.declared.point.Point64.{Point64}
use Rattle.plane.specs.declared.rect.Rect64.{Rect64}
use Rattle.plane.specs.declared.location.Location.{Location}
use Rattle.plane.specs.Limit.{Limited, LimitedRect}
use Rattle.plane.specs.Points.{origin, pt_at, points_of}
use Rattle.plane.specs.Locations.{is_inside}
use Rattle.plane.specs.Intersection.{found_at, get_intersection, found_or}
use Rattle.reference.specs.Walk.{second_search}
use Rattle.theorems.specs.Walks.{given, point_before}
use Rattle.theorems.specs.SecondSearch.{FindsBack, SecondSearchFinds}
use Rattle.theorems.proofs.Holds.{all_at}
use Rattle.theorems.proofs.Demand.{points_limited, not_empty_order}
use Rattle.theorems.proofs.GeoPlane.{loc, Proper}
use Rattle.theorems.proofs.GeoSearch.{Finds, FindsNone, finds_or_none, back}
use Rattle.theorems.proofs.GeoProgress.{In, side_in, Stop, enters, passes as crosses, leaves}
use Rattle.theorems.proofs.Bridge.{told, search_told}
use Rattle.theorems.proofs.EachPass.{before_within, in_every_pass}
use Rattle.theorems.proofs.Tests.{never}

module _ (r : Rect64) (lr : LimitedRect r) (k : Proper r) (p q : Point64) (lp : Limited p) (lq : Limited q) where
  back_found : (l l' : Location) → Stop r p l l' → is_inside l' ≡ false → is_inside l ≡ false → In r l q → (ip : Point64) (c : Location) → get_intersection r p q l' ≡ found_at ip c → get_intersection r q p l ≡ None → ⊥
  back_found l l' (enters s i inner) o b h ip c e f = never refl o
  back_found l l' (leaves t n) o b h ip c e f = never refl b
  back_found l l' (crosses s t i b') o b h ip c e f = go (finds_or_none r k p q t)
    where
      go : Finds r p q (loc t) ⊎ FindsNone r p q t → ⊥
      go (inl g) =
          let w = back r k p q s g.side (side_in r s q h) i g.meets in
          never refl (sym (ap is_some (search_told r lr k q p lq lp (loc s) ∙ ap (told r lr k q p lq lp) w.at)) ∙ ap is_some f)
      go (inr n) = never refl (sym (ap is_some e) ∙ ap is_some (search_told r lr k p q lp lq (loc t) ∙ ap (told r lr k p q lp lq) n.at))

  finds_back : (l l' : Location) → Stop r p l l' → In r l q → FindsBack r l l' q p
  unfolding second_search
  finds_back l l' st h o b ip c e = go (get_intersection r q p l) refl
    where
      go : (m : Option SidePoint) → get_intersection r q p l ≡ m → m ≡ found_at (found_or m ip l).point (found_or m ip l).side
      go None f = absurd (back_found l l' st o b h ip c e f)
      go (Some found) f = refl

pub second_search_finds : SecondSearchFinds
second_search_finds closed full rect coords hr hc he =
    let o = not_empty_order rect he in
    let path = points_of coords in
    let lr = rect_limited rect hr in
    let k : Proper rect = record { wide = o.0; high = o.1 } in
    let lim = points_limited coords hc in
    in_every_pass full rect path lr k lim closed (λ s nx. FindsBack rect (given closed s).loc nx.loc (point_before path closed nx.i) (pt_at path nx.i))
    (λ s nx R i l. finds_back rect lr k (pt_at path nx.i) (point_before path closed nx.i) (all_at Limited path nx.i origin lim l) (before_within full rect path lr k lim closed nx.i l) (given closed s).loc nx.loc (R.stopped l) i)
