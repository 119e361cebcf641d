-- The search over the edges: what it finds is near. Assumes nothing.
use mathlib.Core.Path.{◌≡◌, refl, sym, ◌∙◌}
use Rattle.std.specs.Prelude.{Option, None, Some}
use Rattle.plane.specs.declared.crossing.SidePoint.{SidePoint}
use Rattle.plane.specs.Intersection.{get_intersection, found_or}
use Rattle.plane.specs.declared.location.Location.{Location}
use Rattle.plane.specs.declared.point.Point64.{Point64}
use Rattle.plane.specs.declared.rect.Rect64.{Rect64}
use Rattle.reference.specs.Walk.{second_search}
use Rattle.theorems.proofs.Search.{found_outside, outside_across, outside_down}
use Rattle.rectclip.specs.declared.search.Search.{Search}
use Rattle.rectclip.specs.Bounds.{Reached}

-- what was found is near
pub in_reach : (s : Search) (loc : Location) {x : Option SidePoint} → x ≡ get_intersection s.rect s.segment.from s.segment.to loc → {found : SidePoint} → x ≡ Some found → Reached found.point
in_reach s loc e {found} f =
    let o = found_outside s.rect s.frame s.extent s.segment.from s.segment.to s.segment.start s.segment.end loc found.point found.side (sym e ∙ f) in
    record { across = outside_across s.frame o; down = outside_down s.frame o }

-- and so is what the second search answers, where what it is given is
pub second_in_reach : (s : Search) (loc : Location) {x : Option SidePoint} → x ≡ get_intersection s.rect s.segment.from s.segment.to loc → {p : Point64} → Reached p → Reached (found_or x p loc).point
second_in_reach s loc {x = None} e near = near
second_in_reach s loc {x = Some found} e near = in_reach s loc e refl

-- what a search finds, by the rectangle and the ends that it was made of
module _ {r rect : Rect64} (er : r ≡ rect) {a b p q : Point64} (ep : a ≡ p) (eq : b ≡ q) where
  pub found_of : (loc : Location) {x : Option SidePoint} → x ≡ get_intersection r a b loc → x ≡ get_intersection rect p q loc
  found_of loc e = e ∙ λ j. get_intersection (er j) (ep j) (eq j) loc

  pub second_of : (prev : Location) (ip : Point64) {x : SidePoint} → x ≡ second_search r a b prev ip → x ≡ second_search rect p q prev ip
  second_of prev ip e = e ∙ λ j. second_search (er j) (ep j) (eq j) prev ip
