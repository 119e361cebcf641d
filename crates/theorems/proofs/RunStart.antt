-- Where both walks start: at a point z off the edges, or, where z is on one, as a search for a point off the edges says. Two walks that search
-- alike and go on alike from each location whose region has z are alike.
use Rattle.std.specs.Prelude.{if◌then◌else◌, Option, None, Some}
use mathlib.Core.Path.{◌≡◌, refl}
use mathlib.Core.Bool.{Bool, true, false}
use Rattle.plane.specs.declared.crossing.SidePoint.{SidePoint}
use Rattle.plane.specs.Intersection.{found_at}
use Rattle.plane.specs.declared.point.Point64.{Point64}
use Rattle.plane.specs.declared.rect.Rect64.{Rect64}
use Rattle.plane.specs.declared.location.Location.{Location}
use Rattle.plane.specs.declared.location.Location.TheVariants.{Inside}
use Rattle.plane.specs.Basics.{Try}
use Rattle.plane.specs.Locations.{is_inside}
use Rattle.plane.specs.Rectangle.{get_location}
use Rattle.theorems.proofs.Alike.{Alike}
use Rattle.theorems.proofs.GeoPlane.{Proper}
use Rattle.theorems.proofs.GeoProgress.{In}
use Rattle.theorems.proofs.Passes.{get_location_in, edge_start}

-- both searches find the same
pub data SameFind : Option SidePoint → Option SidePoint → Type 0 where
  finds : (p : Point64) (l : Location) → SameFind (found_at p l) (found_at p l)

module _ (r : Rect64) (z : Point64) where
  -- from z, with the search's answer, the walk from a location, and what is done where every point is on the edges
  abbrev pub begun : {W : Type 0} → Option SidePoint → (Location → Try W) → Try W → Try W
  begun w from edges = if (get_location r z).off then from (get_location r z).loc else elim w [ None ↦ edges | Some found ↦ from (if is_inside found.side then Inside else (get_location r z).loc) ]

  pub begun_alike : {W : Type 0} (R : W → W → Type 0) → Proper r → (w w' : Option SidePoint) (from from' : Location → Try W) (edges edges' : Try W)
      → ((get_location r z).off ≡ false → SameFind w w') → ((l : Location) → In r l z → Alike R (from l) (from' l)) → Alike R (begun w from edges) (begun w' from' edges')
  begun_alike R k w w' from from' edges edges' f on = go (get_location r z).off refl
    where
      go : (b : Bool) → (get_location r z).off ≡ b
          → Alike R (if b then from (get_location r z).loc else elim w [ None ↦ edges | Some found ↦ from (if is_inside found.side then Inside else (get_location r z).loc) ])
          (if b then from' (get_location r z).loc else elim w' [ None ↦ edges' | Some found ↦ from' (if is_inside found.side then Inside else (get_location r z).loc) ])
      go true e = on (get_location r z).loc (get_location_in r z)
      go false e = found (f e)
        where
          found : {w w' : Option SidePoint} → SameFind w w'
              → Alike R (elim w [ None ↦ edges | Some found ↦ from (if is_inside found.side then Inside else (get_location r z).loc) ])
              (elim w' [ None ↦ edges' | Some found ↦ from' (if is_inside found.side then Inside else (get_location r z).loc) ])
          found (finds p l) = on (if is_inside l then Inside else (get_location r z).loc) (edge_start r z k e (is_inside l))
