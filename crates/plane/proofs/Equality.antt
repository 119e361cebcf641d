-- What the derived `==` of points and of locations answers, and the equations that it stands for. Assumes nothing.
use Rattle.std.proofs.Common.{◌≡◌, ℤ, arith, ◌&&◌}
use Rattle.std.proofs.lemmas.Int.{ints}
use Rattle.std.specs.Ordering.{int_eq}
use Rattle.integers.specs.Tests.{eq_z}
use Rattle.plane.specs.contracts.point.Point64PartialEq.TheImpl as of_points
use Rattle.plane.specs.contracts.location.LocationPartialEq.TheImpl as of_locations
use Rattle.plane.specs.Locations.{same_location}
use Rattle.plane.specs.Points.{same_point}
use Rattle.plane.specs.declared.location.Location.{Location}
use Rattle.plane.specs.declared.point.Point64.{Point64}

int_eq_is : (a b : ℤ) → int_eq a b ≡ eq_z a b
int_eq_is a b = grind (arith, ints)

pub same_point_is : (p q : Point64) → of_points.ghosts.eq p q ≡ same_point p q
same_point_is p q = λ i. int_eq_is p.x q.x i && int_eq_is p.y q.y i

pub same_location_is : (a b : Location) → of_locations.ghosts.eq a b ≡ same_location a b
same_location_is a b = grind arith
