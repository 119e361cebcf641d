-- What a search finds, as the definition has it.
use Rattle.plane.specs.declared.crossing.SidePoint.{SidePoint}
use Rattle.rectclip.specs.declared.boundary.BoundaryPoint.{BoundaryPoint}

abbrev pub side_point : BoundaryPoint → SidePoint
side_point found = record { point = found.point; side = found.side }
