-- What `survey` promises of a path: its bounds, and whether it is within the coordinate limit; and that its bounds tell both.
use Rattle.std.specs.Prelude.{◌≡◌, List, ◌<◌, length}
use Rattle.plane.specs.Limit.{all_in_limit, rect_in_limit}
use Rattle.plane.specs.Points.{coordinates_of}
use Rattle.plane.specs.Rectangle.{get_bounds_path}
use Rattle.plane.specs.declared.point.Point64.{Point64}
use Rattle.entry.specs.declared.survey.Extent.{Extent}

-- `get_bounds_path` of core.rs, and what document 01's 7 asks: whether every coordinate is within the limit
abbrev pub survey : List Point64 → Extent
survey path = record { bounds = get_bounds_path path; in_limit = all_in_limit (coordinates_of path) }

-- a path that has points is within the limit exactly if its bounds are, so that a loop which keeps the bounds alone decides both
abbrev pub BoundsTellLimit : Type 0
BoundsTellLimit = (path : List Point64) → 0 < length path → rect_in_limit (get_bounds_path path) ≡ all_in_limit (coordinates_of path)
