-- `survey` meets its contract. The loop's invariant: the bounds so far, grown by the points that are left, are the path's. Behind it they tell the limit. Assumes nothing.
use mathlib.Core.Path.{◌≡◌}
use lib.ListN.{length}
use Rattle.plane.specs.Points.{points_of}
use Rattle.plane.specs.Rectangle.{bounds_from, get_bounds_path}
use Rattle.entry.proofs.survey.survey.Given as goal

abbrev pub invariant-loop-rest : goal.invariant-loop-rest
invariant-loop-rest l = bounds_from l.bounds (points_of l.rest) ≡ get_bounds_path (points_of l.path)

abbrev pub decreases-loop-rest : goal.decreases-loop-rest
decreases-loop-rest l = length l.rest
