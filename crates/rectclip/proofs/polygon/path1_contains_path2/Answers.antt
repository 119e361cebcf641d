-- `path1_contains_path2` meets its contract. Assumes nothing.
use mathlib.Core.Path.{ap}
use lib.IntN.{ℤ, pos}
use lib.Signed.{le_z}
use Rattle.integers.specs.Tests.{back}
use Rattle.plane.specs.Polygon.{path1_contains_path2}
use Rattle.rectclip.proofs.polygon.path1_contains_path2.Goals as goal

pub returns : goal.returns
unfolding path1_contains_path2
returns c = ap (λ (z : ℤ). le_z z (pos 0)) (back c.contains_from.type_inv c.contains_from.ensures)
