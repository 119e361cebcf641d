-- The filled part, as the code tests it: half the list's length against the number of points. Assumes nothing.
use mathlib.Core.Path.{◌≡◌, refl}
use mathlib.Core.List.{List}
use Prim.Native.Nat.{ℕ, ◌*◌, ◌/◌, ◌<◌, ◌≤◌}
use native.Mathlib.Omega.{arith}
use borrow.Author.Tests.{le-leb, lt-leb}
use lib.IntN.{ℤ}
use lib.ListN.{length, take}
use Rattle.reference.specs.Entry.{filled_part}

pub part_held : (coordinates : List ℤ) (points : ℕ) → points ≤ length coordinates / 2 → take (2 * points) coordinates ≡ filled_part coordinates points
unfolding filled_part
part_held coordinates points h = rw (le-leb (2 * points) (length coordinates) (omega arith)) refl

pub part_none : (coordinates : List ℤ) (points : ℕ) → length coordinates / 2 < points → take 0 coordinates ≡ filled_part coordinates points
unfolding filled_part
part_none coordinates points h = rw (lt-leb (2 * points) (length coordinates) (omega arith)) refl
