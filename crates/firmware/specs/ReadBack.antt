-- What the bytes of a result read back as: paths that have demand 3; and of every drawing its coordinates, none cut to 32 bits (proved in
-- proofs/ReadBack.antt).
use Rattle.std.specs.Prelude.{◌≡◌, Bool, List, [], ◌∷◌, map, ℕ, ◌*◌, length, take, ℤ, pos}
use Rattle.plane.specs.declared.point.Point64.{Point64}
use Rattle.plane.specs.declared.rect.Rect64.{Rect64}
use Rattle.plane.specs.Basics.{ok}
use Rattle.plane.specs.Points.{points_of, coordinates_of}
use Rattle.reference.specs.Entry.{Drawing, joined}
use Rattle.reference.specs.Exported.{bits, words, read_words}
use Rattle.theorems.specs.Demand.{Exactness}
use Rattle.handheld.specs.Drawn.{clipped}

abbrev pub ReadsBack : Type 0
ReadsBack = (closed : Bool) (R : Rect64) (path : List ℤ) (d : Drawing) → clipped closed R path ≡ ok d → read_words (words (map bits (coordinates_of (joined d.0)))) ≡ coordinates_of (joined d.0)

-- what the leading bytes of the three lists read back as: the coordinates and the lengths of paths that have demand 3, and how many paths
-- and points they are
pub record ReturnedBytes (closed : Bool) (rect : Rect64) (path coordinates lengths counts : List ℕ) : Type 0 where
  pub paths : List (List Point64)
  pub point_bytes : read_words (take (8 * length (joined paths)) coordinates) ≡ coordinates_of (joined paths)
  pub length_bytes : read_words (take (4 * length paths) lengths) ≡ map (λ q. pos (length q)) paths
  pub count_bytes : read_words (take 8 counts) ≡ pos (length paths) ∷ pos (length (joined paths)) ∷ []
  pub exact : Exactness closed rect (points_of (read_words path)) paths
