-- Demand 3 of what the clip program prints for a path: bytes that do not begin with X, as every refusal does, are the lines of paths that have it.
use Rattle.std.specs.Prelude.{◌≡◌, Bool, false, List, [], ◌∷◌, ℕ, take, eqb, ℤ}
use Rattle.plane.specs.Points.{points_of}
use Rattle.plane.specs.declared.point.Point64.{Point64}
use Rattle.plane.specs.declared.rect.Rect64.{Rect64}
use Rattle.theorems.specs.Demand.{Exactness}
use Rattle.text.specs.Reading.{Request, path}
use Rattle.text.specs.Printing.{path_lines}

-- 'A refusal prints X,line,number'
abbrev pub is_refusal : List ℕ → Bool
is_refusal [] = false
is_refusal (b ∷ bs) = eqb b 88

-- the lines of paths that have demand 3; no bytes are those of no paths
pub record ExactLines (closed : Bool) (rect : Rect64) (line : ℤ) (zs : List ℤ) (bytes : List ℕ) : Type 0 where
  pub paths : List (List Point64)
  pub are_lines : bytes ≡ path_lines closed line paths
  pub exact : Exactness closed rect (points_of zs) paths

-- of what is printed for a path of these coordinates
abbrev pub ExactUnlessRefused : Bool → Rect64 → ℤ → List ℤ → List ℕ → Type 0
ExactUnlessRefused closed rect line zs bytes = is_refusal bytes ≡ false → ExactLines closed rect line zs bytes

-- of what is printed for a request, where it is for a path: the first r bytes of a list
abbrev pub PrintsExact : Rect64 → ℤ → Request → ℕ → List ℕ → Type 0
PrintsExact rect line asked r out = (closed : Bool) (zs : List ℤ) → asked ≡ path closed zs → ExactUnlessRefused closed rect line zs (take r out)
