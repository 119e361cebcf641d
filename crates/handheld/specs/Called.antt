-- A call with document 01's 'W = A = 256': a store of 512 numbers and a work list of 16 × (256 + 256 + 1). Lines have A = 0.
use Rattle.std.specs.Prelude.{Bool, List, ℕ, ℤ, pos, replicate}
use Rattle.plane.specs.declared.rect.Rect64.{Rect64}
use Rattle.reference.specs.Entry.{After, clip_path}
use Rattle.rectclip.specs.Promises.{lent}

abbrev pub called : Bool → Rect64 → List ℤ → List ℤ → List ℕ → After
called closed rect path coordinates lengths = clip_path closed 256 rect path (lent coordinates lengths (replicate 512 (pos 0)) (replicate 8208 0))
