-- What either clipper promises is promised of the handheld's call of that kind. Assumes nothing.
use mathlib.Core.Bool.{Bool}
use mathlib.Core.List.{List}
use Prim.Native.Nat.{ℕ}
use lib.IntN.{ℤ, pos}
use lib.ListN.{replicate}
use Rattle.plane.specs.declared.rect.Rect64.{Rect64}
use Rattle.reference.specs.Entry.{Lent}
use Rattle.std.specs.Prelude.{Result}
use Rattle.entry.specs.declared.answer.Counts.{Counts}
use Rattle.entry.specs.declared.answer.Refusal.{Refusal}
use Rattle.rectclip.specs.Promises.{lent, Leaves, ClipsPath}
use Rattle.handheld.specs.Called.{called}

abbrev lists : List ℤ → List ℕ → Lent
lists C N = lent C N (replicate 512 (pos 0)) (replicate 8208 0)

pub promised : {closed : Bool} {R : Rect64} (path C : List ℤ) (N : List ℕ) {r : Result Counts Refusal} (after : Lent) → ClipsPath closed 256 R path (lists C N) r after → Leaves (called closed R path C N) r after.coordinates after.lengths
promised path C N after k = record { answer = k.clips.answer; coords = k.clips.coordinates; counts = k.clips.lengths }
