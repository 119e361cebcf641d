-- What is handed out: what the polygon clipper left, the path as it came, or the line clipper's paths. Assumes nothing.
use mathlib.Core.Path.{◌≡◌, refl, sym, ◌∙◌}
use mathlib.Core.List.{List, [], ◌∷◌}
use Prim.Native.Nat.{◌/◌, ◌<◌}
use native.Mathlib.Omega.{arith}
use lib.IntN.{ℤ}
use lib.ListN.{length}
use Rattle.plane.specs.declared.point.Point64.{Point64}
use Rattle.plane.specs.Basics.{upwards, ok}
use Rattle.plane.specs.Points.{points_of}
use Rattle.reference.specs.Entry.{joined}
use Rattle.std.specs.Prelude.{Ok, Err}
use Rattle.entry.specs.declared.answer.Refusal.{Refusal}
use Rattle.entry.specs.declared.answer.Counts.{Counts}
use Rattle.rectclip.specs.declared.arena.Arena as lent
use Rattle.rectclip.specs.declared.clipping.Clipped.{Clipped}
use Rattle.rectclip.specs.declared.paths.Tally.{Tally}
use Rattle.rectclip.specs.declared.output.Output.{Output}
use Rattle.rectclip.specs.declared.walk.Walker.{Walker}
use Rattle.rectclip.specs.Changes.{pts_of}
use Rattle.rectclip.specs.Outputs.{Takes, Written, Puts}
use Rattle.rectclip.specs.Paths.{paths_at}
use Rattle.rectclip.specs.Pieces.{Tallied}
use Rattle.rectclip.specs.Delivering.{Gives, rings_left, drawing_left, Roomy, Short, Readable, Copyable}
use Rattle.rectclip.proofs.Counting.{points_count, paths_count}
use Rattle.rectclip.proofs.Writing.{alone_length}
use Rattle.rectclip.proofs.Delivering.{gives_short, takes, gives_all}

-- ---- what the polygon clipper left
module _ {m : lent.Arena} {c : Clipped} (R : Readable m c) where
  abbrev paths : List (List Point64)
  paths = paths_at m (upwards 0 m.sizes.results)

  paths_are : c.counts.paths ≡ length paths
  paths_are = R.counts.paths ∙ paths_count (pts_of m) (rings_left m)

  points_are : c.counts.points ≡ length (joined paths)
  points_are = R.counts.points ∙ points_count (pts_of m) (rings_left m)

  module _ {x : Output} where
    pub left_short : {why : Refusal} → Short c.counts x why → Gives (drawing_left m c) x (Err why) x
    unfolding drawing_left
    left_short S = gives_short paths c.turns paths_are points_are S

    module _ {a : Counts} (H : Roomy c.counts c.turns x a) where
      pub may_read : Takes x paths
      may_read = takes paths c.turns paths_are points_are H

      pub read_all : {y : Output} → Written x y paths → Gives (drawing_left m c) x (Ok a) y
      unfolding drawing_left
      read_all W = gives_all paths c.turns paths_are points_are H W

-- ---- the path as it came
module _ (path : List ℤ) where
  abbrev one : Tally
  one = record { paths = 1; points = length path / 2 }

  whole_points : length path / 2 ≡ length (joined (points_of path ∷ []))
  whole_points = sym (alone_length path)

  module _ {x : Output} where
    pub copy_short : {why : Refusal} → Short one x why → Gives (ok (points_of path ∷ [], 0)) x (Err why) x
    copy_short S = gives_short (points_of path ∷ []) 0 refl whole_points S

    module _ {a : Counts} (H : Roomy one 0 x a) where
      pub may_copy : Copyable path → Puts x path
      may_copy C = record { even = C.even; few = omega (arith, C.few); takes = takes (points_of path ∷ []) 0 refl whole_points H }

      pub copied_all : {y : Output} → Written x y (points_of path ∷ []) → Gives (ok (points_of path ∷ [], 0)) x (Ok a) y
      copied_all W = gives_all (points_of path ∷ []) 0 refl whole_points H W

-- ---- few pieces
pub counts_fit : (w : Walker) {t : Tally} → Tallied w t → (t.paths < 4294967296) × (t.points < 4294967296)
counts_fit w T = (omega (arith, T.few, w.fits.starts, w.fits.points, w.fits.few), omega (arith, T.within, w.fits.points, w.fits.few))
