-- The line clipper's drawing by its cases. Assumes nothing.
use mathlib.Core.Path.{◌≡◌, refl}
use mathlib.Core.Bool.{true, false}
use mathlib.Core.List.{List, []}
use Prim.Native.Nat.{ℕ}
use lib.IntN.{ℤ}
use Rattle.plane.specs.declared.rect.Rect64.{Rect64}
use Rattle.plane.specs.Basics.{refuse, ok}
use Rattle.plane.specs.Points.{points_of}
use Rattle.plane.specs.Rectangle.{is_empty, intersects, get_bounds_path}
use Rattle.reference.specs.Walk.{Walk, no_room}
use Rattle.reference.specs.Lines.{walk_open, execute_lines}
use Rattle.rectclip.specs.Pieces.{paths_of}
use Rattle.rectclip.specs.Promises.{line_drawing}

-- ---- the line clipper's drawing, by its cases
module _ (rect : Rect64) (path : List ℤ) (W : ℕ) where
  pub line_empty : is_empty rect ≡ true → line_drawing rect path W ≡ ok ([], 0)
  unfolding execute_lines
  line_empty e = rw e refl

  module _ (e : is_empty rect ≡ false) where
    pub line_missed : intersects rect (get_bounds_path (points_of path)) ≡ false → line_drawing rect path W ≡ ok ([], 0)
    unfolding execute_lines
    line_missed f = rw (e, f) refl

    module _ (f : intersects rect (get_bounds_path (points_of path)) ≡ true) where
      pub line_walked : (w : Walk) → ok w ≡ walk_open (no_room W) rect (points_of path) → line_drawing rect path W ≡ ok (paths_of w, 0)
      unfolding execute_lines
      line_walked w q = rw (e, f, ← q) refl

      pub line_refused : (n : ℕ) → refuse n ≡ walk_open (no_room W) rect (points_of path) → line_drawing rect path W ≡ refuse n
      unfolding execute_lines
      line_refused n q = rw (e, f, ← q) refl
