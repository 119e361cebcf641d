-- The program's lists have room for every answer. A path's line takes at most 26 bytes and 21 for each point, and a drawing has at most 256
-- points and 257 paths: 12,058 bytes. Assumes nothing.
use Rattle.std.specs.Prelude.{if◌then◌else◌}
use mathlib.Core.Path.{◌≡◌, refl}
use mathlib.Core.Bool.{Bool, true, false}
use mathlib.Core.List.{List, [], ◌∷◌, Memᴰ}
use Prim.Native.Nat.{ℕ, ◌+◌, ◌*◌, ◌≤◌}
use native.Mathlib.Omega.{arith}
use lib.ListN.{length, length-append}
use lib.IntN.{ℤ, pos}
use Rattle.plane.specs.Basics.{Try, refuse, ok}
use Rattle.plane.specs.Limit.{rect_in_limit}
use Rattle.plane.specs.declared.point.Point64.{Point64}
use Rattle.plane.specs.declared.rect.Rect64.{Rect64}
use Rattle.reference.specs.Entry.{Drawing, joined}
use Rattle.text.specs.Reading.{unreadable, rectangle, path}
use Rattle.text.specs.Printing.{refusal_line, rectangle_line, path_line, path_lines}
use Rattle.text.proofs.Widths.{Near, line_width, path_width}
use Rattle.handheld.specs.Drawn.{clipped}
use Rattle.handheld.proofs.Bounded.{always_bounded}
use Rattle.program.specs.Answered.{path_answer, FirstFits, AnswerFits}

-- ---- one line
pub refusal_width : (line : ℤ) (n : ℕ) → length (refusal_line line n) ≤ 46
refusal_width line n = omega (arith, line_width 88 (line ∷ pos n ∷ []))

pub rectangle_width : (r : Rect64) → length (rectangle_line r) ≤ 90
rectangle_width r = omega (arith, line_width 82 (r.left ∷ r.top ∷ r.right ∷ r.bottom ∷ []))

pub first_fits : FirstFits
first_fits unreadable = omega (arith, refusal_width (pos 1) 12)
first_fits (path closed zs) = omega (arith, refusal_width (pos 1) 12)
first_fits (rectangle r) = go (rect_in_limit r)
  where
    go : (b : Bool) → length (if b then rectangle_line r else refusal_line (pos 1) 6) ≤ 128
    go true = omega (arith, rectangle_width r)
    go false = omega (arith, refusal_width (pos 1) 6)

-- ---- the lines of a drawing
lines_width : (closed : Bool) (line : ℤ) (paths : List (List Point64)) → ((q : List Point64) → Memᴰ q paths → (p : Point64) → Memᴰ p q → Near p)
    → length (path_lines closed line paths) ≤ 26 * length paths + 21 * length (joined paths)
lines_width closed line [] near = omega arith
lines_width closed line (q ∷ paths) near =
    omega (arith, length-append (path_line closed line q) (path_lines closed line paths), length-append q (joined paths), path_width closed line q (near q (Memᴰ.head refl)), lines_width closed line paths (λ q' i. near q' (Memᴰ.tail i)))

pub drawing_fits : (closed : Bool) (line : ℤ) (R : Rect64) (zs : List ℤ) (d : Drawing) → clipped closed R zs ≡ ok d → length (path_lines closed line d.0) ≤ 12288
drawing_fits closed line R zs d e = let m = always_bounded closed R zs d e in omega (arith, lines_width closed line d.0 m.near, m.points, m.paths)

pub answer_fits : AnswerFits
answer_fits R line unreadable = omega (arith, refusal_width line 12)
answer_fits R line (rectangle r) = omega (arith, refusal_width line 12)
answer_fits R line (path closed zs) = go (clipped closed R zs) refl
  where
    go : (t : Try Drawing) → clipped closed R zs ≡ t → length (path_answer closed line t) ≤ 12288
    go (refuse n) e = omega (arith, refusal_width line n)
    go (ok d) e = drawing_fits closed line R zs d e
