-- A call whose lists have room for every drawing leaves the drawing in them: the checks before it are those of `clipped`, and no drawing
-- is refused with 11. Assumes nothing.
use Rattle.std.specs.Prelude.{if◌then◌else◌}
use mathlib.Core.Path.{◌≡◌, refl, ◌∙◌, ap}
use mathlib.Core.Bool.{Bool, true, false}
use mathlib.Core.List.{List, map}
use Prim.Native.Nat.{ℕ, ◌/◌, ◌%◌, ◌≤◌}
use native.Mathlib.Omega.{arith}
use lib.ListN.{length, length-map, replicate}
use lib.Dec.{eqb, ltb}
use lib.IntN.{ℤ, pos}
use borrow.Author.Tests.{le-ltb, eqb-true, eq-eqb}
use Rattle.plane.specs.declared.rect.Rect64.{Rect64}
use Rattle.plane.specs.Basics.{Try, refuse, ok}
use Rattle.plane.specs.Points.{points_of, coordinates_of}
use Rattle.reference.specs.Walk.{no_room}
use Rattle.reference.specs.Entry.{Drawing, Outcome, Lent, After, joined, delivered, answered, early_refusal, sheet_refusal, drawing_of}
use Rattle.rectclip.specs.Promises.{lent}
use Rattle.theorems.proofs.SameEntries.{call_is}
use Rattle.rectclip.proofs.Writing.{coordinates_length}
use Rattle.handheld.specs.Called.{called}
use Rattle.handheld.specs.Drawn.{clipped, handed, HandsOver}
use Rattle.handheld.proofs.Bounded.{always_bounded}

-- the answer and the two lists that a result fills
abbrev left : After → Outcome × List ℤ × List ℕ
left a = (a.answer, a.lists.coordinates, a.lists.lengths)

-- ---- a drawing is handed out
module _ (l : Lent) where
  delivers : (d : Drawing) → length (coordinates_of (joined d.0)) ≤ length l.coordinates → length (map length d.0) ≤ length l.lengths → left (delivered l d) ≡ handed l.coordinates l.lengths (ok d)
  unfolding delivered
  delivers d h g = rw (le-ltb (length l.coordinates) (length (coordinates_of (joined d.0))) h, le-ltb (length l.lengths) (length (map length d.0)) g) refl

  -- the lists have room for every drawing that is not refused early
  record Roomy (early : ℕ) (drawing : Try Drawing) : Type 0 where
    pub points : (d : Drawing) → early ≡ 0 → drawing ≡ ok d → length (coordinates_of (joined d.0)) ≤ length l.coordinates
    pub paths : (d : Drawing) → early ≡ 0 → drawing ≡ ok d → length (map length d.0) ≤ length l.lengths

  answers : (early : ℕ) (drawing : Try Drawing) → Roomy early drawing → left (answered l early drawing) ≡ handed l.coordinates l.lengths (if eqb early 0 then drawing else refuse early)
  unfolding answered
  answers early drawing m = go (eqb early 0) refl drawing refl
    where
      go : (b : Bool) → eqb early 0 ≡ b → (t : Try Drawing) → drawing ≡ t → left (answered l early t) ≡ handed l.coordinates l.lengths (if eqb early 0 then t else refuse early)
      go true e (refuse n) f = rw e refl
      go true e (ok d) f = let z = eqb-true early 0 e in rw e (delivers d (m.points d z f) (m.paths d z f))
      go false e (refuse n) f = rw e refl
      go false e (ok d) f = rw e refl

-- ---- the checks
abbrev early : Rect64 → List ℤ → ℕ
early R path = if eqb (length path % 2) 1 then 1 else sheet_refusal 128 R path

early_same : (closed : Bool) (R : Rect64) (path : List ℤ) → length path / 2 ≤ 128 → early_refusal 256 (if closed then 256 else 0) 8208 R path ≡ early R path
unfolding early_refusal sheet_refusal
early_same closed R path short = go closed (le-ltb 4096 (length path / 2) (omega (arith, short))) (le-ltb 128 (length path / 2) short)
  where
    go : (closed : Bool) → ltb 4096 (length path / 2) ≡ false → ltb 128 (length path / 2) ≡ false → early_refusal 256 (if closed then 256 else 0) 8208 R path ≡ early R path
    go true long most = rw (long, most) refl
    go false long most = rw (long, most) refl

-- ---- the call
module _ (closed : Bool) (R : Rect64) (path C : List ℤ) (N : List ℕ) where
  abbrev lists : Lent
  lists = lent C N (replicate 512 (pos 0)) (replicate 8208 0)

  abbrev drawing : Try Drawing
  drawing = drawing_of closed (no_room 256) 256 R (points_of path)

  drawn : (d : Drawing) → early R path ≡ 0 → drawing ≡ ok d → clipped closed R path ≡ ok d
  unfolding clipped
  drawn d z e = rw (eq-eqb (early R path) 0 z) e

  roomy : length C ≡ 512 → length N ≡ 257 → Roomy lists (early R path) drawing
  roomy a b = record {
    points = λ d z e. omega (arith, (always_bounded closed R path d (drawn d z e)).points, coordinates_length (joined d.0));
    paths = λ d z e. omega (arith, (always_bounded closed R path d (drawn d z e)).paths, length-map d.0 length);
  }

  call_hands : length path / 2 ≤ 128 → length C ≡ 512 → length N ≡ 257 → left (called closed R path C N) ≡ handed C N (clipped closed R path)
  unfolding clipped
  call_hands short a b =
      ap left (call_is closed 256 R path lists) ∙ ap (λ (n : ℕ). left (answered lists n drawing)) (early_same closed R path short)
      ∙ answers lists (early R path) drawing (roomy a b)

pub hands_over : HandsOver
hands_over closed R path C N r C' N' short a b k = (λ i. (k.answer i, k.coords i, k.counts i)) ∙ call_hands closed R path C N short a b
