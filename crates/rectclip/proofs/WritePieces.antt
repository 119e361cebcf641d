-- The line clipper's paths counted, and written to the caller's lists, result by result. Assumes nothing.
use mathlib.Core.Path.{◌≡◌, refl, sym, ◌∙◌, ap}
use mathlib.Core.List.{List, [], ◌∷◌, ◌++◌}
use Prim.Native.Nat.{ℕ, zero, suc, ◌+◌, ◌-◌, ◌*◌, ◌/◌, ◌<◌, ◌≤◌}
use native.Mathlib.Omega.{arith}
use lib.IntN.{ℤ}
use lib.ListN.{length, take, drop, length-drop}
use lib.Seq.{take-take, length-take-le}
use Rattle.std.proofs.lemmas.Slice.{between_is}
use Rattle.std.specs.List.{between}
use Rattle.plane.specs.Points.{points_of}
use Rattle.reference.specs.Lines.{pieces, longer_than_one}
use Rattle.rectclip.specs.declared.walk.Walker.{Walker}
use Rattle.rectclip.specs.declared.output.Output.{Output}
use Rattle.rectclip.specs.Steps.{walk}
use Rattle.rectclip.specs.Pieces.{paths_of, start_of, piece}
use Rattle.rectclip.specs.Outputs.{Takes, Written, Puts}
use Rattle.rectclip.proofs.Coordinates.{points_take}
use Rattle.rectclip.proofs.Adding.{walk_points, walk_length}
use Rattle.rectclip.proofs.Results.{Counting, counting_none, partly_all, partly_long, starts_length, start_here, start_next, start_within, start_rises, count_more, count_same, partly_none, partly_more, partly_same}
use Rattle.rectclip.proofs.Writing.{written_none, takes_front, takes_behind, written_then}

-- ---- a part of a list of coordinates
points_drop : (n : ℕ) (l : List ℤ) → points_of (drop (2 * n) l) ≡ drop n (points_of l)
points_drop zero l = refl
points_drop (suc n) [] = let a : 2 * suc n ≡ suc (suc (2 * n)) = omega arith in rw a refl
points_drop (suc n) (x ∷ []) = let a : 2 * suc n ≡ suc (suc (2 * n)) = omega arith in rw a refl
points_drop (suc n) (x ∷ y ∷ l) = let a : 2 * suc n ≡ suc (suc (2 * n)) = omega arith in rw a (points_drop n l)

points_between : (from to : ℕ) (l : List ℤ) → points_of (between (2 * from) (2 * to) l) ≡ drop from (take to (points_of l))
points_between from to l = ap points_of (between_is l (2 * from) (2 * to)) ∙ points_drop from (take (2 * to) l) ∙ ap (drop from) (points_take to l)

between_length : (from to : ℕ) (l : List ℤ) → 2 * to ≤ length l → length (between (2 * from) (2 * to) l) ≡ 2 * (to - from)
between_length from to l h = ap length (between_is l (2 * from) (2 * to)) ∙ length-drop (2 * from) (take (2 * to) l) ∙ ap (λ (n : ℕ). n - 2 * from) (length-take-le (2 * to) l h) ∙ omega arith

-- ---- result j
module _ (w : Walker) {j : ℕ} (h : j < w.state.starts) where
  abbrev from : ℕ
  from = start_of w.work.now w.state j

  abbrev to : ℕ
  to = start_of w.work.now w.state (j + 1)

  -- what its slice needs
  in_store : (2 * from ≤ 2 * to) × (2 * to ≤ length w.store.now)
  in_store =
      let z = start_rises w.fits j h in
      let y = start_within w.fits (j + 1) in
      (omega arith, omega (arith, w.fits.points))

  piece_length : length (piece w j) ≡ 2 * (to - from)
  piece_length = between_length from to w.store.now in_store.1

  piece_is : points_of (piece w j) ≡ drop from (take to (walk w).points)
  piece_is = points_between from to w.store.now ∙ ap (drop from) (rw (walk_points w.fits) (sym (take-take to w.state.points (points_of w.store.now) (start_within w.fits (j + 1)))))

  module _ {paths points : ℕ} (I : Counting w.store.now w.work.now w.state paths points j) where
    module _ {l : List ℤ} (e : l ≡ piece w j) where
      pub count_long : 1 < length l / 2 → Counting w.store.now w.work.now w.state (paths + 1) (points + length l / 2) (j + 1)
      count_long q =
          let n : length l / 2 ≡ to - from = omega (arith, ap length e, piece_length) in
          rw n (count_more w.fits I h refl refl (omega (arith, ap length e, piece_length)))

      pub count_short : length l / 2 ≤ 1 → Counting w.store.now w.work.now w.state paths points (j + 1)
      count_short q = count_same w.fits I h refl refl (omega (arith, ap length e, piece_length, in_store.0))

-- ---- the results up to j are written
pub record Writing (w : Walker) (x y : Output) (j : ℕ) : Type 0 where
  pub paths : ℕ
  pub points : ℕ
  pub counting : Counting w.store.now w.work.now w.state paths points j
  pub written : Written x y counting.partly.done

pub writing_none : (w : Walker) (x : Output) → Writing w x x 0
unfolding counting_none partly_none
writing_none w x = record { paths = 0; points = 0; counting = counting_none w.store.now w.work.now w.state; written = written_none x }

module _ (w : Walker) {x y : Output} {j : ℕ} (I : Writing w x y j) where
  module _ (h : j < w.state.starts) where
    pub writing_same : length (piece w j) ≤ 2 → Writing w x y (j + 1)
    unfolding count_same partly_same
    writing_same q = record {
      paths = I.paths;
      points = I.points;
      counting = count_same w.fits I.counting h refl refl (omega (arith, piece_length w h, (in_store w h).0));
      written = I.written;
    }

    module _ (long : 2 < length (piece w j)) where
      q : from w h + 1 < to w h
      q = omega (arith, piece_length w h)

      all : (I.counting.partly.done ++ points_of (piece w j) ∷ []) ++ longer_than_one (pieces (walk w).points (drop (j + 1) (walk w).starts)) ≡ paths_of (walk w)
      all = rw (piece_is w h)
          (partly_long I.counting.partly (walk_length w.fits) (rw (starts_length w.fits) h) (start_here w.fits h refl) (start_next w.fits (j + 1) refl) (rw (walk_length w.fits) (start_within w.fits (j + 1))) q)

      pub writing_puts : Takes x (paths_of (walk w)) → Puts y (piece w j)
      writing_puts T = record {
        even = omega (arith, piece_length w h);
        few = let z = start_within w.fits (j + 1) in omega (arith, piece_length w h, w.fits.points, w.fits.few);
        takes = takes_behind I.written (takes_front (longer_than_one (pieces (walk w).points (drop (j + 1) (walk w).starts))) (rw (← all) at T));
      }

      pub writing_more : {z : Output} → Written y z (points_of (piece w j) ∷ []) → Writing w x z (j + 1)
      unfolding count_more partly_more
      writing_more W = record {
        paths = I.paths + 1;
        points = I.points + (to w h - from w h);
        counting = count_more w.fits I.counting h refl refl q;
        written = written_then I.written (rw (piece_is w h) at W);
      }

  pub writing_done : w.state.starts ≤ j → Written x y (paths_of (walk w))
  writing_done h = rw (← partly_all I.counting.partly (rw (starts_length w.fits) h)) I.written
