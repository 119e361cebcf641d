-- Lines one behind another in a list of bytes, and the lines of paths taken one by one. Assumes nothing.
use mathlib.Core.Path.{◌≡◌, refl, sym, ◌∙◌, ap, subst}
use mathlib.Core.Bool.{Bool}
use mathlib.Core.List.{List, [], ◌∷◌, ◌++◌, map, append-nil, append_assoc}
use Prim.Native.Nat.{ℕ, suc, ◌+◌, ◌-◌, ◌*◌, ◌<◌, ◌≤◌}
use native.Mathlib.Omega.{arith}
use native.Mathlib.Numerals.{add-one}
use lib.ListN.{length, take, drop, get_or, length-append, length-drop, take-append-drop, drop_of_length-le}
use lib.Seq.{length-take-le, take_all, take_at, drop_at, take-append-add, drop-append-add, take-append_seam, drop-append_seam, drop-drop, drop-cons}
use lib.IntN.{ℤ}
use borrow.Author.Tests.{le-leb}
use Rattle.plane.specs.Points.{coordinates_of}
use Rattle.plane.specs.declared.point.Point64.{Point64}
use Rattle.reference.specs.Entry.{joined, filled}
use Rattle.rectclip.proofs.Writing.{coordinates_length}
use Rattle.text.specs.Printing.{path_line, path_lines}
use Rattle.text.specs.Written.{Written, coordinates_line, points_line}
use Rattle.std.specs.Prelude.{Option, Some, IsSome}
use Rattle.program.specs.Printed.{Gives, Added, Begins, Holds}

-- ---- one line that fits
pub gives_line : {l out : List ℕ} {r : Option ℕ} {n : ℕ} {after : List ℕ} → length l ≤ length out → Written l out r after → r ≡ Some n → Gives l out n after
gives_line {l} {out} {n = n} h w q =
    let e = le-leb (length l) (length out) h in
    let f : Some n ≡ Some (length l) = sym q ∙ (rw e at w.count) in
    record { count = cc; list_after = rw e at w.list_after }

-- and so there is an answer
is_written : {l out : List ℕ} {r : Option ℕ} {after : List ℕ} → length l ≤ length out → Written l out r after → r ≡ Some (length l)
is_written {l} {out} h w = rw (le-leb (length l) (length out) h) at w.count

pub some_written : {l out : List ℕ} {r : Option ℕ} {after : List ℕ} → length l ≤ length out → Written l out r after → IsSome r
some_written h w = rw (is_written h w) refl

-- what is written lies within the list
pub filled_within : (bytes out : List ℕ) {r : ℕ} {after : List ℕ} → r ≡ length bytes → after ≡ filled bytes out → r ≤ length after
filled_within bytes out e f = omega (arith, e, ap length f, length-append bytes (drop (length bytes) out))

pub gives_within : {bytes out : List ℕ} {r : ℕ} {after : List ℕ} → Gives bytes out r after → r ≤ length after
gives_within {bytes} {out} g = filled_within bytes out g.count g.list_after

-- the same by the line's number as it came
pub path_as : (closed : Bool) {x y : ℤ} (zs : List ℤ) {out : List ℕ} {r : Option ℕ} {after : List ℕ} → x ≡ y → Written (coordinates_line closed x zs) out r after → Written (coordinates_line closed y zs) out r after
path_as closed zs {out} {r} {after} e w = subst (λ (z : ℤ). Written (coordinates_line closed z zs) out r after) e w

-- a line in the part of the list behind `end`, and the list as the part comes back to it
pub added : {l : List ℕ} {end : ℕ} {out : List ℕ} {r : Option ℕ} {n : ℕ} {ys : List ℕ} → end + length l ≤ length out → Written l (take (length out - end) (drop end out)) r ys → r ≡ Some n
    → Added l end out (end + n) (take end out ++ (ys ++ drop (length out - end) (drop end out)))
added {l} {end} {out} {r} {n} {ys} h w q =
    let k : length (drop end out) ≡ length out - end = length-drop end out in
    let p : take (length out - end) (drop end out) ≡ drop end out = take_all (length out - end) (drop end out) (omega (arith, k)) in
    let g : Gives l (drop end out) n ys = gives_line (omega (arith, k)) (subst (λ (x : List ℕ). Written l x r ys) p w) q in
    let none : drop (length out - end) (drop end out) ≡ [] = drop_of_length-le (drop end out) {i = length out - end} (omega (arith, k)) in
    record {
      ends = ap (λ (x : ℕ). end + x) g.count;
      list_after = ap (λ (x : List ℕ). take end out ++ x) (ap (λ (x : List ℕ). ys ++ x) none ∙ append-nil ys ∙ g.list_after);
    }

-- ---- one line behind another
-- all bytes: those that are written, and the rest
pub record WrittenTo (all : List ℕ) (out₀ out : List ℕ) (end : ℕ) (rest : List ℕ) : Type 0 where
  pub goal : all ≡ take end out ++ rest
  pub room : end + length rest ≤ length out
  pub same : drop end out ≡ drop end out₀
  pub long : length out ≡ length out₀

written_on : {all out₀ out : List ℕ} {end : ℕ} {l rest : List ℕ} {end' : ℕ} {out' : List ℕ} → WrittenTo all out₀ out end (l ++ rest) → Added l end out end' out' → WrittenTo all out₀ out' end' rest
written_on {all} {out₀} {out} {end} {l} {rest} {end'} {out'} s a =
    let room : end + length l + length rest ≤ length out = omega (arith, s.room, length-append l rest) in
    let front : length (take end out) ≡ end = length-take-le end out (omega (arith, room)) in
    let at : end' ≡ length (take end out) + length l = a.ends ∙ ap (λ (x : ℕ). x + length l) (sym front) in
    let tail : List ℕ = drop (length l) (drop end out) in
    let taken : take end' out' ≡ take end out ++ l =
    (λ i. take (at i) (a.list_after i)) ∙ take-append-add (take end out) (l ++ tail) (length l) ∙ ap (λ (x : List ℕ). take end out ++ x) (take-append_seam l tail) in
    let left : drop end' out' ≡ tail = (λ i. drop (at i) (a.list_after i)) ∙ drop-append-add (take end out) (l ++ tail) (length l) ∙ drop-append_seam l tail in
    let behind : tail ≡ drop end' out₀ = ap (drop (length l)) s.same ∙ drop-drop (length l) end out₀ ∙ ap (λ (x : ℕ). drop x out₀) (sym a.ends) in
    let long : length out' ≡ length out =
    omega (arith, ap length a.list_after, length-append (take end out) (l ++ tail), length-append l tail, length-drop (length l) (drop end out), length-drop end out, front, room) in
    record {
      goal = s.goal ∙ sym (append_assoc (take end out) l rest) ∙ ap (λ (x : List ℕ). x ++ rest) (sym taken);
      room = omega (arith, long, a.ends, room);
      same = left ∙ behind;
      long = long ∙ s.long;
    }

written_end : {all out₀ out : List ℕ} {end : ℕ} → WrittenTo all out₀ out end [] → Gives all out₀ end out
written_end {all} {out₀} {out} {end} s =
    let k : all ≡ take end out = s.goal ∙ append-nil (take end out) in
    let front : length (take end out) ≡ end = length-take-le end out (omega (arith, s.room)) in
    record {
      count = sym front ∙ ap length (sym k);
      list_after = sym (take-append-drop end out) ∙ ap (λ (x : List ℕ). take end out ++ x) s.same ∙ (λ i. sym k i ++ drop (sym (ap length k ∙ front) i) out₀);
    }

-- ---- the paths that the lists hold, one behind another
coordinates_append : (p q : List Point64) → coordinates_of (p ++ q) ≡ coordinates_of p ++ coordinates_of q
coordinates_append [] q = refl
coordinates_append (x ∷ p) q = ap (λ (l : List ℤ). x.x ∷ x.y ∷ l) (coordinates_append p q)

-- so many are written, and the others are still to be
pub record PathsTo (closed : Bool) (line : ℤ) (N out₀ : List ℕ) (all : List (List Point64)) (out : List ℕ) (i : ℕ) (C : List ℤ) (end : ℕ) : Type 0 where
  pub rest : List (List Point64)
  pub points : Begins (coordinates_of (joined rest)) C
  pub counts : drop i N ≡ map length rest
  pub written : WrittenTo (path_lines closed line all) out₀ out end (path_lines closed line rest)

-- the next of them
record Ahead (closed : Bool) (line : ℤ) (N out₀ : List ℕ) (all : List (List Point64)) (out : List ℕ) (i : ℕ) (C : List ℤ) (end : ℕ) : Type 0 where
  pub path : List Point64
  pub more : List (List Point64)
  pub points : Begins (coordinates_of path ++ coordinates_of (joined more)) C
  pub counts : drop i N ≡ length path ∷ map length more
  pub written : WrittenTo (path_lines closed line all) out₀ out end (path_line closed line path ++ path_lines closed line more)

module _ {closed : Bool} {line : ℤ} {N out₀ : List ℕ} {all : List (List Point64)} where
  pub paths_start : {C : List ℤ} → Holds closed line C N out₀ all → PathsTo closed line N out₀ all out₀ 0 C 0
  paths_start h = record {
    rest = all;
    points = h.points;
    counts = h.counts;
    written = record { goal = refl; room = omega (arith, h.room); same = refl; long = refl };
  }

  module _ {out : List ℕ} {i : ℕ} {C : List ℤ} {end : ℕ} (s : PathsTo closed line N out₀ all out i C end) where
    module _ (h : i < length N) where
      ahead : Ahead closed line N out₀ all out i C end
      ahead = go s.rest s.points s.counts s.written
        where
          go : (rest : List (List Point64)) → Begins (coordinates_of (joined rest)) C → drop i N ≡ map length rest
              → WrittenTo (path_lines closed line all) out₀ out end (path_lines closed line rest) → Ahead closed line N out₀ all out i C end
          go [] b c w = absurd (omega (arith, ap length c, length-drop i N))
          go (p ∷ ps) b c w = record {
            path = p;
            more = ps;
            points = record { others = b.others; is = b.is ∙ ap (λ (l : List ℤ). l ++ b.others) (coordinates_append p (joined ps)) };
            counts = c;
            written = w;
          }

      entries : get_or N i 0 ∷ drop (suc i) N ≡ length ahead.path ∷ map length ahead.more
      entries = sym (drop-cons N i 0 h) ∙ ahead.counts

      length_here : get_or N i 0 ≡ length ahead.path
      length_here = let e = entries in cc

      -- its coordinates are the first
      size_here : length (coordinates_of ahead.path) ≡ 2 * get_or N i 0
      size_here = omega (arith, coordinates_length ahead.path, length_here)

      behind : List ℤ
      behind = coordinates_of (joined ahead.more) ++ ahead.points.others

      split : C ≡ coordinates_of ahead.path ++ behind
      unfolding behind
      split = ahead.points.is ∙ append_assoc (coordinates_of ahead.path) (coordinates_of (joined ahead.more)) ahead.points.others

      pub part_here : 2 * get_or N i 0 ≤ length C
      part_here = omega (arith, ap length split, length-append (coordinates_of ahead.path) behind, size_here)

      module _ {part others : List ℤ} (e : part ≡ take (2 * get_or N i 0) C) (f : others ≡ drop (2 * get_or N i 0) C) where
        part_is : part ≡ coordinates_of ahead.path
        part_is = e ∙ ap (take (2 * get_or N i 0)) split ∙ take_at (coordinates_of ahead.path) behind (2 * get_or N i 0) size_here

        line_is : coordinates_line closed line part ≡ path_line closed line ahead.path
        line_is = ap (coordinates_line closed line) part_is ∙ points_line closed line ahead.path

        pub line_room : end + length (coordinates_line closed line part) ≤ length out
        line_room = omega (arith, ap length line_is, length-append (path_line closed line ahead.path) (path_lines closed line ahead.more), ahead.written.room)

        pub paths_again : {end' : ℕ} {out' : List ℕ} → Added (coordinates_line closed line part) end out end' out' → PathsTo closed line N out₀ all out' (i + 1) others end'
        unfolding behind
        paths_again {end'} {out'} a = record {
          rest = ahead.more;
          points = record { others = ahead.points.others; is = f ∙ ap (drop (2 * get_or N i 0)) split ∙ drop_at (coordinates_of ahead.path) behind (2 * get_or N i 0) size_here };
          counts = ap (λ (k : ℕ). drop k N) (add-one i) ∙ (let e = entries in cc);
          written = written_on ahead.written (subst (λ (l : List ℕ). Added l end out end' out') line_is a);
        }

    pub paths_end : length N ≤ i → Gives (path_lines closed line all) out₀ end out
    paths_end h = written_end (subst (λ (ps : List (List Point64)). WrittenTo (path_lines closed line all) out₀ out end (path_lines closed line ps)) (none s.rest (sym s.counts ∙ drop_of_length-le N {i = i} h)) s.written)
      where
        none : (ps : List (List Point64)) → map length ps ≡ [] → ps ≡ []
        none [] h = refl
        none (p ∷ ps) h = absurd (omega (arith, ap length h))

    pub paths_long : length out ≡ length out₀
    paths_long = s.written.long
