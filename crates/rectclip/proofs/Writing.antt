-- Paths written to the caller's lists, one behind the other, and lists written from their start. Assumes nothing.
use mathlib.Core.Path.{◌≡◌, refl, sym, ◌∙◌, ap}
use mathlib.Core.List.{List, [], ◌∷◌, ◌++◌, map, append-nil}
use Prim.Native.Nat.{ℕ, suc, ◌+◌, ◌*◌, ◌/◌, ◌-◌, ◌<◌, ◌≤◌}
use native.Mathlib.Omega.{arith}
use native.Mathlib.Numerals.{add-one}
use lib.IntN.{ℤ}
use lib.ListN.{length, drop, take, set, length-append, length-drop, length-map}
use lib.Seq.{sets, sets-eq, length-sets, take-suc, take_all, length-take-le}
use Rattle.plane.specs.declared.point.Point64.{Point64}
use Rattle.plane.specs.Points.{origin, pt_at, points_of, coordinates_of}
use Rattle.reference.specs.Entry.{joined, filled}
use Rattle.rectclip.specs.declared.output.Output.{Output}
use Rattle.rectclip.specs.Memory.{put_point}
use Rattle.rectclip.specs.Outputs.{Takes, SameLists, Written, Pointed, Ended, Puts}
use Rattle.rectclip.proofs.Coordinates.{points_length}
use Rattle.rectclip.proofs.Results.{joined_append}

-- ---- lists
sets_append : {A : Type 0} (c : List A) (k : ℕ) (xs ys : List A) → sets c k (xs ++ ys) ≡ sets (sets c k xs) (k + length xs) ys
sets_append c k [] ys = ap (λ (i : ℕ). sets c i ys) (omega arith)
sets_append c k (x ∷ xs) ys = sets_append (set c k x) (suc k) xs ys ∙ ap (λ (i : ℕ). sets (sets (set c k x) (suc k) xs) i ys) (omega arith)

pub map_join : {A B : Type 0} (f : A → B) (xs ys : List A) → map f (xs ++ ys) ≡ map f xs ++ map f ys
map_join f [] ys = refl
map_join f (x ∷ xs) ys = ap (λ l. f x ∷ l) (map_join f xs ys)

coordinates_join : (P Q : List Point64) → coordinates_of (P ++ Q) ≡ coordinates_of P ++ coordinates_of Q
coordinates_join [] Q = refl
coordinates_join (p ∷ P) Q = ap (λ (l : List ℤ). p.x ∷ p.y ∷ l) (coordinates_join P Q)

pub coordinates_length : (Q : List Point64) → length (coordinates_of Q) ≡ 2 * length Q
coordinates_length [] = refl
coordinates_length (q ∷ Q) = ap (λ (n : ℕ). suc (suc n)) (coordinates_length Q) ∙ omega arith

pub filled_length : {A : Type 0} (new old : List A) → length (filled new old) ≡ length new + (length old - length new)
filled_length new old = length-append new (drop (length new) old) ∙ ap (λ (n : ℕ). length new + n) (length-drop (length new) old)

-- a list written from its start has those entries in front
pub sets_filled : {A : Type 0} (c v : List A) → length v ≤ length c → sets c 0 v ≡ filled v c
sets_filled c v h = let e : 0 + length v ≡ length v = omega arith in sets-eq v c 0 (omega arith) ∙ ap (λ (k : ℕ). v ++ drop k c) e

-- ---- one path after the other
pub same_lists : (x : Output) → SameLists x x
same_lists x = record { coordinates = refl; lengths = refl }

pub same_lists_then : {x y z : Output} → SameLists x y → SameLists y z → SameLists x z
same_lists_then S T = record { coordinates = T.coordinates ∙ S.coordinates; lengths = T.lengths ∙ S.lengths }

pub written_none : (x : Output) → Written x x []
written_none x = record { coordinates = refl; lengths = refl; points = omega arith; paths = omega arith; same = same_lists x }

pub joined_length : (ps qs : List (List Point64)) → length (joined (ps ++ qs)) ≡ length (joined ps) + length (joined qs)
joined_length ps qs = ap length (joined_append ps qs) ∙ length-append (joined ps) (joined qs)

pub takes_front : {x : Output} {ps : List (List Point64)} (qs : List (List Point64)) → Takes x (ps ++ qs) → Takes x ps
takes_front {ps = ps} qs T = record { points = omega (arith, T.points, joined_length ps qs); paths = omega (arith, T.paths, length-append ps qs) }

module _ {x y : Output} {ps : List (List Point64)} (W : Written x y ps) where
  pub takes_behind : {qs : List (List Point64)} → Takes x (ps ++ qs) → Takes y qs
  takes_behind {qs} T = record {
    points = omega (arith, T.points, joined_length ps qs, W.points, ap length W.coordinates ∙ length-sets x.coordinates.now (2 * x.points) (coordinates_of (joined ps)));
    paths = omega (arith, T.paths, length-append ps qs, W.paths, ap length W.lengths ∙ length-sets x.lengths.now x.paths (map length ps));
  }

  pub written_then : {z : Output} {qs : List (List Point64)} → Written y z qs → Written x z (ps ++ qs)
  written_then {z} {qs} V =
      let next : 2 * y.points ≡ 2 * x.points + length (coordinates_of (joined ps)) = omega (arith, W.points, coordinates_length (joined ps)) in
      let after : y.paths ≡ x.paths + length (map (length {A = Point64}) ps) = omega (arith, W.paths, length-map ps (length {A = Point64})) in
      record {
        coordinates = V.coordinates ∙ (λ j. sets (W.coordinates j) (next j) (coordinates_of (joined qs)))
            ∙ sym (sets_append x.coordinates.now (2 * x.points) (coordinates_of (joined ps)) (coordinates_of (joined qs)))
            ∙ ap (sets x.coordinates.now (2 * x.points)) (sym (coordinates_join (joined ps) (joined qs)) ∙ ap coordinates_of (sym (joined_append ps qs)));
        lengths = V.lengths ∙ (λ j. sets (W.lengths j) (after j) (map length qs)) ∙ sym (sets_append x.lengths.now x.paths (map length ps) (map length qs))
            ∙ ap (sets x.lengths.now x.paths) (sym (map_join length ps qs));
        points = omega (arith, V.points, W.points, joined_length ps qs);
        paths = omega (arith, V.paths, W.paths, length-append ps qs);
        same = same_lists_then W.same V.same;
      }

-- ---- points of a path, and its end
pub point_put : (c : List ℤ) (i : ℕ) (p : Point64) → put_point c i p ≡ sets c (2 * i) (p.x ∷ p.y ∷ [])
unfolding put_point
point_put c i p =
    let a : 2 * i + 1 ≡ suc (2 * i) = omega arith in
    λ j. set (set c (2 * i) p.x) (a j) p.y

module _ {x y : Output} {ps : List Point64} (W : Pointed x y ps) where
  pub pointed_length : length y.coordinates.now ≡ length x.coordinates.now
  pointed_length = ap length W.coordinates ∙ length-sets x.coordinates.now (2 * x.points) (coordinates_of ps)

  pub pointed_then : {z : Output} {qs : List Point64} → Pointed y z qs → Pointed x z (ps ++ qs)
  pointed_then {z} {qs} V =
      let next : 2 * y.points ≡ 2 * x.points + length (coordinates_of ps) = omega (arith, W.points, coordinates_length ps) in
      record {
        coordinates = V.coordinates ∙ (λ j. sets (W.coordinates j) (next j) (coordinates_of qs)) ∙ sym (sets_append x.coordinates.now (2 * x.points) (coordinates_of ps) (coordinates_of qs))
            ∙ ap (sets x.coordinates.now (2 * x.points)) (sym (coordinates_join ps qs));
        points = omega (arith, V.points, W.points, length-append ps qs);
        lengths = V.lengths ∙ W.lengths;
        paths = V.paths ∙ W.paths;
        same = same_lists_then W.same V.same;
      }

  pub path_written : {z : Output} {n : ℕ} → n ≡ length ps → Ended y z n → Written x z (ps ∷ [])
  path_written e E = record {
    coordinates = E.coordinates ∙ W.coordinates ∙ ap (λ (P : List Point64). sets x.coordinates.now (2 * x.points) (coordinates_of P)) (sym (append-nil ps));
    lengths = E.lengths ∙ (λ j. set (W.lengths j) (W.paths j) (e j));
    points = E.points ∙ W.points ∙ ap (λ (P : List Point64). x.points + length P) (sym (append-nil ps));
    paths = omega (arith, E.paths, W.paths);
    same = same_lists_then W.same E.same;
  }

-- a list of coordinates that is put there whole
pub alone_length : (path : List ℤ) → length (joined (points_of path ∷ [])) ≡ length path / 2
alone_length path = ap length (append-nil (points_of path)) ∙ points_length path

module _ {x : Output} {path : List ℤ} (P : Puts x path) where
  abbrev Q : List Point64
  Q = points_of path

  module _ {y : Output} {i : ℕ} (W : Pointed x y (take i Q)) where
    module _ (h : i < length path / 2) where
      within : i < length Q
      within = rw (points_length path) h

      pub path_room : 2 * y.points + 1 < length y.coordinates.now
      path_room = omega (arith, W.points, pointed_length W, length-take-le i Q (omega (arith, within)), P.takes.points, alone_length path, h)

      pub path_more : {z : Output} {p : Point64} → p ≡ pt_at Q i → Pointed y z (p ∷ []) → Pointed x z (take (i + 1) Q)
      path_more e V = rw (add-one i, take-suc Q i origin within) (pointed_then W (rw e at V))

    pub path_whole : length path / 2 ≤ i → {z : Output} → Ended y z (length path / 2) → Written x z (Q ∷ [])
    path_whole h E = path_written (rw (take_all i Q (rw (points_length path) h)) at W) (sym (points_length path)) E
