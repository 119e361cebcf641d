-- The results of a walk one after the other: where each starts and ends, which are returned, and how many points they have. Assumes nothing.
use Rattle.std.specs.Prelude.{if◌then◌else◌}
use mathlib.Core.Path.{◌≡◌, refl, sym, ◌∙◌, ap}
use mathlib.Core.List.{List, [], ◌∷◌, ◌++◌, append_assoc, append-nil}
use Prim.Native.Nat.{ℕ, ◌+◌, ◌-◌, ◌<◌, ◌≤◌}
use native.Mathlib.Omega.{arith}
use native.Mathlib.Numerals.{add-one}
use native.Mathlib.Decide.{ℕ_discrete, dec_lt}
use borrow.Author.Tests.{lt-ltb, le-ltb}
use lib.Dec.{ltb}
use lib.IntN.{ℤ}
use lib.ListN.{length, get_or, take, drop, length-append, length-drop, drop_of_length-le}
use lib.Seq.{drop-cons, take_all, length-take-le}
use Rattle.plane.specs.declared.point.Point64.{Point64}
use Rattle.reference.specs.Lines.{pieces, longer_than_one}
use Rattle.reference.specs.Entry.{joined}
use Rattle.rectclip.specs.declared.walk.WalkState.{WalkState}
use Rattle.rectclip.specs.declared.walk.Walker.{Walker}
use Rattle.rectclip.specs.Memory.{at, column}
use Rattle.rectclip.specs.Walking.{walk_of, Fits}
use Rattle.rectclip.specs.Pieces.{start_of, Tallied}
use Rattle.rectclip.proofs.Columns.{column_length, column_at}
use Rattle.rectclip.proofs.Adding.{walk_length}

-- ---- the definition's results, one by one
-- where result k starts, of n points
abbrev bound : List ℕ → ℕ → ℕ → ℕ
bound S n k = if ltb k (length S) then get_or S k 0 else n

pieces_step : (P : List Point64) (S : List ℕ) (n j : ℕ) → length P ≡ n → j < length S → pieces P (drop j S) ≡ drop (get_or S j 0) (take (bound S n (j + 1)) P) ∷ pieces P (drop (j + 1) S)
unfolding pieces
pieces_step P S n j e h =
    elim (ℕ_discrete (j + 1) (length S)) [
      | yes q ↦
          rw (drop-cons S j 0 h, le-ltb (j + 1) (length S) (omega arith), ← add-one j, drop_of_length-le S {i = j + 1} (omega arith), take_all n P (omega arith)) refl
      | no q ↦
          let r : j + 1 < length S = omega arith in
          rw (drop-cons S j 0 h, lt-ltb (j + 1) (length S) r, ← add-one j, drop-cons S (j + 1) 0 r) refl
    ]

pub piece_length : (P : List Point64) (from to : ℕ) → to ≤ length P → length (drop from (take to P)) ≡ to - from
piece_length P from to h = length-drop from (take to P) ∙ ap (λ (k : ℕ). k - from) (length-take-le to P h)

-- ---- the results up to j: those that are returned, in order
pub record Partly (P : List Point64) (S : List ℕ) (j paths points : ℕ) : Type 0 where
  pub done : List (List Point64)
  pub whole : done ++ longer_than_one (pieces P (drop j S)) ≡ longer_than_one (pieces P S)
  pub counted : paths ≡ length done
  pub summed : points ≡ length (joined done)

unfoldable pub partly_none : (P : List Point64) (S : List ℕ) → Partly P S 0 0 0
partly_none P S = record { done = []; whole = refl; counted = refl; summed = refl }

pub joined_push : (done : List (List Point64)) (p : List Point64) → joined (done ++ p ∷ []) ≡ joined done ++ p
joined_push [] p = append-nil p
joined_push (q ∷ done) p = ap (λ (l : List Point64). q ++ l) (joined_push done p) ∙ sym (append_assoc q (joined done) p)

pub joined_append : (a b : List (List Point64)) → joined (a ++ b) ≡ joined a ++ joined b
joined_append [] b = refl
joined_append (q ∷ a) b = ap (λ (l : List Point64). q ++ l) (joined_append a b) ∙ sym (append_assoc q (joined a) (joined b))

module _ {P : List Point64} {S : List ℕ} {j paths points : ℕ} (D : Partly P S j paths points) where
  pub partly_all : length S ≤ j → D.done ≡ longer_than_one (pieces P S)
  unfolding pieces longer_than_one
  partly_all h = sym (append-nil D.done) ∙ (rw (drop_of_length-le S {i = j} h) at D.whole)

  module _ {n from to : ℕ} (e : length P ≡ n) (h : j < length S) (ef : from ≡ get_or S j 0) (et : to ≡ bound S n (j + 1)) (ht : to ≤ length P) where
    abbrev piece : List Point64
    piece = drop from (take to P)

    here : pieces P (drop j S) ≡ piece ∷ pieces P (drop (j + 1) S)
    here = pieces_step P S n j e h ∙ rw (ef, et) refl

    long : 1 < to - from → longer_than_one (pieces P (drop j S)) ≡ piece ∷ longer_than_one (pieces P (drop (j + 1) S))
    unfolding longer_than_one
    long q = rw (here, piece_length P from to ht, lt-ltb 1 (to - from) q) refl

    pub partly_long : from + 1 < to → (D.done ++ piece ∷ []) ++ longer_than_one (pieces P (drop (j + 1) S)) ≡ longer_than_one (pieces P S)
    partly_long q = append_assoc D.done (piece ∷ []) _ ∙ ap (λ (l : List (List Point64)). D.done ++ l) (sym (long (omega arith))) ∙ D.whole

    pub counted_more : paths + 1 ≡ length (D.done ++ piece ∷ [])
    counted_more = rw (length-append D.done (piece ∷ []), D.counted) refl

    pub summed_more : points + (to - from) ≡ length (joined (D.done ++ piece ∷ []))
    summed_more = rw (joined_push D.done piece, length-append (joined D.done) piece, piece_length P from to ht, D.summed) refl

    unfoldable pub partly_more : from + 1 < to → Partly P S (j + 1) (paths + 1) (points + (to - from))
    partly_more q = record {
      done = D.done ++ piece ∷ [];
      whole = partly_long q;
      counted = counted_more;
      summed = summed_more;
    }

    pub partly_skips : to ≤ from + 1 → D.done ++ longer_than_one (pieces P (drop (j + 1) S)) ≡ longer_than_one (pieces P S)
    unfolding longer_than_one
    partly_skips q = rw (here, piece_length P from to ht, le-ltb 1 (to - from) (omega arith)) at D.whole

    unfoldable pub partly_same : to ≤ from + 1 → Partly P S (j + 1) paths points
    partly_same q = record {
      done = D.done;
      whole = partly_skips q;
      counted = D.counted;
      summed = D.summed;
    }

-- ---- where results start, in the lists
module _ {store : List ℤ} {work : List ℕ} {s : WalkState} (F : Fits store work s) where
  abbrev P : List Point64
  P = (walk_of store work s).points

  abbrev S : List ℕ
  S = (walk_of store work s).starts

  starts_are : S ≡ column 4 s.starts work
  unfolding walk_of
  starts_are = refl

  pub starts_length : length S ≡ s.starts
  starts_length = ap length starts_are ∙ column_length 4 s.starts work

  at_start : (j : ℕ) → j < s.starts → at 4 work j ≡ get_or S j 0
  at_start j h = sym (ap (λ (l : List ℕ). get_or l j 0) starts_are ∙ column_at 4 s.starts work j 0 h)

  pub start_here : {j from : ℕ} → j < s.starts → from ≡ start_of work s j → from ≡ get_or S j 0
  start_here {j} h e = e ∙ rw (lt-ltb j s.starts h) (at_start j h)

  pub start_next : (j : ℕ) {to : ℕ} → to ≡ start_of work s j → to ≡ bound S s.points j
  start_next j {to} e =
      e
      ∙ rw starts_length
      (elim (dec_lt j s.starts) [
        | yes h ↦ rw (lt-ltb j s.starts h) (at_start j h)
        | no q ↦ rw (le-ltb j s.starts (omega arith)) refl
      ])

  pub start_within : (j : ℕ) → start_of work s j ≤ s.points
  start_within j =
      elim (dec_lt j s.starts) [
        | yes h ↦ rw (lt-ltb j s.starts h) (let z = F.begun j h in omega arith)
        | no q ↦ rw (le-ltb j s.starts (omega arith)) (omega arith)
      ]

  pub start_rises : (j : ℕ) → j < s.starts → start_of work s j ≤ start_of work s (j + 1)
  start_rises j h =
      rw (lt-ltb j s.starts h)
      (elim (dec_lt (j + 1) s.starts) [
        | yes q ↦ rw (lt-ltb (j + 1) s.starts q) (F.rising j q)
        | no q ↦ rw (le-ltb (j + 1) s.starts (omega arith)) (let z = F.begun j h in omega arith)
      ])

-- ---- the count
pub record Counting (store : List ℤ) (work : List ℕ) (s : WalkState) (paths points j : ℕ) : Type 0 where
  pub partly : Partly (walk_of store work s).points (walk_of store work s).starts j paths points
  pub here : j ≤ s.starts
  pub few : paths ≤ j
  pub within : points ≤ start_of work s j

unfoldable pub counting_none : (store : List ℤ) (work : List ℕ) (s : WalkState) → Counting store work s 0 0 0
counting_none store work s = record { partly = partly_none _ _; here = omega arith; few = omega arith; within = omega arith }

module _ {store : List ℤ} {work : List ℕ} {s : WalkState} (F : Fits store work s) {paths points j : ℕ} (I : Counting store work s paths points j) where
  module _ (h : j < s.starts) {from to : ℕ} (ef : from ≡ start_of work s j) (et : to ≡ start_of work s (j + 1)) where
    pub in_starts : j < length (walk_of store work s).starts
    in_starts = rw (starts_length F) h

    pub to_in : to ≤ length (walk_of store work s).points
    to_in = rw (walk_length F) (let z = start_within F (j + 1) in omega arith)

    unfoldable pub count_more : from + 1 < to → Counting store work s (paths + 1) (points + (to - from)) (j + 1)
    count_more q = record {
      partly = partly_more I.partly (walk_length F) in_starts (start_here F h ef) (start_next F (j + 1) et) to_in q;
      here = omega arith;
      few = omega (arith, I.few);
      within = let z = start_rises F j h in omega (arith, I.within);
    }

    unfoldable pub count_same : to ≤ from + 1 → Counting store work s paths points (j + 1)
    count_same q = record {
      partly = partly_same I.partly (walk_length F) in_starts (start_here F h ef) (start_next F (j + 1) et) to_in q;
      here = omega arith;
      few = omega (arith, I.few);
      within = let z = start_rises F j h in omega (arith, I.within);
    }

pub count_done : (x : Walker) {paths points j : ℕ} → Counting x.store.now x.work.now x.state paths points j → x.state.starts ≤ j → Tallied x (record { paths = paths; points = points })
count_done x {j = j} I h =
    let e = partly_all I.partly (rw (starts_length x.fits) h) in
    record {
      paths = I.partly.counted ∙ ap length e;
      points = I.partly.summed ∙ ap (λ (l : List (List Point64)). length (joined l)) e;
      few = omega (arith, I.few, I.here);
      within = let z = start_within x.fits j in omega (arith, I.within);
    }
