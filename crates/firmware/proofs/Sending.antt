-- What is sent of an answer: the four ways of a result, and that what a call leaves can be sent and is the end of `exported`. Assumes nothing.
use Rattle.std.specs.Prelude.{if◌then◌else◌}
use mathlib.Core.Path.{◌≡◌, refl, sym, ◌∙◌, ap, subst}
use mathlib.Core.Bool.{◌||◌}
use mathlib.Core.List.{List, [], ◌∷◌, map}
use Prim.Native.Nat.{ℕ, ◌*◌, ◌%◌, ◌<◌, ◌≤◌}
use native.Mathlib.Omega.{arith}
use lib.ListN.{length, take, drop, length-append, length-map}
use lib.Seq.{take_at, length-take-le}
use lib.Dec.{ltb}
use lib.IntN.{ℤ}
use borrow.Author.Tests.{lt-ltb, le-ltb, ne_eqb, eq-eqb}
use Rattle.plane.specs.Basics.{Try, refuse, ok}
use Rattle.plane.specs.Points.{coordinates_of}
use Rattle.reference.specs.Entry.{Drawing, Outcome, drawn, joined, filled}
use Rattle.reference.specs.Exported.{Bytes, bits, words}
use Rattle.rectclip.proofs.Writing.{coordinates_length}
use Rattle.handheld.specs.Drawn.{handed}
use Rattle.firmware.specs.Sending.{path_refusal, sent, Sendable}
use Rattle.firmware.proofs.Bytes.{words_length}

-- ---- a path's bytes
module _ (bytes : List ℕ) where
  pub no_points : (length bytes % 8 ≡ 0 → ⊥) → 1 ≡ path_refusal bytes
  no_points h = rw (ne_eqb (length bytes % 8) 0 h) refl

  pub many_points : length bytes % 8 ≡ 0 → 1024 < length bytes → 5 ≡ path_refusal bytes
  many_points e h = rw (eq-eqb (length bytes % 8) 0 e, lt-ltb 1024 (length bytes) h) refl

  pub few_points : length bytes % 8 ≡ 0 → length bytes ≤ 1024 → 0 ≡ path_refusal bytes
  few_points e h = rw (eq-eqb (length bytes % 8) 0 e, le-ltb 1024 (length bytes) h) refl

-- ---- a result
module _ (paths points turns : ℕ) (results : List ℤ) (numbers c l k : List ℕ) where
  pub coordinates_short : length c < 8 * points → ◌≡◌ {A = Bytes} (11, c, l, k) (sent (drawn paths points turns) results numbers c l k)
  coordinates_short h = rw (lt-ltb (length c) (8 * points) h) refl

  pub lengths_short : 8 * points ≤ length c → length l < 4 * paths → ◌≡◌ {A = Bytes} (11, c, l, k) (sent (drawn paths points turns) results numbers c l k)
  lengths_short g h = rw (le-ltb (length c) (8 * points) g, lt-ltb (length l) (4 * paths) h) refl

  pub counts_short : 8 * points ≤ length c → 4 * paths ≤ length l → length k < 12 → ◌≡◌ {A = Bytes} (11, c, l, k) (sent (drawn paths points turns) results numbers c l k)
  counts_short g f h = rw (le-ltb (length c) (8 * points) g, le-ltb (length l) (4 * paths) f, lt-ltb (length k) 12 h) refl

  pub all_sent : 8 * points ≤ length c → 4 * paths ≤ length l → 12 ≤ length k → {c' l' k' : List ℕ}
      → c' ≡ filled (words (map bits (take (2 * points) results))) c → l' ≡ filled (words (take paths numbers)) l → k' ≡ filled (words (paths ∷ points ∷ turns ∷ [])) k
      → ◌≡◌ {A = Bytes} (0, c', l', k') (sent (drawn paths points turns) results numbers c l k)
  all_sent g f h p q r = rw (le-ltb (length c) (8 * points) g, le-ltb (length l) (4 * paths) f, le-ltb (length k) 12 h) (λ i. (0, p i, q i, r i))

pub part_room : {A : Type 0} (n k : ℕ) (l : List A) → n ≤ length l → {m : ℕ} → k * n ≤ m → k * length (take n l) ≤ m
part_room n k l h {m} g = subst (λ (x : ℕ). k * x ≤ m) (sym (length-take-le n l h)) g

-- ---- what a call with room for every drawing leaves
front : {A : Type 0} (xs l : List A) {n : ℕ} → length xs ≡ n → n ≤ length (filled xs l)
front xs l e = omega (arith, length-append xs (drop (length xs) l))

-- by the answer and the two lists together
abbrev Sends : Outcome × List ℤ × List ℕ → Type 0
Sends x = Sendable x.0 x.1 x.2

abbrev sent_of : List ℕ → List ℕ → List ℕ → Outcome × List ℤ × List ℕ → Bytes
sent_of coordinates lengths counts x = sent x.0 x.1 x.2 coordinates lengths counts

module _ (results : List ℤ) (numbers : List ℕ) where
  sends : (drawing : Try Drawing) → Sends (handed results numbers drawing)
  sends (refuse n) = omega arith
  sends (ok d) = (front (coordinates_of (joined d.0)) results (coordinates_length (joined d.0)), front (map length d.0) numbers (length-map d.0 length))

  pub sendable : (drawing : Try Drawing) {o : Outcome} {results' : List ℤ} {numbers' : List ℕ} → ◌≡◌ {A = Outcome × List ℤ × List ℕ} (o, results', numbers') (handed results numbers drawing) → Sendable o results' numbers'
  sendable drawing e = subst Sends (sym e) (sends drawing)

-- the end of the definition's `exported`
abbrev pub exported_by : Try Drawing → List ℕ → List ℕ → List ℕ → Bytes
exported_by drawing coordinates lengths counts =
    let give : Drawing → Bytes = λ d.
    let c = words (map bits (coordinates_of (joined d.0))) in
    let n = words (map length d.0) in
    let k = words (length d.0 ∷ length (joined d.0) ∷ d.1 ∷ []) in
    if ltb (length coordinates) (length c) || ltb (length lengths) (length n) || ltb (length counts) 12 then (11, coordinates, lengths, counts)
    else (0, filled c coordinates, filled n lengths, filled k counts) in
    elim drawing [ refuse n ↦ (n, coordinates, lengths, counts) | ok d ↦ give d ]

module _ (results : List ℤ) (numbers coordinates lengths counts : List ℕ) where
  sent_drawn : (d : Drawing) → sent_of coordinates lengths counts (handed results numbers (ok d)) ≡ exported_by (ok d) coordinates lengths counts
  sent_drawn d =
      let cs = coordinates_of (joined d.0) in
      let p : 8 * length (joined d.0) ≡ length (words (map bits cs)) = omega (arith, words_length (map bits cs), length-map cs bits, coordinates_length (joined d.0)) in
      let q : 4 * length d.0 ≡ length (words (map length d.0)) = omega (arith, words_length (map length d.0), length-map d.0 length) in
      let r : take (2 * length (joined d.0)) (filled cs results) ≡ cs = take_at cs (drop (length cs) results) _ (coordinates_length (joined d.0)) in
      let s : take (length d.0) (filled (map length d.0) numbers) ≡ map length d.0 = take_at (map length d.0) (drop (length (map length d.0)) numbers) _ (length-map d.0 length) in
      λ i. if ltb (length coordinates) (p i) || ltb (length lengths) (q i) || ltb (length counts) 12 then (11, coordinates, lengths, counts)
      else (0, filled (words (map bits (r i))) coordinates, filled (words (s i)) lengths, filled (words (length d.0 ∷ length (joined d.0) ∷ d.1 ∷ [])) counts)

  sent_handed : (drawing : Try Drawing) → sent_of coordinates lengths counts (handed results numbers drawing) ≡ exported_by drawing coordinates lengths counts
  sent_handed (refuse n) = refl
  sent_handed (ok d) = sent_drawn d

  pub sent_is : (drawing : Try Drawing) {o : Outcome} {results' : List ℤ} {numbers' : List ℕ} → ◌≡◌ {A = Outcome × List ℤ × List ℕ} (o, results', numbers') (handed results numbers drawing)
      → sent o results' numbers' coordinates lengths counts ≡ exported_by drawing coordinates lengths counts
  sent_is drawing e = ap (sent_of coordinates lengths counts) e ∙ sent_handed drawing
