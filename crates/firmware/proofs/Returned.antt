-- The bytes that are sent of a result read back as the paths that the call returned. Assumes nothing.
use mathlib.Core.Path.{◌≡◌, refl, sym, ◌∙◌, ap, subst}
use mathlib.Core.Bool.{Bool, true, false, ◌||◌}
use mathlib.Core.List.{List, [], ◌∷◌, map}
use Prim.Native.Nat.{ℕ, ◌*◌, ◌≤◌}
use native.Mathlib.Omega.{arith}
use lib.ListN.{length, take, drop, length-map}
use lib.Seq.{take_at}
use lib.Dec.{ltb}
use lib.IntN.{ℤ, pos}
use borrow.Author.Tests.{le-leb, eqb-false}
use Rattle.plane.specs.declared.rect.Rect64.{Rect64}
use Rattle.plane.specs.Basics.{Try, refuse, ok}
use Rattle.plane.specs.Points.{points_of, coordinates_of}
use Rattle.reference.specs.Entry.{Drawing, Outcome, refused, drawn, joined, filled, filled_part}
use Rattle.reference.specs.Exported.{Bytes, bits, words, read_words}
use Rattle.theorems.specs.Demand.{Exactness}
use Rattle.std.specs.Prelude.{Result, Ok, Err}
use Rattle.entry.specs.declared.answer.Counts.{Counts}
use Rattle.entry.specs.declared.answer.Refusal.{Refusal}
use Rattle.entry.specs.Answers.{outcome}
use Rattle.entry.proofs.Sheets.{number_not_zero}
use Rattle.rectclip.specs.Promises.{Returned, ReturnedBy}
use Rattle.rectclip.proofs.Writing.{coordinates_length}
use Rattle.handheld.specs.Drawn.{clipped, handed}
use Rattle.handheld.proofs.Bounded.{always_bounded}
use Rattle.firmware.specs.ReadBack.{ReturnedBytes}
use Rattle.firmware.specs.Sending.{sent, Sendable}
use Rattle.firmware.proofs.Bytes.{words_length}
use Rattle.firmware.proofs.ReadBack.{count_read, lengths_read, reads_back}

-- ---- what a call leaves can be read back
-- few paths and points, and coordinates that 32 bits hold
abbrev Readable : Outcome × List ℤ × List ℕ → Type 0
Readable (refused n, results, numbers) = 0 ≤ n
Readable (drawn paths points turns, results, numbers) = (paths ≤ 257) × (points ≤ 256) × (read_words (words (map bits (take (2 * points) results))) ≡ take (2 * points) results)

module _ (closed : Bool) (R : Rect64) (path results : List ℤ) (numbers : List ℕ) where
  readable : (t : Try Drawing) → clipped closed R path ≡ t → Readable (handed results numbers t)
  readable (refuse n) e = omega arith
  readable (ok d) e =
      let m = always_bounded closed R path d e in
      let cs = coordinates_of (joined d.0) in
      let f : take (2 * length (joined d.0)) (filled cs results) ≡ cs = take_at cs (drop (length cs) results) _ (coordinates_length (joined d.0)) in
      (m.paths, m.points, rw f (reads_back closed R path d e))

-- the filled part of a list that has room for it
part : (l : List ℤ) (n : ℕ) → 2 * n ≤ length l → filled_part l n ≡ take (2 * n) l
unfolding filled_part
part l n h = rw (le-leb (2 * n) (length l) h) refl

-- the leading bytes of a list that was filled
lead : (ns l : List ℕ) (n : ℕ) {l' : List ℕ} → 4 * length ns ≡ n → l' ≡ filled (words ns) l → take n l' ≡ words ns
lead ns l n h e = ap (take n) e ∙ take_at (words ns) (drop (length (words ns)) l) n (words_length ns ∙ h)

-- ---- a result
module _ (closed : Bool) (R : Rect64) (path results : List ℤ) (numbers c l k : List ℕ) {c' l' k' : List ℕ} (paths points turns : ℕ)
    (h : Returned closed R path paths points results numbers) (s : Sendable (drawn paths points turns) results numbers) (t : Readable (drawn paths points turns, results, numbers)) where
  returned_result : c' ≡ filled (words (map bits (take (2 * points) results))) c → l' ≡ filled (words (take paths numbers)) l → k' ≡ filled (words (paths ∷ points ∷ turns ∷ [])) k
      → (bytes : List ℕ) → path ≡ read_words bytes → ReturnedBytes closed R bytes c' l' k'
  returned_result ec el ek bytes p =
      let P = h.paths in
      let cs = coordinates_of (joined P) in
      let f : take (2 * points) results ≡ cs = sym (part results points s.0) ∙ h.point_entries in
      let back : read_words (words (map bits cs)) ≡ cs = rw f at t.2 in
      let few : length (joined P) ≤ 257 = omega (arith, h.point_count, t.1) in
      let a = count_read paths t.0 in
      let b = count_read points (omega (arith, t.1)) in
      record {
        paths = P;
        point_bytes = ap read_words (lead (map bits cs) c (8 * length (joined P)) (omega (arith, length-map cs bits, coordinates_length (joined P))) (rw f at ec)) ∙ back;
        length_bytes = ap read_words (lead (map length P) l (4 * length P) (omega (arith, length-map P length)) (rw h.length_entries at el)) ∙ lengths_read P few;
        count_bytes = ap (λ (x : List ℕ). read_words (take 8 x)) ek ∙ (λ i. a i ∷ b i ∷ []) ∙ (λ i. pos (h.path_count i) ∷ pos (h.point_count i) ∷ []);
        exact = subst (λ (x : List ℤ). Exactness closed R (points_of x) P) p h.exact;
      }

  result_returned : {v : ℕ} → ◌≡◌ {A = Bytes} (v, c', l', k') (sent (drawn paths points turns) results numbers c l k) → v ≡ 0 → (bytes : List ℕ) → path ≡ read_words bytes → ReturnedBytes closed R bytes c' l' k'
  result_returned {v} e z bytes p = go (ltb (length c) (8 * points) || ltb (length l) (4 * paths) || ltb (length k) 12) refl
    where
      go : (b : Bool) → (ltb (length c) (8 * points) || ltb (length l) (4 * paths) || ltb (length k) 12) ≡ b → ReturnedBytes closed R bytes c' l' k'
      go true q = absurd (let y : ◌≡◌ {A = Bytes} (v, c', l', k') (11, c, l, k) = rw q at e in let w : v ≡ 11 = ap (λ (x : Bytes). x.0) y in omega arith)
      go false q =
          let y : ◌≡◌ {A = Bytes} (v, c', l', k') (0, filled (words (map bits (take (2 * points) results))) c, filled (words (take paths numbers)) l, filled (words (paths ∷ points ∷ turns ∷ [])) k) = rw q at e in
          returned_result (ap (λ (x : Bytes). x.1) y) (ap (λ (x : Bytes). x.2) y) (ap (λ (x : Bytes). x.3) y) bytes p

-- ---- an answer; a refusal has no value 0
module _ (closed : Bool) (R : Rect64) (path results0 results : List ℤ) (numbers0 numbers c l k : List ℕ) {c' l' k' : List ℕ} {v : ℕ} where
  pub answer_returned : (r : Result Counts Refusal) → ◌≡◌ {A = Outcome × List ℤ × List ℕ} (outcome r, results, numbers) (handed results0 numbers0 (clipped closed R path)) → Sendable (outcome r) results numbers
      → ReturnedBy closed R path r results numbers → ◌≡◌ {A = Bytes} (v, c', l', k') (sent (outcome r) results numbers c l k)
      → (bytes : List ℕ) → path ≡ read_words bytes → v ≡ 0 → ReturnedBytes closed R bytes c' l' k'
  answer_returned (Ok x) left s h e bytes p z =
      let t = subst Readable (sym left) (readable closed R path results0 numbers0 (clipped closed R path) refl) in
      result_returned closed R path results numbers c l k x.paths x.points x.turns (h x refl) s t e z bytes p
  answer_returned (Err why) left s h e bytes p z = absurd (eqb-false _ 0 (number_not_zero why) (sym (ap (λ (x : Bytes). x.0) e) ∙ z))
