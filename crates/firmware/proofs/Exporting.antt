-- What is sent of a clipper's answer is the definition's `exported`: the checks before it are the same, and a call leaves its drawing in the
-- lists, which have room for every one. Assumes nothing.
use Rattle.std.specs.Prelude.{if◌then◌else◌, Result}
use mathlib.Core.Path.{◌≡◌, refl, ◌∙◌, ap}
use mathlib.Core.Bool.{Bool, true, false, not}
use mathlib.Core.List.{List}
use Prim.Native.Nat.{ℕ, ◌/◌, ◌%◌, ◌<◌, ◌≤◌}
use native.Mathlib.Omega.{arith}
use lib.ListN.{length, length-append, take, drop}
use lib.Seq.{take_at}
use lib.Dec.{eqb, ltb}
use lib.IntN.{ℤ}
use borrow.Author.Tests.{lt-ltb, ltb-true, ltb-false, eqb-true, ne_eqb}
use Rattle.plane.specs.declared.rect.Rect64.{Rect64}
use Rattle.reference.specs.Entry.{Outcome, filled, sheet_refusal}
use Rattle.reference.specs.Exported.{Bytes, read_words, exported}
use Rattle.entry.specs.declared.answer.Counts.{Counts}
use Rattle.entry.specs.declared.answer.Refusal.{Refusal}
use Rattle.entry.specs.Answers.{outcome}
use Rattle.rectclip.specs.Promises.{Leaves, ReturnedBy}
use Rattle.handheld.specs.Called.{called}
use Rattle.handheld.specs.Drawn.{clipped, handed}
use Rattle.handheld.proofs.HandsOver.{hands_over}
use Rattle.firmware.specs.ReadBack.{ReturnedBytes}
use Rattle.firmware.specs.Sending.{path_refusal, sent, Sendable}
use Rattle.firmware.proofs.Bytes.{read_length}
use Rattle.firmware.proofs.Returned.{answer_returned}
use Rattle.firmware.proofs.Sending.{sendable, exported_by, sent_is}

-- a choice between a refusal and more that is 0
chosen : (b : Bool) (n : ℕ) {m : ℕ} → 0 < n → (if b then n else m) ≡ 0 → (b ≡ false) × (m ≡ 0)
chosen true n h e = absurd (omega arith)
chosen false n h e = (refl, e)

not_no : (b : Bool) → not b ≡ false → b ≡ true
not_no true e = refl
not_no false e = absurd (let z : ◌≡◌ {A = ℕ} 0 1 = cc in omega arith)

-- ---- the checks
module _ (bytes : List ℕ) where
  -- a path that is refused by its bytes alone
  pub refused_early : (closed : Bool) (R : Rect64) (coordinates lengths counts : List ℕ) {r : ℕ} → r ≡ path_refusal bytes → (r ≡ 0 → ⊥)
      → ◌≡◌ {A = Bytes} (r, coordinates, lengths, counts) (exported closed R bytes coordinates lengths counts)
  unfolding exported sheet_refusal
  refused_early closed R coordinates lengths counts {r} e h = go (eqb (length bytes % 8) 0) refl (ltb 1024 (length bytes)) refl
    where
      go : (b : Bool) → eqb (length bytes % 8) 0 ≡ b → (t : Bool) → ltb 1024 (length bytes) ≡ t
          → ◌≡◌ {A = Bytes} (r, coordinates, lengths, counts) (exported closed R bytes coordinates lengths counts)
      go false p t q = let z : r ≡ 1 = e ∙ rw p refl in rw p (ap (λ (n : ℕ). (n, coordinates, lengths, counts)) z)
      go true p true q =
          let z : r ≡ 5 = e ∙ rw (p, q) refl in
          let f : 128 < length (read_words bytes) / 2 = omega (arith, eqb-true (length bytes % 8) 0 p, ltb-true 1024 (length bytes) q, read_length bytes) in
          rw (p, lt-ltb 128 (length (read_words bytes) / 2) f) (ap (λ (n : ℕ). (n, coordinates, lengths, counts)) z)
      go true p false q = absurd (h (e ∙ rw (p, q) refl))

  module _ (e : path_refusal bytes ≡ 0) where
    whole : (eqb (length bytes % 8) 0 ≡ true) × (ltb 1024 (length bytes) ≡ false)
    whole =
        let p = chosen (not (eqb (length bytes % 8) 0)) 1 (omega arith) e in
        (not_no (eqb (length bytes % 8) 0) p.0, (chosen (ltb 1024 (length bytes)) 5 (omega arith) p.1).0)

    few : length (read_words bytes) / 2 ≤ 128
    few = omega (arith, ltb-false 1024 (length bytes) whole.1, read_length bytes)

    -- the checks are those of `clipped`
    exported_is : (closed : Bool) (R : Rect64) (coordinates lengths counts : List ℕ) → exported_by (clipped closed R (read_words bytes)) coordinates lengths counts ≡ exported closed R bytes coordinates lengths counts
    unfolding exported clipped
    exported_is closed R coordinates lengths counts =
        let even : length (read_words bytes) % 2 ≡ 1 → ⊥ = λ z. omega (arith, eqb-true (length bytes % 8) 0 whole.0, read_length bytes) in
        go (ne_eqb (length (read_words bytes) % 2) 1 even) (eqb (sheet_refusal 128 R (read_words bytes)) 0) refl
      where
        go : eqb (length (read_words bytes) % 2) 1 ≡ false → (b : Bool) → eqb (sheet_refusal 128 R (read_words bytes)) 0 ≡ b
            → exported_by (clipped closed R (read_words bytes)) coordinates lengths counts ≡ exported closed R bytes coordinates lengths counts
        go odd true z = rw (odd, whole.0, z) refl
        go odd false z = rw (odd, whole.0, z) refl

-- ---- the entries
-- room for the numbers that are read
pub room_to_read : (bytes : List ℕ) → path_refusal bytes ≡ 0 → length bytes / 4 ≤ 256
room_to_read bytes e = omega (arith, ltb-false 1024 (length bytes) (whole bytes e).1)

pub read_fits : (bytes : List ℕ) (l : List ℤ) {after : List ℤ} → after ≡ filled (read_words bytes) l → length bytes / 4 ≤ length after
read_fits bytes l e = omega (arith, ap length e, length-append (read_words bytes) (drop (length (read_words bytes)) l), read_length bytes)

-- the part of the list that was read
pub part_read : (bytes : List ℕ) (l : List ℤ) → take (length bytes / 4) (filled (read_words bytes) l) ≡ read_words bytes
part_read bytes l = take_at (read_words bytes) (drop (length (read_words bytes)) l) (length bytes / 4) (read_length bytes)

module _ (bytes : List ℕ) (e : path_refusal bytes ≡ 0) (closed : Bool) (R : Rect64) (path results : List ℤ) (numbers : List ℕ) {r : Result Counts Refusal} {results' : List ℤ} {numbers' : List ℕ}
    (p : path ≡ read_words bytes) (a : length results ≡ 512) (b : length numbers ≡ 257) (h : Leaves (called closed R path results numbers) r results' numbers') where
  left : ◌≡◌ {A = Outcome × List ℤ × List ℕ} (outcome r, results', numbers') (handed results numbers (clipped closed R path))
  left = hands_over closed R path results numbers r results' numbers' (rw p (few bytes e)) a b h

  pub may_send : Sendable (outcome r) results' numbers'
  may_send = sendable results numbers (clipped closed R path) left

  pub all_exported : (coordinates lengths counts : List ℕ) {v : Bytes} → v ≡ sent (outcome r) results' numbers' coordinates lengths counts → v ≡ exported closed R bytes coordinates lengths counts
  all_exported coordinates lengths counts q =
      q ∙ sent_is results numbers coordinates lengths counts (clipped closed R path) left
      ∙ ap (λ (read : List ℤ). exported_by (clipped closed R read) coordinates lengths counts) p
      ∙ exported_is bytes e closed R coordinates lengths counts

  pub all_returned : ReturnedBy closed R path r results' numbers' → (coordinates lengths counts : List ℕ) {v : ℕ} {coordinates' lengths' counts' : List ℕ}
      → ◌≡◌ {A = Bytes} (v, coordinates', lengths', counts') (sent (outcome r) results' numbers' coordinates lengths counts) → v ≡ 0 → ReturnedBytes closed R bytes coordinates' lengths' counts'
  all_returned t coordinates lengths counts q = answer_returned closed R path results results' numbers numbers' coordinates lengths counts r left may_send t q bytes p
