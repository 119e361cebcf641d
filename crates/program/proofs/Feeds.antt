-- The bytes at hand, and what is before and behind the first line feed of bytes: a byte at a time, and behind bytes that have none. Assumes nothing.
use mathlib.Core.Path.{◌≡◌, refl, sym, ◌∙◌, ap}
use mathlib.Core.Bool.{Bool, true, false}
use mathlib.Core.List.{List, [], ◌∷◌, ◌++◌, append-nil}
use Prim.Native.Nat.{ℕ, zero, suc, ◌-◌, ◌≤◌, min}
use native.Mathlib.Omega.{arith}
use lib.ListN.{length, take, drop}
use lib.Seq.{take-nil, drop-nil}
use lib.Dec.{eqb, ltb}
use borrow.Author.Tests.{ne_eqb, ltb-true, ltb-false}
use Rattle.program.specs.Taken.{before_feed, has_feed, behind_feed}

-- ---- the bytes of a list between two places
abbrev pub between : List ℕ → ℕ → ℕ → List ℕ
between buffer at end = take (end - at) (drop at buffer)

pub drop_past : (l : List ℕ) (n : ℕ) → length l ≤ n → drop n l ≡ []
drop_past [] n h = drop-nil n
drop_past (x ∷ l) zero h = absurd (omega arith)
drop_past (x ∷ l) (suc n) h = drop_past l n (omega arith)

pub hand_none : (buffer : List ℕ) (at end : ℕ) → min end (length buffer) ≤ at → between buffer at end ≡ []
hand_none buffer at end h = go (ltb at end) refl
  where
    go : (b : Bool) → ltb at end ≡ b → between buffer at end ≡ []
    go true e = ap (take (end - at)) (drop_past buffer at (omega (arith, ltb-true at end e))) ∙ take-nil (end - at)
    go false e = let z : end - at ≡ 0 = omega (arith, ltb-false at end e) in ap (λ (k : ℕ). take k (drop at buffer)) z

-- ---- one byte more
pub other_byte : (b : ℕ) (bs : List ℕ) → (b ≡ 10 → ⊥) → (before_feed (b ∷ bs) ≡ b ∷ before_feed bs) × (has_feed (b ∷ bs) ≡ has_feed bs) × (behind_feed (b ∷ bs) ≡ behind_feed bs)
other_byte b bs h = (rw (ne_eqb b 10 h) refl, rw (ne_eqb b 10 h) refl, rw (ne_eqb b 10 h) refl)

-- ---- bytes behind bytes
pub feed_first : (xs ys : List ℕ) → has_feed xs ≡ true → has_feed (xs ++ ys) ≡ true
feed_first [] ys e = absurd (let z : ◌≡◌ {A = ℕ} 0 1 = cc in omega arith)
feed_first (x ∷ xs) ys e = go (eqb x 10) refl (feed_first xs ys)
  where
    go : (b : Bool) → eqb x 10 ≡ b → (has_feed xs ≡ true → has_feed (xs ++ ys) ≡ true) → has_feed (x ∷ xs ++ ys) ≡ true
    go true q more = rw q refl
    go false q more = rw q (more (rw q at e))

-- where the first have no line feed
pub record Continued (xs ys : List ℕ) : Type 0 where
  pub line : before_feed (xs ++ ys) ≡ xs ++ before_feed ys
  pub feed : has_feed (xs ++ ys) ≡ has_feed ys
  pub behind : behind_feed (xs ++ ys) ≡ behind_feed ys

pub continued : (xs ys : List ℕ) → has_feed xs ≡ false → Continued xs ys
continued [] ys e = record { line = refl; feed = refl; behind = refl }
continued (x ∷ xs) ys e = go (eqb x 10) refl (continued xs ys)
  where
    go : (b : Bool) → eqb x 10 ≡ b → (has_feed xs ≡ false → Continued xs ys) → Continued (x ∷ xs) ys
    go true q rest = absurd (let y : true ≡ false = rw q at e in let z : ◌≡◌ {A = ℕ} 0 1 = cc in omega arith)
    go false q rest =
        let more = rest (rw q at e) in
        record { line = rw q (ap (λ (l : List ℕ). x ∷ l) more.line); feed = rw q more.feed; behind = rw q more.behind }

pub whole_line : (xs : List ℕ) → has_feed xs ≡ false → before_feed xs ≡ xs
whole_line xs e = let c = continued xs [] e in ap before_feed (sym (append-nil xs)) ∙ c.line ∙ append-nil xs

pub none_behind : (xs : List ℕ) → has_feed xs ≡ false → behind_feed xs ≡ []
none_behind xs e = let c = continued xs [] e in ap behind_feed (sym (append-nil xs)) ∙ c.behind
