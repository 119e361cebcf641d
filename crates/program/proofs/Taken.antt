-- A line is what the buffer holds of it and, a buffer at a time, what is read behind that; and what holds of every line. Assumes nothing.
use mathlib.Core.Path.{◌≡◌, refl, sym, ◌∙◌, ap, subst}
use mathlib.Core.Bool.{Bool, true, false, not}
use mathlib.Core.Logic.{inl, inr}
use mathlib.Core.List.Memᴰ
use mathlib.Core.List.{List, [], ◌∷◌, ◌++◌, Memᴰ, append_assoc, append-nil}
use Prim.Native.Nat.{ℕ, zero, suc, ◌+◌, ◌-◌, ◌<◌, min}
use native.Mathlib.Omega.{arith}
use lib.ListN.{length, take, drop, length-append, length-take}
use lib.Seq.{sets, length-sets, take-nil, take_at, drop_at}
use lib.Dec.{eqb, ltb}
use borrow.Author.Tests.{eqb-false, ltb-true, ltb-false}
use Rattle.text.proofs.Stores.{sets_append, sets_out, sets_lead}
use Rattle.program.specs.declared.input.Taken.{Taken}
use Rattle.std.specs.Prelude.{Option, None, Some, if◌then◌else◌}
use Rattle.std.specs.Bool.{then_some}
use Rattle.std.specs.Io.KnownBytes.{Consumes}
use Rattle.program.specs.Taken.{before_feed, has_feed, behind_feed, has_bytes, TakesAtHand, ReadsMore, TakesLine, IsLine}
use Rattle.program.proofs.Feeds.{drop_past, feed_first, continued, whole_line, none_behind}

-- ---- what a reader gives
-- nothing, and so nothing is gone
pub gives_none : (ahead : Option (List ℕ)) → Consumes ahead ahead []
gives_none None = tt
gives_none (Some xs) = refl

-- a part, and then a part
pub gives_more : (ahead₀ ahead ahead' : Option (List ℕ)) (xs ys : List ℕ) → Consumes ahead₀ ahead xs → Consumes ahead ahead' ys → Consumes ahead₀ ahead' (xs ++ ys)
gives_more None ahead ahead' xs ys p q = tt
gives_more (Some us) None ahead' xs ys p q = absurd p
gives_more (Some us) (Some vs) None xs ys p q = absurd q
gives_more (Some us) (Some vs) (Some ws) xs ys p q = p ∙ ap (λ (l : List ℕ). xs ++ l) q ∙ sym (append_assoc xs ys ws)

-- ---- so far: how many bytes the line's list has, and whether the line has begun and has ended
pub record LineTo (ahead₀ ahead : Option (List ℕ)) (hand₀ line₀ : List ℕ) (begun : Bool) (t : Taken) (hand line : List ℕ) : Type 0 where
  pub came : List ℕ
  pub given : Consumes ahead₀ ahead came
  pub count : t.count ≡ min (length (before_feed (hand₀ ++ came))) (length line₀)
  pub line_after : line ≡ sets line₀ 0 (before_feed (hand₀ ++ came))
  pub some : begun ≡ has_bytes (hand₀ ++ came)
  pub feed : t.ended ≡ has_feed (hand₀ ++ came)
  pub left : hand ≡ behind_feed (hand₀ ++ came)
  pub unread : has_feed hand₀ ≡ true → came ≡ []

pub line_first : {ahead : Option (List ℕ)} {hand line : List ℕ} {begun : Bool} {r : Taken} {hand' after : List ℕ} → begun ≡ has_bytes hand → TakesAtHand hand line 0 r hand' after
    → LineTo ahead ahead hand line begun r hand' after
line_first {ahead} {hand} {line} {begun} {r} {hand'} {after} b t =
    let all : hand ++ [] ≡ hand = append-nil hand in
    let many : 0 + min (length (before_feed hand)) (length line - 0) ≡ min (length (before_feed hand)) (length line) = omega arith in
    record {
      came = [];
      given = gives_none ahead;
      count = rw all (ap (λ (h : Taken). h.count) t.is ∙ many);
      line_after = rw all t.line_after;
      some = rw all b;
      feed = rw all (ap (λ (h : Taken). h.ended) t.is);
      left = rw all t.left;
      unread = λ e. refl;
    }

pub begun_as : {b : Bool} (bytes : List ℕ) → b ≡ not (has_bytes bytes) → not b ≡ has_bytes bytes
begun_as {b} bytes e = ap not e ∙ go (has_bytes bytes)
  where
    go : (t : Bool) → not (not t) ≡ t
    go true = refl
    go false = refl

-- ---- a buffer more
-- a run behind a run, where the first may have been cut
sets_behind : (xs ys l : List ℕ) → sets (sets l 0 xs) (min (length xs) (length l)) ys ≡ sets l 0 (xs ++ ys)
sets_behind xs ys l = go (ltb (length l) (length xs)) refl
  where
    go : (b : Bool) → ltb (length l) (length xs) ≡ b → sets (sets l 0 xs) (min (length xs) (length l)) ys ≡ sets l 0 (xs ++ ys)
    go true e =
        let h = ltb-true (length l) (length xs) e in
        let m = length-sets l 0 xs in
        sets_out ys (sets l 0 xs) (min (length xs) (length l)) (omega arith) ∙ sym (sets_append xs ys l 0 ∙ sets_out ys (sets l 0 xs) (0 + length xs) (omega arith))
    go false e =
        let h = ltb-false (length l) (length xs) e in
        let m : min (length xs) (length l) ≡ 0 + length xs = omega arith in
        ap (λ (k : ℕ). sets (sets l 0 xs) k ys) m ∙ sym (sets_append xs ys l 0)

has_some : (xs ys : List ℕ) → 0 < length ys → has_bytes (xs ++ ys) ≡ true
has_some [] [] h = absurd (omega arith)
has_some [] (y ∷ ys) h = refl
has_some (x ∷ xs) ys h = refl

some_as : (b : Bool) (t : Taken) → then_some b t ≡ (if b then Some t else None)
some_as true t = refl
some_as false t = refl

-- behind a line that has not ended
module _ {ahead₀ ahead : Option (List ℕ)} {hand₀ line₀ : List ℕ} {begun : Bool} {so_far : Taken} {hand line : List ℕ} (to : LineTo ahead₀ ahead hand₀ line₀ begun so_far hand line) where
  -- what stands is the line
  pub line_is : {r : Option Taken} → r ≡ then_some begun so_far → TakesLine ahead₀ ahead hand₀ line₀ r hand line
  line_is {r} e =
      record {
        came = to.came;
        given = to.given;
        is = e ∙ some_as begun so_far ∙ (λ i. if to.some i then Some (record { count = to.count i; ended = to.feed i }) else None);
        line_after = to.line_after;
        left = to.left;
        unread = to.unread;
      }

  -- one that has ended has begun
  has_begun : so_far.ended ≡ true → begun ≡ true
  has_begun e = to.some ∙ go (hand₀ ++ to.came) (sym to.feed ∙ e)
    where
      go : (bytes : List ℕ) → has_feed bytes ≡ true → has_bytes bytes ≡ true
      go [] e = absurd (let y : ◌≡◌ {A = ℕ} 0 1 = cc in omega arith)
      go (b ∷ bs) e = refl

  pub line_ended : so_far.ended ≡ true → TakesLine ahead₀ ahead hand₀ line₀ (Some so_far) hand line
  line_ended e = line_is (rw (has_begun e) refl)

  module _ (e : so_far.ended ≡ false) where
    abbrev all : List ℕ
    all = hand₀ ++ to.came

    was : has_feed all ≡ false
    was = sym to.feed ∙ e

    -- the bytes at hand were no whole line
    pub never : {A : Type 0} → has_feed hand₀ ≡ true → A
    never h = absurd (let z : true ≡ false = sym (feed_first hand₀ to.came h) ∙ was in let y : ◌≡◌ {A = ℕ} 0 1 = cc in omega arith)

    -- nothing more comes
    pub line_end : {ahead' : Option (List ℕ)} {n : ℕ} {hand' : List ℕ} → n ≡ 0 → ReadsMore ahead ahead' n hand' → LineTo ahead₀ ahead' hand₀ line₀ begun so_far hand' line
    line_end {ahead'} {n} {hand'} z g =
        let none : hand' ≡ [] = nil_of hand' (omega (arith, g.count)) in
        record {
          came = to.came;
          given = subst (λ (l : List ℕ). Consumes ahead₀ ahead' l) (append-nil to.came) (gives_more ahead₀ ahead ahead' to.came [] to.given (subst (λ (l : List ℕ). Consumes ahead ahead' l) none g.given));
          count = to.count;
          line_after = to.line_after;
          some = to.some;
          feed = to.feed;
          left = none ∙ sym (none_behind all was);
          unread = λ h. never h;
        }
      where
        nil_of : (l : List ℕ) → length l ≡ 0 → l ≡ []
        nil_of [] e = refl
        nil_of (x ∷ l) e = absurd (omega arith)

    pub line_again : {ahead' : Option (List ℕ)} {n : ℕ} {bytes : List ℕ} {r : Taken} {hand' line' : List ℕ} → (n ≡ 0 → ⊥) → ReadsMore ahead ahead' n bytes → TakesAtHand bytes line so_far.count r hand' line'
        → LineTo ahead₀ ahead' hand₀ line₀ true r hand' line'
    line_again {ahead'} {n} {bytes} {r} {hand'} {line'} h g t =
        let some : 0 < length bytes = omega (arith, g.count) in
        let with : hand₀ ++ (to.came ++ bytes) ≡ all ++ bytes = sym (append_assoc hand₀ to.came bytes) in
        let more = continued all bytes was in
        let had : so_far.count ≡ min (length all) (length line₀) = to.count ∙ ap (λ (l : List ℕ). min (length l) (length line₀)) (whole_line all was) in
        let stored : line ≡ sets line₀ 0 all = to.line_after ∙ ap (sets line₀ 0) (whole_line all was) in
        let long : length line ≡ length line₀ = ap length stored ∙ length-sets line₀ 0 all in
        let many : so_far.count + min (length (before_feed bytes)) (length line - so_far.count) ≡ min (length (before_feed (all ++ bytes))) (length line₀) = rw (more.line, length-append all (before_feed bytes)) (omega arith) in
        record {
          came = to.came ++ bytes;
          given = gives_more ahead₀ ahead ahead' to.came bytes to.given g.given;
          count = rw with (ap (λ (h : Taken). h.count) t.is ∙ many);
          line_after = rw with (t.line_after ∙ (λ i. sets (stored i) (had i) (before_feed bytes)) ∙ sets_behind all (before_feed bytes) line₀ ∙ ap (sets line₀ 0) (sym more.line));
          some = rw with (sym (has_some all bytes some));
          feed = rw with (ap (λ (h : Taken). h.ended) t.is ∙ sym more.feed);
          left = rw with (t.left ∙ sym more.behind);
          unread = λ h. never h;
        }

-- ---- every line
-- no byte before the first line feed is one
before_none : (xs : List ℕ) (n b : ℕ) → Memᴰ b (take n (before_feed xs)) → b ≡ 10 → ⊥
before_none [] n b m e = Memᴰ.not-nil (rw take-nil at m)
before_none (x ∷ xs) n b m e = go (eqb x 10) refl n m (λ k. before_none xs k b)
  where
    go : (t : Bool) → eqb x 10 ≡ t → (n : ℕ) → Memᴰ b (take n (before_feed (x ∷ xs))) → ((k : ℕ) → Memᴰ b (take k (before_feed xs)) → b ≡ 10 → ⊥) → ⊥
    go true q n m rest = Memᴰ.not-nil (rw take-nil at (rw q at m))
    go false q zero m rest = Memᴰ.not-nil m
    go false q (suc n) m rest = elim (Memᴰ.cases_cons (rw q at m)) [ inl s ↦ eqb-false x 10 q (sym s ∙ e) | inr i ↦ rest n i e ]

-- dropping past the end is dropping to the end
drop_cut : (m : ℕ) (l : List ℕ) {n : ℕ} → n ≡ min m (length l) → drop m l ≡ drop n l
drop_cut m l {n} e = go (ltb (length l) m) refl
  where
    go : (b : Bool) → ltb (length l) m ≡ b → drop m l ≡ drop n l
    go true q = let h = ltb-true (length l) m q in drop_past l m (omega arith) ∙ sym (drop_past l n (omega arith))
    go false q = let h = ltb-false (length l) m q in let z : m ≡ n = omega arith in ap (λ (k : ℕ). drop k l) z

-- its bytes, as many as its list holds
pub line_bytes : {ahead₀ ahead : Option (List ℕ)} {hand line : List ℕ} {r : Option Taken} {t : Taken} {hand' line' : List ℕ} (l : TakesLine ahead₀ ahead hand line r hand' line') → r ≡ Some t
    → (take t.count line' ≡ take (length line) (before_feed (hand ++ l.came))) × (t.ended ≡ has_feed (hand ++ l.came)) × (has_bytes (hand ++ l.came) ≡ true) × (t.count ≡ min (length (before_feed (hand ++ l.came))) (length line))
line_bytes {hand = hand} {line = line} {r = r} {t = t} {line' = line'} l e = go (has_bytes (hand ++ l.came)) refl (sym e ∙ l.is)
  where
    bytes : List ℕ
    bytes = before_feed (hand ++ l.came)

    own : t.count ≡ min (length (before_feed (hand ++ l.came))) (length line) → take t.count line' ≡ take (length line) (before_feed (hand ++ l.came))
    own c =
        let bytes = before_feed (hand ++ l.came) in
        let parts : line' ≡ take (length line) bytes ++ drop (length bytes) line = l.line_after ∙ sets_lead bytes line in
        let front : length (take (length line) bytes) ≡ t.count = simp length-take (omega (arith, c)) in
        ap (take t.count) parts ∙ take_at (take (length line) bytes) (drop (length bytes) line) t.count front

    go : (b : Bool) → has_bytes (hand ++ l.came) ≡ b → Some t ≡ (if b then Some (record { count = min (length (before_feed (hand ++ l.came))) (length line); ended = has_feed (hand ++ l.came) }) else None)
        → (take t.count line' ≡ take (length line) (before_feed (hand ++ l.came))) × (t.ended ≡ has_feed (hand ++ l.came)) × (has_bytes (hand ++ l.came) ≡ true) × (t.count ≡ min (length (before_feed (hand ++ l.came))) (length line))
    go true p q =
        let w : t ≡ record { count = min (length (before_feed (hand ++ l.came))) (length line); ended = has_feed (hand ++ l.came) } = cc in
        (own (ap (λ (h : Taken). h.count) w), ap (λ (h : Taken). h.ended) w, p, ap (λ (h : Taken). h.count) w)
    go false p q = absurd (let y : ◌≡◌ {A = ℕ} 0 1 = cc in omega arith)

-- and none where there are no bytes
pub line_none : {ahead₀ ahead : Option (List ℕ)} {hand line : List ℕ} {r : Option Taken} {hand' line' : List ℕ} (l : TakesLine ahead₀ ahead hand line r hand' line') → r ≡ None → has_bytes (hand ++ l.came) ≡ false
line_none {hand = hand} {line = line} l e = go (has_bytes (hand ++ l.came)) refl (sym e ∙ l.is)
  where
    go : (b : Bool) → has_bytes (hand ++ l.came) ≡ b → ◌≡◌ {A = Option Taken} None (if b then Some (record { count = min (length (before_feed (hand ++ l.came))) (length line); ended = has_feed (hand ++ l.came) }) else None) → has_bytes (hand ++ l.came) ≡ false
    go true p q = absurd (let y : ◌≡◌ {A = ℕ} 0 1 = cc in omega arith)
    go false p q = p

pub is_line : {ahead₀ ahead : Option (List ℕ)} {hand line : List ℕ} {r : Option Taken} {hand' line' : List ℕ} → TakesLine ahead₀ ahead hand line r hand' line' → IsLine line r line'
is_line {hand = hand} {line = line} {r = r} {line' = line'} l = go r refl
  where
    nil_of : (xs : List ℕ) → has_bytes xs ≡ false → before_feed xs ≡ []
    nil_of [] e = refl
    nil_of (x ∷ xs) e = absurd (let z : ◌≡◌ {A = ℕ} 0 1 = cc in omega arith)

    go : (s : Option Taken) → r ≡ s → IsLine line s line'
    go None e = l.line_after ∙ ap (sets line 0) (nil_of (hand ++ l.came) (line_none l e))
    go (Some t) e =
        let m = line_bytes l e in
        let bytes = before_feed (hand ++ l.came) in
        let c : t.count ≡ min (length bytes) (length line) = m.3 in
        let parts : line' ≡ take (length line) bytes ++ drop (length bytes) line = l.line_after ∙ sets_lead bytes line in
        let long : length line' ≡ length line = ap length l.line_after ∙ length-sets line 0 bytes in
        let front : length (take (length line) bytes) ≡ t.count = simp length-take (omega arith) in
        let rest : drop t.count line' ≡ drop (length bytes) line = ap (drop t.count) parts ∙ drop_at (take (length line) bytes) (drop (length bytes) line) t.count front in
        record {
          fits = omega arith;
          no_feed = λ b i q. before_none (hand ++ l.came) (length line) b (rw m.0 at i) q;
          others = rest ∙ drop_cut (length bytes) line c;
        }
