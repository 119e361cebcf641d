-- What bytes at hand have of a line, by the place of the first line feed; and what is left of those at hand. Assumes nothing.
use mathlib.Core.Path.{◌≡◌, refl, sym, ◌∙◌, ap, subst}
use mathlib.Core.Bool.{Bool, true, false}
use mathlib.Core.List.{List, [], ◌∷◌, ◌++◌, append_assoc}
use Prim.Native.Nat.{ℕ, suc, ◌+◌, ◌-◌, ◌<◌, ◌≤◌, min}
use native.Mathlib.Omega.{arith}
use lib.ListN.{length, take, drop}
use lib.Seq.{sets, sets-eq, length-sets, drop-nil, take_all}
use lib.Dec.{eqb, ltb}
use borrow.Author.Tests.{ltb-true, ltb-false, lt-ltb, le-ltb, eqb-false}
use Rattle.std.proofs.lemmas.List.{take-append-drop, drop-take, drop-drop, length-drop, length-take}
use Rattle.std.specs.Prelude.{Option, Some, None, if◌then◌else◌}
use mir.Val.{bool_byte}
use Rattle.std.specs.Option.{unwrap_or, is_some}
use Rattle.std.specs.List.{position, position_or_len}
use Rattle.text.proofs.Stores.{sets_out, sets_append}
use Rattle.program.specs.declared.input.Taken.{Taken}
use Rattle.program.specs.declared.input.Held.{Held}
use Rattle.program.specs.Taken.{before_feed, has_feed, behind_feed, passed, TakesHeld, TakesAtHand}
use Rattle.program.proofs.Feeds.{between, hand_none, other_byte, whole_line}

held_as : {n n' : ℕ} {b b' : Bool} → n ≡ n' → b ≡ b' → ◌≡◌ {A = Taken} (record { count = n; ended = b }) (record { count = n'; ended = b' })
held_as q r = λ i. record { count = q i; ended = r i }

-- ---- how many bytes are taken
passed_other : (b : ℕ) (bs : List ℕ) → (b ≡ 10 → ⊥) → passed (b ∷ bs) ≡ suc (passed bs)
passed_other b bs e = let f = other_byte b bs e in rw (f.0, f.1) (omega arith)

-- those, and no more than there are
pub passed_fits : (bytes : List ℕ) → passed bytes ≤ length bytes
passed_fits [] = omega arith
passed_fits (b ∷ bs) = go (eqb b 10) refl (passed_fits bs)
  where
    go : (t : Bool) → eqb b 10 ≡ t → passed bs ≤ length bs → passed (b ∷ bs) ≤ length (b ∷ bs)
    go true e h = rw e (omega arith)
    go false e h = rw e (omega arith)

-- what is behind them is what is behind the line feed
pub behind_passed : (bytes : List ℕ) → behind_feed bytes ≡ drop (passed bytes) bytes
behind_passed [] = sym (drop-nil 0)
behind_passed (b ∷ bs) = go (eqb b 10) refl (behind_passed bs)
  where
    go : (t : Bool) → eqb b 10 ≡ t → behind_feed bs ≡ drop (passed bs) bs → behind_feed (b ∷ bs) ≡ drop (passed (b ∷ bs)) (b ∷ bs)
    go true e h = rw e refl
    go false e h =
        let other = eqb-false b 10 e in
        (other_byte b bs other).2 ∙ h ∙ ap (λ (k : ℕ). drop k (b ∷ bs)) (sym (passed_other b bs other))

-- ---- the first line feed

-- it stands behind the line's bytes, where there is one
feed_place : (bytes : List ℕ) → position_or_len (λ b. eqb b 10) bytes ≡ length (before_feed bytes)
feed_place [] = refl
feed_place (b ∷ bs) = go (eqb b 10) refl (feed_place bs)
  where
    go : (t : Bool) → eqb b 10 ≡ t → position_or_len (λ b. eqb b 10) bs ≡ length (before_feed bs) → position_or_len (λ b. eqb b 10) (b ∷ bs) ≡ length (before_feed (b ∷ bs))
    go true e h = rw e refl
    go false e h = rw e (omega (arith, h))

-- there is one, and the line ends before the bytes do; or all of them are the line's
front_line : (bytes : List ℕ) → take (length (before_feed bytes)) bytes ≡ before_feed bytes
front_line [] = refl
front_line (b ∷ bs) = go (eqb b 10) refl (front_line bs)
  where
    go : (t : Bool) → eqb b 10 ≡ t → take (length (before_feed bs)) bs ≡ before_feed bs → take (length (before_feed (b ∷ bs))) (b ∷ bs) ≡ before_feed (b ∷ bs)
    go true e h = rw e refl
    go false e h = rw e (ap (λ (l : List ℕ). b ∷ l) h)

feed_within : (bytes : List ℕ) → has_feed bytes ≡ true → length (before_feed bytes) < length bytes
feed_within bytes e = omega (arith, passed_fits bytes, ap (λ (t : Bool). length (before_feed bytes) + (if t then 1 else 0)) e)

-- by the search for it
pub record FeedAt (bytes : List ℕ) (r : Option ℕ) : Type 0 where
  pub place : unwrap_or r (length bytes) ≡ length (before_feed bytes)
  pub here : is_some r ≡ has_feed bytes

pub feed_at : (bytes : List ℕ) {r : Option ℕ} → r ≡ position (λ b. eqb b 10) bytes → FeedAt bytes r
feed_at bytes {r} e = go (has_feed bytes) refl
  where
    go : (t : Bool) → has_feed bytes ≡ t → FeedAt bytes r
    go true f =
        let some : r ≡ Some (length (before_feed bytes)) =
        e ∙ rw (feed_place bytes, lt-ltb (length (before_feed bytes)) (length bytes) (feed_within bytes f)) refl in
        record { place = ap (λ (o : Option ℕ). unwrap_or o (length bytes)) some; here = ap is_some some ∙ sym f }
    go false f =
        let all : before_feed bytes ≡ bytes = whole_line bytes f in
        let none : r ≡ None = e ∙ rw (feed_place bytes, all, le-ltb (length bytes) (length bytes) (omega arith)) refl in
        record { place = ap (λ (o : Option ℕ). unwrap_or o (length bytes)) none ∙ ap length (sym all); here = ap is_some none ∙ sym f }

-- ---- as much of a line as its list has room for
stored_front : (xs line : List ℕ) (from : ℕ) {start stored : ℕ} → start ≡ min from (length line) → stored ≡ min (length xs) (length line - start)
    → sets line start (take stored xs) ≡ sets line from xs
stored_front xs line from {start} {stored} p q = go (ltb (length line) from) refl (ltb (length line) (from + length xs)) refl
  where
    go : (b : Bool) → ltb (length line) from ≡ b → (b' : Bool) → ltb (length line) (from + length xs) ≡ b' → sets line start (take stored xs) ≡ sets line from xs
    go true e b' e' =
        let h = ltb-true (length line) from e in
        sets_out (take stored xs) line start (omega arith) ∙ sym (sets_out xs line from (omega arith))
    go false e true e' =
        let h = ltb-false (length line) from e in
        let h' = ltb-true (length line) (from + length xs) e' in
        let s : start ≡ from = omega arith in
        let m : length (take stored xs) ≡ stored = length-take stored xs ∙ (omega arith) in
        ap (λ (k : ℕ). sets line k (take stored xs)) s
        ∙ sym (sets_out (drop stored xs) (sets line from (take stored xs)) (from + length (take stored xs)) (omega (arith, length-sets line from (take stored xs))))
        ∙ sym (sets_append (take stored xs) (drop stored xs) line from)
        ∙ ap (sets line from) (take-append-drop stored xs)
    go false e false e' =
        let h = ltb-false (length line) from e in
        let h' = ltb-false (length line) (from + length xs) e' in
        let s : start ≡ from = omega arith in
        ap (λ (k : ℕ). sets line k (take stored xs)) s ∙ ap (sets line from) (take_all stored xs (omega arith))

pub holds_front : (xs line : List ℕ) (from : ℕ) {start stored n : ℕ} {copied : List ℕ} → start ≡ min from (length line) → stored ≡ min (length xs) (length line - start) → n ≡ stored → copied ≡ take stored xs
    → take start line ++ (copied ++ drop n (drop start line)) ≡ sets line from xs
holds_front xs line from {start} {stored} {n} {copied} p q r e =
    let m : length (take stored xs) ≡ n = length-take stored xs ∙ (omega arith) in
    ap (λ (c : List ℕ). take start line ++ (c ++ drop n (drop start line))) e
    ∙ ap (λ (l : List ℕ). take start line ++ (take stored xs ++ l)) (drop-drop n start line ∙ ap (λ (k : ℕ). drop (start + k) line) (sym m))
    ∙ sym (append_assoc (take start line) (take stored xs) (drop (start + length (take stored xs)) line))
    ∙ sym (sets-eq (take stored xs) line start (omega (arith, m)))
    ∙ stored_front xs line from p q

pub holds_line : (hand line : List ℕ) (from : ℕ) {r : Option ℕ} {at start stored n more : ℕ} {copied : List ℕ} {ended : Bool} → FeedAt hand r → at ≡ unwrap_or r (length hand) → ended ≡ is_some r → more ≡ bool_byte ended
    → start ≡ min from (length line) → stored ≡ min (length (take at hand)) (length line - start) → n ≡ stored → copied ≡ take stored (take at hand)
    → TakesHeld hand line from (record { used = length (take at hand) + more; line = record { count = from + stored; ended = ended } }) (take start line ++ (copied ++ drop n (drop start line)))
holds_line hand line from {r} {at} {start} {stored} {n} {more} {copied} {ended} f a b one p q o e =
    let xs : take at hand ≡ before_feed hand = ap (λ (i : ℕ). take i hand) (a ∙ f.place) ∙ front_line hand in
    let counted : more ≡ (if has_feed hand then 1 else 0) = one ∙ ap bool_byte (b ∙ f.here) ∙ byte_of (has_feed hand) in
    record {
      used = λ i. length (xs i) + counted i;
      is = held_as (omega (arith, ap length xs)) (b ∙ f.here);
      line_after = holds_front (take at hand) line from p q o e ∙ ap (sets line from) xs;
    }
  where
    byte_of : (t : Bool) → bool_byte t ≡ (if t then 1 else 0)
    byte_of true = refl
    byte_of false = refl

-- ---- what is at hand of a buffer
-- nothing of it is past its end
end_cut : (buffer : List ℕ) (at end : ℕ) → between buffer at end ≡ between buffer at (min end (length buffer))
end_cut buffer at end = go (ltb (length buffer) end) refl
  where
    go : (b : Bool) → ltb (length buffer) end ≡ b → between buffer at end ≡ between buffer at (min end (length buffer))
    go true e =
        let h = ltb-true (length buffer) end e in
        let d = length-drop at buffer in
        take_all (end - at) (drop at buffer) (omega arith) ∙ sym (take_all (min end (length buffer) - at) (drop at buffer) (omega arith))
    go false e = let h = ltb-false (length buffer) end e in let m : end ≡ min end (length buffer) = omega arith in ap (between buffer at) m

-- nor before its start
start_cut : (buffer : List ℕ) (at end : ℕ) → between buffer at end ≡ between buffer (min at end) end
start_cut buffer at end = go (ltb end at) refl
  where
    go : (b : Bool) → ltb end at ≡ b → between buffer at end ≡ between buffer (min at end) end
    go true e =
        let h = ltb-true end at e in
        hand_none buffer at end (omega arith) ∙ sym (hand_none buffer (min at end) end (omega arith))
    go false e = let h = ltb-false end at e in let m : at ≡ min at end = omega arith in ap (λ (k : ℕ). between buffer k end) m

pub hand_cut : (buffer : List ℕ) (at end : ℕ) {e a : ℕ} → e ≡ min end (length buffer) → a ≡ min at e → between buffer at end ≡ between buffer a e
hand_cut buffer at end {e} {a} p q = end_cut buffer at end ∙ ap (between buffer at) (sym p) ∙ start_cut buffer at e ∙ ap (λ (k : ℕ). between buffer k e) (sym q)

hand_behind : (buffer : List ℕ) (at end used : ℕ) → at + used ≤ end → drop used (between buffer at end) ≡ between buffer (at + used) end
hand_behind buffer at end used h =
    let m : end - at ≡ used + (end - (at + used)) = omega arith in
    ap (λ (k : ℕ). drop used (take k (drop at buffer))) m ∙ drop-take used (end - (at + used)) (drop at buffer) ∙ ap (take (end - (at + used))) (drop-drop used at buffer)

-- what is taken ends within it
pub used_within : (buffer : List ℕ) {line : List ℕ} {from : ℕ} {e a : ℕ} {r : Held} {after : List ℕ} → a ≤ e → TakesHeld (between buffer a e) line from r after → a + r.used ≤ e
used_within buffer {e = e} {a = a} h t =
    let long : length (between buffer a e) ≡ min (e - a) (length (drop a buffer)) = length-take (e - a) (drop a buffer) in
    omega (arith, t.used, passed_fits (between buffer a e))

pub takes_at_hand : (buffer line : List ℕ) (at end from : ℕ) {e a : ℕ} {r : Held} {at' : ℕ} {after : List ℕ} → e ≡ min end (length buffer) → a ≡ min at e → at' ≡ a + r.used
    → TakesHeld (between buffer a e) line from r after → TakesAtHand (between buffer at end) line from r.line (between buffer at' end) after
takes_at_hand buffer line at end from {e} {a} {r} {at'} {after} p q n t =
    let same : between buffer at end ≡ between buffer a e = hand_cut buffer at end p q in
    let within : a ≤ e = omega arith in
    let ends : a + r.used ≤ e = used_within buffer within t in
    let fits : a + passed (between buffer a e) ≤ e = omega (arith, t.used) in
    let to : at' ≡ a + passed (between buffer a e) = omega (arith, t.used) in
    let left : between buffer at' end ≡ behind_feed (between buffer a e) =
    end_cut buffer at' end ∙ ap (between buffer at') (sym p) ∙ ap (λ (k : ℕ). between buffer k e) to ∙ sym (hand_behind buffer a e (passed (between buffer a e)) fits) ∙ sym (behind_passed (between buffer a e)) in
    subst (λ (h : List ℕ). TakesAtHand h line from r.line (between buffer at' end) after) (sym same) (record { is = t.is; left = left; line_after = t.line_after })

-- where a line feed is at hand, what is taken stands from `at` on
pub at_behind : (buffer : List ℕ) (at end : ℕ) {line : List ℕ} {from : ℕ} {e a : ℕ} {r : Held} {after : List ℕ} → e ≡ min end (length buffer) → a ≡ min at e → TakesHeld (between buffer a e) line from r after
    → has_feed (between buffer at end) ≡ true → a + r.used ≡ at + passed (between buffer at end)
at_behind buffer at end {e = e} {a = a} {r = r} p q t f = go (ltb at e) refl
  where
    go : (b : Bool) → ltb at e ≡ b → a + r.used ≡ at + passed (between buffer at end)
    go true h =
        let before = ltb-true at e h in
        omega (arith, t.used, ap passed (hand_cut buffer at end p q))
    go false h =
        let past = ltb-false at e h in
        let none : false ≡ true = sym (ap has_feed (hand_none buffer at end (omega arith))) ∙ f in
        absurd (let z : ◌≡◌ {A = ℕ} 0 1 = cc in omega arith)
