-- The lines of bytes, and what a visitor is given of them, a line at a time. Assumes nothing.
use Rattle.std.specs.Prelude.{Option, Some, None, Result, Ok, Err}
use Rattle.std.proofs.Common.{◌≡◌, refl, sym, ◌∙◌, ap, inl, inr, ℕ, ◌+◌, ◌<◌, ◌≤◌, Bool, true, false, List, [], ◌∷◌, ◌++◌, length, take, ℤ, pos, eqb, true≢false}
use mathlib.Core.List.{append-nil, append_assoc}
use borrow.Author.Tests.{lt-ltb, le-ltb}
use Rattle.std.specs.List.{onto_first}
use Rattle.std.specs.Io.KnownBytes.{Consumes}
use Rattle.program.specs.declared.input.Taken.{Taken}
use Rattle.program.specs.Taken.{before_feed, has_feed, behind_feed, has_bytes, TakesLine}
use Rattle.program.specs.Visited.{lines_of, numbered, Visits, VisitsLines}
use Rattle.program.proofs.Feeds.{whole_line, none_behind}
use Rattle.program.proofs.Taken.{gives_none, gives_more, line_bytes, line_none}

-- ---- the first line
-- one that a line feed ends
pub lines_feed : (xs ys : List ℕ) → has_feed xs ≡ true → lines_of (xs ++ ys) ≡ before_feed xs ∷ lines_of (behind_feed xs ++ ys)
lines_feed [] ys e = absurd (true≢false (sym e))
lines_feed (x ∷ xs) ys e = go (eqb x 10) refl (lines_feed xs ys)
  where
    go : (b : Bool) → eqb x 10 ≡ b → (has_feed xs ≡ true → lines_of (xs ++ ys) ≡ before_feed xs ∷ lines_of (behind_feed xs ++ ys))
        → lines_of (x ∷ xs ++ ys) ≡ before_feed (x ∷ xs) ∷ lines_of (behind_feed (x ∷ xs) ++ ys)
    go true q rest = rw q refl
    go false q rest = rw q (ap (onto_first x) (rest (rw q at e)))

-- and one that is the last
pub lines_last : (xs : List ℕ) → has_feed xs ≡ false → has_bytes xs ≡ true → lines_of xs ≡ xs ∷ []
lines_last [] e f = absurd (true≢false (sym f))
lines_last (x ∷ xs) e f = go (eqb x 10) refl xs (lines_last xs) e
  where
    go : (b : Bool) → eqb x 10 ≡ b → (zs : List ℕ) → (has_feed zs ≡ false → has_bytes zs ≡ true → lines_of zs ≡ zs ∷ []) → has_feed (x ∷ zs) ≡ false → lines_of (x ∷ zs) ≡ (x ∷ zs) ∷ []
    go true q zs rest e = absurd (true≢false (rw q at e))
    go false q [] rest e = rw q refl
    go false q (z ∷ zs) rest e = rw q (ap (onto_first x) (rest (rw q at e) refl))

pub no_bytes_left : (xs : List ℕ) → has_bytes xs ≡ false → xs ≡ []
no_bytes_left [] e = refl
no_bytes_left (x ∷ xs) e = absurd (true≢false e)

-- whichever it is
first_line : (xs : List ℕ) → has_bytes xs ≡ true → lines_of xs ≡ before_feed xs ∷ lines_of (behind_feed xs)
first_line xs e = go (has_feed xs) refl
  where
    go : (b : Bool) → has_feed xs ≡ b → lines_of xs ≡ before_feed xs ∷ lines_of (behind_feed xs)
    go true f = ap lines_of (sym (append-nil xs)) ∙ lines_feed xs [] f ∙ ap (λ (l : List ℕ). before_feed xs ∷ lines_of l) (append-nil (behind_feed xs))
    go false f = lines_last xs f e ∙ (λ i. sym (whole_line xs f) i ∷ lines_of (sym (none_behind xs f) i))

-- ---- numbers
numbered_next : (room n : ℕ) (l : List ℕ) (ls : List (List ℕ)) → n < 9223372036854775808 → numbered room n (l ∷ ls) ≡ (pos n, take room l) ∷ numbered room (n + 1) ls
numbered_next room n l ls h = rw (lt-ltb n 9223372036854775808 h) refl

numbered_out : (room n : ℕ) (ls : List (List ℕ)) → 9223372036854775808 ≤ n → numbered room n ls ≡ []
numbered_out room n [] h = refl
numbered_out room n (l ∷ ls) h = rw (le-ltb n 9223372036854775808 h) refl

-- ---- so far: what came; and what the visitor is given of what is still to come, it is given of all
module _ {S E : Type 0} (gives : S → ℤ → List ℕ → Result (Unit {0}) E → S → Type 0) (room first : ℕ) where
  pub record VisitedTo (hand₀ : List ℕ) (ahead₀ ahead : Option (List ℕ)) (s₀ s : S) (hand : List ℕ) (n : ℕ) : Type 0 where
    pub came : List ℕ
    pub given : Consumes ahead₀ ahead came
    pub goal : (more : List ℕ) (r : Result (Unit {0}) E) (t : S) → Visits gives (numbered room n (lines_of (hand ++ more))) s r t → Visits gives (numbered room first (lines_of (hand₀ ++ (came ++ more)))) s₀ r t

module _ {S E : Type 0} {gives : S → ℤ → List ℕ → Result (Unit {0}) E → S → Type 0} {room first : ℕ} where
  pub visited_start : {hand : List ℕ} {ahead : Option (List ℕ)} {s : S} → VisitedTo gives room first hand ahead ahead s s hand first
  visited_start {ahead = ahead} = record { came = []; given = gives_none ahead; goal = λ more r t v. v }

  module _ {hand₀ : List ℕ} {ahead₀ ahead : Option (List ℕ)} {s₀ s : S} {hand : List ℕ} {n : ℕ} (to : VisitedTo gives room first hand₀ ahead₀ ahead s₀ s hand n) where
    all_visited : {ahead' : Option (List ℕ)} {r : Result (Unit {0}) E} {t : S} (more : List ℕ) → Consumes ahead ahead' more → Visits gives (numbered room n (lines_of (hand ++ more))) s r t → VisitsLines gives room first ahead₀ ahead' hand₀ s₀ r t
    all_visited {ahead'} {r} {t} more g v = record { came = to.came ++ more; given = gives_more ahead₀ ahead ahead' to.came more to.given g; visited = to.goal more r t v }

    -- as many as there are numbers
    pub visited_many : 9223372036854775808 ≤ n → VisitsLines gives room first ahead₀ ahead hand₀ s₀ (Ok tt) s
    visited_many h = all_visited [] (gives_none ahead) (rw (numbered_out room n (lines_of (hand ++ [])) h) (refl, refl))

    module _ {ahead' : Option (List ℕ)} {line : List ℕ} {o : Option Taken} {hand' line' : List ℕ} (taken : TakesLine ahead ahead' hand line o hand' line') where
      -- no line is left
      pub visited_end : o ≡ None → VisitsLines gives room first ahead₀ ahead' hand₀ s₀ (Ok tt) s
      visited_end e = all_visited taken.came taken.given (rw (no_bytes_left (hand ++ taken.came) (line_none taken e)) (refl, refl))

      -- a line
      module _ {l : Taken} (some : o ≡ Some l) (long : length line ≡ room) (few : n < 9223372036854775808) {x : ℤ} (same : x ≡ pos n) where
        abbrev bytes : List ℕ
        bytes = hand ++ taken.came

        own : take room (before_feed bytes) ≡ take l.count line'
        own = sym ((line_bytes taken some).0 ∙ ap (λ (k : ℕ). take k (before_feed bytes)) long)

        ahead_is : (ls : List (List ℕ)) → numbered room n (before_feed bytes ∷ ls) ≡ (x, take l.count line') ∷ numbered room (n + 1) ls
        ahead_is ls = numbered_next room n (before_feed bytes) ls few ∙ (λ i. (sym same i, own i) ∷ numbered room (n + 1) ls)

        here : numbered room n (lines_of bytes) ≡ (x, take l.count line') ∷ numbered room (n + 1) (lines_of (behind_feed bytes))
        here = ap (numbered room n) (first_line bytes (line_bytes taken some).2) ∙ ahead_is (lines_of (behind_feed bytes))

        -- at which the visitor stops
        pub visited_stop : {e : E} {t : S} → gives s x (take l.count line') (Err e) t → VisitsLines gives room first ahead₀ ahead' hand₀ s₀ (Err e) t
        visited_stop {e} v = all_visited taken.came taken.given (rw here (inr (e, v, refl)))

        -- the last
        pub visited_last : {t : S} → l.ended ≡ false → gives s x (take l.count line') (Ok tt) t → VisitsLines gives room first ahead₀ ahead' hand₀ s₀ (Ok tt) t
        visited_last {t} e v =
            let none : behind_feed bytes ≡ [] = none_behind bytes (sym (line_bytes taken some).1 ∙ e) in
            all_visited taken.came taken.given (rw (here, none) (inl (t, v, (refl, refl))))

        -- and another
        pub visited_next : {t : S} → l.ended ≡ true → gives s x (take l.count line') (Ok tt) t → VisitedTo gives room first hand₀ ahead₀ ahead' s₀ t hand' (n + 1)
        visited_next {t} e v = record {
          came = to.came ++ taken.came;
          given = gives_more ahead₀ ahead ahead' to.came taken.came to.given taken.given;
          goal = λ more r u w.
              let rest = lines_of (hand' ++ more) in
              let lines : lines_of (hand ++ (taken.came ++ more)) ≡ before_feed bytes ∷ rest =
              ap lines_of (sym (append_assoc hand taken.came more)) ∙ lines_feed bytes more (sym (line_bytes taken some).1 ∙ e) ∙ ap (λ (l : List ℕ). before_feed bytes ∷ lines_of (l ++ more)) (sym taken.left) in
              rw (append_assoc to.came taken.came more) (to.goal (taken.came ++ more) r u (rw (lines, ahead_is rest) (inl (t, v, w))));
        }
