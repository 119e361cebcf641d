-- What is printed for the lines, one behind another. Assumes nothing.
use Rattle.std.proofs.Common.{◌≡◌, refl, sym, ◌∙◌, ap, subst, ℕ, ◌+◌, Bool, true, false, List, [], ◌∷◌, ◌++◌, length, take, ltb, ℤ, pos, inl, inr, arith}
use mathlib.Core.List.{append-nil, append_assoc}
use lib.ListN.{drop}
use lib.Seq.{take_at, take-nil}
use Rattle.entry.specs.declared.answer.Refusal.{Refusal}
use Rattle.entry.specs.Answers.{number}
use Rattle.program.specs.declared.answers.Start.{Start}
use Rattle.std.specs.Prelude.{Option, None, Some, Result, Ok, Err, OnOk}
use Rattle.std.specs.Option.{UnwrapsOrElse}
use Rattle.std.specs.Io.KnownBytes.{Appends}
use Rattle.plane.specs.declared.rect.Rect64.{Rect64}
use Rattle.plane.specs.Limit.{rect_in_limit}
use Rattle.text.specs.Reading.{Request, unreadable, rectangle, path}
use Rattle.text.specs.Reading as reading
use Rattle.text.specs.Asked.{request}
use Rattle.program.specs.declared.input.Taken.{Taken}
use Rattle.program.specs.Taken.{before_feed, has_feed, behind_feed, has_bytes, TakesLine}
use Rattle.program.specs.Answered.{first_answer, answer, Started, start_refused, start_ready, started, start, First}
use Rattle.program.proofs.Feeds.{whole_line, none_behind}
use Rattle.program.proofs.Taken.{gives_more, line_bytes, line_none}
use Rattle.clip.specs.Printed.{answers_from, following, answers, PrintsLine, PrintsBehind, PrintsAll}
use Rattle.program.specs.Visited.{lines_of, numbered, Visits, VisitsLines}
use Rattle.program.proofs.Visiting.{lines_feed, lines_last, no_bytes_left}
use Rattle.clip.proofs.Lines.{request_cut}

-- ---- what a writer holds
pub holds_none : (held : Option (List ℕ)) → Appends held held []
holds_none None = tt
holds_none (Some xs) = sym (append-nil xs)

pub holds_more : (held₀ held held' : Option (List ℕ)) (xs ys : List ℕ) → Appends held₀ held xs → Appends held held' ys → Appends held₀ held' (xs ++ ys)
holds_more None held held' xs ys p q = tt
holds_more (Some us) None held' xs ys p q = absurd p
holds_more (Some us) (Some vs) None xs ys p q = absurd q
holds_more (Some us) (Some vs) (Some ws) xs ys p q = q ∙ ap (λ (l : List ℕ). l ++ ys) p ∙ append_assoc us xs ys

-- ---- what was printed for the lines from number n on, of something that has a rectangle and a writer of some name, which stay
module _ {S N : Type 0} (E : Type 0) (name : S → N) (rect : S → Rect64) (held : S → Option (List ℕ)) where
  abbrev pub Gives : S → ℤ → List ℕ → Result (Unit {0}) E → S → Type 0
  Gives s n l r t = OnOk r ((name t ≡ name s) × PrintsLine (rect s) (rect t) (held s) (held t) n l)

  pub printed_lines : (n : ℕ) (ls : List (List ℕ)) (s t : S) → Visits Gives (numbered 4097 n ls) s (Ok tt) t → (name t ≡ name s) × Appends (held s) (held t) (answers_from (rect s) n ls)
  printed_lines n [] s t v = (ap name v.1, subst (λ (u : S). Appends (held s) (held u) []) (sym v.1) (holds_none (held s)))
  printed_lines n (l ∷ ls) s t v = go (ltb n 9223372036854775808) refl (printed_lines (n + 1) ls)
    where
      go : (b : Bool) → ltb n 9223372036854775808 ≡ b → ((s t : S) → Visits Gives (numbered 4097 (n + 1) ls) s (Ok tt) t → (name t ≡ name s) × Appends (held s) (held t) (answers_from (rect s) (n + 1) ls))
          → (name t ≡ name s) × Appends (held s) (held t) (answers_from (rect s) n (l ∷ ls))
      go true q more =
          let w : Visits Gives ((pos n, take 4097 l) ∷ numbered 4097 (n + 1) ls) s (Ok tt) t = rw q at v in
          elim w [
            | inl (u, g, rest) ↦
                let m = more u t rest in
                let first = answer (rect s) (pos n) (request false l) in
                let cut : answer (rect s) (pos n) (request false (take 4097 l)) ≡ first = ap (answer (rect s) (pos n)) (request_cut false l) in (
                  m.0 ∙ g.0,
                  rw q (holds_more (held s) (held u) (held t) first (answers_from (rect s) (n + 1) ls) (subst (λ (k : List ℕ). Appends (held s) (held u) k) cut g.1.printed)
                      (subst (λ (R : Rect64). Appends (held u) (held t) (answers_from R (n + 1) ls)) g.1.same m.1)),
                )
            | inr (e, g, f) ↦ absurd (let z : ◌≡◌ {A = Result (Unit {0}) E} (Ok tt) (Err e) = f in cc)
          ]
      go false q more =
          let w : (◌≡◌ {A = Result (Unit {0}) E} (Ok tt) (Ok tt)) × (t ≡ s) = rw q at v in
          (ap name w.1, rw q (subst (λ (u : S). Appends (held s) (held u) []) (sym w.1) (holds_none (held s))))

  pub printed_behind : {ahead ahead' : Option (List ℕ)} {hand : List ℕ} {s t : S} {r : Result (Unit {0}) E} {held' : Option (List ℕ)} → VisitsLines Gives 4097 2 ahead ahead' hand s r t → (name t ≡ name s → held' ≡ held t)
      → OnOk r (PrintsBehind (rect s) hand ahead ahead' (held s) held')
  printed_behind {ahead} {ahead'} {hand} {s} {t} {r} {held'} v same = go r refl
    where
      go : (x : Result (Unit {0}) E) → r ≡ x → OnOk x (PrintsBehind (rect s) hand ahead ahead' (held s) held')
      go (Err e) q = tt
      go (Ok u) q =
          let p = printed_lines 2 (lines_of (hand ++ v.came)) s t (rw q at v.visited) in
          record { came = v.came; given = v.given; printed = subst (λ (h : Option (List ℕ)). Appends (held s) h (answers_from (rect s) 2 (lines_of (hand ++ v.came)))) (sym (same p.0)) p.1 }

-- ---- line 1
-- what it starts is what follows, and as many bytes are written as its answer has
pub refused_first : (asked : Request) {m k n : ℕ} → start_refused m k ≡ start asked n → (k ≡ n) × ((ls : List (List ℕ)) → following asked ls ≡ [])
refused_first unreadable e = (let z : ◌≡◌ {A = Started} _ _ = e in cc, λ ls. refl)
refused_first (path closed zs) e = (let z : ◌≡◌ {A = Started} _ _ = e in cc, λ ls. refl)
refused_first (rectangle r) {m} {k} {n} e = go (rect_in_limit r) refl
  where
    go : (b : Bool) → rect_in_limit r ≡ b → (k ≡ n) × ((ls : List (List ℕ)) → following (rectangle r) ls ≡ [])
    go true q = absurd (let z : start_refused m k ≡ start_ready r n = rw q at e in let y : ◌≡◌ {A = ℕ} 0 1 = cc in omega arith)
    go false q = (let z : start_refused m k ≡ start_refused 6 n = rw q at e in cc, λ ls. rw q refl)

pub ready_first : (asked : Request) {R : Rect64} {k n : ℕ} → start_ready R k ≡ start asked n → (k ≡ n) × ((ls : List (List ℕ)) → following asked ls ≡ answers_from R 2 ls)
ready_first unreadable {R} {k} {n} e = absurd (let z : start_ready R k ≡ start_refused 12 n = e in let y : ◌≡◌ {A = ℕ} 0 1 = cc in omega arith)
ready_first (path closed zs) {R} {k} {n} e = absurd (let z : start_ready R k ≡ start_refused 12 n = e in let y : ◌≡◌ {A = ℕ} 0 1 = cc in omega arith)
ready_first (rectangle r) {R} {k} {n} e = go (rect_in_limit r) refl
  where
    go : (b : Bool) → rect_in_limit r ≡ b → (k ≡ n) × ((ls : List (List ℕ)) → following (rectangle r) ls ≡ answers_from R 2 ls)
    go true q = (let z : start_ready R k ≡ start_ready r n = rw q at e in cc, λ ls. let z : start_ready R k ≡ start_ready r n = rw q at e in let w : r ≡ R = cc in rw q (ap (λ (u : Rect64). answers_from u 2 ls) w))
    go false q = absurd (let z : start_ready R k ≡ start_refused 6 n = rw q at e in let y : ◌≡◌ {A = ℕ} 0 1 = cc in omega arith)

-- by the answer's two parts
refused_is : {s : Start} {why : Refusal} → s.rect ≡ Err why → start_refused (number why) s.count ≡ started s
refused_is e = rw e refl

ready_is : {s : Start} {R : Rect64} → s.rect ≡ Ok R → start_ready R s.count ≡ started s
ready_is e = rw e refl

-- the first line's answer, and what follows it
none_asked : request true [] ≡ unreadable
unfolding reading.request
none_asked = refl

pub answers_all : (bytes : List ℕ) → answers (lines_of bytes) ≡ first_answer (request true (before_feed bytes)) ++ following (request true (before_feed bytes)) (lines_of (behind_feed bytes))
answers_all bytes = go (has_feed bytes) refl (has_bytes bytes) refl
  where
    go : (b : Bool) → has_feed bytes ≡ b → (t : Bool) → has_bytes bytes ≡ t
        → answers (lines_of bytes) ≡ first_answer (request true (before_feed bytes)) ++ following (request true (before_feed bytes)) (lines_of (behind_feed bytes))
    go true e t f = ap (λ (l : List ℕ). answers (lines_of l)) (sym (append-nil bytes)) ∙ ap answers (lines_feed bytes [] e) ∙ ap (λ (l : List ℕ). first_answer (request true (before_feed bytes)) ++ following (request true (before_feed bytes)) (lines_of l)) (append-nil (behind_feed bytes))
    go false e true f = ap answers (lines_last bytes e f) ∙ (λ i. first_answer (request true (sym (whole_line bytes e) i)) ++ following (request true (sym (whole_line bytes e) i)) (lines_of (sym (none_behind bytes e) i)))
    go false e false f =
        let z : bytes ≡ [] = no_bytes_left bytes f in
        rw (z, none_asked) (sym (append-nil (first_answer unreadable)))

pub from_nothing : {ahead ahead' : Option (List ℕ)} {hand line : List ℕ} {o : Option Taken} {hand' line' : List ℕ} → hand ≡ [] → TakesLine ahead ahead' hand line o hand' line' → TakesLine ahead ahead' [] line o hand' line'
from_nothing {ahead} {ahead'} {hand} {line} {o} {hand'} {line'} e t = subst (λ (h : List ℕ). TakesLine ahead ahead' h line o hand' line') e t

module _ {ahead ahead' : Option (List ℕ)} {line : List ℕ} {o : Option Taken} {hand' line' : List ℕ} (t : TakesLine ahead ahead' [] line o hand' line') (r : Taken) (first : UnwrapsOrElse o (λ t. (t.count ≡ 0) × (t.ended ≡ false)) r)
    (long : length line ≡ 4097) {out : List ℕ} {s : Start} {out' : List ℕ} (f : First (request true (take r.count line')) out s out') where
  -- the line, or an empty one where there is none
  taken : (take r.count line' ≡ take (length line) (before_feed t.came)) × (r.ended ≡ has_feed t.came)
  taken = go o refl first
    where
      none : (bytes : List ℕ) → has_bytes bytes ≡ false → ([] ≡ take (length line) (before_feed bytes)) × (false ≡ has_feed bytes)
      none [] e = (sym (take-nil (length line)), refl)
      none (b ∷ bytes) e = absurd (let z : ◌≡◌ {A = ℕ} 0 1 = cc in omega arith)

      go : (x : Option Taken) → o ≡ x → UnwrapsOrElse x (λ t. (t.count ≡ 0) × (t.ended ≡ false)) r → (take r.count line' ≡ take (length line) (before_feed t.came)) × (r.ended ≡ has_feed t.came)
      go None e q = let n = none t.came (line_none t e) in (ap (λ (k : ℕ). take k line') q.0 ∙ n.0, q.1 ∙ n.1)
      go (Some l) e q = let m = line_bytes t e in (ap (λ (l : Taken). take l.count line') q ∙ m.0, ap (λ (l : Taken). l.ended) q ∙ m.1)

  one : request true (take r.count line') ≡ request true (before_feed t.came)
  one = ap (request true) (taken.0 ∙ ap (λ (m : ℕ). take m (before_feed t.came)) long) ∙ request_cut true (before_feed t.came)

  is : started s ≡ start (request true (before_feed t.came)) (length (first_answer (request true (take r.count line'))))
  is = f.is ∙ ap (λ (a : Request). start a (length (first_answer (request true (take r.count line'))))) one

  first_bytes : (k : ℕ) → k ≡ length (first_answer (request true (take r.count line'))) → take k out' ≡ first_answer (request true (before_feed t.came))
  first_bytes k e = ap (take k) f.list_after ∙ take_at (first_answer (request true (take r.count line'))) (drop (length (first_answer (request true (take r.count line')))) out) k (sym e) ∙ ap first_answer one

  -- a refused line 1
  pub first_refused : {held held' : Option (List ℕ)} {why : Refusal} → s.rect ≡ Err why → Appends held held' (take s.count out') → PrintsAll ahead ahead' held held'
  first_refused {held} {held'} {why} e w =
      let q = refused_first (request true (before_feed t.came)) (refused_is e ∙ is) in
      record {
        came = t.came;
        given = t.given;
        printed = subst (λ (l : List ℕ). Appends held held' l)
            (first_bytes s.count q.0 ∙ sym (append-nil (first_answer (request true (before_feed t.came)))) ∙ ap (λ (l : List ℕ). first_answer (request true (before_feed t.came)) ++ l) (sym (q.1 (lines_of (behind_feed t.came)))) ∙ sym (answers_all t.came)) w;
      }

  -- the R line and no other
  pub first_alone : {held held' : Option (List ℕ)} {R : Rect64} → s.rect ≡ Ok R → Appends held held' (take s.count out') → r.ended ≡ false → PrintsAll ahead ahead' held held'
  first_alone {held} {held'} {R} e w last =
      let q = ready_first (request true (before_feed t.came)) (ready_is e ∙ is) in
      let none : lines_of (behind_feed t.came) ≡ [] = ap lines_of (none_behind t.came (sym taken.1 ∙ last)) in
      let more : following (request true (before_feed t.came)) (lines_of (behind_feed t.came)) ≡ [] = q.1 (lines_of (behind_feed t.came)) ∙ ap (answers_from R 2) none in
      record {
        came = t.came;
        given = t.given;
        printed = subst (λ (l : List ℕ). Appends held held' l)
            (first_bytes s.count q.0 ∙ sym (append-nil (first_answer (request true (before_feed t.came)))) ∙ ap (λ (l : List ℕ). first_answer (request true (before_feed t.came)) ++ l) (sym more) ∙ sym (answers_all t.came)) w;
      }

  -- and with others
  pub first_and_others : {R : Rect64} {held held' ahead'' held'' : Option (List ℕ)} → s.rect ≡ Ok R → Appends held held' (take s.count out') → r.ended ≡ true → PrintsBehind R hand' ahead' ahead'' held' held'' → PrintsAll ahead ahead'' held held''
  first_and_others {R} {held} {held'} {ahead''} {held''} e w more p =
      let q = ready_first (request true (before_feed t.came)) (ready_is e ∙ is) in
      let first = first_answer (request true (before_feed t.came)) in
      let all : answers (lines_of (t.came ++ p.came)) ≡ first ++ answers_from R 2 (lines_of (hand' ++ p.came)) =
      ap answers (lines_feed t.came p.came (sym taken.1 ∙ more))
      ∙ ap (λ (l : List ℕ). first ++ l) (q.1 (lines_of (behind_feed t.came ++ p.came)) ∙ ap (λ (l : List ℕ). answers_from R 2 (lines_of (l ++ p.came))) (sym t.left)) in
      record {
        came = t.came ++ p.came;
        given = gives_more ahead ahead' ahead'' t.came p.came t.given p.given;
        printed = subst (λ (l : List ℕ). Appends held held'' l) (sym all)
            (holds_more held held' held'' first (answers_from R 2 (lines_of (hand' ++ p.came))) (subst (λ (l : List ℕ). Appends held held' l) (first_bytes s.count q.0) w) p.printed);
      }
