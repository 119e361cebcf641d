-- What line 1 and the other lines give: the ways of the functions, each by the definition. Assumes nothing.
use Rattle.std.specs.Prelude.{Option, Some, None, IsSome, Result, Ok, Err, if◌then◌else◌}
use mathlib.Core.Path.{◌≡◌, refl, sym, ◌∙◌, ap, subst}
use mathlib.Core.Bool.{Bool, true, false}
use mathlib.Core.List.{List, [], ◌∷◌, ◌++◌, map}
use Prim.Native.Nat.{ℕ, suc, ◌/◌, ◌%◌, ◌<◌, ◌≤◌}
use native.Mathlib.Omega.{arith}
use lib.ListN.{length, take, drop, replicate, length-replicate, length-append}
use Rattle.plane.specs.declared.point.Point64.{Point64}
use lib.Seq.{take_all, take_at}
use lib.Dec.{eqb, ltb}
use lib.IntN.{ℤ, pos}
use borrow.Author.Tests.{lt-ltb, le-ltb, ltb-true, ltb-false, eqb-false, eq-eqb, ne_eqb}
use Rattle.plane.specs.declared.rect.Rect64.{Rect64}
use Rattle.plane.specs.Basics.{Try, refuse, ok}
use Rattle.plane.specs.Limit.{rect_in_limit}
use Rattle.plane.specs.Points.{coordinates_of}
use Rattle.reference.specs.Entry.{Drawing, Outcome, refused, drawn, joined, counts_of, sheet_refusal}
use Rattle.entry.specs.declared.answer.Counts.{Counts}
use Rattle.entry.specs.declared.answer.Refusal.{Refusal}
use Rattle.entry.specs.declared.answer.Refusal.TheVariants.{RectangleOutside, UnreadableLine}
use Rattle.entry.specs.Answers.{outcome, number}
use Rattle.entry.proofs.Admitting.{even_of}
use Rattle.rectclip.specs.Promises.{Leaves}
use Rattle.handheld.specs.Called.{called}
use Rattle.handheld.specs.Drawn.{clipped, handed}
use Rattle.handheld.proofs.HandsOver.{hands_over}
use Rattle.text.specs.declared.reading.Request.TheVariants.{Rectangle, Path}
use Rattle.text.specs.Reading.{Request, unreadable, rectangle, path}
use Rattle.text.specs.Asked.{told, tells, stored, led_by}
use Rattle.text.specs.Printing.{line_of, refusal_line, rectangle_line}
use Rattle.text.specs.Written.{Written}
use Rattle.text.proofs.Puts.{written_head}
use Rattle.text.proofs.Widths.{line_width}
use Rattle.program.specs.declared.answers.Start.{Start}
use Rattle.program.specs.Printed.{Gives, Begins, Holds, Printable, Prints, numbers_answer}
use Rattle.program.specs.Answered.{first_answer, Started, start_refused, start_ready, start, First, path_answer, answer}
use Rattle.program.proofs.Fits.{rectangle_width, drawing_fits}
use Rattle.program.proofs.Lines.{gives_line, some_written, filled_within}

-- a choice by a test that is told
yes : {A : Type 0} (x y : A) {b : Bool} → b ≡ true → (if b then x else y) ≡ x
yes x y e = rw e refl

no : {A : Type 0} (x y : A) {b : Bool} → b ≡ false → (if b then x else y) ≡ y
no x y e = rw e refl

pub gives_as : {xs ys : List ℕ} {out : List ℕ} {r : ℕ} {after : List ℕ} → ys ≡ xs → Gives xs out r after → Gives ys out r after
gives_as {out = out} {r = r} {after = after} e g = subst (λ (bytes : List ℕ). Gives bytes out r after) (sym e) g

-- ---- what was asked, from what `read_line` answered
pub record PathAsked (asked : Request) (closed : Bool) (count : ℕ) : Type 0 where
  pub numbers : List ℤ
  pub is : asked ≡ path closed numbers
  pub many : length numbers ≡ count

asked_path : (asked : Request) {closed : Bool} {count : ℕ} → told (Some (Path closed count)) ≡ tells asked → PathAsked asked closed count
asked_path unreadable e = absurd (let z : ◌≡◌ {A = ℕ} 0 1 = cc in omega arith)
asked_path (rectangle r) e = absurd (let z : ◌≡◌ {A = ℕ} 0 1 = cc in omega arith)
asked_path (path c zs) {closed} {count} e =
    let z : c ≡ closed = cc in
    let m : length zs ≡ count = cc in
    record { numbers = zs; is = ap (λ (b : Bool). path b zs) z; many = m }

asked_rectangle : (asked : Request) {R : Rect64} → told (Some (Rectangle R)) ≡ tells asked → asked ≡ rectangle R
asked_rectangle unreadable e = absurd (let z : ◌≡◌ {A = ℕ} 0 1 = cc in omega arith)
asked_rectangle (rectangle r) {R} e = let z : r ≡ R = cc in ap rectangle z
asked_rectangle (path closed zs) e = absurd (let z : ◌≡◌ {A = ℕ} 0 1 = cc in omega arith)

asked_nothing : (asked : Request) → told None ≡ tells asked → asked ≡ unreadable
asked_nothing unreadable e = refl
asked_nothing (rectangle r) e = absurd (let z : ◌≡◌ {A = ℕ} 0 1 = cc in omega arith)
asked_nothing (path closed zs) e = absurd (let z : ◌≡◌ {A = ℕ} 0 1 = cc in omega arith)

-- ---- line 1
module _ {out : List ℕ} {r : Start} {after : List ℕ} where
  pub first_unreadable : r.rect ≡ Err UnreadableLine → Gives (refusal_line (pos 1) 12) out r.count after → First unreadable out r after
  first_unreadable e g = record { is = rw e (ap (start_refused 12) g.count); list_after = g.list_after }

  pub first_outside : (R : Rect64) → rect_in_limit R ≡ false → r.rect ≡ Err RectangleOutside → Gives (refusal_line (pos 1) 6) out r.count after → First (rectangle R) out r after
  first_outside R l e g = record { is = rw (e, l) (ap (start_refused 6) g.count); list_after = rw l g.list_after }

pub first_ready : {out : List ℕ} {w : Option ℕ} {n : ℕ} {after : List ℕ} → length out ≡ 128 → (R : Rect64) → rect_in_limit R ≡ true → Written (rectangle_line R) out w after → w ≡ Some n
    → First (rectangle R) out (record { rect = Ok R; count = n }) after
first_ready room R e w q =
    let g = gives_line (omega (arith, room, rectangle_width R)) w q in
    record { is = rw e (ap (start_ready R) g.count); list_after = rw e g.list_after }

-- how many bytes are written
abbrev pub bytes_of : Started → ℕ
bytes_of (start_refused number n) = n
bytes_of (start_ready r n) = n

pub first_within : {asked : Request} {out : List ℕ} {r : Start} {after : List ℕ} → First asked out r after → r.count ≤ length after
first_within {asked} {out} {r} f = filled_within (first_answer asked) out (sym (count_of r.rect) ∙ ap bytes_of f.is ∙ bytes asked (length (first_answer asked))) f.list_after
  where
    count_of : (x : Result Rect64 Refusal) → bytes_of (elim x [ Err why ↦ start_refused (number why) r.count | Ok R ↦ start_ready R r.count ]) ≡ r.count
    count_of (Ok R) = refl
    count_of (Err why) = refl

    bytes : (asked : Request) (n : ℕ) → bytes_of (start asked n) ≡ n
    bytes unreadable n = refl
    bytes (path closed zs) n = refl
    bytes (rectangle r) n = go (rect_in_limit r)
      where
        go : (b : Bool) → bytes_of (if b then start_ready r n else start_refused 6 n) ≡ n
        go true = refl
        go false = refl

-- by what `read_line` answered
module _ {asked : Request} {out : List ℕ} {r : Start} {after : List ℕ} where
  pub first_by_rectangle : {R : Rect64} → told (Some (Rectangle R)) ≡ tells asked → First (rectangle R) out r after → First asked out r after
  first_by_rectangle {R} e f = subst (λ (a : Request). First a out r after) (sym (asked_rectangle asked e)) f

  pub first_by_nothing : told None ≡ tells asked → First unreadable out r after → First asked out r after
  first_by_nothing e f = subst (λ (a : Request). First a out r after) (sym (asked_nothing asked e)) f

  pub first_by_path : {closed : Bool} {count : ℕ} → told (Some (Path closed count)) ≡ tells asked → First unreadable out r after → First asked out r after
  first_by_path {closed} {count} e f =
      let q = asked_path asked e in
      subst (λ (a : Request). First a out r after) (sym q.is) (record { is = f.is; list_after = f.list_after })

-- ---- the other lines
-- X, the line and the number, by the line's number as it came
pub refused_line : {x y : ℤ} (n : ℕ) {out : List ℕ} {r : ℕ} {after : List ℕ} → x ≡ y → Gives (refusal_line x n) out r after → Gives (refusal_line y n) out r after
refused_line n e g = gives_as (ap (λ (z : ℤ). refusal_line z n) (sym e)) g

-- the refusal's line where it is written
why_fits : (x y : ℤ) (out : List ℕ) → 46 ≤ length out → length (line_of 88 (x ∷ y ∷ [])) ≤ length out
why_fits x y out h = omega (arith, h, line_width 88 (x ∷ y ∷ []))

pub why_some : (x y : ℤ) {out : List ℕ} {w : Option ℕ} {after : List ℕ} → 46 ≤ length out → Written (line_of 88 (x ∷ y ∷ [])) out w after → IsSome w
why_some x y {out} h v = some_written (why_fits x y out h) v

pub why_written : {x y line : ℤ} {n : ℕ} {out : List ℕ} {w : Option ℕ} {r : ℕ} {after : List ℕ} → x ≡ line → y ≡ pos n → 46 ≤ length out
    → Written (line_of 88 (x ∷ y ∷ [])) out w after → w ≡ Some r → Gives (refusal_line line n) out r after
why_written {line = line} {n = n} {out = out} e f h v q = gives_line (why_fits line (pos n) out h) (written_head 88 [] e f v) q

-- ---- what is written of a clipper's answer
-- the drawing that the lists hold
pub record Drew (t : Try Drawing) (c : Counts) (C : List ℤ) (N : List ℕ) : Type 0 where
  pub drawing : Drawing
  pub is : t ≡ ok drawing
  pub many : c.paths ≡ length drawing.0
  pub points : Begins (coordinates_of (joined drawing.0)) C
  pub counts : Begins (map length drawing.0) N

module _ {r : Result Counts Refusal} (C₀ : List ℤ) {C : List ℤ} (N₀ : List ℕ) {N : List ℕ} where
  refused_by : (t : Try Drawing) → ◌≡◌ {A = Outcome × List ℤ × List ℕ} (outcome r, C, N) (handed C₀ N₀ t) → (why : Refusal) → r ≡ Err why → t ≡ refuse (number why)
  refused_by (refuse n) e why q = let z : refused (number why) ≡ refused n = sym (ap outcome q) ∙ ap (λ (x : Outcome × List ℤ × List ℕ). x.0) e in let m : number why ≡ n = cc in ap refuse (sym m)
  refused_by (ok d) e why q =
      let z : refused (number why) ≡ counts_of d = sym (ap outcome q) ∙ ap (λ (x : Outcome × List ℤ × List ℕ). x.0) e in
      absurd (let y : ◌≡◌ {A = ℕ} 0 1 = cc in omega arith)

  drew_by : (t : Try Drawing) → ◌≡◌ {A = Outcome × List ℤ × List ℕ} (outcome r, C, N) (handed C₀ N₀ t) → (c : Counts) → r ≡ Ok c → Drew t c C N
  drew_by (refuse n) e c q =
      let z : drawn c.paths c.points c.turns ≡ refused n = sym (ap outcome q) ∙ ap (λ (x : Outcome × List ℤ × List ℕ). x.0) e in
      absurd (let y : ◌≡◌ {A = ℕ} 0 1 = cc in omega arith)
  drew_by (ok d) e c q =
      let z : drawn c.paths c.points c.turns ≡ counts_of d = sym (ap outcome q) ∙ ap (λ (x : Outcome × List ℤ × List ℕ). x.0) e in
      let m : c.paths ≡ length d.0 = cc in
      record {
        drawing = d;
        is = refl;
        many = m;
        points = record { others = drop (length (coordinates_of (joined d.0))) C₀; is = ap (λ (x : Outcome × List ℤ × List ℕ). x.1) e };
        counts = record { others = drop (length (map length d.0)) N₀; is = ap (λ (x : Outcome × List ℤ × List ℕ). x.2) e };
      }

length-map : (ps : List (List Point64)) → length (map length ps) ≡ length ps
length-map [] = refl
length-map (p ∷ ps) = ap suc (length-map ps)

-- lists of the program's size
module _ (closed : Bool) (line : ℤ) (R : Rect64) (zs : List ℤ) (short : length zs ≤ 256) {r : Result Counts Refusal} {C : List ℤ} {N : List ℕ} (k : Leaves (called closed R zs (replicate 512 (pos 0)) (replicate 257 0)) r C N) where
  over : ◌≡◌ {A = Outcome × List ℤ × List ℕ} (outcome r, C, N) (handed (replicate 512 (pos 0)) (replicate 257 0) (clipped closed R zs))
  over = hands_over closed R zs (replicate 512 (pos 0)) (replicate 257 0) r C N (omega (arith, short)) (length-replicate {A = ℤ} 512 (pos 0)) (length-replicate {A = ℕ} 257 0) k

  pub path_refused : (why : Refusal) {out : List ℕ} {n : ℕ} {after : List ℕ} → r ≡ Err why → Gives (refusal_line line (number why)) out n after → Gives (path_answer closed line (clipped closed R zs)) out n after
  path_refused why e g = gives_as (ap (path_answer closed line) (refused_by (replicate 512 (pos 0)) (replicate 257 0) (clipped closed R zs) over why e)) g

  module _ (c : Counts) (e : r ≡ Ok c) where
    drew : Drew (clipped closed R zs) c C N
    drew = drew_by (replicate 512 (pos 0)) (replicate 257 0) (clipped closed R zs) over c e

    -- as many lengths as paths
    pub paths_here : c.paths ≤ length N
    paths_here = omega (arith, drew.many, ap length drew.counts.is, length-append (map length drew.drawing.0) drew.counts.others, length-map drew.drawing.0)

    holds : (out : List ℕ) → length out ≡ 12288 → Holds closed line C (take c.paths N) out drew.drawing.0
    holds out room = record { points = drew.points; counts = counts drew.drawing.0 drew.counts.others drew.many drew.counts.is; room = omega (arith, room, drawing_fits closed line R zs drew.drawing drew.is) }
      where
        counts : (ps : List (List Point64)) (others : List ℕ) → c.paths ≡ length ps → N ≡ map length ps ++ others → take c.paths N ≡ map length ps
        counts ps others m e = ap (take c.paths) e ∙ take_at (map length ps) others c.paths (length-map ps ∙ sym m)

    pub path_printable : (out : List ℕ) → length out ≡ 12288 → Printable closed line C (take c.paths N) out
    path_printable out room = record { paths = drew.drawing.0; holds = holds out room }

    pub path_drawn : (out : List ℕ) {n : ℕ} {after : List ℕ} → length out ≡ 12288 → Prints closed line C (take c.paths N) out n after → Gives (path_answer closed line (clipped closed R zs)) out n after
    path_drawn out room p = gives_as (ap (path_answer closed line) drew.is) (p.is drew.drawing.0 (holds out room))

-- ---- a path of so many numbers
pub answer_as : (closed : Bool) {x y : ℤ} (t : Try Drawing) {out : List ℕ} {n : ℕ} {after : List ℕ} → x ≡ y → Gives (path_answer closed x t) out n after → Gives (path_answer closed y t) out n after
answer_as closed t {out} {n} {after} e g = subst (λ (z : ℤ). Gives (path_answer closed z t) out n after) e g

module _ (R : Rect64) (line : ℤ) (closed : Bool) (count : ℕ) (zs : List ℤ) {out : List ℕ} {n : ℕ} {after : List ℕ} where
  pub path_odd : count % 2 ≡ 1 → Gives (refusal_line line 1) out n after → Gives (numbers_answer R line closed count zs) out n after
  path_odd h g = gives_as (yes _ _ (eq-eqb (count % 2) 1 h)) g

  pub path_long : (count % 2 ≡ 1 → ⊥) → 256 < count → Gives (refusal_line line 5) out n after → Gives (numbers_answer R line closed count zs) out n after
  path_long h f g = gives_as (no _ _ (ne_eqb (count % 2) 1 h) ∙ yes _ _ (lt-ltb 256 count f)) g

  pub path_short : (count % 2 ≡ 1 → ⊥) → count ≤ 256 → Gives (path_answer closed line (clipped closed R zs)) out n after → Gives (numbers_answer R line closed count zs) out n after
  path_short h f g = gives_as (no _ _ (ne_eqb (count % 2) 1 h) ∙ no _ _ (le-ltb 256 count f)) g

-- the checks on the count are the first of `clipped`
numbers_are : (R : Rect64) (line : ℤ) (closed : Bool) (zs : List ℤ) → path_answer closed line (clipped closed R zs) ≡ numbers_answer R line closed (length zs) zs
unfolding clipped sheet_refusal
numbers_are R line closed zs = go (eqb (length zs % 2) 1) refl (ltb 256 (length zs)) refl
  where
    go : (a : Bool) → eqb (length zs % 2) 1 ≡ a → (b : Bool) → ltb 256 (length zs) ≡ b → path_answer closed line (clipped closed R zs) ≡ numbers_answer R line closed (length zs) zs
    go true p b q = rw p refl
    go false p true q = let m : 128 < length zs / 2 = omega (arith, ltb-true 256 (length zs) q, even_of (length zs) (eqb-false (length zs % 2) 1 p)) in rw (p, q, lt-ltb 128 (length zs / 2) m) refl
    go false p false q = rw (p, q) refl

-- the numbers that were read stand at the list's front, where they are no more than it can hold
numbers_read : (R : Rect64) (line : ℤ) (closed : Bool) (zs list : List ℤ) → 256 ≤ length list
    → numbers_answer R line closed (length zs) zs ≡ numbers_answer R line closed (length zs) (take (length zs) (led_by zs list))
numbers_read R line closed zs list h = go (ltb 256 (length zs)) refl
  where
    go : (b : Bool) → ltb 256 (length zs) ≡ b → numbers_answer R line closed (length zs) zs ≡ numbers_answer R line closed (length zs) (take (length zs) (led_by zs list))
    go true e = rw e refl
    go false e =
        let m = ltb-false 256 (length zs) e in
        let all : take (length list) zs ≡ zs = take_all (length list) zs (omega (arith, m, h)) in
        let q : take (length zs) (led_by zs list) ≡ zs = ap (λ (l : List ℤ). take (length zs) (l ++ drop (length zs) list)) all ∙ take_at zs (drop (length zs) list) (length zs) refl in
        ap (numbers_answer R line closed (length zs)) (sym q)

-- by what `read_line` answered
module _ (R : Rect64) (line : ℤ) (asked : Request) {out : List ℕ} {n : ℕ} {after : List ℕ} where
  pub answer_nothing : told None ≡ tells asked → Gives (refusal_line line 12) out n after → Gives (answer R line asked) out n after
  answer_nothing e g = gives_as (ap (answer R line) (asked_nothing asked e)) g

  pub answer_rectangle : {r : Rect64} → told (Some (Rectangle r)) ≡ tells asked → Gives (refusal_line line 12) out n after → Gives (answer R line asked) out n after
  answer_rectangle e g = gives_as (ap (answer R line) (asked_rectangle asked e)) g

  pub answer_path : {closed : Bool} {count : ℕ} (list : List ℤ) {list' : List ℤ} {x : ℤ} → told (Some (Path closed count)) ≡ tells asked → 256 ≤ length list → list' ≡ led_by (stored asked) list → x ≡ line
      → Gives (numbers_answer R x closed count (take count list')) out n after → Gives (answer R line asked) out n after
  answer_path {closed} {count} list {list'} {x} e h f same g =
      let q = asked_path asked e in
      let z : list' ≡ led_by q.numbers list = f ∙ ap (λ (a : Request). led_by (stored a) list) q.is in
      gives_as (ap (answer R line) q.is ∙ numbers_are R line closed q.numbers ∙ numbers_read R line closed q.numbers list h ∙ (λ i. numbers_answer R (sym same i) closed (q.many i) (take (q.many i) (sym z i)))) g
