-- Two paths within the limits that the clipper of their kind draws alike are answered alike by its entry, and by its exported entry if that takes both:
-- refusals 1, 5 and 7 come for neither, 2, 3, 4 and 6 do not look at the path, and 8, 10 and 11 follow from the drawing.
use Rattle.std.specs.Prelude.{if◌then◌else◌}
use mathlib.Core.Path.{◌≡◌, refl, sym, ◌∙◌, ap, subst}
use mathlib.Core.Bool.{Bool, true, false, not, ◌||◌}
use mathlib.Core.List.{List, [], ◌∷◌, map}
use Prim.Native.Nat.{ℕ, ◌+◌, ◌*◌, ◌/◌, ◌%◌}
use native.Mathlib.Omega.{arith}
use lib.ListN.{length}
use lib.Dec.{T, eqb, ltb}
use lib.IntN.{ℤ}
use borrow.Author.Tests.{le-ltb, eq-eqb, ne_eqb}
use Rattle.plane.specs.declared.point.Point64.{Point64}
use Rattle.plane.specs.declared.rect.Rect64.{Rect64}
use Rattle.plane.specs.Basics.{Try, refuse, ok}
use Rattle.plane.specs.Limit.{Limited, rect_in_limit, all_in_limit}
use Rattle.plane.specs.Points.{points_of, coordinates_of}
use Rattle.reference.specs.Walk.{no_room}
use Rattle.reference.specs.Exported.{bits, read_words, words, Bytes, exported}
use Rattle.reference.specs.Entry.{Drawing, joined, filled, sheet_refusal, early_refusal, Lent, answered, drawing_of, clip_closed, clip_open, clip_path}
use Rattle.theorems.specs.Detour.{WithinLimits, Encodes, SameAnswers}
use Rattle.theorems.proofs.Holds.{All}
use Rattle.theorems.proofs.Demand.{points_limited}
use Rattle.theorems.proofs.FoldPoints.{cond_no}
use Rattle.theorems.proofs.Tests.{never, true_of}

-- ---- a path and its coordinates
points_back : (path : List Point64) → points_of (coordinates_of path) ≡ path
points_back [] = refl
points_back (p ∷ path) = ap (λ (ps : List Point64). p ∷ ps) (points_back path)

pub limits_of : (path : List Point64) → T (all_in_limit (coordinates_of path)) → All Limited path
limits_of path h = subst (All Limited) (points_back path) (points_limited (coordinates_of path) h)

twice : (path : List Point64) → length (coordinates_of path) ≡ 2 * length path
twice [] = refl
twice (p ∷ path) = omega (arith, twice path)

-- ---- the early refusals
module _ (W A work : ℕ) (r : Rect64) where
  -- what is left of them for a path within the limits
  abbrev other_refusals : ℕ
  other_refusals = if ltb 65536 W then 2 else if ltb 65535 A then 3 else if ltb work (16 * (W + A + 1)) then 4 else if not (rect_in_limit r) then 6 else 0

  early_is : (path : List Point64) → WithinLimits path → early_refusal W A work r (coordinates_of path) ≡ other_refusals
  unfolding early_refusal sheet_refusal
  early_is path h = λ i. if odd i then 1 else if ltb 65536 W then 2 else if ltb 65535 A then 3 else if ltb work (16 * (W + A + 1)) then 4 else if few i then 5 else if not (rect_in_limit r) then 6 else if not (limited i) then 7 else 0
    where
      odd : eqb (length (coordinates_of path) % 2) 1 ≡ false
      odd = ne_eqb (length (coordinates_of path) % 2) 1 (λ e. omega (arith, twice path))

      few : ltb 4096 (length (coordinates_of path) / 2) ≡ false
      few = le-ltb 4096 (length (coordinates_of path) / 2) (omega (arith, twice path, h.few))

      limited : all_in_limit (coordinates_of path) ≡ true
      limited = true_of (all_in_limit (coordinates_of path)) h.limited

  -- none of them is left: the rectangle is in the limit
  in_limit_of : eqb other_refusals 0 ≡ true → T (rect_in_limit r)
  in_limit_of = go (ltb 65536 W) (ltb 65535 A) (ltb work (16 * (W + A + 1))) (rect_in_limit r)
    where
      go : (a b c d : Bool) → eqb (if a then 2 else if b then 3 else if c then 4 else if not d then 6 else 0) 0 ≡ true → T d
      go true b c d e = never e refl
      go false true c d e = never e refl
      go false false true d e = never e refl
      go false false false false e = never e refl
      go false false false true e = tt

answered_same : (l : Lent) (n n' : ℕ) (d d' : Try Drawing) → n ≡ n' → (eqb n' 0 ≡ true → d ≡ d') → answered l n d ≡ answered l n' d'
unfolding answered
answered_same l n n' d d' e f = ap (λ (n : ℕ). answered l n d) e ∙ go (eqb n' 0) refl
  where
    go : (b : Bool) → eqb n' 0 ≡ b → answered l n' d ≡ answered l n' d'
    go true g = ap (answered l n') (f g)
    go false g = cond_no (eqb n' 0) _ _ g ∙ sym (cond_no (eqb n' 0) _ _ g)

-- ---- the entry of a path's kind; lines have no allowance
pub call_is : (closed : Bool) (A : ℕ) (r : Rect64) (coords : List ℤ) (l : Lent)
    → clip_path closed A r coords l ≡ answered l (early_refusal (length l.store / 2) (if closed then A else 0) (length l.work) r coords) (drawing_of closed (no_room (length l.store / 2)) A r (points_of coords))
unfolding clip_closed clip_open
call_is true A r coords l = refl
call_is false A r coords l = refl

-- ---- the exported entry of a kind, of its early refusal and the drawing
abbrev sent : List ℕ → List ℕ → List ℕ → ℕ → Try Drawing → Bytes
sent coordinates lengths counts early drawing =
    let refused : ℕ → Bytes = λ n. (n, coordinates, lengths, counts) in
    let all : Drawing → Bytes = λ d.
    let c = words (map bits (coordinates_of (joined d.0))) in
    let n = words (map length d.0) in
    let k = words (length d.0 ∷ length (joined d.0) ∷ d.1 ∷ []) in
    if ltb (length coordinates) (length c) || ltb (length lengths) (length n) || ltb (length counts) 12 then refused 11
    else (0, filled c coordinates, filled n lengths, filled k counts) in
    if eqb early 0 then elim drawing [ refuse n ↦ refused n | ok d ↦ all d ] else refused early

module _ (closed : Bool) (r : Rect64) (path : List Point64) (h : T (all_in_limit (coordinates_of path))) (bytes coordinates lengths counts : List ℕ) (e : Encodes bytes path) where
  sent_is : exported closed r bytes coordinates lengths counts ≡ sent coordinates lengths counts (if not (rect_in_limit r) then 6 else 0) (drawing_of closed (no_room 256) 256 r path)
  unfolding exported sheet_refusal
  sent_is = λ i. sent coordinates lengths counts (if not (whole i) then 1 else if few i then 5 else if not (rect_in_limit r) then 6 else if not (limited i) then 7 else 0) (drawing_of closed (no_room 256) 256 r (drawn i))
    where
      whole : eqb (length bytes % 8) 0 ≡ true
      whole = eq-eqb (length bytes % 8) 0 (omega (arith, e.whole))

      few : ltb 128 (length (read_words bytes) / 2) ≡ false
      few = le-ltb 128 (length (read_words bytes) / 2) (omega (arith, twice path, ap length e.words, e.short))

      limited : all_in_limit (read_words bytes) ≡ true
      limited = ap all_in_limit e.words ∙ true_of (all_in_limit (coordinates_of path)) h

      drawn : points_of (read_words bytes) ≡ path
      drawn = ap points_of e.words ∙ points_back path

sent_same : (b : Bool) (coordinates lengths counts : List ℕ) (d d' : Try Drawing) → (T b → d ≡ d') → sent coordinates lengths counts (if not b then 6 else 0) d ≡ sent coordinates lengths counts (if not b then 6 else 0) d'
sent_same true coordinates lengths counts d d' e = ap (sent coordinates lengths counts 0) (e tt)
sent_same false coordinates lengths counts d d' e = refl

pub same_answers : (closed : Bool) (r : Rect64) (path path' : List Point64) → WithinLimits path → WithinLimits path'
    → (T (rect_in_limit r) → (full : ℕ → Bool) (A : ℕ) → drawing_of closed full A r path ≡ drawing_of closed full A r path') → SameAnswers closed r path path'
same_answers closed r path path' w w' same = record { clipper = same; entry = entry; export = export }
  where
    entry : (A : ℕ) (l : Lent) → clip_path closed A r (coordinates_of path) l ≡ clip_path closed A r (coordinates_of path') l
    entry A l =
        let W = length l.store / 2 in
        let B = if closed then A else 0 in
        let n = early_is W B (length l.work) r path w in
        let n' = early_is W B (length l.work) r path' w' in
        call_is closed A r (coordinates_of path) l
        ∙ answered_same l _ _ _ _ (n ∙ sym n')
        (λ e. ap (drawing_of closed (no_room W) A r) (points_back path)
        ∙ same (in_limit_of W B (length l.work) r (ap (λ (n : ℕ). eqb n 0) (sym n') ∙ e)) (no_room W) A
        ∙ sym (ap (drawing_of closed (no_room W) A r) (points_back path')))
        ∙ sym (call_is closed A r (coordinates_of path') l)

    export : (bytes bytes' coordinates lengths counts : List ℕ) → Encodes bytes path → Encodes bytes' path' → exported closed r bytes coordinates lengths counts ≡ exported closed r bytes' coordinates lengths counts
    export bytes bytes' coordinates lengths counts e e' =
        sent_is closed r path w.limited bytes coordinates lengths counts e
        ∙ sent_same (rect_in_limit r) coordinates lengths counts _ _ (λ h. same h (no_room 256) 256)
        ∙ sym (sent_is closed r path' w'.limited bytes' coordinates lengths counts e')
