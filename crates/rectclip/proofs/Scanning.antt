-- `get_next_location`: the scan of points past a side's line, and the points that are added from inside. Assumes nothing.
use Rattle.std.specs.Prelude.{if◌then◌else◌}
use mathlib.Core.Path.{◌≡◌, refl, sym, ◌∙◌, ap}
use mathlib.Core.Bool.{Bool, true, false, cond}
use mathlib.Core.List.{List, [], ◌∷◌}
use Prim.Native.Nat.{ℕ, suc, ◌+◌, ◌*◌, ◌/◌, ◌<◌, ◌≤◌, max}
use native.Mathlib.Omega.{arith}
use native.Mathlib.Numerals.{add-one}
use native.Mathlib.Decide.{ℕ_discrete}
use borrow.Author.Tests.{le-leb, lt-leb}
use lib.ListN.{length, get_or, drop, drop_of_length-le}
use lib.Seq.{drop-cons}
use lib.IntN.{ℤ, pos}
use Rattle.plane.specs.declared.point.Point64.{Point64}
use Rattle.plane.specs.declared.rect.Rect64.{Rect64}
use Rattle.plane.specs.declared.location.Location.{Location}
use Rattle.plane.specs.declared.location.Location.TheVariants.{Left, Top, Right, Bottom, Inside}
use Rattle.plane.specs.Basics.{lead, refuse, ok}
use Rattle.plane.specs.Locations.{is_inside, opposite, lower, upper}
use Rattle.plane.specs.Points.{origin, pt_at, points_of}
use Rattle.plane.specs.Rectangle.{beyond, beyond_or_on}
use Rattle.reference.specs.Walk.{Walk, add, next_side, next_outside, next_inside, get_next_location}
use Rattle.rectclip.specs.declared.next.Line.{Line}
use Rattle.rectclip.specs.Moving.{past, past_line, exit_side, LineOf, placed}
use Rattle.rectclip.proofs.Coordinates.{points_at, points_length}

-- ---- how many entries from i on pass a test
module _ {A : Type 0} (test : A → Bool) (P : List A) (i : ℕ) where
  pub lead_on : (d : A) → i < length P → test (get_or P i d) ≡ true → i + lead test (drop i P) ≡ i + 1 + lead test (drop (i + 1) P)
  lead_on d h e = rw (drop-cons P i d h, e, add-one i) (omega arith)

  pub lead_off : (d : A) → i < length P → test (get_or P i d) ≡ false → i + lead test (drop i P) ≡ i
  lead_off d h e = rw (drop-cons P i d h, e) (omega arith)

  pub lead_end : length P ≤ i → i + lead test (drop i P) ≡ i
  lead_end h = rw (drop_of_length-le P h) (omega arith)

lead_as : {A : Type 0} (f g : A → Bool) (l : List A) → ((a : A) → f a ≡ g a) → lead f l ≡ lead g l
lead_as f g [] e = refl
lead_as f g (x ∷ l) e = λ j. cond (e x j) (suc (lead_as f g l e j)) 0

-- ---- the coordinate that a line bounds
pub line_at : (l : Line) (path : List ℤ) (i : ℕ) → l.offset ≤ 1 → i < length path / 2 → past l (get_or path (2 * i + l.offset) (pos 0)) ≡ past_line l (pt_at (points_of path) i)
line_at l path i h hi =
    rw (points_at path i (omega arith))
    (elim (ℕ_discrete l.offset 0) [
      | yes e ↦ let z : 2 * i + 0 ≡ 2 * i = omega arith in rw (e, z) refl
      | no q ↦ let e : l.offset ≡ 1 = omega arith in rw e refl
    ])

-- ---- the scan
pub record Scanning (path : List ℤ) (line : Line) (from i : ℕ) : Type 0 where
  pub goal : i + lead (past_line line) (drop i (points_of path)) ≡ from + lead (past_line line) (drop from (points_of path))
  pub forth : from ≤ i
  pub here : i ≤ max from (length path / 2)

module _ {path : List ℤ} {line : Line} {from i : ℕ} (I : Scanning path line from i) where
  module _ (o : line.offset ≤ 1) (h : i < length path / 2) {v : ℤ} (ev : v ≡ get_or path (2 * i + line.offset) (pos 0)) {b : Bool} (eb : b ≡ past line v) where
    told : b ≡ past_line line (pt_at (points_of path) i)
    told = eb ∙ ap (past line) ev ∙ line_at line path i o h

    pub scan_stops : b ≡ false → i ≡ from + lead (past_line line) (drop from (points_of path))
    scan_stops e = sym (lead_off (past_line line) (points_of path) i origin (rw (points_length path) h) (sym told ∙ e)) ∙ I.goal

    pub scan_again : b ≡ true → Scanning path line from (i + 1)
    scan_again e = record { goal = sym (lead_on (past_line line) (points_of path) i origin (rw (points_length path) h) (sym told ∙ e)) ∙ I.goal; forth = omega (arith, I.forth); here = omega arith }

  pub scan_ends : length path / 2 ≤ i → {r : ℕ} → r ≡ max from (length path / 2) → r ≡ from + lead (past_line line) (drop from (points_of path))
  scan_ends h e = let f : max from (length path / 2) ≡ i = omega (arith, I.forth, I.here) in e ∙ f ∙ sym (lead_end (past_line line) (points_of path) i (rw (points_length path) h)) ∙ I.goal

-- ---- where a point is, seen from a side
module _ (rect : Rect64) (s : Location) (p : Point64) {x : Location} (ex : x ≡ opposite s) {a : Bool} (ea : a ≡ beyond_or_on rect x p) where
  first_test : {t : Bool} → a ≡ t → beyond_or_on rect (opposite s) p ≡ t
  first_test h = rw ex at (sym ea ∙ h)

  pub side_across : a ≡ true → x ≡ next_side rect s p
  unfolding next_side
  side_across h = rw (first_test h) ex

  module _ (ha : a ≡ false) {y : Location} (ey : y ≡ lower s) {b : Bool} (eb : b ≡ beyond_or_on rect y p) where
    second_test : {t : Bool} → b ≡ t → beyond_or_on rect (lower s) p ≡ t
    second_test h = rw ey at (sym eb ∙ h)

    pub side_lower : b ≡ true → y ≡ next_side rect s p
    unfolding next_side
    side_lower h = rw (first_test ha, second_test h) ey

    module _ (hb : b ≡ false) {z : Location} (ez : z ≡ upper s) {c : Bool} (ec : c ≡ beyond_or_on rect z p) where
      third_test : {t : Bool} → c ≡ t → beyond_or_on rect (upper s) p ≡ t
      third_test h = rw ez at (sym ec ∙ h)

      pub side_upper : c ≡ true → z ≡ next_side rect s p
      unfolding next_side
      side_upper h = rw (first_test ha, second_test hb, third_test h) ez

      pub side_inside : c ≡ false → Inside ≡ next_side rect s p
      unfolding next_side
      side_inside h = rw (first_test ha, second_test hb, third_test h) refl

-- ---- from outside
module _ {rect : Rect64} {loc : Location} {line : Line} (D : LineOf rect loc line) (path : List ℤ) (from : ℕ) {i : ℕ} (e : i ≡ from + lead (past_line line) (drop from (points_of path))) where
  there : i ≡ from + lead (beyond_or_on rect loc) (drop from (points_of path))
  there = e ∙ ap (λ (k : ℕ). from + k) (lead_as (past_line line) (beyond_or_on rect loc) (drop from (points_of path)) D.test)

  pub outside_past : length path / 2 ≤ i → (w : Walk) → placed w (record { loc = loc; i = i }) ≡ next_outside rect (points_of path) w loc from
  unfolding next_outside
  outside_past h w = rw (← there, le-leb (length (points_of path)) i (rw (points_length path) h)) refl

  pub outside_met : i < length path / 2 → {p : Point64} → p ≡ pt_at (points_of path) i → {q : Location} → q ≡ next_side rect loc p
      → (w : Walk) → placed w (record { loc = q; i = i }) ≡ next_outside rect (points_of path) w loc from
  unfolding next_outside
  outside_met h ep eq w = rw (eq, ep, ← there, lt-leb (length (points_of path)) i (rw (points_length path) h)) refl

pub next_as_outside : (full : ℕ → Bool) (rect : Rect64) (P : List Point64) (w : Walk) (loc : Location) (i : ℕ) → is_inside loc ≡ false
    → ok (next_outside rect P w loc i) ≡ get_next_location full rect P w loc i
unfolding get_next_location
next_as_outside full rect P w Left i h = refl
next_as_outside full rect P w Top i h = refl
next_as_outside full rect P w Right i h = refl
next_as_outside full rect P w Bottom i h = refl
next_as_outside full rect P w Inside i h = absurd (let z : ◌≡◌ {A = ℕ} 0 1 = cc in omega arith)

pub next_as_inside : (full : ℕ → Bool) (rect : Rect64) (P : List Point64) (w : Walk) (loc : Location) (i : ℕ) → is_inside loc ≡ true
    → next_inside full rect w i (drop i P) ≡ get_next_location full rect P w loc i
unfolding get_next_location
next_as_inside full rect P w Inside i h = refl
next_as_inside full rect P w Left i h = absurd (let z : ◌≡◌ {A = ℕ} 0 1 = cc in omega arith)
next_as_inside full rect P w Top i h = absurd (let z : ◌≡◌ {A = ℕ} 0 1 = cc in omega arith)
next_as_inside full rect P w Right i h = absurd (let z : ◌≡◌ {A = ℕ} 0 1 = cc in omega arith)
next_as_inside full rect P w Bottom i h = absurd (let z : ◌≡◌ {A = ℕ} 0 1 = cc in omega arith)

-- ---- from inside: one point, by the side that it is beyond
abbrev side_of : Bool → Bool → Bool → Bool → Location
side_of a b c d = if a then Left else if b then Right else if c then Bottom else if d then Top else Inside

abbrev by_side : {A : Type 0} → Bool → Bool → Bool → Bool → (Location → A) → A → A
by_side a b c d x y = if a then x Left else if b then x Right else if c then x Bottom else if d then x Top else y

by_side_out : {A : Type 0} (a b c d : Bool) (x : Location → A) (y : A) → is_inside (side_of a b c d) ≡ false → x (side_of a b c d) ≡ by_side a b c d x y
by_side_out true b c d x y h = refl
by_side_out false true c d x y h = refl
by_side_out false false true d x y h = refl
by_side_out false false false true x y h = refl
by_side_out false false false false x y h = absurd (let z : ◌≡◌ {A = ℕ} 0 1 = cc in omega arith)

by_side_in : {A : Type 0} (a b c d : Bool) (x : Location → A) (y : A) → is_inside (side_of a b c d) ≡ true → y ≡ by_side a b c d x y
by_side_in true b c d x y h = absurd (let z : ◌≡◌ {A = ℕ} 0 1 = cc in omega arith)
by_side_in false true c d x y h = absurd (let z : ◌≡◌ {A = ℕ} 0 1 = cc in omega arith)
by_side_in false false true d x y h = absurd (let z : ◌≡◌ {A = ℕ} 0 1 = cc in omega arith)
by_side_in false false false true x y h = absurd (let z : ◌≡◌ {A = ℕ} 0 1 = cc in omega arith)
by_side_in false false false false x y h = refl

module _ (full : ℕ → Bool) (rect : Rect64) (P : List Point64) (w : Walk) (i : ℕ) where
  module _ (h : i < length P) where
    pub inside_out : is_inside (exit_side rect (pt_at P i)) ≡ false → ok (record { walk = w; loc = exit_side rect (pt_at P i); i = i }) ≡ next_inside full rect w i (drop i P)
    unfolding next_inside
    inside_out e = let p = pt_at P i in rw (drop-cons P i origin h) (by_side_out (beyond rect Left p) (beyond rect Right p) (beyond rect Bottom p) (beyond rect Top p) (λ s. ok (record { walk = w; loc = s; i = i })) _ e)

    pub inside_go : (v : Walk) → is_inside (exit_side rect (pt_at P i)) ≡ true → ok v ≡ add full w (pt_at P i) false → next_inside full rect v (i + 1) (drop (i + 1) P) ≡ next_inside full rect w i (drop i P)
    unfolding next_inside
    inside_go v e q =
        let p = pt_at P i in
        rw (drop-cons P i origin h, ← q, add-one i) (by_side_in (beyond rect Left p) (beyond rect Right p) (beyond rect Bottom p) (beyond rect Top p) (λ s. ok (record { walk = w; loc = s; i = i })) _ e)

    pub inside_stop : (n : ℕ) → is_inside (exit_side rect (pt_at P i)) ≡ true → refuse n ≡ add full w (pt_at P i) false → refuse n ≡ next_inside full rect w i (drop i P)
    unfolding next_inside
    inside_stop n e q =
        let p = pt_at P i in
        rw (drop-cons P i origin h, ← q) (by_side_in (beyond rect Left p) (beyond rect Right p) (beyond rect Bottom p) (beyond rect Top p) (λ s. ok (record { walk = w; loc = s; i = i })) _ e)

  pub inside_end : length P ≤ i → ok (record { walk = w; loc = Inside; i = i }) ≡ next_inside full rect w i (drop i P)
  unfolding next_inside
  inside_end h = rw (drop_of_length-le P h) refl
