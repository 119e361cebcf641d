-- What the checks of a call say: each way by which a call is stopped, and what is known of one that is let through. Assumes nothing.
use Rattle.std.specs.Prelude.{Result, Ok, Err, if◌then◌else◌}
use mathlib.Core.Path.{◌≡◌, refl}
use mathlib.Core.Bool.{Bool, true, false, not}
use mathlib.Core.List.{List}
use Prim.Native.Nat.{ℕ, suc, ◌+◌, ◌*◌, ◌/◌, ◌%◌, ◌<◌, ◌≤◌}
use native.Mathlib.Omega.{arith}
use borrow.Author.Tests.{eq-eqb, ne_eqb, eqb-true, eqb-false, lt-ltb, le-ltb, ltb-false, not-false}
use lib.Dec.{eqb, ltb}
use lib.IntN.{ℤ}
use lib.ListN.{length}
use Rattle.plane.specs.declared.rect.Rect64.{Rect64}
use Rattle.plane.specs.Limit.{all_in_limit, rect_in_limit}
use Rattle.plane.specs.Points.{points_of}
use Rattle.plane.specs.Rectangle.{get_bounds_path}
use Rattle.reference.specs.Entry.{early_refusal, sheet_refusal}
use Rattle.entry.specs.declared.answer.Refusal.{Refusal}
use Rattle.entry.specs.Answers.{number, stopped, surveyed, checked, admission}
use Rattle.entry.proofs.Sheets.{number_not_zero}

pub even_of : (n : ℕ) → (n % 2 ≡ 1 → ⊥) → n % 2 ≡ 0
even_of n h = omega arith

-- ---- the early refusals, in number order
module _ (W A work : ℕ) (rect : Rect64) (coords : List ℤ) where
  pub early_odd : length coords % 2 ≡ 1 → 1 ≡ early_refusal W A work rect coords
  unfolding early_refusal
  early_odd h = rw (eq-eqb (length coords % 2) 1 h) refl

  module _ (a : length coords % 2 ≡ 1 → ⊥) where
    pub early_store : 65536 < W → 2 ≡ early_refusal W A work rect coords
    unfolding early_refusal
    early_store h = rw (ne_eqb (length coords % 2) 1 a, lt-ltb 65536 W h) refl

    module _ (b : W ≤ 65536) where
      pub early_allowance : 65535 < A → 3 ≡ early_refusal W A work rect coords
      unfolding early_refusal
      early_allowance h = rw (ne_eqb (length coords % 2) 1 a, le-ltb 65536 W b, lt-ltb 65535 A h) refl

      module _ (c : A ≤ 65535) where
        pub early_work : work < 16 * (W + A + 1) → 4 ≡ early_refusal W A work rect coords
        unfolding early_refusal
        early_work h = rw (ne_eqb (length coords % 2) 1 a, le-ltb 65536 W b, le-ltb 65535 A c, lt-ltb work (16 * (W + A + 1)) h) refl

        pub early_sheet : 16 * (W + A + 1) ≤ work → sheet_refusal 4096 rect coords ≡ early_refusal W A work rect coords
        unfolding early_refusal
        early_sheet h = rw (ne_eqb (length coords % 2) 1 a, le-ltb 65536 W b, le-ltb 65535 A c, le-ltb work (16 * (W + A + 1)) h) refl

-- ---- what a call that they let through knows
pub record Let (W A work : ℕ) (rect : Rect64) (coords : List ℤ) : Type 0 where
  pub even : length coords % 2 ≡ 0
  pub few : W ≤ 65536
  pub turns : A ≤ 65535
  pub cells : 16 * (W + A + 1) ≤ work
  pub short : length coords / 2 ≤ 4096
  pub frame : rect_in_limit rect ≡ true
  pub points : all_in_limit coords ≡ true

if_zero : (b : Bool) (n x : ℕ) → (if b then suc n else x) ≡ 0 → (b ≡ false) × (x ≡ 0)
if_zero true n x e = absurd (omega arith)
if_zero false n x e = (refl, e)

pub let_through : (W A work : ℕ) (rect : Rect64) (coords : List ℤ) → early_refusal W A work rect coords ≡ 0 → Let W A work rect coords
unfolding early_refusal sheet_refusal
let_through W A work rect coords e =
    let (a, e1) = if_zero (eqb (length coords % 2) 1) 0 _ e in
    let (b, e2) = if_zero (ltb 65536 W) 1 _ e1 in
    let (c, e3) = if_zero (ltb 65535 A) 2 _ e2 in
    let (d, e4) = if_zero (ltb work (16 * (W + A + 1))) 3 _ e3 in
    let (f, e5) = if_zero (ltb 4096 (length coords / 2)) 4 _ e4 in
    let (g, e6) = if_zero (not (rect_in_limit rect)) 5 _ e5 in
    let (h, e7) = if_zero (not (all_in_limit coords)) 6 _ e6 in
    record {
      even = even_of (length coords) (eqb-false (length coords % 2) 1 a);
      few = ltb-false 65536 W b;
      turns = ltb-false 65535 A c;
      cells = ltb-false work (16 * (W + A + 1)) d;
      short = ltb-false 4096 (length coords / 2) f;
      frame = not-false _ g;
      points = not-false _ h;
    }

-- ---- what an admission tells
-- a refusal is the number that the checks give
pub stops : (why : Refusal) (coords : List ℤ) (n : ℕ) → number why ≡ n → checked (Err why) ≡ admission n coords
stops why coords n e = rw (← e, number_not_zero why) refl

-- and no number is 0
pub admits : (coords : List ℤ) (n : ℕ) {bounds : Rect64} → 0 ≡ n → bounds ≡ get_bounds_path (points_of coords) → checked (Ok bounds) ≡ admission n coords
admits coords n e b = rw (← e, b) refl

module _ (coords : List ℤ) (n : ℕ) (k : Result Rect64 Refusal) (ek : checked k ≡ admission n coords) where
  pub told_stopped : (why : Refusal) → k ≡ Err why → n ≡ number why
  told_stopped why e = go (eqb n 0) refl
    where
      go : (b : Bool) → eqb n 0 ≡ b → n ≡ number why
      go true t = absurd (let z : stopped (number why) ≡ surveyed (get_bounds_path (points_of coords)) = rw (e, t) at ek in let y : ◌≡◌ {A = ℕ} 0 1 = cc in omega arith)
      go false t = let z : stopped (number why) ≡ stopped n = rw (e, t) at ek in cc

  pub told_admitted : (bounds : Rect64) → k ≡ Ok bounds → (n ≡ 0) × (bounds ≡ get_bounds_path (points_of coords))
  told_admitted bounds e = go (eqb n 0) refl
    where
      go : (b : Bool) → eqb n 0 ≡ b → (n ≡ 0) × (bounds ≡ get_bounds_path (points_of coords))
      go true t = (eqb-true n 0 t, (let z : surveyed bounds ≡ surveyed (get_bounds_path (points_of coords)) = rw (e, t) at ek in cc))
      go false t = absurd (let z : surveyed bounds ≡ stopped n = rw (e, t) at ek in let y : ◌≡◌ {A = ℕ} 0 1 = cc in omega arith)
