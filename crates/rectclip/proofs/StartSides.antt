-- The start sides in the work list: which side stands at a place, and the count of the steps along them, by which they go clockwise
-- or not. Assumes nothing.
use Rattle.std.specs.Prelude.{if◌then◌else◌}
use mathlib.Core.Path.{◌≡◌, refl, sym, ◌∙◌, ap}
use mathlib.Core.Bool.{Bool, true, false}
use mathlib.Core.List.{List, [], ◌∷◌, map}
use Prim.Native.Nat.{ℕ, zero, suc, ◌+◌, ◌<◌, ◌≤◌}
use native.Mathlib.Omega.{arith}
use native.Mathlib.Numerals.{add-one}
use lib.Dec.{ltb}
use lib.IntN.{ℤ, pos, negsuc, ◌+ℤ◌, ◌-ℤ◌}
use lib.ListN.{length, get_or, drop, length-map, length-drop, get_or-map}
use lib.Seq.{drop-cons}
use lib.Signed.{lt_z}
use Rattle.integers.specs.Ring.{var, con, ◌⊕◌, ◌⊖◌, ring}
use Rattle.integers.specs.Tests.{ltZ_sub, eq_z, eqZ_true}
use Rattle.plane.specs.declared.location.Location.{Location}
use Rattle.plane.specs.declared.location.Location.TheVariants.{Inside}
use Rattle.plane.specs.Locations.{side_number, side, step_of, steps_of, start_locs_are_clockwise}
use Rattle.theorems.proofs.Locations.{every, each}
use Rattle.rectclip.specs.declared.outline.StepCounts.{StepCounts}
use Rattle.rectclip.specs.Memory.{at, column}
use Rattle.rectclip.specs.Walking.{location}
use Rattle.rectclip.specs.Outlining.{steps_up, turned_by}
use Rattle.rectclip.proofs.Columns.{column_length, column_at}

-- ---- the first n start sides
abbrev pub sides : ℕ → List ℕ → List Location
sides n work = map location (column 5 n work)

pub sides_length : (n : ℕ) (work : List ℕ) → length (sides n work) ≡ n
sides_length n work = length-map (column 5 n work) location ∙ column_length 5 n work

pub side_at : (n : ℕ) (work : List ℕ) (i : ℕ) → i < n → get_or (sides n work) i Inside ≡ location (at 5 work i)
side_at n work i h = get_or-map location (column 5 n work) i 4 ∙ ap location (column_at 5 n work i 4 h)

-- the side of a number below 4, and no side of another
pub location_side : (n : ℕ) → n < 4 → side n ≡ location n
location_side zero h = refl
location_side (suc zero) h = refl
location_side (suc (suc zero)) h = refl
location_side (suc (suc (suc zero))) h = refl
location_side (suc (suc (suc (suc n)))) h = absurd (omega arith)

pub location_inside : (n : ℕ) → 4 ≤ n → Inside ≡ location n
location_inside zero h = absurd (omega arith)
location_inside (suc zero) h = absurd (omega arith)
location_inside (suc (suc zero)) h = absurd (omega arith)
location_inside (suc (suc (suc zero))) h = absurd (omega arith)
location_inside (suc (suc (suc (suc n)))) h = refl

-- ---- a step along them
-- the step as the code counts it
abbrev counted_step : Location → Location → ℤ
counted_step a b = if steps_up a b then pos 1 else if steps_up b a then negsuc 0 else pos 0

all_steps : every (λ a. every (λ b. eq_z (step_of (pos (side_number b) -ℤ pos (side_number a))) (counted_step a b))) ≡ true
all_steps = refl

step_is : (a b : Location) → step_of (pos (side_number b) -ℤ pos (side_number a)) ≡ counted_step a b
step_is a b = eqZ_true (each (λ y. eq_z (step_of (pos (side_number y) -ℤ pos (side_number a))) (counted_step a y)) (each (λ x. every (λ y. eq_z (step_of (pos (side_number y) -ℤ pos (side_number x))) (counted_step x y))) all_steps a) b)

-- what the counts say so far
abbrev net : StepCounts → ℤ
net t = pos t.ups -ℤ pos t.downs

counted : (x y : Bool) (t : StepCounts) (S : ℤ)
    → net (if x then record { ups = t.ups + 1; downs = t.downs } else if y then record { ups = t.ups; downs = t.downs + 1 } else t) +ℤ S ≡ net t +ℤ ((if x then pos 1 else if y then negsuc 0 else pos 0) +ℤ S)
counted true y t S = ring (pos t.ups ∷ pos t.downs ∷ S ∷ []) (((var 0 ⊕ con (pos 1)) ⊖ var 1) ⊕ var 2) ((var 0 ⊖ var 1) ⊕ (con (pos 1) ⊕ var 2)) tt
counted false true t S = ring (pos t.ups ∷ pos t.downs ∷ S ∷ []) ((var 0 ⊖ (var 1 ⊕ con (pos 1))) ⊕ var 2) ((var 0 ⊖ var 1) ⊕ (con (negsuc 0) ⊕ var 2)) tt
counted false false t S = ring (pos t.ups ∷ pos t.downs ∷ S ∷ []) ((var 0 ⊖ var 1) ⊕ var 2) ((var 0 ⊖ var 1) ⊕ (con (pos 0) ⊕ var 2)) tt

step_counted : (t : StepCounts) (a b : Location) (S : ℤ) → net (turned_by t a b) +ℤ S ≡ net t +ℤ (step_of (pos (side_number b) -ℤ pos (side_number a)) +ℤ S)
step_counted t a b S = counted (steps_up a b) (steps_up b a) t S ∙ ap (λ (z : ℤ). net t +ℤ (z +ℤ S)) (sym (step_is a b))

-- ---- the loop over them
steps_next : (l : List Location) (i : ℕ) → i + 1 < length l
    → steps_of (drop i l) ≡ step_of (pos (side_number (get_or l (i + 1) Inside)) -ℤ pos (side_number (get_or l i Inside))) +ℤ steps_of (drop (i + 1) l)
steps_next l i h =
    let e : drop (i + 1) l ≡ get_or l (i + 1) Inside ∷ drop (suc (i + 1)) l = drop-cons l (i + 1) Inside h in
    let f : drop i l ≡ get_or l i Inside ∷ drop (i + 1) l = rw (add-one i) (drop-cons l i Inside (omega arith)) in
    rw (f, e) refl

steps_short : (l : List Location) → length l ≤ 1 → steps_of l ≡ pos 0
steps_short [] h = refl
steps_short (a ∷ []) h = refl
steps_short (a ∷ b ∷ l) h = absurd (omega arith)

pub record Counting (work : List ℕ) (n : ℕ) (t : StepCounts) (i : ℕ) : Type 0 where
  pub goal : net t +ℤ steps_of (drop i (sides n work)) ≡ steps_of (sides n work)
  pub ups : t.ups ≤ i
  pub downs : t.downs ≤ i
  pub here : i ≤ n

up_le : (x y : Bool) (t : StepCounts) (i : ℕ) → t.ups ≤ i → (if x then record { ups = t.ups + 1; downs = t.downs } else if y then record { ups = t.ups; downs = t.downs + 1 } else t).ups ≤ i + 1
up_le true y t i h = omega arith
up_le false true t i h = omega arith
up_le false false t i h = omega arith

down_le : (x y : Bool) (t : StepCounts) (i : ℕ) → t.downs ≤ i → (if x then record { ups = t.ups + 1; downs = t.downs } else if y then record { ups = t.ups; downs = t.downs + 1 } else t).downs ≤ i + 1
down_le true y t i h = omega arith
down_le false true t i h = omega arith
down_le false false t i h = omega arith

module _ {work : List ℕ} {n : ℕ} {t : StepCounts} {i : ℕ} (I : Counting work n t i) where
  pub count_again : i + 1 < n → {a b : Location} → a ≡ location (at 5 work i) → b ≡ location (at 5 work (i + 1)) → {u : StepCounts} → u ≡ turned_by t a b → Counting work n u (i + 1)
  count_again h {a} {b} ea eb eu =
      let fa : a ≡ get_or (sides n work) i Inside = ea ∙ sym (side_at n work i (omega arith)) in
      let fb : b ≡ get_or (sides n work) (i + 1) Inside = eb ∙ sym (side_at n work (i + 1) h) in
      rw eu
      (record {
        goal =
            step_counted t a b (steps_of (drop (i + 1) (sides n work)))
            ∙ rw (fa, fb) (ap (λ (z : ℤ). net t +ℤ z) (sym (steps_next (sides n work) i (rw (sides_length n work) h))) ∙ I.goal);
        ups = up_le (steps_up a b) (steps_up b a) t i I.ups;
        downs = down_le (steps_up a b) (steps_up b a) t i I.downs;
        here = omega arith;
      })

  pub count_done : n ≤ i + 1 → ltb t.downs t.ups ≡ start_locs_are_clockwise (sides n work)
  unfolding start_locs_are_clockwise
  count_done h =
      let s : steps_of (drop i (sides n work)) ≡ pos 0 = steps_short (drop i (sides n work)) (rw (length-drop i (sides n work), sides_length n work) (omega arith)) in
      let e : net t ≡ steps_of (sides n work) = ring (pos t.ups ∷ pos t.downs ∷ []) (var 0 ⊖ var 1) ((var 0 ⊖ var 1) ⊕ con (pos 0)) tt ∙ (rw s at I.goal) in
      sym (ltZ_sub (pos t.downs) (pos t.ups)) ∙ ap (lt_z (pos 0)) e
