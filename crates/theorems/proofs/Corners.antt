-- Four passes are enough to go round the rectangle to a side.
use Rattle.std.specs.Prelude.{if◌then◌else◌}
use mathlib.Core.Path.{◌≡◌, refl, sym, ap, ◌∙◌, fun_ext}
use mathlib.Core.Bool.{Bool, true, false, cond, ◌&&◌, ◌||◌}
use Prim.Native.Nat.{ℕ, zero, suc, ◌+◌}
use native.Mathlib.Omega.{arith}
use Rattle.plane.specs.declared.rect.Rect64.{Rect64}
use Rattle.plane.specs.declared.location.Location.{Location}
use Rattle.plane.specs.Basics.{Try, refuse, ok, ◌>>=◌}
use Rattle.plane.specs.Locations.{same_location, get_adjacent_location, is_inside}
use Rattle.plane.specs.Rectangle.{corner}
use Rattle.reference.specs.Walk.{Walk, add, push_start_loc, add_corner_loc, add_corners, push_start_locs}
use Rattle.theorems.specs.Bounds.{CornersEnd, StartLocsEnd}
use Rattle.theorems.proofs.Tests.{never, both}
use Rattle.theorems.proofs.Locations.{every, each}

-- loc is met within n steps from p
abbrev pub meets : ℕ → Location → Location → Bool → Bool
meets zero p loc cw = false
meets (suc n) p loc cw = let rest = meets n (get_adjacent_location p cw) loc cw in same_location (get_adjacent_location p cw) loc || rest

-- loc is no side, or it is met within 4 + k steps both ways: computed for all locations
abbrev met : ℕ → Location → Location → Bool
met k p loc = is_inside loc || (meets (suc (suc (suc (suc k)))) p loc true && meets (suc (suc (suc (suc k)))) p loc false)

all_met : (k : ℕ) → every (λ p. every (met k p)) ≡ true
all_met k = refl

both_ways : (inside clockwise back : Bool) → inside ≡ false → (inside || (clockwise && back)) ≡ true → (clockwise ≡ true) × (back ≡ true)
both_ways true a b e h = never refl e
both_ways false a b e h = both a b h

met_both : (k : ℕ) (p loc : Location) → is_inside loc ≡ false → (meets (suc (suc (suc (suc k)))) p loc true ≡ true) × (meets (suc (suc (suc (suc k)))) p loc false ≡ true)
met_both k p loc e = both_ways (is_inside loc) _ _ e (each (met k p) (each (λ q. every (met k q)) (all_met k) p) loc)

pub four : (k : ℕ) (p loc : Location) (cw : Bool) → is_inside loc ≡ false → meets (suc (suc (suc (suc k)))) p loc cw ≡ true
four k p loc true e = (met_both k p loc e).0
four k p loc false e = (met_both k p loc e).1

-- a loop that does `act` at a location, moves on, and stops at loc
module _ (act : Walk → Location → Try Walk) (loc : Location) (cw : Bool) (loop : ℕ → Walk → Location → Try Walk)
    (again : (n : ℕ) (w : Walk) (p : Location) → loop (suc n) w p ≡ (act w p >>= λ v. cond (same_location (get_adjacent_location p cw) loc) (ok v) (loop n v (get_adjacent_location p cw)))) where
  same : (m n : ℕ) (w : Walk) (p : Location) → meets m p loc cw ≡ true → meets n p loc cw ≡ true → loop m w p ≡ loop n w p
  same zero n w p h k = never h refl
  same (suc m) zero w p h k = never k refl
  same (suc m) (suc n) w p h k =
      again m w p ∙ ap (λ (f : Walk → Try Walk). act w p >>= f) (fun_ext (λ v. go (same_location (get_adjacent_location p cw) loc) v h k (same m n v (get_adjacent_location p cw)))) ∙ sym (again n w p)
    where
      go : (b : Bool) (v : Walk) → (b || meets m (get_adjacent_location p cw) loc cw) ≡ true → (b || meets n (get_adjacent_location p cw) loc cw) ≡ true
          → (meets m (get_adjacent_location p cw) loc cw ≡ true → meets n (get_adjacent_location p cw) loc cw ≡ true → loop m v (get_adjacent_location p cw) ≡ loop n v (get_adjacent_location p cw))
          → cond b (ok v) (loop m v (get_adjacent_location p cw)) ≡ cond b (ok v) (loop n v (get_adjacent_location p cw))
      go true v h k f = refl
      go false v h k f = f h k

  pub four_enough : is_inside loc ≡ false → (w : Walk) (p : Location) (k : ℕ) → loop (4 + k) w p ≡ loop 4 w p
  four_enough e w p k =
      let u : 4 + k ≡ suc (suc (suc (suc k))) = omega arith in
      ap (λ (n : ℕ). loop n w p) u ∙ same (suc (suc (suc (suc k)))) 4 w p (four k p loc cw e) (four 0 p loc cw e)

-- the location that a corner step comes to does not depend on the walk
joined : {A B C : Type 0} (m : Try A) (g : A → B) (f : B → Try C) → ((m >>= λ a. ok (g a)) >>= f) ≡ (m >>= λ a. f (g a))
joined (refuse n) g f = refl
joined (ok a) g f = refl

corner_step : (full : ℕ → Bool) (rect : Rect64) (loc : Location) (cw : Bool) (n : ℕ) (v : Walk) (q : Location) → add_corners full rect (suc n) v q loc cw
    ≡ (add full v (corner rect (if cw then q else get_adjacent_location q cw)) false >>= λ u. cond (same_location (get_adjacent_location q cw) loc) (ok u) (add_corners full rect n u (get_adjacent_location q cw) loc cw))
unfolding add_corners add_corner_loc
corner_step full rect loc cw n v q =
    joined {A = Walk} {B = Walk × Location} (add full v (corner rect (if cw then q else get_adjacent_location q cw)) false) (λ u. (u, get_adjacent_location q cw)) (λ t. cond (same_location t.1 loc) (ok t.0) (add_corners full rect n t.0 t.1 loc cw))

push_step : (full : ℕ → Bool) (rect : Rect64) (loc : Location) (cw : Bool) (n : ℕ) (v : Walk) (q : Location) → push_start_locs full rect (suc n) v q loc cw
    ≡ (push_start_loc full v q >>= λ u. cond (same_location (get_adjacent_location q cw) loc) (ok u) (push_start_locs full rect n u (get_adjacent_location q cw) loc cw))
unfolding push_start_locs
push_step full rect loc cw n v q = refl

pub corners_end : CornersEnd
corners_end full rect w p loc cw e = four_enough (λ v q. add full v (corner rect (if cw then q else get_adjacent_location q cw)) false) loc cw (λ n v q. add_corners full rect n v q loc cw) again e w p
  where
    again : (n : ℕ) (v : Walk) (q : Location) → add_corners full rect (suc n) v q loc cw
        ≡ (add full v (corner rect (if cw then q else get_adjacent_location q cw)) false >>= λ u. cond (same_location (get_adjacent_location q cw) loc) (ok u) (add_corners full rect n u (get_adjacent_location q cw) loc cw))
    again n v q = corner_step full rect loc cw n v q

pub start_locs_end : StartLocsEnd
start_locs_end full rect w p loc cw e = four_enough (λ v q. push_start_loc full v q) loc cw (λ n v q. push_start_locs full rect n v q loc cw) (λ n v q. push_step full rect loc cw n v q) e w p
