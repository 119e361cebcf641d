-- The areas of the returned paths add up to the area of the walked outline.
use mathlib.Core.Path.{◌≡◌, refl, sym, ◌∙◌, ap, subst}
use mathlib.Core.Bool.{Bool, true, false, cond, not, ◌&&◌}
use mathlib.Core.List.{List}
use mathlib.Core.Logic.{inl, inr}
use Prim.Native.Nat.{ℕ, ◌≤◌}
use lib.ListN.{length}
use lib.Dec.{T, ltb}
use lib.IntN.{ℤ}
use native.Mathlib.Omega.{arith}
use Rattle.plane.specs.declared.point.Point64.{Point64}
use Rattle.plane.specs.declared.rect.Rect64.{Rect64}
use Rattle.plane.specs.Basics.{none, upwards, Try, refuse, ok, ◌>>=◌}
use Rattle.plane.specs.Rectangle.{is_empty, intersects, contains_rect, get_bounds_path}
use Rattle.reference.specs.Walk.{Walked, walk_closed}
use Rattle.reference.specs.Arena.{Arena, check_edges}
use Rattle.reference.specs.Tidy.{tidy_edges}
use Rattle.reference.specs.Clip.{get_paths, arena_of, clip_walked, execute}
use Rattle.theorems.specs.Rings.{Entered}
use Rattle.theorems.specs.Demand.{signed_area2, total_area2, is_walked, AreaKept}
use Rattle.theorems.proofs.Holds.{Holds, refused, held, bind, holds_ok}
use Rattle.theorems.proofs.Unlimited.{walks_outline}
use Rattle.theorems.proofs.TidyInv.{Inv}
use Rattle.theorems.proofs.TidyAll.{tidy_inv, none_side}
use Rattle.theorems.proofs.ReadAll.{Whole, read_whole}
use Rattle.theorems.proofs.Assigning.{line_at}
use Rattle.theorems.proofs.WalkArena.{Met, met_whole, walk_behind}

-- ---- from the arena behind `check_edges` to the paths
abbrev pub Answer : Type 0
Answer = List (List Point64) × ℕ

abbrev Adds : ℤ → Answer → Type 0
Adds A p = total_area2 p.0 ≡ A

abbrev all_sides : List Point64 → ℕ → Arena × ℕ → Try (Arena × ℕ)
all_sides pts limit s = tidy_edges pts 0 limit s >>= tidy_edges pts 1 limit >>= tidy_edges pts 2 limit >>= tidy_edges pts 3 limit

abbrev read : List Point64 → Arena × ℕ → Try Answer
read pts t = ok (get_paths pts t.0 (upwards 0 (length t.0.results)), t.1)

-- ---- all four sides
module _ (pts : List Point64) (small : length pts ≤ none) (rect : Rect64) (A : ℤ) (sd : ℕ → ℕ) where
  -- the arena behind a side is again one of the two that `tidy_edges` may meet
  pub side_met : (k limit : ℕ) (s : Arena × ℕ) → Met pts rect A sd s.0 → Holds (λ (t : Arena × ℕ). Met pts rect A sd t.0) (tidy_edges pts k limit s)
  side_met k limit s (inl I) = weaken _ (tidy_inv pts (line_at rect) sd A k limit s I)
    where
      weaken : (m : Try (Arena × ℕ)) → Holds (λ (t : Arena × ℕ). Inv pts (line_at rect) sd A t.0) m → Holds (λ (t : Arena × ℕ). Met pts rect A sd t.0) m
      weaken m refused = refused
      weaken m (held h) = held (inl h)
  side_met k limit s (inr q) = subst (Holds (λ (t : Arena × ℕ). Met pts rect A sd t.0)) (sym (none_side pts limit s q.1 k)) (held (inr q))

  module _ (limit : ℕ) (c : Arena × ℕ) (h : Met pts rect A sd c.0) where
    abbrev Q : Arena × ℕ → Type 0
    Q t = Met pts rect A sd t.0

    pub one_met : Holds Q (tidy_edges pts 0 limit c)
    one_met = side_met 0 limit c h

    pub two_met : Holds Q (tidy_edges pts 0 limit c >>= tidy_edges pts 1 limit)
    two_met = bind Q Q (tidy_edges pts 0 limit c) (tidy_edges pts 1 limit) one_met (λ t. side_met 1 limit t)

    pub three_met : Holds Q (tidy_edges pts 0 limit c >>= tidy_edges pts 1 limit >>= tidy_edges pts 2 limit)
    three_met = bind Q Q (tidy_edges pts 0 limit c >>= tidy_edges pts 1 limit) (tidy_edges pts 2 limit) two_met (λ t. side_met 2 limit t)

    pub four_met : Holds Q (all_sides pts limit c)
    four_met = bind Q Q (tidy_edges pts 0 limit c >>= tidy_edges pts 1 limit >>= tidy_edges pts 2 limit) (tidy_edges pts 3 limit) three_met (λ t. side_met 3 limit t)

-- What holds of the paths read from any arena whose rings and results are known, with the outline's area, holds of what `execute` returns
-- behind the walk: `check_edges` and every turn of `tidy_edges` keep the rings and their total area.
pub clip_whole : (limit : ℕ) (rect : Rect64) (w : Walked) → length w.walk.points ≤ none → Entered w → (Q : List (List Point64) → Type 0)
    → ((a : Arena) → Whole w.walk.points (signed_area2 w.walk.points) a → Q (get_paths w.walk.points a (upwards 0 (length a.results)))) → Holds (λ d. Q d.0) (clip_walked limit rect w)
unfolding clip_walked
clip_whole limit rect w small entered Q f =
    let pts = w.walk.points in
    let A = signed_area2 pts in
    let B = walk_behind rect w small entered in
    bind (λ t. Met pts rect A B.sd t.0) (λ d. Q d.0) (all_sides pts limit (check_edges pts rect (arena_of w), 0)) (read pts) (four_met pts small rect A B.sd limit (check_edges pts rect (arena_of w), 0) B.met)
    (λ t M. held (f t.0 (met_whole pts rect A B.sd t.0 M)))

pub clip_area : (limit : ℕ) (rect : Rect64) (w : Walked) → length w.walk.points ≤ none → Entered w → Holds (Adds (signed_area2 w.walk.points)) (clip_walked limit rect w)
clip_area limit rect w small entered = clip_whole limit rect w small entered (λ paths. total_area2 paths ≡ signed_area2 w.walk.points) (read_whole w.walk.points small (signed_area2 w.walk.points))

-- ---- `execute`
walked_only : {X : Type 0} (b1 b2 b3 b4 : Bool) (x1 x2 x3 x4 y v : X) → T (not b1 && not b2 && b3 && not b4) → cond b1 x1 (cond b2 x2 (cond (not b3) x3 (cond b4 x4 y))) ≡ v → y ≡ v
walked_only true b2 b3 b4 x1 x2 x3 x4 y v h e = absurd h
walked_only false true b3 b4 x1 x2 x3 x4 y v h e = absurd h
walked_only false false false b4 x1 x2 x3 x4 y v h e = absurd h
walked_only false false true true x1 x2 x3 x4 y v h e = absurd h
walked_only false false true false x1 x2 x3 x4 y v h e = e

-- a call whose path is walked
pub record Called (full : ℕ → Bool) (limit : ℕ) (rect : Rect64) (path : List Point64) (d : Answer) : Type 0 where
  pub walked : Walked
  pub is_walk : walk_closed full rect path ≡ ok walked
  pub is_answer : clip_walked limit rect walked ≡ ok d

pub called : (full : ℕ → Bool) (limit : ℕ) (rect : Rect64) (path : List Point64) (d : Answer) → T (is_walked rect path) → execute full limit rect path ≡ ok d → Called full limit rect path d
unfolding execute is_walked
called full limit rect path d h e =
    go (walk_closed full rect path) refl (walked_only (is_empty rect) (ltb (length path) 3) (intersects rect (get_bounds_path path)) (contains_rect rect (get_bounds_path path)) _ _ _ _ (walk_closed full rect path >>= clip_walked limit rect) (ok d) h e)
  where
    go : (m : Try Walked) → walk_closed full rect path ≡ m → (m >>= clip_walked limit rect) ≡ ok d → Called full limit rect path d
    go (refuse n) q r = let z : ◌≡◌ {A = ℕ} 0 1 = cc in absurd (omega arith)
    go (ok w) q r = record { walked = w; is_walk = q; is_answer = r }

-- The area equation, of a call whose walk puts down at most `none` points and enters what `Entered` says.
pub closed_area_of : (full : ℕ → Bool) (limit : ℕ) (rect : Rect64) (path : List Point64) → ((w : Walked) → walk_closed full rect path ≡ ok w → (length w.walk.points ≤ none) × Entered w)
    → (paths : List (List Point64)) (turns : ℕ) → execute full limit rect path ≡ ok (paths, turns) → AreaKept rect path paths
closed_area_of full limit rect path known paths turns e = record {
  kept = λ h.
      let c = called full limit rect path (paths, turns) h e in
      let k = known c.walked c.is_walk in
      holds_ok {Q = Adds (signed_area2 c.walked.walk.points)} (clip_walked limit rect c.walked) (paths, turns) (clip_area limit rect c.walked k.0 k.1) c.is_answer
      ∙ ap signed_area2 (sym (walks_outline full rect path c.walked c.is_walk));
}
