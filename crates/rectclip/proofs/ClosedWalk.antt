-- The walk of a closed path from its start: the point off the edges that tells where it starts, and the passes from there. Assumes nothing.
use mathlib.Core.Path.{◌≡◌, refl, sym, ◌∙◌, ap}
use mathlib.Core.Bool.{Bool, true, false}
use mathlib.Core.List.{List, [], ◌∷◌}
use Prim.Native.Nat.{ℕ, ◌+◌, ◌-◌, ◌/◌}
use native.Mathlib.Omega.{arith}
use lib.ListN.{length}
use Rattle.plane.specs.declared.crossing.SidePoint.{SidePoint}
use Rattle.plane.specs.Intersection.{found_at}
use Rattle.plane.specs.declared.point.Point64.{Point64}
use Rattle.plane.specs.declared.rect.Rect64.{Rect64}
use Rattle.plane.specs.declared.location.Location.{Location}
use Rattle.plane.specs.declared.location.Location.TheVariants.{Inside}
use Rattle.plane.specs.declared.location.Spot.{Spot}
use Rattle.plane.specs.Basics.{Try, is_nil, ◌>>=◌}
use Rattle.plane.specs.Locations.{is_inside}
use Rattle.plane.specs.Points.{pt_at}
use Rattle.plane.specs.Rectangle.{get_location}
use Rattle.reference.specs.Walk.{Walk, State, nothing_yet, add_all, last_off, passes, after_while, walk_from, walk_closed}
use Rattle.reference.specs.Walk as def
use Rattle.entry.specs.declared.answer.Refusal.{Refusal}
use Rattle.std.specs.Prelude.{Result, Ok, Option, None}
use Rattle.rectclip.specs.declared.walk.Walker.{Walker}
use Rattle.rectclip.specs.Steps.{walk, full, points, Answers, Steps}
use Rattle.rectclip.specs.Outlining.{outline, Outlines}
use Rattle.rectclip.proofs.Coordinates.{points_length}
use Rattle.rectclip.proofs.Steps.{stays, named, read_as}
use Rattle.rectclip.proofs.Outlining.{bare, plain}

-- ---- the walk from a starting location
abbrev pub begun : Location → Walk → State
begun loc w = record { walk = w; i = 0; loc = loc; crossing_loc = Inside; first_cross = Inside }

pub from_parts : (full : ℕ → Bool) (rect : Rect64) (P : List Point64) (loc : Location) {w : Walk} → w ≡ nothing_yet → (passes full rect P (length P + 1) (begun loc w) >>= after_while full rect P loc) ≡ walk_from full rect P loc
unfolding walk_from
from_parts full rect P loc e = rw e refl

-- ---- where it starts
nil_is : (P : List Point64) → length P ≡ 0 → is_nil P ≡ true
nil_is [] h = refl
nil_is (p ∷ P) h = absurd (omega arith)

some_is : (P : List Point64) → (length P ≡ 0 → ⊥) → is_nil P ≡ false
some_is [] h = absurd (h refl)
some_is (p ∷ P) h = refl

module _ (full : ℕ → Bool) (rect : Rect64) (P : List Point64) where
  closed_nil : is_nil P ≡ true → plain nothing_yet ≡ walk_closed full rect P
  unfolding walk_closed
  closed_nil e = rw e refl

  module _ (some : is_nil P ≡ false) {s : Spot} (es : s ≡ get_location rect (pt_at P (length P - 1))) where
    closed_off : s.off ≡ true → walk_from full rect P s.loc ≡ walk_closed full rect P
    unfolding walk_closed
    closed_off t = rw (some, ← es, t) refl

    module _ (t : s.off ≡ false) where
      closed_edges : last_off rect P (length P - 1) ≡ None → (add_all full nothing_yet P >>= plain) ≡ walk_closed full rect P
      unfolding walk_closed
      closed_edges e = rw (some, ← es, t, e) refl

      closed_in : {q : Point64} {prev : Location} → last_off rect P (length P - 1) ≡ found_at q prev → is_inside prev ≡ true → walk_from full rect P Inside ≡ walk_closed full rect P
      unfolding walk_closed
      closed_in e f = rw (some, ← es, t, e, f) refl

      closed_out : {q : Point64} {prev : Location} → last_off rect P (length P - 1) ≡ found_at q prev → is_inside prev ≡ false → walk_from full rect P s.loc ≡ walk_closed full rect P
      unfolding walk_closed
      closed_out e f = rw (some, ← es, t, e, f, ← es) refl

module _ (x : Walker) (new : walk x ≡ nothing_yet) where
  abbrev whole : Try def.Walked
  whole = walk_closed (full x) x.rect (points x)

  pub walk_none : length x.path.now / 2 ≡ 0 → Outlines whole x x (Ok None)
  walk_none e = stays (ap plain new ∙ closed_nil (full x) x.rect (points x) (nil_is (points x) (points_length x.path.now ∙ e)))

  module _ (h : length x.path.now / 2 ≡ 0 → ⊥) {p : Point64} (ep : p ≡ pt_at (points x) (length x.path.now / 2 - 1)) {s : Spot} (es : s ≡ get_location x.rect p) where
    has_points : is_nil (points x) ≡ false
    has_points = some_is (points x) (λ e. h (sym (points_length x.path.now) ∙ e))

    last_spot : s ≡ get_location x.rect (pt_at (points x) (length (points x) - 1))
    last_spot = rw (points_length x.path.now) (es ∙ ap (get_location x.rect) ep)

    pub walk_off : s.off ≡ true → {y : Walker} {r : Result (Option Bool) Refusal} → Outlines (walk_from (full x) x.rect (points x) s.loc) x y r → Outlines whole x y r
    walk_off t A = named A (closed_off (full x) x.rect (points x) has_points last_spot t)

    module _ (t : s.off ≡ false) {f : Option SidePoint} (ef : f ≡ last_off x.rect (points x) (length x.path.now / 2 - 1)) where
      search_is : {o : Option SidePoint} → f ≡ o → last_off x.rect (points x) (length (points x) - 1) ≡ o
      search_is e = rw (points_length x.path.now) (sym ef ∙ e)

      pub walk_edges : f ≡ None → {y : Walker} {r : Result Unit Refusal} → Steps (add_all (full x) (walk x) (points x)) x y r → Answers (λ y u. outline y None) whole x y r
      walk_edges e R = named (read_as (rw new at R) bare (λ u. refl)) (closed_edges (full x) x.rect (points x) has_points last_spot t (search_is e))

      module _ {q : Point64} {prev : Location} (e : f ≡ found_at q prev) {b : Bool} (eb : b ≡ is_inside prev) {y : Walker} {r : Result (Option Bool) Refusal} where
        pub walk_inside : b ≡ true → Outlines (walk_from (full x) x.rect (points x) Inside) x y r → Outlines whole x y r
        walk_inside v A = named A (closed_in (full x) x.rect (points x) has_points last_spot t (search_is e) (sym eb ∙ v))

        pub walk_outside : b ≡ false → Outlines (walk_from (full x) x.rect (points x) s.loc) x y r → Outlines whole x y r
        walk_outside v A = named A (closed_out (full x) x.rect (points x) has_points last_spot t (search_is e) (sym eb ∙ v))
