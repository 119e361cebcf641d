-- A crossing of the line clipper: passing right through, entering and exiting, and a pass behind `get_next_location`. Assumes nothing.
use mathlib.Core.Path.{◌≡◌, refl, sym, ◌∙◌}
use mathlib.Core.Bool.{Bool, true, false}
use mathlib.Core.List.{List}
use Prim.Native.Nat.{ℕ, ◌+◌, ◌-◌, ◌/◌, ◌<◌, ◌≤◌}
use lib.ListN.{length}
use Rattle.plane.specs.declared.point.Point64.{Point64}
use Rattle.plane.specs.declared.rect.Rect64.{Rect64}
use Rattle.plane.specs.declared.location.Location.{Location}
use Rattle.plane.specs.declared.crossing.SidePoint.{SidePoint}
use Rattle.plane.specs.Basics.{Try, ok, ◌>>=◌}
use Rattle.plane.specs.Intersection.{found_at, get_intersection}
use Rattle.plane.specs.Locations.{is_inside}
use Rattle.plane.specs.Points.{pt_at}
use Rattle.reference.specs.Walk.{Walk, Next, add, second_search}
use Rattle.reference.specs.Lines.{line_through, line_cross, line_from}
use Rattle.entry.specs.declared.answer.Refusal.{Refusal}
use Rattle.std.specs.Prelude.{Result, Ok, Err, Option, None}
use Rattle.rectclip.specs.declared.walk.Walker.{Walker}
use Rattle.rectclip.specs.declared.next.Place.{Place}
use Rattle.rectclip.specs.Moving.{placed}
use Rattle.rectclip.specs.Steps.{walk, full, points, next_of, Steps, Moves, Lands}
use Rattle.rectclip.proofs.Coordinates.{points_length}
use Rattle.rectclip.proofs.Steps.{on, stays, named, step_then, step_lost, ends_as, lost_as, read_as}
use Rattle.rectclip.proofs.Passing.{through_second, cross_enters, cross_passes, cross_exits, from_past, from_missed, from_found}

-- the last point of a crossing, with the place beside the walk
abbrev out : Place → Point64 → (ℕ → Bool) → Rect64 → List Point64 → Walk → Try Next
out at ip full rect path w = add full w ip false >>= λ v. ok (placed v at)

module _ (x : Walker) (at : Place) (prev : Location) (prev_pt pt ip : Point64) where
  module _ {p : SidePoint} (e : p ≡ second_search x.rect prev_pt pt prev ip) {y : Walker} {r : Result Unit Refusal} (R : Steps (add (full x) (walk x) p.point true) x y r) where
    pub through_lost : {why : Refusal} → r ≡ Err why → Lands at (line_through (full x) x.rect (next_of x at) prev prev_pt pt ip) x y (Err why)
    through_lost q = named (step_lost R q (on (out at ip) x)) (through_second (full x) x.rect (next_of x at) prev prev_pt pt ip e)

    pub through_on : {u : Unit} → r ≡ Ok u → {z : Walker} {s : Result Unit Refusal} → Steps (add (full y) (walk y) ip false) y z s → Lands at (line_through (full x) x.rect (next_of x at) prev prev_pt pt ip) x z s
    through_on q S = named (step_then R q (out at ip) (read_as S (λ v. placed v at) (λ u. refl))) (through_second (full x) x.rect (next_of x at) prev prev_pt pt ip e)

  module _ {y : Walker} {r : Result Unit Refusal} where
    pub entered : is_inside at.loc ≡ true → Steps (add (full x) (walk x) ip true) x y r → Lands at (line_cross (full x) x.rect (next_of x at) prev prev_pt pt ip) x y r
    entered h R = named (read_as R (λ v. placed v at) (λ u. refl)) (cross_enters (full x) x.rect (next_of x at) prev prev_pt pt ip h)

    pub passed : is_inside at.loc ≡ false → is_inside prev ≡ false → Lands at (line_through (full x) x.rect (next_of x at) prev prev_pt pt ip) x y r
        → Lands at (line_cross (full x) x.rect (next_of x at) prev prev_pt pt ip) x y r
    passed h k R = named R (cross_passes (full x) x.rect (next_of x at) prev prev_pt pt ip h k)

    pub exited : is_inside at.loc ≡ false → is_inside prev ≡ true → Steps (add (full x) (walk x) ip false) x y r → Lands at (line_cross (full x) x.rect (next_of x at) prev prev_pt pt ip) x y r
    exited h k R = named (read_as R (λ v. placed v at) (λ u. refl)) (cross_exits (full x) x.rect (next_of x at) prev prev_pt pt ip h k)

module _ (x : Walker) (prev : Location) (at : Place) where
  abbrev rest : Try Next
  rest = line_from (full x) x.rect (points x) prev (next_of x at)

  pub from_over : length x.path.now / 2 ≤ at.i → Moves rest x x (Ok at)
  from_over h = stays (from_past (full x) x.rect (points x) prev (next_of x at) (rw (points_length x.path.now) h))

  module _ (h : at.i < length x.path.now / 2) {pt prev_pt : Point64} (ep : pt ≡ pt_at (points x) at.i) (eq : prev_pt ≡ pt_at (points x) (at.i - 1))
      {f : Option SidePoint} (ef : f ≡ get_intersection x.rect pt prev_pt at.loc) where
    within : at.i < length (points x)
    within = rw (points_length x.path.now) h

    found_is : f ≡ get_intersection x.rect (pt_at (points x) at.i) (pt_at (points x) (at.i - 1)) at.loc
    found_is = ef ∙ (λ j. get_intersection x.rect (ep j) (eq j) at.loc)

    pub from_next : f ≡ None → Moves rest x x (Ok (record { loc = at.loc; i = at.i + 1 }))
    from_next e = stays (from_missed (full x) x.rect (points x) prev (next_of x at) within (sym found_is ∙ e))

    module _ {ip : Point64} {l : Location} (e : f ≡ found_at ip l) {y : Walker} {r : Result Unit Refusal} (R : Lands at (line_cross (full x) x.rect (next_of x at) prev prev_pt pt ip) x y r) where
      crossed : Lands at rest x y r
      crossed =
          named R
          ((λ j. line_cross (full x) x.rect (next_of x at) prev (eq j) (ep j) ip)
          ∙ from_found (full x) x.rect (points x) prev (next_of x at) within (sym found_is ∙ e))

      pub from_crossed : {u : Unit} → r ≡ Ok u → Moves rest x y (Ok at)
      from_crossed q = ends_as crossed q refl

      pub from_lost : {why : Refusal} → r ≡ Err why → Moves rest x y (Err why)
      from_lost q = lost_as crossed q
