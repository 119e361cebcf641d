-- Corners and start sides along the boundary: one turn of the loops, and the adding of a path's points. Assumes nothing.
use mathlib.Core.Path.{◌≡◌, refl, sym, ◌∙◌, ap}
use mathlib.Core.Bool.{Bool, true, false}
use mathlib.Core.List.{List, [], ◌∷◌, map, map-append}
use Prim.Native.Nat.{ℕ, suc, ◌+◌, ◌-◌, ◌/◌, ◌<◌, ◌≤◌}
use native.Mathlib.Omega.{arith}
use native.Mathlib.Numerals.{add-one}
use borrow.Author.Tests.{le-leb, lt-leb}
use lib.ListN.{length, drop, length-map}
use lib.Seq.{drop-cons, drop-length}
use lib.IntN.{ℤ}
use Rattle.plane.specs.declared.point.Point64.{Point64}
use Rattle.plane.specs.declared.rect.Rect64.{Rect64}
use Rattle.plane.specs.declared.location.Location.{Location}
use Rattle.plane.specs.declared.location.Location.TheVariants.{Left, Top, Right, Bottom, Inside}
use Rattle.plane.specs.Basics.{Try, refuse, ok, push}
use Rattle.plane.specs.Locations.{side_number, same_location, get_adjacent_location}
use Rattle.plane.specs.Points.{origin, pt_at, points_of}
use Rattle.reference.specs.Walk.{Walk, add, add_all, push_start_loc, push_start_locs, add_corner_loc, add_corners}
use Rattle.entry.specs.declared.answer.Refusal.{Refusal}
use Rattle.entry.specs.declared.answer.Refusal.TheVariants.{StoreFull}
use Rattle.rectclip.specs.declared.walk.WalkState.{WalkState}
use Rattle.std.specs.Prelude.{Result, Ok, Err}
use Rattle.rectclip.specs.Memory.{put, column}
use Rattle.rectclip.specs.Walking.{location, walk_of, turned, Fits}
use Rattle.rectclip.specs.declared.walk.Walker.{Walker}
use Rattle.rectclip.specs.Steps.{walk, full, points, Same, Steps, Rounds}
use Rattle.rectclip.proofs.Steps.{same_refl, same_then, stays, refused}
use Rattle.rectclip.proofs.Steps as steps
use Rattle.rectclip.proofs.Memory.{room_put, at_put_field}
use Rattle.rectclip.proofs.Columns.{column_length, column_pushed, column_other}
use Rattle.rectclip.proofs.Coordinates.{points_length}

-- ---- one turn of each loop, by what its step answers
module _ (full : ℕ → Bool) (w v : Walk) (n i : ℕ) (P : List Point64) (h : i < length P) where
  pub all_go : ok v ≡ add full w (pt_at P i) false → add_all full v (drop (i + 1) P) ≡ add_all full w (drop i P)
  unfolding add_all
  all_go e = rw (drop-cons P i origin h, ← e, add-one i) refl

  pub all_stop : refuse n ≡ add full w (pt_at P i) false → refuse n ≡ add_all full w (drop i P)
  unfolding add_all
  all_stop e = rw (drop-cons P i origin h, ← e) refl

pub all_end : (full : ℕ → Bool) (w : Walk) (P : List Point64) (i : ℕ) → i ≡ length P → ok w ≡ add_all full w (drop i P)
unfolding add_all
all_end full w P i e = rw (e, drop-length P) refl

-- ---- a start side
pub location_number : (loc : Location) → location (side_number loc) ≡ loc
location_number Left = refl
location_number Top = refl
location_number Right = refl
location_number Bottom = refl
location_number Inside = refl

module _ {store : List ℤ} {work : List ℕ} {s : WalkState} (loc : Location) (F : Fits store work s) where
  sides : length (walk_of store work s).start_locs ≡ s.start_locs
  unfolding walk_of
  sides = length-map (column 5 s.start_locs work) location ∙ column_length 5 s.start_locs work

  module _ (h : s.start_locs < length store / 2) {work' : List ℕ} (e : work' ≡ put 5 work s.start_locs (side_number loc)) where
    abbrev later : WalkState
    later = record { points = s.points; starts = s.starts; start_locs = s.start_locs + 1 }

    pub fits_later : Fits store (put 5 work s.start_locs (side_number loc)) later
    fits_later = record {
      room = room_put _ 5 work s.start_locs (side_number loc) F.room;
      few = F.few;
      points = F.points;
      starts = F.starts;
      start_locs = omega arith;
      begun = λ i hi. rw (at_put_field 5 4 work s.start_locs i (side_number loc) (omega arith) (omega arith) (λ q. omega arith)) (F.begun i hi);
      rising = λ i hi.
          rw (
            at_put_field 5 4 work s.start_locs i (side_number loc) (omega arith) (omega arith) (λ q. omega arith),
            at_put_field 5 4 work s.start_locs (i + 1) (side_number loc) (omega arith) (omega arith) (λ q. omega arith),
          )
          (F.rising i hi);
      near = F.near;
    }

    pushed : map location (column 5 (s.start_locs + 1) (put 5 work s.start_locs (side_number loc))) ≡ push (map location (column 5 s.start_locs work)) loc
    pushed =
        ap (map location) (column_pushed 5 s.start_locs work (side_number loc) (omega (arith, F.room.cells)))
        ∙ map-append location (column 5 s.start_locs work) (side_number loc ∷ [])
        ∙ ap (λ (l : Location). push (map location (column 5 s.start_locs work)) l) (location_number loc)

    walk_later : walk_of store (put 5 work s.start_locs (side_number loc)) later ≡ record { points = (walk_of store work s).points; starts = (walk_of store work s).starts; start_locs = push (walk_of store work s).start_locs loc }
    unfolding walk_of
    walk_later = λ j. record {
      points = (walk_of store work s).points;
      starts = column_other 5 4 s.starts work s.start_locs (side_number loc) (omega arith) (omega arith) (λ q. omega arith) j;
      start_locs = pushed j;
    }

module _ (x : Walker) (loc : Location) where
  pub push_refused : length x.store.now / 2 ≤ x.state.start_locs → Steps (push_start_loc (full x) (walk x) loc) x x (Err StoreFull)
  unfolding push_start_loc
  push_refused h = refused (rw (sides loc x.fits, le-leb (length x.store.now / 2) x.state.start_locs h) refl)

  pub push_is : x.state.start_locs < length x.store.now / 2
      → ok (walk_of x.store.now (put 5 x.work.now x.state.start_locs (side_number loc)) (record { points = x.state.points; starts = x.state.starts; start_locs = x.state.start_locs + 1 })) ≡ push_start_loc (full x) (walk x) loc
  unfolding push_start_loc
  push_is h = ap ok (walk_later loc x.fits h refl) ∙ rw (sides loc x.fits, lt-leb (length x.store.now / 2) x.state.start_locs h) refl

-- ---- every point of the path
pub record Adding (x y : Walker) (i : ℕ) : Type 0 where
  pub goal : add_all (full x) (walk y) (drop i (points x)) ≡ add_all (full x) (walk x) (points x)
  pub same : Same x y
  pub here : i ≤ length x.path.now / 2

module _ {x y : Walker} {i : ℕ} (I : Adding x y i) where
  module _ (h : i < length x.path.now / 2) {pt : Point64} (ep : pt ≡ pt_at (points y) i) {z : Walker} {r : Result Unit Refusal} (R : Steps (add (full y) (walk y) pt false) y z r) where
    point_is : pt ≡ pt_at (points x) i
    point_is = ep ∙ ap (λ (path : List ℤ). pt_at (points_of path) i) I.same.path

    one : Steps (add (full x) (walk y) (pt_at (points x) i) false) x z r
    one = rw point_is at (steps.after (λ full rect path. add full (walk y) pt false) I.same R)

    within : i < length (points x)
    within = rw (points_length x.path.now) h

    pub adding_on : {u : Unit} → r ≡ Ok u → Adding x z (i + 1)
    adding_on e = record { goal = all_go _ (walk y) (walk z) 0 i (points x) within (steps.done_is one e) ∙ I.goal; same = one.same; here = omega arith }

    pub adding_lost : {why : Refusal} → r ≡ Err why → Steps (add_all (full x) (walk x) (points x)) x z (Err why)
    adding_lost e = record { same = one.same; is = all_stop _ (walk y) (walk y) _ i (points x) within (steps.refused_is one e) ∙ I.goal }

  pub adding_ends : length x.path.now / 2 ≤ i → Steps (add_all (full x) (walk x) (points x)) x y (Ok tt)
  adding_ends h = record { same = I.same; is = all_end _ (walk y) (points x) i (rw (points_length x.path.now) (omega (arith, I.here))) ∙ I.goal }

-- ---- round the boundary
pub corner_rounds : (full : ℕ → Bool) (rect : Rect64) (loc : Location) (cw : Bool) → Rounds loc cw (λ w p. add full w (turned rect p cw) false) (λ left w p. add_corners full rect left w p loc cw)
unfolding add_corners add_corner_loc
corner_rounds full rect loc cw = record {
  stop = λ left w p n e. rw (← e) refl;
  end = λ left w v p e q. rw (← e, q) refl;
  go = λ left w v p e q. rw (← e, q) refl;
  none = λ w p. refl;
}

pub side_rounds : (full : ℕ → Bool) (rect : Rect64) (loc : Location) (cw : Bool) → Rounds loc cw (λ w p. push_start_loc full w p) (λ left w p. push_start_locs full rect left w p loc cw)
unfolding push_start_locs
side_rounds full rect loc cw = record {
  stop = λ left w p n e. rw (← e) refl;
  end = λ left w v p e q. rw (← e, q) refl;
  go = λ left w v p e q. rw (← e, q) refl;
  none = λ w p. refl;
}

pub record Rounding (run : ℕ → Walk → Location → Try Walk) (x : Walker) (p₀ : Location) (y : Walker) (p : Location) (turn : ℕ) : Type 0 where
  pub goal : run (4 - turn) (walk y) p ≡ run 4 (walk x) p₀
  pub same : Same x y

pub rounding_start : (run : ℕ → Walk → Location → Try Walk) (x : Walker) (p : Location) → Rounding run x p x p 0
rounding_start run x p = record { goal = refl; same = same_refl x }

module _ {loc : Location} {cw : Bool} {step : Walk → Location → Try Walk} {run : ℕ → Walk → Location → Try Walk} (D : Rounds loc cw step run)
    {x : Walker} {p₀ : Location} {y : Walker} {p : Location} {turn : ℕ} (I : Rounding run x p₀ y p turn) where
  module _ (h : turn < 4) {z : Walker} {r : Result Unit Refusal} (R : Steps (step (walk y) p) x z r) where
    left_now : run (suc (3 - turn)) (walk y) p ≡ run 4 (walk x) p₀
    left_now = let e : suc (3 - turn) ≡ 4 - turn = omega arith in rw e I.goal

    pub rounding_lost : {why : Refusal} → r ≡ Err why → Steps (run 4 (walk x) p₀) x z (Err why)
    rounding_lost e = record { same = R.same; is = D.stop (3 - turn) (walk y) p _ (steps.refused_is R e) ∙ left_now }

    module _ {u : Unit} (e : r ≡ Ok u) {q : Location} (eq : q ≡ get_adjacent_location p cw) {b : Bool} (eb : b ≡ same_location q loc) where
      pub rounding_met : b ≡ true → Steps (run 4 (walk x) p₀) x z (Ok tt)
      rounding_met t = record { same = R.same; is = D.end (3 - turn) (walk y) (walk z) p (steps.done_is R e) (rw eq at (sym eb ∙ t)) ∙ left_now }

      pub rounding_on : b ≡ false → Rounding run x p₀ z q (turn + 1)
      rounding_on t =
          let f : 4 - (turn + 1) ≡ 3 - turn = omega arith in
          rw eq (record { goal = rw f (D.go (3 - turn) (walk y) (walk z) p (steps.done_is R e) (rw eq at (sym eb ∙ t)) ∙ left_now); same = R.same })

  pub rounding_ends : 4 ≤ turn → Steps (run 4 (walk x) p₀) x y (Ok tt)
  rounding_ends h = let e : 4 - turn ≡ 0 = omega arith in record { same = I.same; is = D.none (walk y) p ∙ (rw e at I.goal) }
