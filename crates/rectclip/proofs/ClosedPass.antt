-- What each function of a closed pass has to show where it returns: the answers of its calls come to the definition's. Assumes nothing.
use mathlib.Core.Path.{◌≡◌, refl, sym, ◌∙◌, ap, subst}
use mathlib.Core.Bool.{Bool, true, false}
use mathlib.Core.List.{List}
use Prim.Native.Nat.{ℕ, zero, suc, ◌+◌, ◌-◌, ◌/◌}
use native.Mathlib.Omega.{arith}
use borrow.Author.Tests.{lt-ltb, ne_eqb}
use lib.IntN.{ℤ}
use lib.ListN.{length}
use Rattle.plane.specs.declared.point.Point64.{Point64}
use Rattle.plane.specs.declared.rect.Rect64.{Rect64}
use Rattle.plane.specs.declared.location.Location.{Location}
use Rattle.plane.specs.declared.location.Spot.{Spot}
use Rattle.plane.specs.declared.crossing.SidePoint.{SidePoint}
use Rattle.plane.specs.Basics.{Try, ok, ◌>>=◌}
use Rattle.plane.specs.Limit.{Limited}
use Rattle.plane.specs.Locations.{is_inside, same_location}
use Rattle.plane.specs.Points.{same_point, pt_at, points_of}
use Rattle.plane.specs.Rectangle.{mid_point, get_location}
use Rattle.plane.proofs.CrossProduct.{mid_point_limited}
use Rattle.reference.specs.Walk.{Walk, State, add, push_start_loc, push_start_locs, add_corners, add_corner_prev_curr, second_search, remain_outside, enter, pass_to, pass_through, leave, cross_boundary, pt_before}
use Rattle.entry.specs.declared.answer.Refusal.{Refusal}
use Rattle.std.specs.Prelude.{eqb, if◌then◌else◌, Result, Ok, Err}
use Rattle.rectclip.specs.declared.walk.Walker.{Walker}
use Rattle.rectclip.specs.declared.pass.ClosedState.{ClosedState}
use Rattle.rectclip.specs.declared.pass.Pass.{Pass}
use Rattle.rectclip.specs.declared.corners.Way.{Way}
use Rattle.rectclip.specs.Steps.{walk, full, Answers, Steps}
use Rattle.rectclip.specs.Closing.{passed, state_of, pass_of, way_to, moves_on, first_of, enter_corners, pass_corner, pass_start, pass_in, pass_out, Advances}
use Rattle.rectclip.proofs.Coordinates.{points_length}
use Rattle.rectclip.proofs.Limits.{framed}
use Rattle.rectclip.proofs.Steps.{on, stays, named, step_then, step_lost, read_as}
use Rattle.rectclip.proofs.Closing.{outside_starts, outside_corners, outside_stays, entry_first, entry_same, entry_corners, entry_parts, leave_parts, corner_passed, corner_none, start_first, start_none, in_parts, out_corner, out_point, pass_parts, at_walk, through_second, crossing_enters, crossing_passes, crossing_leaves}

-- ---- points within the limit
pub mid_limited : (x : Walker) {m : Point64} → m ≡ mid_point x.rect → Limited m
mid_limited x e = subst Limited (sym e) (mid_point_limited x.rect (framed x.rect x.sheet.frame))

-- ---- the point before
pub before_is : (path : List ℤ) (i : ℕ) {k : ℕ} → k ≡ (if eqb i 0 then length path / 2 - 1 else i - 1) → {p : Point64} → p ≡ pt_at (points_of path) k → p ≡ pt_before (points_of path) i
before_is path zero e f = f ∙ ap (λ (k : ℕ). pt_at (points_of path) k) (e ∙ ap (λ (n : ℕ). n - 1) (sym (points_length path)))
before_is path (suc i) e f = rw (lt-ltb 0 (suc i) (omega arith)) (f ∙ ap (λ (k : ℕ). pt_at (points_of path) k) (rw (ne_eqb (suc i) 0 (λ q. omega arith)) at e))

-- a step that answers nothing more than the walk, of a definition that has the state s beside it
abbrev pub Ends : ClosedState → Try State → Walker → Walker → Result Unit Refusal → Type 0
Ends s = Answers (λ y u. state_of y s)

-- ---- no crossing is found
-- the state behind a pass that finds none
abbrev pub went_on : Pass → Location → ClosedState
went_on c x = record { i = c.i + 1; loc = c.loc; crossing_loc = x; first_cross = c.first_cross }

module _ (x : Walker) (c : Pass) {b : Bool} (eb : b ≡ is_inside c.crossing_prev) where
  module _ {way : Way} (ew : way ≡ way_to x.rect c c.loc) {y : Walker} {r : Result Unit Refusal} where
    pub remain_starts : b ≡ true → Steps (push_start_locs (full x) x.rect 4 (walk x) way.from way.to way.is_clockwise) x y r → Ends (went_on c c.crossing_prev) (remain_outside (full x) x.rect (pass_of x c)) x y r
    remain_starts t R = named (read_as (rw ew at R) (λ w. passed w (went_on c c.crossing_prev)) (λ u. refl)) (outside_starts (full x) x.rect (pass_of x c) (sym eb ∙ t))

    pub remain_corners : b ≡ false → {d : Bool} → d ≡ moves_on c.prev c.loc → d ≡ true → Steps (add_corners (full x) x.rect 4 (walk x) way.from way.to way.is_clockwise) x y r → Ends (went_on c c.loc) (remain_outside (full x) x.rect (pass_of x c)) x y r
    remain_corners t ed v R = named (read_as (rw ew at R) (λ w. passed w (went_on c c.loc)) (λ u. refl)) (outside_corners (full x) x.rect (pass_of x c) (sym eb ∙ t) (sym ed ∙ v))

  pub remain_stays : b ≡ false → {d : Bool} → d ≡ moves_on c.prev c.loc → d ≡ false → Advances (remain_outside (full x) x.rect (pass_of x c)) x x (Ok (went_on c c.loc))
  remain_stays t ed v = stays (outside_stays (full x) x.rect (pass_of x c) (sym eb ∙ t) (sym ed ∙ v))

-- ---- entering
module _ (x : Walker) (c : Pass) (l : Location) {b : Bool} (eb : b ≡ is_inside c.first_cross) where
  module _ {y : Walker} {r : Result Unit Refusal} where
    pub corners_first : b ≡ true → Steps (push_start_loc (full x) (walk x) c.prev) x y r → Steps (enter_corners (full x) x.rect (pass_of x c) l) x y r
    corners_first t R = named R (entry_first (full x) x.rect (pass_of x c) l (sym eb ∙ t))

    pub corners_other : b ≡ false → {d : Bool} → d ≡ same_location c.prev l → d ≡ false → {way : Way} → way ≡ way_to x.rect c l
        → Steps (add_corners (full x) x.rect 4 (walk x) way.from way.to way.is_clockwise) x y r → Steps (enter_corners (full x) x.rect (pass_of x c) l) x y r
    corners_other t ed v ew R = named (rw ew at R) (entry_corners (full x) x.rect (pass_of x c) l (sym eb ∙ t) (sym ed ∙ v))

  pub corners_same : b ≡ false → {d : Bool} → d ≡ same_location c.prev l → d ≡ true → Steps (enter_corners (full x) x.rect (pass_of x c) l) x x (Ok tt)
  corners_same t ed v = stays (entry_same (full x) x.rect (pass_of x c) l (sym eb ∙ t) (sym ed ∙ v))

-- the state behind an entry, and behind an exit
abbrev pub came_in : Pass → Location → ClosedState
came_in c l = record { i = c.i; loc = c.loc; crossing_loc = l; first_cross = first_of c.first_cross l }

abbrev pub went_out : Pass → Location → ClosedState
went_out c l = record { i = c.i; loc = l; crossing_loc = l; first_cross = first_of c.first_cross l }

-- a point is added, and the state is s
abbrev added_at : Point64 → ClosedState → (ℕ → Bool) → Rect64 → List Point64 → Walk → Try State
added_at ip s full rect path w = add full w ip false >>= λ v. ok (passed v s)

module _ (x : Walker) (c : Pass) (l : Location) (ip : Point64) where
  module _ {y : Walker} {r : Result Unit Refusal} (R : Steps (enter_corners (full x) x.rect (pass_of x c) l) x y r) where
    pub enter_lost : {why : Refusal} → r ≡ Err why → Advances (enter (full x) x.rect (pass_of x c) ip l) x y (Err why)
    enter_lost e = named (step_lost R e (on (added_at ip (came_in c l)) x)) (entry_parts (full x) x.rect (pass_of x c) l ip)

    pub enter_on : {u : Unit} → r ≡ Ok u → {z : Walker} {q : Result Unit Refusal} → Steps (add (full y) (walk y) ip false) y z q → Ends (came_in c l) (enter (full x) x.rect (pass_of x c) ip l) x z q
    enter_on e Q = named (step_then R e (added_at ip (came_in c l)) (read_as Q (λ v. passed v (came_in c l)) (λ u. refl))) (entry_parts (full x) x.rect (pass_of x c) l ip)

  pub leave_added : {y : Walker} {r : Result Unit Refusal} → Steps (add (full x) (walk x) ip false) x y r → Ends (went_out c l) (leave (full x) x.rect (pass_of x c) ip l) x y r
  leave_added R = named (read_as R (λ v. passed v (went_out c l)) (λ u. refl)) (leave_parts (full x) x.rect (pass_of x c) l ip)

-- ---- passing right through: coming in
module _ (x : Walker) where
  module _ (p l : Location) {b : Bool} (eb : b ≡ moves_on p l) where
    pub corner_turned : b ≡ true → {y : Walker} {r : Result Unit Refusal} → Steps (add_corner_prev_curr (full x) x.rect (walk x) p l) x y r → Steps (pass_corner (full x) x.rect (walk x) p l) x y r
    corner_turned t R = named R (corner_passed (full x) x.rect (walk x) p l (sym eb ∙ t))

    pub corner_kept : b ≡ false → Steps (pass_corner (full x) x.rect (walk x) p l) x x (Ok tt)
    corner_kept t = stays (corner_none (full x) x.rect (walk x) p l (sym eb ∙ t))

  module _ (f p : Location) {b : Bool} (eb : b ≡ is_inside f) where
    pub start_pushed : b ≡ true → {y : Walker} {r : Result Unit Refusal} → Steps (push_start_loc (full x) (walk x) p) x y r → Steps (pass_start (full x) (walk x) f p) x y r
    start_pushed t R = named R (start_first (full x) (walk x) f p (sym eb ∙ t))

    pub start_kept : b ≡ false → Steps (pass_start (full x) (walk x) f p) x x (Ok tt)
    start_kept t = stays (start_none (full x) (walk x) f p (sym eb ∙ t))

  module _ (c : Pass) (ip2 : Point64) (l : Location) where
    abbrev come : (ℕ → Bool) → Rect64 → List Point64 → Walk → Try Walk
    come full rect path w = add full w ip2 false

    abbrev start_and_come : (ℕ → Bool) → Rect64 → List Point64 → Walk → Try Walk
    start_and_come full rect path w = pass_start full w c.first_cross c.prev >>= come full rect path

    module _ {y : Walker} {r : Result Unit Refusal} (R : Steps (pass_corner (full x) x.rect (walk x) c.crossing_prev l) x y r) where
      pub in_lost : {why : Refusal} → r ≡ Err why → Steps (pass_in (full x) x.rect (pass_of x c) ip2 l) x y (Err why)
      in_lost e = named (step_lost R e (on start_and_come x)) (in_parts (full x) x.rect (pass_of x c) ip2 l)

      module _ {u : Unit} (e : r ≡ Ok u) {z : Walker} {q : Result Unit Refusal} (Q : Steps (pass_start (full y) (walk y) c.first_cross c.prev) y z q) where
        pub in_stopped : {why : Refusal} → q ≡ Err why → Steps (pass_in (full x) x.rect (pass_of x c) ip2 l) x z (Err why)
        in_stopped f = named (step_then R e start_and_come (step_lost Q f (on come y))) (in_parts (full x) x.rect (pass_of x c) ip2 l)

        pub in_added : {v : Unit} → q ≡ Ok v → {z' : Walker} {t : Result Unit Refusal} → Steps (add (full z) (walk z) ip2 false) z z' t → Steps (pass_in (full x) x.rect (pass_of x c) ip2 l) x z' t
        in_added f T = named (step_then R e start_and_come (step_then Q f come T)) (in_parts (full x) x.rect (pass_of x c) ip2 l)

-- ---- and going out
-- the state behind it
abbrev pub out_on : Pass → Location → Location → ClosedState
out_on c l f = record { i = c.i; loc = l; crossing_loc = l; first_cross = f }

module _ (x : Walker) (c : Pass) (ip : Point64) (l : Location) (ip2 : Point64) (l2 : Location) {b : Bool} (eb : b ≡ same_point ip ip2) {f : Location} (ef : f ≡ first_of c.first_cross l2) {y : Walker} {r : Result Unit Refusal} where
  pub out_turned : b ≡ true → {s : Spot} → s ≡ get_location x.rect c.segment.to → Steps (add_corner_prev_curr (full x) x.rect (walk x) l s.loc) x y r → Ends (out_on c s.loc f) (pass_out (full x) x.rect (pass_of x c) ip l ip2 l2) x y r
  out_turned t {s} es R = rw ef (named (read_as R (λ v. passed v (out_on c s.loc (first_of c.first_cross l2))) (λ u. refl)) (out_corner (full x) x.rect (pass_of x c) ip l ip2 l2 (sym eb ∙ t) s.loc (ap (λ (s : Spot). s.loc) es)))

  pub out_added : b ≡ false → Steps (add (full x) (walk x) ip false) x y r → Ends (out_on c l f) (pass_out (full x) x.rect (pass_of x c) ip l ip2 l2) x y r
  out_added t R = rw ef (named (read_as R (λ v. passed v (out_on c l (first_of c.first_cross l2))) (λ u. refl)) (out_point (full x) x.rect (pass_of x c) ip l ip2 l2 (sym eb ∙ t)))

module _ (x : Walker) (c : Pass) (ip : Point64) (l : Location) where
  module _ (ip2 : Point64) (l2 : Location) {y : Walker} {r : Result Unit Refusal} (R : Steps (pass_in (full x) x.rect (pass_of x c) ip2 l2) x y r) where
    abbrev go_out : (ℕ → Bool) → Rect64 → List Point64 → Walk → Try State
    go_out full rect path w = pass_out full rect (at_walk (pass_of x c) w) ip l ip2 l2

    pub to_lost : {why : Refusal} → r ≡ Err why → Advances (pass_to (full x) x.rect (pass_of x c) ip l ip2 l2) x y (Err why)
    to_lost e = named (step_lost R e (on go_out x)) (pass_parts (full x) x.rect (pass_of x c) ip l ip2 l2)

    pub to_out : {u : Unit} → r ≡ Ok u → {z : Walker} {a : Result ClosedState Refusal} → Advances (pass_out (full y) y.rect (pass_of y c) ip l ip2 l2) y z a → Advances (pass_to (full x) x.rect (pass_of x c) ip l ip2 l2) x z a
    to_out e A = named (step_then R e go_out A) (pass_parts (full x) x.rect (pass_of x c) ip l ip2 l2)

  module _ {y : Walker} {a : Result ClosedState Refusal} where
    pub passed_through : {q : SidePoint} → q ≡ second_search x.rect c.segment.from c.segment.to c.prev ip → Advances (pass_to (full x) x.rect (pass_of x c) ip l q.point q.side) x y a → Advances (pass_through (full x) x.rect (pass_of x c) ip l) x y a
    passed_through e A = named A (through_second (full x) x.rect (pass_of x c) l ip e)

    -- ---- crossing the boundary, by where the segment comes from and goes to
    module _ {b : Bool} (eb : b ≡ is_inside c.loc) where
      pub crossed_in : b ≡ true → Advances (enter (full x) x.rect (pass_of x c) ip l) x y a → Advances (cross_boundary (full x) x.rect (pass_of x c) ip l) x y a
      crossed_in t A = named A (crossing_enters (full x) x.rect (pass_of x c) l ip (sym eb ∙ t))

      module _ (t : b ≡ false) {d : Bool} (ed : d ≡ is_inside c.prev) where
        pub crossed_out : d ≡ true → Advances (leave (full x) x.rect (pass_of x c) ip l) x y a → Advances (cross_boundary (full x) x.rect (pass_of x c) ip l) x y a
        crossed_out v A = named A (crossing_leaves (full x) x.rect (pass_of x c) l ip (sym eb ∙ t) (sym ed ∙ v))

        pub crossed_over : d ≡ false → Advances (pass_through (full x) x.rect (pass_of x c) ip l) x y a → Advances (cross_boundary (full x) x.rect (pass_of x c) ip l) x y a
        crossed_over v A = named A (crossing_passes (full x) x.rect (pass_of x c) l ip (sym eb ∙ t) (sym ed ∙ v))
