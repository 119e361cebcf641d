-- A whole pass of the closed walk, and the loop of passes: what is left to do now comes to what there was to do at first. Assumes nothing.
use mathlib.Core.Path.{◌≡◌, refl, sym, ◌∙◌}
use mathlib.Core.List.{List}
use Prim.Native.Nat.{ℕ, suc, ◌+◌, ◌-◌, ◌/◌, ◌<◌, ◌≤◌}
use native.Mathlib.Omega.{arith}
use borrow.Author.Tests.{lt-ltb, le-ltb}
use mathlib.Core.Bool.{Bool}
use lib.ListN.{length}
use Rattle.plane.specs.declared.crossing.SidePoint.{SidePoint}
use Rattle.plane.specs.declared.point.Point64.{Point64}
use Rattle.plane.specs.declared.rect.Rect64.{Rect64}
use Rattle.plane.specs.declared.location.Location.{Location}
use Rattle.plane.specs.Basics.{Try, refuse, ok}
use Rattle.plane.specs.Intersection.{found_at, get_intersection}
use Rattle.plane.specs.Points.{pt_at}
use Rattle.reference.specs.Walk.{Walk, Next, State, remain_outside, cross_boundary, pt_before, pass_from, passes, get_next_location}
use Rattle.entry.specs.declared.answer.Refusal.{Refusal}
use Rattle.std.specs.Prelude.{Result, Ok, Err, Option, None}
use Rattle.rectclip.specs.declared.walk.Walker.{Walker}
use Rattle.rectclip.specs.declared.next.Place.{Place}
use Rattle.rectclip.specs.declared.pass.ClosedState.{ClosedState}
use Rattle.rectclip.specs.Steps.{walk, full, points, next_of, Same, Moves}
use Rattle.rectclip.specs.Closing.{state_of, one_pass, Advances}
use Rattle.rectclip.proofs.Coordinates.{points_length}
use Rattle.rectclip.proofs.Walking.{on_ok, on_refuse}
use Rattle.rectclip.proofs.Steps.{same_refl, stays, named, step_then, step_lost, after, done_is, refused_is}
use Rattle.rectclip.proofs.Closing.{from_past, from_missed, from_found}

-- ---- behind `get_next_location`
module _ (x : Walker) (s : ClosedState) (at : Place) where
  abbrev rest : Try State
  rest = pass_from (full x) x.rect (points x) (state_of x s) (next_of x at)

  pub from_ended : length x.path.now / 2 ≤ at.i → Advances rest x x (Ok (record { i = at.i; loc = at.loc; crossing_loc = s.crossing_loc; first_cross = s.first_cross }))
  from_ended h = stays (from_past (full x) x.rect (points x) (state_of x s) (next_of x at) (rw (points_length x.path.now) h))

  module _ (h : at.i < length x.path.now / 2) {p q : Point64} (ep : p ≡ pt_at (points x) at.i) (eq : q ≡ pt_before (points x) at.i)
      {r : Option SidePoint} (er : r ≡ get_intersection x.rect p q at.loc) where
    within : at.i < length (points x)
    within = rw (points_length x.path.now) h

    pub from_outside : r ≡ None → {y : Walker} {a : Result ClosedState Refusal}
        → Advances (remain_outside (full x) x.rect (record { walk = walk x; i = at.i; prev = s.loc; loc = at.loc; crossing_prev = s.crossing_loc; first_cross = s.first_cross; prev_pt = q; pt = p })) x y a → Advances rest x y a
    from_outside e A = named (rw (ep, eq) at A) (from_missed (full x) x.rect (points x) (state_of x s) (next_of x at) within (rw (ep, eq) at (sym er ∙ e)))

    pub from_crossed : {ip : Point64} {l : Location} → r ≡ found_at ip l → {y : Walker} {a : Result ClosedState Refusal}
        → Advances (cross_boundary (full x) x.rect (record { walk = walk x; i = at.i; prev = s.loc; loc = at.loc; crossing_prev = s.crossing_loc; first_cross = s.first_cross; prev_pt = q; pt = p }) ip l) x y a → Advances rest x y a
    from_crossed e A = named (rw (ep, eq) at A) (from_found (full x) x.rect (points x) (state_of x s) (next_of x at) within (rw (ep, eq) at (sym er ∙ e)))

-- ---- one pass
-- what follows `get_next_location` does not look at the walk before it
pass_any : (full : ℕ → Bool) (rect : Rect64) (P : List Point64) (s : State) (w : Walk) (nx : Next) → pass_from full rect P (record { walk = w; i = s.i; loc = s.loc; crossing_loc = s.crossing_loc; first_cross = s.first_cross }) nx ≡ pass_from full rect P s nx
unfolding pass_from
pass_any full rect P s w nx = refl

module _ (x : Walker) (s : ClosedState) {y : Walker} {m : Result Place Refusal} (M : Moves (get_next_location (full x) x.rect (points x) (walk x) s.loc s.i) x y m) where
  abbrev rest_of : (ℕ → Bool) → Rect64 → List Point64 → Next → Try State
  rest_of full rect path = pass_from full rect path (state_of x s)

  pub pass_went : {at : Place} → m ≡ Ok at → {z : Walker} {a : Result ClosedState Refusal} → Advances (pass_from (full y) y.rect (points y) (state_of y s) (next_of y at)) y z a
      → Advances (one_pass (full x) x.rect (points x) (state_of x s)) x z a
  unfolding one_pass
  pass_went {at} e A = step_then M e rest_of (named A (pass_any (full y) y.rect (points y) (state_of x s) (walk y) (next_of y at)))

  pub pass_lost : {why : Refusal} → m ≡ Err why → Advances (one_pass (full x) x.rect (points x) (state_of x s)) x y (Err why)
  unfolding one_pass
  pass_lost e = step_lost M e (pass_from (full x) x.rect (points x) (state_of x s))

-- ---- the loop of passes
module _ (full : ℕ → Bool) (rect : Rect64) (P : List Point64) (left : ℕ) (s : State) where
  passes_over : length P ≤ s.i → ok s ≡ passes full rect P (suc left) s
  unfolding passes
  passes_over h = rw (le-ltb s.i (length P) h) refl

  passes_go : s.i < length P → (t : State) → ok t ≡ one_pass full rect P s → passes full rect P left t ≡ passes full rect P (suc left) s
  unfolding passes one_pass
  passes_go h t e = rw (lt-ltb s.i (length P) h) (on_ok (passes full rect P left) e)

  passes_stop : s.i < length P → (k : ℕ) → refuse k ≡ one_pass full rect P s → refuse k ≡ passes full rect P (suc left) s
  unfolding passes one_pass
  passes_stop h k e = rw (lt-ltb s.i (length P) h) (on_refuse (passes full rect P left) e)

passes_none : (full : ℕ → Bool) (rect : Rect64) (P : List Point64) (s : State) → ok s ≡ passes full rect P 0 s
unfolding passes
passes_none full rect P s = refl

-- the loop of passes, at the state s of the turn
pub record Around (x : Walker) (start : ClosedState) (n : ℕ) (y : Walker) (s : ClosedState) (turn : ℕ) : Type 0 where
  pub goal : passes (full x) x.rect (points x) (n + 1 - turn) (state_of y s) ≡ passes (full x) x.rect (points x) (length (points x) + 1) (state_of x start)
  pub same : Same x y
  pub end : n ≡ length x.path.now / 2

pub around_start : (x : Walker) (start : ClosedState) → Around x start (length x.path.now / 2) x start 0
around_start x start =
    let e : length x.path.now / 2 + 1 - 0 ≡ length x.path.now / 2 + 1 = omega arith in
    record { goal = rw (e, points_length x.path.now) refl; same = same_refl x; end = refl }

module _ {x : Walker} {start : ClosedState} {n : ℕ} {y : Walker} {s : ClosedState} {turn : ℕ} (I : Around x start n y s turn) where
  many : length (points x) ≡ n
  many = points_length x.path.now ∙ sym I.end

  abbrev whole : Try State
  whole = passes (full x) x.rect (points x) (length (points x) + 1) (state_of x start)

  module _ (h : turn < n + 1) where
    now_left : passes (full x) x.rect (points x) (suc (n - turn)) (state_of y s) ≡ whole
    now_left = let e : suc (n - turn) ≡ n + 1 - turn = omega arith in rw e I.goal

    pub around_past : n ≤ s.i → Advances whole x y (Ok s)
    around_past p = record { same = I.same; is = passes_over (full x) x.rect (points x) (n - turn) (state_of y s) (rw many p) ∙ now_left }

    module _ (p : s.i < n) {z : Walker} {r : Result ClosedState Refusal} (R : Advances (one_pass (full y) y.rect (points y) (state_of y s)) y z r) where
      one : Advances (one_pass (full x) x.rect (points x) (state_of y s)) x z r
      one = after (λ full rect path. one_pass full rect path (state_of y s)) I.same R

      pub around_lost : {why : Refusal} → r ≡ Err why → Advances whole x z (Err why)
      around_lost e = record { same = one.same; is = passes_stop (full x) x.rect (points x) (n - turn) (state_of y s) (rw many p) _ (refused_is one e) ∙ now_left }

      pub around_again : {t : ClosedState} → r ≡ Ok t → Around x start n z t (turn + 1)
      around_again {t} e = record {
        goal =
            let f : n + 1 - (turn + 1) ≡ n - turn = omega arith in
            rw f (passes_go (full x) x.rect (points x) (n - turn) (state_of y s) (rw many p) (state_of z t) (done_is one e) ∙ now_left);
        same = one.same;
        end = I.end;
      }

  pub around_done : n + 1 ≤ turn → Advances whole x y (Ok s)
  around_done h =
      let e : n + 1 - turn ≡ 0 = omega arith in
      record { same = I.same; is = passes_none (full x) x.rect (points x) (state_of y s) ∙ (rw e at I.goal) }
