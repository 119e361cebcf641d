-- The line clipper's passes: what follows a step or a move, a crossing by its cases, and the loop of passes. Assumes nothing.
use mathlib.Core.Path.{◌≡◌, refl, sym, ◌∙◌, ap}
use mathlib.Core.Bool.{Bool, true, false}
use mathlib.Core.List.{List}
use Prim.Native.Nat.{ℕ, suc, ◌+◌, ◌-◌, ◌/◌, ◌<◌, ◌≤◌}
use native.Mathlib.Omega.{arith}
use borrow.Author.Tests.{le-leb, lt-leb, lt-ltb, le-ltb}
use lib.ListN.{length}
use Rattle.plane.specs.declared.point.Point64.{Point64}
use Rattle.plane.specs.declared.rect.Rect64.{Rect64}
use Rattle.plane.specs.declared.location.Location.{Location}
use Rattle.plane.specs.declared.crossing.SidePoint.{SidePoint}
use Rattle.plane.specs.Basics.{Try, refuse, ok, ◌>>=◌}
use Rattle.plane.specs.Intersection.{found_at, get_intersection}
use Rattle.plane.specs.Locations.{is_inside}
use Rattle.plane.specs.Points.{pt_at}
use Rattle.reference.specs.Walk.{Walk, Next, add, second_search}
use Rattle.reference.specs.Lines.{line_through, line_cross, line_from, line_passes}
use Rattle.entry.specs.declared.answer.Refusal.{Refusal}
use Rattle.rectclip.specs.declared.walk.Walker.{Walker}
use Rattle.std.specs.Prelude.{Result, Ok, Err, None}
use Rattle.rectclip.specs.declared.next.Place.{Place}
use Rattle.rectclip.specs.Steps.{full, points, next_of, Same, Steps, Moves}
use Rattle.rectclip.specs.Crossing.{one_pass, all_passes}
use Rattle.rectclip.proofs.Coordinates.{points_length}
use Rattle.rectclip.proofs.Walking.{on_ok, on_refuse}
use Rattle.rectclip.proofs.Steps.{same_refl, after, done_is, refused_is}

-- ---- a crossing, by its cases
module _ (full : ℕ → Bool) (rect : Rect64) (nx : Next) (prev : Location) (prev_pt pt ip : Point64) where
  pub through_second : {q : SidePoint} → q ≡ second_search rect prev_pt pt prev ip
      → (add full nx.walk q.point true >>= λ w. add full w ip false >>= λ v. ok (record { walk = v; loc = nx.loc; i = nx.i })) ≡ line_through full rect nx prev prev_pt pt ip
  unfolding line_through
  through_second e = ap (λ (q : SidePoint). add full nx.walk q.point true >>= λ w. add full w ip false >>= λ v. ok (record { walk = v; loc = nx.loc; i = nx.i })) e

  pub cross_enters : is_inside nx.loc ≡ true → (add full nx.walk ip true >>= λ w. ok (record { walk = w; loc = nx.loc; i = nx.i })) ≡ line_cross full rect nx prev prev_pt pt ip
  unfolding line_cross
  cross_enters e = rw e refl

  pub cross_passes : is_inside nx.loc ≡ false → is_inside prev ≡ false → line_through full rect nx prev prev_pt pt ip ≡ line_cross full rect nx prev prev_pt pt ip
  unfolding line_cross
  cross_passes e f = rw (e, f) refl

  pub cross_exits : is_inside nx.loc ≡ false → is_inside prev ≡ true → (add full nx.walk ip false >>= λ w. ok (record { walk = w; loc = nx.loc; i = nx.i })) ≡ line_cross full rect nx prev prev_pt pt ip
  unfolding line_cross
  cross_exits e f = rw (e, f) refl

module _ (full : ℕ → Bool) (rect : Rect64) (P : List Point64) (prev : Location) (nx : Next) where
  pub from_past : length P ≤ nx.i → ok nx ≡ line_from full rect P prev nx
  unfolding line_from
  from_past h = rw (le-leb (length P) nx.i h) refl

  pub from_missed : nx.i < length P → get_intersection rect (pt_at P nx.i) (pt_at P (nx.i - 1)) nx.loc ≡ None
      → ok (record { walk = nx.walk; loc = nx.loc; i = nx.i + 1 }) ≡ line_from full rect P prev nx
  unfolding line_from
  from_missed h e = rw (lt-leb (length P) nx.i h, e) refl

  pub from_found : nx.i < length P → {ip : Point64} {l : Location} → get_intersection rect (pt_at P nx.i) (pt_at P (nx.i - 1)) nx.loc ≡ found_at ip l
      → line_cross full rect nx prev (pt_at P (nx.i - 1)) (pt_at P nx.i) ip ≡ line_from full rect P prev nx
  unfolding line_from
  from_found h e = rw (lt-leb (length P) nx.i h, e) refl

-- ---- the loop of passes
module _ (full : ℕ → Bool) (rect : Rect64) (P : List Point64) (left : ℕ) (s : Next) where
  pub passes_over : length P ≤ s.i → ok s ≡ line_passes full rect P (suc left) s
  unfolding line_passes
  passes_over h = rw (le-ltb s.i (length P) h) refl

  pub passes_go : s.i < length P → (t : Next) → ok t ≡ one_pass full rect P s → line_passes full rect P left t ≡ line_passes full rect P (suc left) s
  unfolding line_passes
  passes_go h t e = rw (lt-ltb s.i (length P) h) (on_ok (line_passes full rect P left) e)

  pub passes_stop : s.i < length P → (k : ℕ) → refuse k ≡ one_pass full rect P s → refuse k ≡ line_passes full rect P (suc left) s
  unfolding line_passes
  passes_stop h k e = rw (lt-ltb s.i (length P) h) (on_refuse (line_passes full rect P left) e)

pub passes_none : (full : ℕ → Bool) (rect : Rect64) (P : List Point64) (s : Next) → ok s ≡ line_passes full rect P 0 s
unfolding line_passes
passes_none full rect P s = refl

-- the loop of passes, at place s of the turn
pub record Passes (x : Walker) (start : Place) (n : ℕ) (y : Walker) (s : Place) (turn : ℕ) : Type 0 where
  pub goal : line_passes (full x) x.rect (points x) (n - turn) (next_of y s) ≡ line_passes (full x) x.rect (points x) (length (points x)) (next_of x start)
  pub same : Same x y
  pub end : n ≡ length x.path.now / 2

pub passes_start : (x : Walker) (start : Place) → Passes x start (length x.path.now / 2) x start 0
passes_start x start =
    let e : length x.path.now / 2 - 0 ≡ length x.path.now / 2 = omega arith in
    record { goal = rw (e, points_length x.path.now) refl; same = same_refl x; end = refl }

module _ {x : Walker} {start : Place} {n : ℕ} {y : Walker} {s : Place} {turn : ℕ} (I : Passes x start n y s turn) where
  many : length (points x) ≡ n
  many = points_length x.path.now ∙ sym I.end

  -- the walk alone is kept
  abbrev kept : Next → Try Walk
  kept e = ok e.walk

  abbrev whole : Try Walk
  whole = all_passes (full x) x.rect (points x) (next_of x start)

  module _ (h : turn < n) where
    now_left : line_passes (full x) x.rect (points x) (suc (n - (turn + 1))) (next_of y s) ≡ line_passes (full x) x.rect (points x) (length (points x)) (next_of x start)
    now_left = let e : suc (n - (turn + 1)) ≡ n - turn = omega arith in rw e I.goal

    pub passes_past : n ≤ s.i → Steps whole x y (Ok tt)
    passes_past p = record { same = I.same; is = on_ok kept (passes_over _ x.rect (points x) (n - (turn + 1)) (next_of y s) (rw many p) ∙ now_left) }

    module _ (p : s.i < n) {z : Walker} {r : Result Place Refusal} (R : Moves (one_pass (full y) y.rect (points y) (next_of y s)) y z r) where
      one : Moves (one_pass (full x) x.rect (points x) (next_of y s)) x z r
      one = after (λ full rect path. one_pass full rect path (next_of y s)) I.same R

      pub passes_lost : {why : Refusal} → r ≡ Err why → Steps whole x z (Err why)
      passes_lost e = record { same = one.same; is = on_refuse kept (passes_stop _ x.rect (points x) (n - (turn + 1)) (next_of y s) (rw many p) _ (refused_is one e) ∙ now_left) }

      pub passes_again : {t : Place} → r ≡ Ok t → Passes x start n z t (turn + 1)
      passes_again {t} e = record {
        goal = passes_go _ x.rect (points x) (n - (turn + 1)) (next_of y s) (rw many p) (next_of z t) (done_is one e) ∙ now_left;
        same = one.same;
        end = I.end;
      }

  pub passes_done : n ≤ turn → Steps whole x y (Ok tt)
  passes_done h =
      let e : n - turn ≡ 0 = omega arith in
      record { same = I.same; is = on_ok kept (passes_none _ x.rect (points x) (next_of y s) ∙ (rw e at I.goal)) }
