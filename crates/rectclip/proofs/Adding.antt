-- `add` on the lent lists: a point put behind the last one, with or without a new result, is the definition's `add`, and the walk fits again.
-- Assumes nothing.
use mathlib.Core.Path.{◌≡◌, refl, sym, ◌∙◌, ap}
use mathlib.Core.Bool.{Bool, true, false, ◌||◌}
use mathlib.Core.List.{List, [], ◌∷◌, map}
use Prim.Native.Nat.{ℕ, zero, suc, ◌+◌, ◌-◌, ◌*◌, ◌/◌, ◌<◌, ◌≤◌}
use native.Mathlib.Omega.{arith}
use native.Mathlib.Numerals.{add-one}
use native.Mathlib.Decide.{ℕ_discrete}
use borrow.Author.Tests.{le-leb, lt-leb, eqb-true}
use lib.Dec.{eqb}
use lib.ListN.{length, take}
use lib.Seq.{take-suc-set, get_or-set_same, get_or-set_other, get_or-take, length-take-le}
use lib.IntN.{ℤ}
use Rattle.plane.specs.declared.point.Point64.{Point64}
use Rattle.plane.specs.Basics.{is_nil, push, refuse, ok}
use Rattle.plane.specs.Points.{origin, same_point, pt_at, points_of}
use Rattle.reference.specs.Walk.{Walk, add}
use Rattle.entry.specs.declared.answer.Refusal.TheVariants.{StoreFull}
use Rattle.rectclip.specs.declared.walk.WalkState.{WalkState}
use Rattle.std.specs.Prelude.{Ok, Err}
use Rattle.rectclip.specs.Memory.{at, put, put_point, column}
use Rattle.rectclip.specs.Bounds.{Reached}
use Rattle.rectclip.specs.Walking.{location, walk_of, Fits}
use Rattle.rectclip.proofs.Memory.{room_put, at_put, at_put_slot}
use Rattle.rectclip.proofs.Columns.{column_pushed, column_other}
use Rattle.rectclip.specs.declared.walk.Walker.{Walker}
use Rattle.rectclip.specs.Steps.{walk, full, Steps}
use Rattle.rectclip.proofs.Steps.{stays, refused}
use Rattle.rectclip.proofs.Coordinates.{points_length, points_take, points_put, length_put_point}

-- no result begins, and there is a point before
pub goes_on : (b : Bool) (n : ℕ) → (b || eqb n 0) ≡ false → (b ≡ false) × (0 < n)
goes_on true n h = absurd (let z : ◌≡◌ {A = ℕ} 0 1 = cc in omega arith)
goes_on false zero h = absurd (let z : ◌≡◌ {A = ℕ} 0 1 = cc in omega arith)
goes_on false (suc n) h = (refl, omega arith)

-- ---- the definition's `add`, by cases, for a walk of n points
module _ (full : ℕ → Bool) (w : Walk) (pt : Point64) (n : ℕ) (hn : length w.points ≡ n) where
  or_true : (b c : Bool) → c ≡ true → (b || c) ≡ true
  or_true true c e = refl
  or_true false c e = e

  nil_at : {A : Type 0} (l : List A) → length l ≡ 0 → is_nil l ≡ true
  nil_at [] h = refl
  nil_at (x ∷ l) h = absurd (omega arith)

  some_at : {A : Type 0} (l : List A) → 0 < length l → is_nil l ≡ false
  some_at [] h = absurd (omega arith)
  some_at (x ∷ l) h = refl

  -- where there is no point yet a new result begins too
  pub add_first : n ≡ 0 → add full w pt false ≡ add full w pt true
  unfolding add
  add_first h = let e = nil_at w.points (hn ∙ h) in rw e

  pub add_new_full : full n ≡ true → add full w pt true ≡ refuse 8
  unfolding add
  add_new_full h = rw (or_true (is_nil w.points) true refl, hn, h)

  pub add_new : full n ≡ false → add full w pt true ≡ ok (record { points = push w.points pt; starts = push w.starts n; start_locs = w.start_locs })
  unfolding add
  add_new h = rw (or_true (is_nil w.points) true refl, hn, h)

  pub add_same : 0 < n → same_point (pt_at w.points (n - 1)) pt ≡ true → add full w pt false ≡ ok w
  unfolding add
  add_same h e = let z = some_at w.points (omega arith) in rw (z, hn, e)

  pub add_full : 0 < n → same_point (pt_at w.points (n - 1)) pt ≡ false → full n ≡ true → add full w pt false ≡ refuse 8
  unfolding add
  add_full h e f = let z = some_at w.points (omega arith) in rw (z, hn, e, f)

  pub add_longer : 0 < n → same_point (pt_at w.points (n - 1)) pt ≡ false → full n ≡ false
      → add full w pt false ≡ ok (record { points = push w.points pt; starts = w.starts; start_locs = w.start_locs })
  unfolding add
  add_longer h e f = let z = some_at w.points (omega arith) in rw (z, hn, e, f)

-- ---- the walk in the lists
module _ {store : List ℤ} {work : List ℕ} {s : WalkState} (F : Fits store work s) where
  pub walk_points : (walk_of store work s).points ≡ take s.points (points_of store)
  unfolding walk_of
  walk_points = points_take s.points store

  pub walk_length : length (walk_of store work s).points ≡ s.points
  walk_length =
      ap length walk_points ∙ length-take-le s.points (points_of store) (rw (points_length store) F.points)

  pub walk_at : (i : ℕ) → i < s.points → pt_at (walk_of store work s).points i ≡ pt_at (points_of store) i
  walk_at i h = ap (λ (l : List Point64). pt_at l i) walk_points ∙ get_or-take s.points (points_of store) i origin h

  module _ (h : s.points < length store / 2) (pt : Point64) (near : Reached pt) where
    close_behind : (i : ℕ) → i < s.points + 1 → Reached (pt_at (points_of (put_point store s.points pt)) i)
    close_behind i hi =
        rw (points_put store s.points pt)
        (elim (ℕ_discrete i s.points) [
          | yes e ↦ rw (e, get_or-set_same (points_of store) s.points pt origin (rw (points_length store) h)) near
          | no q ↦ rw (get_or-set_other (points_of store) s.points i pt origin q) (F.near i (omega arith))
        ])

    -- the point is put there, and not yet counted
    pub fits_put : Fits (put_point store s.points pt) work s
    fits_put =
        let e = length_put_point store s.points pt in
        record {
          room = rw e F.room;
          few = rw e F.few;
          points = rw e F.points;
          starts = F.starts;
          start_locs = rw e F.start_locs;
          begun = F.begun;
          rising = F.rising;
          near = λ i hi. close_behind i (omega arith);
        }

    points_pushed : points_of (take (2 * (s.points + 1)) (put_point store s.points pt)) ≡ push (walk_of store work s).points pt
    points_pushed =
        points_take (s.points + 1) (put_point store s.points pt)
        ∙ rw (points_put store s.points pt, add-one s.points, walk_points) (take-suc-set (points_of store) s.points pt (rw (points_length store) h))

    -- a point behind the last one, in the last result
    abbrev longer : WalkState
    longer = record { points = s.points + 1; starts = s.starts; start_locs = s.start_locs }

    pub fits_longer : Fits (put_point store s.points pt) work longer
    fits_longer =
        let e = length_put_point store s.points pt in
        record {
          room = rw e F.room;
          few = rw e F.few;
          points = rw e (omega arith);
          starts = omega (arith, F.starts);
          start_locs = rw e F.start_locs;
          begun = λ i hi. let z = F.begun i hi in omega arith;
          rising = F.rising;
          near = close_behind;
        }

    pub walk_longer : walk_of (put_point store s.points pt) work longer ≡ record { points = push (walk_of store work s).points pt; starts = (walk_of store work s).starts; start_locs = (walk_of store work s).start_locs }
    unfolding walk_of
    walk_longer = λ j. record { points = points_pushed j; starts = column 4 s.starts work; start_locs = map location (column 5 s.start_locs work) }

    -- the same in a new result
    abbrev started : WalkState
    started = record { points = s.points + 1; starts = s.starts + 1; start_locs = s.start_locs }

    inside : 16 * s.starts + 4 < length work
    inside = omega (arith, F.starts, F.room.cells)

    pub fits_started : Fits (put_point store s.points pt) (put 4 work s.starts s.points) started
    fits_started =
        let e = length_put_point store s.points pt in
        record {
          room = rw e (room_put _ 4 work s.starts s.points F.room);
          few = rw e F.few;
          points = rw e (omega arith);
          starts = omega (arith, F.starts);
          start_locs = rw e F.start_locs;
          begun = λ i hi.
              elim (ℕ_discrete i s.starts) [
                | yes q ↦ rw (q, at_put 4 work s.starts s.points inside) (omega arith)
                | no q ↦ rw (at_put_slot 4 work s.starts i s.points q) (let z = F.begun i (omega arith) in omega arith)
              ];
          rising = λ i hi.
              let old : at 4 (put 4 work s.starts s.points) i ≡ at 4 work i = at_put_slot 4 work s.starts i s.points (λ q. omega arith) in
              rw old
              (elim (ℕ_discrete (i + 1) s.starts) [
                | yes q ↦ rw (q, at_put 4 work s.starts s.points inside) (let z = F.begun i (omega arith) in omega arith)
                | no q ↦ rw (at_put_slot 4 work s.starts (i + 1) s.points q) (F.rising i (omega arith))
              ]);
          near = close_behind;
        }

    pub walk_started : walk_of (put_point store s.points pt) (put 4 work s.starts s.points) started ≡ record { points = push (walk_of store work s).points pt; starts = push (walk_of store work s).starts s.points; start_locs = (walk_of store work s).start_locs }
    unfolding walk_of
    walk_started = λ j. record {
      points = points_pushed j;
      starts = column_pushed 4 s.starts work s.points inside j;
      start_locs = map location (column_other 4 5 s.start_locs work s.starts s.points (omega arith) (omega arith) (λ q. omega arith) j);
    }

-- ---- what `begin` and `add` of a walker have to show
module _ (x : Walker) (pt : Point64) where
  many : length (walk x).points ≡ x.state.points
  many = walk_length x.fits

  module _ (h : length x.store.now / 2 ≤ x.state.points) where
    pub begin_refused : Steps (add (full x) (walk x) pt true) x x (Err StoreFull)
    begin_refused = refused (sym (add_new_full _ (walk x) pt x.state.points many (le-leb _ _ h)))

  -- a result begins where there is no point yet
  pub begin_first : (b : Bool) → (b || eqb x.state.points 0) ≡ true → add (full x) (walk x) pt true ≡ add (full x) (walk x) pt b
  begin_first true h = refl
  begin_first false h = sym (add_first _ (walk x) pt x.state.points many (eqb-true x.state.points 0 h))

  pub begin_is : x.state.points < length x.store.now / 2 → Reached pt
      → ok (walk_of (put_point x.store.now x.state.points pt) (put 4 x.work.now x.state.starts x.state.points) (record { points = x.state.points + 1; starts = x.state.starts + 1; start_locs = x.state.start_locs })) ≡ add (full x) (walk x) pt true
  begin_is h near = ap ok (walk_started x.fits h pt near) ∙ sym (add_new _ (walk x) pt x.state.points many (lt-leb _ _ h))

  module _ (h : 0 < x.state.points) {last : Point64} (el : last ≡ pt_at (points_of x.store.now) (x.state.points - 1)) where
    last_at : pt_at (walk x).points (x.state.points - 1) ≡ last
    last_at = walk_at x.fits (x.state.points - 1) (omega arith) ∙ sym el

    pub add_skips : same_point last pt ≡ true → Steps (add (full x) (walk x) pt false) x x (Ok tt)
    add_skips e = stays (sym (add_same _ (walk x) pt x.state.points many h (rw last_at e)))

    pub add_refused : same_point last pt ≡ false → length x.store.now / 2 ≤ x.state.points → Steps (add (full x) (walk x) pt false) x x (Err StoreFull)
    add_refused e f = refused (sym (add_full _ (walk x) pt x.state.points many h (rw last_at e) (le-leb _ _ f)))

    pub add_is : same_point last pt ≡ false → x.state.points < length x.store.now / 2 → Reached pt
        → ok (walk_of (put_point x.store.now x.state.points pt) x.work.now (record { points = x.state.points + 1; starts = x.state.starts; start_locs = x.state.start_locs })) ≡ add (full x) (walk x) pt false
    add_is e f near = ap ok (walk_longer x.fits f pt near) ∙ sym (add_longer _ (walk x) pt x.state.points many h (rw last_at e) (lt-leb _ _ f))
