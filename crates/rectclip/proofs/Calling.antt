-- A call of either clipper: it is refused early, or the drawing is worked out and both working lists are cleared; its paths have demand 3.
-- Assumes nothing.
use Rattle.std.specs.Prelude.{if◌then◌else◌, Result, Ok, Err}
use mathlib.Core.Path.{◌≡◌, refl, sym, ◌∙◌, ap, subst}
use mathlib.Core.Bool.{Bool, true, false, ◌||◌}
use mathlib.Core.List.{List, map}
use Prim.Native.Nat.{ℕ, ◌*◌, ◌/◌, ◌≤◌}
use native.Mathlib.Omega.{arith}
use borrow.Author.Tests.{le-leb}
use lib.Dec.{eqb, ltb}
use lib.IntN.{ℤ, pos}
use lib.ListN.{length, drop, replicate, length-map}
use lib.Seq.{take_at}
use Rattle.integers.specs.Tests.{T_of}
use Rattle.plane.specs.declared.rect.Rect64.{Rect64}
use Rattle.plane.specs.Basics.{Try, refuse, ok}
use Rattle.plane.specs.Points.{points_of, coordinates_of}
use Rattle.plane.specs.Rectangle.{get_bounds_path}
use Rattle.reference.specs.Walk.{no_room}
use Rattle.reference.specs.Entry.{refused, drawn, Drawing, Lent, After, joined, filled, delivered, answered, early_refusal, drawing_of, clip_path, filled_part}
use Rattle.theorems.specs.Demand.{Exactness}
use Rattle.theorems.proofs.ClosedArea.{call_bounded, demand_3}
use Rattle.theorems.proofs.SameEntries.{call_is}
use Rattle.entry.specs.declared.answer.Counts.{Counts}
use Rattle.entry.specs.declared.answer.Refusal.{Refusal}
use Rattle.entry.specs.Answers.{outcome, checked, admission}
use Rattle.entry.proofs.Admitting.{Let, let_through, told_stopped, told_admitted}
use Rattle.entry.proofs.Sheets.{number_not_zero}
use Rattle.rectclip.specs.Promises.{lent, Clips, Leaves, Returned, ClipsPath}
use Rattle.rectclip.specs.declared.call.Call.{Call}
use Rattle.rectclip.specs.declared.output.Output.{Output}
use Rattle.rectclip.specs.Calls.{Admitted, Allowance}
use Rattle.rectclip.specs.Outputs.{Unfilled}
use Rattle.rectclip.specs.Delivering.{Gives, SameCall}
use Rattle.rectclip.proofs.Writing.{coordinates_length, filled_length}

-- ---- store and work are cleared
-- a list to fill is too short
abbrev too_short : Lent → Drawing → Bool
too_short l d = ltb (length l.coordinates) (length (coordinates_of (joined d.0))) || ltb (length l.lengths) (length (map length d.0))

pub clears_store : (l : Lent) (d : Try Drawing) → (answered l 0 d).lists.store ≡ replicate (length l.store) (pos 0)
unfolding answered delivered
clears_store l (refuse n) = refl
clears_store l (ok x) = go (too_short l x) refl
  where
    go : (b : Bool) → too_short l x ≡ b → (answered l 0 (ok x)).lists.store ≡ replicate (length l.store) (pos 0)
    go true t = rw t refl
    go false t = rw t refl

pub clears_work : (l : Lent) (d : Try Drawing) → (answered l 0 d).lists.work ≡ replicate (length l.work) 0
unfolding answered delivered
clears_work l (refuse n) = refl
clears_work l (ok x) = go (too_short l x) refl
  where
    go : (b : Bool) → too_short l x ≡ b → (answered l 0 (ok x)).lists.work ≡ replicate (length l.work) 0
    go true t = rw t refl
    go false t = rw t refl

-- ---- the returned paths
module _ (closed : Bool) (rect : Rect64) (path : List ℤ) (l : Lent) (c : Counts) (coordinates : List ℤ) (lengths : List ℕ) where
  -- a drawing that was handed out stands in the leading entries
  shows : (d : Drawing) → Exactness closed rect (points_of path) d.0 → Leaves (delivered l d) (Ok c) coordinates lengths → Returned closed rect path c.paths c.points coordinates lengths
  unfolding delivered filled_part
  shows d exact L = go (too_short l d) refl
    where
      go : (b : Bool) → too_short l d ≡ b → Returned closed rect path c.paths c.points coordinates lengths
      go true t = absurd (let z : outcome (Ok c) ≡ refused 11 = rw t at L.answer in let y : ◌≡◌ {A = ℕ} 0 1 = cc in omega arith)
      go false t =
          let paths = d.0 in
          let z : drawn c.paths c.points c.turns ≡ drawn (length paths) (length (joined paths)) d.1 = rw t at L.answer in
          let n : c.paths ≡ length paths = cc in
          let m : c.points ≡ length (joined paths) = cc in
          let C = coordinates_of (joined paths) in
          let k : 2 * c.points ≡ length C = rw m (sym (coordinates_length (joined paths))) in
          let f : coordinates ≡ filled C l.coordinates = rw t at L.coords in
          let g : lengths ≡ filled (map length paths) l.lengths = rw t at L.counts in
          let long : 2 * c.points ≤ length coordinates = rw (f, filled_length C l.coordinates, k) (omega arith) in
          record {
            paths = paths;
            path_count = n;
            point_count = m;
            point_entries = rw (le-leb (2 * c.points) (length coordinates) long, f) (take_at C (drop (length C) l.coordinates) (2 * c.points) (sym k));
            length_entries = rw g (take_at (map length paths) (drop (length (map length paths)) l.lengths) c.paths (length-map paths length ∙ sym n));
            exact = exact;
          }

  -- a call that no early refusal stopped: the paths of its drawing, if it drew
  pub returns : (t : Try Drawing) → ((d : Drawing) → t ≡ ok d → Exactness closed rect (points_of path) d.0) → {r : Result Counts Refusal} → Leaves (answered l 0 t) r coordinates lengths
      → r ≡ Ok c → Returned closed rect path c.paths c.points coordinates lengths
  unfolding answered
  returns (refuse n) exact L er = absurd (let z : outcome (Ok c) ≡ refused n = rw er at L.answer in let y : ◌≡◌ {A = ℕ} 0 1 = cc in omega arith)
  returns (ok d) exact L er = shows d (exact d refl) (rw er at L)

-- ---- the call: of an open path with no turns allowed
module _ (closed : Bool) (A : ℕ) (rect : Rect64) (path : List ℤ) (l : Lent) where
  abbrev W : ℕ
  W = length l.store / 2

  abbrev early : ℕ
  early = early_refusal W (if closed then A else 0) (length l.work) rect path

  abbrev drawing : Try Drawing
  drawing = drawing_of closed (no_room W) A rect (points_of path)

  module _ (k : Result Rect64 Refusal) (ek : checked k ≡ admission early path) where
    clips_early : (why : Refusal) → k ≡ Err why → Clips (answered l early drawing) (Err why) l
    unfolding answered
    clips_early why e =
        let n = told_stopped path early k ek why e in
        let z : eqb early 0 ≡ false = ap (λ (m : ℕ). eqb m 0) n ∙ number_not_zero why in
        record { answer = rw (z, n) refl; coordinates = rw z refl; lengths = rw z refl; store = rw z refl; work = rw z refl }

    -- a call that is refused early
    pub refused_call : (why : Refusal) → k ≡ Err why → ClipsPath closed A rect path l (Err why) l
    refused_call why e = record {
      clips = subst (λ (a : After). Clips a (Err why) l) (sym (call_is closed A rect path l)) (clips_early why e);
      returned = λ c q. absurd (let y : ◌≡◌ {A = ℕ} 0 1 = cc in omega arith);
    }

    module _ (bounds : Rect64) (e : k ≡ Ok bounds) where
      pub allowed : Let W (if closed then A else 0) (length l.work) rect path
      allowed = let_through W (if closed then A else 0) (length l.work) rect path (told_admitted path early k ek bounds e).0

      pub bounds_are : bounds ≡ get_bounds_path (points_of path)
      bounds_are = (told_admitted path early k ek bounds e).1

      left_is : clip_path closed A rect path l ≡ answered l 0 drawing
      left_is = call_is closed A rect path l ∙ ap (λ (n : ℕ). answered l n drawing) (told_admitted path early k ek bounds e).0

      -- demand 3 of its drawing
      exact : (d : Drawing) → drawing ≡ ok d → Exactness closed rect (points_of path) d.0
      exact d q = demand_3 closed (no_room W) A rect path d (call_bounded W (omega (arith, allowed.few))) (T_of allowed.frame) (T_of allowed.points) q

      -- a call that is let through: the drawing is worked out, and both working lists are cleared
      pub drawn_call : {x : Output} {r : Result Counts Refusal} {y : Output} → Gives drawing x r y → Unfilled x → x.coordinates.now ≡ l.coordinates → x.lengths.now ≡ l.lengths
          → {s t : Call} → s.store.now ≡ l.store → s.work.now ≡ l.work → SameCall s t
          → {after : Lent} → after.coordinates ≡ y.coordinates.now → after.lengths ≡ y.lengths.now → after.store ≡ replicate (length t.store.now) (pos 0) → after.work ≡ replicate (length t.work.now) 0 → ClipsPath closed A rect path l r after
      drawn_call {x} {r} {y} G U ec el {s} {t} es ew S {after} ac al az aw =
          let first : Leaves (answered l 0 drawing) r y.coordinates.now y.lengths.now = subst (λ (m : Lent). Leaves (answered m 0 drawing) r y.coordinates.now y.lengths.now) (λ i. lent (ec i) (el i) l.store l.work) (G.is U l.store l.work) in
          let L : Leaves (answered l 0 drawing) r after.coordinates after.lengths = rw (ac, al) first in
          record {
            clips = record {
              answer = L.answer ∙ sym (ap (λ (x : After). x.answer) left_is);
              coordinates = L.coords ∙ sym (ap (λ (x : After). x.lists.coordinates) left_is);
              lengths = L.counts ∙ sym (ap (λ (x : After). x.lists.lengths) left_is);
              store = az ∙ ap (λ (n : ℕ). replicate n (pos 0)) (S.store_length ∙ ap length es) ∙ sym (ap (λ (x : After). x.lists.store) left_is ∙ clears_store l drawing);
              work = aw ∙ ap (λ (n : ℕ). replicate n 0) (S.work_length ∙ ap length ew) ∙ sym (ap (λ (x : After). x.lists.work) left_is ∙ clears_work l drawing);
            };
            returned = λ c er. returns closed rect path l c after.coordinates after.lengths drawing exact L er;
          }

-- ---- what the early checks tell of a call that is let through
module _ (closed : Bool) (A : ℕ) (rect : Rect64) (path : List ℤ) (l : Lent) (k : Result Rect64 Refusal) (bounds : Rect64) (e : k ≡ Ok bounds) (ek : checked k ≡ admission (early_refusal (length l.store / 2) (if closed then A else 0) (length l.work) rect path) path) where
  pub admitted : Admitted rect path bounds
  admitted =
      let a = allowed closed A rect path l k ek bounds e in
      record { even = a.even; short = a.short; frame = a.frame; points = a.points; bound = bounds_are closed A rect path l k ek bounds e }

  pub allowance : Allowance (if closed then A else 0) l.store l.work
  allowance =
      let a = allowed closed A rect path l k ek bounds e in
      record { cells = a.cells; few = a.few; turns = a.turns }
