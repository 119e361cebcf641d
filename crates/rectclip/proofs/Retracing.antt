-- The end of a walk that is outside: back over the start sides, corner by corner, to the side that was crossed first. Assumes nothing.
use mathlib.Core.Path.{◌≡◌, refl, sym, ◌∙◌, ap}
use mathlib.Core.Bool.{Bool, true, false}
use mathlib.Core.List.{List, [], ◌∷◌}
use mathlib.Core.Logic.{⊎_elim}
use Prim.Native.Nat.{ℕ, suc, ◌+◌, ◌<◌, ◌≤◌}
use native.Mathlib.Omega.{arith}
use native.Mathlib.Numerals.{add-one}
use lib.ListN.{length, get_or, drop}
use lib.Seq.{drop-cons, drop-length}
use Rattle.plane.specs.declared.rect.Rect64.{Rect64}
use Rattle.plane.specs.declared.location.Location.{Location}
use Rattle.plane.specs.declared.location.Location.TheVariants.{Inside}
use Rattle.plane.specs.Basics.{Try, refuse, ok, ◌>>=◌}
use Rattle.plane.specs.Locations.{same_location, heading_clockwise}
use Rattle.reference.specs.Walk.{Walk, State, add, add_corner_loc, retrace}
use Rattle.theorems.proofs.Locations.{same_place}
use Rattle.entry.specs.declared.answer.Refusal.{Refusal}
use Rattle.rectclip.specs.declared.walk.Walker.{Walker}
use Rattle.std.specs.Prelude.{Result, Ok, Err}
use Rattle.rectclip.specs.Memory.{at}
use Rattle.rectclip.specs.Walking.{location, walk_of, turned}
use Rattle.rectclip.specs.Steps.{walk, full, Same, Steps}
use Rattle.rectclip.specs.Outlining.{corner_toward, close_walk}
use Rattle.rectclip.proofs.Walking.{on_refuse}
use Rattle.rectclip.proofs.Steps.{stays, named, after, done_is, refused_is}
use Rattle.rectclip.proofs.Added.{either, added}
use Rattle.rectclip.proofs.StartSides.{sides, sides_length, side_at}

-- ---- one corner
module _ (full : ℕ → Bool) (rect : Rect64) (w : Walk) (p q : Location) where
  toward_same : same_location p q ≡ true → corner_toward full rect w p q ≡ ok w
  unfolding corner_toward
  toward_same e = rw e refl

  toward_other : same_location p q ≡ false → corner_toward full rect w p q ≡ add full w (turned rect p (heading_clockwise p q)) false
  unfolding corner_toward
  toward_other e = rw e refl

  -- the start sides stay as they were
  pub toward_locs : {v : Walk} → ok v ≡ corner_toward full rect w p q → v.start_locs ≡ w.start_locs
  toward_locs {v} e =
      ⊎_elim (λ t. let y : ◌≡◌ {A = Try Walk} (ok v) (ok w) = e ∙ toward_same t in let z : v ≡ w = cc in ap (λ (x : Walk). x.start_locs) z)
      (λ t. (added full w (turned rect p (heading_clockwise p q)) (e ∙ toward_other t)).locs)
      (either (same_location p q))

  module _ (locs : List Location) where
    back_same : same_location p q ≡ true → retrace full rect w p locs ≡ retrace full rect w p (q ∷ locs)
    unfolding retrace
    back_same e = rw e refl

    back_other : same_location p q ≡ false → {v : Walk} → ok v ≡ add full w (turned rect p (heading_clockwise p q)) false → retrace full rect v q locs ≡ retrace full rect w p (q ∷ locs)
    unfolding retrace add_corner_loc
    back_other e f = rw (e, ← f) refl

    back_lost : same_location p q ≡ false → {n : ℕ} → refuse n ≡ add full w (turned rect p (heading_clockwise p q)) false → refuse n ≡ retrace full rect w p (q ∷ locs)
    unfolding retrace add_corner_loc
    back_lost e f = rw (e, ← f) refl

    pub back_go : {v : Walk} → ok v ≡ corner_toward full rect w p q → retrace full rect v q locs ≡ retrace full rect w p (q ∷ locs)
    back_go {v} e =
        ⊎_elim
        (λ t.
        let y : ◌≡◌ {A = Try Walk} (ok v) (ok w) = e ∙ toward_same t in
        let z : v ≡ w = cc in
        (λ j. retrace full rect (z j) (sym (same_place p q t) j) locs) ∙ back_same t)
        (λ t. back_other t (e ∙ toward_other t))
        (either (same_location p q))

    pub back_stop : {n : ℕ} → refuse n ≡ corner_toward full rect w p q → refuse n ≡ retrace full rect w p (q ∷ locs)
    back_stop {n} e =
        ⊎_elim
        (λ t. let y : ◌≡◌ {A = Try Walk} (refuse n) (ok w) = e ∙ toward_same t in absurd (let z : ◌≡◌ {A = ℕ} 0 1 = cc in omega arith))
        (λ t. back_lost t (e ∙ toward_other t))
        (either (same_location p q))

-- ---- `corner_toward`
module _ (x : Walker) (p q : Location) {b : Bool} (eb : b ≡ same_location p q) where
  pub toward_kept : b ≡ true → Steps (corner_toward (full x) x.rect (walk x) p q) x x (Ok tt)
  toward_kept t = stays (sym (toward_same (full x) x.rect (walk x) p q (sym eb ∙ t)))

  pub toward_added : b ≡ false → {h : Bool} → h ≡ heading_clockwise p q → {y : Walker} {r : Result Unit Refusal}
      → Steps (add (full x) (walk x) (turned x.rect p h) false) x y r → Steps (corner_toward (full x) x.rect (walk x) p q) x y r
  toward_added t eh R = named (rw eh at R) (sym (toward_other (full x) x.rect (walk x) p q (sym eb ∙ t)))

-- ---- the loop over the start sides
pub walk_sides : (x : Walker) → (walk x).start_locs ≡ sides x.state.start_locs x.work.now
unfolding walk_of
walk_sides x = refl

pub count_sides : (x : Walker) → length (walk x).start_locs ≡ x.state.start_locs
count_sides x = ap length (walk_sides x) ∙ sides_length x.state.start_locs x.work.now

abbrev pub last_corner : (ℕ → Bool) → Rect64 → Location → Walk × Location → Try Walk
last_corner full rect first t = corner_toward full rect t.0 t.1 first

pub close_parts : (full : ℕ → Bool) (rect : Rect64) (s : State) → (retrace full rect s.walk s.loc s.walk.start_locs >>= last_corner full rect s.first_cross) ≡ close_walk full rect s
unfolding close_walk
close_parts full rect s = refl

-- the walker at side p, after i of the n start sides
pub record Retracing (first : Location) (x : Walker) (p₀ : Location) (n : ℕ) (y : Walker) (p : Location) (i : ℕ) : Type 0 where
  pub goal : (retrace (full x) x.rect (walk y) p (drop i (walk x).start_locs) >>= last_corner (full x) x.rect first) ≡ (retrace (full x) x.rect (walk x) p₀ (walk x).start_locs >>= last_corner (full x) x.rect first)
  pub same : Same x y
  pub locs : (walk y).start_locs ≡ (walk x).start_locs
  pub count : y.state.start_locs ≡ n
  pub end : n ≡ x.state.start_locs
  pub here : i ≤ n

module _ {first : Location} {x : Walker} {p₀ : Location} {n : ℕ} {y : Walker} {p : Location} {i : ℕ} (I : Retracing first x p₀ n y p i) where
  abbrev back : Try Walk
  back = retrace (full x) x.rect (walk x) p₀ (walk x).start_locs >>= last_corner (full x) x.rect first

  module _ (h : i < n) {q : Location} (eq : q ≡ location (at 5 y.work.now i)) {z : Walker} {r : Result Unit Refusal} (R : Steps (corner_toward (full y) y.rect (walk y) p q) y z r) where
    one : Steps (corner_toward (full x) x.rect (walk y) p q) x z r
    one = after (λ full rect path. corner_toward full rect (walk y) p q) I.same R

    next_side : drop i (walk x).start_locs ≡ q ∷ drop (i + 1) (walk x).start_locs
    next_side =
        let e : get_or (walk x).start_locs i Inside ≡ q = ap (λ (l : List Location). get_or l i Inside) (sym I.locs ∙ walk_sides y) ∙ side_at y.state.start_locs y.work.now i (omega (arith, I.count)) ∙ sym eq in
        let k = count_sides x in
        rw (add-one i) (drop-cons (walk x).start_locs i Inside (omega (arith, I.end)) ∙ ap (λ (l : Location). l ∷ drop (suc i) (walk x).start_locs) e)

    now_next : (retrace (full x) x.rect (walk y) p (q ∷ drop (i + 1) (walk x).start_locs) >>= last_corner (full x) x.rect first) ≡ back
    now_next = ap (λ (l : List Location). retrace (full x) x.rect (walk y) p l >>= last_corner (full x) x.rect first) (sym next_side) ∙ I.goal

    pub retrace_again : {u : Unit} → r ≡ Ok u → Retracing first x p₀ n z q (i + 1)
    retrace_again e =
        let t : ok (walk z) ≡ corner_toward (full x) x.rect (walk y) p q = done_is one e in
        let l : (walk z).start_locs ≡ (walk x).start_locs = toward_locs (full x) x.rect (walk y) p q t ∙ I.locs in
        record {
          goal = ap (λ (w : Try (Walk × Location)). w >>= last_corner (full x) x.rect first) (back_go (full x) x.rect (walk y) p q (drop (i + 1) (walk x).start_locs) t) ∙ now_next;
          same = one.same;
          locs = l;
          count = sym (count_sides z) ∙ ap length l ∙ count_sides x ∙ sym I.end;
          end = I.end;
          here = omega arith;
        }

    pub retrace_lost : {why : Refusal} → r ≡ Err why → Steps back x z (Err why)
    retrace_lost e = record {
      same = one.same;
      is = on_refuse (last_corner (full x) x.rect first) (back_stop (full x) x.rect (walk y) p q (drop (i + 1) (walk x).start_locs) (refused_is one e)) ∙ now_next;
    }

  pub retrace_done : n ≤ i → {z : Walker} {r : Result Unit Refusal} → Steps (corner_toward (full y) y.rect (walk y) p first) y z r → Steps back x z r
  unfolding retrace
  retrace_done h R =
      let k : length (walk x).start_locs ≡ i = count_sides x ∙ omega (arith, I.here, I.end) in
      let d : drop i (walk x).start_locs ≡ [] = ap (λ (n : ℕ). drop n (walk x).start_locs) (sym k) ∙ drop-length (walk x).start_locs in
      named (after (λ full rect path. corner_toward full rect (walk y) p first) I.same R)
      (ap (λ (l : List Location). retrace (full x) x.rect (walk y) p l >>= last_corner (full x) x.rect first) (sym d) ∙ I.goal)
