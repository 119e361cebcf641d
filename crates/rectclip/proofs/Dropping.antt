-- The loops that drop nodes on a line with their neighbours, over the work list, are the definition's, pass by pass. Assumes nothing.
use Rattle.std.specs.Prelude.{Option, None, Some, MatchOption}
use mathlib.Core.Path.{◌≡◌, refl, sym, ◌∙◌, ap}
use mathlib.Core.Bool.{Bool, true, false, not, ◌&&◌, ◌||◌}
use mathlib.Core.List.{List}
use mathlib.Core.Logic.{◌⊎◌, inl, inr, ⊎_elim}
use Prim.Native.Nat.{ℕ, suc, ◌-◌, ◌<◌}
use native.Mathlib.Omega.{arith}
use lib.Dec.{eqb}
use borrow.Author.Tests.{eq-eqb, ne_eqb}
use Rattle.plane.specs.declared.point.Point64.{Point64}
use Rattle.plane.specs.Basics.{none}
use Rattle.reference.specs.Arena.{Arena, next_of, prev_of, unlink_op_back, is_flat, drop_collinear_pass, drop_collinear}
use Rattle.reference.specs.Arena as reference
use Rattle.reference.specs.Clip.{straighten_pass}
use Rattle.rectclip.specs.declared.arena.Arena as lent
use Rattle.rectclip.specs.declared.rings.Neighbours.{Neighbours}
use Rattle.rectclip.specs.declared.rings.RingPlace.{RingPlace}
use Rattle.rectclip.specs.Arenas.{mark}
use Rattle.rectclip.specs.Changes.{arena_of, pts_of, Leaves}
use Rattle.rectclip.specs.Rings.{Unlinked, Passed, Dropped}
use Rattle.rectclip.proofs.Changes.{node_some, leaves_same, leaves_renamed, then_leaves, becomes_left, points_stay}

and_false : (b : Bool) → (b && false) ≡ false
and_false true = refl
and_false false = refl

pub or_true : (b : Bool) → (b || true) ≡ true
or_true true = refl
or_true false = refl

abbrev pub at_nodes : ℕ → Option ℕ → RingPlace
at_nodes op op2 = record { op = op; op2 = op2 }

-- ---- one pass
-- the test for the start that moves back
abbrev moves : Arena → ℕ → ℕ → Bool
moves a op x = eqb x op && not (eqb (unlink_op_back a x) none)

module _ (pts : List Point64) {m : lent.Arena} (op x : ℕ) where
  -- the node stays
  module _ {flat : Bool} (told : flat ≡ is_flat pts (arena_of m) x) (f : flat ≡ false) (op_in : op < m.sizes.nodes) (y : ℕ) (e : y ≡ next_of (arena_of m) x) (l : y < m.sizes.nodes) where
    pub drop_kept : Passed m m (at_nodes op (Some y)) (drop_collinear_pass pts (arena_of m) op x)
    unfolding drop_collinear_pass
    drop_kept = rw (← told, f) (record { leaves = leaves_same; op = refl; op2 = e; op_in = op_in; op2_in = l })

    pub straighten_kept : Passed m m (at_nodes op (Some y)) (straighten_pass pts (arena_of m) op x)
    unfolding straighten_pass
    straighten_kept = rw (← told, f) (record { leaves = leaves_same; op = refl; op2 = e; op_in = op_in; op2_in = l })

  -- the node is unlinked and dropped
  module _ {flat : Bool} (told : flat ≡ is_flat pts (arena_of m) x) (f : flat ≡ true) {m' : lent.Arena} where
    pub straighten_alone : Unlinked m m' x None → (p : ℕ) → p ≡ prev_of (arena_of m) x → p < m.sizes.nodes → Passed m m' (at_nodes p None) (straighten_pass pts (arena_of m) op x)
    unfolding straighten_pass
    straighten_alone k p e h = rw (← told, f) (record { leaves = k.leaves; op = e; op2 = k.next; op_in = h; op2_in = tt })

    pub straighten_dropped : (u : Neighbours) → Unlinked m m' x (Some u) → (p : ℕ) → p ≡ prev_of (arena_of m) x → p < m.sizes.nodes → Passed m m' (at_nodes p (Some u.next)) (straighten_pass pts (arena_of m) op x)
    unfolding straighten_pass
    straighten_dropped u k p e h = rw (← told, f) (record { leaves = k.leaves; op = e; op2 = k.next; op_in = h; op2_in = k.within.1 })

    -- either way
    pub straighten_unlinked : (u : Option Neighbours) (r : Option ℕ) → MatchOption u (r ≡ None) (λ n. r ≡ Some n.next) → Unlinked m m' x u → (p : ℕ) → p ≡ prev_of (arena_of m) x → p < m.sizes.nodes
        → Passed m m' (at_nodes p r) (straighten_pass pts (arena_of m) op x)
    straighten_unlinked None r e k p h l = rw e (straighten_alone k p h l)
    straighten_unlinked (Some n) r e k p h l = rw e (straighten_dropped n k p h l)

    module _ (op_in : op < m.sizes.nodes) where
      pub drop_last : Unlinked m m' x None → Passed m m' (at_nodes op None) (drop_collinear_pass pts (arena_of m) op x)
      unfolding drop_collinear_pass
      drop_last k =
          let e : moves (arena_of m) op x ≡ false = rw (eq-eqb (unlink_op_back (arena_of m) x) none (sym k.prev)) (and_false (eqb x op)) in
          rw (← told, f) (rw e (record { leaves = k.leaves; op = refl; op2 = k.prev; op_in = op_in; op2_in = tt }))

      module _ (u : Neighbours) (k : Unlinked m m' x (Some u)) where
        pub drop_other : (x ≡ op → ⊥) → Passed m m' (at_nodes op (Some u.prev)) (drop_collinear_pass pts (arena_of m) op x)
        unfolding drop_collinear_pass
        drop_other q =
            let e : moves (arena_of m) op x ≡ false = rw (ne_eqb x op q) refl in
            rw (← told, f) (rw e (record { leaves = k.leaves; op = refl; op2 = k.prev; op_in = op_in; op2_in = k.within.0 }))

        pub drop_moved : x ≡ op → (p : ℕ) → p ≡ prev_of (arena_of m') u.prev → p < m'.sizes.nodes → Passed m m' (at_nodes p (Some u.prev)) (drop_collinear_pass pts (arena_of m) op x)
        unfolding drop_collinear_pass
        drop_moved q p g l =
            let e : moves (arena_of m) op x ≡ true = rw (eq-eqb x op q, ne_eqb (unlink_op_back (arena_of m) x) none (λ w. node_some m u.prev k.within.0 (k.prev ∙ w))) refl in
            rw (← told, f)
            (rw e (record { leaves = k.leaves; op = g ∙ (λ i. prev_of (k.leaves.is i) (k.prev i)); op2 = k.prev; op_in = rw k.leaves.sizes at l; op2_in = k.within.0 }))

-- ---- the loop of check_edges
module _ (pts : List Point64) where
  drop_ends : (left : ℕ) (a : Arena) (op x : ℕ) → let d = drop_collinear_pass pts a op x in (d.op2 ≡ none) ⊎ (d.op2 ≡ d.op) → drop_collinear pts (suc left) a op x ≡ d
  unfolding drop_collinear
  drop_ends left a op x t =
      let d = drop_collinear_pass pts a op x in
      ⊎_elim (λ e. rw (eq-eqb d.op2 none e) refl) (λ e. rw (eq-eqb d.op2 d.op e, or_true (eqb d.op2 none)) refl) t

  drop_goes_on : (left : ℕ) (a : Arena) (op x : ℕ) → let d = drop_collinear_pass pts a op x in (d.op2 ≡ none → ⊥) → (d.op2 ≡ d.op → ⊥)
      → drop_collinear pts (suc left) a op x ≡ drop_collinear pts left d.arena d.op d.op2
  unfolding drop_collinear
  drop_goes_on left a op x p q =
      let d = drop_collinear_pass pts a op x in
      rw (ne_eqb d.op2 none p, ne_eqb d.op2 d.op q) refl

-- at the head of the loop, at the nodes op and x
pub record Dropping (count : ℕ) (m₀ : lent.Arena) (op₀ x₀ : ℕ) (m : lent.Arena) (op x left : ℕ) : Type 0 where
  pub goal : drop_collinear (pts_of m₀) left (arena_of m) op x ≡ drop_collinear (pts_of m₀) count (arena_of m₀) op₀ x₀
  pub so_far : Leaves m₀ m (arena_of m)
  pub op_in : op < m.sizes.nodes
  pub here : x < m.sizes.nodes

-- a pass is of the points that there were at the start
pub first_points : {m₀ m m' : lent.Arena} {r : RingPlace} (f : List Point64 → Arena → reference.Round) → Leaves m₀ m (arena_of m) → Passed m m' r (f (pts_of m) (arena_of m)) → Passed m m' r (f (pts_of m₀) (arena_of m))
first_points {m = m} f k p = rw (points_stay (becomes_left k)) at p

module _ {count : ℕ} {m₀ : lent.Arena} {op₀ x₀ : ℕ} {m : lent.Arena} {op x left : ℕ} (I : Dropping count m₀ op₀ x₀ m op x left) where
  abbrev pts : List Point64
  pts = pts_of m₀

  module _ {left' : ℕ} (z : left ≡ suc left') where
    whole : drop_collinear pts (suc left') (arena_of m) op x ≡ drop_collinear pts count (arena_of m₀) op₀ x₀
    whole = rw z at I.goal

    on : {m' : lent.Arena} {b : Arena} → Leaves m m' b → Leaves m₀ m' b
    on {b = b} l = then_leaves (λ _ _ _. b) I.so_far l

    module _ {m' : lent.Arena} (r : RingPlace) (p : Passed m m' r (drop_collinear_pass (pts_of m) (arena_of m) op x)) where
      q : Passed m m' r (drop_collinear_pass pts (arena_of m) op x)
      q = first_points (λ t a. drop_collinear_pass t a op x) I.so_far p

      pub dropping_again : (y : ℕ) → r.op2 ≡ Some y → (y ≡ r.op → ⊥) → Dropping count m₀ op₀ x₀ m' r.op y left'
      dropping_again y e v =
          let there : y ≡ (drop_collinear_pass pts (arena_of m) op x).op2 = rw e at q.op2 in
          let inside : y < m.sizes.nodes = rw e at q.op2_in in
          record {
            goal = (λ i. drop_collinear pts left' (q.leaves.is i) (q.op i) (there i))
                ∙ sym (drop_goes_on pts left' (arena_of m) op x (λ w. node_some m y inside (there ∙ w)) (λ w. v (there ∙ w ∙ sym q.op))) ∙ whole;
            so_far = leaves_renamed (on q.leaves) (sym q.leaves.is);
            op_in = rw q.leaves.sizes q.op_in;
            here = rw q.leaves.sizes inside;
          }

      -- the pass is the last
      last : (mark r.op2 ≡ none) ⊎ (mark r.op2 ≡ r.op) → drop_collinear_pass pts (arena_of m) op x ≡ drop_collinear pts count (arena_of m₀) op₀ x₀
      last t = sym (drop_ends pts left' (arena_of m) op x (⊎_elim (λ w. inl (sym q.op2 ∙ w)) (λ w. inr (sym q.op2 ∙ w ∙ q.op)) t)) ∙ whole

  module _ (h : 0 < left) {m' : lent.Arena} (r : RingPlace) (p : Passed m m' r (drop_collinear_pass (pts_of m) (arena_of m) op x)) where
    one : left ≡ suc (left - 1)
    one = omega arith

    pub dropping_gone : r.op2 ≡ None → Dropped m₀ m' None (drop_collinear pts count (arena_of m₀) op₀ x₀)
    dropping_gone g =
        let e = last one r p (inl (ap mark g)) in
        record { leaves = leaves_renamed (on one (q one r p).leaves) (ap (λ d. d.arena) e); ends = sym (ap (λ d. d.op2) e) ∙ sym (q one r p).op2 ∙ ap mark g }

    pub dropping_stop : (y : ℕ) → r.op2 ≡ Some y → y ≡ r.op → Dropped m₀ m' (Some r.op) (drop_collinear pts count (arena_of m₀) op₀ x₀)
    dropping_stop y g w =
        let e = last one r p (inr (ap mark g ∙ w)) in
        let k = q one r p in
        let there : y ≡ (drop_collinear_pass pts (arena_of m) op x).op2 = rw g at k.op2 in
        record {
          leaves = leaves_renamed (on one k.leaves) (ap (λ d. d.arena) e);
          ends = (k.op ∙ ap (λ d. d.op) e, λ z. node_some m y (rw g at k.op2_in) (there ∙ ap (λ d. d.op2) e ∙ z), rw I.so_far.sizes at k.op_in);
        }

  pub dropping_out : left ≡ 0 → Dropped m₀ m (Some op) (drop_collinear pts count (arena_of m₀) op₀ x₀)
  unfolding drop_collinear
  dropping_out z =
      let e = rw z at I.goal in
      record {
        leaves = leaves_renamed I.so_far (ap (λ d. d.arena) e);
        ends = (ap (λ d. d.op) e, λ w. node_some m x I.here (ap (λ d. d.op2) e ∙ w), rw I.so_far.sizes at I.op_in);
      }
