-- The first loop of `get_path` over the work list is the definition's, pass by pass. Assumes nothing.
use Rattle.std.specs.Prelude.{None, Some}
use mathlib.Core.Path.{◌≡◌, refl, sym, ◌∙◌, ap}
use mathlib.Core.List.{List}
use mathlib.Core.Logic.{◌⊎◌, inl, inr, ⊎_elim}
use Prim.Native.Nat.{ℕ, zero, suc, ◌-◌, ◌<◌}
use native.Mathlib.Omega.{arith}
use lib.Dec.{eqb}
use borrow.Author.Tests.{eq-eqb, ne_eqb}
use Rattle.plane.specs.declared.point.Point64.{Point64}
use Rattle.plane.specs.Basics.{none}
use Rattle.reference.specs.Arena.{Arena}
use Rattle.reference.specs.Arena as reference
use Rattle.reference.specs.Clip.{straighten_pass, straighten}
use Rattle.rectclip.specs.declared.arena.Arena as lent
use Rattle.rectclip.specs.declared.rings.RingPlace.{RingPlace}
use Rattle.rectclip.specs.Arenas.{mark}
use Rattle.rectclip.specs.Changes.{arena_of, pts_of, Leaves}
use Rattle.rectclip.specs.Rings.{Passed, EndsAt}
use Rattle.rectclip.proofs.Changes.{node_some, leaves_renamed, then_leaves}
use Rattle.rectclip.proofs.Dropping.{or_true, first_points}

abbrev at_arena : Arena → ℕ → ℕ → reference.Round
at_arena a op x = record { arena = a; op = op; op2 = x }

module _ (pts : List Point64) where
  ends : (left : ℕ) (a : Arena) (op x : ℕ) → (x ≡ none) ⊎ (x ≡ op) → straighten pts left a op x ≡ at_arena a op x
  unfolding straighten
  ends zero a op x t = refl
  ends (suc left) a op x t = ⊎_elim (λ e. rw (eq-eqb x none e) refl) (λ e. rw (eq-eqb x op e, or_true (eqb x none)) refl) t

  goes_on : (left : ℕ) (a : Arena) (op x : ℕ) → (x ≡ none → ⊥) → (x ≡ op → ⊥)
      → let d = straighten_pass pts a op x in straighten pts (suc left) a op x ≡ straighten pts left d.arena d.op d.op2
  unfolding straighten
  goes_on left a op x p q = rw (ne_eqb x none p, ne_eqb x op q) refl

-- at the head of the loop, at the nodes op and x
pub record Straightening (count : ℕ) (m₀ : lent.Arena) (op₀ x₀ : ℕ) (m : lent.Arena) (op x left : ℕ) : Type 0 where
  pub goal : straighten (pts_of m₀) left (arena_of m) op x ≡ straighten (pts_of m₀) count (arena_of m₀) op₀ x₀
  pub so_far : Leaves m₀ m (arena_of m)
  pub op_in : op < m.sizes.nodes
  pub here : x < m.sizes.nodes

module _ {count : ℕ} {m₀ : lent.Arena} {op₀ x₀ : ℕ} {m : lent.Arena} {op x left : ℕ} (I : Straightening count m₀ op₀ x₀ m op x left) where
  abbrev pts : List Point64
  pts = pts_of m₀

  module _ {left' : ℕ} (z : left ≡ suc left') (v : x ≡ op → ⊥) {m' : lent.Arena} (r : RingPlace) (p : Passed m m' r (straighten_pass (pts_of m) (arena_of m) op x)) where
    q : Passed m m' r (straighten_pass pts (arena_of m) op x)
    q = first_points (λ t a. straighten_pass t a op x) I.so_far p

    -- what is left to do after the pass
    rest : straighten pts left' (arena_of m') r.op (mark r.op2) ≡ straighten pts count (arena_of m₀) op₀ x₀
    rest = (λ i. straighten pts left' (q.leaves.is i) (q.op i) (q.op2 i)) ∙ sym (goes_on pts left' (arena_of m) op x (node_some m x I.here) v) ∙ rw z at I.goal

    on : Leaves m₀ m' (straighten_pass pts (arena_of m) op x).arena
    on = then_leaves (λ _ _ _. (straighten_pass pts (arena_of m) op x).arena) I.so_far q.leaves

    pub straightening_again : (y : ℕ) → r.op2 ≡ Some y → Straightening count m₀ op₀ x₀ m' r.op y left'
    straightening_again y e = record {
      goal = rw e at rest;
      so_far = leaves_renamed on (sym q.leaves.is);
      op_in = rw q.leaves.sizes q.op_in;
      here = rw q.leaves.sizes (rw e at q.op2_in);
    }

  pub straightening_gone : 0 < left → (x ≡ op → ⊥) → {m' : lent.Arena} (r : RingPlace) → Passed m m' r (straighten_pass (pts_of m) (arena_of m) op x) → r.op2 ≡ None
      → EndsAt m₀ m' None (straighten pts count (arena_of m₀) op₀ x₀)
  straightening_gone h v {m'} r p e =
      let one : left ≡ suc (left - 1) = omega arith in
      let w = sym (ends pts (left - 1) (arena_of m') r.op (mark r.op2) (inl (ap mark e))) ∙ rest one v r p in
      record {
        leaves = leaves_renamed (on one v r p) (sym (q one v r p).leaves.is ∙ ap (λ d. d.arena) w);
        is = sym (ap mark e) ∙ ap (λ d. d.op2) w;
        within = tt;
      }

  is_there : at_arena (arena_of m) op x ≡ straighten pts count (arena_of m₀) op₀ x₀ → EndsAt m₀ m (Some x) (straighten pts count (arena_of m₀) op₀ x₀)
  is_there e = record { leaves = leaves_renamed I.so_far (ap (λ d. d.arena) e); is = ap (λ d. d.op2) e; within = rw I.so_far.sizes at I.here }

  pub straightening_stop : x ≡ op → EndsAt m₀ m (Some x) (straighten pts count (arena_of m₀) op₀ x₀)
  straightening_stop e = is_there (sym (ends pts left (arena_of m) op x (inr e)) ∙ I.goal)

  pub straightening_out : left ≡ 0 → EndsAt m₀ m (Some x) (straighten pts count (arena_of m₀) op₀ x₀)
  unfolding straighten
  straightening_out z = is_there (rw z at I.goal)
