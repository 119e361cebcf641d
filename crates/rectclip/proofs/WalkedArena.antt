-- The arena of a walked outline in the work list: one ring, the corners entered one after the other, and the room that is left.
-- Assumes nothing.
use Rattle.std.specs.Prelude.{if◌then◌else◌, Option, None, Some}
use mathlib.Core.Path.{◌≡◌, refl, sym, ◌∙◌, ap}
use mathlib.Core.Bool.{Bool, true, false}
use mathlib.Core.List.{List, [], ◌∷◌}
use Prim.Native.Nat.{ℕ, zero, suc, ◌+◌, ◌*◌, ◌-◌, ◌<◌, ◌≤◌}
use native.Mathlib.Omega.{arith}
use lib.IntN.{ℤ}
use lib.ListN.{length, get_or, drop, replicate}
use borrow.Author.Tests.{ne_eqb}
use Rattle.plane.specs.Basics.{none}
use Rattle.reference.specs.Arena.{Arena, edge_list, add_to_edge, ring}
use Rattle.reference.specs.Clip.{enter_all}
use Rattle.rectclip.specs.declared.arena.Arena as lent
use Rattle.rectclip.specs.declared.side.EdgeList.{EdgeList}
use Rattle.rectclip.specs.declared.outline.Outline.{Outline}
use Rattle.rectclip.specs.Arenas.{free, Spare}
use Rattle.rectclip.specs.Changes.{arena_of, Enters}
use Rattle.rectclip.specs.Edges.{Entering}
use Rattle.rectclip.specs.Outlining.{entered_of, entries}
use Rattle.rectclip.specs.Rings.{Built}
use Rattle.rectclip.specs.Delivering.{Cornered, Arranging, Arranged}
use Rattle.rectclip.proofs.Spare.{spare_room, spare_slots}
use Rattle.rectclip.proofs.Changes.{nodes_many, list_long, enters_same, enters_renamed, then_enters}

-- ---- the corners
module _ {m : lent.Arena} {k : ℕ} (x : Cornered m k) where
  pub may_enter_corner : (l : EdgeList) (op : ℕ) → op < m.sizes.nodes → Entering m l op
  may_enter_corner l op h = record {
    op_in = h;
    room = λ q. omega (arith, list_long m l.idx l.within, spare_room x.spare l.idx op l.within (rw (nodes_many m) h) q);
  }

  pub cornered_on : {m₁ : lent.Arena} {b : Arena} → Enters m m₁ b → Cornered m₁ k
  cornered_on E = record {
    spare = spare_slots E.becomes.slots (rw E.becomes.is (E.spare m.sizes.slots 0 x.spare));
    corners = omega (arith, x.corners, E.becomes.nodes);
  }

-- at the head of the loop, at corner k of those of a walk of n points
pub record Corners (is_clockwise : Bool) (m₀ m : lent.Arena) (k : ℕ) : Type 0 where
  pub goal : enter_all (arena_of m) (drop k (entered_of m₀.sizes.nodes (Some is_clockwise))) ≡ enter_all (arena_of m₀) (entered_of m₀.sizes.nodes (Some is_clockwise))
  pub so_far : Enters m₀ m (arena_of m)

one_entry : {e x y : ℕ} {l : List (ℕ × ℕ)} → x ≡ y → ◌≡◌ {A = List (ℕ × ℕ)} ((e, x) ∷ l) ((e, y) ∷ l)
one_entry {e} {l = l} p = λ i. (e, p i) ∷ l

corner_at : (n : ℕ) (c : Bool) (k : ℕ) → 4 ≤ n → k < 4
    → drop k (entered_of n (Some c)) ≡ (2 * (if c then k else 3 - k), n - 4 + k) ∷ drop (k + 1) (entered_of n (Some c))
corner_at n true zero h l = one_entry (omega arith)
corner_at n true (suc zero) h l = one_entry (omega arith)
corner_at n true (suc (suc zero)) h l = one_entry (omega arith)
corner_at n true (suc (suc (suc zero))) h l = one_entry (omega arith)
corner_at n true (suc (suc (suc (suc k)))) h l = absurd (omega arith)
corner_at n false zero h l = one_entry (omega arith)
corner_at n false (suc zero) h l = one_entry (omega arith)
corner_at n false (suc (suc zero)) h l = one_entry (omega arith)
corner_at n false (suc (suc (suc zero))) h l = one_entry (omega arith)
corner_at n false (suc (suc (suc (suc k)))) h l = absurd (omega arith)

module _ {c : Bool} {m₀ m : lent.Arena} {k : ℕ} (I : Corners c m₀ m k) where
  pub corners_on : 4 ≤ m₀.sizes.nodes → k < 4 → (idx e op : ℕ) → idx ≡ (if c then k else 3 - k) → e ≡ idx * 2 → op ≡ m₀.sizes.nodes - 4 + k → {m₁ : lent.Arena} → Enters m m₁ (add_to_edge (arena_of m) e op)
      → Corners c m₀ m₁ (k + 1)
  unfolding enter_all
  corners_on h l idx e op e₁ e₂ e₃ E =
      let all = entered_of m₀.sizes.nodes (Some c) in
      let is_e : e ≡ 2 * (if c then k else 3 - k) = omega (arith, e₁, e₂) in
      record {
        goal = ap (λ a. enter_all a (drop (k + 1) all)) (E.becomes.is ∙ (λ i. add_to_edge (arena_of m) (is_e i) (e₃ i))) ∙ ap (enter_all (arena_of m)) (sym (corner_at m₀.sizes.nodes c k h l)) ∙ I.goal;
        so_far = enters_renamed (then_enters (λ _ _ a. add_to_edge a e op) I.so_far E) (sym E.becomes.is);
      }

  pub corners_all : k ≡ 4 → Enters m₀ m (enter_all (arena_of m₀) (entered_of m₀.sizes.nodes (Some c)))
  unfolding enter_all
  corners_all e = enters_renamed I.so_far (over c (rw e at I.goal))
    where
      over : (c : Bool) → enter_all (arena_of m) (drop 4 (entered_of m₀.sizes.nodes (Some c))) ≡ enter_all (arena_of m₀) (entered_of m₀.sizes.nodes (Some c))
          → arena_of m ≡ enter_all (arena_of m₀) (entered_of m₀.sizes.nodes (Some c))
      over true g = g
      over false g = g

pub entered_never : {m : lent.Arena} {around : Option Bool} → around ≡ None → Enters m m (enter_all (arena_of m) (entered_of m.sizes.nodes around))
unfolding enter_all
entered_never e = rw e enters_same

-- ---- the ring
none_listed : (n e : ℕ) → length (get_or (replicate {A = List ℕ} n []) e []) ≡ 0
none_listed zero e = refl
none_listed (suc n) zero = refl
none_listed (suc n) (suc e) = none_listed n e

all_free : (n : ℕ) → free (replicate n none) ≡ n
all_free zero = refl
all_free (suc n) = let e : 1 + free (replicate n none) ≡ suc n = omega (arith, all_free n) in e

ring_spare : (n k N : ℕ) → n + k < N → Spare N k (ring n)
unfolding ring
ring_spare zero k N h = record { results = omega arith; lists = λ e g. let q : length (edge_list (ring zero) e) ≡ 0 = none_listed 8 e in omega arith }
ring_spare (suc n) k N h =
    rw (ne_eqb (suc n) 0 (λ q. omega arith))
    (record {
      results = omega arith;
      lists = λ e g.
          let q : length (get_or (replicate {A = List ℕ} 8 []) e []) ≡ 0 = none_listed 8 e in
          let f : free (replicate (suc n) none) ≡ suc n = all_free (suc n) in
          omega arith;
    })

module _ {store : List ℤ} {m : List ℕ} {slots : ℕ} {o : Outline} (x : Arranging store m slots o) {m₁ : lent.Arena} (B : Built store m slots o.walk.points m₁) where
  pub ring_cornered : Cornered m₁ (entries o.around)
  ring_cornered = record {
    spare = spare_slots B.slots_are (rw B.is (ring_spare o.walk.points 0 slots (omega (arith, x.points))));
    corners = omega (arith, x.corners, B.nodes_are);
  }

  pub arranged : {m₂ : lent.Arena} → Enters m₁ m₂ (enter_all (arena_of m₁) (entered_of m₁.sizes.nodes o.around)) → Arranged store m slots o m₂
  arranged E = record {
    is = E.becomes.is ∙ (λ i. enter_all (B.is i) (entered_of (B.nodes_are i) o.around));
    store = E.becomes.same.store ∙ B.store;
    nodes_are = E.becomes.nodes ∙ B.nodes_are;
    slots_are = E.becomes.slots ∙ B.slots_are;
    spare = λ k h. rw E.becomes.is (E.spare slots k (rw B.is (ring_spare o.walk.points k slots h)));
    cells = E.becomes.same.cells ∙ B.cells;
  }
