-- Changes of the arena in the lent lists, one on top of another. Assumes nothing.
use mathlib.Core.Path.{◌≡◌, refl, sym, ap, ◌∙◌, subst}
use mathlib.Core.List.{List}
use Prim.Native.Nat.{ℕ, ◌+◌, ◌<◌, ◌≤◌}
use native.Mathlib.Omega.{arith}
use native.Mathlib.Decide.{ℕ_discrete}
use lib.ListN.{length, get_or, set}
use lib.Seq.{get_or-set_same, get_or-set_other}
use Rattle.plane.specs.declared.point.Point64.{Point64}
use Rattle.plane.specs.Basics.{none}
use Rattle.reference.specs.Arena.{Arena, edge_list}
use Rattle.rectclip.specs.declared.arena.Arena as lent
use Rattle.rectclip.specs.Arenas.{Spare, longer_list, one_result_more}
use Rattle.rectclip.specs.Memory.{at}
use Rattle.rectclip.specs.Stored.{points_in}
use Rattle.rectclip.specs.Changes.{arena_of, pts_of, Same, Leaves, Grows, Becomes, Enters}
use Rattle.rectclip.proofs.Columns.{column_at}
use Rattle.rectclip.proofs.Arenas.{list_at}
use Rattle.rectclip.proofs.Stored.{points_in_length}
use Rattle.rectclip.proofs.Spare.{edge_length, results_length, list_length}

-- ---- how much there is
module _ (m : lent.Arena) where
  pub nodes_many : length (arena_of m).edge ≡ m.sizes.nodes
  nodes_many = edge_length m.work.now m.sizes

  pub results_many : length (arena_of m).results ≡ m.sizes.results
  results_many = results_length m.work.now m.sizes

  pub list_long : (e : ℕ) → e < 8 → length (edge_list (arena_of m) e) ≡ get_or m.sizes.lens e 0
  list_long e h = list_length m.work.now m.sizes m.holds.eight e h

  pub points_many : length (pts_of m) ≡ m.sizes.nodes
  points_many = points_in_length m.store.now m.sizes.nodes m.drawn

  -- a node is not the mark
  pub node_some : (i : ℕ) → i < m.sizes.nodes → i ≡ none → ⊥
  node_some i h e = omega (arith, m.holds.nodes, m.holds.room.small)

-- what is read as an entry
pub entry_at : (m : lent.Arena) (e j : ℕ) → e < 8 → j < get_or m.sizes.lens e 0 → at (8 + e) m.work.now j ≡ get_or (edge_list (arena_of m) e) j none
entry_at m e j h k =
    sym (column_at (8 + e) (get_or m.sizes.lens e 0) m.work.now j none k) ∙ ap (λ l. get_or l j none) (sym (list_at m.work.now m.sizes e (omega (arith, m.holds.eight))))

-- ---- the lists stay
pub same_lists : {x : lent.Arena} → Same x x
same_lists = record { name = refl; store = refl; cells = refl }

pub then_same : {x y z : lent.Arena} → Same x y → Same y z → Same x z
then_same k l = record { name = l.name ∙ k.name; store = l.store ∙ k.store; cells = l.cells ∙ k.cells }

-- ---- no size changes
pub leaves_same : {x : lent.Arena} → Leaves x x (arena_of x)
leaves_same = record { is = refl; sizes = refl; same = same_lists }

pub leaves_renamed : {x y : lent.Arena} {b c : Arena} → Leaves x y b → b ≡ c → Leaves x y c
leaves_renamed k e = record { is = k.is ∙ e; sizes = k.sizes; same = k.same }

-- `f` is the second change, as the definition has it; it may speak of the points and the number of nodes, which stay
pub then_leaves : {x y z : lent.Arena} {b : Arena} (f : List Point64 → ℕ → Arena → Arena) → Leaves x y b → Leaves y z (f (pts_of y) y.sizes.nodes (arena_of y)) → Leaves x z (f (pts_of x) x.sizes.nodes b)
then_leaves f k l = record {
  is = l.is ∙ (λ i. f (points_in (k.same.store i) (k.sizes i).nodes) (k.sizes i).nodes (k.is i));
  sizes = l.sizes ∙ k.sizes;
  same = then_same k.same l.same;
}

-- ---- sizes may grow
pub becomes_left : {x y : lent.Arena} {b : Arena} → Leaves x y b → Becomes x y b
becomes_left k = record {
  is = k.is;
  slots = λ i. (k.sizes i).slots;
  nodes = λ i. (k.sizes i).nodes;
  results = rw k.sizes (omega arith);
  lists = λ e. rw k.sizes (omega arith);
  same = k.same;
}

pub becomes_same : {x : lent.Arena} → Becomes x x (arena_of x)
becomes_same = becomes_left leaves_same

pub enters_same : {x : lent.Arena} → Enters x x (arena_of x)
enters_same = record { becomes = becomes_same; spare = λ N k S. S }

pub becomes_renamed : {x y : lent.Arena} {b c : Arena} → Becomes x y b → b ≡ c → Becomes x y c
becomes_renamed k e = record { is = k.is ∙ e; slots = k.slots; nodes = k.nodes; results = k.results; lists = k.lists; same = k.same }

pub enters_renamed : {x y : lent.Arena} {b c : Arena} → Enters x y b → b ≡ c → Enters x y c
enters_renamed k e = record { becomes = becomes_renamed k.becomes e; spare = λ N n S. rw e at (k.spare N n S) }

pub points_stay : {x y : lent.Arena} {b : Arena} → Becomes x y b → pts_of y ≡ pts_of x
points_stay k = λ i. points_in (k.same.store i) (k.nodes i)

pub then_becomes : {x y z : lent.Arena} {b : Arena} (f : List Point64 → ℕ → Arena → Arena) → Becomes x y b → Becomes y z (f (pts_of y) y.sizes.nodes (arena_of y)) → Becomes x z (f (pts_of x) x.sizes.nodes b)
then_becomes f k l = record {
  is = l.is ∙ (λ i. f (points_stay k i) (k.nodes i) (k.is i));
  slots = l.slots ∙ k.slots;
  nodes = l.nodes ∙ k.nodes;
  results = omega (arith, k.results, l.results);
  lists = λ e. omega (arith, k.lists e, l.lists e);
  same = then_same k.same l.same;
}

pub then_enters : {x y z : lent.Arena} {b : Arena} (f : List Point64 → ℕ → Arena → Arena) → Enters x y b → Enters y z (f (pts_of y) y.sizes.nodes (arena_of y)) → Enters x z (f (pts_of x) x.sizes.nodes b)
then_enters f k l = record {
  becomes = then_becomes f k.becomes l.becomes;
  spare = λ N n S. subst (Spare N n) (λ i. f (points_stay k.becomes i) (k.becomes.nodes i) (k.becomes.is i)) (l.spare N n (rw k.becomes.is (k.spare N n S)));
}

longer_lists : (lens : List ℕ) (e f : ℕ) → e < length lens → get_or lens f 0 ≤ get_or (set lens e (get_or lens e 0 + 1)) f 0
longer_lists lens e f h =
    elim (ℕ_discrete f e) [
      | yes q ↦ rw q (omega (arith, get_or-set_same lens e (get_or lens e 0 + 1) 0 h))
      | no q ↦ omega (arith, get_or-set_other lens e f (get_or lens e 0 + 1) 0 q)
    ]

pub becomes_entry : {x y : lent.Arena} {b : Arena} (e : ℕ) → e < length x.sizes.lens → Grows x y (longer_list x.sizes e) b → Becomes x y b
unfolding longer_list
becomes_entry {x = x} e h g = record {
  is = g.is;
  slots = λ i. (g.sizes i).slots;
  nodes = λ i. (g.sizes i).nodes;
  results = rw g.sizes (omega arith);
  lists = λ f. rw g.sizes (longer_lists x.sizes.lens e f h);
  same = g.same;
}

pub becomes_result : {x y : lent.Arena} {b : Arena} → Grows x y (one_result_more x.sizes) b → Becomes x y b
unfolding one_result_more
becomes_result g = record {
  is = g.is;
  slots = λ i. (g.sizes i).slots;
  nodes = λ i. (g.sizes i).nodes;
  results = rw g.sizes (omega arith);
  lists = λ f. rw g.sizes (omega arith);
  same = g.same;
}
