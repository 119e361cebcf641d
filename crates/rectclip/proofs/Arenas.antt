-- The work list as the definition's arena: what a read at a field is there, and what a store does to it. One law for each kind of field. Assumes nothing.
use Rattle.std.specs.Prelude.{if◌then◌else◌}
use mathlib.Core.Path.{◌≡◌, refl, ◌∙◌, ap}
use mathlib.Core.List.{List, [], ◌∷◌}
use Prim.Native.Nat.{ℕ, zero, suc, ◌+◌, ◌<◌, ◌≤◌}
use native.Mathlib.Omega.{arith}
use native.Mathlib.Decide.{ℕ_discrete}
use lib.ListN.{length, get_or, set}
use lib.Dec.{eqb, ltb}
use borrow.Author.Tests.{eq-eqb, ne_eqb}
use Rattle.plane.specs.Basics.{none, push}
use Rattle.reference.specs.Arena.{owner_of, edge_of, next_of, prev_of, result_of, edge_list, set_owner, set_edge, set_next, set_prev, set_results, set_edge_list, set_result, set_entry}
use Rattle.rectclip.specs.declared.arena.Sizes.{Sizes}
use Rattle.rectclip.specs.Memory.{at, put, Room, column}
use Rattle.rectclip.specs.Arenas.{columns, arena_at, longer, longer_list, one_result_more}
use Rattle.rectclip.proofs.Columns.{column_at, column_put, column_other, column_pushed}

-- ---- reading
module _ (m : List ℕ) (s : Sizes) where
  pub next_at : (i : ℕ) → i < s.nodes → next_of (arena_at m s) i ≡ at 0 m i
  unfolding arena_at
  next_at i h = column_at 0 s.nodes m i none h

  pub prev_at : (i : ℕ) → i < s.nodes → prev_of (arena_at m s) i ≡ at 1 m i
  unfolding arena_at
  prev_at i h = column_at 1 s.nodes m i none h

  pub owner_at : (i : ℕ) → i < s.nodes → owner_of (arena_at m s) i ≡ at 2 m i
  unfolding arena_at
  owner_at i h = column_at 2 s.nodes m i none h

  pub edge_at : (i : ℕ) → i < s.nodes → edge_of (arena_at m s) i ≡ at 3 m i
  unfolding arena_at
  edge_at i h = column_at 3 s.nodes m i none h

  pub result_at : (r : ℕ) → r < s.results → result_of (arena_at m s) r ≡ at 4 m r
  unfolding arena_at
  result_at r h = column_at 4 s.results m r none h

columns_at : (k : ℕ) (lens m : List ℕ) (e : ℕ) → e < length lens → get_or (columns k lens m) e [] ≡ column (k + e) (get_or lens e 0) m
columns_at k [] m e h = absurd (omega arith)
columns_at k (n ∷ lens) m zero h = ap (λ (j : ℕ). column j n m) (omega arith)
columns_at k (n ∷ lens) m (suc e) h = columns_at (suc k) lens m e (omega arith) ∙ ap (λ (j : ℕ). column j (get_or lens e 0) m) (omega arith)

pub list_at : (m : List ℕ) (s : Sizes) (e : ℕ) → e < length s.lens → edge_list (arena_at m s) e ≡ column (8 + e) (get_or s.lens e 0) m
unfolding arena_at
list_at m s e h = columns_at 8 s.lens m e h

-- ---- a store outside the edge lists keeps them
columns_other : (k : ℕ) (lens m : List ℕ) (f i v : ℕ) → f < k → k + length lens ≤ 16 → columns k lens (put f m i v) ≡ columns k lens m
columns_other k [] m f i v h g = refl
columns_other k (n ∷ lens) m f i v h g =
    (λ j. column_other f k n m i v (omega arith) (omega arith) (λ e. omega arith) j ∷ columns_other (suc k) lens m f i v (omega arith) (omega arith) j)

-- ---- writing: a store to a field of slot i is the definition's, and a number pushed to a list is too
-- how many entries field k of the nodes and results has
abbrev pub size : Sizes → ℕ → ℕ
size s k = if ltb k 4 then s.nodes else s.results

module _ (N : ℕ) (m : List ℕ) (s : Sizes) (r : Room N m) (c : length s.lens ≡ 8) where
  near : {n : ℕ} → n ≤ N → Room n m
  near h = record { cells = omega (arith, r.cells); small = omega (arith, r.small) }

  module _ (k i v : ℕ) (hk : k < 5) (g : size s k ≤ N) (h : i < size s k) where
    -- list l of the five afterwards
    written : ℕ → List ℕ
    written l = if eqb l k then set (column l (size s l) m) i v else column l (size s l) m

    written_is : (l : ℕ) → l < 5 → column l (size s l) (put k m i v) ≡ written l
    unfolding written
    written_is l hl =
        elim (ℕ_discrete l k) [
          | yes e ↦ rw (e, eq-eqb k k refl) (column_put k (size s k) m i v (omega arith) (near g) h)
          | no q ↦ rw (ne_eqb l k q) (column_other k l (size s l) m i v (omega arith) (omega arith) q)
        ]

    put_field : arena_at (put k m i v) s ≡ record { owner = written 2; edge = written 3; next = written 0; prev = written 1; results = written 4; edges = columns 8 s.lens m }
    unfolding arena_at
    put_field =
        λ j. record {
          owner = written_is 2 (omega arith) j;
          edge = written_is 3 (omega arith) j;
          next = written_is 0 (omega arith) j;
          prev = written_is 1 (omega arith) j;
          results = written_is 4 (omega arith) j;
          edges = columns_other 8 s.lens m k i v (omega arith) (omega arith) j;
        }

  module _ (i v : ℕ) where
    pub put_next : s.nodes ≤ N → i < s.nodes → arena_at (put 0 m i v) s ≡ set_next (arena_at m s) i v
    unfolding arena_at set_next written
    put_next g h = put_field 0 i v (omega arith) g h

    pub put_prev : s.nodes ≤ N → i < s.nodes → arena_at (put 1 m i v) s ≡ set_prev (arena_at m s) i v
    unfolding arena_at set_prev written
    put_prev g h = put_field 1 i v (omega arith) g h

    pub put_owner : s.nodes ≤ N → i < s.nodes → arena_at (put 2 m i v) s ≡ set_owner (arena_at m s) i v
    unfolding arena_at set_owner written
    put_owner g h = put_field 2 i v (omega arith) g h

    pub put_edge : s.nodes ≤ N → i < s.nodes → arena_at (put 3 m i v) s ≡ set_edge (arena_at m s) i v
    unfolding arena_at set_edge written
    put_edge g h = put_field 3 i v (omega arith) g h

    pub put_result : s.results ≤ N → i < s.results → arena_at (put 4 m i v) s ≡ set_result (arena_at m s) i v
    unfolding arena_at set_results written
    put_result g h = put_field 4 i v (omega arith) g h

-- ---- the edge lists: a store to entry i of list e, and one entry more
columns_put : (k N : ℕ) (lens m : List ℕ) (e i v : ℕ) → Room N m → k + length lens ≤ 16 → e < length lens → get_or lens e 0 ≤ N → i < get_or lens e 0
    → columns k lens (put (k + e) m i v) ≡ set (columns k lens m) e (set (get_or (columns k lens m) e []) i v)
columns_put k N [] m e i v r b h g l = absurd (omega arith)
columns_put k N (n ∷ lens) m zero i v r b h g l =
    ap (λ (f : ℕ). column k n (put f m i v) ∷ columns (suc k) lens (put f m i v)) (omega arith)
    ∙ (λ j. column_put k n m i v (omega arith) (record { cells = omega (arith, r.cells); small = omega (arith, r.small) }) l j
    ∷ columns_other (suc k) lens m k i v (omega arith) (omega arith) j)
columns_put k N (n ∷ lens) m (suc e) i v r b h g l =
    ap (λ (f : ℕ). column k n (put f m i v) ∷ columns (suc k) lens (put f m i v)) (omega arith)
    ∙ (λ j. column_other (suc k + e) k n m i v (omega arith) (omega arith) (λ q. omega arith) j
    ∷ columns_put (suc k) N lens m e i v r (omega arith) (omega arith) g l j)

columns_push : (k N : ℕ) (lens m : List ℕ) (e v : ℕ) → Room N m → k + length lens ≤ 16 → e < length lens → get_or lens e 0 < N
    → columns k (longer lens e) (put (k + e) m (get_or lens e 0) v) ≡ set (columns k lens m) e (push (get_or (columns k lens m) e []) v)
columns_push k N [] m e v r b h g = absurd (omega arith)
columns_push k N (n ∷ lens) m zero v r b h g =
    ap (λ (f : ℕ). column k (n + 1) (put f m n v) ∷ columns (suc k) lens (put f m n v)) (omega arith)
    ∙ (λ j. column_pushed k n m v (omega (arith, r.cells)) j ∷ columns_other (suc k) lens m k n v (omega arith) (omega arith) j)
columns_push k N (n ∷ lens) m (suc e) v r b h g =
    ap (λ (f : ℕ). column k n (put f m (get_or lens e 0) v) ∷ columns (suc k) (longer lens e) (put f m (get_or lens e 0) v)) (omega arith)
    ∙ (λ j. column_other (suc k + e) k n m (get_or lens e 0) v (omega arith) (omega arith) (λ q. omega arith) j
    ∷ columns_push (suc k) N lens m e v r (omega arith) (omega arith) g j)

module _ (N : ℕ) (m : List ℕ) (s : Sizes) (r : Room N m) (c : length s.lens ≡ 8) where
  fields_kept : (k l n i v : ℕ) → k < 16 → l < 5 → 8 ≤ k → column l n (put k m i v) ≡ column l n m
  fields_kept k l n i v hk hl h = column_other k l n m i v hk (omega arith) (λ q. omega arith)

  pub put_entry : (e i v : ℕ) → e < 8 → get_or s.lens e 0 ≤ N → i < get_or s.lens e 0 → arena_at (put (8 + e) m i v) s ≡ set_entry (arena_at m s) e i v
  unfolding arena_at set_edge_list
  put_entry e i v h g l =
      λ j. record {
        owner = fields_kept (8 + e) 2 s.nodes i v (omega arith) (omega arith) (omega arith) j;
        edge = fields_kept (8 + e) 3 s.nodes i v (omega arith) (omega arith) (omega arith) j;
        next = fields_kept (8 + e) 0 s.nodes i v (omega arith) (omega arith) (omega arith) j;
        prev = fields_kept (8 + e) 1 s.nodes i v (omega arith) (omega arith) (omega arith) j;
        results = fields_kept (8 + e) 4 s.results i v (omega arith) (omega arith) (omega arith) j;
        edges = columns_put 8 N s.lens m e i v r (omega arith) (omega arith) g l j;
      }

  pub push_entry : (e v : ℕ) → e < 8 → get_or s.lens e 0 < N
      → arena_at (put (8 + e) m (get_or s.lens e 0) v) (longer_list s e) ≡ set_edge_list (arena_at m s) e (push (edge_list (arena_at m s) e) v)
  unfolding arena_at set_edge_list longer_list
  push_entry e v h g =
      let n = get_or s.lens e 0 in
      λ j. record {
        owner = fields_kept (8 + e) 2 s.nodes n v (omega arith) (omega arith) (omega arith) j;
        edge = fields_kept (8 + e) 3 s.nodes n v (omega arith) (omega arith) (omega arith) j;
        next = fields_kept (8 + e) 0 s.nodes n v (omega arith) (omega arith) (omega arith) j;
        prev = fields_kept (8 + e) 1 s.nodes n v (omega arith) (omega arith) (omega arith) j;
        results = fields_kept (8 + e) 4 s.results n v (omega arith) (omega arith) (omega arith) j;
        edges = columns_push 8 N s.lens m e v r (omega arith) (omega arith) g j;
      }

  pub push_result : (v : ℕ) → s.results < N → arena_at (put 4 m s.results v) (one_result_more s) ≡ set_results (arena_at m s) (push (arena_at m s).results v)
  unfolding arena_at set_results one_result_more
  push_result v g =
      let n = s.results in
      λ j. record {
        owner = column_other 4 2 s.nodes m n v (omega arith) (omega arith) (λ q. omega arith) j;
        edge = column_other 4 3 s.nodes m n v (omega arith) (omega arith) (λ q. omega arith) j;
        next = column_other 4 0 s.nodes m n v (omega arith) (omega arith) (λ q. omega arith) j;
        prev = column_other 4 1 s.nodes m n v (omega arith) (omega arith) (λ q. omega arith) j;
        results = column_pushed 4 n m v (omega (arith, r.cells)) j;
        edges = columns_other 8 s.lens m 4 n v (omega arith) (omega arith) j;
      }
