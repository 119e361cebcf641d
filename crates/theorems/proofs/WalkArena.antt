-- The arena that the walk leaves: one ring of all its points, or the four corners alone with all nodes entered. Behind `check_edges` it has the
-- invariant of `tidy_edges`, or nothing for `tidy_edges` to do.
use mathlib.Core.Path.{◌≡◌, refl, sym, ◌∙◌, ap, subst, subst₂}
use mathlib.Core.List.{List, [], ◌∷◌}
use mathlib.Core.Logic.{◌⊎◌, inl, inr}
use Prim.Native.Nat.{ℕ, zero, suc, ◌+◌, ◌*◌, ◌<◌, ◌≤◌}
use lib.ListN.{length, get_or, replicate, length-append, get_or-eq_default}
use lib.Dec.{lit≤}
use lib.IntN.{ℤ}
use native.Mathlib.Omega.{arith}
use Rattle.plane.specs.declared.point.Point64.{Point64}
use Rattle.plane.specs.declared.rect.Rect64.{Rect64}
use Rattle.plane.specs.Basics.{none, push, upwards}
use Rattle.reference.specs.Walk.{Walked}
use Rattle.reference.specs.Arena.{Arena, next_of, prev_of, owner_of, edge_of, edge_list, result_of, ring, set_edge, set_edge_list, add_to_edge, check_edges, check_from}
use Rattle.reference.specs.Clip.{enter_all, arena_of}
use Rattle.theorems.specs.Demand.{signed_area2}
use Rattle.theorems.specs.Rings.{clockwise_corners, other_corners, Entered}
use Rattle.theorems.proofs.RingLists.{In}
use Rattle.theorems.proofs.RingSet.{total}
use Rattle.theorems.proofs.RingStep.{Core}
use Rattle.theorems.proofs.TidyInv.{weight, Inv}
use Rattle.theorems.proofs.ReadAll.{Whole}
use Rattle.theorems.proofs.Assigning.{line_at}
use Rattle.theorems.proofs.Dropping.{one_ring, ring_is, first_core, len_up}
use Rattle.theorems.proofs.Checking.{One}
use Rattle.theorems.proofs.CheckedEntries.{check_more}
use Rattle.theorems.proofs.Checked.{Ready, Plain, edges_ready, edges_plain}

-- ---- the arena that the walk leaves
rep_nil : (n e : ℕ) → get_or (replicate {A = List ℕ} n []) e [] ≡ []
rep_nil zero e = refl
rep_nil (suc n) zero = refl
rep_nil (suc n) (suc e) = rep_nil n e

len_push : (l : List ℕ) (x m : ℕ) → length l ≡ m → length (push l x) ≡ suc m
len_push l x m e = length-append l (x ∷ []) ∙ ap (λ (k : ℕ). k + 1) e ∙ omega arith

len_rep : (n x : ℕ) → length (replicate n x) ≡ n
len_rep zero x = refl
len_rep (suc n) x = ap suc (len_rep n x)

first_one : (p : Point64) (ps : List Point64) → One (p ∷ ps) (signed_area2 (p ∷ ps)) (one_ring (length ps))
first_one p ps = record {
  rs = (0 ∷ upwards 1 (length ps)) ∷ [];
  core = first_core p ps;
  nexts = len_push (upwards 1 (length ps)) 0 (length ps) (len_up 1 (length ps));
  prevs = ap suc (len_up 0 (length ps));
  owners = len_rep (suc (length ps)) 0;
  results = refl;
  one = refl;
}

first_in : (p : Point64) (ps : List Point64) → In (result_of (one_ring (length ps)) 0) (get_or (first_one p ps).rs 0 [])
unfolding first_one
first_in p ps = (first_core p ps).found 0 (lit≤ tt)

ready_cons : (p : Point64) (ps : List Point64) → length (p ∷ ps) ≤ none → (rect : Rect64) → Ready (p ∷ ps) rect (signed_area2 (p ∷ ps)) (check_edges (p ∷ ps) rect (one_ring (length ps)))
ready_cons p ps small rect =
    edges_ready (p ∷ ps) small rect (signed_area2 (p ∷ ps)) (one_ring (length ps)) (first_one p ps) (first_in p ps) (len_rep (suc (length ps)) none) refl (rep_nil 8)

ready_nil : (rect : Rect64) → Ready [] rect (signed_area2 []) (check_edges [] rect (ring 0))
unfolding ring check_edges check_from signed_area2 total
ready_nil rect = record {
  sd = λ i. 0;
  inv = record {
    rs = [];
    core = record { rings = λ s. record { ring = tt; once = tt; own = tt }; found = λ s h. absurd (omega arith); area = refl };
    nexts = refl;
    prevs = refl;
    owners = refl;
    results = refl;
    lists = λ k e i o h nn. absurd (subst (In i) (rep_nil 8 e) h);
  };
}

-- ---- the four corners are entered
module _ (p q u v : Point64) (a : Arena) (an : a.next ≡ (one_ring 3).next) (ap' : a.prev ≡ (one_ring 3).prev) (ao : a.owner ≡ (one_ring 3).owner) (ar : a.results ≡ (one_ring 3).results) where
  corner_one : One (p ∷ q ∷ u ∷ v ∷ []) (signed_area2 (p ∷ q ∷ u ∷ v ∷ [])) a
  corner_one = record {
    rs = (0 ∷ upwards 1 3) ∷ [];
    core = subst₂ (λ (N P : List ℕ). Core (weight (p ∷ q ∷ u ∷ v ∷ [])) 4 (λ i. get_or N i none) (λ i. get_or P i none) (owner_of a) (result_of a) ((0 ∷ upwards 1 3) ∷ []) (signed_area2 (p ∷ q ∷ u ∷ v ∷ []))) (sym an) (sym ap')
        (subst₂ (λ (O R : List ℕ). Core (weight (p ∷ q ∷ u ∷ v ∷ [])) 4 (next_of (one_ring 3)) (prev_of (one_ring 3)) (λ i. get_or O i none) (λ i. get_or R i none) ((0 ∷ upwards 1 3) ∷ []) (signed_area2 (p ∷ q ∷ u ∷ v ∷ []))) (sym ao) (sym ar) (first_core p (q ∷ u ∷ v ∷ [])));
    nexts = ap length an;
    prevs = ap length ap';
    owners = ap length ao;
    results = ap length ar;
    one = refl;
  }

  corner_in : In (result_of a 0) (get_or corner_one.rs 0 [])
  unfolding corner_one
  corner_in = subst (λ (R : List ℕ). In (get_or R 0 none) (0 ∷ upwards 1 3)) (sym ar) (inr (inr (inr (inl refl))))

  corner_plain : (rect : Rect64) → ((i : ℕ) → i < 4 → edge_of a i ≡ none → ⊥) → Plain (p ∷ q ∷ u ∷ v ∷ []) (signed_area2 (p ∷ q ∷ u ∷ v ∷ [])) a (check_edges (p ∷ q ∷ u ∷ v ∷ []) rect a)
  corner_plain rect full = edges_plain (p ∷ q ∷ u ∷ v ∷ []) (lit≤ tt) rect (signed_area2 (p ∷ q ∷ u ∷ v ∷ [])) a corner_one corner_in full

-- node i and list e of the two arenas
full_edges : (l : List ℕ) → (l ≡ 0 ∷ 2 ∷ 4 ∷ 6 ∷ []) ⊎ (l ≡ 6 ∷ 4 ∷ 2 ∷ 0 ∷ []) → (i : ℕ) → i < 4 → get_or l i none ≡ none → ⊥
full_edges l (inl e) zero h q = let z : 0 ≡ none = ap (λ (k : List ℕ). get_or k 0 none) (sym e) ∙ q in omega arith
full_edges l (inl e) (suc zero) h q = let z : 2 ≡ none = ap (λ (k : List ℕ). get_or k 1 none) (sym e) ∙ q in omega arith
full_edges l (inl e) (suc (suc zero)) h q = let z : 4 ≡ none = ap (λ (k : List ℕ). get_or k 2 none) (sym e) ∙ q in omega arith
full_edges l (inl e) (suc (suc (suc zero))) h q = let z : 6 ≡ none = ap (λ (k : List ℕ). get_or k 3 none) (sym e) ∙ q in omega arith
full_edges l (inl e) (suc (suc (suc (suc i)))) h q = absurd (omega arith)
full_edges l (inr e) zero h q = let z : 6 ≡ none = ap (λ (k : List ℕ). get_or k 0 none) (sym e) ∙ q in omega arith
full_edges l (inr e) (suc zero) h q = let z : 4 ≡ none = ap (λ (k : List ℕ). get_or k 1 none) (sym e) ∙ q in omega arith
full_edges l (inr e) (suc (suc zero)) h q = let z : 2 ≡ none = ap (λ (k : List ℕ). get_or k 2 none) (sym e) ∙ q in omega arith
full_edges l (inr e) (suc (suc (suc zero))) h q = let z : 0 ≡ none = ap (λ (k : List ℕ). get_or k 3 none) (sym e) ∙ q in omega arith
full_edges l (inr e) (suc (suc (suc (suc i)))) h q = absurd (omega arith)

odd_empty : (x0 x1 x2 x3 : List ℕ) (k : ℕ) → get_or (x0 ∷ [] ∷ x1 ∷ [] ∷ x2 ∷ [] ∷ x3 ∷ [] ∷ []) (k * 2 + 1) [] ≡ []
odd_empty x0 x1 x2 x3 zero = refl
odd_empty x0 x1 x2 x3 (suc zero) = refl
odd_empty x0 x1 x2 x3 (suc (suc zero)) = refl
odd_empty x0 x1 x2 x3 (suc (suc (suc zero))) = refl
odd_empty x0 x1 x2 x3 (suc (suc (suc (suc k)))) = get_or-eq_default (x0 ∷ [] ∷ x1 ∷ [] ∷ x2 ∷ [] ∷ x3 ∷ [] ∷ []) [] {n = suc (suc (suc (suc k))) * 2 + 1} (omega arith)

-- the two arenas that `tidy_edges` may meet: one with its invariant, or one whose counter-clockwise lists are empty
abbrev pub Met : List Point64 → Rect64 → ℤ → (ℕ → ℕ) → Arena → Type 0
Met pts rect A sd a = Inv pts (line_at rect) sd A a ⊎ (One pts A a × ((k : ℕ) → edge_list a (k * 2 + 1) ≡ []))

-- either has its rings and results
pub met_whole : (pts : List Point64) (rect : Rect64) (A : ℤ) (sd : ℕ → ℕ) (a : Arena) → Met pts rect A sd a → Whole pts A a
met_whole pts rect A sd a (inl I) = record { rs = I.rs; core = I.core; nexts = I.nexts; prevs = I.prevs; results = I.results }
met_whole pts rect A sd a (inr q) = record { rs = q.0.rs; core = q.0.core; nexts = q.0.nexts; prevs = q.0.prevs; results = q.0.results ∙ sym q.0.one }

-- ---- behind the walk
-- an arena without results, or one ring with its result
pub data Start (pts : List Point64) (a : Arena) : Type 0 where
  empty : a.results ≡ [] → Start pts a
  ringed : length pts ≤ none → (B : One pts (signed_area2 pts) a) → In (result_of a 0) (get_or B.rs 0 []) → Start pts a

pub record Behind (rect : Rect64) (pts : List Point64) (a : Arena) : Type 0 where
  pub start : Start pts a
  pub sd : ℕ → ℕ
  pub met : Met pts rect (signed_area2 pts) sd (check_edges pts rect a)
  pub entered : (e : ℕ) → length (edge_list (check_edges pts rect a) e) ≤ length pts

none_behind : (rect : Rect64) (pts : List Point64) → length pts ≤ none → Behind rect pts (ring (length pts))
unfolding ring check_edges check_from
none_behind rect [] small = let r = ready_nil rect in record { start = empty refl; sd = r.sd; met = inl r.inv; entered = λ e. subst (λ (l : List ℕ). length l ≤ 0) (sym (rep_nil 8 e)) (lit≤ tt) }
none_behind rect (p ∷ ps) small =
    let r = ready_cons p ps small rect in
    subst (Behind rect (p ∷ ps)) (sym (ring_is (length ps)))
    (record {
      start = ringed small (first_one p ps) (first_in p ps);
      sd = r.sd;
      met = inl r.inv;
      entered = λ e.
          let q = ap length (rep_nil 8 e) in
          let h = check_more (p ∷ ps) small rect (signed_area2 (p ∷ ps)) (one_ring (length ps)) (first_one p ps) (first_in p ps) (len_rep (suc (length ps)) none) e in
          omega arith;
    })

-- lists of at most four entries
abbrev Short : List (List ℕ) → Type 0
Short [] = Unit {0}
Short (l ∷ L) = (length l ≤ 4) × Short L

short_at : (L : List (List ℕ)) → Short L → (e : ℕ) → length (get_or L e []) ≤ 4
short_at [] h e = omega arith
short_at (l ∷ L) h zero = h.0
short_at (l ∷ L) h (suc e) = short_at L h.1 e

four_behind : (rect : Rect64) (p q u v : Point64) (a : Arena) → a.next ≡ (one_ring 3).next → a.prev ≡ (one_ring 3).prev → a.owner ≡ (one_ring 3).owner → a.results ≡ (one_ring 3).results
    → ((i : ℕ) → i < 4 → edge_of a i ≡ none → ⊥) → ((k : ℕ) → edge_list a (k * 2 + 1) ≡ []) → Short a.edges → Behind rect (p ∷ q ∷ u ∷ v ∷ []) a
four_behind rect p q u v a an ap' ao ar full odd few =
    let P = corner_plain p q u v a an ap' ao ar rect full in
    record {
      start = ringed (lit≤ tt) (corner_one p q u v a an ap' ao ar) (corner_in p q u v a an ap' ao ar);
      sd = λ i. 0;
      met = inr (P.one, λ k. ap (λ (l : List (List ℕ)). get_or l (k * 2 + 1) []) P.edges ∙ odd k);
      entered = λ e. subst (λ (L : List (List ℕ)). length (get_or L e []) ≤ 4) (sym P.edges) (short_at a.edges few e);
    }

corners_behind : (rect : Rect64) (pts : List Point64) (es : List (ℕ × ℕ)) → length pts ≡ 4 → (es ≡ clockwise_corners) ⊎ (es ≡ other_corners) → Behind rect pts (enter_all (ring (length pts)) es)
unfolding enter_all ring add_to_edge set_edge set_edge_list
corners_behind rect [] es l h = absurd (omega arith)
corners_behind rect (p ∷ []) es l h = absurd (omega arith)
corners_behind rect (p ∷ q ∷ []) es l h = absurd (omega arith)
corners_behind rect (p ∷ q ∷ u ∷ []) es l h = absurd (omega arith)
corners_behind rect (p ∷ q ∷ u ∷ v ∷ []) es l (inl e) =
    subst (λ (es : List (ℕ × ℕ)). Behind rect (p ∷ q ∷ u ∷ v ∷ []) (enter_all (ring 4) es)) (sym e)
    (four_behind rect p q u v (enter_all (ring 4) clockwise_corners) refl refl refl refl (full_edges _ (inl refl)) (odd_empty _ _ _ _) (lit≤ tt, (lit≤ tt, (lit≤ tt, (lit≤ tt, (lit≤ tt, (lit≤ tt, (lit≤ tt, (lit≤ tt, tt)))))))))
corners_behind rect (p ∷ q ∷ u ∷ v ∷ []) es l (inr e) =
    subst (λ (es : List (ℕ × ℕ)). Behind rect (p ∷ q ∷ u ∷ v ∷ []) (enter_all (ring 4) es)) (sym e)
    (four_behind rect p q u v (enter_all (ring 4) other_corners) refl refl refl refl (full_edges _ (inr refl)) (odd_empty _ _ _ _) (lit≤ tt, (lit≤ tt, (lit≤ tt, (lit≤ tt, (lit≤ tt, (lit≤ tt, (lit≤ tt, (lit≤ tt, tt)))))))))
corners_behind rect (p ∷ q ∷ u ∷ v ∷ x ∷ pts) es l h = absurd (omega arith)

pub walk_behind : (rect : Rect64) (w : Walked) → length w.walk.points ≤ none → Entered w → Behind rect w.walk.points (arena_of w)
unfolding arena_of enter_all
walk_behind rect w small (inl e) =
    subst (λ (es : List (ℕ × ℕ)). Behind rect w.walk.points (enter_all (ring (length w.walk.points)) es)) (sym e) (none_behind rect w.walk.points small)
walk_behind rect w small (inr h) = corners_behind rect w.walk.points w.entered h.0 h.1
