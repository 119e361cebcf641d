-- The rings theorem: what the walk leaves is one ring, and `check_edges` and every turn of `tidy_edges` keep rings rings, with their owners,
-- results and edge entries. The invariant of `tidy_edges` in the words of specs/Rings.antt.
use Rattle.std.specs.Prelude.{if◌then◌else◌}
use mathlib.Core.Path.{◌≡◌, refl, sym, ◌∙◌, ap, subst, subst₂}
use mathlib.Core.Bool.{Bool, true, false, not}
use mathlib.Core.Logic.{◌⊎◌, inl, inr}
use mathlib.Core.List.Memᴰ
use mathlib.Core.List.{List, [], ◌∷◌, Memᴰ}
use Prim.Native.Nat.{ℕ, zero, suc, ◌+◌, ◌*◌, ◌-◌, ◌<◌, ◌≤◌}
use lib.ListN.{length, get_or, get_or-eq_default}
use lib.Dec.{eqb}
use lib.IntN.{ℤ}
use native.Mathlib.Omega.{arith}
use native.Mathlib.Decide.{dec_lt}
use Rattle.plane.specs.declared.point.Point64.{Point64}
use Rattle.plane.specs.declared.rect.Rect64.{Rect64}
use Rattle.plane.specs.Basics.{none, push}
use Rattle.plane.specs.Locations.{side}
use Rattle.plane.specs.Points.{points_of}
use Rattle.reference.specs.Walk.{Walked, walk_closed}
use Rattle.reference.specs.Arena.{Arena, pt_of, next_of, prev_of, owner_of, result_of, edge_of, edge_list, ring, set_edge, set_edge_list, add_to_edge}
use Rattle.reference.specs.Tidy.{Turn, turn, one_turn, tidy_edges}
use Rattle.reference.specs.Clip.{enter_all, arena_of}
use Rattle.theorems.specs.Demand.{signed_area2, across, line_of}
use Rattle.theorems.specs.Rings.{Different, OneRing, InRing, RingsAre, OnEdgeLine, Ringwise, TurnsKeep, TidyKeeps, walked_rings, tidied, RingsKept, RingsAlwaysKept, Entered}
use Rattle.theorems.proofs.Holds.{Holds, held, bind, holds_ok}
use Rattle.theorems.proofs.Tests.{never}
use Rattle.theorems.proofs.RingLaw.{Distinct}
use Rattle.theorems.proofs.RingLists.{RingOf, In, off_in}
use Rattle.theorems.proofs.RingStep.{Found, Core, numbered, owner_is, node_in, next_live, prev_live, next_prev, prev_next}
use Rattle.theorems.proofs.RingEnds.{chain_ringed}
use Rattle.theorems.proofs.TidyLinks.{level, coord}
use Rattle.theorems.proofs.TidyInv.{weight, On, Inv}
use Rattle.theorems.proofs.TidyAll.{turn_inv}
use Rattle.theorems.proofs.Assigning.{line_at}
use Rattle.theorems.proofs.Dropping.{one_ring, ring_is, first_core}
use Rattle.theorems.proofs.WalkArena.{Met, Behind, walk_behind}
use Rattle.theorems.proofs.AreaKeeps.{side_met}
use Rattle.theorems.proofs.Counted.{walk_counted}
use Rattle.theorems.proofs.WalkEnters.{walk_enters}
use Rattle.theorems.proofs.Entering.{entry_found}

-- ---- members
into : (i : ℕ) (xs : List ℕ) → Memᴰ i xs → In i xs
into i [] m = absurd (Memᴰ.not-nil m)
into i (x ∷ xs) m = go (Memᴰ.cases_cons m) (into i xs)
  where
    go : (i ≡ x) ⊎ Memᴰ i xs → (Memᴰ i xs → In i xs) → In i (x ∷ xs)
    go (inl e) f = inl (sym e)
    go (inr m) f = inr (f m)

member : (i : ℕ) (xs : List ℕ) → In i xs → Memᴰ i xs
member i [] h = elim h [ ]
member i (x ∷ xs) (inl e) = Memᴰ.head (sym e)
member i (x ∷ xs) (inr h) = Memᴰ.tail (member i xs h)

different : (xs : List ℕ) → Distinct xs → Different xs
different [] d = tt
different (x ∷ xs) d = ((λ m. off_in x xs d.0 (into x xs m)), different xs d.1)

-- ---- the rings of an arena
one_of : (a : Arena) (xs : List ℕ) → RingOf (next_of a) (prev_of a) xs → OneRing a xs
one_of a [] r = tt
one_of a (x ∷ xs) r = chain_ringed a x x xs r.chain r.closes

found_in : (x : ℕ) (xs : List ℕ) → Found x xs → (x ≡ none → ⊥) → In x xs
found_in x [] f h = absurd (h f)
found_in x (y ∷ ys) f h = f

in_found : (x i : ℕ) (xs : List ℕ) → In i xs → Found x xs → In x xs
in_found x i [] h f = elim h [ ]
in_found x i (y ∷ ys) h f = f

module _ (wt : ℕ → ℕ → ℤ) (n : ℕ) (small : n ≤ none) (a : Arena) (rs : List (List ℕ)) (A : ℤ) (C : Core wt n (next_of a) (prev_of a) (owner_of a) (result_of a) rs A) (len : length a.results ≡ length rs) where
  abbrev at : (i s : ℕ) → InRing rs i s → In i (get_or rs s [])
  at i s m = into i (get_or rs s []) m

  owner : (i s : ℕ) → InRing rs i s → owner_of a i ≡ s
  owner i s m = owner_is wt n (next_of a) (prev_of a) (owner_of a) rs C.rings s i (at i s m)

  node : (i s : ℕ) → In i (get_or rs s []) → i < n
  node i s h = node_in wt n (next_of a) (prev_of a) (owner_of a) rs C.rings s i h

  result : (s : ℕ) → (result_of a s ≡ none → ⊥) → In (result_of a s) (get_or rs s [])
  result s h =
      elim (dec_lt s (length rs)) [
        | yes l ↦ found_in (result_of a s) (get_or rs s []) (C.found s l) h
        | no l ↦ absurd (h (get_or-eq_default a.results none {n = s} (omega arith)))
      ]

  pub rings_are : RingsAre n a rs
  rings_are = record {
    numbered = sym len;
    is_node = λ i s m. node i s (at i s m);
    one_ring = λ s. one_of a (get_or rs s []) (C.rings s).ring;
    different = λ s. different (get_or rs s []) (C.rings s).once;
    next_in = λ i s m. member _ (get_or rs s []) (next_live wt n (next_of a) (prev_of a) (owner_of a) rs C.rings s i (at i s m));
    prev_in = λ i s m. member _ (get_or rs s []) (prev_live wt n (next_of a) (prev_of a) (owner_of a) rs C.rings s i (at i s m));
    next_prev = λ i s m. next_prev wt n (next_of a) (prev_of a) (owner_of a) rs C.rings s i (at i s m);
    prev_next = λ i s m. prev_next wt n (next_of a) (prev_of a) (owner_of a) rs C.rings s i (at i s m);
    owner_is = owner;
    disjoint = λ i s t m k. sym (owner i s m) ∙ owner i t k;
    one_owner = λ i j s m k. owner i s m ∙ sym (owner j s k);
    same_ring = λ i j s t m k e. subst (InRing rs j) (sym (owner j t k) ∙ sym e ∙ owner i s m) k;
    result_in = λ s h. member _ (get_or rs s []) (result s h);
    has_result = λ i s m e.
        let h = at i s m in
        let l : result_of a s < n = node (result_of a s) s (in_found (result_of a s) i (get_or rs s []) h (C.found s (numbered rs s i h))) in
        omega arith;
  }

-- ---- the walk's arena: what is entered in edge lists changes no link, owner or result
pub record Linked (a b : Arena) : Type 0 where
  pub next : a.next ≡ b.next
  pub prev : a.prev ≡ b.prev
  pub owner : a.owner ≡ b.owner
  pub results : a.results ≡ b.results

entered_one : (a : Arena) (e i : ℕ) → Linked (add_to_edge a e i) a
unfolding add_to_edge set_edge set_edge_list
entered_one a e i = go (not (eqb (edge_of a i) none))
  where
    go : (b : Bool) → Linked (if b then a else set_edge_list (set_edge a i e) e (push (edge_list a e) i)) a
    go true = record { next = refl; prev = refl; owner = refl; results = refl }
    go false = record { next = refl; prev = refl; owner = refl; results = refl }

enter_linked : (es : List (ℕ × ℕ)) (a : Arena) → Linked (enter_all a es) a
unfolding enter_all
enter_linked [] a = record { next = refl; prev = refl; owner = refl; results = refl }
enter_linked (e ∷ es) a =
    let h = enter_linked es (add_to_edge a e.0 e.1) in
    let k = entered_one a e.0 e.1 in
    record { next = h.next ∙ k.next; prev = h.prev ∙ k.prev; owner = h.owner ∙ k.owner; results = h.results ∙ k.results }

walk_core : (p : Point64) (ps : List Point64) (a : Arena) → Linked a (one_ring (length ps))
    → Core (weight (p ∷ ps)) (length (p ∷ ps)) (next_of a) (prev_of a) (owner_of a) (result_of a) (walked_rings (p ∷ ps)) (signed_area2 (p ∷ ps))
walk_core p ps a L =
    let o = one_ring (length ps) in
    let K = Core (weight (p ∷ ps)) (length (p ∷ ps)) in
    subst₂ (λ (N P : List ℕ). K (λ i. get_or N i none) (λ i. get_or P i none) (owner_of a) (result_of a) (walked_rings (p ∷ ps)) (signed_area2 (p ∷ ps))) (sym L.next) (sym L.prev)
    (subst₂ (λ (O R : List ℕ). K (next_of o) (prev_of o) (λ i. get_or O i none) (λ i. get_or R i none) (walked_rings (p ∷ ps)) (signed_area2 (p ∷ ps))) (sym L.owner) (sym L.results) (first_core p ps))

walk_rings : (pts : List Point64) (es : List (ℕ × ℕ)) → length pts ≤ none → RingsAre (length pts) (enter_all (ring (length pts)) es) (walked_rings pts)
unfolding ring
walk_rings [] es small =
    let L = enter_linked es (ring 0) in
    let none_in : (i s : ℕ) → InRing [] i s → ⊥ = λ i s m. Memᴰ.not-nil m in
    record {
      numbered = sym (ap length L.results);
      is_node = λ i s m. absurd (none_in i s m);
      one_ring = λ s. tt;
      different = λ s. tt;
      next_in = λ i s m. absurd (none_in i s m);
      prev_in = λ i s m. absurd (none_in i s m);
      next_prev = λ i s m. absurd (none_in i s m);
      prev_next = λ i s m. absurd (none_in i s m);
      owner_is = λ i s m. absurd (none_in i s m);
      disjoint = λ i s t m k. absurd (none_in i s m);
      one_owner = λ i j s m k. absurd (none_in i s m);
      same_ring = λ i j s t m k e. absurd (none_in i s m);
      result_in = λ s h. absurd (h (ap (λ (l : List ℕ). get_or l s none) L.results));
      has_result = λ i s m e. none_in i s m;
    }
walk_rings (p ∷ ps) es small =
    let L : Linked (enter_all (ring (length (p ∷ ps))) es) (one_ring (length ps)) =
    subst (Linked (enter_all (ring (length (p ∷ ps))) es)) (ring_is (length ps)) (enter_linked es (ring (length (p ∷ ps)))) in
    rings_are (weight (p ∷ ps)) (length (p ∷ ps)) small _ (walked_rings (p ∷ ps)) (signed_area2 (p ∷ ps)) (walk_core p ps _ L) (ap length L.results)

-- ---- the two arenas that `tidy_edges` may meet
module _ (pts : List Point64) (small : length pts ≤ none) (rect : Rect64) (A : ℤ) (sd : ℕ → ℕ) where
  -- a side's line in the words of Demand
  line_here : (k : ℕ) → k < 4 → (p : Point64) → coord (level k) p ≡ line_at rect k → across (side k) p ≡ line_of rect (side k)
  line_here zero h p e = e
  line_here (suc zero) h p e = e
  line_here (suc (suc zero)) h p e = e
  line_here (suc (suc (suc zero))) h p e = e
  line_here (suc (suc (suc (suc k)))) h p e = absurd (omega arith)

  entry : (a : Arena) (rs : List (List ℕ)) (k i : ℕ) → k < 4 → On pts (line_at rect) sd (prev_of a) (owner_of a) rs k i → OnEdgeLine pts rect a rs (side k) i
  entry a rs k i h o = record { live = member i (get_or rs (owner_of a i) []) o.lives; here = line_here k h (pt_of pts i) o.here; before = line_here k h (pt_of pts (prev_of a i)) o.before }

  ringwise : (a : Arena) → Met pts rect A sd a → Ringwise pts rect a
  ringwise a (inl I) = record {
    rings = I.rs;
    are = rings_are (weight pts) (length pts) small a I.rs A I.core I.results;
    entries = inl (record {
      clockwise = λ k h i m nn. entry a I.rs k i h (I.lists k (k * 2) i (inl refl) (into i (edge_list a (k * 2)) m) nn);
      other = λ k h i m nn. entry a I.rs k i h (I.lists k (k * 2 + 1) i (inr refl) (into i (edge_list a (k * 2 + 1)) m) nn);
    });
  }
  ringwise a (inr q) = record {
    rings = q.0.rs;
    are = rings_are (weight pts) (length pts) small a q.0.rs A q.0.core (q.0.results ∙ sym q.0.one);
    entries = inr q.1;
  }

  turns_keep : (k left : ℕ) (t : Turn) → Inv pts (line_at rect) sd A t.arena → TurnsKeep pts rect k left t
  turns_keep k zero t I = tt
  turns_keep k (suc left) t I =
      λ e. let J = turn_inv pts (line_at rect) sd A k t.arena I t.i t.j in (ringwise _ (inl J), turns_keep k left (one_turn pts k t.arena t.i t.j) J)

  tidy_keeps : (k limit : ℕ) (s : Arena × ℕ) → Met pts rect A sd s.0 → TidyKeeps pts rect k limit s
  tidy_keeps k limit s (inl I) = λ e. turns_keep k (limit - s.1) (turn s.0 0 0) I
  tidy_keeps k limit s (inr q) = λ e. absurd (never (ap (λ (l : List ℕ). eqb (length l) 0) (q.1 k)) e)

pub rings_kept : (A : ℕ) (rect : Rect64) (w : Walked) → length w.walk.points ≤ none → Entered w → RingsKept A rect w
unfolding arena_of
rings_kept A rect w small entered = record {
  walk = walk_rings pts w.entered small;
  check = ringwise pts small rect (signed_area2 pts) B.sd _ B.met;
  turns = λ k s e. tidy_keeps pts small rect (signed_area2 pts) B.sd k A s (holds_ok (tidied A rect w k) s (met k) e);
  sides = λ k s e. ringwise pts small rect (signed_area2 pts) B.sd s.0 (holds_ok (tidied A rect w k) s (met k) e);
}
  where
    pts : List Point64
    pts = w.walk.points

    B : Behind rect w.walk.points (arena_of w)
    B = walk_behind rect w small entered

    Q : Arena × ℕ → Type 0
    Q s = Met pts rect (signed_area2 pts) B.sd s.0

    met : (k : ℕ) → Holds Q (tidied A rect w k)
    met zero = held B.met
    met (suc k) = bind Q Q (tidied A rect w k) (tidy_edges pts k A) (met k) (λ t. side_met pts small rect (signed_area2 pts) B.sd k A t)

-- In every call within the coordinate limit whose store is bounded, the arena is a set of rings from the walk to the reading of the paths.
pub rings_always_kept : RingsAlwaysKept
rings_always_kept full A rect coords w room hr hc he e =
    rings_kept A rect w (holds_ok {Q = λ (v : Walked). length v.walk.points ≤ none} (walk_closed full rect (points_of coords)) w (walk_counted full none room rect he (points_of coords)) e)
    (holds_ok {Q = Entered} (walk_closed full rect (points_of coords)) w (walk_enters full rect he (points_of coords) (entry_found rect coords hr hc he)) e)
