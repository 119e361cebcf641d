-- `check_edges` on the walk's one ring gives the invariant of `tidy_edges`.
use mathlib.Core.Path.{◌≡◌, refl, sym, ◌∙◌, ap, subst, subst₂}
use mathlib.Core.List.{List, [], ◌∷◌}
use mathlib.Core.Logic.{inl, inr}
use Prim.Native.Nat.{ℕ, ◌+◌, ◌*◌, ◌/◌, ◌<◌, ◌≤◌}
use lib.ListN.{length, get_or, set, length-set}
use lib.Seq.{get_or-set_same, get_or-set_other}
use lib.IntN.{ℤ, pos, +ℤ_idr}
use native.Mathlib.Omega.{arith}
use native.Mathlib.Decide.{ℕ_discrete}
use Rattle.plane.specs.declared.point.Point64.{Point64}
use Rattle.plane.specs.declared.rect.Rect64.{Rect64}
use Rattle.plane.specs.Basics.{none}
use Rattle.plane.specs.Rectangle.{get_edges_for_pt}
use Rattle.reference.specs.Arena.{Arena, pt_of, next_of, prev_of, owner_of, edge_of, edge_list, result_of, set_results, set_result, Round, drop_collinear, assign_edges}
use Rattle.theorems.proofs.RingLists.{In}
use Rattle.theorems.proofs.RingSet.{Ok, area_of, total, total_set}
use Rattle.theorems.proofs.RingStep.{Found, found_of, Lives, Core, next_live, prev_next, node_in, owner_is}
use Rattle.theorems.proofs.TidyLinks.{level, coord, at}
use Rattle.theorems.proofs.TidyInv.{weight, Of, On, Inv}
use Rattle.theorems.proofs.Dropping.{Dropped, all_dropped}
use Rattle.theorems.proofs.Assigning.{line_at, Asg, asg_edges}

pub total_one : (wt : ℕ → ℕ → ℤ) (rs : List (List ℕ)) → length rs ≡ 1 → total wt rs ≡ area_of wt (get_or rs 0 [])
unfolding total
total_one wt [] e = absurd (omega arith)
total_one wt (x ∷ []) e = +ℤ_idr (area_of wt x)
total_one wt (x ∷ y ∷ rs) e = absurd (omega arith)

half : (k e : ℕ) → Of k e → e / 2 ≡ k
half k e (inl q) = omega arith
half k e (inr q) = omega arith

-- what is known of an arena with one ring, but for its edge lists
pub record One (pts : List Point64) (A : ℤ) (a : Arena) : Type 0 where
  pub rs : List (List ℕ)
  pub core : Core (weight pts) (length pts) (next_of a) (prev_of a) (owner_of a) (result_of a) rs A
  pub nexts : length a.next ≡ length pts
  pub prevs : length a.prev ≡ length pts
  pub owners : length a.owner ≡ length pts
  pub results : length a.results ≡ 1
  pub one : length rs ≡ 1

module _ (pts : List Point64) (small : length pts ≤ none) (rect : Rect64) (A : ℤ) (a : Arena) (B : One pts A a) (i0 : In (result_of a 0) (get_or B.rs 0 [])) where
  abbrev pub s : Round
  s = drop_collinear pts (2 * length pts + 1) a (result_of a 0) (result_of a 0)

  pub D : Dropped pts (owner_of a) a B.rs 0 s
  D = all_dropped pts small (owner_of a) 0 (2 * length pts + 1) a B.rs (result_of a 0) (result_of a 0) (record { rings = B.core.rings; nexts = B.nexts; prevs = B.prevs }) i0 i0

  pub one_left : length D.rs' ≡ 1
  one_left = D.shrunk.len ∙ B.one

  pub area_left : area_of (weight pts) (get_or D.rs' 0 []) ≡ A
  area_left = D.shrunk.area ∙ sym (total_one (weight pts) B.rs B.one) ∙ B.core.area

  pub res_left : length s.arena.results ≡ 1
  res_left = ap length D.still.results ∙ B.results

  -- ---- the ring is gone: one node was left, and no area
  pub gone : area_of (weight pts) (get_or D.rs' 0 []) ≡ pos 0 → One pts A (set_result s.arena 0 none)
  unfolding set_results area_of
  gone z =
      let hr : 0 < length D.rs' = let e = one_left in omega arith in
      record {
        rs = set D.rs' 0 [];
        core = subst (λ (o : List ℕ). Core (weight pts) (length pts) (next_of s.arena) (prev_of s.arena) (at o) (at (set s.arena.results 0 none)) (set D.rs' 0 []) A) (sym D.still.owner) (record {
          rings = λ k.
              elim (ℕ_discrete k 0) [
                | yes e ↦ subst (λ (l : List ℕ). Ok (length pts) (next_of s.arena) (prev_of s.arena) (owner_of a) k l) (sym (ap (λ (j : ℕ). get_or (set D.rs' 0 []) j []) e ∙ get_or-set_same D.rs' 0 [] [] hr)) (record { ring = tt; once = tt; own = tt })
                | no q ↦ rw (get_or-set_other D.rs' 0 k [] [] q) (D.some.rings k)
              ];
          found = λ k h.
              let e : k ≡ 0 = let l = length-set D.rs' 0 [] in let o = one_left in omega arith in
              subst (λ (j : ℕ). Found (at (set s.arena.results 0 none) j) (get_or (set D.rs' 0 []) j [])) (sym e)
              (subst₂ Found (sym (get_or-set_same s.arena.results 0 none none (let o = res_left in omega arith))) (sym (get_or-set_same D.rs' 0 [] [] hr)) refl);
          area = total_set (weight pts) D.rs' 0 [] hr (sym z) ∙ total_one (weight pts) D.rs' one_left ∙ area_left;
        });
        nexts = D.some.nexts;
        prevs = D.some.prevs;
        owners = ap length D.still.owner ∙ B.owners;
        results = length-set s.arena.results 0 none ∙ res_left;
        one = length-set D.rs' 0 [] ∙ one_left;
      }

  -- ---- the ring is there
  unfoldable pub there : In s.op (get_or D.rs' 0 []) → One pts A (set_result s.arena 0 s.op)
  unfolding set_results
  there i =
      record {
        rs = D.rs';
        core = subst (λ (o : List ℕ). Core (weight pts) (length pts) (next_of s.arena) (prev_of s.arena) (at o) (at (set s.arena.results 0 s.op)) D.rs' A) (sym D.still.owner) (record {
          rings = D.some.rings;
          found = λ k h.
              let e : k ≡ 0 = let o = one_left in omega arith in
              subst (λ (j : ℕ). Found (at (set s.arena.results 0 s.op) j) (get_or D.rs' j [])) (sym e)
              (subst (λ (x : ℕ). Found x (get_or D.rs' 0 [])) (sym (get_or-set_same s.arena.results 0 s.op none (let o = res_left in omega arith))) (found_of s.op (get_or D.rs' 0 []) i));
          area = total_one (weight pts) D.rs' one_left ∙ area_left;
        });
        nexts = D.some.nexts;
        prevs = D.some.prevs;
        owners = ap length D.still.owner ∙ B.owners;
        results = length-set s.arena.results 0 s.op ∙ res_left;
        one = one_left;
      }

-- ---- the invariant, where an arena's lists are fine
module _ (pts : List Point64) (rect : Rect64) (A : ℤ) (b : Arena) (B : One pts A b) where
  abbrev OnB : ℕ → ℕ → Type 0
  OnB k i = On pts (line_at rect) (λ j. k) (prev_of b) (owner_of b) B.rs k i

  asg_inv : (c : Arena) → Asg OnB (length pts) b c → Inv pts (line_at rect) (λ i. edge_of c i / 2) A c
  asg_inv c F = record {
    rs = B.rs;
    core = subst₂ (λ (N P : List ℕ). Core (weight pts) (length pts) (at N) (at P) (owner_of c) (result_of c) B.rs A) (sym F.next) (sym F.prev)
        (subst₂ (λ (O R : List ℕ). Core (weight pts) (length pts) (next_of b) (prev_of b) (at O) (at R) B.rs A) (sym F.owner) (sym F.results) B.core);
    nexts = ap length F.next ∙ B.nexts;
    prevs = ap length F.prev ∙ B.prevs;
    owners = ap length F.owner ∙ B.owners;
    results = ap length F.results ∙ B.results ∙ sym B.one;
    lists = λ k e i o h nn.
        let q = F.lists k e i o h nn in
        record {
          lives = subst (λ (O : List ℕ). Lives (at O) B.rs i) (sym F.owner) q.0.lives;
          here = q.0.here;
          before = subst (λ (P : List ℕ). coord (level k) (pt_of pts (at P i)) ≡ line_at rect k) (sym F.prev) q.0.before;
          side = half k (edge_of c i) q.1;
        };
  }

  none_yet : length b.edge ≡ length pts → length b.edges ≡ 8 → ((e : ℕ) → edge_list b e ≡ []) → Asg OnB (length pts) b b
  none_yet l e h = record {
    next = refl;
    prev = refl;
    owner = refl;
    results = refl;
    fields = l;
    eight = e;
    lists = λ k e' i o m nn. absurd (subst (In i) (h e') m);
  }

  pub assigned_inv : length b.edge ≡ length pts → length b.edges ≡ 8 → ((e : ℕ) → edge_list b e ≡ []) → (left op : ℕ) → In op (get_or B.rs 0 [])
      → let c = assign_edges pts left rect b op op (get_edges_for_pt (pt_of pts (prev_of b op)) rect) in Inv pts (line_at rect) (λ i. edge_of c i / 2) A c
  assigned_inv l e h left op i =
      asg_inv _
      (asg_edges OnB (length pts) b pts rect (λ j. In j (get_or B.rs 0 []))
      (node_in (weight pts) (length pts) (next_of b) (prev_of b) (owner_of b) B.rs B.core.rings 0)
      (next_live (weight pts) (length pts) (next_of b) (prev_of b) (owner_of b) B.rs B.core.rings 0)
      (prev_next (weight pts) (length pts) (next_of b) (prev_of b) (owner_of b) B.rs B.core.rings 0)
      (λ k j m x y. record {
        lives = subst (λ (z : ℕ). In j (get_or B.rs z [])) (sym (owner_is (weight pts) (length pts) (next_of b) (prev_of b) (owner_of b) B.rs B.core.rings 0 j m)) m;
        here = x;
        before = y;
        side = refl;
      })
      left b op op (get_edges_for_pt (pt_of pts (prev_of b op)) rect) (none_yet l e h) i refl)

  pub bare_inv : length b.edge ≡ length pts → length b.edges ≡ 8 → ((e : ℕ) → edge_list b e ≡ []) → Inv pts (line_at rect) (λ i. edge_of b i / 2) A b
  bare_inv l e h = asg_inv b (none_yet l e h)
