-- The two loops of `get_path` end within their counts for every result, and both loops of `check_edges` do.
use mathlib.Core.Path.{◌≡◌, refl, sym, subst}
use mathlib.Core.Bool.{false}
use mathlib.Core.Logic.{⊎_elim}
use mathlib.Core.List.{List, [], ◌∷◌}
use Prim.Native.Nat.{ℕ, zero, suc, ◌+◌, ◌-◌, ◌*◌, ◌≤◌}
use lib.ListN.{length, get_or}
use lib.Dec.{eqb}
use lib.IntN.{ℤ}
use native.Mathlib.Omega.{arith}
use borrow.Author.Tests.{eqb-false}
use Rattle.plane.specs.declared.point.Point64.{Point64}
use Rattle.plane.specs.declared.rect.Rect64.{Rect64}
use Rattle.plane.specs.Basics.{none, upwards}
use Rattle.reference.specs.Arena.{Arena, next_of, prev_of, owner_of, result_of, drop_collinear}
use Rattle.reference.specs.Clip.{straighten}
use Rattle.theorems.specs.LoopsEnd.{CheckEnds, PathEnds, PathsEnd}
use Rattle.theorems.proofs.RingLists.{In}
use Rattle.theorems.proofs.RingStep.{Found, next_live}
use Rattle.theorems.proofs.TidyInv.{weight}
use Rattle.theorems.proofs.Reading.{Some, straight_kept}
use Rattle.theorems.proofs.ReadAll.{Ahead, advance, Whole, whole_some, whole_ahead}
use Rattle.theorems.proofs.Checking.{One, D}
use Rattle.theorems.proofs.Straightens.{straighten_ended}
use Rattle.theorems.proofs.Drops.{drop_ended}
use Rattle.theorems.proofs.RingEnds.{ring_comes, ring_at}

-- ---- `get_path`
module _ (pts : List Point64) (ow : ℕ → ℕ) where
  -- The nodes of a result are a ring before the first loop, and a ring of those that are left before the second.
  path_ends : (a : Arena) (rs : List (List ℕ)) (r i : ℕ) → Some pts ow a rs → (l : List ℕ) → get_or rs r [] ≡ l → Found i l → eqb i none ≡ false → PathEnds pts a i
  path_ends a rs r i S [] e f n = absurd (eqb-false i none n f)
  path_ends a rs r i S (x ∷ l) e f n =
      let h : In i (get_or rs r []) = subst (In i) (sym e) f in
      let K = straight_kept pts ow r (length pts * length pts) a rs i (next_of a i) S h (next_live (weight pts) (length pts) (next_of a) (prev_of a) ow rs S.rings r i h) in
      let s = straighten pts (length pts * length pts) a i (next_of a i) in
      record {
        straightened = straighten_ended pts a i (ring_at (length pts) a ow rs S.rings r i h);
        read = λ _. ring_comes (length pts) s.arena ow K.rs' K.some.rings r s.op2 K.in_op2 (length pts) (omega arith);
      }

  paths_end : (small : length pts ≤ none) (m k : ℕ) (a : Arena) (rs : List (List ℕ)) → Some pts ow a rs → Ahead pts small ow k m a rs → PathsEnd pts a (upwards k m)
  paths_end small zero k a rs S F = tt
  paths_end small (suc m) k a rs S F =
      let N = advance pts small ow k m a rs S F in
      (path_ends a rs k (result_of a k) S (get_or rs k []) refl (F k (omega arith) (omega arith)), paths_end small m (suc k) _ N.path.rs' N.some N.ahead)

-- all results of an arena whose rings and results are known
pub all_paths_end : (pts : List Point64) → length pts ≤ none → (A : ℤ) (a : Arena) → Whole pts A a → PathsEnd pts a (upwards 0 (length a.results))
all_paths_end pts small A a W = paths_end pts (owner_of a) small (length a.results) 0 a W.rs (whole_some pts A a W) (whole_ahead pts small A a W)

-- ---- `check_edges`, on the one ring that the walk leaves
pub check_ends : (pts : List Point64) (small : length pts ≤ none) (rect : Rect64) (A : ℤ) (a : Arena) (B : One pts A a) → In (result_of a 0) (get_or B.rs 0 []) → CheckEnds pts rect a (upwards 0 (length a.results))
check_ends pts small rect A a B i0 =
    subst (λ (m : ℕ). CheckEnds pts rect a (upwards 0 m)) (sym B.results) (
      (λ n. record {
        dropped = drop_ended pts a (result_of a 0) n (ring_at (length pts) a (owner_of a) B.rs B.core.rings 0 (result_of a 0) i0);
        assigned = λ e.
            let E = D pts small rect A a B i0 in
            let s = drop_collinear pts (2 * length pts + 1) a (result_of a 0) (result_of a 0) in
            ⊎_elim (λ z. absurd (eqb-false s.op2 none e z.0)) (λ q. ring_comes (length pts) s.arena (owner_of a) E.rs' E.some.rings 0 s.op q.0 (length pts - 1) (omega arith)) E.fate;
      }),
      tt,
    )
