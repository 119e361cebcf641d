-- What a detour looked like stays private: of any two runs with the same ends (`runs_private`), and of a run whose points between its first and last are
-- replaced (`detour_private`), which is a case of it.
use mathlib.Core.Path.{◌≡◌, sym, ◌∙◌, ap, subst}
use mathlib.Core.Bool.{Bool, true, false}
use mathlib.Core.List.{List, [], ◌∷◌, ◌++◌, append_assoc}
use Prim.Native.Nat.{ℕ, ◌≤◌}
use native.Mathlib.Omega.{arith}
use lib.ListN.{length, length-append}
use lib.Seq.{append_snoc}
use lib.Dec.{T}
use Rattle.plane.proofs.Limits.{rect_limited}
use Rattle.plane.specs.declared.point.Point64.{Point64}
use Rattle.plane.specs.declared.rect.Rect64.{Rect64}
use Rattle.plane.specs.declared.location.Location.{Location}
use Rattle.plane.specs.Basics.{Try, ok, ◌>>=◌}
use Rattle.plane.specs.Limit.{Limited, rect_in_limit}
use Rattle.plane.specs.Rectangle.{beyond}
use Rattle.reference.specs.Clip.{clip_walked, execute}
use Rattle.reference.specs.Lines.{pieces, longer_than_one, execute_lines}
use Rattle.reference.specs.Entry.{drawing_of}
use Rattle.theorems.specs.Detour.{AllBeyond, Leaves, WithinLimits, SameAnswers, DetourPrivate, last_of, Enough, RunsPrivate}
use Rattle.theorems.proofs.Holds.{All}
use Rattle.theorems.proofs.Alike.{alike_equal}
use Rattle.theorems.proofs.GeoPlane.{Side}
use Rattle.theorems.proofs.LastPoint.{last_append}
use Rattle.theorems.proofs.SameWalks.{SameWalk, SameWalked, one_walk}
use Rattle.theorems.proofs.Run.{IsSide, side_of, TwoRuns, route}
use Rattle.theorems.proofs.RunBounds.{closed_walked, open_walked}
use Rattle.theorems.proofs.RunClosed.{closed_alike}
use Rattle.theorems.proofs.RunOpen.{open_alike}
use Rattle.theorems.proofs.SameEntries.{limits_of, same_answers}

-- ---- both clippers, of paths in the form of the walk
module _ (r : Rect64) (u : Side) (front : List Point64) (p q : Point64) (run run' back : List Point64) (d : TwoRuns r u p q run run') (hr : T (rect_in_limit r))
    (lim : All Limited (route front p q run back)) (lim' : All Limited (route front p q run' back)) where
  of_closed : (full : ℕ → Bool) (A : ℕ) → 3 ≤ length (route front p q run back) → 3 ≤ length (route front p q run' back) → execute full A r (route front p q run back) ≡ execute full A r (route front p q run' back)
  of_closed full A n n' =
      closed_walked r u front p q (run ++ back) d.leaves full A n
      ∙ alike_equal SameWalked (clip_walked A r) (clip_walked A r) (closed_alike full r (rect_limited r hr) u front p q run run' d back lim lim')
      (λ w v e. λ i. clip_walked A r (record { walk = one_walk e.walk i; entered = e.entered i }))
      ∙ sym (closed_walked r u front p q (run' ++ back) d.leaves full A n')

  of_lines : (full : ℕ → Bool) → execute_lines full r (route front p q run back) ≡ execute_lines full r (route front p q run' back)
  of_lines full =
      open_walked r u front p q (run ++ back) d.leaves full
      ∙ alike_equal SameWalk _ _ (open_alike full r (rect_limited r hr) u p q run run' back d front lim) (λ w v e. λ i. ok (longer_than_one (pieces (e.points i) (e.starts i))))
      ∙ sym (open_walked r u front p q (run' ++ back) d.leaves full)

  of_kind : (closed : Bool) → Enough closed (route front p q run back) → Enough closed (route front p q run' back) → (full : ℕ → Bool) (A : ℕ) → drawing_of closed full A r (route front p q run back) ≡ drawing_of closed full A r (route front p q run' back)
  of_kind true n n' full A = of_closed full A n n'
  of_kind false n n' full A = ap (λ (m : Try (List (List Point64))). m >>= λ paths. ok (paths, 0)) (of_lines full)

-- ---- paths that are such routes, over the side that s is
module _ (closed : Bool) (r : Rect64) (s : Location) (front : List Point64) (p q : Point64) (run run' back : List Point64) where
  two_runs : (i : IsSide s) → Leaves r s p q → AllBeyond r s run → AllBeyond r s run' → last_of q run ≡ last_of q run' → TwoRuns r i.side p q run run'
  two_runs i h one other same = record {
    leaves = subst (λ (s : Location). Leaves r s p q) (sym i.is) h;
    one = subst (λ (s : Location). AllBeyond r s run) (sym i.is) one;
    other = subst (λ (s : Location). AllBeyond r s run') (sym i.is) other;
    same = same;
  }

  of_routes : Leaves r s p q → AllBeyond r s run → AllBeyond r s run' → last_of q run ≡ last_of q run' → (path path' : List Point64) → path ≡ route front p q run back → path' ≡ route front p q run' back
      → WithinLimits path → WithinLimits path' → Enough closed path → Enough closed path' → SameAnswers closed r path path'
  of_routes h one other same path path' e e' w w' n n' = same_answers closed r path path' w w' drawn
    where
      drawn : T (rect_in_limit r) → (full : ℕ → Bool) (A : ℕ) → drawing_of closed full A r path ≡ drawing_of closed full A r path'
      drawn hr full A =
          ap (drawing_of closed full A r) e
          ∙ of_kind r (side_of r s q h.out).side front p q run run' back (two_runs (side_of r s q h.out) h one other same) hr (subst (All Limited) e (limits_of path w.limited)) (subst (All Limited) e' (limits_of path' w'.limited))
          closed (subst (Enough closed) e n) (subst (Enough closed) e' n') full A
          ∙ sym (ap (drawing_of closed full A r) e')

pub runs_private : RunsPrivate
runs_private closed r s front p q run run' back h one other same =
    of_routes closed r s front p q run run' back h one other same _ _ (append_assoc front (p ∷ q ∷ run) back) (append_assoc front (p ∷ q ∷ run') back)

-- ---- the points between the run's ends replaced: each run ends with q'
module _ (closed : Bool) (front : List Point64) (p q : Point64) (q' : Point64) (back : List Point64) where
  with_end : (between : List Point64) → front ++ p ∷ q ∷ between ++ q' ∷ back ≡ route front p q (between ++ q' ∷ []) back
  with_end between = append_assoc front (p ∷ q ∷ between) (q' ∷ back) ∙ ap (λ (ps : List Point64). front ++ (p ∷ q ∷ ps)) (sym (append_snoc between q' back))

  -- with p, q and q' there are three
  enough : (between : List Point64) → Enough closed (front ++ p ∷ q ∷ between ++ q' ∷ back)
  enough between = go closed
    where
      go : (closed : Bool) → Enough closed (front ++ p ∷ q ∷ between ++ q' ∷ back)
      go true = omega (arith, length-append (front ++ p ∷ q ∷ between) (q' ∷ back), length-append front (p ∷ q ∷ between))
      go false = tt

all_and : (r : Rect64) (s : Location) (q' : Point64) (between : List Point64) → AllBeyond r s between → T (beyond r s q') → AllBeyond r s (between ++ q' ∷ [])
all_and r s q' [] h e = (e, tt)
all_and r s q' (x ∷ between) h e = (h.0, all_and r s q' between h.1 e)

pub detour_private : DetourPrivate
detour_private closed r s front p q between between' q' back h one other end w w' =
    of_routes closed r s front p q (between ++ q' ∷ []) (between' ++ q' ∷ []) back h (all_and r s q' between one end) (all_and r s q' between' other end)
    (last_append q between (q' ∷ []) ∙ sym (last_append q between' (q' ∷ []))) _ _ (with_end closed front p q q' back between) (with_end closed front p q q' back between')
    w w' (enough closed front p q q' back between) (enough closed front p q q' back between')
