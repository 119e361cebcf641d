-- The argument of 10/13, once for both clippers: behind two runs with the same ends the walk is in states that agree, and from there on it does the
-- same. `Visits` is all that it asks of a walk; RunClosed and RunOpen prove it of each.
use mathlib.Core.Path.{◌≡◌, sym, ◌∙◌, subst}
use mathlib.Core.List.{List, [], ◌∷◌, ◌++◌}
use lib.Dec.{T}
use Rattle.plane.specs.declared.point.Point64.{Point64}
use Rattle.plane.specs.declared.rect.Rect64.{Rect64}
use Rattle.plane.specs.declared.location.Location.{Location}
use Rattle.plane.specs.declared.location.Location.TheVariants.{Inside}
use Rattle.plane.specs.Basics.{Try, ok, ◌>>=◌}
use Rattle.plane.specs.Limit.{Limited}
use Rattle.plane.specs.Rectangle.{beyond}
use Rattle.theorems.specs.Detour.{AllBeyond, last_of}
use Rattle.theorems.proofs.Holds.{Holds, All}
use Rattle.theorems.proofs.Alike.{Alike, comes, alike_sym, alike_trans, alike_and, alike_bind, alike_after}
use Rattle.theorems.proofs.WalkOver.{walk_over, over_holds, over_alike}
use Rattle.theorems.proofs.LastPoint.{over_append}
use Rattle.theorems.proofs.GeoPlane.{Side, loc}
use Rattle.theorems.proofs.GeoSearch.{Inner}
use Rattle.theorems.proofs.GeoProgress.{In}
use Rattle.theorems.proofs.Run.{StrictlyInside, inside_of, inner_of, BeyondOnly, only_of, TwoRuns, route, inner_in}

-- Of a walk over points: where a state is, which states agree, and what holds once the walk has left the rectangle; u is the side of the run.
pub record Visits (r : Rect64) (u : Side) {S : Type 0} (visit : S → Point64 → Point64 → Try S) (place : S → Location) (Same : S → S → Type 0) (Out : S → Type 0) : Type 0 where
  pub reflexive : (s : S) → Same s s
  pub symmetric : (s t : S) → Same s t → Same t s
  pub transitive : (s t v : S) → Same s t → Same t v → Same s v
  pub same_place : (s t : S) → Same s t → place s ≡ place t
  -- states that agree go on alike
  pub alike : (s t : S) (q p : Point64) → Same s t → Alike Same (visit s q p) (visit t q p)
  -- a point is in the region of the place that the walk has come to
  pub stays : (s : S) (q p : Point64) → Limited q → Limited p → Holds (λ t. In r (place t) p) (visit s q p)
  -- from a point strictly inside to one beyond u alone the walk leaves over u
  pub leaves : (s : S) (p q : Point64) → Limited p → Limited q → Inner r p → BeyondOnly r u q → place s ≡ Inside → Holds (λ t. (place t ≡ loc u) × Out t) (visit s p q)
  -- from u a point beyond u is gone past
  pub goes_past : (s : S) (q p : Point64) → place s ≡ loc u → T (beyond r (loc u) p) → Alike Same (ok s) (visit s q p)
  pub stays_out : (s : S) (q p : Point64) → Out s → Holds Out (visit s q p)

module _ {r : Rect64} {u : Side} {S : Type 0} {visit : S → Point64 → Point64 → Try S} {place : S → Location} {Same : S → S → Type 0} {Out : S → Type 0} (visits : Visits r u visit place Same Out) where
  -- a run beyond u is gone past
  past : (run : List Point64) (s : S) (q : Point64) → place s ≡ loc u → AllBeyond r (loc u) run → Alike Same (ok s) (walk_over visit s q run)
  unfolding walk_over
  past [] s q e h = comes (visits.reflexive s)
  past (p ∷ run) s q e h = go (visits.goes_past s q p e h.0) (λ t f. past run t p f h.1)
    where
      go : {m : Try S} → Alike Same (ok s) m → ((t : S) → place t ≡ loc u → Alike Same (ok t) (walk_over visit t p run)) → Alike Same (ok s) (m >>= λ t. walk_over visit t p run)
      go (comes {b = t} g) rest = alike_trans Same visits.transitive (comes g) (rest t (sym (visits.same_place s t g) ∙ e))

  -- and of it the walk knows its last point alone
  behind : (run back : List Point64) (s : S) (q : Point64) → place s ≡ loc u → AllBeyond r (loc u) run → Alike Same (walk_over visit s (last_of q run) back) (walk_over visit s q (run ++ back))
  behind run back s q e h =
      subst (Alike Same (walk_over visit s (last_of q run) back)) (sym (over_append visit run back s q))
      (alike_bind Same Same {m = ok s} (λ t. walk_over visit t (last_of q run) back) (λ t. walk_over visit t (last_of q run) back) (past run s q e h) (λ a b g. over_alike visit Same visits.alike back a b (last_of q run) g))

  module _ (p q : Point64) (run run' back : List Point64) (d : TwoRuns r u p q run run') (lp : Limited p) (lq : Limited q) where
    abbrev Agree : S → S → Type 0
    Agree s t = Same s t × Out s

    inside : StrictlyInside r p
    inside = inside_of r (loc u) p q d.leaves

    both_runs : (s : S) → place s ≡ loc u → Alike Same (walk_over visit s q (run ++ back)) (walk_over visit s q (run' ++ back))
    both_runs s e =
        alike_trans Same visits.transitive (alike_sym Same visits.symmetric (behind run back s q e d.one))
        (subst (λ (z : Point64). Alike Same (walk_over visit s z back) (walk_over visit s q (run' ++ back))) (sym d.same) (behind run' back s q e d.other))

    -- from p on
    pub from_inside : (s : S) → place s ≡ Inside → Alike Agree (walk_over visit s p (q ∷ run ++ back)) (walk_over visit s p (q ∷ run' ++ back))
    unfolding walk_over
    from_inside s e =
        alike_after (λ t. (place t ≡ loc u) × Out t) Agree (visit s p q) _ _ (visits.leaves s p q lp lq (inner_of r p inside) (only_of r u p q d.leaves) e)
        (λ t g. alike_and Same Out (both_runs t g.0) (over_holds visit Out visits.stays_out (run ++ back) t q g.1))

    -- from the point z before the list's first
    pub from_before : (front : List Point64) (s : S) (z : Point64) → Limited z → All Limited front
        → Alike Agree (walk_over visit s z (route front p q run back)) (walk_over visit s z (route front p q run' back))
    unfolding walk_over
    from_before [] s z lz ls =
        alike_after (λ t. In r (place t) p) Agree (visit s z p) _ _ (visits.stays s z p lz lp) (λ t g. from_inside t (inner_in r (place t) p (inner_of r p inside) g))
    from_before (x ∷ front) s z lz ls =
        alike_after (λ t. In r (place t) x) Agree (visit s z x) _ _ (visits.stays s z x lz ls.0) (λ t _. from_before front t x ls.0 ls.1)
