-- 10/13 of the walk of lines: what RunWalk asks of it, and its start, which looks at the first point and, where that is on an edge, forwards for a
-- point off the edges. It comes to the run's first point at the latest.
use Rattle.std.specs.Prelude.{if◌then◌else◌, Option, None, Some}
use mathlib.Core.Path.{◌≡◌, refl, sym, ◌∙◌, ap, subst}
use mathlib.Core.Bool.{Bool, true, false}
use mathlib.Core.List.{List, [], ◌∷◌, ◌++◌}
use Prim.Native.Nat.{ℕ, ◌+◌, ◌≤◌}
use native.Mathlib.Omega.{arith}
use lib.ListN.{length, length-append, drop}
use lib.Dec.{T, ltb}
use Rattle.plane.specs.declared.crossing.SidePoint.{SidePoint}
use Rattle.plane.specs.declared.point.Point64.{Point64}
use Rattle.plane.specs.declared.rect.Rect64.{Rect64}
use Rattle.plane.specs.declared.location.Location.{Location}
use Rattle.plane.specs.declared.location.Location.TheVariants.{Inside}
use Rattle.plane.specs.Basics.{Try, ok, ◌>>=◌}
use Rattle.plane.specs.Limit.{Limited, LimitedRect}
use Rattle.plane.specs.Locations.{same_location, is_inside}
use Rattle.plane.specs.Points.{pt_at}
use Rattle.plane.specs.Rectangle.{get_location, beyond}
use Rattle.plane.specs.Intersection.{found_at, get_intersection}
use Rattle.reference.specs.Walk.{Walk, nothing_yet, add, add_all, Next}
use Rattle.reference.specs.Lines.{first_off_edge, line_cross, line_walk_from, walk_open}
use Rattle.theorems.proofs.Holds.{Holds, held, bind, anything, holds_map, All, all_split}
use Rattle.theorems.proofs.Alike.{Alike, comes, both, alike_bind, alike_after}
use Rattle.theorems.proofs.GeoPlane.{Side, loc, Proper}
use Rattle.theorems.proofs.GeoSearch.{Inner}
use Rattle.theorems.proofs.GeoWalk.{step}
use Rattle.theorems.proofs.GeoProgress.{In, Steps, goes, halts, steps}
use Rattle.theorems.proofs.Passes.{sides_out, stop_in}
use Rattle.theorems.proofs.FoldPoints.{next_is, after, cond_no, lt_no, differ}
use Rattle.theorems.proofs.Fold.{Any, bind_same}
use Rattle.theorems.proofs.FoldLines.{line_past, line_at, line_on, StaysAt, cross_stays, turned_past, at_stopped, at_gone, line_folds}
use Rattle.theorems.proofs.SameWalks.{SameWalk, SameNext, walk_refl, next_refl, next_sym, next_trans, line_same}
use Rattle.theorems.proofs.Run.{StrictlyInside, inside_of, inner_of, proper_of, not_empty, BeyondOnly, TwoRuns, route, inner_in, stops_at, goes_past, off_edges}
use Rattle.theorems.proofs.RunWalk.{Visits, from_inside, from_before}
use Rattle.theorems.proofs.RunStart.{SameFind, finds, begun, begun_alike}

-- ---- what the argument asks of the walk
-- nothing more of a walk that has left
abbrev AnyNext : Next → Type 0
AnyNext t = Unit {0}

module _ (full : ℕ → Bool) (r : Rect64) (lr : LimitedRect r) (k : Proper r) where
  past_keeps : (p : Point64) (s : Next) → Holds (λ (t : Next). t.loc ≡ s.loc) (line_past full r p s)
  unfolding line_past
  past_keeps p s = bind Any (λ (t : Next). t.loc ≡ s.loc) (if is_inside s.loc then add full s.walk p false else ok s.walk) _ (anything _) (λ w _. held refl)

  -- a point is in the region of the location that the walk has come to
  at_stays : (s : Next) (q p : Point64) → Holds (λ (t : Next). In r t.loc p) (line_at full r s q p)
  at_stays s q p = go (steps r s.loc p)
    where
      Q : Next → Type 0
      Q t = In r t.loc p

      past : (s : Next) → In r s.loc p → Holds Q (line_past full r p s)
      past s i = holds_map (λ t e. subst (λ (l : Location). In r l p) (sym e) i) (past_keeps p s)

      go : Steps r p s.loc → Holds Q (line_at full r s q p)
      go (goes f i) = subst (Holds Q) (sym (at_gone full r [] s q p f)) (past s i)
      go (halts l f t) =
          subst (Holds Q) (sym (at_stopped full r [] s q p l (next_is full r s.loc p ∙ ap (after s.loc) f) (differ full r p s.loc l t (same_location l s.loc) refl))) (on (get_intersection r p q l))
        where
          nx : Next
          nx = record { walk = s.walk; loc = l; i = s.i }

          on : (z : Option SidePoint) → Holds Q (turned_past full r [] nx s.loc q p z)
          on None = held (stop_in r p t)
          on (Some found) =
              bind (StaysAt full r [] nx) Q (line_cross full r nx s.loc q p found.point) _ (cross_stays full r [] nx s.loc q p found.point)
              (λ u g. past u (subst (λ (x : Location). In r x p) (sym g.1) (stop_in r p t)))

  module _ (u : Side) where
    abbrev Gone : Next → Type 0
    Gone t = (t.loc ≡ loc u) × AnyNext t

    leaves_over : (s : Next) (p q : Point64) → Limited p → Limited q → Inner r p → BeyondOnly r u q → s.loc ≡ Inside → Holds Gone (line_at full r s p q)
    leaves_over s p q lp lq n o e =
        subst (Holds Gone)
        (sym (at_stopped full r [] s p q (loc u) (next_is full r s.loc q ∙ ap (λ (l : Location). after l (step r l q)) e ∙ ap (after Inside) (stops_at r u q o)) (ap (same_location (loc u)) e ∙ sides_out u)))
        (on (get_intersection r q p (loc u)))
      where
        nx : Next
        nx = record { walk = s.walk; loc = loc u; i = s.i }

        on : (z : Option SidePoint) → Holds Gone (turned_past full r [] nx s.loc p q z)
        on None = held (refl, tt)
        on (Some found) = bind (StaysAt full r [] nx) Gone (line_cross full r nx s.loc p q found.point) _ (cross_stays full r [] nx s.loc p q found.point) (λ t g. holds_map (λ v h. (h ∙ g.1, tt)) (past_keeps q t))

    goes_over : (s : Next) (q p : Point64) → s.loc ≡ loc u → T (beyond r (loc u) p) → Alike SameNext (ok s) (line_at full r s q p)
    unfolding line_past
    goes_over s q p e h = subst (Alike SameNext (ok s)) (sym (at_gone full r [] s q p (ap (λ (l : Location). step r l p) e ∙ goes_past r u p h) ∙ gone)) (comes (record { walk = walk_refl s.walk; loc = refl }))
      where
        gone : line_past full r p s ≡ ok (record { walk = s.walk; loc = s.loc; i = s.i + 1 })
        gone = ap (λ (b : Bool). (if b then add full s.walk p false else ok s.walk) >>= λ w. ok (record { walk = w; loc = s.loc; i = s.i + 1 })) (ap is_inside e ∙ sides_out u)

    open_visits : Visits r u (line_at full r) (λ s. s.loc) SameNext AnyNext
    open_visits = record {
      reflexive = next_refl;
      symmetric = next_sym;
      transitive = next_trans;
      same_place = λ s t e. e.loc;
      alike = line_same full r;
      stays = λ s q p _ _. at_stays s q p;
      leaves = leaves_over;
      goes_past = goes_over;
      stays_out = λ s q p _. anything (line_at full r s q p);
    }

-- ---- the search for a point off the edges, forwards
module _ (r : Rect64) where
  first_both : (xs ys zs : List Point64) → SameFind (first_off_edge r ys) (first_off_edge r zs) → SameFind (first_off_edge r (xs ++ ys)) (first_off_edge r (xs ++ zs))
  unfolding first_off_edge
  first_both [] ys zs f = f
  first_both (x ∷ xs) ys zs f = go (get_location r x).off (first_both xs ys zs f)
    where
      go : (b : Bool) → SameFind (first_off_edge r (xs ++ ys)) (first_off_edge r (xs ++ zs))
          → SameFind (if b then found_at x (get_location r x).loc else first_off_edge r (xs ++ ys)) (if b then found_at x (get_location r x).loc else first_off_edge r (xs ++ zs))
      go true g = finds x (get_location r x).loc
      go false g = g

  first_here : (q : Point64) (ys zs : List Point64) → (get_location r q).off ≡ true → SameFind (first_off_edge r (q ∷ ys)) (first_off_edge r (q ∷ zs))
  unfolding first_off_edge
  first_here q ys zs e = subst (λ (b : Bool). SameFind (if b then found_at q (get_location r q).loc else first_off_edge r ys) (if b then found_at q (get_location r q).loc else first_off_edge r zs)) (sym e) (finds q (get_location r q).loc)

-- ---- the whole walk
abbrev walked : Next → Try Walk
walked s = ok s.walk

module _ (full : ℕ → Bool) (r : Rect64) where
  -- the first point is added where it is inside
  abbrev first_added : Point64 → Location → Try Walk
  first_added f l = if is_inside l then add full nothing_yet f false else ok nothing_yet

  from_is : (f : Point64) (ps : List Point64) (l : Location) → line_walk_from full r (f ∷ ps) l ≡ (first_added f l >>= λ w. line_on full r (record { walk = w; loc = l; i = 1 }) f ps >>= walked)
  unfolding line_walk_from
  from_is f ps l = bind_same Any (first_added f l) _ _ (anything _) (λ w _. ap (λ (m : Try Next). m >>= walked) (line_folds full r (f ∷ ps) w l (omega arith)))

  open_is : (path : List Point64) → 2 ≤ length path → walk_open full r path ≡ begun r (pt_at path 0) (first_off_edge r (drop 1 path)) (line_walk_from full r path) (add_all full nothing_yet path)
  unfolding walk_open
  open_is path l = cond_no (ltb (length path) 2) _ _ (lt_no (length path) 2 l)

module _ (full : ℕ → Bool) (r : Rect64) (lr : LimitedRect r) (u : Side) (p q : Point64) (run run' back : List Point64) (d : TwoRuns r u p q run run') where
  inside : StrictlyInside r p
  inside = inside_of r (loc u) p q d.leaves

  k : Proper r
  k = proper_of r p inside

  q_off : (get_location r q).off ≡ true
  q_off = off_edges r (not_empty r p inside) u q d.leaves.out

  same_search : (front : List Point64) → SameFind (first_off_edge r (drop 1 (route front p q run back))) (first_off_edge r (drop 1 (route front p q run' back)))
  same_search [] = first_here r q (run ++ back) (run' ++ back) q_off
  same_search (f ∷ fs) = first_both r fs (p ∷ q ∷ run ++ back) (p ∷ q ∷ run' ++ back) (first_both r (p ∷ []) (q ∷ run ++ back) (q ∷ run' ++ back) (first_here r q (run ++ back) (run' ++ back) q_off))

  -- the first point of both paths
  head_is : (front ps : List Point64) → pt_at (front ++ p ∷ ps) 0 ≡ pt_at (front ++ p ∷ []) 0
  head_is [] ps = refl
  head_is (f ∷ fs) ps = refl

  module _ (lp : Limited p) (lq : Limited q) where
    abbrev SameAgreed : Next → Next → Type 0
    SameAgreed s t = SameNext s t × AnyNext t

    from_alike : (front : List Point64) → All Limited front → (l : Location) → In r l (pt_at (front ++ p ∷ []) 0) → Alike SameWalk (line_walk_from full r (route front p q run back) l) (line_walk_from full r (route front p q run' back) l)
    from_alike [] ls l i =
        both (from_is full r p (q ∷ run ++ back) l) (from_is full r p (q ∷ run' ++ back) l)
        (alike_after Any SameWalk (first_added full r p l) _ _ (anything _)
        (λ w _. alike_bind SameAgreed SameWalk walked walked
        (from_inside (open_visits full r lr k u) p q run run' back d lp lq (record { walk = w; loc = l; i = 1 }) (inner_in r l p (inner_of r p inside) i)) (λ s t g. comes g.0.walk)))
    from_alike (f ∷ fs) ls l i =
        both (from_is full r f (route fs p q run back) l) (from_is full r f (route fs p q run' back) l)
        (alike_after Any SameWalk (first_added full r f l) _ _ (anything _)
        (λ w _. alike_bind SameAgreed SameWalk walked walked
        (from_before (open_visits full r lr k u) p q run run' back d lp lq fs (record { walk = w; loc = l; i = 1 }) f ls.0 ls.1) (λ s t g. comes g.0.walk)))

  pub open_alike : (front : List Point64) → All Limited (route front p q run back) → Alike SameWalk (walk_open full r (route front p q run back)) (walk_open full r (route front p q run' back))
  open_alike front lim =
      both (start run) (start run')
      (begun_alike r (pt_at (front ++ p ∷ []) 0) SameWalk k _ _ _ _ _ _ (λ _. same_search front) (from_alike limits.1.0 limits.1.1.0 front limits.0))
    where
      limits : All Limited front × All Limited (p ∷ q ∷ run ++ back)
      limits = all_split Limited front (p ∷ q ∷ run ++ back) lim

      start : (run : List Point64) → let path = route front p q run back in walk_open full r path ≡ begun r (pt_at (front ++ p ∷ []) 0) (first_off_edge r (drop 1 path)) (line_walk_from full r path) (add_all full nothing_yet path)
      start run =
          let path = route front p q run back in
          open_is full r path (omega (arith, length-append front (p ∷ q ∷ run ++ back)))
          ∙ ap (λ (z : Point64). begun r z (first_off_edge r (drop 1 path)) (line_walk_from full r path) (add_all full nothing_yet path)) (head_is front (q ∷ run ++ back))
