-- 10/13 of the closed walk: what RunWalk asks of it, and its start, which looks at the last point and, where that is on an edge, backwards for a
-- point off the edges. It comes to the run's last point at the latest.
use Rattle.std.specs.Prelude.{if◌then◌else◌, Option, None, Some}
use mathlib.Core.Path.{◌≡◌, refl, sym, ◌∙◌, ap, subst}
use mathlib.Core.Bool.{Bool, true, false, not}
use mathlib.Core.List.{List, [], ◌∷◌, ◌++◌, append_assoc}
use Prim.Native.Nat.{ℕ, zero, suc, ◌+◌, ◌-◌, ◌<◌}
use native.Mathlib.Omega.{arith}
use lib.ListN.{length, length-append, get_or-append}
use lib.Seq.{get_or-append-add}
use lib.Dec.{T}
use Rattle.plane.specs.declared.crossing.SidePoint.{SidePoint}
use Rattle.plane.specs.declared.point.Point64.{Point64}
use Rattle.plane.specs.declared.rect.Rect64.{Rect64}
use Rattle.plane.specs.declared.location.Location.{Location}
use Rattle.plane.specs.declared.location.Location.TheVariants.{Inside}
use Rattle.plane.specs.Basics.{is_nil, Try, ok, ◌>>=◌}
use Rattle.plane.specs.Limit.{Limited, LimitedRect}
use Rattle.plane.specs.Locations.{same_location, is_inside}
use Rattle.plane.specs.Points.{origin, pt_at}
use Rattle.plane.specs.Rectangle.{get_location, beyond}
use Rattle.plane.specs.Intersection.{found_at, get_intersection}
use Rattle.reference.specs.Walk.{nothing_yet, add, add_all, State, Pass, Walked, leave, cross_boundary, last_off, after_while, walk_from, walk_closed}
use Rattle.theorems.specs.Detour.{last_of}
use Rattle.theorems.proofs.Holds.{Holds, held, bind, either, by_search, anything, holds_map, holds_both, All, all_split}
use Rattle.theorems.proofs.Alike.{Alike, comes, both, alike_bind}
use Rattle.theorems.proofs.GeoPlane.{Side, loc, Proper}
use Rattle.theorems.proofs.GeoSearch.{Inner}
use Rattle.theorems.proofs.GeoWalk.{step}
use Rattle.theorems.proofs.GeoProgress.{In, Steps, goes, halts, steps}
use Rattle.theorems.proofs.Passes.{sides_out, stop_in, remain_goes_on, Stays, cross_stays}
use Rattle.theorems.proofs.FoldPoints.{next_location, go_past, at_point, walk_on, next_is, after, differ, cond_no}
use Rattle.theorems.proofs.Fold.{Any, pass_at, turned_past, at_stopped, at_gone, walk_folds}
use Rattle.theorems.proofs.FirstCrossing.{NotIn, cross_out, remain_out, found_side}
use Rattle.theorems.proofs.LastPoint.{last_append, last_at, last_all, last_beyond}
use Rattle.theorems.proofs.SameWalks.{SameState, SameWalked, walk_refl, state_refl, state_sym, state_trans, point_same, after_same}
use Rattle.theorems.proofs.Run.{StrictlyInside, inside_of, proper_of, not_empty, BeyondOnly, TwoRuns, route, stops_at, way_out, finds_own, goes_past, off_edges}
use Rattle.theorems.proofs.RunWalk.{Visits, from_before}
use Rattle.theorems.proofs.RunStart.{SameFind, finds, begun, begun_alike}
use Rattle.theorems.proofs.Tests.{never}

-- ---- a walk that has a first crossing keeps one
module _ (full : ℕ → Bool) (r : Rect64) where
  past_out : (p : Point64) (s : State) → NotIn s → Holds NotIn (go_past full r p s)
  unfolding go_past
  past_out p s h = bind Any NotIn (if is_inside s.loc then add full s.walk p false else ok s.walk) _ (anything _) (λ w _. held h)

  at_out : (s : State) (q p : Point64) → NotIn s → Holds NotIn (at_point full r s q p)
  unfolding at_point
  at_out s q p h =
      either NotIn (same_location (next_location full r s.loc p) s.loc) _ _ (λ _. past_out p s h)
      (λ _. by_search NotIn (get_intersection r p q (next_location full r s.loc p)) _ _ (λ _. remain_out full r _ h)
      (λ ip l e. bind NotIn NotIn (cross_boundary full r _ ip l) _ (cross_out full r _ ip l (found_side r p q ip l (next_location full r s.loc p) e)) (λ t k. past_out p t k)))

-- ---- what the argument asks of the walk
module _ (full : ℕ → Bool) (r : Rect64) (lr : LimitedRect r) (k : Proper r) where
  -- out of the rectangle, by the side that the search found
  cross_left : (c : Pass) (ip : Point64) (l : Location) → is_inside c.loc ≡ false → is_inside c.prev ≡ true → Holds (λ (t : State). t.loc ≡ l) (cross_boundary full r c ip l)
  unfolding cross_boundary leave
  cross_left c ip l o i =
      either (λ (t : State). t.loc ≡ l) (is_inside c.loc) _ _ (λ e. never e o)
      (λ _. either (λ (t : State). t.loc ≡ l) (not (is_inside c.prev)) _ _ (λ e. never e (ap not i)) (λ _. bind Any (λ (t : State). t.loc ≡ l) (add full c.walk ip false) _ (anything _) (λ w _. held refl)))

  past_keeps : (p : Point64) (s : State) → Holds (λ (t : State). (t.loc ≡ s.loc) × (t.first_cross ≡ s.first_cross)) (go_past full r p s)
  unfolding go_past
  past_keeps p s = bind Any (λ (t : State). (t.loc ≡ s.loc) × (t.first_cross ≡ s.first_cross)) (if is_inside s.loc then add full s.walk p false else ok s.walk) _ (anything _) (λ w _. held (refl, refl))

  -- a point is in the region of the location that the walk has come to
  at_stays : (s : State) (q p : Point64) → Limited q → Limited p → Holds (λ (t : State). In r t.loc p) (at_point full r s q p)
  at_stays s q p lq lp = go (steps r s.loc p)
    where
      Q : State → Type 0
      Q t = In r t.loc p

      past : (s : State) → In r s.loc p → Holds Q (go_past full r p s)
      past s i = holds_map (λ t e. subst (λ (l : Location). In r l p) (sym e.0) i) (past_keeps p s)

      go : Steps r p s.loc → Holds Q (at_point full r s q p)
      go (goes f i) = subst (Holds Q) (sym (at_gone full r [] s q p f)) (past s i)
      go (halts l f t) =
          subst (Holds Q) (sym (at_stopped full r [] s q p l (next_is full r s.loc p ∙ ap (after s.loc) f) (differ full r p s.loc l t (same_location l s.loc) refl))) (on (get_intersection r p q l) refl)
        where
          c : Pass
          c = pass_at full r [] s l q p

          on : (z : Option SidePoint) → get_intersection r p q l ≡ z → Holds Q (turned_past full r [] c z)
          on None e = holds_map (λ u g. subst (λ (l : Location). In r l p) (sym g.1) (stop_in r p t)) (remain_goes_on full r c)
          on (Some found) e = bind (Stays full r lr k c) Q (cross_boundary full r c found.point found.side) _ (cross_stays full r lr k c found.point found.side lp lq t e) (λ u g. past u g.1)

  module _ (u : Side) where
    abbrev Gone : State → Type 0
    Gone t = (t.loc ≡ loc u) × NotIn t

    leaves_over : (s : State) (p q : Point64) → Limited p → Limited q → Inner r p → BeyondOnly r u q → s.loc ≡ Inside → Holds Gone (at_point full r s p q)
    leaves_over s p q lp lq n o e =
        subst (Holds Gone)
        (sym (at_stopped full r [] s p q (loc u) (next_is full r s.loc q ∙ ap (λ (l : Location). after l (step r l q)) e ∙ ap (after Inside) (stops_at r u q o)) (ap (same_location (loc u)) e ∙ sides_out u)
        ∙ ap (turned_past full r [] c) (finds_own r lr k u p q lp lq n o)))
        (bind Gone Gone (cross_boundary full r c ip (loc u)) _ (holds_both (cross_left c ip (loc u) (sides_out u) (ap is_inside e)) (cross_out full r c ip (loc u) (sides_out u)))
        (λ t g. holds_map (λ v h. (h.0 ∙ g.0, ap is_inside h.1 ∙ g.1)) (past_keeps q t)))
      where
        ip : Point64
        ip = way_out r lr k u p q lp lq

        c : Pass
        c = pass_at full r [] s (loc u) p q

    goes_over : (s : State) (q p : Point64) → s.loc ≡ loc u → T (beyond r (loc u) p) → Alike SameState (ok s) (at_point full r s q p)
    unfolding go_past
    goes_over s q p e h = subst (Alike SameState (ok s)) (sym (at_gone full r [] s q p (ap (λ (l : Location). step r l p) e ∙ goes_past r u p h) ∙ gone)) (comes (record { walk = walk_refl s.walk; loc = refl; crossing_loc = refl; first_cross = refl }))
      where
        gone : go_past full r p s ≡ ok (record { walk = s.walk; i = s.i + 1; loc = s.loc; crossing_loc = s.crossing_loc; first_cross = s.first_cross })
        gone = ap (λ (b : Bool). (if b then add full s.walk p false else ok s.walk) >>= λ w. ok (record { walk = w; i = s.i + 1; loc = s.loc; crossing_loc = s.crossing_loc; first_cross = s.first_cross })) (ap is_inside e ∙ sides_out u)

    closed_visits : Visits r u (at_point full r) (λ s. s.loc) SameState NotIn
    closed_visits = record {
      reflexive = state_refl;
      symmetric = state_sym;
      transitive = state_trans;
      same_place = λ s t e. e.loc;
      alike = point_same full r;
      stays = at_stays;
      leaves = leaves_over;
      goes_past = goes_over;
      stays_out = at_out full r;
    }

-- ---- the search for a point off the edges, backwards
module _ (r : Rect64) where
  abbrev looked : Point64 → Option SidePoint → Option SidePoint
  looked z before = let s = get_location r z in if s.off then found_at z s.loc else before

  -- from the points of a list before the first n, backwards, and then z
  abbrev back_to : ℕ → List Point64 → Option SidePoint → Option SidePoint
  back_to zero back z = z
  back_to (suc n) back z = looked (pt_at back n) (back_to n back z)

  off_back : (pre back : List Point64) (n : ℕ) → last_off r (pre ++ back) (n + length pre) ≡ back_to n back (last_off r (pre ++ back) (length pre))
  unfolding last_off
  off_back pre back zero = ap (last_off r (pre ++ back)) (let z : 0 + length pre ≡ length pre = omega arith in z)
  off_back pre back (suc n) =
      ap (last_off r (pre ++ back)) (let z : suc n + length pre ≡ suc (n + length pre) = omega arith in z)
      ∙ (λ i. looked ((ap (pt_at (pre ++ back)) (let z : n + length pre ≡ length pre + n = omega arith in z) ∙ get_or-append-add pre back n origin) i) (off_back pre back n i))

  off_last : (pre back : List Point64) (z : Point64) → 0 < length pre → last_of origin pre ≡ z → (get_location r z).off ≡ true → last_off r (pre ++ back) (length pre) ≡ found_at z (get_location r z).loc
  unfolding last_off
  off_last pre back z l e h =
      ap (last_off r (pre ++ back)) (let y : length pre ≡ suc (length pre - 1) = omega arith in y)
      ∙ ap (λ (x : Point64). looked x (last_off r (pre ++ back) (length pre - 1))) (get_or-append pre back origin (length pre - 1) (omega arith) ∙ last_at pre ∙ e)
      ∙ ap (λ (b : Bool). if b then found_at z (get_location r z).loc else last_off r (pre ++ back) (length pre - 1)) h

  -- behind the points of pre, the last of which is off the edges
  off_found : (pre : List Point64) (b : Point64) (bs : List Point64) (z : Point64) → 0 < length pre → last_of origin pre ≡ z → (get_location r z).off ≡ true
      → last_off r (pre ++ b ∷ bs) (length (pre ++ b ∷ bs) - 1) ≡ back_to (length bs) (b ∷ bs) (found_at z (get_location r z).loc)
  off_found pre b bs z l e h =
      ap (last_off r (pre ++ b ∷ bs)) (let y : length (pre ++ b ∷ bs) - 1 ≡ length bs + length pre = omega (arith, length-append pre (b ∷ bs)) in y)
      ∙ off_back pre (b ∷ bs) (length bs)
      ∙ ap (back_to (length bs) (b ∷ bs)) (off_last pre (b ∷ bs) z l e h)

  back_finds : (n : ℕ) (back : List Point64) (p : Point64) (l : Location) → SameFind (back_to n back (found_at p l)) (back_to n back (found_at p l))
  back_finds zero back p l = finds p l
  back_finds (suc n) back p l = go (get_location r (pt_at back n)).off (back_finds n back p l)
    where
      go : (b : Bool) {w : Option SidePoint} → SameFind w w → SameFind (if b then found_at (pt_at back n) (get_location r (pt_at back n)).loc else w) (if b then found_at (pt_at back n) (get_location r (pt_at back n)).loc else w)
      go true g = finds (pt_at back n) (get_location r (pt_at back n)).loc
      go false g = g

-- ---- the whole walk
module _ (full : ℕ → Bool) (r : Rect64) where
  abbrev begin : Location → State
  begin l = record { walk = nothing_yet; i = 0; loc = l; crossing_loc = Inside; first_cross = Inside }

  from_is : LimitedRect r → Proper r → (path : List Point64) (l : Location) → All Limited path → walk_from full r path l ≡ (walk_on full r (begin l) (last_of origin path) path >>= after_while full r path l)
  unfolding walk_from
  from_is lr k path l lim = ap (λ (m : Try State). m >>= after_while full r path l) (walk_folds full r path lr k lim nothing_yet l ∙ ap (λ (z : Point64). walk_on full r (begin l) z path) (last_at path))

  abbrev on_edges : List Point64 → Try Walked
  on_edges path = add_all full nothing_yet path >>= λ w. ok (record { walk = w; entered = [] })

  closed_is : (path : List Point64) → is_nil path ≡ false → walk_closed full r path ≡ begun r (last_of origin path) (last_off r path (length path - 1)) (walk_from full r path) (on_edges path)
  unfolding walk_closed
  closed_is path e = cond_no (is_nil path) _ _ e ∙ ap (λ (z : Point64). begun r z (last_off r path (length path - 1)) (walk_from full r path) (on_edges path)) (last_at path)

not_nil : (front : List Point64) (x : Point64) (xs : List Point64) → is_nil (front ++ x ∷ xs) ≡ false
not_nil [] x xs = refl
not_nil (y ∷ front) x xs = refl

module _ (full : ℕ → Bool) (r : Rect64) (lr : LimitedRect r) (u : Side) (front : List Point64) (p q : Point64) (run run' : List Point64) (d : TwoRuns r u p q run run') where
  inside : StrictlyInside r p
  inside = inside_of r (loc u) p q d.leaves

  k : Proper r
  k = proper_of r p inside

  -- the runs' last point
  abbrev end : Point64
  end = last_of q run

  end_off : (get_location r end).off ≡ true
  end_off = off_edges r (not_empty r p inside) u end (last_beyond r (loc u) q run d.leaves.out d.one)

  route_ends : (run back : List Point64) → last_of q run ≡ end → last_of origin (route front p q run back) ≡ last_of end back
  route_ends run back e = last_append origin front (p ∷ q ∷ run ++ back) ∙ last_append q run back ∙ ap (λ (z : Point64). last_of z back) e

  -- the search for a point off the edges, where there is a point behind the run
  found_back : (b : Point64) (bs run : List Point64) → last_of q run ≡ end
      → last_off r (route front p q run (b ∷ bs)) (length (route front p q run (b ∷ bs)) - 1) ≡ back_to r (length bs) (b ∷ bs) (found_at end (get_location r end).loc)
  found_back b bs run e =
      ap (λ (path : List Point64). last_off r path (length path - 1)) (sym (append_assoc front (p ∷ q ∷ run) (b ∷ bs)))
      ∙ off_found r (front ++ (p ∷ q ∷ run)) b bs end (omega (arith, length-append front (p ∷ q ∷ run))) (last_append origin front (p ∷ q ∷ run) ∙ e) end_off

  same_search : (back : List Point64) → (get_location r (last_of end back)).off ≡ false
      → SameFind (last_off r (route front p q run back) (length (route front p q run back) - 1)) (last_off r (route front p q run' back) (length (route front p q run' back) - 1))
  same_search [] e = never end_off e
  same_search (b ∷ bs) e = to_both (found_back b bs run refl) (found_back b bs run' (sym d.same)) (back_finds r (length bs) (b ∷ bs) end (get_location r end).loc)
    where
      to_both : {w w' z : Option SidePoint} → w ≡ z → w' ≡ z → SameFind z z → SameFind w w'
      to_both {w} {w'} {z} e f g = subst (λ (w : Option SidePoint). SameFind w w') (sym e) (subst (SameFind z) (sym f) g)

  module _ (back : List Point64) (lim : All Limited (route front p q run back)) (lim' : All Limited (route front p q run' back)) where
    abbrev path : List Point64
    path = route front p q run back

    abbrev path' : List Point64
    path' = route front p q run' back

    abbrev final : Point64
    final = last_of end back

    around : All Limited front × All Limited (p ∷ q ∷ run ++ back)
    around = all_split Limited front (p ∷ q ∷ run ++ back) lim

    final_limited : Limited final
    final_limited = subst Limited (last_append q run back) (last_all Limited p (q ∷ run ++ back) around.1.0 around.1.1)

    from_alike : (l : Location) → In r l final → Alike SameWalked (walk_from full r path l) (walk_from full r path' l)
    from_alike l i =
        both (from_is full r lr k path l lim ∙ ends path (route_ends run back refl)) (from_is full r lr k path' l lim' ∙ ends path' (route_ends run' back (sym d.same)))
        (alike_bind (λ s t. SameState s t × NotIn s) SameWalked _ _
        (from_before (closed_visits full r lr k u) p q run run' back d around.1.0 around.1.1.0 front (begin full r l) final final_limited around.0)
        (λ s t g. after_same full r path path' l s t g.0 g.1))
      where
        ends : (path : List Point64) → last_of origin path ≡ final → (walk_on full r (begin full r l) (last_of origin path) path >>= after_while full r path l) ≡ (walk_on full r (begin full r l) final path >>= after_while full r path l)
        ends path e = ap (λ (z : Point64). walk_on full r (begin full r l) z path >>= after_while full r path l) e

    pub closed_alike : Alike SameWalked (walk_closed full r path) (walk_closed full r path')
    closed_alike =
        both (closed_is full r path (not_nil front p (q ∷ run ++ back)) ∙ from path (route_ends run back refl)) (closed_is full r path' (not_nil front p (q ∷ run' ++ back)) ∙ from path' (route_ends run' back (sym d.same)))
        (begun_alike r final SameWalked k (last_off r path (length path - 1)) (last_off r path' (length path' - 1)) (walk_from full r path) (walk_from full r path') (on_edges full r path) (on_edges full r path') (same_search back) from_alike)
      where
        from : (path : List Point64) → last_of origin path ≡ final
            → begun r (last_of origin path) (last_off r path (length path - 1)) (walk_from full r path) (on_edges full r path) ≡ begun r final (last_off r path (length path - 1)) (walk_from full r path) (on_edges full r path)
        from path e = ap (λ (z : Point64). begun r z (last_off r path (length path - 1)) (walk_from full r path) (on_edges full r path)) e
