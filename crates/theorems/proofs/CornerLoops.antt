-- The loops round the corners end in every call: each goes from a side to a side. A segment from outside into the rectangle crosses an edge, and
-- so does one from inside out; so where no crossing is found both locations are sides, and what is found is a side.
use mathlib.Core.Path.{◌≡◌, refl, sym, ◌∙◌, ap}
use mathlib.Core.Bool.{Bool, true, false, ◌||◌}
use mathlib.Core.Logic.{inl, inr}
use mathlib.Core.List.{List}
use Prim.Native.Nat.{ℕ, zero, suc, ◌<◌}
use lib.ListN.{length}
use lib.Dec.{leb, ltb, nleb→lt, ltb→lt}
use Rattle.integers.specs.Tests.{T_of, T_not_of}
use Rattle.std.specs.Prelude.{None, is_some}
use Rattle.plane.proofs.Limits.{rect_limited}
use Rattle.plane.specs.declared.point.Point64.{Point64}
use Rattle.plane.specs.Limit.{Limited, LimitedRect}
use Rattle.plane.specs.declared.rect.Rect64.{Rect64}
use Rattle.plane.specs.declared.location.Location.{Location}
use Rattle.plane.specs.declared.location.Location.TheVariants.{Left, Top, Right, Bottom, Inside}
use Rattle.plane.specs.Basics.{◌>>=◌}
use Rattle.plane.specs.Points.{origin, pt_at, points_of}
use Rattle.plane.specs.Locations.{same_location, is_inside, get_adjacent_location}
use Rattle.plane.specs.Rectangle.{get_location}
use Rattle.plane.specs.Intersection.{get_intersection}
use Rattle.reference.specs.Walk.{Next, get_next_location, State, pt_before, pass_from, passes}
use Rattle.theorems.specs.Walks.{given, begun, pass_count}
use Rattle.theorems.specs.CornerLoops.{Arrives, GoesRound, PassEnds, pass_of, WalkCornersEnd, CornerLoopsEnd}
use Rattle.theorems.proofs.Holds.{Holds, held, bind, holds_both, either, by_search, by_second_search, All, all_at, holds_ok}
use Rattle.theorems.proofs.Demand.{points_limited, not_empty_order}
use Rattle.theorems.proofs.GeoPlane.{loc, Proper}
use Rattle.theorems.proofs.GeoSearch.{Finds, enter as enter_geo, leave as leave_geo}
use Rattle.theorems.proofs.Bridge.{told, search_told}
use Rattle.theorems.proofs.GeoWalk.{located, inside?}
use Rattle.theorems.proofs.GeoProgress.{In, side_in, Stop, enters, passes as crosses, leaves, located_in}
use Rattle.theorems.proofs.NextPoints.{Reached, reached}
use Rattle.theorems.proofs.Passes.{sides_out, before_limited, get_location_is}
use Rattle.theorems.proofs.Corners.{meets, four}
use Rattle.theorems.proofs.FirstCrossing.{found_side}
use Rattle.theorems.proofs.EachPass.{Kept, came, pass_kept, begun_kept, in_every_pass}
use Rattle.theorems.proofs.StartSides.{Sides, SidesIn, next_sides, remain_sides, cross_sides}
use Rattle.theorems.proofs.Tests.{never}

-- ---- from a side to a side
arrived : (n : ℕ) (p loc : Location) (cw : Bool) → meets n p loc cw ≡ true → Arrives n p loc cw
arrived zero p loc cw e = never e refl
arrived (suc n) p loc cw e = go (same_location (get_adjacent_location p cw) loc) refl (arrived n (get_adjacent_location p cw) loc cw) e
  where
    go : (b : Bool) → same_location (get_adjacent_location p cw) loc ≡ b → (meets n (get_adjacent_location p cw) loc cw ≡ true → Arrives n (get_adjacent_location p cw) loc cw)
        → (b || meets n (get_adjacent_location p cw) loc cw) ≡ true → Arrives (suc n) p loc cw
    go true q f e = inl q
    go false q f e = inr (f e)

goes_round : (p loc : Location) (cw : Bool) → is_inside p ≡ false → is_inside loc ≡ false → GoesRound p loc cw
goes_round p loc cw h e = record { from_side = h; to_side = e; arrives = arrived 4 p loc cw (four 0 p loc cw e) }

-- a pass that comes to stand inside comes from a side
enters_from : (r : Rect64) (p : Point64) (l l' : Location) → Stop r p l l' → is_inside l' ≡ true → is_inside l ≡ false
enters_from r p l l' (enters s i inner) e = sides_out s
enters_from r p l l' (crosses s t i b) e = never e (sides_out t)
enters_from r p l l' (leaves t n) e = never e (sides_out t)

-- one that goes from a side to a side comes to a point outside
beyond_out : (r : Rect64) (p : Point64) (l l' : Location) → Stop r p l l' → is_inside l' ≡ false → is_inside l ≡ false → is_inside (get_location r p).loc ≡ false
beyond_out r p l l' (enters s i inner) o b = never refl o
beyond_out r p l l' (leaves t n) o b = never refl b
beyond_out r p l l' (crosses s t i b') o b = ap is_inside (get_location_is r p) ∙ same (located r p) ((located_in r p).1 (record { side = t; beyond = b' }))
  where
    same : (l : Location) → inside? l ≡ false → is_inside l ≡ false
    same Left e = refl
    same Top e = refl
    same Right e = refl
    same Bottom e = refl
    same Inside e = never refl e

-- ---- where no crossing is found the segment goes from a side to a side: into the rectangle and out of it one is found
missed_sides : (r : Rect64) (lr : LimitedRect r) (k : Proper r) (p q : Point64) (lp : Limited p) (lq : Limited q) (l l' : Location) → Stop r p l l' → In r l q → get_intersection r p q l' ≡ None
    → (is_inside l ≡ false) × (is_inside l' ≡ false)
missed_sides r lr k p q lp lq l l' t h e = go l l' t h e
  where
    found_not : (l : Location) → Finds r p q l → get_intersection r p q l ≡ None → ⊥
    found_not l f e = never refl (sym (ap is_some (search_told r lr k p q lp lq l ∙ ap (told r lr k p q lp lq) f.at)) ∙ ap is_some e)

    go : (l l' : Location) → Stop r p l l' → In r l q → get_intersection r p q l' ≡ None → (is_inside l ≡ false) × (is_inside l' ≡ false)
    go l l' (enters s i inner) h e = absurd (found_not Inside (enter_geo r k p q inner (record { side = s; beyond = side_in r s q h })).finds e)
    go l l' (crosses s t i b) h e = (sides_out s, sides_out t)
    go l l' (leaves t n) h e = absurd (found_not (loc t) (leave_geo r k p q t n h) e)

module _ (full : ℕ → Bool) (r : Rect64) (path : List Point64) (lr : LimitedRect r) (k : Proper r) (lim : All Limited path) where
  -- ---- one pass
  pass_ends : (s : State) (nx : Next) → Reached full r path s.loc s.i nx → In r s.loc (pt_before path nx.i) → nx.i < length path → PassEnds r (pass_of full r path s nx)
  pass_ends s nx R i l =
      let p = pt_at path nx.i in
      let q = pt_before path nx.i in
      record {
        outside = λ e.
            let b = missed_sides r lr k p q (all_at Limited path nx.i origin lim l) (before_limited full r path lr k lim nx.i l) s.loc nx.loc (R.stopped l) i e in
            goes_round s.loc nx.loc _ b.0 b.1;
        passing = λ ip t e o b. (
          found_side r p q ip t nx.loc e,
          (by_second_search (λ _ l2. is_inside l2 ≡ false) r q p s.loc ip b (λ ip2 t2 f. found_side r q p ip2 t2 s.loc f), (beyond_out r p s.loc nx.loc (R.stopped l) o b, tt)),
        );
        entering = λ ip t e i. goes_round s.loc t _ (enters_from r p s.loc nx.loc (R.stopped l) i) (found_side r p q ip t nx.loc e);
      }

  -- ---- the start sides
  pass_noted : (s : State) (nx : Next) → Reached full r path s.loc s.i nx → In r s.loc (pt_before path nx.i) → Sides nx.walk → Holds SidesIn (pass_from full r path s nx)
  unfolding pass_from
  pass_noted s nx R i k' =
      let c = pass_of full r path s nx in
      either SidesIn (leb (length path) nx.i) _ _ (λ e. held k')
      (λ e. let l : nx.i < length path = nleb→lt (length path) nx.i (T_not_of e) in
      by_search SidesIn (get_intersection r (pt_at path nx.i) (pt_before path nx.i) nx.loc) _ _
      (λ f. remain_sides full r c k' ((pass_ends s nx R i l).outside f).from_side)
      (λ ip t f. cross_sides full r c ip t k' (λ j. ((pass_ends s nx R i l).entering ip t f j).from_side)))

  noted : (n : ℕ) (s : State) → Kept full r path lr k lim true s → SidesIn s → Holds SidesIn (passes full r path n s)
  unfolding passes
  noted zero s h m = held m
  noted (suc n) s h m =
      either SidesIn (ltb s.i (length path)) _ _
      (λ e. let l : s.i < length path = ltb→lt s.i (length path) (T_of e) in
      bind Q SidesIn (get_next_location full r path s.walk s.loc s.i >>= pass_from full r path s) _
      (bind (λ (nx : Next). Reached full r path s.loc s.i nx × Sides nx.walk) Q (get_next_location full r path s.walk s.loc s.i) _
      (holds_both (reached full r path s.walk s.loc s.i l) (next_sides full r path s.walk s.loc s.i m))
      (λ nx g. holds_both (pass_kept full r path lr k lim true s nx g.0) (pass_noted s nx g.0 (came full r path true (given true s) nx (h l) g.0) g.1)))
      (λ t g. noted n t g.0 g.1))
      (λ e. held m)
    where
      Q : State → Type 0
      Q t = Kept full r path lr k lim true t × SidesIn t

  pub walk_corners_end : WalkCornersEnd full r path
  walk_corners_end = record {
    each_pass = in_every_pass full r path lr k lim true (λ s nx. PassEnds r (pass_of full r path s nx)) pass_ends;
    closing = λ loc from s t e f.
        let h = holds_ok {Q = λ (s : State). Kept full r path lr k lim true s × SidesIn s} (begun full path true loc) s (holds_both (begun_kept full r path lr k lim true loc from) (held tt)) e in
        holds_ok {Q = SidesIn} (passes full r path (pass_count path true) s) t (noted (pass_count path true) s h.0 h.1) f;
  }

-- In every call within the coordinate limit, on a rectangle that is not empty.
pub corner_loops_end : CornerLoopsEnd
corner_loops_end full rect coords hr hc he =
    let o = not_empty_order rect he in
    walk_corners_end full rect (points_of coords) (rect_limited rect hr) (record { wide = o.0; high = o.1 }) (points_limited coords hc)
