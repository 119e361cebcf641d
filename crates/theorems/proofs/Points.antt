-- Every point that a walk puts down is an input point in or on the rectangle, a corner, or what a search for a crossing finds. Over any property P
-- of points, and any property K of walks that putting down such points keeps.
use Rattle.std.specs.Prelude.{if◌then◌else◌, None}
use mathlib.Core.Path.{◌≡◌, refl, sym, subst}
use mathlib.Core.Bool.{Bool, true, false, cond, not, ◌&&◌, ◌||◌}
use mathlib.Core.List.{List, [], ◌∷◌}
use Prim.Native.Nat.{ℕ, zero, suc, ◌+◌, ◌-◌, ◌<◌, ◌≤◌}
use native.Mathlib.Nat.{not-suc-le-zero}
use native.Mathlib.Omega.{arith}
use lib.ListN.{length, get_or, drop}
use lib.Dec.{leb, ltb, nleb→lt, ltb→lt, nltb→le}
use Rattle.integers.specs.Tests.{T_of, T_not_of}
use Rattle.plane.specs.declared.point.Point64.{Point64}
use Rattle.plane.specs.declared.rect.Rect64.{Rect64}
use Rattle.plane.specs.declared.location.Location.{Location}
use Rattle.plane.specs.declared.location.Location.TheVariants.{Left, Top, Right, Bottom, Inside}
use Rattle.plane.specs.Basics.{is_nil, ok, ◌>>=◌}
use Rattle.plane.specs.Locations.{side, same_location, get_adjacent_location, heading_clockwise, is_inside}
use Rattle.plane.specs.Points.{pt_at, origin, same_point}
use Rattle.plane.specs.Rectangle.{get_location, mid_point, contains_point, get_bounds_path, as_path, corner, beyond}
use Rattle.plane.specs.Intersection.{found_at, get_intersection}
use Rattle.plane.specs.Signs.{is_clockwise_dir}
use Rattle.plane.specs.Polygon.{path1_contains_path2}
use Rattle.reference.specs.Walk.{Walk, nothing_yet, add, add_all, push_start_loc, Next, add_corner_prev_curr, add_corner_loc, add_corners, push_start_locs, next_inside, next_outside, get_next_location, State, Pass, Walked, remain_outside, enter, pass_to, pass_through, leave, cross_boundary, pt_before, pass_from, passes, last_off, add_round, surround, retrace, close_outline, after_while, walk_from, walk_closed}
use Rattle.theorems.proofs.Holds.{Holds, refused, held, bind, either, by_search, All, all_push, all_drop, all_at, all_of, by_second_search}

-- p is beyond no side
pub record WithinSides (rect : Rect64) (p : Point64) : Type 0 where
  pub left : beyond rect Left p ≡ false
  pub right : beyond rect Right p ≡ false
  pub bottom : beyond rect Bottom p ≡ false
  pub top : beyond rect Top p ≡ false

-- K holds of the walk with nothing put down yet, and is kept where a point with P, or a start location, is put down
pub record Keeping (full : ℕ → Bool) (P : Point64 → Type 0) (K : Walk → Type 0) : Type 0 where
  pub start : K nothing_yet
  pub adds : (w : Walk) (pt : Point64) (b : Bool) → K w → P pt → Holds K (add full w pt b)
  pub pushes : (w : Walk) (loc : Location) → K w → Holds K (push_start_loc full w loc)

module _ (full : ℕ → Bool) (P : Point64 → Type 0) (K : Walk → Type 0) (keep : Keeping full P K) where
  abbrev KeptTo : Walk × Location → Type 0
  KeptTo t = K t.0

  abbrev KeptNext : Next → Type 0
  KeptNext n = K n.walk

  abbrev KeptState : State → Type 0
  KeptState s = K s.walk

  abbrev pub KeptWalked : Walked → Type 0
  KeptWalked w = K w.walk

  pub add_all_kept : (w : Walk) (ps : List Point64) → K w → All P ps → Holds K (add_all full w ps)
  unfolding add_all
  add_all_kept w [] h a = held h
  add_all_kept w (p ∷ ps) h a = bind K K (add full w p false) _ (keep.adds w p false h a.0) (λ v k. add_all_kept v ps k a.1)

  -- ---- with the corners
  module _ (rect : Rect64) (corners : (s : Location) → P (corner rect s)) where
    corner_curr_kept : (w : Walk) (prev curr : Location) → K w → Holds K (add_corner_prev_curr full rect w prev curr)
    unfolding add_corner_prev_curr
    corner_curr_kept w prev curr h = keep.adds w _ false h (corners (if heading_clockwise prev curr then prev else curr))

    corner_loc_kept : (w : Walk) (loc : Location) (cw : Bool) → K w → Holds KeptTo (add_corner_loc full rect w loc cw)
    unfolding add_corner_loc
    corner_loc_kept w loc cw h = bind K KeptTo (add full w (corner rect (if cw then loc else get_adjacent_location loc cw)) false) _
        (keep.adds w _ false h (corners (if cw then loc else get_adjacent_location loc cw))) (λ v k. held k)

    corners_kept : (left : ℕ) (w : Walk) (p loc : Location) (cw : Bool) → K w → Holds K (add_corners full rect left w p loc cw)
    unfolding add_corners
    corners_kept zero w p loc cw h = held h
    corners_kept (suc left) w p loc cw h =
        bind KeptTo K (add_corner_loc full rect w p cw) _ (corner_loc_kept w p cw h)
        (λ t k. either K (same_location t.1 loc) _ _ (λ _. held k) (λ _. corners_kept left t.0 t.1 loc cw k))

    pub start_locs_kept : (left : ℕ) (w : Walk) (p loc : Location) (cw : Bool) → K w → Holds K (push_start_locs full rect left w p loc cw)
    unfolding push_start_locs
    start_locs_kept zero w p loc cw h = held h
    start_locs_kept (suc left) w p loc cw h =
        bind K K (push_start_loc full w p) _ (keep.pushes w p h)
        (λ v k. either K (same_location (get_adjacent_location p cw) loc) _ _ (λ _. held k) (λ _. start_locs_kept left v (get_adjacent_location p cw) loc cw k))

    -- ---- `get_next_location`
    next_inside_kept : (w : Walk) (i : ℕ) (ps : List Point64) → K w → All (λ p. WithinSides rect p → P p) ps → Holds KeptNext (next_inside full rect w i ps)
    unfolding next_inside
    next_inside_kept w i [] h a = held h
    next_inside_kept w i (p ∷ ps) h a =
        either KeptNext (beyond rect Left p) _ _ (λ _. held h)
        (λ l. either KeptNext (beyond rect Right p) _ _ (λ _. held h)
        (λ r. either KeptNext (beyond rect Bottom p) _ _ (λ _. held h)
        (λ b. either KeptNext (beyond rect Top p) _ _ (λ _. held h)
        (λ t. bind K KeptNext (add full w p false) _ (keep.adds w p false h (a.0 (record { left = l; right = r; bottom = b; top = t })))
        (λ v k. next_inside_kept v (i + 1) ps k a.1)))))

    next_kept : (path : List Point64) (w : Walk) (loc : Location) (i : ℕ) → K w → All (λ p. WithinSides rect p → P p) path
        → Holds KeptNext (get_next_location full rect path w loc i)
    unfolding get_next_location next_outside
    next_kept path w Left i h a = held h
    next_kept path w Top i h a = held h
    next_kept path w Right i h a = held h
    next_kept path w Bottom i h a = held h
    next_kept path w Inside i h a = next_inside_kept w i (drop i path) h (all_drop (λ p. WithinSides rect p → P p) i path a)

    -- ---- a pass of the closed walk
    remain_kept : (c : Pass) → K c.walk → Holds KeptState (remain_outside full rect c)
    unfolding remain_outside
    remain_kept c h =
        either KeptState (is_inside c.crossing_prev) _ _
        (λ _. bind K KeptState (push_start_locs full rect 4 c.walk c.prev c.loc (is_clockwise_dir c.prev c.loc c.prev_pt c.pt (mid_point rect))) _
        (start_locs_kept 4 c.walk c.prev c.loc (is_clockwise_dir c.prev c.loc c.prev_pt c.pt (mid_point rect)) h) (λ w k. held k))
        (λ _. either KeptState (not (is_inside c.prev) && not (same_location c.prev c.loc)) _ _
        (λ _. bind K KeptState (add_corners full rect 4 c.walk c.prev c.loc (is_clockwise_dir c.prev c.loc c.prev_pt c.pt (mid_point rect))) _
        (corners_kept 4 c.walk c.prev c.loc (is_clockwise_dir c.prev c.loc c.prev_pt c.pt (mid_point rect)) h) (λ w k. held k))
        (λ _. held h))

    enter_kept : (c : Pass) (ip : Point64) (loc : Location) → K c.walk → P ip → Holds KeptState (enter full rect c ip loc)
    unfolding enter
    enter_kept c ip loc h q =
        bind K KeptState
        (if is_inside c.first_cross then push_start_loc full c.walk c.prev
        else if not (same_location c.prev loc) then add_corners full rect 4 c.walk c.prev loc (is_clockwise_dir c.prev loc c.prev_pt c.pt (mid_point rect))
        else ok c.walk) _
        (either K (is_inside c.first_cross) _ _ (λ _. keep.pushes c.walk c.prev h)
        (λ _. either K (not (same_location c.prev loc)) _ _ (λ _. corners_kept 4 c.walk c.prev loc (is_clockwise_dir c.prev loc c.prev_pt c.pt (mid_point rect)) h) (λ _. held h)))
        (λ w k. bind K KeptState (add full w ip false) _ (keep.adds w ip false k q) (λ v g. held g))

    pass_to_kept : (c : Pass) (ip : Point64) (loc : Location) (ip2 : Point64) (loc2 : Location) → K c.walk → P ip → P ip2 → Holds KeptState (pass_to full rect c ip loc ip2 loc2)
    unfolding pass_to
    pass_to_kept c ip loc ip2 loc2 h q q2 =
        bind K KeptState
        (if not (is_inside c.crossing_prev) && not (same_location c.crossing_prev loc2)
        then add_corner_prev_curr full rect c.walk c.crossing_prev loc2 else ok c.walk) _
        (either K (not (is_inside c.crossing_prev) && not (same_location c.crossing_prev loc2)) _ _ (λ _. corner_curr_kept c.walk c.crossing_prev loc2 h) (λ _. held h))
        (λ w k. bind K KeptState (if is_inside c.first_cross then push_start_loc full w c.prev else ok w) _
        (either K (is_inside c.first_cross) _ _ (λ _. keep.pushes w c.prev k) (λ _. held k))
        (λ v g. bind K KeptState (add full v ip2 false) _ (keep.adds v ip2 false g q2)
        (λ u f. either KeptState (same_point ip ip2) _ _
        (λ _. bind K KeptState (add_corner_prev_curr full rect u loc (get_location rect c.pt).loc) _ (corner_curr_kept u loc (get_location rect c.pt).loc f) (λ t e. held e))
        (λ _. bind K KeptState (add full u ip false) _ (keep.adds u ip false f q) (λ t e. held e)))))

    -- what a search finds, in the pass's segment, either way round
    abbrev pub Finds : Point64 → Point64 → Type 0
    Finds p p2 = (s : Location) (q : Point64) (t : Location) → get_intersection rect p p2 s ≡ found_at q t → P q

    through_kept : (c : Pass) (ip : Point64) (loc : Location) → K c.walk → P ip → Finds c.prev_pt c.pt → Holds KeptState (pass_through full rect c ip loc)
    unfolding pass_through
    through_kept c ip loc h q f =
        pass_to_kept c ip loc _ _ h q (by_second_search (λ ip2 l. P ip2) rect c.prev_pt c.pt c.prev ip q (f c.prev))

    leave_kept : (c : Pass) (ip : Point64) (loc : Location) → K c.walk → P ip → Holds KeptState (leave full rect c ip loc)
    unfolding leave
    leave_kept c ip loc h q = bind K KeptState (add full c.walk ip false) _ (keep.adds c.walk ip false h q) (λ w k. held k)

    cross_kept : (c : Pass) (ip : Point64) (loc : Location) → K c.walk → P ip → Finds c.prev_pt c.pt → Holds KeptState (cross_boundary full rect c ip loc)
    unfolding cross_boundary
    cross_kept c ip loc h q f =
        either KeptState (is_inside c.loc) _ _ (λ _. enter_kept c ip loc h q)
        (λ _. either KeptState (not (is_inside c.prev)) _ _ (λ _. through_kept c ip loc h q f) (λ _. leave_kept c ip loc h q))

    -- ---- the closed walk
    module _ (path : List Point64) (inputs : All (λ p. WithinSides rect p → P p) path)
        (finds : (i : ℕ) → i < length path → Finds (pt_at path i) (pt_before path i)) (finds_back : (i : ℕ) → i < length path → Finds (pt_before path i) (pt_at path i)) where
      pass_from_kept : (s : State) (n : Next) → KeptNext n → Holds KeptState (pass_from full rect path s n)
      unfolding pass_from
      pass_from_kept s n h =
          either KeptState (leb (length path) n.i) _ _ (λ _. held h)
          (λ e. let l : n.i < length path = nleb→lt (length path) n.i (T_not_of e) in
          by_search KeptState (get_intersection rect (pt_at path n.i) (pt_before path n.i) n.loc) _ _
          (λ _. remain_kept _ h)
          (λ ip loc f. cross_kept _ ip loc h (finds n.i l n.loc ip loc f) (finds_back n.i l)))

      passes_kept : (left : ℕ) (s : State) → KeptState s → Holds KeptState (passes full rect path left s)
      unfolding passes
      passes_kept zero s h = held h
      passes_kept (suc left) s h =
          either KeptState (ltb s.i (length path)) _ _
          (λ _. bind KeptState KeptState (get_next_location full rect path s.walk s.loc s.i >>= pass_from full rect path s) _
          (bind KeptNext KeptState (get_next_location full rect path s.walk s.loc s.i) _ (next_kept path s.walk s.loc s.i h inputs) (λ n k. pass_from_kept s n k))
          (λ t k. passes_kept left t k))
          (λ _. held h)

      add_round_kept : (w : Walk) (es : List (ℕ × ℕ)) (ks : List ℕ) → K w → Holds KeptWalked (add_round full rect w es ks)
      unfolding add_round
      add_round_kept w es [] h = held h
      add_round_kept w es (k ∷ ks) h = bind K KeptWalked (add full w (corner rect (side k)) false) _ (keep.adds w _ false h (corners (side k))) (λ v g. add_round_kept v _ ks g)

      surround_kept : (w : Walk) → K w → Holds KeptWalked (surround full rect path w)
      unfolding surround
      surround_kept w h =
          either KeptWalked (contains_point (get_bounds_path path) (mid_point rect) && path1_contains_path2 path (as_path rect)) _ _ (λ _. add_round_kept w [] _ h) (λ _. held h)

      retrace_kept : (w : Walk) (p : Location) (ls : List Location) → K w → Holds KeptTo (retrace full rect w p ls)
      unfolding retrace
      retrace_kept w p [] h = held h
      retrace_kept w p (l ∷ ls) h =
          either KeptTo (same_location p l) _ _ (λ _. retrace_kept w p ls h)
          (λ _. bind KeptTo KeptTo (add_corner_loc full rect w p (heading_clockwise p l)) _ (corner_loc_kept w p (heading_clockwise p l) h) (λ t k. retrace_kept t.0 l ls k))

      close_kept : (s : State) → KeptState s → Holds KeptWalked (close_outline full rect s)
      unfolding close_outline
      close_kept s h =
          bind KeptTo KeptWalked (retrace full rect s.walk s.loc s.walk.start_locs) _ (retrace_kept s.walk s.loc s.walk.start_locs h)
          (λ t k. bind K KeptWalked
          (if not (same_location t.1 s.first_cross)
          then (add_corner_loc full rect t.0 t.1 (heading_clockwise t.1 s.first_cross) >>= λ u. ok u.0)
          else ok t.0) _
          (either K (not (same_location t.1 s.first_cross)) _ _
          (λ _. bind KeptTo K (add_corner_loc full rect t.0 t.1 (heading_clockwise t.1 s.first_cross)) _ (corner_loc_kept t.0 t.1 (heading_clockwise t.1 s.first_cross) k) (λ u g. held g))
          (λ _. held k))
          (λ w g. held g))

      after_kept : (loc : Location) (s : State) → KeptState s → Holds KeptWalked (after_while full rect path loc s)
      unfolding after_while
      after_kept loc s h =
          either KeptWalked (is_inside s.first_cross) _ _
          (λ _. either KeptWalked (not (is_inside loc)) _ _ (λ _. surround_kept s.walk h) (λ _. held h))
          (λ _. either KeptWalked (not (is_inside s.loc) && (not (same_location s.loc s.first_cross) || ltb 2 (length s.walk.start_locs))) _ _ (λ _. close_kept s h) (λ _. held h))

      walk_from_kept : (loc : Location) → Holds KeptWalked (walk_from full rect path loc)
      unfolding walk_from
      walk_from_kept loc =
          bind KeptState KeptWalked (passes full rect path (length path + 1) (record { walk = nothing_yet; i = 0; loc = loc; crossing_loc = Inside; first_cross = Inside })) _
          (passes_kept (length path + 1) _ keep.start) (λ s k. after_kept loc s k)

      -- where the walk starts on an edge: either a point off the edges is found, or all points are on them
      module _ (on_edge : (p : Point64) → (get_location rect p).off ≡ false → WithinSides rect p) where
        last_off_missed : (k : ℕ) → last_off rect path k ≡ None → (i : ℕ) → i < k → (get_location rect (pt_at path i)).off ≡ false
        unfolding last_off
        last_off_missed zero e i l = absurd (not-suc-le-zero l)
        last_off_missed (suc k) e i l = go (get_location rect (pt_at path k)).off refl e (λ z. last_off_missed k z i)
          where
            last : (t : Bool) → ltb i k ≡ t → (get_location rect (pt_at path k)).off ≡ false → (i < k → (get_location rect (pt_at path i)).off ≡ false) → (get_location rect (pt_at path i)).off ≡ false
            last true t q f = f (ltb→lt i k (T_of t))
            last false t q f = let h : k ≤ i = nltb→le i k (T_not_of t) in let m : i ≡ k = omega arith in subst (λ (n : ℕ). (get_location rect (pt_at path n)).off ≡ false) (sym m) q

            go : (b : Bool) → (get_location rect (pt_at path k)).off ≡ b → cond b (found_at (pt_at path k) (get_location rect (pt_at path k)).loc) (last_off rect path k) ≡ None
                → (last_off rect path k ≡ None → i < k → (get_location rect (pt_at path i)).off ≡ false) → (get_location rect (pt_at path i)).off ≡ false
            go true q m f = let z : ◌≡◌ {A = ℕ} 0 1 = cc in absurd (omega arith)
            go false q m f = last (ltb i k) refl q (f m)

        pub walked_kept : Holds KeptWalked (walk_closed full rect path)
        unfolding walk_closed
        walked_kept =
            either KeptWalked (is_nil path) _ _ (λ _. held keep.start)
            (λ _. either KeptWalked (get_location rect (pt_at path (length path - 1))).off _ _ (λ _. walk_from_kept _)
            (λ e. by_search KeptWalked (last_off rect path (length path - 1)) _ _
            (λ m. bind K KeptWalked (add_all full nothing_yet path) _ (add_all_kept nothing_yet path keep.start (all_of P path origin (each e m))) (λ w k. held k))
            (λ p prev f. walk_from_kept _)))
          where
            off : (get_location rect (pt_at path (length path - 1))).off ≡ false → last_off rect path (length path - 1) ≡ None → (i : ℕ) → i < length path
                → (t : Bool) → ltb i (length path - 1) ≡ t → (get_location rect (pt_at path i)).off ≡ false
            off e m i l true t = last_off_missed (length path - 1) m i (ltb→lt i (length path - 1) (T_of t))
            off e m i l false t =
                let h : length path - 1 ≤ i = nltb→le i (length path - 1) (T_not_of t) in
                let n : i ≡ length path - 1 = omega arith in
                subst (λ (n : ℕ). (get_location rect (pt_at path n)).off ≡ false) (sym n) e

            each : (get_location rect (pt_at path (length path - 1))).off ≡ false → last_off rect path (length path - 1) ≡ None → (i : ℕ) → i < length path → P (get_or path i origin)
            each e m i l = all_at (λ p. WithinSides rect p → P p) path i origin inputs l (on_edge (pt_at path i) (off e m i l (ltb i (length path - 1)) refl))

-- ---- P of all points
pub all_keeping : (full : ℕ → Bool) (P : Point64 → Type 0) → Keeping full P (λ w. All P w.points)
unfolding add push_start_loc
all_keeping full P = record {
  start = tt;
  adds = λ w pt b h q.
      either K (is_nil w.points || b) _ _
      (λ _. either K (full (length w.points)) _ _ (λ _. refused) (λ _. held (all_push P w.points pt h q)))
      (λ _. either K (same_point (pt_at w.points (length w.points - 1)) pt) _ _ (λ _. held h)
      (λ _. either K (full (length w.points)) _ _ (λ _. refused) (λ _. held (all_push P w.points pt h q))));
  pushes = λ w loc h. either K (full (length w.start_locs)) _ _ (λ _. refused) (λ _. held h);
}
  where
    K : Walk → Type 0
    K w = All P w.points
