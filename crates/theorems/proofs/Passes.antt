-- The passes of both walks are enough: a pass that leaves i where it was leaves the walk at a location whose region has the point, so the next pass goes past it. Wherever the walk starts.
use Rattle.std.specs.Prelude.{if◌then◌else◌}
use mathlib.Core.Path.{◌≡◌, refl, sym, ap, subst, ◌∙◌}
use mathlib.Core.Bool.{Bool, true, false, cond, not, ◌&&◌, ◌||◌}
use mathlib.Core.Logic.{◌⊎◌, inl, inr}
use mathlib.Core.List.{List}
use Prim.Native.Nat.{ℕ, zero, suc, ◌+◌, ◌-◌, ◌<◌, ◌≤◌}
use native.Mathlib.Omega.{arith}
use lib.ListN.{length}
use lib.Dec.{leb, ltb, leb→le, nleb→lt, ltb→lt, nltb→le}
use lib.IntN.{ℤ, pos}
use lib.Signed.{lt_z, le_z, ◌≤ℤ◌, ◌<ℤ◌}
use Rattle.integers.specs.Order.{zint}
use Rattle.integers.specs.Tests.{eq_z, T_of, T_not_of}
use Rattle.plane.proofs.Limits.{rect_limited}
use Rattle.plane.specs.declared.point.Point64.{Point64}
use Rattle.plane.specs.Limit.{Limited, LimitedRect}
use Rattle.plane.specs.declared.rect.Rect64.{Rect64}
use Rattle.plane.specs.declared.location.Spot.{Spot}
use Rattle.plane.specs.declared.location.Location.{Location}
use Rattle.plane.specs.declared.location.Location.TheVariants.{Inside}
use Rattle.plane.specs.Basics.{ok, ◌>>=◌}
use Rattle.plane.specs.Points.{origin, pt_at, same_point, points_of}
use Rattle.plane.specs.Locations.{same_location, is_inside}
use Rattle.plane.specs.Rectangle.{mid_point, get_location}
use Rattle.plane.specs.Intersection.{found_at, get_intersection}
use Rattle.plane.specs.Signs.{is_clockwise_dir}
use Rattle.reference.specs.Walk.{Walk, nothing_yet, add, push_start_loc, add_corner_prev_curr, add_corners, push_start_locs, Next, get_next_location, State, Pass, remain_outside, enter, pass_to, pass_through, leave, cross_boundary, pt_before, pass_from, passes, second_search}
use Rattle.reference.specs.Lines.{line_through, line_cross, line_from, line_passes}
use Rattle.theorems.specs.Bounds.{WalkEnds, LineWalkEnds}
use Rattle.theorems.proofs.Holds.{Holds, held, bind, either, by_search, All, all_at, weaker, anything, holds_ok, by_second_search}
use Rattle.theorems.proofs.Demand.{points_limited, not_empty_order}
use Rattle.theorems.proofs.GeoPlane.{Side, on_left, on_top, on_right, on_bottom, loc, Proper}
use Rattle.theorems.proofs.GeoWalk.{located, on_edge, is_on_left, is_on_right, is_on_top, is_on_bottom}
use Rattle.theorems.proofs.GeoProgress.{In, in_side, Stop, enters, passes as crosses, leaves, located_in, same_refl, edge_closed}
use Rattle.theorems.proofs.PassSearches.{leave_in, through_in}
use Rattle.theorems.proofs.NextPoints.{Reached, reached}
use Rattle.theorems.proofs.Tests.{never}

-- ---- a pass
abbrev Any : Walk → Type 0
Any w = Unit {0}

pub sides_out : (s : Side) → is_inside (loc s) ≡ false
sides_out on_left = refl
sides_out on_top = refl
sides_out on_right = refl
sides_out on_bottom = refl

-- the point is in the region of the location at which `get_next_location` stops
pub stop_in : (r : Rect64) (p : Point64) {l l' : Location} → Stop r p l l' → In r l' p
stop_in r p (enters s i inner) = λ t. weak (inner t)
  where
    weak : {a : ℤ} → pos 0 <ℤ a → pos 0 ≤ℤ a
    weak {a} h = omega zint
stop_in r p (crosses s t i b) = in_side r t p b
stop_in r p (leaves t n) = in_side r t p (weak n)
  where
    weak : {a : ℤ} → a <ℤ pos 0 → a ≤ℤ pos 0
    weak {a} h = omega zint

module _ (r : Rect64) (p : Point64) where
  spot_is : (b : Bool) (s t : Spot) (l : Location) → t.loc ≡ l → (cond b s t).loc ≡ cond b s.loc l
  spot_is true s t l e = refl
  spot_is false s t l e = e

  pub get_location_is : (get_location r p).loc ≡ located r p
  unfolding get_location
  get_location_is =
      spot_is (eq_z p.x r.left && le_z r.top p.y && le_z p.y r.bottom) _ _ _
      (spot_is (eq_z p.x r.right && le_z r.top p.y && le_z p.y r.bottom) _ _ _
      (spot_is (eq_z p.y r.top && le_z r.left p.x && le_z p.x r.right) _ _ _
      (spot_is (eq_z p.y r.bottom && le_z r.left p.x && le_z p.x r.right) _ _ _
      (spot_is (lt_z p.x r.left) _ _ _
      (spot_is (lt_z r.right p.x) _ _ _
      (spot_is (lt_z p.y r.top) _ _ _
      (spot_is (lt_z r.bottom p.y) _ _ _ refl)))))))

  pub get_location_in : In r (get_location r p).loc p
  get_location_in = subst (λ (l : Location). In r l p) (sym get_location_is) (located_in r p).0

  off_is : (b : Bool) (s t : Spot) (v : Bool) → t.off ≡ v → (cond b s t).off ≡ cond b s.off v
  off_is true s t v e = refl
  off_is false s t v e = e

  on_edge_of : (get_location r p).off ≡ false → on_edge r p ≡ true
  unfolding get_location
  on_edge_of e =
      go (is_on_left r p) (is_on_right r p) (is_on_top r p) (is_on_bottom r p) (lt_z p.x r.left) (lt_z r.right p.x) (lt_z p.y r.top) (lt_z r.bottom p.y)
      (sym (off_is (is_on_left r p) _ _ _ (off_is (is_on_right r p) _ _ _ (off_is (is_on_top r p) _ _ _ (off_is (is_on_bottom r p) _ _ _ (off_is (lt_z p.x r.left) _ _ _ (off_is (lt_z r.right p.x) _ _ _ (off_is (lt_z p.y r.top) _ _ _ (off_is (lt_z r.bottom p.y) _ _ _ refl)))))))) ∙ e)
    where
      go : (a b c d e f g h : Bool) → cond a false (cond b false (cond c false (cond d false (cond e true (cond f true (cond g true (cond h true true))))))) ≡ false → (a || (b || (c || d))) ≡ true
      go true b c d e f g h q = refl
      go false true c d e f g h q = refl
      go false false true d e f g h q = refl
      go false false false true e f g h q = refl
      go false false false false true f g h q = absurd (never refl q)
      go false false false false false true g h q = absurd (never refl q)
      go false false false false false false true h q = absurd (never refl q)
      go false false false false false false false true q = absurd (never refl q)
      go false false false false false false false false q = absurd (never refl q)

  -- a walk that starts at a point on an edge starts inside or at the edge's side, and the point is in the region of either
  pub edge_start : Proper r → (get_location r p).off ≡ false → (b : Bool) → In r (if b then Inside else (get_location r p).loc) p
  edge_start k e true = edge_closed r k p (on_edge_of e)
  edge_start k e false = get_location_in

module _ (r : Rect64) (lr : LimitedRect r) (k : Proper r) (p q : Point64) (lp : Limited p) (lq : Limited q) where
  through_any : (l l' : Location) → Stop r p l l' → is_inside l' ≡ false → not (is_inside l) ≡ true → (ip ip2 : Point64) (c d : Location)
      → get_intersection r p q l' ≡ found_at ip c → get_intersection r q p l ≡ found_at ip2 d → same_point ip ip2 ≡ false → In r c p
  through_any l l' (enters s i inner) g h ip ip2 c d e e2 ne = absurd (never refl g)
  through_any l l' (crosses s t i b) g h ip ip2 c d e e2 ne = through_in r lr k p q lp lq s t i b ip ip2 c d e e2 ne
  through_any l l' (leaves t n) g h ip ip2 c d e e2 ne = absurd (never h refl)

  leave_any : (l l' : Location) → Stop r p l l' → is_inside l' ≡ false → not (is_inside l) ≡ false → (ip : Point64) (c : Location) → get_intersection r p q l' ≡ found_at ip c → In r c p
  leave_any l l' (enters s i inner) g h ip c e = absurd (never refl g)
  leave_any l l' (crosses s t i b) g h ip c e = absurd (never (ap not (sides_out s)) h)
  leave_any l l' (leaves t n) g h ip c e = leave_in r lr k p q lp lq t n ip c e

module _ (full : ℕ → Bool) (r : Rect64) where
  -- behind a pass that finds no crossing: at the next point, and at the location that the pass came to
  abbrev pub GoesOn : Pass → State → Type 0
  GoesOn c t = (t.i ≡ c.i + 1) × (t.loc ≡ c.loc)

  pub remain_goes_on : (c : Pass) → Holds (GoesOn c) (remain_outside full r c)
  unfolding remain_outside
  remain_goes_on c =
      either (GoesOn c) (is_inside c.crossing_prev) _ _
      (λ _. bind Any (GoesOn c) (push_start_locs full r 4 c.walk c.prev c.loc (is_clockwise_dir c.prev c.loc c.prev_pt c.pt (mid_point r))) _ (anything _) (λ w _. held (refl, refl)))
      (λ _. either (GoesOn c) (not (is_inside c.prev) && not (same_location c.prev c.loc)) _ _
      (λ _. bind Any (GoesOn c) (add_corners full r 4 c.walk c.prev c.loc (is_clockwise_dir c.prev c.loc c.prev_pt c.pt (mid_point r))) _ (anything _) (λ w _. held (refl, refl)))
      (λ _. held (refl, refl)))

module _ (full : ℕ → Bool) (r : Rect64) (lr : LimitedRect r) (k : Proper r) where
  -- still at the point, in the region of the location
  abbrev pub Stays : Pass → State → Type 0
  Stays c t = (t.i ≡ c.i) × In r t.loc c.pt

  enter_stays : (c : Pass) (ip : Point64) (l : Location) → In r c.loc c.pt → Holds (Stays c) (enter full r c ip l)
  unfolding enter
  enter_stays c ip l h =
      bind Any (Stays c)
      (if is_inside c.first_cross then push_start_loc full c.walk c.prev
      else if not (same_location c.prev l) then add_corners full r 4 c.walk c.prev l (is_clockwise_dir c.prev l c.prev_pt c.pt (mid_point r))
      else ok c.walk) _ (anything _)
      (λ w _. bind Any (Stays c) (add full w ip false) _ (anything _) (λ v _. held (refl, h)))

  pass_to_stays : (c : Pass) (ip : Point64) (l : Location) (ip2 : Point64) (l2 : Location) → (same_point ip ip2 ≡ false → In r l c.pt) → Holds (Stays c) (pass_to full r c ip l ip2 l2)
  unfolding pass_to
  pass_to_stays c ip l ip2 l2 h =
      bind Any (Stays c)
      (if not (is_inside c.crossing_prev) && not (same_location c.crossing_prev l2)
      then add_corner_prev_curr full r c.walk c.crossing_prev l2 else ok c.walk) _ (anything _)
      (λ w _. bind Any (Stays c) (if is_inside c.first_cross then push_start_loc full w c.prev else ok w) _ (anything _)
      (λ v _. bind Any (Stays c) (add full v ip2 false) _ (anything _)
      (λ u _. either (Stays c) (same_point ip ip2) _ _
      (λ _. bind Any (Stays c) (add_corner_prev_curr full r u l (get_location r c.pt).loc) _ (anything _) (λ t _. held (refl, get_location_in r c.pt)))
      (λ ne. bind Any (Stays c) (add full u ip false) _ (anything _) (λ t _. held (refl, h ne))))))

  pub cross_stays : (c : Pass) (ip : Point64) (l : Location) → Limited c.pt → Limited c.prev_pt → Stop r c.pt c.prev c.loc → get_intersection r c.pt c.prev_pt c.loc ≡ found_at ip l
      → Holds (Stays c) (cross_boundary full r c ip l)
  unfolding cross_boundary pass_through leave
  cross_stays c ip l lp lq st e =
      either (Stays c) (is_inside c.loc) _ _ (λ _. enter_stays c ip l (stop_in r c.pt st))
      (λ o. either (Stays c) (not (is_inside c.prev)) _ _
      (λ b. by_second_search (λ ip2 l2. Holds (Stays c) (pass_to full r c ip l ip2 l2)) r c.prev_pt c.pt c.prev ip (pass_to_stays c ip l ip c.prev (λ ne. never (same_refl ip) ne))
      (λ ip2 l2 e2. pass_to_stays c ip l ip2 l2 (λ ne. through_any r lr k c.pt c.prev_pt lp lq c.prev c.loc st o b ip ip2 l l2 e e2 ne)))
      (λ b. bind Any (Stays c) (add full c.walk ip false) _ (anything _) (λ w _. held (refl, leave_any r lr k c.pt c.prev_pt lp lq c.prev c.loc st o b ip l e))))

-- ---- the loops
module _ (full : ℕ → Bool) (r : Rect64) (path : List Point64) where
  -- enough passes are left: one for each point, and one more unless the first of them will be gone past at once
  abbrev Budget : ℕ → ℕ → Location → Type 0
  Budget n i l = (length path < n + i) ⊎ ((length path ≤ n + i) × (i < length path → In r l (pt_at path i)))

  -- how a pass goes on from the point m at which `get_next_location` stopped
  abbrev Onward : ℕ → ℕ → Location → Type 0
  Onward m i l = (m < i) ⊎ ((i ≡ m) × (i < length path → In r l (pt_at path i)))

  budget : (n i : ℕ) (l : Location) → i < length path → Budget (suc n) i l → (nx : Next) → Reached full r path l i nx → (j : ℕ) (l' : Location) → Onward nx.i j l' → Budget n j l'
  budget n i l h (inl b) nx g j l' (inl o) = inl (omega (arith, g.later))
  budget n i l h (inl b) nx g j l' (inr o) = inr (omega (arith, g.later, o.0), o.1)
  budget n i l h (inr b) nx g j l' (inl o) = inl (omega (arith, g.gone (b.1 h), b.0))
  budget n i l h (inr b) nx g j l' (inr o) = inr (omega (arith, g.gone (b.1 h), b.0, o.0), o.1)

  over : (n i : ℕ) (l : Location) → Budget n i l → length path ≤ n + i
  over n i l (inl b) = omega arith
  over n i l (inr b) = b.0

  pub start : (i : ℕ) (l : Location) → 0 < i → Budget (length path) i l
  start i l h = inl (omega arith)

  pub start_one : (i : ℕ) (l : Location) → Budget (length path + 1) i l
  start_one i l = inl (omega arith)

  abbrev PastAll : State → Type 0
  PastAll t = length path ≤ t.i

  module _ (lr : LimitedRect r) (k : Proper r) (lim : All Limited path) where
    pub before_limited : (i : ℕ) → i < length path → Limited (pt_before path i)
    before_limited i h = go (ltb 0 i)
      where
        go : (b : Bool) → Limited (pt_at path (if b then i - 1 else length path - 1))
        go true = all_at Limited path (i - 1) origin lim (omega arith)
        go false = all_at Limited path (length path - 1) origin lim (omega arith)

    pass_onward : (s : State) (nx : Next) → Reached full r path s.loc s.i nx → Holds (λ (t : State). Onward nx.i t.i t.loc) (pass_from full r path s nx)
    unfolding pass_from
    pass_onward s nx h =
        either Q (leb (length path) nx.i) _ _ (λ e. held (inr (refl, λ g. absurd (let z : length path ≤ nx.i = leb→le (length path) nx.i (T_of e) in omega arith))))
        (λ e. let l : nx.i < length path = nleb→lt (length path) nx.i (T_not_of e) in
        by_search Q (get_intersection r (pt_at path nx.i) (pt_before path nx.i) nx.loc) _ _
        (λ _. weaker (GoesOn full r c) Q (remain_outside full r c) (remain_goes_on full r c) (λ t g. inl (omega (arith, g.0))))
        (λ ip cl f. weaker (Stays full r lr k c) Q (cross_boundary full r c ip cl) (cross_stays full r lr k c ip cl (all_at Limited path nx.i origin lim l) (before_limited nx.i l) (h.stopped l) f)
        (λ t g. inr (g.0, λ _. subst (λ (n : ℕ). In r t.loc (pt_at path n)) (sym g.0) g.1))))
      where
        Q : State → Type 0
        Q t = Onward nx.i t.i t.loc

        c : Pass
        c = record { walk = nx.walk; i = nx.i; prev = s.loc; loc = nx.loc; crossing_prev = s.crossing_loc; first_cross = s.first_cross; prev_pt = pt_before path nx.i; pt = pt_at path nx.i }

    pub passes_end : (n : ℕ) (s : State) → Budget n s.i s.loc → Holds PastAll (passes full r path n s)
    unfolding passes
    passes_end zero s b = held {a = s} (let z = over 0 s.i s.loc b in omega arith)
    passes_end (suc n) s b =
        either PastAll (ltb s.i (length path)) _ _
        (λ e. let l : s.i < length path = ltb→lt s.i (length path) (T_of e) in
        bind (λ (t : State). Budget n t.i t.loc) PastAll (get_next_location full r path s.walk s.loc s.i >>= pass_from full r path s) _
        (bind (Reached full r path s.loc s.i) (λ (t : State). Budget n t.i t.loc) (get_next_location full r path s.walk s.loc s.i) _ (reached full r path s.walk s.loc s.i l)
        (λ nx h. weaker (λ (t : State). Onward nx.i t.i t.loc) (λ (t : State). Budget n t.i t.loc) (pass_from full r path s nx) (pass_onward s nx h)
        (λ t o. budget n s.i s.loc l b nx h t.i t.loc o)))
        (λ t c. passes_end n t c))
        (λ e. held (nltb→le s.i (length path) (T_not_of e)))

  -- ---- the walk of lines: it stays where `get_next_location` stopped
  abbrev OnwardLine : Next → Next → Type 0
  OnwardLine nx t = Onward nx.i t.i t.loc

  stays_line : (nx : Next) → (nx.i < length path → In r nx.loc (pt_at path nx.i)) → (w : Walk) → OnwardLine nx (record { walk = w; loc = nx.loc; i = nx.i })
  stays_line nx h w = inr (refl, h)

  through_line : (nx : Next) (prev : Location) (q p ip : Point64) → (nx.i < length path → In r nx.loc (pt_at path nx.i)) → Holds (OnwardLine nx) (line_through full r nx prev q p ip)
  unfolding line_through
  through_line nx prev q p ip h =
      bind Any (OnwardLine nx) (add full nx.walk (second_search r q p prev ip).point true) _ (anything _)
      (λ w _. bind Any (OnwardLine nx) (add full w ip false) _ (anything _) (λ v _. held (stays_line nx h v)))

  cross_line : (nx : Next) (prev : Location) (q p ip : Point64) → (nx.i < length path → In r nx.loc (pt_at path nx.i)) → Holds (OnwardLine nx) (line_cross full r nx prev q p ip)
  unfolding line_cross
  cross_line nx prev q p ip h =
      either (OnwardLine nx) (is_inside nx.loc) _ _ (λ _. bind Any (OnwardLine nx) (add full nx.walk ip true) _ (anything _) (λ w _. held (stays_line nx h w)))
      (λ _. either (OnwardLine nx) (not (is_inside prev)) _ _ (λ _. through_line nx prev q p ip h)
      (λ _. bind Any (OnwardLine nx) (add full nx.walk ip false) _ (anything _) (λ w _. held (stays_line nx h w))))

  line_onward : (l : Location) (i : ℕ) (nx : Next) → Reached full r path l i nx → Holds (OnwardLine nx) (line_from full r path l nx)
  unfolding line_from
  line_onward l i nx h =
      either (OnwardLine nx) (leb (length path) nx.i) _ _ (λ e. held (inr (refl, λ g. absurd (let z : length path ≤ nx.i = leb→le (length path) nx.i (T_of e) in omega arith))))
      (λ e. by_search (OnwardLine nx) (get_intersection r (pt_at path nx.i) (pt_at path (nx.i - 1)) nx.loc) _ _ (λ _. held (inl (more nx.i)))
      (λ ip cl f. cross_line nx l (pt_at path (nx.i - 1)) (pt_at path nx.i) ip (λ g. stop_in r (pt_at path nx.i) (h.stopped g))))
    where
      more : (n : ℕ) → n < n + 1
      more n = omega arith

  abbrev PastAllLine : Next → Type 0
  PastAllLine t = length path ≤ t.i

  pub line_passes_end : (n : ℕ) (s : Next) → Budget n s.i s.loc → Holds PastAllLine (line_passes full r path n s)
  unfolding line_passes
  line_passes_end zero s b = held {a = s} (let z = over 0 s.i s.loc b in omega arith)
  line_passes_end (suc n) s b =
      either PastAllLine (ltb s.i (length path)) _ _
      (λ e. let l : s.i < length path = ltb→lt s.i (length path) (T_of e) in
      bind (λ (t : Next). Budget n t.i t.loc) PastAllLine (get_next_location full r path s.walk s.loc s.i >>= line_from full r path s.loc) _
      (bind (Reached full r path s.loc s.i) (λ (t : Next). Budget n t.i t.loc) (get_next_location full r path s.walk s.loc s.i) _ (reached full r path s.walk s.loc s.i l)
      (λ nx h. weaker (OnwardLine nx) (λ (t : Next). Budget n t.i t.loc) (line_from full r path s.loc nx) (line_onward s.loc s.i nx h)
      (λ t o. budget n s.i s.loc l b nx h t.i t.loc o)))
      (λ t c. line_passes_end n t c))
      (λ e. held (nltb→le s.i (length path) (T_not_of e)))

-- ---- the two statements
pub walk_ends : WalkEnds
walk_ends full rect coords l s hr hc he e =
    let o = not_empty_order rect he in
    let path = points_of coords in
    let k : Proper rect = record { wide = o.0; high = o.1 } in
    holds_ok {Q = λ (t : State). length path ≤ t.i} _ s
    (passes_end full rect path (rect_limited rect hr) k (points_limited coords hc) (length path + 1) (record { walk = nothing_yet; i = 0; loc = l; crossing_loc = Inside; first_cross = Inside }) (start_one full rect path 0 l)) e

-- no premise is needed
pub line_walk_ends : LineWalkEnds
line_walk_ends full rect coords w l s hr hc he e =
    let path = points_of coords in
    holds_ok {Q = λ (t : Next). length path ≤ t.i} _ s (line_passes_end full rect path (length path) (record { walk = w; loc = l; i = 1 }) (start full rect path 1 l (omega arith))) e
