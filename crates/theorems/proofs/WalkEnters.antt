-- What the walk enters in edge lists: nothing, or the four corners alone. One fact of geometry is a premise, `EntryFound`.
use Rattle.std.specs.Prelude.{if◌then◌else◌, None}
use mathlib.Core.Path.{◌≡◌, refl, sym, ◌∙◌, ap, subst}
use mathlib.Core.Bool.{Bool, true, false, cond, not, ◌&&◌, ◌||◌}
use mathlib.Core.List.{List, [], ◌∷◌}
use mathlib.Core.Logic.{⊎_elim, ◌⊎◌, inl, inr}
use Prim.Native.Nat.{ℕ, zero, suc, ◌+◌, ◌-◌, ◌<◌, ◌≤◌}
use native.Mathlib.Omega.{arith}
use lib.ListN.{length, get_or, drop, length-drop}
use lib.Seq.{get_or-drop}
use lib.Dec.{leb, ltb, nleb→lt, ltb→lt}
use borrow.Author.Tests.{lt-ltb}
use lib.Signed.{le_z, ◌<ℤ◌}
use Rattle.integers.specs.Order.{zint}
use Rattle.integers.specs.Tests.{T_of, T_not_of, eq_z, ne_eqZ, leZ_false}
use Rattle.plane.specs.declared.point.Point64.{Point64}
use Rattle.plane.specs.declared.rect.Rect64.{Rect64}
use Rattle.plane.specs.declared.location.Location.{Location}
use Rattle.plane.specs.declared.location.Location.TheVariants.{Left, Top, Right, Bottom, Inside}
use Rattle.plane.specs.Basics.{push, is_nil, lead, Try, ok, ◌>>=◌}
use Rattle.plane.specs.Rectangle.{is_empty, get_location, mid_point, contains_point, get_bounds_path, as_path, corner, beyond_or_on}
use Rattle.plane.specs.Points.{pt_at, origin, same_point}
use Rattle.plane.specs.Locations.{same_location, heading_clockwise, start_locs_are_clockwise, is_inside}
use Rattle.plane.specs.Intersection.{get_intersection}
use Rattle.plane.specs.Signs.{is_clockwise_dir}
use Rattle.plane.specs.Polygon.{path1_contains_path2}
use Rattle.reference.specs.Walk.{Walk, nothing_yet, add, add_all, Next, add_corner_loc, push_start_locs, next_side, next_outside, get_next_location, State, Pass, remain_outside, pt_before, pass_from, passes, last_off, add_round, surround, retrace, close_outline, after_while, walk_from, walk_closed}
use Rattle.theorems.specs.Rings.{Entered}
use Rattle.theorems.proofs.Holds.{Holds, refused, held, bind, either, by_search, anything, holds_map}
use Rattle.theorems.proofs.FirstCrossing.{EntryFound, clash, found_side, NotIn, cross_out, remain_out, start_points, next_region, spot_region}
use Rattle.theorems.proofs.Tests.{neither}

-- ---- `lead`
lead_go : (test : Point64 → Bool) (x : Point64) (l : List Point64) (d : Point64) (t : Bool) → test x ≡ t → cond t (suc (lead test l)) 0 < suc (length l) → (lead test l < length l → test (get_or l (lead test l) d) ≡ false)
    → test (get_or (x ∷ l) (cond t (suc (lead test l)) 0) d) ≡ false
lead_go test x l d true e h r = r (omega arith)
lead_go test x l d false e h r = e

lead_stop : (test : Point64 → Bool) (l : List Point64) (d : Point64) → lead test l < length l → test (get_or l (lead test l) d) ≡ false
lead_stop test [] d = λ h. absurd (omega arith)
lead_stop test (x ∷ l) d = λ h. lead_go test x l d (test x) refl h (lead_stop test l d)

lead_up : (test : Point64 → Bool) (x : Point64) (l : List Point64) (d : Point64) (t : Bool) → test x ≡ t → ((j : ℕ) → j < lead test l → test (get_or l j d) ≡ true) → (j : ℕ) → j < cond t (suc (lead test l)) 0 → test (get_or (x ∷ l) j d) ≡ true
lead_up test x l d true e r zero h = e
lead_up test x l d true e r (suc j) h = r j (omega arith)
lead_up test x l d false e r j h = absurd (omega arith)

lead_all : (test : Point64 → Bool) (l : List Point64) (d : Point64) (j : ℕ) → j < lead test l → test (get_or l j d) ≡ true
lead_all test [] d = λ j h. absurd (omega arith)
lead_all test (x ∷ l) d = lead_up test x l d (test x) refl (lead_all test l d)

before_is : (path : List Point64) (k : ℕ) → 0 < k → pt_before path k ≡ pt_at path (k - 1)
before_is path k h = ap (λ (b : Bool). pt_at path (cond b (k - 1) (length path - 1))) (lt-ltb 0 k h)

inside_is : (l : Location) → l ≡ Inside → is_inside l ≡ true
inside_is l e = ap is_inside e

-- ---- until a crossing is found no point is put down
module _ (full : ℕ → Bool) (rect : Rect64) (path : List Point64) (found : EntryFound rect path) where
  abbrev St : State → Type 0
  St s = is_inside s.first_cross ≡ true → (s.walk.points ≡ []) × (is_inside s.crossing_loc ≡ true) × (s.i < length path → (is_inside s.loc ≡ false) × (beyond_or_on rect s.loc (pt_before path s.i) ≡ true))

  out_st : (s : State) → NotIn s → St s
  out_st s h e = clash (is_inside s.first_cross) e h

  -- from outside: the next location
  next_is : (w : Walk) (l : Location) (i : ℕ) → is_inside l ≡ false → get_next_location full rect path w l i ≡ ok (next_outside rect path w l i)
  unfolding get_next_location
  next_is w Left i h = refl
  next_is w Top i h = refl
  next_is w Right i h = refl
  next_is w Bottom i h = refl
  next_is w Inside i h = clash true refl h

  module _ (l : Location) (i : ℕ) (li : is_inside l ≡ false) (bo : beyond_or_on rect l (pt_before path i) ≡ true) where
    abbrev m : ℕ
    m = lead (beyond_or_on rect l) (drop i path)

    abbrev k : ℕ
    k = i + m

    stops : k < length path → beyond_or_on rect l (pt_at path k) ≡ false
    stops h =
        subst (λ (p : Point64). beyond_or_on rect l p ≡ false) (get_or-drop i path m origin)
        (lead_stop (beyond_or_on rect l) (drop i path) origin (let e = length-drop i path in omega arith))

    prior_go : (j : ℕ) → m ≡ j → beyond_or_on rect l (pt_before path k) ≡ true
    prior_go zero e = subst (λ (x : ℕ). beyond_or_on rect l (pt_before path x) ≡ true) (let z : i ≡ i + m = omega arith in z) bo
    prior_go (suc j) e =
        subst (λ (p : Point64). beyond_or_on rect l p ≡ true)
        (get_or-drop i path j origin ∙ ap (pt_at path) (let z : i + j ≡ k - 1 = omega arith in z) ∙ sym (before_is path k (omega arith)))
        (lead_all (beyond_or_on rect l) (drop i path) origin j (omega arith))

    prior : beyond_or_on rect l (pt_before path k) ≡ true
    prior = prior_go m refl

    -- where no crossing is found the point is outside
    outside : k < length path → get_intersection rect (pt_at path k) (pt_before path k) (next_side rect l (pt_at path k)) ≡ None
        → (is_inside (next_side rect l (pt_at path k)) ≡ false) × (beyond_or_on rect (next_side rect l (pt_at path k)) (pt_at path k) ≡ true)
    outside h e = ⊎_elim
        (λ z. absurd (found l k h li prior (stops h) z (ap (get_intersection rect (pt_at path k) (pt_before path k)) (sym z) ∙ e)))
        (λ z. z) (next_region full rect l (pt_at path k) li)

  remain_st : (c : Pass) → c.walk.points ≡ [] → is_inside c.crossing_prev ≡ true → is_inside c.loc ≡ false → beyond_or_on rect c.loc (pt_before path (c.i + 1)) ≡ true → Holds St (remain_outside full rect c)
  unfolding remain_outside
  remain_st c p x y z =
      either St (is_inside c.crossing_prev) _ _
      (λ e. bind (λ (w : Walk). w.points ≡ []) St (push_start_locs full rect 4 c.walk c.prev c.loc (is_clockwise_dir c.prev c.loc c.prev_pt c.pt (mid_point rect))) _
      (start_points full rect 4 c.walk c.prev c.loc (is_clockwise_dir c.prev c.loc c.prev_pt c.pt (mid_point rect)) p) (λ w q. held (λ _. (q, x, (λ _. (y, z))))))
      (λ e. clash (is_inside c.crossing_prev) x e)

  from_out : (s : State) (n : Next) → NotIn s → Holds NotIn (pass_from full rect path s n)
  unfolding pass_from
  from_out s n h =
      either NotIn (leb (length path) n.i) _ _ (λ e. held h)
      (λ e. by_search NotIn (get_intersection rect (pt_at path n.i) (pt_before path n.i) n.loc) _ _ (λ z. remain_out full rect _ h)
      (λ ip l z. cross_out full rect _ ip l (found_side rect (pt_at path n.i) (pt_before path n.i) ip l n.loc z)))

  from_st : (s : State) (n : Next) → s.walk.points ≡ [] → n.walk ≡ s.walk → is_inside s.crossing_loc ≡ true
      → (n.i < length path → get_intersection rect (pt_at path n.i) (pt_before path n.i) n.loc ≡ None → (is_inside n.loc ≡ false) × (beyond_or_on rect n.loc (pt_at path n.i) ≡ true))
      → Holds St (pass_from full rect path s n)
  unfolding pass_from
  from_st s n p w x f =
      either St (leb (length path) n.i) _ _ (λ e. held (λ _. (ap (λ (v : Walk). v.points) w ∙ p, x, (λ l. absurd (let h : length path ≤ n.i = borrow.Author.Tests.leb-true (length path) n.i e in omega arith)))))
      (λ e.
      let l : n.i < length path = nleb→lt (length path) n.i (T_not_of e) in
      by_search St (get_intersection rect (pt_at path n.i) (pt_before path n.i) n.loc) _ _
      (λ z. remain_st _ (ap (λ (v : Walk). v.points) w ∙ p) x (f l z).0 (subst (λ (q : Point64). beyond_or_on rect n.loc q ≡ true) (sym (before_is path (n.i + 1) (omega arith) ∙ ap (pt_at path) (let g : n.i + 1 - 1 ≡ n.i = omega arith in g))) (f l z).1))
      (λ ip t z. holds_map out_st (cross_out full rect _ ip t (found_side rect (pt_at path n.i) (pt_before path n.i) ip t n.loc z))))

  step_go : (s : State) → St s → s.i < length path → (b : Bool) → is_inside s.first_cross ≡ b → Holds St (get_next_location full rect path s.walk s.loc s.i >>= pass_from full rect path s)
  unfolding next_outside
  step_go s h l true e =
      let q = h e in
      let r = q.2 l in
      subst (λ (t : Try Next). Holds St (t >>= pass_from full rect path s)) (sym (next_is s.walk s.loc s.i r.0))
      (from_st s (next_outside rect path s.walk s.loc s.i) q.0 refl q.1
      (λ lk z.
      let K = k s.loc s.i r.0 r.1 in
      let nl : (next_outside rect path s.walk s.loc s.i).loc ≡ next_side rect s.loc (pt_at path K) = ap (λ (b : Bool). cond b s.loc (next_side rect s.loc (pt_at path K))) (borrow.Author.Tests.lt-leb (length path) K lk) in
      let o = outside s.loc s.i r.0 r.1 lk (ap (get_intersection rect (pt_at path K) (pt_before path K)) (sym nl) ∙ z) in
      (ap is_inside nl ∙ o.0, ap (λ (t : Location). beyond_or_on rect t (pt_at path K)) nl ∙ o.1)))
  step_go s h l false e = bind (λ (n : Next). Unit {0}) St (get_next_location full rect path s.walk s.loc s.i) _ (anything _) (λ n z. holds_map out_st (from_out s n e))

  passes_st : (left : ℕ) (s : State) → St s → Holds St (passes full rect path left s)
  unfolding passes
  passes_st zero s h = held h
  passes_st (suc left) s h =
      either St (ltb s.i (length path)) _ _
      (λ e. bind St St (get_next_location full rect path s.walk s.loc s.i >>= pass_from full rect path s) _ (step_go s h (ltb→lt s.i (length path) (T_of e)) (is_inside s.first_cross) refl) (λ t q. passes_st left t q))
      (λ e. held h)

-- ---- round the rectangle
and_l : (x y : Bool) → x ≡ false → x && y ≡ false
and_l false y e = refl
and_l true y e = let z : ◌≡◌ {A = ℕ} 0 1 = cc in absurd (omega arith)

and_r : (x y : Bool) → y ≡ false → x && y ≡ false
and_r false y e = refl
and_r true y e = e

or_l : (x : Bool) → x || false ≡ false → x ≡ false
or_l false e = refl
or_l true e = e

module _ (full : ℕ → Bool) (rect : Rect64) (proper : is_empty rect ≡ false) where
  wide : rect.left <ℤ rect.right
  wide = leZ_false (neither (le_z rect.right rect.left) (le_z rect.bottom rect.top) proper).0

  high : rect.top <ℤ rect.bottom
  high = leZ_false (neither (le_z rect.right rect.left) (le_z rect.bottom rect.top) proper).1

  left_right : eq_z rect.left rect.right ≡ false
  left_right = ne_eqZ rect.left rect.right (λ e. let w = wide in omega zint)

  right_left : eq_z rect.right rect.left ≡ false
  right_left = ne_eqZ rect.right rect.left (λ e. let w = wide in omega zint)

  top_bottom : eq_z rect.top rect.bottom ≡ false
  top_bottom = ne_eqZ rect.top rect.bottom (λ e. let w = high in omega zint)

  bottom_top : eq_z rect.bottom rect.top ≡ false
  bottom_top = ne_eqZ rect.bottom rect.top (λ e. let w = high in omega zint)

  fresh_add : (w : Walk) (pt : Point64) (xs : List Point64) → w.points ≡ xs → (is_nil xs ≡ true) ⊎ (same_point (pt_at xs (length xs - 1)) pt ≡ false) → Holds (λ (v : Walk). v.points ≡ push xs pt) (add full w pt false)
  unfolding add
  fresh_add w pt xs e h =
      let Q : Walk → Type 0 = λ v. v.points ≡ push xs pt in
      let g : push w.points pt ≡ push xs pt = ap (λ (l : List Point64). push l pt) e in
      either Q (is_nil w.points || false) _ _ (λ a. either Q (full (length w.points)) _ _ (λ f. refused) (λ f. held g))
      (λ a. either Q (same_point (pt_at w.points (length w.points - 1)) pt) _ _
      (λ b. ⊎_elim (λ z. clash (is_nil w.points) (ap is_nil e ∙ z) (or_l (is_nil w.points) a))
      (λ z. clash (same_point (pt_at xs (length xs - 1)) pt) (ap (λ (l : List Point64). same_point (pt_at l (length l - 1)) pt) (sym e) ∙ b) z) h)
      (λ b. either Q (full (length w.points)) _ _ (λ f. refused) (λ f. held g)))

  abbrev c0 : Point64
  c0 = corner rect Left

  abbrev c1 : Point64
  c1 = corner rect Top

  abbrev c2 : Point64
  c2 = corner rect Right

  abbrev c3 : Point64
  c3 = corner rect Bottom

  round_cw : (w : Walk) → w.points ≡ [] → Holds Entered (add_round full rect w [] (0 ∷ 1 ∷ 2 ∷ 3 ∷ []))
  unfolding add_round
  round_cw w e =
      bind (λ (v : Walk). v.points ≡ c0 ∷ []) Entered (add full w c0 false) _ (fresh_add w c0 [] e (inl refl))
      (λ v1 e1. bind (λ (v : Walk). v.points ≡ c0 ∷ c1 ∷ []) Entered (add full v1 c1 false) _ (fresh_add v1 c1 (c0 ∷ []) e1 (inr (and_l (eq_z rect.left rect.right) _ left_right)))
      (λ v2 e2. bind (λ (v : Walk). v.points ≡ c0 ∷ c1 ∷ c2 ∷ []) Entered (add full v2 c2 false) _ (fresh_add v2 c2 (c0 ∷ c1 ∷ []) e2 (inr (and_r (eq_z rect.right rect.right) (eq_z rect.top rect.bottom) top_bottom)))
      (λ v3 e3. bind (λ (v : Walk). v.points ≡ c0 ∷ c1 ∷ c2 ∷ c3 ∷ []) Entered (add full v3 c3 false) _ (fresh_add v3 c3 (c0 ∷ c1 ∷ c2 ∷ []) e3 (inr (and_l (eq_z rect.right rect.left) _ right_left)))
      (λ v4 e4. held (inr (ap length e4, inl (λ i. (0, length (e1 i) - 1) ∷ (2, length (e2 i) - 1) ∷ (4, length (e3 i) - 1) ∷ (6, length (e4 i) - 1) ∷ [])))))))

  round_ccw : (w : Walk) → w.points ≡ [] → Holds Entered (add_round full rect w [] (3 ∷ 2 ∷ 1 ∷ 0 ∷ []))
  unfolding add_round
  round_ccw w e =
      bind (λ (v : Walk). v.points ≡ c3 ∷ []) Entered (add full w c3 false) _ (fresh_add w c3 [] e (inl refl))
      (λ v1 e1. bind (λ (v : Walk). v.points ≡ c3 ∷ c2 ∷ []) Entered (add full v1 c2 false) _ (fresh_add v1 c2 (c3 ∷ []) e1 (inr (and_l (eq_z rect.left rect.right) _ left_right)))
      (λ v2 e2. bind (λ (v : Walk). v.points ≡ c3 ∷ c2 ∷ c1 ∷ []) Entered (add full v2 c1 false) _ (fresh_add v2 c1 (c3 ∷ c2 ∷ []) e2 (inr (and_r (eq_z rect.right rect.right) (eq_z rect.bottom rect.top) bottom_top)))
      (λ v3 e3. bind (λ (v : Walk). v.points ≡ c3 ∷ c2 ∷ c1 ∷ c0 ∷ []) Entered (add full v3 c0 false) _ (fresh_add v3 c0 (c3 ∷ c2 ∷ c1 ∷ []) e3 (inr (and_l (eq_z rect.right rect.left) _ right_left)))
      (λ v4 e4. held (inr (ap length e4, inr (λ i. (6, length (e1 i) - 1) ∷ (4, length (e2 i) - 1) ∷ (2, length (e3 i) - 1) ∷ (0, length (e4 i) - 1) ∷ [])))))))

  round : (b : Bool) (w : Walk) → w.points ≡ [] → Holds Entered (add_round full rect w [] (cond b (0 ∷ 1 ∷ 2 ∷ 3 ∷ []) (3 ∷ 2 ∷ 1 ∷ 0 ∷ [])))
  round true w e = round_cw w e
  round false w e = round_ccw w e

  module _ (path : List Point64) (found : EntryFound rect path) where
    surround_enters : (w : Walk) → w.points ≡ [] → Holds Entered (surround full rect path w)
    unfolding surround
    surround_enters w e =
        either Entered (contains_point (get_bounds_path path) (mid_point rect) && path1_contains_path2 path (as_path rect)) _ _ (λ z. round (start_locs_are_clockwise w.start_locs) w e) (λ z. held (inl refl))

    close_enters : (s : State) → Holds Entered (close_outline full rect s)
    unfolding close_outline
    close_enters s =
        bind (λ (t : Walk × Location). Unit {0}) Entered (retrace full rect s.walk s.loc s.walk.start_locs) _ (anything _)
        (λ t z. bind (λ (w : Walk). Unit {0}) Entered
        (if not (same_location t.1 s.first_cross)
        then (add_corner_loc full rect t.0 t.1 (heading_clockwise t.1 s.first_cross) >>= λ u. ok u.0)
        else ok t.0) _ (anything _) (λ w y. held (inl refl)))

    after_enters : (loc : Location) (s : State) → (is_inside loc ≡ false → St full rect path found s) → Holds Entered (after_while full rect path loc s)
    unfolding after_while
    after_enters loc s h =
        either Entered (is_inside s.first_cross) _ _
        (λ e. either Entered (not (is_inside loc)) _ _ (λ z. surround_enters s.walk (h (not-false (is_inside loc) z) e).0) (λ z. held (inl refl)))
        (λ e. either Entered (not (is_inside s.loc) && (not (same_location s.loc s.first_cross) || ltb 2 (length s.walk.start_locs))) _ _ (λ z. close_enters s) (λ z. held (inl refl)))
      where
        not-false : (b : Bool) → not b ≡ true → b ≡ false
        not-false false q = refl
        not-false true q = let z : ◌≡◌ {A = ℕ} 0 1 = cc in absurd (omega arith)

    from_enters : (loc : Location) → (is_inside loc ≡ false → beyond_or_on rect loc (pt_at path (length path - 1)) ≡ true) → Holds Entered (walk_from full rect path loc)
    unfolding walk_from
    from_enters loc h = go (is_inside loc) refl
      where
        first : State
        first = record { walk = nothing_yet; i = 0; loc = loc; crossing_loc = Inside; first_cross = Inside }

        go : (b : Bool) → is_inside loc ≡ b → Holds Entered (passes full rect path (length path + 1) (record { walk = nothing_yet; i = 0; loc = loc; crossing_loc = Inside; first_cross = Inside }) >>= after_while full rect path loc)
        go true e = bind (λ (s : State). Unit {0}) Entered (passes full rect path (length path + 1) (record { walk = nothing_yet; i = 0; loc = loc; crossing_loc = Inside; first_cross = Inside })) _ (anything _) (λ s z. after_enters loc s (λ q. clash (is_inside loc) e q))
        go false e =
            bind (St full rect path found) Entered (passes full rect path (length path + 1) (record { walk = nothing_yet; i = 0; loc = loc; crossing_loc = Inside; first_cross = Inside })) _
            (passes_st full rect path found (length path + 1) _ (λ z. (refl, refl, (λ y. (e, h e))))) (λ s z. after_enters loc s (λ q. z))

    at_last : is_inside (get_location rect (pt_at path (length path - 1))).loc ≡ false → beyond_or_on rect (get_location rect (pt_at path (length path - 1))).loc (pt_at path (length path - 1)) ≡ true
    at_last h = ⊎_elim (λ z. clash (is_inside (get_location rect (pt_at path (length path - 1))).loc) (inside_is _ z) h) (λ z. z.1) (spot_region full rect (pt_at path (length path - 1)))

    starts : (b : Bool) → let l : Location = cond b Inside (get_location rect (pt_at path (length path - 1))).loc in is_inside l ≡ false → beyond_or_on rect l (pt_at path (length path - 1)) ≡ true
    starts true h = clash true refl h
    starts false h = at_last h

    pub walk_enters : Holds Entered (walk_closed full rect path)
    unfolding walk_closed
    walk_enters =
        either Entered (is_nil path) _ _ (λ e. held (inl refl))
        (λ e. either Entered (get_location rect (pt_at path (length path - 1))).off _ _ (λ z. from_enters _ at_last)
        (λ z. by_search Entered (last_off rect path (length path - 1)) _ _ (λ m. bind (λ (w : Walk). Unit {0}) Entered (add_all full nothing_yet path) _ (anything _) (λ w y. held (inl refl)))
        (λ p prev m. from_enters _ (starts (is_inside prev)))))
