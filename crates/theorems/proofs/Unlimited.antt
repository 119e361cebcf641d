-- A walk with limited lists either runs out of room, or is the walk with unlimited ones: what a call walks is the walked outline.
use Rattle.std.specs.Prelude.{if◌then◌else◌, Option, None, Some}
use mathlib.Core.Path.{◌≡◌, ap}
use mathlib.Core.Bool.{Bool, true, false, cond, not, ◌&&◌, ◌||◌}
use mathlib.Core.List.{List, [], ◌∷◌}
use Prim.Native.Nat.{ℕ, zero, suc, ◌+◌, ◌-◌}
use native.Mathlib.Omega.{arith}
use lib.ListN.{length, drop}
use lib.Dec.{leb, ltb}
use Rattle.plane.specs.declared.crossing.SidePoint.{SidePoint}
use Rattle.plane.specs.declared.point.Point64.{Point64}
use Rattle.plane.specs.declared.rect.Rect64.{Rect64}
use Rattle.plane.specs.declared.location.Location.{Location}
use Rattle.plane.specs.declared.location.Location.TheVariants.{Left, Top, Right, Bottom, Inside}
use Rattle.plane.specs.Basics.{is_nil, Try, refuse, ok, ◌>>=◌}
use Rattle.plane.specs.Locations.{side, same_location, get_adjacent_location, heading_clockwise, is_inside}
use Rattle.plane.specs.Points.{pt_at, same_point}
use Rattle.plane.specs.Rectangle.{get_location, mid_point, contains_point, get_bounds_path, as_path, corner, beyond}
use Rattle.plane.specs.Intersection.{get_intersection}
use Rattle.plane.specs.Polygon.{path1_contains_path2}
use Rattle.reference.specs.Walk.{Walk, unlimited, nothing_yet, add, add_all, push_start_loc, Next, add_corner_prev_curr, add_corner_loc, add_corners, push_start_locs, next_inside, next_outside, next_side, get_next_location, State, Pass, Walked, remain_outside, enter, pass_to, pass_through, leave, cross_boundary, pt_before, pass_from, passes, last_off, add_round, surround, retrace, close_outline, after_while, walk_from, walk_closed, walked_outline}
use Rattle.theorems.specs.Outline.{WalksOutline}

pub data Agree {A : Type 0} : Try A → Try A → Type 0 where
  ran_out : {n : Try A} → Agree (refuse 8) n
  agrees : {m : Try A} → Agree m m

pub bind_agree : {A B : Type 0} {m n : Try A} (f g : A → Try B) → Agree m n → ((a : A) → Agree (f a) (g a)) → Agree (m >>= f) (n >>= g)
bind_agree f g ran_out k = ran_out
bind_agree {A} {B} f g (agrees {m}) k = go m
  where
    go : (m : Try A) → Agree (m >>= f) (m >>= g)
    go (refuse n) = agrees
    go (ok a) = k a

pub if_agree : {A : Type 0} (b : Bool) {x x' y y' : Try A} → Agree x x' → Agree y y' → Agree (cond b x y) (cond b x' y')
if_agree true h k = h
if_agree false h k = k

pub search_agree : {A : Type 0} (m : Option SidePoint) (x : Try A) (y : Try A) (f g : Point64 → Location → Try A) → Agree x y → ((q : Point64) (t : Location) → Agree (f q t) (g q t))
    → Agree {A = A} (elim m [ None ↦ x | Some found ↦ f found.point found.side ]) (elim m [ None ↦ y | Some found ↦ g found.point found.side ])
search_agree None x y f g h k = h
search_agree (Some found) x y f g h k = k found.point found.side

module _ (full : ℕ → Bool) where
  -- the only difference
  room : {A : Type 0} (b : Bool) (x : Try A) → Agree (cond b (refuse 8) x) x
  room true x = ran_out
  room false x = agrees

  pub add_agrees : (w : Walk) (pt : Point64) (b : Bool) → Agree (add full w pt b) (add unlimited w pt b)
  unfolding add
  add_agrees w pt b =
      if_agree (is_nil w.points || b) (room (full (length w.points)) _)
      (if_agree (same_point (pt_at w.points (length w.points - 1)) pt) agrees (room (full (length w.points)) _))

  pub add_all_agrees : (w : Walk) (ps : List Point64) → Agree (add_all full w ps) (add_all unlimited w ps)
  unfolding add_all
  add_all_agrees w [] = agrees
  add_all_agrees w (p ∷ ps) = bind_agree _ _ (add_agrees w p false) (λ v. add_all_agrees v ps)

  pub push_agrees : (w : Walk) (loc : Location) → Agree (push_start_loc full w loc) (push_start_loc unlimited w loc)
  unfolding push_start_loc
  push_agrees w loc = room (full (length w.start_locs)) _

  module _ (rect : Rect64) where
    corner_curr_agrees : (w : Walk) (prev curr : Location) → Agree (add_corner_prev_curr full rect w prev curr) (add_corner_prev_curr unlimited rect w prev curr)
    unfolding add_corner_prev_curr
    corner_curr_agrees w prev curr = add_agrees w _ false

    corner_loc_agrees : (w : Walk) (loc : Location) (cw : Bool) → Agree (add_corner_loc full rect w loc cw) (add_corner_loc unlimited rect w loc cw)
    unfolding add_corner_loc
    corner_loc_agrees w loc cw = bind_agree _ _ (add_agrees w (corner rect (if cw then loc else get_adjacent_location loc cw)) false) (λ v. agrees)

    corners_agree : (left : ℕ) (w : Walk) (p loc : Location) (cw : Bool) → Agree (add_corners full rect left w p loc cw) (add_corners unlimited rect left w p loc cw)
    unfolding add_corners
    corners_agree zero w p loc cw = agrees
    corners_agree (suc left) w p loc cw = bind_agree _ _ (corner_loc_agrees w p cw) (λ t. if_agree (same_location t.1 loc) agrees (corners_agree left t.0 t.1 loc cw))

    start_locs_agree : (left : ℕ) (w : Walk) (p loc : Location) (cw : Bool) → Agree (push_start_locs full rect left w p loc cw) (push_start_locs unlimited rect left w p loc cw)
    unfolding push_start_locs
    start_locs_agree zero w p loc cw = agrees
    start_locs_agree (suc left) w p loc cw =
        bind_agree _ _ (push_agrees w p) (λ v. if_agree (same_location (get_adjacent_location p cw) loc) agrees (start_locs_agree left v (get_adjacent_location p cw) loc cw))

    inside_agrees : (w : Walk) (i : ℕ) (ps : List Point64) → Agree (next_inside full rect w i ps) (next_inside unlimited rect w i ps)
    unfolding next_inside
    inside_agrees w i [] = agrees
    inside_agrees w i (p ∷ ps) =
        if_agree (beyond rect Left p) agrees (if_agree (beyond rect Right p) agrees (if_agree (beyond rect Bottom p) agrees (if_agree (beyond rect Top p) agrees
        (bind_agree _ _ (add_agrees w p false) (λ v. inside_agrees v (i + 1) ps)))))

    pub next_agrees : (path : List Point64) (w : Walk) (loc : Location) (i : ℕ) → Agree (get_next_location full rect path w loc i) (get_next_location unlimited rect path w loc i)
    unfolding get_next_location next_outside next_side
    next_agrees path w Left i = agrees
    next_agrees path w Top i = agrees
    next_agrees path w Right i = agrees
    next_agrees path w Bottom i = agrees
    next_agrees path w Inside i = inside_agrees w i (drop i path)

    remain_agrees : (c : Pass) → Agree (remain_outside full rect c) (remain_outside unlimited rect c)
    unfolding remain_outside
    remain_agrees c =
        if_agree (is_inside c.crossing_prev) (bind_agree _ _ (start_locs_agree 4 c.walk c.prev c.loc _) (λ w. agrees))
        (if_agree (not (is_inside c.prev) && not (same_location c.prev c.loc)) (bind_agree _ _ (corners_agree 4 c.walk c.prev c.loc _) (λ w. agrees)) agrees)

    enter_agrees : (c : Pass) (ip : Point64) (loc : Location) → Agree (enter full rect c ip loc) (enter unlimited rect c ip loc)
    unfolding enter
    enter_agrees c ip loc =
        bind_agree _ _
        (if_agree (is_inside c.first_cross) (push_agrees c.walk c.prev) (if_agree (not (same_location c.prev loc)) (corners_agree 4 c.walk c.prev loc _) agrees))
        (λ w. bind_agree _ _ (add_agrees w ip false) (λ v. agrees))

    pass_to_agrees : (c : Pass) (ip : Point64) (loc : Location) (ip2 : Point64) (loc2 : Location) → Agree (pass_to full rect c ip loc ip2 loc2) (pass_to unlimited rect c ip loc ip2 loc2)
    unfolding pass_to
    pass_to_agrees c ip loc ip2 loc2 =
        bind_agree _ _ (if_agree (not (is_inside c.crossing_prev) && not (same_location c.crossing_prev loc2)) (corner_curr_agrees c.walk c.crossing_prev loc2) agrees)
        (λ w. bind_agree _ _ (if_agree (is_inside c.first_cross) (push_agrees w c.prev) agrees)
        (λ v. bind_agree _ _ (add_agrees v ip2 false)
        (λ u. if_agree (same_point ip ip2) (bind_agree _ _ (corner_curr_agrees u loc (get_location rect c.pt).loc) (λ t. agrees)) (bind_agree _ _ (add_agrees u ip false) (λ t. agrees)))))

    cross_agrees : (c : Pass) (ip : Point64) (loc : Location) → Agree (cross_boundary full rect c ip loc) (cross_boundary unlimited rect c ip loc)
    unfolding cross_boundary pass_through leave
    cross_agrees c ip loc =
        if_agree (is_inside c.loc) (enter_agrees c ip loc)
        (if_agree (not (is_inside c.prev))
        (pass_to_agrees c ip loc _ _)
        (bind_agree _ _ (add_agrees c.walk ip false) (λ w. agrees)))

    module _ (path : List Point64) where
      from_agrees : (s : State) (n : Next) → Agree (pass_from full rect path s n) (pass_from unlimited rect path s n)
      unfolding pass_from
      from_agrees s n =
          if_agree (leb (length path) n.i) agrees
          (search_agree (get_intersection rect (pt_at path n.i) (pt_before path n.i) n.loc) _ _ _ _ (remain_agrees _) (λ ip loc. cross_agrees _ ip loc))

      passes_agree : (left : ℕ) (s : State) → Agree (passes full rect path left s) (passes unlimited rect path left s)
      unfolding passes
      passes_agree zero s = agrees
      passes_agree (suc left) s =
          if_agree (ltb s.i (length path))
          (bind_agree _ _ (bind_agree _ _ (next_agrees path s.walk s.loc s.i) (λ n. from_agrees s n)) (λ t. passes_agree left t)) agrees

      round_agrees : (w : Walk) (es : List (ℕ × ℕ)) (ks : List ℕ) → Agree (add_round full rect w es ks) (add_round unlimited rect w es ks)
      unfolding add_round
      round_agrees w es [] = agrees
      round_agrees w es (k ∷ ks) = bind_agree _ _ (add_agrees w (corner rect (side k)) false) (λ v. round_agrees v _ ks)

      retrace_agrees : (w : Walk) (p : Location) (ls : List Location) → Agree (retrace full rect w p ls) (retrace unlimited rect w p ls)
      unfolding retrace
      retrace_agrees w p [] = agrees
      retrace_agrees w p (l ∷ ls) = if_agree (same_location p l) (retrace_agrees w p ls) (bind_agree _ _ (corner_loc_agrees w p (heading_clockwise p l)) (λ t. retrace_agrees t.0 l ls))

      after_agrees : (loc : Location) (s : State) → Agree (after_while full rect path loc s) (after_while unlimited rect path loc s)
      unfolding after_while surround close_outline
      after_agrees loc s =
          if_agree (is_inside s.first_cross)
          (if_agree (not (is_inside loc))
          (if_agree (contains_point (get_bounds_path path) (mid_point rect) && path1_contains_path2 path (as_path rect)) (round_agrees s.walk [] _) agrees) agrees)
          (if_agree (not (is_inside s.loc) && (not (same_location s.loc s.first_cross) || ltb 2 (length s.walk.start_locs)))
          (bind_agree _ _ (retrace_agrees s.walk s.loc s.walk.start_locs)
          (λ t. bind_agree _ _ (if_agree (not (same_location t.1 s.first_cross)) (bind_agree _ _ (corner_loc_agrees t.0 t.1 _) (λ u. agrees)) agrees) (λ w. agrees)))
          agrees)

      walk_from_agrees : (loc : Location) → Agree (walk_from full rect path loc) (walk_from unlimited rect path loc)
      unfolding walk_from
      walk_from_agrees loc = bind_agree _ _ (passes_agree (length path + 1) _) (λ s. after_agrees loc s)

      pub walk_agrees : Agree (walk_closed full rect path) (walk_closed unlimited rect path)
      unfolding walk_closed
      walk_agrees =
          if_agree (is_nil path) agrees
          (if_agree (get_location rect (pt_at path (length path - 1))).off (walk_from_agrees _)
          (search_agree (last_off rect path (length path - 1)) _ _ _ _ (bind_agree _ _ (add_all_agrees nothing_yet path) (λ w. agrees)) (λ p prev. walk_from_agrees _)))

-- the walked outline is the points of the unlimited walk
pub outline_is : (rect : Rect64) (path : List Point64) (w : Walked) → walk_closed unlimited rect path ≡ ok w → walked_outline rect path ≡ w.walk.points
unfolding walked_outline
outline_is rect path w e = ap {B = List Point64} (λ (m : Try Walked). elim m [ refuse n ↦ [] | ok v ↦ v.walk.points ]) e

-- a call that walks and is not refused walks the outline
pub walks_outline : WalksOutline
walks_outline full rect path w e = outline_is rect path w (same _ _ (walk_agrees full rect path) e)
  where
    same : (m n : Try Walked) → Agree m n → m ≡ ok w → n ≡ ok w
    same m n ran_out e = let z : ◌≡◌ {A = ℕ} 0 1 = cc in absurd (omega arith)
    same m n agrees e = e
