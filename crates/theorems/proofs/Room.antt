-- Every walk, of closed paths and of open ones, is refused for want of room or not at all: no step has another refusal. So with room for all points
-- no walk is refused, and the walked outline is what that walk puts down. Assumes nothing.
use Rattle.std.specs.Prelude.{if◌then◌else◌, Option, None, Some}
use mathlib.Core.Path.{◌≡◌, refl}
use mathlib.Core.Bool.{Bool, true, false, cond, not, ◌&&◌, ◌||◌}
use mathlib.Core.List.{List, [], ◌∷◌}
use Prim.Native.Nat.{ℕ, zero, suc, ◌+◌, ◌-◌}
use lib.ListN.{length, drop}
use lib.Dec.{leb, ltb}
use Rattle.plane.specs.declared.crossing.SidePoint.{SidePoint}
use Rattle.plane.specs.declared.point.Point64.{Point64}
use Rattle.plane.specs.declared.rect.Rect64.{Rect64}
use Rattle.plane.specs.declared.location.Location.{Location}
use Rattle.plane.specs.declared.location.Location.TheVariants.{Left, Top, Right, Bottom, Inside}
use Rattle.plane.specs.Basics.{is_nil, Try, refuse, ok, ◌>>=◌}
use Rattle.plane.specs.Points.{pt_at, same_point}
use Rattle.plane.specs.Locations.{same_location, get_adjacent_location, is_inside}
use Rattle.plane.specs.Rectangle.{as_path, mid_point, contains_point, get_bounds_path, get_location, beyond}
use Rattle.plane.specs.Intersection.{get_intersection}
use Rattle.plane.specs.Polygon.{path1_contains_path2}
use Rattle.reference.specs.Counts.{corner_steps, walk_passes, line_walk_passes}
use Rattle.reference.specs.Walk.{Walk, unlimited, add, add_all, push_start_loc, Next, add_corner_prev_curr, add_corner_loc, add_corners, push_start_locs, next_inside, get_next_location, State, Pass, Walked, remain_outside, enter, pass_to, pass_through, leave, cross_boundary, add_round, retrace, close_outline, last_off, pt_before, pass_from, passes, surround, after_while, walk_from, walk_closed}
use Rattle.reference.specs.Lines.{first_off_edge, line_through, line_cross, line_from, line_passes, line_walk_from, walk_open}
use Rattle.theorems.specs.Outline.{RoomAlone, no_room_left, not_refused, OnlyRoomRefuses, Outlined, OutlineDrawn}
use Rattle.theorems.proofs.Unlimited.{outline_is}
use Rattle.theorems.proofs.Tests.{never}

-- ---- what follows, a choice, a search
module _ {full : ℕ → Bool} {A : Type 0} where
  follows : {B : Type 0} {m : Try B} (f : B → Try A) → RoomAlone full m → ((b : B) → RoomAlone full (f b)) → RoomAlone full (m >>= f)
  follows f (no_room_left n e) k = no_room_left n e
  follows f (not_refused b) k = k b

  choice : (b : Bool) {x y : Try A} → RoomAlone full x → RoomAlone full y → RoomAlone full (cond b x y)
  choice true h k = h
  choice false h k = k

  found : (s : Option SidePoint) {x : Try A} {f : Point64 → Location → Try A} → RoomAlone full x → ((p : Point64) (l : Location) → RoomAlone full (f p l)) → RoomAlone full {A = A} (elim s [ None ↦ x | Some found ↦ f found.point found.side ])
  found None h k = h
  found (Some f) h k = k f.point f.side

  -- the one place where a refusal comes from
  room : (n : ℕ) (a : A) → RoomAlone full (if full n then refuse 8 else ok a)
  room n a = go (full n) refl
    where
      go : (b : Bool) → full n ≡ b → RoomAlone full (if b then refuse 8 else ok a)
      go true e = no_room_left n e
      go false e = not_refused a

module _ (full : ℕ → Bool) where
  abbrev Roomed : {A : Type 0} → Try A → Type 0
  Roomed m = RoomAlone full m

  -- ---- what adds points and start sides
  added : (w : Walk) (p : Point64) (new : Bool) → Roomed (add full w p new)
  unfolding add
  added w p new = choice (is_nil w.points || new) (room _ _) (choice (same_point (pt_at w.points (length w.points - 1)) p) (not_refused w) (room _ _))

  all_added : (w : Walk) (ps : List Point64) → Roomed (add_all full w ps)
  unfolding add_all
  all_added w [] = not_refused w
  all_added w (p ∷ ps) = follows _ (added w p false) (λ v. all_added v ps)

  pushed : (w : Walk) (l : Location) → Roomed (push_start_loc full w l)
  unfolding push_start_loc
  pushed w l = room _ _

  module _ (r : Rect64) where
    corner_added : (w : Walk) (l m : Location) → Roomed (add_corner_prev_curr full r w l m)
    unfolding add_corner_prev_curr
    corner_added w l m = added w _ false

    corner_turned : (w : Walk) (l : Location) (cw : Bool) → Roomed (add_corner_loc full r w l cw)
    unfolding add_corner_loc
    corner_turned w l cw = follows _ (added w _ false) (λ v. not_refused _)

    corners_added : (n : ℕ) (w : Walk) (p l : Location) (cw : Bool) → Roomed (add_corners full r n w p l cw)
    unfolding add_corners
    corners_added zero w p l cw = not_refused w
    corners_added (suc n) w p l cw = follows _ (corner_turned w p cw) (λ t. choice (same_location t.1 l) (not_refused _) (corners_added n t.0 t.1 l cw))

    locs_pushed : (n : ℕ) (w : Walk) (p l : Location) (cw : Bool) → Roomed (push_start_locs full r n w p l cw)
    unfolding push_start_locs
    locs_pushed zero w p l cw = not_refused w
    locs_pushed (suc n) w p l cw = follows _ (pushed w p) (λ v. choice (same_location (get_adjacent_location p cw) l) (not_refused v) (locs_pushed n v (get_adjacent_location p cw) l cw))

    -- ---- `get_next_location`
    next_from_inside : (w : Walk) (i : ℕ) (ps : List Point64) → Roomed (next_inside full r w i ps)
    unfolding next_inside
    next_from_inside w i [] = not_refused _
    next_from_inside w i (p ∷ ps) =
        choice (beyond r Left p) (not_refused _) (choice (beyond r Right p) (not_refused _) (choice (beyond r Bottom p) (not_refused _) (choice (beyond r Top p) (not_refused _)
        (follows _ (added w p false) (λ v. next_from_inside v (i + 1) ps)))))

    next_found : (path : List Point64) (w : Walk) (l : Location) (i : ℕ) → Roomed (get_next_location full r path w l i)
    unfolding get_next_location
    next_found path w Left i = not_refused _
    next_found path w Top i = not_refused _
    next_found path w Right i = not_refused _
    next_found path w Bottom i = not_refused _
    next_found path w Inside i = next_from_inside w i (drop i path)

    -- ---- a pass of a closed path
    remained : (c : Pass) → Roomed (remain_outside full r c)
    unfolding remain_outside
    remained c =
        choice (is_inside c.crossing_prev) (follows _ (locs_pushed corner_steps _ _ _ _) (λ w. not_refused _))
        (choice (not (is_inside c.prev) && not (same_location c.prev c.loc)) (follows _ (corners_added corner_steps _ _ _ _) (λ w. not_refused _)) (not_refused _))

    entered : (c : Pass) (ip : Point64) (l : Location) → Roomed (enter full r c ip l)
    unfolding enter
    entered c ip l =
        follows _ (choice (is_inside c.first_cross) (pushed _ _) (choice (not (same_location c.prev l)) (corners_added corner_steps _ _ _ _) (not_refused _)))
        (λ w. follows _ (added w ip false) (λ v. not_refused _))

    passed : (c : Pass) (ip : Point64) (l : Location) (ip2 : Point64) (l2 : Location) → Roomed (pass_to full r c ip l ip2 l2)
    unfolding pass_to
    passed c ip l ip2 l2 =
        follows _ (choice (not (is_inside c.crossing_prev) && not (same_location c.crossing_prev l2)) (corner_added _ _ _) (not_refused _))
        (λ w. follows _ (choice (is_inside c.first_cross) (pushed w _) (not_refused w))
        (λ v. follows _ (added v ip2 false)
        (λ u. choice (same_point ip ip2) (follows _ (corner_added u _ _) (λ t. not_refused _)) (follows _ (added u ip false) (λ t. not_refused _)))))

    crossed : (c : Pass) (ip : Point64) (l : Location) → Roomed (cross_boundary full r c ip l)
    unfolding cross_boundary pass_through leave
    crossed c ip l = choice (is_inside c.loc) (entered c ip l) (choice (not (is_inside c.prev)) (passed c ip l _ _) (follows _ (added _ ip false) (λ w. not_refused _)))

    -- ---- of an open path
    line_crossed : (nx : Next) (prev : Location) (q p ip : Point64) → Roomed (line_cross full r nx prev q p ip)
    unfolding line_cross line_through
    line_crossed nx prev q p ip =
        choice (is_inside nx.loc) (follows _ (added _ ip true) (λ w. not_refused _))
        (choice (not (is_inside prev)) (follows _ (added _ _ true) (λ w. follows _ (added w ip false) (λ v. not_refused _))) (follows _ (added _ ip false) (λ w. not_refused _)))

    -- ---- behind the closed path's `while`
    went_round : (w : Walk) (es : List (ℕ × ℕ)) (ks : List ℕ) → Roomed (add_round full r w es ks)
    unfolding add_round
    went_round w es [] = not_refused _
    went_round w es (k ∷ ks) = follows _ (added w _ false) (λ v. went_round v _ ks)

    retraced : (w : Walk) (p : Location) (ls : List Location) → Roomed (retrace full r w p ls)
    unfolding retrace
    retraced w p [] = not_refused _
    retraced w p (l ∷ ls) = choice (same_location p l) (retraced w p ls) (follows _ (corner_turned w p _) (λ t. retraced t.0 l ls))

    outline_closed : (s : State) → Roomed (close_outline full r s)
    unfolding close_outline
    outline_closed s =
        follows _ (retraced _ _ _)
        (λ t. follows _ (choice (not (same_location t.1 s.first_cross)) (follows _ (corner_turned _ _ _) (λ u. not_refused _)) (not_refused _)) (λ w. not_refused _))

    module _ (path : List Point64) where
      surrounded : (w : Walk) → Roomed (surround full r path w)
      unfolding surround
      surrounded w = choice (contains_point (get_bounds_path path) (mid_point r) && path1_contains_path2 path (as_path r)) (went_round w [] _) (not_refused _)

      finished : (l : Location) (s : State) → Roomed (after_while full r path l s)
      unfolding after_while
      finished l s =
          choice (is_inside s.first_cross) (choice (not (is_inside l)) (surrounded s.walk) (not_refused _))
          (choice (not (is_inside s.loc) && (not (same_location s.loc s.first_cross) || ltb 2 (length s.walk.start_locs))) (outline_closed s) (not_refused _))

      -- ---- the passes
      closed_pass : (s : State) (nx : Next) → Roomed (pass_from full r path s nx)
      unfolding pass_from
      closed_pass s nx = choice (leb (length path) nx.i) (not_refused _) (found (get_intersection r (pt_at path nx.i) (pt_before path nx.i) nx.loc) (remained _) (λ ip l. crossed _ ip l))

      closed_passes : (n : ℕ) (s : State) → Roomed (passes full r path n s)
      unfolding passes
      closed_passes zero s = not_refused s
      closed_passes (suc n) s = choice (ltb s.i (length path)) (follows _ (follows _ (next_found path _ _ _) (λ nx. closed_pass s nx)) (λ t. closed_passes n t)) (not_refused s)

      open_pass : (prev : Location) (nx : Next) → Roomed (line_from full r path prev nx)
      unfolding line_from
      open_pass prev nx = choice (leb (length path) nx.i) (not_refused nx) (found (get_intersection r (pt_at path nx.i) (pt_at path (nx.i - 1)) nx.loc) (not_refused _) (λ ip l. line_crossed nx prev _ _ ip))

      open_passes : (n : ℕ) (s : Next) → Roomed (line_passes full r path n s)
      unfolding line_passes
      open_passes zero s = not_refused s
      open_passes (suc n) s = choice (ltb s.i (length path)) (follows _ (follows _ (next_found path _ _ _) (λ nx. open_pass s.loc nx)) (λ t. open_passes n t)) (not_refused s)

      -- ---- the walks
      closed_from : (l : Location) → Roomed (walk_from full r path l)
      unfolding walk_from
      closed_from l = follows _ (closed_passes (walk_passes (length path)) _) (λ s. finished l s)

      closed_walk : Roomed (walk_closed full r path)
      unfolding walk_closed
      closed_walk =
          choice (is_nil path) (not_refused _)
          (choice (get_location r (pt_at path (length path - 1))).off (closed_from _)
          (found (last_off r path (length path - 1)) (follows _ (all_added _ path) (λ w. not_refused _)) (λ p l. closed_from _)))

      open_from : (l : Location) → Roomed (line_walk_from full r path l)
      unfolding line_walk_from
      open_from l = follows _ (choice (is_inside l) (added _ _ false) (not_refused _)) (λ w. follows _ (open_passes (line_walk_passes (length path)) _) (λ s. not_refused _))

      open_walk : Roomed (walk_open full r path)
      unfolding walk_open
      open_walk =
          choice (ltb (length path) 2) (not_refused _)
          (choice (get_location r (pt_at path 0)).off (open_from _) (found (first_off_edge r (drop 1 path)) (all_added _ path) (λ p l. open_from _)))

pub only_room_refuses : OnlyRoomRefuses
only_room_refuses true full rect path = closed_walk full rect path
only_room_refuses false full rect path = open_walk full rect path

-- with room for all points there is no refusal
pub outline_drawn : OutlineDrawn
outline_drawn rect path = go (walk_closed unlimited rect path) refl (closed_walk unlimited rect path)
  where
    go : (m : Try Walked) → walk_closed unlimited rect path ≡ m → RoomAlone unlimited m → Outlined rect path
    go m e (no_room_left n f) = never f refl
    go m e (not_refused w) = record { walked = w; is_walk = e; outline = outline_is rect path w e }
