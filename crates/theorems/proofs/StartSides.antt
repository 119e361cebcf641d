-- The start locations that the closed walk notes are sides: each part of a pass keeps them so, where it comes from a side.
use Rattle.std.specs.Prelude.{if◌then◌else◌}
use mathlib.Core.Path.{◌≡◌, refl}
use mathlib.Core.Bool.{Bool, true, false, not, ◌&&◌, ◌||◌}
use mathlib.Core.List.{List, [], ◌∷◌, ◌++◌}
use Prim.Native.Nat.{ℕ, zero, suc, ◌+◌, ◌-◌, ◌%◌}
use lib.ListN.{length, drop}
use Rattle.plane.specs.declared.point.Point64.{Point64}
use Rattle.plane.specs.declared.rect.Rect64.{Rect64}
use Rattle.plane.specs.declared.location.Location.{Location}
use Rattle.plane.specs.declared.location.Location.TheVariants.{Left, Top, Right, Bottom, Inside}
use Rattle.plane.specs.Basics.{is_nil, ok}
use Rattle.plane.specs.Points.{pt_at, same_point}
use Rattle.plane.specs.Locations.{same_location, side, side_number, get_adjacent_location, is_inside}
use Rattle.plane.specs.Rectangle.{mid_point, get_location, beyond, corner}
use Rattle.plane.specs.Signs.{is_clockwise_dir}
use Rattle.reference.specs.Walk.{Walk, add, push_start_loc, add_corner_prev_curr, add_corner_loc, add_corners, push_start_locs, Next, next_outside, next_inside, get_next_location, State, Pass, remain_outside, enter, pass_to, pass_through, leave, cross_boundary}
use Rattle.theorems.specs.CornerLoops.{AllSides}
use Rattle.theorems.proofs.Holds.{Holds, refused, held, bind, either}
use Rattle.theorems.proofs.Tests.{not-false}

side_out : (n : ℕ) → is_inside (side n) ≡ false
side_out zero = refl
side_out (suc zero) = refl
side_out (suc (suc zero)) = refl
side_out (suc (suc (suc n))) = refl

adjacent_out : (p : Location) (cw : Bool) → is_inside (get_adjacent_location p cw) ≡ false
adjacent_out p cw = side_out ((side_number p + (if cw then 1 else 3)) % 4)

one_more : (ls : List Location) (l : Location) → AllSides ls → is_inside l ≡ false → AllSides (ls ++ l ∷ [])
one_more [] l h e = (e, tt)
one_more (x ∷ ls) l h e = (h.0, one_more ls l h.1 e)

abbrev pub Sides : Walk → Type 0
Sides w = AllSides w.start_locs

abbrev pub SidesIn : State → Type 0
SidesIn s = Sides s.walk

abbrev NextSides : Next → Type 0
NextSides n = Sides n.walk

abbrev ToSides : Walk × Location → Type 0
ToSides t = Sides t.0

module _ (full : ℕ → Bool) where
  add_sides : (w : Walk) (p : Point64) (b : Bool) → Sides w → Holds Sides (add full w p b)
  unfolding add
  add_sides w p b h =
      either Sides (is_nil w.points || b) _ _ (λ _. either Sides (full (length w.points)) _ _ (λ _. refused) (λ _. held h))
      (λ _. either Sides (same_point (pt_at w.points (length w.points - 1)) p) _ _ (λ _. held h) (λ _. either Sides (full (length w.points)) _ _ (λ _. refused) (λ _. held h)))

  push_sides : (w : Walk) (l : Location) → Sides w → is_inside l ≡ false → Holds Sides (push_start_loc full w l)
  unfolding push_start_loc
  push_sides w l h e = either Sides (full (length w.start_locs)) _ _ (λ _. refused) (λ _. held (one_more w.start_locs l h e))

  module _ (r : Rect64) where
    corners_sides : (n : ℕ) (w : Walk) (p l : Location) (cw : Bool) → Sides w → Holds Sides (add_corners full r n w p l cw)
    unfolding add_corners add_corner_loc
    corners_sides zero w p l cw h = held h
    corners_sides (suc n) w p l cw h =
        bind ToSides Sides (add_corner_loc full r w p cw) _
        (bind Sides ToSides (add full w (corner r (if cw then p else get_adjacent_location p cw)) false) _ (add_sides w _ false h) (λ v k. held k))
        (λ t k. either Sides (same_location t.1 l) _ _ (λ _. held k) (λ _. corners_sides n t.0 t.1 l cw k))

    pushes_sides : (n : ℕ) (w : Walk) (p l : Location) (cw : Bool) → Sides w → is_inside p ≡ false → Holds Sides (push_start_locs full r n w p l cw)
    unfolding push_start_locs
    pushes_sides zero w p l cw h e = held h
    pushes_sides (suc n) w p l cw h e =
        bind Sides Sides (push_start_loc full w p) _ (push_sides w p h e)
        (λ v k. either Sides (same_location (get_adjacent_location p cw) l) _ _ (λ _. held k) (λ _. pushes_sides n v (get_adjacent_location p cw) l cw k (adjacent_out p cw)))

    -- ---- `get_next_location`
    inside_sides : (w : Walk) (i : ℕ) (ps : List Point64) → Sides w → Holds NextSides (next_inside full r w i ps)
    unfolding next_inside
    inside_sides w i [] h = held h
    inside_sides w i (p ∷ ps) h =
        either NextSides (beyond r Left p) _ _ (λ _. held h)
        (λ _. either NextSides (beyond r Right p) _ _ (λ _. held h)
        (λ _. either NextSides (beyond r Bottom p) _ _ (λ _. held h)
        (λ _. either NextSides (beyond r Top p) _ _ (λ _. held h)
        (λ _. bind Sides NextSides (add full w p false) _ (add_sides w p false h) (λ v k. inside_sides v (i + 1) ps k)))))

    pub next_sides : (path : List Point64) (w : Walk) (l : Location) (i : ℕ) → Sides w → Holds NextSides (get_next_location full r path w l i)
    unfolding get_next_location next_outside
    next_sides path w Left i h = held h
    next_sides path w Top i h = held h
    next_sides path w Right i h = held h
    next_sides path w Bottom i h = held h
    next_sides path w Inside i h = inside_sides w i (drop i path) h

    -- ---- a pass
    pub remain_sides : (c : Pass) → Sides c.walk → is_inside c.prev ≡ false → Holds SidesIn (remain_outside full r c)
    unfolding remain_outside
    remain_sides c h e =
        let d = is_clockwise_dir c.prev c.loc c.prev_pt c.pt (mid_point r) in
        either SidesIn (is_inside c.crossing_prev) _ _
        (λ _. bind Sides SidesIn (push_start_locs full r 4 c.walk c.prev c.loc d) _ (pushes_sides 4 c.walk c.prev c.loc d h e) (λ w k. held k))
        (λ _. either SidesIn (not (is_inside c.prev) && not (same_location c.prev c.loc)) _ _
        (λ _. bind Sides SidesIn (add_corners full r 4 c.walk c.prev c.loc d) _ (corners_sides 4 c.walk c.prev c.loc d h) (λ w k. held k))
        (λ _. held h))

    enter_sides : (c : Pass) (ip : Point64) (l : Location) → Sides c.walk → is_inside c.prev ≡ false → Holds SidesIn (enter full r c ip l)
    unfolding enter
    enter_sides c ip l h e =
        let d = is_clockwise_dir c.prev l c.prev_pt c.pt (mid_point r) in
        bind Sides SidesIn
        (if is_inside c.first_cross then push_start_loc full c.walk c.prev
        else if not (same_location c.prev l) then add_corners full r 4 c.walk c.prev l d
        else ok c.walk) _
        (either Sides (is_inside c.first_cross) _ _ (λ _. push_sides c.walk c.prev h e)
        (λ _. either Sides (not (same_location c.prev l)) _ _ (λ _. corners_sides 4 c.walk c.prev l d h) (λ _. held h)))
        (λ w k. bind Sides SidesIn (add full w ip false) _ (add_sides w ip false k) (λ v g. held g))

    pass_to_sides : (c : Pass) (ip : Point64) (l : Location) (ip2 : Point64) (l2 : Location) → Sides c.walk → is_inside c.prev ≡ false → Holds SidesIn (pass_to full r c ip l ip2 l2)
    unfolding pass_to add_corner_prev_curr
    pass_to_sides c ip l ip2 l2 h e =
        bind Sides SidesIn
        (if not (is_inside c.crossing_prev) && not (same_location c.crossing_prev l2)
        then add_corner_prev_curr full r c.walk c.crossing_prev l2 else ok c.walk) _
        (either Sides (not (is_inside c.crossing_prev) && not (same_location c.crossing_prev l2)) _ _ (λ _. add_sides c.walk _ false h) (λ _. held h))
        (λ w k. bind Sides SidesIn (if is_inside c.first_cross then push_start_loc full w c.prev else ok w) _
        (either Sides (is_inside c.first_cross) _ _ (λ _. push_sides w c.prev k e) (λ _. held k))
        (λ v g. bind Sides SidesIn (add full v ip2 false) _ (add_sides v ip2 false g)
        (λ u m. either SidesIn (same_point ip ip2) _ _
        (λ _. bind Sides SidesIn (add_corner_prev_curr full r u l (get_location r c.pt).loc) _ (add_sides u _ false m) (λ t n. held n))
        (λ _. bind Sides SidesIn (add full u ip false) _ (add_sides u ip false m) (λ t n. held n)))))

    pub cross_sides : (c : Pass) (ip : Point64) (l : Location) → Sides c.walk → (is_inside c.loc ≡ true → is_inside c.prev ≡ false) → Holds SidesIn (cross_boundary full r c ip l)
    unfolding cross_boundary pass_through leave
    cross_sides c ip l h f =
        either SidesIn (is_inside c.loc) _ _ (λ i. enter_sides c ip l h (f i))
        (λ _. either SidesIn (not (is_inside c.prev)) _ _
        (λ b. pass_to_sides c ip l _ _ h (not-false (is_inside c.prev) b))
        (λ _. bind Sides SidesIn (add full c.walk ip false) _ (add_sides c.walk ip false h) (λ w k. held k)))
