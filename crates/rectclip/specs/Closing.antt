-- The closed walk: what a pass knows and hands on, and parts of a pass that the code has in functions of their own.
use Rattle.std.specs.Prelude.{Bool, false, not, ◌&&◌, List, ℕ, if◌then◌else◌, Result}
use Rattle.plane.specs.declared.point.Point64.{Point64}
use Rattle.plane.specs.declared.rect.Rect64.{Rect64}
use Rattle.plane.specs.declared.location.Location.{Location}
use Rattle.plane.specs.Basics.{Try, ok, ◌>>=◌}
use Rattle.plane.specs.Locations.{is_inside, same_location}
use Rattle.plane.specs.Points.{same_point}
use Rattle.plane.specs.Rectangle.{mid_point, get_location}
use Rattle.plane.specs.Signs.{is_clockwise_dir}
use Rattle.reference.specs.Walk.{Walk, Next, State, add, push_start_loc, add_corners, add_corner_prev_curr, get_next_location, pass_from}
use Rattle.reference.specs.Walk as def
use Rattle.entry.specs.declared.answer.Refusal.{Refusal}
use Rattle.rectclip.specs.declared.pass.ClosedState.{ClosedState}
use Rattle.rectclip.specs.declared.pass.Pass.{Pass}
use Rattle.rectclip.specs.declared.corners.Way.{Way}
use Rattle.rectclip.specs.declared.walk.Walker.{Walker}
use Rattle.rectclip.specs.Steps.{walk, Answers}

-- ---- the definition's records, of a walker
abbrev pub passed : Walk → ClosedState → State
passed w s = record { walk = w; i = s.i; loc = s.loc; crossing_loc = s.crossing_loc; first_cross = s.first_cross }

abbrev pub state_of : Walker → ClosedState → State
state_of x s = passed (walk x) s

abbrev pub pass_of : Walker → Pass → def.Pass
pass_of x c = record {
  walk = walk x;
  i = c.i;
  prev = c.prev;
  loc = c.loc;
  crossing_prev = c.crossing_prev;
  first_cross = c.first_cross;
  prev_pt = c.segment.from;
  pt = c.segment.to;
}

-- a step that answers a pass's state
abbrev pub Advances : Try State → Walker → Walker → Result ClosedState Refusal → Type 0
Advances = Answers state_of

-- ---- parts of a pass
-- the way of a pass that comes to side `to`
abbrev pub way_to : Rect64 → Pass → Location → Way
way_to rect c to = record { from = c.prev; to = to; is_clockwise = is_clockwise_dir c.prev to c.segment.from c.segment.to (mid_point rect) }

abbrev pub moves_on : Location → Location → Bool
moves_on prev loc = not (is_inside prev) && not (same_location prev loc)

abbrev pub first_of : Location → Location → Location
first_of first_cross loc = if is_inside first_cross then loc else first_cross

module _ (full : ℕ → Bool) (rect : Rect64) where
  -- of `enter`, before the point is added
  unfoldable pub enter_corners : def.Pass → Location → Try Walk
  enter_corners c crossing_loc =
      if is_inside c.first_cross then push_start_loc full c.walk c.prev
      else if not (same_location c.prev crossing_loc)
      then add_corners full rect 4 c.walk c.prev crossing_loc (is_clockwise_dir c.prev crossing_loc c.prev_pt c.pt (mid_point rect))
      else ok c.walk

  -- of `pass_to`: the corner, the start side, the point where the segment comes in
  unfoldable pub pass_corner : Walk → Location → Location → Try Walk
  pass_corner w crossing_prev loc = if moves_on crossing_prev loc then add_corner_prev_curr full rect w crossing_prev loc else ok w

unfoldable pub pass_start : (ℕ → Bool) → Walk → Location → Location → Try Walk
pass_start full w first_cross prev = if is_inside first_cross then push_start_loc full w prev else ok w

module _ (full : ℕ → Bool) (rect : Rect64) where
  unfoldable pub pass_in : def.Pass → Point64 → Location → Try Walk
  pass_in c ip2 loc = pass_corner full rect c.walk c.crossing_prev loc >>= λ w. pass_start full w c.first_cross c.prev >>= λ v. add full v ip2 false

  -- of `pass_to`: where it goes out, on side crossing_loc
  unfoldable pub pass_out : def.Pass → Point64 → Location → Point64 → Location → Try State
  pass_out c ip crossing_loc ip2 loc =
      let after : Location → Walk → Try State = λ l w. ok (record { walk = w; i = c.i; loc = l; crossing_loc = l; first_cross = first_of c.first_cross loc }) in
      let on : Location = (get_location rect c.pt).loc in
      if same_point ip ip2 then (add_corner_prev_curr full rect c.walk crossing_loc on >>= after on)
      else (add full c.walk ip false >>= after crossing_loc)

-- one pass of the `while`
unfoldable pub one_pass : (ℕ → Bool) → Rect64 → List Point64 → State → Try State
one_pass full rect path s = get_next_location full rect path s.walk s.loc s.i >>= pass_from full rect path s
