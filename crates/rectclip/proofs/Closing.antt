-- A pass of the closed walk, by its cases. Assumes nothing.
use mathlib.Core.Path.{◌≡◌, refl, ◌∙◌, ap}
use mathlib.Core.Bool.{Bool, true, false}
use mathlib.Core.List.{List}
use Prim.Native.Nat.{ℕ, ◌+◌, ◌<◌, ◌≤◌}
use borrow.Author.Tests.{le-leb, lt-leb}
use lib.ListN.{length}
use Rattle.plane.specs.declared.point.Point64.{Point64}
use Rattle.plane.specs.declared.rect.Rect64.{Rect64}
use Rattle.plane.specs.declared.location.Location.{Location}
use Rattle.plane.specs.declared.crossing.SidePoint.{SidePoint}
use Rattle.plane.specs.Basics.{Try, refuse, ok, ◌>>=◌}
use Rattle.plane.specs.Intersection.{found_at, get_intersection}
use Rattle.plane.specs.Locations.{is_inside, same_location}
use Rattle.plane.specs.Points.{same_point, pt_at}
use Rattle.plane.specs.Rectangle.{mid_point, get_location}
use Rattle.plane.specs.Signs.{is_clockwise_dir}
use Rattle.reference.specs.Walk.{Walk, State, no_room, add, push_start_loc, push_start_locs, add_corners, add_corner_prev_curr, second_search, remain_outside, enter, pass_to, pass_through, leave, cross_boundary, pt_before, pass_from}
use Rattle.reference.specs.Walk as def
use Rattle.std.specs.Prelude.{None}
use Rattle.rectclip.specs.Closing.{moves_on, first_of, enter_corners, pass_corner, pass_start, pass_in, pass_out}

-- ---- the definition, by its cases
module _ (full : ℕ → Bool) (rect : Rect64) (c : def.Pass) where
  abbrev turn : Location → Bool
  turn l = is_clockwise_dir c.prev l c.prev_pt c.pt (mid_point rect)

  abbrev went_on : Location → Walk → Try State
  went_on x w = ok (record { walk = w; i = c.i + 1; loc = c.loc; crossing_loc = x; first_cross = c.first_cross })

  pub outside_starts : is_inside c.crossing_prev ≡ true → (push_start_locs full rect 4 c.walk c.prev c.loc (turn c.loc) >>= went_on c.crossing_prev) ≡ remain_outside full rect c
  unfolding remain_outside
  outside_starts e = rw e refl

  pub outside_corners : is_inside c.crossing_prev ≡ false → moves_on c.prev c.loc ≡ true
      → (add_corners full rect 4 c.walk c.prev c.loc (turn c.loc) >>= went_on c.loc) ≡ remain_outside full rect c
  unfolding remain_outside
  outside_corners e f = rw (e, f) refl

  pub outside_stays : is_inside c.crossing_prev ≡ false → moves_on c.prev c.loc ≡ false → (ok c.walk >>= went_on c.loc) ≡ remain_outside full rect c
  unfolding remain_outside
  outside_stays e f = rw (e, f) refl

  module _ (x : Location) where
    pub entry_first : is_inside c.first_cross ≡ true → push_start_loc full c.walk c.prev ≡ enter_corners full rect c x
    unfolding enter_corners
    entry_first e = rw e refl

    pub entry_same : is_inside c.first_cross ≡ false → same_location c.prev x ≡ true → ok c.walk ≡ enter_corners full rect c x
    unfolding enter_corners
    entry_same e f = rw (e, f) refl

    pub entry_corners : is_inside c.first_cross ≡ false → same_location c.prev x ≡ false → add_corners full rect 4 c.walk c.prev x (turn x) ≡ enter_corners full rect c x
    unfolding enter_corners
    entry_corners e f = rw (e, f) refl

    pub entry_parts : (ip : Point64) → (enter_corners full rect c x >>= λ w. add full w ip false >>= λ v. ok (record { walk = v; i = c.i; loc = c.loc; crossing_loc = x; first_cross = first_of c.first_cross x })) ≡ enter full rect c ip x
    unfolding enter_corners enter
    entry_parts ip = refl

    pub leave_parts : (ip : Point64) → (add full c.walk ip false >>= λ w. ok (record { walk = w; i = c.i; loc = x; crossing_loc = x; first_cross = first_of c.first_cross x })) ≡ leave full rect c ip x
    unfolding leave
    leave_parts ip = refl

    module _ (ip : Point64) where
      pub crossing_enters : is_inside c.loc ≡ true → enter full rect c ip x ≡ cross_boundary full rect c ip x
      unfolding cross_boundary
      crossing_enters e = rw e refl

      pub crossing_passes : is_inside c.loc ≡ false → is_inside c.prev ≡ false → pass_through full rect c ip x ≡ cross_boundary full rect c ip x
      unfolding cross_boundary
      crossing_passes e f = rw (e, f) refl

      pub crossing_leaves : is_inside c.loc ≡ false → is_inside c.prev ≡ true → leave full rect c ip x ≡ cross_boundary full rect c ip x
      unfolding cross_boundary
      crossing_leaves e f = rw (e, f) refl

      pub through_second : {q : SidePoint} → q ≡ second_search rect c.prev_pt c.pt c.prev ip → pass_to full rect c ip x q.point q.side ≡ pass_through full rect c ip x
      unfolding pass_through
      through_second e = ap (λ (q : SidePoint). pass_to full rect c ip x q.point q.side) e

-- a passing segment: the corner, the start side and the point where it comes in; then where it goes out
module _ (full : ℕ → Bool) (rect : Rect64) (w : Walk) (x loc : Location) where
  pub corner_passed : moves_on x loc ≡ true → add_corner_prev_curr full rect w x loc ≡ pass_corner full rect w x loc
  unfolding pass_corner
  corner_passed e = rw e refl

  pub corner_none : moves_on x loc ≡ false → ok w ≡ pass_corner full rect w x loc
  unfolding pass_corner
  corner_none e = rw e refl

module _ (full : ℕ → Bool) (w : Walk) (f prev : Location) where
  pub start_first : is_inside f ≡ true → push_start_loc full w prev ≡ pass_start full w f prev
  unfolding pass_start
  start_first e = rw e refl

  pub start_none : is_inside f ≡ false → ok w ≡ pass_start full w f prev
  unfolding pass_start
  start_none e = rw e refl

pub in_parts : (full : ℕ → Bool) (rect : Rect64) (c : def.Pass) (ip2 : Point64) (loc : Location)
    → (pass_corner full rect c.walk c.crossing_prev loc >>= λ w. pass_start full w c.first_cross c.prev >>= λ v. add full v ip2 false) ≡ pass_in full rect c ip2 loc
unfolding pass_in
in_parts full rect c ip2 loc = refl

module _ (full : ℕ → Bool) (rect : Rect64) (c : def.Pass) (ip : Point64) (x : Location) (ip2 : Point64) (loc : Location) where
  -- the state behind it
  abbrev gone : Location → Walk → State
  gone l w = record { walk = w; i = c.i; loc = l; crossing_loc = l; first_cross = first_of c.first_cross loc }

  pub out_corner : same_point ip ip2 ≡ true → (on : Location) → on ≡ (get_location rect c.pt).loc → (add_corner_prev_curr full rect c.walk x on >>= λ w. ok (gone on w)) ≡ pass_out full rect c ip x ip2 loc
  unfolding pass_out
  out_corner e on h = rw (e, h) refl

  pub out_point : same_point ip ip2 ≡ false → (add full c.walk ip false >>= λ w. ok (gone x w)) ≡ pass_out full rect c ip x ip2 loc
  unfolding pass_out
  out_point e = rw e refl

pub bind_assoc : {A B C : Type 0} (t : Try A) (f : A → Try B) (g : B → Try C) → (t >>= f >>= g) ≡ (t >>= λ a. f a >>= g)
bind_assoc (refuse n) f g = refl
bind_assoc (ok a) f g = refl

pub bind_ap : {A B : Type 0} (t : Try A) (f g : A → Try B) → ((a : A) → f a ≡ g a) → (t >>= f) ≡ (t >>= g)
bind_ap (refuse n) f g e = refl
bind_ap (ok a) f g e = e a

-- a pass, with another walk
abbrev pub at_walk : def.Pass → Walk → def.Pass
at_walk c w = record { walk = w; i = c.i; prev = c.prev; loc = c.loc; crossing_prev = c.crossing_prev; first_cross = c.first_cross; prev_pt = c.prev_pt; pt = c.pt }

pub pass_parts : (full : ℕ → Bool) (rect : Rect64) (c : def.Pass) (ip : Point64) (x : Location) (ip2 : Point64) (loc : Location)
    → (pass_in full rect c ip2 loc >>= λ w. pass_out full rect (at_walk c w) ip x ip2 loc) ≡ pass_to full rect c ip x ip2 loc
unfolding pass_in pass_to pass_out pass_corner pass_start
pass_parts full rect c ip x ip2 loc =
    let out : Walk → Try State = λ w. pass_out full rect (at_walk c w) ip x ip2 loc in
    bind_assoc (pass_corner full rect c.walk c.crossing_prev loc) (λ w. pass_start full w c.first_cross c.prev >>= λ v. add full v ip2 false) out
    ∙ bind_ap (pass_corner full rect c.walk c.crossing_prev loc) (λ w. pass_start full w c.first_cross c.prev >>= (λ v. add full v ip2 false) >>= out) (λ w. pass_start full w c.first_cross c.prev >>= λ v. add full v ip2 false >>= out)
    (λ w. bind_assoc (pass_start full w c.first_cross c.prev) (λ v. add full v ip2 false) out)

-- ---- behind `get_next_location`
module _ (full : ℕ → Bool) (rect : Rect64) (P : List Point64) (s : State) (nx : def.Next) where
  abbrev known : def.Pass
  known = record { walk = nx.walk; i = nx.i; prev = s.loc; loc = nx.loc; crossing_prev = s.crossing_loc; first_cross = s.first_cross; prev_pt = pt_before P nx.i; pt = pt_at P nx.i }

  pub from_past : length P ≤ nx.i → ok (record { walk = nx.walk; i = nx.i; loc = nx.loc; crossing_loc = s.crossing_loc; first_cross = s.first_cross }) ≡ pass_from full rect P s nx
  unfolding pass_from
  from_past h = rw (le-leb (length P) nx.i h) refl

  pub from_missed : nx.i < length P → get_intersection rect (pt_at P nx.i) (pt_before P nx.i) nx.loc ≡ None → remain_outside full rect known ≡ pass_from full rect P s nx
  unfolding pass_from
  from_missed h e = rw (lt-leb (length P) nx.i h, e) refl

  pub from_found : nx.i < length P → {ip : Point64} {x : Location} → get_intersection rect (pt_at P nx.i) (pt_before P nx.i) nx.loc ≡ found_at ip x → cross_boundary full rect known ip x ≡ pass_from full rect P s nx
  unfolding pass_from
  from_found h e = rw (lt-leb (length P) nx.i h, e) refl
