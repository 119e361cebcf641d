-- The closed walk's two loops round the corners, `add_corners` and `push_start_locs`, wherever a call comes to them: each goes from a side to a
-- side and has ended within its count. And no other corner is put down at Inside, which has none. Statements only, pass by pass along the definition.
use Rattle.std.specs.Prelude.{◌≡◌, Bool, true, false, ◌⊎◌, List, [], ◌∷◌, ℕ, zero, suc, T, ℤ, None}
use Rattle.plane.specs.declared.point.Point64.{Point64}
use Rattle.plane.specs.declared.rect.Rect64.{Rect64}
use Rattle.plane.specs.declared.location.Location.{Location}
use Rattle.plane.specs.Basics.{ok}
use Rattle.plane.specs.Points.{pt_at, points_of}
use Rattle.plane.specs.Locations.{same_location, is_inside, get_adjacent_location}
use Rattle.plane.specs.Rectangle.{is_empty, mid_point, get_location}
use Rattle.plane.specs.Intersection.{found_at, get_intersection}
use Rattle.plane.specs.Signs.{is_clockwise_dir}
use Rattle.plane.specs.Limit.{rect_in_limit, all_in_limit}
use Rattle.reference.specs.Counts.{corner_steps}
use Rattle.reference.specs.Walk.{Next, second_search, State, Pass, pt_before, passes}
use Rattle.theorems.specs.Walks.{StartsFrom, begun, pass_count, InEveryPass}

-- from p, one of the first n steps comes to loc, where both loops end
abbrev pub Arrives : ℕ → Location → Location → Bool → Type 0
Arrives zero p loc is_clockwise = ⊥
Arrives (suc n) p loc is_clockwise = (same_location (get_adjacent_location p is_clockwise) loc ≡ true) ⊎ Arrives n (get_adjacent_location p is_clockwise) loc is_clockwise

pub record GoesRound (p loc : Location) (is_clockwise : Bool) : Type 0 where
  pub from_side : is_inside p ≡ false
  pub to_side : is_inside loc ≡ false
  pub arrives : Arrives corner_steps p loc is_clockwise

abbrev pub AllSides : List Location → Type 0
AllSides [] = Unit {0}
AllSides (l ∷ ls) = (is_inside l ≡ false) × AllSides ls

-- ---- one pass
pub record PassEnds (rect : Rect64) (c : Pass) : Type 0 where
  -- "remaining outside": start sides or corners, up to the new location
  pub outside : get_intersection rect c.pt c.prev_pt c.loc ≡ None → GoesRound c.prev c.loc (is_clockwise_dir c.prev c.loc c.prev_pt c.pt (mid_point rect))
  -- "path must be entering rect": corners up to the side of the crossing
  pub entering : (ip : Point64) (s : Location) → get_intersection rect c.pt c.prev_pt c.loc ≡ found_at ip s → is_inside c.loc ≡ true
      → GoesRound c.prev s (is_clockwise_dir c.prev s c.prev_pt c.pt (mid_point rect))
  -- "passing right through rect": no loop; its corners are those of the two crossings' sides and of the point's location
  pub passing : (ip : Point64) (s : Location) → get_intersection rect c.pt c.prev_pt c.loc ≡ found_at ip s → is_inside c.loc ≡ false → is_inside c.prev ≡ false
      → AllSides (s ∷ (second_search rect c.prev_pt c.pt c.prev ip).side ∷ (get_location rect c.pt).loc ∷ [])

module _ (full : ℕ → Bool) (rect : Rect64) (path : List Point64) where
  -- the pass behind `get_next_location`, as in `pass_from`
  abbrev pub pass_of : State → Next → Pass
  pass_of s nx = record { walk = nx.walk; i = nx.i; prev = s.loc; loc = nx.loc; crossing_prev = s.crossing_loc; first_cross = s.first_cross; prev_pt = pt_before path nx.i; pt = pt_at path nx.i }

  pub record WalkCornersEnd : Type 0 where
    pub each_pass : InEveryPass full rect path true (λ s nx. PassEnds rect (pass_of s nx))
    -- the corners behind the `while` go, without a count, from its location along the start sides to the first crossing's side; the two are tested
    pub closing : (loc : Location) → StartsFrom rect path true loc → (s t : State) → begun full path true loc ≡ ok s → passes full rect path (pass_count path true) s ≡ ok t → AllSides t.walk.start_locs

-- in every call within the coordinate limit, on a rectangle that is not empty; proved in proofs/CornerLoops.antt
abbrev pub CornerLoopsEnd : Type 0
CornerLoopsEnd = (full : ℕ → Bool) (rect : Rect64) (coords : List ℤ) → T (rect_in_limit rect) → T (all_in_limit coords) → is_empty rect ≡ false → WalkCornersEnd full rect (points_of coords)
