-- The twelve reference drawings of document 01 as one table: what the entries answer, and what the two lists to fill hold afterwards.
-- Rows 1 and 2 are the clip program's example too. One theorem, by computation.
use Rattle.std.specs.Prelude.{◌≡◌, refl, Bool, true, false, List, [], ◌∷◌, ◌++◌, map, ℕ, replicate, ℤ, pos, neg_ℤ, if◌then◌else◌}
use Rattle.plane.specs.declared.rect.Rect64.{Rect64}
use Rattle.plane.specs.Intersection.{at_end, get_segment_intersection, edge_intersection, side_intersection, get_intersection}
use Rattle.plane.specs.Locations.{start_locs_are_clockwise}
use Rattle.plane.specs.Polygon.{at_vertex, scan_pass, scan_answer, scan_loop, point_in_polygon, path1_contains_path2}
use Rattle.plane.specs.Rectangle.{get_bounds_path, get_location}
use Rattle.plane.specs.Segment.{determinant, numerator, fraction, working_of, crossing_of, point_at, intersection}
use Rattle.plane.specs.Signs.{cross_product_sign, is_collinear, cross_product_three_points, cross_product_is_negative, is_clockwise_dir}
use Rattle.reference.specs.Arena.{set_owner, set_edge, set_next, set_prev, set_results, set_edge_list, ring, unlink, add_to_edge, struck, uncouple_edge, own_from, set_new_owner, drop_collinear_pass, drop_collinear, assign_side, assign_edges, check_ring, check_from, check_edges}
use Rattle.reference.specs.Clip.{enter_all, arena_of, straighten_pass, straighten, points_from, get_path, get_paths, clip_walked, execute}
use Rattle.reference.specs.Entry.{sheet_refusal, early_refusal, delivered, answered, clip_closed, clip_open, filled_part, is_present, Lent, Outcome, refused, drawn}
use Rattle.reference.specs.Lines.{first_off_edge, line_through, line_cross, line_from, line_passes, line_walk_from, walk_open, pieces, longer_than_one, execute_lines}
use Rattle.reference.specs.Tidy.{seek, relink, regroup, keep_one, keep_both, keep_each, settle, rejoin, one_turn, turns_from, tidy_edges}
use Rattle.reference.specs.Walk.{add, add_all, push_start_loc, next_side, next_outside, add_corner_prev_curr, add_corner_loc, add_corners, push_start_locs, next_inside, get_next_location, second_search, remain_outside, enter, pass_to, pass_through, leave, cross_boundary, add_round, retrace, close_outline, last_off, pass_from, passes, surround, after_while, walk_from, walk_closed, walked_outline}
use lib.Ieee.{of_int, sub, mul, div, neg, to_signed, eq, lt, le}

abbrev minus : ℕ → ℤ
minus n = neg_ℤ (pos n)

abbrev R : ℤ → ℤ → ℤ → ℤ → Rect64
R l t r b = record { left = l; top = t; right = r; bottom = b }

-- answer, coordinate list, length list
abbrev Shown : Type 0
Shown = Outcome × List ℤ × List ℕ

-- a result of so many paths and points, without turns
abbrev returned : ℕ → ℕ → List ℤ → List ℕ → Shown
returned paths points c n = (drawn paths points 0, c, n)

record Case : Type 0 where
  closed : Bool
  rect : Rect64
  coords : List ℤ
  expected : Shown

abbrev C : Rect64 → List ℤ → Shown → Case
C r c e = record { closed = true; rect = r; coords = c; expected = e }

abbrev L : Rect64 → List ℤ → Shown → Case
L r c e = record { closed = false; rect = r; coords = c; expected = e }

-- W = A = 256; each entry of the lists to fill is 7 at first
abbrev lent : Lent
lent = record { coordinates = replicate 10 (pos 7); lengths = replicate 2 7; store = replicate 512 (pos 0); work = replicate 8208 0 }

abbrev shown : Case → Shown
shown c =
    let after = if c.closed then clip_closed 256 c.rect c.coords lent else clip_open c.rect c.coords lent in
    (after.answer, after.lists.coordinates, after.lists.lengths)

abbrev table : List Case
table =
    -- 1
    C (R (pos 0) (pos 0) (pos 100) (pos 100)) (pos 50 ∷ pos 50 ∷ pos 150 ∷ pos 50 ∷ pos 150 ∷ pos 80 ∷ pos 50 ∷ pos 80 ∷ [])
    (returned 1 4 (pos 50 ∷ pos 80 ∷ pos 50 ∷ pos 50 ∷ pos 100 ∷ pos 50 ∷ pos 100 ∷ pos 80 ∷ pos 7 ∷ pos 7 ∷ []) (4 ∷ 7 ∷ [])) ∷
    -- 2
    L (R (pos 0) (pos 0) (pos 100) (pos 100)) (minus 50 ∷ pos 10 ∷ pos 150 ∷ pos 10 ∷ [])
    (returned 1 2 (pos 0 ∷ pos 10 ∷ pos 100 ∷ pos 10 ∷ pos 7 ∷ pos 7 ∷ pos 7 ∷ pos 7 ∷ pos 7 ∷ pos 7 ∷ []) (2 ∷ 7 ∷ [])) ∷
    -- 3
    L (R (pos 1) (pos 0) (pos 100) (pos 100)) (pos 49 ∷ pos 10 ∷ pos 0 ∷ pos 10 ∷ [])
    (returned 1 2 (pos 49 ∷ pos 10 ∷ pos 0 ∷ pos 10 ∷ pos 7 ∷ pos 7 ∷ pos 7 ∷ pos 7 ∷ pos 7 ∷ pos 7 ∷ []) (2 ∷ 7 ∷ [])) ∷
    -- 4
    C (R (pos 0) (pos 0) (pos 100) (pos 100)) (pos 0 ∷ pos 0 ∷ pos 100 ∷ pos 0 ∷ pos 100 ∷ pos 100 ∷ [])
    (returned 1 3 (pos 0 ∷ pos 0 ∷ pos 100 ∷ pos 0 ∷ pos 100 ∷ pos 100 ∷ pos 7 ∷ pos 7 ∷ pos 7 ∷ pos 7 ∷ []) (3 ∷ 7 ∷ [])) ∷
    -- 5
    C (R (pos 5) (pos 0) (pos 5) (pos 9)) (pos 0 ∷ pos 0 ∷ pos 9 ∷ pos 0 ∷ pos 9 ∷ pos 9 ∷ [])
    (returned 0 0 (pos 7 ∷ pos 7 ∷ pos 7 ∷ pos 7 ∷ pos 7 ∷ pos 7 ∷ pos 7 ∷ pos 7 ∷ pos 7 ∷ pos 7 ∷ []) (7 ∷ 7 ∷ [])) ∷
    -- 6
    C (R (pos 0) (pos 0) (pos 100) (pos 100)) (pos 10 ∷ pos 10 ∷ pos 20 ∷ pos 20 ∷ [])
    (returned 0 0 (pos 7 ∷ pos 7 ∷ pos 7 ∷ pos 7 ∷ pos 7 ∷ pos 7 ∷ pos 7 ∷ pos 7 ∷ pos 7 ∷ pos 7 ∷ []) (7 ∷ 7 ∷ [])) ∷
    -- 7
    C (R (pos 0) (pos 0) (pos 100) (pos 100)) (minus 10 ∷ minus 10 ∷ pos 110 ∷ minus 10 ∷ pos 110 ∷ pos 110 ∷ minus 10 ∷ pos 110 ∷ [])
    (returned 1 4 (pos 0 ∷ pos 100 ∷ pos 0 ∷ pos 0 ∷ pos 100 ∷ pos 0 ∷ pos 100 ∷ pos 100 ∷ pos 7 ∷ pos 7 ∷ []) (4 ∷ 7 ∷ [])) ∷
    -- 8
    L (R (pos 0) (pos 0) (pos 100) (pos 100)) (minus 10 ∷ pos 10 ∷ pos 10 ∷ minus 10 ∷ [])
    (returned 0 0 (pos 7 ∷ pos 7 ∷ pos 7 ∷ pos 7 ∷ pos 7 ∷ pos 7 ∷ pos 7 ∷ pos 7 ∷ pos 7 ∷ pos 7 ∷ []) (7 ∷ 7 ∷ [])) ∷
    -- 9
    L (R (pos 0) (pos 0) (pos 100) (pos 100)) (pos 10 ∷ pos 10 ∷ pos 20 ∷ pos 20 ∷ [])
    (returned 1 2 (pos 10 ∷ pos 10 ∷ pos 20 ∷ pos 20 ∷ pos 7 ∷ pos 7 ∷ pos 7 ∷ pos 7 ∷ pos 7 ∷ pos 7 ∷ []) (2 ∷ 7 ∷ [])) ∷
    -- 10
    L (R (pos 0) (pos 0) (pos 100) (pos 100)) (minus 5 ∷ pos 0 ∷ pos 50 ∷ pos 0 ∷ [])
    (returned 0 0 (pos 7 ∷ pos 7 ∷ pos 7 ∷ pos 7 ∷ pos 7 ∷ pos 7 ∷ pos 7 ∷ pos 7 ∷ pos 7 ∷ pos 7 ∷ []) (7 ∷ 7 ∷ [])) ∷
    -- 11
    L (R (pos 0) (pos 0) (pos 100) (pos 100)) (minus 5 ∷ pos 0 ∷ pos 105 ∷ pos 0 ∷ [])
    (returned 1 2 (pos 0 ∷ pos 0 ∷ pos 100 ∷ pos 0 ∷ pos 7 ∷ pos 7 ∷ pos 7 ∷ pos 7 ∷ pos 7 ∷ pos 7 ∷ []) (2 ∷ 7 ∷ [])) ∷
    -- 12
    L (R (pos 0) (pos 0) (pos 100) (pos 100)) (pos 0 ∷ pos 0 ∷ pos 33554433 ∷ pos 0 ∷ [])
    (refused 7, replicate 10 (pos 7), replicate 2 7) ∷
    -- 12, at the limit
    L (R (pos 0) (pos 0) (pos 100) (pos 100)) (pos 0 ∷ pos 0 ∷ pos 33554432 ∷ pos 0 ∷ [])
    (returned 1 2 (pos 0 ∷ pos 0 ∷ pos 100 ∷ pos 0 ∷ pos 7 ∷ pos 7 ∷ pos 7 ∷ pos 7 ∷ pos 7 ∷ pos 7 ∷ []) (2 ∷ 7 ∷ [])) ∷
    []

-- where renderings went wrong: `check_edges` keeps two equal neighbours; both searches of a passing segment find one point, and its side's corner is added
abbrev further : List Case
further =
    C (R (pos 0) (pos 0) (pos 2) (pos 2)) (minus 1 ∷ pos 0 ∷ pos 0 ∷ pos 1 ∷ pos 1 ∷ pos 0 ∷ [])
    (returned 1 3 (pos 0 ∷ pos 0 ∷ pos 0 ∷ pos 1 ∷ pos 1 ∷ pos 0 ∷ replicate 4 (pos 7)) (3 ∷ 7 ∷ [])) ∷
    C (R (pos 0) (pos 0) (pos 1) (pos 1)) (minus 1 ∷ pos 0 ∷ pos 0 ∷ minus 1 ∷ pos 1 ∷ pos 0 ∷ [])
    (drawn 0 0 1, replicate 10 (pos 7), replicate 2 7) ∷
    []

-- each drawing is answered as document 01 says
pub drawings : map shown (table ++ further) ≡ map (λ c. c.expected) (table ++ further)
unfolding at_end get_segment_intersection edge_intersection side_intersection get_intersection start_locs_are_clockwise at_vertex scan_pass scan_answer scan_loop point_in_polygon path1_contains_path2 get_bounds_path get_location determinant numerator fraction working_of crossing_of point_at intersection cross_product_sign is_collinear cross_product_three_points cross_product_is_negative is_clockwise_dir set_owner set_edge set_next set_prev set_results set_edge_list ring unlink add_to_edge struck uncouple_edge own_from set_new_owner drop_collinear_pass drop_collinear assign_side assign_edges check_ring check_from check_edges enter_all arena_of straighten_pass straighten points_from get_path get_paths clip_walked execute sheet_refusal early_refusal delivered answered clip_closed clip_open filled_part is_present first_off_edge line_through line_cross line_from line_passes line_walk_from walk_open pieces longer_than_one execute_lines seek relink regroup keep_one keep_both keep_each settle rejoin one_turn turns_from tidy_edges add add_all push_start_loc next_side next_outside add_corner_prev_curr add_corner_loc add_corners push_start_locs next_inside get_next_location second_search remain_outside enter pass_to pass_through leave cross_boundary add_round retrace close_outline last_off pass_from passes surround after_while walk_from walk_closed walked_outline lib.Ieee.add of_int sub mul div neg to_signed eq lt le
drawings = refl
