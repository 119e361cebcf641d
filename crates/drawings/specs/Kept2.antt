-- Drawings with the Rust's answers: what the entries answer and fill, and the walked outline.
-- Made by tools/tables.py from rows of compare's `drawings`. Assumes nothing.
use Rattle.std.specs.Prelude.{◌≡◌, refl, List, [], ◌∷◌, map, pos}
use Rattle.drawings.specs.Cases.{Case, C, U, L, R, minus, returned, shown}
use Rattle.plane.specs.Intersection.{at_end, get_segment_intersection, edge_intersection, side_intersection, get_intersection}
use Rattle.plane.specs.Locations.{start_locs_are_clockwise}
use Rattle.plane.specs.Polygon.{at_vertex, scan_pass, scan_answer, scan_loop, point_in_polygon, path1_contains_path2}
use Rattle.plane.specs.Rectangle.{get_bounds_path, get_location}
use Rattle.plane.specs.Segment.{determinant, numerator, fraction, working_of, crossing_of, point_at, intersection}
use Rattle.plane.specs.Signs.{cross_product_sign, is_collinear, cross_product_three_points, cross_product_is_negative, is_clockwise_dir}
use Rattle.reference.specs.Arena.{set_owner, set_edge, set_next, set_prev, set_results, set_edge_list, ring, unlink, add_to_edge, struck, uncouple_edge, own_from, set_new_owner, drop_collinear_pass, drop_collinear, assign_side, assign_edges, check_ring, check_from, check_edges}
use Rattle.reference.specs.Clip.{enter_all, arena_of, straighten_pass, straighten, points_from, get_path, get_paths, clip_walked, execute}
use Rattle.reference.specs.Entry.{sheet_refusal, early_refusal, delivered, answered, clip_closed, clip_open, filled_part, is_present}
use Rattle.reference.specs.Lines.{first_off_edge, line_through, line_cross, line_from, line_passes, line_walk_from, walk_open, pieces, longer_than_one, execute_lines}
use Rattle.reference.specs.Tidy.{seek, relink, regroup, keep_one, keep_both, keep_each, settle, rejoin, one_turn, turns_from, tidy_edges}
use Rattle.reference.specs.Walk.{add, add_all, push_start_loc, next_side, next_outside, add_corner_prev_curr, add_corner_loc, add_corners, push_start_locs, next_inside, get_next_location, second_search, remain_outside, enter, pass_to, pass_through, leave, cross_boundary, add_round, retrace, close_outline, last_off, pass_from, passes, surround, after_while, walk_from, walk_closed, walked_outline}
use lib.Ieee.{of_int, sub, mul, div, neg, to_signed, eq, lt, le}

abbrev table1 : List Case
table1 =
    L (R (pos 1) (pos 2) (pos 4) (pos 4)) 256 ((pos 1) ∷ (pos 5) ∷ (pos 3) ∷ (pos 3) ∷ [])
    (returned 1 2 0 ((pos 2) ∷ (pos 4) ∷ (pos 3) ∷ (pos 3) ∷ (pos 7) ∷ (pos 7) ∷ []) (2 ∷ 7 ∷ []) []) ∷
    C (R (pos 2) (pos 1) (pos 4) (pos 2)) 256 256 ((pos 3) ∷ (pos 1) ∷ (pos 3) ∷ (pos 2) ∷ (pos 0) ∷ (pos 0) ∷ [])
    (returned 1 3 2 ((pos 3) ∷ (pos 1) ∷ (pos 3) ∷ (pos 2) ∷ (pos 2) ∷ (pos 1) ∷ (pos 7) ∷ (pos 7) ∷ []) (3 ∷ 7 ∷ []) ((pos 3) ∷ (pos 1) ∷ (pos 4) ∷ (pos 1) ∷ (pos 3) ∷ (pos 1) ∷ (pos 3) ∷ (pos 2) ∷ (pos 2) ∷ (pos 1) ∷ [])) ∷
    C (R (pos 0) (pos 0) (pos 7) (pos 5)) 256 256 ((pos 8) ∷ (pos 5) ∷ (pos 6) ∷ (pos 5) ∷ (pos 9) ∷ (pos 5) ∷ [])
    (returned 0 0 0 ((pos 7) ∷ (pos 7) ∷ []) (7 ∷ []) ((pos 7) ∷ (pos 5) ∷ [])) ∷
    L (R (pos 0) (pos 0) (pos 2) (pos 4)) 256 ((pos 2) ∷ (pos 0) ∷ (pos 1) ∷ (pos 4) ∷ [])
    (returned 1 2 0 ((pos 2) ∷ (pos 0) ∷ (pos 1) ∷ (pos 4) ∷ (pos 7) ∷ (pos 7) ∷ []) (2 ∷ 7 ∷ []) []) ∷
    C (R (pos 0) (pos 0) (pos 3) (pos 5)) 256 256 ((pos 0) ∷ (pos 4) ∷ (pos 3) ∷ (pos 6) ∷ (pos 5) ∷ (pos 4) ∷ (pos 0) ∷ (pos 6) ∷ [])
    (returned 2 6 3 ((pos 0) ∷ (pos 5) ∷ (pos 0) ∷ (pos 4) ∷ (pos 1) ∷ (pos 5) ∷ (pos 3) ∷ (pos 5) ∷ (pos 3) ∷ (pos 4) ∷ (pos 2) ∷ (pos 5) ∷ (pos 7) ∷ (pos 7) ∷ []) (3 ∷ 3 ∷ 7 ∷ []) ((pos 0) ∷ (pos 5) ∷ (pos 0) ∷ (pos 4) ∷ (pos 1) ∷ (pos 5) ∷ (pos 3) ∷ (pos 5) ∷ (pos 3) ∷ (pos 4) ∷ (pos 2) ∷ (pos 5) ∷ [])) ∷
    L (R (pos 0) (pos 2) (pos 1) (pos 4)) 256 []
    (returned 0 0 0 ((pos 7) ∷ (pos 7) ∷ []) (7 ∷ []) []) ∷
    L (R (pos 1) (pos 1) (pos 4) (pos 1)) 256 []
    (returned 0 0 0 ((pos 7) ∷ (pos 7) ∷ []) (7 ∷ []) []) ∷
    U (R (pos 2) (pos 0) (pos 3) (pos 4)) 256 256 []
    (returned 0 0 0 ((pos 7) ∷ (pos 7) ∷ []) (7 ∷ []) []) ∷
    U (R (pos 0) (pos 0) (pos 2) (pos 0)) 256 256 []
    (returned 0 0 0 ((pos 7) ∷ (pos 7) ∷ []) (7 ∷ []) []) ∷
    C (R (pos 0) (pos 2) (pos 3) (pos 3)) 256 256 ((pos 5) ∷ (pos 3) ∷ (pos 4) ∷ (pos 0) ∷ (pos 0) ∷ (pos 0) ∷ [])
    (returned 0 0 0 ((pos 7) ∷ (pos 7) ∷ []) (7 ∷ []) []) ∷
    C (R (pos 0) (pos 1) (pos 4) (pos 4)) 256 256 ((pos 3) ∷ (pos 4) ∷ (pos 0) ∷ (pos 0) ∷ (pos 2) ∷ (pos 2) ∷ [])
    (returned 1 4 0 ((pos 2) ∷ (pos 2) ∷ (pos 3) ∷ (pos 4) ∷ (pos 0) ∷ (pos 1) ∷ (pos 1) ∷ (pos 1) ∷ (pos 7) ∷ (pos 7) ∷ []) (4 ∷ 7 ∷ []) ((pos 3) ∷ (pos 4) ∷ (pos 0) ∷ (pos 1) ∷ (pos 1) ∷ (pos 1) ∷ (pos 2) ∷ (pos 2) ∷ [])) ∷
    C (R (pos 0) (pos 0) (pos 2) (pos 4)) 256 256 ((pos 1) ∷ (pos 2) ∷ (pos 1) ∷ (pos 4) ∷ (pos 1) ∷ (pos 6) ∷ [])
    (returned 0 0 0 ((pos 7) ∷ (pos 7) ∷ []) (7 ∷ []) ((pos 1) ∷ (pos 4) ∷ (pos 1) ∷ (pos 2) ∷ (pos 1) ∷ (pos 4) ∷ [])) ∷
    C (R (pos 2) (pos 1) (pos 3) (pos 2)) 256 256 ((pos 3) ∷ (minus 1) ∷ (pos 3) ∷ (pos 3) ∷ (minus 1) ∷ (pos 4) ∷ [])
    (returned 1 4 0 ((pos 2) ∷ (pos 2) ∷ (pos 2) ∷ (pos 1) ∷ (pos 3) ∷ (pos 1) ∷ (pos 3) ∷ (pos 2) ∷ (pos 7) ∷ (pos 7) ∷ []) (4 ∷ 7 ∷ []) ((pos 2) ∷ (pos 1) ∷ (pos 3) ∷ (pos 1) ∷ (pos 3) ∷ (pos 2) ∷ (pos 2) ∷ (pos 2) ∷ [])) ∷
    L (R (pos 2) (pos 1) (pos 3) (pos 2)) 256 ((pos 2) ∷ (pos 2) ∷ [])
    (returned 0 0 0 ((pos 7) ∷ (pos 7) ∷ []) (7 ∷ []) []) ∷
    L (R (pos 0) (pos 0) (pos 7) (pos 11)) 256 ((pos 8) ∷ (pos 0) ∷ (pos 6) ∷ (pos 1) ∷ [])
    (returned 1 2 0 ((pos 7) ∷ (pos 0) ∷ (pos 6) ∷ (pos 1) ∷ (pos 7) ∷ (pos 7) ∷ []) (2 ∷ 7 ∷ []) []) ∷
    []

drawings1 : map shown table1 ≡ map (λ c. c.expected) table1
unfolding at_end get_segment_intersection edge_intersection side_intersection get_intersection start_locs_are_clockwise at_vertex scan_pass scan_answer scan_loop point_in_polygon path1_contains_path2 get_bounds_path get_location determinant numerator fraction working_of crossing_of point_at intersection cross_product_sign is_collinear cross_product_three_points cross_product_is_negative is_clockwise_dir set_owner set_edge set_next set_prev set_results set_edge_list ring unlink add_to_edge struck uncouple_edge own_from set_new_owner drop_collinear_pass drop_collinear assign_side assign_edges check_ring check_from check_edges enter_all arena_of straighten_pass straighten points_from get_path get_paths clip_walked execute sheet_refusal early_refusal delivered answered clip_closed clip_open filled_part is_present first_off_edge line_through line_cross line_from line_passes line_walk_from walk_open pieces longer_than_one execute_lines seek relink regroup keep_one keep_both keep_each settle rejoin one_turn turns_from tidy_edges add add_all push_start_loc next_side next_outside add_corner_prev_curr add_corner_loc add_corners push_start_locs next_inside get_next_location second_search remain_outside enter pass_to pass_through leave cross_boundary add_round retrace close_outline last_off pass_from passes surround after_while walk_from walk_closed walked_outline lib.Ieee.add of_int sub mul div neg to_signed eq lt le
drawings1 = refl

abbrev table2 : List Case
table2 =
    L (R (pos 2) (pos 1) (pos 4) (pos 3)) 256 ((pos 0) ∷ (pos 2) ∷ (pos 3) ∷ (pos 5) ∷ [])
    (returned 0 0 0 ((pos 7) ∷ (pos 7) ∷ []) (7 ∷ []) []) ∷
    L (R (pos 0) (pos 2) (pos 2) (pos 4)) 256 ((pos 0) ∷ (pos 0) ∷ (pos 5) ∷ (pos 3) ∷ [])
    (returned 0 0 0 ((pos 7) ∷ (pos 7) ∷ []) (7 ∷ []) []) ∷
    L (R (pos 0) (pos 0) (pos 3) (pos 5)) 256 ((pos 1) ∷ (pos 0) ∷ (pos 1) ∷ (pos 2) ∷ [])
    (returned 1 2 0 ((pos 1) ∷ (pos 0) ∷ (pos 1) ∷ (pos 2) ∷ (pos 7) ∷ (pos 7) ∷ []) (2 ∷ 7 ∷ []) []) ∷
    L (R (pos 0) (pos 2) (pos 4) (pos 4)) 256 ((pos 3) ∷ (pos 3) ∷ (pos 0) ∷ (pos 0) ∷ [])
    (returned 1 2 0 ((pos 3) ∷ (pos 3) ∷ (pos 2) ∷ (pos 2) ∷ (pos 7) ∷ (pos 7) ∷ []) (2 ∷ 7 ∷ []) []) ∷
    L (R (pos 0) (pos 0) (pos 3) (pos 9)) 256 ((pos 1) ∷ (pos 8) ∷ (pos 5) ∷ (pos 4) ∷ [])
    (returned 1 2 0 ((pos 1) ∷ (pos 8) ∷ (pos 3) ∷ (pos 6) ∷ (pos 7) ∷ (pos 7) ∷ []) (2 ∷ 7 ∷ []) []) ∷
    L (R (pos 2) (pos 1) (pos 4) (pos 4)) 256 ((pos 3) ∷ (pos 3) ∷ (pos 0) ∷ (pos 1) ∷ [])
    (returned 1 2 0 ((pos 3) ∷ (pos 3) ∷ (pos 2) ∷ (pos 2) ∷ (pos 7) ∷ (pos 7) ∷ []) (2 ∷ 7 ∷ []) []) ∷
    L (R (pos 0) (pos 0) (pos 2) (pos 3)) 256 ((pos 2) ∷ (pos 4) ∷ (pos 5) ∷ (pos 1) ∷ [])
    (returned 0 0 0 ((pos 7) ∷ (pos 7) ∷ []) (7 ∷ []) []) ∷
    L (R (pos 2) (pos 0) (pos 4) (pos 2)) 256 ((pos 2) ∷ (pos 3) ∷ (pos 2) ∷ (pos 1) ∷ [])
    (returned 0 0 0 ((pos 7) ∷ (pos 7) ∷ []) (7 ∷ []) []) ∷
    L (R (pos 0) (pos 0) (pos 2) (pos 2)) 256 ((pos 4) ∷ (pos 1) ∷ (pos 1) ∷ (pos 4) ∷ [])
    (returned 0 0 0 ((pos 7) ∷ (pos 7) ∷ []) (7 ∷ []) []) ∷
    L (R (pos 0) (pos 0) (pos 4) (pos 12)) 256 ((pos 6) ∷ (pos 1) ∷ (pos 1) ∷ (pos 0) ∷ [])
    (returned 1 2 0 ((pos 4) ∷ (pos 0) ∷ (pos 1) ∷ (pos 0) ∷ (pos 7) ∷ (pos 7) ∷ []) (2 ∷ 7 ∷ []) []) ∷
    L (R (pos 0) (pos 1) (pos 3) (pos 3)) 256 ((pos 3) ∷ (pos 0) ∷ (pos 2) ∷ (pos 2) ∷ [])
    (returned 1 2 0 ((pos 2) ∷ (pos 1) ∷ (pos 2) ∷ (pos 2) ∷ (pos 7) ∷ (pos 7) ∷ []) (2 ∷ 7 ∷ []) []) ∷
    L (R (pos 1) (pos 0) (pos 4) (pos 4)) 256 ((pos 3) ∷ (pos 0) ∷ (pos 0) ∷ (pos 1) ∷ [])
    (returned 1 2 0 ((pos 3) ∷ (pos 0) ∷ (pos 1) ∷ (pos 0) ∷ (pos 7) ∷ (pos 7) ∷ []) (2 ∷ 7 ∷ []) []) ∷
    L (R (pos 0) (pos 0) (pos 3) (pos 6)) 256 ((pos 1) ∷ (pos 0) ∷ (pos 1) ∷ (pos 8) ∷ [])
    (returned 1 2 0 ((pos 1) ∷ (pos 0) ∷ (pos 1) ∷ (pos 6) ∷ (pos 7) ∷ (pos 7) ∷ []) (2 ∷ 7 ∷ []) []) ∷
    L (R (pos 1) (pos 0) (pos 4) (pos 2)) 256 ((pos 0) ∷ (pos 2) ∷ (pos 3) ∷ (pos 1) ∷ [])
    (returned 1 2 0 ((pos 1) ∷ (pos 1) ∷ (pos 3) ∷ (pos 1) ∷ (pos 7) ∷ (pos 7) ∷ []) (2 ∷ 7 ∷ []) []) ∷
    L (R (pos 1) (pos 2) (pos 4) (pos 4)) 256 ((pos 0) ∷ (pos 4) ∷ (pos 3) ∷ (pos 0) ∷ [])
    (returned 0 0 0 ((pos 7) ∷ (pos 7) ∷ []) (7 ∷ []) []) ∷
    []

drawings2 : map shown table2 ≡ map (λ c. c.expected) table2
unfolding at_end get_segment_intersection edge_intersection side_intersection get_intersection start_locs_are_clockwise at_vertex scan_pass scan_answer scan_loop point_in_polygon path1_contains_path2 get_bounds_path get_location determinant numerator fraction working_of crossing_of point_at intersection cross_product_sign is_collinear cross_product_three_points cross_product_is_negative is_clockwise_dir set_owner set_edge set_next set_prev set_results set_edge_list ring unlink add_to_edge struck uncouple_edge own_from set_new_owner drop_collinear_pass drop_collinear assign_side assign_edges check_ring check_from check_edges enter_all arena_of straighten_pass straighten points_from get_path get_paths clip_walked execute sheet_refusal early_refusal delivered answered clip_closed clip_open filled_part is_present first_off_edge line_through line_cross line_from line_passes line_walk_from walk_open pieces longer_than_one execute_lines seek relink regroup keep_one keep_both keep_each settle rejoin one_turn turns_from tidy_edges add add_all push_start_loc next_side next_outside add_corner_prev_curr add_corner_loc add_corners push_start_locs next_inside get_next_location second_search remain_outside enter pass_to pass_through leave cross_boundary add_round retrace close_outline last_off pass_from passes surround after_while walk_from walk_closed walked_outline lib.Ieee.add of_int sub mul div neg to_signed eq lt le
drawings2 = refl

abbrev table3 : List Case
table3 =
    L (R (pos 0) (pos 0) (pos 2) (pos 4)) 256 ((pos 3) ∷ (pos 0) ∷ (pos 0) ∷ (pos 0) ∷ [])
    (returned 1 2 0 ((pos 2) ∷ (pos 0) ∷ (pos 0) ∷ (pos 0) ∷ (pos 7) ∷ (pos 7) ∷ []) (2 ∷ 7 ∷ []) []) ∷
    U (R (pos 0) (pos 0) (pos 7) (pos 6)) 256 256 ((pos 6) ∷ (pos 5) ∷ (pos 6) ∷ (pos 5) ∷ (pos 1) ∷ (pos 5) ∷ [])
    (returned 1 3 0 ((pos 6) ∷ (pos 5) ∷ (pos 6) ∷ (pos 5) ∷ (pos 1) ∷ (pos 5) ∷ (pos 7) ∷ (pos 7) ∷ []) (3 ∷ 7 ∷ []) []) ∷
    U (R (pos 0) (pos 0) (pos 2) (pos 3)) 256 256 ((pos 4) ∷ (pos 4) ∷ (pos 5) ∷ (pos 3) ∷ (pos 4) ∷ (pos 2) ∷ [])
    (returned 0 0 0 ((pos 7) ∷ (pos 7) ∷ []) (7 ∷ []) []) ∷
    C (R (pos 2) (pos 1) (pos 3) (pos 4)) 256 256 ((pos 4) ∷ (pos 5) ∷ (pos 3) ∷ (pos 2) ∷ (pos 1) ∷ (pos 3) ∷ [])
    (returned 1 4 1 ((pos 2) ∷ (pos 4) ∷ (pos 3) ∷ (pos 4) ∷ (pos 3) ∷ (pos 2) ∷ (pos 2) ∷ (pos 2) ∷ (pos 7) ∷ (pos 7) ∷ []) (4 ∷ 7 ∷ []) ((pos 2) ∷ (pos 3) ∷ (pos 2) ∷ (pos 4) ∷ (pos 3) ∷ (pos 4) ∷ (pos 3) ∷ (pos 2) ∷ (pos 3) ∷ (pos 4) ∷ (pos 3) ∷ (pos 2) ∷ (pos 2) ∷ (pos 2) ∷ [])) ∷
    C (R (pos 1) (pos 1) (pos 3) (pos 4)) 256 256 ((pos 2) ∷ (pos 0) ∷ (pos 4) ∷ (pos 2) ∷ (pos 0) ∷ (pos 5) ∷ [])
    (returned 1 4 2 ((pos 3) ∷ (pos 2) ∷ (pos 1) ∷ (pos 4) ∷ (pos 1) ∷ (pos 1) ∷ (pos 3) ∷ (pos 1) ∷ (pos 7) ∷ (pos 7) ∷ []) (4 ∷ 7 ∷ []) ((pos 1) ∷ (pos 2) ∷ (pos 1) ∷ (pos 1) ∷ (pos 3) ∷ (pos 1) ∷ (pos 3) ∷ (pos 4) ∷ (pos 3) ∷ (pos 2) ∷ (pos 1) ∷ (pos 4) ∷ [])) ∷
    C (R (pos 2) (pos 2) (pos 3) (pos 3)) 256 256 ((pos 1) ∷ (pos 0) ∷ (pos 1) ∷ (pos 0) ∷ (pos 4) ∷ (pos 3) ∷ [])
    (returned 0 0 1 ((pos 7) ∷ (pos 7) ∷ []) (7 ∷ []) ((pos 3) ∷ (pos 2) ∷ (pos 2) ∷ (pos 2) ∷ (pos 3) ∷ (pos 2) ∷ (pos 3) ∷ (pos 3) ∷ [])) ∷
    C (R (pos 2) (pos 0) (pos 4) (pos 3)) 256 256 ((pos 4) ∷ (pos 4) ∷ (pos 5) ∷ (pos 0) ∷ (pos 2) ∷ (pos 2) ∷ [])
    (returned 1 4 0 ((pos 4) ∷ (pos 3) ∷ (pos 4) ∷ (pos 0) ∷ (pos 2) ∷ (pos 2) ∷ (pos 3) ∷ (pos 3) ∷ (pos 7) ∷ (pos 7) ∷ []) (4 ∷ 7 ∷ []) ((pos 2) ∷ (pos 2) ∷ (pos 3) ∷ (pos 3) ∷ (pos 4) ∷ (pos 3) ∷ (pos 4) ∷ (pos 0) ∷ (pos 2) ∷ (pos 2) ∷ [])) ∷
    C (R (pos 1) (pos 0) (pos 4) (pos 2)) 256 256 ((pos 5) ∷ (pos 0) ∷ (pos 2) ∷ (pos 1) ∷ (pos 4) ∷ (pos 2) ∷ [])
    (returned 1 3 0 ((pos 4) ∷ (pos 0) ∷ (pos 2) ∷ (pos 1) ∷ (pos 4) ∷ (pos 2) ∷ (pos 7) ∷ (pos 7) ∷ []) (3 ∷ 7 ∷ []) ((pos 4) ∷ (pos 2) ∷ (pos 4) ∷ (pos 0) ∷ (pos 2) ∷ (pos 1) ∷ (pos 4) ∷ (pos 2) ∷ [])) ∷
    C (R (minus 1) (pos 7) (pos 2636794) (pos 8017874)) 256 256 ((pos 13478080) ∷ (pos 28818734) ∷ (pos 0) ∷ (pos 8017873) ∷ (minus 2446466) ∷ (pos 32816285) ∷ [])
    (returned 0 0 0 ((pos 7) ∷ (pos 7) ∷ []) (7 ∷ []) ((pos 0) ∷ (pos 8017874) ∷ (pos 0) ∷ (pos 8017873) ∷ (pos 0) ∷ (pos 8017874) ∷ (minus 1) ∷ (pos 8017874) ∷ (pos 2636794) ∷ (pos 8017874) ∷ [])) ∷
    C (R (pos 0) (pos 0) (pos 60) (pos 60)) 256 256 ((pos 7) ∷ (pos 57) ∷ (minus 4) ∷ (pos 3) ∷ (pos 9) ∷ (pos 2) ∷ (minus 7) ∷ (pos 0) ∷ [])
    (returned 2 6 1 ((pos 0) ∷ (pos 2) ∷ (pos 9) ∷ (pos 2) ∷ (pos 0) ∷ (pos 0) ∷ (pos 0) ∷ (pos 28) ∷ (pos 7) ∷ (pos 57) ∷ (pos 0) ∷ (pos 22) ∷ (pos 7) ∷ (pos 7) ∷ []) (3 ∷ 3 ∷ 7 ∷ []) ((pos 0) ∷ (pos 28) ∷ (pos 7) ∷ (pos 57) ∷ (pos 0) ∷ (pos 22) ∷ (pos 0) ∷ (pos 2) ∷ (pos 9) ∷ (pos 2) ∷ (pos 0) ∷ (pos 0) ∷ [])) ∷
    U (R (pos 0) (pos 0) (pos 24) (pos 9)) 256 256 ((pos 22) ∷ (pos 2) ∷ (pos 0) ∷ (pos 24) ∷ [])
    (returned 0 0 0 ((pos 7) ∷ (pos 7) ∷ []) (7 ∷ []) []) ∷
    C (R (pos 0) (pos 0) (pos 24) (pos 9)) 256 256 ((pos 22) ∷ (pos 2) ∷ (pos 0) ∷ (pos 24) ∷ (pos 0) ∷ (pos 24) ∷ [])
    (returned 1 3 0 ((pos 14) ∷ (pos 9) ∷ (pos 15) ∷ (pos 9) ∷ (pos 22) ∷ (pos 2) ∷ (pos 7) ∷ (pos 7) ∷ []) (3 ∷ 7 ∷ []) ((pos 15) ∷ (pos 9) ∷ (pos 22) ∷ (pos 2) ∷ (pos 14) ∷ (pos 9) ∷ [])) ∷
    C (R (pos 0) (pos 0) (pos 2) (pos 2)) 256 256 ((pos 1) ∷ (pos 1) ∷ (minus 6) ∷ (minus 2) ∷ (pos 2) ∷ (minus 1) ∷ [])
    (returned 1 3 0 ((pos 1) ∷ (pos 1) ∷ (pos 0) ∷ (pos 0) ∷ (pos 1) ∷ (pos 0) ∷ (pos 7) ∷ (pos 7) ∷ []) (3 ∷ 7 ∷ []) ((pos 1) ∷ (pos 0) ∷ (pos 1) ∷ (pos 1) ∷ (pos 0) ∷ (pos 0) ∷ (pos 2) ∷ (pos 0) ∷ [])) ∷
    C (R (pos 0) (pos 0) (pos 2) (pos 2)) 256 256 ((pos 1) ∷ (pos 1) ∷ (minus 6) ∷ (minus 2) ∷ (pos 1) ∷ (minus 4) ∷ (pos 2) ∷ (minus 1) ∷ [])
    (returned 1 3 0 ((pos 0) ∷ (pos 0) ∷ (pos 1) ∷ (pos 0) ∷ (pos 1) ∷ (pos 1) ∷ (pos 7) ∷ (pos 7) ∷ []) (3 ∷ 7 ∷ []) ((pos 1) ∷ (pos 0) ∷ (pos 1) ∷ (pos 1) ∷ (pos 0) ∷ (pos 0) ∷ [])) ∷
    L (R (pos 0) (pos 0) (pos 4) (pos 4)) 256 ((pos 1) ∷ (pos 1) ∷ (minus 3) ∷ (minus 4) ∷ (pos 0) ∷ (minus 3) ∷ (pos 0) ∷ (pos 9) ∷ [])
    (returned 1 2 0 ((pos 1) ∷ (pos 1) ∷ (pos 0) ∷ (pos 0) ∷ (pos 7) ∷ (pos 7) ∷ []) (2 ∷ 7 ∷ []) []) ∷
    []

drawings3 : map shown table3 ≡ map (λ c. c.expected) table3
unfolding at_end get_segment_intersection edge_intersection side_intersection get_intersection start_locs_are_clockwise at_vertex scan_pass scan_answer scan_loop point_in_polygon path1_contains_path2 get_bounds_path get_location determinant numerator fraction working_of crossing_of point_at intersection cross_product_sign is_collinear cross_product_three_points cross_product_is_negative is_clockwise_dir set_owner set_edge set_next set_prev set_results set_edge_list ring unlink add_to_edge struck uncouple_edge own_from set_new_owner drop_collinear_pass drop_collinear assign_side assign_edges check_ring check_from check_edges enter_all arena_of straighten_pass straighten points_from get_path get_paths clip_walked execute sheet_refusal early_refusal delivered answered clip_closed clip_open filled_part is_present first_off_edge line_through line_cross line_from line_passes line_walk_from walk_open pieces longer_than_one execute_lines seek relink regroup keep_one keep_both keep_each settle rejoin one_turn turns_from tidy_edges add add_all push_start_loc next_side next_outside add_corner_prev_curr add_corner_loc add_corners push_start_locs next_inside get_next_location second_search remain_outside enter pass_to pass_through leave cross_boundary add_round retrace close_outline last_off pass_from passes surround after_while walk_from walk_closed walked_outline lib.Ieee.add of_int sub mul div neg to_signed eq lt le
drawings3 = refl

abbrev table4 : List Case
table4 =
    L (R (pos 0) (pos 0) (pos 4) (pos 4)) 256 ((pos 1) ∷ (pos 1) ∷ (minus 3) ∷ (minus 4) ∷ (pos 1) ∷ (minus 4) ∷ (pos 0) ∷ (minus 3) ∷ (pos 0) ∷ (pos 9) ∷ [])
    (returned 2 4 0 ((pos 1) ∷ (pos 1) ∷ (pos 0) ∷ (pos 0) ∷ (pos 0) ∷ (pos 0) ∷ (pos 0) ∷ (pos 4) ∷ (pos 7) ∷ (pos 7) ∷ []) (2 ∷ 2 ∷ 7 ∷ []) []) ∷
    C (R (pos 0) (pos 0) (pos 4) (pos 4)) 256 256 ((pos 2) ∷ (pos 2) ∷ (pos 2) ∷ (pos 6) ∷ (pos 4) ∷ (pos 6) ∷ [])
    (returned 1 3 0 ((pos 2) ∷ (pos 4) ∷ (pos 3) ∷ (pos 4) ∷ (pos 2) ∷ (pos 2) ∷ (pos 7) ∷ (pos 7) ∷ []) (3 ∷ 7 ∷ []) ((pos 3) ∷ (pos 4) ∷ (pos 2) ∷ (pos 2) ∷ (pos 2) ∷ (pos 4) ∷ [])) ∷
    C (R (pos 0) (pos 0) (pos 4) (pos 4)) 256 256 ((pos 2) ∷ (pos 2) ∷ (pos 2) ∷ (pos 6) ∷ (pos 0) ∷ (pos 6) ∷ [])
    (returned 1 3 0 ((pos 2) ∷ (pos 4) ∷ (pos 1) ∷ (pos 4) ∷ (pos 2) ∷ (pos 2) ∷ (pos 7) ∷ (pos 7) ∷ []) (3 ∷ 7 ∷ []) ((pos 1) ∷ (pos 4) ∷ (pos 2) ∷ (pos 2) ∷ (pos 2) ∷ (pos 4) ∷ [])) ∷
    C (R (pos 0) (pos 0) (pos 3) (pos 2)) 256 256 ((pos 0) ∷ (pos 1) ∷ (pos 0) ∷ (minus 5) ∷ (pos 3) ∷ (minus 1) ∷ [])
    (returned 1 3 0 ((pos 0) ∷ (pos 1) ∷ (pos 0) ∷ (pos 0) ∷ (pos 1) ∷ (pos 0) ∷ (pos 7) ∷ (pos 7) ∷ []) (3 ∷ 7 ∷ []) ((pos 1) ∷ (pos 0) ∷ (pos 0) ∷ (pos 1) ∷ (pos 0) ∷ (pos 0) ∷ (pos 3) ∷ (pos 0) ∷ [])) ∷
    C (R (pos 0) (pos 0) (pos 3) (pos 2)) 256 256 ((pos 0) ∷ (pos 1) ∷ (pos 0) ∷ (minus 5) ∷ (pos 1) ∷ (minus 4) ∷ (pos 3) ∷ (minus 1) ∷ [])
    (returned 1 3 0 ((pos 0) ∷ (pos 0) ∷ (pos 1) ∷ (pos 0) ∷ (pos 0) ∷ (pos 1) ∷ (pos 7) ∷ (pos 7) ∷ []) (3 ∷ 7 ∷ []) ((pos 1) ∷ (pos 0) ∷ (pos 0) ∷ (pos 1) ∷ (pos 0) ∷ (pos 0) ∷ [])) ∷
    C (R (pos 0) (pos 0) (pos 4) (pos 4)) 256 256 ((pos 2) ∷ (pos 2) ∷ (pos 0) ∷ (minus 2) ∷ (pos 4) ∷ (minus 2) ∷ [])
    (returned 1 3 0 ((pos 1) ∷ (pos 0) ∷ (pos 3) ∷ (pos 0) ∷ (pos 2) ∷ (pos 2) ∷ (pos 7) ∷ (pos 7) ∷ []) (3 ∷ 7 ∷ []) ((pos 3) ∷ (pos 0) ∷ (pos 2) ∷ (pos 2) ∷ (pos 1) ∷ (pos 0) ∷ [])) ∷
    C (R (pos 0) (pos 0) (pos 4) (pos 4)) 256 256 ((pos 2) ∷ (pos 2) ∷ (pos 0) ∷ (minus 2) ∷ (minus 6) ∷ (pos 2) ∷ (pos 2) ∷ (pos 10) ∷ (pos 10) ∷ (pos 2) ∷ (pos 4) ∷ (minus 2) ∷ [])
    (returned 1 7 0 ((pos 4) ∷ (pos 0) ∷ (pos 3) ∷ (pos 0) ∷ (pos 2) ∷ (pos 2) ∷ (pos 1) ∷ (pos 0) ∷ (pos 0) ∷ (pos 0) ∷ (pos 0) ∷ (pos 4) ∷ (pos 4) ∷ (pos 4) ∷ (pos 7) ∷ (pos 7) ∷ []) (7 ∷ 7 ∷ []) ((pos 3) ∷ (pos 0) ∷ (pos 2) ∷ (pos 2) ∷ (pos 1) ∷ (pos 0) ∷ (pos 0) ∷ (pos 0) ∷ (pos 0) ∷ (pos 4) ∷ (pos 4) ∷ (pos 4) ∷ (pos 4) ∷ (pos 0) ∷ [])) ∷
    C (R (pos 220) (pos 180) (pos 460) (pos 310)) 256 256 ((pos 250) ∷ (pos 290) ∷ (pos 280) ∷ (pos 230) ∷ (pos 300) ∷ (pos 130) ∷ (pos 180) ∷ (pos 150) ∷ (pos 60) ∷ (pos 115) ∷ (pos 110) ∷ (pos 45) ∷ (pos 330) ∷ (pos 30) ∷ (pos 560) ∷ (pos 50) ∷ (pos 510) ∷ (pos 110) ∷ (pos 400) ∷ (pos 140) ∷ (pos 420) ∷ (pos 240) ∷ (pos 380) ∷ (pos 290) ∷ [])
    (returned 1 6 0 ((pos 380) ∷ (pos 290) ∷ (pos 250) ∷ (pos 290) ∷ (pos 280) ∷ (pos 230) ∷ (pos 290) ∷ (pos 180) ∷ (pos 408) ∷ (pos 180) ∷ (pos 420) ∷ (pos 240) ∷ (pos 7) ∷ (pos 7) ∷ []) (6 ∷ 7 ∷ []) ((pos 250) ∷ (pos 290) ∷ (pos 280) ∷ (pos 230) ∷ (pos 290) ∷ (pos 180) ∷ (pos 408) ∷ (pos 180) ∷ (pos 420) ∷ (pos 240) ∷ (pos 380) ∷ (pos 290) ∷ [])) ∷
    C (R (pos 220) (pos 180) (pos 460) (pos 310)) 256 256 ((pos 250) ∷ (pos 290) ∷ (pos 280) ∷ (pos 230) ∷ (pos 300) ∷ (pos 130) ∷ (pos 350) ∷ (pos 90) ∷ (pos 400) ∷ (pos 140) ∷ (pos 420) ∷ (pos 240) ∷ (pos 380) ∷ (pos 290) ∷ [])
    (returned 1 6 0 ((pos 380) ∷ (pos 290) ∷ (pos 250) ∷ (pos 290) ∷ (pos 280) ∷ (pos 230) ∷ (pos 290) ∷ (pos 180) ∷ (pos 408) ∷ (pos 180) ∷ (pos 420) ∷ (pos 240) ∷ (pos 7) ∷ (pos 7) ∷ []) (6 ∷ 7 ∷ []) ((pos 250) ∷ (pos 290) ∷ (pos 280) ∷ (pos 230) ∷ (pos 290) ∷ (pos 180) ∷ (pos 408) ∷ (pos 180) ∷ (pos 420) ∷ (pos 240) ∷ (pos 380) ∷ (pos 290) ∷ [])) ∷
    L (R (pos 220) (pos 180) (pos 460) (pos 310)) 256 ((pos 250) ∷ (pos 290) ∷ (pos 280) ∷ (pos 230) ∷ (pos 300) ∷ (pos 130) ∷ (pos 180) ∷ (pos 150) ∷ (pos 60) ∷ (pos 115) ∷ (pos 110) ∷ (pos 45) ∷ (pos 330) ∷ (pos 30) ∷ (pos 560) ∷ (pos 50) ∷ (pos 510) ∷ (pos 110) ∷ (pos 400) ∷ (pos 140) ∷ (pos 420) ∷ (pos 240) ∷ (pos 380) ∷ (pos 290) ∷ [])
    (returned 2 6 0 ((pos 250) ∷ (pos 290) ∷ (pos 280) ∷ (pos 230) ∷ (pos 290) ∷ (pos 180) ∷ (pos 408) ∷ (pos 180) ∷ (pos 420) ∷ (pos 240) ∷ (pos 380) ∷ (pos 290) ∷ (pos 7) ∷ (pos 7) ∷ []) (3 ∷ 3 ∷ 7 ∷ []) []) ∷
    L (R (pos 220) (pos 180) (pos 460) (pos 310)) 256 ((pos 250) ∷ (pos 290) ∷ (pos 280) ∷ (pos 230) ∷ (pos 300) ∷ (pos 130) ∷ (pos 350) ∷ (pos 90) ∷ (pos 400) ∷ (pos 140) ∷ (pos 420) ∷ (pos 240) ∷ (pos 380) ∷ (pos 290) ∷ [])
    (returned 2 6 0 ((pos 250) ∷ (pos 290) ∷ (pos 280) ∷ (pos 230) ∷ (pos 290) ∷ (pos 180) ∷ (pos 408) ∷ (pos 180) ∷ (pos 420) ∷ (pos 240) ∷ (pos 380) ∷ (pos 290) ∷ (pos 7) ∷ (pos 7) ∷ []) (3 ∷ 3 ∷ 7 ∷ []) []) ∷
    []

drawings4 : map shown table4 ≡ map (λ c. c.expected) table4
unfolding at_end get_segment_intersection edge_intersection side_intersection get_intersection start_locs_are_clockwise at_vertex scan_pass scan_answer scan_loop point_in_polygon path1_contains_path2 get_bounds_path get_location determinant numerator fraction working_of crossing_of point_at intersection cross_product_sign is_collinear cross_product_three_points cross_product_is_negative is_clockwise_dir set_owner set_edge set_next set_prev set_results set_edge_list ring unlink add_to_edge struck uncouple_edge own_from set_new_owner drop_collinear_pass drop_collinear assign_side assign_edges check_ring check_from check_edges enter_all arena_of straighten_pass straighten points_from get_path get_paths clip_walked execute sheet_refusal early_refusal delivered answered clip_closed clip_open filled_part is_present first_off_edge line_through line_cross line_from line_passes line_walk_from walk_open pieces longer_than_one execute_lines seek relink regroup keep_one keep_both keep_each settle rejoin one_turn turns_from tidy_edges add add_all push_start_loc next_side next_outside add_corner_prev_curr add_corner_loc add_corners push_start_locs next_inside get_next_location second_search remain_outside enter pass_to pass_through leave cross_boundary add_round retrace close_outline last_off pass_from passes surround after_while walk_from walk_closed walked_outline lib.Ieee.add of_int sub mul div neg to_signed eq lt le
drawings4 = refl
