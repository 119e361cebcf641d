-- Drawings with the Rust's answers: what the entries answer and fill, and the walked outline.
-- Made by tools/tables.py from rows of compare's `drawings`. Assumes nothing.
use Rattle.std.specs.Prelude.{◌≡◌, refl, List, [], ◌∷◌, map, pos}
use Rattle.drawings.specs.Cases.{Case, C, U, L, R, minus, returned, refusal, shown}
use Rattle.plane.specs.Intersection.{at_end, get_segment_intersection, edge_intersection, side_intersection, get_intersection}
use Rattle.plane.specs.Locations.{start_locs_are_clockwise}
use Rattle.plane.specs.Polygon.{at_vertex, scan_pass, scan_answer, scan_loop, point_in_polygon, path1_contains_path2}
use Rattle.plane.specs.Rectangle.{get_bounds_path, get_location}
use Rattle.plane.specs.Segment.{determinant, numerator, fraction, working_of, crossing_of, point_at, intersection}
use Rattle.plane.specs.Signs.{cross_product_sign, is_collinear, cross_product_three_points, cross_product_is_negative, is_clockwise_dir}
use Rattle.reference.specs.Arena.{set_owner, set_edge, set_next, set_prev, set_results, set_edge_list, ring, unlink, add_to_edge, struck, uncouple_edge, own_from, set_new_owner, drop_collinear_pass, drop_collinear, assign_side, assign_edges, check_ring, check_from, check_edges}
use Rattle.reference.specs.Clip.{enter_all, arena_of, straighten_pass, straighten, points_from, get_path, get_paths, clip_walked, execute}
use Rattle.reference.specs.Entry.{sheet_refusal, early_refusal, delivered, answered, clip_closed, clip_open, filled_part, is_present}
use Rattle.reference.specs.Lines.{first_off_edge, line_through, line_cross, line_from, line_passes, line_walk_from, walk_open, pieces, longer_than_one, execute_lines}
use Rattle.reference.specs.Tidy.{seek, relink, regroup, keep_one, keep_both, keep_each, settle, rejoin, one_turn, turns_from, tidy_edges}
use Rattle.reference.specs.Walk.{add, add_all, push_start_loc, next_side, next_outside, add_corner_prev_curr, add_corner_loc, add_corners, push_start_locs, next_inside, get_next_location, second_search, remain_outside, enter, pass_to, pass_through, leave, cross_boundary, add_round, retrace, close_outline, last_off, pass_from, passes, surround, after_while, walk_from, walk_closed, walked_outline}
use lib.Ieee.{of_int, sub, mul, div, neg, to_signed, eq, lt, le}

abbrev table1 : List Case
table1 =
    L (R (pos 0) (pos 2) (pos 3) (pos 3)) 256 ((pos 0) ∷ (minus 1) ∷ (pos 0) ∷ (pos 0) ∷ (pos 5) ∷ (pos 4) ∷ (pos 0) ∷ (pos 0) ∷ (pos 5) ∷ (pos 2) ∷ (pos 2) ∷ (pos 5) ∷ (pos 2) ∷ (pos 3) ∷ (pos 2) ∷ (minus 1) ∷ (pos 0) ∷ (pos 3) ∷ (minus 1) ∷ (pos 2) ∷ [])
    (returned 4 8 0 ((pos 2) ∷ (pos 2) ∷ (pos 3) ∷ (pos 2) ∷ (pos 3) ∷ (pos 2) ∷ (pos 2) ∷ (pos 2) ∷ (pos 2) ∷ (pos 3) ∷ (pos 2) ∷ (pos 2) ∷ (pos 0) ∷ (pos 2) ∷ (pos 0) ∷ (pos 3) ∷ (pos 7) ∷ (pos 7) ∷ []) (2 ∷ 2 ∷ 2 ∷ 2 ∷ 7 ∷ []) []) ∷
    C (R (pos 2) (pos 2) (pos 4) (pos 3)) 256 256 ((pos 4) ∷ (pos 0) ∷ (minus 1) ∷ (pos 4) ∷ (minus 1) ∷ (pos 4) ∷ (pos 2) ∷ (pos 4) ∷ (pos 2) ∷ (pos 4) ∷ [])
    (returned 1 3 0 ((pos 3) ∷ (pos 2) ∷ (pos 2) ∷ (pos 2) ∷ (pos 2) ∷ (pos 3) ∷ (pos 7) ∷ (pos 7) ∷ []) (3 ∷ 7 ∷ []) ((pos 2) ∷ (pos 3) ∷ (pos 3) ∷ (pos 2) ∷ (pos 2) ∷ (pos 2) ∷ (pos 2) ∷ (pos 3) ∷ [])) ∷
    L (R (pos 0) (pos 0) (pos 60) (pos 60)) 256 ((pos 60) ∷ (pos 8) ∷ (pos 68) ∷ (pos 6) ∷ (pos 60) ∷ (pos 8) ∷ (pos 64) ∷ (pos 8) ∷ (pos 60) ∷ (pos 6) ∷ (pos 63) ∷ (pos 10) ∷ (pos 53) ∷ (pos 8) ∷ (pos 61) ∷ (pos 8) ∷ (pos 60) ∷ (pos 10) ∷ (pos 60) ∷ (pos 10) ∷ (pos 53) ∷ (pos 0) ∷ (pos 67) ∷ (pos 3) ∷ [])
    (returned 3 7 0 ((pos 60) ∷ (pos 9) ∷ (pos 53) ∷ (pos 8) ∷ (pos 60) ∷ (pos 8) ∷ (pos 60) ∷ (pos 10) ∷ (pos 53) ∷ (pos 0) ∷ (pos 53) ∷ (pos 0) ∷ (pos 60) ∷ (pos 1) ∷ (pos 7) ∷ (pos 7) ∷ []) (3 ∷ 2 ∷ 2 ∷ 7 ∷ []) []) ∷
    C (R (minus 75) (minus 445) (minus 4) (pos 133)) 256 256 ((pos 44) ∷ (minus 195) ∷ (pos 44) ∷ (minus 122) ∷ (minus 102) ∷ (minus 122) ∷ (minus 102) ∷ (minus 122) ∷ (minus 102) ∷ (minus 268) ∷ (pos 117) ∷ (minus 268) ∷ (pos 117) ∷ (minus 268) ∷ (pos 117) ∷ (minus 49) ∷ (pos 117) ∷ (minus 49) ∷ (minus 175) ∷ (minus 49) ∷ (minus 175) ∷ (minus 341) ∷ (pos 190) ∷ (minus 341) ∷ (pos 190) ∷ (pos 24) ∷ (pos 190) ∷ (pos 24) ∷ (minus 248) ∷ (pos 24) ∷ (pos 44) ∷ (minus 195) ∷ [])
    (returned 1 12 0 ((minus 4) ∷ (minus 159) ∷ (minus 4) ∷ (minus 122) ∷ (minus 75) ∷ (minus 122) ∷ (minus 75) ∷ (minus 268) ∷ (minus 4) ∷ (minus 268) ∷ (minus 4) ∷ (minus 49) ∷ (minus 75) ∷ (minus 49) ∷ (minus 75) ∷ (minus 341) ∷ (minus 4) ∷ (minus 341) ∷ (minus 4) ∷ (pos 24) ∷ (minus 75) ∷ (pos 24) ∷ (minus 75) ∷ (minus 105) ∷ (pos 7) ∷ (pos 7) ∷ []) (12 ∷ 7 ∷ []) ((minus 4) ∷ (minus 122) ∷ (minus 75) ∷ (minus 122) ∷ (minus 75) ∷ (minus 268) ∷ (minus 4) ∷ (minus 268) ∷ (minus 4) ∷ (minus 49) ∷ (minus 75) ∷ (minus 49) ∷ (minus 75) ∷ (minus 341) ∷ (minus 4) ∷ (minus 341) ∷ (minus 4) ∷ (pos 24) ∷ (minus 75) ∷ (pos 24) ∷ (minus 75) ∷ (minus 105) ∷ (minus 4) ∷ (minus 159) ∷ [])) ∷
    L (R (minus 5820000) (minus 4644000) (minus 3912000) (minus 1920000)) 256 ((pos 23985230) ∷ (minus 11796000) ∷ (pos 650770) ∷ (minus 24618885) ∷ (pos 1198155) ∷ (pos 80057) ∷ (pos 20700923) ∷ (minus 11796000) ∷ (pos 2292924) ∷ (minus 21778402) ∷ (pos 2840309) ∷ (minus 2760425) ∷ (pos 17416615) ∷ (minus 11796000) ∷ (pos 3935077) ∷ (minus 18937920) ∷ (pos 4482463) ∷ (minus 5600908) ∷ (pos 14132307) ∷ (minus 11796000) ∷ (pos 5577231) ∷ (minus 16097438) ∷ (pos 6124616) ∷ (minus 8441389) ∷ (pos 10848000) ∷ (minus 11796000) ∷ [])
    (returned 0 0 0 ((pos 7) ∷ (pos 7) ∷ []) (7 ∷ []) []) ∷
    C (R (minus 419) (minus 268) (minus 105) (minus 171)) 3 256 ((pos 295) ∷ (minus 579) ∷ (minus 529) ∷ (minus 560) ∷ (minus 894) ∷ (minus 26) ∷ (minus 544) ∷ (minus 963) ∷ (pos 592) ∷ (minus 390) ∷ (pos 125) ∷ (pos 954) ∷ (pos 866) ∷ (pos 355) ∷ (pos 427) ∷ (pos 115) ∷ [])
    (refusal 8 []) ∷
    C (R (minus 402) (pos 164) (minus 389) (pos 724)) 256 256 ((pos 389) ∷ (pos 334) ∷ (pos 0) ∷ (minus 285) ∷ (pos 886) ∷ (pos 127) ∷ (minus 730) ∷ (minus 910) ∷ (minus 506) ∷ (minus 60) ∷ [])
    (returned 0 0 0 ((pos 7) ∷ (pos 7) ∷ []) (7 ∷ []) []) ∷
    C (R (pos 0) (pos 0) (pos 7) (pos 6)) 256 256 ((pos 10) ∷ (pos 9) ∷ (pos 0) ∷ (pos 7) ∷ (pos 0) ∷ (minus 1) ∷ (pos 7) ∷ (minus 2) ∷ (pos 0) ∷ (pos 0) ∷ [])
    (returned 1 3 0 ((pos 6) ∷ (pos 6) ∷ (pos 0) ∷ (pos 6) ∷ (pos 0) ∷ (pos 0) ∷ (pos 7) ∷ (pos 7) ∷ []) (3 ∷ 7 ∷ []) ((pos 0) ∷ (pos 0) ∷ (pos 6) ∷ (pos 6) ∷ (pos 0) ∷ (pos 6) ∷ (pos 0) ∷ (pos 0) ∷ [])) ∷
    C (R (pos 0) (pos 0) (pos 60) (pos 60)) 256 256 ((pos 3) ∷ (pos 60) ∷ (pos 2) ∷ (pos 65) ∷ (pos 0) ∷ (pos 59) ∷ (minus 1) ∷ (pos 60) ∷ (pos 31) ∷ (pos 52) ∷ (pos 30) ∷ (pos 60) ∷ [])
    (returned 1 4 0 ((pos 30) ∷ (pos 60) ∷ (pos 0) ∷ (pos 60) ∷ (pos 0) ∷ (pos 59) ∷ (pos 31) ∷ (pos 52) ∷ (pos 7) ∷ (pos 7) ∷ []) (4 ∷ 7 ∷ []) ((pos 3) ∷ (pos 60) ∷ (pos 0) ∷ (pos 60) ∷ (pos 0) ∷ (pos 59) ∷ (pos 31) ∷ (pos 52) ∷ (pos 30) ∷ (pos 60) ∷ [])) ∷
    C (R (pos 0) (pos 0) (pos 60) (pos 60)) 256 256 ((pos 4) ∷ (pos 0) ∷ (pos 7) ∷ (pos 0) ∷ (pos 5) ∷ (pos 0) ∷ (pos 4) ∷ (minus 5) ∷ [])
    (returned 0 0 0 ((pos 7) ∷ (pos 7) ∷ []) (7 ∷ []) []) ∷
    L (R (minus 275) (pos 462) (pos 214) (pos 579)) 256 ((minus 114) ∷ (pos 498) ∷ (pos 69) ∷ (pos 529) ∷ (pos 246) ∷ (pos 595) ∷ (pos 411) ∷ (pos 697) ∷ (pos 559) ∷ (pos 830) ∷ (pos 685) ∷ (pos 994) ∷ [])
    (returned 1 3 0 ((minus 114) ∷ (pos 498) ∷ (pos 69) ∷ (pos 529) ∷ (pos 203) ∷ (pos 579) ∷ (pos 7) ∷ (pos 7) ∷ []) (3 ∷ 7 ∷ []) []) ∷
    C (R (pos 0) (pos 0) (pos 6) (pos 5)) 4 256 ((pos 7) ∷ (minus 2) ∷ (pos 8) ∷ (pos 8) ∷ (pos 3) ∷ (pos 6) ∷ (minus 1) ∷ (pos 8) ∷ (minus 2) ∷ (minus 1) ∷ (minus 1) ∷ (pos 0) ∷ [])
    (refusal 8 ((pos 0) ∷ (pos 0) ∷ (pos 6) ∷ (pos 0) ∷ (pos 6) ∷ (pos 5) ∷ (pos 0) ∷ (pos 5) ∷ [])) ∷
    C (R (pos 0) (pos 0) (pos 9) (pos 12)) 256 256 ((pos 0) ∷ (pos 0) ∷ (pos 8) ∷ (pos 0) ∷ (pos 4) ∷ (pos 14) ∷ [])
    (returned 1 4 0 ((pos 4) ∷ (pos 12) ∷ (pos 3) ∷ (pos 12) ∷ (pos 0) ∷ (pos 0) ∷ (pos 8) ∷ (pos 0) ∷ (pos 7) ∷ (pos 7) ∷ []) (4 ∷ 7 ∷ []) ((pos 3) ∷ (pos 12) ∷ (pos 0) ∷ (pos 0) ∷ (pos 8) ∷ (pos 0) ∷ (pos 4) ∷ (pos 12) ∷ [])) ∷
    C (R (pos 0) (pos 0) (pos 8) (pos 4)) 256 256 ((minus 2) ∷ (minus 1) ∷ (minus 2) ∷ (minus 1) ∷ (pos 10) ∷ (minus 1) ∷ (minus 2) ∷ (minus 1) ∷ (minus 2) ∷ (minus 1) ∷ (minus 2) ∷ (minus 1) ∷ (minus 2) ∷ (minus 2) ∷ (minus 2) ∷ (pos 0) ∷ (pos 10) ∷ (pos 0) ∷ (pos 10) ∷ (pos 4) ∷ (pos 10) ∷ (pos 4) ∷ (pos 8) ∷ (pos 4) ∷ [])
    (returned 1 3 0 ((pos 8) ∷ (pos 0) ∷ (pos 8) ∷ (pos 4) ∷ (pos 0) ∷ (pos 0) ∷ (pos 7) ∷ (pos 7) ∷ []) (3 ∷ 7 ∷ []) ((pos 8) ∷ (pos 4) ∷ (pos 0) ∷ (pos 0) ∷ (pos 8) ∷ (pos 0) ∷ (pos 0) ∷ (pos 0) ∷ (pos 8) ∷ (pos 0) ∷ [])) ∷
    C (R (pos 0) (pos 0) (pos 2) (pos 18)) 256 256 ((pos 3) ∷ (pos 17) ∷ (pos 3) ∷ (pos 19) ∷ (pos 1) ∷ (minus 1) ∷ (pos 2) ∷ (pos 17) ∷ (pos 1) ∷ (minus 2) ∷ (minus 1) ∷ (pos 0) ∷ (minus 2) ∷ (pos 20) ∷ (pos 4) ∷ (pos 1) ∷ (pos 1) ∷ (pos 9) ∷ (pos 1) ∷ (pos 9) ∷ (minus 1) ∷ (pos 18) ∷ (pos 4) ∷ (pos 19) ∷ [])
    (returned 1 10 0 ((pos 2) ∷ (pos 18) ∷ (pos 2) ∷ (pos 9) ∷ (pos 1) ∷ (pos 0) ∷ (pos 0) ∷ (pos 0) ∷ (pos 0) ∷ (pos 13) ∷ (pos 2) ∷ (pos 7) ∷ (pos 2) ∷ (pos 6) ∷ (pos 1) ∷ (pos 9) ∷ (pos 0) ∷ (pos 13) ∷ (pos 0) ∷ (pos 18) ∷ (pos 7) ∷ (pos 7) ∷ []) (10 ∷ 7 ∷ []) ((pos 2) ∷ (pos 9) ∷ (pos 1) ∷ (pos 0) ∷ (pos 2) ∷ (pos 17) ∷ (pos 1) ∷ (pos 0) ∷ (pos 0) ∷ (pos 0) ∷ (pos 0) ∷ (pos 18) ∷ (pos 0) ∷ (pos 13) ∷ (pos 2) ∷ (pos 7) ∷ (pos 2) ∷ (pos 6) ∷ (pos 1) ∷ (pos 9) ∷ (pos 0) ∷ (pos 13) ∷ (pos 0) ∷ (pos 18) ∷ (pos 2) ∷ (pos 18) ∷ [])) ∷
    []

drawings1 : map shown table1 ≡ map (λ c. c.expected) table1
unfolding at_end get_segment_intersection edge_intersection side_intersection get_intersection start_locs_are_clockwise at_vertex scan_pass scan_answer scan_loop point_in_polygon path1_contains_path2 get_bounds_path get_location determinant numerator fraction working_of crossing_of point_at intersection cross_product_sign is_collinear cross_product_three_points cross_product_is_negative is_clockwise_dir set_owner set_edge set_next set_prev set_results set_edge_list ring unlink add_to_edge struck uncouple_edge own_from set_new_owner drop_collinear_pass drop_collinear assign_side assign_edges check_ring check_from check_edges enter_all arena_of straighten_pass straighten points_from get_path get_paths clip_walked execute sheet_refusal early_refusal delivered answered clip_closed clip_open filled_part is_present first_off_edge line_through line_cross line_from line_passes line_walk_from walk_open pieces longer_than_one execute_lines seek relink regroup keep_one keep_both keep_each settle rejoin one_turn turns_from tidy_edges add add_all push_start_loc next_side next_outside add_corner_prev_curr add_corner_loc add_corners push_start_locs next_inside get_next_location second_search remain_outside enter pass_to pass_through leave cross_boundary add_round retrace close_outline last_off pass_from passes surround after_while walk_from walk_closed walked_outline lib.Ieee.add of_int sub mul div neg to_signed eq lt le
drawings1 = refl

abbrev table2 : List Case
table2 =
    C (R (pos 0) (pos 0) (pos 9) (pos 5)) 2 256 ((pos 1) ∷ (pos 0) ∷ (pos 1) ∷ (pos 0) ∷ (pos 10) ∷ (pos 6) ∷ (pos 10) ∷ (pos 6) ∷ (pos 1) ∷ (pos 0) ∷ (minus 2) ∷ (pos 0) ∷ (pos 1) ∷ (pos 0) ∷ (pos 1) ∷ (pos 0) ∷ [])
    (refusal 8 ((pos 1) ∷ (pos 0) ∷ (pos 8) ∷ (pos 5) ∷ (pos 1) ∷ (pos 0) ∷ [])) ∷
    C (R (pos 0) (pos 0) (pos 60) (pos 60)) 256 256 ((pos 24) ∷ (minus 3) ∷ (pos 46) ∷ (pos 5) ∷ (pos 44) ∷ (pos 0) ∷ (pos 42) ∷ (pos 0) ∷ (pos 42) ∷ (pos 0) ∷ (pos 45) ∷ (minus 5) ∷ (pos 45) ∷ (pos 4) ∷ (pos 46) ∷ (pos 0) ∷ [])
    (returned 2 6 1 ((pos 32) ∷ (pos 0) ∷ (pos 46) ∷ (pos 5) ∷ (pos 44) ∷ (pos 0) ∷ (pos 45) ∷ (pos 0) ∷ (pos 45) ∷ (pos 4) ∷ (pos 46) ∷ (pos 0) ∷ (pos 7) ∷ (pos 7) ∷ []) (3 ∷ 3 ∷ 7 ∷ []) ((pos 46) ∷ (pos 0) ∷ (pos 32) ∷ (pos 0) ∷ (pos 46) ∷ (pos 5) ∷ (pos 44) ∷ (pos 0) ∷ (pos 42) ∷ (pos 0) ∷ (pos 45) ∷ (pos 0) ∷ (pos 45) ∷ (pos 4) ∷ (pos 46) ∷ (pos 0) ∷ [])) ∷
    C (R (pos 16777217) (pos 0) (pos 32112446) (pos 11314809)) 256 256 ((pos 32112447) ∷ (pos 0) ∷ (minus 33554432) ∷ (minus 26202942) ∷ (minus 16462582) ∷ (minus 11880285) ∷ (minus 21407166) ∷ (minus 22005139) ∷ (pos 33554432) ∷ (pos 33554432) ∷ (pos 16777217) ∷ (pos 1) ∷ (pos 11062732) ∷ (minus 24810452) ∷ (pos 6915891) ∷ (pos 26735686) ∷ [])
    (returned 1 8 0 ((pos 16777217) ∷ (pos 11314809) ∷ (pos 21449013) ∷ (pos 11314809) ∷ (pos 32112446) ∷ (pos 1) ∷ (pos 32112446) ∷ (pos 0) ∷ (pos 16777217) ∷ (pos 0) ∷ (pos 16777217) ∷ (pos 11314809) ∷ (pos 22434620) ∷ (pos 11314809) ∷ (pos 16777217) ∷ (pos 1) ∷ (pos 7) ∷ (pos 7) ∷ []) (8 ∷ 7 ∷ []) ((pos 21449013) ∷ (pos 11314809) ∷ (pos 32112446) ∷ (pos 1) ∷ (pos 32112446) ∷ (pos 0) ∷ (pos 16777217) ∷ (pos 0) ∷ (pos 16777217) ∷ (pos 11314809) ∷ (pos 32112446) ∷ (pos 11314809) ∷ (pos 22434620) ∷ (pos 11314809) ∷ (pos 16777217) ∷ (pos 1) ∷ (pos 16777217) ∷ (pos 11314809) ∷ [])) ∷
    C (R (pos 2448000) (minus 984000) (pos 5256000) (pos 504000)) 256 256 ((pos 7678706) ∷ (minus 573397) ∷ (pos 4774706) ∷ (pos 3697403) ∷ (minus 862894) ∷ (minus 573397) ∷ (pos 4774706) ∷ (minus 7577797) ∷ (pos 13145906) ∷ (minus 573397) ∷ (pos 4774706) ∷ (pos 9164603) ∷ (minus 6330094) ∷ (minus 573397) ∷ (pos 4774706) ∷ (minus 13044997) ∷ (pos 18613106) ∷ (minus 573397) ∷ (pos 4774706) ∷ (pos 14631803) ∷ [])
    (returned 0 0 0 ((pos 7) ∷ (pos 7) ∷ []) (7 ∷ []) []) ∷
    C (R (pos 0) (pos 0) (pos 60) (pos 60)) 256 0 ((pos 0) ∷ (pos 1) ∷ (pos 4) ∷ (pos 8) ∷ (pos 2) ∷ (pos 0) ∷ (pos 0) ∷ (pos 0) ∷ (minus 2) ∷ (pos 5) ∷ (pos 5) ∷ (minus 1) ∷ [])
    (returned 1 7 0 ((pos 3) ∷ (pos 0) ∷ (pos 2) ∷ (pos 0) ∷ (pos 0) ∷ (pos 1) ∷ (pos 4) ∷ (pos 8) ∷ (pos 2) ∷ (pos 0) ∷ (pos 0) ∷ (pos 0) ∷ (pos 0) ∷ (pos 3) ∷ (pos 7) ∷ (pos 7) ∷ []) (7 ∷ 7 ∷ []) ((pos 2) ∷ (pos 0) ∷ (pos 0) ∷ (pos 1) ∷ (pos 4) ∷ (pos 8) ∷ (pos 2) ∷ (pos 0) ∷ (pos 0) ∷ (pos 0) ∷ (pos 0) ∷ (pos 3) ∷ (pos 3) ∷ (pos 0) ∷ [])) ∷
    C (R (minus 20000001) (minus 20000001) (minus 11453758) (pos 20604644)) 14 256 ((minus 33554431) ∷ (minus 17872180) ∷ (minus 11518369) ∷ (minus 25445918) ∷ (minus 26945830) ∷ (minus 17849757) ∷ (minus 5693058) ∷ (minus 6282919) ∷ (pos 28172467) ∷ (pos 29988034) ∷ (minus 11453759) ∷ (pos 20604644) ∷ (minus 2626395) ∷ (pos 802416) ∷ (minus 22951891) ∷ (pos 13469804) ∷ (pos 4237841) ∷ (pos 278739) ∷ (minus 4950304) ∷ (pos 33554432) ∷ [])
    (refusal 8 ((minus 12153138) ∷ (pos 20604644) ∷ (minus 20000001) ∷ (pos 6496975) ∷ (minus 20000001) ∷ (minus 20000001) ∷ (minus 20000001) ∷ (minus 14069484) ∷ (minus 11453758) ∷ (minus 9418184) ∷ (minus 11453758) ∷ (pos 20604644) ∷ (minus 11453759) ∷ (pos 20604644) ∷ (minus 20000001) ∷ (pos 20604644) ∷ (minus 11453759) ∷ (pos 20604644) ∷ (minus 11453758) ∷ (pos 20604641) ∷ (minus 11453758) ∷ (pos 6303862) ∷ (minus 20000001) ∷ (pos 11630107) ∷ (minus 20000001) ∷ (pos 12037698) ∷ (minus 11453758) ∷ (pos 7891498) ∷ (minus 11453758) ∷ (pos 20604644) ∷ [])) ∷
    L (R (pos 0) (pos 0) (pos 6) (pos 3)) 256 ((minus 1) ∷ (pos 2) ∷ (pos 0) ∷ (pos 2) ∷ (pos 0) ∷ (pos 3) ∷ (pos 5) ∷ (pos 3) ∷ (pos 5) ∷ (pos 0) ∷ (pos 5) ∷ (pos 0) ∷ (pos 6) ∷ (pos 0) ∷ (pos 6) ∷ (pos 2) ∷ (pos 6) ∷ (minus 1) ∷ (minus 1) ∷ (minus 1) ∷ (minus 1) ∷ (minus 1) ∷ (minus 1) ∷ (pos 3) ∷ (minus 1) ∷ (pos 2) ∷ (pos 5) ∷ (pos 2) ∷ [])
    (returned 2 4 0 ((pos 5) ∷ (pos 3) ∷ (pos 5) ∷ (pos 0) ∷ (pos 0) ∷ (pos 2) ∷ (pos 5) ∷ (pos 2) ∷ (pos 7) ∷ (pos 7) ∷ []) (2 ∷ 2 ∷ 7 ∷ []) []) ∷
    C (R (pos 0) (pos 0) (pos 8) (pos 9)) 256 256 ((pos 0) ∷ (pos 0) ∷ (pos 10) ∷ (pos 1) ∷ (pos 0) ∷ (pos 0) ∷ [])
    (returned 0 0 0 ((pos 7) ∷ (pos 7) ∷ []) (7 ∷ []) ((pos 0) ∷ (pos 0) ∷ (pos 8) ∷ (pos 0) ∷ (pos 0) ∷ (pos 0) ∷ [])) ∷
    C (R (pos 0) (pos 0) (pos 5) (pos 4)) 256 0 ((pos 5) ∷ (pos 2) ∷ (pos 5) ∷ (minus 1) ∷ (pos 5) ∷ (pos 0) ∷ (pos 5) ∷ (pos 0) ∷ (pos 7) ∷ (pos 0) ∷ (pos 7) ∷ (pos 6) ∷ (pos 5) ∷ (pos 6) ∷ (pos 5) ∷ (pos 6) ∷ (pos 5) ∷ (pos 4) ∷ (pos 5) ∷ (pos 4) ∷ [])
    (returned 0 0 0 ((pos 7) ∷ (pos 7) ∷ []) (7 ∷ []) []) ∷
    U (R (pos 0) (pos 0) (pos 0) (pos 12)) 256 0 ((pos 0) ∷ (pos 0) ∷ (pos 0) ∷ (pos 12) ∷ (pos 0) ∷ (pos 12) ∷ (minus 1) ∷ (pos 12) ∷ (pos 1) ∷ (pos 12) ∷ (pos 1) ∷ (pos 12) ∷ (pos 2) ∷ (pos 0) ∷ (pos 0) ∷ (pos 14) ∷ [])
    (returned 0 0 0 ((pos 7) ∷ (pos 7) ∷ []) (7 ∷ []) []) ∷
    C (R (pos 0) (pos 0) (pos 60) (pos 60)) 256 256 ((minus 8) ∷ (pos 1) ∷ (pos 0) ∷ (pos 3) ∷ (pos 5) ∷ (minus 1) ∷ (pos 0) ∷ (minus 1) ∷ [])
    (returned 1 3 0 ((pos 0) ∷ (pos 0) ∷ (pos 0) ∷ (pos 3) ∷ (pos 3) ∷ (pos 0) ∷ (pos 7) ∷ (pos 7) ∷ []) (3 ∷ 7 ∷ []) ((pos 0) ∷ (pos 3) ∷ (pos 3) ∷ (pos 0) ∷ (pos 0) ∷ (pos 0) ∷ [])) ∷
    L (R (pos 0) (pos 16777217) (pos 17358333) (pos 28302806)) 256 ((minus 17252254) ∷ (minus 15789776) ∷ (pos 29011539) ∷ (pos 28348209) ∷ (pos 17358334) ∷ (pos 28302805) ∷ (pos 12960666) ∷ (pos 13043669) ∷ (pos 21958651) ∷ (pos 33554432) ∷ (pos 17358333) ∷ (pos 28302808) ∷ (pos 32479037) ∷ (pos 18418202) ∷ (pos 17358332) ∷ (pos 16777217) ∷ (pos 0) ∷ (pos 28302808) ∷ (minus 16362685) ∷ (minus 20655007) ∷ (pos 9404042) ∷ (pos 17939687) ∷ (pos 25188150) ∷ (minus 12554956) ∷ [])
    (returned 6 13 0 ((pos 16883255) ∷ (pos 16777217) ∷ (pos 17358333) ∷ (pos 17230464) ∷ (pos 17358333) ∷ (pos 28302801) ∷ (pos 14036670) ∷ (pos 16777217) ∷ (pos 14598557) ∷ (pos 16777217) ∷ (pos 17358333) ∷ (pos 23068080) ∷ (pos 17358333) ∷ (pos 16777217) ∷ (pos 17358332) ∷ (pos 16777217) ∷ (pos 17358332) ∷ (pos 16777217) ∷ (pos 3) ∷ (pos 28302806) ∷ (pos 8627949) ∷ (pos 16777217) ∷ (pos 9404042) ∷ (pos 17939687) ∷ (pos 10005739) ∷ (pos 16777217) ∷ (pos 7) ∷ (pos 7) ∷ []) (2 ∷ 2 ∷ 2 ∷ 2 ∷ 2 ∷ 3 ∷ 7 ∷ []) []) ∷
    L (R (pos 0) (pos 0) (pos 3) (pos 6)) 256 ((pos 3) ∷ (pos 6) ∷ (pos 1) ∷ (pos 0) ∷ (pos 3) ∷ (pos 6) ∷ (minus 1) ∷ (minus 2) ∷ (minus 1) ∷ (minus 2) ∷ (minus 1) ∷ (minus 2) ∷ (pos 5) ∷ (pos 0) ∷ (minus 2) ∷ (pos 0) ∷ (pos 3) ∷ (pos 8) ∷ (minus 2) ∷ (pos 0) ∷ (pos 1) ∷ (pos 3) ∷ (minus 1) ∷ (minus 1) ∷ (pos 1) ∷ (pos 3) ∷ (pos 1) ∷ (pos 8) ∷ [])
    (returned 7 16 0 ((pos 3) ∷ (pos 6) ∷ (pos 1) ∷ (pos 0) ∷ (pos 1) ∷ (pos 0) ∷ (pos 3) ∷ (pos 6) ∷ (pos 3) ∷ (pos 6) ∷ (pos 0) ∷ (pos 0) ∷ (pos 0) ∷ (pos 3) ∷ (pos 1) ∷ (pos 6) ∷ (pos 1) ∷ (pos 6) ∷ (pos 0) ∷ (pos 3) ∷ (pos 0) ∷ (pos 2) ∷ (pos 1) ∷ (pos 3) ∷ (pos 0) ∷ (pos 1) ∷ (pos 0) ∷ (pos 1) ∷ (pos 1) ∷ (pos 3) ∷ (pos 1) ∷ (pos 6) ∷ (pos 7) ∷ (pos 7) ∷ []) (2 ∷ 2 ∷ 2 ∷ 2 ∷ 2 ∷ 3 ∷ 3 ∷ 7 ∷ []) []) ∷
    C (R (pos 0) (pos 0) (pos 1) (pos 11)) 256 256 ((pos 1) ∷ (pos 5) ∷ (pos 3) ∷ (pos 11) ∷ (pos 1) ∷ (pos 5) ∷ (pos 0) ∷ (pos 12) ∷ (minus 2) ∷ (pos 0) ∷ (minus 2) ∷ (pos 0) ∷ (pos 1) ∷ (pos 5) ∷ [])
    (returned 1 3 2 ((pos 0) ∷ (pos 3) ∷ (pos 1) ∷ (pos 5) ∷ (pos 0) ∷ (pos 11) ∷ (pos 7) ∷ (pos 7) ∷ []) (3 ∷ 7 ∷ []) ((pos 1) ∷ (pos 5) ∷ (pos 0) ∷ (pos 11) ∷ (pos 0) ∷ (pos 0) ∷ (pos 0) ∷ (pos 3) ∷ (pos 1) ∷ (pos 5) ∷ [])) ∷
    L (R (minus 33554432) (minus 20000001) (pos 2073351) (minus 14396422)) 2 ((pos 21396738) ∷ (minus 23445763) ∷ (minus 32668261) ∷ (minus 24058142) ∷ (pos 1433657) ∷ (minus 32703860) ∷ (pos 13136291) ∷ (pos 17353849) ∷ (pos 14987433) ∷ (minus 30517586) ∷ (minus 23388838) ∷ (minus 18702282) ∷ (minus 1636091) ∷ (minus 33554431) ∷ (pos 3379516) ∷ (minus 30157979) ∷ (pos 33554432) ∷ (minus 28261657) ∷ (minus 33554432) ∷ (minus 20000003) ∷ [])
    (refusal 8 []) ∷
    []

drawings2 : map shown table2 ≡ map (λ c. c.expected) table2
unfolding at_end get_segment_intersection edge_intersection side_intersection get_intersection start_locs_are_clockwise at_vertex scan_pass scan_answer scan_loop point_in_polygon path1_contains_path2 get_bounds_path get_location determinant numerator fraction working_of crossing_of point_at intersection cross_product_sign is_collinear cross_product_three_points cross_product_is_negative is_clockwise_dir set_owner set_edge set_next set_prev set_results set_edge_list ring unlink add_to_edge struck uncouple_edge own_from set_new_owner drop_collinear_pass drop_collinear assign_side assign_edges check_ring check_from check_edges enter_all arena_of straighten_pass straighten points_from get_path get_paths clip_walked execute sheet_refusal early_refusal delivered answered clip_closed clip_open filled_part is_present first_off_edge line_through line_cross line_from line_passes line_walk_from walk_open pieces longer_than_one execute_lines seek relink regroup keep_one keep_both keep_each settle rejoin one_turn turns_from tidy_edges add add_all push_start_loc next_side next_outside add_corner_prev_curr add_corner_loc add_corners push_start_locs next_inside get_next_location second_search remain_outside enter pass_to pass_through leave cross_boundary add_round retrace close_outline last_off pass_from passes surround after_while walk_from walk_closed walked_outline lib.Ieee.add of_int sub mul div neg to_signed eq lt le
drawings2 = refl

abbrev table3 : List Case
table3 =
    C (R (pos 33554431) (pos 0) (pos 33554432) (pos 29167713)) 256 256 ((minus 33249062) ∷ (pos 33554431) ∷ (pos 33554431) ∷ (pos 1) ∷ (minus 33554431) ∷ (minus 3712682) ∷ (pos 33554432) ∷ (pos 29167715) ∷ (pos 33554431) ∷ (pos 0) ∷ (pos 22448539) ∷ (pos 27928538) ∷ (pos 27708242) ∷ (minus 2200057) ∷ (pos 33554432) ∷ (pos 1) ∷ (pos 12180941) ∷ (pos 33554431) ∷ (minus 27332657) ∷ (pos 25155160) ∷ (pos 33554431) ∷ (pos 21418247) ∷ (minus 31998510) ∷ (pos 6430748) ∷ (pos 33554431) ∷ (pos 29167715) ∷ [])
    (returned 1 3 5 ((pos 33554431) ∷ (pos 0) ∷ (pos 33554432) ∷ (pos 1) ∷ (pos 33554431) ∷ (pos 2) ∷ (pos 7) ∷ (pos 7) ∷ []) (3 ∷ 7 ∷ []) ((pos 33554431) ∷ (pos 1) ∷ (pos 33554431) ∷ (pos 0) ∷ (pos 33554431) ∷ (pos 29167713) ∷ (pos 33554432) ∷ (pos 29167713) ∷ (pos 33554431) ∷ (pos 29167713) ∷ (pos 33554431) ∷ (pos 0) ∷ (pos 33554432) ∷ (pos 1) ∷ (pos 33554431) ∷ (pos 2) ∷ [])) ∷
    C (R (pos 1) (pos 2) (pos 2) (pos 3)) 256 0 ((pos 3) ∷ (minus 1) ∷ (pos 3) ∷ (pos 5) ∷ (pos 1) ∷ (pos 0) ∷ (minus 1) ∷ (minus 1) ∷ [])
    (returned 0 0 0 ((pos 7) ∷ (pos 7) ∷ []) (7 ∷ []) ((pos 2) ∷ (pos 2) ∷ (pos 1) ∷ (pos 2) ∷ (pos 2) ∷ (pos 2) ∷ [])) ∷
    C (R (minus 407) (pos 226) (minus 279) (pos 819)) 9 256 ((minus 252) ∷ (pos 260) ∷ (minus 273) ∷ (pos 370) ∷ (minus 450) ∷ (pos 363) ∷ (minus 499) ∷ (pos 121) ∷ (minus 216) ∷ (minus 23) ∷ (pos 50) ∷ (pos 260) ∷ (minus 178) ∷ (pos 658) ∷ (minus 694) ∷ (pos 541) ∷ (minus 744) ∷ (minus 57) ∷ [])
    (returned 1 9 0 ((minus 407) ∷ (pos 226) ∷ (minus 304) ∷ (pos 226) ∷ (minus 279) ∷ (pos 242) ∷ (minus 279) ∷ (pos 369) ∷ (minus 407) ∷ (pos 364) ∷ (minus 407) ∷ (pos 226) ∷ (minus 279) ∷ (pos 226) ∷ (minus 279) ∷ (pos 635) ∷ (minus 407) ∷ (pos 606) ∷ (pos 7) ∷ (pos 7) ∷ []) (9 ∷ 7 ∷ []) ((minus 304) ∷ (pos 226) ∷ (minus 279) ∷ (pos 242) ∷ (minus 279) ∷ (pos 369) ∷ (minus 407) ∷ (pos 364) ∷ (minus 407) ∷ (pos 226) ∷ (minus 279) ∷ (pos 226) ∷ (minus 279) ∷ (pos 635) ∷ (minus 407) ∷ (pos 606) ∷ (minus 407) ∷ (pos 226) ∷ [])) ∷
    L (R (pos 0) (pos 0) (pos 4) (pos 5)) 0 ((pos 5) ∷ (pos 5) ∷ (minus 3) ∷ (pos 7) ∷ (minus 2) ∷ (minus 2) ∷ (pos 5) ∷ (minus 2) ∷ [])
    (returned 0 0 0 ((pos 7) ∷ (pos 7) ∷ []) (7 ∷ []) []) ∷
    L (R (minus 3600000) (pos 504000) (minus 3324000) (pos 2328000)) 256 ((minus 526218) ∷ (pos 1371699) ∷ (minus 5418986) ∷ (pos 4645677) ∷ (minus 5811756) ∷ (minus 2581664) ∷ (pos 1830397) ∷ (pos 1371699) ∷ (minus 6597294) ∷ (pos 6683831) ∷ (minus 6990064) ∷ (minus 4619818) ∷ (pos 4187012) ∷ (pos 1371699) ∷ (minus 7775602) ∷ (pos 8721985) ∷ (minus 8168371) ∷ (minus 6657971) ∷ (pos 6543628) ∷ (pos 1371699) ∷ (minus 8953909) ∷ (pos 10760139) ∷ (minus 9346679) ∷ (minus 8696126) ∷ (pos 8900243) ∷ (pos 1371699) ∷ [])
    (returned 0 0 0 ((pos 7) ∷ (pos 7) ∷ []) (7 ∷ []) []) ∷
    C (R (pos 0) (pos 7) (pos 18034961) (pos 16545742)) 4 256 ((minus 24805198) ∷ (pos 10943456) ∷ (pos 19374352) ∷ (minus 28306994) ∷ (pos 18034961) ∷ (pos 7) ∷ (pos 19852019) ∷ (minus 33554432) ∷ (minus 30779308) ∷ (pos 16750489) ∷ (minus 11556967) ∷ (minus 31202793) ∷ [])
    (returned 0 0 0 ((pos 7) ∷ (pos 7) ∷ []) (7 ∷ []) []) ∷
    C (R (pos 0) (pos 0) (pos 9) (pos 9)) 256 256 ((pos 0) ∷ (pos 8) ∷ (pos 10) ∷ (pos 4) ∷ (pos 0) ∷ (pos 8) ∷ (minus 2) ∷ (pos 0) ∷ (pos 1) ∷ (pos 9) ∷ (minus 2) ∷ (pos 0) ∷ (minus 1) ∷ (pos 11) ∷ (pos 0) ∷ (pos 10) ∷ (pos 0) ∷ (pos 4) ∷ (pos 9) ∷ (pos 9) ∷ (pos 0) ∷ (pos 4) ∷ (pos 10) ∷ (pos 9) ∷ (pos 10) ∷ (minus 1) ∷ (pos 10) ∷ (pos 9) ∷ (pos 10) ∷ (pos 0) ∷ [])
    (returned 1 4 0 ((pos 9) ∷ (pos 8) ∷ (pos 9) ∷ (pos 0) ∷ (pos 0) ∷ (pos 8) ∷ (pos 0) ∷ (pos 4) ∷ (pos 7) ∷ (pos 7) ∷ []) (4 ∷ 7 ∷ []) ((pos 9) ∷ (pos 0) ∷ (pos 0) ∷ (pos 8) ∷ (pos 9) ∷ (pos 4) ∷ (pos 0) ∷ (pos 8) ∷ (pos 0) ∷ (pos 6) ∷ (pos 1) ∷ (pos 9) ∷ (pos 0) ∷ (pos 6) ∷ (pos 0) ∷ (pos 4) ∷ (pos 9) ∷ (pos 9) ∷ (pos 0) ∷ (pos 4) ∷ (pos 9) ∷ (pos 8) ∷ [])) ∷
    L (R (pos 4260000) (pos 660000) (pos 8028000) (pos 5316000)) 0 ((pos 4356000) ∷ (pos 7584000) ∷ (pos 5817389) ∷ (pos 8027898) ∷ (pos 7206555) ∷ (pos 8755357) ∷ (pos 8481600) ∷ (pos 9753559) ∷ (pos 9602584) ∷ (pos 11005676) ∷ (pos 10532247) ∷ (pos 12490689) ∷ (pos 11236618) ∷ (pos 14183299) ∷ (pos 11685512) ∷ (pos 16053936) ∷ (pos 11852894) ∷ (pos 18068894) ∷ (pos 11717104) ∷ (pos 20190589) ∷ (pos 4356000) ∷ (pos 7584000) ∷ [])
    (returned 0 0 0 ((pos 7) ∷ (pos 7) ∷ []) (7 ∷ []) []) ∷
    C (R (pos 0) (pos 0) (pos 11) (pos 2)) 0 256 ((minus 2) ∷ (pos 0) ∷ (pos 0) ∷ (pos 2) ∷ (minus 2) ∷ (pos 0) ∷ [])
    (returned 0 0 0 ((pos 7) ∷ (pos 7) ∷ []) (7 ∷ []) []) ∷
    C (R (pos 0) (pos 0) (pos 11) (pos 10)) 256 256 ((minus 1) ∷ (pos 11) ∷ (pos 11) ∷ (pos 10) ∷ (minus 2) ∷ (pos 9) ∷ (pos 11) ∷ (pos 10) ∷ (pos 0) ∷ (pos 10) ∷ (pos 0) ∷ (minus 2) ∷ (pos 12) ∷ (pos 12) ∷ (pos 11) ∷ (pos 0) ∷ (minus 2) ∷ (pos 1) ∷ (pos 11) ∷ (pos 0) ∷ [])
    (returned 1 6 5 ((pos 11) ∷ (pos 0) ∷ (pos 0) ∷ (pos 10) ∷ (pos 0) ∷ (pos 0) ∷ (pos 1) ∷ (pos 0) ∷ (pos 10) ∷ (pos 10) ∷ (pos 11) ∷ (pos 10) ∷ (pos 7) ∷ (pos 7) ∷ []) (6 ∷ 7 ∷ []) ((pos 11) ∷ (pos 0) ∷ (pos 0) ∷ (pos 10) ∷ (pos 11) ∷ (pos 10) ∷ (pos 0) ∷ (pos 9) ∷ (pos 11) ∷ (pos 10) ∷ (pos 0) ∷ (pos 10) ∷ (pos 0) ∷ (pos 0) ∷ (pos 1) ∷ (pos 0) ∷ (pos 10) ∷ (pos 10) ∷ (pos 11) ∷ (pos 10) ∷ (pos 11) ∷ (pos 0) ∷ (pos 0) ∷ (pos 0) ∷ (pos 11) ∷ (pos 0) ∷ [])) ∷
    C (R (pos 0) (pos 0) (pos 60) (pos 60)) 256 256 ((pos 52) ∷ (pos 4) ∷ (pos 61) ∷ (pos 4) ∷ (pos 56) ∷ (pos 24) ∷ (pos 55) ∷ (pos 26) ∷ (pos 55) ∷ (pos 28) ∷ (pos 52) ∷ (pos 29) ∷ (pos 54) ∷ (pos 57) ∷ (pos 58) ∷ (pos 50) ∷ (pos 61) ∷ (pos 48) ∷ (pos 55) ∷ (pos 51) ∷ (pos 66) ∷ (pos 53) ∷ (pos 64) ∷ (pos 56) ∷ (pos 66) ∷ (minus 2) ∷ (pos 68) ∷ (pos 2) ∷ [])
    (returned 2 13 1 ((pos 60) ∷ (pos 3) ∷ (pos 52) ∷ (pos 4) ∷ (pos 60) ∷ (pos 4) ∷ (pos 60) ∷ (pos 8) ∷ (pos 56) ∷ (pos 24) ∷ (pos 55) ∷ (pos 26) ∷ (pos 55) ∷ (pos 28) ∷ (pos 52) ∷ (pos 29) ∷ (pos 54) ∷ (pos 57) ∷ (pos 58) ∷ (pos 50) ∷ (pos 60) ∷ (pos 48) ∷ (pos 55) ∷ (pos 51) ∷ (pos 60) ∷ (pos 51) ∷ (pos 7) ∷ (pos 7) ∷ []) (3 ∷ 10 ∷ 7 ∷ []) ((pos 60) ∷ (pos 3) ∷ (pos 52) ∷ (pos 4) ∷ (pos 60) ∷ (pos 4) ∷ (pos 60) ∷ (pos 8) ∷ (pos 56) ∷ (pos 24) ∷ (pos 55) ∷ (pos 26) ∷ (pos 55) ∷ (pos 28) ∷ (pos 52) ∷ (pos 29) ∷ (pos 54) ∷ (pos 57) ∷ (pos 58) ∷ (pos 50) ∷ (pos 60) ∷ (pos 48) ∷ (pos 55) ∷ (pos 51) ∷ (pos 60) ∷ (pos 51) ∷ [])) ∷
    C (R (pos 0) (pos 0) (pos 7) (pos 8)) 14 256 ((pos 1) ∷ (pos 7) ∷ (pos 6) ∷ (minus 1) ∷ (pos 3) ∷ (pos 1) ∷ (pos 7) ∷ (pos 1) ∷ (pos 0) ∷ (pos 0) ∷ (pos 9) ∷ (pos 9) ∷ (minus 1) ∷ (pos 1) ∷ (pos 0) ∷ (pos 9) ∷ (minus 2) ∷ (pos 0) ∷ (pos 7) ∷ (minus 2) ∷ (minus 2) ∷ (pos 7) ∷ (pos 0) ∷ (pos 4) ∷ (pos 7) ∷ (pos 1) ∷ [])
    (refusal 8 ((pos 7) ∷ (pos 1) ∷ (pos 1) ∷ (pos 7) ∷ (pos 5) ∷ (pos 0) ∷ (pos 4) ∷ (pos 0) ∷ (pos 3) ∷ (pos 1) ∷ (pos 7) ∷ (pos 1) ∷ (pos 0) ∷ (pos 0) ∷ (pos 7) ∷ (pos 7) ∷ (pos 0) ∷ (pos 1) ∷ (pos 0) ∷ (pos 0) ∷ (pos 7) ∷ (pos 0) ∷ (pos 5) ∷ (pos 0) ∷ (pos 0) ∷ (pos 5) ∷ (pos 0) ∷ (pos 4) ∷ (pos 7) ∷ (pos 1) ∷ [])) ∷
    L (R (pos 77) (minus 466) (pos 445) (minus 49)) 256 ((pos 294) ∷ (pos 329) ∷ (minus 919) ∷ (minus 30) ∷ (minus 893) ∷ (minus 687) ∷ (pos 63) ∷ (minus 392) ∷ (minus 427) ∷ (pos 620) ∷ (pos 40) ∷ (minus 835) ∷ (minus 960) ∷ (minus 914) ∷ (minus 483) ∷ (minus 759) ∷ (minus 765) ∷ (pos 107) ∷ (pos 785) ∷ (minus 202) ∷ (pos 253) ∷ (pos 494) ∷ [])
    (returned 1 2 0 ((pos 77) ∷ (minus 60) ∷ (pos 445) ∷ (minus 134) ∷ (pos 7) ∷ (pos 7) ∷ []) (2 ∷ 7 ∷ []) []) ∷
    U (R (pos 5880000) (pos 1008000) (pos 8856000) (pos 7188000)) 256 0 ((minus 6876000) ∷ (pos 6420000) ∷ (minus 9521999) ∷ (pos 7945621) ∷ (minus 9522000) ∷ (pos 4894379) ∷ (minus 6876000) ∷ (pos 6420000) ∷ (minus 9521999) ∷ (pos 7945621) ∷ (minus 9522000) ∷ (pos 4894379) ∷ [])
    (returned 0 0 0 ((pos 7) ∷ (pos 7) ∷ []) (7 ∷ []) []) ∷
    L (R (pos 0) (pos 0) (pos 6) (pos 5)) 256 ((minus 1) ∷ (pos 5) ∷ (minus 3) ∷ (minus 1) ∷ (pos 7) ∷ (minus 3) ∷ (pos 9) ∷ (pos 7) ∷ [])
    (returned 0 0 0 ((pos 7) ∷ (pos 7) ∷ []) (7 ∷ []) []) ∷
    []

drawings3 : map shown table3 ≡ map (λ c. c.expected) table3
unfolding at_end get_segment_intersection edge_intersection side_intersection get_intersection start_locs_are_clockwise at_vertex scan_pass scan_answer scan_loop point_in_polygon path1_contains_path2 get_bounds_path get_location determinant numerator fraction working_of crossing_of point_at intersection cross_product_sign is_collinear cross_product_three_points cross_product_is_negative is_clockwise_dir set_owner set_edge set_next set_prev set_results set_edge_list ring unlink add_to_edge struck uncouple_edge own_from set_new_owner drop_collinear_pass drop_collinear assign_side assign_edges check_ring check_from check_edges enter_all arena_of straighten_pass straighten points_from get_path get_paths clip_walked execute sheet_refusal early_refusal delivered answered clip_closed clip_open filled_part is_present first_off_edge line_through line_cross line_from line_passes line_walk_from walk_open pieces longer_than_one execute_lines seek relink regroup keep_one keep_both keep_each settle rejoin one_turn turns_from tidy_edges add add_all push_start_loc next_side next_outside add_corner_prev_curr add_corner_loc add_corners push_start_locs next_inside get_next_location second_search remain_outside enter pass_to pass_through leave cross_boundary add_round retrace close_outline last_off pass_from passes surround after_while walk_from walk_closed walked_outline lib.Ieee.add of_int sub mul div neg to_signed eq lt le
drawings3 = refl

abbrev table4 : List Case
table4 =
    C (R (minus 1) (minus 33554431) (pos 11041850) (minus 11170886)) 256 256 ((minus 18538869) ∷ (pos 33554431) ∷ (pos 11041849) ∷ (minus 11170886) ∷ (pos 25065354) ∷ (pos 2905764) ∷ (minus 31865154) ∷ (pos 33554431) ∷ (minus 12278216) ∷ (pos 30462558) ∷ [])
    (returned 0 0 0 ((pos 7) ∷ (pos 7) ∷ []) (7 ∷ []) ((pos 11041849) ∷ (minus 11170886) ∷ (minus 1) ∷ (minus 11170886) ∷ [])) ∷
    C (R (pos 0) (pos 0) (pos 9) (pos 7)) 256 256 ((pos 8) ∷ (pos 9) ∷ (pos 8) ∷ (pos 7) ∷ (minus 2) ∷ (pos 0) ∷ (minus 2) ∷ (pos 0) ∷ (pos 8) ∷ (pos 7) ∷ (pos 8) ∷ (pos 7) ∷ (pos 1) ∷ (pos 3) ∷ (pos 10) ∷ (pos 0) ∷ (pos 10) ∷ (pos 7) ∷ (minus 2) ∷ (pos 0) ∷ (pos 10) ∷ (pos 6) ∷ (minus 1) ∷ (pos 7) ∷ (minus 1) ∷ (pos 7) ∷ [])
    (returned 1 9 0 ((pos 0) ∷ (pos 7) ∷ (pos 8) ∷ (pos 7) ∷ (pos 1) ∷ (pos 3) ∷ (pos 9) ∷ (pos 0) ∷ (pos 9) ∷ (pos 6) ∷ (pos 0) ∷ (pos 1) ∷ (pos 9) ∷ (pos 5) ∷ (pos 9) ∷ (pos 6) ∷ (pos 0) ∷ (pos 6) ∷ (pos 7) ∷ (pos 7) ∷ []) (9 ∷ 7 ∷ []) ((pos 8) ∷ (pos 7) ∷ (pos 0) ∷ (pos 1) ∷ (pos 8) ∷ (pos 7) ∷ (pos 1) ∷ (pos 3) ∷ (pos 9) ∷ (pos 0) ∷ (pos 9) ∷ (pos 6) ∷ (pos 0) ∷ (pos 1) ∷ (pos 9) ∷ (pos 5) ∷ (pos 9) ∷ (pos 6) ∷ (pos 0) ∷ (pos 6) ∷ (pos 0) ∷ (pos 7) ∷ [])) ∷
    U (R (pos 0) (pos 0) (pos 0) (pos 5)) 0 256 ((pos 0) ∷ (pos 6) ∷ (pos 1) ∷ (pos 5) ∷ (pos 1) ∷ (pos 5) ∷ (pos 1) ∷ (pos 0) ∷ (pos 0) ∷ (pos 2) ∷ (pos 1) ∷ (pos 5) ∷ (minus 1) ∷ (minus 2) ∷ (minus 1) ∷ (pos 6) ∷ (pos 0) ∷ (minus 2) ∷ (pos 0) ∷ (minus 2) ∷ (pos 0) ∷ (pos 2) ∷ [])
    (returned 0 0 0 ((pos 7) ∷ (pos 7) ∷ []) (7 ∷ []) []) ∷
    C (R (pos 0) (pos 0) (pos 4) (pos 5)) 256 256 ((pos 5) ∷ (minus 2) ∷ (pos 5) ∷ (minus 1) ∷ (pos 0) ∷ (minus 1) ∷ (pos 3) ∷ (minus 1) ∷ (pos 3) ∷ (pos 5) ∷ (pos 3) ∷ (pos 5) ∷ (pos 2) ∷ (pos 5) ∷ (pos 2) ∷ (pos 4) ∷ (pos 6) ∷ (pos 4) ∷ (pos 2) ∷ (pos 4) ∷ (pos 2) ∷ (pos 0) ∷ (pos 2) ∷ (pos 5) ∷ [])
    (returned 1 4 0 ((pos 2) ∷ (pos 5) ∷ (pos 4) ∷ (pos 0) ∷ (pos 3) ∷ (pos 0) ∷ (pos 3) ∷ (pos 5) ∷ (pos 7) ∷ (pos 7) ∷ []) (4 ∷ 7 ∷ []) ((pos 4) ∷ (pos 0) ∷ (pos 0) ∷ (pos 0) ∷ (pos 3) ∷ (pos 0) ∷ (pos 3) ∷ (pos 5) ∷ (pos 2) ∷ (pos 5) ∷ (pos 2) ∷ (pos 4) ∷ (pos 4) ∷ (pos 4) ∷ (pos 2) ∷ (pos 4) ∷ (pos 2) ∷ (pos 0) ∷ (pos 2) ∷ (pos 5) ∷ [])) ∷
    C (R (pos 0) (pos 0) (pos 4) (pos 10)) 256 0 ((pos 2) ∷ (pos 11) ∷ (pos 6) ∷ (pos 0) ∷ (pos 5) ∷ (pos 1) ∷ (minus 1) ∷ (pos 1) ∷ (pos 0) ∷ (pos 5) ∷ (pos 1) ∷ (minus 2) ∷ (minus 1) ∷ (pos 9) ∷ (pos 6) ∷ (pos 12) ∷ (pos 0) ∷ (minus 2) ∷ (minus 1) ∷ (pos 12) ∷ (pos 0) ∷ (minus 2) ∷ (pos 4) ∷ (minus 2) ∷ [])
    (returned 1 10 0 ((pos 0) ∷ (pos 0) ∷ (pos 3) ∷ (pos 0) ∷ (pos 2) ∷ (pos 10) ∷ (pos 4) ∷ (pos 5) ∷ (pos 4) ∷ (pos 1) ∷ (pos 0) ∷ (pos 1) ∷ (pos 0) ∷ (pos 9) ∷ (pos 1) ∷ (pos 10) ∷ (pos 4) ∷ (pos 10) ∷ (pos 4) ∷ (pos 7) ∷ (pos 7) ∷ (pos 7) ∷ []) (10 ∷ 7 ∷ []) ((pos 3) ∷ (pos 0) ∷ (pos 2) ∷ (pos 10) ∷ (pos 4) ∷ (pos 5) ∷ (pos 4) ∷ (pos 1) ∷ (pos 0) ∷ (pos 1) ∷ (pos 0) ∷ (pos 5) ∷ (pos 0) ∷ (pos 0) ∷ (pos 0) ∷ (pos 3) ∷ (pos 0) ∷ (pos 9) ∷ (pos 1) ∷ (pos 10) ∷ (pos 4) ∷ (pos 10) ∷ (pos 4) ∷ (pos 7) ∷ (pos 0) ∷ (pos 0) ∷ (pos 0) ∷ (pos 10) ∷ (pos 0) ∷ (pos 0) ∷ [])) ∷
    C (R (pos 0) (pos 0) (pos 15) (pos 1)) 14 256 ((pos 17) ∷ (minus 2) ∷ (minus 1) ∷ (pos 0) ∷ (minus 1) ∷ (pos 0) ∷ (pos 15) ∷ (pos 1) ∷ (pos 7) ∷ (minus 1) ∷ (pos 1) ∷ (pos 2) ∷ (pos 14) ∷ (pos 0) ∷ (minus 2) ∷ (pos 0) ∷ (pos 7) ∷ (pos 1) ∷ (pos 7) ∷ (pos 1) ∷ (pos 15) ∷ (pos 0) ∷ (pos 15) ∷ (pos 0) ∷ (minus 2) ∷ (pos 2) ∷ (pos 15) ∷ (pos 2) ∷ [])
    (returned 1 13 0 ((pos 15) ∷ (pos 1) ∷ (pos 15) ∷ (pos 0) ∷ (pos 0) ∷ (pos 0) ∷ (pos 15) ∷ (pos 1) ∷ (pos 11) ∷ (pos 0) ∷ (pos 5) ∷ (pos 0) ∷ (pos 3) ∷ (pos 1) ∷ (pos 7) ∷ (pos 1) ∷ (pos 14) ∷ (pos 0) ∷ (pos 0) ∷ (pos 0) ∷ (pos 7) ∷ (pos 1) ∷ (pos 15) ∷ (pos 0) ∷ (pos 6) ∷ (pos 1) ∷ (pos 7) ∷ (pos 7) ∷ []) (13 ∷ 7 ∷ []) ((pos 0) ∷ (pos 0) ∷ (pos 15) ∷ (pos 1) ∷ (pos 11) ∷ (pos 0) ∷ (pos 5) ∷ (pos 0) ∷ (pos 3) ∷ (pos 1) ∷ (pos 7) ∷ (pos 1) ∷ (pos 14) ∷ (pos 0) ∷ (pos 0) ∷ (pos 0) ∷ (pos 7) ∷ (pos 1) ∷ (pos 15) ∷ (pos 0) ∷ (pos 6) ∷ (pos 1) ∷ (pos 15) ∷ (pos 1) ∷ (pos 15) ∷ (pos 0) ∷ (pos 0) ∷ (pos 0) ∷ [])) ∷
    C (R (pos 2) (pos 0) (pos 3) (pos 3)) 256 256 ((minus 1) ∷ (minus 1) ∷ (pos 5) ∷ (pos 1) ∷ (pos 3) ∷ (pos 1) ∷ (pos 2) ∷ (pos 0) ∷ (pos 3) ∷ (pos 1) ∷ (pos 3) ∷ (pos 5) ∷ (pos 5) ∷ (minus 1) ∷ (minus 1) ∷ (pos 3) ∷ (pos 0) ∷ (pos 4) ∷ (pos 2) ∷ (pos 2) ∷ (pos 0) ∷ (pos 5) ∷ (pos 1) ∷ (minus 1) ∷ [])
    (returned 1 3 0 ((pos 2) ∷ (pos 1) ∷ (pos 2) ∷ (pos 0) ∷ (pos 3) ∷ (pos 0) ∷ (pos 7) ∷ (pos 7) ∷ []) (3 ∷ 7 ∷ []) ((pos 2) ∷ (pos 0) ∷ (pos 3) ∷ (pos 0) ∷ (pos 3) ∷ (pos 1) ∷ (pos 2) ∷ (pos 0) ∷ (pos 3) ∷ (pos 1) ∷ (pos 3) ∷ (pos 0) ∷ (pos 2) ∷ (pos 1) ∷ [])) ∷
    C (R (pos 0) (pos 0) (pos 9) (pos 6)) 256 0 ((pos 9) ∷ (pos 0) ∷ (minus 2) ∷ (pos 3) ∷ (minus 1) ∷ (pos 0) ∷ (minus 2) ∷ (pos 5) ∷ (pos 9) ∷ (pos 5) ∷ (pos 8) ∷ (pos 7) ∷ (pos 4) ∷ (minus 2) ∷ [])
    (returned 1 7 0 ((pos 4) ∷ (pos 0) ∷ (pos 9) ∷ (pos 0) ∷ (pos 0) ∷ (pos 2) ∷ (pos 0) ∷ (pos 5) ∷ (pos 9) ∷ (pos 5) ∷ (pos 8) ∷ (pos 6) ∷ (pos 7) ∷ (pos 6) ∷ (pos 7) ∷ (pos 7) ∷ []) (7 ∷ 7 ∷ []) ((pos 9) ∷ (pos 0) ∷ (pos 0) ∷ (pos 2) ∷ (pos 0) ∷ (pos 5) ∷ (pos 9) ∷ (pos 5) ∷ (pos 8) ∷ (pos 6) ∷ (pos 7) ∷ (pos 6) ∷ (pos 4) ∷ (pos 0) ∷ [])) ∷
    C (R (pos 0) (pos 0) (pos 8) (pos 12)) 256 256 ((pos 0) ∷ (pos 13) ∷ (pos 1) ∷ (minus 2) ∷ (minus 1) ∷ (minus 1) ∷ (minus 1) ∷ (pos 1) ∷ (minus 1) ∷ (minus 1) ∷ (pos 0) ∷ (pos 11) ∷ (pos 1) ∷ (minus 2) ∷ (pos 0) ∷ (pos 11) ∷ [])
    (returned 0 0 3 ((pos 7) ∷ (pos 7) ∷ []) (7 ∷ []) ((pos 0) ∷ (pos 12) ∷ (pos 0) ∷ (pos 0) ∷ (pos 0) ∷ (pos 11) ∷ (pos 0) ∷ (pos 0) ∷ (pos 0) ∷ (pos 11) ∷ (pos 0) ∷ (pos 12) ∷ [])) ∷
    C (R (pos 0) (pos 0) (pos 3) (pos 3)) 256 256 ((pos 0) ∷ (pos 2) ∷ (pos 0) ∷ (pos 2) ∷ (minus 1) ∷ (pos 1) ∷ (pos 3) ∷ (pos 1) ∷ (pos 3) ∷ (pos 1) ∷ (pos 0) ∷ (pos 2) ∷ [])
    (returned 1 3 0 ((pos 0) ∷ (pos 2) ∷ (pos 0) ∷ (pos 1) ∷ (pos 3) ∷ (pos 1) ∷ (pos 7) ∷ (pos 7) ∷ []) (3 ∷ 7 ∷ []) ((pos 0) ∷ (pos 1) ∷ (pos 3) ∷ (pos 1) ∷ (pos 0) ∷ (pos 2) ∷ [])) ∷
    C (R (pos 0) (pos 0) (pos 4) (pos 7)) 256 0 ((pos 4) ∷ (pos 8) ∷ (minus 1) ∷ (pos 1) ∷ (pos 0) ∷ (pos 8) ∷ (minus 3) ∷ (minus 1) ∷ (pos 5) ∷ (minus 1) ∷ [])
    (returned 1 5 0 ((pos 4) ∷ (pos 7) ∷ (pos 3) ∷ (pos 7) ∷ (pos 0) ∷ (pos 2) ∷ (pos 0) ∷ (pos 0) ∷ (pos 4) ∷ (pos 0) ∷ (pos 7) ∷ (pos 7) ∷ []) (5 ∷ 7 ∷ []) ((pos 3) ∷ (pos 7) ∷ (pos 0) ∷ (pos 2) ∷ (pos 0) ∷ (pos 0) ∷ (pos 4) ∷ (pos 0) ∷ (pos 4) ∷ (pos 7) ∷ [])) ∷
    L (R (pos 0) (pos 0) (pos 60) (pos 60)) 256 ((pos 64) ∷ (pos 5) ∷ (pos 52) ∷ (pos 4) ∷ (pos 66) ∷ (pos 8) ∷ (pos 63) ∷ (pos 6) ∷ (pos 65) ∷ (pos 9) ∷ (pos 68) ∷ (pos 7) ∷ (pos 60) ∷ (pos 9) ∷ (pos 55) ∷ (minus 5) ∷ (pos 57) ∷ (minus 4) ∷ (pos 52) ∷ (minus 6) ∷ (pos 60) ∷ (minus 7) ∷ (pos 65) ∷ (minus 9) ∷ [])
    (returned 2 5 0 ((pos 60) ∷ (pos 4) ∷ (pos 52) ∷ (pos 4) ∷ (pos 60) ∷ (pos 6) ∷ (pos 60) ∷ (pos 9) ∷ (pos 56) ∷ (pos 0) ∷ (pos 7) ∷ (pos 7) ∷ []) (3 ∷ 2 ∷ 7 ∷ []) []) ∷
    C (R (pos 0) (pos 0) (pos 60) (pos 60)) 256 256 ((minus 1) ∷ (pos 31) ∷ (pos 0) ∷ (pos 29) ∷ (minus 5) ∷ (pos 28) ∷ (pos 3) ∷ (pos 28) ∷ (pos 0) ∷ (pos 28) ∷ (pos 4) ∷ (pos 26) ∷ (pos 7) ∷ (pos 0) ∷ (pos 8) ∷ (pos 1) ∷ [])
    (returned 1 5 0 ((pos 8) ∷ (pos 1) ∷ (pos 0) ∷ (pos 27) ∷ (pos 0) ∷ (pos 28) ∷ (pos 4) ∷ (pos 26) ∷ (pos 7) ∷ (pos 0) ∷ (pos 7) ∷ (pos 7) ∷ []) (5 ∷ 7 ∷ []) ((pos 0) ∷ (pos 27) ∷ (pos 0) ∷ (pos 28) ∷ (pos 3) ∷ (pos 28) ∷ (pos 0) ∷ (pos 28) ∷ (pos 4) ∷ (pos 26) ∷ (pos 7) ∷ (pos 0) ∷ (pos 8) ∷ (pos 1) ∷ [])) ∷
    L (R (pos 0) (pos 1) (pos 1) (pos 3)) 256 ((pos 3) ∷ (minus 1) ∷ (pos 3) ∷ (pos 0) ∷ (pos 3) ∷ (minus 1) ∷ (pos 3) ∷ (pos 5) ∷ (minus 1) ∷ (pos 4) ∷ (pos 1) ∷ (pos 4) ∷ (pos 5) ∷ (pos 4) ∷ [])
    (returned 0 0 0 ((pos 7) ∷ (pos 7) ∷ []) (7 ∷ []) []) ∷
    L (R (pos 0) (pos 0) (pos 7) (pos 6)) 8 ((pos 6) ∷ (pos 7) ∷ (pos 9) ∷ (pos 0) ∷ (pos 7) ∷ (minus 1) ∷ (pos 6) ∷ (pos 0) ∷ (pos 0) ∷ (pos 3) ∷ (pos 7) ∷ (pos 3) ∷ (pos 1) ∷ (pos 1) ∷ (pos 3) ∷ (pos 7) ∷ [])
    (refusal 8 []) ∷
    []

drawings4 : map shown table4 ≡ map (λ c. c.expected) table4
unfolding at_end get_segment_intersection edge_intersection side_intersection get_intersection start_locs_are_clockwise at_vertex scan_pass scan_answer scan_loop point_in_polygon path1_contains_path2 get_bounds_path get_location determinant numerator fraction working_of crossing_of point_at intersection cross_product_sign is_collinear cross_product_three_points cross_product_is_negative is_clockwise_dir set_owner set_edge set_next set_prev set_results set_edge_list ring unlink add_to_edge struck uncouple_edge own_from set_new_owner drop_collinear_pass drop_collinear assign_side assign_edges check_ring check_from check_edges enter_all arena_of straighten_pass straighten points_from get_path get_paths clip_walked execute sheet_refusal early_refusal delivered answered clip_closed clip_open filled_part is_present first_off_edge line_through line_cross line_from line_passes line_walk_from walk_open pieces longer_than_one execute_lines seek relink regroup keep_one keep_both keep_each settle rejoin one_turn turns_from tidy_edges add add_all push_start_loc next_side next_outside add_corner_prev_curr add_corner_loc add_corners push_start_locs next_inside get_next_location second_search remain_outside enter pass_to pass_through leave cross_boundary add_round retrace close_outline last_off pass_from passes surround after_while walk_from walk_closed walked_outline lib.Ieee.add of_int sub mul div neg to_signed eq lt le
drawings4 = refl
