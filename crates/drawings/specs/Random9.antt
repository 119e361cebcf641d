-- Drawings with the Rust's answers: what the entries answer and fill, and the walked outline.
-- Made by tools/tables.py from rows of compare's `drawings`. Assumes nothing.
use Rattle.std.specs.Prelude.{◌≡◌, refl, List, [], ◌∷◌, map, pos}
use Rattle.drawings.specs.Cases.{Case, C, U, L, R, minus, returned, refusal, shown}
use Rattle.plane.specs.Intersection.{at_end, get_segment_intersection, edge_intersection, side_intersection, get_intersection}
use Rattle.plane.specs.Locations.{start_locs_are_clockwise}
use Rattle.plane.specs.Polygon.{at_vertex, scan_pass, scan_answer, scan_loop, point_in_polygon, path1_contains_path2}
use Rattle.plane.specs.Rectangle.{get_bounds_path, get_location}
use Rattle.plane.specs.Segment.{determinant, numerator, fraction, working_of, crossing_of, point_at, intersection}
use Rattle.plane.specs.Signs.{cross_product_sign, is_collinear, cross_product_three_points, cross_product_is_negative, is_clockwise_dir}
use Rattle.reference.specs.Arena.{set_owner, set_edge, set_next, set_prev, set_results, set_edge_list, ring, unlink, add_to_edge, struck, uncouple_edge, own_from, set_new_owner, drop_collinear_pass, drop_collinear, assign_side, assign_edges, check_ring, check_from, check_edges}
use Rattle.reference.specs.Clip.{enter_all, arena_of, straighten_pass, straighten, points_from, get_path, get_paths, clip_walked, execute}
use Rattle.reference.specs.Entry.{sheet_refusal, early_refusal, delivered, answered, clip_closed, clip_open, filled_part, is_present}
use Rattle.reference.specs.Lines.{first_off_edge, line_through, line_cross, line_from, line_passes, line_walk_from, walk_open, pieces, longer_than_one, execute_lines}
use Rattle.reference.specs.Tidy.{seek, relink, regroup, keep_one, keep_both, keep_each, settle, rejoin, one_turn, turns_from, tidy_edges}
use Rattle.reference.specs.Walk.{add, add_all, push_start_loc, next_side, next_outside, add_corner_prev_curr, add_corner_loc, add_corners, push_start_locs, next_inside, get_next_location, second_search, remain_outside, enter, pass_to, pass_through, leave, cross_boundary, add_round, retrace, close_outline, last_off, pass_from, passes, surround, after_while, walk_from, walk_closed, walked_outline}
use lib.Ieee.{of_int, sub, mul, div, neg, to_signed, eq, lt, le}

abbrev table1 : List Case
table1 =
    U (R (pos 0) (pos 0) (pos 0) (pos 10)) 256 256 ((minus 2) ∷ (minus 2) ∷ (pos 0) ∷ (pos 10) ∷ (minus 1) ∷ (pos 10) ∷ (minus 1) ∷ (pos 10) ∷ (minus 2) ∷ (pos 11) ∷ (minus 2) ∷ (pos 11) ∷ (pos 0) ∷ (pos 11) ∷ [])
    (returned 0 0 0 ((pos 7) ∷ (pos 7) ∷ []) (7 ∷ []) []) ∷
    C (R (pos 54) (minus 228) (pos 743) (minus 212)) 15 256 ((pos 293) ∷ (minus 225) ∷ (pos 140) ∷ (minus 5) ∷ (minus 147) ∷ (minus 225) ∷ (pos 140) ∷ (minus 580) ∷ (pos 562) ∷ (minus 225) ∷ (pos 140) ∷ (pos 265) ∷ (minus 417) ∷ (minus 225) ∷ (pos 140) ∷ (minus 850) ∷ (pos 832) ∷ (minus 225) ∷ (pos 140) ∷ (pos 535) ∷ (minus 687) ∷ (minus 225) ∷ (pos 140) ∷ (minus 1120) ∷ (pos 1102) ∷ (minus 225) ∷ [])
    (returned 1 15 0 ((pos 743) ∷ (minus 228) ∷ (pos 743) ∷ (minus 225) ∷ (pos 293) ∷ (minus 225) ∷ (pos 283) ∷ (minus 212) ∷ (pos 54) ∷ (minus 212) ∷ (pos 54) ∷ (minus 228) ∷ (pos 558) ∷ (minus 228) ∷ (pos 562) ∷ (minus 225) ∷ (pos 550) ∷ (minus 212) ∷ (pos 54) ∷ (minus 212) ∷ (pos 54) ∷ (minus 228) ∷ (pos 743) ∷ (minus 228) ∷ (pos 743) ∷ (minus 212) ∷ (pos 54) ∷ (minus 212) ∷ (pos 54) ∷ (minus 228) ∷ (pos 7) ∷ (pos 7) ∷ []) (15 ∷ 7 ∷ []) ((pos 743) ∷ (minus 225) ∷ (pos 293) ∷ (minus 225) ∷ (pos 283) ∷ (minus 212) ∷ (pos 54) ∷ (minus 212) ∷ (pos 54) ∷ (minus 228) ∷ (pos 558) ∷ (minus 228) ∷ (pos 562) ∷ (minus 225) ∷ (pos 550) ∷ (minus 212) ∷ (pos 54) ∷ (minus 212) ∷ (pos 54) ∷ (minus 228) ∷ (pos 743) ∷ (minus 228) ∷ (pos 743) ∷ (minus 212) ∷ (pos 54) ∷ (minus 212) ∷ (pos 54) ∷ (minus 228) ∷ (pos 743) ∷ (minus 228) ∷ [])) ∷
    L (R (pos 0) (pos 0) (pos 9) (pos 7)) 256 ((minus 3) ∷ (pos 9) ∷ (minus 2) ∷ (minus 2) ∷ (pos 12) ∷ (minus 2) ∷ (pos 9) ∷ (pos 9) ∷ [])
    (returned 0 0 0 ((pos 7) ∷ (pos 7) ∷ []) (7 ∷ []) []) ∷
    L (R (pos 1) (pos 1) (pos 3) (pos 2)) 256 ((pos 3) ∷ (minus 1) ∷ [])
    (returned 0 0 0 ((pos 7) ∷ (pos 7) ∷ []) (7 ∷ []) []) ∷
    C (R (pos 187) (minus 49) (pos 571) (pos 27)) 256 256 ((minus 193) ∷ (minus 493) ∷ (pos 693) ∷ (pos 725) ∷ (pos 693) ∷ (minus 781) ∷ (minus 193) ∷ (pos 437) ∷ (pos 1240) ∷ (minus 28) ∷ (minus 193) ∷ (minus 493) ∷ (pos 693) ∷ (pos 725) ∷ (pos 693) ∷ (minus 781) ∷ (minus 193) ∷ (pos 437) ∷ (pos 1240) ∷ (minus 28) ∷ [])
    (returned 0 0 0 ((pos 7) ∷ (pos 7) ∷ []) (7 ∷ []) []) ∷
    U (R (pos 2) (pos 1) (pos 4) (pos 4)) 0 256 []
    (returned 0 0 0 ((pos 7) ∷ (pos 7) ∷ []) (7 ∷ []) []) ∷
    L (R (pos 219) (minus 163) (pos 448) (pos 480)) 256 ((minus 199) ∷ (pos 1218) ∷ (pos 258) ∷ (pos 745) ∷ (minus 199) ∷ (pos 304) ∷ (minus 624) ∷ (pos 745) ∷ (minus 199) ∷ (pos 1154) ∷ (pos 194) ∷ (pos 745) ∷ (minus 199) ∷ (pos 368) ∷ (minus 560) ∷ (pos 745) ∷ (minus 199) ∷ (pos 1090) ∷ (pos 130) ∷ (pos 745) ∷ (minus 199) ∷ (pos 432) ∷ (minus 496) ∷ (pos 745) ∷ (minus 199) ∷ (pos 1026) ∷ (pos 66) ∷ (pos 745) ∷ [])
    (returned 0 0 0 ((pos 7) ∷ (pos 7) ∷ []) (7 ∷ []) []) ∷
    C (R (pos 175) (pos 262) (pos 235) (pos 874)) 256 256 ((pos 2) ∷ (minus 132) ∷ (minus 528) ∷ (pos 93) ∷ (minus 444) ∷ (minus 263) ∷ (minus 890) ∷ (pos 911) ∷ (pos 831) ∷ (minus 196) ∷ (pos 109) ∷ (pos 153) ∷ (pos 345) ∷ (minus 417) ∷ [])
    (returned 0 0 0 ((pos 7) ∷ (pos 7) ∷ []) (7 ∷ []) []) ∷
    U (R (pos 0) (pos 0) (pos 8) (pos 0)) 256 0 ((pos 10) ∷ (pos 0) ∷ (pos 9) ∷ (minus 2) ∷ (minus 1) ∷ (pos 0) ∷ (pos 10) ∷ (pos 0) ∷ (minus 1) ∷ (minus 1) ∷ [])
    (returned 0 0 0 ((pos 7) ∷ (pos 7) ∷ []) (7 ∷ []) []) ∷
    L (R (minus 33554431) (pos 33554431) (minus 32600251) (pos 33554432)) 256 ((minus 31815589) ∷ (pos 14355977) ∷ (pos 13260160) ∷ (minus 19759147) ∷ (minus 25414860) ∷ (pos 22321322) ∷ (minus 32600251) ∷ (pos 33554432) ∷ (pos 10651133) ∷ (minus 32268804) ∷ [])
    (returned 0 0 0 ((pos 7) ∷ (pos 7) ∷ []) (7 ∷ []) []) ∷
    L (R (pos 0) (pos 0) (pos 60) (pos 60)) 5 ((minus 2) ∷ (pos 7) ∷ (pos 0) ∷ (pos 0) ∷ (minus 2) ∷ (minus 9) ∷ (pos 0) ∷ (pos 1) ∷ (pos 46) ∷ (pos 0) ∷ (minus 5) ∷ (pos 0) ∷ (minus 3) ∷ (minus 5) ∷ (pos 0) ∷ (minus 4) ∷ (pos 2) ∷ (pos 4) ∷ (pos 0) ∷ (pos 0) ∷ (minus 2) ∷ (pos 5) ∷ (minus 4) ∷ (minus 2) ∷ [])
    (returned 2 5 0 ((pos 0) ∷ (pos 1) ∷ (pos 46) ∷ (pos 0) ∷ (pos 1) ∷ (pos 0) ∷ (pos 2) ∷ (pos 4) ∷ (pos 0) ∷ (pos 0) ∷ (pos 7) ∷ (pos 7) ∷ []) (2 ∷ 3 ∷ 7 ∷ []) []) ∷
    C (R (minus 2532000) (minus 4512000) (pos 528000) (minus 984000)) 256 256 ((pos 12432000) ∷ (pos 10860000) ∷ (minus 13093317) ∷ (pos 6342596) ∷ (pos 9334588) ∷ (pos 19309100) ∷ (minus 7314000) ∷ (minus 525081) ∷ (pos 1575092) ∷ (pos 23821476) ∷ (pos 1575092) ∷ (minus 2101476) ∷ (minus 7313999) ∷ (pos 22245081) ∷ (pos 9334588) ∷ (pos 2410900) ∷ (minus 13093317) ∷ (pos 15377404) ∷ [])
    (returned 0 0 0 ((pos 7) ∷ (pos 7) ∷ []) (7 ∷ []) []) ∷
    C (R (pos 108) (minus 268) (pos 297) (pos 45)) 256 0 ((minus 533) ∷ (pos 258) ∷ (minus 343) ∷ (pos 238) ∷ (minus 22) ∷ (minus 106) ∷ (pos 879) ∷ (minus 239) ∷ (minus 93) ∷ (pos 797) ∷ [])
    (returned 1 4 0 ((pos 108) ∷ (pos 45) ∷ (pos 108) ∷ (minus 125) ∷ (pos 297) ∷ (minus 153) ∷ (pos 297) ∷ (pos 45) ∷ (pos 7) ∷ (pos 7) ∷ []) (4 ∷ 7 ∷ []) ((pos 108) ∷ (minus 125) ∷ (pos 297) ∷ (minus 153) ∷ (pos 297) ∷ (pos 45) ∷ (pos 108) ∷ (pos 45) ∷ [])) ∷
    L (R (pos 0) (pos 0) (pos 60) (pos 60)) 256 ((pos 1) ∷ (pos 0) ∷ (minus 4) ∷ (pos 2) ∷ (minus 6) ∷ (pos 4) ∷ (minus 9) ∷ (pos 6) ∷ (pos 4) ∷ (pos 7) ∷ (pos 4) ∷ (pos 10) ∷ (pos 0) ∷ (pos 11) ∷ (pos 8) ∷ (pos 15) ∷ (pos 6) ∷ (pos 19) ∷ (pos 4) ∷ (pos 19) ∷ (pos 0) ∷ (pos 18) ∷ (pos 6) ∷ (pos 22) ∷ (minus 3) ∷ (pos 25) ∷ (minus 9) ∷ (pos 26) ∷ [])
    (returned 2 12 0 ((pos 1) ∷ (pos 0) ∷ (pos 0) ∷ (pos 0) ∷ (pos 0) ∷ (pos 6) ∷ (pos 4) ∷ (pos 7) ∷ (pos 4) ∷ (pos 10) ∷ (pos 0) ∷ (pos 11) ∷ (pos 8) ∷ (pos 15) ∷ (pos 6) ∷ (pos 19) ∷ (pos 4) ∷ (pos 19) ∷ (pos 0) ∷ (pos 18) ∷ (pos 6) ∷ (pos 22) ∷ (pos 0) ∷ (pos 24) ∷ (pos 7) ∷ (pos 7) ∷ []) (2 ∷ 10 ∷ 7 ∷ []) []) ∷
    C (R (pos 0) (pos 0) (pos 1) (pos 19)) 256 256 ((pos 0) ∷ (minus 2) ∷ (pos 0) ∷ (minus 2) ∷ (pos 0) ∷ (minus 2) ∷ (minus 1) ∷ (pos 9) ∷ (minus 1) ∷ (pos 9) ∷ (pos 1) ∷ (pos 1) ∷ (pos 3) ∷ (minus 2) ∷ (pos 3) ∷ (minus 2) ∷ (pos 1) ∷ (pos 19) ∷ (pos 1) ∷ (pos 1) ∷ (minus 2) ∷ (pos 19) ∷ (minus 1) ∷ (minus 2) ∷ (pos 0) ∷ (pos 19) ∷ (minus 1) ∷ (pos 20) ∷ (pos 2) ∷ (pos 0) ∷ (pos 2) ∷ (pos 0) ∷ (pos 0) ∷ (minus 2) ∷ [])
    (returned 1 7 0 ((pos 0) ∷ (pos 0) ∷ (pos 0) ∷ (pos 5) ∷ (pos 1) ∷ (pos 1) ∷ (pos 0) ∷ (pos 7) ∷ (pos 0) ∷ (pos 13) ∷ (pos 1) ∷ (pos 6) ∷ (pos 1) ∷ (pos 0) ∷ (pos 7) ∷ (pos 7) ∷ []) (7 ∷ 7 ∷ []) ((pos 0) ∷ (pos 5) ∷ (pos 1) ∷ (pos 1) ∷ (pos 0) ∷ (pos 7) ∷ (pos 0) ∷ (pos 13) ∷ (pos 1) ∷ (pos 6) ∷ (pos 1) ∷ (pos 0) ∷ (pos 0) ∷ (pos 0) ∷ [])) ∷
    []

drawings1 : map shown table1 ≡ map (λ c. c.expected) table1
unfolding at_end get_segment_intersection edge_intersection side_intersection get_intersection start_locs_are_clockwise at_vertex scan_pass scan_answer scan_loop point_in_polygon path1_contains_path2 get_bounds_path get_location determinant numerator fraction working_of crossing_of point_at intersection cross_product_sign is_collinear cross_product_three_points cross_product_is_negative is_clockwise_dir set_owner set_edge set_next set_prev set_results set_edge_list ring unlink add_to_edge struck uncouple_edge own_from set_new_owner drop_collinear_pass drop_collinear assign_side assign_edges check_ring check_from check_edges enter_all arena_of straighten_pass straighten points_from get_path get_paths clip_walked execute sheet_refusal early_refusal delivered answered clip_closed clip_open filled_part is_present first_off_edge line_through line_cross line_from line_passes line_walk_from walk_open pieces longer_than_one execute_lines seek relink regroup keep_one keep_both keep_each settle rejoin one_turn turns_from tidy_edges add add_all push_start_loc next_side next_outside add_corner_prev_curr add_corner_loc add_corners push_start_locs next_inside get_next_location second_search remain_outside enter pass_to pass_through leave cross_boundary add_round retrace close_outline last_off pass_from passes surround after_while walk_from walk_closed walked_outline lib.Ieee.add of_int sub mul div neg to_signed eq lt le
drawings1 = refl

abbrev table2 : List Case
table2 =
    C (R (pos 25) (minus 293) (pos 374) (minus 88)) 10 256 ((pos 171) ∷ (pos 878) ∷ (pos 719) ∷ (pos 939) ∷ (pos 860) ∷ (minus 805) ∷ (minus 559) ∷ (pos 758) ∷ (pos 416) ∷ (minus 434) ∷ (pos 572) ∷ (minus 703) ∷ (pos 723) ∷ (pos 180) ∷ (minus 592) ∷ (pos 391) ∷ (pos 258) ∷ (pos 642) ∷ (minus 22) ∷ (minus 291) ∷ (minus 399) ∷ (pos 437) ∷ [])
    (refusal 8 ((pos 374) ∷ (minus 269) ∷ (pos 209) ∷ (minus 88) ∷ (pos 132) ∷ (minus 87) ∷ (pos 300) ∷ (minus 293) ∷ (pos 374) ∷ (minus 293) ∷ (pos 374) ∷ (minus 88) ∷ (pos 38) ∷ (minus 88) ∷ (pos 24) ∷ (minus 134) ∷ (pos 25) ∷ (minus 88) ∷ (pos 374) ∷ (minus 88) ∷ (pos 374) ∷ (minus 293) ∷ [])) ∷
    C (R (pos 0) (pos 0) (pos 5) (pos 4)) 256 0 ((minus 3) ∷ (pos 0) ∷ (pos 5) ∷ (minus 3) ∷ (pos 7) ∷ (pos 4) ∷ (minus 2) ∷ (pos 4) ∷ [])
    (returned 1 4 0 ((pos 5) ∷ (pos 0) ∷ (pos 5) ∷ (pos 4) ∷ (pos 0) ∷ (pos 4) ∷ (pos 0) ∷ (pos 0) ∷ (pos 7) ∷ (pos 7) ∷ []) (4 ∷ 7 ∷ []) ((pos 5) ∷ (pos 4) ∷ (pos 0) ∷ (pos 4) ∷ (pos 0) ∷ (pos 0) ∷ (pos 5) ∷ (pos 0) ∷ [])) ∷
    C (R (minus 441) (pos 343) (pos 149) (pos 838)) 256 0 ((minus 291) ∷ (pos 303) ∷ (minus 291) ∷ (pos 547) ∷ (minus 779) ∷ (pos 547) ∷ (minus 779) ∷ (pos 59) ∷ (minus 47) ∷ (pos 59) ∷ (minus 47) ∷ (pos 791) ∷ (minus 1023) ∷ (pos 791) ∷ [])
    (returned 1 9 0 ((minus 441) ∷ (pos 791) ∷ (minus 441) ∷ (pos 403) ∷ (minus 351) ∷ (pos 343) ∷ (minus 291) ∷ (pos 343) ∷ (minus 291) ∷ (pos 547) ∷ (minus 441) ∷ (pos 547) ∷ (minus 441) ∷ (pos 343) ∷ (minus 47) ∷ (pos 343) ∷ (minus 47) ∷ (pos 791) ∷ (pos 7) ∷ (pos 7) ∷ []) (9 ∷ 7 ∷ []) ((minus 441) ∷ (pos 403) ∷ (minus 351) ∷ (pos 343) ∷ (minus 291) ∷ (pos 343) ∷ (minus 291) ∷ (pos 547) ∷ (minus 441) ∷ (pos 547) ∷ (minus 441) ∷ (pos 343) ∷ (minus 47) ∷ (pos 343) ∷ (minus 47) ∷ (pos 791) ∷ (minus 441) ∷ (pos 791) ∷ [])) ∷
    C (R (pos 0) (pos 0) (pos 3) (pos 6)) 256 256 ((pos 0) ∷ (pos 6) ∷ (pos 0) ∷ (pos 3) ∷ (minus 1) ∷ (pos 3) ∷ (pos 0) ∷ (pos 3) ∷ (pos 1) ∷ (pos 0) ∷ (pos 1) ∷ (minus 2) ∷ (pos 0) ∷ (minus 1) ∷ (pos 1) ∷ (minus 2) ∷ (pos 0) ∷ (pos 7) ∷ (pos 4) ∷ (pos 0) ∷ (pos 0) ∷ (pos 7) ∷ [])
    (returned 1 3 1 ((pos 0) ∷ (pos 3) ∷ (pos 1) ∷ (pos 0) ∷ (pos 0) ∷ (pos 0) ∷ (pos 7) ∷ (pos 7) ∷ []) (3 ∷ 7 ∷ []) ((pos 0) ∷ (pos 6) ∷ (pos 0) ∷ (pos 3) ∷ (pos 1) ∷ (pos 0) ∷ (pos 0) ∷ (pos 0) ∷ (pos 0) ∷ (pos 6) ∷ (pos 3) ∷ (pos 1) ∷ (pos 0) ∷ (pos 6) ∷ [])) ∷
    L (R (pos 0) (pos 0) (pos 11) (pos 6)) 256 ((pos 11) ∷ (pos 1) ∷ (minus 2) ∷ (pos 6) ∷ (pos 11) ∷ (pos 3) ∷ (pos 11) ∷ (pos 1) ∷ [])
    (returned 2 4 0 ((pos 11) ∷ (pos 1) ∷ (pos 0) ∷ (pos 5) ∷ (pos 0) ∷ (pos 5) ∷ (pos 11) ∷ (pos 3) ∷ (pos 7) ∷ (pos 7) ∷ []) (2 ∷ 2 ∷ 7 ∷ []) []) ∷
    []

drawings2 : map shown table2 ≡ map (λ c. c.expected) table2
unfolding at_end get_segment_intersection edge_intersection side_intersection get_intersection start_locs_are_clockwise at_vertex scan_pass scan_answer scan_loop point_in_polygon path1_contains_path2 get_bounds_path get_location determinant numerator fraction working_of crossing_of point_at intersection cross_product_sign is_collinear cross_product_three_points cross_product_is_negative is_clockwise_dir set_owner set_edge set_next set_prev set_results set_edge_list ring unlink add_to_edge struck uncouple_edge own_from set_new_owner drop_collinear_pass drop_collinear assign_side assign_edges check_ring check_from check_edges enter_all arena_of straighten_pass straighten points_from get_path get_paths clip_walked execute sheet_refusal early_refusal delivered answered clip_closed clip_open filled_part is_present first_off_edge line_through line_cross line_from line_passes line_walk_from walk_open pieces longer_than_one execute_lines seek relink regroup keep_one keep_both keep_each settle rejoin one_turn turns_from tidy_edges add add_all push_start_loc next_side next_outside add_corner_prev_curr add_corner_loc add_corners push_start_locs next_inside get_next_location second_search remain_outside enter pass_to pass_through leave cross_boundary add_round retrace close_outline last_off pass_from passes surround after_while walk_from walk_closed walked_outline lib.Ieee.add of_int sub mul div neg to_signed eq lt le
drawings2 = refl
