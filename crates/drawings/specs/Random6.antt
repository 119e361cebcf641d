-- Drawings with the Rust's answers: what the entries answer and fill, and the walked outline.
-- Made by tools/tables.py from rows of compare's `drawings`. Assumes nothing.
use Rattle.std.specs.Prelude.{◌≡◌, refl, List, [], ◌∷◌, map, pos}
use Rattle.drawings.specs.Cases.{Case, C, U, L, R, minus, returned, refusal, shown}
use Rattle.plane.specs.Intersection.{at_end, get_segment_intersection, edge_intersection, side_intersection, get_intersection}
use Rattle.plane.specs.Locations.{start_locs_are_clockwise}
use Rattle.plane.specs.Polygon.{at_vertex, scan_pass, scan_answer, scan_loop, point_in_polygon, path1_contains_path2}
use Rattle.plane.specs.Rectangle.{get_bounds_path, get_location}
use Rattle.plane.specs.Segment.{determinant, numerator, fraction, working_of, crossing_of, point_at, intersection}
use Rattle.plane.specs.Signs.{cross_product_sign, is_collinear, cross_product_three_points, cross_product_is_negative, is_clockwise_dir}
use Rattle.reference.specs.Arena.{set_owner, set_edge, set_next, set_prev, set_results, set_edge_list, ring, unlink, add_to_edge, struck, uncouple_edge, own_from, set_new_owner, drop_collinear_pass, drop_collinear, assign_side, assign_edges, check_ring, check_from, check_edges}
use Rattle.reference.specs.Clip.{enter_all, arena_of, straighten_pass, straighten, points_from, get_path, get_paths, clip_walked, execute}
use Rattle.reference.specs.Entry.{sheet_refusal, early_refusal, delivered, answered, clip_closed, clip_open, filled_part, is_present}
use Rattle.reference.specs.Lines.{first_off_edge, line_through, line_cross, line_from, line_passes, line_walk_from, walk_open, pieces, longer_than_one, execute_lines}
use Rattle.reference.specs.Tidy.{seek, relink, regroup, keep_one, keep_both, keep_each, settle, rejoin, one_turn, turns_from, tidy_edges}
use Rattle.reference.specs.Walk.{add, add_all, push_start_loc, next_side, next_outside, add_corner_prev_curr, add_corner_loc, add_corners, push_start_locs, next_inside, get_next_location, second_search, remain_outside, enter, pass_to, pass_through, leave, cross_boundary, add_round, retrace, close_outline, last_off, pass_from, passes, surround, after_while, walk_from, walk_closed, walked_outline}
use lib.Ieee.{of_int, sub, mul, div, neg, to_signed, eq, lt, le}

abbrev table1 : List Case
table1 =
    L (R (minus 11) (minus 396) (pos 387) (minus 299)) 256 ((pos 990) ∷ (minus 74) ∷ (pos 910) ∷ (pos 112) ∷ (pos 646) ∷ (pos 74) ∷ (pos 600) ∷ (minus 256) ∷ (pos 963) ∷ (minus 421) ∷ (pos 1273) ∷ (minus 74) ∷ (pos 998) ∷ (pos 382) ∷ (pos 418) ∷ (pos 240) ∷ (pos 372) ∷ (minus 422) ∷ (pos 1051) ∷ (minus 691) ∷ (pos 1556) ∷ (minus 74) ∷ (pos 1086) ∷ (pos 651) ∷ (pos 188) ∷ (pos 407) ∷ [])
    (returned 1 2 0 ((pos 380) ∷ (minus 299) ∷ (pos 373) ∷ (minus 396) ∷ (pos 7) ∷ (pos 7) ∷ []) (2 ∷ 7 ∷ []) []) ∷
    C (R (pos 0) (pos 0) (pos 6) (pos 3)) 256 256 ((pos 0) ∷ (pos 3) ∷ (pos 8) ∷ (pos 3) ∷ (pos 8) ∷ (pos 3) ∷ (pos 8) ∷ (pos 3) ∷ (pos 8) ∷ (pos 3) ∷ (minus 1) ∷ (pos 3) ∷ (minus 1) ∷ (pos 3) ∷ (pos 0) ∷ (pos 3) ∷ [])
    (returned 0 0 0 ((pos 7) ∷ (pos 7) ∷ []) (7 ∷ []) ((pos 0) ∷ (pos 3) ∷ (pos 6) ∷ (pos 3) ∷ (pos 0) ∷ (pos 3) ∷ [])) ∷
    L (R (pos 485) (pos 267) (pos 802) (pos 705)) 0 ((minus 1061) ∷ (pos 23) ∷ (minus 1164) ∷ (pos 386) ∷ (minus 992) ∷ (pos 680) ∷ (minus 698) ∷ (pos 753) ∷ (minus 474) ∷ (pos 610) ∷ (minus 429) ∷ (pos 386) ∷ [])
    (returned 0 0 0 ((pos 7) ∷ (pos 7) ∷ []) (7 ∷ []) []) ∷
    L (R (minus 155) (pos 148) (pos 480) (pos 158)) 1 ((minus 446) ∷ (pos 938) ∷ (minus 352) ∷ (pos 980) ∷ (minus 538) ∷ (minus 203) ∷ (pos 794) ∷ (minus 683) ∷ (pos 344) ∷ (pos 36) ∷ (pos 344) ∷ (pos 36) ∷ (minus 265) ∷ (minus 502) ∷ (minus 338) ∷ (pos 825) ∷ (minus 417) ∷ (pos 728) ∷ (pos 481) ∷ (minus 111) ∷ (pos 975) ∷ (minus 195) ∷ (minus 446) ∷ (pos 938) ∷ [])
    (refusal 8 []) ∷
    C (R (pos 0) (pos 0) (pos 9) (pos 4)) 256 256 ((minus 1) ∷ (pos 6) ∷ (pos 10) ∷ (pos 0) ∷ (pos 9) ∷ (pos 5) ∷ (pos 9) ∷ (minus 1) ∷ (pos 4) ∷ (pos 0) ∷ (minus 1) ∷ (pos 1) ∷ (pos 0) ∷ (pos 4) ∷ (pos 0) ∷ (pos 3) ∷ (pos 8) ∷ (pos 3) ∷ (pos 8) ∷ (pos 2) ∷ [])
    (returned 1 7 0 ((pos 8) ∷ (pos 2) ∷ (pos 3) ∷ (pos 4) ∷ (pos 2) ∷ (pos 4) ∷ (pos 9) ∷ (pos 0) ∷ (pos 0) ∷ (pos 0) ∷ (pos 0) ∷ (pos 3) ∷ (pos 8) ∷ (pos 3) ∷ (pos 7) ∷ (pos 7) ∷ []) (7 ∷ 7 ∷ []) ((pos 3) ∷ (pos 4) ∷ (pos 2) ∷ (pos 4) ∷ (pos 9) ∷ (pos 0) ∷ (pos 4) ∷ (pos 0) ∷ (pos 9) ∷ (pos 0) ∷ (pos 4) ∷ (pos 0) ∷ (pos 0) ∷ (pos 0) ∷ (pos 0) ∷ (pos 3) ∷ (pos 8) ∷ (pos 3) ∷ (pos 8) ∷ (pos 2) ∷ [])) ∷
    C (R (pos 0) (pos 0) (pos 3) (pos 3)) 256 256 ((pos 0) ∷ (pos 3) ∷ (pos 4) ∷ (pos 4) ∷ (pos 5) ∷ (pos 0) ∷ (pos 0) ∷ (minus 2) ∷ [])
    (returned 1 4 0 ((pos 3) ∷ (pos 0) ∷ (pos 0) ∷ (pos 0) ∷ (pos 0) ∷ (pos 3) ∷ (pos 3) ∷ (pos 3) ∷ (pos 7) ∷ (pos 7) ∷ []) (4 ∷ 7 ∷ []) ((pos 0) ∷ (pos 0) ∷ (pos 0) ∷ (pos 3) ∷ (pos 3) ∷ (pos 3) ∷ (pos 3) ∷ (pos 0) ∷ [])) ∷
    C (R (minus 4800000) (minus 900000) (minus 1536000) (pos 5676000)) 4 256 ((pos 3252000) ∷ (pos 6120000) ∷ (minus 3299076) ∷ (pos 3992147) ∷ (pos 752689) ∷ (pos 9564594) ∷ (pos 752689) ∷ (pos 2675406) ∷ (minus 3299076) ∷ (pos 8247853) ∷ [])
    (returned 1 4 0 ((minus 1536000) ∷ (pos 5676000) ∷ (minus 1536000) ∷ (pos 4564811) ∷ (minus 3299076) ∷ (pos 3992147) ∷ (minus 2074734) ∷ (pos 5676000) ∷ (pos 7) ∷ (pos 7) ∷ []) (4 ∷ 7 ∷ []) ((minus 1536000) ∷ (pos 4564811) ∷ (minus 3299076) ∷ (pos 3992147) ∷ (minus 2074734) ∷ (pos 5676000) ∷ (minus 1536000) ∷ (pos 5676000) ∷ [])) ∷
    C (R (minus 266) (pos 92) (pos 140) (pos 575)) 9 2 ((minus 829) ∷ (pos 306) ∷ (minus 269) ∷ (pos 911) ∷ (pos 225) ∷ (minus 618) ∷ (pos 576) ∷ (pos 294) ∷ (pos 833) ∷ (pos 326) ∷ (minus 663) ∷ (pos 307) ∷ (minus 633) ∷ (minus 633) ∷ (minus 378) ∷ (minus 371) ∷ (pos 376) ∷ (pos 176) ∷ (minus 539) ∷ (pos 579) ∷ (minus 880) ∷ (minus 145) ∷ [])
    (refusal 8 ((minus 160) ∷ (pos 575) ∷ (minus 4) ∷ (pos 92) ∷ (pos 140) ∷ (pos 92) ∷ (pos 140) ∷ (pos 317) ∷ (minus 266) ∷ (pos 312) ∷ (minus 266) ∷ (pos 92) ∷ (pos 140) ∷ (pos 92) ∷ (pos 140) ∷ (pos 279) ∷ (minus 266) ∷ (pos 458) ∷ (minus 266) ∷ (pos 575) ∷ [])) ∷
    C (R (pos 0) (pos 0) (pos 7) (pos 12)) 12 256 ((pos 3) ∷ (pos 1) ∷ (pos 3) ∷ (pos 1) ∷ (pos 7) ∷ (pos 11) ∷ (pos 0) ∷ (pos 12) ∷ (minus 2) ∷ (pos 12) ∷ (pos 3) ∷ (pos 11) ∷ (pos 8) ∷ (pos 14) ∷ (pos 8) ∷ (pos 14) ∷ (minus 2) ∷ (pos 14) ∷ (pos 6) ∷ (pos 6) ∷ (pos 6) ∷ (pos 6) ∷ (pos 7) ∷ (pos 12) ∷ (pos 6) ∷ (minus 2) ∷ (pos 7) ∷ (pos 14) ∷ (pos 3) ∷ (pos 1) ∷ [])
    (returned 1 11 0 ((pos 6) ∷ (pos 0) ∷ (pos 6) ∷ (pos 12) ∷ (pos 3) ∷ (pos 1) ∷ (pos 7) ∷ (pos 11) ∷ (pos 0) ∷ (pos 12) ∷ (pos 0) ∷ (pos 11) ∷ (pos 3) ∷ (pos 11) ∷ (pos 4) ∷ (pos 12) ∷ (pos 0) ∷ (pos 12) ∷ (pos 6) ∷ (pos 6) ∷ (pos 7) ∷ (pos 12) ∷ (pos 7) ∷ (pos 7) ∷ []) (11 ∷ 7 ∷ []) ((pos 3) ∷ (pos 1) ∷ (pos 7) ∷ (pos 11) ∷ (pos 0) ∷ (pos 12) ∷ (pos 0) ∷ (pos 11) ∷ (pos 3) ∷ (pos 11) ∷ (pos 4) ∷ (pos 12) ∷ (pos 0) ∷ (pos 12) ∷ (pos 6) ∷ (pos 6) ∷ (pos 7) ∷ (pos 12) ∷ (pos 6) ∷ (pos 0) ∷ (pos 6) ∷ (pos 12) ∷ (pos 3) ∷ (pos 1) ∷ [])) ∷
    C (R (minus 33554431) (minus 33554431) (pos 31298928) (minus 26058408)) 256 256 ((pos 31298929) ∷ (minus 26058408) ∷ (pos 31298928) ∷ (minus 33554432) ∷ (minus 33554431) ∷ (minus 21931054) ∷ (pos 21944378) ∷ (pos 23239855) ∷ (pos 33554432) ∷ (minus 22914735) ∷ [])
    (returned 1 4 0 ((pos 31298928) ∷ (minus 33554431) ∷ (pos 31298922) ∷ (minus 33554431) ∷ (minus 10525603) ∷ (minus 26058408) ∷ (pos 31298928) ∷ (minus 26058408) ∷ (pos 7) ∷ (pos 7) ∷ []) (4 ∷ 7 ∷ []) ((pos 31298922) ∷ (minus 33554431) ∷ (minus 10525603) ∷ (minus 26058408) ∷ (pos 31298928) ∷ (minus 26058408) ∷ (pos 31298928) ∷ (minus 33554431) ∷ [])) ∷
    L (R (pos 0) (pos 0) (pos 14) (pos 1)) 256 ((pos 16) ∷ (pos 0) ∷ (pos 16) ∷ (minus 1) ∷ (pos 16) ∷ (minus 1) ∷ (minus 1) ∷ (pos 2) ∷ (pos 1) ∷ (pos 0) ∷ (minus 2) ∷ (pos 0) ∷ (pos 16) ∷ (pos 0) ∷ (pos 15) ∷ (pos 0) ∷ (pos 15) ∷ (pos 0) ∷ [])
    (returned 2 4 0 ((pos 10) ∷ (pos 0) ∷ (pos 4) ∷ (pos 1) ∷ (pos 0) ∷ (pos 1) ∷ (pos 1) ∷ (pos 0) ∷ (pos 7) ∷ (pos 7) ∷ []) (2 ∷ 2 ∷ 7 ∷ []) []) ∷
    U (R (pos 1) (pos 1) (pos 4) (pos 2)) 0 256 []
    (returned 0 0 0 ((pos 7) ∷ (pos 7) ∷ []) (7 ∷ []) []) ∷
    L (R (pos 452) (pos 85) (pos 606) (pos 103)) 256 ((pos 39) ∷ (pos 205) ∷ (pos 971) ∷ (pos 205) ∷ (pos 971) ∷ (minus 494) ∷ (pos 272) ∷ (minus 494) ∷ (pos 272) ∷ (minus 28) ∷ (pos 738) ∷ (minus 28) ∷ (pos 738) ∷ (minus 261) ∷ [])
    (returned 0 0 0 ((pos 7) ∷ (pos 7) ∷ []) (7 ∷ []) []) ∷
    C (R (pos 389) (minus 334) (pos 787) (pos 200)) 256 256 ((pos 1015) ∷ (minus 639) ∷ (pos 1015) ∷ (minus 334) ∷ (pos 405) ∷ (minus 334) ∷ (pos 405) ∷ (minus 944) ∷ (pos 1320) ∷ (minus 944) ∷ (pos 1320) ∷ (minus 29) ∷ [])
    (returned 0 0 0 ((pos 7) ∷ (pos 7) ∷ []) (7 ∷ []) ((pos 787) ∷ (minus 334) ∷ [])) ∷
    C (R (pos 16777217) (minus 33554431) (pos 19537411) (minus 12707295)) 256 256 ((pos 8806754) ∷ (minus 23196841) ∷ (pos 16777217) ∷ (minus 33554432) ∷ (pos 12967673) ∷ (minus 18006505) ∷ (minus 25323300) ∷ (minus 33554432) ∷ (minus 12039639) ∷ (minus 25491161) ∷ (pos 10756921) ∷ (pos 2016606) ∷ (pos 19537410) ∷ (minus 33554431) ∷ (pos 18157314) ∷ (minus 12707293) ∷ [])
    (returned 1 5 0 ((pos 18157314) ∷ (minus 12707295) ∷ (pos 18157312) ∷ (minus 12707295) ∷ (pos 16777217) ∷ (minus 14255499) ∷ (pos 16777217) ∷ (minus 22372488) ∷ (pos 19537410) ∷ (minus 33554431) ∷ (pos 7) ∷ (pos 7) ∷ []) (5 ∷ 7 ∷ []) ((pos 18157312) ∷ (minus 12707295) ∷ (pos 16777217) ∷ (minus 14255499) ∷ (pos 16777217) ∷ (minus 22372488) ∷ (pos 19537410) ∷ (minus 33554431) ∷ (pos 18157314) ∷ (minus 12707295) ∷ [])) ∷
    []

drawings1 : map shown table1 ≡ map (λ c. c.expected) table1
unfolding at_end get_segment_intersection edge_intersection side_intersection get_intersection start_locs_are_clockwise at_vertex scan_pass scan_answer scan_loop point_in_polygon path1_contains_path2 get_bounds_path get_location determinant numerator fraction working_of crossing_of point_at intersection cross_product_sign is_collinear cross_product_three_points cross_product_is_negative is_clockwise_dir set_owner set_edge set_next set_prev set_results set_edge_list ring unlink add_to_edge struck uncouple_edge own_from set_new_owner drop_collinear_pass drop_collinear assign_side assign_edges check_ring check_from check_edges enter_all arena_of straighten_pass straighten points_from get_path get_paths clip_walked execute sheet_refusal early_refusal delivered answered clip_closed clip_open filled_part is_present first_off_edge line_through line_cross line_from line_passes line_walk_from walk_open pieces longer_than_one execute_lines seek relink regroup keep_one keep_both keep_each settle rejoin one_turn turns_from tidy_edges add add_all push_start_loc next_side next_outside add_corner_prev_curr add_corner_loc add_corners push_start_locs next_inside get_next_location second_search remain_outside enter pass_to pass_through leave cross_boundary add_round retrace close_outline last_off pass_from passes surround after_while walk_from walk_closed walked_outline lib.Ieee.add of_int sub mul div neg to_signed eq lt le
drawings1 = refl

abbrev table2 : List Case
table2 =
    C (R (pos 1) (pos 0) (pos 4) (pos 1)) 256 2 ((pos 1) ∷ (pos 5) ∷ (pos 4) ∷ (pos 3) ∷ (pos 5) ∷ (pos 0) ∷ (pos 5) ∷ (minus 1) ∷ (pos 1) ∷ (pos 2) ∷ (pos 2) ∷ (pos 1) ∷ (pos 1) ∷ (pos 4) ∷ (minus 1) ∷ (pos 2) ∷ (minus 1) ∷ (pos 1) ∷ (pos 5) ∷ (pos 0) ∷ [])
    (returned 1 4 2 ((pos 3) ∷ (pos 0) ∷ (pos 2) ∷ (pos 1) ∷ (pos 1) ∷ (pos 1) ∷ (pos 1) ∷ (pos 0) ∷ (pos 7) ∷ (pos 7) ∷ []) (4 ∷ 7 ∷ []) ((pos 3) ∷ (pos 0) ∷ (pos 2) ∷ (pos 1) ∷ (pos 1) ∷ (pos 1) ∷ (pos 1) ∷ (pos 0) ∷ (pos 4) ∷ (pos 0) ∷ (pos 4) ∷ (pos 1) ∷ (pos 1) ∷ (pos 1) ∷ (pos 4) ∷ (pos 1) ∷ (pos 4) ∷ (pos 0) ∷ [])) ∷
    U (R (minus 26) (pos 400) (pos 459) (pos 520)) 256 256 ((pos 102) ∷ (pos 260) ∷ (pos 112) ∷ (pos 230) ∷ (pos 118) ∷ (pos 200) ∷ (pos 121) ∷ (pos 170) ∷ (pos 120) ∷ (pos 142) ∷ (pos 116) ∷ (pos 115) ∷ (pos 109) ∷ (pos 90) ∷ (pos 99) ∷ (pos 67) ∷ (pos 88) ∷ (pos 46) ∷ [])
    (returned 0 0 0 ((pos 7) ∷ (pos 7) ∷ []) (7 ∷ []) []) ∷
    C (R (pos 201) (pos 373) (pos 343) (pos 841)) 256 0 ((pos 324) ∷ (pos 494) ∷ (pos 324) ∷ (pos 568) ∷ (pos 176) ∷ (pos 568) ∷ (pos 176) ∷ (pos 420) ∷ (pos 398) ∷ (pos 420) ∷ [])
    (returned 1 6 0 ((pos 343) ∷ (pos 420) ∷ (pos 343) ∷ (pos 475) ∷ (pos 324) ∷ (pos 494) ∷ (pos 324) ∷ (pos 568) ∷ (pos 201) ∷ (pos 568) ∷ (pos 201) ∷ (pos 420) ∷ (pos 7) ∷ (pos 7) ∷ []) (6 ∷ 7 ∷ []) ((pos 343) ∷ (pos 475) ∷ (pos 324) ∷ (pos 494) ∷ (pos 324) ∷ (pos 568) ∷ (pos 201) ∷ (pos 568) ∷ (pos 201) ∷ (pos 420) ∷ (pos 343) ∷ (pos 420) ∷ [])) ∷
    C (R (minus 33554431) (pos 7) (pos 12576543) (pos 22281249)) 256 256 ((pos 7512291) ∷ (pos 33554432) ∷ (minus 1859659) ∷ (pos 31231697) ∷ (minus 33554430) ∷ (pos 7) ∷ (minus 33554431) ∷ (pos 8616393) ∷ [])
    (returned 1 4 0 ((minus 10942817) ∷ (pos 22281249) ∷ (minus 33554430) ∷ (pos 7) ∷ (minus 33554431) ∷ (pos 8616393) ∷ (minus 11051825) ∷ (pos 22281249) ∷ (pos 7) ∷ (pos 7) ∷ []) (4 ∷ 7 ∷ []) ((minus 33554431) ∷ (pos 8616393) ∷ (minus 11051825) ∷ (pos 22281249) ∷ (minus 10942817) ∷ (pos 22281249) ∷ (minus 33554430) ∷ (pos 7) ∷ (minus 33554431) ∷ (pos 8616393) ∷ [])) ∷
    C (R (pos 1) (pos 0) (pos 3) (pos 4)) 256 256 ((minus 1) ∷ (pos 3) ∷ (pos 4) ∷ (pos 1) ∷ (pos 0) ∷ (pos 4) ∷ (pos 0) ∷ (pos 4) ∷ (pos 1) ∷ (pos 3) ∷ (pos 2) ∷ (minus 1) ∷ (pos 2) ∷ (minus 1) ∷ (pos 2) ∷ (pos 3) ∷ (pos 3) ∷ (pos 3) ∷ (minus 1) ∷ (pos 3) ∷ (minus 1) ∷ (pos 3) ∷ [])
    (returned 1 7 0 ((pos 1) ∷ (pos 3) ∷ (pos 1) ∷ (pos 2) ∷ (pos 3) ∷ (pos 1) ∷ (pos 1) ∷ (pos 3) ∷ (pos 1) ∷ (pos 0) ∷ (pos 2) ∷ (pos 0) ∷ (pos 2) ∷ (pos 3) ∷ (pos 7) ∷ (pos 7) ∷ []) (7 ∷ 7 ∷ []) ((pos 1) ∷ (pos 2) ∷ (pos 3) ∷ (pos 1) ∷ (pos 1) ∷ (pos 3) ∷ (pos 1) ∷ (pos 0) ∷ (pos 2) ∷ (pos 0) ∷ (pos 2) ∷ (pos 3) ∷ (pos 3) ∷ (pos 3) ∷ (pos 1) ∷ (pos 3) ∷ [])) ∷
    C (R (pos 0) (pos 0) (pos 5) (pos 11)) 256 256 ((pos 1) ∷ (pos 11) ∷ (pos 1) ∷ (pos 11) ∷ (pos 6) ∷ (pos 12) ∷ (pos 6) ∷ (pos 11) ∷ (pos 0) ∷ (pos 0) ∷ (pos 0) ∷ (pos 0) ∷ (pos 6) ∷ (pos 1) ∷ (pos 6) ∷ (pos 1) ∷ (pos 4) ∷ (pos 0) ∷ (pos 4) ∷ (pos 0) ∷ (pos 4) ∷ (pos 12) ∷ (pos 2) ∷ (pos 11) ∷ (pos 5) ∷ (pos 0) ∷ (pos 5) ∷ (pos 0) ∷ (pos 1) ∷ (pos 11) ∷ [])
    (returned 2 8 1 ((pos 2) ∷ (pos 11) ∷ (pos 5) ∷ (pos 0) ∷ (pos 1) ∷ (pos 11) ∷ (pos 5) ∷ (pos 11) ∷ (pos 5) ∷ (pos 9) ∷ (pos 0) ∷ (pos 0) ∷ (pos 4) ∷ (pos 0) ∷ (pos 4) ∷ (pos 11) ∷ (pos 7) ∷ (pos 7) ∷ []) (3 ∷ 5 ∷ 7 ∷ []) ((pos 5) ∷ (pos 9) ∷ (pos 0) ∷ (pos 0) ∷ (pos 5) ∷ (pos 0) ∷ (pos 4) ∷ (pos 0) ∷ (pos 4) ∷ (pos 11) ∷ (pos 2) ∷ (pos 11) ∷ (pos 5) ∷ (pos 0) ∷ (pos 1) ∷ (pos 11) ∷ (pos 5) ∷ (pos 11) ∷ [])) ∷
    L (R (minus 372000) (minus 3216000) (pos 5460000) (pos 1164000)) 256 ((pos 7620000) ∷ (minus 9456000) ∷ (pos 5001751) ∷ (minus 6795244) ∷ (pos 4003500) ∷ (minus 13843459) ∷ (pos 13609500) ∷ (minus 9456000) ∷ (pos 2007001) ∷ (minus 1615136) ∷ (pos 1008750) ∷ (minus 19023567) ∷ (pos 19599000) ∷ (minus 9456000) ∷ (minus 987749) ∷ (pos 3564972) ∷ [])
    (returned 2 5 0 ((pos 4375875) ∷ (minus 3216000) ∷ (pos 2007001) ∷ (minus 1615136) ∷ (pos 1915202) ∷ (minus 3216000) ∷ (pos 5460000) ∷ (minus 513183) ∷ (pos 2808296) ∷ (pos 1164000) ∷ (pos 7) ∷ (pos 7) ∷ []) (3 ∷ 2 ∷ 7 ∷ []) []) ∷
    C (R (pos 0) (pos 0) (pos 60) (pos 60)) 256 256 ((pos 3) ∷ (pos 60) ∷ (pos 6) ∷ (pos 60) ∷ (pos 4) ∷ (pos 60) ∷ (pos 4) ∷ (pos 61) ∷ (pos 4) ∷ (pos 63) ∷ (pos 8) ∷ (pos 54) ∷ [])
    (returned 1 3 0 ((pos 8) ∷ (pos 54) ∷ (pos 3) ∷ (pos 60) ∷ (pos 5) ∷ (pos 60) ∷ (pos 7) ∷ (pos 7) ∷ []) (3 ∷ 7 ∷ []) ((pos 3) ∷ (pos 60) ∷ (pos 6) ∷ (pos 60) ∷ (pos 4) ∷ (pos 60) ∷ (pos 5) ∷ (pos 60) ∷ (pos 8) ∷ (pos 54) ∷ [])) ∷
    C (R (pos 0) (pos 0) (pos 8) (pos 11)) 12 5 ((minus 1) ∷ (pos 11) ∷ (minus 2) ∷ (pos 11) ∷ (pos 9) ∷ (pos 5) ∷ (minus 2) ∷ (pos 11) ∷ (pos 9) ∷ (pos 12) ∷ (minus 1) ∷ (minus 2) ∷ (pos 9) ∷ (pos 12) ∷ (minus 2) ∷ (pos 12) ∷ (pos 1) ∷ (pos 10) ∷ (minus 2) ∷ (pos 12) ∷ (minus 2) ∷ (pos 13) ∷ [])
    (refusal 8 ((pos 0) ∷ (pos 9) ∷ (pos 8) ∷ (pos 5) ∷ (pos 0) ∷ (pos 9) ∷ (pos 0) ∷ (pos 11) ∷ (pos 8) ∷ (pos 11) ∷ (pos 8) ∷ (pos 10) ∷ (pos 0) ∷ (pos 0) ∷ (pos 8) ∷ (pos 10) ∷ (pos 8) ∷ (pos 11) ∷ (pos 0) ∷ (pos 11) ∷ (pos 0) ∷ (pos 10) ∷ (pos 1) ∷ (pos 10) ∷ (pos 0) ∷ (pos 10) ∷ [])) ∷
    U (R (pos 0) (pos 0) (pos 12) (pos 9)) 256 256 ((pos 13) ∷ (pos 9) ∷ (pos 13) ∷ (minus 1) ∷ [])
    (returned 0 0 0 ((pos 7) ∷ (pos 7) ∷ []) (7 ∷ []) []) ∷
    L (R (minus 248) (minus 360) (pos 4) (minus 357)) 256 ((pos 983) ∷ (pos 709) ∷ (pos 276) ∷ (pos 565) ∷ (minus 774) ∷ (minus 231) ∷ (pos 946) ∷ (minus 111) ∷ (pos 790) ∷ (minus 34) ∷ (pos 917) ∷ (pos 22) ∷ (minus 872) ∷ (pos 388) ∷ (pos 829) ∷ (minus 933) ∷ (pos 875) ∷ (minus 37) ∷ (minus 863) ∷ (pos 437) ∷ (pos 656) ∷ (pos 132) ∷ [])
    (returned 0 0 0 ((pos 7) ∷ (pos 7) ∷ []) (7 ∷ []) []) ∷
    U (R (pos 0) (pos 0) (pos 16) (pos 0)) 256 0 ((pos 15) ∷ (pos 0) ∷ (pos 8) ∷ (minus 2) ∷ (pos 16) ∷ (pos 0) ∷ (pos 16) ∷ (pos 0) ∷ (pos 16) ∷ (pos 2) ∷ (minus 2) ∷ (pos 0) ∷ (pos 0) ∷ (minus 1) ∷ (pos 18) ∷ (pos 0) ∷ [])
    (returned 0 0 0 ((pos 7) ∷ (pos 7) ∷ []) (7 ∷ []) []) ∷
    C (R (pos 0) (minus 33554432) (pos 10374518) (minus 26761599)) 256 256 ((pos 0) ∷ (minus 26761599) ∷ (minus 29592488) ∷ (pos 33554432) ∷ (minus 20396535) ∷ (pos 2113776) ∷ (minus 30356703) ∷ (pos 33554432) ∷ (minus 24725972) ∷ (pos 33554431) ∷ (minus 3318158) ∷ (pos 20018446) ∷ (pos 0) ∷ (minus 33554432) ∷ [])
    (returned 0 0 0 ((pos 7) ∷ (pos 7) ∷ []) (7 ∷ []) []) ∷
    L (R (pos 0) (pos 0) (pos 3) (pos 12)) 256 ((pos 1) ∷ (pos 11) ∷ (pos 4) ∷ (pos 12) ∷ (pos 1) ∷ (pos 11) ∷ (pos 4) ∷ (minus 2) ∷ (minus 1) ∷ (minus 1) ∷ (pos 4) ∷ (minus 2) ∷ (pos 1) ∷ (pos 12) ∷ (pos 1) ∷ (minus 1) ∷ (pos 1) ∷ (pos 12) ∷ (pos 3) ∷ (pos 11) ∷ (pos 4) ∷ (pos 6) ∷ [])
    (returned 6 13 0 ((pos 1) ∷ (pos 11) ∷ (pos 3) ∷ (pos 11) ∷ (pos 3) ∷ (pos 11) ∷ (pos 1) ∷ (pos 11) ∷ (pos 3) ∷ (pos 2) ∷ (pos 3) ∷ (pos 2) ∷ (pos 1) ∷ (pos 12) ∷ (pos 1) ∷ (pos 12) ∷ (pos 1) ∷ (pos 0) ∷ (pos 1) ∷ (pos 0) ∷ (pos 1) ∷ (pos 12) ∷ (pos 1) ∷ (pos 12) ∷ (pos 3) ∷ (pos 11) ∷ (pos 7) ∷ (pos 7) ∷ []) (2 ∷ 3 ∷ 2 ∷ 2 ∷ 2 ∷ 2 ∷ 7 ∷ []) []) ∷
    C (R (pos 0) (pos 0) (pos 8) (pos 7)) 256 256 ((pos 10) ∷ (pos 0) ∷ (pos 9) ∷ (pos 1) ∷ (pos 9) ∷ (pos 1) ∷ (pos 10) ∷ (pos 0) ∷ (pos 1) ∷ (pos 0) ∷ (pos 1) ∷ (pos 0) ∷ (pos 8) ∷ (pos 8) ∷ (pos 8) ∷ (pos 9) ∷ (pos 0) ∷ (minus 1) ∷ (pos 0) ∷ (minus 1) ∷ (pos 7) ∷ (pos 8) ∷ (pos 7) ∷ (pos 8) ∷ (pos 0) ∷ (minus 1) ∷ (pos 9) ∷ (pos 7) ∷ (pos 8) ∷ (pos 6) ∷ (pos 0) ∷ (pos 0) ∷ (pos 8) ∷ (pos 6) ∷ (pos 10) ∷ (pos 0) ∷ [])
    (returned 1 7 2 ((pos 8) ∷ (pos 6) ∷ (pos 8) ∷ (pos 0) ∷ (pos 1) ∷ (pos 0) ∷ (pos 7) ∷ (pos 7) ∷ (pos 6) ∷ (pos 7) ∷ (pos 0) ∷ (pos 0) ∷ (pos 1) ∷ (pos 0) ∷ (pos 7) ∷ (pos 7) ∷ []) (7 ∷ 7 ∷ []) ((pos 8) ∷ (pos 0) ∷ (pos 1) ∷ (pos 0) ∷ (pos 7) ∷ (pos 7) ∷ (pos 6) ∷ (pos 7) ∷ (pos 0) ∷ (pos 0) ∷ (pos 6) ∷ (pos 7) ∷ (pos 0) ∷ (pos 0) ∷ (pos 1) ∷ (pos 0) ∷ (pos 8) ∷ (pos 6) ∷ (pos 0) ∷ (pos 0) ∷ (pos 8) ∷ (pos 6) ∷ [])) ∷
    []

drawings2 : map shown table2 ≡ map (λ c. c.expected) table2
unfolding at_end get_segment_intersection edge_intersection side_intersection get_intersection start_locs_are_clockwise at_vertex scan_pass scan_answer scan_loop point_in_polygon path1_contains_path2 get_bounds_path get_location determinant numerator fraction working_of crossing_of point_at intersection cross_product_sign is_collinear cross_product_three_points cross_product_is_negative is_clockwise_dir set_owner set_edge set_next set_prev set_results set_edge_list ring unlink add_to_edge struck uncouple_edge own_from set_new_owner drop_collinear_pass drop_collinear assign_side assign_edges check_ring check_from check_edges enter_all arena_of straighten_pass straighten points_from get_path get_paths clip_walked execute sheet_refusal early_refusal delivered answered clip_closed clip_open filled_part is_present first_off_edge line_through line_cross line_from line_passes line_walk_from walk_open pieces longer_than_one execute_lines seek relink regroup keep_one keep_both keep_each settle rejoin one_turn turns_from tidy_edges add add_all push_start_loc next_side next_outside add_corner_prev_curr add_corner_loc add_corners push_start_locs next_inside get_next_location second_search remain_outside enter pass_to pass_through leave cross_boundary add_round retrace close_outline last_off pass_from passes surround after_while walk_from walk_closed walked_outline lib.Ieee.add of_int sub mul div neg to_signed eq lt le
drawings2 = refl

abbrev table3 : List Case
table3 =
    C (R (pos 0) (pos 0) (pos 6) (pos 5)) 256 256 ((pos 6) ∷ (pos 0) ∷ (pos 6) ∷ (pos 1) ∷ (pos 8) ∷ (pos 1) ∷ (pos 6) ∷ (pos 1) ∷ (minus 1) ∷ (pos 1) ∷ (minus 2) ∷ (pos 1) ∷ [])
    (returned 1 4 0 ((pos 0) ∷ (pos 1) ∷ (pos 0) ∷ (pos 0) ∷ (pos 6) ∷ (pos 0) ∷ (pos 6) ∷ (pos 1) ∷ (pos 7) ∷ (pos 7) ∷ []) (4 ∷ 7 ∷ []) ((pos 0) ∷ (pos 0) ∷ (pos 6) ∷ (pos 0) ∷ (pos 6) ∷ (pos 1) ∷ (pos 0) ∷ (pos 1) ∷ [])) ∷
    C (R (pos 0) (pos 0) (pos 5) (pos 7)) 256 256 ((pos 0) ∷ (pos 7) ∷ (pos 0) ∷ (pos 1) ∷ (pos 0) ∷ (pos 6) ∷ (pos 0) ∷ (minus 1) ∷ (pos 5) ∷ (minus 1) ∷ (pos 0) ∷ (minus 1) ∷ (pos 4) ∷ (minus 1) ∷ [])
    (returned 1 3 0 ((pos 0) ∷ (pos 0) ∷ (pos 3) ∷ (pos 0) ∷ (pos 0) ∷ (pos 7) ∷ (pos 7) ∷ (pos 7) ∷ []) (3 ∷ 7 ∷ []) ((pos 3) ∷ (pos 0) ∷ (pos 0) ∷ (pos 7) ∷ (pos 0) ∷ (pos 0) ∷ (pos 5) ∷ (pos 0) ∷ (pos 0) ∷ (pos 0) ∷ [])) ∷
    L (R (minus 424) (minus 32) (minus 269) (pos 99)) 256 ((minus 275) ∷ (pos 45) ∷ (minus 275) ∷ (pos 45) ∷ (minus 275) ∷ (pos 169) ∷ (minus 523) ∷ (pos 169) ∷ (minus 523) ∷ (pos 169) ∷ (minus 523) ∷ (minus 79) ∷ (minus 523) ∷ (minus 79) ∷ (minus 151) ∷ (minus 79) ∷ (minus 151) ∷ (pos 293) ∷ (minus 275) ∷ (pos 45) ∷ [])
    (returned 2 4 0 ((minus 275) ∷ (pos 45) ∷ (minus 275) ∷ (pos 99) ∷ (minus 269) ∷ (pos 57) ∷ (minus 275) ∷ (pos 45) ∷ (pos 7) ∷ (pos 7) ∷ []) (2 ∷ 2 ∷ 7 ∷ []) []) ∷
    C (R (minus 232) (minus 74) (pos 270) (pos 97)) 15 0 ((pos 429) ∷ (pos 480) ∷ (pos 429) ∷ (minus 346) ∷ (minus 397) ∷ (minus 346) ∷ (minus 397) ∷ (pos 362) ∷ (pos 311) ∷ (pos 362) ∷ (pos 311) ∷ (minus 228) ∷ (minus 279) ∷ (minus 228) ∷ (minus 279) ∷ (pos 244) ∷ (pos 193) ∷ (pos 244) ∷ (pos 193) ∷ (minus 110) ∷ (minus 161) ∷ (minus 110) ∷ (minus 161) ∷ (pos 126) ∷ (pos 75) ∷ (pos 126) ∷ (pos 75) ∷ (pos 8) ∷ [])
    (returned 1 15 0 ((pos 75) ∷ (pos 8) ∷ (pos 141) ∷ (pos 97) ∷ (pos 270) ∷ (pos 97) ∷ (pos 270) ∷ (minus 74) ∷ (minus 232) ∷ (minus 74) ∷ (minus 232) ∷ (pos 97) ∷ (pos 270) ∷ (pos 97) ∷ (pos 270) ∷ (minus 74) ∷ (minus 232) ∷ (minus 74) ∷ (minus 232) ∷ (pos 97) ∷ (pos 193) ∷ (pos 97) ∷ (pos 193) ∷ (minus 74) ∷ (minus 161) ∷ (minus 74) ∷ (minus 161) ∷ (pos 97) ∷ (pos 75) ∷ (pos 97) ∷ (pos 7) ∷ (pos 7) ∷ []) (15 ∷ 7 ∷ []) ((pos 141) ∷ (pos 97) ∷ (pos 270) ∷ (pos 97) ∷ (pos 270) ∷ (minus 74) ∷ (minus 232) ∷ (minus 74) ∷ (minus 232) ∷ (pos 97) ∷ (pos 270) ∷ (pos 97) ∷ (pos 270) ∷ (minus 74) ∷ (minus 232) ∷ (minus 74) ∷ (minus 232) ∷ (pos 97) ∷ (pos 193) ∷ (pos 97) ∷ (pos 193) ∷ (minus 74) ∷ (minus 161) ∷ (minus 74) ∷ (minus 161) ∷ (pos 97) ∷ (pos 75) ∷ (pos 97) ∷ (pos 75) ∷ (pos 8) ∷ [])) ∷
    U (R (pos 16777217) (pos 16777217) (pos 19864868) (pos 32195976)) 256 256 ((pos 19864870) ∷ (pos 16777215) ∷ (pos 19864867) ∷ (pos 16777216) ∷ (minus 33554431) ∷ (minus 21098244) ∷ [])
    (returned 0 0 0 ((pos 7) ∷ (pos 7) ∷ []) (7 ∷ []) []) ∷
    C (R (minus 2100000) (minus 2352000) (pos 5568000) (pos 3012000)) 256 256 ((pos 14764370) ∷ (pos 2162690) ∷ (minus 3415629) ∷ (pos 12644852) ∷ (minus 3415630) ∷ (minus 8319472) ∷ (pos 14764370) ∷ (pos 2162690) ∷ (minus 3415629) ∷ (pos 12644852) ∷ (minus 3415630) ∷ (minus 8319472) ∷ (pos 14764370) ∷ (pos 2162690) ∷ (minus 3415629) ∷ (pos 12644852) ∷ (minus 3415630) ∷ (minus 8319472) ∷ (pos 14764370) ∷ (pos 2162690) ∷ (minus 3415629) ∷ (pos 12644852) ∷ (minus 3415630) ∷ (minus 8319472) ∷ [])
    (returned 0 0 0 ((pos 7) ∷ (pos 7) ∷ []) (7 ∷ []) []) ∷
    C (R (minus 2208000) (pos 1488000) (minus 2112000) (pos 1644000)) 256 256 ((minus 3532294) ∷ (pos 775490) ∷ (minus 1321213) ∷ (pos 2986571) ∷ (minus 2131213) ∷ (minus 34510) ∷ (minus 2941212) ∷ (pos 2986571) ∷ (minus 730132) ∷ (pos 775490) ∷ (minus 3751213) ∷ (pos 1585490) ∷ (minus 730132) ∷ (pos 2395490) ∷ (minus 2941213) ∷ (pos 184409) ∷ (minus 2131213) ∷ (pos 3205490) ∷ (minus 1321213) ∷ (pos 184409) ∷ (minus 3532294) ∷ (pos 2395489) ∷ (minus 511213) ∷ (pos 1585490) ∷ [])
    (returned 1 4 0 ((minus 2208000) ∷ (pos 1488000) ∷ (minus 2208000) ∷ (pos 1644000) ∷ (minus 2112000) ∷ (pos 1644000) ∷ (minus 2112000) ∷ (pos 1488000) ∷ (pos 7) ∷ (pos 7) ∷ []) (4 ∷ 7 ∷ []) ((minus 2208000) ∷ (pos 1644000) ∷ (minus 2112000) ∷ (pos 1644000) ∷ (minus 2112000) ∷ (pos 1488000) ∷ (minus 2208000) ∷ (pos 1488000) ∷ [])) ∷
    U (R (pos 0) (pos 0) (pos 18) (pos 0)) 256 256 ((pos 19) ∷ (pos 0) ∷ (minus 1) ∷ (minus 1) ∷ (pos 0) ∷ (minus 1) ∷ (minus 1) ∷ (pos 0) ∷ (pos 1) ∷ (pos 0) ∷ (pos 1) ∷ (pos 0) ∷ (pos 0) ∷ (pos 1) ∷ (pos 20) ∷ (pos 0) ∷ (pos 17) ∷ (pos 0) ∷ (pos 18) ∷ (minus 1) ∷ [])
    (returned 0 0 0 ((pos 7) ∷ (pos 7) ∷ []) (7 ∷ []) []) ∷
    C (R (minus 274) (minus 294) (pos 223) (pos 14)) 256 0 ((pos 127) ∷ (minus 76) ∷ (pos 127) ∷ (minus 76) ∷ (pos 158) ∷ (minus 57) ∷ (pos 158) ∷ (minus 57) ∷ (pos 172) ∷ (minus 16) ∷ (pos 158) ∷ (pos 35) ∷ (pos 112) ∷ (pos 81) ∷ (pos 112) ∷ (pos 81) ∷ (pos 39) ∷ (pos 101) ∷ (minus 48) ∷ (pos 84) ∷ (minus 131) ∷ (pos 25) ∷ (minus 131) ∷ (pos 25) ∷ (minus 187) ∷ (minus 76) ∷ (minus 187) ∷ (minus 76) ∷ (minus 197) ∷ (minus 204) ∷ (minus 197) ∷ (minus 204) ∷ (minus 149) ∷ (minus 337) ∷ (minus 43) ∷ (minus 450) ∷ [])
    (returned 1 9 0 ((minus 164) ∷ (minus 294) ∷ (pos 27) ∷ (minus 294) ∷ (pos 127) ∷ (minus 76) ∷ (pos 158) ∷ (minus 57) ∷ (pos 172) ∷ (minus 16) ∷ (pos 163) ∷ (pos 14) ∷ (minus 137) ∷ (pos 14) ∷ (minus 187) ∷ (minus 76) ∷ (minus 197) ∷ (minus 204) ∷ (pos 7) ∷ (pos 7) ∷ []) (9 ∷ 7 ∷ []) ((pos 27) ∷ (minus 294) ∷ (pos 127) ∷ (minus 76) ∷ (pos 158) ∷ (minus 57) ∷ (pos 172) ∷ (minus 16) ∷ (pos 163) ∷ (pos 14) ∷ (minus 137) ∷ (pos 14) ∷ (minus 187) ∷ (minus 76) ∷ (minus 197) ∷ (minus 204) ∷ (minus 164) ∷ (minus 294) ∷ [])) ∷
    L (R (pos 0) (pos 0) (pos 5) (pos 3)) 256 ((minus 1) ∷ (pos 0) ∷ (pos 5) ∷ (minus 2) ∷ (pos 7) ∷ (pos 0) ∷ (pos 5) ∷ (minus 2) ∷ (pos 6) ∷ (pos 2) ∷ (minus 1) ∷ (pos 3) ∷ (pos 6) ∷ (pos 2) ∷ (pos 0) ∷ (pos 1) ∷ (minus 1) ∷ (minus 2) ∷ (pos 0) ∷ (pos 1) ∷ (pos 0) ∷ (pos 3) ∷ (pos 1) ∷ (pos 3) ∷ (pos 2) ∷ (pos 0) ∷ [])
    (returned 4 8 0 ((pos 5) ∷ (pos 2) ∷ (pos 0) ∷ (pos 2) ∷ (pos 0) ∷ (pos 2) ∷ (pos 5) ∷ (pos 2) ∷ (pos 5) ∷ (pos 1) ∷ (pos 0) ∷ (pos 1) ∷ (pos 1) ∷ (pos 3) ∷ (pos 2) ∷ (pos 0) ∷ (pos 7) ∷ (pos 7) ∷ []) (2 ∷ 2 ∷ 2 ∷ 2 ∷ 7 ∷ []) []) ∷
    C (R (pos 0) (pos 0) (pos 60) (pos 60)) 256 256 ((minus 1) ∷ (pos 66) ∷ (pos 0) ∷ (pos 68) ∷ (minus 2) ∷ (pos 53) ∷ (minus 2) ∷ (pos 60) ∷ (pos 17) ∷ (pos 55) ∷ (pos 21) ∷ (pos 54) ∷ (pos 52) ∷ (pos 66) ∷ (pos 55) ∷ (pos 60) ∷ (pos 56) ∷ (pos 62) ∷ (pos 59) ∷ (pos 51) ∷ [])
    (returned 1 8 2 ((pos 59) ∷ (pos 51) ∷ (pos 23) ∷ (pos 60) ∷ (pos 0) ∷ (pos 60) ∷ (pos 0) ∷ (pos 59) ∷ (pos 17) ∷ (pos 55) ∷ (pos 21) ∷ (pos 54) ∷ (pos 36) ∷ (pos 60) ∷ (pos 56) ∷ (pos 60) ∷ (pos 7) ∷ (pos 7) ∷ []) (8 ∷ 7 ∷ []) ((pos 23) ∷ (pos 60) ∷ (pos 0) ∷ (pos 60) ∷ (pos 0) ∷ (pos 59) ∷ (pos 17) ∷ (pos 55) ∷ (pos 21) ∷ (pos 54) ∷ (pos 36) ∷ (pos 60) ∷ (pos 56) ∷ (pos 60) ∷ (pos 59) ∷ (pos 51) ∷ [])) ∷
    L (R (pos 0) (pos 0) (pos 60) (pos 60)) 5 ((pos 5) ∷ (pos 57) ∷ (pos 7) ∷ (pos 60) ∷ (pos 1) ∷ (pos 65) ∷ (pos 5) ∷ (pos 68) ∷ (pos 4) ∷ (pos 53) ∷ (pos 4) ∷ (pos 68) ∷ (pos 2) ∷ (pos 68) ∷ (pos 0) ∷ (pos 68) ∷ (minus 1) ∷ (pos 55) ∷ (pos 0) ∷ (pos 63) ∷ (minus 1) ∷ (pos 60) ∷ (pos 34) ∷ (pos 63) ∷ [])
    (returned 2 5 0 ((pos 5) ∷ (pos 57) ∷ (pos 7) ∷ (pos 60) ∷ (pos 4) ∷ (pos 60) ∷ (pos 4) ∷ (pos 53) ∷ (pos 4) ∷ (pos 60) ∷ (pos 7) ∷ (pos 7) ∷ []) (2 ∷ 3 ∷ 7 ∷ []) []) ∷
    U (R (pos 2) (pos 1) (pos 4) (pos 2)) 1 0 ((pos 3) ∷ (minus 1) ∷ (pos 4) ∷ (pos 0) ∷ (minus 1) ∷ (pos 3) ∷ (pos 9223372036854775807) ∷ (pos 3) ∷ [])
    (refusal 7 []) ∷
    C (R (pos 0) (pos 0) (pos 9) (pos 4)) 256 256 ((minus 1) ∷ (minus 2) ∷ (pos 12) ∷ (minus 3) ∷ (pos 9) ∷ (pos 5) ∷ (minus 3) ∷ (pos 4) ∷ [])
    (returned 1 4 0 ((pos 0) ∷ (pos 4) ∷ (pos 0) ∷ (pos 0) ∷ (pos 9) ∷ (pos 0) ∷ (pos 9) ∷ (pos 4) ∷ (pos 7) ∷ (pos 7) ∷ []) (4 ∷ 7 ∷ []) ((pos 0) ∷ (pos 0) ∷ (pos 9) ∷ (pos 0) ∷ (pos 9) ∷ (pos 4) ∷ (pos 0) ∷ (pos 4) ∷ [])) ∷
    C (R (minus 275) (minus 470) (minus 171) (minus 111)) 256 256 ((minus 765) ∷ (minus 522) ∷ (pos 123) ∷ (minus 206) ∷ (pos 358) ∷ (minus 958) ∷ (pos 728) ∷ (minus 731) ∷ (pos 520) ∷ (minus 507) ∷ (pos 952) ∷ (pos 706) ∷ (pos 191) ∷ (pos 644) ∷ (pos 986) ∷ (minus 3) ∷ [])
    (returned 1 4 0 ((minus 171) ∷ (minus 310) ∷ (minus 171) ∷ (minus 345) ∷ (minus 275) ∷ (minus 376) ∷ (minus 275) ∷ (minus 347) ∷ (pos 7) ∷ (pos 7) ∷ []) (4 ∷ 7 ∷ []) ((minus 171) ∷ (minus 345) ∷ (minus 275) ∷ (minus 376) ∷ (minus 275) ∷ (minus 347) ∷ (minus 171) ∷ (minus 310) ∷ [])) ∷
    []

drawings3 : map shown table3 ≡ map (λ c. c.expected) table3
unfolding at_end get_segment_intersection edge_intersection side_intersection get_intersection start_locs_are_clockwise at_vertex scan_pass scan_answer scan_loop point_in_polygon path1_contains_path2 get_bounds_path get_location determinant numerator fraction working_of crossing_of point_at intersection cross_product_sign is_collinear cross_product_three_points cross_product_is_negative is_clockwise_dir set_owner set_edge set_next set_prev set_results set_edge_list ring unlink add_to_edge struck uncouple_edge own_from set_new_owner drop_collinear_pass drop_collinear assign_side assign_edges check_ring check_from check_edges enter_all arena_of straighten_pass straighten points_from get_path get_paths clip_walked execute sheet_refusal early_refusal delivered answered clip_closed clip_open filled_part is_present first_off_edge line_through line_cross line_from line_passes line_walk_from walk_open pieces longer_than_one execute_lines seek relink regroup keep_one keep_both keep_each settle rejoin one_turn turns_from tidy_edges add add_all push_start_loc next_side next_outside add_corner_prev_curr add_corner_loc add_corners push_start_locs next_inside get_next_location second_search remain_outside enter pass_to pass_through leave cross_boundary add_round retrace close_outline last_off pass_from passes surround after_while walk_from walk_closed walked_outline lib.Ieee.add of_int sub mul div neg to_signed eq lt le
drawings3 = refl

abbrev table4 : List Case
table4 =
    C (R (pos 0) (pos 0) (pos 12) (pos 8)) 10 256 ((pos 14) ∷ (pos 8) ∷ (pos 6) ∷ (pos 8) ∷ (pos 13) ∷ (pos 0) ∷ (pos 12) ∷ (pos 10) ∷ (minus 1) ∷ (minus 1) ∷ (minus 2) ∷ (pos 10) ∷ (minus 1) ∷ (pos 8) ∷ (pos 14) ∷ (pos 8) ∷ (pos 12) ∷ (pos 9) ∷ (minus 1) ∷ (minus 2) ∷ [])
    (refusal 8 ((pos 2) ∷ (pos 0) ∷ (pos 12) ∷ (pos 6) ∷ (pos 12) ∷ (pos 8) ∷ (pos 6) ∷ (pos 8) ∷ (pos 12) ∷ (pos 1) ∷ (pos 12) ∷ (pos 8) ∷ (pos 9) ∷ (pos 8) ∷ (pos 0) ∷ (pos 0) ∷ (pos 0) ∷ (pos 8) ∷ (pos 10) ∷ (pos 8) ∷ (pos 1) ∷ (pos 0) ∷ [])) ∷
    L (R (pos 16777217) (pos 0) (pos 29292700) (pos 20702514)) 256 ((pos 9234264) ∷ (minus 8874002) ∷ (minus 33554431) ∷ (pos 16911388) ∷ [])
    (returned 0 0 0 ((pos 7) ∷ (pos 7) ∷ []) (7 ∷ []) []) ∷
    L (R (pos 328) (pos 11) (pos 947) (pos 287)) 256 ((pos 1101) ∷ (pos 100) ∷ (pos 1195) ∷ (pos 132) ∷ (pos 1284) ∷ (pos 183) ∷ (pos 1367) ∷ (pos 251) ∷ (pos 1438) ∷ (pos 335) ∷ (pos 1498) ∷ (pos 435) ∷ (pos 1541) ∷ (pos 548) ∷ (pos 0) ∷ [])
    (refusal 1 []) ∷
    C (R (pos 0) (pos 0) (pos 60) (pos 60)) 13 1 ((pos 5) ∷ (pos 43) ∷ (minus 7) ∷ (pos 43) ∷ (minus 5) ∷ (pos 46) ∷ (minus 5) ∷ (pos 46) ∷ (pos 0) ∷ (pos 46) ∷ (pos 0) ∷ (pos 46) ∷ (pos 2) ∷ (pos 44) ∷ (pos 7) ∷ (pos 27) ∷ (pos 7) ∷ (pos 27) ∷ (minus 8) ∷ (pos 25) ∷ (minus 3) ∷ (pos 26) ∷ (minus 3) ∷ (pos 26) ∷ (pos 6) ∷ (pos 30) ∷ (pos 6) ∷ (pos 30) ∷ (minus 6) ∷ (pos 30) ∷ (minus 6) ∷ (pos 30) ∷ (pos 8) ∷ (pos 29) ∷ (pos 8) ∷ (pos 29) ∷ (minus 5) ∷ (pos 29) ∷ (minus 5) ∷ (pos 29) ∷ [])
    (returned 1 10 1 ((pos 0) ∷ (pos 36) ∷ (pos 5) ∷ (pos 43) ∷ (pos 0) ∷ (pos 43) ∷ (pos 0) ∷ (pos 46) ∷ (pos 2) ∷ (pos 44) ∷ (pos 7) ∷ (pos 27) ∷ (pos 0) ∷ (pos 26) ∷ (pos 0) ∷ (pos 27) ∷ (pos 6) ∷ (pos 30) ∷ (pos 0) ∷ (pos 30) ∷ (pos 7) ∷ (pos 7) ∷ []) (10 ∷ 7 ∷ []) ((pos 0) ∷ (pos 36) ∷ (pos 5) ∷ (pos 43) ∷ (pos 0) ∷ (pos 43) ∷ (pos 0) ∷ (pos 46) ∷ (pos 2) ∷ (pos 44) ∷ (pos 7) ∷ (pos 27) ∷ (pos 0) ∷ (pos 26) ∷ (pos 0) ∷ (pos 27) ∷ (pos 6) ∷ (pos 30) ∷ (pos 0) ∷ (pos 30) ∷ (pos 0) ∷ (pos 29) ∷ (pos 8) ∷ (pos 29) ∷ (pos 0) ∷ (pos 29) ∷ [])) ∷
    U (R (pos 57) (pos 296) (pos 483) (pos 683)) 256 0 ((pos 596) ∷ (pos 1194) ∷ (pos 1092) ∷ (pos 1194) ∷ (pos 1092) ∷ (pos 822) ∷ (pos 720) ∷ (pos 822) ∷ (pos 720) ∷ (pos 1070) ∷ (pos 968) ∷ (pos 1070) ∷ (pos 968) ∷ (pos 946) ∷ [])
    (returned 0 0 0 ((pos 7) ∷ (pos 7) ∷ []) (7 ∷ []) []) ∷
    C (R (pos 153) (minus 196) (pos 805) (pos 442)) 6 0 ((minus 683) ∷ (pos 710) ∷ (pos 24) ∷ (pos 642) ∷ (pos 281) ∷ (pos 830) ∷ (pos 281) ∷ (pos 830) ∷ (pos 483) ∷ (pos 303) ∷ (pos 483) ∷ (pos 303) ∷ (minus 490) ∷ (minus 632) ∷ (pos 941) ∷ (minus 840) ∷ (minus 226) ∷ (minus 645) ∷ (minus 872) ∷ (pos 60) ∷ (minus 701) ∷ (minus 418) ∷ (pos 478) ∷ (minus 990) ∷ [])
    (refusal 8 ((pos 429) ∷ (pos 442) ∷ (pos 483) ∷ (pos 303) ∷ (pos 153) ∷ (minus 14) ∷ (pos 153) ∷ (minus 196) ∷ (pos 805) ∷ (minus 196) ∷ (pos 153) ∷ (minus 196) ∷ (pos 153) ∷ (pos 442) ∷ [])) ∷
    L (R (pos 33554431) (pos 16777217) (pos 33554432) (pos 30882610)) 256 ((minus 33554431) ∷ (pos 28640020) ∷ (pos 9781596) ∷ (minus 1378190) ∷ (pos 21830314) ∷ (pos 18547797) ∷ (pos 25462297) ∷ (pos 33554432) ∷ (pos 5597866) ∷ (pos 30360350) ∷ (minus 20598574) ∷ (minus 3704349) ∷ (pos 33554431) ∷ (pos 30882609) ∷ (pos 33554431) ∷ (pos 16777218) ∷ [])
    (returned 0 0 0 ((pos 7) ∷ (pos 7) ∷ []) (7 ∷ []) []) ∷
    L (R (pos 0) (pos 0) (pos 3) (pos 3)) 256 ((minus 1) ∷ (pos 5) ∷ (minus 2) ∷ (minus 2) ∷ (pos 4) ∷ (pos 0) ∷ (pos 6) ∷ (pos 3) ∷ [])
    (returned 0 0 0 ((pos 7) ∷ (pos 7) ∷ []) (7 ∷ []) []) ∷
    U (R (pos 0) (pos 0) (pos 0) (pos 18)) 256 256 ((pos 0) ∷ (pos 0) ∷ (pos 0) ∷ (pos 20) ∷ (pos 0) ∷ (pos 20) ∷ (pos 1) ∷ (pos 9) ∷ (pos 1) ∷ (pos 9) ∷ (minus 2) ∷ (minus 2) ∷ (minus 2) ∷ (minus 2) ∷ (pos 0) ∷ (pos 20) ∷ (pos 0) ∷ (pos 17) ∷ (pos 1) ∷ (minus 1) ∷ (minus 1) ∷ (minus 2) ∷ (pos 0) ∷ (pos 0) ∷ [])
    (returned 0 0 0 ((pos 7) ∷ (pos 7) ∷ []) (7 ∷ []) []) ∷
    U (R (minus 467) (minus 195) (minus 48) (pos 499)) 0 256 ((pos 949) ∷ (pos 168) ∷ (pos 949) ∷ (pos 219) ∷ (pos 847) ∷ (pos 219) ∷ [])
    (returned 0 0 0 ((pos 7) ∷ (pos 7) ∷ []) (7 ∷ []) []) ∷
    C (R (pos 311) (pos 39) (pos 753) (pos 721)) 256 0 ((minus 210) ∷ (pos 829) ∷ (pos 1106) ∷ (pos 829) ∷ (pos 1106) ∷ (pos 171) ∷ [])
    (returned 1 4 0 ((pos 753) ∷ (pos 721) ∷ (pos 753) ∷ (pos 347) ∷ (pos 311) ∷ (pos 568) ∷ (pos 311) ∷ (pos 721) ∷ (pos 7) ∷ (pos 7) ∷ []) (4 ∷ 7 ∷ []) ((pos 753) ∷ (pos 347) ∷ (pos 311) ∷ (pos 568) ∷ (pos 311) ∷ (pos 721) ∷ (pos 753) ∷ (pos 721) ∷ [])) ∷
    L (R (pos 0) (pos 0) (pos 12) (pos 3)) 6 ((minus 1) ∷ (pos 2) ∷ (pos 12) ∷ (pos 3) ∷ (pos 14) ∷ (pos 3) ∷ (pos 13) ∷ (minus 2) ∷ (pos 0) ∷ (pos 0) ∷ (pos 0) ∷ (minus 2) ∷ (minus 1) ∷ (pos 5) ∷ (pos 12) ∷ (minus 2) ∷ (pos 0) ∷ (pos 1) ∷ [])
    (refusal 8 []) ∷
    L (R (pos 70) (pos 434) (pos 210) (pos 681)) 13 ((pos 242) ∷ (pos 616) ∷ (pos 242) ∷ (pos 441) ∷ (pos 67) ∷ (pos 441) ∷ (pos 67) ∷ (pos 591) ∷ (pos 217) ∷ (pos 591) ∷ (pos 217) ∷ (pos 466) ∷ (pos 92) ∷ (pos 466) ∷ (pos 92) ∷ (pos 566) ∷ (pos 192) ∷ (pos 566) ∷ (pos 192) ∷ (pos 491) ∷ (pos 117) ∷ (pos 491) ∷ (pos 117) ∷ (pos 541) ∷ (pos 167) ∷ (pos 541) ∷ (pos 167) ∷ (pos 516) ∷ [])
    (returned 3 13 0 ((pos 210) ∷ (pos 441) ∷ (pos 70) ∷ (pos 441) ∷ (pos 70) ∷ (pos 591) ∷ (pos 210) ∷ (pos 591) ∷ (pos 210) ∷ (pos 466) ∷ (pos 92) ∷ (pos 466) ∷ (pos 92) ∷ (pos 566) ∷ (pos 192) ∷ (pos 566) ∷ (pos 192) ∷ (pos 491) ∷ (pos 117) ∷ (pos 491) ∷ (pos 117) ∷ (pos 541) ∷ (pos 167) ∷ (pos 541) ∷ (pos 167) ∷ (pos 516) ∷ (pos 7) ∷ (pos 7) ∷ []) (2 ∷ 2 ∷ 9 ∷ 7 ∷ []) []) ∷
    C (R (pos 0) (pos 0) (pos 1) (pos 6)) 256 256 ((pos 0) ∷ (pos 7) ∷ (pos 0) ∷ (pos 7) ∷ (pos 2) ∷ (minus 1) ∷ (pos 0) ∷ (pos 7) ∷ [])
    (returned 0 0 0 ((pos 7) ∷ (pos 7) ∷ []) (7 ∷ []) ((pos 0) ∷ (pos 6) ∷ (pos 1) ∷ (pos 3) ∷ (pos 0) ∷ (pos 6) ∷ [])) ∷
    U (R (pos 0) (pos 0) (pos 14) (pos 2)) 0 256 ((minus 1) ∷ (pos 2) ∷ (pos 0) ∷ (pos 2) ∷ [])
    (returned 0 0 0 ((pos 7) ∷ (pos 7) ∷ []) (7 ∷ []) []) ∷
    []

drawings4 : map shown table4 ≡ map (λ c. c.expected) table4
unfolding at_end get_segment_intersection edge_intersection side_intersection get_intersection start_locs_are_clockwise at_vertex scan_pass scan_answer scan_loop point_in_polygon path1_contains_path2 get_bounds_path get_location determinant numerator fraction working_of crossing_of point_at intersection cross_product_sign is_collinear cross_product_three_points cross_product_is_negative is_clockwise_dir set_owner set_edge set_next set_prev set_results set_edge_list ring unlink add_to_edge struck uncouple_edge own_from set_new_owner drop_collinear_pass drop_collinear assign_side assign_edges check_ring check_from check_edges enter_all arena_of straighten_pass straighten points_from get_path get_paths clip_walked execute sheet_refusal early_refusal delivered answered clip_closed clip_open filled_part is_present first_off_edge line_through line_cross line_from line_passes line_walk_from walk_open pieces longer_than_one execute_lines seek relink regroup keep_one keep_both keep_each settle rejoin one_turn turns_from tidy_edges add add_all push_start_loc next_side next_outside add_corner_prev_curr add_corner_loc add_corners push_start_locs next_inside get_next_location second_search remain_outside enter pass_to pass_through leave cross_boundary add_round retrace close_outline last_off pass_from passes surround after_while walk_from walk_closed walked_outline lib.Ieee.add of_int sub mul div neg to_signed eq lt le
drawings4 = refl
