-- Drawings with the Rust's answers: what the entries answer and fill, and the walked outline.
-- Made by tools/tables.py from rows of compare's `drawings`. Assumes nothing.
use Rattle.std.specs.Prelude.{◌≡◌, refl, List, [], ◌∷◌, map, pos}
use Rattle.drawings.specs.Cases.{Case, C, U, L, R, minus, returned, refusal, shown}
use Rattle.plane.specs.Intersection.{at_end, get_segment_intersection, edge_intersection, side_intersection, get_intersection}
use Rattle.plane.specs.Locations.{start_locs_are_clockwise}
use Rattle.plane.specs.Polygon.{at_vertex, scan_pass, scan_answer, scan_loop, point_in_polygon, path1_contains_path2}
use Rattle.plane.specs.Rectangle.{get_bounds_path, get_location}
use Rattle.plane.specs.Segment.{determinant, numerator, fraction, working_of, crossing_of, point_at, intersection}
use Rattle.plane.specs.Signs.{cross_product_sign, is_collinear, cross_product_three_points, cross_product_is_negative, is_clockwise_dir}
use Rattle.reference.specs.Arena.{set_owner, set_edge, set_next, set_prev, set_results, set_edge_list, ring, unlink, add_to_edge, struck, uncouple_edge, own_from, set_new_owner, drop_collinear_pass, drop_collinear, assign_side, assign_edges, check_ring, check_from, check_edges}
use Rattle.reference.specs.Clip.{enter_all, arena_of, straighten_pass, straighten, points_from, get_path, get_paths, clip_walked, execute}
use Rattle.reference.specs.Entry.{sheet_refusal, early_refusal, delivered, answered, clip_closed, clip_open, filled_part, is_present}
use Rattle.reference.specs.Lines.{first_off_edge, line_through, line_cross, line_from, line_passes, line_walk_from, walk_open, pieces, longer_than_one, execute_lines}
use Rattle.reference.specs.Tidy.{seek, relink, regroup, keep_one, keep_both, keep_each, settle, rejoin, one_turn, turns_from, tidy_edges}
use Rattle.reference.specs.Walk.{add, add_all, push_start_loc, next_side, next_outside, add_corner_prev_curr, add_corner_loc, add_corners, push_start_locs, next_inside, get_next_location, second_search, remain_outside, enter, pass_to, pass_through, leave, cross_boundary, add_round, retrace, close_outline, last_off, pass_from, passes, surround, after_while, walk_from, walk_closed, walked_outline}
use lib.Ieee.{of_int, sub, mul, div, neg, to_signed, eq, lt, le}

abbrev table1 : List Case
table1 =
    U (R (pos 2) (pos 1) (pos 4) (pos 2)) 256 256 ((pos 2) ∷ (pos 2) ∷ (pos 0) ∷ (pos 0) ∷ [])
    (returned 0 0 0 ((pos 7) ∷ (pos 7) ∷ []) (7 ∷ []) []) ∷
    U (R (pos 0) (pos 0) (pos 2) (pos 8)) 0 256 ((pos 1) ∷ (pos 0) ∷ (pos 0) ∷ (pos 0) ∷ (pos 0) ∷ (pos 7) ∷ [])
    (returned 1 3 0 ((pos 1) ∷ (pos 0) ∷ (pos 0) ∷ (pos 0) ∷ (pos 0) ∷ (pos 7) ∷ (pos 7) ∷ (pos 7) ∷ []) (3 ∷ 7 ∷ []) []) ∷
    L (R (minus 276) (pos 127) (minus 42) (pos 814)) 256 ((pos 683) ∷ (pos 638) ∷ (pos 151) ∷ (minus 3) ∷ (minus 550) ∷ (pos 280) ∷ (minus 497) ∷ (pos 957) ∷ (pos 90) ∷ (pos 1092) ∷ (pos 355) ∷ (pos 638) ∷ (pos 49) ∷ (pos 309) ∷ (minus 284) ∷ (pos 474) ∷ (minus 232) ∷ (pos 764) ∷ (minus 12) ∷ (pos 780) ∷ (pos 27) ∷ (pos 638) ∷ [])
    (returned 3 7 0 ((minus 171) ∷ (pos 127) ∷ (minus 276) ∷ (pos 169) ∷ (minus 42) ∷ (pos 354) ∷ (minus 276) ∷ (pos 470) ∷ (minus 276) ∷ (pos 518) ∷ (minus 232) ∷ (pos 764) ∷ (minus 42) ∷ (pos 777) ∷ (pos 7) ∷ (pos 7) ∷ []) (2 ∷ 2 ∷ 3 ∷ 7 ∷ []) []) ∷
    C (R (pos 16777217) (pos 0) (pos 22299399) (pos 20398626)) 256 256 ((pos 16777217) ∷ (pos 20398625) ∷ (pos 16777217) ∷ (pos 20398625) ∷ (pos 16777218) ∷ (pos 10199313) ∷ (pos 22299400) ∷ (pos 0) ∷ (pos 22299400) ∷ (pos 0) ∷ (pos 33554432) ∷ (pos 26804536) ∷ (minus 33554432) ∷ (minus 33554432) ∷ (pos 6847771) ∷ (minus 6095221) ∷ (minus 17966613) ∷ (pos 27715402) ∷ (minus 26974071) ∷ (minus 16733095) ∷ (minus 26974071) ∷ (minus 16733095) ∷ (pos 33554432) ∷ (minus 15044294) ∷ (pos 16777217) ∷ (pos 20398625) ∷ [])
    (returned 1 8 0 ((pos 22299399) ∷ (pos 0) ∷ (pos 22299399) ∷ (pos 8732669) ∷ (pos 16777217) ∷ (pos 20398625) ∷ (pos 16777218) ∷ (pos 10199313) ∷ (pos 22299399) ∷ (pos 1) ∷ (pos 22299399) ∷ (pos 16681548) ∷ (pos 16777217) ∷ (pos 11714794) ∷ (pos 16777217) ∷ (pos 0) ∷ (pos 7) ∷ (pos 7) ∷ []) (8 ∷ 7 ∷ []) ((pos 16777217) ∷ (pos 20398625) ∷ (pos 16777218) ∷ (pos 10199313) ∷ (pos 22299399) ∷ (pos 1) ∷ (pos 22299399) ∷ (pos 16681548) ∷ (pos 16777217) ∷ (pos 11714794) ∷ (pos 16777217) ∷ (pos 0) ∷ (pos 22299399) ∷ (pos 0) ∷ (pos 22299399) ∷ (pos 8732669) ∷ (pos 16777217) ∷ (pos 20398625) ∷ [])) ∷
    L (R (minus 164) (pos 282) (pos 455) (pos 601)) 10 ((pos 572) ∷ (pos 458) ∷ (pos 409) ∷ (pos 681) ∷ (pos 148) ∷ (pos 595) ∷ (pos 148) ∷ (pos 321) ∷ (pos 409) ∷ (pos 235) ∷ (pos 572) ∷ (pos 458) ∷ (pos 409) ∷ (pos 681) ∷ (pos 148) ∷ (pos 595) ∷ (pos 148) ∷ (pos 321) ∷ (pos 409) ∷ (pos 235) ∷ [])
    (returned 3 10 0 ((pos 166) ∷ (pos 601) ∷ (pos 148) ∷ (pos 595) ∷ (pos 148) ∷ (pos 321) ∷ (pos 266) ∷ (pos 282) ∷ (pos 443) ∷ (pos 282) ∷ (pos 455) ∷ (pos 297) ∷ (pos 166) ∷ (pos 601) ∷ (pos 148) ∷ (pos 595) ∷ (pos 148) ∷ (pos 321) ∷ (pos 266) ∷ (pos 282) ∷ (pos 7) ∷ (pos 7) ∷ []) (4 ∷ 2 ∷ 4 ∷ 7 ∷ []) []) ∷
    C (R (pos 0) (pos 0) (pos 6) (pos 9)) 5 256 ((pos 8) ∷ (pos 9) ∷ (pos 7) ∷ (pos 1) ∷ (pos 0) ∷ (pos 8) ∷ (pos 6) ∷ (minus 2) ∷ [])
    (returned 1 4 0 ((pos 4) ∷ (pos 0) ∷ (pos 6) ∷ (pos 0) ∷ (pos 6) ∷ (pos 2) ∷ (pos 0) ∷ (pos 8) ∷ (pos 7) ∷ (pos 7) ∷ []) (4 ∷ 7 ∷ []) ((pos 6) ∷ (pos 2) ∷ (pos 0) ∷ (pos 8) ∷ (pos 4) ∷ (pos 0) ∷ (pos 6) ∷ (pos 0) ∷ (pos 6) ∷ (pos 9) ∷ [])) ∷
    U (R (pos 160) (pos 493) (pos 379) (pos 898)) 256 256 ((pos 226) ∷ (pos 669) ∷ (pos 226) ∷ (pos 680) ∷ (pos 204) ∷ (pos 680) ∷ (pos 204) ∷ (pos 658) ∷ (pos 237) ∷ (pos 658) ∷ (pos 237) ∷ (pos 691) ∷ (pos 193) ∷ (pos 691) ∷ (pos 193) ∷ (pos 647) ∷ (pos 248) ∷ (pos 647) ∷ (pos 248) ∷ (pos 702) ∷ (pos 182) ∷ (pos 702) ∷ (pos 182) ∷ (pos 636) ∷ (pos 259) ∷ (pos 636) ∷ (pos 259) ∷ (pos 713) ∷ [])
    (returned 1 14 0 ((pos 226) ∷ (pos 669) ∷ (pos 226) ∷ (pos 680) ∷ (pos 204) ∷ (pos 680) ∷ (pos 204) ∷ (pos 658) ∷ (pos 237) ∷ (pos 658) ∷ (pos 237) ∷ (pos 691) ∷ (pos 193) ∷ (pos 691) ∷ (pos 193) ∷ (pos 647) ∷ (pos 248) ∷ (pos 647) ∷ (pos 248) ∷ (pos 702) ∷ (pos 182) ∷ (pos 702) ∷ (pos 182) ∷ (pos 636) ∷ (pos 259) ∷ (pos 636) ∷ (pos 259) ∷ (pos 713) ∷ (pos 7) ∷ (pos 7) ∷ []) (14 ∷ 7 ∷ []) []) ∷
    L (R (pos 306) (minus 114) (pos 975) (pos 331)) 256 ((minus 653) ∷ (pos 330) ∷ (minus 836) ∷ (pos 976) ∷ (minus 565) ∷ (minus 48) ∷ (pos 166) ∷ (minus 412) ∷ (pos 112) ∷ (minus 864) ∷ (pos 666) ∷ (pos 202) ∷ (minus 381) ∷ (pos 681) ∷ (pos 706) ∷ (minus 646) ∷ (minus 173) ∷ (pos 976) ∷ (minus 221) ∷ (pos 872) ∷ (pos 793) ∷ (pos 465) ∷ (minus 546) ∷ (pos 432) ∷ (pos 678) ∷ (minus 1) ∷ [])
    (returned 3 7 0 ((pos 501) ∷ (minus 114) ∷ (pos 666) ∷ (pos 202) ∷ (pos 384) ∷ (pos 331) ∷ (pos 417) ∷ (minus 114) ∷ (pos 305) ∷ (pos 92) ∷ (pos 306) ∷ (pos 130) ∷ (pos 678) ∷ (minus 1) ∷ (pos 7) ∷ (pos 7) ∷ []) (3 ∷ 2 ∷ 2 ∷ 7 ∷ []) []) ∷
    C (R (pos 0) (pos 0) (pos 4) (pos 4)) 256 256 ((pos 0) ∷ (pos 2) ∷ (pos 2) ∷ (pos 4) ∷ (pos 4) ∷ (pos 6) ∷ (pos 2) ∷ (pos 4) ∷ (pos 4) ∷ (pos 4) ∷ (pos 6) ∷ (minus 2) ∷ (pos 6) ∷ (pos 4) ∷ (pos 4) ∷ (pos 2) ∷ [])
    (returned 1 4 0 ((pos 4) ∷ (pos 4) ∷ (pos 4) ∷ (pos 2) ∷ (pos 0) ∷ (pos 2) ∷ (pos 2) ∷ (pos 4) ∷ (pos 7) ∷ (pos 7) ∷ []) (4 ∷ 7 ∷ []) ((pos 4) ∷ (pos 2) ∷ (pos 0) ∷ (pos 2) ∷ (pos 2) ∷ (pos 4) ∷ (pos 4) ∷ (pos 4) ∷ [])) ∷
    C (R (pos 0) (pos 0) (pos 3) (pos 5)) 256 256 ((pos 0) ∷ (pos 7) ∷ (pos 2) ∷ (pos 0) ∷ (minus 3) ∷ (pos 0) ∷ (pos 4) ∷ (minus 2) ∷ (pos 3) ∷ (pos 7) ∷ [])
    (returned 1 4 0 ((pos 3) ∷ (pos 5) ∷ (pos 0) ∷ (pos 5) ∷ (pos 2) ∷ (pos 0) ∷ (pos 3) ∷ (pos 0) ∷ (pos 7) ∷ (pos 7) ∷ []) (4 ∷ 7 ∷ []) ((pos 0) ∷ (pos 5) ∷ (pos 2) ∷ (pos 0) ∷ (pos 3) ∷ (pos 0) ∷ (pos 3) ∷ (pos 5) ∷ [])) ∷
    L (R (pos 1) (pos 0) (pos 2) (pos 1)) 2 ((pos 2) ∷ (pos 2) ∷ (minus 1) ∷ (pos 5) ∷ (pos 3) ∷ (pos 0) ∷ (pos 1) ∷ (pos 0) ∷ (pos 3) ∷ (pos 2) ∷ (pos 4) ∷ (minus 1) ∷ (pos 2) ∷ (pos 3) ∷ (pos 4) ∷ (pos 0) ∷ (pos 0) ∷ (pos 5) ∷ (pos 5) ∷ (pos 3) ∷ (pos 5) ∷ (pos 4) ∷ [])
    (returned 1 2 0 ((pos 1) ∷ (pos 0) ∷ (pos 2) ∷ (pos 1) ∷ (pos 7) ∷ (pos 7) ∷ []) (2 ∷ 7 ∷ []) []) ∷
    C (R (pos 0) (pos 0) (pos 7) (pos 6)) 3 256 ((pos 0) ∷ (pos 3) ∷ (pos 0) ∷ (pos 1) ∷ (pos 7) ∷ (pos 1) ∷ (pos 9) ∷ (pos 1) ∷ (pos 0) ∷ (pos 1) ∷ (pos 0) ∷ (pos 0) ∷ [])
    (returned 0 0 0 ((pos 7) ∷ (pos 7) ∷ []) (7 ∷ []) ((pos 0) ∷ (pos 1) ∷ (pos 7) ∷ (pos 1) ∷ (pos 0) ∷ (pos 1) ∷ [])) ∷
    L (R (minus 28) (minus 417) (pos 261) (pos 93)) 256 ((minus 425) ∷ (pos 525) ∷ (minus 168) ∷ (pos 268) ∷ (minus 262) ∷ (pos 620) ∷ (minus 356) ∷ (pos 268) ∷ (minus 99) ∷ (pos 525) ∷ (minus 451) ∷ (pos 431) ∷ (minus 99) ∷ (pos 337) ∷ (minus 356) ∷ (pos 594) ∷ (minus 262) ∷ (pos 242) ∷ (minus 168) ∷ (pos 594) ∷ (minus 425) ∷ (pos 337) ∷ (minus 73) ∷ (pos 431) ∷ [])
    (returned 0 0 0 ((pos 7) ∷ (pos 7) ∷ []) (7 ∷ []) []) ∷
    U (R (pos 37) (minus 92) (pos 166) (pos 199)) 256 256 ((pos 443) ∷ (pos 135) ∷ (pos 443) ∷ (pos 175) ∷ (pos 363) ∷ (pos 175) ∷ (pos 363) ∷ (pos 95) ∷ (pos 483) ∷ (pos 95) ∷ (pos 483) ∷ (pos 215) ∷ (pos 323) ∷ (pos 215) ∷ (pos 323) ∷ (pos 55) ∷ (pos 523) ∷ (pos 55) ∷ (pos 523) ∷ (pos 255) ∷ (pos 283) ∷ (pos 255) ∷ (pos 283) ∷ (pos 15) ∷ (pos 563) ∷ (pos 15) ∷ (pos 563) ∷ (pos 295) ∷ [])
    (returned 0 0 0 ((pos 7) ∷ (pos 7) ∷ []) (7 ∷ []) []) ∷
    L (R (pos 0) (pos 0) (pos 60) (pos 60)) 256 ((minus 3) ∷ (pos 0) ∷ (pos 1) ∷ (minus 7) ∷ (minus 5) ∷ (pos 5) ∷ (minus 6) ∷ (pos 0) ∷ (minus 4) ∷ (pos 0) ∷ (pos 52) ∷ (minus 9) ∷ (pos 54) ∷ (minus 5) ∷ (pos 58) ∷ (pos 3) ∷ (pos 60) ∷ (pos 0) ∷ (pos 64) ∷ (pos 4) ∷ (pos 66) ∷ (pos 0) ∷ (pos 65) ∷ (pos 8) ∷ (pos 63) ∷ (minus 4) ∷ (pos 62) ∷ (minus 7) ∷ [])
    (returned 1 3 0 ((pos 56) ∷ (pos 0) ∷ (pos 58) ∷ (pos 3) ∷ (pos 60) ∷ (pos 0) ∷ (pos 7) ∷ (pos 7) ∷ []) (3 ∷ 7 ∷ []) []) ∷
    []

drawings1 : map shown table1 ≡ map (λ c. c.expected) table1
unfolding at_end get_segment_intersection edge_intersection side_intersection get_intersection start_locs_are_clockwise at_vertex scan_pass scan_answer scan_loop point_in_polygon path1_contains_path2 get_bounds_path get_location determinant numerator fraction working_of crossing_of point_at intersection cross_product_sign is_collinear cross_product_three_points cross_product_is_negative is_clockwise_dir set_owner set_edge set_next set_prev set_results set_edge_list ring unlink add_to_edge struck uncouple_edge own_from set_new_owner drop_collinear_pass drop_collinear assign_side assign_edges check_ring check_from check_edges enter_all arena_of straighten_pass straighten points_from get_path get_paths clip_walked execute sheet_refusal early_refusal delivered answered clip_closed clip_open filled_part is_present first_off_edge line_through line_cross line_from line_passes line_walk_from walk_open pieces longer_than_one execute_lines seek relink regroup keep_one keep_both keep_each settle rejoin one_turn turns_from tidy_edges add add_all push_start_loc next_side next_outside add_corner_prev_curr add_corner_loc add_corners push_start_locs next_inside get_next_location second_search remain_outside enter pass_to pass_through leave cross_boundary add_round retrace close_outline last_off pass_from passes surround after_while walk_from walk_closed walked_outline lib.Ieee.add of_int sub mul div neg to_signed eq lt le
drawings1 = refl

abbrev table2 : List Case
table2 =
    C (R (minus 3876000) (minus 948000) (pos 648000) (pos 4968000)) 256 256 ((minus 11800280) ∷ (pos 9294305) ∷ (minus 453967) ∷ (pos 11877942) ∷ (pos 4598758) ∷ (pos 3123883) ∷ (minus 1260242) ∷ (minus 3160790) ∷ (minus 7603511) ∷ (pos 4324) ∷ (minus 6554318) ∷ (pos 5480727) ∷ (minus 2469656) ∷ (pos 5704477) ∷ (minus 1896242) ∷ (pos 3123883) ∷ [])
    (returned 1 8 0 ((minus 1896242) ∷ (pos 3123883) ∷ (minus 3876000) ∷ (pos 4357313) ∷ (minus 3876000) ∷ (pos 4968000) ∷ (pos 648000) ∷ (pos 4968000) ∷ (pos 648000) ∷ (minus 948000) ∷ (minus 3876000) ∷ (minus 948000) ∷ (minus 3876000) ∷ (pos 4968000) ∷ (minus 2306009) ∷ (pos 4968000) ∷ (pos 7) ∷ (pos 7) ∷ []) (8 ∷ 7 ∷ []) ((minus 3876000) ∷ (pos 4357313) ∷ (minus 3876000) ∷ (pos 4968000) ∷ (pos 648000) ∷ (pos 4968000) ∷ (pos 648000) ∷ (minus 948000) ∷ (minus 3876000) ∷ (minus 948000) ∷ (minus 3876000) ∷ (pos 4968000) ∷ (minus 2306009) ∷ (pos 4968000) ∷ (minus 1896242) ∷ (pos 3123883) ∷ [])) ∷
    L (R (pos 0) (pos 0) (pos 9) (pos 4)) 256 ((pos 0) ∷ (pos 6) ∷ (minus 1) ∷ (minus 3) ∷ (minus 1) ∷ (minus 3) ∷ (pos 1) ∷ (pos 4) ∷ (pos 9) ∷ (pos 0) ∷ (pos 9) ∷ (pos 6) ∷ (pos 9) ∷ (pos 6) ∷ (pos 4) ∷ (pos 3) ∷ (pos 4) ∷ (pos 3) ∷ [])
    (returned 4 8 0 ((pos 0) ∷ (pos 0) ∷ (pos 1) ∷ (pos 4) ∷ (pos 1) ∷ (pos 4) ∷ (pos 9) ∷ (pos 0) ∷ (pos 9) ∷ (pos 0) ∷ (pos 9) ∷ (pos 4) ∷ (pos 5) ∷ (pos 4) ∷ (pos 4) ∷ (pos 3) ∷ (pos 7) ∷ (pos 7) ∷ []) (2 ∷ 2 ∷ 2 ∷ 2 ∷ 7 ∷ []) []) ∷
    C (R (minus 121) (minus 66) (pos 481) (minus 14)) 256 256 ((pos 1216) ∷ (minus 59) ∷ (minus 420) ∷ (minus 59) ∷ (pos 1216) ∷ (minus 59) ∷ (minus 420) ∷ (minus 59) ∷ (pos 1216) ∷ (minus 59) ∷ (minus 420) ∷ (minus 59) ∷ [])
    (returned 0 0 0 ((pos 7) ∷ (pos 7) ∷ []) (7 ∷ []) ((minus 121) ∷ (minus 59) ∷ (pos 481) ∷ (minus 59) ∷ (minus 121) ∷ (minus 59) ∷ (pos 481) ∷ (minus 59) ∷ (minus 121) ∷ (minus 59) ∷ (pos 481) ∷ (minus 59) ∷ (minus 121) ∷ (minus 59) ∷ [])) ∷
    U (R (pos 0) (pos 2) (pos 2) (pos 3)) 256 256 ((pos 1) ∷ (pos 5) ∷ [])
    (returned 0 0 0 ((pos 7) ∷ (pos 7) ∷ []) (7 ∷ []) []) ∷
    L (R (pos 0) (pos 0) (pos 1) (pos 3)) 256 ((pos 2) ∷ (pos 1) ∷ (pos 1) ∷ (pos 3) ∷ (pos 1) ∷ (pos 3) ∷ (pos 0) ∷ (pos 3) ∷ (pos 1) ∷ (pos 0) ∷ (pos 2) ∷ (pos 4) ∷ [])
    (returned 2 4 0 ((pos 1) ∷ (pos 3) ∷ (pos 0) ∷ (pos 3) ∷ (pos 0) ∷ (pos 3) ∷ (pos 1) ∷ (pos 0) ∷ (pos 7) ∷ (pos 7) ∷ []) (2 ∷ 2 ∷ 7 ∷ []) []) ∷
    U (R (minus 467) (pos 101) (minus 298) (pos 118)) 256 0 ((pos 907) ∷ (minus 471) ∷ (pos 907) ∷ (minus 430) ∷ (pos 825) ∷ (minus 430) ∷ (pos 825) ∷ (minus 512) ∷ (pos 948) ∷ (minus 512) ∷ (pos 948) ∷ (minus 512) ∷ (pos 948) ∷ (minus 389) ∷ (pos 784) ∷ (minus 389) ∷ (pos 784) ∷ (minus 553) ∷ [])
    (returned 0 0 0 ((pos 7) ∷ (pos 7) ∷ []) (7 ∷ []) []) ∷
    L (R (minus 33554431) (pos 16777217) (minus 27885827) (pos 23686837)) 256 ((pos 497033) ∷ (minus 26120935) ∷ (minus 23054102) ∷ (minus 15306481) ∷ (minus 33554431) ∷ (pos 23686836) ∷ (minus 33554431) ∷ (pos 16777218) ∷ (pos 15427460) ∷ (pos 12749075) ∷ (minus 33554431) ∷ (pos 16777218) ∷ (minus 33554432) ∷ (pos 16777216) ∷ (pos 4371343) ∷ (pos 13915912) ∷ (minus 33554432) ∷ (pos 29988736) ∷ [])
    (returned 3 6 0 ((minus 31693771) ∷ (pos 16777217) ∷ (minus 33554431) ∷ (pos 23686836) ∷ (minus 33554431) ∷ (pos 16777218) ∷ (minus 33554418) ∷ (pos 16777217) ∷ (minus 33554418) ∷ (pos 16777217) ∷ (minus 33554431) ∷ (pos 16777218) ∷ (pos 7) ∷ (pos 7) ∷ []) (2 ∷ 2 ∷ 2 ∷ 7 ∷ []) []) ∷
    C (R (pos 0) (pos 0) (pos 10) (pos 10)) 256 256 ((pos 5) ∷ (pos 11) ∷ (minus 2) ∷ (pos 5) ∷ (pos 5) ∷ (pos 11) ∷ (pos 0) ∷ (pos 12) ∷ (pos 10) ∷ (pos 0) ∷ (pos 0) ∷ (pos 12) ∷ (pos 10) ∷ (pos 0) ∷ (pos 0) ∷ (pos 0) ∷ [])
    (returned 1 4 0 ((pos 1) ∷ (pos 10) ∷ (pos 10) ∷ (pos 0) ∷ (pos 0) ∷ (pos 0) ∷ (pos 4) ∷ (pos 10) ∷ (pos 7) ∷ (pos 7) ∷ []) (4 ∷ 7 ∷ []) ((pos 0) ∷ (pos 0) ∷ (pos 4) ∷ (pos 10) ∷ (pos 3) ∷ (pos 10) ∷ (pos 0) ∷ (pos 6) ∷ (pos 3) ∷ (pos 10) ∷ (pos 1) ∷ (pos 10) ∷ (pos 10) ∷ (pos 0) ∷ (pos 1) ∷ (pos 10) ∷ (pos 10) ∷ (pos 0) ∷ (pos 0) ∷ (pos 0) ∷ [])) ∷
    C (R (minus 33554432) (pos 0) (pos 21712215) (pos 17751613)) 256 256 ((minus 33554431) ∷ (pos 28558330) ∷ (pos 3970210) ∷ (pos 20426278) ∷ (minus 21280106) ∷ (pos 2232778) ∷ (minus 33554432) ∷ (pos 17751615) ∷ (pos 17839134) ∷ (pos 32973939) ∷ (minus 32747874) ∷ (pos 18795417) ∷ (pos 21009570) ∷ (pos 5465857) ∷ (pos 20870246) ∷ (pos 1678054) ∷ [])
    (returned 1 7 0 ((pos 20870246) ∷ (pos 1678054) ∷ (minus 11673997) ∷ (pos 17751613) ∷ (pos 258107) ∷ (pos 17751613) ∷ (minus 21280106) ∷ (pos 2232778) ∷ (minus 33554430) ∷ (pos 17751613) ∷ (minus 28538265) ∷ (pos 17751613) ∷ (pos 21009570) ∷ (pos 5465857) ∷ (pos 7) ∷ (pos 7) ∷ []) (7 ∷ 7 ∷ []) ((minus 11673997) ∷ (pos 17751613) ∷ (pos 258107) ∷ (pos 17751613) ∷ (minus 21280106) ∷ (pos 2232778) ∷ (minus 33554430) ∷ (pos 17751613) ∷ (minus 28538265) ∷ (pos 17751613) ∷ (pos 21009570) ∷ (pos 5465857) ∷ (pos 20870246) ∷ (pos 1678054) ∷ [])) ∷
    C (R (pos 0) (pos 0) (pos 60) (pos 60)) 256 256 ((pos 1) ∷ (pos 69) ∷ (pos 55) ∷ (pos 58) ∷ (pos 53) ∷ (pos 57) ∷ (pos 52) ∷ (pos 60) ∷ (pos 54) ∷ (pos 64) ∷ (pos 56) ∷ (pos 60) ∷ [])
    (returned 1 4 0 ((pos 52) ∷ (pos 60) ∷ (pos 45) ∷ (pos 60) ∷ (pos 55) ∷ (pos 58) ∷ (pos 53) ∷ (pos 57) ∷ (pos 7) ∷ (pos 7) ∷ []) (4 ∷ 7 ∷ []) ((pos 45) ∷ (pos 60) ∷ (pos 55) ∷ (pos 58) ∷ (pos 53) ∷ (pos 57) ∷ (pos 52) ∷ (pos 60) ∷ [])) ∷
    L (R (pos 0) (pos 0) (pos 0) (pos 11)) 256 ((pos 0) ∷ (minus 1) ∷ (pos 1) ∷ (minus 1) ∷ [])
    (returned 0 0 0 ((pos 7) ∷ (pos 7) ∷ []) (7 ∷ []) []) ∷
    C (R (pos 228) (minus 451) (pos 775) (minus 333)) 256 256 ((pos 601) ∷ (minus 656) ∷ (pos 601) ∷ (minus 518) ∷ (pos 325) ∷ (minus 518) ∷ (pos 325) ∷ (minus 794) ∷ (pos 739) ∷ (minus 794) ∷ (pos 739) ∷ (minus 380) ∷ (pos 187) ∷ (minus 380) ∷ (pos 187) ∷ (minus 932) ∷ [])
    (returned 1 4 0 ((pos 228) ∷ (minus 451) ∷ (pos 739) ∷ (minus 451) ∷ (pos 739) ∷ (minus 380) ∷ (pos 228) ∷ (minus 380) ∷ (pos 7) ∷ (pos 7) ∷ []) (4 ∷ 7 ∷ []) ((pos 739) ∷ (minus 451) ∷ (pos 739) ∷ (minus 380) ∷ (pos 228) ∷ (minus 380) ∷ (pos 228) ∷ (minus 451) ∷ [])) ∷
    L (R (pos 464) (minus 264) (pos 928) (pos 178)) 256 ((pos 321) ∷ (pos 618) ∷ (pos 321) ∷ (pos 728) ∷ (pos 101) ∷ (pos 728) ∷ (pos 101) ∷ (pos 728) ∷ (pos 101) ∷ (pos 508) ∷ (pos 431) ∷ (pos 508) ∷ (pos 431) ∷ (pos 838) ∷ (pos 431) ∷ (pos 838) ∷ (minus 9) ∷ (pos 838) ∷ (minus 9) ∷ (pos 838) ∷ (minus 9) ∷ (pos 398) ∷ (pos 541) ∷ (pos 398) ∷ (pos 541) ∷ (pos 948) ∷ (minus 119) ∷ (pos 948) ∷ (minus 119) ∷ (pos 948) ∷ (minus 119) ∷ (pos 288) ∷ (pos 651) ∷ (pos 288) ∷ (pos 651) ∷ (pos 1058) ∷ (pos 321) ∷ (pos 618) ∷ [])
    (returned 0 0 0 ((pos 7) ∷ (pos 7) ∷ []) (7 ∷ []) []) ∷
    C (R (minus 271) (pos 417) (minus 256) (pos 796)) 8 256 ((pos 419) ∷ (pos 781) ∷ (pos 419) ∷ (pos 781) ∷ (minus 1141) ∷ (pos 275) ∷ (minus 177) ∷ (pos 1601) ∷ (minus 177) ∷ (minus 39) ∷ (minus 1141) ∷ (pos 1287) ∷ (pos 419) ∷ (pos 781) ∷ [])
    (returned 1 8 0 ((minus 256) ∷ (pos 796) ∷ (minus 256) ∷ (pos 562) ∷ (minus 271) ∷ (pos 557) ∷ (minus 271) ∷ (pos 796) ∷ (minus 256) ∷ (pos 796) ∷ (minus 256) ∷ (pos 417) ∷ (minus 271) ∷ (pos 417) ∷ (minus 271) ∷ (pos 796) ∷ (pos 7) ∷ (pos 7) ∷ []) (8 ∷ 7 ∷ []) ((minus 256) ∷ (pos 562) ∷ (minus 271) ∷ (pos 557) ∷ (minus 271) ∷ (pos 796) ∷ (minus 256) ∷ (pos 796) ∷ (minus 256) ∷ (pos 417) ∷ (minus 271) ∷ (pos 417) ∷ (minus 271) ∷ (pos 796) ∷ (minus 256) ∷ (pos 796) ∷ [])) ∷
    C (R (minus 460) (pos 1) (minus 268) (pos 271)) 256 256 ((pos 415) ∷ (minus 299) ∷ (minus 667) ∷ (pos 210) ∷ (pos 233) ∷ (pos 745) ∷ (pos 771) ∷ (minus 289) ∷ (minus 238) ∷ (minus 919) ∷ (pos 133) ∷ (minus 72) ∷ (pos 256) ∷ (pos 788) ∷ (pos 893) ∷ (minus 283) ∷ (minus 140) ∷ (minus 770) ∷ (pos 660) ∷ (minus 807) ∷ (pos 243) ∷ (pos 307) ∷ (pos 232) ∷ (pos 929) ∷ (pos 230) ∷ (pos 344) ∷ [])
    (returned 1 4 0 ((minus 268) ∷ (pos 271) ∷ (minus 268) ∷ (pos 22) ∷ (minus 460) ∷ (pos 112) ∷ (minus 460) ∷ (pos 271) ∷ (pos 7) ∷ (pos 7) ∷ []) (4 ∷ 7 ∷ []) ((minus 268) ∷ (pos 22) ∷ (minus 460) ∷ (pos 112) ∷ (minus 460) ∷ (pos 271) ∷ (minus 268) ∷ (pos 271) ∷ [])) ∷
    []

drawings2 : map shown table2 ≡ map (λ c. c.expected) table2
unfolding at_end get_segment_intersection edge_intersection side_intersection get_intersection start_locs_are_clockwise at_vertex scan_pass scan_answer scan_loop point_in_polygon path1_contains_path2 get_bounds_path get_location determinant numerator fraction working_of crossing_of point_at intersection cross_product_sign is_collinear cross_product_three_points cross_product_is_negative is_clockwise_dir set_owner set_edge set_next set_prev set_results set_edge_list ring unlink add_to_edge struck uncouple_edge own_from set_new_owner drop_collinear_pass drop_collinear assign_side assign_edges check_ring check_from check_edges enter_all arena_of straighten_pass straighten points_from get_path get_paths clip_walked execute sheet_refusal early_refusal delivered answered clip_closed clip_open filled_part is_present first_off_edge line_through line_cross line_from line_passes line_walk_from walk_open pieces longer_than_one execute_lines seek relink regroup keep_one keep_both keep_each settle rejoin one_turn turns_from tidy_edges add add_all push_start_loc next_side next_outside add_corner_prev_curr add_corner_loc add_corners push_start_locs next_inside get_next_location second_search remain_outside enter pass_to pass_through leave cross_boundary add_round retrace close_outline last_off pass_from passes surround after_while walk_from walk_closed walked_outline lib.Ieee.add of_int sub mul div neg to_signed eq lt le
drawings2 = refl

abbrev table3 : List Case
table3 =
    C (R (pos 0) (pos 0) (pos 2) (pos 8)) 256 256 ((pos 0) ∷ (pos 9) ∷ (pos 3) ∷ (pos 9) ∷ (pos 3) ∷ (pos 7) ∷ (pos 4) ∷ (pos 7) ∷ [])
    (returned 0 0 0 ((pos 7) ∷ (pos 7) ∷ []) (7 ∷ []) ((pos 2) ∷ (pos 8) ∷ (pos 0) ∷ (pos 8) ∷ (pos 2) ∷ (pos 8) ∷ [])) ∷
    U (R (pos 0) (pos 0) (pos 4) (pos 3)) 256 256 ((pos 5) ∷ (pos 4) ∷ (pos 5) ∷ (pos 1) ∷ (pos 5) ∷ (minus 2) ∷ (pos 5) ∷ (pos 3) ∷ [])
    (returned 0 0 0 ((pos 7) ∷ (pos 7) ∷ []) (7 ∷ []) []) ∷
    C (R (pos 432) (pos 104) (pos 743) (pos 421)) 256 256 ((pos 597) ∷ (pos 294) ∷ (pos 592) ∷ (pos 426) ∷ (pos 364) ∷ (pos 429) ∷ (pos 289) ∷ (pos 105) ∷ (pos 677) ∷ (minus 98) ∷ (pos 1053) ∷ (pos 294) ∷ (pos 733) ∷ (pos 860) ∷ (pos 733) ∷ (pos 860) ∷ (minus 5) ∷ (pos 697) ∷ (minus 79) ∷ (minus 162) ∷ (pos 819) ∷ (minus 532) ∷ (pos 1510) ∷ (pos 294) ∷ (pos 597) ∷ (pos 294) ∷ [])
    (returned 1 10 0 ((pos 743) ∷ (pos 104) ∷ (pos 743) ∷ (pos 294) ∷ (pos 597) ∷ (pos 294) ∷ (pos 592) ∷ (pos 421) ∷ (pos 432) ∷ (pos 421) ∷ (pos 432) ∷ (pos 104) ∷ (pos 743) ∷ (pos 104) ∷ (pos 743) ∷ (pos 421) ∷ (pos 432) ∷ (pos 421) ∷ (pos 432) ∷ (pos 104) ∷ (pos 7) ∷ (pos 7) ∷ []) (10 ∷ 7 ∷ []) ((pos 597) ∷ (pos 294) ∷ (pos 592) ∷ (pos 421) ∷ (pos 432) ∷ (pos 421) ∷ (pos 432) ∷ (pos 104) ∷ (pos 743) ∷ (pos 104) ∷ (pos 743) ∷ (pos 421) ∷ (pos 432) ∷ (pos 421) ∷ (pos 432) ∷ (pos 104) ∷ (pos 743) ∷ (pos 104) ∷ (pos 743) ∷ (pos 294) ∷ (pos 597) ∷ (pos 294) ∷ [])) ∷
    L (R (pos 0) (pos 0) (pos 4) (pos 2)) 15 ((pos 0) ∷ (pos 1) ∷ (pos 0) ∷ (minus 1) ∷ (pos 4) ∷ (pos 4) ∷ (pos 0) ∷ (pos 3) ∷ (pos 0) ∷ (pos 3) ∷ (pos 4) ∷ (pos 0) ∷ (pos 1) ∷ (pos 1) ∷ (pos 1) ∷ (pos 1) ∷ (pos 3) ∷ (pos 0) ∷ (minus 1) ∷ (minus 2) ∷ (minus 1) ∷ (minus 2) ∷ (pos 5) ∷ (pos 1) ∷ (pos 5) ∷ (pos 1) ∷ (minus 2) ∷ (pos 0) ∷ (pos 0) ∷ (pos 0) ∷ (pos 6) ∷ (pos 1) ∷ (pos 6) ∷ (pos 1) ∷ (pos 0) ∷ (pos 1) ∷ [])
    (returned 7 15 0 ((pos 0) ∷ (pos 0) ∷ (pos 2) ∷ (pos 2) ∷ (pos 1) ∷ (pos 2) ∷ (pos 4) ∷ (pos 0) ∷ (pos 4) ∷ (pos 0) ∷ (pos 1) ∷ (pos 1) ∷ (pos 3) ∷ (pos 0) ∷ (pos 3) ∷ (pos 0) ∷ (pos 4) ∷ (pos 0) ∷ (pos 4) ∷ (pos 0) ∷ (pos 0) ∷ (pos 0) ∷ (pos 0) ∷ (pos 0) ∷ (pos 4) ∷ (pos 0) ∷ (pos 4) ∷ (pos 1) ∷ (pos 0) ∷ (pos 1) ∷ (pos 7) ∷ (pos 7) ∷ []) (2 ∷ 2 ∷ 3 ∷ 2 ∷ 2 ∷ 2 ∷ 2 ∷ 7 ∷ []) []) ∷
    C (R (pos 192) (pos 448) (pos 381) (pos 1021)) 7 256 ((minus 488) ∷ (pos 318) ∷ (minus 118) ∷ (pos 312) ∷ (pos 751) ∷ (minus 726) ∷ (minus 906) ∷ (pos 99) ∷ (pos 355) ∷ (pos 820) ∷ (minus 579) ∷ (pos 799) ∷ (minus 134) ∷ (pos 715) ∷ (pos 469) ∷ (minus 148) ∷ (pos 998) ∷ (minus 114) ∷ (pos 896) ∷ (pos 426) ∷ [])
    (refusal 8 ((pos 191) ∷ (pos 726) ∷ (pos 355) ∷ (pos 820) ∷ (pos 192) ∷ (pos 816) ∷ (pos 192) ∷ (pos 448) ∷ (pos 381) ∷ (pos 448) ∷ (pos 192) ∷ (pos 448) ∷ (pos 381) ∷ (pos 448) ∷ (pos 192) ∷ (pos 448) ∷ [])) ∷
    U (R (pos 30) (minus 369) (pos 720) (minus 23)) 256 256 ((pos 657) ∷ (pos 15) ∷ (pos 969) ∷ (pos 587) ∷ [])
    (returned 0 0 0 ((pos 7) ∷ (pos 7) ∷ []) (7 ∷ []) []) ∷
    U (R (pos 22) (pos 55) (pos 412) (pos 532)) 256 256 ((pos 540) ∷ (minus 978) ∷ (pos 540) ∷ (minus 978) ∷ (pos 591) ∷ (minus 859) ∷ (pos 576) ∷ (minus 705) ∷ (pos 480) ∷ (minus 551) ∷ (pos 303) ∷ (minus 439) ∷ (pos 303) ∷ (minus 439) ∷ (pos 68) ∷ (minus 411) ∷ (minus 184) ∷ (minus 491) ∷ (minus 404) ∷ (minus 685) ∷ (minus 404) ∷ (minus 685) ∷ (minus 539) ∷ (minus 978) ∷ (minus 539) ∷ (minus 978) ∷ (minus 543) ∷ (minus 1329) ∷ (minus 543) ∷ (minus 1329) ∷ (minus 397) ∷ (minus 1678) ∷ (minus 397) ∷ (minus 1678) ∷ (minus 107) ∷ (minus 1964) ∷ (pos 303) ∷ (minus 2122) ∷ (pos 770) ∷ (minus 2104) ∷ (pos 540) ∷ (minus 978) ∷ [])
    (returned 0 0 0 ((pos 7) ∷ (pos 7) ∷ []) (7 ∷ []) []) ∷
    L (R (pos 1944000) (minus 3000000) (pos 2736000) (pos 1008000)) 256 ((pos 15866527) ∷ (minus 2585719) ∷ (pos 15866527) ∷ (minus 2585719) ∷ (minus 4419472) ∷ (pos 9110713) ∷ (minus 4419473) ∷ (minus 14282151) ∷ (pos 15866527) ∷ (minus 2585719) ∷ (minus 4419472) ∷ (pos 9110713) ∷ (minus 4419473) ∷ (minus 14282151) ∷ (minus 4419473) ∷ (minus 14282151) ∷ (pos 15866527) ∷ (minus 2585719) ∷ (minus 4419472) ∷ (pos 9110713) ∷ (minus 4419472) ∷ (pos 9110713) ∷ (minus 4419473) ∷ (minus 14282151) ∷ (minus 4419473) ∷ (minus 14282151) ∷ [])
    (returned 0 0 0 ((pos 7) ∷ (pos 7) ∷ []) (7 ∷ []) []) ∷
    U (R (pos 0) (pos 0) (pos 6) (pos 3)) 256 256 ((pos 6) ∷ (pos 4) ∷ (minus 2) ∷ (pos 4) ∷ (pos 8) ∷ (pos 4) ∷ (pos 8) ∷ (pos 5) ∷ (pos 5) ∷ (pos 5) ∷ [])
    (returned 0 0 0 ((pos 7) ∷ (pos 7) ∷ []) (7 ∷ []) []) ∷
    C (R (pos 0) (pos 1) (pos 3) (pos 4)) 8 256 ((pos 3) ∷ (pos 5) ∷ (minus 1) ∷ (pos 0) ∷ (minus 1) ∷ (pos 4) ∷ (minus 1) ∷ (pos 0) ∷ (pos 1) ∷ (minus 1) ∷ (pos 5) ∷ (pos 5) ∷ (pos 4) ∷ (pos 2) ∷ (pos 3) ∷ (pos 1) ∷ (pos 2) ∷ (pos 5) ∷ (pos 2) ∷ (pos 2) ∷ (pos 1) ∷ (pos 4) ∷ [])
    (refusal 8 ((pos 1) ∷ (pos 4) ∷ (pos 2) ∷ (pos 4) ∷ (pos 0) ∷ (pos 1) ∷ (pos 2) ∷ (pos 1) ∷ (pos 3) ∷ (pos 2) ∷ (pos 3) ∷ (pos 1) ∷ (pos 2) ∷ (pos 4) ∷ (pos 2) ∷ (pos 2) ∷ (pos 1) ∷ (pos 4) ∷ [])) ∷
    C (R (minus 417) (minus 188) (minus 22) (pos 393)) 7 0 ((minus 125) ∷ (pos 228) ∷ (minus 125) ∷ (pos 497) ∷ (minus 663) ∷ (pos 497) ∷ (minus 663) ∷ (minus 41) ∷ (pos 144) ∷ (minus 41) ∷ (pos 144) ∷ (pos 766) ∷ (minus 932) ∷ (pos 766) ∷ [])
    (refusal 8 ((minus 372) ∷ (pos 393) ∷ (minus 125) ∷ (pos 228) ∷ (minus 125) ∷ (pos 393) ∷ (minus 417) ∷ (pos 393) ∷ (minus 417) ∷ (minus 41) ∷ (minus 22) ∷ (minus 41) ∷ (minus 22) ∷ (pos 393) ∷ (minus 417) ∷ (pos 393) ∷ [])) ∷
    C (R (minus 1) (minus 1) (pos 29150391) (pos 24797952)) 256 256 ((pos 28908091) ∷ (minus 7341790) ∷ (pos 12304342) ∷ (pos 7064113) ∷ (pos 18113634) ∷ (minus 20722787) ∷ (minus 17767944) ∷ (minus 22285546) ∷ (pos 29150391) ∷ (pos 24797951) ∷ (minus 33554432) ∷ (minus 18415114) ∷ (minus 23681263) ∷ (pos 6563398) ∷ (pos 4865453) ∷ (pos 18186671) ∷ [])
    (returned 1 9 0 ((pos 4865453) ∷ (pos 18186671) ∷ (pos 21993613) ∷ (minus 1) ∷ (pos 20446197) ∷ (minus 1) ∷ (pos 12304342) ∷ (pos 7064113) ∷ (pos 13781207) ∷ (minus 1) ∷ (pos 4439426) ∷ (minus 1) ∷ (pos 29150391) ∷ (pos 24797951) ∷ (minus 1) ∷ (pos 4708941) ∷ (minus 1) ∷ (pos 16205620) ∷ (pos 7) ∷ (pos 7) ∷ []) (9 ∷ 7 ∷ []) ((pos 21993613) ∷ (minus 1) ∷ (pos 20446197) ∷ (minus 1) ∷ (pos 12304342) ∷ (pos 7064113) ∷ (pos 13781207) ∷ (minus 1) ∷ (pos 4439426) ∷ (minus 1) ∷ (pos 29150391) ∷ (pos 24797951) ∷ (minus 1) ∷ (pos 4708941) ∷ (minus 1) ∷ (pos 16205620) ∷ (pos 4865453) ∷ (pos 18186671) ∷ [])) ∷
    L (R (pos 0) (pos 0) (pos 4) (pos 4)) 256 ((pos 1) ∷ (minus 1) ∷ (pos 4) ∷ (pos 2) ∷ (minus 2) ∷ (pos 0) ∷ (pos 0) ∷ (pos 0) ∷ (pos 4) ∷ (pos 1) ∷ (pos 4) ∷ (minus 2) ∷ (pos 0) ∷ (pos 5) ∷ (pos 4) ∷ (pos 4) ∷ (pos 2) ∷ (minus 2) ∷ [])
    (returned 5 10 0 ((pos 2) ∷ (pos 0) ∷ (pos 4) ∷ (pos 2) ∷ (pos 4) ∷ (pos 2) ∷ (pos 0) ∷ (pos 0) ∷ (pos 0) ∷ (pos 0) ∷ (pos 4) ∷ (pos 1) ∷ (pos 2) ∷ (pos 0) ∷ (pos 0) ∷ (pos 4) ∷ (pos 4) ∷ (pos 4) ∷ (pos 2) ∷ (pos 0) ∷ (pos 7) ∷ (pos 7) ∷ []) (2 ∷ 2 ∷ 2 ∷ 2 ∷ 2 ∷ 7 ∷ []) []) ∷
    C (R (pos 0) (pos 0) (pos 60) (pos 60)) 256 0 ((minus 9) ∷ (pos 4) ∷ (pos 0) ∷ (pos 49) ∷ (pos 3) ∷ (pos 51) ∷ (pos 1) ∷ (pos 54) ∷ [])
    (returned 1 3 0 ((pos 1) ∷ (pos 54) ∷ (pos 0) ∷ (pos 49) ∷ (pos 3) ∷ (pos 51) ∷ (pos 7) ∷ (pos 7) ∷ []) (3 ∷ 7 ∷ []) ((pos 0) ∷ (pos 49) ∷ (pos 3) ∷ (pos 51) ∷ (pos 1) ∷ (pos 54) ∷ [])) ∷
    L (R (pos 0) (pos 0) (pos 7) (pos 7)) 256 ((pos 1) ∷ (pos 8) ∷ (pos 3) ∷ (pos 8) ∷ (pos 9) ∷ (pos 8) ∷ (minus 2) ∷ (pos 8) ∷ (minus 2) ∷ (pos 9) ∷ [])
    (returned 0 0 0 ((pos 7) ∷ (pos 7) ∷ []) (7 ∷ []) []) ∷
    []

drawings3 : map shown table3 ≡ map (λ c. c.expected) table3
unfolding at_end get_segment_intersection edge_intersection side_intersection get_intersection start_locs_are_clockwise at_vertex scan_pass scan_answer scan_loop point_in_polygon path1_contains_path2 get_bounds_path get_location determinant numerator fraction working_of crossing_of point_at intersection cross_product_sign is_collinear cross_product_three_points cross_product_is_negative is_clockwise_dir set_owner set_edge set_next set_prev set_results set_edge_list ring unlink add_to_edge struck uncouple_edge own_from set_new_owner drop_collinear_pass drop_collinear assign_side assign_edges check_ring check_from check_edges enter_all arena_of straighten_pass straighten points_from get_path get_paths clip_walked execute sheet_refusal early_refusal delivered answered clip_closed clip_open filled_part is_present first_off_edge line_through line_cross line_from line_passes line_walk_from walk_open pieces longer_than_one execute_lines seek relink regroup keep_one keep_both keep_each settle rejoin one_turn turns_from tidy_edges add add_all push_start_loc next_side next_outside add_corner_prev_curr add_corner_loc add_corners push_start_locs next_inside get_next_location second_search remain_outside enter pass_to pass_through leave cross_boundary add_round retrace close_outline last_off pass_from passes surround after_while walk_from walk_closed walked_outline lib.Ieee.add of_int sub mul div neg to_signed eq lt le
drawings3 = refl

abbrev table4 : List Case
table4 =
    U (R (pos 51) (minus 318) (pos 684) (minus 285)) 256 256 ((minus 682) ∷ (pos 554) ∷ (minus 682) ∷ (pos 756) ∷ (minus 1086) ∷ (pos 756) ∷ (minus 1086) ∷ (pos 352) ∷ (minus 480) ∷ (pos 352) ∷ (minus 480) ∷ (pos 958) ∷ (minus 1288) ∷ (pos 958) ∷ (minus 1288) ∷ (pos 150) ∷ [])
    (returned 0 0 0 ((pos 7) ∷ (pos 7) ∷ []) (7 ∷ []) []) ∷
    L (R (minus 301) (pos 82) (minus 38) (pos 752)) 8 ((pos 346) ∷ (minus 182) ∷ (minus 683) ∷ (minus 182) ∷ (minus 683) ∷ (pos 700) ∷ (pos 199) ∷ (pos 700) ∷ (pos 199) ∷ (minus 35) ∷ (minus 536) ∷ (minus 35) ∷ (minus 536) ∷ (pos 553) ∷ (pos 52) ∷ (pos 553) ∷ (pos 52) ∷ (pos 112) ∷ (minus 389) ∷ (pos 112) ∷ (minus 389) ∷ (pos 406) ∷ (minus 95) ∷ (pos 406) ∷ (minus 95) ∷ (pos 259) ∷ [])
    (refusal 8 []) ∷
    L (R (pos 0) (pos 0) (pos 6) (pos 3)) 256 ((minus 2) ∷ (pos 4) ∷ (minus 2) ∷ (pos 3) ∷ (minus 2) ∷ (minus 1) ∷ (pos 6) ∷ (minus 1) ∷ (pos 6) ∷ (minus 2) ∷ (pos 6) ∷ (pos 3) ∷ (pos 6) ∷ (pos 3) ∷ (pos 6) ∷ (pos 1) ∷ (pos 6) ∷ (minus 1) ∷ (pos 1) ∷ (minus 1) ∷ (pos 6) ∷ (minus 1) ∷ [])
    (returned 0 0 0 ((pos 7) ∷ (pos 7) ∷ []) (7 ∷ []) []) ∷
    C (R (pos 0) (pos 0) (pos 5) (pos 2)) 4 256 ((pos 5) ∷ (minus 2) ∷ (pos 7) ∷ (pos 5) ∷ (minus 2) ∷ (pos 5) ∷ (pos 0) ∷ (minus 2) ∷ [])
    (returned 1 4 0 ((pos 0) ∷ (pos 2) ∷ (pos 0) ∷ (pos 0) ∷ (pos 5) ∷ (pos 0) ∷ (pos 5) ∷ (pos 2) ∷ (pos 7) ∷ (pos 7) ∷ []) (4 ∷ 7 ∷ []) ((pos 0) ∷ (pos 0) ∷ (pos 5) ∷ (pos 0) ∷ (pos 5) ∷ (pos 2) ∷ (pos 0) ∷ (pos 2) ∷ [])) ∷
    L (R (pos 418) (minus 46) (pos 892) (pos 54)) 256 ((minus 650) ∷ (pos 928) ∷ (minus 650) ∷ (pos 1177) ∷ (minus 1148) ∷ (pos 1177) ∷ (minus 1148) ∷ (pos 679) ∷ (minus 401) ∷ (pos 679) ∷ (minus 401) ∷ (pos 1426) ∷ [])
    (returned 0 0 0 ((pos 7) ∷ (pos 7) ∷ []) (7 ∷ []) []) ∷
    C (R (minus 150) (minus 227) (pos 308) (minus 202)) 256 4 ((pos 98) ∷ (minus 227) ∷ (pos 98) ∷ (minus 104) ∷ (minus 148) ∷ (minus 104) ∷ (minus 148) ∷ (minus 104) ∷ (minus 148) ∷ (minus 350) ∷ (minus 148) ∷ (minus 350) ∷ (pos 221) ∷ (minus 350) ∷ (pos 221) ∷ (pos 19) ∷ (minus 271) ∷ (pos 19) ∷ (minus 271) ∷ (minus 473) ∷ (minus 271) ∷ (minus 473) ∷ (pos 344) ∷ (minus 473) ∷ (pos 344) ∷ (minus 473) ∷ (pos 344) ∷ (pos 142) ∷ (minus 394) ∷ (pos 142) ∷ (minus 394) ∷ (minus 596) ∷ [])
    (returned 1 12 4 ((pos 98) ∷ (minus 227) ∷ (pos 98) ∷ (minus 202) ∷ (minus 148) ∷ (minus 202) ∷ (minus 148) ∷ (minus 227) ∷ (pos 221) ∷ (minus 227) ∷ (pos 221) ∷ (minus 202) ∷ (minus 150) ∷ (minus 202) ∷ (minus 150) ∷ (minus 227) ∷ (pos 308) ∷ (minus 227) ∷ (pos 308) ∷ (minus 202) ∷ (minus 150) ∷ (minus 202) ∷ (minus 150) ∷ (minus 227) ∷ (pos 7) ∷ (pos 7) ∷ []) (12 ∷ 7 ∷ []) ((pos 98) ∷ (minus 227) ∷ (pos 308) ∷ (minus 227) ∷ (pos 98) ∷ (minus 227) ∷ (pos 98) ∷ (minus 202) ∷ (minus 148) ∷ (minus 202) ∷ (minus 148) ∷ (minus 227) ∷ (pos 221) ∷ (minus 227) ∷ (pos 221) ∷ (minus 202) ∷ (minus 150) ∷ (minus 202) ∷ (minus 150) ∷ (minus 227) ∷ (pos 308) ∷ (minus 227) ∷ (pos 308) ∷ (minus 202) ∷ (minus 150) ∷ (minus 202) ∷ (minus 150) ∷ (minus 227) ∷ [])) ∷
    C (R (pos 1) (pos 2) (pos 3) (pos 4)) 11 256 ((pos 3) ∷ (pos 0) ∷ (pos 5) ∷ (pos 2) ∷ (pos 4) ∷ (minus 1) ∷ (pos 5) ∷ (pos 4) ∷ (pos 1) ∷ (pos 1) ∷ (pos 2) ∷ (minus 1) ∷ (pos 1) ∷ (pos 4) ∷ (minus 1) ∷ (minus 1) ∷ (pos 4) ∷ (pos 3) ∷ (pos 5) ∷ (pos 5) ∷ (pos 3) ∷ (pos 5) ∷ [])
    (returned 0 0 7 ((pos 7) ∷ (pos 7) ∷ []) (7 ∷ []) ((pos 3) ∷ (pos 4) ∷ (pos 3) ∷ (pos 2) ∷ (pos 3) ∷ (pos 4) ∷ (pos 3) ∷ (pos 2) ∷ (pos 2) ∷ (pos 2) ∷ (pos 1) ∷ (pos 2) ∷ (pos 1) ∷ (pos 4) ∷ (pos 1) ∷ (pos 2) ∷ (pos 2) ∷ (pos 2) ∷ (pos 3) ∷ (pos 2) ∷ (pos 3) ∷ (pos 4) ∷ [])) ∷
    C (R (pos 0) (pos 0) (pos 60) (pos 60)) 8 0 ((minus 5) ∷ (pos 2) ∷ (minus 7) ∷ (pos 0) ∷ (minus 8) ∷ (pos 9) ∷ (minus 8) ∷ (pos 4) ∷ (minus 8) ∷ (pos 1) ∷ (minus 9) ∷ (pos 0) ∷ (minus 8) ∷ (minus 4) ∷ (pos 20) ∷ (pos 0) ∷ (pos 22) ∷ (pos 0) ∷ (pos 24) ∷ (minus 1) ∷ (pos 24) ∷ (pos 0) ∷ (pos 24) ∷ (pos 9) ∷ (pos 27) ∷ (pos 0) ∷ (pos 59) ∷ (pos 9) ∷ [])
    (returned 1 6 0 ((pos 59) ∷ (pos 9) ∷ (pos 0) ∷ (pos 2) ∷ (pos 0) ∷ (pos 0) ∷ (pos 24) ∷ (pos 0) ∷ (pos 24) ∷ (pos 9) ∷ (pos 27) ∷ (pos 0) ∷ (pos 7) ∷ (pos 7) ∷ []) (6 ∷ 7 ∷ []) ((pos 0) ∷ (pos 2) ∷ (pos 0) ∷ (pos 0) ∷ (pos 20) ∷ (pos 0) ∷ (pos 60) ∷ (pos 0) ∷ (pos 24) ∷ (pos 0) ∷ (pos 24) ∷ (pos 9) ∷ (pos 27) ∷ (pos 0) ∷ (pos 59) ∷ (pos 9) ∷ [])) ∷
    L (R (pos 0) (pos 0) (pos 60) (pos 60)) 6 ((pos 45) ∷ (pos 5) ∷ (pos 43) ∷ (pos 2) ∷ (pos 45) ∷ (minus 6) ∷ (pos 45) ∷ (minus 3) ∷ (pos 1) ∷ (pos 0) ∷ (pos 5) ∷ (minus 7) ∷ (pos 7) ∷ (pos 3) ∷ (pos 9) ∷ (pos 0) ∷ [])
    (returned 2 6 0 ((pos 45) ∷ (pos 5) ∷ (pos 43) ∷ (pos 2) ∷ (pos 43) ∷ (pos 0) ∷ (pos 6) ∷ (pos 0) ∷ (pos 7) ∷ (pos 3) ∷ (pos 9) ∷ (pos 0) ∷ (pos 7) ∷ (pos 7) ∷ []) (3 ∷ 3 ∷ 7 ∷ []) []) ∷
    L (R (pos 0) (pos 0) (pos 3) (pos 4)) 256 ((pos 4) ∷ (minus 3) ∷ (pos 3) ∷ (pos 6) ∷ (minus 1) ∷ (pos 7) ∷ (pos 3) ∷ (minus 2) ∷ (pos 0) ∷ (minus 2) ∷ [])
    (returned 1 2 0 ((pos 0) ∷ (pos 4) ∷ (pos 2) ∷ (pos 0) ∷ (pos 7) ∷ (pos 7) ∷ []) (2 ∷ 7 ∷ []) []) ∷
    C (R (pos 95) (pos 221) (pos 306) (pos 813)) 256 256 ((pos 602) ∷ (pos 400) ∷ (minus 246) ∷ (pos 400) ∷ (pos 602) ∷ (pos 400) ∷ (minus 246) ∷ (pos 400) ∷ (minus 246) ∷ (pos 400) ∷ (pos 602) ∷ (pos 400) ∷ (minus 246) ∷ (pos 400) ∷ (pos 602) ∷ (pos 400) ∷ (minus 246) ∷ (pos 400) ∷ [])
    (returned 0 0 0 ((pos 7) ∷ (pos 7) ∷ []) (7 ∷ []) ((pos 95) ∷ (pos 400) ∷ (pos 306) ∷ (pos 400) ∷ (pos 95) ∷ (pos 400) ∷ (pos 306) ∷ (pos 400) ∷ (pos 95) ∷ (pos 400) ∷ (pos 306) ∷ (pos 400) ∷ (pos 95) ∷ (pos 400) ∷ (pos 306) ∷ (pos 400) ∷ (pos 95) ∷ (pos 400) ∷ [])) ∷
    U (R (minus 359) (pos 499) (pos 25) (pos 948)) 256 256 ((pos 941) ∷ (minus 823) ∷ (pos 941) ∷ (minus 668) ∷ (pos 786) ∷ (minus 538) ∷ (pos 539) ∷ (minus 576) ∷ (pos 370) ∷ (minus 823) ∷ (pos 447) ∷ (minus 1162) ∷ (pos 786) ∷ (minus 1369) ∷ (pos 1217) ∷ (minus 1254) ∷ (pos 1463) ∷ (minus 823) ∷ (pos 1309) ∷ (minus 300) ∷ (pos 786) ∷ (minus 16) ∷ (pos 171) ∷ (minus 208) ∷ [])
    (returned 0 0 0 ((pos 7) ∷ (pos 7) ∷ []) (7 ∷ []) []) ∷
    C (R (minus 230) (minus 178) (pos 403) (minus 16)) 256 0 ((pos 1138) ∷ (minus 101) ∷ (pos 49) ∷ (pos 988) ∷ (minus 1040) ∷ (minus 101) ∷ (pos 49) ∷ (minus 1190) ∷ (pos 1138) ∷ (minus 101) ∷ (pos 49) ∷ (pos 988) ∷ (minus 1040) ∷ (minus 101) ∷ (pos 49) ∷ (minus 1190) ∷ (pos 1138) ∷ (minus 101) ∷ (pos 49) ∷ (pos 988) ∷ (minus 1040) ∷ (minus 101) ∷ (pos 49) ∷ (minus 1190) ∷ [])
    (returned 1 4 0 ((minus 230) ∷ (minus 16) ∷ (minus 230) ∷ (minus 178) ∷ (pos 403) ∷ (minus 178) ∷ (pos 403) ∷ (minus 16) ∷ (pos 7) ∷ (pos 7) ∷ []) (4 ∷ 7 ∷ []) ((minus 230) ∷ (minus 178) ∷ (pos 403) ∷ (minus 178) ∷ (pos 403) ∷ (minus 16) ∷ (minus 230) ∷ (minus 16) ∷ [])) ∷
    C (R (pos 0) (pos 0) (pos 8) (pos 7)) 6 256 ((pos 10) ∷ (pos 6) ∷ (pos 10) ∷ (pos 8) ∷ (pos 0) ∷ (pos 8) ∷ (pos 0) ∷ (pos 8) ∷ (pos 10) ∷ (pos 8) ∷ (pos 10) ∷ (pos 7) ∷ (pos 0) ∷ (pos 7) ∷ [])
    (returned 1 3 0 ((pos 0) ∷ (pos 7) ∷ (pos 8) ∷ (pos 6) ∷ (pos 8) ∷ (pos 7) ∷ (pos 7) ∷ (pos 7) ∷ []) (3 ∷ 7 ∷ []) ((pos 0) ∷ (pos 7) ∷ (pos 8) ∷ (pos 6) ∷ (pos 8) ∷ (pos 7) ∷ (pos 0) ∷ (pos 7) ∷ (pos 8) ∷ (pos 7) ∷ (pos 0) ∷ (pos 7) ∷ [])) ∷
    L (R (pos 3336000) (pos 4512000) (pos 7512000) (pos 4908000)) 256 ((minus 5760000) ∷ (pos 5742000) ∷ (pos 7920000) ∷ (minus 9480000) ∷ (minus 5760000) ∷ (minus 21618000) ∷ (minus 16356000) ∷ (minus 9480000) ∷ (minus 5760000) ∷ (minus 426000) ∷ (pos 1752000) ∷ (minus 9480000) ∷ (minus 5760000) ∷ (minus 15450000) ∷ (minus 10188000) ∷ (minus 9480000) ∷ (minus 5760000) ∷ (minus 6594000) ∷ (minus 4416000) ∷ (minus 9480000) ∷ [])
    (returned 0 0 0 ((pos 7) ∷ (pos 7) ∷ []) (7 ∷ []) []) ∷
    []

drawings4 : map shown table4 ≡ map (λ c. c.expected) table4
unfolding at_end get_segment_intersection edge_intersection side_intersection get_intersection start_locs_are_clockwise at_vertex scan_pass scan_answer scan_loop point_in_polygon path1_contains_path2 get_bounds_path get_location determinant numerator fraction working_of crossing_of point_at intersection cross_product_sign is_collinear cross_product_three_points cross_product_is_negative is_clockwise_dir set_owner set_edge set_next set_prev set_results set_edge_list ring unlink add_to_edge struck uncouple_edge own_from set_new_owner drop_collinear_pass drop_collinear assign_side assign_edges check_ring check_from check_edges enter_all arena_of straighten_pass straighten points_from get_path get_paths clip_walked execute sheet_refusal early_refusal delivered answered clip_closed clip_open filled_part is_present first_off_edge line_through line_cross line_from line_passes line_walk_from walk_open pieces longer_than_one execute_lines seek relink regroup keep_one keep_both keep_each settle rejoin one_turn turns_from tidy_edges add add_all push_start_loc next_side next_outside add_corner_prev_curr add_corner_loc add_corners push_start_locs next_inside get_next_location second_search remain_outside enter pass_to pass_through leave cross_boundary add_round retrace close_outline last_off pass_from passes surround after_while walk_from walk_closed walked_outline lib.Ieee.add of_int sub mul div neg to_signed eq lt le
drawings4 = refl
