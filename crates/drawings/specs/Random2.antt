-- Drawings with the Rust's answers: what the entries answer and fill, and the walked outline.
-- Made by tools/tables.py from rows of compare's `drawings`. Assumes nothing.
use Rattle.std.specs.Prelude.{◌≡◌, refl, List, [], ◌∷◌, map, pos}
use Rattle.drawings.specs.Cases.{Case, C, U, L, R, minus, returned, refusal, shown}
use Rattle.plane.specs.Intersection.{at_end, get_segment_intersection, edge_intersection, side_intersection, get_intersection}
use Rattle.plane.specs.Locations.{start_locs_are_clockwise}
use Rattle.plane.specs.Polygon.{at_vertex, scan_pass, scan_answer, scan_loop, point_in_polygon, path1_contains_path2}
use Rattle.plane.specs.Rectangle.{get_bounds_path, get_location}
use Rattle.plane.specs.Segment.{determinant, numerator, fraction, working_of, crossing_of, point_at, intersection}
use Rattle.plane.specs.Signs.{cross_product_sign, is_collinear, cross_product_three_points, cross_product_is_negative, is_clockwise_dir}
use Rattle.reference.specs.Arena.{set_owner, set_edge, set_next, set_prev, set_results, set_edge_list, ring, unlink, add_to_edge, struck, uncouple_edge, own_from, set_new_owner, drop_collinear_pass, drop_collinear, assign_side, assign_edges, check_ring, check_from, check_edges}
use Rattle.reference.specs.Clip.{enter_all, arena_of, straighten_pass, straighten, points_from, get_path, get_paths, clip_walked, execute}
use Rattle.reference.specs.Entry.{sheet_refusal, early_refusal, delivered, answered, clip_closed, clip_open, filled_part, is_present}
use Rattle.reference.specs.Lines.{first_off_edge, line_through, line_cross, line_from, line_passes, line_walk_from, walk_open, pieces, longer_than_one, execute_lines}
use Rattle.reference.specs.Tidy.{seek, relink, regroup, keep_one, keep_both, keep_each, settle, rejoin, one_turn, turns_from, tidy_edges}
use Rattle.reference.specs.Walk.{add, add_all, push_start_loc, next_side, next_outside, add_corner_prev_curr, add_corner_loc, add_corners, push_start_locs, next_inside, get_next_location, second_search, remain_outside, enter, pass_to, pass_through, leave, cross_boundary, add_round, retrace, close_outline, last_off, pass_from, passes, surround, after_while, walk_from, walk_closed, walked_outline}
use lib.Ieee.{of_int, sub, mul, div, neg, to_signed, eq, lt, le}

abbrev table1 : List Case
table1 =
    C (R (pos 0) (pos 0) (pos 60) (pos 60)) 256 0 ((pos 0) ∷ (pos 26) ∷ (pos 0) ∷ (pos 24) ∷ (pos 0) ∷ (pos 24) ∷ (minus 4) ∷ (pos 20) ∷ (minus 1) ∷ (pos 20) ∷ (pos 2) ∷ (pos 19) ∷ (pos 3) ∷ (pos 16) ∷ (pos 8) ∷ (pos 40) ∷ (minus 8) ∷ (pos 38) ∷ (pos 0) ∷ (pos 39) ∷ (pos 6) ∷ (pos 36) ∷ (minus 4) ∷ (pos 0) ∷ [])
    (returned 1 7 0 ((pos 0) ∷ (pos 14) ∷ (pos 0) ∷ (pos 19) ∷ (pos 2) ∷ (pos 19) ∷ (pos 3) ∷ (pos 16) ∷ (pos 8) ∷ (pos 40) ∷ (pos 0) ∷ (pos 39) ∷ (pos 6) ∷ (pos 36) ∷ (pos 7) ∷ (pos 7) ∷ []) (7 ∷ 7 ∷ []) ((pos 0) ∷ (pos 19) ∷ (pos 2) ∷ (pos 19) ∷ (pos 3) ∷ (pos 16) ∷ (pos 8) ∷ (pos 40) ∷ (pos 0) ∷ (pos 39) ∷ (pos 6) ∷ (pos 36) ∷ (pos 0) ∷ (pos 14) ∷ [])) ∷
    U (R (minus 66) (minus 443) (pos 25) (minus 63)) 256 256 ((minus 390) ∷ (minus 420) ∷ (minus 390) ∷ (minus 26) ∷ (minus 1178) ∷ (minus 26) ∷ (minus 1178) ∷ (minus 814) ∷ [])
    (returned 0 0 0 ((pos 7) ∷ (pos 7) ∷ []) (7 ∷ []) []) ∷
    C (R (pos 0) (minus 33554431) (pos 26197393) (minus 28359040)) 256 256 ((pos 33554431) ∷ (minus 27718723) ∷ (pos 20496329) ∷ (pos 8844746) ∷ (pos 2667884) ∷ (minus 28718091) ∷ (minus 2192410) ∷ (pos 33554432) ∷ (minus 21926400) ∷ (pos 33554432) ∷ (pos 33554432) ∷ (minus 33554431) ∷ (minus 33554431) ∷ (minus 4661188) ∷ [])
    (returned 2 6 2 ((pos 2838300) ∷ (minus 28359040) ∷ (pos 2667884) ∷ (minus 28718091) ∷ (pos 2639860) ∷ (minus 28359040) ∷ (pos 26197393) ∷ (minus 28359040) ∷ (pos 26197393) ∷ (minus 30386910) ∷ (pos 21487362) ∷ (minus 28359040) ∷ (pos 7) ∷ (pos 7) ∷ []) (3 ∷ 3 ∷ 7 ∷ []) ((pos 2838300) ∷ (minus 28359040) ∷ (pos 2667884) ∷ (minus 28718091) ∷ (pos 2639860) ∷ (minus 28359040) ∷ (pos 26197393) ∷ (minus 28359040) ∷ (pos 26197393) ∷ (minus 33554431) ∷ (pos 26197393) ∷ (minus 30386910) ∷ (pos 21487362) ∷ (minus 28359040) ∷ (pos 0) ∷ (minus 28359040) ∷ (pos 26197393) ∷ (minus 28359040) ∷ [])) ∷
    C (R (minus 21) (minus 122) (pos 282) (pos 548)) 12 256 ((pos 1606) ∷ (pos 295) ∷ (minus 659) ∷ (minus 642) ∷ (pos 278) ∷ (pos 1623) ∷ (pos 1215) ∷ (minus 642) ∷ (minus 1050) ∷ (pos 295) ∷ (pos 1215) ∷ (pos 1232) ∷ (pos 278) ∷ (minus 1033) ∷ (minus 659) ∷ (pos 1232) ∷ [])
    (refusal 8 ((minus 21) ∷ (pos 548) ∷ (pos 282) ∷ (pos 548) ∷ (pos 282) ∷ (minus 122) ∷ (minus 21) ∷ (minus 122) ∷ [])) ∷
    C (R (pos 33) (minus 148) (pos 94) (pos 447)) 256 256 ((pos 717) ∷ (minus 454) ∷ (minus 23) ∷ (pos 175) ∷ (pos 350) ∷ (pos 608) ∷ (pos 45) ∷ (minus 526) ∷ (pos 447) ∷ (minus 20) ∷ (pos 877) ∷ (pos 978) ∷ (pos 351) ∷ (pos 71) ∷ [])
    (returned 1 4 0 ((pos 32) ∷ (pos 240) ∷ (pos 94) ∷ (pos 310) ∷ (pos 94) ∷ (pos 75) ∷ (pos 33) ∷ (pos 127) ∷ (pos 7) ∷ (pos 7) ∷ []) (4 ∷ 7 ∷ []) ((pos 94) ∷ (pos 75) ∷ (pos 33) ∷ (pos 127) ∷ (pos 32) ∷ (pos 240) ∷ (pos 94) ∷ (pos 310) ∷ (pos 94) ∷ (minus 148) ∷ [])) ∷
    C (R (pos 0) (pos 0) (pos 60) (pos 60)) 3 256 ((minus 4) ∷ (pos 25) ∷ (minus 2) ∷ (pos 25) ∷ (pos 0) ∷ (pos 26) ∷ (pos 6) ∷ (pos 35) ∷ (pos 6) ∷ (pos 35) ∷ (minus 1) ∷ (pos 38) ∷ [])
    (returned 1 3 0 ((pos 0) ∷ (pos 37) ∷ (pos 0) ∷ (pos 26) ∷ (pos 6) ∷ (pos 35) ∷ (pos 7) ∷ (pos 7) ∷ []) (3 ∷ 7 ∷ []) ((pos 0) ∷ (pos 26) ∷ (pos 6) ∷ (pos 35) ∷ (pos 0) ∷ (pos 37) ∷ [])) ∷
    C (R (minus 378) (pos 368) (pos 252) (pos 938)) 256 0 ((minus 174) ∷ (pos 842) ∷ (minus 174) ∷ (pos 990) ∷ (minus 470) ∷ (pos 990) ∷ (minus 470) ∷ (pos 694) ∷ (minus 26) ∷ (pos 694) ∷ (minus 26) ∷ (pos 1138) ∷ (minus 618) ∷ (pos 1138) ∷ (minus 618) ∷ (pos 546) ∷ (pos 122) ∷ (pos 546) ∷ (pos 122) ∷ (pos 1286) ∷ (minus 766) ∷ (pos 1286) ∷ (minus 766) ∷ (pos 398) ∷ (pos 270) ∷ (pos 398) ∷ [])
    (returned 1 14 0 ((pos 252) ∷ (pos 398) ∷ (pos 252) ∷ (pos 416) ∷ (minus 174) ∷ (pos 842) ∷ (minus 174) ∷ (pos 938) ∷ (minus 378) ∷ (pos 938) ∷ (minus 378) ∷ (pos 694) ∷ (minus 26) ∷ (pos 694) ∷ (minus 26) ∷ (pos 938) ∷ (minus 378) ∷ (pos 938) ∷ (minus 378) ∷ (pos 546) ∷ (pos 122) ∷ (pos 546) ∷ (pos 122) ∷ (pos 938) ∷ (minus 378) ∷ (pos 938) ∷ (minus 378) ∷ (pos 398) ∷ (pos 7) ∷ (pos 7) ∷ []) (14 ∷ 7 ∷ []) ((pos 252) ∷ (pos 416) ∷ (minus 174) ∷ (pos 842) ∷ (minus 174) ∷ (pos 938) ∷ (minus 378) ∷ (pos 938) ∷ (minus 378) ∷ (pos 694) ∷ (minus 26) ∷ (pos 694) ∷ (minus 26) ∷ (pos 938) ∷ (minus 378) ∷ (pos 938) ∷ (minus 378) ∷ (pos 546) ∷ (pos 122) ∷ (pos 546) ∷ (pos 122) ∷ (pos 938) ∷ (minus 378) ∷ (pos 938) ∷ (minus 378) ∷ (pos 398) ∷ (pos 252) ∷ (pos 398) ∷ [])) ∷
    C (R (pos 286) (minus 341) (pos 318) (pos 191)) 256 0 ((pos 325) ∷ (pos 797) ∷ (pos 161) ∷ (pos 1142) ∷ (pos 161) ∷ (pos 1142) ∷ (minus 314) ∷ (pos 1061) ∷ (minus 384) ∷ (pos 482) ∷ (pos 242) ∷ (pos 204) ∷ (pos 242) ∷ (pos 204) ∷ (pos 760) ∷ (pos 797) ∷ (pos 296) ∷ (pos 1555) ∷ (minus 666) ∷ (pos 1317) ∷ (minus 666) ∷ (pos 1317) ∷ (minus 736) ∷ (pos 226) ∷ (pos 377) ∷ (minus 210) ∷ (pos 1196) ∷ (pos 797) ∷ (pos 431) ∷ (pos 1969) ∷ (minus 1017) ∷ (pos 1572) ∷ (minus 1088) ∷ (minus 29) ∷ (minus 1088) ∷ (minus 29) ∷ (pos 325) ∷ (pos 797) ∷ [])
    (returned 1 4 0 ((pos 286) ∷ (pos 191) ∷ (pos 286) ∷ (minus 174) ∷ (pos 318) ∷ (minus 186) ∷ (pos 318) ∷ (pos 191) ∷ (pos 7) ∷ (pos 7) ∷ []) (4 ∷ 7 ∷ []) ((pos 286) ∷ (minus 174) ∷ (pos 318) ∷ (minus 186) ∷ (pos 318) ∷ (pos 191) ∷ (pos 286) ∷ (pos 191) ∷ (pos 318) ∷ (pos 191) ∷ (pos 286) ∷ (pos 191) ∷ (pos 318) ∷ (pos 191) ∷ (pos 286) ∷ (pos 191) ∷ [])) ∷
    U (R (pos 406) (minus 133) (pos 904) (pos 353)) 256 0 ((minus 187) ∷ (pos 458) ∷ (minus 629) ∷ (pos 88) ∷ (minus 616) ∷ (pos 806) ∷ (minus 37) ∷ (pos 458) ∷ (minus 591) ∷ (pos 153) ∷ (minus 578) ∷ (pos 741) ∷ (minus 112) ∷ (pos 458) ∷ (minus 554) ∷ (pos 218) ∷ (minus 541) ∷ (pos 676) ∷ (minus 187) ∷ (pos 458) ∷ [])
    (returned 0 0 0 ((pos 7) ∷ (pos 7) ∷ []) (7 ∷ []) []) ∷
    L (R (pos 81) (minus 109) (pos 766) (pos 308)) 256 ((pos 1106) ∷ (pos 886) ∷ (minus 1341) ∷ (pos 1681) ∷ (pos 172) ∷ (minus 400) ∷ (pos 172) ∷ (minus 400) ∷ (pos 172) ∷ (pos 2172) ∷ (minus 1341) ∷ (pos 91) ∷ (pos 1106) ∷ (pos 886) ∷ [])
    (returned 1 2 0 ((pos 172) ∷ (minus 109) ∷ (pos 172) ∷ (pos 308) ∷ (pos 7) ∷ (pos 7) ∷ []) (2 ∷ 7 ∷ []) []) ∷
    U (R (pos 16777217) (minus 1) (pos 32522012) (pos 24486388)) 256 0 ((pos 32522011) ∷ (minus 3) ∷ (minus 3096639) ∷ (minus 22926886) ∷ (pos 33554431) ∷ (minus 26327833) ∷ [])
    (returned 0 0 0 ((pos 7) ∷ (pos 7) ∷ []) (7 ∷ []) []) ∷
    C (R (pos 0) (pos 0) (pos 1) (pos 1)) 256 256 ((pos 2) ∷ (pos 0) ∷ (pos 0) ∷ (pos 3) ∷ (pos 0) ∷ (pos 0) ∷ (pos 0) ∷ (pos 0) ∷ (minus 1) ∷ (minus 2) ∷ (minus 2) ∷ (minus 1) ∷ (minus 1) ∷ (pos 1) ∷ (pos 0) ∷ (minus 2) ∷ [])
    (returned 1 4 0 ((pos 1) ∷ (pos 1) ∷ (pos 0) ∷ (pos 1) ∷ (pos 0) ∷ (pos 0) ∷ (pos 1) ∷ (pos 0) ∷ (pos 7) ∷ (pos 7) ∷ []) (4 ∷ 7 ∷ []) ((pos 0) ∷ (pos 1) ∷ (pos 0) ∷ (pos 0) ∷ (pos 0) ∷ (pos 1) ∷ (pos 0) ∷ (pos 0) ∷ (pos 1) ∷ (pos 0) ∷ (pos 1) ∷ (pos 1) ∷ [])) ∷
    U (R (pos 0) (pos 0) (pos 10) (pos 10)) 0 256 ((pos 1) ∷ (pos 10) ∷ (pos 9) ∷ (pos 5) ∷ (pos 5) ∷ (pos 0) ∷ [])
    (returned 1 3 0 ((pos 1) ∷ (pos 10) ∷ (pos 9) ∷ (pos 5) ∷ (pos 5) ∷ (pos 0) ∷ (pos 7) ∷ (pos 7) ∷ []) (3 ∷ 7 ∷ []) []) ∷
    C (R (pos 0) (pos 0) (pos 8) (pos 8)) 256 256 ((pos 9) ∷ (pos 7) ∷ (pos 0) ∷ (pos 7) ∷ (minus 1) ∷ (pos 7) ∷ [])
    (returned 0 0 0 ((pos 7) ∷ (pos 7) ∷ []) (7 ∷ []) ((pos 0) ∷ (pos 7) ∷ (pos 8) ∷ (pos 7) ∷ (pos 0) ∷ (pos 7) ∷ [])) ∷
    C (R (minus 176) (minus 151) (pos 136) (minus 101)) 256 256 ((pos 300) ∷ (minus 116) ∷ (pos 365) ∷ (pos 22) ∷ (pos 352) ∷ (pos 205) ∷ (pos 241) ∷ (pos 389) ∷ (pos 31) ∷ (pos 525) ∷ (minus 250) ∷ (pos 562) ∷ (minus 553) ∷ (pos 468) ∷ (minus 819) ∷ (pos 237) ∷ (minus 983) ∷ (minus 116) ∷ [])
    (returned 1 4 0 ((minus 176) ∷ (minus 101) ∷ (minus 176) ∷ (minus 116) ∷ (pos 136) ∷ (minus 116) ∷ (pos 136) ∷ (minus 101) ∷ (pos 7) ∷ (pos 7) ∷ []) (4 ∷ 7 ∷ []) ((minus 176) ∷ (minus 116) ∷ (pos 136) ∷ (minus 116) ∷ (pos 136) ∷ (minus 101) ∷ (minus 176) ∷ (minus 101) ∷ [])) ∷
    []

drawings1 : map shown table1 ≡ map (λ c. c.expected) table1
unfolding at_end get_segment_intersection edge_intersection side_intersection get_intersection start_locs_are_clockwise at_vertex scan_pass scan_answer scan_loop point_in_polygon path1_contains_path2 get_bounds_path get_location determinant numerator fraction working_of crossing_of point_at intersection cross_product_sign is_collinear cross_product_three_points cross_product_is_negative is_clockwise_dir set_owner set_edge set_next set_prev set_results set_edge_list ring unlink add_to_edge struck uncouple_edge own_from set_new_owner drop_collinear_pass drop_collinear assign_side assign_edges check_ring check_from check_edges enter_all arena_of straighten_pass straighten points_from get_path get_paths clip_walked execute sheet_refusal early_refusal delivered answered clip_closed clip_open filled_part is_present first_off_edge line_through line_cross line_from line_passes line_walk_from walk_open pieces longer_than_one execute_lines seek relink regroup keep_one keep_both keep_each settle rejoin one_turn turns_from tidy_edges add add_all push_start_loc next_side next_outside add_corner_prev_curr add_corner_loc add_corners push_start_locs next_inside get_next_location second_search remain_outside enter pass_to pass_through leave cross_boundary add_round retrace close_outline last_off pass_from passes surround after_while walk_from walk_closed walked_outline lib.Ieee.add of_int sub mul div neg to_signed eq lt le
drawings1 = refl

abbrev table2 : List Case
table2 =
    C (R (minus 18) (minus 313) (pos 588) (pos 63)) 256 256 ((pos 224) ∷ (minus 308) ∷ (pos 224) ∷ (minus 308) ∷ (minus 7) ∷ (minus 124) ∷ (minus 135) ∷ (minus 390) ∷ (pos 152) ∷ (minus 455) ∷ (pos 152) ∷ (minus 455) ∷ (pos 152) ∷ (minus 161) ∷ (pos 152) ∷ (minus 161) ∷ (minus 135) ∷ (minus 226) ∷ (minus 7) ∷ (minus 492) ∷ (pos 224) ∷ (minus 308) ∷ [])
    (returned 1 9 0 ((minus 18) ∷ (minus 313) ∷ (pos 217) ∷ (minus 313) ∷ (pos 224) ∷ (minus 308) ∷ (minus 7) ∷ (minus 124) ∷ (minus 18) ∷ (minus 146) ∷ (minus 18) ∷ (minus 313) ∷ (pos 152) ∷ (minus 313) ∷ (pos 152) ∷ (minus 161) ∷ (minus 18) ∷ (minus 199) ∷ (pos 7) ∷ (pos 7) ∷ []) (9 ∷ 7 ∷ []) ((pos 224) ∷ (minus 308) ∷ (minus 7) ∷ (minus 124) ∷ (minus 18) ∷ (minus 146) ∷ (minus 18) ∷ (minus 313) ∷ (pos 152) ∷ (minus 313) ∷ (pos 152) ∷ (minus 161) ∷ (minus 18) ∷ (minus 199) ∷ (minus 18) ∷ (minus 313) ∷ (pos 217) ∷ (minus 313) ∷ (pos 224) ∷ (minus 308) ∷ [])) ∷
    U (R (pos 0) (pos 0) (pos 7) (pos 6)) 256 256 ((pos 1) ∷ (pos 1) ∷ (pos 3) ∷ (pos 1) ∷ (pos 3) ∷ (pos 6) ∷ [])
    (returned 1 3 0 ((pos 1) ∷ (pos 1) ∷ (pos 3) ∷ (pos 1) ∷ (pos 3) ∷ (pos 6) ∷ (pos 7) ∷ (pos 7) ∷ []) (3 ∷ 7 ∷ []) []) ∷
    L (R (pos 0) (pos 0) (pos 6) (pos 9)) 256 ((pos 3) ∷ (pos 4) ∷ (pos 0) ∷ (pos 0) ∷ (minus 2) ∷ (pos 12) ∷ (pos 7) ∷ (pos 10) ∷ (pos 6) ∷ (pos 9) ∷ (pos 7) ∷ (minus 1) ∷ [])
    (returned 1 2 0 ((pos 3) ∷ (pos 4) ∷ (pos 0) ∷ (pos 0) ∷ (pos 7) ∷ (pos 7) ∷ []) (2 ∷ 7 ∷ []) []) ∷
    L (R (minus 368) (pos 397) (minus 191) (pos 1084)) 0 ((minus 338) ∷ (pos 194) ∷ (minus 651) ∷ (minus 865) ∷ (minus 67) ∷ (minus 215) ∷ (minus 274) ∷ (minus 25) ∷ (minus 768) ∷ (pos 36) ∷ (minus 576) ∷ (minus 155) ∷ (pos 438) ∷ (minus 376) ∷ (minus 370) ∷ (pos 57) ∷ (pos 911) ∷ (minus 624) ∷ (pos 519) ∷ (pos 869) ∷ (pos 519) ∷ (pos 869) ∷ (pos 878) ∷ (minus 177) ∷ [])
    (returned 0 0 0 ((pos 7) ∷ (pos 7) ∷ []) (7 ∷ []) []) ∷
    L (R (minus 82) (minus 154) (pos 133) (pos 30)) 256 ((pos 207) ∷ (pos 737) ∷ (minus 813) ∷ (pos 145) ∷ (pos 365) ∷ (pos 170) ∷ [])
    (returned 0 0 0 ((pos 7) ∷ (pos 7) ∷ []) (7 ∷ []) []) ∷
    C (R (pos 263) (pos 456) (pos 838) (pos 1074)) 256 256 ((pos 535) ∷ (pos 78) ∷ (minus 210) ∷ (pos 92) ∷ (minus 989) ∷ (minus 510) ∷ (pos 901) ∷ (pos 973) ∷ (pos 702) ∷ (pos 135) ∷ (pos 131) ∷ (minus 595) ∷ (pos 337) ∷ (minus 520) ∷ [])
    (returned 1 5 0 ((pos 263) ∷ (pos 456) ∷ (pos 263) ∷ (pos 472) ∷ (pos 838) ∷ (pos 923) ∷ (pos 838) ∷ (pos 707) ∷ (pos 778) ∷ (pos 456) ∷ (pos 7) ∷ (pos 7) ∷ []) (5 ∷ 7 ∷ []) ((pos 263) ∷ (pos 472) ∷ (pos 838) ∷ (pos 923) ∷ (pos 838) ∷ (pos 707) ∷ (pos 778) ∷ (pos 456) ∷ (pos 263) ∷ (pos 456) ∷ [])) ∷
    C (R (pos 0) (pos 0) (pos 3) (pos 2)) 256 256 ((pos 1) ∷ (pos 2) ∷ (pos 3) ∷ (pos 0) ∷ (pos 3) ∷ (pos 0) ∷ (pos 3) ∷ (pos 1) ∷ (pos 1) ∷ (pos 1) ∷ (pos 5) ∷ (pos 0) ∷ (pos 4) ∷ (pos 4) ∷ (pos 0) ∷ (pos 0) ∷ (pos 1) ∷ (minus 1) ∷ (pos 0) ∷ (pos 1) ∷ [])
    (returned 1 9 1 ((pos 2) ∷ (pos 2) ∷ (pos 0) ∷ (pos 0) ∷ (pos 0) ∷ (pos 1) ∷ (pos 1) ∷ (pos 2) ∷ (pos 3) ∷ (pos 0) ∷ (pos 3) ∷ (pos 1) ∷ (pos 1) ∷ (pos 1) ∷ (pos 3) ∷ (pos 0) ∷ (pos 3) ∷ (pos 2) ∷ (pos 7) ∷ (pos 7) ∷ []) (9 ∷ 7 ∷ []) ((pos 0) ∷ (pos 1) ∷ (pos 1) ∷ (pos 2) ∷ (pos 3) ∷ (pos 0) ∷ (pos 3) ∷ (pos 1) ∷ (pos 1) ∷ (pos 1) ∷ (pos 3) ∷ (pos 0) ∷ (pos 3) ∷ (pos 2) ∷ (pos 2) ∷ (pos 2) ∷ (pos 0) ∷ (pos 0) ∷ (pos 3) ∷ (pos 0) ∷ (pos 0) ∷ (pos 0) ∷ (pos 0) ∷ (pos 1) ∷ [])) ∷
    L (R (pos 363) (minus 491) (pos 755) (pos 86)) 0 ((pos 273) ∷ (pos 298) ∷ (minus 481) ∷ (minus 584) ∷ (pos 232) ∷ (minus 925) ∷ (pos 213) ∷ (minus 273) ∷ (minus 179) ∷ (pos 170) ∷ (minus 102) ∷ (pos 648) ∷ (minus 932) ∷ (minus 994) ∷ (pos 954) ∷ (minus 887) ∷ (pos 702) ∷ (pos 656) ∷ (minus 863) ∷ (minus 959) ∷ (pos 330) ∷ (pos 72) ∷ (pos 870) ∷ (pos 971) ∷ (minus 689) ∷ (pos 46) ∷ [])
    (returned 0 0 0 ((pos 7) ∷ (pos 7) ∷ []) (7 ∷ []) []) ∷
    C (R (pos 453) (pos 45) (pos 758) (pos 378)) 256 256 ((pos 436) ∷ (pos 491) ∷ (pos 1048) ∷ (pos 491) ∷ (pos 1048) ∷ (minus 19) ∷ (pos 538) ∷ (minus 19) ∷ (pos 538) ∷ (pos 389) ∷ (pos 538) ∷ (pos 389) ∷ (pos 946) ∷ (pos 389) ∷ (pos 946) ∷ (pos 83) ∷ (pos 946) ∷ (pos 83) ∷ (pos 640) ∷ (pos 83) ∷ (pos 640) ∷ (pos 287) ∷ (pos 640) ∷ (pos 287) ∷ (pos 844) ∷ (pos 287) ∷ (pos 844) ∷ (pos 185) ∷ [])
    (returned 1 11 0 ((pos 758) ∷ (pos 287) ∷ (pos 758) ∷ (pos 249) ∷ (pos 586) ∷ (pos 378) ∷ (pos 758) ∷ (pos 378) ∷ (pos 758) ∷ (pos 45) ∷ (pos 538) ∷ (pos 45) ∷ (pos 538) ∷ (pos 378) ∷ (pos 758) ∷ (pos 378) ∷ (pos 758) ∷ (pos 83) ∷ (pos 640) ∷ (pos 83) ∷ (pos 640) ∷ (pos 287) ∷ (pos 7) ∷ (pos 7) ∷ []) (11 ∷ 7 ∷ []) ((pos 758) ∷ (pos 249) ∷ (pos 586) ∷ (pos 378) ∷ (pos 758) ∷ (pos 378) ∷ (pos 758) ∷ (pos 45) ∷ (pos 538) ∷ (pos 45) ∷ (pos 538) ∷ (pos 378) ∷ (pos 758) ∷ (pos 378) ∷ (pos 758) ∷ (pos 83) ∷ (pos 640) ∷ (pos 83) ∷ (pos 640) ∷ (pos 287) ∷ (pos 758) ∷ (pos 287) ∷ [])) ∷
    U (R (pos 62) (pos 478) (pos 553) (pos 911)) 256 0 ((pos 130) ∷ (minus 47) ∷ (pos 75) ∷ (pos 346) ∷ (minus 691) ∷ (minus 200) ∷ (minus 967) ∷ (minus 767) ∷ (minus 967) ∷ (minus 767) ∷ (pos 854) ∷ (pos 119) ∷ [])
    (returned 0 0 0 ((pos 7) ∷ (pos 7) ∷ []) (7 ∷ []) []) ∷
    L (R (pos 0) (pos 0) (pos 4) (pos 7)) 3 ((pos 5) ∷ (pos 8) ∷ (pos 0) ∷ (pos 8) ∷ (pos 0) ∷ (pos 9) ∷ (pos 3) ∷ (pos 9) ∷ (pos 3) ∷ (pos 6) ∷ (pos 6) ∷ (pos 6) ∷ (pos 6) ∷ (pos 7) ∷ (pos 6) ∷ (minus 2) ∷ (pos 5) ∷ (pos 8) ∷ [])
    (returned 1 3 0 ((pos 3) ∷ (pos 7) ∷ (pos 3) ∷ (pos 6) ∷ (pos 4) ∷ (pos 6) ∷ (pos 7) ∷ (pos 7) ∷ []) (3 ∷ 7 ∷ []) []) ∷
    L (R (minus 251) (pos 137) (pos 268) (pos 804)) 256 ((pos 663) ∷ (pos 40) ∷ (pos 663) ∷ (pos 76) ∷ (pos 591) ∷ (pos 76) ∷ (pos 591) ∷ (pos 4) ∷ (pos 699) ∷ (pos 4) ∷ (pos 699) ∷ (pos 112) ∷ (pos 555) ∷ (pos 112) ∷ (pos 555) ∷ (minus 32) ∷ (pos 735) ∷ (minus 32) ∷ (pos 735) ∷ (pos 148) ∷ (pos 519) ∷ (pos 148) ∷ (pos 519) ∷ (minus 68) ∷ [])
    (returned 0 0 0 ((pos 7) ∷ (pos 7) ∷ []) (7 ∷ []) []) ∷
    C (R (pos 33554431) (minus 1) (pos 33554432) (pos 17410772)) 256 256 ((pos 33554432) ∷ (minus 1) ∷ (pos 19285416) ∷ (minus 12603270) ∷ (pos 19285416) ∷ (minus 12603270) ∷ (pos 33554431) ∷ (pos 4524331) ∷ (pos 33554431) ∷ (minus 2) ∷ (pos 33554431) ∷ (minus 2) ∷ (minus 22432761) ∷ (minus 11396109) ∷ (minus 22432761) ∷ (minus 11396109) ∷ (pos 33554431) ∷ (minus 33554431) ∷ (pos 33554432) ∷ (minus 3) ∷ [])
    (returned 0 0 1 ((pos 7) ∷ (pos 7) ∷ []) (7 ∷ []) ((pos 33554431) ∷ (pos 4524331) ∷ (pos 33554431) ∷ (minus 1) ∷ (pos 33554432) ∷ (minus 1) ∷ (pos 33554431) ∷ (minus 1) ∷ [])) ∷
    C (R (pos 0) (pos 0) (pos 8) (pos 6)) 5 0 ((pos 9) ∷ (minus 1) ∷ (pos 0) ∷ (minus 1) ∷ (pos 0) ∷ (pos 7) ∷ (pos 0) ∷ (pos 7) ∷ (pos 0) ∷ (pos 7) ∷ (pos 0) ∷ (pos 5) ∷ (pos 0) ∷ (pos 5) ∷ (pos 0) ∷ (pos 6) ∷ (pos 0) ∷ (pos 6) ∷ (pos 1) ∷ (pos 6) ∷ (pos 1) ∷ (pos 6) ∷ (pos 1) ∷ (pos 6) ∷ (pos 1) ∷ (pos 6) ∷ (pos 1) ∷ (pos 0) ∷ (pos 8) ∷ (pos 0) ∷ [])
    (returned 1 4 0 ((pos 0) ∷ (pos 6) ∷ (pos 1) ∷ (pos 6) ∷ (pos 1) ∷ (pos 0) ∷ (pos 0) ∷ (pos 0) ∷ (pos 7) ∷ (pos 7) ∷ []) (4 ∷ 7 ∷ []) ((pos 1) ∷ (pos 6) ∷ (pos 1) ∷ (pos 0) ∷ (pos 8) ∷ (pos 0) ∷ (pos 0) ∷ (pos 0) ∷ (pos 0) ∷ (pos 6) ∷ [])) ∷
    C (R (pos 0) (pos 0) (pos 5) (pos 8)) 9 256 ((minus 2) ∷ (pos 7) ∷ (minus 2) ∷ (pos 8) ∷ (pos 2) ∷ (pos 8) ∷ (pos 2) ∷ (pos 1) ∷ (pos 4) ∷ (pos 1) ∷ (pos 0) ∷ (pos 1) ∷ (pos 0) ∷ (pos 4) ∷ (minus 1) ∷ (pos 4) ∷ (pos 5) ∷ (pos 4) ∷ (pos 6) ∷ (pos 4) ∷ (pos 6) ∷ (pos 4) ∷ [])
    (returned 1 7 0 ((pos 0) ∷ (pos 1) ∷ (pos 0) ∷ (pos 4) ∷ (pos 5) ∷ (pos 4) ∷ (pos 0) ∷ (pos 6) ∷ (pos 0) ∷ (pos 8) ∷ (pos 2) ∷ (pos 8) ∷ (pos 2) ∷ (pos 1) ∷ (pos 7) ∷ (pos 7) ∷ []) (7 ∷ 7 ∷ []) ((pos 5) ∷ (pos 4) ∷ (pos 0) ∷ (pos 6) ∷ (pos 0) ∷ (pos 8) ∷ (pos 2) ∷ (pos 8) ∷ (pos 2) ∷ (pos 1) ∷ (pos 4) ∷ (pos 1) ∷ (pos 0) ∷ (pos 1) ∷ (pos 0) ∷ (pos 4) ∷ (pos 5) ∷ (pos 4) ∷ [])) ∷
    []

drawings2 : map shown table2 ≡ map (λ c. c.expected) table2
unfolding at_end get_segment_intersection edge_intersection side_intersection get_intersection start_locs_are_clockwise at_vertex scan_pass scan_answer scan_loop point_in_polygon path1_contains_path2 get_bounds_path get_location determinant numerator fraction working_of crossing_of point_at intersection cross_product_sign is_collinear cross_product_three_points cross_product_is_negative is_clockwise_dir set_owner set_edge set_next set_prev set_results set_edge_list ring unlink add_to_edge struck uncouple_edge own_from set_new_owner drop_collinear_pass drop_collinear assign_side assign_edges check_ring check_from check_edges enter_all arena_of straighten_pass straighten points_from get_path get_paths clip_walked execute sheet_refusal early_refusal delivered answered clip_closed clip_open filled_part is_present first_off_edge line_through line_cross line_from line_passes line_walk_from walk_open pieces longer_than_one execute_lines seek relink regroup keep_one keep_both keep_each settle rejoin one_turn turns_from tidy_edges add add_all push_start_loc next_side next_outside add_corner_prev_curr add_corner_loc add_corners push_start_locs next_inside get_next_location second_search remain_outside enter pass_to pass_through leave cross_boundary add_round retrace close_outline last_off pass_from passes surround after_while walk_from walk_closed walked_outline lib.Ieee.add of_int sub mul div neg to_signed eq lt le
drawings2 = refl

abbrev table3 : List Case
table3 =
    C (R (pos 0) (pos 0) (pos 6) (pos 4)) 256 256 ((pos 8) ∷ (pos 4) ∷ (pos 6) ∷ (pos 4) ∷ (pos 0) ∷ (pos 4) ∷ (minus 1) ∷ (pos 4) ∷ (minus 1) ∷ (pos 3) ∷ (minus 1) ∷ (pos 4) ∷ (minus 1) ∷ (pos 6) ∷ (minus 1) ∷ (pos 5) ∷ (minus 1) ∷ (pos 5) ∷ (minus 1) ∷ (pos 3) ∷ (minus 1) ∷ (pos 0) ∷ (minus 1) ∷ (minus 2) ∷ (pos 6) ∷ (minus 2) ∷ (pos 6) ∷ (minus 2) ∷ (pos 0) ∷ (minus 2) ∷ [])
    (returned 1 5 0 ((pos 0) ∷ (pos 0) ∷ (pos 2) ∷ (pos 0) ∷ (pos 6) ∷ (pos 2) ∷ (pos 6) ∷ (pos 4) ∷ (pos 0) ∷ (pos 4) ∷ (pos 7) ∷ (pos 7) ∷ []) (5 ∷ 7 ∷ []) ((pos 2) ∷ (pos 0) ∷ (pos 6) ∷ (pos 2) ∷ (pos 6) ∷ (pos 4) ∷ (pos 0) ∷ (pos 4) ∷ (pos 0) ∷ (pos 0) ∷ (pos 6) ∷ (pos 0) ∷ (pos 0) ∷ (pos 0) ∷ [])) ∷
    U (R (pos 322) (minus 465) (pos 534) (minus 394)) 256 256 ((minus 159) ∷ (pos 320) ∷ (minus 159) ∷ (pos 320) ∷ (minus 227) ∷ (pos 418) ∷ (minus 182) ∷ (pos 938) ∷ (minus 638) ∷ (minus 749) ∷ (minus 159) ∷ (pos 320) ∷ [])
    (returned 0 0 0 ((pos 7) ∷ (pos 7) ∷ []) (7 ∷ []) []) ∷
    C (R (pos 0) (pos 0) (pos 60) (pos 60)) 256 256 ((minus 1) ∷ (pos 3) ∷ (pos 0) ∷ (pos 3) ∷ (minus 2) ∷ (pos 3) ∷ (pos 7) ∷ (pos 4) ∷ (minus 5) ∷ (pos 35) ∷ (minus 7) ∷ (pos 38) ∷ [])
    (returned 1 3 0 ((pos 0) ∷ (pos 22) ∷ (pos 0) ∷ (pos 3) ∷ (pos 7) ∷ (pos 4) ∷ (pos 7) ∷ (pos 7) ∷ []) (3 ∷ 7 ∷ []) ((pos 0) ∷ (pos 3) ∷ (pos 7) ∷ (pos 4) ∷ (pos 0) ∷ (pos 22) ∷ [])) ∷
    C (R (pos 0) (pos 0) (pos 60) (pos 60)) 11 5 ((pos 1) ∷ (pos 55) ∷ (pos 0) ∷ (pos 63) ∷ (pos 30) ∷ (pos 59) ∷ (pos 30) ∷ (pos 66) ∷ (pos 28) ∷ (pos 62) ∷ (pos 29) ∷ (pos 59) ∷ (pos 30) ∷ (pos 68) ∷ (minus 4) ∷ (pos 52) ∷ (minus 5) ∷ (pos 57) ∷ (minus 2) ∷ (pos 60) ∷ (minus 3) ∷ (pos 59) ∷ (minus 4) ∷ (pos 64) ∷ (minus 3) ∷ (pos 52) ∷ (pos 30) ∷ (pos 56) ∷ [])
    (refusal 8 ((pos 1) ∷ (pos 55) ∷ (pos 0) ∷ (pos 60) ∷ (pos 22) ∷ (pos 60) ∷ (pos 30) ∷ (pos 59) ∷ (pos 30) ∷ (pos 60) ∷ (pos 28) ∷ (pos 60) ∷ (pos 29) ∷ (pos 59) ∷ (pos 29) ∷ (pos 60) ∷ (pos 13) ∷ (pos 60) ∷ (pos 0) ∷ (pos 53) ∷ (pos 0) ∷ (pos 52) ∷ (pos 30) ∷ (pos 56) ∷ [])) ∷
    C (R (pos 206) (pos 112) (pos 804) (pos 251)) 256 256 ((pos 1144) ∷ (pos 261) ∷ (pos 972) ∷ (pos 623) ∷ (pos 472) ∷ (pos 538) ∷ (pos 399) ∷ (minus 70) ∷ (pos 1057) ∷ (minus 362) ∷ (pos 1602) ∷ (pos 261) ∷ (pos 1114) ∷ (pos 1058) ∷ (pos 103) ∷ (pos 807) ∷ (pos 29) ∷ (minus 339) ∷ (pos 1199) ∷ (minus 797) ∷ [])
    (returned 1 8 0 ((pos 804) ∷ (pos 251) ∷ (pos 437) ∷ (pos 251) ∷ (pos 420) ∷ (pos 112) ∷ (pos 804) ∷ (pos 112) ∷ (pos 804) ∷ (pos 251) ∷ (pos 206) ∷ (pos 251) ∷ (pos 206) ∷ (pos 112) ∷ (pos 804) ∷ (pos 112) ∷ (pos 7) ∷ (pos 7) ∷ []) (8 ∷ 7 ∷ []) ((pos 437) ∷ (pos 251) ∷ (pos 420) ∷ (pos 112) ∷ (pos 804) ∷ (pos 112) ∷ (pos 804) ∷ (pos 251) ∷ (pos 206) ∷ (pos 251) ∷ (pos 206) ∷ (pos 112) ∷ (pos 804) ∷ (pos 112) ∷ (pos 804) ∷ (pos 251) ∷ [])) ∷
    L (R (pos 0) (pos 2) (pos 3) (pos 4)) 2 ((pos 4) ∷ (pos 0) ∷ (pos 4) ∷ (pos 2) ∷ (pos 3) ∷ (pos 0) ∷ (pos 2) ∷ (pos 3) ∷ (pos 5) ∷ (minus 1) ∷ (pos 4) ∷ (minus 1) ∷ (pos 2) ∷ (pos 0) ∷ (pos 4) ∷ (pos 3) ∷ (pos 3) ∷ (minus 1) ∷ (pos 3) ∷ (pos 5) ∷ [])
    (refusal 8 []) ∷
    L (R (pos 33554431) (pos 7) (pos 33554432) (pos 23213556)) 4 ((pos 5118016) ∷ (pos 22766627) ∷ (minus 3914849) ∷ (minus 24800413) ∷ (pos 33554432) ∷ (pos 7) ∷ (pos 33554432) ∷ (pos 7) ∷ (pos 975879) ∷ (pos 33554431) ∷ (pos 33554432) ∷ (pos 23213556) ∷ (minus 31067880) ∷ (pos 33554431) ∷ (minus 24022945) ∷ (minus 33554431) ∷ (pos 6154924) ∷ (pos 16005400) ∷ (pos 25885872) ∷ (minus 3124406) ∷ [])
    (refusal 8 []) ∷
    C (R (pos 0) (pos 0) (pos 60) (pos 60)) 256 256 ((pos 2) ∷ (pos 8) ∷ (pos 3) ∷ (pos 9) ∷ (pos 54) ∷ (pos 9) ∷ (pos 56) ∷ (pos 0) ∷ (pos 57) ∷ (pos 0) ∷ (pos 61) ∷ (pos 0) ∷ (pos 60) ∷ (minus 2) ∷ (pos 59) ∷ (minus 6) ∷ [])
    (returned 1 5 0 ((pos 56) ∷ (pos 0) ∷ (pos 34) ∷ (pos 0) ∷ (pos 2) ∷ (pos 8) ∷ (pos 3) ∷ (pos 9) ∷ (pos 54) ∷ (pos 9) ∷ (pos 7) ∷ (pos 7) ∷ []) (5 ∷ 7 ∷ []) ((pos 34) ∷ (pos 0) ∷ (pos 2) ∷ (pos 8) ∷ (pos 3) ∷ (pos 9) ∷ (pos 54) ∷ (pos 9) ∷ (pos 56) ∷ (pos 0) ∷ (pos 57) ∷ (pos 0) ∷ (pos 60) ∷ (pos 0) ∷ [])) ∷
    U (R (minus 268) (pos 97) (pos 177) (pos 129)) 256 256 ((minus 346) ∷ (minus 38) ∷ (minus 767) ∷ (minus 742) ∷ [])
    (returned 0 0 0 ((pos 7) ∷ (pos 7) ∷ []) (7 ∷ []) []) ∷
    L (R (pos 0) (pos 0) (pos 8) (pos 12)) 12 ((minus 1) ∷ (pos 13) ∷ (pos 0) ∷ (pos 12) ∷ (minus 1) ∷ (pos 12) ∷ (minus 2) ∷ (pos 12) ∷ (minus 2) ∷ (minus 2) ∷ (pos 8) ∷ (pos 1) ∷ (pos 1) ∷ (pos 0) ∷ (pos 0) ∷ (pos 6) ∷ (pos 4) ∷ (pos 13) ∷ (pos 8) ∷ (pos 6) ∷ (pos 0) ∷ (pos 1) ∷ [])
    (returned 6 12 0 ((pos 4) ∷ (pos 0) ∷ (pos 8) ∷ (pos 1) ∷ (pos 8) ∷ (pos 1) ∷ (pos 1) ∷ (pos 0) ∷ (pos 1) ∷ (pos 0) ∷ (pos 0) ∷ (pos 6) ∷ (pos 0) ∷ (pos 6) ∷ (pos 3) ∷ (pos 12) ∷ (pos 4) ∷ (pos 12) ∷ (pos 8) ∷ (pos 6) ∷ (pos 8) ∷ (pos 6) ∷ (pos 0) ∷ (pos 1) ∷ (pos 7) ∷ (pos 7) ∷ []) (2 ∷ 2 ∷ 2 ∷ 2 ∷ 2 ∷ 2 ∷ 7 ∷ []) []) ∷
    C (R (pos 33554431) (minus 33554432) (pos 33554432) (minus 16294742)) 256 256 ((minus 14241735) ∷ (pos 26606844) ∷ (minus 33554431) ∷ (minus 11145844) ∷ (pos 26278334) ∷ (pos 24723824) ∷ (minus 33554431) ∷ (pos 11066389) ∷ (pos 29646039) ∷ (minus 25412711) ∷ (pos 33554432) ∷ (minus 16294741) ∷ (minus 13142338) ∷ (minus 21999408) ∷ (pos 18566252) ∷ (minus 33554432) ∷ [])
    (returned 0 0 0 ((pos 7) ∷ (pos 7) ∷ []) (7 ∷ []) ((pos 33554431) ∷ (minus 16294743) ∷ (pos 33554431) ∷ (minus 16294742) ∷ [])) ∷
    C (R (pos 208) (pos 127) (pos 621) (pos 586)) 256 256 ((pos 838) ∷ (pos 568) ∷ (pos 466) ∷ (pos 737) ∷ (pos 581) ∷ (pos 346) ∷ (pos 801) ∷ (pos 689) ∷ (pos 398) ∷ (pos 631) ∷ (pos 706) ∷ (pos 364) ∷ (pos 706) ∷ (pos 772) ∷ (pos 398) ∷ (pos 505) ∷ (pos 802) ∷ (pos 447) ∷ (pos 581) ∷ (pos 790) ∷ (pos 466) ∷ (pos 399) ∷ [])
    (returned 1 15 0 ((pos 466) ∷ (pos 399) ∷ (pos 621) ∷ (pos 469) ∷ (pos 621) ∷ (pos 586) ∷ (pos 510) ∷ (pos 586) ∷ (pos 581) ∷ (pos 346) ∷ (pos 621) ∷ (pos 408) ∷ (pos 621) ∷ (pos 586) ∷ (pos 449) ∷ (pos 586) ∷ (pos 621) ∷ (pos 437) ∷ (pos 621) ∷ (pos 586) ∷ (pos 491) ∷ (pos 586) ∷ (pos 398) ∷ (pos 505) ∷ (pos 621) ∷ (pos 472) ∷ (pos 621) ∷ (pos 586) ∷ (pos 521) ∷ (pos 586) ∷ (pos 7) ∷ (pos 7) ∷ []) (15 ∷ 7 ∷ []) ((pos 621) ∷ (pos 469) ∷ (pos 621) ∷ (pos 586) ∷ (pos 510) ∷ (pos 586) ∷ (pos 581) ∷ (pos 346) ∷ (pos 621) ∷ (pos 408) ∷ (pos 621) ∷ (pos 586) ∷ (pos 449) ∷ (pos 586) ∷ (pos 621) ∷ (pos 437) ∷ (pos 621) ∷ (pos 586) ∷ (pos 491) ∷ (pos 586) ∷ (pos 398) ∷ (pos 505) ∷ (pos 621) ∷ (pos 472) ∷ (pos 621) ∷ (pos 586) ∷ (pos 521) ∷ (pos 586) ∷ (pos 466) ∷ (pos 399) ∷ [])) ∷
    U (R (minus 284) (pos 391) (minus 188) (pos 727)) 256 0 ((pos 1092) ∷ (minus 453) ∷ (pos 1092) ∷ (minus 353) ∷ (pos 892) ∷ (minus 353) ∷ (pos 892) ∷ (minus 553) ∷ (pos 1192) ∷ (minus 553) ∷ (pos 1192) ∷ (minus 253) ∷ (pos 792) ∷ (minus 253) ∷ (pos 792) ∷ (minus 653) ∷ (pos 1292) ∷ (minus 653) ∷ (pos 1292) ∷ (minus 153) ∷ [])
    (returned 0 0 0 ((pos 7) ∷ (pos 7) ∷ []) (7 ∷ []) []) ∷
    U (R (pos 442) (pos 375) (pos 751) (pos 668)) 256 0 ((minus 1377) ∷ (pos 1091) ∷ (minus 465) ∷ (pos 1091) ∷ (minus 465) ∷ (pos 407) ∷ (minus 1149) ∷ (pos 407) ∷ (minus 1149) ∷ (pos 863) ∷ (minus 693) ∷ (pos 863) ∷ (minus 693) ∷ (pos 635) ∷ [])
    (returned 0 0 0 ((pos 7) ∷ (pos 7) ∷ []) (7 ∷ []) []) ∷
    C (R (pos 16777217) (pos 33554431) (pos 32105172) (pos 33554432)) 256 2 ((pos 11488995) ∷ (pos 33554432) ∷ (pos 33554432) ∷ (pos 33554431) ∷ (pos 14498321) ∷ (minus 26458293) ∷ (minus 14717340) ∷ (pos 9321780) ∷ (pos 32105172) ∷ (pos 33554431) ∷ (minus 20809783) ∷ (minus 273199) ∷ [])
    (returned 0 0 2 ((pos 7) ∷ (pos 7) ∷ []) (7 ∷ []) ((pos 16777217) ∷ (pos 33554431) ∷ (pos 32105172) ∷ (pos 33554431) ∷ (pos 16777217) ∷ (pos 33554431) ∷ (pos 32105172) ∷ (pos 33554431) ∷ (pos 32105172) ∷ (pos 33554432) ∷ (pos 32105172) ∷ (pos 33554431) ∷ (pos 16777217) ∷ (pos 33554431) ∷ [])) ∷
    []

drawings3 : map shown table3 ≡ map (λ c. c.expected) table3
unfolding at_end get_segment_intersection edge_intersection side_intersection get_intersection start_locs_are_clockwise at_vertex scan_pass scan_answer scan_loop point_in_polygon path1_contains_path2 get_bounds_path get_location determinant numerator fraction working_of crossing_of point_at intersection cross_product_sign is_collinear cross_product_three_points cross_product_is_negative is_clockwise_dir set_owner set_edge set_next set_prev set_results set_edge_list ring unlink add_to_edge struck uncouple_edge own_from set_new_owner drop_collinear_pass drop_collinear assign_side assign_edges check_ring check_from check_edges enter_all arena_of straighten_pass straighten points_from get_path get_paths clip_walked execute sheet_refusal early_refusal delivered answered clip_closed clip_open filled_part is_present first_off_edge line_through line_cross line_from line_passes line_walk_from walk_open pieces longer_than_one execute_lines seek relink regroup keep_one keep_both keep_each settle rejoin one_turn turns_from tidy_edges add add_all push_start_loc next_side next_outside add_corner_prev_curr add_corner_loc add_corners push_start_locs next_inside get_next_location second_search remain_outside enter pass_to pass_through leave cross_boundary add_round retrace close_outline last_off pass_from passes surround after_while walk_from walk_closed walked_outline lib.Ieee.add of_int sub mul div neg to_signed eq lt le
drawings3 = refl

abbrev table4 : List Case
table4 =
    C (R (pos 0) (pos 0) (pos 5) (pos 4)) 4 256 ((pos 6) ∷ (minus 2) ∷ (pos 0) ∷ (pos 0) ∷ (pos 0) ∷ (pos 6) ∷ (pos 5) ∷ (pos 5) ∷ [])
    (returned 1 4 0 ((pos 5) ∷ (pos 0) ∷ (pos 0) ∷ (pos 0) ∷ (pos 0) ∷ (pos 4) ∷ (pos 5) ∷ (pos 4) ∷ (pos 7) ∷ (pos 7) ∷ []) (4 ∷ 7 ∷ []) ((pos 0) ∷ (pos 0) ∷ (pos 0) ∷ (pos 4) ∷ (pos 5) ∷ (pos 4) ∷ (pos 5) ∷ (pos 0) ∷ [])) ∷
    L (R (pos 564000) (minus 3576000) (pos 4884000) (minus 1140000)) 256 ((pos 14604000) ∷ (pos 2508000) ∷ (pos 9784206) ∷ (pos 8262092) ∷ (pos 9784206) ∷ (pos 8262092) ∷ (pos 3272342) ∷ (pos 4513447) ∷ (pos 5838000) ∷ (minus 2546270) ∷ (pos 13228941) ∷ (minus 1242876) ∷ (pos 13228941) ∷ (pos 6258876) ∷ (pos 5838001) ∷ (pos 7562270) ∷ (pos 5838001) ∷ (pos 7562270) ∷ (pos 3272342) ∷ (pos 502553) ∷ (pos 9784206) ∷ (minus 3246092) ∷ (pos 9784206) ∷ (minus 3246092) ∷ (pos 14604000) ∷ (pos 2508000) ∷ [])
    (returned 0 0 0 ((pos 7) ∷ (pos 7) ∷ []) (7 ∷ []) []) ∷
    L (R (minus 744000) (minus 4608000) (pos 1140000) (pos 1188000)) 1 ((minus 15012461) ∷ (minus 16722825) ∷ (minus 15012461) ∷ (minus 16722825) ∷ (pos 4240137) ∷ (pos 9755524) ∷ (pos 4240137) ∷ (minus 22979524) ∷ (minus 15012461) ∷ (pos 3498825) ∷ (pos 16116000) ∷ (minus 6612000) ∷ [])
    (refusal 8 []) ∷
    L (R (pos 0) (pos 0) (pos 60) (pos 60)) 256 ((pos 2) ∷ (pos 9) ∷ (minus 5) ∷ (pos 8) ∷ (pos 0) ∷ (pos 11) ∷ (minus 5) ∷ (pos 10) ∷ [])
    (returned 1 2 0 ((pos 2) ∷ (pos 9) ∷ (pos 0) ∷ (pos 8) ∷ (pos 7) ∷ (pos 7) ∷ []) (2 ∷ 7 ∷ []) []) ∷
    C (R (pos 0) (pos 0) (pos 60) (pos 60)) 256 256 ((pos 57) ∷ (pos 5) ∷ (pos 56) ∷ (pos 8) ∷ (pos 57) ∷ (pos 7) ∷ (pos 60) ∷ (pos 9) ∷ (pos 67) ∷ (pos 31) ∷ (pos 60) ∷ (pos 18) ∷ (pos 68) ∷ (pos 17) ∷ (pos 60) ∷ (pos 19) ∷ (pos 53) ∷ (pos 23) ∷ (pos 60) ∷ (pos 26) ∷ (pos 62) ∷ (pos 26) ∷ (pos 60) ∷ (pos 19) ∷ (pos 62) ∷ (pos 21) ∷ (pos 55) ∷ (pos 1) ∷ (pos 67) ∷ (minus 5) ∷ (pos 65) ∷ (minus 7) ∷ [])
    (returned 2 11 3 ((pos 60) ∷ (pos 15) ∷ (pos 55) ∷ (pos 1) ∷ (pos 57) ∷ (pos 0) ∷ (pos 60) ∷ (pos 0) ∷ (pos 57) ∷ (pos 5) ∷ (pos 56) ∷ (pos 8) ∷ (pos 57) ∷ (pos 7) ∷ (pos 60) ∷ (pos 9) ∷ (pos 60) ∷ (pos 19) ∷ (pos 53) ∷ (pos 23) ∷ (pos 60) ∷ (pos 26) ∷ (pos 7) ∷ (pos 7) ∷ []) (8 ∷ 3 ∷ 7 ∷ []) ((pos 60) ∷ (pos 0) ∷ (pos 57) ∷ (pos 5) ∷ (pos 56) ∷ (pos 8) ∷ (pos 57) ∷ (pos 7) ∷ (pos 60) ∷ (pos 9) ∷ (pos 60) ∷ (pos 19) ∷ (pos 53) ∷ (pos 23) ∷ (pos 60) ∷ (pos 26) ∷ (pos 60) ∷ (pos 15) ∷ (pos 55) ∷ (pos 1) ∷ (pos 57) ∷ (pos 0) ∷ (pos 60) ∷ (pos 0) ∷ [])) ∷
    C (R (pos 0) (pos 0) (pos 10) (pos 3)) 11 0 ((pos 5) ∷ (pos 4) ∷ (pos 9) ∷ (minus 1) ∷ (pos 10) ∷ (minus 1) ∷ (pos 9) ∷ (minus 1) ∷ (minus 2) ∷ (pos 1) ∷ (pos 12) ∷ (pos 3) ∷ (pos 11) ∷ (pos 1) ∷ (pos 12) ∷ (pos 3) ∷ (pos 10) ∷ (pos 1) ∷ (pos 10) ∷ (minus 1) ∷ (minus 1) ∷ (pos 5) ∷ (pos 10) ∷ (minus 1) ∷ [])
    (refusal 8 ((pos 9) ∷ (pos 0) ∷ (pos 6) ∷ (pos 3) ∷ (pos 5) ∷ (pos 3) ∷ (pos 8) ∷ (pos 0) ∷ (pos 3) ∷ (pos 0) ∷ (pos 0) ∷ (pos 0) ∷ (pos 0) ∷ (pos 1) ∷ (pos 10) ∷ (pos 2) ∷ (pos 10) ∷ (pos 0) ∷ (pos 8) ∷ (pos 0) ∷ (pos 2) ∷ (pos 3) ∷ (pos 8) ∷ (pos 0) ∷ [])) ∷
    C (R (pos 16777217) (pos 33554431) (pos 31162479) (pos 33554432)) 256 256 ((pos 33554432) ∷ (minus 33554431) ∷ (pos 8985584) ∷ (pos 32651486) ∷ (pos 31162480) ∷ (pos 33554430) ∷ (pos 31162480) ∷ (pos 33554430) ∷ (pos 3864985) ∷ (minus 4173931) ∷ (pos 33554431) ∷ (pos 24331414) ∷ (pos 31162479) ∷ (pos 33554432) ∷ (pos 7464148) ∷ (pos 31722121) ∷ (pos 7464148) ∷ (pos 31722121) ∷ (pos 26333392) ∷ (pos 29575722) ∷ (pos 5664676) ∷ (pos 23447472) ∷ (pos 5664676) ∷ (pos 23447472) ∷ (pos 33554432) ∷ (minus 29012388) ∷ (minus 29375426) ∷ (minus 7844656) ∷ (pos 7659197) ∷ (minus 3334200) ∷ (pos 33554432) ∷ (minus 33554431) ∷ [])
    (returned 1 3 0 ((pos 31162479) ∷ (pos 33554431) ∷ (pos 31162479) ∷ (pos 33554432) ∷ (pos 31162466) ∷ (pos 33554431) ∷ (pos 7) ∷ (pos 7) ∷ []) (3 ∷ 7 ∷ []) ((pos 31162479) ∷ (pos 33554432) ∷ (pos 31162466) ∷ (pos 33554431) ∷ (pos 31162479) ∷ (pos 33554431) ∷ (pos 16777217) ∷ (pos 33554431) ∷ (pos 31162479) ∷ (pos 33554431) ∷ (pos 16777217) ∷ (pos 33554431) ∷ (pos 31162479) ∷ (pos 33554431) ∷ [])) ∷
    C (R (pos 0) (pos 0) (pos 1) (pos 19)) 10 256 ((pos 1) ∷ (pos 21) ∷ (pos 2) ∷ (pos 19) ∷ (pos 0) ∷ (pos 20) ∷ (pos 1) ∷ (pos 21) ∷ (pos 0) ∷ (pos 0) ∷ (pos 2) ∷ (minus 1) ∷ (pos 0) ∷ (pos 18) ∷ (pos 0) ∷ (pos 21) ∷ (minus 2) ∷ (pos 21) ∷ (minus 2) ∷ (minus 2) ∷ (pos 2) ∷ (pos 18) ∷ (pos 1) ∷ (minus 2) ∷ [])
    (returned 1 8 0 ((pos 0) ∷ (pos 8) ∷ (pos 1) ∷ (pos 13) ∷ (pos 1) ∷ (pos 19) ∷ (pos 0) ∷ (pos 19) ∷ (pos 0) ∷ (pos 0) ∷ (pos 1) ∷ (pos 0) ∷ (pos 1) ∷ (pos 8) ∷ (pos 0) ∷ (pos 18) ∷ (pos 7) ∷ (pos 7) ∷ []) (8 ∷ 7 ∷ []) ((pos 1) ∷ (pos 0) ∷ (pos 1) ∷ (pos 19) ∷ (pos 0) ∷ (pos 19) ∷ (pos 0) ∷ (pos 0) ∷ (pos 1) ∷ (pos 0) ∷ (pos 1) ∷ (pos 8) ∷ (pos 0) ∷ (pos 18) ∷ (pos 0) ∷ (pos 8) ∷ (pos 1) ∷ (pos 13) ∷ (pos 1) ∷ (pos 0) ∷ [])) ∷
    L (R (pos 0) (pos 0) (pos 0) (pos 3)) 0 ((minus 1) ∷ (pos 2) ∷ (minus 2) ∷ (pos 3) ∷ (minus 1) ∷ (pos 1) ∷ (pos 0) ∷ (pos 3) ∷ (pos 0) ∷ (pos 4) ∷ (pos 1) ∷ (pos 0) ∷ (minus 1) ∷ (minus 1) ∷ (pos 0) ∷ (pos 0) ∷ (pos 0) ∷ (pos 1) ∷ (minus 2) ∷ (pos 4) ∷ (pos 1) ∷ (pos 4) ∷ [])
    (returned 0 0 0 ((pos 7) ∷ (pos 7) ∷ []) (7 ∷ []) []) ∷
    L (R (pos 0) (pos 0) (pos 4) (pos 8)) 256 ((pos 6) ∷ (pos 0) ∷ (pos 6) ∷ (pos 7) ∷ (pos 0) ∷ (pos 7) ∷ (pos 0) ∷ (pos 7) ∷ (pos 0) ∷ (pos 7) ∷ (pos 0) ∷ (pos 10) ∷ (pos 0) ∷ (pos 8) ∷ (pos 4) ∷ (pos 8) ∷ (pos 2) ∷ (pos 8) ∷ (pos 4) ∷ (pos 8) ∷ [])
    (returned 2 4 0 ((pos 4) ∷ (pos 7) ∷ (pos 0) ∷ (pos 7) ∷ (pos 0) ∷ (pos 8) ∷ (pos 4) ∷ (pos 8) ∷ (pos 7) ∷ (pos 7) ∷ []) (2 ∷ 2 ∷ 7 ∷ []) []) ∷
    C (R (pos 307) (minus 198) (pos 317) (pos 247)) 256 256 ((pos 434) ∷ (minus 113) ∷ (pos 434) ∷ (pos 13) ∷ (pos 182) ∷ (pos 13) ∷ (pos 182) ∷ (minus 239) ∷ (pos 560) ∷ (minus 239) ∷ (pos 560) ∷ (pos 139) ∷ (pos 56) ∷ (pos 139) ∷ (pos 56) ∷ (minus 365) ∷ (pos 686) ∷ (minus 365) ∷ (pos 686) ∷ (pos 265) ∷ (minus 70) ∷ (pos 265) ∷ [])
    (returned 1 12 0 ((pos 307) ∷ (pos 247) ∷ (pos 307) ∷ (minus 17) ∷ (pos 317) ∷ (minus 25) ∷ (pos 317) ∷ (pos 13) ∷ (pos 307) ∷ (pos 13) ∷ (pos 307) ∷ (minus 198) ∷ (pos 317) ∷ (minus 198) ∷ (pos 317) ∷ (pos 139) ∷ (pos 307) ∷ (pos 139) ∷ (pos 307) ∷ (minus 198) ∷ (pos 317) ∷ (minus 198) ∷ (pos 317) ∷ (pos 247) ∷ (pos 7) ∷ (pos 7) ∷ []) (12 ∷ 7 ∷ []) ((pos 307) ∷ (minus 17) ∷ (pos 317) ∷ (minus 25) ∷ (pos 317) ∷ (pos 13) ∷ (pos 307) ∷ (pos 13) ∷ (pos 307) ∷ (minus 198) ∷ (pos 317) ∷ (minus 198) ∷ (pos 317) ∷ (pos 139) ∷ (pos 307) ∷ (pos 139) ∷ (pos 307) ∷ (minus 198) ∷ (pos 317) ∷ (minus 198) ∷ (pos 317) ∷ (pos 247) ∷ (pos 307) ∷ (pos 247) ∷ [])) ∷
    C (R (minus 5736000) (pos 3312000) (pos 792000) (pos 4596000)) 256 256 ((minus 6684000) ∷ (pos 5304000) ∷ (minus 6684000) ∷ (pos 5304000) ∷ (minus 6689648) ∷ (pos 8130352) ∷ (minus 9516000) ∷ (pos 10480000) ∷ (minus 13996941) ∷ (pos 9784941) ∷ (minus 17036000) ∷ (pos 5304000) ∷ (minus 15651529) ∷ (minus 831529) ∷ (minus 9516000) ∷ (minus 4560000) ∷ (minus 1725883) ∷ (minus 2486117) ∷ (minus 1725883) ∷ (minus 2486117) ∷ (pos 2692000) ∷ (pos 5304000) ∷ (pos 2692000) ∷ (pos 5304000) ∷ (minus 6684000) ∷ (pos 5304000) ∷ [])
    (returned 1 4 0 ((minus 5736000) ∷ (pos 4596000) ∷ (minus 5736000) ∷ (pos 3312000) ∷ (pos 792000) ∷ (pos 3312000) ∷ (pos 792000) ∷ (pos 4596000) ∷ (pos 7) ∷ (pos 7) ∷ []) (4 ∷ 7 ∷ []) ((minus 5736000) ∷ (pos 3312000) ∷ (pos 792000) ∷ (pos 3312000) ∷ (pos 792000) ∷ (pos 4596000) ∷ (minus 5736000) ∷ (pos 4596000) ∷ [])) ∷
    L (R (pos 0) (pos 0) (pos 9) (pos 6)) 256 ((pos 9) ∷ (pos 6) ∷ (pos 11) ∷ (pos 6) ∷ (pos 8) ∷ (minus 2) ∷ (pos 10) ∷ (pos 8) ∷ (pos 9) ∷ (pos 5) ∷ (pos 9) ∷ (pos 5) ∷ (pos 10) ∷ (pos 1) ∷ (pos 9) ∷ (pos 0) ∷ (pos 9) ∷ (pos 0) ∷ (pos 8) ∷ (minus 1) ∷ (pos 0) ∷ (minus 2) ∷ (pos 9) ∷ (pos 0) ∷ (pos 11) ∷ (pos 6) ∷ (minus 2) ∷ (pos 6) ∷ [])
    (returned 2 4 0 ((pos 9) ∷ (pos 0) ∷ (pos 8) ∷ (pos 0) ∷ (pos 8) ∷ (pos 0) ∷ (pos 9) ∷ (pos 3) ∷ (pos 7) ∷ (pos 7) ∷ []) (2 ∷ 2 ∷ 7 ∷ []) []) ∷
    L (R (pos 16777217) (minus 33554432) (pos 19204969) (pos 13556577)) 256 ((minus 18680198) ∷ (pos 10459564) ∷ (minus 33554432) ∷ (minus 9150508) ∷ (minus 15056976) ∷ (pos 11454806) ∷ (pos 16777215) ∷ (minus 33554432) ∷ (pos 16777218) ∷ (minus 33554432) ∷ (minus 4734491) ∷ (pos 33554431) ∷ (minus 29604297) ∷ (pos 21011009) ∷ (pos 19204968) ∷ (minus 33554432) ∷ (pos 17991093) ∷ (pos 13556576) ∷ (pos 33554431) ∷ (minus 15495725) ∷ [])
    (returned 3 7 0 ((pos 16777218) ∷ (minus 33554432) ∷ (pos 16777217) ∷ (minus 33554428) ∷ (pos 16777217) ∷ (minus 30840371) ∷ (pos 19204968) ∷ (minus 33554432) ∷ (pos 19204968) ∷ (minus 33554432) ∷ (pos 17991093) ∷ (pos 13556576) ∷ (pos 19204969) ∷ (pos 11290616) ∷ (pos 7) ∷ (pos 7) ∷ []) (2 ∷ 2 ∷ 3 ∷ 7 ∷ []) []) ∷
    U (R (pos 16777217) (minus 1) (pos 21132486) (pos 2900110)) 256 256 ((minus 31282701) ∷ (minus 4197799) ∷ (pos 28989996) ∷ (minus 49909) ∷ (pos 28989996) ∷ (minus 9223372036854775808) ∷ (minus 3143524) ∷ (minus 10505176) ∷ (minus 11832110) ∷ (minus 33554432) ∷ (pos 21132487) ∷ (minus 2) ∷ (pos 24649980) ∷ (pos 32043521) ∷ [])
    (refusal 7 []) ∷
    []

drawings4 : map shown table4 ≡ map (λ c. c.expected) table4
unfolding at_end get_segment_intersection edge_intersection side_intersection get_intersection start_locs_are_clockwise at_vertex scan_pass scan_answer scan_loop point_in_polygon path1_contains_path2 get_bounds_path get_location determinant numerator fraction working_of crossing_of point_at intersection cross_product_sign is_collinear cross_product_three_points cross_product_is_negative is_clockwise_dir set_owner set_edge set_next set_prev set_results set_edge_list ring unlink add_to_edge struck uncouple_edge own_from set_new_owner drop_collinear_pass drop_collinear assign_side assign_edges check_ring check_from check_edges enter_all arena_of straighten_pass straighten points_from get_path get_paths clip_walked execute sheet_refusal early_refusal delivered answered clip_closed clip_open filled_part is_present first_off_edge line_through line_cross line_from line_passes line_walk_from walk_open pieces longer_than_one execute_lines seek relink regroup keep_one keep_both keep_each settle rejoin one_turn turns_from tidy_edges add add_all push_start_loc next_side next_outside add_corner_prev_curr add_corner_loc add_corners push_start_locs next_inside get_next_location second_search remain_outside enter pass_to pass_through leave cross_boundary add_round retrace close_outline last_off pass_from passes surround after_while walk_from walk_closed walked_outline lib.Ieee.add of_int sub mul div neg to_signed eq lt le
drawings4 = refl
