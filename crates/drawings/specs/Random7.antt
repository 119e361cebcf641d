-- Drawings with the Rust's answers: what the entries answer and fill, and the walked outline.
-- Made by tools/tables.py from rows of compare's `drawings`. Assumes nothing.
use Rattle.std.specs.Prelude.{◌≡◌, refl, List, [], ◌∷◌, map, pos}
use Rattle.drawings.specs.Cases.{Case, C, U, L, R, minus, returned, refusal, shown}
use Rattle.plane.specs.Intersection.{at_end, get_segment_intersection, edge_intersection, side_intersection, get_intersection}
use Rattle.plane.specs.Locations.{start_locs_are_clockwise}
use Rattle.plane.specs.Polygon.{at_vertex, scan_pass, scan_answer, scan_loop, point_in_polygon, path1_contains_path2}
use Rattle.plane.specs.Rectangle.{get_bounds_path, get_location}
use Rattle.plane.specs.Segment.{determinant, numerator, fraction, working_of, crossing_of, point_at, intersection}
use Rattle.plane.specs.Signs.{cross_product_sign, is_collinear, cross_product_three_points, cross_product_is_negative, is_clockwise_dir}
use Rattle.reference.specs.Arena.{set_owner, set_edge, set_next, set_prev, set_results, set_edge_list, ring, unlink, add_to_edge, struck, uncouple_edge, own_from, set_new_owner, drop_collinear_pass, drop_collinear, assign_side, assign_edges, check_ring, check_from, check_edges}
use Rattle.reference.specs.Clip.{enter_all, arena_of, straighten_pass, straighten, points_from, get_path, get_paths, clip_walked, execute}
use Rattle.reference.specs.Entry.{sheet_refusal, early_refusal, delivered, answered, clip_closed, clip_open, filled_part, is_present}
use Rattle.reference.specs.Lines.{first_off_edge, line_through, line_cross, line_from, line_passes, line_walk_from, walk_open, pieces, longer_than_one, execute_lines}
use Rattle.reference.specs.Tidy.{seek, relink, regroup, keep_one, keep_both, keep_each, settle, rejoin, one_turn, turns_from, tidy_edges}
use Rattle.reference.specs.Walk.{add, add_all, push_start_loc, next_side, next_outside, add_corner_prev_curr, add_corner_loc, add_corners, push_start_locs, next_inside, get_next_location, second_search, remain_outside, enter, pass_to, pass_through, leave, cross_boundary, add_round, retrace, close_outline, last_off, pass_from, passes, surround, after_while, walk_from, walk_closed, walked_outline}
use lib.Ieee.{of_int, sub, mul, div, neg, to_signed, eq, lt, le}

abbrev table1 : List Case
table1 =
    C (R (minus 168) (minus 454) (pos 310) (pos 145)) 256 0 ((pos 346) ∷ (pos 963) ∷ (pos 138) ∷ (minus 72) ∷ (pos 431) ∷ (pos 183) ∷ (minus 44) ∷ (pos 207) ∷ (minus 819) ∷ (pos 498) ∷ [])
    (returned 1 4 0 ((pos 310) ∷ (pos 145) ∷ (pos 181) ∷ (pos 145) ∷ (pos 138) ∷ (minus 72) ∷ (pos 310) ∷ (pos 77) ∷ (pos 7) ∷ (pos 7) ∷ []) (4 ∷ 7 ∷ []) ((pos 181) ∷ (pos 145) ∷ (pos 138) ∷ (minus 72) ∷ (pos 310) ∷ (pos 77) ∷ (pos 310) ∷ (pos 145) ∷ (minus 168) ∷ (pos 145) ∷ (pos 310) ∷ (pos 145) ∷ [])) ∷
    L (R (minus 5148000) (pos 2112000) (minus 3684000) (pos 7764000)) 256 ((minus 1547719) ∷ (pos 7192954) ∷ (minus 3366444) ∷ (pos 10627092) ∷ (minus 7949488) ∷ (pos 9709504) ∷ (minus 8493065) ∷ (pos 4281248) ∷ (minus 2739857) ∷ (pos 1839766) ∷ (minus 2739857) ∷ (pos 1839766) ∷ (pos 1817281) ∷ (pos 7192954) ∷ (pos 1817281) ∷ (pos 7192954) ∷ (minus 2322133) ∷ (pos 13825508) ∷ (minus 10667372) ∷ (pos 11685284) ∷ (minus 11210949) ∷ (pos 2305468) ∷ (minus 1695547) ∷ (minus 1358649) ∷ (pos 5182281) ∷ (pos 7192954) ∷ (pos 5182281) ∷ (pos 7192954) ∷ (minus 1277823) ∷ (pos 17023924) ∷ (minus 1277823) ∷ (pos 17023924) ∷ (minus 1547719) ∷ (pos 7192954) ∷ [])
    (returned 1 2 0 ((minus 5148000) ∷ (pos 2861706) ∷ (minus 3684000) ∷ (pos 2240430) ∷ (pos 7) ∷ (pos 7) ∷ []) (2 ∷ 7 ∷ []) []) ∷
    L (R (pos 0) (minus 1) (pos 13374024) (pos 26263722)) 2 ((minus 30246985) ∷ (pos 33421209) ∷ (pos 0) ∷ (minus 1) ∷ (pos 71669) ∷ (minus 8325492) ∷ (pos 1420242) ∷ (minus 33554432) ∷ (pos 33554431) ∷ (minus 15334260) ∷ (minus 2) ∷ (pos 26263723) ∷ [])
    (refusal 8 []) ∷
    U (R (pos 152) (pos 106) (pos 799) (pos 789)) 256 256 ((pos 362) ∷ (pos 224) ∷ (pos 362) ∷ (pos 224) ∷ (pos 362) ∷ (pos 267) ∷ (pos 276) ∷ (pos 267) ∷ (pos 276) ∷ (pos 181) ∷ (pos 405) ∷ (pos 181) ∷ (pos 405) ∷ (pos 310) ∷ (pos 362) ∷ (pos 224) ∷ [])
    (returned 1 8 0 ((pos 362) ∷ (pos 224) ∷ (pos 362) ∷ (pos 224) ∷ (pos 362) ∷ (pos 267) ∷ (pos 276) ∷ (pos 267) ∷ (pos 276) ∷ (pos 181) ∷ (pos 405) ∷ (pos 181) ∷ (pos 405) ∷ (pos 310) ∷ (pos 362) ∷ (pos 224) ∷ (pos 7) ∷ (pos 7) ∷ []) (8 ∷ 7 ∷ []) []) ∷
    C (R (minus 323) (pos 406) (pos 112) (pos 896)) 256 256 ((pos 261) ∷ (minus 1560) ∷ (minus 1046) ∷ (minus 1371) ∷ (minus 1419) ∷ (minus 103) ∷ (minus 422) ∷ (pos 761) ∷ (pos 780) ∷ (pos 211) ∷ (pos 780) ∷ (minus 1109) ∷ (minus 422) ∷ (minus 1659) ∷ (minus 1419) ∷ (minus 795) ∷ (minus 1046) ∷ (pos 473) ∷ (pos 261) ∷ (pos 662) ∷ (pos 976) ∷ (minus 449) ∷ [])
    (returned 1 8 0 ((minus 323) ∷ (pos 406) ∷ (minus 323) ∷ (pos 715) ∷ (pos 112) ∷ (pos 516) ∷ (pos 112) ∷ (pos 406) ∷ (minus 323) ∷ (pos 406) ∷ (minus 323) ∷ (pos 577) ∷ (pos 112) ∷ (pos 640) ∷ (pos 112) ∷ (pos 406) ∷ (pos 7) ∷ (pos 7) ∷ []) (8 ∷ 7 ∷ []) ((minus 323) ∷ (pos 715) ∷ (pos 112) ∷ (pos 516) ∷ (pos 112) ∷ (pos 406) ∷ (minus 323) ∷ (pos 406) ∷ (minus 323) ∷ (pos 577) ∷ (pos 112) ∷ (pos 640) ∷ (pos 112) ∷ (pos 406) ∷ (minus 323) ∷ (pos 406) ∷ [])) ∷
    C (R (minus 33554432) (minus 20000001) (minus 12741945) (pos 27817611)) 6 256 ((pos 5710479) ∷ (pos 14495937) ∷ (minus 13336400) ∷ (pos 31014388) ∷ (minus 33554432) ∷ (pos 27817612) ∷ (minus 26087134) ∷ (minus 32932143) ∷ (minus 13669009) ∷ (minus 4925162) ∷ (minus 17833424) ∷ (pos 18374680) ∷ (minus 7944026) ∷ (pos 11221783) ∷ (pos 33554431) ∷ (minus 27575423) ∷ (pos 28761293) ∷ (pos 18720798) ∷ (pos 9053304) ∷ (minus 33554431) ∷ [])
    (refusal 8 ((minus 33554431) ∷ (pos 27817611) ∷ (minus 27676739) ∷ (minus 20000001) ∷ (minus 20353100) ∷ (minus 20000001) ∷ (minus 13669009) ∷ (minus 4925162) ∷ (minus 17833424) ∷ (pos 18374680) ∷ (minus 12741945) ∷ (pos 14692067) ∷ (minus 12741945) ∷ (pos 27817611) ∷ [])) ∷
    U (R (pos 244) (minus 439) (pos 355) (minus 345)) 256 256 ((pos 1130) ∷ (minus 664) ∷ (pos 1130) ∷ (minus 664) ∷ (pos 1006) ∷ (minus 468) ∷ (pos 760) ∷ (minus 532) ∷ (pos 745) ∷ (minus 807) ∷ (pos 1023) ∷ (minus 914) ∷ (pos 1225) ∷ (minus 664) ∷ (pos 1035) ∷ (minus 377) ∷ (pos 683) ∷ (minus 476) ∷ (pos 668) ∷ (minus 863) ∷ [])
    (returned 0 0 0 ((pos 7) ∷ (pos 7) ∷ []) (7 ∷ []) []) ∷
    L (R (pos 0) (pos 0) (pos 12) (pos 5)) 256 ((pos 0) ∷ (pos 6) ∷ (pos 6) ∷ (pos 5) ∷ (pos 1) ∷ (pos 0) ∷ [])
    (returned 1 2 0 ((pos 6) ∷ (pos 5) ∷ (pos 1) ∷ (pos 0) ∷ (pos 7) ∷ (pos 7) ∷ []) (2 ∷ 7 ∷ []) []) ∷
    C (R (pos 0) (pos 0) (pos 10) (pos 12)) 256 256 ((pos 11) ∷ (minus 1) ∷ (pos 1) ∷ (pos 1) ∷ (pos 11) ∷ (minus 1) ∷ (pos 10) ∷ (pos 13) ∷ (pos 9) ∷ (pos 1) ∷ [])
    (returned 1 4 0 ((pos 9) ∷ (pos 1) ∷ (pos 10) ∷ (pos 0) ∷ (pos 10) ∷ (pos 12) ∷ (pos 9) ∷ (pos 12) ∷ (pos 7) ∷ (pos 7) ∷ []) (4 ∷ 7 ∷ []) ((pos 10) ∷ (pos 0) ∷ (pos 6) ∷ (pos 0) ∷ (pos 1) ∷ (pos 1) ∷ (pos 6) ∷ (pos 0) ∷ (pos 10) ∷ (pos 0) ∷ (pos 10) ∷ (pos 12) ∷ (pos 9) ∷ (pos 12) ∷ (pos 9) ∷ (pos 1) ∷ [])) ∷
    C (R (pos 0) (pos 0) (pos 60) (pos 60)) 256 0 ((pos 56) ∷ (pos 4) ∷ (pos 60) ∷ (pos 7) ∷ (pos 60) ∷ (pos 8) ∷ (pos 57) ∷ (pos 10) ∷ (pos 57) ∷ (pos 10) ∷ (pos 60) ∷ (pos 9) ∷ (pos 68) ∷ (pos 12) ∷ (pos 69) ∷ (pos 1) ∷ (pos 60) ∷ (pos 24) ∷ [])
    (returned 1 6 0 ((pos 60) ∷ (pos 9) ∷ (pos 60) ∷ (pos 24) ∷ (pos 56) ∷ (pos 4) ∷ (pos 60) ∷ (pos 7) ∷ (pos 60) ∷ (pos 8) ∷ (pos 57) ∷ (pos 10) ∷ (pos 7) ∷ (pos 7) ∷ []) (6 ∷ 7 ∷ []) ((pos 60) ∷ (pos 24) ∷ (pos 56) ∷ (pos 4) ∷ (pos 60) ∷ (pos 7) ∷ (pos 60) ∷ (pos 8) ∷ (pos 57) ∷ (pos 10) ∷ (pos 60) ∷ (pos 9) ∷ [])) ∷
    L (R (minus 265) (pos 277) (minus 37) (pos 338)) 256 ((pos 30) ∷ (pos 159) ∷ (pos 30) ∷ (pos 171) ∷ (pos 6) ∷ (pos 171) ∷ (pos 6) ∷ (pos 147) ∷ (pos 42) ∷ (pos 147) ∷ (pos 42) ∷ (pos 183) ∷ (minus 6) ∷ (pos 183) ∷ (minus 6) ∷ (pos 135) ∷ (pos 54) ∷ (pos 135) ∷ (pos 54) ∷ (pos 195) ∷ (minus 18) ∷ (pos 195) ∷ (minus 18) ∷ (pos 123) ∷ (pos 66) ∷ (pos 123) ∷ (pos 66) ∷ (pos 207) ∷ [])
    (returned 0 0 0 ((pos 7) ∷ (pos 7) ∷ []) (7 ∷ []) []) ∷
    C (R (pos 33554431) (minus 20000001) (pos 33554432) (pos 11436242)) 5 256 ((pos 6061184) ∷ (pos 7040140) ∷ (minus 20209857) ∷ (pos 7856565) ∷ (pos 33554431) ∷ (minus 13702998) ∷ (pos 23545010) ∷ (pos 33554432) ∷ (pos 33554432) ∷ (pos 11436242) ∷ (pos 3897192) ∷ (pos 33296441) ∷ (minus 33554432) ∷ (pos 6530811) ∷ (minus 33554431) ∷ (pos 12258220) ∷ (pos 1067619) ∷ (minus 11507977) ∷ (pos 1067619) ∷ (minus 11507977) ∷ (pos 10561482) ∷ (minus 5629256) ∷ (pos 33554430) ∷ (pos 11436242) ∷ (pos 33554432) ∷ (minus 20000000) ∷ (pos 33554432) ∷ (minus 20000000) ∷ (pos 6061184) ∷ (pos 7040140) ∷ [])
    (refusal 8 ((pos 33554432) ∷ (pos 11436242) ∷ (pos 33554431) ∷ (pos 11436242) ∷ (pos 33554431) ∷ (minus 4281879) ∷ (pos 33554432) ∷ (minus 20000000) ∷ (pos 33554431) ∷ (minus 19999999) ∷ (pos 33554431) ∷ (pos 11436242) ∷ [])) ∷
    U (R (pos 1) (pos 2) (pos 0) (pos 3)) 0 256 ((pos 0) ∷ (pos 0) ∷ (pos 3) ∷ (pos 0) ∷ (pos 2) ∷ (pos 0) ∷ (pos 1) ∷ (pos 3) ∷ (pos 3) ∷ (pos 5) ∷ (minus 1) ∷ (pos 5) ∷ (pos 0) ∷ (pos 0) ∷ (pos 5) ∷ (minus 1) ∷ [])
    (returned 0 0 0 ((pos 7) ∷ (pos 7) ∷ []) (7 ∷ []) []) ∷
    C (R (pos 0) (pos 0) (pos 5) (pos 3)) 256 1 ((pos 0) ∷ (pos 6) ∷ (minus 2) ∷ (minus 2) ∷ (minus 2) ∷ (minus 2) ∷ (pos 4) ∷ (pos 3) ∷ (pos 5) ∷ (minus 1) ∷ (pos 2) ∷ (pos 3) ∷ (pos 8) ∷ (pos 3) ∷ [])
    (refusal 10 ((pos 0) ∷ (pos 0) ∷ (pos 4) ∷ (pos 3) ∷ (pos 4) ∷ (pos 0) ∷ (pos 2) ∷ (pos 3) ∷ (pos 5) ∷ (pos 3) ∷ (pos 0) ∷ (pos 3) ∷ (pos 0) ∷ (pos 0) ∷ [])) ∷
    C (R (pos 0) (pos 0) (pos 4) (pos 8)) 256 0 ((pos 5) ∷ (pos 0) ∷ (pos 4) ∷ (pos 8) ∷ (pos 0) ∷ (pos 7) ∷ (minus 2) ∷ (pos 11) ∷ (pos 0) ∷ (pos 9) ∷ (minus 2) ∷ (minus 3) ∷ [])
    (returned 1 4 0 ((pos 4) ∷ (pos 0) ∷ (pos 4) ∷ (pos 8) ∷ (pos 0) ∷ (pos 7) ∷ (pos 0) ∷ (pos 0) ∷ (pos 7) ∷ (pos 7) ∷ []) (4 ∷ 7 ∷ []) ((pos 4) ∷ (pos 8) ∷ (pos 0) ∷ (pos 7) ∷ (pos 0) ∷ (pos 0) ∷ (pos 4) ∷ (pos 0) ∷ [])) ∷
    []

drawings1 : map shown table1 ≡ map (λ c. c.expected) table1
unfolding at_end get_segment_intersection edge_intersection side_intersection get_intersection start_locs_are_clockwise at_vertex scan_pass scan_answer scan_loop point_in_polygon path1_contains_path2 get_bounds_path get_location determinant numerator fraction working_of crossing_of point_at intersection cross_product_sign is_collinear cross_product_three_points cross_product_is_negative is_clockwise_dir set_owner set_edge set_next set_prev set_results set_edge_list ring unlink add_to_edge struck uncouple_edge own_from set_new_owner drop_collinear_pass drop_collinear assign_side assign_edges check_ring check_from check_edges enter_all arena_of straighten_pass straighten points_from get_path get_paths clip_walked execute sheet_refusal early_refusal delivered answered clip_closed clip_open filled_part is_present first_off_edge line_through line_cross line_from line_passes line_walk_from walk_open pieces longer_than_one execute_lines seek relink regroup keep_one keep_both keep_each settle rejoin one_turn turns_from tidy_edges add add_all push_start_loc next_side next_outside add_corner_prev_curr add_corner_loc add_corners push_start_locs next_inside get_next_location second_search remain_outside enter pass_to pass_through leave cross_boundary add_round retrace close_outline last_off pass_from passes surround after_while walk_from walk_closed walked_outline lib.Ieee.add of_int sub mul div neg to_signed eq lt le
drawings1 = refl

abbrev table2 : List Case
table2 =
    C (R (pos 328) (pos 88) (pos 478) (pos 376)) 256 256 ((pos 619) ∷ (minus 295) ∷ (pos 78) ∷ (minus 217) ∷ (minus 77) ∷ (pos 308) ∷ (minus 77) ∷ (pos 308) ∷ (pos 337) ∷ (pos 666) ∷ (pos 834) ∷ (pos 438) ∷ (pos 834) ∷ (minus 108) ∷ (pos 337) ∷ (minus 336) ∷ (minus 77) ∷ (pos 22) ∷ (pos 78) ∷ (pos 547) ∷ (pos 78) ∷ (pos 547) ∷ (pos 619) ∷ (pos 625) ∷ (pos 619) ∷ (pos 625) ∷ (pos 916) ∷ (pos 165) ∷ [])
    (returned 0 0 0 ((pos 7) ∷ (pos 7) ∷ []) (7 ∷ []) []) ∷
    C (R (pos 115) (pos 245) (pos 432) (pos 654)) 256 0 ((pos 504) ∷ (pos 518) ∷ (pos 221) ∷ (pos 732) ∷ (pos 176) ∷ (pos 228) ∷ (pos 768) ∷ (pos 518) ∷ (pos 89) ∷ (pos 960) ∷ (pos 44) ∷ (pos 0) ∷ (pos 1032) ∷ (pos 518) ∷ (minus 43) ∷ (pos 1189) ∷ (minus 88) ∷ (minus 229) ∷ (pos 1296) ∷ (pos 518) ∷ (minus 175) ∷ (pos 1417) ∷ (minus 220) ∷ (minus 457) ∷ (pos 1560) ∷ (pos 518) ∷ [])
    (returned 1 18 0 ((pos 432) ∷ (pos 245) ∷ (pos 432) ∷ (pos 572) ∷ (pos 324) ∷ (pos 654) ∷ (pos 214) ∷ (pos 654) ∷ (pos 177) ∷ (pos 245) ∷ (pos 210) ∷ (pos 245) ∷ (pos 432) ∷ (pos 353) ∷ (pos 432) ∷ (pos 654) ∷ (pos 115) ∷ (pos 654) ∷ (pos 115) ∷ (pos 245) ∷ (pos 432) ∷ (pos 245) ∷ (pos 432) ∷ (pos 654) ∷ (pos 115) ∷ (pos 654) ∷ (pos 115) ∷ (pos 245) ∷ (pos 432) ∷ (pos 245) ∷ (pos 432) ∷ (pos 654) ∷ (pos 115) ∷ (pos 654) ∷ (pos 115) ∷ (pos 245) ∷ (pos 7) ∷ (pos 7) ∷ []) (18 ∷ 7 ∷ []) ((pos 432) ∷ (pos 572) ∷ (pos 324) ∷ (pos 654) ∷ (pos 214) ∷ (pos 654) ∷ (pos 177) ∷ (pos 245) ∷ (pos 210) ∷ (pos 245) ∷ (pos 432) ∷ (pos 353) ∷ (pos 432) ∷ (pos 654) ∷ (pos 115) ∷ (pos 654) ∷ (pos 115) ∷ (pos 245) ∷ (pos 432) ∷ (pos 245) ∷ (pos 432) ∷ (pos 654) ∷ (pos 115) ∷ (pos 654) ∷ (pos 115) ∷ (pos 245) ∷ (pos 432) ∷ (pos 245) ∷ (pos 432) ∷ (pos 654) ∷ (pos 115) ∷ (pos 654) ∷ (pos 115) ∷ (pos 245) ∷ (pos 432) ∷ (pos 245) ∷ [])) ∷
    C (R (pos 106) (minus 189) (pos 369) (pos 158)) 7 0 ((pos 107) ∷ (minus 935) ∷ (pos 125) ∷ (pos 974) ∷ (pos 462) ∷ (minus 802) ∷ (pos 7) ∷ (pos 925) ∷ (pos 932) ∷ (minus 579) ∷ [])
    (refusal 8 ((pos 114) ∷ (minus 189) ∷ (pos 117) ∷ (pos 158) ∷ (pos 279) ∷ (pos 158) ∷ (pos 345) ∷ (minus 189) ∷ (pos 300) ∷ (minus 189) ∷ (pos 209) ∷ (pos 158) ∷ (pos 369) ∷ (pos 158) ∷ (pos 369) ∷ (minus 189) ∷ [])) ∷
    C (R (pos 0) (pos 0) (pos 1) (pos 17)) 4 256 ((pos 0) ∷ (pos 16) ∷ (pos 1) ∷ (pos 0) ∷ (pos 0) ∷ (pos 0) ∷ (pos 1) ∷ (minus 2) ∷ [])
    (refusal 8 ((pos 0) ∷ (pos 0) ∷ (pos 0) ∷ (pos 16) ∷ (pos 1) ∷ (pos 0) ∷ (pos 0) ∷ (pos 0) ∷ (pos 1) ∷ (pos 0) ∷ [])) ∷
    L (R (pos 0) (pos 0) (pos 11) (pos 11)) 0 ((pos 0) ∷ (minus 2) ∷ (pos 1) ∷ (pos 0) ∷ [])
    (returned 0 0 0 ((pos 7) ∷ (pos 7) ∷ []) (7 ∷ []) []) ∷
    L (R (pos 375) (minus 300) (pos 492) (pos 337)) 0 ((pos 681) ∷ (minus 662) ∷ (pos 666) ∷ (minus 549) ∷ (minus 809) ∷ (minus 441) ∷ (minus 543) ∷ (pos 267) ∷ (minus 543) ∷ (pos 267) ∷ [])
    (returned 0 0 0 ((pos 7) ∷ (pos 7) ∷ []) (7 ∷ []) []) ∷
    L (R (pos 0) (pos 0) (pos 2) (pos 9)) 256 ((pos 0) ∷ (pos 10) ∷ (pos 2) ∷ (pos 9) ∷ (pos 2) ∷ (pos 8) ∷ (pos 4) ∷ (pos 4) ∷ (pos 3) ∷ (pos 11) ∷ (pos 2) ∷ (pos 1) ∷ (minus 2) ∷ (minus 2) ∷ (pos 1) ∷ (pos 8) ∷ (pos 2) ∷ (pos 0) ∷ (minus 2) ∷ (pos 4) ∷ (pos 4) ∷ (pos 1) ∷ (minus 2) ∷ (minus 1) ∷ (pos 0) ∷ (minus 2) ∷ [])
    (returned 4 10 0 ((pos 2) ∷ (pos 1) ∷ (pos 0) ∷ (pos 0) ∷ (pos 0) ∷ (pos 4) ∷ (pos 1) ∷ (pos 8) ∷ (pos 2) ∷ (pos 0) ∷ (pos 0) ∷ (pos 2) ∷ (pos 0) ∷ (pos 3) ∷ (pos 2) ∷ (pos 2) ∷ (pos 2) ∷ (pos 0) ∷ (pos 1) ∷ (pos 0) ∷ (pos 7) ∷ (pos 7) ∷ []) (2 ∷ 4 ∷ 2 ∷ 2 ∷ 7 ∷ []) []) ∷
    C (R (pos 33554431) (minus 33554432) (pos 33554432) (minus 1705408)) 256 256 ((pos 33554431) ∷ (pos 30626424) ∷ (pos 33554431) ∷ (pos 2064472) ∷ (pos 33554432) ∷ (minus 33554431) ∷ (minus 13076729) ∷ (pos 33554432) ∷ (pos 23949065) ∷ (pos 33554432) ∷ (pos 16430182) ∷ (minus 17386429) ∷ [])
    (returned 1 3 0 ((pos 33554432) ∷ (minus 33554431) ∷ (pos 33554431) ∷ (minus 33554429) ∷ (pos 33554431) ∷ (minus 1705408) ∷ (pos 7) ∷ (pos 7) ∷ []) (3 ∷ 7 ∷ []) ((pos 33554431) ∷ (minus 1705408) ∷ (pos 33554432) ∷ (minus 33554431) ∷ (pos 33554431) ∷ (minus 33554429) ∷ (pos 33554431) ∷ (minus 1705408) ∷ [])) ∷
    U (R (pos 1) (pos 2) (pos 4) (pos 3)) 256 256 ((pos 4) ∷ (minus 1) ∷ (pos 4) ∷ (pos 3) ∷ [])
    (returned 0 0 0 ((pos 7) ∷ (pos 7) ∷ []) (7 ∷ []) []) ∷
    L (R (pos 0) (pos 0) (pos 2) (pos 14)) 256 ((minus 2) ∷ (pos 14) ∷ (minus 2) ∷ (pos 14) ∷ (pos 0) ∷ (pos 7) ∷ (pos 0) ∷ (pos 14) ∷ (pos 4) ∷ (pos 14) ∷ (pos 3) ∷ (pos 0) ∷ (pos 1) ∷ (pos 0) ∷ (pos 1) ∷ (pos 0) ∷ (pos 2) ∷ (pos 7) ∷ (pos 2) ∷ (pos 7) ∷ (pos 1) ∷ (minus 2) ∷ (minus 2) ∷ (pos 14) ∷ [])
    (returned 4 8 0 ((pos 0) ∷ (pos 14) ∷ (pos 2) ∷ (pos 14) ∷ (pos 1) ∷ (pos 0) ∷ (pos 2) ∷ (pos 7) ∷ (pos 2) ∷ (pos 7) ∷ (pos 1) ∷ (pos 0) ∷ (pos 0) ∷ (pos 0) ∷ (pos 0) ∷ (pos 3) ∷ (pos 7) ∷ (pos 7) ∷ []) (2 ∷ 2 ∷ 2 ∷ 2 ∷ 7 ∷ []) []) ∷
    C (R (pos 156) (minus 17) (pos 578) (pos 483)) 1 256 ((pos 348) ∷ (minus 437) ∷ (minus 887) ∷ (minus 155) ∷ (pos 102) ∷ (minus 944) ∷ (minus 447) ∷ (pos 196) ∷ (minus 447) ∷ (minus 1070) ∷ (minus 447) ∷ (minus 1070) ∷ (pos 102) ∷ (pos 70) ∷ (minus 887) ∷ (minus 719) ∷ (pos 348) ∷ (minus 437) ∷ [])
    (refusal 8 []) ∷
    C (R (pos 0) (pos 0) (pos 5) (pos 8)) 256 256 ((pos 0) ∷ (minus 2) ∷ (pos 7) ∷ (minus 2) ∷ (pos 5) ∷ (minus 2) ∷ (pos 5) ∷ (pos 9) ∷ (pos 5) ∷ (pos 9) ∷ (pos 5) ∷ (pos 10) ∷ (pos 5) ∷ (minus 2) ∷ (pos 5) ∷ (minus 2) ∷ [])
    (returned 0 0 0 ((pos 7) ∷ (pos 7) ∷ []) (7 ∷ []) ((pos 5) ∷ (pos 0) ∷ (pos 5) ∷ (pos 8) ∷ (pos 5) ∷ (pos 0) ∷ [])) ∷
    C (R (pos 0) (pos 0) (pos 11) (pos 6)) 256 256 ((pos 0) ∷ (minus 2) ∷ (pos 13) ∷ (pos 1) ∷ (pos 0) ∷ (minus 2) ∷ (pos 11) ∷ (pos 3) ∷ (pos 10) ∷ (pos 8) ∷ (pos 11) ∷ (pos 3) ∷ (pos 11) ∷ (pos 3) ∷ (minus 1) ∷ (minus 1) ∷ (pos 11) ∷ (pos 3) ∷ (pos 11) ∷ (pos 3) ∷ (pos 0) ∷ (minus 2) ∷ [])
    (returned 0 0 2 ((pos 7) ∷ (pos 7) ∷ []) (7 ∷ []) ((pos 8) ∷ (pos 0) ∷ (pos 11) ∷ (pos 0) ∷ (pos 8) ∷ (pos 0) ∷ (pos 4) ∷ (pos 0) ∷ (pos 11) ∷ (pos 3) ∷ (pos 10) ∷ (pos 6) ∷ (pos 11) ∷ (pos 3) ∷ (pos 2) ∷ (pos 0) ∷ (pos 11) ∷ (pos 3) ∷ (pos 4) ∷ (pos 0) ∷ [])) ∷
    L (R (pos 0) (pos 0) (pos 0) (pos 4)) 256 ((pos 1) ∷ (minus 2) ∷ (pos 1) ∷ (pos 0) ∷ (minus 2) ∷ (pos 4) ∷ (pos 0) ∷ (pos 1) ∷ (pos 0) ∷ (pos 2) ∷ (pos 0) ∷ (pos 0) ∷ (pos 0) ∷ (pos 3) ∷ (pos 0) ∷ (pos 0) ∷ [])
    (returned 0 0 0 ((pos 7) ∷ (pos 7) ∷ []) (7 ∷ []) []) ∷
    C (R (pos 452) (pos 167) (pos 710) (pos 616)) 256 256 ((pos 874) ∷ (pos 229) ∷ (pos 552) ∷ (pos 453) ∷ (pos 519) ∷ (minus 52) ∷ (pos 1072) ∷ (pos 229) ∷ (pos 453) ∷ (pos 624) ∷ (pos 419) ∷ (minus 224) ∷ (pos 1271) ∷ (pos 229) ∷ (pos 354) ∷ (pos 796) ∷ (pos 320) ∷ (minus 395) ∷ (pos 1469) ∷ (pos 229) ∷ [])
    (returned 1 14 0 ((pos 710) ∷ (pos 167) ∷ (pos 710) ∷ (pos 343) ∷ (pos 552) ∷ (pos 453) ∷ (pos 533) ∷ (pos 167) ∷ (pos 710) ∷ (pos 167) ∷ (pos 710) ∷ (pos 460) ∷ (pos 465) ∷ (pos 616) ∷ (pos 452) ∷ (pos 616) ∷ (pos 452) ∷ (pos 167) ∷ (pos 710) ∷ (pos 167) ∷ (pos 710) ∷ (pos 575) ∷ (pos 645) ∷ (pos 616) ∷ (pos 452) ∷ (pos 616) ∷ (pos 452) ∷ (pos 167) ∷ (pos 7) ∷ (pos 7) ∷ []) (14 ∷ 7 ∷ []) ((pos 710) ∷ (pos 343) ∷ (pos 552) ∷ (pos 453) ∷ (pos 533) ∷ (pos 167) ∷ (pos 710) ∷ (pos 167) ∷ (pos 710) ∷ (pos 460) ∷ (pos 465) ∷ (pos 616) ∷ (pos 452) ∷ (pos 616) ∷ (pos 452) ∷ (pos 599) ∷ (pos 452) ∷ (pos 167) ∷ (pos 710) ∷ (pos 167) ∷ (pos 710) ∷ (pos 575) ∷ (pos 645) ∷ (pos 616) ∷ (pos 452) ∷ (pos 616) ∷ (pos 452) ∷ (pos 167) ∷ (pos 710) ∷ (pos 167) ∷ [])) ∷
    []

drawings2 : map shown table2 ≡ map (λ c. c.expected) table2
unfolding at_end get_segment_intersection edge_intersection side_intersection get_intersection start_locs_are_clockwise at_vertex scan_pass scan_answer scan_loop point_in_polygon path1_contains_path2 get_bounds_path get_location determinant numerator fraction working_of crossing_of point_at intersection cross_product_sign is_collinear cross_product_three_points cross_product_is_negative is_clockwise_dir set_owner set_edge set_next set_prev set_results set_edge_list ring unlink add_to_edge struck uncouple_edge own_from set_new_owner drop_collinear_pass drop_collinear assign_side assign_edges check_ring check_from check_edges enter_all arena_of straighten_pass straighten points_from get_path get_paths clip_walked execute sheet_refusal early_refusal delivered answered clip_closed clip_open filled_part is_present first_off_edge line_through line_cross line_from line_passes line_walk_from walk_open pieces longer_than_one execute_lines seek relink regroup keep_one keep_both keep_each settle rejoin one_turn turns_from tidy_edges add add_all push_start_loc next_side next_outside add_corner_prev_curr add_corner_loc add_corners push_start_locs next_inside get_next_location second_search remain_outside enter pass_to pass_through leave cross_boundary add_round retrace close_outline last_off pass_from passes surround after_while walk_from walk_closed walked_outline lib.Ieee.add of_int sub mul div neg to_signed eq lt le
drawings2 = refl

abbrev table3 : List Case
table3 =
    C (R (minus 33554432) (pos 0) (minus 5963399) (pos 16099485)) 256 0 ((pos 31234979) ∷ (minus 8810884) ∷ (minus 33554432) ∷ (pos 20123997) ∷ (minus 33554432) ∷ (minus 1) ∷ (minus 33554432) ∷ (pos 0) ∷ (minus 5963397) ∷ (minus 2) ∷ (minus 24733126) ∷ (minus 17816604) ∷ [])
    (returned 1 5 0 ((minus 5963399) ∷ (pos 0) ∷ (minus 5963399) ∷ (pos 7801871) ∷ (minus 24542963) ∷ (pos 16099485) ∷ (minus 33554432) ∷ (pos 16099485) ∷ (minus 33554432) ∷ (pos 0) ∷ (pos 7) ∷ (pos 7) ∷ []) (5 ∷ 7 ∷ []) ((minus 5963399) ∷ (pos 7801871) ∷ (minus 24542963) ∷ (pos 16099485) ∷ (minus 33554432) ∷ (pos 16099485) ∷ (minus 33554432) ∷ (pos 0) ∷ (minus 5963399) ∷ (pos 0) ∷ [])) ∷
    L (R (minus 288) (minus 308) (pos 393) (pos 273)) 256 ((pos 531) ∷ (minus 855) ∷ (minus 1142) ∷ (minus 312) ∷ (minus 108) ∷ (minus 1735) ∷ (minus 108) ∷ (pos 25) ∷ (minus 1142) ∷ (minus 1398) ∷ (pos 531) ∷ (minus 855) ∷ (minus 1142) ∷ (minus 312) ∷ (minus 108) ∷ (minus 1735) ∷ (minus 108) ∷ (pos 25) ∷ (minus 1142) ∷ (minus 1398) ∷ [])
    (returned 2 6 0 ((minus 108) ∷ (minus 308) ∷ (minus 108) ∷ (pos 25) ∷ (minus 288) ∷ (minus 222) ∷ (minus 108) ∷ (minus 308) ∷ (minus 108) ∷ (pos 25) ∷ (minus 288) ∷ (minus 222) ∷ (pos 7) ∷ (pos 7) ∷ []) (3 ∷ 3 ∷ 7 ∷ []) []) ∷
    L (R (pos 0) (pos 0) (pos 2) (pos 2)) 256 ((pos 1) ∷ (minus 1) ∷ (pos 4) ∷ (minus 1) ∷ (pos 4) ∷ (minus 1) ∷ (pos 4) ∷ (minus 2) ∷ (pos 4) ∷ (minus 2) ∷ (pos 2) ∷ (pos 1) ∷ (pos 2) ∷ (pos 2) ∷ (pos 2) ∷ (pos 0) ∷ (pos 2) ∷ (pos 0) ∷ (pos 4) ∷ (pos 0) ∷ (pos 1) ∷ (pos 0) ∷ [])
    (returned 0 0 0 ((pos 7) ∷ (pos 7) ∷ []) (7 ∷ []) []) ∷
    C (R (minus 25) (minus 226) (pos 505) (pos 23)) 256 256 ((minus 164) ∷ (minus 1664) ∷ (minus 684) ∷ (minus 581) ∷ (pos 486) ∷ (minus 315) ∷ (pos 486) ∷ (minus 1515) ∷ (minus 684) ∷ (minus 1249) ∷ (minus 164) ∷ (minus 166) ∷ (pos 777) ∷ (minus 915) ∷ [])
    (returned 0 0 0 ((pos 7) ∷ (pos 7) ∷ []) (7 ∷ []) []) ∷
    U (R (pos 3348000) (minus 3264000) (pos 5976000) (minus 648000)) 256 256 ((pos 16584000) ∷ (pos 3948000) ∷ (pos 7692000) ∷ (pos 5980941) ∷ (pos 14817962) ∷ (pos 295318) ∷ (pos 10855035) ∷ (pos 8509218) ∷ (pos 10855035) ∷ (minus 613218) ∷ (pos 14817962) ∷ (pos 7600682) ∷ (pos 7692000) ∷ (pos 1915059) ∷ [])
    (returned 0 0 0 ((pos 7) ∷ (pos 7) ∷ []) (7 ∷ []) []) ∷
    L (R (minus 960000) (pos 396000) (minus 276000) (pos 7104000)) 256 ((pos 29376000) ∷ (minus 1224000) ∷ (minus 3866400) ∷ (pos 6376072) ∷ (pos 22773735) ∷ (minus 14879414) ∷ (pos 7958483) ∷ (pos 15827939) ∷ (pos 7958483) ∷ (minus 18275939) ∷ (pos 22773735) ∷ (pos 12431414) ∷ (minus 3866400) ∷ (minus 8824072) ∷ [])
    (returned 2 4 0 ((minus 276000) ∷ (pos 5555213) ∷ (minus 960000) ∷ (pos 5711593) ∷ (minus 960000) ∷ (pos 4057129) ∷ (minus 276000) ∷ (pos 3511383) ∷ (pos 7) ∷ (pos 7) ∷ []) (2 ∷ 2 ∷ 7 ∷ []) []) ∷
    L (R (pos 0) (pos 16777217) (pos 1473489) (pos 21972851)) 256 ((pos 33554432) ∷ (pos 33554432) ∷ (minus 12475139) ∷ (minus 11374123) ∷ (minus 2452395) ∷ (minus 22121303) ∷ (pos 1473489) ∷ (pos 21972851) ∷ (pos 1) ∷ (pos 16777215) ∷ (pos 27488028) ∷ (minus 2739750) ∷ (minus 29460431) ∷ (pos 9254023) ∷ (minus 19273951) ∷ (minus 9993673) ∷ [])
    (returned 2 4 0 ((pos 1010900) ∷ (pos 16777217) ∷ (pos 1473489) ∷ (pos 21972851) ∷ (pos 1473489) ∷ (pos 21972851) ∷ (pos 1) ∷ (pos 16777217) ∷ (pos 7) ∷ (pos 7) ∷ []) (2 ∷ 2 ∷ 7 ∷ []) []) ∷
    U (R (pos 0) (pos 0) (pos 7) (pos 3)) 256 256 ((pos 1) ∷ (pos 0) ∷ (pos 8) ∷ (pos 0) ∷ [])
    (returned 0 0 0 ((pos 7) ∷ (pos 7) ∷ []) (7 ∷ []) []) ∷
    U (R (pos 2) (pos 1) (pos 3) (pos 3)) 0 256 []
    (returned 0 0 0 ((pos 7) ∷ (pos 7) ∷ []) (7 ∷ []) []) ∷
    C (R (pos 0) (pos 0) (pos 9) (pos 9)) 256 256 ((pos 10) ∷ (pos 8) ∷ (pos 0) ∷ (pos 9) ∷ (pos 1) ∷ (pos 1) ∷ (pos 9) ∷ (pos 0) ∷ (pos 9) ∷ (pos 8) ∷ (pos 0) ∷ (pos 10) ∷ (pos 9) ∷ (pos 1) ∷ (pos 9) ∷ (pos 9) ∷ (pos 1) ∷ (pos 8) ∷ [])
    (returned 1 10 0 ((pos 1) ∷ (pos 8) ∷ (pos 9) ∷ (pos 8) ∷ (pos 0) ∷ (pos 9) ∷ (pos 1) ∷ (pos 1) ∷ (pos 9) ∷ (pos 0) ∷ (pos 9) ∷ (pos 8) ∷ (pos 4) ∷ (pos 9) ∷ (pos 1) ∷ (pos 9) ∷ (pos 9) ∷ (pos 1) ∷ (pos 9) ∷ (pos 9) ∷ (pos 7) ∷ (pos 7) ∷ []) (10 ∷ 7 ∷ []) ((pos 9) ∷ (pos 8) ∷ (pos 0) ∷ (pos 9) ∷ (pos 1) ∷ (pos 1) ∷ (pos 9) ∷ (pos 0) ∷ (pos 9) ∷ (pos 8) ∷ (pos 4) ∷ (pos 9) ∷ (pos 1) ∷ (pos 9) ∷ (pos 9) ∷ (pos 1) ∷ (pos 9) ∷ (pos 9) ∷ (pos 1) ∷ (pos 8) ∷ [])) ∷
    C (R (pos 0) (pos 0) (pos 3) (pos 7)) 256 256 ((minus 3) ∷ (pos 9) ∷ (minus 3) ∷ (minus 3) ∷ (pos 5) ∷ (minus 3) ∷ (pos 3) ∷ (pos 8) ∷ [])
    (returned 1 4 0 ((pos 0) ∷ (pos 7) ∷ (pos 0) ∷ (pos 0) ∷ (pos 3) ∷ (pos 0) ∷ (pos 3) ∷ (pos 7) ∷ (pos 7) ∷ (pos 7) ∷ []) (4 ∷ 7 ∷ []) ((pos 0) ∷ (pos 0) ∷ (pos 3) ∷ (pos 0) ∷ (pos 3) ∷ (pos 7) ∷ (pos 0) ∷ (pos 7) ∷ [])) ∷
    C (R (pos 5808000) (minus 5172000) (pos 10104000) (pos 24000)) 256 256 ((pos 5372714) ∷ (minus 2813352) ∷ (pos 9048819) ∷ (minus 7869147) ∷ (pos 9048819) ∷ (minus 1618693) ∷ (pos 5372714) ∷ (minus 6674488) ∷ (pos 11316406) ∷ (minus 4743920) ∷ [])
    (returned 1 9 0 ((pos 10104000) ∷ (minus 5137721) ∷ (pos 10104000) ∷ (minus 4350118) ∷ (pos 5808000) ∷ (minus 2954737) ∷ (pos 5808000) ∷ (minus 3412006) ∷ (pos 7087703) ∷ (minus 5172000) ∷ (pos 9048819) ∷ (minus 5172000) ∷ (pos 9048819) ∷ (minus 1618693) ∷ (pos 6465183) ∷ (minus 5172000) ∷ (pos 9998464) ∷ (minus 5172000) ∷ (pos 7) ∷ (pos 7) ∷ []) (9 ∷ 7 ∷ []) ((pos 10104000) ∷ (minus 4350118) ∷ (pos 5808000) ∷ (minus 2954737) ∷ (pos 5808000) ∷ (minus 3412006) ∷ (pos 7087703) ∷ (minus 5172000) ∷ (pos 9048819) ∷ (minus 5172000) ∷ (pos 9048819) ∷ (minus 1618693) ∷ (pos 6465183) ∷ (minus 5172000) ∷ (pos 9998464) ∷ (minus 5172000) ∷ (pos 10104000) ∷ (minus 5137721) ∷ [])) ∷
    L (R (pos 0) (pos 0) (pos 7) (pos 10)) 256 ((pos 9) ∷ (pos 9) ∷ (pos 6) ∷ (pos 0) ∷ (pos 9) ∷ (pos 0) ∷ [])
    (returned 1 2 0 ((pos 7) ∷ (pos 3) ∷ (pos 6) ∷ (pos 0) ∷ (pos 7) ∷ (pos 7) ∷ []) (2 ∷ 7 ∷ []) []) ∷
    L (R (pos 0) (pos 0) (pos 60) (pos 60)) 5 ((minus 4) ∷ (minus 8) ∷ (minus 6) ∷ (minus 5) ∷ (minus 2) ∷ (minus 4) ∷ (pos 1) ∷ (pos 7) ∷ (pos 15) ∷ (minus 4) ∷ (pos 19) ∷ (pos 0) ∷ (pos 19) ∷ (pos 3) ∷ (pos 21) ∷ (minus 6) ∷ (pos 59) ∷ (pos 0) ∷ (pos 63) ∷ (minus 8) ∷ (pos 64) ∷ (minus 5) ∷ (pos 64) ∷ (pos 0) ∷ (pos 68) ∷ (minus 8) ∷ (pos 66) ∷ (pos 9) ∷ (pos 70) ∷ (pos 0) ∷ (pos 72) ∷ (minus 8) ∷ [])
    (refusal 8 []) ∷
    C (R (pos 0) (pos 0) (pos 4) (pos 2)) 5 256 ((pos 4) ∷ (pos 0) ∷ (pos 4) ∷ (pos 0) ∷ (pos 4) ∷ (minus 2) ∷ (pos 4) ∷ (minus 2) ∷ (pos 5) ∷ (minus 2) ∷ (pos 6) ∷ (minus 2) ∷ (pos 6) ∷ (minus 2) ∷ (pos 6) ∷ (pos 1) ∷ (pos 2) ∷ (pos 1) ∷ (pos 5) ∷ (pos 1) ∷ (pos 5) ∷ (pos 2) ∷ (pos 5) ∷ (pos 1) ∷ (pos 5) ∷ (pos 2) ∷ (pos 1) ∷ (pos 2) ∷ (pos 4) ∷ (pos 0) ∷ [])
    (refusal 8 ((pos 4) ∷ (pos 1) ∷ (pos 2) ∷ (pos 1) ∷ (pos 4) ∷ (pos 1) ∷ (pos 4) ∷ (pos 2) ∷ (pos 1) ∷ (pos 2) ∷ (pos 4) ∷ (pos 0) ∷ [])) ∷
    []

drawings3 : map shown table3 ≡ map (λ c. c.expected) table3
unfolding at_end get_segment_intersection edge_intersection side_intersection get_intersection start_locs_are_clockwise at_vertex scan_pass scan_answer scan_loop point_in_polygon path1_contains_path2 get_bounds_path get_location determinant numerator fraction working_of crossing_of point_at intersection cross_product_sign is_collinear cross_product_three_points cross_product_is_negative is_clockwise_dir set_owner set_edge set_next set_prev set_results set_edge_list ring unlink add_to_edge struck uncouple_edge own_from set_new_owner drop_collinear_pass drop_collinear assign_side assign_edges check_ring check_from check_edges enter_all arena_of straighten_pass straighten points_from get_path get_paths clip_walked execute sheet_refusal early_refusal delivered answered clip_closed clip_open filled_part is_present first_off_edge line_through line_cross line_from line_passes line_walk_from walk_open pieces longer_than_one execute_lines seek relink regroup keep_one keep_both keep_each settle rejoin one_turn turns_from tidy_edges add add_all push_start_loc next_side next_outside add_corner_prev_curr add_corner_loc add_corners push_start_locs next_inside get_next_location second_search remain_outside enter pass_to pass_through leave cross_boundary add_round retrace close_outline last_off pass_from passes surround after_while walk_from walk_closed walked_outline lib.Ieee.add of_int sub mul div neg to_signed eq lt le
drawings3 = refl

abbrev table4 : List Case
table4 =
    C (R (pos 33554431) (minus 33554432) (pos 33554432) (pos 2625244)) 256 256 ((pos 104665) ∷ (minus 24164525) ∷ (minus 26966179) ∷ (minus 33554431) ∷ (minus 33554432) ∷ (pos 33554431) ∷ (minus 20853643) ∷ (pos 10823348) ∷ (pos 33554432) ∷ (minus 33554431) ∷ (pos 33554432) ∷ (minus 10519811) ∷ (pos 33554432) ∷ (pos 7127333) ∷ (pos 33554432) ∷ (pos 28687480) ∷ (pos 33554432) ∷ (pos 2625246) ∷ [])
    (returned 1 4 0 ((pos 33554431) ∷ (pos 2625244) ∷ (pos 33554431) ∷ (minus 33554430) ∷ (pos 33554432) ∷ (minus 33554431) ∷ (pos 33554432) ∷ (pos 2625244) ∷ (pos 7) ∷ (pos 7) ∷ []) (4 ∷ 7 ∷ []) ((pos 33554431) ∷ (minus 33554430) ∷ (pos 33554432) ∷ (minus 33554431) ∷ (pos 33554432) ∷ (pos 2625244) ∷ (pos 33554431) ∷ (pos 2625244) ∷ [])) ∷
    C (R (pos 494) (minus 491) (pos 628) (pos 100)) 23 256 ((pos 935) ∷ (minus 269) ∷ (pos 249) ∷ (minus 86) ∷ (pos 751) ∷ (minus 587) ∷ (pos 567) ∷ (pos 99) ∷ (pos 383) ∷ (minus 587) ∷ (pos 885) ∷ (minus 85) ∷ (pos 199) ∷ (minus 269) ∷ (pos 885) ∷ (minus 453) ∷ (pos 384) ∷ (pos 49) ∷ (pos 567) ∷ (minus 637) ∷ (pos 751) ∷ (pos 49) ∷ (pos 249) ∷ (minus 453) ∷ [])
    (returned 1 23 0 ((pos 494) ∷ (minus 208) ∷ (pos 494) ∷ (minus 387) ∷ (pos 628) ∷ (minus 351) ∷ (pos 628) ∷ (minus 187) ∷ (pos 494) ∷ (minus 151) ∷ (pos 494) ∷ (minus 330) ∷ (pos 628) ∷ (minus 464) ∷ (pos 628) ∷ (minus 128) ∷ (pos 567) ∷ (pos 99) ∷ (pos 494) ∷ (minus 173) ∷ (pos 494) ∷ (minus 476) ∷ (pos 628) ∷ (minus 342) ∷ (pos 628) ∷ (minus 153) ∷ (pos 494) ∷ (minus 189) ∷ (pos 494) ∷ (minus 348) ∷ (pos 628) ∷ (minus 384) ∷ (pos 628) ∷ (minus 195) ∷ (pos 494) ∷ (minus 61) ∷ (pos 494) ∷ (minus 363) ∷ (pos 528) ∷ (minus 491) ∷ (pos 606) ∷ (minus 491) ∷ (pos 628) ∷ (minus 409) ∷ (pos 628) ∷ (minus 74) ∷ (pos 7) ∷ (pos 7) ∷ []) (23 ∷ 7 ∷ []) ((pos 494) ∷ (minus 387) ∷ (pos 628) ∷ (minus 351) ∷ (pos 628) ∷ (minus 187) ∷ (pos 494) ∷ (minus 151) ∷ (pos 494) ∷ (minus 330) ∷ (pos 628) ∷ (minus 464) ∷ (pos 628) ∷ (minus 128) ∷ (pos 567) ∷ (pos 99) ∷ (pos 494) ∷ (minus 173) ∷ (pos 494) ∷ (minus 476) ∷ (pos 628) ∷ (minus 342) ∷ (pos 628) ∷ (minus 153) ∷ (pos 494) ∷ (minus 189) ∷ (pos 494) ∷ (minus 348) ∷ (pos 628) ∷ (minus 384) ∷ (pos 628) ∷ (minus 195) ∷ (pos 494) ∷ (minus 61) ∷ (pos 494) ∷ (minus 363) ∷ (pos 528) ∷ (minus 491) ∷ (pos 606) ∷ (minus 491) ∷ (pos 628) ∷ (minus 409) ∷ (pos 628) ∷ (minus 74) ∷ (pos 494) ∷ (minus 208) ∷ [])) ∷
    L (R (pos 0) (pos 0) (pos 3) (pos 10)) 5 ((pos 1) ∷ (pos 0) ∷ (minus 2) ∷ (pos 5) ∷ (pos 1) ∷ (pos 0) ∷ (pos 5) ∷ (pos 11) ∷ (pos 3) ∷ (pos 10) ∷ (pos 5) ∷ (pos 11) ∷ [])
    (refusal 8 []) ∷
    C (R (pos 0) (pos 0) (pos 5) (pos 5)) 256 256 ((pos 5) ∷ (minus 2) ∷ (pos 5) ∷ (minus 2) ∷ (pos 5) ∷ (pos 6) ∷ (pos 0) ∷ (pos 6) ∷ (pos 0) ∷ (pos 6) ∷ (pos 0) ∷ (pos 7) ∷ (pos 0) ∷ (pos 5) ∷ (minus 1) ∷ (pos 5) ∷ (pos 1) ∷ (pos 5) ∷ (pos 6) ∷ (pos 5) ∷ (pos 6) ∷ (pos 5) ∷ [])
    (returned 0 0 0 ((pos 7) ∷ (pos 7) ∷ []) (7 ∷ []) []) ∷
    L (R (pos 0) (pos 0) (pos 4) (pos 2)) 256 []
    (returned 0 0 0 ((pos 7) ∷ (pos 7) ∷ []) (7 ∷ []) []) ∷
    C (R (minus 254) (minus 354) (pos 206) (minus 317)) 256 256 ((minus 169) ∷ (minus 334) ∷ (minus 284) ∷ (minus 202) ∷ (minus 341) ∷ (minus 564) ∷ (pos 173) ∷ (minus 334) ∷ (minus 455) ∷ (pos 94) ∷ (minus 513) ∷ (minus 861) ∷ (pos 516) ∷ (minus 334) ∷ (minus 626) ∷ (pos 390) ∷ [])
    (returned 1 12 0 ((pos 206) ∷ (minus 354) ∷ (pos 206) ∷ (minus 317) ∷ (minus 179) ∷ (minus 317) ∷ (minus 169) ∷ (minus 334) ∷ (minus 183) ∷ (minus 317) ∷ (minus 254) ∷ (minus 317) ∷ (minus 254) ∷ (minus 354) ∷ (pos 128) ∷ (minus 354) ∷ (pos 173) ∷ (minus 334) ∷ (pos 148) ∷ (minus 317) ∷ (minus 254) ∷ (minus 317) ∷ (minus 254) ∷ (minus 354) ∷ (pos 7) ∷ (pos 7) ∷ []) (12 ∷ 7 ∷ []) ((minus 179) ∷ (minus 317) ∷ (minus 169) ∷ (minus 334) ∷ (minus 183) ∷ (minus 317) ∷ (minus 254) ∷ (minus 317) ∷ (minus 254) ∷ (minus 354) ∷ (pos 128) ∷ (minus 354) ∷ (pos 173) ∷ (minus 334) ∷ (pos 148) ∷ (minus 317) ∷ (minus 254) ∷ (minus 317) ∷ (minus 254) ∷ (minus 354) ∷ (pos 206) ∷ (minus 354) ∷ (pos 206) ∷ (minus 317) ∷ (minus 254) ∷ (minus 317) ∷ [])) ∷
    C (R (pos 0) (pos 0) (pos 9) (pos 5)) 3 256 ((pos 12) ∷ (minus 1) ∷ (pos 9) ∷ (pos 7) ∷ (minus 3) ∷ (minus 2) ∷ (minus 1) ∷ (pos 8) ∷ (pos 10) ∷ (pos 5) ∷ [])
    (refusal 8 ((pos 6) ∷ (pos 5) ∷ (pos 0) ∷ (pos 0) ∷ (pos 0) ∷ (pos 5) ∷ (pos 9) ∷ (pos 5) ∷ [])) ∷
    C (R (pos 0) (pos 0) (pos 8) (pos 5)) 256 256 ((minus 1) ∷ (pos 5) ∷ (minus 1) ∷ (pos 0) ∷ (pos 7) ∷ (minus 1) ∷ (minus 2) ∷ (pos 0) ∷ (minus 1) ∷ (pos 1) ∷ [])
    (returned 0 0 0 ((pos 7) ∷ (pos 7) ∷ []) (7 ∷ []) []) ∷
    C (R (pos 0) (pos 0) (pos 60) (pos 60)) 256 256 ((pos 0) ∷ (pos 34) ∷ (pos 0) ∷ (pos 53) ∷ (pos 0) ∷ (pos 54) ∷ (pos 0) ∷ (pos 55) ∷ (pos 5) ∷ (pos 53) ∷ (minus 3) ∷ (pos 53) ∷ (minus 3) ∷ (pos 52) ∷ (pos 0) ∷ (pos 51) ∷ (minus 6) ∷ (pos 49) ∷ (minus 9) ∷ (minus 4) ∷ [])
    (returned 1 3 0 ((pos 0) ∷ (pos 53) ∷ (pos 0) ∷ (pos 55) ∷ (pos 5) ∷ (pos 53) ∷ (pos 7) ∷ (pos 7) ∷ []) (3 ∷ 7 ∷ []) ((pos 0) ∷ (pos 55) ∷ (pos 5) ∷ (pos 53) ∷ (pos 0) ∷ (pos 53) ∷ [])) ∷
    C (R (pos 0) (pos 0) (pos 60) (pos 60)) 256 0 ((pos 8) ∷ (pos 51) ∷ (pos 12) ∷ (pos 60) ∷ (pos 42) ∷ (pos 68) ∷ (pos 46) ∷ (pos 64) ∷ (pos 50) ∷ (pos 58) ∷ (pos 49) ∷ (pos 60) ∷ (pos 49) ∷ (pos 53) ∷ (pos 52) ∷ (pos 60) ∷ [])
    (returned 1 7 0 ((pos 52) ∷ (pos 60) ∷ (pos 8) ∷ (pos 51) ∷ (pos 12) ∷ (pos 60) ∷ (pos 48) ∷ (pos 60) ∷ (pos 50) ∷ (pos 58) ∷ (pos 49) ∷ (pos 60) ∷ (pos 49) ∷ (pos 53) ∷ (pos 7) ∷ (pos 7) ∷ []) (7 ∷ 7 ∷ []) ((pos 8) ∷ (pos 51) ∷ (pos 12) ∷ (pos 60) ∷ (pos 48) ∷ (pos 60) ∷ (pos 50) ∷ (pos 58) ∷ (pos 49) ∷ (pos 60) ∷ (pos 49) ∷ (pos 53) ∷ (pos 52) ∷ (pos 60) ∷ [])) ∷
    C (R (pos 0) (pos 0) (pos 6) (pos 8)) 256 256 ((minus 2) ∷ (pos 8) ∷ (minus 2) ∷ (pos 8) ∷ (minus 1) ∷ (pos 0) ∷ (minus 1) ∷ (pos 0) ∷ (pos 0) ∷ (pos 10) ∷ (minus 1) ∷ (pos 0) ∷ (pos 7) ∷ (pos 1) ∷ (minus 2) ∷ (pos 8) ∷ [])
    (returned 1 4 0 ((pos 0) ∷ (pos 6) ∷ (pos 0) ∷ (pos 0) ∷ (pos 6) ∷ (pos 0) ∷ (pos 6) ∷ (pos 1) ∷ (pos 7) ∷ (pos 7) ∷ []) (4 ∷ 7 ∷ []) ((pos 0) ∷ (pos 0) ∷ (pos 6) ∷ (pos 0) ∷ (pos 6) ∷ (pos 1) ∷ (pos 0) ∷ (pos 6) ∷ [])) ∷
    C (R (minus 463) (pos 434) (minus 57) (pos 963)) 256 256 ((pos 765) ∷ (pos 926) ∷ (minus 970) ∷ (minus 74) ∷ (minus 970) ∷ (pos 1926) ∷ (pos 765) ∷ (pos 926) ∷ (pos 765) ∷ (pos 926) ∷ (minus 970) ∷ (minus 74) ∷ (minus 970) ∷ (pos 1926) ∷ [])
    (returned 1 10 0 ((minus 57) ∷ (pos 963) ∷ (minus 57) ∷ (pos 452) ∷ (minus 88) ∷ (pos 434) ∷ (minus 463) ∷ (pos 434) ∷ (minus 463) ∷ (pos 963) ∷ (minus 57) ∷ (pos 963) ∷ (minus 57) ∷ (pos 452) ∷ (minus 88) ∷ (pos 434) ∷ (minus 463) ∷ (pos 434) ∷ (minus 463) ∷ (pos 963) ∷ (pos 7) ∷ (pos 7) ∷ []) (10 ∷ 7 ∷ []) ((minus 57) ∷ (pos 452) ∷ (minus 88) ∷ (pos 434) ∷ (minus 463) ∷ (pos 434) ∷ (minus 463) ∷ (pos 963) ∷ (minus 57) ∷ (pos 963) ∷ (minus 57) ∷ (pos 452) ∷ (minus 88) ∷ (pos 434) ∷ (minus 463) ∷ (pos 434) ∷ (minus 463) ∷ (pos 963) ∷ (minus 57) ∷ (pos 963) ∷ [])) ∷
    C (R (pos 0) (pos 2) (pos 1) (pos 3)) 5 256 ((pos 5) ∷ (pos 3) ∷ (minus 1) ∷ (pos 4) ∷ (pos 5) ∷ (pos 1) ∷ (pos 2) ∷ (pos 1) ∷ (minus 1) ∷ (pos 3) ∷ [])
    (refusal 8 ((pos 0) ∷ (pos 3) ∷ (pos 1) ∷ (pos 3) ∷ (pos 0) ∷ (pos 3) ∷ (pos 1) ∷ (pos 3) ∷ (pos 1) ∷ (pos 2) ∷ (pos 0) ∷ (pos 2) ∷ [])) ∷
    L (R (minus 1860000) (pos 144000) (minus 1656000) (pos 6804000)) 256 ((pos 3300487) ∷ (pos 1104500) ∷ (minus 4331512) ∷ (pos 5504932) ∷ (minus 4331513) ∷ (minus 3295932) ∷ (pos 3300487) ∷ (pos 1104500) ∷ (minus 4331512) ∷ (pos 5504932) ∷ (minus 4331513) ∷ (minus 3295932) ∷ [])
    (returned 2 4 0 ((minus 1656000) ∷ (pos 3962294) ∷ (minus 1860000) ∷ (pos 4079916) ∷ (minus 1656000) ∷ (pos 3962294) ∷ (minus 1860000) ∷ (pos 4079916) ∷ (pos 7) ∷ (pos 7) ∷ []) (2 ∷ 2 ∷ 7 ∷ []) []) ∷
    U (R (minus 1) (pos 16777217) (pos 16541620) (pos 20729726)) 0 0 ((minus 3) ∷ (pos 16777217) ∷ (pos 31956077) ∷ (minus 28743641) ∷ [])
    (returned 0 0 0 ((pos 7) ∷ (pos 7) ∷ []) (7 ∷ []) []) ∷
    []

drawings4 : map shown table4 ≡ map (λ c. c.expected) table4
unfolding at_end get_segment_intersection edge_intersection side_intersection get_intersection start_locs_are_clockwise at_vertex scan_pass scan_answer scan_loop point_in_polygon path1_contains_path2 get_bounds_path get_location determinant numerator fraction working_of crossing_of point_at intersection cross_product_sign is_collinear cross_product_three_points cross_product_is_negative is_clockwise_dir set_owner set_edge set_next set_prev set_results set_edge_list ring unlink add_to_edge struck uncouple_edge own_from set_new_owner drop_collinear_pass drop_collinear assign_side assign_edges check_ring check_from check_edges enter_all arena_of straighten_pass straighten points_from get_path get_paths clip_walked execute sheet_refusal early_refusal delivered answered clip_closed clip_open filled_part is_present first_off_edge line_through line_cross line_from line_passes line_walk_from walk_open pieces longer_than_one execute_lines seek relink regroup keep_one keep_both keep_each settle rejoin one_turn turns_from tidy_edges add add_all push_start_loc next_side next_outside add_corner_prev_curr add_corner_loc add_corners push_start_locs next_inside get_next_location second_search remain_outside enter pass_to pass_through leave cross_boundary add_round retrace close_outline last_off pass_from passes surround after_while walk_from walk_closed walked_outline lib.Ieee.add of_int sub mul div neg to_signed eq lt le
drawings4 = refl
