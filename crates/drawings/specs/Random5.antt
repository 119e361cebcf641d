-- Drawings with the Rust's answers: what the entries answer and fill, and the walked outline.
-- Made by tools/tables.py from rows of compare's `drawings`. Assumes nothing.
use Rattle.std.specs.Prelude.{◌≡◌, refl, List, [], ◌∷◌, map, pos}
use Rattle.drawings.specs.Cases.{Case, C, U, L, R, minus, returned, refusal, shown}
use Rattle.plane.specs.Intersection.{at_end, get_segment_intersection, edge_intersection, side_intersection, get_intersection}
use Rattle.plane.specs.Locations.{start_locs_are_clockwise}
use Rattle.plane.specs.Polygon.{at_vertex, scan_pass, scan_answer, scan_loop, point_in_polygon, path1_contains_path2}
use Rattle.plane.specs.Rectangle.{get_bounds_path, get_location}
use Rattle.plane.specs.Segment.{determinant, numerator, fraction, working_of, crossing_of, point_at, intersection}
use Rattle.plane.specs.Signs.{cross_product_sign, is_collinear, cross_product_three_points, cross_product_is_negative, is_clockwise_dir}
use Rattle.reference.specs.Arena.{set_owner, set_edge, set_next, set_prev, set_results, set_edge_list, ring, unlink, add_to_edge, struck, uncouple_edge, own_from, set_new_owner, drop_collinear_pass, drop_collinear, assign_side, assign_edges, check_ring, check_from, check_edges}
use Rattle.reference.specs.Clip.{enter_all, arena_of, straighten_pass, straighten, points_from, get_path, get_paths, clip_walked, execute}
use Rattle.reference.specs.Entry.{sheet_refusal, early_refusal, delivered, answered, clip_closed, clip_open, filled_part, is_present}
use Rattle.reference.specs.Lines.{first_off_edge, line_through, line_cross, line_from, line_passes, line_walk_from, walk_open, pieces, longer_than_one, execute_lines}
use Rattle.reference.specs.Tidy.{seek, relink, regroup, keep_one, keep_both, keep_each, settle, rejoin, one_turn, turns_from, tidy_edges}
use Rattle.reference.specs.Walk.{add, add_all, push_start_loc, next_side, next_outside, add_corner_prev_curr, add_corner_loc, add_corners, push_start_locs, next_inside, get_next_location, second_search, remain_outside, enter, pass_to, pass_through, leave, cross_boundary, add_round, retrace, close_outline, last_off, pass_from, passes, surround, after_while, walk_from, walk_closed, walked_outline}
use lib.Ieee.{of_int, sub, mul, div, neg, to_signed, eq, lt, le}

abbrev table1 : List Case
table1 =
    U (R (pos 466) (minus 490) (pos 765) (minus 229)) 256 256 ((pos 397) ∷ (pos 943) ∷ (pos 397) ∷ (pos 943) ∷ (pos 397) ∷ (pos 994) ∷ (pos 295) ∷ (pos 994) ∷ (pos 295) ∷ (pos 892) ∷ (pos 448) ∷ (pos 892) ∷ [])
    (returned 0 0 0 ((pos 7) ∷ (pos 7) ∷ []) (7 ∷ []) []) ∷
    C (R (pos 0) (pos 0) (pos 3) (pos 2)) 256 256 ((pos 4) ∷ (minus 1) ∷ (minus 1) ∷ (minus 1) ∷ (minus 1) ∷ (pos 3) ∷ (minus 2) ∷ (pos 0) ∷ (pos 4) ∷ (pos 5) ∷ [])
    (returned 1 4 0 ((pos 0) ∷ (pos 0) ∷ (pos 0) ∷ (pos 2) ∷ (pos 3) ∷ (pos 2) ∷ (pos 3) ∷ (pos 0) ∷ (pos 7) ∷ (pos 7) ∷ []) (4 ∷ 7 ∷ []) ((pos 0) ∷ (pos 1) ∷ (pos 0) ∷ (pos 2) ∷ (pos 3) ∷ (pos 2) ∷ (pos 3) ∷ (pos 0) ∷ (pos 0) ∷ (pos 0) ∷ [])) ∷
    C (R (pos 0) (pos 0) (pos 8) (pos 1)) 256 0 ((minus 1) ∷ (minus 2) ∷ (pos 10) ∷ (pos 1) ∷ (pos 1) ∷ (minus 1) ∷ (pos 1) ∷ (pos 0) ∷ (minus 1) ∷ (pos 0) ∷ (pos 1) ∷ (pos 0) ∷ (pos 8) ∷ (minus 1) ∷ (pos 0) ∷ (pos 0) ∷ (pos 4) ∷ (pos 0) ∷ (pos 7) ∷ (pos 1) ∷ (pos 4) ∷ (minus 1) ∷ (pos 8) ∷ (minus 1) ∷ (pos 10) ∷ (pos 2) ∷ [])
    (returned 1 4 0 ((pos 8) ∷ (pos 1) ∷ (pos 7) ∷ (pos 1) ∷ (pos 5) ∷ (pos 0) ∷ (pos 8) ∷ (pos 0) ∷ (pos 7) ∷ (pos 7) ∷ []) (4 ∷ 7 ∷ []) ((pos 7) ∷ (pos 1) ∷ (pos 4) ∷ (pos 0) ∷ (pos 6) ∷ (pos 0) ∷ (pos 8) ∷ (pos 0) ∷ (pos 5) ∷ (pos 0) ∷ (pos 4) ∷ (pos 0) ∷ (pos 7) ∷ (pos 1) ∷ (pos 5) ∷ (pos 0) ∷ (pos 8) ∷ (pos 0) ∷ (pos 8) ∷ (pos 1) ∷ [])) ∷
    C (R (pos 2) (pos 1) (pos 4) (pos 3)) 256 256 ((pos 1) ∷ (minus 1) ∷ (pos 5) ∷ (minus 1) ∷ (minus 1) ∷ (pos 2) ∷ (minus 1) ∷ (pos 2) ∷ (pos 0) ∷ (pos 4) ∷ (pos 0) ∷ (minus 1) ∷ (minus 1) ∷ (pos 2) ∷ (pos 4) ∷ (pos 1) ∷ (pos 2) ∷ (pos 2) ∷ (pos 0) ∷ (pos 0) ∷ (pos 4) ∷ (pos 1) ∷ (pos 1) ∷ (pos 2) ∷ [])
    (returned 1 3 6 ((pos 2) ∷ (pos 1) ∷ (pos 4) ∷ (pos 1) ∷ (pos 2) ∷ (pos 2) ∷ (pos 7) ∷ (pos 7) ∷ []) (3 ∷ 7 ∷ []) ((pos 2) ∷ (pos 1) ∷ (pos 4) ∷ (pos 1) ∷ (pos 2) ∷ (pos 2) ∷ (pos 2) ∷ (pos 1) ∷ (pos 4) ∷ (pos 1) ∷ (pos 4) ∷ (pos 3) ∷ (pos 4) ∷ (pos 1) ∷ (pos 2) ∷ (pos 1) ∷ (pos 4) ∷ (pos 1) ∷ (pos 2) ∷ (pos 1) ∷ [])) ∷
    C (R (minus 33554432) (pos 0) (minus 6179177) (pos 6940723)) 256 256 ((pos 33554431) ∷ (pos 6679341) ∷ (minus 22960552) ∷ (pos 33554432) ∷ (minus 6179177) ∷ (pos 6940725) ∷ [])
    (returned 0 0 0 ((pos 7) ∷ (pos 7) ∷ []) (7 ∷ []) []) ∷
    C (R (minus 33554432) (minus 20000001) (pos 18966378) (pos 4265498)) 8 256 ((minus 33554432) ∷ (minus 20000002) ∷ (minus 33554431) ∷ (pos 28031702) ∷ (minus 8454072) ∷ (pos 10146193) ∷ (minus 31883650) ∷ (pos 27429181) ∷ (minus 7294027) ∷ (minus 20000002) ∷ (pos 31318526) ∷ (pos 33554432) ∷ (minus 13487130) ∷ (pos 23013802) ∷ (minus 14693194) ∷ (minus 27006114) ∷ [])
    (returned 1 8 2 ((minus 14524264) ∷ (minus 20000001) ∷ (minus 33554431) ∷ (minus 20000001) ∷ (minus 33554431) ∷ (pos 4265498) ∷ (minus 19874456) ∷ (pos 4265498) ∷ (minus 7294027) ∷ (minus 20000001) ∷ (minus 7294026) ∷ (minus 20000001) ∷ (pos 10201310) ∷ (pos 4265497) ∷ (minus 13939183) ∷ (pos 4265498) ∷ (pos 7) ∷ (pos 7) ∷ []) (8 ∷ 7 ∷ []) ((minus 33554431) ∷ (minus 20000001) ∷ (minus 33554431) ∷ (pos 4265498) ∷ (minus 19874456) ∷ (pos 4265498) ∷ (minus 7294027) ∷ (minus 20000001) ∷ (minus 7294026) ∷ (minus 20000001) ∷ (pos 10201310) ∷ (pos 4265497) ∷ (minus 13939183) ∷ (pos 4265498) ∷ (minus 14524264) ∷ (minus 20000001) ∷ [])) ∷
    L (R (pos 4872000) (pos 2556000) (pos 9696000) (pos 5940000)) 256 ((pos 720000) ∷ (pos 2136000) ∷ (minus 20277230) ∷ (pos 11714121) ∷ (minus 13802136) ∷ (minus 10429113) ∷ (minus 1311361) ∷ (pos 8996127) ∷ (minus 24151672) ∷ (pos 5731327) ∷ (minus 6693723) ∷ (minus 9401135) ∷ (minus 6693723) ∷ (pos 13673135) ∷ (minus 24151672) ∷ (minus 1459327) ∷ (minus 1311360) ∷ (minus 4724127) ∷ (minus 13802136) ∷ (pos 14701113) ∷ (minus 20277230) ∷ (minus 7442121) ∷ [])
    (returned 0 0 0 ((pos 7) ∷ (pos 7) ∷ []) (7 ∷ []) []) ∷
    C (R (pos 185) (pos 287) (pos 729) (pos 422)) 256 256 ((minus 92) ∷ (minus 58) ∷ (minus 92) ∷ (pos 852) ∷ (pos 818) ∷ (pos 852) ∷ (pos 818) ∷ (pos 397) ∷ [])
    (returned 1 5 0 ((pos 729) ∷ (pos 422) ∷ (pos 729) ∷ (pos 352) ∷ (pos 598) ∷ (pos 287) ∷ (pos 185) ∷ (pos 287) ∷ (pos 185) ∷ (pos 422) ∷ (pos 7) ∷ (pos 7) ∷ []) (5 ∷ 7 ∷ []) ((pos 729) ∷ (pos 352) ∷ (pos 598) ∷ (pos 287) ∷ (pos 185) ∷ (pos 287) ∷ (pos 185) ∷ (pos 422) ∷ (pos 729) ∷ (pos 422) ∷ [])) ∷
    L (R (minus 118) (minus 275) (minus 91) (minus 41)) 256 ((minus 1752) ∷ (minus 426) ∷ (minus 287) ∷ (pos 1039) ∷ (minus 824) ∷ (minus 963) ∷ (minus 1360) ∷ (pos 1039) ∷ (pos 104) ∷ (minus 426) ∷ (minus 1898) ∷ (pos 111) ∷ (pos 104) ∷ (pos 648) ∷ (minus 1361) ∷ (minus 817) ∷ (minus 824) ∷ (pos 1185) ∷ (minus 287) ∷ (minus 817) ∷ (minus 1752) ∷ (pos 647) ∷ (pos 250) ∷ (pos 111) ∷ [])
    (returned 1 2 0 ((minus 118) ∷ (minus 203) ∷ (minus 91) ∷ (minus 230) ∷ (pos 7) ∷ (pos 7) ∷ []) (2 ∷ 7 ∷ []) []) ∷
    C (R (pos 33554431) (pos 16777217) (pos 33554432) (pos 19227833)) 256 256 ((pos 12957266) ∷ (minus 30299793) ∷ (pos 33554432) ∷ (pos 16777215) ∷ (pos 14920935) ∷ (minus 5965707) ∷ (pos 3306741) ∷ (pos 16368786) ∷ (pos 33554430) ∷ (pos 19227833) ∷ (pos 6920254) ∷ (minus 28281527) ∷ (pos 5935281) ∷ (minus 30013000) ∷ [])
    (returned 0 0 0 ((pos 7) ∷ (pos 7) ∷ []) (7 ∷ []) []) ∷
    U (R (minus 1) (pos 16777217) (pos 24459316) (pos 29349231)) 256 256 ((minus 28742055) ∷ (minus 3594599) ∷ (pos 27091120) ∷ (minus 15577516) ∷ (minus 33554431) ∷ (minus 33554432) ∷ [])
    (returned 0 0 0 ((pos 7) ∷ (pos 7) ∷ []) (7 ∷ []) []) ∷
    C (R (pos 0) (pos 0) (pos 6) (pos 11)) 256 256 ((pos 5) ∷ (pos 0) ∷ (pos 5) ∷ (pos 0) ∷ (pos 6) ∷ (pos 11) ∷ (minus 2) ∷ (pos 11) ∷ (pos 6) ∷ (pos 11) ∷ [])
    (returned 0 0 0 ((pos 7) ∷ (pos 7) ∷ []) (7 ∷ []) ((pos 6) ∷ (pos 11) ∷ (pos 5) ∷ (pos 0) ∷ (pos 6) ∷ (pos 11) ∷ [])) ∷
    C (R (minus 20000001) (minus 33554432) (minus 6679423) (pos 26901924)) 256 256 ((pos 19427903) ∷ (minus 22887062) ∷ (pos 33554432) ∷ (pos 33554432) ∷ (pos 19000945) ∷ (pos 21342186) ∷ (pos 33554432) ∷ (pos 19785590) ∷ (pos 12504700) ∷ (pos 17494374) ∷ (minus 8150620) ∷ (minus 26869478) ∷ (minus 20896553) ∷ (minus 6341748) ∷ (pos 2457223) ∷ (pos 9426609) ∷ (minus 33554431) ∷ (pos 32936349) ∷ [])
    (returned 1 9 2 ((minus 20000001) ∷ (pos 24087515) ∷ (minus 20000001) ∷ (pos 18655088) ∷ (minus 6679423) ∷ (pos 4620219) ∷ (minus 6679423) ∷ (minus 23709615) ∷ (minus 8150620) ∷ (minus 26869478) ∷ (minus 20000001) ∷ (minus 7785673) ∷ (minus 20000001) ∷ (minus 5736400) ∷ (minus 6679423) ∷ (pos 3257589) ∷ (minus 6679422) ∷ (pos 15391349) ∷ (pos 7) ∷ (pos 7) ∷ []) (9 ∷ 7 ∷ []) ((minus 20000001) ∷ (pos 18655088) ∷ (minus 6679423) ∷ (pos 4620219) ∷ (minus 6679423) ∷ (minus 23709615) ∷ (minus 8150620) ∷ (minus 26869478) ∷ (minus 20000001) ∷ (minus 7785673) ∷ (minus 20000001) ∷ (minus 5736400) ∷ (minus 6679423) ∷ (pos 3257589) ∷ (minus 6679422) ∷ (pos 15391349) ∷ (minus 20000001) ∷ (pos 24087515) ∷ [])) ∷
    L (R (minus 167) (minus 492) (pos 239) (pos 90)) 256 ((pos 108) ∷ (pos 30) ∷ (pos 158) ∷ (pos 163) ∷ (pos 136) ∷ (pos 330) ∷ (pos 28) ∷ (pos 494) ∷ (minus 164) ∷ (pos 610) ∷ (minus 416) ∷ (pos 636) ∷ (minus 682) ∷ (pos 548) ∷ (minus 912) ∷ (pos 341) ∷ (minus 1052) ∷ (pos 30) ∷ (minus 1054) ∷ (minus 340) ∷ (minus 1054) ∷ (minus 340) ∷ (minus 899) ∷ (minus 705) ∷ (minus 593) ∷ (minus 1002) ∷ (minus 593) ∷ (minus 1002) ∷ [])
    (returned 1 2 0 ((pos 108) ∷ (pos 30) ∷ (pos 130) ∷ (pos 90) ∷ (pos 7) ∷ (pos 7) ∷ []) (2 ∷ 7 ∷ []) []) ∷
    C (R (minus 152) (pos 192) (pos 412) (pos 380)) 256 256 ((pos 473) ∷ (pos 1279) ∷ (pos 525) ∷ (pos 1116) ∷ (pos 551) ∷ (pos 955) ∷ (pos 553) ∷ (pos 800) ∷ (pos 533) ∷ (pos 654) ∷ (pos 493) ∷ (pos 520) ∷ (pos 433) ∷ (pos 400) ∷ (pos 358) ∷ (pos 296) ∷ (pos 269) ∷ (pos 210) ∷ (pos 168) ∷ (pos 144) ∷ (pos 60) ∷ (pos 100) ∷ (minus 51) ∷ (pos 77) ∷ [])
    (returned 1 7 0 ((pos 241) ∷ (pos 192) ∷ (pos 0) ∷ (pos 192) ∷ (pos 81) ∷ (pos 380) ∷ (pos 412) ∷ (pos 380) ∷ (pos 412) ∷ (pos 370) ∷ (pos 358) ∷ (pos 296) ∷ (pos 269) ∷ (pos 210) ∷ (pos 7) ∷ (pos 7) ∷ []) (7 ∷ 7 ∷ []) ((pos 0) ∷ (pos 192) ∷ (pos 81) ∷ (pos 380) ∷ (pos 412) ∷ (pos 380) ∷ (pos 412) ∷ (pos 370) ∷ (pos 358) ∷ (pos 296) ∷ (pos 269) ∷ (pos 210) ∷ (pos 241) ∷ (pos 192) ∷ [])) ∷
    []

drawings1 : map shown table1 ≡ map (λ c. c.expected) table1
unfolding at_end get_segment_intersection edge_intersection side_intersection get_intersection start_locs_are_clockwise at_vertex scan_pass scan_answer scan_loop point_in_polygon path1_contains_path2 get_bounds_path get_location determinant numerator fraction working_of crossing_of point_at intersection cross_product_sign is_collinear cross_product_three_points cross_product_is_negative is_clockwise_dir set_owner set_edge set_next set_prev set_results set_edge_list ring unlink add_to_edge struck uncouple_edge own_from set_new_owner drop_collinear_pass drop_collinear assign_side assign_edges check_ring check_from check_edges enter_all arena_of straighten_pass straighten points_from get_path get_paths clip_walked execute sheet_refusal early_refusal delivered answered clip_closed clip_open filled_part is_present first_off_edge line_through line_cross line_from line_passes line_walk_from walk_open pieces longer_than_one execute_lines seek relink regroup keep_one keep_both keep_each settle rejoin one_turn turns_from tidy_edges add add_all push_start_loc next_side next_outside add_corner_prev_curr add_corner_loc add_corners push_start_locs next_inside get_next_location second_search remain_outside enter pass_to pass_through leave cross_boundary add_round retrace close_outline last_off pass_from passes surround after_while walk_from walk_closed walked_outline lib.Ieee.add of_int sub mul div neg to_signed eq lt le
drawings1 = refl

abbrev table2 : List Case
table2 =
    L (R (minus 33554432) (pos 0) (pos 26755271) (pos 10819566)) 256 ((minus 32394495) ∷ (pos 9995679) ∷ (minus 32394495) ∷ (pos 9995679) ∷ (minus 5163746) ∷ (minus 6895631) ∷ (minus 32394495) ∷ (pos 9995679) ∷ [])
    (returned 2 4 0 ((minus 32394495) ∷ (pos 9995679) ∷ (minus 16280302) ∷ (pos 0) ∷ (minus 16280302) ∷ (pos 0) ∷ (minus 32394495) ∷ (pos 9995679) ∷ (pos 7) ∷ (pos 7) ∷ []) (2 ∷ 2 ∷ 7 ∷ []) []) ∷
    C (R (pos 16) (minus 437) (pos 379) (pos 74)) 4 0 ((minus 759) ∷ (pos 714) ∷ (pos 153) ∷ (pos 714) ∷ (pos 153) ∷ (minus 46) ∷ (minus 607) ∷ (minus 46) ∷ (minus 607) ∷ (pos 562) ∷ (pos 1) ∷ (pos 562) ∷ (pos 1) ∷ (pos 106) ∷ (minus 455) ∷ (pos 106) ∷ (minus 455) ∷ (pos 410) ∷ (minus 151) ∷ (pos 410) ∷ (minus 151) ∷ (pos 258) ∷ [])
    (returned 1 4 0 ((pos 16) ∷ (pos 74) ∷ (pos 153) ∷ (pos 74) ∷ (pos 153) ∷ (minus 46) ∷ (pos 16) ∷ (minus 46) ∷ (pos 7) ∷ (pos 7) ∷ []) (4 ∷ 7 ∷ []) ((pos 153) ∷ (pos 74) ∷ (pos 153) ∷ (minus 46) ∷ (pos 16) ∷ (minus 46) ∷ (pos 16) ∷ (pos 74) ∷ [])) ∷
    U (R (pos 439) (pos 141) (pos 714) (pos 581)) 256 0 ((pos 475) ∷ (pos 859) ∷ (pos 242) ∷ (minus 14) ∷ [])
    (returned 0 0 0 ((pos 7) ∷ (pos 7) ∷ []) (7 ∷ []) []) ∷
    C (R (pos 0) (pos 0) (pos 7) (pos 9)) 14 256 ((pos 3) ∷ (pos 1) ∷ (minus 1) ∷ (minus 2) ∷ (minus 2) ∷ (pos 0) ∷ (pos 1) ∷ (pos 9) ∷ (pos 7) ∷ (pos 11) ∷ (pos 0) ∷ (pos 9) ∷ (pos 9) ∷ (pos 1) ∷ (minus 2) ∷ (pos 11) ∷ (pos 7) ∷ (minus 2) ∷ (pos 7) ∷ (pos 10) ∷ (pos 3) ∷ (pos 8) ∷ (pos 6) ∷ (pos 8) ∷ [])
    (refusal 8 ((pos 3) ∷ (pos 1) ∷ (pos 1) ∷ (pos 0) ∷ (pos 0) ∷ (pos 0) ∷ (pos 0) ∷ (pos 6) ∷ (pos 1) ∷ (pos 9) ∷ (pos 0) ∷ (pos 9) ∷ (pos 7) ∷ (pos 2) ∷ (pos 0) ∷ (pos 9) ∷ (pos 0) ∷ (pos 8) ∷ (pos 5) ∷ (pos 0) ∷ (pos 7) ∷ (pos 0) ∷ (pos 7) ∷ (pos 9) ∷ (pos 5) ∷ (pos 9) ∷ (pos 3) ∷ (pos 8) ∷ (pos 6) ∷ (pos 8) ∷ [])) ∷
    L (R (pos 0) (pos 0) (pos 3) (pos 7)) 1 ((pos 4) ∷ (pos 6) ∷ (pos 4) ∷ (pos 6) ∷ (pos 4) ∷ (pos 7) ∷ (pos 0) ∷ (pos 7) ∷ (pos 0) ∷ (minus 2) ∷ [])
    (refusal 8 []) ∷
    L (R (pos 0) (pos 0) (pos 4) (pos 8)) 3 ((minus 3) ∷ (minus 3) ∷ (pos 4) ∷ (pos 0) ∷ (pos 7) ∷ (pos 0) ∷ (pos 7) ∷ (pos 9) ∷ (pos 0) ∷ (pos 4) ∷ (pos 0) ∷ (pos 8) ∷ [])
    (returned 1 2 0 ((pos 4) ∷ (pos 6) ∷ (pos 0) ∷ (pos 4) ∷ (pos 7) ∷ (pos 7) ∷ []) (2 ∷ 7 ∷ []) []) ∷
    L (R (pos 0) (pos 0) (pos 4) (pos 8)) 256 ((pos 6) ∷ (pos 9) ∷ (pos 4) ∷ (pos 0) ∷ (pos 1) ∷ (minus 2) ∷ (minus 1) ∷ (pos 4) ∷ (pos 0) ∷ (pos 4) ∷ (pos 4) ∷ (pos 1) ∷ (minus 1) ∷ (pos 8) ∷ [])
    (returned 3 6 0 ((pos 0) ∷ (pos 0) ∷ (pos 0) ∷ (pos 1) ∷ (pos 0) ∷ (pos 4) ∷ (pos 4) ∷ (pos 1) ∷ (pos 4) ∷ (pos 1) ∷ (pos 0) ∷ (pos 6) ∷ (pos 7) ∷ (pos 7) ∷ []) (2 ∷ 2 ∷ 2 ∷ 7 ∷ []) []) ∷
    U (R (minus 3660000) (pos 4740000) (pos 120000) (pos 12540000)) 256 256 ((minus 7989917) ∷ (pos 4114154) ∷ (minus 9736941) ∷ (pos 5875059) ∷ (minus 10585846) ∷ (pos 8001042) ∷ (minus 10516000) ∷ (pos 10116000) ∷ (minus 9673846) ∷ (pos 11852000) ∷ (minus 8342117) ∷ (pos 12962117) ∷ (minus 6853041) ∷ (pos 13381846) ∷ (minus 5496000) ∷ (pos 13160000) ∷ (minus 4517918) ∷ (pos 12469846) ∷ (minus 4044706) ∷ (pos 11567294) ∷ (minus 4054154) ∷ (pos 10715123) ∷ (minus 4428000) ∷ (pos 10116000) ∷ [])
    (returned 0 0 0 ((pos 7) ∷ (pos 7) ∷ []) (7 ∷ []) []) ∷
    C (R (pos 0) (pos 0) (pos 10) (pos 3)) 256 3 ((pos 10) ∷ (pos 0) ∷ (pos 10) ∷ (pos 0) ∷ (pos 10) ∷ (pos 0) ∷ (pos 5) ∷ (minus 1) ∷ (pos 11) ∷ (pos 5) ∷ (minus 2) ∷ (minus 2) ∷ (pos 11) ∷ (pos 5) ∷ (pos 12) ∷ (pos 3) ∷ (minus 1) ∷ (pos 1) ∷ (pos 12) ∷ (pos 3) ∷ (pos 9) ∷ (pos 4) ∷ (pos 5) ∷ (minus 1) ∷ (pos 10) ∷ (minus 1) ∷ (pos 5) ∷ (pos 4) ∷ (pos 10) ∷ (pos 5) ∷ (pos 5) ∷ (pos 4) ∷ [])
    (returned 2 7 3 ((pos 6) ∷ (pos 0) ∷ (pos 9) ∷ (pos 3) ∷ (pos 8) ∷ (pos 3) ∷ (pos 5) ∷ (pos 0) ∷ (pos 9) ∷ (pos 0) ∷ (pos 6) ∷ (pos 3) ∷ (pos 10) ∷ (pos 0) ∷ (pos 7) ∷ (pos 7) ∷ []) (4 ∷ 3 ∷ 7 ∷ []) ((pos 6) ∷ (pos 3) ∷ (pos 10) ∷ (pos 0) ∷ (pos 6) ∷ (pos 0) ∷ (pos 9) ∷ (pos 3) ∷ (pos 7) ∷ (pos 3) ∷ (pos 1) ∷ (pos 0) ∷ (pos 7) ∷ (pos 3) ∷ (pos 10) ∷ (pos 3) ∷ (pos 10) ∷ (pos 2) ∷ (pos 0) ∷ (pos 1) ∷ (pos 10) ∷ (pos 2) ∷ (pos 10) ∷ (pos 3) ∷ (pos 8) ∷ (pos 3) ∷ (pos 5) ∷ (pos 0) ∷ (pos 9) ∷ (pos 0) ∷ (pos 6) ∷ (pos 3) ∷ [])) ∷
    L (R (pos 0) (pos 0) (pos 4) (pos 7)) 256 ((minus 1) ∷ (minus 2) ∷ (minus 1) ∷ (pos 0) ∷ (pos 5) ∷ (pos 0) ∷ (pos 5) ∷ (pos 1) ∷ (pos 5) ∷ (pos 1) ∷ [])
    (returned 1 2 0 ((pos 0) ∷ (pos 0) ∷ (pos 4) ∷ (pos 0) ∷ (pos 7) ∷ (pos 7) ∷ []) (2 ∷ 7 ∷ []) []) ∷
    L (R (pos 0) (minus 33554432) (pos 15750791) (pos 24042826)) 256 ((minus 2) ∷ (minus 33554432) ∷ (pos 31417631) ∷ (pos 3725336) ∷ (pos 1632324) ∷ (pos 1441392) ∷ (pos 0) ∷ (pos 24042826) ∷ (minus 24052849) ∷ (pos 20252965) ∷ (minus 2) ∷ (pos 24042827) ∷ (pos 15750790) ∷ (minus 4755803) ∷ (minus 10620769) ∷ (minus 33554431) ∷ (pos 15750791) ∷ (minus 33554432) ∷ (minus 33554431) ∷ (pos 19754627) ∷ [])
    (returned 5 12 0 ((pos 0) ∷ (minus 33554429) ∷ (pos 15750791) ∷ (minus 14864739) ∷ (pos 15750791) ∷ (pos 2523999) ∷ (pos 1632324) ∷ (pos 1441392) ∷ (pos 0) ∷ (pos 24042826) ∷ (pos 0) ∷ (pos 24042823) ∷ (pos 15750790) ∷ (minus 4755803) ∷ (pos 0) ∷ (minus 21956194) ∷ (pos 0) ∷ (minus 33554431) ∷ (pos 15750791) ∷ (minus 33554432) ∷ (pos 15750791) ∷ (minus 33554432) ∷ (pos 0) ∷ (minus 16524595) ∷ (pos 7) ∷ (pos 7) ∷ []) (2 ∷ 3 ∷ 3 ∷ 2 ∷ 2 ∷ 7 ∷ []) []) ∷
    C (R (pos 2448000) (pos 972000) (pos 9588000) (pos 6096000)) 4 256 ((pos 6217728) ∷ (pos 3895773) ∷ (pos 6727375) ∷ (pos 4969420) ∷ (pos 5653728) ∷ (pos 6373773) ∷ (pos 3229023) ∷ (pos 6320478) ∷ [])
    (returned 1 4 0 ((pos 5866089) ∷ (pos 6096000) ∷ (pos 3505715) ∷ (pos 6096000) ∷ (pos 6217728) ∷ (pos 3895773) ∷ (pos 6727375) ∷ (pos 4969420) ∷ (pos 7) ∷ (pos 7) ∷ []) (4 ∷ 7 ∷ []) ((pos 3505715) ∷ (pos 6096000) ∷ (pos 6217728) ∷ (pos 3895773) ∷ (pos 6727375) ∷ (pos 4969420) ∷ (pos 5866089) ∷ (pos 6096000) ∷ [])) ∷
    L (R (pos 199) (minus 55) (pos 896) (pos 42)) 256 ((pos 927) ∷ (minus 357) ∷ (minus 709) ∷ (pos 753) ∷ [])
    (returned 1 2 0 ((pos 481) ∷ (minus 55) ∷ (pos 338) ∷ (pos 42) ∷ (pos 7) ∷ (pos 7) ∷ []) (2 ∷ 7 ∷ []) []) ∷
    C (R (pos 0) (pos 0) (pos 5) (pos 2)) 256 0 ((pos 5) ∷ (pos 0) ∷ (pos 5) ∷ (pos 2) ∷ (pos 5) ∷ (minus 1) ∷ (pos 7) ∷ (minus 1) ∷ (pos 7) ∷ (pos 3) ∷ (pos 7) ∷ (pos 2) ∷ (pos 7) ∷ (pos 0) ∷ (pos 0) ∷ (pos 0) ∷ (pos 0) ∷ (pos 1) ∷ (pos 2) ∷ (pos 1) ∷ (pos 2) ∷ (pos 1) ∷ (pos 2) ∷ (pos 0) ∷ (pos 2) ∷ (pos 0) ∷ (pos 5) ∷ (pos 0) ∷ [])
    (returned 1 4 0 ((pos 2) ∷ (pos 1) ∷ (pos 2) ∷ (pos 0) ∷ (pos 0) ∷ (pos 0) ∷ (pos 0) ∷ (pos 1) ∷ (pos 7) ∷ (pos 7) ∷ []) (4 ∷ 7 ∷ []) ((pos 5) ∷ (pos 0) ∷ (pos 5) ∷ (pos 2) ∷ (pos 5) ∷ (pos 0) ∷ (pos 5) ∷ (pos 2) ∷ (pos 5) ∷ (pos 0) ∷ (pos 0) ∷ (pos 0) ∷ (pos 0) ∷ (pos 1) ∷ (pos 2) ∷ (pos 1) ∷ (pos 2) ∷ (pos 0) ∷ (pos 5) ∷ (pos 0) ∷ [])) ∷
    L (R (pos 0) (pos 0) (pos 3) (pos 3)) 256 ((pos 4) ∷ (pos 3) ∷ (pos 0) ∷ (pos 3) ∷ (pos 0) ∷ (pos 4) ∷ (pos 0) ∷ (minus 2) ∷ (pos 5) ∷ (pos 0) ∷ [])
    (returned 1 2 0 ((pos 3) ∷ (pos 3) ∷ (pos 0) ∷ (pos 3) ∷ (pos 7) ∷ (pos 7) ∷ []) (2 ∷ 7 ∷ []) []) ∷
    []

drawings2 : map shown table2 ≡ map (λ c. c.expected) table2
unfolding at_end get_segment_intersection edge_intersection side_intersection get_intersection start_locs_are_clockwise at_vertex scan_pass scan_answer scan_loop point_in_polygon path1_contains_path2 get_bounds_path get_location determinant numerator fraction working_of crossing_of point_at intersection cross_product_sign is_collinear cross_product_three_points cross_product_is_negative is_clockwise_dir set_owner set_edge set_next set_prev set_results set_edge_list ring unlink add_to_edge struck uncouple_edge own_from set_new_owner drop_collinear_pass drop_collinear assign_side assign_edges check_ring check_from check_edges enter_all arena_of straighten_pass straighten points_from get_path get_paths clip_walked execute sheet_refusal early_refusal delivered answered clip_closed clip_open filled_part is_present first_off_edge line_through line_cross line_from line_passes line_walk_from walk_open pieces longer_than_one execute_lines seek relink regroup keep_one keep_both keep_each settle rejoin one_turn turns_from tidy_edges add add_all push_start_loc next_side next_outside add_corner_prev_curr add_corner_loc add_corners push_start_locs next_inside get_next_location second_search remain_outside enter pass_to pass_through leave cross_boundary add_round retrace close_outline last_off pass_from passes surround after_while walk_from walk_closed walked_outline lib.Ieee.add of_int sub mul div neg to_signed eq lt le
drawings2 = refl

abbrev table3 : List Case
table3 =
    C (R (pos 0) (pos 0) (pos 60) (pos 60)) 5 256 ((pos 64) ∷ (minus 7) ∷ (pos 60) ∷ (minus 7) ∷ (pos 60) ∷ (minus 4) ∷ (pos 60) ∷ (pos 45) ∷ (pos 67) ∷ (pos 46) ∷ (pos 51) ∷ (pos 45) ∷ (pos 53) ∷ (pos 44) ∷ (pos 52) ∷ (pos 42) ∷ [])
    (returned 1 5 0 ((pos 52) ∷ (pos 42) ∷ (pos 60) ∷ (pos 9) ∷ (pos 60) ∷ (pos 45) ∷ (pos 51) ∷ (pos 45) ∷ (pos 53) ∷ (pos 44) ∷ (pos 7) ∷ (pos 7) ∷ []) (5 ∷ 7 ∷ []) ((pos 60) ∷ (pos 9) ∷ (pos 60) ∷ (pos 45) ∷ (pos 51) ∷ (pos 45) ∷ (pos 53) ∷ (pos 44) ∷ (pos 52) ∷ (pos 42) ∷ [])) ∷
    C (R (pos 0) (pos 0) (pos 6) (pos 5)) 256 256 ((minus 1) ∷ (pos 1) ∷ (pos 7) ∷ (pos 1) ∷ (pos 5) ∷ (pos 1) ∷ (pos 5) ∷ (pos 1) ∷ (pos 5) ∷ (pos 1) ∷ [])
    (returned 0 0 0 ((pos 7) ∷ (pos 7) ∷ []) (7 ∷ []) ((pos 0) ∷ (pos 1) ∷ (pos 6) ∷ (pos 1) ∷ (pos 5) ∷ (pos 1) ∷ [])) ∷
    C (R (pos 0) (pos 0) (pos 8) (pos 3)) 256 256 ((pos 0) ∷ (pos 2) ∷ (minus 2) ∷ (minus 2) ∷ (pos 1) ∷ (pos 2) ∷ (pos 0) ∷ (pos 0) ∷ (pos 4) ∷ (pos 1) ∷ [])
    (returned 1 3 0 ((pos 4) ∷ (pos 1) ∷ (pos 0) ∷ (pos 2) ∷ (pos 0) ∷ (pos 0) ∷ (pos 7) ∷ (pos 7) ∷ []) (3 ∷ 7 ∷ []) ((pos 0) ∷ (pos 2) ∷ (pos 0) ∷ (pos 0) ∷ (pos 1) ∷ (pos 2) ∷ (pos 0) ∷ (pos 0) ∷ (pos 4) ∷ (pos 1) ∷ [])) ∷
    L (R (pos 0) (pos 0) (pos 60) (pos 60)) 256 ((pos 1) ∷ (pos 6) ∷ (pos 2) ∷ (minus 2) ∷ (pos 1) ∷ (pos 7) ∷ (pos 3) ∷ (pos 0) ∷ (pos 5) ∷ (pos 3) ∷ (pos 6) ∷ (pos 0) ∷ (pos 9) ∷ (pos 7) ∷ (pos 9) ∷ (minus 2) ∷ (pos 63) ∷ (pos 3) ∷ (pos 43) ∷ (minus 8) ∷ [])
    (returned 4 13 0 ((pos 1) ∷ (pos 6) ∷ (pos 1) ∷ (pos 0) ∷ (pos 1) ∷ (pos 0) ∷ (pos 1) ∷ (pos 7) ∷ (pos 3) ∷ (pos 0) ∷ (pos 5) ∷ (pos 3) ∷ (pos 6) ∷ (pos 0) ∷ (pos 9) ∷ (pos 7) ∷ (pos 9) ∷ (pos 0) ∷ (pos 30) ∷ (pos 0) ∷ (pos 60) ∷ (pos 2) ∷ (pos 60) ∷ (pos 1) ∷ (pos 57) ∷ (pos 0) ∷ (pos 7) ∷ (pos 7) ∷ []) (2 ∷ 7 ∷ 2 ∷ 2 ∷ 7 ∷ []) []) ∷
    L (R (minus 391) (minus 354) (minus 93) (pos 104)) 256 ((pos 238) ∷ (pos 428) ∷ (pos 238) ∷ (pos 442) ∷ (pos 210) ∷ (pos 442) ∷ (pos 210) ∷ (pos 414) ∷ (pos 252) ∷ (pos 414) ∷ (pos 252) ∷ (pos 456) ∷ (pos 196) ∷ (pos 456) ∷ (pos 196) ∷ (pos 400) ∷ (pos 266) ∷ (pos 400) ∷ (pos 266) ∷ (pos 470) ∷ [])
    (returned 0 0 0 ((pos 7) ∷ (pos 7) ∷ []) (7 ∷ []) []) ∷
    C (R (pos 0) (pos 0) (pos 7) (pos 8)) 256 0 ((pos 8) ∷ (minus 3) ∷ (pos 9) ∷ (pos 11) ∷ (minus 2) ∷ (pos 8) ∷ (minus 2) ∷ (minus 1) ∷ [])
    (returned 1 4 0 ((pos 0) ∷ (pos 8) ∷ (pos 0) ∷ (pos 0) ∷ (pos 7) ∷ (pos 0) ∷ (pos 7) ∷ (pos 8) ∷ (pos 7) ∷ (pos 7) ∷ []) (4 ∷ 7 ∷ []) ((pos 0) ∷ (pos 0) ∷ (pos 7) ∷ (pos 0) ∷ (pos 7) ∷ (pos 8) ∷ (pos 0) ∷ (pos 8) ∷ [])) ∷
    C (R (pos 7) (pos 33554431) (pos 30555658) (pos 33554432)) 256 256 ((minus 17336970) ∷ (minus 17100368) ∷ (pos 8) ∷ (pos 33554432) ∷ (minus 16177738) ∷ (minus 11458392) ∷ (pos 30555660) ∷ (pos 33554431) ∷ (pos 9163657) ∷ (pos 4620309) ∷ (pos 30196932) ∷ (pos 16867963) ∷ (pos 26648348) ∷ (pos 15737132) ∷ [])
    (returned 0 0 0 ((pos 7) ∷ (pos 7) ∷ []) (7 ∷ []) ((pos 7) ∷ (pos 33554431) ∷ (pos 8) ∷ (pos 33554432) ∷ (pos 7) ∷ (pos 33554431) ∷ [])) ∷
    L (R (pos 310) (minus 348) (pos 583) (pos 181)) 256 ((minus 226) ∷ (pos 342) ∷ (pos 519) ∷ (minus 107) ∷ (pos 519) ∷ (minus 107) ∷ (pos 65) ∷ (minus 408) ∷ (pos 65) ∷ (minus 408) ∷ (pos 143) ∷ (minus 488) ∷ (pos 309) ∷ (minus 150) ∷ (minus 235) ∷ (minus 988) ∷ (minus 750) ∷ (minus 509) ∷ (minus 881) ∷ (pos 253) ∷ (pos 888) ∷ (minus 44) ∷ (minus 403) ∷ (minus 233) ∷ (minus 403) ∷ (minus 233) ∷ (minus 815) ∷ (pos 574) ∷ (pos 771) ∷ (pos 780) ∷ (pos 771) ∷ (pos 780) ∷ [])
    (returned 3 7 0 ((pos 310) ∷ (pos 18) ∷ (pos 519) ∷ (minus 107) ∷ (pos 310) ∷ (minus 245) ∷ (pos 310) ∷ (pos 53) ∷ (pos 583) ∷ (pos 7) ∷ (pos 583) ∷ (minus 88) ∷ (pos 310) ∷ (minus 128) ∷ (pos 7) ∷ (pos 7) ∷ []) (3 ∷ 2 ∷ 2 ∷ 7 ∷ []) []) ∷
    L (R (pos 0) (pos 1) (pos 2) (pos 4)) 256 ((pos 1) ∷ (pos 2) ∷ (pos 3) ∷ (pos 2) ∷ (pos 5) ∷ (minus 1) ∷ (pos 2) ∷ (pos 0) ∷ (pos 0) ∷ (pos 0) ∷ (pos 4) ∷ (pos 5) ∷ [])
    (returned 2 4 0 ((pos 1) ∷ (pos 2) ∷ (pos 2) ∷ (pos 2) ∷ (pos 0) ∷ (pos 1) ∷ (pos 2) ∷ (pos 2) ∷ (pos 7) ∷ (pos 7) ∷ []) (2 ∷ 2 ∷ 7 ∷ []) []) ∷
    C (R (pos 0) (minus 33554432) (pos 530476) (minus 11431574)) 10 2 ((minus 5819654) ∷ (pos 12870633) ∷ (pos 7523414) ∷ (minus 7312634) ∷ (pos 265238) ∷ (minus 22493003) ∷ (pos 13694120) ∷ (minus 27986340) ∷ (pos 24860108) ∷ (pos 32719873) ∷ (minus 33554432) ∷ (minus 33554432) ∷ (minus 13585250) ∷ (pos 19351948) ∷ (minus 30327312) ∷ (minus 33554431) ∷ (pos 18479599) ∷ (minus 33554431) ∷ (minus 12642214) ∷ (pos 33554432) ∷ [])
    (refusal 10 ((pos 530476) ∷ (minus 21938261) ∷ (pos 265238) ∷ (minus 22493003) ∷ (pos 530476) ∷ (minus 22601503) ∷ (pos 530476) ∷ (minus 11431574) ∷ (pos 0) ∷ (minus 11431574) ∷ (pos 0) ∷ (minus 33554431) ∷ (pos 530476) ∷ (minus 33554431) ∷ (pos 530476) ∷ (minus 11431574) ∷ (pos 0) ∷ (minus 11431574) ∷ (pos 530476) ∷ (minus 11431574) ∷ [])) ∷
    C (R (minus 33554432) (pos 0) (pos 11673685) (pos 14302946)) 256 256 ((minus 33554432) ∷ (minus 17370620) ∷ (minus 33554432) ∷ (pos 14302947) ∷ (pos 33554431) ∷ (pos 11965046) ∷ (minus 33554432) ∷ (pos 14302945) ∷ (minus 2180673) ∷ (minus 18833318) ∷ (minus 33554432) ∷ (pos 18453809) ∷ (minus 33554432) ∷ (pos 18453809) ∷ (minus 33554432) ∷ (minus 1) ∷ (pos 11673686) ∷ (pos 0) ∷ (pos 11515278) ∷ (minus 28732284) ∷ (minus 31651274) ∷ (minus 8613524) ∷ (minus 31651274) ∷ (minus 8613524) ∷ (minus 10313182) ∷ (minus 8271539) ∷ (minus 14385206) ∷ (pos 24930534) ∷ (minus 33554431) ∷ (pos 30448769) ∷ [])
    (returned 1 11 11 ((minus 33554431) ∷ (pos 14302946) ∷ (minus 33554431) ∷ (pos 0) ∷ (minus 11327633) ∷ (pos 0) ∷ (minus 13081799) ∷ (pos 14302946) ∷ (minus 33554403) ∷ (pos 14302946) ∷ (pos 11673685) ∷ (pos 12727315) ∷ (pos 11673685) ∷ (pos 12727314) ∷ (minus 33554432) ∷ (pos 14302945) ∷ (minus 20012254) ∷ (pos 0) ∷ (minus 18027213) ∷ (pos 0) ∷ (minus 30061854) ∷ (pos 14302946) ∷ (pos 7) ∷ (pos 7) ∷ []) (11 ∷ 7 ∷ []) ((minus 33554431) ∷ (pos 14302946) ∷ (minus 33554431) ∷ (pos 0) ∷ (minus 33554432) ∷ (pos 0) ∷ (minus 33554432) ∷ (pos 14302946) ∷ (minus 33554403) ∷ (pos 14302946) ∷ (pos 11673685) ∷ (pos 12727315) ∷ (pos 11673685) ∷ (pos 12727314) ∷ (minus 33554432) ∷ (pos 14302945) ∷ (minus 20012254) ∷ (pos 0) ∷ (minus 18027213) ∷ (pos 0) ∷ (minus 30061854) ∷ (pos 14302946) ∷ (minus 33554432) ∷ (pos 14302946) ∷ (minus 33554432) ∷ (pos 0) ∷ (minus 11327633) ∷ (pos 0) ∷ (minus 13081799) ∷ (pos 14302946) ∷ [])) ∷
    C (R (pos 0) (pos 0) (pos 10) (pos 10)) 256 256 ((pos 10) ∷ (pos 0) ∷ (minus 1) ∷ (pos 11) ∷ (pos 0) ∷ (pos 11) ∷ (pos 9) ∷ (pos 0) ∷ (pos 10) ∷ (minus 2) ∷ (pos 10) ∷ (pos 5) ∷ (pos 0) ∷ (pos 0) ∷ (minus 1) ∷ (minus 1) ∷ (pos 10) ∷ (pos 1) ∷ (pos 9) ∷ (minus 2) ∷ (pos 11) ∷ (pos 10) ∷ (pos 12) ∷ (minus 2) ∷ [])
    (returned 2 9 2 ((pos 9) ∷ (pos 0) ∷ (pos 10) ∷ (pos 0) ∷ (pos 0) ∷ (pos 10) ∷ (pos 10) ∷ (pos 5) ∷ (pos 0) ∷ (pos 0) ∷ (pos 4) ∷ (pos 0) ∷ (pos 10) ∷ (pos 1) ∷ (pos 9) ∷ (pos 0) ∷ (pos 10) ∷ (pos 4) ∷ (pos 7) ∷ (pos 7) ∷ []) (3 ∷ 6 ∷ 7 ∷ []) ((pos 10) ∷ (pos 0) ∷ (pos 0) ∷ (pos 10) ∷ (pos 9) ∷ (pos 0) ∷ (pos 10) ∷ (pos 0) ∷ (pos 10) ∷ (pos 5) ∷ (pos 0) ∷ (pos 0) ∷ (pos 4) ∷ (pos 0) ∷ (pos 10) ∷ (pos 1) ∷ (pos 9) ∷ (pos 0) ∷ (pos 10) ∷ (pos 4) ∷ [])) ∷
    C (R (pos 396000) (pos 2208000) (pos 6000000) (pos 4680000)) 256 0 ((pos 20835048) ∷ (pos 3865040) ∷ (minus 12275732) ∷ (pos 9724900) ∷ (pos 16817165) ∷ (minus 7094914) ∷ (minus 4778951) ∷ (pos 18633472) ∷ (pos 6751749) ∷ (minus 12948252) ∷ (pos 6751749) ∷ (pos 20678332) ∷ (minus 4778952) ∷ (minus 10903392) ∷ (pos 16817165) ∷ (pos 14824994) ∷ (minus 12275732) ∷ (minus 1994820) ∷ [])
    (returned 1 19 0 ((pos 396000) ∷ (pos 4680000) ∷ (pos 396000) ∷ (pos 2398844) ∷ (pos 726100) ∷ (pos 2208000) ∷ (pos 6000000) ∷ (pos 2208000) ∷ (pos 6000000) ∷ (pos 4680000) ∷ (pos 396000) ∷ (pos 4680000) ∷ (pos 396000) ∷ (pos 4459668) ∷ (pos 1218099) ∷ (pos 2208000) ∷ (pos 6000000) ∷ (pos 2208000) ∷ (pos 6000000) ∷ (pos 4680000) ∷ (pos 910649) ∷ (pos 4680000) ∷ (pos 396000) ∷ (pos 3270412) ∷ (pos 396000) ∷ (pos 2208000) ∷ (pos 6000000) ∷ (pos 2208000) ∷ (pos 6000000) ∷ (pos 4680000) ∷ (pos 396000) ∷ (pos 4680000) ∷ (pos 396000) ∷ (pos 2208000) ∷ (pos 6000000) ∷ (pos 2208000) ∷ (pos 6000000) ∷ (pos 4680000) ∷ (pos 7) ∷ (pos 7) ∷ []) (19 ∷ 7 ∷ []) ((pos 396000) ∷ (pos 2398844) ∷ (pos 726100) ∷ (pos 2208000) ∷ (pos 6000000) ∷ (pos 2208000) ∷ (pos 6000000) ∷ (pos 4680000) ∷ (pos 396000) ∷ (pos 4680000) ∷ (pos 396000) ∷ (pos 4459668) ∷ (pos 1218099) ∷ (pos 2208000) ∷ (pos 6000000) ∷ (pos 2208000) ∷ (pos 6000000) ∷ (pos 4680000) ∷ (pos 910649) ∷ (pos 4680000) ∷ (pos 396000) ∷ (pos 3270412) ∷ (pos 396000) ∷ (pos 2208000) ∷ (pos 6000000) ∷ (pos 2208000) ∷ (pos 6000000) ∷ (pos 4680000) ∷ (pos 396000) ∷ (pos 4680000) ∷ (pos 396000) ∷ (pos 2208000) ∷ (pos 6000000) ∷ (pos 2208000) ∷ (pos 6000000) ∷ (pos 4680000) ∷ (pos 396000) ∷ (pos 4680000) ∷ [])) ∷
    C (R (pos 0) (pos 0) (pos 60) (pos 60)) 9 1 ((pos 25) ∷ (pos 60) ∷ (pos 26) ∷ (pos 51) ∷ (pos 25) ∷ (pos 63) ∷ (pos 22) ∷ (pos 62) ∷ (pos 18) ∷ (pos 60) ∷ (pos 16) ∷ (pos 55) ∷ (pos 13) ∷ (pos 53) ∷ (pos 2) ∷ (pos 56) ∷ (pos 3) ∷ (pos 65) ∷ (minus 1) ∷ (pos 63) ∷ [])
    (refusal 8 ((pos 25) ∷ (pos 60) ∷ (pos 0) ∷ (pos 60) ∷ (pos 25) ∷ (pos 60) ∷ (pos 26) ∷ (pos 51) ∷ (pos 25) ∷ (pos 60) ∷ (pos 18) ∷ (pos 60) ∷ (pos 16) ∷ (pos 55) ∷ (pos 13) ∷ (pos 53) ∷ (pos 2) ∷ (pos 56) ∷ (pos 2) ∷ (pos 60) ∷ [])) ∷
    U (R (minus 234) (pos 390) (pos 183) (pos 790)) 256 256 ((pos 1882) ∷ (minus 189) ∷ (pos 350) ∷ (minus 886) ∷ (pos 511) ∷ (pos 230) ∷ (pos 917) ∷ (minus 189) ∷ [])
    (returned 0 0 0 ((pos 7) ∷ (pos 7) ∷ []) (7 ∷ []) []) ∷
    []

drawings3 : map shown table3 ≡ map (λ c. c.expected) table3
unfolding at_end get_segment_intersection edge_intersection side_intersection get_intersection start_locs_are_clockwise at_vertex scan_pass scan_answer scan_loop point_in_polygon path1_contains_path2 get_bounds_path get_location determinant numerator fraction working_of crossing_of point_at intersection cross_product_sign is_collinear cross_product_three_points cross_product_is_negative is_clockwise_dir set_owner set_edge set_next set_prev set_results set_edge_list ring unlink add_to_edge struck uncouple_edge own_from set_new_owner drop_collinear_pass drop_collinear assign_side assign_edges check_ring check_from check_edges enter_all arena_of straighten_pass straighten points_from get_path get_paths clip_walked execute sheet_refusal early_refusal delivered answered clip_closed clip_open filled_part is_present first_off_edge line_through line_cross line_from line_passes line_walk_from walk_open pieces longer_than_one execute_lines seek relink regroup keep_one keep_both keep_each settle rejoin one_turn turns_from tidy_edges add add_all push_start_loc next_side next_outside add_corner_prev_curr add_corner_loc add_corners push_start_locs next_inside get_next_location second_search remain_outside enter pass_to pass_through leave cross_boundary add_round retrace close_outline last_off pass_from passes surround after_while walk_from walk_closed walked_outline lib.Ieee.add of_int sub mul div neg to_signed eq lt le
drawings3 = refl

abbrev table4 : List Case
table4 =
    U (R (pos 0) (pos 0) (pos 0) (pos 18)) 0 256 ((minus 1) ∷ (pos 0) ∷ (pos 2) ∷ (minus 2) ∷ (pos 0) ∷ (minus 1) ∷ [])
    (returned 0 0 0 ((pos 7) ∷ (pos 7) ∷ []) (7 ∷ []) []) ∷
    C (R (pos 0) (pos 0) (pos 60) (pos 60)) 256 256 ((minus 4) ∷ (pos 9) ∷ (pos 0) ∷ (pos 7) ∷ (minus 3) ∷ (pos 52) ∷ (pos 9) ∷ (pos 56) ∷ (minus 5) ∷ (pos 60) ∷ (minus 3) ∷ (pos 59) ∷ (minus 1) ∷ (pos 62) ∷ (minus 8) ∷ (pos 60) ∷ (pos 4) ∷ (pos 60) ∷ (pos 0) ∷ (pos 61) ∷ [])
    (returned 1 3 0 ((pos 9) ∷ (pos 56) ∷ (pos 0) ∷ (pos 58) ∷ (pos 0) ∷ (pos 53) ∷ (pos 7) ∷ (pos 7) ∷ []) (3 ∷ 7 ∷ []) ((pos 0) ∷ (pos 53) ∷ (pos 9) ∷ (pos 56) ∷ (pos 0) ∷ (pos 58) ∷ (pos 0) ∷ (pos 60) ∷ [])) ∷
    L (R (pos 182) (pos 95) (pos 332) (pos 561)) 256 ((pos 308) ∷ (pos 519) ∷ (pos 326) ∷ (pos 610) ∷ (pos 235) ∷ (pos 704) ∷ (pos 65) ∷ (pos 689) ∷ (minus 62) ∷ (pos 519) ∷ (minus 14) ∷ (pos 270) ∷ (pos 235) ∷ (pos 110) ∷ (pos 563) ∷ (pos 191) ∷ (pos 756) ∷ (pos 519) ∷ [])
    (returned 2 5 0 ((pos 308) ∷ (pos 519) ∷ (pos 316) ∷ (pos 561) ∷ (pos 182) ∷ (pos 144) ∷ (pos 235) ∷ (pos 110) ∷ (pos 332) ∷ (pos 133) ∷ (pos 7) ∷ (pos 7) ∷ []) (2 ∷ 3 ∷ 7 ∷ []) []) ∷
    U (R (pos 273) (pos 302) (pos 799) (pos 397)) 0 256 ((pos 582) ∷ (pos 311) ∷ (minus 902) ∷ (pos 445) ∷ [])
    (returned 0 0 0 ((pos 7) ∷ (pos 7) ∷ []) (7 ∷ []) []) ∷
    L (R (pos 0) (pos 0) (pos 60) (pos 60)) 256 ((pos 65) ∷ (minus 5) ∷ (pos 51) ∷ (minus 2) ∷ (pos 51) ∷ (minus 2) ∷ (pos 64) ∷ (pos 25) ∷ (pos 60) ∷ (pos 28) ∷ (pos 60) ∷ (pos 28) ∷ (pos 54) ∷ (pos 28) ∷ (pos 60) ∷ (pos 29) ∷ (pos 67) ∷ (pos 54) ∷ (pos 57) ∷ (pos 53) ∷ (pos 57) ∷ (pos 53) ∷ (pos 52) ∷ (pos 55) ∷ (pos 53) ∷ (pos 50) ∷ (pos 60) ∷ (pos 25) ∷ (pos 53) ∷ (pos 28) ∷ (pos 55) ∷ (pos 29) ∷ (pos 60) ∷ (pos 29) ∷ (pos 60) ∷ (pos 29) ∷ (pos 60) ∷ (minus 4) ∷ (pos 62) ∷ (minus 4) ∷ [])
    (returned 3 14 0 ((pos 51) ∷ (pos 0) ∷ (pos 60) ∷ (pos 16) ∷ (pos 60) ∷ (pos 28) ∷ (pos 54) ∷ (pos 28) ∷ (pos 60) ∷ (pos 29) ∷ (pos 60) ∷ (pos 53) ∷ (pos 57) ∷ (pos 53) ∷ (pos 52) ∷ (pos 55) ∷ (pos 53) ∷ (pos 50) ∷ (pos 60) ∷ (pos 25) ∷ (pos 53) ∷ (pos 28) ∷ (pos 55) ∷ (pos 29) ∷ (pos 60) ∷ (pos 29) ∷ (pos 60) ∷ (pos 0) ∷ (pos 7) ∷ (pos 7) ∷ []) (2 ∷ 3 ∷ 9 ∷ 7 ∷ []) []) ∷
    C (R (pos 216) (pos 279) (pos 353) (pos 639)) 256 256 ((pos 1400) ∷ (pos 610) ∷ (minus 275) ∷ (minus 356) ∷ (minus 275) ∷ (pos 1576) ∷ (pos 1400) ∷ (pos 610) ∷ (minus 275) ∷ (minus 356) ∷ (minus 275) ∷ (pos 1576) ∷ [])
    (returned 0 0 0 ((pos 7) ∷ (pos 7) ∷ []) (7 ∷ []) []) ∷
    C (R (minus 350) (minus 303) (minus 83) (pos 343)) 8 256 ((pos 26) ∷ (pos 262) ∷ (pos 26) ∷ (pos 262) ∷ (pos 26) ∷ (pos 426) ∷ (minus 302) ∷ (pos 426) ∷ (minus 302) ∷ (pos 98) ∷ (minus 302) ∷ (pos 98) ∷ (pos 190) ∷ (pos 98) ∷ (pos 190) ∷ (pos 590) ∷ (minus 466) ∷ (pos 590) ∷ (pos 26) ∷ (pos 262) ∷ [])
    (returned 1 7 0 ((minus 83) ∷ (pos 343) ∷ (minus 302) ∷ (pos 343) ∷ (minus 302) ∷ (pos 98) ∷ (minus 83) ∷ (pos 98) ∷ (minus 83) ∷ (pos 343) ∷ (minus 95) ∷ (pos 343) ∷ (minus 83) ∷ (pos 334) ∷ (pos 7) ∷ (pos 7) ∷ []) (7 ∷ 7 ∷ []) ((minus 302) ∷ (pos 343) ∷ (minus 302) ∷ (pos 98) ∷ (minus 83) ∷ (pos 98) ∷ (minus 83) ∷ (pos 343) ∷ (minus 350) ∷ (pos 343) ∷ (minus 95) ∷ (pos 343) ∷ (minus 83) ∷ (pos 334) ∷ (minus 83) ∷ (pos 343) ∷ [])) ∷
    C (R (pos 0) (pos 0) (pos 7) (pos 2)) 6 256 ((pos 7) ∷ (pos 5) ∷ (pos 6) ∷ (pos 0) ∷ (minus 2) ∷ (pos 3) ∷ (minus 2) ∷ (pos 0) ∷ (pos 9) ∷ (minus 3) ∷ (pos 8) ∷ (pos 2) ∷ [])
    (returned 1 6 0 ((pos 7) ∷ (pos 2) ∷ (pos 6) ∷ (pos 2) ∷ (pos 6) ∷ (pos 0) ∷ (pos 0) ∷ (pos 2) ∷ (pos 0) ∷ (pos 0) ∷ (pos 7) ∷ (pos 0) ∷ (pos 7) ∷ (pos 7) ∷ []) (6 ∷ 7 ∷ []) ((pos 6) ∷ (pos 2) ∷ (pos 6) ∷ (pos 0) ∷ (pos 0) ∷ (pos 2) ∷ (pos 0) ∷ (pos 0) ∷ (pos 7) ∷ (pos 0) ∷ (pos 7) ∷ (pos 2) ∷ [])) ∷
    C (R (minus 123) (pos 167) (pos 107) (pos 698)) 256 256 ((pos 1277) ∷ (pos 552) ∷ (pos 431) ∷ (minus 245) ∷ (minus 318) ∷ (pos 552) ∷ (pos 431) ∷ (pos 1252) ∷ (pos 1082) ∷ (pos 552) ∷ (pos 431) ∷ (minus 51) ∷ (minus 123) ∷ (pos 552) ∷ (pos 431) ∷ (pos 1058) ∷ (pos 888) ∷ (pos 552) ∷ (pos 431) ∷ (pos 144) ∷ (pos 71) ∷ (pos 552) ∷ (pos 431) ∷ (pos 863) ∷ (pos 694) ∷ (pos 552) ∷ [])
    (returned 1 12 0 ((pos 107) ∷ (pos 167) ∷ (pos 43) ∷ (pos 167) ∷ (minus 123) ∷ (pos 344) ∷ (minus 123) ∷ (pos 698) ∷ (pos 107) ∷ (pos 698) ∷ (pos 107) ∷ (pos 301) ∷ (minus 123) ∷ (pos 552) ∷ (pos 36) ∷ (pos 698) ∷ (pos 107) ∷ (pos 698) ∷ (pos 107) ∷ (pos 511) ∷ (pos 71) ∷ (pos 552) ∷ (pos 107) ∷ (pos 583) ∷ (pos 7) ∷ (pos 7) ∷ []) (12 ∷ 7 ∷ []) ((pos 43) ∷ (pos 167) ∷ (minus 123) ∷ (pos 344) ∷ (minus 123) ∷ (pos 698) ∷ (pos 107) ∷ (pos 698) ∷ (pos 107) ∷ (pos 301) ∷ (minus 123) ∷ (pos 552) ∷ (pos 36) ∷ (pos 698) ∷ (pos 107) ∷ (pos 698) ∷ (pos 107) ∷ (pos 511) ∷ (pos 71) ∷ (pos 552) ∷ (pos 107) ∷ (pos 583) ∷ (pos 107) ∷ (pos 167) ∷ [])) ∷
    C (R (minus 314) (minus 413) (pos 327) (minus 8)) 256 256 ((minus 418) ∷ (minus 440) ∷ (pos 665) ∷ (minus 258) ∷ (pos 645) ∷ (pos 357) ∷ (pos 60) ∷ (minus 683) ∷ (pos 378) ∷ (minus 882) ∷ (minus 858) ∷ (minus 537) ∷ (pos 24) ∷ (minus 966) ∷ (minus 323) ∷ (pos 635) ∷ (minus 737) ∷ (minus 299) ∷ (pos 570) ∷ (pos 841) ∷ (pos 174) ∷ (minus 527) ∷ (pos 23) ∷ (pos 648) ∷ (minus 176) ∷ (pos 337) ∷ [])
    (returned 2 13 6 ((minus 283) ∷ (minus 8) ∷ (minus 314) ∷ (minus 106) ∷ (minus 314) ∷ (minus 413) ∷ (minus 257) ∷ (minus 413) ∷ (pos 327) ∷ (minus 314) ∷ (pos 327) ∷ (minus 208) ∷ (pos 211) ∷ (minus 413) ∷ (minus 95) ∷ (minus 413) ∷ (minus 183) ∷ (minus 8) ∷ (pos 324) ∷ (minus 8) ∷ (pos 207) ∷ (minus 413) ∷ (pos 159) ∷ (minus 413) ∷ (pos 107) ∷ (minus 8) ∷ (pos 7) ∷ (pos 7) ∷ []) (9 ∷ 4 ∷ 7 ∷ []) ((minus 283) ∷ (minus 8) ∷ (minus 314) ∷ (minus 106) ∷ (minus 314) ∷ (minus 413) ∷ (minus 257) ∷ (minus 413) ∷ (pos 327) ∷ (minus 314) ∷ (pos 327) ∷ (minus 208) ∷ (pos 211) ∷ (minus 413) ∷ (minus 95) ∷ (minus 413) ∷ (minus 183) ∷ (minus 8) ∷ (minus 314) ∷ (minus 8) ∷ (pos 327) ∷ (minus 8) ∷ (pos 324) ∷ (minus 8) ∷ (pos 207) ∷ (minus 413) ∷ (pos 159) ∷ (minus 413) ∷ (pos 107) ∷ (minus 8) ∷ [])) ∷
    L (R (minus 187) (minus 132) (minus 7) (pos 47)) 256 ((minus 126) ∷ (minus 104) ∷ (minus 126) ∷ (minus 97) ∷ (minus 140) ∷ (minus 97) ∷ (minus 140) ∷ (minus 111) ∷ (minus 119) ∷ (minus 111) ∷ (minus 119) ∷ (minus 90) ∷ (minus 147) ∷ (minus 90) ∷ (minus 147) ∷ (minus 118) ∷ (minus 112) ∷ (minus 118) ∷ (minus 112) ∷ (minus 83) ∷ (minus 154) ∷ (minus 83) ∷ (minus 154) ∷ (minus 125) ∷ (minus 105) ∷ (minus 125) ∷ [])
    (returned 1 13 0 ((minus 126) ∷ (minus 104) ∷ (minus 126) ∷ (minus 97) ∷ (minus 140) ∷ (minus 97) ∷ (minus 140) ∷ (minus 111) ∷ (minus 119) ∷ (minus 111) ∷ (minus 119) ∷ (minus 90) ∷ (minus 147) ∷ (minus 90) ∷ (minus 147) ∷ (minus 118) ∷ (minus 112) ∷ (minus 118) ∷ (minus 112) ∷ (minus 83) ∷ (minus 154) ∷ (minus 83) ∷ (minus 154) ∷ (minus 125) ∷ (minus 105) ∷ (minus 125) ∷ (pos 7) ∷ (pos 7) ∷ []) (13 ∷ 7 ∷ []) []) ∷
    L (R (pos 0) (pos 0) (pos 1) (pos 19)) 256 ((pos 0) ∷ (pos 20) ∷ (pos 3) ∷ (pos 19) ∷ (pos 2) ∷ (pos 9) ∷ (pos 0) ∷ (pos 1) ∷ (pos 2) ∷ (pos 20) ∷ (pos 1) ∷ (pos 20) ∷ [])
    (returned 2 4 0 ((pos 1) ∷ (pos 5) ∷ (pos 0) ∷ (pos 1) ∷ (pos 0) ∷ (pos 1) ∷ (pos 1) ∷ (pos 10) ∷ (pos 7) ∷ (pos 7) ∷ []) (2 ∷ 2 ∷ 7 ∷ []) []) ∷
    L (R (pos 0) (pos 0) (pos 2) (pos 4)) 256 ((pos 5) ∷ (pos 5) ∷ (pos 1) ∷ (pos 3) ∷ (minus 3) ∷ (pos 6) ∷ (minus 1) ∷ (pos 0) ∷ (pos 5) ∷ (pos 0) ∷ [])
    (returned 2 5 0 ((pos 2) ∷ (pos 3) ∷ (pos 1) ∷ (pos 3) ∷ (pos 0) ∷ (pos 3) ∷ (pos 0) ∷ (pos 0) ∷ (pos 2) ∷ (pos 0) ∷ (pos 7) ∷ (pos 7) ∷ []) (3 ∷ 2 ∷ 7 ∷ []) []) ∷
    C (R (pos 0) (pos 0) (pos 7) (pos 9)) 256 256 ((pos 0) ∷ (pos 10) ∷ (pos 0) ∷ (minus 1) ∷ (pos 7) ∷ (pos 0) ∷ (pos 9) ∷ (pos 9) ∷ [])
    (returned 1 4 0 ((pos 0) ∷ (pos 0) ∷ (pos 7) ∷ (pos 0) ∷ (pos 7) ∷ (pos 9) ∷ (pos 0) ∷ (pos 9) ∷ (pos 7) ∷ (pos 7) ∷ []) (4 ∷ 7 ∷ []) ((pos 7) ∷ (pos 0) ∷ (pos 7) ∷ (pos 9) ∷ (pos 0) ∷ (pos 9) ∷ (pos 0) ∷ (pos 0) ∷ [])) ∷
    L (R (pos 2) (pos 1) (pos 3) (pos 3)) 256 ((pos 5) ∷ (pos 2) ∷ (pos 1) ∷ (pos 2) ∷ (minus 1) ∷ (minus 1) ∷ (pos 5) ∷ (pos 0) ∷ (pos 5) ∷ (minus 1) ∷ [])
    (returned 1 2 0 ((pos 3) ∷ (pos 2) ∷ (pos 2) ∷ (pos 2) ∷ (pos 7) ∷ (pos 7) ∷ []) (2 ∷ 7 ∷ []) []) ∷
    []

drawings4 : map shown table4 ≡ map (λ c. c.expected) table4
unfolding at_end get_segment_intersection edge_intersection side_intersection get_intersection start_locs_are_clockwise at_vertex scan_pass scan_answer scan_loop point_in_polygon path1_contains_path2 get_bounds_path get_location determinant numerator fraction working_of crossing_of point_at intersection cross_product_sign is_collinear cross_product_three_points cross_product_is_negative is_clockwise_dir set_owner set_edge set_next set_prev set_results set_edge_list ring unlink add_to_edge struck uncouple_edge own_from set_new_owner drop_collinear_pass drop_collinear assign_side assign_edges check_ring check_from check_edges enter_all arena_of straighten_pass straighten points_from get_path get_paths clip_walked execute sheet_refusal early_refusal delivered answered clip_closed clip_open filled_part is_present first_off_edge line_through line_cross line_from line_passes line_walk_from walk_open pieces longer_than_one execute_lines seek relink regroup keep_one keep_both keep_each settle rejoin one_turn turns_from tidy_edges add add_all push_start_loc next_side next_outside add_corner_prev_curr add_corner_loc add_corners push_start_locs next_inside get_next_location second_search remain_outside enter pass_to pass_through leave cross_boundary add_round retrace close_outline last_off pass_from passes surround after_while walk_from walk_closed walked_outline lib.Ieee.add of_int sub mul div neg to_signed eq lt le
drawings4 = refl
