-- Drawings with the Rust's answers: what the entries answer and fill, and the walked outline.
-- Made by tools/tables.py from rows of compare's `drawings`. Assumes nothing.
use Rattle.std.specs.Prelude.{◌≡◌, refl, List, [], ◌∷◌, map, pos}
use Rattle.drawings.specs.Cases.{Case, C, U, L, R, minus, returned, refusal, shown}
use Rattle.plane.specs.Intersection.{at_end, get_segment_intersection, edge_intersection, side_intersection, get_intersection}
use Rattle.plane.specs.Locations.{start_locs_are_clockwise}
use Rattle.plane.specs.Polygon.{at_vertex, scan_pass, scan_answer, scan_loop, point_in_polygon, path1_contains_path2}
use Rattle.plane.specs.Rectangle.{get_bounds_path, get_location}
use Rattle.plane.specs.Segment.{determinant, numerator, fraction, working_of, crossing_of, point_at, intersection}
use Rattle.plane.specs.Signs.{cross_product_sign, is_collinear, cross_product_three_points, cross_product_is_negative, is_clockwise_dir}
use Rattle.reference.specs.Arena.{set_owner, set_edge, set_next, set_prev, set_results, set_edge_list, ring, unlink, add_to_edge, struck, uncouple_edge, own_from, set_new_owner, drop_collinear_pass, drop_collinear, assign_side, assign_edges, check_ring, check_from, check_edges}
use Rattle.reference.specs.Clip.{enter_all, arena_of, straighten_pass, straighten, points_from, get_path, get_paths, clip_walked, execute}
use Rattle.reference.specs.Entry.{sheet_refusal, early_refusal, delivered, answered, clip_closed, clip_open, filled_part, is_present}
use Rattle.reference.specs.Lines.{first_off_edge, line_through, line_cross, line_from, line_passes, line_walk_from, walk_open, pieces, longer_than_one, execute_lines}
use Rattle.reference.specs.Tidy.{seek, relink, regroup, keep_one, keep_both, keep_each, settle, rejoin, one_turn, turns_from, tidy_edges}
use Rattle.reference.specs.Walk.{add, add_all, push_start_loc, next_side, next_outside, add_corner_prev_curr, add_corner_loc, add_corners, push_start_locs, next_inside, get_next_location, second_search, remain_outside, enter, pass_to, pass_through, leave, cross_boundary, add_round, retrace, close_outline, last_off, pass_from, passes, surround, after_while, walk_from, walk_closed, walked_outline}
use lib.Ieee.{of_int, sub, mul, div, neg, to_signed, eq, lt, le}

abbrev table1 : List Case
table1 =
    C (R (pos 0) (pos 0) (pos 11) (pos 10)) 256 256 ((pos 11) ∷ (pos 11) ∷ (pos 0) ∷ (pos 10) ∷ (minus 1) ∷ (pos 9) ∷ (pos 11) ∷ (pos 11) ∷ [])
    (returned 1 3 0 ((pos 5) ∷ (pos 10) ∷ (pos 0) ∷ (pos 10) ∷ (pos 0) ∷ (pos 9) ∷ (pos 7) ∷ (pos 7) ∷ []) (3 ∷ 7 ∷ []) ((pos 0) ∷ (pos 10) ∷ (pos 0) ∷ (pos 0) ∷ (pos 0) ∷ (pos 9) ∷ (pos 5) ∷ (pos 10) ∷ [])) ∷
    C (R (pos 0) (pos 0) (pos 3) (pos 4)) 256 256 ((pos 4) ∷ (pos 4) ∷ (minus 2) ∷ (pos 0) ∷ (pos 1) ∷ (minus 2) ∷ (pos 5) ∷ (minus 1) ∷ (pos 5) ∷ (pos 4) ∷ [])
    (returned 1 4 0 ((pos 0) ∷ (pos 0) ∷ (pos 3) ∷ (pos 0) ∷ (pos 3) ∷ (pos 3) ∷ (pos 0) ∷ (pos 1) ∷ (pos 7) ∷ (pos 7) ∷ []) (4 ∷ 7 ∷ []) ((pos 3) ∷ (pos 3) ∷ (pos 0) ∷ (pos 1) ∷ (pos 0) ∷ (pos 0) ∷ (pos 3) ∷ (pos 0) ∷ (pos 3) ∷ (pos 4) ∷ [])) ∷
    C (R (pos 0) (pos 0) (pos 8) (pos 7)) 2 0 ((minus 1) ∷ (pos 8) ∷ (pos 8) ∷ (pos 0) ∷ (minus 3) ∷ (minus 2) ∷ (pos 9) ∷ (minus 2) ∷ (pos 11) ∷ (pos 7) ∷ (pos 8) ∷ (pos 8) ∷ [])
    (refusal 8 ((pos 0) ∷ (pos 7) ∷ (pos 8) ∷ (pos 0) ∷ (pos 8) ∷ (pos 7) ∷ [])) ∷
    L (R (minus 309) (minus 46) (minus 202) (pos 554)) 256 ((minus 412) ∷ (pos 795) ∷ (minus 412) ∷ (pos 818) ∷ (minus 458) ∷ (pos 818) ∷ (minus 458) ∷ (pos 772) ∷ (minus 389) ∷ (pos 772) ∷ (minus 389) ∷ (pos 841) ∷ (minus 481) ∷ (pos 841) ∷ (minus 481) ∷ (pos 749) ∷ (minus 366) ∷ (pos 749) ∷ (minus 366) ∷ (pos 864) ∷ (minus 504) ∷ (pos 864) ∷ (minus 504) ∷ (pos 726) ∷ [])
    (returned 0 0 0 ((pos 7) ∷ (pos 7) ∷ []) (7 ∷ []) []) ∷
    C (R (pos 461) (pos 311) (pos 831) (pos 510)) 256 256 ((pos 631) ∷ (pos 475) ∷ (pos 720) ∷ (pos 546) ∷ (pos 671) ∷ (pos 443) ∷ (pos 671) ∷ (pos 557) ∷ (pos 720) ∷ (pos 454) ∷ (pos 631) ∷ (pos 525) ∷ (pos 743) ∷ (pos 500) ∷ [])
    (returned 1 10 0 ((pos 743) ∷ (pos 500) ∷ (pos 631) ∷ (pos 475) ∷ (pos 674) ∷ (pos 510) ∷ (pos 702) ∷ (pos 510) ∷ (pos 671) ∷ (pos 443) ∷ (pos 671) ∷ (pos 510) ∷ (pos 693) ∷ (pos 510) ∷ (pos 720) ∷ (pos 454) ∷ (pos 649) ∷ (pos 510) ∷ (pos 698) ∷ (pos 510) ∷ (pos 7) ∷ (pos 7) ∷ []) (10 ∷ 7 ∷ []) ((pos 631) ∷ (pos 475) ∷ (pos 674) ∷ (pos 510) ∷ (pos 702) ∷ (pos 510) ∷ (pos 671) ∷ (pos 443) ∷ (pos 671) ∷ (pos 510) ∷ (pos 693) ∷ (pos 510) ∷ (pos 720) ∷ (pos 454) ∷ (pos 649) ∷ (pos 510) ∷ (pos 698) ∷ (pos 510) ∷ (pos 743) ∷ (pos 500) ∷ [])) ∷
    C (R (pos 334) (minus 121) (pos 1005) (pos 72)) 8 0 ((pos 208) ∷ (minus 273) ∷ (pos 208) ∷ (minus 273) ∷ (minus 589) ∷ (minus 445) ∷ (minus 589) ∷ (minus 445) ∷ (pos 367) ∷ (minus 582) ∷ (pos 588) ∷ (minus 846) ∷ (pos 588) ∷ (minus 846) ∷ (pos 745) ∷ (pos 361) ∷ (minus 774) ∷ (pos 122) ∷ (minus 364) ∷ (pos 998) ∷ (minus 364) ∷ (pos 998) ∷ (minus 299) ∷ (minus 658) ∷ (minus 854) ∷ (minus 954) ∷ (minus 854) ∷ (minus 954) ∷ (pos 675) ∷ (pos 337) ∷ (minus 695) ∷ (pos 293) ∷ (minus 695) ∷ (pos 293) ∷ (pos 208) ∷ (minus 273) ∷ [])
    (returned 1 7 0 ((pos 334) ∷ (minus 121) ∷ (pos 682) ∷ (minus 121) ∷ (pos 707) ∷ (pos 72) ∷ (pos 334) ∷ (pos 72) ∷ (pos 334) ∷ (pos 49) ∷ (pos 361) ∷ (pos 72) ∷ (pos 334) ∷ (pos 72) ∷ (pos 7) ∷ (pos 7) ∷ []) (7 ∷ 7 ∷ []) ((pos 682) ∷ (minus 121) ∷ (pos 707) ∷ (pos 72) ∷ (pos 334) ∷ (pos 72) ∷ (pos 334) ∷ (minus 121) ∷ (pos 334) ∷ (pos 49) ∷ (pos 361) ∷ (pos 72) ∷ (pos 334) ∷ (pos 72) ∷ (pos 334) ∷ (minus 121) ∷ [])) ∷
    L (R (pos 1) (pos 1) (pos 2) (pos 4)) 256 ((pos 4) ∷ (pos 5) ∷ (pos 4) ∷ (pos 1) ∷ (pos 1) ∷ (pos 4) ∷ (pos 3) ∷ (pos 5) ∷ (minus 1) ∷ (pos 4) ∷ (pos 2) ∷ (pos 0) ∷ [])
    (returned 1 2 0 ((pos 2) ∷ (pos 3) ∷ (pos 1) ∷ (pos 4) ∷ (pos 7) ∷ (pos 7) ∷ []) (2 ∷ 7 ∷ []) []) ∷
    L (R (pos 0) (pos 0) (pos 10) (pos 10)) 256 ((pos 11) ∷ (pos 12) ∷ (minus 1) ∷ (pos 1) ∷ (pos 1) ∷ (pos 9) ∷ (pos 1) ∷ (pos 10) ∷ (pos 5) ∷ (pos 9) ∷ (minus 2) ∷ (pos 1) ∷ (pos 5) ∷ (pos 9) ∷ (pos 10) ∷ (minus 1) ∷ (pos 10) ∷ (minus 1) ∷ (pos 10) ∷ (minus 1) ∷ [])
    (returned 3 10 0 ((pos 8) ∷ (pos 10) ∷ (pos 0) ∷ (pos 1) ∷ (pos 0) ∷ (pos 5) ∷ (pos 1) ∷ (pos 9) ∷ (pos 1) ∷ (pos 10) ∷ (pos 5) ∷ (pos 9) ∷ (pos 0) ∷ (pos 3) ∷ (pos 0) ∷ (pos 3) ∷ (pos 5) ∷ (pos 9) ∷ (pos 9) ∷ (pos 0) ∷ (pos 7) ∷ (pos 7) ∷ []) (2 ∷ 5 ∷ 3 ∷ 7 ∷ []) []) ∷
    C (R (pos 0) (pos 0) (pos 8) (pos 10)) 256 256 ((pos 9) ∷ (pos 0) ∷ (minus 1) ∷ (pos 0) ∷ (pos 1) ∷ (minus 1) ∷ (pos 1) ∷ (pos 0) ∷ (pos 4) ∷ (minus 2) ∷ (pos 0) ∷ (pos 1) ∷ (pos 8) ∷ (pos 1) ∷ (pos 10) ∷ (pos 0) ∷ (pos 0) ∷ (pos 10) ∷ (minus 1) ∷ (minus 2) ∷ (pos 8) ∷ (pos 5) ∷ (minus 2) ∷ (pos 10) ∷ (pos 8) ∷ (pos 10) ∷ [])
    (returned 3 11 5 ((pos 0) ∷ (pos 0) ∷ (pos 1) ∷ (pos 0) ∷ (pos 8) ∷ (pos 5) ∷ (pos 0) ∷ (pos 9) ∷ (pos 8) ∷ (pos 0) ∷ (pos 1) ∷ (pos 0) ∷ (pos 0) ∷ (pos 1) ∷ (pos 8) ∷ (pos 1) ∷ (pos 8) ∷ (pos 2) ∷ (pos 0) ∷ (pos 10) ∷ (pos 8) ∷ (pos 10) ∷ (pos 7) ∷ (pos 7) ∷ []) (4 ∷ 4 ∷ 3 ∷ 7 ∷ []) ((pos 8) ∷ (pos 0) ∷ (pos 0) ∷ (pos 0) ∷ (pos 1) ∷ (pos 0) ∷ (pos 0) ∷ (pos 1) ∷ (pos 8) ∷ (pos 1) ∷ (pos 8) ∷ (pos 2) ∷ (pos 0) ∷ (pos 10) ∷ (pos 0) ∷ (pos 0) ∷ (pos 1) ∷ (pos 0) ∷ (pos 8) ∷ (pos 5) ∷ (pos 0) ∷ (pos 9) ∷ (pos 0) ∷ (pos 10) ∷ (pos 8) ∷ (pos 10) ∷ [])) ∷
    C (R (minus 406) (pos 107) (pos 203) (pos 621)) 256 256 ((pos 173) ∷ (minus 135) ∷ (minus 555) ∷ (pos 702) ∷ (minus 555) ∷ (pos 702) ∷ (minus 327) ∷ (minus 328) ∷ (pos 288) ∷ (pos 508) ∷ (pos 287) ∷ (minus 796) ∷ (pos 602) ∷ (minus 459) ∷ (pos 376) ∷ (minus 807) ∷ (minus 806) ∷ (pos 68) ∷ (minus 798) ∷ (minus 285) ∷ (minus 778) ∷ (minus 282) ∷ (pos 863) ∷ (minus 654) ∷ (pos 863) ∷ (minus 654) ∷ (minus 66) ∷ (pos 207) ∷ [])
    (returned 2 9 4 ((minus 37) ∷ (pos 107) ∷ (minus 406) ∷ (pos 530) ∷ (minus 406) ∷ (pos 107) ∷ (minus 6) ∷ (pos 107) ∷ (pos 203) ∷ (pos 392) ∷ (pos 203) ∷ (pos 107) ∷ (pos 41) ∷ (pos 107) ∷ (minus 66) ∷ (pos 207) ∷ (pos 3) ∷ (pos 107) ∷ (pos 7) ∷ (pos 7) ∷ []) (3 ∷ 6 ∷ 7 ∷ []) ((pos 3) ∷ (pos 107) ∷ (minus 37) ∷ (pos 107) ∷ (minus 406) ∷ (pos 530) ∷ (minus 406) ∷ (pos 107) ∷ (minus 6) ∷ (pos 107) ∷ (pos 203) ∷ (pos 392) ∷ (pos 203) ∷ (pos 107) ∷ (minus 406) ∷ (pos 107) ∷ (pos 203) ∷ (pos 107) ∷ (pos 41) ∷ (pos 107) ∷ (minus 66) ∷ (pos 207) ∷ [])) ∷
    C (R (pos 198) (pos 202) (pos 661) (pos 899)) 12 256 ((pos 701) ∷ (pos 612) ∷ (pos 198) ∷ (pos 684) ∷ (pos 659) ∷ (pos 474) ∷ (pos 276) ∷ (pos 805) ∷ (pos 550) ∷ (pos 379) ∷ (pos 408) ∷ (pos 866) ∷ (pos 408) ∷ (pos 358) ∷ (pos 550) ∷ (pos 845) ∷ (pos 276) ∷ (pos 419) ∷ (pos 659) ∷ (pos 750) ∷ (pos 198) ∷ (pos 540) ∷ [])
    (returned 1 12 0 ((pos 198) ∷ (pos 540) ∷ (pos 661) ∷ (pos 606) ∷ (pos 661) ∷ (pos 617) ∷ (pos 198) ∷ (pos 684) ∷ (pos 659) ∷ (pos 474) ∷ (pos 276) ∷ (pos 805) ∷ (pos 550) ∷ (pos 379) ∷ (pos 408) ∷ (pos 866) ∷ (pos 408) ∷ (pos 358) ∷ (pos 550) ∷ (pos 845) ∷ (pos 276) ∷ (pos 419) ∷ (pos 659) ∷ (pos 750) ∷ (pos 7) ∷ (pos 7) ∷ []) (12 ∷ 7 ∷ []) ((pos 661) ∷ (pos 606) ∷ (pos 661) ∷ (pos 617) ∷ (pos 198) ∷ (pos 684) ∷ (pos 659) ∷ (pos 474) ∷ (pos 276) ∷ (pos 805) ∷ (pos 550) ∷ (pos 379) ∷ (pos 408) ∷ (pos 866) ∷ (pos 408) ∷ (pos 358) ∷ (pos 550) ∷ (pos 845) ∷ (pos 276) ∷ (pos 419) ∷ (pos 659) ∷ (pos 750) ∷ (pos 198) ∷ (pos 540) ∷ [])) ∷
    L (R (pos 2) (pos 1) (pos 3) (pos 4)) 256 ((pos 0) ∷ (minus 1) ∷ (pos 5) ∷ (pos 1) ∷ (minus 1) ∷ (minus 1) ∷ (minus 1) ∷ (pos 2) ∷ (pos 1) ∷ (pos 3) ∷ (pos 2) ∷ (pos 1) ∷ (pos 5) ∷ (pos 0) ∷ (pos 2) ∷ (minus 1) ∷ (pos 4) ∷ (pos 4) ∷ [])
    (returned 1 2 0 ((pos 2) ∷ (pos 1) ∷ (pos 3) ∷ (pos 1) ∷ (pos 7) ∷ (pos 7) ∷ []) (2 ∷ 7 ∷ []) []) ∷
    L (R (minus 277) (pos 433) (pos 420) (pos 808)) 256 ((pos 111) ∷ (pos 940) ∷ (minus 65) ∷ (minus 980) ∷ (pos 379) ∷ (pos 614) ∷ (pos 159) ∷ (minus 441) ∷ (minus 574) ∷ (pos 716) ∷ (pos 918) ∷ (minus 850) ∷ [])
    (returned 2 5 0 ((pos 98) ∷ (pos 808) ∷ (pos 64) ∷ (pos 433) ∷ (pos 328) ∷ (pos 433) ∷ (pos 379) ∷ (pos 614) ∷ (pos 341) ∷ (pos 433) ∷ (pos 7) ∷ (pos 7) ∷ []) (2 ∷ 3 ∷ 7 ∷ []) []) ∷
    C (R (minus 265) (pos 138) (pos 187) (pos 322)) 256 256 ((pos 1350) ∷ (pos 181) ∷ (minus 1164) ∷ (pos 997) ∷ (pos 390) ∷ (minus 1141) ∷ (pos 390) ∷ (pos 1503) ∷ (minus 1164) ∷ (minus 635) ∷ [])
    (returned 0 0 0 ((pos 7) ∷ (pos 7) ∷ []) (7 ∷ []) []) ∷
    C (R (pos 0) (pos 0) (pos 3) (pos 8)) 256 256 ((pos 5) ∷ (pos 9) ∷ (minus 2) ∷ (pos 10) ∷ (minus 2) ∷ (pos 0) ∷ (pos 3) ∷ (minus 1) ∷ [])
    (returned 1 4 0 ((pos 0) ∷ (pos 8) ∷ (pos 0) ∷ (pos 0) ∷ (pos 3) ∷ (pos 0) ∷ (pos 3) ∷ (pos 8) ∷ (pos 7) ∷ (pos 7) ∷ []) (4 ∷ 7 ∷ []) ((pos 0) ∷ (pos 0) ∷ (pos 3) ∷ (pos 0) ∷ (pos 3) ∷ (pos 8) ∷ (pos 0) ∷ (pos 8) ∷ [])) ∷
    []

drawings1 : map shown table1 ≡ map (λ c. c.expected) table1
unfolding at_end get_segment_intersection edge_intersection side_intersection get_intersection start_locs_are_clockwise at_vertex scan_pass scan_answer scan_loop point_in_polygon path1_contains_path2 get_bounds_path get_location determinant numerator fraction working_of crossing_of point_at intersection cross_product_sign is_collinear cross_product_three_points cross_product_is_negative is_clockwise_dir set_owner set_edge set_next set_prev set_results set_edge_list ring unlink add_to_edge struck uncouple_edge own_from set_new_owner drop_collinear_pass drop_collinear assign_side assign_edges check_ring check_from check_edges enter_all arena_of straighten_pass straighten points_from get_path get_paths clip_walked execute sheet_refusal early_refusal delivered answered clip_closed clip_open filled_part is_present first_off_edge line_through line_cross line_from line_passes line_walk_from walk_open pieces longer_than_one execute_lines seek relink regroup keep_one keep_both keep_each settle rejoin one_turn turns_from tidy_edges add add_all push_start_loc next_side next_outside add_corner_prev_curr add_corner_loc add_corners push_start_locs next_inside get_next_location second_search remain_outside enter pass_to pass_through leave cross_boundary add_round retrace close_outline last_off pass_from passes surround after_while walk_from walk_closed walked_outline lib.Ieee.add of_int sub mul div neg to_signed eq lt le
drawings1 = refl

abbrev table2 : List Case
table2 =
    L (R (minus 33554431) (minus 33554431) (minus 4689694) (minus 1703966)) 256 ((pos 33554431) ∷ (pos 17790135) ∷ (minus 4689694) ∷ (minus 33554432) ∷ (pos 33432375) ∷ (minus 11908337) ∷ (pos 164041) ∷ (pos 979690) ∷ (minus 18595123) ∷ (minus 33554432) ∷ (minus 10223141) ∷ (minus 1850649) ∷ (minus 33554431) ∷ (minus 29010666) ∷ (pos 31780835) ∷ (pos 4753649) ∷ [])
    (returned 2 6 0 ((minus 4689694) ∷ (minus 7955648) ∷ (minus 18595122) ∷ (minus 33554431) ∷ (minus 18595122) ∷ (minus 33554431) ∷ (minus 10223141) ∷ (minus 1850649) ∷ (minus 33554431) ∷ (minus 29010666) ∷ (minus 4689694) ∷ (minus 14093789) ∷ (pos 7) ∷ (pos 7) ∷ []) (2 ∷ 4 ∷ 7 ∷ []) []) ∷
    L (R (pos 0) (pos 0) (pos 5) (pos 8)) 256 ((minus 3) ∷ (pos 11) ∷ (minus 1) ∷ (minus 2) ∷ (pos 7) ∷ (minus 2) ∷ (pos 5) ∷ (pos 8) ∷ [])
    (returned 0 0 0 ((pos 7) ∷ (pos 7) ∷ []) (7 ∷ []) []) ∷
    C (R (minus 268) (pos 80) (pos 254) (pos 480)) 256 256 ((minus 272) ∷ (minus 315) ∷ (minus 272) ∷ (pos 477) ∷ (pos 520) ∷ (pos 477) ∷ (pos 520) ∷ (minus 117) ∷ (minus 74) ∷ (minus 117) ∷ (minus 74) ∷ (pos 279) ∷ (pos 322) ∷ (pos 279) ∷ (pos 322) ∷ (pos 81) ∷ [])
    (returned 1 8 0 ((minus 268) ∷ (pos 80) ∷ (minus 268) ∷ (pos 477) ∷ (pos 254) ∷ (pos 477) ∷ (pos 254) ∷ (pos 80) ∷ (minus 74) ∷ (pos 80) ∷ (minus 74) ∷ (pos 279) ∷ (pos 254) ∷ (pos 279) ∷ (pos 254) ∷ (pos 80) ∷ (pos 7) ∷ (pos 7) ∷ []) (8 ∷ 7 ∷ []) ((minus 268) ∷ (pos 477) ∷ (pos 254) ∷ (pos 477) ∷ (pos 254) ∷ (pos 80) ∷ (minus 74) ∷ (pos 80) ∷ (minus 74) ∷ (pos 279) ∷ (pos 254) ∷ (pos 279) ∷ (pos 254) ∷ (pos 80) ∷ (minus 268) ∷ (pos 80) ∷ [])) ∷
    C (R (pos 354) (pos 0) (pos 567) (pos 501)) 6 256 ((minus 31) ∷ (pos 806) ∷ (minus 167) ∷ (minus 89) ∷ (pos 207) ∷ (minus 173) ∷ (pos 561) ∷ (minus 265) ∷ (minus 853) ∷ (minus 450) ∷ (pos 314) ∷ (pos 660) ∷ (minus 463) ∷ (minus 873) ∷ (pos 616) ∷ (minus 391) ∷ (minus 149) ∷ (pos 852) ∷ (minus 660) ∷ (pos 472) ∷ [])
    (returned 1 3 0 ((pos 354) ∷ (pos 0) ∷ (pos 375) ∷ (pos 0) ∷ (pos 354) ∷ (pos 34) ∷ (pos 7) ∷ (pos 7) ∷ []) (3 ∷ 7 ∷ []) ((pos 375) ∷ (pos 0) ∷ (pos 354) ∷ (pos 34) ∷ (pos 354) ∷ (pos 0) ∷ (pos 354) ∷ (pos 501) ∷ (pos 354) ∷ (pos 0) ∷ [])) ∷
    U (R (pos 101) (minus 345) (pos 323) (pos 217)) 256 256 ((pos 835) ∷ (minus 567) ∷ (pos 825) ∷ (minus 557) ∷ (pos 814) ∷ (minus 564) ∷ (pos 819) ∷ (minus 576) ∷ (pos 832) ∷ (minus 574) ∷ (pos 832) ∷ (minus 560) ∷ (pos 819) ∷ (minus 558) ∷ (pos 814) ∷ (minus 570) ∷ (pos 825) ∷ (minus 577) ∷ [])
    (returned 0 0 0 ((pos 7) ∷ (pos 7) ∷ []) (7 ∷ []) []) ∷
    L (R (pos 0) (pos 0) (pos 7) (pos 6)) 256 ((minus 2) ∷ (minus 2) ∷ (pos 6) ∷ (pos 1) ∷ (pos 1) ∷ (pos 6) ∷ (pos 6) ∷ (pos 1) ∷ (pos 1) ∷ (pos 7) ∷ (pos 6) ∷ (pos 1) ∷ (pos 1) ∷ (pos 7) ∷ (pos 3) ∷ (pos 3) ∷ (pos 3) ∷ (pos 1) ∷ (pos 3) ∷ (pos 3) ∷ [])
    (returned 3 12 0 ((pos 3) ∷ (pos 0) ∷ (pos 6) ∷ (pos 1) ∷ (pos 1) ∷ (pos 6) ∷ (pos 6) ∷ (pos 1) ∷ (pos 1) ∷ (pos 6) ∷ (pos 1) ∷ (pos 6) ∷ (pos 6) ∷ (pos 1) ∷ (pos 1) ∷ (pos 6) ∷ (pos 1) ∷ (pos 6) ∷ (pos 3) ∷ (pos 3) ∷ (pos 3) ∷ (pos 1) ∷ (pos 3) ∷ (pos 3) ∷ (pos 7) ∷ (pos 7) ∷ []) (5 ∷ 3 ∷ 4 ∷ 7 ∷ []) []) ∷
    L (R (minus 458) (pos 84) (minus 160) (pos 468)) 256 ((minus 785) ∷ (minus 789) ∷ (minus 925) ∷ (minus 821) ∷ (minus 813) ∷ (minus 732) ∷ (minus 875) ∷ (minus 861) ∷ (minus 875) ∷ (minus 717) ∷ (minus 813) ∷ (minus 846) ∷ (minus 925) ∷ (minus 757) ∷ [])
    (returned 0 0 0 ((pos 7) ∷ (pos 7) ∷ []) (7 ∷ []) []) ∷
    C (R (pos 0) (pos 0) (pos 9) (pos 1)) 256 256 ((pos 8) ∷ (pos 0) ∷ (pos 0) ∷ (pos 0) ∷ (pos 0) ∷ (pos 0) ∷ (pos 10) ∷ (pos 0) ∷ (pos 10) ∷ (pos 0) ∷ (pos 8) ∷ (pos 3) ∷ (minus 1) ∷ (pos 3) ∷ (minus 1) ∷ (minus 1) ∷ (pos 1) ∷ (pos 0) ∷ (minus 1) ∷ (pos 1) ∷ (pos 1) ∷ (pos 1) ∷ (pos 9) ∷ (pos 0) ∷ (pos 9) ∷ (pos 0) ∷ (pos 8) ∷ (minus 2) ∷ (pos 0) ∷ (minus 2) ∷ (pos 4) ∷ (pos 0) ∷ (pos 4) ∷ (pos 0) ∷ (pos 8) ∷ (pos 0) ∷ [])
    (returned 1 3 5 ((pos 1) ∷ (pos 1) ∷ (pos 9) ∷ (pos 0) ∷ (pos 9) ∷ (pos 1) ∷ (pos 7) ∷ (pos 7) ∷ []) (3 ∷ 7 ∷ []) ((pos 1) ∷ (pos 0) ∷ (pos 0) ∷ (pos 0) ∷ (pos 0) ∷ (pos 1) ∷ (pos 1) ∷ (pos 1) ∷ (pos 9) ∷ (pos 0) ∷ (pos 9) ∷ (pos 1) ∷ (pos 0) ∷ (pos 1) ∷ (pos 0) ∷ (pos 0) ∷ [])) ∷
    C (R (minus 41) (pos 255) (pos 416) (pos 329)) 7 256 ((minus 331) ∷ (pos 180) ∷ (minus 324) ∷ (minus 5) ∷ (pos 920) ∷ (pos 25) ∷ (minus 81) ∷ (pos 691) ∷ (minus 809) ∷ (minus 598) ∷ (minus 798) ∷ (pos 309) ∷ (minus 915) ∷ (minus 632) ∷ (pos 514) ∷ (minus 983) ∷ (pos 868) ∷ (pos 388) ∷ [])
    (returned 1 7 0 ((pos 416) ∷ (pos 255) ∷ (pos 416) ∷ (pos 309) ∷ (pos 101) ∷ (pos 255) ∷ (pos 416) ∷ (pos 255) ∷ (pos 416) ∷ (pos 329) ∷ (minus 41) ∷ (pos 329) ∷ (minus 41) ∷ (pos 255) ∷ (pos 7) ∷ (pos 7) ∷ []) (7 ∷ 7 ∷ []) ((pos 416) ∷ (pos 309) ∷ (pos 101) ∷ (pos 255) ∷ (pos 416) ∷ (pos 255) ∷ (pos 416) ∷ (pos 329) ∷ (minus 41) ∷ (pos 329) ∷ (minus 41) ∷ (pos 255) ∷ (pos 416) ∷ (pos 255) ∷ [])) ∷
    L (R (minus 1) (minus 131) (pos 455) (pos 296)) 256 ((pos 842) ∷ (pos 9) ∷ (minus 1746) ∷ (pos 9) ∷ (pos 842) ∷ (pos 9) ∷ (minus 1746) ∷ (pos 9) ∷ (pos 842) ∷ (pos 9) ∷ (minus 1746) ∷ (pos 9) ∷ (pos 842) ∷ (pos 9) ∷ (minus 1746) ∷ (pos 9) ∷ (pos 842) ∷ (pos 9) ∷ (minus 1746) ∷ (pos 9) ∷ (minus 1746) ∷ (pos 9) ∷ [])
    (returned 9 18 0 ((pos 455) ∷ (pos 9) ∷ (pos 0) ∷ (pos 9) ∷ (pos 0) ∷ (pos 9) ∷ (pos 455) ∷ (pos 9) ∷ (pos 455) ∷ (pos 9) ∷ (pos 0) ∷ (pos 9) ∷ (pos 0) ∷ (pos 9) ∷ (pos 455) ∷ (pos 9) ∷ (pos 455) ∷ (pos 9) ∷ (pos 0) ∷ (pos 9) ∷ (pos 0) ∷ (pos 9) ∷ (pos 455) ∷ (pos 9) ∷ (pos 455) ∷ (pos 9) ∷ (pos 0) ∷ (pos 9) ∷ (pos 0) ∷ (pos 9) ∷ (pos 455) ∷ (pos 9) ∷ (pos 455) ∷ (pos 9) ∷ (pos 0) ∷ (pos 9) ∷ (pos 7) ∷ (pos 7) ∷ []) (2 ∷ 2 ∷ 2 ∷ 2 ∷ 2 ∷ 2 ∷ 2 ∷ 2 ∷ 2 ∷ 7 ∷ []) []) ∷
    C (R (pos 0) (pos 0) (pos 7) (pos 7)) 256 256 ((minus 3) ∷ (pos 8) ∷ (minus 3) ∷ (pos 8) ∷ (pos 7) ∷ (pos 0) ∷ (minus 3) ∷ (minus 2) ∷ (minus 1) ∷ (pos 0) ∷ (pos 9) ∷ (minus 3) ∷ (pos 10) ∷ (pos 9) ∷ [])
    (returned 1 4 0 ((pos 0) ∷ (pos 7) ∷ (pos 0) ∷ (pos 5) ∷ (pos 7) ∷ (pos 0) ∷ (pos 7) ∷ (pos 7) ∷ (pos 7) ∷ (pos 7) ∷ []) (4 ∷ 7 ∷ []) ((pos 0) ∷ (pos 5) ∷ (pos 7) ∷ (pos 0) ∷ (pos 0) ∷ (pos 0) ∷ (pos 7) ∷ (pos 0) ∷ (pos 7) ∷ (pos 7) ∷ (pos 0) ∷ (pos 7) ∷ [])) ∷
    C (R (pos 0) (pos 0) (pos 8) (pos 4)) 256 8 ((pos 10) ∷ (pos 5) ∷ (pos 0) ∷ (pos 4) ∷ (pos 10) ∷ (minus 2) ∷ (pos 8) ∷ (pos 1) ∷ (pos 8) ∷ (pos 1) ∷ (pos 4) ∷ (pos 0) ∷ (pos 1) ∷ (pos 0) ∷ (pos 1) ∷ (pos 0) ∷ (pos 9) ∷ (pos 5) ∷ (pos 10) ∷ (minus 2) ∷ (pos 8) ∷ (pos 0) ∷ (pos 8) ∷ (pos 0) ∷ (pos 10) ∷ (pos 4) ∷ (pos 10) ∷ (minus 1) ∷ (pos 9) ∷ (pos 0) ∷ [])
    (refusal 10 ((pos 0) ∷ (pos 4) ∷ (pos 0) ∷ (pos 0) ∷ (pos 0) ∷ (pos 4) ∷ (pos 6) ∷ (pos 0) ∷ (pos 8) ∷ (pos 0) ∷ (pos 8) ∷ (pos 1) ∷ (pos 8) ∷ (pos 4) ∷ (pos 8) ∷ (pos 1) ∷ (pos 4) ∷ (pos 0) ∷ (pos 1) ∷ (pos 0) ∷ (pos 7) ∷ (pos 4) ∷ (pos 8) ∷ (pos 4) ∷ (pos 8) ∷ (pos 0) ∷ (pos 8) ∷ (pos 4) ∷ [])) ∷
    C (R (pos 0) (pos 0) (pos 10) (pos 5)) 256 256 ((pos 9) ∷ (pos 5) ∷ (pos 12) ∷ (pos 5) ∷ (pos 9) ∷ (pos 5) ∷ (pos 11) ∷ (pos 0) ∷ (pos 0) ∷ (pos 5) ∷ (pos 11) ∷ (pos 0) ∷ (pos 1) ∷ (pos 4) ∷ (pos 5) ∷ (pos 5) ∷ (pos 1) ∷ (pos 4) ∷ (minus 2) ∷ (pos 4) ∷ (pos 0) ∷ (pos 0) ∷ (minus 2) ∷ (pos 4) ∷ (pos 0) ∷ (pos 7) ∷ (pos 5) ∷ (pos 7) ∷ (pos 0) ∷ (pos 7) ∷ (minus 1) ∷ (pos 7) ∷ (pos 0) ∷ (pos 0) ∷ (minus 1) ∷ (pos 7) ∷ (pos 1) ∷ (pos 0) ∷ (pos 9) ∷ (pos 2) ∷ (minus 1) ∷ (pos 5) ∷ (pos 9) ∷ (pos 2) ∷ [])
    (returned 1 8 3 ((pos 1) ∷ (pos 4) ∷ (pos 0) ∷ (pos 4) ∷ (pos 0) ∷ (pos 3) ∷ (pos 1) ∷ (pos 0) ∷ (pos 9) ∷ (pos 2) ∷ (pos 9) ∷ (pos 5) ∷ (pos 10) ∷ (pos 2) ∷ (pos 10) ∷ (pos 0) ∷ (pos 7) ∷ (pos 7) ∷ []) (8 ∷ 7 ∷ []) ((pos 9) ∷ (pos 5) ∷ (pos 10) ∷ (pos 5) ∷ (pos 9) ∷ (pos 5) ∷ (pos 10) ∷ (pos 2) ∷ (pos 10) ∷ (pos 0) ∷ (pos 0) ∷ (pos 5) ∷ (pos 10) ∷ (pos 0) ∷ (pos 1) ∷ (pos 4) ∷ (pos 5) ∷ (pos 5) ∷ (pos 1) ∷ (pos 4) ∷ (pos 0) ∷ (pos 4) ∷ (pos 0) ∷ (pos 5) ∷ (pos 0) ∷ (pos 0) ∷ (pos 0) ∷ (pos 3) ∷ (pos 1) ∷ (pos 0) ∷ (pos 9) ∷ (pos 2) ∷ (pos 0) ∷ (pos 4) ∷ (pos 9) ∷ (pos 2) ∷ [])) ∷
    L (R (pos 488) (pos 325) (pos 1067) (pos 641)) 256 ((minus 257) ∷ (minus 56) ∷ (minus 257) ∷ (minus 273) ∷ (minus 474) ∷ (minus 273) ∷ (minus 474) ∷ (minus 87) ∷ (minus 288) ∷ (minus 87) ∷ (minus 288) ∷ (minus 242) ∷ (minus 443) ∷ (minus 242) ∷ (minus 443) ∷ (minus 118) ∷ (minus 319) ∷ (minus 118) ∷ (minus 319) ∷ (minus 211) ∷ (minus 412) ∷ (minus 211) ∷ (minus 412) ∷ (minus 149) ∷ (minus 350) ∷ (minus 149) ∷ (minus 350) ∷ (minus 180) ∷ [])
    (returned 0 0 0 ((pos 7) ∷ (pos 7) ∷ []) (7 ∷ []) []) ∷
    U (R (minus 480) (minus 348) (pos 23) (minus 310)) 256 256 ((minus 674) ∷ (pos 782) ∷ (minus 283) ∷ (minus 367) ∷ [])
    (returned 0 0 0 ((pos 7) ∷ (pos 7) ∷ []) (7 ∷ []) []) ∷
    []

drawings2 : map shown table2 ≡ map (λ c. c.expected) table2
unfolding at_end get_segment_intersection edge_intersection side_intersection get_intersection start_locs_are_clockwise at_vertex scan_pass scan_answer scan_loop point_in_polygon path1_contains_path2 get_bounds_path get_location determinant numerator fraction working_of crossing_of point_at intersection cross_product_sign is_collinear cross_product_three_points cross_product_is_negative is_clockwise_dir set_owner set_edge set_next set_prev set_results set_edge_list ring unlink add_to_edge struck uncouple_edge own_from set_new_owner drop_collinear_pass drop_collinear assign_side assign_edges check_ring check_from check_edges enter_all arena_of straighten_pass straighten points_from get_path get_paths clip_walked execute sheet_refusal early_refusal delivered answered clip_closed clip_open filled_part is_present first_off_edge line_through line_cross line_from line_passes line_walk_from walk_open pieces longer_than_one execute_lines seek relink regroup keep_one keep_both keep_each settle rejoin one_turn turns_from tidy_edges add add_all push_start_loc next_side next_outside add_corner_prev_curr add_corner_loc add_corners push_start_locs next_inside get_next_location second_search remain_outside enter pass_to pass_through leave cross_boundary add_round retrace close_outline last_off pass_from passes surround after_while walk_from walk_closed walked_outline lib.Ieee.add of_int sub mul div neg to_signed eq lt le
drawings2 = refl

abbrev table3 : List Case
table3 =
    U (R (pos 16777217) (minus 33554432) (pos 17882391) (minus 2370421)) 256 256 ((pos 33554432) ∷ (pos 33554431) ∷ (pos 16777217) ∷ (minus 2370420) ∷ (pos 3472600) ∷ (pos 13688362) ∷ [])
    (returned 0 0 0 ((pos 7) ∷ (pos 7) ∷ []) (7 ∷ []) []) ∷
    C (R (minus 410) (minus 491) (minus 140) (minus 282)) 256 256 ((minus 540) ∷ (minus 115) ∷ (minus 93) ∷ (minus 729) ∷ (minus 93) ∷ (pos 31) ∷ (minus 540) ∷ (minus 583) ∷ (pos 183) ∷ (minus 349) ∷ [])
    (returned 1 11 0 ((minus 410) ∷ (minus 282) ∷ (minus 410) ∷ (minus 293) ∷ (minus 266) ∷ (minus 491) ∷ (minus 140) ∷ (minus 491) ∷ (minus 140) ∷ (minus 282) ∷ (minus 320) ∷ (minus 282) ∷ (minus 410) ∷ (minus 404) ∷ (minus 410) ∷ (minus 491) ∷ (minus 255) ∷ (minus 491) ∷ (minus 140) ∷ (minus 453) ∷ (minus 140) ∷ (minus 282) ∷ (pos 7) ∷ (pos 7) ∷ []) (11 ∷ 7 ∷ []) ((minus 410) ∷ (minus 293) ∷ (minus 266) ∷ (minus 491) ∷ (minus 140) ∷ (minus 491) ∷ (minus 140) ∷ (minus 282) ∷ (minus 320) ∷ (minus 282) ∷ (minus 410) ∷ (minus 404) ∷ (minus 410) ∷ (minus 491) ∷ (minus 255) ∷ (minus 491) ∷ (minus 140) ∷ (minus 453) ∷ (minus 140) ∷ (minus 282) ∷ (minus 410) ∷ (minus 282) ∷ [])) ∷
    C (R (pos 0) (pos 0) (pos 10) (pos 8)) 256 256 ((pos 0) ∷ (pos 8) ∷ (pos 0) ∷ (pos 1) ∷ (pos 0) ∷ (pos 8) ∷ (pos 5) ∷ (pos 9) ∷ (pos 0) ∷ (pos 10) ∷ (minus 2) ∷ (pos 8) ∷ (pos 0) ∷ (pos 10) ∷ (pos 10) ∷ (pos 9) ∷ (pos 10) ∷ (pos 9) ∷ (pos 10) ∷ (pos 9) ∷ (pos 1) ∷ (pos 8) ∷ (pos 10) ∷ (pos 10) ∷ (pos 9) ∷ (pos 9) ∷ (pos 10) ∷ (pos 10) ∷ (pos 10) ∷ (pos 1) ∷ (pos 0) ∷ (pos 8) ∷ (pos 10) ∷ (pos 1) ∷ (pos 0) ∷ (pos 0) ∷ (pos 12) ∷ (pos 0) ∷ (pos 0) ∷ (pos 0) ∷ [])
    (returned 1 4 0 ((pos 0) ∷ (pos 0) ∷ (pos 0) ∷ (pos 8) ∷ (pos 10) ∷ (pos 8) ∷ (pos 10) ∷ (pos 1) ∷ (pos 7) ∷ (pos 7) ∷ []) (4 ∷ 7 ∷ []) ((pos 0) ∷ (pos 8) ∷ (pos 10) ∷ (pos 8) ∷ (pos 10) ∷ (pos 1) ∷ (pos 0) ∷ (pos 8) ∷ (pos 10) ∷ (pos 1) ∷ (pos 0) ∷ (pos 0) ∷ (pos 10) ∷ (pos 0) ∷ (pos 0) ∷ (pos 0) ∷ [])) ∷
    L (R (pos 79) (minus 120) (pos 233) (pos 84)) 256 ((pos 220) ∷ (minus 74) ∷ (pos 220) ∷ (pos 42) ∷ (minus 12) ∷ (pos 42) ∷ (minus 12) ∷ (minus 190) ∷ (pos 336) ∷ (minus 190) ∷ [])
    (returned 1 3 0 ((pos 220) ∷ (minus 74) ∷ (pos 220) ∷ (pos 42) ∷ (pos 79) ∷ (pos 42) ∷ (pos 7) ∷ (pos 7) ∷ []) (3 ∷ 7 ∷ []) []) ∷
    U (R (pos 399) (minus 354) (pos 919) (pos 138)) 256 0 ((minus 603) ∷ (minus 22) ∷ (minus 546) ∷ (pos 22) ∷ (minus 524) ∷ (pos 106) ∷ (minus 557) ∷ (pos 207) ∷ (minus 652) ∷ (pos 294) ∷ (minus 798) ∷ (pos 330) ∷ (minus 968) ∷ (pos 294) ∷ (minus 1128) ∷ (pos 175) ∷ [])
    (returned 0 0 0 ((pos 7) ∷ (pos 7) ∷ []) (7 ∷ []) []) ∷
    L (R (pos 1) (pos 2) (pos 3) (pos 4)) 256 ((pos 2) ∷ (pos 4) ∷ (pos 5) ∷ (pos 3) ∷ (pos 0) ∷ (pos 5) ∷ (pos 1) ∷ (pos 0) ∷ (pos 3) ∷ (pos 5) ∷ (pos 5) ∷ (pos 3) ∷ (pos 4) ∷ (pos 2) ∷ [])
    (returned 3 6 0 ((pos 2) ∷ (pos 4) ∷ (pos 3) ∷ (pos 3) ∷ (pos 3) ∷ (pos 3) ∷ (pos 2) ∷ (pos 4) ∷ (pos 1) ∷ (pos 2) ∷ (pos 2) ∷ (pos 4) ∷ (pos 7) ∷ (pos 7) ∷ []) (2 ∷ 2 ∷ 2 ∷ 7 ∷ []) []) ∷
    U (R (pos 0) (pos 0) (pos 19) (pos 0)) 256 256 ((minus 1) ∷ (pos 2) ∷ (pos 19) ∷ (minus 2) ∷ (minus 2) ∷ (pos 0) ∷ (pos 1) ∷ (minus 2) ∷ (pos 19) ∷ (pos 1) ∷ (pos 20) ∷ (pos 2) ∷ (pos 9) ∷ (pos 0) ∷ (pos 0) ∷ (pos 0) ∷ (minus 1) ∷ (pos 0) ∷ (pos 20) ∷ (pos 0) ∷ (pos 0) ∷ (pos 0) ∷ (pos 0) ∷ (pos 0) ∷ [])
    (returned 0 0 0 ((pos 7) ∷ (pos 7) ∷ []) (7 ∷ []) []) ∷
    L (R (pos 0) (pos 0) (pos 60) (pos 60)) 256 ((minus 1) ∷ (pos 0) ∷ (pos 7) ∷ (pos 6) ∷ (pos 42) ∷ (pos 9) ∷ (pos 62) ∷ (minus 5) ∷ (pos 64) ∷ (pos 4) ∷ (pos 65) ∷ (pos 0) ∷ (pos 63) ∷ (minus 1) ∷ (pos 47) ∷ (pos 4) ∷ (pos 19) ∷ (pos 0) ∷ (pos 33) ∷ (pos 9) ∷ (pos 34) ∷ (minus 8) ∷ (pos 37) ∷ (minus 8) ∷ (pos 36) ∷ (pos 6) ∷ (pos 35) ∷ (pos 2) ∷ (pos 60) ∷ (pos 0) ∷ (pos 58) ∷ (pos 4) ∷ [])
    (returned 3 14 0 ((pos 0) ∷ (pos 0) ∷ (pos 7) ∷ (pos 6) ∷ (pos 42) ∷ (pos 9) ∷ (pos 54) ∷ (pos 0) ∷ (pos 59) ∷ (pos 0) ∷ (pos 47) ∷ (pos 4) ∷ (pos 19) ∷ (pos 0) ∷ (pos 33) ∷ (pos 9) ∷ (pos 33) ∷ (pos 0) ∷ (pos 36) ∷ (pos 0) ∷ (pos 36) ∷ (pos 6) ∷ (pos 35) ∷ (pos 2) ∷ (pos 60) ∷ (pos 0) ∷ (pos 58) ∷ (pos 4) ∷ (pos 7) ∷ (pos 7) ∷ []) (4 ∷ 5 ∷ 5 ∷ 7 ∷ []) []) ∷
    C (R (minus 5340000) (pos 2028000) (minus 4884000) (pos 3252000)) 256 0 ((pos 9231274) ∷ (pos 2261062) ∷ (pos 969668) ∷ (pos 15117662) ∷ (minus 14167341) ∷ (pos 12934602) ∷ (minus 18484889) ∷ (minus 1745451) ∷ (minus 6951712) ∷ (minus 11741082) ∷ (pos 6967594) ∷ (minus 5383635) ∷ (pos 6967593) ∷ (pos 9905759) ∷ (minus 6951712) ∷ (pos 16263206) ∷ (minus 18484889) ∷ (pos 6267575) ∷ (minus 14167341) ∷ (minus 8412478) ∷ (pos 969668) ∷ (minus 10595538) ∷ [])
    (returned 0 0 0 ((pos 7) ∷ (pos 7) ∷ []) (7 ∷ []) []) ∷
    C (R (pos 0) (pos 0) (pos 10) (pos 8)) 256 256 ((pos 10) ∷ (pos 7) ∷ (pos 12) ∷ (pos 0) ∷ (pos 0) ∷ (minus 1) ∷ (pos 0) ∷ (pos 1) ∷ (pos 9) ∷ (pos 8) ∷ (pos 10) ∷ (pos 8) ∷ (pos 5) ∷ (minus 1) ∷ (pos 9) ∷ (pos 1) ∷ [])
    (returned 2 9 1 ((pos 0) ∷ (pos 0) ∷ (pos 0) ∷ (pos 1) ∷ (pos 9) ∷ (pos 8) ∷ (pos 10) ∷ (pos 8) ∷ (pos 5) ∷ (pos 0) ∷ (pos 7) ∷ (pos 0) ∷ (pos 9) ∷ (pos 1) ∷ (pos 10) ∷ (pos 7) ∷ (pos 10) ∷ (pos 0) ∷ (pos 7) ∷ (pos 7) ∷ []) (5 ∷ 4 ∷ 7 ∷ []) ((pos 10) ∷ (pos 7) ∷ (pos 10) ∷ (pos 0) ∷ (pos 0) ∷ (pos 0) ∷ (pos 0) ∷ (pos 1) ∷ (pos 9) ∷ (pos 8) ∷ (pos 10) ∷ (pos 8) ∷ (pos 5) ∷ (pos 0) ∷ (pos 7) ∷ (pos 0) ∷ (pos 9) ∷ (pos 1) ∷ [])) ∷
    L (R (pos 112) (minus 174) (pos 340) (pos 245)) 256 ((pos 392) ∷ (pos 59) ∷ (pos 227) ∷ (pos 224) ∷ (pos 62) ∷ (pos 59) ∷ (pos 227) ∷ (minus 106) ∷ (pos 392) ∷ (pos 59) ∷ (pos 227) ∷ (pos 224) ∷ (pos 62) ∷ (pos 59) ∷ (pos 227) ∷ (minus 106) ∷ (pos 392) ∷ (pos 59) ∷ (pos 227) ∷ (pos 224) ∷ (pos 62) ∷ (pos 59) ∷ (pos 227) ∷ (minus 106) ∷ [])
    (returned 6 17 0 ((pos 340) ∷ (pos 111) ∷ (pos 227) ∷ (pos 224) ∷ (pos 112) ∷ (pos 109) ∷ (pos 111) ∷ (pos 9) ∷ (pos 227) ∷ (minus 106) ∷ (pos 340) ∷ (pos 7) ∷ (pos 340) ∷ (pos 111) ∷ (pos 227) ∷ (pos 224) ∷ (pos 112) ∷ (pos 109) ∷ (pos 111) ∷ (pos 9) ∷ (pos 227) ∷ (minus 106) ∷ (pos 340) ∷ (pos 7) ∷ (pos 340) ∷ (pos 111) ∷ (pos 227) ∷ (pos 224) ∷ (pos 112) ∷ (pos 109) ∷ (pos 111) ∷ (pos 9) ∷ (pos 227) ∷ (minus 106) ∷ (pos 7) ∷ (pos 7) ∷ []) (3 ∷ 3 ∷ 3 ∷ 3 ∷ 3 ∷ 2 ∷ 7 ∷ []) []) ∷
    C (R (pos 0) (pos 0) (pos 9) (pos 5)) 256 256 ((pos 11) ∷ (pos 6) ∷ (pos 0) ∷ (pos 5) ∷ (pos 0) ∷ (pos 5) ∷ (minus 3) ∷ (minus 3) ∷ (pos 1) ∷ (minus 1) ∷ (pos 10) ∷ (pos 0) ∷ (pos 9) ∷ (pos 0) ∷ [])
    (returned 1 4 0 ((pos 9) ∷ (pos 5) ∷ (pos 0) ∷ (pos 5) ∷ (pos 0) ∷ (pos 0) ∷ (pos 9) ∷ (pos 0) ∷ (pos 7) ∷ (pos 7) ∷ []) (4 ∷ 7 ∷ []) ((pos 0) ∷ (pos 5) ∷ (pos 0) ∷ (pos 0) ∷ (pos 9) ∷ (pos 0) ∷ (pos 9) ∷ (pos 5) ∷ [])) ∷
    C (R (pos 0) (pos 0) (pos 60) (pos 60)) 10 256 ((pos 0) ∷ (pos 6) ∷ (minus 2) ∷ (pos 0) ∷ (minus 2) ∷ (minus 3) ∷ (minus 4) ∷ (pos 0) ∷ (minus 2) ∷ (minus 4) ∷ (pos 1) ∷ (pos 5) ∷ (pos 45) ∷ (minus 6) ∷ (pos 43) ∷ (minus 5) ∷ (pos 42) ∷ (pos 2) ∷ (pos 49) ∷ (pos 0) ∷ (pos 19) ∷ (pos 3) ∷ (pos 1) ∷ (pos 0) ∷ (pos 5) ∷ (pos 0) ∷ (pos 40) ∷ (pos 5) ∷ [])
    (refusal 8 ((pos 0) ∷ (pos 6) ∷ (pos 0) ∷ (pos 2) ∷ (pos 1) ∷ (pos 5) ∷ (pos 21) ∷ (pos 0) ∷ (pos 42) ∷ (pos 0) ∷ (pos 42) ∷ (pos 2) ∷ (pos 49) ∷ (pos 0) ∷ (pos 19) ∷ (pos 3) ∷ (pos 1) ∷ (pos 0) ∷ (pos 5) ∷ (pos 0) ∷ (pos 40) ∷ (pos 5) ∷ [])) ∷
    C (R (minus 141) (minus 134) (minus 49) (minus 62)) 256 0 ((pos 412) ∷ (minus 78) ∷ (pos 117) ∷ (pos 380) ∷ (minus 423) ∷ (pos 302) ∷ (minus 577) ∷ (minus 221) ∷ (minus 165) ∷ (minus 577) ∷ (pos 331) ∷ (minus 350) ∷ (pos 331) ∷ (pos 194) ∷ (minus 165) ∷ (pos 421) ∷ (minus 577) ∷ (pos 65) ∷ (minus 423) ∷ (minus 458) ∷ (pos 117) ∷ (minus 536) ∷ [])
    (returned 0 0 0 ((pos 7) ∷ (pos 7) ∷ []) (7 ∷ []) []) ∷
    L (R (pos 0) (pos 0) (pos 6) (pos 3)) 0 ((pos 1) ∷ (pos 5) ∷ (pos 6) ∷ (pos 3) ∷ (pos 1) ∷ (pos 5) ∷ (pos 6) ∷ (pos 3) ∷ (pos 1) ∷ (pos 3) ∷ [])
    (returned 0 0 0 ((pos 7) ∷ (pos 7) ∷ []) (7 ∷ []) []) ∷
    []

drawings3 : map shown table3 ≡ map (λ c. c.expected) table3
unfolding at_end get_segment_intersection edge_intersection side_intersection get_intersection start_locs_are_clockwise at_vertex scan_pass scan_answer scan_loop point_in_polygon path1_contains_path2 get_bounds_path get_location determinant numerator fraction working_of crossing_of point_at intersection cross_product_sign is_collinear cross_product_three_points cross_product_is_negative is_clockwise_dir set_owner set_edge set_next set_prev set_results set_edge_list ring unlink add_to_edge struck uncouple_edge own_from set_new_owner drop_collinear_pass drop_collinear assign_side assign_edges check_ring check_from check_edges enter_all arena_of straighten_pass straighten points_from get_path get_paths clip_walked execute sheet_refusal early_refusal delivered answered clip_closed clip_open filled_part is_present first_off_edge line_through line_cross line_from line_passes line_walk_from walk_open pieces longer_than_one execute_lines seek relink regroup keep_one keep_both keep_each settle rejoin one_turn turns_from tidy_edges add add_all push_start_loc next_side next_outside add_corner_prev_curr add_corner_loc add_corners push_start_locs next_inside get_next_location second_search remain_outside enter pass_to pass_through leave cross_boundary add_round retrace close_outline last_off pass_from passes surround after_while walk_from walk_closed walked_outline lib.Ieee.add of_int sub mul div neg to_signed eq lt le
drawings3 = refl

abbrev table4 : List Case
table4 =
    C (R (pos 0) (pos 0) (pos 8) (pos 7)) 256 256 ((pos 0) ∷ (pos 0) ∷ (pos 8) ∷ (pos 7) ∷ (pos 0) ∷ (pos 0) ∷ (minus 1) ∷ (pos 1) ∷ (pos 8) ∷ (pos 3) ∷ (pos 8) ∷ (pos 7) ∷ (pos 9) ∷ (pos 3) ∷ (pos 4) ∷ (pos 7) ∷ (pos 9) ∷ (minus 1) ∷ (pos 4) ∷ (pos 7) ∷ (pos 0) ∷ (pos 7) ∷ (pos 7) ∷ (pos 7) ∷ (pos 0) ∷ (pos 7) ∷ [])
    (returned 1 4 2 ((pos 4) ∷ (pos 7) ∷ (pos 0) ∷ (pos 7) ∷ (pos 0) ∷ (pos 1) ∷ (pos 8) ∷ (pos 3) ∷ (pos 7) ∷ (pos 7) ∷ []) (4 ∷ 7 ∷ []) ((pos 0) ∷ (pos 0) ∷ (pos 8) ∷ (pos 7) ∷ (pos 0) ∷ (pos 0) ∷ (pos 0) ∷ (pos 1) ∷ (pos 8) ∷ (pos 3) ∷ (pos 4) ∷ (pos 7) ∷ (pos 8) ∷ (pos 0) ∷ (pos 4) ∷ (pos 7) ∷ (pos 0) ∷ (pos 7) ∷ [])) ∷
    L (R (pos 0) (pos 0) (pos 6) (pos 5)) 256 ((pos 7) ∷ (pos 0) ∷ (pos 7) ∷ (pos 7) ∷ (pos 1) ∷ (pos 1) ∷ (minus 2) ∷ (pos 7) ∷ (pos 8) ∷ (pos 5) ∷ (minus 1) ∷ (minus 3) ∷ [])
    (returned 2 5 0 ((pos 5) ∷ (pos 5) ∷ (pos 1) ∷ (pos 1) ∷ (pos 0) ∷ (pos 3) ∷ (pos 6) ∷ (pos 3) ∷ (pos 2) ∷ (pos 0) ∷ (pos 7) ∷ (pos 7) ∷ []) (3 ∷ 2 ∷ 7 ∷ []) []) ∷
    C (R (pos 0) (pos 0) (pos 8) (pos 6)) 6 256 ((pos 4) ∷ (pos 0) ∷ (minus 1) ∷ (pos 0) ∷ (pos 1) ∷ (pos 1) ∷ (pos 0) ∷ (minus 1) ∷ (pos 8) ∷ (pos 8) ∷ (pos 8) ∷ (pos 6) ∷ (minus 2) ∷ (pos 0) ∷ [])
    (returned 1 4 0 ((pos 0) ∷ (pos 1) ∷ (pos 0) ∷ (pos 0) ∷ (pos 6) ∷ (pos 6) ∷ (pos 8) ∷ (pos 6) ∷ (pos 7) ∷ (pos 7) ∷ []) (4 ∷ 7 ∷ []) ((pos 0) ∷ (pos 0) ∷ (pos 1) ∷ (pos 1) ∷ (pos 0) ∷ (pos 0) ∷ (pos 6) ∷ (pos 6) ∷ (pos 8) ∷ (pos 6) ∷ (pos 0) ∷ (pos 1) ∷ [])) ∷
    C (R (minus 102) (pos 180) (pos 547) (pos 323)) 6 256 ((pos 1913) ∷ (pos 851) ∷ (minus 301) ∷ (pos 1570) ∷ (pos 1068) ∷ (minus 313) ∷ (pos 1068) ∷ (pos 2015) ∷ (minus 301) ∷ (pos 132) ∷ [])
    (refusal 8 ((minus 102) ∷ (pos 196) ∷ (pos 287) ∷ (pos 323) ∷ (pos 547) ∷ (pos 323) ∷ (pos 547) ∷ (pos 180) ∷ (pos 547) ∷ (pos 323) ∷ (minus 102) ∷ (pos 323) ∷ (minus 102) ∷ (pos 180) ∷ [])) ∷
    C (R (pos 0) (pos 0) (pos 10) (pos 7)) 7 0 ((pos 0) ∷ (minus 1) ∷ (pos 0) ∷ (minus 1) ∷ (minus 2) ∷ (pos 0) ∷ (pos 12) ∷ (pos 6) ∷ (minus 2) ∷ (pos 6) ∷ (pos 12) ∷ (pos 7) ∷ [])
    (refusal 10 ((pos 10) ∷ (pos 5) ∷ (pos 1) ∷ (pos 0) ∷ (pos 0) ∷ (pos 0) ∷ (pos 10) ∷ (pos 5) ∷ (pos 10) ∷ (pos 6) ∷ (pos 0) ∷ (pos 6) ∷ (pos 10) ∷ (pos 6) ∷ [])) ∷
    L (R (pos 0) (pos 0) (pos 6) (pos 2)) 256 ((pos 8) ∷ (pos 4) ∷ (pos 3) ∷ (pos 4) ∷ (pos 6) ∷ (pos 4) ∷ (pos 6) ∷ (minus 2) ∷ (pos 6) ∷ (pos 1) ∷ (pos 0) ∷ (pos 1) ∷ (pos 0) ∷ (pos 1) ∷ (pos 0) ∷ (pos 1) ∷ (pos 7) ∷ (pos 1) ∷ (pos 7) ∷ (pos 4) ∷ (pos 1) ∷ (pos 4) ∷ (pos 0) ∷ (pos 4) ∷ [])
    (returned 3 6 0 ((pos 6) ∷ (pos 2) ∷ (pos 6) ∷ (pos 0) ∷ (pos 6) ∷ (pos 1) ∷ (pos 0) ∷ (pos 1) ∷ (pos 0) ∷ (pos 1) ∷ (pos 6) ∷ (pos 1) ∷ (pos 7) ∷ (pos 7) ∷ []) (2 ∷ 2 ∷ 2 ∷ 7 ∷ []) []) ∷
    C (R (pos 187) (minus 403) (pos 372) (minus 372)) 256 256 ((minus 139) ∷ (minus 665) ∷ (pos 449) ∷ (minus 625) ∷ (pos 511) ∷ (pos 823) ∷ (minus 533) ∷ (minus 807) ∷ (pos 105) ∷ (pos 753) ∷ [])
    (returned 1 4 0 ((pos 187) ∷ (minus 372) ∷ (pos 187) ∷ (minus 403) ∷ (pos 372) ∷ (minus 403) ∷ (pos 372) ∷ (minus 372) ∷ (pos 7) ∷ (pos 7) ∷ []) (4 ∷ 7 ∷ []) ((pos 187) ∷ (minus 403) ∷ (pos 372) ∷ (minus 403) ∷ (pos 372) ∷ (minus 372) ∷ (pos 187) ∷ (minus 372) ∷ [])) ∷
    L (R (pos 88) (pos 368) (pos 541) (pos 884)) 256 ((pos 566) ∷ (pos 802) ∷ (pos 566) ∷ (pos 1088) ∷ (minus 6) ∷ (pos 1088) ∷ (minus 6) ∷ (pos 516) ∷ (minus 6) ∷ (pos 516) ∷ (pos 852) ∷ (pos 516) ∷ [])
    (returned 1 2 0 ((pos 88) ∷ (pos 516) ∷ (pos 541) ∷ (pos 516) ∷ (pos 7) ∷ (pos 7) ∷ []) (2 ∷ 7 ∷ []) []) ∷
    L (R (pos 2) (pos 1) (pos 4) (pos 4)) 256 ((pos 2) ∷ (pos 1) ∷ (pos 3) ∷ (pos 3) ∷ (pos 1) ∷ (pos 1) ∷ (pos 5) ∷ (pos 0) ∷ (pos 2) ∷ (pos 5) ∷ (minus 1) ∷ (pos 2) ∷ (pos 5) ∷ (pos 3) ∷ [])
    (returned 3 7 0 ((pos 2) ∷ (pos 1) ∷ (pos 3) ∷ (pos 3) ∷ (pos 2) ∷ (pos 2) ∷ (pos 4) ∷ (pos 1) ∷ (pos 2) ∷ (pos 4) ∷ (pos 2) ∷ (pos 2) ∷ (pos 4) ∷ (pos 2) ∷ (pos 7) ∷ (pos 7) ∷ []) (3 ∷ 2 ∷ 2 ∷ 7 ∷ []) []) ∷
    L (R (pos 0) (pos 0) (pos 60) (pos 60)) 256 ((pos 43) ∷ (minus 3) ∷ (pos 60) ∷ (minus 5) ∷ (pos 59) ∷ (pos 7) ∷ (pos 61) ∷ (pos 5) ∷ (pos 7) ∷ (minus 5) ∷ (pos 5) ∷ (pos 0) ∷ [])
    (returned 2 5 0 ((pos 59) ∷ (pos 0) ∷ (pos 59) ∷ (pos 7) ∷ (pos 60) ∷ (pos 6) ∷ (pos 60) ∷ (pos 4) ∷ (pos 34) ∷ (pos 0) ∷ (pos 7) ∷ (pos 7) ∷ []) (3 ∷ 2 ∷ 7 ∷ []) []) ∷
    C (R (pos 224) (minus 390) (pos 798) (minus 195)) 256 0 ((pos 948) ∷ (minus 585) ∷ (pos 948) ∷ (minus 382) ∷ (pos 542) ∷ (minus 382) ∷ (pos 542) ∷ (minus 788) ∷ (pos 1151) ∷ (minus 788) ∷ (pos 1151) ∷ (minus 179) ∷ (pos 339) ∷ (minus 179) ∷ (pos 339) ∷ (minus 991) ∷ [])
    (returned 1 8 0 ((pos 798) ∷ (minus 390) ∷ (pos 798) ∷ (minus 382) ∷ (pos 542) ∷ (minus 382) ∷ (pos 542) ∷ (minus 390) ∷ (pos 798) ∷ (minus 390) ∷ (pos 798) ∷ (minus 195) ∷ (pos 339) ∷ (minus 195) ∷ (pos 339) ∷ (minus 390) ∷ (pos 7) ∷ (pos 7) ∷ []) (8 ∷ 7 ∷ []) ((pos 798) ∷ (minus 382) ∷ (pos 542) ∷ (minus 382) ∷ (pos 542) ∷ (minus 390) ∷ (pos 798) ∷ (minus 390) ∷ (pos 798) ∷ (minus 195) ∷ (pos 339) ∷ (minus 195) ∷ (pos 339) ∷ (minus 390) ∷ (pos 798) ∷ (minus 390) ∷ [])) ∷
    L (R (pos 0) (pos 0) (pos 60) (pos 60)) 256 ((pos 2) ∷ (pos 6) ∷ (pos 0) ∷ (minus 6) ∷ (pos 4) ∷ (pos 0) ∷ (pos 5) ∷ (minus 6) ∷ (pos 24) ∷ (pos 3) ∷ (pos 23) ∷ (pos 5) ∷ [])
    (returned 2 5 0 ((pos 2) ∷ (pos 6) ∷ (pos 1) ∷ (pos 0) ∷ (pos 17) ∷ (pos 0) ∷ (pos 24) ∷ (pos 3) ∷ (pos 23) ∷ (pos 5) ∷ (pos 7) ∷ (pos 7) ∷ []) (2 ∷ 3 ∷ 7 ∷ []) []) ∷
    U (R (pos 0) (pos 2) (pos 3) (pos 4)) 256 256 []
    (returned 0 0 0 ((pos 7) ∷ (pos 7) ∷ []) (7 ∷ []) []) ∷
    C (R (pos 461) (minus 52) (pos 1126) (pos 81)) 256 0 ((pos 990) ∷ (pos 9) ∷ (pos 838) ∷ (pos 235) ∷ (pos 838) ∷ (pos 235) ∷ (pos 563) ∷ (pos 156) ∷ (pos 551) ∷ (minus 146) ∷ (pos 851) ∷ (minus 255) ∷ (pos 1057) ∷ (pos 9) ∷ (pos 1057) ∷ (pos 9) ∷ (pos 859) ∷ (pos 298) ∷ (pos 859) ∷ (pos 298) ∷ (pos 509) ∷ (pos 195) ∷ (pos 497) ∷ (minus 185) ∷ (pos 872) ∷ (minus 318) ∷ (pos 990) ∷ (pos 9) ∷ [])
    (returned 1 10 0 ((pos 501) ∷ (minus 52) ∷ (pos 967) ∷ (minus 52) ∷ (pos 990) ∷ (pos 9) ∷ (pos 941) ∷ (pos 81) ∷ (pos 560) ∷ (pos 81) ∷ (pos 554) ∷ (minus 52) ∷ (pos 1009) ∷ (minus 52) ∷ (pos 1057) ∷ (pos 9) ∷ (pos 1007) ∷ (pos 81) ∷ (pos 505) ∷ (pos 81) ∷ (pos 7) ∷ (pos 7) ∷ []) (10 ∷ 7 ∷ []) ((pos 990) ∷ (pos 9) ∷ (pos 941) ∷ (pos 81) ∷ (pos 560) ∷ (pos 81) ∷ (pos 554) ∷ (minus 52) ∷ (pos 1009) ∷ (minus 52) ∷ (pos 1057) ∷ (pos 9) ∷ (pos 1007) ∷ (pos 81) ∷ (pos 505) ∷ (pos 81) ∷ (pos 501) ∷ (minus 52) ∷ (pos 967) ∷ (minus 52) ∷ (pos 990) ∷ (pos 9) ∷ [])) ∷
    C (R (pos 0) (pos 0) (pos 60) (pos 60)) 256 256 ((pos 60) ∷ (pos 0) ∷ (pos 67) ∷ (pos 0) ∷ (pos 62) ∷ (pos 3) ∷ (pos 53) ∷ (pos 2) ∷ (pos 69) ∷ (pos 6) ∷ (pos 62) ∷ (pos 6) ∷ (pos 53) ∷ (pos 9) ∷ (pos 62) ∷ (pos 7) ∷ (pos 53) ∷ (pos 5) ∷ (pos 53) ∷ (pos 3) ∷ [])
    (returned 1 10 4 ((pos 53) ∷ (pos 3) ∷ (pos 60) ∷ (pos 0) ∷ (pos 60) ∷ (pos 2) ∷ (pos 53) ∷ (pos 2) ∷ (pos 60) ∷ (pos 3) ∷ (pos 60) ∷ (pos 6) ∷ (pos 53) ∷ (pos 9) ∷ (pos 60) ∷ (pos 7) ∷ (pos 60) ∷ (pos 6) ∷ (pos 53) ∷ (pos 5) ∷ (pos 7) ∷ (pos 7) ∷ []) (10 ∷ 7 ∷ []) ((pos 60) ∷ (pos 0) ∷ (pos 60) ∷ (pos 2) ∷ (pos 53) ∷ (pos 2) ∷ (pos 60) ∷ (pos 3) ∷ (pos 60) ∷ (pos 6) ∷ (pos 53) ∷ (pos 9) ∷ (pos 60) ∷ (pos 7) ∷ (pos 60) ∷ (pos 6) ∷ (pos 53) ∷ (pos 5) ∷ (pos 53) ∷ (pos 3) ∷ [])) ∷
    []

drawings4 : map shown table4 ≡ map (λ c. c.expected) table4
unfolding at_end get_segment_intersection edge_intersection side_intersection get_intersection start_locs_are_clockwise at_vertex scan_pass scan_answer scan_loop point_in_polygon path1_contains_path2 get_bounds_path get_location determinant numerator fraction working_of crossing_of point_at intersection cross_product_sign is_collinear cross_product_three_points cross_product_is_negative is_clockwise_dir set_owner set_edge set_next set_prev set_results set_edge_list ring unlink add_to_edge struck uncouple_edge own_from set_new_owner drop_collinear_pass drop_collinear assign_side assign_edges check_ring check_from check_edges enter_all arena_of straighten_pass straighten points_from get_path get_paths clip_walked execute sheet_refusal early_refusal delivered answered clip_closed clip_open filled_part is_present first_off_edge line_through line_cross line_from line_passes line_walk_from walk_open pieces longer_than_one execute_lines seek relink regroup keep_one keep_both keep_each settle rejoin one_turn turns_from tidy_edges add add_all push_start_loc next_side next_outside add_corner_prev_curr add_corner_loc add_corners push_start_locs next_inside get_next_location second_search remain_outside enter pass_to pass_through leave cross_boundary add_round retrace close_outline last_off pass_from passes surround after_while walk_from walk_closed walked_outline lib.Ieee.add of_int sub mul div neg to_signed eq lt le
drawings4 = refl
