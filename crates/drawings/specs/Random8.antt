-- Drawings with the Rust's answers: what the entries answer and fill, and the walked outline.
-- Made by tools/tables.py from rows of compare's `drawings`. Assumes nothing.
use Rattle.std.specs.Prelude.{◌≡◌, refl, List, [], ◌∷◌, map, pos}
use Rattle.drawings.specs.Cases.{Case, C, U, L, R, minus, returned, refusal, shown}
use Rattle.plane.specs.Intersection.{at_end, get_segment_intersection, edge_intersection, side_intersection, get_intersection}
use Rattle.plane.specs.Locations.{start_locs_are_clockwise}
use Rattle.plane.specs.Polygon.{at_vertex, scan_pass, scan_answer, scan_loop, point_in_polygon, path1_contains_path2}
use Rattle.plane.specs.Rectangle.{get_bounds_path, get_location}
use Rattle.plane.specs.Segment.{determinant, numerator, fraction, working_of, crossing_of, point_at, intersection}
use Rattle.plane.specs.Signs.{cross_product_sign, is_collinear, cross_product_three_points, cross_product_is_negative, is_clockwise_dir}
use Rattle.reference.specs.Arena.{set_owner, set_edge, set_next, set_prev, set_results, set_edge_list, ring, unlink, add_to_edge, struck, uncouple_edge, own_from, set_new_owner, drop_collinear_pass, drop_collinear, assign_side, assign_edges, check_ring, check_from, check_edges}
use Rattle.reference.specs.Clip.{enter_all, arena_of, straighten_pass, straighten, points_from, get_path, get_paths, clip_walked, execute}
use Rattle.reference.specs.Entry.{sheet_refusal, early_refusal, delivered, answered, clip_closed, clip_open, filled_part, is_present}
use Rattle.reference.specs.Lines.{first_off_edge, line_through, line_cross, line_from, line_passes, line_walk_from, walk_open, pieces, longer_than_one, execute_lines}
use Rattle.reference.specs.Tidy.{seek, relink, regroup, keep_one, keep_both, keep_each, settle, rejoin, one_turn, turns_from, tidy_edges}
use Rattle.reference.specs.Walk.{add, add_all, push_start_loc, next_side, next_outside, add_corner_prev_curr, add_corner_loc, add_corners, push_start_locs, next_inside, get_next_location, second_search, remain_outside, enter, pass_to, pass_through, leave, cross_boundary, add_round, retrace, close_outline, last_off, pass_from, passes, surround, after_while, walk_from, walk_closed, walked_outline}
use lib.Ieee.{of_int, sub, mul, div, neg, to_signed, eq, lt, le}

abbrev table1 : List Case
table1 =
    C (R (pos 0) (pos 0) (pos 60) (pos 60)) 256 3 ((pos 44) ∷ (pos 9) ∷ (pos 46) ∷ (pos 1) ∷ (pos 19) ∷ (pos 9) ∷ (pos 17) ∷ (minus 1) ∷ (pos 8) ∷ (minus 3) ∷ (pos 5) ∷ (pos 0) ∷ (pos 1) ∷ (pos 0) ∷ (pos 3) ∷ (minus 1) ∷ (pos 2) ∷ (minus 4) ∷ (pos 3) ∷ (minus 3) ∷ (pos 43) ∷ (pos 0) ∷ (pos 41) ∷ (pos 6) ∷ (pos 39) ∷ (minus 2) ∷ (pos 39) ∷ (pos 0) ∷ (pos 0) ∷ (minus 3) ∷ (minus 2) ∷ (pos 8) ∷ [])
    (returned 2 9 3 ((pos 0) ∷ (pos 0) ∷ (pos 0) ∷ (pos 8) ∷ (pos 44) ∷ (pos 9) ∷ (pos 46) ∷ (pos 1) ∷ (pos 19) ∷ (pos 9) ∷ (pos 17) ∷ (pos 0) ∷ (pos 43) ∷ (pos 0) ∷ (pos 41) ∷ (pos 6) ∷ (pos 39) ∷ (pos 0) ∷ (pos 7) ∷ (pos 7) ∷ []) (6 ∷ 3 ∷ 7 ∷ []) ((pos 0) ∷ (pos 8) ∷ (pos 44) ∷ (pos 9) ∷ (pos 46) ∷ (pos 1) ∷ (pos 19) ∷ (pos 9) ∷ (pos 17) ∷ (pos 0) ∷ (pos 43) ∷ (pos 0) ∷ (pos 41) ∷ (pos 6) ∷ (pos 39) ∷ (pos 0) ∷ (pos 0) ∷ (pos 0) ∷ [])) ∷
    C (R (pos 453) (pos 412) (pos 1127) (pos 860)) 256 0 ((pos 1162) ∷ (pos 568) ∷ (pos 1211) ∷ (pos 727) ∷ (pos 1052) ∷ (pos 910) ∷ (pos 728) ∷ (pos 892) ∷ (pos 477) ∷ (pos 568) ∷ (pos 565) ∷ (pos 81) ∷ (pos 1052) ∷ (minus 240) ∷ (pos 1704) ∷ (minus 84) ∷ [])
    (returned 1 6 0 ((pos 1127) ∷ (pos 412) ∷ (pos 1127) ∷ (pos 823) ∷ (pos 1095) ∷ (pos 860) ∷ (pos 703) ∷ (pos 860) ∷ (pos 477) ∷ (pos 568) ∷ (pos 505) ∷ (pos 412) ∷ (pos 7) ∷ (pos 7) ∷ []) (6 ∷ 7 ∷ []) ((pos 1127) ∷ (pos 823) ∷ (pos 1095) ∷ (pos 860) ∷ (pos 703) ∷ (pos 860) ∷ (pos 477) ∷ (pos 568) ∷ (pos 505) ∷ (pos 412) ∷ (pos 1127) ∷ (pos 412) ∷ [])) ∷
    L (R (pos 0) (pos 0) (pos 5) (pos 2)) 2 ((minus 1) ∷ (pos 4) ∷ (pos 5) ∷ (pos 3) ∷ (pos 0) ∷ (minus 3) ∷ (pos 6) ∷ (pos 0) ∷ (pos 8) ∷ (pos 3) ∷ (pos 5) ∷ (pos 1) ∷ [])
    (returned 1 2 0 ((pos 4) ∷ (pos 2) ∷ (pos 2) ∷ (pos 0) ∷ (pos 7) ∷ (pos 7) ∷ []) (2 ∷ 7 ∷ []) []) ∷
    C (R (pos 0) (minus 33554431) (pos 8732725) (minus 28343525)) 256 256 ((pos 10321143) ∷ (pos 21116431) ∷ (minus 377600) ∷ (minus 10280660) ∷ (pos 33554431) ∷ (minus 17090979) ∷ (pos 8732724) ∷ (minus 28343526) ∷ (minus 33554432) ∷ (minus 28106889) ∷ [])
    (returned 1 3 1 ((pos 8732725) ∷ (minus 28343525) ∷ (pos 8732724) ∷ (minus 28343526) ∷ (pos 8732545) ∷ (minus 28343525) ∷ (pos 7) ∷ (pos 7) ∷ []) (3 ∷ 7 ∷ []) ((pos 8732725) ∷ (minus 28343525) ∷ (pos 8732724) ∷ (minus 28343526) ∷ (pos 8732545) ∷ (minus 28343525) ∷ (pos 0) ∷ (minus 28343525) ∷ (pos 8732725) ∷ (minus 28343525) ∷ (pos 0) ∷ (minus 28343525) ∷ (pos 8732725) ∷ (minus 28343525) ∷ [])) ∷
    C (R (pos 0) (pos 0) (pos 12) (pos 5)) 9 0 ((pos 6) ∷ (minus 1) ∷ (pos 14) ∷ (pos 5) ∷ (pos 12) ∷ (pos 0) ∷ (pos 14) ∷ (pos 5) ∷ (pos 6) ∷ (pos 2) ∷ (pos 0) ∷ (pos 5) ∷ (pos 6) ∷ (pos 2) ∷ (minus 1) ∷ (pos 7) ∷ (pos 12) ∷ (pos 5) ∷ (minus 1) ∷ (pos 7) ∷ (minus 1) ∷ (pos 7) ∷ (pos 12) ∷ (pos 5) ∷ [])
    (returned 1 6 0 ((pos 6) ∷ (pos 2) ∷ (pos 1) ∷ (pos 5) ∷ (pos 12) ∷ (pos 5) ∷ (pos 7) ∷ (pos 0) ∷ (pos 12) ∷ (pos 3) ∷ (pos 12) ∷ (pos 4) ∷ (pos 7) ∷ (pos 7) ∷ []) (6 ∷ 7 ∷ []) ((pos 12) ∷ (pos 5) ∷ (pos 7) ∷ (pos 0) ∷ (pos 12) ∷ (pos 3) ∷ (pos 12) ∷ (pos 4) ∷ (pos 6) ∷ (pos 2) ∷ (pos 0) ∷ (pos 5) ∷ (pos 6) ∷ (pos 2) ∷ (pos 1) ∷ (pos 5) ∷ (pos 12) ∷ (pos 5) ∷ [])) ∷
    U (R (pos 0) (pos 0) (pos 0) (pos 3)) 256 256 ((pos 0) ∷ (pos 5) ∷ (pos 0) ∷ (pos 5) ∷ (minus 1) ∷ (pos 5) ∷ (minus 2) ∷ (pos 4) ∷ (pos 2) ∷ (pos 5) ∷ (pos 1) ∷ (pos 1) ∷ [])
    (returned 0 0 0 ((pos 7) ∷ (pos 7) ∷ []) (7 ∷ []) []) ∷
    C (R (pos 7) (pos 7) (pos 2765619) (pos 25835504)) 15 256 ((minus 32200203) ∷ (pos 17646438) ∷ (pos 33554432) ∷ (minus 4476230) ∷ (pos 1382813) ∷ (pos 5) ∷ (pos 7198603) ∷ (pos 16845247) ∷ (minus 402373) ∷ (pos 12417962) ∷ (minus 4300147) ∷ (minus 33554432) ∷ (pos 12203869) ∷ (pos 21835116) ∷ (pos 6) ∷ (pos 25835504) ∷ (minus 3949450) ∷ (pos 6469512) ∷ (pos 7345513) ∷ (pos 19658312) ∷ (pos 9997888) ∷ (pos 22085186) ∷ [])
    (returned 1 13 9 ((pos 2765619) ∷ (pos 24928944) ∷ (pos 7) ∷ (pos 25835503) ∷ (pos 7) ∷ (pos 11081178) ∷ (pos 2765619) ∷ (pos 14310502) ∷ (pos 2765619) ∷ (pos 21324435) ∷ (pos 7) ∷ (pos 21033525) ∷ (pos 7) ∷ (pos 6812911) ∷ (pos 2765619) ∷ (pos 5882441) ∷ (pos 2765619) ∷ (pos 14263199) ∷ (pos 7) ∷ (pos 12652333) ∷ (pos 7) ∷ (pos 7) ∷ (pos 1382813) ∷ (pos 7) ∷ (pos 2765619) ∷ (pos 4005256) ∷ (pos 7) ∷ (pos 7) ∷ []) (13 ∷ 7 ∷ []) ((pos 2765619) ∷ (pos 21324435) ∷ (pos 7) ∷ (pos 21033525) ∷ (pos 7) ∷ (pos 6812911) ∷ (pos 2765619) ∷ (pos 5882441) ∷ (pos 2765619) ∷ (pos 7) ∷ (pos 1382813) ∷ (pos 7) ∷ (pos 2765619) ∷ (pos 4005256) ∷ (pos 2765619) ∷ (pos 14263199) ∷ (pos 7) ∷ (pos 12652333) ∷ (pos 7) ∷ (pos 7) ∷ (pos 2765619) ∷ (pos 7) ∷ (pos 2765619) ∷ (pos 24928944) ∷ (pos 7) ∷ (pos 25835503) ∷ (pos 7) ∷ (pos 11081178) ∷ (pos 2765619) ∷ (pos 14310502) ∷ [])) ∷
    C (R (minus 257) (pos 382) (pos 311) (pos 517)) 256 2 ((pos 703) ∷ (pos 266) ∷ (minus 357) ∷ (pos 449) ∷ (pos 603) ∷ (pos 356) ∷ (pos 151) ∷ (pos 402) ∷ (minus 787) ∷ (pos 833) ∷ (minus 652) ∷ (pos 97) ∷ [])
    (refusal 10 ((pos 31) ∷ (pos 382) ∷ (minus 257) ∷ (pos 431) ∷ (minus 257) ∷ (pos 439) ∷ (pos 311) ∷ (pos 384) ∷ (pos 311) ∷ (pos 385) ∷ (pos 151) ∷ (pos 402) ∷ (minus 99) ∷ (pos 517) ∷ (minus 257) ∷ (pos 517) ∷ (minus 257) ∷ (pos 382) ∷ (pos 311) ∷ (pos 382) ∷ [])) ∷
    C (R (pos 0) (pos 0) (pos 4) (pos 2)) 256 0 ((pos 0) ∷ (pos 0) ∷ (pos 0) ∷ (pos 2) ∷ (pos 0) ∷ (pos 2) ∷ (pos 0) ∷ (minus 1) ∷ (pos 6) ∷ (minus 1) ∷ (pos 6) ∷ (minus 1) ∷ (pos 5) ∷ (minus 1) ∷ (pos 5) ∷ (pos 3) ∷ (pos 2) ∷ (pos 3) ∷ (pos 4) ∷ (pos 3) ∷ (pos 0) ∷ (pos 3) ∷ (pos 0) ∷ (pos 3) ∷ (pos 0) ∷ (pos 1) ∷ (pos 0) ∷ (pos 0) ∷ (pos 0) ∷ (pos 0) ∷ [])
    (returned 1 4 0 ((pos 4) ∷ (pos 2) ∷ (pos 0) ∷ (pos 2) ∷ (pos 0) ∷ (pos 0) ∷ (pos 4) ∷ (pos 0) ∷ (pos 7) ∷ (pos 7) ∷ []) (4 ∷ 7 ∷ []) ((pos 0) ∷ (pos 2) ∷ (pos 0) ∷ (pos 0) ∷ (pos 4) ∷ (pos 0) ∷ (pos 4) ∷ (pos 2) ∷ [])) ∷
    C (R (pos 0) (pos 0) (pos 8) (pos 4)) 3 256 ((pos 9) ∷ (pos 6) ∷ (pos 9) ∷ (pos 6) ∷ (minus 1) ∷ (pos 0) ∷ (pos 0) ∷ (pos 5) ∷ (minus 2) ∷ (minus 1) ∷ (pos 0) ∷ (pos 3) ∷ (pos 0) ∷ (minus 1) ∷ (minus 2) ∷ (pos 3) ∷ (pos 0) ∷ (pos 1) ∷ [])
    (returned 1 3 0 ((pos 0) ∷ (pos 0) ∷ (pos 0) ∷ (pos 1) ∷ (pos 5) ∷ (pos 4) ∷ (pos 7) ∷ (pos 7) ∷ []) (3 ∷ 7 ∷ []) ((pos 0) ∷ (pos 1) ∷ (pos 5) ∷ (pos 4) ∷ (pos 0) ∷ (pos 0) ∷ [])) ∷
    C (R (pos 33554431) (pos 7) (pos 33554432) (pos 6965809)) 6 256 ((pos 3459739) ∷ (pos 4982657) ∷ (pos 33554431) ∷ (pos 7) ∷ (minus 33554432) ∷ (minus 28049518) ∷ (pos 12483190) ∷ (minus 10873749) ∷ (pos 33554432) ∷ (pos 3482908) ∷ (minus 7879335) ∷ (minus 7865184) ∷ (pos 361676) ∷ (pos 20569083) ∷ (minus 30757639) ∷ (minus 33554432) ∷ (pos 7599675) ∷ (minus 28575076) ∷ (pos 33554432) ∷ (pos 5) ∷ (minus 33554431) ∷ (pos 32528252) ∷ (pos 3459739) ∷ (pos 4982657) ∷ [])
    (returned 0 0 3 ((pos 7) ∷ (pos 7) ∷ []) (7 ∷ []) ((pos 33554431) ∷ (pos 3482907) ∷ (pos 33554432) ∷ (pos 3482908) ∷ (pos 33554431) ∷ (pos 3482907) ∷ (pos 33554431) ∷ (pos 7) ∷ (pos 33554432) ∷ (pos 7) ∷ (pos 33554431) ∷ (pos 7) ∷ [])) ∷
    C (R (pos 343) (pos 205) (pos 959) (pos 497)) 256 256 ((pos 1881) ∷ (pos 323) ∷ (minus 951) ∷ (minus 178) ∷ (pos 1537) ∷ (pos 1260) ∷ (minus 310) ∷ (minus 940) ∷ (pos 676) ∷ (pos 1761) ∷ (pos 676) ∷ (minus 1115) ∷ (minus 310) ∷ (pos 1586) ∷ (pos 1537) ∷ (minus 614) ∷ (minus 951) ∷ (pos 824) ∷ [])
    (returned 1 17 0 ((pos 343) ∷ (pos 497) ∷ (pos 897) ∷ (pos 497) ∷ (pos 959) ∷ (pos 486) ∷ (pos 959) ∷ (pos 205) ∷ (pos 343) ∷ (pos 205) ∷ (pos 343) ∷ (pos 497) ∷ (pos 896) ∷ (pos 497) ∷ (pos 651) ∷ (pos 205) ∷ (pos 343) ∷ (pos 205) ∷ (pos 343) ∷ (pos 497) ∷ (pos 676) ∷ (pos 497) ∷ (pos 676) ∷ (pos 205) ∷ (pos 343) ∷ (pos 205) ∷ (pos 343) ∷ (pos 497) ∷ (pos 604) ∷ (pos 497) ∷ (pos 849) ∷ (pos 205) ∷ (pos 343) ∷ (pos 205) ∷ (pos 7) ∷ (pos 7) ∷ []) (17 ∷ 7 ∷ []) ((pos 897) ∷ (pos 497) ∷ (pos 959) ∷ (pos 486) ∷ (pos 959) ∷ (pos 205) ∷ (pos 343) ∷ (pos 205) ∷ (pos 343) ∷ (pos 497) ∷ (pos 959) ∷ (pos 497) ∷ (pos 896) ∷ (pos 497) ∷ (pos 651) ∷ (pos 205) ∷ (pos 343) ∷ (pos 205) ∷ (pos 343) ∷ (pos 497) ∷ (pos 676) ∷ (pos 497) ∷ (pos 676) ∷ (pos 205) ∷ (pos 343) ∷ (pos 205) ∷ (pos 343) ∷ (pos 497) ∷ (pos 604) ∷ (pos 497) ∷ (pos 849) ∷ (pos 205) ∷ (pos 343) ∷ (pos 205) ∷ (pos 343) ∷ (pos 497) ∷ [])) ∷
    C (R (minus 386) (pos 31) (minus 269) (pos 583)) 256 256 ((minus 559) ∷ (pos 487) ∷ (pos 201) ∷ (pos 849) ∷ (minus 243) ∷ (minus 438) ∷ (minus 454) ∷ (minus 955) ∷ (minus 454) ∷ (minus 955) ∷ (minus 521) ∷ (minus 370) ∷ (minus 521) ∷ (minus 370) ∷ (pos 655) ∷ (minus 688) ∷ (pos 264) ∷ (minus 221) ∷ (minus 878) ∷ (minus 34) ∷ (minus 643) ∷ (minus 220) ∷ (minus 643) ∷ (minus 220) ∷ (pos 845) ∷ (pos 656) ∷ [])
    (returned 1 5 0 ((minus 269) ∷ (pos 583) ∷ (minus 269) ∷ (pos 521) ∷ (minus 386) ∷ (pos 507) ∷ (minus 386) ∷ (pos 569) ∷ (minus 357) ∷ (pos 583) ∷ (pos 7) ∷ (pos 7) ∷ []) (5 ∷ 7 ∷ []) ((minus 269) ∷ (pos 521) ∷ (minus 386) ∷ (pos 507) ∷ (minus 386) ∷ (pos 569) ∷ (minus 357) ∷ (pos 583) ∷ (minus 269) ∷ (pos 583) ∷ (minus 269) ∷ (pos 31) ∷ (minus 269) ∷ (pos 583) ∷ [])) ∷
    L (R (pos 0) (pos 0) (pos 9) (pos 5)) 256 ((pos 0) ∷ (pos 6) ∷ (pos 0) ∷ (pos 0) ∷ (pos 0) ∷ (pos 7) ∷ (pos 0) ∷ (pos 0) ∷ (pos 11) ∷ (pos 4) ∷ (pos 10) ∷ (pos 0) ∷ (minus 2) ∷ (pos 5) ∷ (pos 0) ∷ (pos 4) ∷ (minus 2) ∷ (pos 5) ∷ (pos 9) ∷ (pos 4) ∷ (pos 11) ∷ (pos 4) ∷ (pos 9) ∷ (pos 4) ∷ (minus 2) ∷ (pos 5) ∷ (pos 11) ∷ (pos 5) ∷ (minus 2) ∷ (pos 5) ∷ [])
    (returned 9 18 0 ((pos 0) ∷ (pos 5) ∷ (pos 0) ∷ (pos 0) ∷ (pos 0) ∷ (pos 0) ∷ (pos 0) ∷ (pos 5) ∷ (pos 0) ∷ (pos 5) ∷ (pos 0) ∷ (pos 0) ∷ (pos 0) ∷ (pos 0) ∷ (pos 9) ∷ (pos 3) ∷ (pos 9) ∷ (pos 0) ∷ (pos 0) ∷ (pos 4) ∷ (pos 0) ∷ (pos 4) ∷ (pos 9) ∷ (pos 4) ∷ (pos 9) ∷ (pos 4) ∷ (pos 0) ∷ (pos 4) ∷ (pos 0) ∷ (pos 5) ∷ (pos 9) ∷ (pos 5) ∷ (pos 9) ∷ (pos 5) ∷ (pos 0) ∷ (pos 5) ∷ (pos 7) ∷ (pos 7) ∷ []) (2 ∷ 2 ∷ 2 ∷ 2 ∷ 2 ∷ 2 ∷ 2 ∷ 2 ∷ 2 ∷ 7 ∷ []) []) ∷
    L (R (minus 202) (pos 427) (pos 232) (pos 1030)) 256 ((minus 695) ∷ (pos 1079) ∷ (pos 567) ∷ (pos 1079) ∷ (pos 567) ∷ (pos 448) ∷ [])
    (returned 0 0 0 ((pos 7) ∷ (pos 7) ∷ []) (7 ∷ []) []) ∷
    []

drawings1 : map shown table1 ≡ map (λ c. c.expected) table1
unfolding at_end get_segment_intersection edge_intersection side_intersection get_intersection start_locs_are_clockwise at_vertex scan_pass scan_answer scan_loop point_in_polygon path1_contains_path2 get_bounds_path get_location determinant numerator fraction working_of crossing_of point_at intersection cross_product_sign is_collinear cross_product_three_points cross_product_is_negative is_clockwise_dir set_owner set_edge set_next set_prev set_results set_edge_list ring unlink add_to_edge struck uncouple_edge own_from set_new_owner drop_collinear_pass drop_collinear assign_side assign_edges check_ring check_from check_edges enter_all arena_of straighten_pass straighten points_from get_path get_paths clip_walked execute sheet_refusal early_refusal delivered answered clip_closed clip_open filled_part is_present first_off_edge line_through line_cross line_from line_passes line_walk_from walk_open pieces longer_than_one execute_lines seek relink regroup keep_one keep_both keep_each settle rejoin one_turn turns_from tidy_edges add add_all push_start_loc next_side next_outside add_corner_prev_curr add_corner_loc add_corners push_start_locs next_inside get_next_location second_search remain_outside enter pass_to pass_through leave cross_boundary add_round retrace close_outline last_off pass_from passes surround after_while walk_from walk_closed walked_outline lib.Ieee.add of_int sub mul div neg to_signed eq lt le
drawings1 = refl

abbrev table2 : List Case
table2 =
    C (R (pos 0) (pos 0) (pos 1) (pos 1)) 4 0 ((pos 1) ∷ (minus 2) ∷ (pos 2) ∷ (pos 0) ∷ (pos 1) ∷ (pos 2) ∷ (minus 1) ∷ (pos 1) ∷ (pos 0) ∷ (minus 2) ∷ (minus 2) ∷ (minus 1) ∷ (pos 0) ∷ (pos 0) ∷ (pos 1) ∷ (pos 0) ∷ (pos 1) ∷ (pos 0) ∷ (pos 0) ∷ (pos 0) ∷ [])
    (refusal 8 ((pos 0) ∷ (pos 0) ∷ (pos 1) ∷ (pos 0) ∷ (pos 1) ∷ (pos 1) ∷ (pos 0) ∷ (pos 1) ∷ (pos 0) ∷ (pos 0) ∷ [])) ∷
    C (R (pos 233) (pos 99) (pos 502) (pos 795)) 13 256 ((pos 1067) ∷ (pos 773) ∷ (pos 1067) ∷ (pos 773) ∷ (minus 124) ∷ (pos 501) ∷ (minus 124) ∷ (pos 501) ∷ (pos 830) ∷ (pos 1262) ∷ (pos 830) ∷ (pos 1262) ∷ (pos 300) ∷ (pos 162) ∷ (pos 300) ∷ (pos 162) ∷ (pos 300) ∷ (pos 1384) ∷ (pos 830) ∷ (pos 284) ∷ (minus 124) ∷ (pos 1045) ∷ (pos 1067) ∷ (pos 773) ∷ [])
    (returned 1 13 0 ((pos 502) ∷ (pos 795) ∷ (pos 502) ∷ (pos 643) ∷ (pos 233) ∷ (pos 582) ∷ (pos 233) ∷ (pos 785) ∷ (pos 244) ∷ (pos 795) ∷ (pos 502) ∷ (pos 795) ∷ (pos 502) ∷ (pos 581) ∷ (pos 300) ∷ (pos 162) ∷ (pos 300) ∷ (pos 795) ∷ (pos 502) ∷ (pos 795) ∷ (pos 502) ∷ (pos 545) ∷ (pos 233) ∷ (pos 760) ∷ (pos 233) ∷ (pos 795) ∷ (pos 7) ∷ (pos 7) ∷ []) (13 ∷ 7 ∷ []) ((pos 502) ∷ (pos 643) ∷ (pos 233) ∷ (pos 582) ∷ (pos 233) ∷ (pos 785) ∷ (pos 244) ∷ (pos 795) ∷ (pos 502) ∷ (pos 795) ∷ (pos 502) ∷ (pos 581) ∷ (pos 300) ∷ (pos 162) ∷ (pos 300) ∷ (pos 795) ∷ (pos 502) ∷ (pos 795) ∷ (pos 502) ∷ (pos 545) ∷ (pos 233) ∷ (pos 760) ∷ (pos 233) ∷ (pos 795) ∷ (pos 502) ∷ (pos 795) ∷ [])) ∷
    L (R (pos 1) (pos 1) (pos 4) (pos 3)) 14 ((pos 1) ∷ (pos 5) ∷ (pos 3) ∷ (pos 1) ∷ (pos 1) ∷ (pos 4) ∷ (minus 1) ∷ (minus 1) ∷ (pos 3) ∷ (pos 2) ∷ (pos 5) ∷ (pos 4) ∷ (pos 2) ∷ (pos 4) ∷ (pos 2) ∷ (pos 0) ∷ (minus 1) ∷ (pos 5) ∷ (pos 2) ∷ (pos 1) ∷ (pos 3) ∷ (pos 0) ∷ (pos 4) ∷ (pos 2) ∷ [])
    (returned 6 13 0 ((pos 2) ∷ (pos 3) ∷ (pos 3) ∷ (pos 1) ∷ (pos 3) ∷ (pos 1) ∷ (pos 1) ∷ (pos 3) ∷ (pos 1) ∷ (pos 1) ∷ (pos 3) ∷ (pos 2) ∷ (pos 4) ∷ (pos 3) ∷ (pos 2) ∷ (pos 3) ∷ (pos 2) ∷ (pos 1) ∷ (pos 1) ∷ (pos 2) ∷ (pos 2) ∷ (pos 1) ∷ (pos 3) ∷ (pos 1) ∷ (pos 4) ∷ (pos 2) ∷ (pos 7) ∷ (pos 7) ∷ []) (2 ∷ 2 ∷ 3 ∷ 2 ∷ 2 ∷ 2 ∷ 7 ∷ []) []) ∷
    L (R (pos 0) (pos 0) (pos 1) (pos 1)) 256 ((pos 1) ∷ (pos 1) ∷ (pos 1) ∷ (pos 0) ∷ (pos 1) ∷ (pos 0) ∷ (pos 0) ∷ (minus 2) ∷ (pos 0) ∷ (pos 1) ∷ (pos 0) ∷ (pos 0) ∷ (pos 1) ∷ (pos 0) ∷ (pos 3) ∷ (pos 1) ∷ (pos 3) ∷ (pos 1) ∷ (pos 0) ∷ (pos 3) ∷ (minus 1) ∷ (minus 1) ∷ (pos 2) ∷ (pos 0) ∷ (pos 0) ∷ (pos 0) ∷ (pos 0) ∷ (pos 0) ∷ (pos 1) ∷ (pos 1) ∷ [])
    (returned 3 6 0 ((pos 0) ∷ (pos 0) ∷ (pos 1) ∷ (pos 0) ∷ (pos 1) ∷ (pos 0) ∷ (pos 0) ∷ (pos 0) ∷ (pos 0) ∷ (pos 0) ∷ (pos 1) ∷ (pos 1) ∷ (pos 7) ∷ (pos 7) ∷ []) (2 ∷ 2 ∷ 2 ∷ 7 ∷ []) []) ∷
    U (R (minus 78) (pos 49) (pos 110) (pos 599)) 256 256 ((pos 682) ∷ (pos 529) ∷ (pos 682) ∷ (minus 38) ∷ (pos 115) ∷ (minus 38) ∷ (pos 115) ∷ (pos 448) ∷ (pos 601) ∷ (pos 448) ∷ (pos 601) ∷ (pos 43) ∷ (pos 196) ∷ (pos 43) ∷ (pos 196) ∷ (pos 367) ∷ (pos 520) ∷ (pos 367) ∷ (pos 520) ∷ (pos 124) ∷ (pos 277) ∷ (pos 124) ∷ (pos 277) ∷ (pos 286) ∷ (pos 439) ∷ (pos 286) ∷ (pos 439) ∷ (pos 205) ∷ [])
    (returned 0 0 0 ((pos 7) ∷ (pos 7) ∷ []) (7 ∷ []) []) ∷
    L (R (pos 0) (pos 0) (pos 7) (pos 9)) 256 ((pos 7) ∷ (pos 9) ∷ (minus 3) ∷ (pos 9) ∷ (minus 3) ∷ (minus 1) ∷ (pos 9) ∷ (pos 0) ∷ (pos 7) ∷ (pos 9) ∷ [])
    (returned 1 2 0 ((pos 7) ∷ (pos 9) ∷ (pos 0) ∷ (pos 9) ∷ (pos 7) ∷ (pos 7) ∷ []) (2 ∷ 7 ∷ []) []) ∷
    L (R (pos 0) (pos 0) (pos 8) (pos 0)) 256 ((pos 1) ∷ (pos 0) ∷ (pos 7) ∷ (pos 2) ∷ (pos 8) ∷ (pos 0) ∷ (pos 1) ∷ (pos 2) ∷ (pos 0) ∷ (pos 0) ∷ (pos 9) ∷ (pos 0) ∷ (pos 0) ∷ (pos 0) ∷ (pos 1) ∷ (pos 0) ∷ (pos 9) ∷ (pos 1) ∷ (minus 2) ∷ (minus 1) ∷ (minus 2) ∷ (minus 1) ∷ (pos 9) ∷ (pos 0) ∷ (pos 10) ∷ (pos 1) ∷ [])
    (returned 0 0 0 ((pos 7) ∷ (pos 7) ∷ []) (7 ∷ []) []) ∷
    L (R (pos 0) (pos 0) (pos 60) (pos 60)) 256 ((minus 3) ∷ (pos 63) ∷ (pos 1) ∷ (pos 64) ∷ (pos 0) ∷ (pos 60) ∷ (pos 1) ∷ (pos 54) ∷ (pos 3) ∷ (pos 67) ∷ (pos 3) ∷ (pos 67) ∷ (pos 5) ∷ (pos 61) ∷ (pos 5) ∷ (pos 67) ∷ (pos 5) ∷ (pos 67) ∷ (pos 64) ∷ (pos 66) ∷ (pos 64) ∷ (pos 60) ∷ (pos 63) ∷ (pos 68) ∷ (pos 63) ∷ (pos 68) ∷ (pos 8) ∷ (pos 69) ∷ (pos 8) ∷ (pos 69) ∷ (pos 11) ∷ (pos 60) ∷ (pos 10) ∷ (pos 67) ∷ (pos 8) ∷ (pos 55) ∷ (pos 10) ∷ (pos 68) ∷ (pos 10) ∷ (pos 68) ∷ (pos 8) ∷ (pos 58) ∷ (minus 3) ∷ (pos 63) ∷ [])
    (returned 3 9 0 ((pos 0) ∷ (pos 60) ∷ (pos 1) ∷ (pos 54) ∷ (pos 1) ∷ (pos 60) ∷ (pos 8) ∷ (pos 60) ∷ (pos 8) ∷ (pos 55) ∷ (pos 8) ∷ (pos 60) ∷ (pos 8) ∷ (pos 60) ∷ (pos 8) ∷ (pos 58) ∷ (pos 3) ∷ (pos 60) ∷ (pos 7) ∷ (pos 7) ∷ []) (3 ∷ 3 ∷ 3 ∷ 7 ∷ []) []) ∷
    L (R (pos 0) (pos 0) (pos 6) (pos 2)) 256 ((pos 0) ∷ (pos 1) ∷ (pos 0) ∷ (pos 1) ∷ (minus 2) ∷ (pos 1) ∷ (pos 5) ∷ (pos 1) ∷ (pos 5) ∷ (pos 1) ∷ (pos 5) ∷ (pos 0) ∷ (pos 0) ∷ (pos 0) ∷ (pos 1) ∷ (pos 0) ∷ (pos 3) ∷ (pos 0) ∷ (pos 3) ∷ (pos 2) ∷ (pos 6) ∷ (pos 2) ∷ (minus 2) ∷ (pos 2) ∷ (minus 2) ∷ (pos 1) ∷ (minus 2) ∷ (minus 2) ∷ [])
    (returned 1 9 0 ((pos 0) ∷ (pos 1) ∷ (pos 5) ∷ (pos 1) ∷ (pos 5) ∷ (pos 0) ∷ (pos 0) ∷ (pos 0) ∷ (pos 1) ∷ (pos 0) ∷ (pos 3) ∷ (pos 0) ∷ (pos 3) ∷ (pos 2) ∷ (pos 6) ∷ (pos 2) ∷ (pos 0) ∷ (pos 2) ∷ (pos 7) ∷ (pos 7) ∷ []) (9 ∷ 7 ∷ []) []) ∷
    C (R (pos 0) (pos 0) (pos 60) (pos 60)) 256 256 ((pos 1) ∷ (pos 9) ∷ (pos 1) ∷ (minus 4) ∷ (pos 3) ∷ (pos 2) ∷ (pos 1) ∷ (pos 6) ∷ (pos 5) ∷ (pos 3) ∷ (pos 5) ∷ (pos 0) ∷ (pos 7) ∷ (pos 7) ∷ (pos 11) ∷ (pos 0) ∷ (pos 10) ∷ (pos 7) ∷ (pos 11) ∷ (pos 0) ∷ [])
    (returned 1 9 0 ((pos 11) ∷ (pos 0) ∷ (pos 1) ∷ (pos 9) ∷ (pos 1) ∷ (pos 0) ∷ (pos 2) ∷ (pos 0) ∷ (pos 3) ∷ (pos 2) ∷ (pos 1) ∷ (pos 6) ∷ (pos 5) ∷ (pos 3) ∷ (pos 5) ∷ (pos 0) ∷ (pos 7) ∷ (pos 7) ∷ (pos 7) ∷ (pos 7) ∷ []) (9 ∷ 7 ∷ []) ((pos 1) ∷ (pos 9) ∷ (pos 1) ∷ (pos 0) ∷ (pos 2) ∷ (pos 0) ∷ (pos 3) ∷ (pos 2) ∷ (pos 1) ∷ (pos 6) ∷ (pos 5) ∷ (pos 3) ∷ (pos 5) ∷ (pos 0) ∷ (pos 7) ∷ (pos 7) ∷ (pos 11) ∷ (pos 0) ∷ (pos 10) ∷ (pos 7) ∷ (pos 11) ∷ (pos 0) ∷ [])) ∷
    L (R (pos 0) (pos 0) (pos 60) (pos 60)) 256 ((pos 0) ∷ (pos 10) ∷ (minus 6) ∷ (pos 61) ∷ (minus 9) ∷ (pos 61) ∷ (pos 0) ∷ (pos 63) ∷ [])
    (returned 0 0 0 ((pos 7) ∷ (pos 7) ∷ []) (7 ∷ []) []) ∷
    C (R (minus 61) (pos 414) (minus 29) (pos 886)) 256 256 ((minus 24) ∷ (pos 727) ∷ (minus 24) ∷ (pos 748) ∷ (minus 66) ∷ (pos 748) ∷ (minus 66) ∷ (pos 706) ∷ (minus 3) ∷ (pos 706) ∷ (minus 3) ∷ (pos 769) ∷ (minus 87) ∷ (pos 769) ∷ [])
    (returned 1 8 0 ((minus 61) ∷ (pos 769) ∷ (minus 61) ∷ (pos 751) ∷ (minus 29) ∷ (pos 730) ∷ (minus 29) ∷ (pos 748) ∷ (minus 61) ∷ (pos 748) ∷ (minus 61) ∷ (pos 706) ∷ (minus 29) ∷ (pos 706) ∷ (minus 29) ∷ (pos 769) ∷ (pos 7) ∷ (pos 7) ∷ []) (8 ∷ 7 ∷ []) ((minus 61) ∷ (pos 751) ∷ (minus 29) ∷ (pos 730) ∷ (minus 29) ∷ (pos 748) ∷ (minus 61) ∷ (pos 748) ∷ (minus 61) ∷ (pos 706) ∷ (minus 29) ∷ (pos 706) ∷ (minus 29) ∷ (pos 769) ∷ (minus 61) ∷ (pos 769) ∷ [])) ∷
    C (R (pos 0) (pos 0) (pos 6) (pos 10)) 256 256 ((pos 5) ∷ (pos 9) ∷ (pos 3) ∷ (pos 10) ∷ (pos 3) ∷ (minus 2) ∷ (pos 3) ∷ (pos 0) ∷ (pos 3) ∷ (pos 1) ∷ [])
    (returned 1 3 0 ((pos 3) ∷ (pos 1) ∷ (pos 5) ∷ (pos 9) ∷ (pos 3) ∷ (pos 10) ∷ (pos 7) ∷ (pos 7) ∷ []) (3 ∷ 7 ∷ []) ((pos 5) ∷ (pos 9) ∷ (pos 3) ∷ (pos 10) ∷ (pos 3) ∷ (pos 0) ∷ (pos 3) ∷ (pos 1) ∷ [])) ∷
    U (R (minus 20000001) (minus 33554432) (pos 29720988) (minus 18642492)) 256 256 ((minus 5260455) ∷ (pos 20298130) ∷ (minus 20000000) ∷ (minus 33554432) ∷ (pos 31315218) ∷ (minus 28959490) ∷ (pos 33554432) ∷ (pos 8248481) ∷ (minus 30655613) ∷ (pos 15795243) ∷ (pos 1426497) ∷ (minus 18104612) ∷ (pos 17548899) ∷ (pos 4970264) ∷ (pos 33554432) ∷ (pos 15818735) ∷ (pos 13702546) ∷ (minus 33554431) ∷ (pos 29720987) ∷ (minus 33554432) ∷ (pos 17026027) ∷ (pos 11347027) ∷ (pos 33554431) ∷ (pos 13838661) ∷ (pos 0) ∷ [])
    (refusal 1 []) ∷
    L (R (pos 0) (pos 0) (pos 10) (pos 3)) 6 ((minus 2) ∷ (pos 2) ∷ (pos 9) ∷ (pos 5) ∷ (pos 9) ∷ (pos 5) ∷ (pos 10) ∷ (pos 0) ∷ (minus 2) ∷ (pos 5) ∷ [])
    (returned 3 6 0 ((pos 0) ∷ (pos 2) ∷ (pos 1) ∷ (pos 3) ∷ (pos 9) ∷ (pos 3) ∷ (pos 10) ∷ (pos 0) ∷ (pos 10) ∷ (pos 0) ∷ (pos 2) ∷ (pos 3) ∷ (pos 7) ∷ (pos 7) ∷ []) (2 ∷ 2 ∷ 2 ∷ 7 ∷ []) []) ∷
    []

drawings2 : map shown table2 ≡ map (λ c. c.expected) table2
unfolding at_end get_segment_intersection edge_intersection side_intersection get_intersection start_locs_are_clockwise at_vertex scan_pass scan_answer scan_loop point_in_polygon path1_contains_path2 get_bounds_path get_location determinant numerator fraction working_of crossing_of point_at intersection cross_product_sign is_collinear cross_product_three_points cross_product_is_negative is_clockwise_dir set_owner set_edge set_next set_prev set_results set_edge_list ring unlink add_to_edge struck uncouple_edge own_from set_new_owner drop_collinear_pass drop_collinear assign_side assign_edges check_ring check_from check_edges enter_all arena_of straighten_pass straighten points_from get_path get_paths clip_walked execute sheet_refusal early_refusal delivered answered clip_closed clip_open filled_part is_present first_off_edge line_through line_cross line_from line_passes line_walk_from walk_open pieces longer_than_one execute_lines seek relink regroup keep_one keep_both keep_each settle rejoin one_turn turns_from tidy_edges add add_all push_start_loc next_side next_outside add_corner_prev_curr add_corner_loc add_corners push_start_locs next_inside get_next_location second_search remain_outside enter pass_to pass_through leave cross_boundary add_round retrace close_outline last_off pass_from passes surround after_while walk_from walk_closed walked_outline lib.Ieee.add of_int sub mul div neg to_signed eq lt le
drawings2 = refl

abbrev table3 : List Case
table3 =
    L (R (pos 0) (pos 0) (pos 60) (pos 60)) 256 ((pos 0) ∷ (minus 4) ∷ (pos 0) ∷ (minus 6) ∷ (minus 1) ∷ (minus 8) ∷ (pos 2) ∷ (minus 8) ∷ (minus 8) ∷ (pos 3) ∷ (minus 6) ∷ (pos 3) ∷ (pos 0) ∷ (pos 5) ∷ (pos 8) ∷ (pos 7) ∷ (pos 0) ∷ (pos 11) ∷ (pos 0) ∷ (pos 9) ∷ (minus 5) ∷ (pos 31) ∷ (pos 0) ∷ (pos 51) ∷ (pos 0) ∷ (pos 54) ∷ (pos 8) ∷ (pos 57) ∷ (pos 0) ∷ (pos 56) ∷ (pos 0) ∷ (pos 59) ∷ [])
    (returned 2 8 0 ((pos 0) ∷ (pos 5) ∷ (pos 8) ∷ (pos 7) ∷ (pos 0) ∷ (pos 11) ∷ (pos 0) ∷ (pos 9) ∷ (pos 0) ∷ (pos 54) ∷ (pos 8) ∷ (pos 57) ∷ (pos 0) ∷ (pos 56) ∷ (pos 0) ∷ (pos 59) ∷ (pos 7) ∷ (pos 7) ∷ []) (4 ∷ 4 ∷ 7 ∷ []) []) ∷
    L (R (pos 0) (pos 0) (pos 0) (pos 4)) 256 ((pos 2) ∷ (pos 0) ∷ (pos 0) ∷ (pos 4) ∷ (pos 0) ∷ (pos 4) ∷ (pos 2) ∷ (pos 4) ∷ (pos 0) ∷ (minus 1) ∷ (pos 0) ∷ (minus 1) ∷ (pos 0) ∷ (pos 4) ∷ (pos 1) ∷ (pos 0) ∷ (pos 0) ∷ (pos 5) ∷ [])
    (returned 0 0 0 ((pos 7) ∷ (pos 7) ∷ []) (7 ∷ []) []) ∷
    C (R (minus 33554432) (pos 0) (minus 26431184) (pos 30418436)) 256 256 ((minus 31758140) ∷ (minus 33554432) ∷ (minus 33554432) ∷ (pos 30418437) ∷ (minus 17828380) ∷ (minus 7811910) ∷ (pos 33554432) ∷ (minus 12480990) ∷ (pos 33554432) ∷ (minus 12480990) ∷ (minus 33554431) ∷ (minus 24710841) ∷ (minus 29091508) ∷ (minus 22407204) ∷ (minus 25031782) ∷ (minus 20211672) ∷ (minus 25031782) ∷ (minus 20211672) ∷ (minus 28744702) ∷ (pos 33554431) ∷ (minus 28744702) ∷ (pos 33554431) ∷ (minus 33554431) ∷ (minus 2) ∷ (minus 33554431) ∷ (minus 2) ∷ (pos 33554432) ∷ (pos 33554431) ∷ (minus 19015235) ∷ (pos 7627262) ∷ (minus 20110523) ∷ (minus 31076245) ∷ (minus 33554432) ∷ (pos 30418436) ∷ [])
    (returned 1 12 2 ((minus 26431184) ∷ (pos 0) ∷ (minus 26904382) ∷ (pos 0) ∷ (minus 33554432) ∷ (pos 30418436) ∷ (minus 32700313) ∷ (pos 0) ∷ (minus 33554431) ∷ (pos 30418436) ∷ (minus 26431184) ∷ (pos 13101678) ∷ (minus 26431184) ∷ (pos 52807) ∷ (minus 28528139) ∷ (pos 30418436) ∷ (minus 29194218) ∷ (pos 30418436) ∷ (minus 33554430) ∷ (pos 0) ∷ (minus 33554427) ∷ (pos 0) ∷ (minus 26431184) ∷ (pos 3561621) ∷ (pos 7) ∷ (pos 7) ∷ []) (12 ∷ 7 ∷ []) ((minus 33554432) ∷ (pos 30418436) ∷ (minus 32700313) ∷ (pos 0) ∷ (minus 33554431) ∷ (pos 30418436) ∷ (minus 26431184) ∷ (pos 13101678) ∷ (minus 26431184) ∷ (pos 0) ∷ (minus 26431184) ∷ (pos 52807) ∷ (minus 28528139) ∷ (pos 30418436) ∷ (minus 29194218) ∷ (pos 30418436) ∷ (minus 33554430) ∷ (pos 0) ∷ (minus 33554427) ∷ (pos 0) ∷ (minus 26431184) ∷ (pos 3561621) ∷ (minus 26431184) ∷ (pos 0) ∷ (minus 26904382) ∷ (pos 0) ∷ (minus 33554432) ∷ (pos 30418436) ∷ [])) ∷
    C (R (pos 0) (pos 0) (pos 1) (pos 20)) 256 256 ((pos 2) ∷ (pos 20) ∷ (pos 0) ∷ (pos 21) ∷ (pos 1) ∷ (pos 19) ∷ (pos 1) ∷ (pos 21) ∷ (pos 1) ∷ (pos 22) ∷ (pos 0) ∷ (pos 19) ∷ [])
    (returned 1 7 0 ((pos 1) ∷ (pos 20) ∷ (pos 0) ∷ (pos 20) ∷ (pos 0) ∷ (pos 19) ∷ (pos 1) ∷ (pos 19) ∷ (pos 1) ∷ (pos 20) ∷ (pos 0) ∷ (pos 20) ∷ (pos 1) ∷ (pos 19) ∷ (pos 7) ∷ (pos 7) ∷ []) (7 ∷ 7 ∷ []) ((pos 0) ∷ (pos 19) ∷ (pos 1) ∷ (pos 19) ∷ (pos 1) ∷ (pos 20) ∷ (pos 0) ∷ (pos 20) ∷ (pos 1) ∷ (pos 19) ∷ (pos 1) ∷ (pos 20) ∷ (pos 0) ∷ (pos 20) ∷ (pos 0) ∷ (pos 19) ∷ [])) ∷
    C (R (pos 395) (minus 183) (pos 424) (pos 282)) 256 256 ((minus 308) ∷ (minus 170) ∷ (minus 380) ∷ (pos 866) ∷ (minus 573) ∷ (minus 715) ∷ (pos 450) ∷ (minus 272) ∷ (pos 782) ∷ (pos 52) ∷ (pos 200) ∷ (minus 549) ∷ (pos 543) ∷ (minus 961) ∷ [])
    (returned 0 0 0 ((pos 7) ∷ (pos 7) ∷ []) (7 ∷ []) []) ∷
    C (R (pos 0) (pos 0) (pos 5) (pos 8)) 256 256 ((pos 7) ∷ (pos 11) ∷ (pos 0) ∷ (pos 8) ∷ (minus 2) ∷ (minus 1) ∷ (pos 7) ∷ (pos 8) ∷ (pos 6) ∷ (minus 1) ∷ [])
    (returned 1 4 0 ((pos 5) ∷ (pos 8) ∷ (pos 0) ∷ (pos 8) ∷ (pos 0) ∷ (pos 1) ∷ (pos 5) ∷ (pos 6) ∷ (pos 7) ∷ (pos 7) ∷ []) (4 ∷ 7 ∷ []) ((pos 0) ∷ (pos 8) ∷ (pos 0) ∷ (pos 0) ∷ (pos 0) ∷ (pos 1) ∷ (pos 5) ∷ (pos 6) ∷ (pos 5) ∷ (pos 8) ∷ [])) ∷
    C (R (pos 448) (pos 321) (pos 701) (pos 760)) 256 256 ((pos 824) ∷ (pos 403) ∷ (pos 326) ∷ (pos 565) ∷ (pos 633) ∷ (pos 141) ∷ (pos 633) ∷ (pos 665) ∷ (pos 326) ∷ (pos 241) ∷ [])
    (returned 1 10 0 ((pos 448) ∷ (pos 321) ∷ (pos 571) ∷ (pos 321) ∷ (pos 701) ∷ (pos 362) ∷ (pos 701) ∷ (pos 443) ∷ (pos 448) ∷ (pos 525) ∷ (pos 448) ∷ (pos 396) ∷ (pos 502) ∷ (pos 321) ∷ (pos 633) ∷ (pos 321) ∷ (pos 633) ∷ (pos 665) ∷ (pos 448) ∷ (pos 409) ∷ (pos 7) ∷ (pos 7) ∷ []) (10 ∷ 7 ∷ []) ((pos 571) ∷ (pos 321) ∷ (pos 701) ∷ (pos 362) ∷ (pos 701) ∷ (pos 443) ∷ (pos 448) ∷ (pos 525) ∷ (pos 448) ∷ (pos 396) ∷ (pos 502) ∷ (pos 321) ∷ (pos 633) ∷ (pos 321) ∷ (pos 633) ∷ (pos 665) ∷ (pos 448) ∷ (pos 409) ∷ (pos 448) ∷ (pos 321) ∷ [])) ∷
    C (R (pos 0) (pos 0) (pos 3) (pos 8)) 3 256 ((minus 2) ∷ (pos 4) ∷ (minus 2) ∷ (pos 4) ∷ (minus 2) ∷ (pos 7) ∷ (minus 2) ∷ (pos 9) ∷ (pos 5) ∷ (pos 9) ∷ [])
    (refusal 8 ((pos 3) ∷ (pos 7) ∷ (pos 0) ∷ (pos 5) ∷ (pos 0) ∷ (pos 8) ∷ (pos 3) ∷ (pos 8) ∷ [])) ∷
    C (R (minus 244) (minus 261) (pos 430) (pos 391)) 256 256 ((pos 915) ∷ (pos 262) ∷ (minus 67) ∷ (pos 262) ∷ (pos 915) ∷ (pos 262) ∷ (minus 67) ∷ (pos 262) ∷ (pos 915) ∷ (pos 262) ∷ (minus 67) ∷ (pos 262) ∷ [])
    (returned 0 0 0 ((pos 7) ∷ (pos 7) ∷ []) (7 ∷ []) ((pos 430) ∷ (pos 262) ∷ (minus 67) ∷ (pos 262) ∷ (pos 430) ∷ (pos 262) ∷ (minus 67) ∷ (pos 262) ∷ (pos 430) ∷ (pos 262) ∷ (minus 67) ∷ (pos 262) ∷ [])) ∷
    C (R (minus 20000001) (minus 33554431) (minus 17830268) (pos 3611902)) 256 256 ((minus 20000001) ∷ (pos 3611902) ∷ (minus 18915135) ∷ (pos 3611901) ∷ (minus 2326653) ∷ (minus 12307583) ∷ (pos 33554431) ∷ (pos 6192317) ∷ (pos 33554431) ∷ (pos 6192317) ∷ (minus 27833024) ∷ (minus 11102664) ∷ (minus 29793378) ∷ (minus 9851432) ∷ (minus 24334974) ∷ (minus 33554431) ∷ (pos 21099437) ∷ (minus 4414054) ∷ (minus 33554431) ∷ (minus 24672483) ∷ [])
    (returned 2 9 5 ((minus 20000001) ∷ (minus 30774098) ∷ (minus 17830268) ∷ (minus 29382492) ∷ (minus 17830268) ∷ (minus 18844042) ∷ (minus 20000001) ∷ (minus 19648292) ∷ (minus 20000001) ∷ (pos 3611902) ∷ (minus 18915135) ∷ (pos 3611901) ∷ (minus 17830268) ∷ (pos 2570785) ∷ (minus 17830268) ∷ (minus 8284539) ∷ (minus 20000001) ∷ (minus 8895829) ∷ (pos 7) ∷ (pos 7) ∷ []) (4 ∷ 5 ∷ 7 ∷ []) ((minus 20000001) ∷ (pos 3611902) ∷ (minus 18915135) ∷ (pos 3611901) ∷ (minus 17830268) ∷ (pos 2570785) ∷ (minus 17830268) ∷ (minus 8284539) ∷ (minus 20000001) ∷ (minus 8895829) ∷ (minus 20000001) ∷ (minus 30774098) ∷ (minus 17830268) ∷ (minus 29382492) ∷ (minus 17830268) ∷ (minus 18844042) ∷ (minus 20000001) ∷ (minus 19648292) ∷ [])) ∷
    C (R (pos 0) (pos 0) (pos 7) (pos 8)) 256 256 ((pos 8) ∷ (minus 1) ∷ (pos 9) ∷ (pos 11) ∷ (minus 2) ∷ (pos 11) ∷ (minus 1) ∷ (pos 0) ∷ (pos 8) ∷ (minus 1) ∷ [])
    (returned 1 4 0 ((pos 0) ∷ (pos 8) ∷ (pos 0) ∷ (pos 0) ∷ (pos 7) ∷ (pos 0) ∷ (pos 7) ∷ (pos 8) ∷ (pos 7) ∷ (pos 7) ∷ []) (4 ∷ 7 ∷ []) ((pos 0) ∷ (pos 0) ∷ (pos 7) ∷ (pos 0) ∷ (pos 7) ∷ (pos 8) ∷ (pos 0) ∷ (pos 8) ∷ [])) ∷
    C (R (minus 3300000) (pos 5124000) (pos 4908000) (pos 10260000)) 256 256 ((pos 8620508) ∷ (pos 9538017) ∷ (minus 10381953) ∷ (pos 3365834) ∷ (pos 1370852) ∷ (pos 19529620) ∷ (pos 1370852) ∷ (minus 453586) ∷ (minus 10381953) ∷ (pos 15710200) ∷ [])
    (returned 1 9 0 ((pos 4908000) ∷ (pos 10260000) ∷ (pos 4908000) ∷ (pos 8332158) ∷ (minus 3300000) ∷ (pos 5666120) ∷ (minus 3300000) ∷ (pos 10260000) ∷ (pos 1370852) ∷ (pos 10260000) ∷ (pos 1370852) ∷ (pos 5124000) ∷ (minus 2684650) ∷ (pos 5124000) ∷ (minus 3300000) ∷ (pos 5970297) ∷ (minus 3300000) ∷ (pos 10260000) ∷ (pos 7) ∷ (pos 7) ∷ []) (9 ∷ 7 ∷ []) ((pos 4908000) ∷ (pos 8332158) ∷ (minus 3300000) ∷ (pos 5666120) ∷ (minus 3300000) ∷ (pos 10260000) ∷ (pos 1370852) ∷ (pos 10260000) ∷ (pos 1370852) ∷ (pos 5124000) ∷ (minus 2684650) ∷ (pos 5124000) ∷ (minus 3300000) ∷ (pos 5970297) ∷ (minus 3300000) ∷ (pos 10260000) ∷ (pos 4908000) ∷ (pos 10260000) ∷ [])) ∷
    C (R (pos 0) (pos 0) (pos 7) (pos 4)) 256 256 ((minus 2) ∷ (pos 4) ∷ (minus 2) ∷ (pos 4) ∷ (minus 2) ∷ (pos 4) ∷ (pos 0) ∷ (pos 4) ∷ (pos 0) ∷ (pos 3) ∷ (pos 3) ∷ (pos 3) ∷ (pos 1) ∷ (pos 3) ∷ (pos 1) ∷ (pos 3) ∷ (pos 7) ∷ (pos 3) ∷ (pos 7) ∷ (pos 3) ∷ (minus 2) ∷ (pos 4) ∷ [])
    (returned 0 0 0 ((pos 7) ∷ (pos 7) ∷ []) (7 ∷ []) ((pos 0) ∷ (pos 3) ∷ (pos 3) ∷ (pos 3) ∷ (pos 1) ∷ (pos 3) ∷ (pos 7) ∷ (pos 3) ∷ (pos 0) ∷ (pos 3) ∷ [])) ∷
    U (R (pos 343) (minus 471) (pos 593) (minus 117)) 256 256 ((pos 689) ∷ (minus 181) ∷ (pos 926) ∷ (minus 137) ∷ (pos 1156) ∷ (minus 45) ∷ [])
    (returned 0 0 0 ((pos 7) ∷ (pos 7) ∷ []) (7 ∷ []) []) ∷
    L (R (pos 0) (pos 0) (pos 60) (pos 60)) 2 ((pos 1) ∷ (pos 0) ∷ (pos 65) ∷ (pos 0) ∷ (pos 30) ∷ (minus 9) ∷ (pos 32) ∷ (pos 0) ∷ (pos 30) ∷ (minus 7) ∷ (minus 3) ∷ (pos 6) ∷ [])
    (returned 1 2 0 ((pos 12) ∷ (pos 0) ∷ (pos 0) ∷ (pos 4) ∷ (pos 7) ∷ (pos 7) ∷ []) (2 ∷ 7 ∷ []) []) ∷
    []

drawings3 : map shown table3 ≡ map (λ c. c.expected) table3
unfolding at_end get_segment_intersection edge_intersection side_intersection get_intersection start_locs_are_clockwise at_vertex scan_pass scan_answer scan_loop point_in_polygon path1_contains_path2 get_bounds_path get_location determinant numerator fraction working_of crossing_of point_at intersection cross_product_sign is_collinear cross_product_three_points cross_product_is_negative is_clockwise_dir set_owner set_edge set_next set_prev set_results set_edge_list ring unlink add_to_edge struck uncouple_edge own_from set_new_owner drop_collinear_pass drop_collinear assign_side assign_edges check_ring check_from check_edges enter_all arena_of straighten_pass straighten points_from get_path get_paths clip_walked execute sheet_refusal early_refusal delivered answered clip_closed clip_open filled_part is_present first_off_edge line_through line_cross line_from line_passes line_walk_from walk_open pieces longer_than_one execute_lines seek relink regroup keep_one keep_both keep_each settle rejoin one_turn turns_from tidy_edges add add_all push_start_loc next_side next_outside add_corner_prev_curr add_corner_loc add_corners push_start_locs next_inside get_next_location second_search remain_outside enter pass_to pass_through leave cross_boundary add_round retrace close_outline last_off pass_from passes surround after_while walk_from walk_closed walked_outline lib.Ieee.add of_int sub mul div neg to_signed eq lt le
drawings3 = refl

abbrev table4 : List Case
table4 =
    U (R (pos 292) (pos 405) (pos 456) (pos 1055)) 0 0 ((pos 706) ∷ (minus 718) ∷ (minus 2294) ∷ (minus 718) ∷ (pos 706) ∷ (minus 718) ∷ (minus 2294) ∷ (minus 718) ∷ (minus 2294) ∷ (minus 718) ∷ (pos 706) ∷ (minus 718) ∷ (minus 2294) ∷ (minus 718) ∷ [])
    (returned 0 0 0 ((pos 7) ∷ (pos 7) ∷ []) (7 ∷ []) []) ∷
    C (R (pos 0) (pos 0) (pos 4) (pos 6)) 3 256 ((pos 4) ∷ (pos 8) ∷ (pos 7) ∷ (minus 2) ∷ (minus 3) ∷ (pos 0) ∷ (pos 0) ∷ (pos 9) ∷ [])
    (refusal 8 ((pos 0) ∷ (pos 6) ∷ (pos 4) ∷ (pos 6) ∷ (pos 4) ∷ (pos 0) ∷ (pos 0) ∷ (pos 0) ∷ [])) ∷
    L (R (pos 62) (minus 438) (pos 677) (minus 272)) 256 ((minus 932) ∷ (minus 642) ∷ (minus 314) ∷ (minus 567) ∷ (minus 926) ∷ (minus 951) ∷ (minus 172) ∷ (pos 671) ∷ (minus 116) ∷ (minus 122) ∷ (pos 905) ∷ (pos 406) ∷ (minus 124) ∷ (minus 398) ∷ (minus 293) ∷ (minus 219) ∷ (pos 821) ∷ (pos 542) ∷ (pos 785) ∷ (minus 774) ∷ (minus 259) ∷ (pos 101) ∷ (pos 122) ∷ (pos 442) ∷ (minus 617) ∷ (minus 525) ∷ [])
    (returned 1 2 0 ((pos 384) ∷ (minus 438) ∷ (pos 186) ∷ (minus 272) ∷ (pos 7) ∷ (pos 7) ∷ []) (2 ∷ 7 ∷ []) []) ∷
    C (R (pos 0) (pos 0) (pos 9) (pos 9)) 256 0 ((minus 1) ∷ (pos 11) ∷ (minus 1) ∷ (pos 0) ∷ (pos 9) ∷ (pos 12) ∷ (pos 11) ∷ (pos 0) ∷ (pos 9) ∷ (pos 9) ∷ (minus 1) ∷ (minus 3) ∷ [])
    (returned 1 5 0 ((pos 0) ∷ (pos 0) ∷ (pos 0) ∷ (pos 1) ∷ (pos 6) ∷ (pos 9) ∷ (pos 9) ∷ (pos 9) ∷ (pos 1) ∷ (pos 0) ∷ (pos 7) ∷ (pos 7) ∷ []) (5 ∷ 7 ∷ []) ((pos 0) ∷ (pos 1) ∷ (pos 6) ∷ (pos 9) ∷ (pos 9) ∷ (pos 9) ∷ (pos 9) ∷ (pos 0) ∷ (pos 9) ∷ (pos 9) ∷ (pos 1) ∷ (pos 0) ∷ (pos 0) ∷ (pos 0) ∷ [])) ∷
    U (R (pos 0) (pos 0) (pos 0) (pos 10)) 256 256 ((pos 0) ∷ (pos 11) ∷ (minus 2) ∷ (minus 2) ∷ (minus 1) ∷ (pos 10) ∷ (pos 0) ∷ (pos 0) ∷ (minus 1) ∷ (pos 10) ∷ (pos 0) ∷ (pos 9) ∷ (minus 1) ∷ (pos 5) ∷ (minus 2) ∷ (pos 9) ∷ (pos 0) ∷ (minus 1) ∷ (pos 0) ∷ (pos 10) ∷ [])
    (returned 0 0 0 ((pos 7) ∷ (pos 7) ∷ []) (7 ∷ []) []) ∷
    U (R (minus 436) (pos 167) (pos 61) (pos 262)) 0 256 ((pos 494) ∷ (pos 532) ∷ (pos 494) ∷ (pos 532) ∷ (pos 503) ∷ (pos 575) ∷ (pos 460) ∷ (pos 622) ∷ (pos 377) ∷ (pos 615) ∷ (pos 377) ∷ (pos 615) ∷ (pos 314) ∷ (pos 532) ∷ (pos 338) ∷ (pos 410) ∷ (pos 460) ∷ (pos 330) ∷ (pos 622) ∷ (pos 370) ∷ (pos 718) ∷ (pos 532) ∷ (pos 661) ∷ (pos 733) ∷ [])
    (returned 0 0 0 ((pos 7) ∷ (pos 7) ∷ []) (7 ∷ []) []) ∷
    U (R (pos 0) (pos 0) (pos 4) (pos 4)) 0 256 ((pos 6) ∷ (minus 2) ∷ (pos 1) ∷ (minus 2) ∷ (minus 1) ∷ (minus 2) ∷ (pos 4) ∷ (minus 2) ∷ (pos 6) ∷ (minus 2) ∷ [])
    (returned 0 0 0 ((pos 7) ∷ (pos 7) ∷ []) (7 ∷ []) []) ∷
    L (R (pos 33554431) (pos 33554431) (pos 33554432) (pos 33554432)) 256 ((pos 33039207) ∷ (pos 33554432) ∷ (pos 33554431) ∷ (pos 19348339) ∷ (minus 11345626) ∷ (pos 24807811) ∷ (pos 19359456) ∷ (minus 16736116) ∷ [])
    (returned 0 0 0 ((pos 7) ∷ (pos 7) ∷ []) (7 ∷ []) []) ∷
    C (R (pos 377) (pos 221) (pos 689) (pos 663)) 256 256 ((minus 449) ∷ (minus 436) ∷ (minus 95) ∷ (pos 753) ∷ (pos 18) ∷ (minus 19) ∷ (pos 15) ∷ (pos 501) ∷ (pos 389) ∷ (pos 51) ∷ (pos 259) ∷ (minus 717) ∷ (minus 836) ∷ (pos 112) ∷ (pos 888) ∷ (pos 870) ∷ (minus 191) ∷ (pos 103) ∷ (pos 814) ∷ (minus 114) ∷ [])
    (returned 1 4 1 ((pos 377) ∷ (pos 645) ∷ (pos 417) ∷ (pos 663) ∷ (pos 596) ∷ (pos 663) ∷ (pos 377) ∷ (pos 506) ∷ (pos 7) ∷ (pos 7) ∷ []) (4 ∷ 7 ∷ []) ((pos 377) ∷ (pos 645) ∷ (pos 417) ∷ (pos 663) ∷ (pos 596) ∷ (pos 663) ∷ (pos 377) ∷ (pos 506) ∷ (pos 377) ∷ (pos 221) ∷ (pos 689) ∷ (pos 221) ∷ (pos 377) ∷ (pos 221) ∷ [])) ∷
    L (R (pos 0) (pos 0) (pos 5) (pos 8)) 15 ((pos 7) ∷ (pos 0) ∷ (pos 5) ∷ (pos 8) ∷ (pos 7) ∷ (pos 0) ∷ (pos 7) ∷ (pos 0) ∷ (minus 1) ∷ (pos 8) ∷ (pos 7) ∷ (pos 0) ∷ (pos 5) ∷ (pos 9) ∷ (pos 0) ∷ (pos 8) ∷ (pos 5) ∷ (pos 9) ∷ (pos 4) ∷ (pos 1) ∷ (pos 5) ∷ (pos 10) ∷ (pos 5) ∷ (minus 1) ∷ (pos 5) ∷ (pos 10) ∷ (pos 5) ∷ (pos 10) ∷ (pos 1) ∷ (pos 10) ∷ (pos 5) ∷ (pos 10) ∷ (pos 6) ∷ (minus 1) ∷ (pos 5) ∷ (pos 8) ∷ (pos 6) ∷ (minus 1) ∷ [])
    (returned 5 11 0 ((pos 5) ∷ (pos 2) ∷ (pos 0) ∷ (pos 7) ∷ (pos 0) ∷ (pos 7) ∷ (pos 5) ∷ (pos 2) ∷ (pos 4) ∷ (pos 8) ∷ (pos 4) ∷ (pos 1) ∷ (pos 4) ∷ (pos 8) ∷ (pos 5) ∷ (pos 8) ∷ (pos 5) ∷ (pos 0) ∷ (pos 5) ∷ (pos 0) ∷ (pos 5) ∷ (pos 8) ∷ (pos 7) ∷ (pos 7) ∷ []) (2 ∷ 2 ∷ 3 ∷ 2 ∷ 2 ∷ 7 ∷ []) []) ∷
    L (R (minus 450) (minus 450) (minus 104) (minus 193)) 256 ((pos 2156) ∷ (minus 53) ∷ (pos 129) ∷ (pos 1116) ∷ (pos 129) ∷ (pos 1116) ∷ (pos 128) ∷ (minus 1222) ∷ (pos 2156) ∷ (minus 53) ∷ (pos 129) ∷ (pos 1116) ∷ (pos 129) ∷ (pos 1116) ∷ (pos 128) ∷ (minus 1222) ∷ [])
    (returned 0 0 0 ((pos 7) ∷ (pos 7) ∷ []) (7 ∷ []) []) ∷
    C (R (pos 1) (pos 2) (pos 2) (pos 3)) 256 256 ((pos 2) ∷ (pos 4) ∷ (pos 3) ∷ (minus 1) ∷ (pos 3) ∷ (pos 0) ∷ (pos 4) ∷ (minus 1) ∷ (minus 1) ∷ (pos 0) ∷ (pos 3) ∷ (pos 0) ∷ (minus 1) ∷ (pos 4) ∷ (pos 5) ∷ (pos 4) ∷ (minus 1) ∷ (pos 2) ∷ [])
    (returned 1 7 0 ((pos 2) ∷ (pos 2) ∷ (pos 1) ∷ (pos 2) ∷ (pos 1) ∷ (pos 3) ∷ (pos 2) ∷ (pos 3) ∷ (pos 1) ∷ (pos 2) ∷ (pos 1) ∷ (pos 3) ∷ (pos 2) ∷ (pos 3) ∷ (pos 7) ∷ (pos 7) ∷ []) (7 ∷ 7 ∷ []) ((pos 1) ∷ (pos 2) ∷ (pos 1) ∷ (pos 3) ∷ (pos 2) ∷ (pos 3) ∷ (pos 1) ∷ (pos 2) ∷ (pos 1) ∷ (pos 3) ∷ (pos 2) ∷ (pos 3) ∷ (pos 2) ∷ (pos 2) ∷ (pos 1) ∷ (pos 2) ∷ (pos 2) ∷ (pos 2) ∷ [])) ∷
    L (R (minus 1) (pos 16777217) (pos 7705036) (pos 26366971)) 256 ((pos 29947588) ∷ (pos 31278688) ∷ (pos 22645327) ∷ (pos 14940418) ∷ (minus 33554432) ∷ (pos 33554431) ∷ (minus 1) ∷ (pos 26366971) ∷ (minus 33554431) ∷ (minus 28394457) ∷ (pos 29697995) ∷ (pos 33554431) ∷ (minus 31477495) ∷ (minus 31884676) ∷ (pos 3852517) ∷ (pos 16777218) ∷ (pos 33554432) ∷ (minus 11590923) ∷ (pos 0) ∷ (pos 16777217) ∷ (pos 25387178) ∷ (pos 23725768) ∷ (minus 7949657) ∷ (minus 16852577) ∷ [])
    (returned 3 7 0 ((pos 7705036) ∷ (pos 19888815) ∷ (minus 1) ∷ (pos 22440813) ∷ (pos 3852516) ∷ (pos 16777217) ∷ (pos 3852517) ∷ (pos 16777218) ∷ (pos 3852518) ∷ (pos 16777217) ∷ (pos 0) ∷ (pos 16777217) ∷ (pos 7705036) ∷ (pos 18886109) ∷ (pos 7) ∷ (pos 7) ∷ []) (2 ∷ 3 ∷ 2 ∷ 7 ∷ []) []) ∷
    L (R (pos 1) (pos 1) (pos 4) (pos 3)) 256 ((pos 3) ∷ (minus 1) ∷ (minus 1) ∷ (pos 2) ∷ (pos 0) ∷ (pos 3) ∷ (pos 4) ∷ (minus 1) ∷ (pos 0) ∷ (pos 2) ∷ (pos 2) ∷ (pos 5) ∷ (pos 5) ∷ (pos 1) ∷ (pos 2) ∷ (pos 0) ∷ (pos 3) ∷ (pos 1) ∷ (pos 2) ∷ (pos 2) ∷ (pos 0) ∷ (pos 3) ∷ (pos 5) ∷ (pos 2) ∷ [])
    (returned 4 9 0 ((pos 1) ∷ (pos 2) ∷ (pos 2) ∷ (pos 1) ∷ (pos 3) ∷ (pos 3) ∷ (pos 4) ∷ (pos 2) ∷ (pos 3) ∷ (pos 1) ∷ (pos 2) ∷ (pos 2) ∷ (pos 1) ∷ (pos 2) ∷ (pos 1) ∷ (pos 2) ∷ (pos 4) ∷ (pos 2) ∷ (pos 7) ∷ (pos 7) ∷ []) (2 ∷ 2 ∷ 3 ∷ 2 ∷ 7 ∷ []) []) ∷
    U (R (pos 0) (pos 0) (pos 15) (pos 0)) 256 256 ((pos 15) ∷ (pos 0) ∷ (pos 7) ∷ (pos 1) ∷ [])
    (returned 0 0 0 ((pos 7) ∷ (pos 7) ∷ []) (7 ∷ []) []) ∷
    []

drawings4 : map shown table4 ≡ map (λ c. c.expected) table4
unfolding at_end get_segment_intersection edge_intersection side_intersection get_intersection start_locs_are_clockwise at_vertex scan_pass scan_answer scan_loop point_in_polygon path1_contains_path2 get_bounds_path get_location determinant numerator fraction working_of crossing_of point_at intersection cross_product_sign is_collinear cross_product_three_points cross_product_is_negative is_clockwise_dir set_owner set_edge set_next set_prev set_results set_edge_list ring unlink add_to_edge struck uncouple_edge own_from set_new_owner drop_collinear_pass drop_collinear assign_side assign_edges check_ring check_from check_edges enter_all arena_of straighten_pass straighten points_from get_path get_paths clip_walked execute sheet_refusal early_refusal delivered answered clip_closed clip_open filled_part is_present first_off_edge line_through line_cross line_from line_passes line_walk_from walk_open pieces longer_than_one execute_lines seek relink regroup keep_one keep_both keep_each settle rejoin one_turn turns_from tidy_edges add add_all push_start_loc next_side next_outside add_corner_prev_curr add_corner_loc add_corners push_start_locs next_inside get_next_location second_search remain_outside enter pass_to pass_through leave cross_boundary add_round retrace close_outline last_off pass_from passes surround after_while walk_from walk_closed walked_outline lib.Ieee.add of_int sub mul div neg to_signed eq lt le
drawings4 = refl
