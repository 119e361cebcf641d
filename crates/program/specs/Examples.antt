-- Document 01's example of the clip program, from the bytes of its input to those of its output, and lines of a buffer, by computation.
use Rattle.std.specs.Prelude.{◌≡◌, refl, true, false, List, [], ◌∷◌, ◌++◌, ℕ, pos}
use Rattle.plane.specs.declared.rect.Rect64.{Rect64}
use Rattle.plane.specs.Rectangle.{rect}
use Rattle.text.specs.Decimal.{digits_of, field, decimal, signed_decimal}
use Rattle.text.specs.Reading.{asked, request}
use Rattle.handheld.specs.Drawn.{clipped}
use Rattle.program.specs.Taken.{behind_feed, held, passed}
use Rattle.program.specs.Answered.{first_answer, answer}
use Rattle.plane.specs.Intersection.{at_end, get_segment_intersection, edge_intersection, side_intersection, get_intersection}
use Rattle.plane.specs.Locations.{start_locs_are_clockwise}
use Rattle.plane.specs.Polygon.{at_vertex, scan_pass, scan_answer, scan_loop, point_in_polygon, path1_contains_path2}
use Rattle.plane.specs.Rectangle.{get_bounds_path, get_location}
use Rattle.plane.specs.Segment.{determinant, numerator, fraction, working_of, crossing_of, point_at, intersection}
use Rattle.plane.specs.Signs.{cross_product_sign, is_collinear, cross_product_three_points, cross_product_is_negative, is_clockwise_dir}
use Rattle.reference.specs.Arena.{set_owner, set_edge, set_next, set_prev, set_results, set_edge_list, ring, unlink, add_to_edge, struck, uncouple_edge, own_from, set_new_owner, drop_collinear_pass, drop_collinear, assign_side, assign_edges, check_ring, check_from, check_edges}
use Rattle.reference.specs.Clip.{enter_all, arena_of, straighten_pass, straighten, points_from, get_path, get_paths, clip_walked, execute}
use Rattle.reference.specs.Entry.{sheet_refusal, early_refusal, delivered, answered, clip_closed, clip_open, filled_part, is_present}
use Rattle.reference.specs.Lines.{first_off_edge, line_through, line_cross, line_from, line_passes, line_walk_from, walk_open, pieces, longer_than_one, execute_lines}
use Rattle.reference.specs.Tidy.{seek, relink, regroup, keep_one, keep_both, keep_each, settle, rejoin, one_turn, turns_from, tidy_edges}
use Rattle.reference.specs.Walk.{add, add_all, push_start_loc, next_side, next_outside, add_corner_prev_curr, add_corner_loc, add_corners, push_start_locs, next_inside, get_next_location, second_search, remain_outside, enter, pass_to, pass_through, leave, cross_boundary, add_round, retrace, close_outline, last_off, pass_from, passes, surround, after_while, walk_from, walk_closed, walked_outline}
use lib.Ieee.{of_int, sub, mul, div, neg, to_signed, eq, lt, le}

-- `R,0,0,100,100`
abbrev first : List ℕ
first = 82 ∷ 44 ∷ 48 ∷ 44 ∷ 48 ∷ 44 ∷ 49 ∷ 48 ∷ 48 ∷ 44 ∷ 49 ∷ 48 ∷ 48 ∷ []

-- `C,50,50,150,50,150,80,50,80`
abbrev second : List ℕ
second = 67 ∷ 44 ∷ 53 ∷ 48 ∷ 44 ∷ 53 ∷ 48 ∷ 44 ∷ 49 ∷ 53 ∷ 48 ∷ 44 ∷ 53 ∷ 48 ∷ 44 ∷ 49 ∷ 53 ∷ 48 ∷ 44 ∷ 56 ∷ 48 ∷ 44 ∷ 53 ∷ 48 ∷ 44 ∷ 56 ∷ 48 ∷ []

-- `L,-50,10,150,10`
abbrev third : List ℕ
third = 76 ∷ 44 ∷ 45 ∷ 53 ∷ 48 ∷ 44 ∷ 49 ∷ 48 ∷ 44 ∷ 49 ∷ 53 ∷ 48 ∷ 44 ∷ 49 ∷ 48 ∷ []

abbrev owner : Rect64
owner = rect (pos 0) (pos 0) (pos 100) (pos 100)

printed : first_answer (request true first) ++ answer owner (pos 2) (request false second) ++ answer owner (pos 3) (request false third)
    ≡ 82 ∷ 44 ∷ 48 ∷ 44 ∷ 48 ∷ 44 ∷ 49 ∷ 48 ∷ 48 ∷ 44 ∷ 49 ∷ 48 ∷ 48 ∷ 10
    ∷ 67 ∷ 44 ∷ 50 ∷ 44 ∷ 52 ∷ 44 ∷ 53 ∷ 48 ∷ 44 ∷ 56 ∷ 48 ∷ 44 ∷ 53 ∷ 48 ∷ 44 ∷ 53 ∷ 48 ∷ 44 ∷ 49 ∷ 48 ∷ 48 ∷ 44 ∷ 53 ∷ 48 ∷ 44 ∷ 49 ∷ 48 ∷ 48 ∷ 44 ∷ 56 ∷ 48 ∷ 10
    ∷ 76 ∷ 44 ∷ 51 ∷ 44 ∷ 50 ∷ 44 ∷ 48 ∷ 44 ∷ 49 ∷ 48 ∷ 44 ∷ 49 ∷ 48 ∷ 48 ∷ 44 ∷ 49 ∷ 48 ∷ 10 ∷ []
unfolding at_end get_segment_intersection edge_intersection side_intersection get_intersection start_locs_are_clockwise at_vertex scan_pass scan_answer scan_loop point_in_polygon path1_contains_path2 get_bounds_path get_location determinant numerator fraction working_of crossing_of point_at intersection cross_product_sign is_collinear cross_product_three_points cross_product_is_negative is_clockwise_dir set_owner set_edge set_next set_prev set_results set_edge_list ring unlink add_to_edge struck uncouple_edge own_from set_new_owner drop_collinear_pass drop_collinear assign_side assign_edges check_ring check_from check_edges enter_all arena_of straighten_pass straighten points_from get_path get_paths clip_walked execute sheet_refusal early_refusal delivered answered clip_closed clip_open filled_part is_present first_off_edge line_through line_cross line_from line_passes line_walk_from walk_open pieces longer_than_one execute_lines seek relink regroup keep_one keep_both keep_each settle rejoin one_turn turns_from tidy_edges add add_all push_start_loc next_side next_outside add_corner_prev_curr add_corner_loc add_corners push_start_locs next_inside get_next_location second_search remain_outside enter pass_to pass_through leave cross_boundary add_round retrace close_outline last_off pass_from passes surround after_while walk_from walk_closed walked_outline lib.Ieee.add of_int sub mul div neg to_signed eq lt le digits_of field decimal signed_decimal asked request clipped
printed = refl

-- at hand are `C` and a line feed, then `L` and a carriage return, which is a byte of the line like others; the list has room for one byte
hand : List ℕ
hand = 67 ∷ 10 ∷ 76 ∷ 13 ∷ []

lines : (held hand 1 0 ≡ record { count = 1; ended = true }) × (behind_feed hand ≡ 76 ∷ 13 ∷ [])
    × (held (behind_feed hand) 1 0 ≡ record { count = 1; ended = false }) × (behind_feed (behind_feed hand) ≡ [])
    × (held [] 1 0 ≡ record { count = 0; ended = false })
unfolding hand
lines = (refl, refl, refl, refl, refl)

-- of `C` and a line feed, and of `L` and a carriage return, two bytes each are taken
counted : (passed hand ≡ 2) × (passed (76 ∷ 13 ∷ []) ≡ 2) × (passed [] ≡ 0)
unfolding hand
counted = (refl, refl, refl)
