-- The refusals in number order, what every lent list holds afterwards, and *present*, as tables by computation.
use Rattle.std.specs.Prelude.{◌≡◌, refl, List, [], ◌∷◌, map, ℕ, replicate, ℤ, pos, negsuc}
use Rattle.plane.specs.declared.rect.Rect64.{Rect64}
use Rattle.plane.specs.Intersection.{at_end, get_segment_intersection, edge_intersection, side_intersection, get_intersection}
use Rattle.plane.specs.Locations.{start_locs_are_clockwise}
use Rattle.plane.specs.Polygon.{at_vertex, scan_pass, scan_answer, scan_loop, point_in_polygon, path1_contains_path2}
use Rattle.plane.specs.Rectangle.{get_bounds_path, get_location}
use Rattle.plane.specs.Segment.{determinant, numerator, fraction, working_of, crossing_of, point_at, intersection}
use Rattle.plane.specs.Signs.{cross_product_sign, is_collinear, cross_product_three_points, cross_product_is_negative, is_clockwise_dir}
use Rattle.reference.specs.Arena.{set_owner, set_edge, set_next, set_prev, set_results, set_edge_list, ring, unlink, add_to_edge, struck, uncouple_edge, own_from, set_new_owner, drop_collinear_pass, drop_collinear, assign_side, assign_edges, check_ring, check_from, check_edges}
use Rattle.reference.specs.Clip.{enter_all, arena_of, straighten_pass, straighten, points_from, get_path, get_paths, clip_walked, execute}
use Rattle.reference.specs.Entry.{sheet_refusal, early_refusal, delivered, answered, clip_closed, clip_open, filled_part, is_present, Lent, After, refused, drawn, unknown, yes, no}
use Rattle.reference.specs.Lines.{first_off_edge, line_through, line_cross, line_from, line_passes, line_walk_from, walk_open, pieces, longer_than_one, execute_lines}
use Rattle.reference.specs.Tidy.{seek, relink, regroup, keep_one, keep_both, keep_each, settle, rejoin, one_turn, turns_from, tidy_edges}
use Rattle.reference.specs.Walk.{add, add_all, push_start_loc, next_side, next_outside, add_corner_prev_curr, add_corner_loc, add_corners, push_start_locs, next_inside, get_next_location, second_search, remain_outside, enter, pass_to, pass_through, leave, cross_boundary, add_round, retrace, close_outline, last_off, pass_from, passes, surround, after_while, walk_from, walk_closed, walked_outline}
use lib.Ieee.{of_int, sub, mul, div, neg, to_signed, eq, lt, le}

abbrev R : ℤ → ℤ → ℤ → ℤ → Rect64
R l t r b = record { left = l; top = t; right = r; bottom = b }

-- c coordinates and n lengths of 7, a store of s and a work list of w numbers 9
abbrev lent : ℕ → ℕ → ℕ → ℕ → Lent
lent c n s w = record { coordinates = replicate c (pos 7); lengths = replicate n 7; store = replicate s (pos 9); work = replicate w 9 }

abbrev kept : ℕ → Lent → After
kept n l = record { answer = refused n; lists = l }

-- store and work zero, the other two as they came
abbrev zeroed : ℕ → ℕ → ℕ → ℕ → ℕ → After
zeroed n c k s w = record { answer = refused n; lists = record { coordinates = replicate c (pos 7); lengths = replicate k 7; store = replicate s (pos 0); work = replicate w 0 } }

abbrev square : Rect64
square = R (pos 0) (pos 0) (pos 100) (pos 100)

-- drawing 1; and a path that dips twice below the top edge, which takes one turn to split in two
abbrev shelf : List ℤ
shelf = pos 50 ∷ pos 50 ∷ pos 150 ∷ pos 50 ∷ pos 150 ∷ pos 80 ∷ pos 50 ∷ pos 80 ∷ []

abbrev two_dips : List ℤ
two_dips =
    pos 2 ∷ negsuc 1 ∷ pos 2 ∷ pos 5 ∷ pos 4 ∷ pos 5 ∷ pos 4 ∷ negsuc 1 ∷ pos 6 ∷ negsuc 1 ∷ pos 6 ∷ pos 5 ∷ pos 8 ∷ pos 5 ∷ pos 8 ∷ negsuc 1 ∷ pos 9 ∷ negsuc 2 ∷ pos 1 ∷ negsuc 2 ∷ []

abbrev far : ℤ
far = pos 33554433

abbrev rows : List (After × After)
rows =
    -- 1 before all others
    (clip_closed 65536 (R far (pos 0) (pos 0) (pos 0)) (far ∷ []) (lent 0 0 9 0), kept 1 (lent 0 0 9 0)) ∷
    (clip_closed 65536 (R far (pos 0) (pos 0) (pos 0)) (far ∷ far ∷ []) (lent 0 0 9 0), kept 3 (lent 0 0 9 0)) ∷
    (clip_closed 3 (R far (pos 0) (pos 0) (pos 0)) (far ∷ far ∷ []) (lent 0 0 9 127), kept 4 (lent 0 0 9 127)) ∷
    (clip_closed 3 (R far (pos 0) (pos 0) (pos 0)) (far ∷ far ∷ []) (lent 0 0 9 128), kept 6 (lent 0 0 9 128)) ∷
    (clip_closed 3 square (far ∷ far ∷ []) (lent 0 0 9 128), kept 7 (lent 0 0 9 128)) ∷
    -- lines: A = 0
    (clip_open square (far ∷ far ∷ []) (lent 0 0 9 79), kept 4 (lent 0 0 9 79)) ∷
    (clip_open square (far ∷ far ∷ []) (lent 0 0 9 80), kept 7 (lent 0 0 9 80)) ∷
    -- room for three points where four are walked; four and no room to return them; and the result
    (clip_closed 0 square shelf (lent 9 1 7 64), zeroed 8 9 1 7 64) ∷
    (clip_closed 0 square shelf (lent 7 1 8 80), zeroed 11 7 1 8 80) ∷
    (clip_closed 0 square shelf (lent 8 0 8 80), zeroed 11 8 0 8 80) ∷ (
      clip_closed 0 square shelf (lent 9 2 9 80),
      record {
        answer = drawn 1 4 0;
        lists = record { coordinates = pos 50 ∷ pos 80 ∷ pos 50 ∷ pos 50 ∷ pos 100 ∷ pos 50 ∷ pos 100 ∷ pos 80 ∷ pos 7 ∷ []; lengths = 4 ∷ 7 ∷ []; store = replicate 9 (pos 0); work = replicate 80 0 };
      },
    ) ∷
    -- no turn allowed where one is needed; and the result with it
    (clip_closed 0 (R (pos 0) (pos 0) (pos 10) (pos 10)) two_dips (lent 16 2 16 144), zeroed 10 16 2 16 144) ∷ (
      clip_closed 1 (R (pos 0) (pos 0) (pos 10) (pos 10)) two_dips (lent 16 2 16 160),
      record {
        answer = drawn 2 8 1;
        lists = record {
          coordinates =
              pos 2 ∷ pos 0 ∷ pos 2 ∷ pos 5 ∷ pos 4 ∷ pos 5 ∷ pos 4 ∷ pos 0 ∷ pos 6 ∷ pos 0 ∷ pos 6 ∷ pos 5 ∷ pos 8 ∷ pos 5 ∷ pos 8 ∷ pos 0 ∷ [];
          lengths = 4 ∷ 4 ∷ [];
          store = replicate 16 (pos 0);
          work = replicate 160 0;
        };
      },
    ) ∷
    -- nothing is drawn under an empty rectangle, and store and work are zero
    (
      clip_closed 0 (R (pos 5) (pos 0) (pos 5) (pos 9)) shelf (lent 0 0 0 16),
      record {
        answer = drawn 0 0 0;
        lists = record { coordinates = []; lengths = []; store = []; work = replicate 16 0 };
      },
    ) ∷
    []

refusals : map (λ r. r.0) rows ≡ map (λ r. r.1) rows
unfolding at_end get_segment_intersection edge_intersection side_intersection get_intersection start_locs_are_clockwise at_vertex scan_pass scan_answer scan_loop point_in_polygon path1_contains_path2 get_bounds_path get_location determinant numerator fraction working_of crossing_of point_at intersection cross_product_sign is_collinear cross_product_three_points cross_product_is_negative is_clockwise_dir set_owner set_edge set_next set_prev set_results set_edge_list ring unlink add_to_edge struck uncouple_edge own_from set_new_owner drop_collinear_pass drop_collinear assign_side assign_edges check_ring check_from check_edges enter_all arena_of straighten_pass straighten points_from get_path get_paths clip_walked execute sheet_refusal early_refusal delivered answered clip_closed clip_open filled_part is_present first_off_edge line_through line_cross line_from line_passes line_walk_from walk_open pieces longer_than_one execute_lines seek relink regroup keep_one keep_both keep_each settle rejoin one_turn turns_from tidy_edges add add_all push_start_loc next_side next_outside add_corner_prev_curr add_corner_loc add_corners push_start_locs next_inside get_next_location second_search remain_outside enter pass_to pass_through leave cross_boundary add_round retrace close_outline last_off pass_from passes surround after_while walk_from walk_closed walked_outline lib.Ieee.add of_int sub mul div neg to_signed eq lt le
refusals = refl

-- *present*: 1, 5, 6, 7, then by the bounds
presences : is_present square (pos 1 ∷ []) ∷ is_present (R far (pos 0) (pos 0) (pos 0)) (replicate 8194 far) ∷ is_present (R far (pos 0) (pos 0) (pos 0)) (far ∷ far ∷ []) ∷ is_present square (far ∷ far ∷ [])
    ∷ is_present square (pos 100 ∷ pos 100 ∷ []) ∷ is_present square (pos 101 ∷ pos 100 ∷ []) ∷ is_present square [] ∷ is_present (R (pos 5) (pos 0) (pos 5) (pos 9)) (pos 5 ∷ pos 5 ∷ []) ∷ []
    ≡ unknown 1 ∷ unknown 5 ∷ unknown 6 ∷ unknown 7 ∷ yes ∷ no ∷ no ∷ no ∷ []
unfolding is_present sheet_refusal get_bounds_path
presences = refl
