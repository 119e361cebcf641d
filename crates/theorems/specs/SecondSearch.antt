-- Change 4/13: the second search of a segment that passes right through the rectangle finds it, in every pass of both walks within the coordinate
-- limit. So `second_search` always has what `get_intersection` found. Statements only; proofs/SecondSearch.antt.
use Rattle.std.specs.Prelude.{◌≡◌, Bool, false, ℕ, List, T, ℤ}
use Rattle.plane.specs.declared.point.Point64.{Point64}
use Rattle.plane.specs.declared.rect.Rect64.{Rect64}
use Rattle.plane.specs.declared.location.Location.{Location}
use Rattle.plane.specs.Points.{pt_at, points_of}
use Rattle.plane.specs.Locations.{is_inside}
use Rattle.plane.specs.Rectangle.{is_empty}
use Rattle.plane.specs.Intersection.{found_at, get_intersection}
use Rattle.plane.specs.Limit.{rect_in_limit, all_in_limit}
use Rattle.reference.specs.Walk.{second_search}
use Rattle.theorems.specs.Walks.{given, point_before, InEveryPass}

-- Of the segment from prev-pt to pt, in a pass from the location prev to loc: where both are outside and the first search finds it, at ip, the
-- second one does, and its answer is that of `get_intersection`.
abbrev pub FindsBack : Rect64 → Location → Location → Point64 → Point64 → Type 0
FindsBack rect prev loc prev_pt pt =
    is_inside loc ≡ false → is_inside prev ≡ false → (ip : Point64) (crossing_loc : Location) → get_intersection rect pt prev_pt loc ≡ found_at ip crossing_loc
    → let second = second_search rect prev_pt pt prev ip in get_intersection rect prev_pt pt prev ≡ found_at second.point second.side

-- in every pass of a call, of closed paths and of open ones
abbrev pub SecondSearchFinds : Type 0
SecondSearchFinds = (closed : Bool) (full : ℕ → Bool) (rect : Rect64) (coords : List ℤ) → T (rect_in_limit rect) → T (all_in_limit coords) → is_empty rect ≡ false
    → let path = points_of coords in InEveryPass full rect path closed (λ s nx. FindsBack rect (given closed s).loc nx.loc (point_before path closed nx.i) (pt_at path nx.i))
