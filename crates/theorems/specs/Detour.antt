-- What a detour looked like stays private (document 02, 10/13), for both clippers: a path goes from a point strictly inside directly to a run of points
-- that are all strictly beyond one same edge, the first of them beyond no other. What stands between the run's first and last point leaves no trace.
-- The run is a part of the list: it does not wrap past the end.
use Rattle.std.specs.Prelude.{◌≡◌, Bool, true, false, List, [], ◌∷◌, ◌++◌, ℕ, ◌*◌, ◌≤◌, length, T, pos}
use Rattle.plane.specs.declared.point.Point64.{Point64}
use Rattle.plane.specs.declared.rect.Rect64.{Rect64}
use Rattle.plane.specs.declared.location.Location.{Location}
use Rattle.plane.specs.declared.location.Location.TheVariants.{Top}
use Rattle.plane.specs.Points.{point, coordinates_of}
use Rattle.plane.specs.Rectangle.{rect, contains_point, beyond}
use Rattle.plane.specs.Limit.{rect_in_limit, all_in_limit}
use Rattle.reference.specs.Entry.{Lent, drawing_of, clip_path}
use Rattle.reference.specs.Exported.{read_words, exported}

-- ---- the path's words
-- p is strictly inside, and q strictly beyond the edge of s and no other. Nothing is beyond Inside, so s is a side
pub record Leaves (r : Rect64) (s : Location) (p q : Point64) : Type 0 where
  pub inside : T (contains_point r p)
  pub out : T (beyond r s q)
  pub no_other : (t : Location) → T (beyond r t q) → t ≡ s

-- all points of a list are strictly beyond the edge of s
abbrev pub AllBeyond : Rect64 → Location → List Point64 → Type 0
AllBeyond r s [] = Unit {0}
AllBeyond r s (p ∷ ps) = T (beyond r s p) × AllBeyond r s ps

-- within the limits of document 01: at most 4,096 points, each coordinate within ±33,554,432
pub record WithinLimits (path : List Point64) : Type 0 where
  pub few : length path ≤ 4096
  pub limited : T (all_in_limit (coordinates_of path))

-- the bytes of a path for an exported entry, which takes at most 128 points
pub record Encodes (bytes : List ℕ) (path : List Point64) : Type 0 where
  pub short : length path ≤ 128
  pub whole : length bytes ≡ 8 * length path
  pub words : read_words bytes ≡ coordinates_of path

-- ---- what two paths have in common, for the clipper of their kind. The indexes of 3/13, which document 02 excepts, are in no answer yet
pub record SameAnswers (closed : Bool) (r : Rect64) (path path' : List Point64) : Type 0 where
  -- the clipper, in a rectangle within the limit and whatever its store and allowance: paths and turns, or the refusal, 8 and 10 included
  pub clipper : T (rect_in_limit r) → (full : ℕ → Bool) (A : ℕ) → drawing_of closed full A r path ≡ drawing_of closed full A r path'
  -- its entry, also where the rectangle is outside the limit, whatever the allowance and the lent lists: the answer, and what each list holds afterwards
  pub entry : (A : ℕ) (l : Lent) → clip_path closed A r (coordinates_of path) l ≡ clip_path closed A r (coordinates_of path') l
  -- its exported entry, where it takes both: the value, and the bytes that each list holds afterwards
  pub export : (bytes bytes' coordinates lengths counts : List ℕ) → Encodes bytes path → Encodes bytes' path' → exported closed r bytes coordinates lengths counts ≡ exported closed r bytes' coordinates lengths counts

-- ---- The run's first point q and last point q' are kept; those between are replaced by any points beyond the edge, none included.
abbrev pub DetourPrivate : Type 0
DetourPrivate = (closed : Bool) (r : Rect64) (s : Location) (front : List Point64) (p q : Point64) (between between' : List Point64) (q' : Point64) (back : List Point64)
    → Leaves r s p q → AllBeyond r s between → AllBeyond r s between' → T (beyond r s q')
    → let path = front ++ p ∷ q ∷ between ++ q' ∷ back in let path' = front ++ p ∷ q ∷ between' ++ q' ∷ back in
    WithinLimits path → WithinLimits path' → SameAnswers closed r path path'

-- ---- The same of any two runs with the same first point q and the same last point, a run of q alone among them.
abbrev pub last_of : Point64 → List Point64 → Point64
last_of q [] = q
last_of q (x ∷ xs) = last_of x xs

-- A closed path of two points gives nothing, so that [p, q] and [p, q, q] need not agree: both paths must have three points or more. In the rectangle
-- 0,0,24,9 the points 22,2 and 0,24 give nothing, and with the second one twice a path of three points (crates/drawings, from compare/kept.txt).
abbrev pub Enough : Bool → List Point64 → Type 0
Enough true path = 3 ≤ length path
Enough false path = Unit {0}

abbrev pub RunsPrivate : Type 0
RunsPrivate = (closed : Bool) (r : Rect64) (s : Location) (front : List Point64) (p q : Point64) (run run' back : List Point64)
    → Leaves r s p q → AllBeyond r s run → AllBeyond r s run' → last_of q run ≡ last_of q run'
    → let path = front ++ p ∷ q ∷ run ++ back in let path' = front ++ p ∷ q ∷ run' ++ back in
    WithinLimits path → WithinLimits path' → Enough closed path → Enough closed path' → SameAnswers closed r path path'

-- ---- The conditions can be met: in the figure of docs/WHY.md a path leaves the room over the top, goes far round or near, and comes back.
abbrev pub figure_room : Rect64
figure_room = rect (pos 220) (pos 180) (pos 460) (pos 310)

abbrev pub figure_p : Point64
figure_p = point (pos 280) (pos 230)

abbrev pub figure_q : Point64
figure_q = point (pos 300) (pos 130)

abbrev pub figure_far : List Point64
figure_far = point (pos 180) (pos 150) ∷ point (pos 60) (pos 115) ∷ point (pos 110) (pos 45) ∷ point (pos 330) (pos 30) ∷ point (pos 560) (pos 50) ∷ point (pos 510) (pos 110) ∷ []

abbrev pub figure_near : List Point64
figure_near = point (pos 350) (pos 90) ∷ []

abbrev pub figure_q' : Point64
figure_q' = point (pos 400) (pos 140)

abbrev pub figure_path : List Point64 → List Point64
figure_path between = point (pos 250) (pos 290) ∷ figure_p ∷ figure_q ∷ between ++ figure_q' ∷ point (pos 420) (pos 240) ∷ point (pos 380) (pos 290) ∷ []

abbrev pub ConditionsMet : Type 0
ConditionsMet =
    Leaves figure_room Top figure_p figure_q × AllBeyond figure_room Top figure_far × AllBeyond figure_room Top figure_near × T (beyond figure_room Top figure_q')
    × WithinLimits (figure_path figure_far) × WithinLimits (figure_path figure_near)
