-- Loops of the Rust that the definitions bound by a number of passes: that the number is enough. Statements only; proofs: Ends, Corners,
-- Passes, Straightens, Drops, Scans (all thirteen). `Enough` alone also holds of a pass that repeats its state for ever. That `point_in_polygon`'s loop
-- stops is `ScanStops` below; that the loops round the corners come to a side is the subject of CornerLoops, that those over the nodes, which are a ring
-- wherever a call goes round them, have ended of LoopsEnd and Rings. The indexes and lists that the other loops give grow with every pass.
use Rattle.std.specs.Prelude.{◌≡◌, Bool, false, List, [], ◌∷◌, ℕ, zero, suc, ◌+◌, ◌*◌, ◌<◌, ◌≤◌, length, T, eqb, ℤ}
use Rattle.plane.specs.declared.point.Point64.{Point64}
use Rattle.plane.specs.declared.rect.Rect64.{Rect64}
use Rattle.plane.specs.declared.location.Location.{Location}
use Rattle.plane.specs.declared.location.Location.TheVariants.{Inside}
use Rattle.plane.specs.Basics.{none}
use Rattle.plane.specs.Polygon.{Scan, ScanStep, on_edge, stop, again, first_off, skipped, scan_pass, scan_loop, scan_start, scan_passes}
use Rattle.plane.specs.Locations.{is_inside}
use Rattle.plane.specs.Rectangle.{is_empty}
use Rattle.reference.specs.Walk.{Walk, nothing_yet, add_corners, push_start_locs, Next, State, passes}
use Rattle.reference.specs.Lines.{line_passes}
use Rattle.reference.specs.Arena.{Arena, next_of, prev_of, own_from, drop_collinear, assign_edges}
use Rattle.reference.specs.Clip.{straighten, points_from}
use Rattle.plane.specs.Points.{points_of}
use Rattle.plane.specs.Limit.{rect_in_limit, all_in_limit}

-- more passes than n change nothing
abbrev pub Enough : {A : Type 0} → (ℕ → A) → ℕ → Type 0
Enough loop n = (k : ℕ) → loop (n + k) ≡ loop n

-- `point_in_polygon`: a pass ends the `loop`, by its `return` or its `break`, or leaves it to the rest
abbrev pub Ends : (Scan → Type 0) → ScanStep → Type 0
Ends rest on_edge = Unit {0}
Ends rest (stop t) = Unit {0}
Ends rest (again t) = rest t

-- from s, one of the first n passes ends it
abbrev pub Stops : Point64 → List Point64 → ℕ → ℕ → Scan → Type 0
Stops pt polygon first_idx zero s = ⊥
Stops pt polygon first_idx (suc n) s = Ends (Stops pt polygon first_idx n) (scan_pass pt polygon first_idx s)

-- where `point_in_polygon` begins it, within the passes that it counts
abbrev pub ScanStops : Type 0
ScanStops = (pt : Point64) (polygon : List Point64) → let first_idx = first_off pt polygon (length polygon) 0 in eqb first_idx (length polygon) ≡ false
    → Stops pt polygon first_idx (scan_passes pt polygon) (scan_start pt polygon first_idx)

-- so more passes change nothing; from any vertex
abbrev pub ScanEnds : Type 0
ScanEnds = (pt : Point64) (polygon : List Point64) (s : Scan) (above : Bool) → first_off pt polygon (length polygon) 0 < length polygon → s.curr_idx < length polygon → s.wrap_to_start ≡ false
    → Enough (λ n. scan_loop pt polygon (first_off pt polygon (length polygon) 0) n above s) (2 * length polygon + 2)

-- the two `while`s of `point_in_polygon`
abbrev pub FirstOffEnds : Type 0
FirstOffEnds = (pt : Point64) (polygon : List Point64) → Enough (λ n. first_off pt polygon n 0) (length polygon)

abbrev pub SkippedEnds : Type 0
SkippedEnds = (pt : Point64) (polygon : List Point64) (above wrap : Bool) (first i : ℕ) → i ≤ length polygon → Enough (λ n. skipped pt polygon above wrap first n i) (length polygon)

-- round the rectangle to a side
abbrev pub CornersEnd : Type 0
CornersEnd = (full : ℕ → Bool) (rect : Rect64) (w : Walk) (p loc : Location) (cw : Bool) → is_inside loc ≡ false → Enough (λ n. add_corners full rect n w p loc cw) 4

abbrev pub StartLocsEnd : Type 0
StartLocsEnd = (full : ℕ → Bool) (rect : Rect64) (w : Walk) (p loc : Location) (cw : Bool) → is_inside loc ≡ false → Enough (λ n. push_start_locs full rect n w p loc cw) 4

-- the two walks: where the walk ends without a refusal, it has come past the last point. From any location; for lines no limit and no rectangle is needed
abbrev pub WalkEnds : Type 0
WalkEnds = (full : ℕ → Bool) (rect : Rect64) (coords : List ℤ) (loc : Location) (s : State) → T (rect_in_limit rect) → T (all_in_limit coords) → is_empty rect ≡ false
    → passes full rect (points_of coords) (length (points_of coords) + 1) (record { walk = nothing_yet; i = 0; loc = loc; crossing_loc = Inside; first_cross = Inside }) ≡ Rattle.plane.specs.Basics.ok s
    → length (points_of coords) ≤ s.i

abbrev pub LineWalkEnds : Type 0
LineWalkEnds = (full : ℕ → Bool) (rect : Rect64) (coords : List ℤ) (w : Walk) (loc : Location) (s : Next) → T (rect_in_limit rect) → T (all_in_limit coords) → is_empty rect ≡ false
    → line_passes full rect (points_of coords) (length (points_of coords)) (record { walk = w; loc = loc; i = 1 }) ≡ Rattle.plane.specs.Basics.ok s
    → length (points_of coords) ≤ s.i

-- rings: each `next` leads to the node behind, the last one's to op, and each `prev` back
pub data Ringed (a : Arena) (op : ℕ) : ℕ → List ℕ → Type 0 where
  last : {x : ℕ} → next_of a x ≡ op → prev_of a op ≡ x → Ringed a op x []
  step : {x y : ℕ} {ys : List ℕ} → next_of a x ≡ y → prev_of a y ≡ x → Ringed a op y ys → Ringed a op x (y ∷ ys)

-- op is in a ring of at most n nodes
pub record Ring (n : ℕ) (a : Arena) (op : ℕ) : Type 0 where
  pub others : List ℕ
  pub few : length others < n
  pub ringed : Ringed a op op others

abbrev pub OwnersEnd : Type 0
OwnersEnd = (n : ℕ) (a : Arena) (op new : ℕ) → Ring n a op → Enough (λ k. own_from k a op (next_of a op) new) n

abbrev pub AssignEnds : Type 0
AssignEnds = (pts : List Point64) (rect : Rect64) (a : Arena) (op set : ℕ) → Ring (length pts) a op → Enough (λ k. assign_edges pts k rect a op op set) (length pts)

-- op is a node, as `check_edges` asks before the loop
abbrev pub DropEnds : Type 0
DropEnds = (pts : List Point64) (a : Arena) (op : ℕ) → eqb op none ≡ false → Ring (length pts) a op → Enough (λ k. drop_collinear pts k a op op) (2 * length pts + 1)

abbrev pub StraightenEnds : Type 0
StraightenEnds = (pts : List Point64) (a : Arena) (op : ℕ) → Ring (length pts) a op → Enough (λ k. straighten pts k a op (next_of a op)) (length pts * length pts)

abbrev pub ReadEnds : Type 0
ReadEnds = (pts : List Point64) (a : Arena) (op : ℕ) → Ring (length pts) a op → Enough (λ k. points_from pts k a op (next_of a op)) (length pts)
