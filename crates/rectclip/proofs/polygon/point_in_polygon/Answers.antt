-- `point_in_polygon` meets its contract. Assumes nothing.
use Prim.Native.Nat.{ℕ, ◌+◌, ◌*◌, ◌%◌, ◌/◌}
use mathlib.Core.Path.{◌≡◌, ap, ◌∙◌}
use mathlib.Core.Bool.{false}
use native.Mathlib.Omega.{arith}
use lib.ListN.{length}
use lib.Signed.{lt_z}
use mir.Syntax.{w64}
use mir.Val.{SFits}
use mir.Facts.{to_z-of_z}
use mathlib.Core.List.{List}
use lib.IntN.{ℤ}
use Rattle.plane.specs.declared.location.PointInPolygonResult.{PointInPolygonResult}
use Rattle.plane.specs.Points.{points_of, pt_at}
use Rattle.plane.specs.Polygon.{scan_loop}
use Rattle.plane.specs.declared.point.Point64.{Point64}
use Rattle.rectclip.proofs.Polygons.{too_few, all_level, scanned}
use borrow.Author.Rules.{rules}
use Rattle.rectclip.proofs.polygon.point_in_polygon.Goals as goal

-- the scan starts at the vertex that was read
started : (pt : Point64) (c : List ℤ) (f : ℕ) {p : Point64} {r : PointInPolygonResult} → p ≡ pt_at (points_of c) f
    → r ≡ scan_loop pt (points_of c) f (2 * (length c / 2) + 2) (lt_z p.y pt.y) (record { curr_idx = (f + 1) % (length c / 2); is_above = lt_z p.y pt.y; wrap_to_start = false; val = 0 })
    → r ≡ scan_loop pt (points_of c) f (2 * (length c / 2) + 2) (lt_z (pt_at (points_of c) f).y pt.y) (record { curr_idx = (f + 1) % (length c / 2); is_above = lt_z (pt_at (points_of c) f).y pt.y; wrap_to_start = false; val = 0 })
started pt c f e g = g ∙ ap (λ (p : Point64). scan_loop pt (points_of c) f (2 * (length c / 2) + 2) (lt_z p.y pt.y) (record { curr_idx = (f + 1) % (length c / 2); is_above = lt_z p.y pt.y; wrap_to_start = false; val = 0 })) e

pub returns-then-n-lt3 : goal.returns-then-n-lt3
returns-then-n-lt3 c = too_few c.args.pt c.args.polygon.now (omega arith)

pub returns-then-first_idx-n : goal.returns-then-first_idx-n
returns-then-first_idx-n c = all_level c.args.pt c.args.polygon.now (omega arith) c.first_off-first_idx.ensures.is c.if-first_idx-n.true

pub returns : goal.returns
returns c =
    let known : SFits w64 c.point_at-first.result.y × SFits w64 c.args.pt.y = search rules in
    let (k0, k1) = known in
    scanned c.args.pt c.args.polygon.now (omega arith) c.first_off-first_idx.ensures.is c.if-first_idx-n.false (started c.args.pt c.args.polygon.now c.first_off-first_idx.result c.point_at-first.ensures (simp to_z-of_z at c.scan_loop.ensures))
