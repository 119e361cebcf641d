-- `contains_from` meets its contract. The loop's invariant: the count so far, over the points that are left, is the whole count. Assumes nothing.
use mathlib.Core.Path.{◌≡◌, sym, ◌∙◌}
use mathlib.Core.Bool.{false}
use Prim.Native.Nat.{◌<◌}
use borrow.Author.Tests.{ltb-false}
use native.Mathlib.Omega.{arith}
use lib.Dec.{ltb}
use lib.IntN.{ℤ, nat_abs}
use lib.ListN.{length}
use mir.Syntax.{w64}
use mir.Val.{SFits, to_z}
use mir.Facts.{to_z-of_z}
use Rattle.plane.specs.Points.{points_of}
use Rattle.rectclip.proofs.Coordinates.{points_length}
use Rattle.rectclip.proofs.Polygons.{contains_stops, contains_goes_on, contains_none, past_one}
use Rattle.rectclip.proofs.polygon.contains_from.Goals as goal

pub returns-then-io : goal.returns-then-io
returns-then-io c =
    let P = c.args.path1.now in
    let Q = c.args.path2.now in
    let i = c.loop-i.i in
    let z : ℤ = to_z w64 c.loop-i.io_count-bits in
    let h : i < length (points_of Q) = omega (arith, points_length Q) in
    let g : SFits w64 c.counted-io.result = record { sfits = c.counted-io.type_inv } in
    simp to_z-of_z (contains_stops (points_of P) (points_of Q) i z h c.point_at-pt.ensures c.point_in_polygon.ensures c.counted-io.ensures (sym (past_one c.counted-io.result) ∙ simp to_z-of_z at c.if-io.true) ∙ c.loop-i.invariant.0)

pub loop-i-preserved : goal.loop-i-preserved
loop-i-preserved c =
    let P = c.args.path1.now in
    let Q = c.args.path2.now in
    let i = c.loop-i.i in
    let z : ℤ = to_z w64 c.loop-i.io_count-bits in
    let h : i < length (points_of Q) = omega (arith, points_length Q) in
    let g : SFits w64 c.counted-io.result = record { sfits = c.counted-io.type_inv } in
    let u : ltb 1 (nat_abs c.counted-io.result) ≡ false = sym (past_one c.counted-io.result) ∙ simp to_z-of_z at c.if-io.false in
    simp to_z-of_z (contains_goes_on (points_of P) (points_of Q) i z h c.point_at-pt.ensures c.point_in_polygon.ensures c.counted-io.ensures u ∙ c.loop-i.invariant.0, ltb-false 1 _ u)

pub returns : goal.returns
returns c =
    let z : ℤ = to_z w64 c.loop-i.io_count-bits in
    sym (contains_none (points_of c.args.path1.now) (points_of c.args.path2.now) c.loop-i.i z (omega (arith, points_length c.args.path2.now))) ∙ c.loop-i.invariant.0
