-- `start_locs_are_clockwise` meets its contract: steps counted each way come to the definition's sum. Assumes nothing.
use mathlib.Core.Path.{◌≡◌, sym, ◌∙◌, ap}
use Prim.Native.Nat.{◌+◌, ◌-◌}
use native.Mathlib.Omega.{arith}
use Rattle.plane.specs.Locations.{start_locs_are_clockwise}
use Rattle.rectclip.proofs.Retracing.{walk_sides}
use Rattle.rectclip.proofs.StartSides.{count_again, count_done}
use Rattle.rectclip.proofs.walk.Walker.start_locs_are_clockwise.Goals as goal

pub loop-i-preserved : goal.loop-i-preserved
loop-i-preserved c =
    let e : c.loop-i.i + 1 - 1 ≡ c.loop-i.i - 1 + 1 = omega arith in
    let f : c.loop-i.i - 1 + 1 ≡ c.loop-i.i = omega arith in
    rw e (count_again c.loop-i.invariant (omega arith) c.start_loc.ensures (rw f c.start_loc-in-loop-i.ensures) c.turned_by-t.ensures)

pub returns : goal.returns
returns c = count_done c.loop-i.invariant (omega arith) ∙ ap start_locs_are_clockwise (sym (walk_sides c.args.self.now))
