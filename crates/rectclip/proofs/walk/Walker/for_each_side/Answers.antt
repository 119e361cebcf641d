-- `for_each_side` meets its contract: each turn takes a step, until the walk has come to `loc`.
use mathlib.Core.Path.{◌∙◌}
use Rattle.plane.proofs.Equality.{same_location_is}
use Rattle.rectclip.proofs.Steps.{since}
use Rattle.rectclip.proofs.Turning.{rounding_start, rounding_lost, rounding_met, rounding_on, rounding_ends}
use Rattle.rectclip.proofs.Walking.{thrown}
use Rattle.rectclip.proofs.walk.Walker.for_each_side.Goals as goal

pub loop-init : goal.loop-init
loop-init g c = λ one run D C. rounding_start run c.args.self.now c.args.way.from

pub returns-in_err-step : goal.returns-in_err-step
returns-in_err-step g c = λ one run D C.
    let I = c.loop.invariant one run D C in
    rw (thrown c.from_residual.result c.from_residual.ensures) (rounding_lost D I c.loop-test.true (since I.same (C _ _ _ _ I.same c.step.ensures)) c.in_err-step.was)

pub returns-then-eq : goal.returns-then-eq
returns-then-eq g c = λ one run D C.
    let I = c.loop.invariant one run D C in
    rounding_met D I c.loop-test.true (since I.same (C _ _ _ _ I.same c.step.ensures)) c.in_ok-step.was c.get_adjacent_location-p.ensures (c.eq.ensures ∙ same_location_is c.get_adjacent_location-p.result c.args.way.to) c.if-eq.true

pub loop-preserved : goal.loop-preserved
loop-preserved g c = λ one run D C.
    let I = c.loop.invariant one run D C in
    rounding_on D I c.loop-test.true (since I.same (C _ _ _ _ I.same c.step.ensures)) c.in_ok-step.was c.get_adjacent_location-p.ensures (c.eq.ensures ∙ same_location_is c.get_adjacent_location-p.result c.args.way.to) c.if-eq.false

pub returns : goal.returns
returns g c = λ one run D C. rounding_ends D (c.loop.invariant one run D C) c.loop-test.false
