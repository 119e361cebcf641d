-- `for_each_side` meets its contract: each turn takes a step, until the walk has come to `loc`.
use Prim.Native.Nat.{ℕ}
use Rattle.plane.specs.Basics.{Try}
use Rattle.plane.specs.declared.location.Location.{Location}
use Rattle.reference.specs.Walk.{Walk}
use Rattle.rectclip.specs.Steps.{Rounds, CallsAre}
use Rattle.rectclip.proofs.Turning.{Rounding}
use Rattle.rectclip.proofs.walk.Walker.for_each_side.Given as goal

abbrev pub invariant-loop : goal.invariant-loop
invariant-loop g l = (one : Walk → Location → Try Walk) (run : ℕ → Walk → Location → Try Walk) → Rounds l.way.to l.way.is_clockwise one run → CallsAre l.initial.self one (goal.F-post g l.step) → Rounding run l.initial.self l.initial.p l.self l.p l.counter
