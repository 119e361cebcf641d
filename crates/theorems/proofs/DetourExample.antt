-- The conditions of 10/13 can be met: those of the figure in docs/WHY.md are.
use mathlib.Core.Path.{◌≡◌, refl}
use native.Mathlib.Omega.{arith}
use lib.Dec.{T}
use Rattle.plane.specs.declared.location.Location.{Location}
use Rattle.plane.specs.declared.location.Location.TheVariants.{Left, Top, Right, Bottom, Inside}
use Rattle.plane.specs.Rectangle.{beyond}
use Rattle.theorems.specs.Detour.{figure_room, figure_q, ConditionsMet}

pub conditions_met : ConditionsMet
conditions_met =
    (record { inside = tt; out = tt; no_other = only }, (tt, (tt, (tt, (tt, (tt, (tt, tt)))))), (tt, tt), tt, record { few = omega arith; limited = tt }, record { few = omega arith; limited = tt })
  where
    only : (t : Location) → T (beyond figure_room t figure_q) → t ≡ Top
    only Left h = absurd h
    only Top h = refl
    only Right h = absurd h
    only Bottom h = absurd h
    only Inside h = absurd h
