-- Points within the coordinate limit are within reach, one unit past it. Assumes nothing.
use native.Mathlib.Omega.{arith}
use Rattle.plane.specs.declared.point.Point64.{Point64}
use Rattle.plane.specs.Limit.{Limited}
use Rattle.rectclip.specs.Bounds.{Reached, Turn}

pub reached : {p : Point64} → Limited p → Reached p
reached h = record { across = omega (arith, h.across); down = omega (arith, h.down) }

pub turn : {p q r : Point64} → Limited p → Limited q → Limited r → Turn p q r
turn h i j = record { first = reached h; second = reached i; third = reached j }
