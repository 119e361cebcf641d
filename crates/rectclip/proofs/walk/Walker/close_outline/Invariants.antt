-- `close_outline` meets its contract: each turn goes one start side back. Assumes nothing.
use Rattle.rectclip.proofs.Retracing.{Retracing}
use Rattle.rectclip.proofs.walk.Walker.close_outline.Given as goal

abbrev pub invariant-loop-i : goal.invariant-loop-i
invariant-loop-i l = Retracing l.s.first_cross l.initial.self l.initial.p l.i-end l.self l.p l.i
