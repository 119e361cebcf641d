-- `next_inside` meets its contract: what is left to do from point `i` on is what there was to do.
use Rattle.rectclip.proofs.Moving.{Inward}
use Rattle.rectclip.proofs.walk.Walker.next_inside.Given as goal

abbrev pub invariant-loop-i : goal.invariant-loop-i
invariant-loop-i l = Inward l.initial.self l.from l.n l.self l.i
