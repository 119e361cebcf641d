-- `add_all` meets its contract: what is left to add from point `i` on is what there was to add.
use Rattle.rectclip.proofs.Turning.{Adding}
use Rattle.rectclip.proofs.walk.Walker.add_all.Given as goal

abbrev pub invariant-loop-i : goal.invariant-loop-i
invariant-loop-i l = Adding l.initial.self l.self l.i
