-- `put_numbers`: the numbers so far stand behind what the line had.
use Rattle.text.proofs.Puts.{PutTo}
use Rattle.text.proofs.line.Line.put_numbers.Given as goal

abbrev pub invariant-loop-z : goal.invariant-loop-z
invariant-loop-z l = PutTo l.list l.initial.self l.self l.z-index
