-- `text::number::magnitude`: the bytes so far are digits, and stand for the value.
use Rattle.text.proofs.FieldDigits.{MagnitudeTo}
use Rattle.text.proofs.number.magnitude.Given as goal

abbrev pub invariant-loop-b : goal.invariant-loop-b
invariant-loop-b l = MagnitudeTo l.digits l.value l.b-index
