-- `text::number::magnitude` meets its contract.
use Rattle.std.proofs.Common.{rules}
use Rattle.text.proofs.FieldDigits.{magnitude_none, magnitude_start, no_digit, no_room, magnitude_again, magnitude_end}
use Rattle.text.proofs.number.magnitude.Goals as goal

pub returns-then-is_empty : goal.returns-then-is_empty
returns-then-is_empty c = magnitude_none c.args.digits.now (search rules)

pub loop-b-init : goal.loop-b-init
loop-b-init c = magnitude_start c.args.digits.now (search rules)

pub returns-then-not-is_ascii_digit : goal.returns-then-not-is_ascii_digit
returns-then-not-is_ascii_digit c = no_digit c.loop-b.invariant c.loop-b-test.true c.if-not-is_ascii_digit.ensures.value

pub returns-then-value-gt-TENTH : goal.returns-then-value-gt-TENTH
returns-then-value-gt-TENTH c = no_room c.loop-b.invariant c.loop-b-test.true c.if-value-gt-TENTH.true

pub loop-b-preserved : goal.loop-b-preserved
loop-b-preserved c =
    rw c.from.ensures (magnitude_again c.loop-b.invariant c.loop-b-test.true c.if-not-is_ascii_digit.ensures.value c.if-value-gt-TENTH.false)

pub returns : goal.returns
returns c = magnitude_end c.loop-b.invariant (search rules)
