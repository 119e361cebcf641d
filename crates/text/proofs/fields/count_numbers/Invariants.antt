-- `text::fields::count_numbers`: the fields so far are numbers.
use Rattle.text.proofs.FieldList.{CountedTo}
use Rattle.std.proofs.Common.{length}
use Rattle.text.proofs.fields.count_numbers.Given as goal

abbrev pub invariant-loop-field : goal.invariant-loop-field
invariant-loop-field l = record {
  can : (goal.iterator-loop-field).can_next l.field-iterator;
  finite : (goal.iterator-loop-field).is_finite l.field-iterator;
  many : CountedTo l.bytes l.count (length l.yielded);
}
