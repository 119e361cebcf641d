-- `text::fields::store_numbers`: the numbers so far are stored.
use Rattle.text.proofs.FieldList.{Storing}
use Rattle.text.proofs.fields.store_numbers.Given as goal

abbrev pub invariant-loop-slot : goal.invariant-loop-slot
invariant-loop-slot l = record {
  can : (goal.iterator-loop-slot).can_next l.fields;
  finite : (goal.iterator-loop-slot).is_finite l.fields;
  left : Storing (goal.iterator-loop-slot).next_gives l.bytes l.initial.list l.list l.slot-index l.fields;
}
