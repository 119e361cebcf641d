-- `text::fields::count_numbers` meets its contract.
use Rattle.std.proofs.Common.{eqb, ◌∙◌, rules, tests}
use Rattle.std.proofs.lemmas.List.{length_push}
use Rattle.std.proofs.lemmas.Iterator.Splits.{YieldsList-from_slice_split}
use Rattle.std.proofs.lemmas.Iterator.Consumers.{YieldsList-turn, YieldsList-end}
use Rattle.text.proofs.FieldList.{count_none, count_again, count_end}
use Rattle.text.proofs.fields.count_numbers.Goals as goal

pub returns-in_err-number : goal.returns-in_err-number
returns-in_err-number c =
    let t = YieldsList-turn (YieldsList-from_slice_split _ (λ b. eqb b 44) c.args.bytes.now (cc) (cc) (cc) (λ x r q k. search (rules, tests))) c.loop-field.yielded _ c.loop-field.yielded_by _ _ c.in-Some.field c.in-Some.is c.next.ensures.steps in
    c.from_residual.ensures ∙ count_none c.loop-field.invariant.many t.0 t.1 c.in_err-number.ensures

pub loop-field-preserved : goal.loop-field-preserved
loop-field-preserved c =
    let t = YieldsList-turn (YieldsList-from_slice_split _ (λ b. eqb b 44) c.args.bytes.now (cc) (cc) (cc) (λ x r q k. search (rules, tests))) c.loop-field.yielded _ c.loop-field.yielded_by _ _ c.in-Some.field c.in-Some.is c.next.ensures.steps in
    record { can = search rules; finite = search rules; many = rw (length_push c.loop-field.yielded c.in-Some.field) (count_again c.loop-field.invariant.many t.0 t.1 c.in_ok-number.ensures) }

pub returns : goal.returns
returns c =
    let t = YieldsList-end (YieldsList-from_slice_split _ (λ b. eqb b 44) c.args.bytes.now (cc) (cc) (cc) (λ x r q k. search (rules, tests))) c.loop-field.yielded _ c.loop-field.yielded_by _ _ c.in-None.is c.next.ensures.steps in
    count_end c.loop-field.invariant.many t.1
