-- `text::number::number` meets its contract.
use Rattle.std.proofs.Common.{pos, ◌<◌, neg_ℤ, ◌∙◌, rules}
use mir.Syntax.{w64, w128}
use mir.Val.{SFits}
use Rattle.std.specs.Result.{OkIff}
use mir.Facts.{to_z-of_z}
use Rattle.text.proofs.FieldDigits.{field_minus, field_plain, minus_is, minus_fits, signed_minus, signed_plain}
use Rattle.text.proofs.number.number.Goals as goal

pub returns-in_err-magnitude-in-Some : goal.returns-in_err-magnitude-in-Some
returns-in_err-magnitude-in-Some c = c.from_residual.ensures ∙ field_minus c.args.bytes.now c.in-Some.digits.now c.in-Some.ensures.cases.0 c.in-Some.ensures.cases.1 c.in_err-magnitude-in-Some.ensures

pub returns-in_err-magnitude-in-None : goal.returns-in_err-magnitude-in-None
returns-in_err-magnitude-in-None c = c.from_residual-in_err-magnitude-in-None.ensures ∙ field_plain c.args.bytes.now c.in-None.ensures.cases c.in_err-magnitude-in-None.ensures

pub returns-in_ok-magnitude-in-Some : goal.returns-in_ok-magnitude-in-Some
returns-in_ok-magnitude-in-Some c =
    let n = c.in_ok-magnitude-in-Some.field-0 in
    let k : n < 18446744073709551616 = search rules in
    let f : SFits w128 c.from.result = record { sfits = c.from.type_inv } in
    let g : SFits w128 (neg_ℤ (pos n)) = minus_fits n k in
    let h : OkIff c.try_from.result (SFits w64 (neg_ℤ (pos n))) (neg_ℤ (pos n)) = rw (to_z-of_z f, c.from.ensures, minus_is n, to_z-of_z g) at c.try_from.ensures in
    c.ok.ensures.value ∙ signed_minus n _ h ∙ field_minus c.args.bytes.now c.in-Some.digits.now c.in-Some.ensures.cases.0 c.in-Some.ensures.cases.1 c.in_ok-magnitude-in-Some.ensures

pub returns-in_ok-magnitude-in-None : goal.returns-in_ok-magnitude-in-None
returns-in_ok-magnitude-in-None c = c.ok-in-None.ensures.value ∙ signed_plain _ _ c.try_from-in-None.ensures ∙ field_plain c.args.bytes.now c.in-None.ensures.cases c.in_ok-magnitude-in-None.ensures
