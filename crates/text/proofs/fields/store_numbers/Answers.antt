-- `text::fields::store_numbers` meets its contract.
use Rattle.std.specs.Prelude.{None, MatchOption}
use Rattle.std.proofs.Common.{◌≡◌, eqb, refl, arith, rules, of_calls, tests}
use mir.Syntax.{w64}
use mir.Val.{SFits}
use mir.Facts.{to_z-of_z}
use Rattle.std.proofs.lemmas.List.{set-get_or}
use Rattle.std.proofs.lemmas.Iterator.Splits.{YieldsList-from_slice_split}
use Rattle.text.specs.Decimal.{field}
use Rattle.text.specs.Reading.{fields}
use Rattle.text.proofs.FieldList.{store_none, store_again, store_full}
use Rattle.text.proofs.fields.store_numbers.Goals as goal

pub loop-slot-init : goal.loop-slot-init
loop-slot-init c =
    record { can = search of_calls; finite = search rules; left = record { left = fields c.args.bytes.now; gives = (YieldsList-from_slice_split _ (λ b. eqb b 44) c.args.bytes.now (cc) (cc) (cc) (λ x r q k. search (rules, tests))).runs; goal = refl } }

pub returns-in_default : goal.returns-in_default
returns-in_default c =
    let m : MatchOption c.next.result (c.and_then.result ≡ None) (λ f. c.and_then.result ≡ field f.now) = search rules in
    rw set-get_or (store_none c.loop-slot.invariant.left c.next.ensures.steps m c.in_default.is)

pub loop-slot-preserved : goal.loop-slot-preserved
loop-slot-preserved c =
    let m : MatchOption c.next.result (c.and_then.result ≡ None) (λ f. c.and_then.result ≡ field f.now) = search rules in
    let f : SFits w64 c.in-Some.z = search rules in
    record { can = search rules; finite = search rules; left = rw (to_z-of_z f) (store_again c.loop-slot.invariant.left c.next.ensures.steps m c.in-Some.is) }

pub returns : goal.returns
returns c = store_full c.loop-slot.invariant.left (omega arith)
