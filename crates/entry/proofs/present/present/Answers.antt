-- `present` meets its contract. Assumes nothing.
use mathlib.Core.Path.{sym}
use Rattle.std.proofs.lemmas.Result.{err_from_is_err_and}
use Rattle.reference.specs.Entry.{sheet_refusal}
use Rattle.entry.proofs.Admitting.{told_stopped, told_admitted}
use Rattle.entry.proofs.Sheets.{present_odd, present_refused, present_meets, number_not_zero}
use Rattle.entry.proofs.present.present.Goals as goal

pub returns-then-path-eq1 : goal.returns-then-path-eq1
returns-then-path-eq1 c = present_odd _ _ c.if-path-eq1.true

pub returns-in_err-bounds : goal.returns-in_err-bounds
returns-in_err-bounds c =
    let p = err_from_is_err_and c.from_residual.result c.from_residual.ensures.1 in rw (p.1, p.2)
    (present_refused c.args.rect c.args.path.now c.if-path-eq1.false _ (number_not_zero _) (sym (told_stopped c.args.path.now (sheet_refusal 4096 c.args.rect c.args.path.now) c.admit_sheet.result c.admit_sheet.ensures _ c.in_err-bounds.was)))

pub returns : goal.returns
returns c =
    let (e, k) = told_admitted c.args.path.now (sheet_refusal 4096 c.args.rect c.args.path.now) c.admit_sheet.result c.admit_sheet.ensures _ c.in_ok-bounds.was in
    present_meets c.args.rect c.args.path.now c.if-path-eq1.false (sym e) c.is_empty.ensures c.intersects.ensures k
