-- `admit_sheet` meets its contract: the first check that fails answers. Assumes nothing.
use mathlib.Core.Path.{sym, ◌∙◌}
use borrow.Author.Tests.{not-true, not-false}
use native.Mathlib.Omega.{arith}
use Rattle.entry.specs.declared.answer.Refusal.TheVariants.{PathTooLong, RectangleOutside, PathOutside}
use Rattle.entry.proofs.Sheets.{too_long, rect_outside, path_outside, sheet_passes}
use Rattle.entry.proofs.Admitting.{stops, admits}
use Rattle.entry.proofs.PathBounds.{surveyed_bounds, surveyed_limit}
use Rattle.entry.proofs.admission.admit_sheet.Goals as goal

pub returns-then-path-gt-MAX_POINTS : goal.returns-then-path-gt-MAX_POINTS
returns-then-path-gt-MAX_POINTS c = stops PathTooLong c.args.path.now _ (too_long _ _ _ (omega arith))

pub returns-then-not-in_limit : goal.returns-then-not-in_limit
returns-then-not-in_limit c =
    stops RectangleOutside c.args.path.now _ (rect_outside _ _ _ (omega arith) (sym c.in_limit.ensures ∙ c.if-not-in_limit.true))

pub returns-then-not-seen : goal.returns-then-not-seen
returns-then-not-seen c =
    stops PathOutside c.args.path.now _ (path_outside _ _ _ (omega arith) (sym c.in_limit.ensures ∙ c.if-not-in_limit.false) (sym (surveyed_limit c.args.path.now c.survey-seen.ensures c.requires) ∙ not-true _ c.if-not-seen.true))

pub returns : goal.returns
returns c =
    admits c.args.path.now _ (sheet_passes _ _ _ (omega arith) (sym c.in_limit.ensures ∙ c.if-not-in_limit.false) (sym (surveyed_limit c.args.path.now c.survey-seen.ensures c.requires) ∙ not-false _ c.if-not-seen.false)) (surveyed_bounds c.args.path.now c.survey-seen.ensures)
