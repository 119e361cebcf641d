-- `text::reading::read_line` meets its contract.
use Rattle.std.proofs.Common.{rules}
use Rattle.text.proofs.Lines.{nothing_asked, empty_asked, request_long, line_rectangle, line_no_rectangle, line_closed, line_open, line_other}
use Rattle.text.proofs.reading.read_line.Goals as goal

pub returns-then-line-gt-MAX_LINE : goal.returns-then-line-gt-MAX_LINE
returns-then-line-gt-MAX_LINE c = nothing_asked _ (request_long c.args.first c.args.line.now (search rules))

pub returns-in_err-letter : goal.returns-in_err-letter
returns-in_err-letter c = rw c.from_residual.ensures (empty_asked c.args.first c.args.line.now c.args.list.now c.in_err-letter.ensures.cases)

pub returns-in-true-eq82 : goal.returns-in-true-eq82
returns-in-true-eq82 c = line_rectangle c.args.list.now c.in_ok-letter.ensures.cases.0 (search rules) c.in-true-eq82.is-0 c.in-true-eq82.is-1 c.read_rectangle.ensures

pub returns-in-false-eq67 : goal.returns-in-false-eq67
returns-in-false-eq67 c = line_closed c.args.list.now c.in_ok-letter.ensures.cases.0 (search rules) c.in-false-eq67.is-0 c.in-false-eq67.is-1 c.read_path.ensures

pub returns-in-false-eq76 : goal.returns-in-false-eq76
returns-in-false-eq76 c = line_open c.args.list.now c.in_ok-letter.ensures.cases.0 (search rules) c.in-false-eq76.is-0 c.in-false-eq76.is-1 c.read_path-in-false-eq76.ensures

pub returns-in_default : goal.returns-in_default
returns-in_default c = line_no_rectangle c.args.list.now c.in_ok-letter.ensures.cases.0 (search rules) c.in_default.is-0 c.in_default.is-1.1

pub returns-in_default-2 : goal.returns-in_default-2
returns-in_default-2 c = let h = c.in_default.is-1 in line_other c.args.list.now c.in_ok-letter.ensures.cases.0 (search rules) c.in_default.is-0 h.0.1 h.1
