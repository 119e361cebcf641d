-- `text::writing::fit` meets its contract.
use Rattle.std.proofs.Common.{sym, length, ◌++◌, arith}
use lib.ListN.{length-append}
use borrow.Author.Tests.{le-leb}
use Rattle.text.specs.Printing.{comma_numbers}
use Rattle.text.proofs.Puts.{commas_length, fit_left, fit_none}
use Rattle.text.proofs.Widths.{commas_width}
use Rattle.text.proofs.writing.fit.Goals as goal

pub returns-then-head-tail : goal.returns-then-head-tail
returns-then-head-tail c =
    let w = commas_width (c.args.head.now ++ c.args.tail.now) in
    sym (le-leb _ _ (omega (arith, c.if-head-tail.true, w, length-append c.args.head.now c.args.tail.now)))

pub returns-in-Some : goal.returns-in-Some
returns-in-Some c =
    rw (commas_length c.args.head.now c.args.tail.now, c.is_some.ensures, c.room_after-in-Some.ensures)
    (fit_left c.args.room (length (comma_numbers c.args.head.now)) (length (comma_numbers c.args.tail.now)) c.in-Some.ensures)

pub returns-in-None : goal.returns-in-None
returns-in-None c =
    rw (commas_length c.args.head.now c.args.tail.now)
    (fit_none c.args.room (length (comma_numbers c.args.head.now)) (length (comma_numbers c.args.tail.now)) c.in-None.ensures)
