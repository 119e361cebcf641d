-- `text::writing::write_line` meets its contract.
use Rattle.std.proofs.Common.{sym, arith}
use borrow.Author.Tests.{leb-true}
use Rattle.text.proofs.Puts.{line_length, commas_length, written_all}
use Rattle.text.proofs.writing.write_line.Goals as goal

pub returns : goal.returns
returns c =
    let f = leb-true _ _ (sym c.if-not-fit.ensures) in
    written_all (omega (arith, f, c.in_ok-room.ensures, line_length c.args.letter c.args.head.now c.args.tail.now, commas_length c.args.head.now c.args.tail.now)) c.put_line.ensures
