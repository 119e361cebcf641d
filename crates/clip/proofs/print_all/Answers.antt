-- `clip::print_all` meets its contract.
use Rattle.std.proofs.Common.{rules}
use Rattle.std.proofs.lemmas.Result.{on_ok_weaker}
use Rattle.clip.proofs.Printing.{from_nothing, first_refused, first_alone, first_and_others}
use Rattle.clip.proofs.print_all.Goals as goal

pub returns-in-Ok : goal.returns-in-Ok
returns-in-Ok g c =
    on_ok_weaker c.print_answers.result
    (first_and_others (from_nothing c.new-lines.ensures c.take_line.ensures.taken) c.unwrap_or_default-first.result c.unwrap_or_default-first.ensures (search rules) c.answer_first-start.ensures c.in-Ok.is c.in_ok-write_all.ensures.bytes c.if-first.true)
    c.print_answers.ensures

pub returns-in_default : goal.returns-in_default
returns-in_default g c =
    first_alone (from_nothing c.new-lines.ensures c.take_line.ensures.taken) c.unwrap_or_default-first.result c.unwrap_or_default-first.ensures (search rules) c.answer_first-start.ensures c.in-Ok.is c.in_ok-write_all.ensures.bytes c.if-first.false

pub returns-in_default-2 : goal.returns-in_default-2
returns-in_default-2 g c =
    first_refused (from_nothing c.new-lines.ensures c.take_line.ensures.taken) c.unwrap_or_default-first.result c.unwrap_or_default-first.ensures (search rules) c.answer_first-start.ensures c.in_default.is c.in_ok-write_all.ensures.bytes
