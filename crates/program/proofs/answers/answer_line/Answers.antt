-- `program::answers::answer_line` meets its contract.
use Rattle.std.specs.Prelude.{Some}
use Rattle.std.proofs.Common.{◌≡◌, false, pos, replicate, arith, rules}
use lib.ListN.{length-replicate}
use mir.Facts.{to_z-of_z}
use Rattle.text.specs.declared.reading.Request.TheVariants.{Path}
use Rattle.text.specs.Asked.{request, told, tells}
use Rattle.program.proofs.Given.{answer_path}
use Rattle.program.proofs.Exact.{answer_exact}
use Rattle.program.proofs.answers.answer_line.Goals as goal

pub returns-in-Some-Path-clause-gives : goal.returns-in-Some-Path-clause-gives
returns-in-Some-Path-clause-gives c =
    let e : told (Some (Path c.in-Some-Path.closed c.in-Some-Path.count)) ≡ tells (request false c.args.bytes.now) = search rules in
    answer_path c.args.rect c.args.line (request false c.args.bytes.now) (replicate 2048 (pos 0)) e (omega (arith, length-replicate 2048 (pos 0))) c.read_line-request.ensures.list_after (to_z-of_z c.ranges.line) c.answer_numbers.ensures.gives

pub returns-in-Some-Path-clause-exact : goal.returns-in-Some-Path-clause-exact
returns-in-Some-Path-clause-exact c =
    let e : told (Some (Path c.in-Some-Path.closed c.in-Some-Path.count)) ≡ tells (request false c.args.bytes.now) = search rules in
    answer_exact (request false c.args.bytes.now) (answer_path c.args.rect c.args.line (request false c.args.bytes.now) (replicate 2048 (pos 0)) e (omega (arith, length-replicate 2048 (pos 0))) c.read_line-request.ensures.list_after (to_z-of_z c.ranges.line) c.answer_numbers.ensures.gives)
