-- `program::answers::answer_rectangle` meets its contract.
use Rattle.std.proofs.Common.{arith}
use Rattle.program.proofs.Fits.{rectangle_width}
use Rattle.program.proofs.Lines.{some_written}
use Rattle.program.proofs.answers.answer_rectangle.Goals as goal

pub unwrap-count-requires : goal.unwrap-count-requires
unwrap-count-requires c = some_written (omega (arith, c.told-out, rectangle_width c.args.rect)) c.write_rectangle.ensures
