-- `program::answers::write_why` meets its contract.
use mir.Syntax.{w64}
use mir.Val.{to_z, of_z}
use Rattle.program.proofs.Given.{why_some}
use Rattle.program.proofs.answers.write_why.Goals as goal

pub unwrap-requires : goal.unwrap-requires
unwrap-requires c = why_some (to_z w64 (of_z w64 c.args.line)) _ c.requires c.write_refusal.ensures
