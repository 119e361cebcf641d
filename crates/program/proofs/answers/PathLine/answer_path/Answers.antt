-- `program::answers::PathLine::answer_path` meets its contract.
use Rattle.std.proofs.Common.{sym, rules}
use lib.Seq.{length-take-le}
use mir.Syntax.{w64}
use mir.Val.{SFits}
use mir.Facts.{to_z-of_z}
use Rattle.program.proofs.Given.{refused_line, paths_here, path_refused, path_printable, path_drawn}
use Rattle.program.proofs.Exact.{path_exact}
use Rattle.program.proofs.answers.PathLine.answer_path.Goals as goal

pub slice_bounds-lengths-end : goal.slice_bounds-lengths-end
slice_bounds-lengths-end c =
    paths_here c.args.self.closed c.args.self.line c.args.rect c.args.path.now c.requires c.clip-answer.ensures.leaves _ c.in-Ok.is

pub slice_bounds-write_paths-end-in-Ok : goal.slice_bounds-write_paths-end-in-Ok
slice_bounds-write_paths-end-in-Ok c = sym (length-take-le _ _ (paths_here c.args.self.closed c.args.self.line c.args.rect c.args.path.now c.requires c.clip-answer.ensures.leaves _ c.in-Ok.is))

pub returns-in-Err-clause-gives : goal.returns-in-Err-clause-gives
returns-in-Err-clause-gives c =
    let f : SFits w64 c.args.self.line = search rules in
    path_refused c.args.self.closed c.args.self.line c.args.rect c.args.path.now c.requires c.clip-answer.ensures.leaves _ c.in-Err.is (refused_line _ (to_z-of_z f) c.write_why.ensures)

pub write_paths-requires : goal.write_paths-requires
write_paths-requires c =
    path_printable c.args.self.closed _ c.args.rect c.args.path.now c.requires c.clip-answer.ensures.leaves _ c.in-Ok.is c.args.out.now (search rules)

pub returns-in-Ok-clause-gives : goal.returns-in-Ok-clause-gives
returns-in-Ok-clause-gives c =
    path_drawn c.args.self.closed c.args.self.line c.args.rect c.args.path.now c.requires c.clip-answer.ensures.leaves _ c.in-Ok.is c.args.out.now (search rules) c.write_paths.ensures

pub returns-in-Ok-clause-exact : goal.returns-in-Ok-clause-exact
returns-in-Ok-clause-exact c =
    path_exact (path_drawn c.args.self.closed c.args.self.line c.args.rect c.args.path.now c.requires c.clip-answer.ensures.leaves _ c.in-Ok.is c.args.out.now (search rules) c.write_paths.ensures)
