-- `line_walk_from` meets its contract: the first point, and the passes.
use Rattle.rectclip.specs.Steps.{full, points}
use Rattle.rectclip.proofs.Steps.{named, step_then, step_lost}
use Rattle.rectclip.proofs.Opening.{passes_at, from_parts}
use Rattle.rectclip.proofs.Walking.{thrown}
use Rattle.rectclip.proofs.walk.Walker.line_walk_from.Goals as goal

pub returns-in_err-first_point : goal.returns-in_err-first_point
returns-in_err-first_point c =
    rw (thrown c.from_residual.result c.from_residual.ensures)
    (named (step_lost c.first_point.ensures c.in_err-first_point.was (passes_at c.args.loc (full c.args.self.now) c.args.self.now.rect (points c.args.self.now))) (from_parts _ c.args.self.now.rect _ c.args.loc c.requires.0))

pub returns : goal.returns
returns c =
    named (step_then c.first_point.ensures c.in_ok-first_point.was (passes_at c.args.loc) c.line_passes.ensures) (from_parts _ c.args.self.now.rect _ c.args.loc c.requires.0)
