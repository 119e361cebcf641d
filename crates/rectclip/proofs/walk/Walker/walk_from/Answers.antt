-- `walk_from` meets its contract: the passes, and what follows them. Assumes nothing.
use Rattle.reference.specs.Walk.{after_while}
use Rattle.rectclip.specs.Steps.{full, points}
use Rattle.rectclip.proofs.ClosedWalk.{from_parts}
use Rattle.rectclip.proofs.Steps.{named, step_then, step_lost}
use Rattle.rectclip.proofs.Walking.{thrown}
use borrow.Author.Rules.{rules}
use Rattle.rectclip.proofs.walk.Walker.walk_from.Goals as goal

pub returns-in_err-s : goal.returns-in_err-s
returns-in_err-s c = record {
  outlines =
      rw (thrown c.from_residual.result c.from_residual.ensures)
      (named (step_lost (rw c.new.ensures at c.passes.ensures) c.in_err-s.was (after_while (full c.args.self.now) c.args.self.now.rect (points c.args.self.now) c.args.loc)) (from_parts _ c.args.self.now.rect _ c.args.loc c.requires.1));
  corners = search rules;
}

pub returns : goal.returns
returns c = record {
  outlines =
      named (step_then (rw c.new.ensures at c.passes.ensures) c.in_ok-s.was (λ full rect path. after_while full rect path c.args.loc) c.after_while.ensures.outlines) (from_parts _ c.args.self.now.rect _ c.args.loc c.requires.1);
  corners = search rules;
}
