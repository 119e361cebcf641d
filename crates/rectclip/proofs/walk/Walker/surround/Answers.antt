-- `surround` meets its contract: nothing, or the four corners. Assumes nothing.
use mathlib.Core.Path.{ap}
use mathlib.Core.Bool.{not}
use Rattle.rectclip.proofs.Outlining.{surround_none, surround_lost, surround_all, surround_counts}
use Rattle.rectclip.proofs.Walking.{thrown}
use borrow.Author.Rules.{rules}
use Rattle.rectclip.proofs.walk.Walker.surround.Goals as goal

pub returns-then-not-path_contains : goal.returns-then-not-path_contains
returns-then-not-path_contains c = record {
  outlines =
      surround_none c.args.self.now c.path_contains.ensures (ap not c.if-not-path_contains.true);
  corners = search rules;
}

pub returns-in_err-add_round : goal.returns-in_err-add_round
returns-in_err-add_round c = record {
  outlines =
      rw (thrown c.from_residual.result c.from_residual.ensures)
      (surround_lost c.args.self.now c.path_contains.ensures (ap not c.if-not-path_contains.false) c.start_locs_are_clockwise-is_clockwise.ensures c.add_round.ensures c.in_err-add_round.was);
  corners = search rules;
}

pub returns : goal.returns
returns c = record {
  outlines =
      surround_all c.args.self.now c.path_contains.ensures (ap not c.if-not-path_contains.false) c.start_locs_are_clockwise-is_clockwise.ensures c.add_round.ensures c.in_ok-add_round.was;
  corners = surround_counts c.args.self.now c.path_contains.ensures (ap not c.if-not-path_contains.false) c.start_locs_are_clockwise-is_clockwise.ensures c.add_round.ensures c.in_ok-add_round.was;
}
