-- `after_while` meets its contract, by its four cases. Assumes nothing.
use mathlib.Core.Path.{refl, ap, ◌∙◌}
use Rattle.std.specs.Prelude.{not}
use Rattle.plane.proofs.Equality.{same_location_is}
use Rattle.rectclip.proofs.Outlining.{after_inside, after_surround, after_closes, after_stays}
use Rattle.rectclip.proofs.Steps.{ends_as, lost_as}
use Rattle.rectclip.proofs.Walking.{thrown}
use borrow.Author.Rules.{rules}
use Rattle.rectclip.proofs.walk.Walker.after_while.Goals as goal

pub returns-then-is_inside-2 : goal.returns-then-is_inside-2
returns-then-is_inside-2 c = record {
  outlines =
      after_inside c.args.self.now c.args.starting_loc c.args.s c.is_inside.ensures c.if-is_inside.true c.is_inside-then-is_inside.ensures c.if-is_inside-2.true;
  corners = search rules;
}

pub returns-then-is_inside : goal.returns-then-is_inside
returns-then-is_inside c = record {
  outlines =
      after_surround c.args.self.now c.args.starting_loc c.args.s c.is_inside.ensures c.if-is_inside.true c.is_inside-then-is_inside.ensures c.if-is_inside-2.false c.surround.ensures.outlines;
  corners = search rules;
}

pub returns-in_err-close_outline : goal.returns-in_err-close_outline
returns-in_err-close_outline c = record {
  outlines =
      rw (thrown c.from_residual.result c.from_residual.ensures)
      (lost_as (after_closes c.args.self.now c.args.starting_loc c.args.s c.is_inside.ensures c.if-is_inside.false c.is_inside-2.ensures (c.ne.ensures ∙ ap not (same_location_is c.args.s.loc c.args.s.first_cross)) refl c.if-is_inside-ne.true c.close_outline.ensures) c.in_err-close_outline.was);
  corners = search rules;
}

pub returns-then-is_inside-ne : goal.returns-then-is_inside-ne
returns-then-is_inside-ne c = record {
  outlines =
      ends_as (after_closes c.args.self.now c.args.starting_loc c.args.s c.is_inside.ensures c.if-is_inside.false c.is_inside-2.ensures (c.ne.ensures ∙ ap not (same_location_is c.args.s.loc c.args.s.first_cross)) refl c.if-is_inside-ne.true c.close_outline.ensures) c.in_ok-close_outline.was refl;
  corners = search rules;
}

pub returns : goal.returns
returns c = record {
  outlines =
      after_stays c.args.self.now c.args.starting_loc c.args.s c.is_inside.ensures c.if-is_inside.false c.is_inside-2.ensures (c.ne.ensures ∙ ap not (same_location_is c.args.s.loc c.args.s.first_cross)) refl c.if-is_inside-ne.false;
  corners = search rules;
}
