-- `walk_closed` meets its contract: no points, off the edges at once, all on the edges, or the last point off them tells. Assumes nothing.
use mathlib.Core.Path.{refl}
use Rattle.rectclip.proofs.ClosedWalk.{walk_none, walk_off, walk_edges, walk_inside, walk_outside}
use Rattle.rectclip.proofs.Steps.{ends_as, lost_as}
use Rattle.rectclip.proofs.Walking.{thrown}
use borrow.Author.Rules.{rules}
use Rattle.rectclip.proofs.walk.Walker.walk_closed.Goals as goal

pub returns-then-n-eq0 : goal.returns-then-n-eq0
returns-then-n-eq0 c = record {
  outlines =
      walk_none c.args.self.now c.requires.1 c.if-n-eq0.true;
  corners = search rules;
}

pub returns-then-at_last : goal.returns-then-at_last
returns-then-at_last c = record {
  outlines =
      walk_off c.args.self.now c.requires.1 c.if-n-eq0.false c.point_at.ensures c.get_location-at_last.ensures c.if-at_last.true c.walk_from.ensures.outlines;
  corners = search rules;
}

pub returns-in_err-add_all : goal.returns-in_err-add_all
returns-in_err-add_all c = record {
  outlines =
      rw (thrown c.from_residual.result c.from_residual.ensures)
      (lost_as (walk_edges c.args.self.now c.requires.1 c.if-n-eq0.false c.point_at.ensures c.get_location-at_last.ensures c.if-at_last.false c.last_off.ensures c.in_default.is c.add_all.ensures) c.in_err-add_all.was);
  corners = search rules;
}

pub returns-in_default : goal.returns-in_default
returns-in_default c = record {
  outlines =
      ends_as (walk_edges c.args.self.now c.requires.1 c.if-n-eq0.false c.point_at.ensures c.get_location-at_last.ensures c.if-at_last.false c.last_off.ensures c.in_default.is c.add_all.ensures) c.in_ok-add_all.was refl;
  corners = search rules;
}

pub returns-then-is_inside : goal.returns-then-is_inside
returns-then-is_inside c = record {
  outlines =
      walk_inside c.args.self.now c.requires.1 c.if-n-eq0.false c.point_at.ensures c.get_location-at_last.ensures c.if-at_last.false c.last_off.ensures c.in-Some.is c.is_inside.ensures c.if-is_inside.true c.walk_from-then-is_inside.ensures.outlines;
  corners = search rules;
}

pub returns : goal.returns
returns c = record {
  outlines =
      walk_outside c.args.self.now c.requires.1 c.if-n-eq0.false c.point_at.ensures c.get_location-at_last.ensures c.if-at_last.false c.last_off.ensures c.in-Some.is c.is_inside.ensures c.if-is_inside.false c.walk_from-2.ensures.outlines;
  corners = search rules;
}
