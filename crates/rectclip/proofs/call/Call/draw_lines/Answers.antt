-- `draw_lines` meets its contract: an empty rectangle, bounds that miss it, and the walk.
use mathlib.Core.Path.{sym, ◌∙◌, ap}
use Prim.Native.Nat.{◌/◌}
use lib.ListN.{length}
use Rattle.plane.specs.Rectangle.{intersects}
use Rattle.rectclip.proofs.Calls.{same_call}
use Rattle.rectclip.proofs.Delivering.{gives_none, gives_same, gives_refusal}
use Rattle.rectclip.proofs.Entering.{line_empty, line_missed, line_walked, line_refused}
use Rattle.rectclip.proofs.Opening.{walk_fresh}
use Rattle.rectclip.proofs.Steps.{done_is, refused_is}
use Rattle.rectclip.proofs.Walking.{thrown}
use Rattle.rectclip.proofs.call.Call.draw_lines.Goals as goal

pub returns-then-is_empty : goal.returns-then-is_empty
returns-then-is_empty c = record { same = same_call c.args.self.now; gives = gives_none (line_empty c.args.self.now.rect c.args.self.now.path.now (length c.args.self.now.store.now / 2) (sym c.is_empty.ensures ∙ c.if-is_empty.true)) c.no_paths.ensures }

pub returns-then-not-intersects : goal.returns-then-not-intersects
returns-then-not-intersects c = record {
  same = same_call c.args.self.now;
  gives = gives_none (line_missed c.args.self.now.rect c.args.self.now.path.now (length c.args.self.now.store.now / 2) (sym c.is_empty.ensures ∙ c.if-is_empty.false) (sym (c.intersects.ensures ∙ ap (intersects c.args.self.now.rect) c.args.self.now.admitted.bound) ∙ c.if-not-intersects.true)) c.no_paths-then-not-intersects.ensures;
}

pub walk_open-requires : goal.walk_open-requires
walk_open-requires c = rw c.new.ensures (walk_fresh _ _)

pub returns-in_err-walk_open-clause-gives : goal.returns-in_err-walk_open-clause-gives
returns-in_err-walk_open-clause-gives c =
    rw (thrown c.from_residual.result c.from_residual.ensures)
    (gives_refusal _ (line_refused c.args.self.now.rect c.args.self.now.path.now (length c.args.self.now.store.now / 2) (sym c.is_empty.ensures ∙ c.if-is_empty.false) (sym (c.intersects.ensures ∙ ap (intersects c.args.self.now.rect) c.args.self.now.admitted.bound) ∙ c.if-not-intersects.false) _ (refused_is c.walk_open.ensures c.in_err-walk_open.was)))

pub returns-clause-gives : goal.returns-clause-gives
returns-clause-gives c = gives_same (sym (line_walked c.args.self.now.rect c.args.self.now.path.now (length c.args.self.now.store.now / 2) (sym c.is_empty.ensures ∙ c.if-is_empty.false) (sym (c.intersects.ensures ∙ ap (intersects c.args.self.now.rect) c.args.self.now.admitted.bound) ∙ c.if-not-intersects.false) _ (done_is c.walk_open.ensures c.in_ok-walk_open.was))) c.deliver_lines.ensures
