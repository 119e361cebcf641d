-- `draw_closed` meets its contract: nothing, the path as it came, or the path walked, in the definition's order.
use mathlib.Core.Path.{sym, ◌∙◌, ap}
use Prim.Native.Nat.{◌/◌}
use lib.ListN.{length}
use Rattle.plane.specs.Rectangle.{intersects, contains_rect}
use Rattle.rectclip.proofs.ClosedEntry.{drawn_empty, drawn_short, drawn_missed, drawn_copied, drawn_walked, is_walked_here}
use Rattle.rectclip.proofs.Calls.{same_call}
use Rattle.rectclip.proofs.Delivering.{gives_none, gives_same}
use Rattle.rectclip.proofs.call.Call.draw_closed.Goals as goal

pub returns-then-is_empty : goal.returns-then-is_empty
returns-then-is_empty c = record { same = same_call c.args.self.now; gives = gives_none (drawn_empty c.args.self.now.rect c.args.self.now.path.now (length c.args.self.now.store.now / 2) c.args.self.now.allowance (sym c.is_empty.ensures ∙ c.if-is_empty.true)) c.no_paths.ensures }

pub returns-then-self-lt3 : goal.returns-then-self-lt3
returns-then-self-lt3 c = record { same = same_call c.args.self.now; gives = gives_none (drawn_short c.args.self.now.rect c.args.self.now.path.now (length c.args.self.now.store.now / 2) c.args.self.now.allowance (sym c.is_empty.ensures ∙ c.if-is_empty.false) c.if-self-lt3.true) c.no_paths-then-self-lt3.ensures }

pub returns-then-not-intersects : goal.returns-then-not-intersects
returns-then-not-intersects c = record {
  same = same_call c.args.self.now;
  gives = gives_none (drawn_missed c.args.self.now.rect c.args.self.now.path.now (length c.args.self.now.store.now / 2) c.args.self.now.allowance (sym c.is_empty.ensures ∙ c.if-is_empty.false) c.if-self-lt3.false (sym (c.intersects.ensures ∙ ap (intersects c.args.self.now.rect) c.args.self.now.admitted.bound) ∙ c.if-not-intersects.true)) c.no_paths-then-not-intersects.ensures;
}

pub deliver_copy-requires : goal.deliver_copy-requires
deliver_copy-requires c = record { even = c.args.self.now.admitted.even; few = c.args.self.now.admitted.short }

pub returns-then-contains_rect : goal.returns-then-contains_rect
returns-then-contains_rect c = record {
  same = same_call c.args.self.now;
  gives = gives_same (sym (drawn_copied c.args.self.now.rect c.args.self.now.path.now (length c.args.self.now.store.now / 2) c.args.self.now.allowance (sym c.is_empty.ensures ∙ c.if-is_empty.false) c.if-self-lt3.false (sym (c.intersects.ensures ∙ ap (intersects c.args.self.now.rect) c.args.self.now.admitted.bound) ∙ c.if-not-intersects.false) (sym (c.contains_rect.ensures ∙ ap (contains_rect c.args.self.now.rect) c.args.self.now.admitted.bound) ∙ c.if-contains_rect.true))) c.deliver_copy.ensures;
}

pub clip_path-requires : goal.clip_path-requires
clip_path-requires c =
    is_walked_here c.args.self.now.rect c.args.self.now.path.now (length c.args.self.now.store.now / 2) c.args.self.now.allowance (sym c.is_empty.ensures ∙ c.if-is_empty.false) c.if-self-lt3.false (sym (c.intersects.ensures ∙ ap (intersects c.args.self.now.rect) c.args.self.now.admitted.bound) ∙ c.if-not-intersects.false) (sym (c.contains_rect.ensures ∙ ap (contains_rect c.args.self.now.rect) c.args.self.now.admitted.bound) ∙ c.if-contains_rect.false)

pub returns : goal.returns
returns c = record {
  same = c.clip_path.ensures.same;
  gives = gives_same (sym (drawn_walked c.args.self.now.rect c.args.self.now.path.now (length c.args.self.now.store.now / 2) c.args.self.now.allowance (sym c.is_empty.ensures ∙ c.if-is_empty.false) c.if-self-lt3.false (sym (c.intersects.ensures ∙ ap (intersects c.args.self.now.rect) c.args.self.now.admitted.bound) ∙ c.if-not-intersects.false) (sym (c.contains_rect.ensures ∙ ap (contains_rect c.args.self.now.rect) c.args.self.now.admitted.bound) ∙ c.if-contains_rect.false))) c.clip_path.ensures.gives;
}
