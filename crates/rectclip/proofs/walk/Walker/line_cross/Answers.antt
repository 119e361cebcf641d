-- `line_cross` meets its contract: entering, passing right through, or exiting.
use mathlib.Core.Path.{sym, ◌∙◌}
use Rattle.rectclip.proofs.Crossing.{entered, passed, exited}
use Rattle.rectclip.proofs.walk.Walker.line_cross.Goals as goal

pub returns-then-is_inside : goal.returns-then-is_inside
returns-then-is_inside c = entered c.args.self.now c.args.at c.args.c.prev c.args.c.segment.from c.args.c.segment.to c.args.c.ip.point (sym c.is_inside.ensures ∙ c.if-is_inside.true) c.add.ensures

pub returns-then-not-is_inside : goal.returns-then-not-is_inside
returns-then-not-is_inside c =
    passed c.args.self.now c.args.at c.args.c.prev c.args.c.segment.from c.args.c.segment.to c.args.c.ip.point (sym c.is_inside.ensures ∙ c.if-is_inside.false) (sym c.is_inside-2.ensures ∙ c.if-not-is_inside.true) (c.line_through.ensures c.args.at)

pub returns : goal.returns
returns c =
    exited c.args.self.now c.args.at c.args.c.prev c.args.c.segment.from c.args.c.segment.to c.args.c.ip.point (sym c.is_inside.ensures ∙ c.if-is_inside.false) (sym c.is_inside-2.ensures ∙ c.if-not-is_inside.false) c.add-2.ensures
