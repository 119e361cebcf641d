-- `walk_open` meets its contract: short paths, a first point off the edges, and one on them.
use mathlib.Core.Path.{sym, ◌∙◌, ap}
use Rattle.plane.specs.Basics.{ok}
use Rattle.rectclip.proofs.Steps.{stays, named}
use Rattle.rectclip.proofs.Opening.{open_short, open_off, open_edges, open_inside, open_outside}
use Rattle.rectclip.proofs.walk.Walker.walk_open.Goals as goal

pub returns-then-self-lt2 : goal.returns-then-self-lt2
returns-then-self-lt2 c = stays (ap ok c.requires ∙ open_short c.args.self.now.rect c.args.self.now.path.now c.args.self.now.store.now c.if-self-lt2.true)

pub returns-then-at_first : goal.returns-then-at_first
returns-then-at_first c =
    named c.line_walk_from.ensures (open_off c.args.self.now.rect c.args.self.now.path.now c.args.self.now.store.now c.point_at.ensures c.get_location-at_first.ensures c.if-self-lt2.false c.if-at_first.true)

pub returns-in_default : goal.returns-in_default
returns-in_default c =
    named (rw c.requires at c.add_all.ensures) (open_edges c.args.self.now.rect c.args.self.now.path.now c.args.self.now.store.now c.point_at.ensures c.get_location-at_first.ensures c.if-self-lt2.false c.if-at_first.false c.first_off_edge.ensures c.in_default.is)

pub returns-then-is_inside : goal.returns-then-is_inside
returns-then-is_inside c =
    named c.line_walk_from-then-is_inside.ensures (open_inside c.args.self.now.rect c.args.self.now.path.now c.args.self.now.store.now c.point_at.ensures c.get_location-at_first.ensures c.if-self-lt2.false c.if-at_first.false c.first_off_edge.ensures c.in-Some.is (sym c.is_inside.ensures ∙ c.if-is_inside.true))

pub returns : goal.returns
returns c =
    named c.line_walk_from-2.ensures (open_outside c.args.self.now.rect c.args.self.now.path.now c.args.self.now.store.now c.point_at.ensures c.get_location-at_first.ensures c.if-self-lt2.false c.if-at_first.false c.first_off_edge.ensures c.in-Some.is (sym c.is_inside.ensures ∙ c.if-is_inside.false))
