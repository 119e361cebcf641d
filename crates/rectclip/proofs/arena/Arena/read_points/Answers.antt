-- `read_points` meets its contract: the first point, and those that the iterator gives.
use Rattle.std.proofs.Common.{refl, sym, ap, ◌∙◌}
use Rattle.std.proofs.lemmas.List.{map-id}
use Rattle.std.proofs.lemmas.Iterator.Consumers.{YieldsList-from_first, YieldsList-turn, YieldsList-end}
use Rattle.rectclip.specs.Paths.{points_left}
use Rattle.rectclip.proofs.Writing.{pointed_then}
use Rattle.rectclip.proofs.ReadOut.{first_room, next_room, read_whole}
use Rattle.rectclip.proofs.arena.Arena.read_points.Goals as goal

pub put_point-requires : goal.put_point-requires
put_point-requires c = first_room c.args.self.now c.args.start c.requires.0

pub put_point-requires-in-loop-p : goal.put_point-requires-in-loop-p
put_point-requires-in-loop-p c =
    let road = YieldsList-from_first (λ x. x) points_left {s = c.into_iter-p-iterator.result} _ (ap points_left c.into_iter-p-iterator.ensures.into_iter_gives ∙ c.points_behind-p-items.ensures) in
    next_room c.args.self.now c.args.start c.loop-p.invariant c.requires.0 (YieldsList-turn road c.loop-p.yielded c.loop-p.p-iterator c.loop-p.yielded_by _ _ _ refl c.in-Some.ensures.steps).0

pub loop-p-preserved : goal.loop-p-preserved
loop-p-preserved c = pointed_then c.loop-p.invariant c.put_point-in-loop-p.ensures

pub returns : goal.returns
returns c =
    let road = YieldsList-from_first (λ x. x) points_left {s = c.into_iter-p-iterator.result} _ (ap points_left c.into_iter-p-iterator.ensures.into_iter_gives ∙ c.points_behind-p-items.ensures) in
    let whole = sym (map-id c.loop-p.yielded) ∙ (YieldsList-end road c.loop-p.yielded c.loop-p.p-iterator c.loop-p.yielded_by _ _ refl c.in-None.ensures.steps).0 in
    read_whole c.args.self.now c.args.start c.loop-p.invariant refl whole
