-- `last_off` meets its contract: what the search backwards finds is the last.
use Rattle.std.proofs.Common.{rules, subst}
use Rattle.std.specs.Iterator.Runs.{ItemsCountDown}
use Rattle.std.proofs.iter.runs.Sources.{range_runs_back}
use Rattle.plane.specs.Points.{points_of}
use Rattle.rectclip.proofs.OffEdges.{off_at, last_is}
use Rattle.rectclip.proofs.Positions.{counts_down, found_last}
use Rattle.rectclip.proofs.walk.Walker.last_off.Goals as goal

pub returns : goal.returns
returns c =
    let (p, from, ran) = c.find_map.ensures.runs in
    let (q, source, same) = c.rev.ensures.runs p p.seen from in
    let down : ItemsCountDown p 0 c.args.n = counts_down p q 0 c.args.n same (subst (λ s. ItemsCountDown q s.start s.end) source (range_runs_back q q.seen)) in
    last_is c.args.self.now.rect (points_of c.args.self.now.path.now) c.args.n c.find_map.result
    (found_last p _ _ (off_at c.args.self.now.rect (points_of c.args.self.now.path.now)) (λ a r f q. search rules) (λ x r q. search rules) c.args.n down c.find_map.result ran)
