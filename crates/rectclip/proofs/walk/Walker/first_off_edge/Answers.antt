-- `first_off_edge` meets its contract: what the search forwards finds is the first.
use Rattle.std.proofs.Common.{rules, ◌/◌, length, subst}
use Rattle.std.specs.Iterator.Runs.{ItemsCountUp}
use Rattle.std.proofs.iter.runs.Sources.{range_runs}
use Rattle.plane.specs.Points.{points_of}
use Rattle.rectclip.proofs.Coordinates.{points_length}
use Rattle.rectclip.proofs.OffEdges.{off_at, first_is}
use Rattle.rectclip.proofs.Positions.{found_first}
use Rattle.rectclip.proofs.walk.Walker.first_off_edge.Goals as goal

pub returns : goal.returns
returns c =
    let path = c.args.self.now.path.now in
    let (p, source, ran) = c.find_map.ensures.runs in
    let up : ItemsCountUp p 1 (length path / 2) = subst (λ s. ItemsCountUp p s.start s.end) source (range_runs p p.seen) in
    let first = found_first p _ _ (off_at c.args.self.now.rect (points_of path)) (λ a r f q. search rules) (λ x r q. search rules) 1 (length path / 2) up c.find_map.result ran in
    first_is c.args.self.now.rect (points_of path) 1 c.find_map.result (rw (points_length path) first)
