-- `read_result` meets its contract, one law for each way.
use mathlib.Core.Path.{refl}
use Rattle.plane.specs.Basics.{none}
use Rattle.rectclip.proofs.Changes.{node_some}
use Rattle.rectclip.proofs.WriteOut.{write_none, write_room, write_ends, write_one}
use Rattle.rectclip.proofs.arena.Arena.read_result.Goals as goal

pub returns-in_default : goal.returns-in_default
returns-in_default c = write_none c.args.self.now c.args.i none c.in_default.ensures.is refl _

pub read_points-n-requires : goal.read_points-n-requires
read_points-n-requires c =
    (write_room c.args.self.now c.args.i c.in-Some.start c.in-Some.ensures.is (node_some c.args.self.now c.in-Some.start c.in-Some.ensures.within) c.requires.0, c.in-Some.ensures.within)

pub end_path-requires : goal.end_path-requires
end_path-requires c =
    write_ends c.args.self.now c.args.i c.in-Some.start c.in-Some.ensures.is (node_some c.args.self.now c.in-Some.start c.in-Some.ensures.within) c.requires.0 c.read_points-n.ensures

pub returns : goal.returns
returns c =
    write_one c.args.self.now c.args.i c.in-Some.start c.in-Some.ensures.is (node_some c.args.self.now c.in-Some.start c.in-Some.ensures.within) c.requires.0 c.read_points-n.ensures c.end_path.ensures
