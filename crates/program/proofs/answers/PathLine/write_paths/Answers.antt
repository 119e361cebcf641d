-- `program::answers::PathLine::write_paths` meets its contract.
use Rattle.program.proofs.Lines.{paths_again, paths_end, part_here, line_room}
use Rattle.program.proofs.answers.PathLine.write_paths.Goals as goal

pub split_at-requires : goal.split_at-requires
split_at-requires c =
    part_here (c.loop-points.invariant c.requires.paths c.requires.holds) c.loop-points-test.true

pub add_path-end-requires : goal.add_path-end-requires
add_path-end-requires c =
    line_room (c.loop-points.invariant c.requires.paths c.requires.holds) c.loop-points-test.true c.split_at.ensures.front c.split_at.ensures.back

pub loop-points-preserved : goal.loop-points-preserved
loop-points-preserved c = λ all h. paths_again (c.loop-points.invariant all h) c.loop-points-test.true c.split_at.ensures.front c.split_at.ensures.back c.add_path-end.ensures

pub returns : goal.returns
returns c = record { is = λ all h. paths_end (c.loop-points.invariant all h) c.loop-points-test.false }
