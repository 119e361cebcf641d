-- `put_path` meets its contract: the points up to `i` are put, and the path ends behind them.
use Rattle.rectclip.proofs.Writing.{path_room, path_more, path_whole}
use Rattle.rectclip.proofs.output.Output.put_path.Goals as goal

pub put_point-requires : goal.put_point-requires
put_point-requires c = path_room c.requires c.loop-i.invariant c.loop-i-test.true

pub loop-i-preserved : goal.loop-i-preserved
loop-i-preserved c = path_more c.requires c.loop-i.invariant c.loop-i-test.true c.point_at.ensures c.put_point.ensures

pub returns : goal.returns
returns c = path_whole c.requires c.loop-i.invariant c.loop-i-test.false c.end_path.ensures
