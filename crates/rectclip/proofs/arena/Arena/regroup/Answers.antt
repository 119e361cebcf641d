-- `regroup` meets its contract, one law for each way.
use Rattle.rectclip.proofs.Turns.{groups_joined, groups_split}
use Rattle.rectclip.proofs.arena.Arena.regroup.Goals as goal

pub returns-then-rejoining : goal.returns-then-rejoining
returns-then-rejoining c =
    groups_joined c.args.f.side.idx c.args.f c.args.rejoining c.if-rejoining.true c.join.ensures

pub returns : goal.returns
returns c =
    groups_split c.args.f.side.idx c.args.f c.args.rejoining c.if-rejoining.false c.split.ensures
