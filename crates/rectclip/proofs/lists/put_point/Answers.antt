-- `put_point` meets its contract.
use Rattle.rectclip.specs.Memory.{put_point}
use borrow.Author.Rules.{rules}
use Rattle.rectclip.proofs.lists.put_point.Goals as goal

pub returns : goal.returns
unfolding put_point
returns c = search rules
