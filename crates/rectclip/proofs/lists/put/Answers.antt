-- `put` meets its contract.
use Rattle.rectclip.specs.Memory.{put}
use borrow.Author.Rules.{rules}
use Rattle.rectclip.proofs.lists.put.Goals as goal

pub returns : goal.returns
unfolding put
returns c = search rules
