-- `get` meets its contract: what the list holds fits the answer.
use Rattle.rectclip.specs.Memory.{at}
use borrow.Author.Rules.{rules}
use Rattle.rectclip.proofs.lists.get.Goals as goal

pub returns : goal.returns
unfolding at
returns c = search rules
