-- `entry_of` meets its contract: the cell read is the list's entry, a node or the mark.
use mathlib.Core.Path.{◌∙◌}
use native.Mathlib.Omega.{arith}
use Rattle.rectclip.proofs.Changes.{list_long, entry_at}
use Rattle.rectclip.proofs.Stores.{some_in}
use Rattle.rectclip.proofs.arena.Arena.entry_of.Goals as goal

pub returns-clause-is : goal.returns-clause-is
returns-clause-is c = c.unmarked.ensures.is ∙ c.get.ensures ∙ entry_at c.args.self.now c.args.list.idx c.args.j c.args.list.within c.requires

pub returns-clause-within : goal.returns-clause-within
returns-clause-within c =
    some_in _ c.args.self.now.sizes.nodes _ (c.unmarked.ensures.is ∙ c.get.ensures ∙ entry_at c.args.self.now c.args.list.idx c.args.j c.args.list.within c.requires) c.unmarked.ensures.some
    (c.args.self.now.holds.valid.entry_in c.args.list.idx c.args.j c.args.list.within (omega (arith, list_long c.args.self.now c.args.list.idx c.args.list.within)))
