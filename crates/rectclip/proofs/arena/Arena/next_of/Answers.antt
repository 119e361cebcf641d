-- `next_of` meets its contract: the cell read is the arena's entry, which is in its range.
use mathlib.Core.Path.{sym, ◌∙◌}
use Rattle.rectclip.proofs.Arenas.{next_at}
use Rattle.rectclip.proofs.arena.Arena.next_of.Goals as goal

pub returns-clause-is : goal.returns-clause-is
returns-clause-is c = c.get.ensures ∙ sym (next_at _ _ _ c.requires)

pub returns-clause-within : goal.returns-clause-within
returns-clause-within c =
    rw (c.get.ensures, ← next_at c.args.self.now.work.now c.args.self.now.sizes c.args.i c.requires) (c.args.self.now.holds.valid.next_in c.args.i c.requires)
