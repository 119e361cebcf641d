-- `is_entry` meets its contract: the cell read is the list's entry.
use mathlib.Core.Path.{◌∙◌, ap}
use lib.Dec.{eqb}
use Rattle.rectclip.proofs.Changes.{entry_at}
use Rattle.rectclip.proofs.arena.Arena.is_entry.Goals as goal

pub returns : goal.returns
returns c = ap (λ x. eqb x c.args.op) (c.get.ensures ∙ entry_at c.args.self.now c.args.list.idx c.args.j c.args.list.within c.requires)
