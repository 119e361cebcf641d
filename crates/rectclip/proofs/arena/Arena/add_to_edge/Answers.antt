-- `add_to_edge` meets its contract, one law for each way.
use mathlib.Core.Path.{sym, ◌∙◌}
use Rattle.rectclip.proofs.EdgeLists.{entered_before, entered}
use Rattle.rectclip.proofs.arena.Arena.add_to_edge.Goals as goal

pub returns-then-is_some : goal.returns-then-is_some
returns-then-is_some c = entered_before c.requires _ c.edge_of.ensures (sym c.is_some.ensures ∙ c.if-is_some.true)

pub returns : goal.returns
returns c = entered c.requires _ c.edge_of.ensures (sym c.is_some.ensures ∙ c.if-is_some.false) c.set_edge.ensures c.push_entry.ensures
