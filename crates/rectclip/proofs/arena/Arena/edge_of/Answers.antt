-- `edge_of` meets its contract: the cell read is the arena's entry, which is in its range or the mark.
use mathlib.Core.Path.{sym, ◌∙◌}
use Rattle.std.specs.Prelude.{Some}
use Rattle.rectclip.proofs.Arenas.{edge_at}
use Rattle.rectclip.proofs.Stores.{some_in}
use Rattle.rectclip.proofs.arena.Arena.edge_of.Goals as goal

pub returns-in_err-idx : goal.returns-in_err-idx
returns-in_err-idx c = rw c.from_residual.ensures (c.in_err-idx.ensures.is ∙ c.get.ensures ∙ sym (edge_at _ _ _ c.requires))

pub invariant_of-result : goal.invariant_of-result
invariant_of-result c =
    record {
      within = some_in (Some c.in_ok-idx.idx) 8 _ (c.in_ok-idx.ensures.is ∙ c.get.ensures ∙ sym (edge_at _ _ _ c.requires)) c.in_ok-idx.ensures.some (c.args.self.now.holds.valid.edge_in c.args.i c.requires);
    }

pub returns : goal.returns
returns c = c.in_ok-idx.ensures.is ∙ c.get.ensures ∙ sym (edge_at _ _ _ c.requires)
