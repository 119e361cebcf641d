-- `strike` meets its contract: the first entry that is the node, if there is one.
use mathlib.Core.Path.{refl, sym, ◌∙◌}
use Rattle.std.proofs.lemmas.Bool.{eqb-true}
use Rattle.rectclip.proofs.Striking.{striking_found, striking_none}
use Rattle.rectclip.proofs.arena.Arena.strike.Goals as goal

pub returns-then-is_entry : goal.returns-then-is_entry
returns-then-is_entry c =
    striking_found c.loop-i.invariant c.args.list.within c.loop-i-test.true _ refl (eqb-true _ _ (sym c.is_entry.ensures ∙ c.if-is_entry.true)) c.set_entry.ensures

pub returns : goal.returns
returns c = striking_none c.loop-i.invariant c.args.list.within c.loop-i-test.false
