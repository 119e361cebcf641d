-- `set_new_owner` meets its contract: the loop goes round as the definition does.
use mathlib.Core.Path.{refl}
use native.Mathlib.Omega.{arith}
use Rattle.rectclip.proofs.Owners.{owning_start, owning_again, owning_stop, owning_out}
use Rattle.rectclip.proofs.Stores.{leaves_by}
use Rattle.rectclip.proofs.arena.Arena.set_new_owner.Goals as goal

pub loop-pass-init : goal.loop-pass-init
loop-pass-init c = owning_start c.requires.1 c.requires.0 c.put.ensures c.get-op2.ensures

pub invariant_of-self : goal.invariant_of-self
invariant_of-self c = record { drawn = c.args.self.now.drawn; holds = c.loop-pass.invariant.holds }

pub invariant_of-self-then-op2-op : goal.invariant_of-self-then-op2-op
invariant_of-self-then-op2-op c = record { drawn = c.args.self.now.drawn; holds = c.loop-pass.invariant.holds }

pub returns-then-op2-op : goal.returns-then-op2-op
returns-then-op2-op c = leaves_by (owning_stop c.loop-pass.invariant c.if-op2-op.true) refl refl refl

pub loop-pass-preserved : goal.loop-pass-preserved
loop-pass-preserved c =
    owning_again c.requires.1 c.loop-pass.invariant (omega arith) c.if-op2-op.false c.put-in-loop-pass.ensures c.get-op2-in-loop-pass.ensures

pub returns : goal.returns
returns c = leaves_by (owning_out c.loop-pass.invariant (omega arith)) refl refl refl
