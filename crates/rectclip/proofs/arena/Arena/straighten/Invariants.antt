-- `straighten` meets its contract: the loop passes as often as the definition's, and leaves where it does.
use Prim.Native.Nat.{◌*◌, ◌-◌}
use Rattle.rectclip.proofs.Straightening.{Straightening}
use Rattle.rectclip.proofs.arena.Arena.straighten.Given as goal

abbrev pub invariant-loop-pass : goal.invariant-loop-pass
invariant-loop-pass l = Straightening (l.initial.self.sizes.nodes * l.initial.self.sizes.nodes) l.initial.self l.initial.op l.initial.op2 l.self l.op l.op2 (l._pass-end - l._pass)
