-- `drop_collinear` meets its contract: the loop passes as often as the definition's, and leaves where it does.
use Prim.Native.Nat.{◌+◌, ◌*◌, ◌-◌}
use Rattle.rectclip.proofs.Dropping.{Dropping}
use Rattle.rectclip.proofs.arena.Arena.drop_collinear.Given as goal

abbrev pub invariant-loop-pass : goal.invariant-loop-pass
invariant-loop-pass l = Dropping (2 * l.initial.self.sizes.nodes + 1) l.initial.self l.initial.op l.initial.op2 l.self l.op l.op2 (l._pass-end - l._pass)
