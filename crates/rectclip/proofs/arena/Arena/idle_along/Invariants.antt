-- `idle_along` meets its contract: each pass is a turn of the definition that changes nothing.
use mathlib.Core.Path.{◌≡◌}
use Prim.Native.Nat.{◌-◌}
use Rattle.rectclip.specs.Turns.{Idles}
use Rattle.rectclip.proofs.arena.Arena.idle_along.Given as goal

abbrev pub invariant-loop-taken : goal.invariant-loop-taken
invariant-loop-taken l = record {
  idles : Idles l.self l.fn.at l.allowed (record { at = l.at; left = l.allowed - l.taken });
  entry : l.at.i ≡ l.fn.at.i;
}
