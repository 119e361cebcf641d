-- `idle_turns` meets its contract: the turns at one clockwise entry, and one turn to the next entry.
use mathlib.Core.Path.{◌≡◌}
use Rattle.rectclip.specs.Turns.{Idles}
use Rattle.rectclip.proofs.arena.Arena.idle_turns.Given as goal

abbrev pub invariant-loop-i : goal.invariant-loop-i
invariant-loop-i l = record {
  idles : Idles l.self l.fn.at l.allowed l.progress;
  here : l.progress.at.i ≡ l.i;
}
