-- `idle_along` meets its contract: each pass is a turn of the definition that changes nothing.
use native.Mathlib.Omega.{arith}
use mathlib.Core.Path.{◌≡◌, sym, ◌∙◌, ap}
use Prim.Native.Nat.{◌+◌, ◌-◌}
use Rattle.rectclip.specs.Arenas.{mark}
use Rattle.rectclip.proofs.Seeking.{sought_there, entry_some}
use Rattle.rectclip.proofs.Idling.{idles_sought, idles_apart}
use Rattle.rectclip.proofs.arena.Arena.idle_along.Goals as goal

pub returns-then-self-ccw-clause-turns : goal.returns-then-self-ccw-clause-turns
returns-then-self-ccw-clause-turns c = idles_sought c.loop-taken.invariant.idles c.ccw-ccw.ensures c.seek.ensures

pub unwrap-root2-requires : goal.unwrap-root2-requires
unwrap-root2-requires c =
    entry_some c.args.self.now _ _ _ _ c.ccw-ccw.result.within c.seek.ensures (omega (arith, c.if-self-ccw.false)) c.entry_of-in-loop-taken.ensures.is

pub returns-then-overlap-clause-turns : goal.returns-then-overlap-clause-turns
returns-then-overlap-clause-turns c = idles_sought c.loop-taken.invariant.idles c.ccw-ccw.ensures c.seek.ensures

pub loop-taken-preserved : goal.loop-taken-preserved
loop-taken-preserved c =
    let on = idles_sought c.loop-taken.invariant.idles c.ccw-ccw.ensures c.seek.ensures in
    let root1 = sym (ap mark c.unwrap-root1.ensures) ∙ c.entry_of.ensures.is in
    let root2 = sym (ap mark c.unwrap-root2.ensures) ∙ c.entry_of-in-loop-taken.ensures.is in
    let one : c.args.allowed - c.loop-taken.taken - 1 ≡ c.args.allowed - (c.loop-taken.taken + 1) = omega arith in
    record {
      idles = rw one at
          (idles_apart c.requires on c.loop-taken.invariant.entry (omega arith) c.cw.ensures c.ccw-ccw.ensures _ root1 c.if-self-ccw.false (sought_there c.seek.ensures) _ root2
          c.four_of-f.result c.four_of-f.ensures (rw c.four_of-f.ensures.side_is at c.overlap.ensures) c.if-overlap.false);
      entry = c.loop-taken.invariant.entry;
    }
