-- `scan` meets its contract: what is left to pass over from `i` on ends where the whole scan ends.
use mathlib.Core.Path.{refl}
use Rattle.integers.specs.Tests.{back}
use Rattle.rectclip.proofs.Scanning.{scan_stops, scan_again, scan_ends}
use Rattle.rectclip.proofs.next.scan.Goals as goal

pub returns-then-not-is_past : goal.returns-then-not-is_past
returns-then-not-is_past c =
    scan_stops c.loop-i.invariant c.requires c.loop-i-test.true (back c.is_past-arg-1.given refl) c.is_past.ensures (c.if-not-is_past.true)

pub loop-i-preserved : goal.loop-i-preserved
loop-i-preserved c =
    scan_again c.loop-i.invariant c.requires c.loop-i-test.true (back c.is_past-arg-1.given refl) c.is_past.ensures (c.if-not-is_past.false)

pub returns : goal.returns
returns c = scan_ends c.loop-i.invariant c.loop-i-test.false c.max.ensures
