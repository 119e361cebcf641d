-- `scan` meets its contract: what is left to pass over from `i` on ends where the whole scan ends.
use Rattle.rectclip.proofs.Scanning.{Scanning}
use Rattle.rectclip.proofs.next.scan.Given as goal

abbrev pub invariant-loop-i : goal.invariant-loop-i
invariant-loop-i l = Scanning l.path l.line l.from l.i
