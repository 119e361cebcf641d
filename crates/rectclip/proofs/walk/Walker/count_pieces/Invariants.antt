-- `count_pieces` meets its contract: the results up to `j` are counted, and their points.
use Rattle.rectclip.proofs.Results.{Counting}
use Rattle.rectclip.proofs.walk.Walker.count_pieces.Given as goal

abbrev pub invariant-loop-j : goal.invariant-loop-j
invariant-loop-j l = Counting l.self.store.now l.self.work.now l.self.state l.tally.paths l.tally.points l.j
