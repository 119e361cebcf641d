-- `count_pieces` meets its contract: the results up to `j` are counted, and their points.
use Rattle.rectclip.proofs.Results.{count_done}
use Rattle.rectclip.proofs.WritePieces.{count_long, count_short}
use Rattle.rectclip.proofs.walk.Walker.count_pieces.Goals as goal
use Rattle.rectclip.proofs.walk.Walker.count_pieces.Goals.{then-n-gt1, else-n-gt1}

pub loop-j-preserved : goal.loop-j-preserved
loop-j-preserved c =
    elim c.if-n-gt1.branch [
      | then-n-gt1 w ↦ rw w.tally-is (count_long c.args.self.now c.loop-j-test.true c.loop-j.invariant c.piece.ensures w.if-n-gt1.true)
      | else-n-gt1 w ↦ rw w.tally-is (count_short c.args.self.now c.loop-j-test.true c.loop-j.invariant c.piece.ensures w.if-n-gt1.false)
    ]

pub returns : goal.returns
returns c = count_done c.args.self.now c.loop-j.invariant c.loop-j-test.false
