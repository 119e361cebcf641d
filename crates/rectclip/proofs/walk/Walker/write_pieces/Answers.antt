-- `write_pieces` meets its contract: the results up to `j` stand in the two lists.
use Rattle.rectclip.proofs.WritePieces.{writing_none, writing_puts, writing_more, writing_same, writing_done}
use Rattle.rectclip.proofs.walk.Walker.write_pieces.Goals as goal
use Rattle.rectclip.proofs.walk.Walker.write_pieces.Goals.{then-piece-gt2, else-piece-gt2}

pub loop-j-init : goal.loop-j-init
loop-j-init c = writing_none _ _

pub put_path-requires : goal.put_path-requires
put_path-requires c =
    rw c.piece-piece.ensures (writing_puts c.args.self.now c.loop-j.invariant c.loop-j-test.true (rw c.piece-piece.ensures at c.if-piece-gt2.true) c.requires)

pub loop-j-preserved : goal.loop-j-preserved
loop-j-preserved c =
    elim c.if-piece-gt2.branch [
      | then-piece-gt2 w ↦ rw w.output-is (writing_more c.args.self.now c.loop-j.invariant c.loop-j-test.true (rw c.piece-piece.ensures at w.if-piece-gt2.true) (rw c.piece-piece.ensures at w.put_path.ensures))
      | else-piece-gt2 w ↦ rw w.output-is (writing_same c.args.self.now c.loop-j.invariant c.loop-j-test.true (rw c.piece-piece.ensures at w.if-piece-gt2.false))
    ]

pub returns : goal.returns
returns c = writing_done c.args.self.now c.loop-j.invariant c.loop-j-test.false
