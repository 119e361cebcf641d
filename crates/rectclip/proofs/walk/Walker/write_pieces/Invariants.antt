-- `write_pieces` meets its contract: the results up to `j` stand in the two lists.
use Rattle.rectclip.proofs.WritePieces.{Writing}
use Rattle.rectclip.proofs.walk.Walker.write_pieces.Given as goal

abbrev pub invariant-loop-j : goal.invariant-loop-j
invariant-loop-j l = Writing l.self l.initial.output l.output l.j
