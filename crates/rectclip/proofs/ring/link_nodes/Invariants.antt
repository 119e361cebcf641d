-- `link_nodes` meets its contract: the nodes passed are linked, and the loop passes all.
use Rattle.rectclip.proofs.Building.{Linking}
use Rattle.rectclip.proofs.ring.link_nodes.Given as goal

abbrev pub invariant-loop-i : goal.invariant-loop-i
invariant-loop-i l = Linking l.n l.initial.work l.work l.prev l.i
