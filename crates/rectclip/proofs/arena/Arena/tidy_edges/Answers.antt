-- `tidy_edges` meets its contract, one law for each way.
use Rattle.rectclip.proofs.Tidying.{tidy_none, tidy_some}
use Rattle.rectclip.proofs.arena.Arena.tidy_edges.Goals as goal

pub returns-then-self-ccw-eq0 : goal.returns-then-self-ccw-eq0
returns-then-self-ccw-eq0 c = λ A h. tidy_none c.args.self.now c.args.side c.args.allowed A h c.requires (rw c.ccw-ccw.ensures at c.if-self-ccw-eq0.true)

pub returns : goal.returns
returns c = λ A h. tidy_some c.args.self.now c.args.side c.args.allowed A h (rw c.ccw-ccw.ensures at c.if-self-ccw-eq0.false) c.take_turns.result (c.take_turns.ensures A h)
