-- `get_start` meets its contract, one law for each way.
use mathlib.Core.Path.{sym, ◌∙◌}
use Rattle.rectclip.proofs.Starts.{start_none, start_stub, start_lost, start_small, start_left}
use Rattle.rectclip.proofs.arena.Arena.get_start.Goals as goal

pub returns-in_err-op : goal.returns-in_err-op
returns-in_err-op c = rw (c.from_residual.ensures, c.in_err-op.was) start_none

pub returns-then-is_stub : goal.returns-then-is_stub
returns-then-is_stub c = rw c.in_ok-op.was (start_stub c.in_ok-op.op (rw c.in_ok-op.was at c.requires) (sym c.is_stub.ensures ∙ c.if-is_stub.true))

pub returns-in_err-start : goal.returns-in_err-start
returns-in_err-start c =
    rw (c.from_residual-in_err-start.ensures, c.in_ok-op.was)
    (start_lost c.in_ok-op.op (rw c.in_ok-op.was at c.requires) (sym c.is_stub.ensures ∙ c.if-is_stub.false) c.straighten.result c.straighten.ensures c.in_err-start.was)

pub returns-then-is_stub-2 : goal.returns-then-is_stub-2
returns-then-is_stub-2 c =
    rw c.in_ok-op.was
    (start_small c.in_ok-op.op (rw c.in_ok-op.was at c.requires) (sym c.is_stub.ensures ∙ c.if-is_stub.false) c.straighten.result c.straighten.ensures c.in_ok-start.start c.in_ok-start.was (sym c.is_stub-2.ensures ∙ c.if-is_stub-2.true))

pub returns : goal.returns
returns c =
    rw c.in_ok-op.was
    (start_left c.in_ok-op.op (rw c.in_ok-op.was at c.requires) (sym c.is_stub.ensures ∙ c.if-is_stub.false) c.straighten.result c.straighten.ensures c.in_ok-start.start c.in_ok-start.was (sym c.is_stub-2.ensures ∙ c.if-is_stub-2.false))
