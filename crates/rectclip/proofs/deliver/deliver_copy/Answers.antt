-- `deliver_copy` meets its contract: refusal 11, or the path as it came.
use Rattle.rectclip.proofs.Walking.{thrown}
use Rattle.rectclip.proofs.Handing.{copy_short, may_copy, copied_all}
use Rattle.rectclip.proofs.deliver.deliver_copy.Goals as goal

pub returns-in_err-drawn : goal.returns-in_err-drawn
returns-in_err-drawn c =
    rw (thrown c.from_residual.result c.from_residual.ensures) (copy_short c.args.path.now c.in_err-drawn.ensures)

pub put_path-requires : goal.put_path-requires
put_path-requires c = may_copy c.args.path.now c.in_ok-drawn.ensures c.requires

pub returns : goal.returns
returns c = copied_all c.args.path.now c.in_ok-drawn.ensures c.put_path.ensures
