-- `text::reading::read_path` meets its contract.
use Rattle.text.proofs.Lines.{path_read}
use Rattle.text.proofs.reading.read_path.Goals as goal

pub returns : goal.returns
returns c = path_read c.args.closed c.args.bytes.now c.args.list.now _ _ c.in_ok-count.ensures c.store_behind.ensures
