-- `program::input::take_held` meets its contract.
use Rattle.std.proofs.Common.{arith}
use Rattle.program.proofs.HeldBytes.{feed_at, holds_line}
use Rattle.program.proofs.input.take_held.Goals as goal

pub returns : goal.returns
returns c =
    holds_line c.args.hand.now c.args.line.now c.args.from (feed_at c.args.hand.now c.find_feed-feed.ensures) c.unwrap_or.ensures c.is_some-ended.ensures c.from.ensures c.min-start.ensures c.min-stored.ensures (omega arith) c.copy_from_slice.ensures.after
