-- `text::writing::put_line` meets its contract. Assumes nothing.
use native.Mathlib.Omega.{arith}
use borrow.Author.Rules.{rules}
use Rattle.text.proofs.Puts.{head_room, tail_room, feed_room, line_put, line_ends}
use Rattle.text.proofs.writing.put_line.Goals as goal

pub put_numbers-requires : goal.put_numbers-requires
put_numbers-requires c = head_room c.args.letter c.args.head.now c.args.tail.now c.put.ensures (omega (arith, c.requires))

pub put_numbers-requires-2 : goal.put_numbers-requires-2
put_numbers-requires-2 c = tail_room c.args.letter c.args.head.now c.args.tail.now c.put.ensures (omega (arith, c.requires)) c.put_numbers.ensures

pub put-requires-2 : goal.put-requires-2
put-requires-2 c = feed_room c.args.letter c.args.head.now c.args.tail.now c.put.ensures (omega (arith, c.requires)) c.put_numbers.ensures c.put_numbers-2.ensures

pub returns : goal.returns
returns c =
    let p = line_put c.args.letter c.args.head.now c.args.tail.now c.put.ensures (omega (arith, c.requires)) c.put_numbers.ensures c.put_numbers-2.ensures c.put-2.ensures in
    line_ends p (search rules)
