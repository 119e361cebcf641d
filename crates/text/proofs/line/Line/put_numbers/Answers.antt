-- `put_numbers` meets its contract.
use Rattle.std.proofs.Common.{get_or, pos, rules}
use mir.Syntax.{w64}
use mir.Val.{SFits}
use mir.Facts.{to_z-of_z}
use Rattle.text.proofs.Puts.{puts_room, puts_again}
use Rattle.text.proofs.line.Line.put_numbers.Goals as goal

pub put_number-requires : goal.put_number-requires
put_number-requires c =
    let f : SFits w64 (get_or c.args.list.now c.loop-z.z-index (pos 0)) = search rules in
    rw (to_z-of_z f) (puts_room c.loop-z.invariant c.requires (search rules))

pub loop-z-preserved : goal.loop-z-preserved
loop-z-preserved c =
    let f : SFits w64 (get_or c.args.list.now c.loop-z.z-index (pos 0)) = search rules in
    puts_again c.loop-z.invariant (search rules) (rw (to_z-of_z f) at c.put_number.ensures)
