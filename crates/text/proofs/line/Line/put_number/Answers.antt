-- `put_number` meets its contract.
use Rattle.std.proofs.Common.{◌∙◌}
use mir.Facts.{to_z-of_z}
use Rattle.text.specs.Decimal.{signed_decimal}
use Rattle.text.proofs.DecimalText.{signed_decimal_is}
use Rattle.text.proofs.Puts.{puts_then, room_then}
use Rattle.text.proofs.line.Line.put_number.Goals as goal

pub put-requires-2 : goal.put-requires-2
put-requires-2 c =
    rw (c.as_bytes.ensures.value ∙ (rw (to_z-of_z c.ranges.z) at c.format.ensures.text) ∙ signed_decimal_is c.args.z c.ranges.z) (room_then (signed_decimal c.args.z) c.requires c.put.ensures)

pub returns : goal.returns
returns c =
    puts_then c.put.ensures (rw (c.as_bytes.ensures.value ∙ (rw (to_z-of_z c.ranges.z) at c.format.ensures.text) ∙ signed_decimal_is c.args.z c.ranges.z) at c.put-2.ensures)
