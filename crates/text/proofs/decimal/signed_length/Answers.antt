-- `text::decimal::signed_length` meets its contract.
use Rattle.std.proofs.Common.{◌∙◌, ap, length}
use mir.Facts.{to_z-of_z}
use Rattle.text.proofs.DecimalText.{signed_decimal_is}
use Rattle.text.proofs.decimal.signed_length.Goals as goal

pub returns : goal.returns
returns c = ap length ((rw (to_z-of_z c.ranges.z) at c.format.ensures.text) ∙ signed_decimal_is c.args.z c.ranges.z)
