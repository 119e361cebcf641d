-- `text::numbers::room_after` meets its contract.
use Rattle.std.proofs.Common.{get_or, pos, ◌∙◌, arith, rules}
use mir.Syntax.{w64}
use mir.Val.{SFits}
use mir.Facts.{to_z-of_z}
use Rattle.text.proofs.Widths.{number_width}
use Rattle.text.proofs.Puts.{room_out, room_again, room_end}
use Rattle.text.proofs.numbers.room_after.Goals as goal

pub overflow_add-signed_length : goal.overflow_add-signed_length
overflow_add-signed_length c = record { fits = omega (arith, c.signed_length.ensures, number_width) }

pub returns-in_err-left : goal.returns-in_err-left
returns-in_err-left c =
    let f : SFits w64 (get_or c.args.list.now c.loop-z.z-index (pos 0)) = search rules in
    c.from_residual.ensures ∙ room_out c.loop-z.invariant (search rules) (rw (to_z-of_z f) at c.signed_length.ensures) (omega (arith, c.in_err-left.ensures))

pub loop-z-preserved : goal.loop-z-preserved
loop-z-preserved c =
    let f : SFits w64 (get_or c.args.list.now c.loop-z.z-index (pos 0)) = search rules in
    rw c.in_ok-left.ensures.1 (room_again c.loop-z.invariant (search rules) (rw (to_z-of_z f) at c.signed_length.ensures) (omega (arith, c.in_ok-left.ensures.0)))

pub returns : goal.returns
returns c = room_end c.loop-z.invariant (search rules)
