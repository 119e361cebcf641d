-- `text::numbers::room_after`: each number's bytes are taken off the room.
use Rattle.text.proofs.Puts.{RoomTo}
use Rattle.text.proofs.numbers.room_after.Given as goal

abbrev pub invariant-loop-z : goal.invariant-loop-z
invariant-loop-z l = RoomTo l.list l.room l.left l.z-index
