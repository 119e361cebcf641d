-- `program::input::Input::take_line`: whatever is read, the loop takes a buffer at a time.
use Rattle.std.specs.Prelude.{◌≡◌, true}
use Rattle.program.specs.Taken.{has_feed, at_hand, Unread}
use Rattle.program.proofs.Taken.{LineTo}
use Rattle.program.proofs.input.Input.take_line.Given as goal

abbrev pub invariant-loop-i : goal.invariant-loop-i
invariant-loop-i g l = record {
  line : LineTo (g.R.Read.remaining l.fn.input) (g.R.Read.remaining l.input) (at_hand l.fn.self) l.fn.line l.begun l.taken (at_hand l.self) l.line;
  unread : has_feed (at_hand l.fn.self) ≡ true → Unread l.fn.self l.self;
}
