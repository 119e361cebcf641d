-- `program::input::Input::take_line` meets its contract.
use Rattle.program.proofs.Taken.{begun_as, line_first, line_is, line_ended, line_end, line_again, never, is_line}
use Rattle.program.proofs.input.Input.take_line.Goals as goal

pub loop-i-init : goal.loop-i-init
loop-i-init g c = record { line = line_first (begun_as _ c.is_empty-begun.ensures) c.take_at_hand-taken.ensures.taken; unread = c.take_at_hand-taken.ensures.unread }

pub returns-then-taken-clause-line : goal.returns-then-taken-clause-line
returns-then-taken-clause-line g c = is_line (line_ended c.loop-i.invariant.line c.if-taken.true)

pub returns-then-read_more-eq0-clause-taken : goal.returns-then-read_more-eq0-clause-taken
returns-then-read_more-eq0-clause-taken g c = line_is (line_end c.loop-i.invariant.line c.if-taken.false c.if-read_more-eq0.true c.read_more.ensures) c.then_some.ensures

pub returns-then-read_more-eq0-clause-line : goal.returns-then-read_more-eq0-clause-line
returns-then-read_more-eq0-clause-line g c = is_line (line_is (line_end c.loop-i.invariant.line c.if-taken.false c.if-read_more-eq0.true c.read_more.ensures) c.then_some.ensures)

pub returns-then-read_more-eq0-clause-unread : goal.returns-then-read_more-eq0-clause-unread
returns-then-read_more-eq0-clause-unread g c = never c.loop-i.invariant.line c.if-taken.false

pub loop-i-preserved : goal.loop-i-preserved
loop-i-preserved g c = record {
  line = line_again c.loop-i.invariant.line c.if-taken.false c.if-read_more-eq0.false c.read_more.ensures c.take_at_hand-taken-in-loop-i.ensures.taken;
  unread = never c.loop-i.invariant.line c.if-taken.false;
}

pub returns-clause-line : goal.returns-clause-line
returns-clause-line g c = is_line (line_is c.loop-i.invariant.line c.then_some-2.ensures)
