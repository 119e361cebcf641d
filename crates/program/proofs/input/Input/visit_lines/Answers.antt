-- `program::input::Input::visit_lines` meets its contract.
use Rattle.std.specs.Prelude.{Result, Ok, Err}
use Rattle.std.specs.Result.{IsErrAnd}
use Rattle.std.proofs.Common.{◌≡◌, ap, rules}
use mir.Syntax.{w64}
use mir.Facts.{to_z_pos}
use Rattle.program.proofs.Visiting.{visited_start, visited_many, visited_end, visited_stop, visited_last, visited_next}
use Rattle.program.proofs.input.Input.visit_lines.Goals as goal

thrown : {A E : Type 0} {r : Result A E} {e : E} → IsErrAnd r (λ e'. e' ≡ e) → r ≡ Err e
thrown {A} {E} {r} {e} = go r
  where
    go : (r : Result A E) → IsErrAnd r (λ e'. e' ≡ e) → r ≡ Err e
    go (Ok a) h = absurd h
    go (Err e') h = ap Err h

pub loop-number-init : goal.loop-number-init
loop-number-init g c = record { long = search rules; visited = visited_start }

pub returns-in_default : goal.returns-in_default
returns-in_default g c = visited_end c.loop-number.invariant.visited c.take_line.ensures.taken c.in_default.is

pub returns-in_err-visit : goal.returns-in_err-visit
returns-in_err-visit g c =
    rw (thrown c.from_residual.ensures.1) (visited_stop c.loop-number.invariant.visited c.take_line.ensures.taken c.in-Some.is c.loop-number.invariant.long c.loop-number-test.true (to_z_pos w64 (search rules)) c.in_err-visit.ensures)

pub returns-then-not-taken : goal.returns-then-not-taken
returns-then-not-taken g c =
    visited_last c.loop-number.invariant.visited c.take_line.ensures.taken c.in-Some.is c.loop-number.invariant.long c.loop-number-test.true (to_z_pos w64 (search rules)) (search rules) c.in_ok-visit.ensures

pub loop-number-preserved : goal.loop-number-preserved
loop-number-preserved g c = record {
  long = search rules;
  visited = visited_next c.loop-number.invariant.visited c.take_line.ensures.taken c.in-Some.is c.loop-number.invariant.long c.loop-number-test.true (to_z_pos w64 (search rules)) (search rules) c.in_ok-visit.ensures;
}

pub returns : goal.returns
returns g c = visited_many c.loop-number.invariant.visited c.loop-number-test.false
