-- `program::input::Input::take_at_hand` meets its contract.
use Rattle.std.proofs.Common.{◌≡◌, ◌≤◌, min, length, refl, arith, rules}
use Rattle.program.proofs.HeldBytes.{used_within, takes_at_hand, at_behind}
use Rattle.program.proofs.input.Input.take_at_hand.Goals as goal

pub overflow_add-self : goal.overflow_add-self
overflow_add-self g c =
    let within : c.min-at.result ≤ c.min-end.result = omega arith in
    omega (arith, used_within c.args.self.now.buffer within c.take_held-held.ensures)

pub returns-clause-taken : goal.returns-clause-taken
returns-clause-taken g c =
    let end : c.min-end.result ≡ min c.args.self.now.end (length c.args.self.now.buffer) = search rules in
    takes_at_hand c.args.self.now.buffer c.args.line.now c.args.self.now.at c.args.self.now.end c.args.from end c.min-at.ensures refl c.take_held-held.ensures

pub returns-clause-unread : goal.returns-clause-unread
returns-clause-unread g c =
    let end : c.min-end.result ≡ min c.args.self.now.end (length c.args.self.now.buffer) = search rules in
    λ feed. record {
      at = at_behind c.args.self.now.buffer c.args.self.now.at c.args.self.now.end end c.min-at.ensures c.take_held-held.ensures feed;
      end = refl;
      buffer = refl;
    }
