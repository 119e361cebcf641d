-- `program::input::Input::hand` meets its contract.
use Rattle.std.proofs.Common.{◌≡◌, min, length, sym, rules}
use Rattle.program.proofs.HeldBytes.{hand_cut}
use Rattle.program.proofs.input.Input.hand.Goals as goal

pub returns : goal.returns
returns g c =
    let end : c.min-end.result ≡ min c.args.self.now.end (length c.args.self.now.buffer) = search rules in
    sym (hand_cut c.args.self.now.buffer c.args.self.now.at c.args.self.now.end end c.min-at.ensures)
