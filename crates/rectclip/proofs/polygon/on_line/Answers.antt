-- `on_line` meets its contract. Assumes nothing.
use borrow.Author.Rules.{rules}
use mir.Syntax.{w64}
use mir.Val.{SFits}
use Rattle.integers.specs.Tests.{plain}
use Rattle.rectclip.specs.Scanned.{line_of}
use Rattle.rectclip.proofs.polygon.on_line.Goals as goal

pub returns : goal.returns
unfolding line_of
returns c =
    let known_known : SFits w64 c.args.pt.x × SFits w64 c.args.prev.x × SFits w64 c.args.prev.y × SFits w64 c.args.curr.x × SFits w64 c.args.curr.y = search rules in
    let (k0, k1, k2, k3, k4) = known_known in
    simp plain
