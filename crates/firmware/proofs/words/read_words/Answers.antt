-- `firmware::words::read_words` meets its contract.
use Rattle.std.proofs.Common.{refl, rules}
use mir.Syntax.{w64}
use mir.Val.{SFits}
use mir.Facts.{to_z-of_z}
use Rattle.firmware.proofs.Bytes.{read_again, read_end}
use Rattle.firmware.proofs.words.read_words.Goals as goal

pub loop-i-preserved : goal.loop-i-preserved
loop-i-preserved c =
    let f : SFits w64 c.read_word.result = search rules in
    read_again c.loop-i.invariant c.loop-i-test.true (simp to_z-of_z c.read_word.ensures) refl

pub returns : goal.returns
returns c = read_end c.loop-i.invariant c.loop-i-test.false
