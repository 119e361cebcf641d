-- `firmware::words::read_words`: the first i numbers are read.
use Rattle.firmware.proofs.Bytes.{ReadTo}
use Rattle.firmware.proofs.words.read_words.Given as goal

abbrev pub invariant-loop-i : goal.invariant-loop-i
invariant-loop-i l = ReadTo l.bytes l.fn.path l.path l.i
