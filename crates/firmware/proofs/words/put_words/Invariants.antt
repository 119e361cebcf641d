-- `firmware::words::put_words`: the first i numbers are put.
use Rattle.std.proofs.Common.{map}
use Rattle.firmware.proofs.Bytes.{PutTo}
use Rattle.firmware.proofs.words.put_words.Given as goal

abbrev pub invariant-loop-i : goal.invariant-loop-i
invariant-loop-i g l = PutTo (map g.T.Word.low l.items) l.fn.out l.out l.i
