-- `firmware::words::put_words` meets its contract.
use Rattle.firmware.proofs.Bytes.{item_again}
use Rattle.firmware.proofs.words.put_words.Goals as goal

pub loop-i-preserved : goal.loop-i-preserved
loop-i-preserved g c = item_again g.T.Word.low c.args.items.now c.loop-i.invariant c.loop-i-test.true c.index-items-i.is c.low.ensures c.put_word.ensures
