-- `firmware::words::put_word` meets its contract: the four low bytes stand from `at` on.
use Rattle.std.proofs.Common.{◌≡◌, ◌+◌, ◌-◌, ◌∙◌, arith, sym, take, drop, append_assoc}
use Rattle.std.proofs.lemmas.List.Edits.{sets-eq}
use Rattle.reference.specs.Exported.{word}
use lib.Seq.{drop-drop}
use Rattle.firmware.proofs.words.put_word.Goals as goal

pub returns : goal.returns
returns c =
    let e : c.args.at + 4 - c.args.at ≡ 4 = omega arith in
    rw (e, c.copy_from_slice.ensures.after, c.to_le_bytes.ensures, drop-drop 4 c.args.at c.args.out.now) (sym (sets-eq (word c.args.n) c.args.out.now c.args.at c.requires ∙ append_assoc (take c.args.at c.args.out.now) (word c.args.n) (drop (c.args.at + 4) c.args.out.now)))
