-- `text::reading::read_rectangle` meets its contract.
use lib.ListN.{get_or}
use lib.IntN.{pos}
use mir.Syntax.{w64}
use mir.Val.{SFits}
use mir.Facts.{to_z-of_z}
use Rattle.text.proofs.Lines.{rectangle_read}
use borrow.Author.Rules.{rules}
use Rattle.text.proofs.reading.read_rectangle.Goals as goal

pub returns : goal.returns
returns c =
    let four = c.store_behind.new.list in
    let f0 : SFits w64 (get_or four 0 (pos 0)) = search rules in
    let f1 : SFits w64 (get_or four 1 (pos 0)) = search rules in
    let f2 : SFits w64 (get_or four 2 (pos 0)) = search rules in
    let f3 : SFits w64 (get_or four 3 (pos 0)) = search rules in
    simp to_z-of_z (rectangle_read c.args.bytes.now _ four c.in_ok-count.ensures (search rules) c.store_behind.ensures)
