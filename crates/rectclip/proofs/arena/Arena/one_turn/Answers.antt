-- `one_turn` meets its contract, one law for each way.
use native.Mathlib.Omega.{arith}
use mathlib.Core.Path.{refl, sym, ◌∙◌, ap}
use Rattle.plane.specs.Basics.{none}
use Rattle.rectclip.specs.Arenas.{mark}
use Rattle.rectclip.proofs.Changes.{node_some}
use Rattle.rectclip.proofs.Seeking.{entry_some}
use Rattle.rectclip.proofs.Turns.{turn_none, turn_stub, turn_end, turn_apart, turn_rejoined}
use Rattle.rectclip.proofs.arena.Arena.one_turn.Goals as goal

pub returns-in_default : goal.returns-in_default
returns-in_default c = turn_none c.args.at c.args.self.now none (rw c.cw-cw.ensures at c.in_default.ensures.is) refl

pub returns-then-is_stub : goal.returns-then-is_stub
returns-then-is_stub c =
    turn_stub c.args.at c.args.self.now c.in-Some.root1 (rw c.cw-cw.ensures at c.in-Some.ensures.is) (node_some c.args.self.now _ c.in-Some.ensures.within) (sym c.is_stub.ensures ∙ c.if-is_stub.true) (rw c.cw-cw.ensures at c.set_entry.ensures)

pub returns-then-self-ccw : goal.returns-then-self-ccw
returns-then-self-ccw c =
    turn_end c.args.at c.args.self.now c.in-Some.root1 (rw c.cw-cw.ensures at c.in-Some.ensures.is) (node_some c.args.self.now _ c.in-Some.ensures.within) (sym c.is_stub.ensures ∙ c.if-is_stub.false) c.seek-j.result (rw c.ccw-ccw.ensures at c.seek-j.ensures) (rw c.ccw-ccw.ensures at c.if-self-ccw.true)

pub unwrap-root2-requires : goal.unwrap-root2-requires
unwrap-root2-requires c = entry_some c.args.self.now _ _ _ _ c.ccw-ccw.result.within c.seek-j.ensures (omega (arith, c.if-self-ccw.false)) c.entry_of-2.ensures.is

pub returns-then-overlap : goal.returns-then-overlap
returns-then-overlap c =
    turn_rejoined c.args.at c.args.self.now c.in-Some.root1 (rw c.cw-cw.ensures at c.in-Some.ensures.is) (node_some c.args.self.now _ c.in-Some.ensures.within) (sym c.is_stub.ensures ∙ c.if-is_stub.false) c.seek-j.result (rw c.ccw-ccw.ensures at c.seek-j.ensures) (rw c.ccw-ccw.ensures at c.if-self-ccw.false) c.unwrap-root2.result (sym (ap mark c.unwrap-root2.ensures) ∙ rw c.ccw-ccw.ensures at c.entry_of-2.ensures.is) c.four_of-f.result c.four_of-f.ensures (rw c.four_of-f.ensures.side_is at c.overlap.ensures) c.if-overlap.true c.rejoin.result c.rejoin.ensures

pub returns : goal.returns
returns c =
    turn_apart c.args.at c.args.self.now c.in-Some.root1 (rw c.cw-cw.ensures at c.in-Some.ensures.is) (node_some c.args.self.now _ c.in-Some.ensures.within) (sym c.is_stub.ensures ∙ c.if-is_stub.false) c.seek-j.result (rw c.ccw-ccw.ensures at c.seek-j.ensures) (rw c.ccw-ccw.ensures at c.if-self-ccw.false) c.unwrap-root2.result (sym (ap mark c.unwrap-root2.ensures) ∙ rw c.ccw-ccw.ensures at c.entry_of-2.ensures.is) c.four_of-f.result c.four_of-f.ensures (rw c.four_of-f.ensures.side_is at c.overlap.ensures) c.if-overlap.false
