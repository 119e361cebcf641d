-- `enter_round` meets its contract: no node enters, or four do, one after the other.
use Rattle.std.specs.Prelude.{if◌then◌else◌}
use native.Mathlib.Omega.{arith}
use mathlib.Core.Path.{◌≡◌, refl}
use Prim.Native.Nat.{◌-◌}
use Rattle.rectclip.specs.Delivering.{Cornered}
use Rattle.rectclip.proofs.Changes.{enters_same}
use Rattle.rectclip.proofs.WalkedArena.{entered_never, may_enter_corner, cornered_on, corners_on, corners_all}
use Rattle.rectclip.proofs.arena.Arena.enter_round.Goals as goal
use Rattle.rectclip.proofs.arena.Arena.enter_round.Goals.{then-clockwise, else-clockwise}

pub returns-in_default : goal.returns-in_default
returns-in_default c = entered_never c.in_default.is

pub loop-k-init : goal.loop-k-init
loop-k-init c = record { goal = refl; so_far = enters_same }

pub add_to_edge-requires : goal.add_to_edge-requires
add_to_edge-requires c =
    let four : Cornered c.args.self.now 4 = rw c.in-Some.is at c.requires in
    may_enter_corner (cornered_on four c.loop-k.invariant.so_far) _ _ (omega (arith, four.corners, c.loop-k.invariant.so_far.becomes.nodes))

pub loop-k-preserved : goal.loop-k-preserved
loop-k-preserved c =
    let four : Cornered c.args.self.now 4 = rw c.in-Some.is at c.requires in
    let idx : c.if-clockwise.idx ≡ (if c.in-Some.clockwise then c.loop-k.k else 3 - c.loop-k.k) =
    elim c.if-clockwise.branch [ then-clockwise w ↦ rw w.if-clockwise.true w.idx-is | else-clockwise w ↦ rw w.if-clockwise.false w.idx-is ] in
    corners_on c.loop-k.invariant four.corners (omega arith) _ _ _ idx c.cw.ensures refl c.add_to_edge.ensures

pub returns : goal.returns
returns c = rw c.in-Some.is (corners_all c.loop-k.invariant (omega arith))
