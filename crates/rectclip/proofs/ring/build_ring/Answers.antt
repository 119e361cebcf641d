-- `build_ring` meets its contract: the ring is laid where there is a node.
use native.Mathlib.Omega.{arith}
use mathlib.Core.Path.{◌≡◌, refl}
use Rattle.rectclip.proofs.Building.{Laid, built_none, built, built_by}
use Rattle.rectclip.proofs.ring.build_ring.Goals as goal
use Rattle.rectclip.proofs.ring.build_ring.Goals.{then-n-gt0, else-n-gt0}

pub invariant_of-result : goal.invariant_of-result
invariant_of-result c =
    let laid : Laid c.args.work.now c.if-n-gt0.work c.args.slots c.args.n c.if-n-gt0.sizes =
    elim c.if-n-gt0.branch [
      | then-n-gt0 w ↦ rw (w.work-is, w.sizes-is) (built c.args.slots c.requires.0 c.args.n c.requires.1 (λ e. omega (arith, w.if-n-gt0.true, e)) w.link_nodes.ensures w.put.ensures)
      | else-n-gt0 w ↦ let z : c.args.n ≡ 0 = omega (arith, w.if-n-gt0.false) in rw (w.work-is, w.sizes-is, z) (built_none c.args.slots c.requires.0)
    ] in
    record { drawn = rw laid.nodes_are c.requires.2; holds = laid.holds }

pub returns-clause-built : goal.returns-clause-built
returns-clause-built c =
    let laid : Laid c.args.work.now c.if-n-gt0.work c.args.slots c.args.n c.if-n-gt0.sizes =
    elim c.if-n-gt0.branch [
      | then-n-gt0 w ↦ rw (w.work-is, w.sizes-is) (built c.args.slots c.requires.0 c.args.n c.requires.1 (λ e. omega (arith, w.if-n-gt0.true, e)) w.link_nodes.ensures w.put.ensures)
      | else-n-gt0 w ↦ let z : c.args.n ≡ 0 = omega (arith, w.if-n-gt0.false) in rw (w.work-is, w.sizes-is, z) (built_none c.args.slots c.requires.0)
    ] in
    built_by laid refl
