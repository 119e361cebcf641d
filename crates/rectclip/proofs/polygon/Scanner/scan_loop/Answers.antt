-- `scan_loop` meets its contract: it counts as the definition does. Assumes nothing.
use mathlib.Core.Path.{◌≡◌, sym, ap, ◌∙◌, subst}
use Prim.Native.Nat.{ℕ, ◌+◌, ◌-◌, ◌/◌}
use native.Mathlib.Omega.{arith}
use lib.ListN.{length}
use Rattle.rectclip.specs.Scanned.{step_of, Scanning}
use Rattle.rectclip.proofs.ScanPasses.{loop_on, loop_stops, loop_goes_on, loop_ends}
use Rattle.rectclip.proofs.polygon.Scanner.scan_loop.Goals as goal

pub returns-in-OnEdge : goal.returns-in-OnEdge
returns-in-OnEdge c =
    loop_on c.args.self.now.pt c.args.self.now.polygon.now c.args.self.now.first_idx c.args.starting_above c.loop-pass.s (c.args.passes - c.loop-pass._pass) (omega arith) (sym (ap step_of c.in-OnEdge.is) ∙ c.scan_pass-step.ensures.is) ∙ c.loop-pass.invariant.0

pub returns-in-Stop : goal.returns-in-Stop
returns-in-Stop c =
    loop_stops c.args.self.now.pt c.args.self.now.polygon.now c.args.self.now.first_idx c.args.starting_above c.loop-pass.s (c.args.passes - c.loop-pass._pass) c.in-Stop.t (omega arith) (sym (ap step_of c.in-Stop.is) ∙ c.scan_pass-step.ensures.is) c.scan_answer.ensures ∙ c.loop-pass.invariant.0

pub loop-pass-preserved : goal.loop-pass-preserved
loop-pass-preserved c =
    let n : ℕ = c.args.passes - c.loop-pass._pass in
    let e : n - 1 ≡ c.args.passes - (c.loop-pass._pass + 1) = omega arith in (
      rw e at (loop_goes_on c.args.self.now.pt c.args.self.now.polygon.now c.args.self.now.first_idx c.args.starting_above c.loop-pass.s n c.in-Again.t (omega arith) (sym (ap step_of c.in-Again.is) ∙ c.scan_pass-step.ensures.is) ∙ c.loop-pass.invariant.0),
      subst (Scanning (length c.args.self.now.polygon.now / 2)) c.in-Again.is c.scan_pass-step.ensures.within,
    )

pub returns : goal.returns
returns c =
    loop_ends c.args.self.now.pt c.args.self.now.polygon.now c.args.self.now.first_idx c.args.starting_above c.loop-pass.s (c.args.passes - c.loop-pass._pass) (omega arith) c.scan_answer-2.ensures ∙ c.loop-pass.invariant.0
