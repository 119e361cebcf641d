-- `first_off` meets its contract: what the search finds is where the definition's ends. Assumes nothing.
use Rattle.std.proofs.Common.{rules, ◌≡◌, ◌/◌, ◌-◌, length, ℕ, subst, refl, ap, ◌∙◌, Bool}
use Rattle.std.specs.Iterator.Runs.{ItemsCountUp}
use Rattle.std.specs.Prelude.{not}
use Rattle.std.proofs.iter.runs.Sources.{range_runs}
use borrow.Author.Tests.{not-true, not-false}
use native.Mathlib.Omega.{arith}
use Rattle.integers.specs.Tests.{eq_z}
use Rattle.plane.specs.Points.{points_of, pt_at}
use Rattle.plane.specs.Polygon.{first_off}
use Rattle.rectclip.proofs.Positions.{FirstPassing, found_passing, first_or, first_within}
use Rattle.rectclip.proofs.Scans.{first_turn, first_stop, first_end}
use Rattle.rectclip.proofs.polygon.first_off.Goals as goal

pub returns : goal.returns
returns c =
    let path = c.args.polygon.now in
    let n : ℕ = length path / 2 in
    let (p, source, ran) = c.find.ensures.runs in
    let up : ItemsCountUp p 0 n = subst (λ s. ItemsCountUp p s.start s.end) source (range_runs p p.seen) in
    let t : ℕ → Bool = λ k. not (eq_z (pt_at (points_of path) k).y c.args.pt.y) in
    let run : ℕ → ℕ = λ i. first_off c.args.pt (points_of path) (n - i) i in
    let whole : n - 0 ≡ n = omega arith in
    let first : FirstPassing t 0 n c.find.result = found_passing p _ _ t (λ a r f q. search rules) (λ x r q. let s = q.shows in let h = q.called in search rules) 0 n up c.find.result ran in
    record {
      is = c.unwrap_or.ensures ∙ first_or t 0 n (omega arith) run (λ i h l e. first_turn c.args.pt path i l (not-false _ e)) (λ i h l e. first_stop c.args.pt path i l (not-true _ e)) (first_end c.args.pt path n refl) c.find.result first ∙ ap (λ (k : ℕ). first_off c.args.pt (points_of path) k 0) whole;
      within = rw c.unwrap_or.ensures (first_within t 0 n (omega arith) c.find.result first);
    }
