-- `at_vertex` meets its contract. Assumes nothing.
use mathlib.Core.Path.{ap, ◌∙◌}
use Prim.Native.Nat.{ℕ}
use mir.Syntax.{w64}
use mir.Val.{SFits}
use Rattle.integers.specs.Tests.{eq_plain, ne_plain}
use Rattle.plane.specs.Points.{points_of, pt_at}
use Rattle.rectclip.proofs.ScanSteps.{index_before, level_is, pass_is}
use borrow.Author.Rules.{rules}
use Rattle.rectclip.proofs.polygon.Scanner.at_vertex.Goals as goal

pub returns-then-curr-self-clause-is : goal.returns-then-curr-self-clause-is
returns-then-curr-self-clause-is c =
    let known : SFits w64 c.point_at-curr.result.y × SFits w64 c.args.self.now.pt.y = search rules in
    let (f, g) = known in
    let path = c.args.self.now.polygon.now in
    level_is c.args.self.now.pt path c.args.self.now.first_idx c.args.s c.args.i c.point_at-curr.ensures (c.point_at-prev.ensures ∙ ap (λ (k : ℕ). pt_at (points_of path) k) (c.before_idx.ensures.is ∙ index_before c.args.self.now.pt path c.args.i)) (eq_plain _ _ f g c.if-curr-self.true) c.on_line.ensures c.level.ensures

pub returns-clause-is : goal.returns-clause-is
returns-clause-is c =
    let known : SFits w64 c.point_at-curr.result.y × SFits w64 c.args.self.now.pt.y = search rules in
    let (f, g) = known in
    let path = c.args.self.now.polygon.now in
    pass_is c.args.self.now.pt path c.args.self.now.first_idx c.args.s c.args.i c.point_at-curr.ensures (c.point_at-prev.ensures ∙ ap (λ (k : ℕ). pt_at (points_of path) k) (c.before_idx.ensures.is ∙ index_before c.args.self.now.pt path c.args.i)) (ne_plain _ _ f g c.if-curr-self.false) c.edge_passes.ensures c.passed.ensures
