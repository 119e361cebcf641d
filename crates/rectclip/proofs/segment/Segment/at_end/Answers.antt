-- `at_end` meets its contract: an end of the segment is a crossing, and of another point its place between the ends' coordinates decides. Assumes nothing.
use Rattle.std.proofs.Common.{sym, ◌∙◌, rules}
use Rattle.integers.specs.Tests.{plain}
use Rattle.plane.specs.Intersection.{at_end}
use Rattle.plane.proofs.Fitting.{PointFits}
use Rattle.rectclip.proofs.Segments.{is_end, then_some_is}
use Rattle.rectclip.proofs.segment.Segment.at_end.Goals as goal

pub returns-then-eq : goal.returns-then-eq
unfolding at_end
returns-then-eq c = rw (is_end c.args.p c.args.self.from c.args.self.to c.eq.ensures c.eq-2.ensures c.if-eq.true)

pub returns-then-is_horizontal : goal.returns-then-is_horizontal
unfolding at_end
returns-then-is_horizontal c =
    let fits : PointFits c.args.p × PointFits c.args.self.from × PointFits c.args.self.to = search rules in
    let ((k0, k1), (k2, k3), (k4, k5)) = fits in
    let neither = is_end c.args.p c.args.self.from c.args.self.to c.eq.ensures c.eq-2.ensures c.if-eq.false in
    rw (neither, sym c.is_horizontal.ensures ∙ c.if-is_horizontal.true) (simp (plain, then_some_is) at c.then_some.ensures)

pub returns : goal.returns
unfolding at_end
returns c =
    let fits : PointFits c.args.p × PointFits c.args.self.from × PointFits c.args.self.to = search rules in
    let ((k0, k1), (k2, k3), (k4, k5)) = fits in
    let neither = is_end c.args.p c.args.self.from c.args.self.to c.eq.ensures c.eq-2.ensures c.if-eq.false in
    rw (neither, sym c.is_horizontal.ensures ∙ c.if-is_horizontal.false) (simp (plain, then_some_is) at c.then_some-2.ensures)
