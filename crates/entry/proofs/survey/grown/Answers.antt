-- `grown` meets its contract. Assumes nothing.
use Rattle.std.proofs.Common.{rules}
use Rattle.integers.specs.Tests.{plain, back}
use Rattle.plane.proofs.Fitting.{RectFits, PointFits}
use Rattle.entry.proofs.survey.grown.Goals as goal

pub returns : goal.returns
returns c =
    let fits : RectFits c.args.s × PointFits c.args.p = search rules in
    let ((a1, a2, a3, a4), (b1, b2)) = fits in
    let l = back c.min-left.type_inv (simp plain at c.min-left.ensures.value) in
    let t = back c.min-top.type_inv (simp plain at c.min-top.ensures.value) in
    let r = back c.max-right.type_inv (simp plain at c.max-right.ensures.value) in
    let b = back c.max-bottom.type_inv (simp plain at c.max-bottom.ensures.value) in
    λ i. record { left = l i; top = t i; right = r i; bottom = b i }
