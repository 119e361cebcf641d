-- `Rect64::intersects` meets its contract. Assumes nothing.
use Rattle.std.proofs.Common.{◌&&◌, rules}
use Rattle.std.specs.Int.Signed.{le_z}
use Rattle.integers.specs.Tests.{plain, back}
use Rattle.plane.proofs.Fitting.{RectFits}
use Rattle.plane.proofs.rect.Rect64.intersects.Goals as goal

pub returns : goal.returns
returns c =
    let fits : RectFits c.args.self × RectFits c.args.other = search rules in
    let ((a1, a2, a3, a4), (b1, b2, b3, b4)) = fits in
    let l = back c.max-l.type_inv (simp plain at c.max-l.ensures.value) in
    let r = back c.min-r.type_inv (simp plain at c.min-r.ensures.value) in
    let t = back c.max-t.type_inv (simp plain at c.max-t.ensures.value) in
    let b = back c.min-b.type_inv (simp plain at c.min-b.ensures.value) in
    λ i. le_z (l i) (r i) && le_z (t i) (b i)
