-- `Point64::put_on_edge` meets its contract. Assumes nothing.
use Rattle.std.proofs.Common.{to_z-of_z, ◌∙◌, rules}
use Rattle.integers.specs.Tests.{back, eq_plain, ne_plain}
use Rattle.plane.specs.Intersection.{held_between}
use Rattle.plane.proofs.Fitting.{PointFits}
use Rattle.plane.proofs.point.Point64.put_on_edge.Goals as goal

pub returns-then-c-d : goal.returns-then-c-d
returns-then-c-d c =
    let fits : PointFits c.args.c × PointFits c.args.d × PointFits c.args.self = search rules in
    let ((cx, cy), (dx, dy), (px, py)) = fits in
    let e = back c.held_between-y.type_inv (c.held_between-y.ensures ∙ (λ i. held_between (to_z-of_z cy i) (to_z-of_z dy i) (to_z-of_z py i))) in
    rw (eq_plain _ _ cx dx c.if-c-d.true) (λ i. record { x = to_z-of_z cx i; y = e i })

pub returns : goal.returns
returns c =
    let fits : PointFits c.args.c × PointFits c.args.d × PointFits c.args.self = search rules in
    let ((cx, cy), (dx, dy), (px, py)) = fits in
    let e = back c.held_between-x.type_inv (c.held_between-x.ensures ∙ (λ i. held_between (to_z-of_z cx i) (to_z-of_z dx i) (to_z-of_z px i))) in
    rw (ne_plain _ _ cx dx c.if-c-d.false) (λ i. record { x = e i; y = to_z-of_z cy i })
