-- `Rect64::get_location` meets its contract: way by way, the tests made before it. Assumes nothing.
use Rattle.std.proofs.Common.{rules}
use Rattle.integers.specs.Tests.{plain}
use Rattle.plane.specs.Rectangle.{get_location}
use Rattle.plane.proofs.Fitting.{RectFits, PointFits}
use Rattle.plane.proofs.rect.Rect64.get_location.Goals as goal

pub returns-then-x-l : goal.returns-then-x-l
unfolding get_location
returns-then-x-l c =
    let fits : RectFits c.args.self × PointFits c.args.p = search rules in
    let ((l, t, r, b), (x, y)) = fits in
    rw (simp plain at c.if-x-l.true) c.on_edge.ensures

pub returns-then-x-r : goal.returns-then-x-r
unfolding get_location
returns-then-x-r c =
    let fits : RectFits c.args.self × PointFits c.args.p = search rules in
    let ((l, t, r, b), (x, y)) = fits in
    rw (simp plain at c.if-x-l.false, simp plain at c.if-x-r.true) c.on_edge-then-x-r.ensures

pub returns-then-y-t : goal.returns-then-y-t
unfolding get_location
returns-then-y-t c =
    let fits : RectFits c.args.self × PointFits c.args.p = search rules in
    let ((l, t, r, b), (x, y)) = fits in
    rw (simp plain at c.if-x-l.false, simp plain at c.if-x-r.false, simp plain at c.if-y-t.true) c.on_edge-then-y-t.ensures

pub returns-then-y-b : goal.returns-then-y-b
unfolding get_location
returns-then-y-b c =
    let fits : RectFits c.args.self × PointFits c.args.p = search rules in
    let ((l, t, r, b), (x, y)) = fits in
    rw (simp plain at c.if-x-l.false, simp plain at c.if-x-r.false, simp plain at c.if-y-t.false, simp plain at c.if-y-b.true) c.on_edge-then-y-b.ensures

pub returns-then-x-l-2 : goal.returns-then-x-l-2
unfolding get_location
returns-then-x-l-2 c =
    let fits : RectFits c.args.self × PointFits c.args.p = search rules in
    let ((l, t, r, b), (x, y)) = fits in
    rw (simp plain at c.if-x-l.false, simp plain at c.if-x-r.false, simp plain at c.if-y-t.false, simp plain at c.if-y-b.false, simp plain at c.if-x-l-2.true) c.off_edge.ensures

pub returns-then-r-x : goal.returns-then-r-x
unfolding get_location
returns-then-r-x c =
    let fits : RectFits c.args.self × PointFits c.args.p = search rules in
    let ((l, t, r, b), (x, y)) = fits in
    rw (simp plain at c.if-x-l.false, simp plain at c.if-x-r.false, simp plain at c.if-y-t.false, simp plain at c.if-y-b.false, simp plain at c.if-x-l-2.false, simp plain at c.if-r-x.true) c.off_edge-then-r-x.ensures

pub returns-then-y-t-2 : goal.returns-then-y-t-2
unfolding get_location
returns-then-y-t-2 c =
    let fits : RectFits c.args.self × PointFits c.args.p = search rules in
    let ((l, t, r, b), (x, y)) = fits in
    rw (simp plain at c.if-x-l.false, simp plain at c.if-x-r.false, simp plain at c.if-y-t.false, simp plain at c.if-y-b.false, simp plain at c.if-x-l-2.false, simp plain at c.if-r-x.false, simp plain at c.if-y-t-2.true) c.off_edge-then-y-t-2.ensures

pub returns-then-b-y : goal.returns-then-b-y
unfolding get_location
returns-then-b-y c =
    let fits : RectFits c.args.self × PointFits c.args.p = search rules in
    let ((l, t, r, b), (x, y)) = fits in
    rw (simp plain at c.if-x-l.false, simp plain at c.if-x-r.false, simp plain at c.if-y-t.false, simp plain at c.if-y-b.false, simp plain at c.if-x-l-2.false, simp plain at c.if-r-x.false, simp plain at c.if-y-t-2.false, simp plain at c.if-b-y.true) c.off_edge-then-b-y.ensures

pub returns : goal.returns
unfolding get_location
returns c =
    let fits : RectFits c.args.self × PointFits c.args.p = search rules in
    let ((l, t, r, b), (x, y)) = fits in
    rw (simp plain at c.if-x-l.false, simp plain at c.if-x-r.false, simp plain at c.if-y-t.false, simp plain at c.if-y-b.false, simp plain at c.if-x-l-2.false, simp plain at c.if-r-x.false, simp plain at c.if-y-t-2.false, simp plain at c.if-b-y.false) c.off_edge-2.ensures
