-- The test of a rectangle's coordinates against the limit, as facts. Assumes nothing.
use mathlib.Core.Bool.{◌&&◌}
use lib.Dec.{T, leb→le}
use lib.Ieee.Fits.{and_l, and_r}
use Rattle.plane.specs.Limit.{in_limit, rect_in_limit, LimitedRect}
use Rattle.plane.specs.declared.rect.Rect64.{Rect64}

pub rect_limited : (r : Rect64) → T (rect_in_limit r) → LimitedRect r
rect_limited r h =
    let l = in_limit r.left in
    let t = in_limit r.top in
    let three = and_l (l && t && in_limit r.right) (in_limit r.bottom) h in
    let two = and_l (l && t) (in_limit r.right) three in
    record {
      left = leb→le _ _ (and_l l t two);
      top = leb→le _ _ (and_r l t two);
      right = leb→le _ _ (and_r (l && t) (in_limit r.right) three);
      bottom = leb→le _ _ (and_r (l && t && in_limit r.right) (in_limit r.bottom) h);
    }
