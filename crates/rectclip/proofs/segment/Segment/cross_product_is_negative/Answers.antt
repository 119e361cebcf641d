-- `cross_product_is_negative` meets its contract: within the coordinate limit the binary64 cross product is the whole one, and a difference is negative
-- where the first product is below the second.
use mathlib.Core.Path.{sym, ◌∙◌}
use Rattle.integers.specs.Tests.{ltZ_sub'}
use Rattle.plane.proofs.CrossProduct.{cross_product_exact}
use Rattle.rectclip.specs.Bounds.{cross_products}
use Rattle.rectclip.proofs.Reach.{turn}
use Rattle.rectclip.proofs.CrossProducts.{ab_below}
use Rattle.rectclip.proofs.segment.Segment.cross_product_is_negative.Goals as goal

pub returns : goal.returns
returns c =
    let s = c.args.self in
    let m = c.args.shared in
    let exact = cross_products s.from m s.to in
    ab_below (turn s.start c.requires s.end) c.cross_products-turn.ensures ∙ sym (ltZ_sub' exact.cd exact.ab) ∙ sym (cross_product_exact s.from m s.to s.start c.requires s.end)
