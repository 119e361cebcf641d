-- `cross_products` meets its contract: every difference and product fits.
use Rattle.integers.specs.Bound.{fits, mo_is}
use Rattle.rectclip.proofs.CrossProducts.{AB, CD, numbers}
use Rattle.rectclip.proofs.segment.cross_products.Goals as goal

pub overflow_mul-ab : goal.overflow_mul-ab
overflow_mul-ab c = fits (numbers c.requires) AB tt

pub overflow_mul-cd : goal.overflow_mul-cd
overflow_mul-cd c = fits (numbers c.requires) CD tt

pub returns : goal.returns
returns c = λ i. record { ab = mo_is (numbers c.requires) AB tt i; cd = mo_is (numbers c.requires) CD tt i }
