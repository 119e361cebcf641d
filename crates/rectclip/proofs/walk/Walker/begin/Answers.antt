-- `begin` meets its contract: no room, or a point behind the last one that starts a result.
use mathlib.Core.Path.{refl}
use Rattle.rectclip.proofs.Adding.{fits_put, fits_started, begin_refused, begin_is}
use Rattle.rectclip.proofs.walk.Walker.begin.Goals as goal

pub returns-then-self-n : goal.returns-then-self-n
returns-then-self-n c = begin_refused c.args.self.now c.args.pt c.if-self-n.true

pub invariant_of-self : goal.invariant_of-self
invariant_of-self c = rw c.put_point.ensures (record { sheet = c.args.self.now.sheet; fits = fits_put c.args.self.now.fits c.if-self-n.false c.args.pt c.requires })

pub invariant_of-self-2 : goal.invariant_of-self-2
invariant_of-self-2 c = rw (c.put_point.ensures, c.put.ensures) (record { sheet = c.args.self.now.sheet; fits = fits_started c.args.self.now.fits c.if-self-n.false c.args.pt c.requires })

pub returns : goal.returns
returns c = record {
  same = record { rect = refl; path = refl; store = refl; work = refl; store_length = c.put_point.auto.list; work_length = c.put.auto.work };
  is = rw (c.put_point.ensures, c.put.ensures) (begin_is c.args.self.now c.args.pt c.if-self-n.false c.requires);
}
