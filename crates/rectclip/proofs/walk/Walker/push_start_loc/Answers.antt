-- `push_start_loc` meets its contract: no room, or a side behind the last one.
use mathlib.Core.Path.{refl}
use Rattle.rectclip.proofs.Turning.{fits_later, push_refused, push_is}
use Rattle.rectclip.proofs.walk.Walker.push_start_loc.Goals as goal

pub returns-then-self-n : goal.returns-then-self-n
returns-then-self-n c = push_refused c.args.self.now c.args.loc c.if-self-n.true

pub invariant_of-self : goal.invariant_of-self
invariant_of-self c = rw (c.put.ensures, c.from.ensures) (record { sheet = c.args.self.now.sheet; fits = fits_later c.args.loc c.args.self.now.fits c.if-self-n.false refl })

pub returns : goal.returns
returns c = record {
  same = record { rect = refl; path = refl; store = refl; work = refl; store_length = refl; work_length = c.put.auto.work };
  is = rw (c.put.ensures, c.from.ensures) (push_is c.args.self.now c.args.loc c.if-self-n.false);
}
