-- `add` meets its contract: a new result, a point that is skipped, no room, or a point behind the last one.
use mathlib.Core.Path.{refl, sym, ◌∙◌}
use Rattle.plane.proofs.Equality.{same_point_is}
use Rattle.rectclip.proofs.Adding.{goes_on, fits_longer, begin_first, add_skips, add_refused, add_is}
use Rattle.rectclip.proofs.Steps.{named}
use Rattle.rectclip.proofs.walk.Walker.add.Goals as goal

pub returns-then-start_new-n : goal.returns-then-start_new-n
returns-then-start_new-n c = named c.begin.ensures (begin_first c.args.self.now c.args.pt c.args.start_new c.if-start_new-n.true)

pub returns-then-eq : goal.returns-then-eq
returns-then-eq c =
    rw (goes_on c.args.start_new c.args.self.now.state.points c.if-start_new-n.false).0 (add_skips c.args.self.now c.args.pt (goes_on c.args.start_new c.args.self.now.state.points c.if-start_new-n.false).1 c.point_at-last.ensures (sym (c.eq.ensures ∙ same_point_is c.point_at-last.result c.args.pt) ∙ c.if-eq.true))

pub returns-then-self-n : goal.returns-then-self-n
returns-then-self-n c =
    rw (goes_on c.args.start_new c.args.self.now.state.points c.if-start_new-n.false).0 (add_refused c.args.self.now c.args.pt (goes_on c.args.start_new c.args.self.now.state.points c.if-start_new-n.false).1 c.point_at-last.ensures (sym (c.eq.ensures ∙ same_point_is c.point_at-last.result c.args.pt) ∙ c.if-eq.false) c.if-self-n.true)

pub invariant_of-self : goal.invariant_of-self
invariant_of-self c = rw c.put_point.ensures (record { sheet = c.args.self.now.sheet; fits = fits_longer c.args.self.now.fits c.if-self-n.false c.args.pt c.requires })

pub returns : goal.returns
returns c = record {
  same = record { rect = refl; path = refl; store = refl; work = refl; store_length = c.put_point.auto.list; work_length = refl };
  is = rw (goes_on c.args.start_new c.args.self.now.state.points c.if-start_new-n.false).0 (rw c.put_point.ensures (add_is c.args.self.now c.args.pt (goes_on c.args.start_new c.args.self.now.state.points c.if-start_new-n.false).1 c.point_at-last.ensures (sym (c.eq.ensures ∙ same_point_is c.point_at-last.result c.args.pt) ∙ c.if-eq.false) c.if-self-n.false c.requires));
}
