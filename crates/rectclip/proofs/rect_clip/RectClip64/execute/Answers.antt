-- `RectClip64::execute` meets its promise: a call that is refused early, and one that is drawn. Assumes nothing.
use mathlib.Core.Bool.{true}
use mathlib.Core.Path.{refl}
use Rattle.std.proofs.Common.{rules}
use Rattle.reference.specs.Entry.{Lent}
use Rattle.rectclip.specs.Promises.{lent}
use Rattle.rectclip.proofs.Calling.{refused_call, admitted, allowance, drawn_call}
use Rattle.rectclip.proofs.Walking.{thrown}
use Rattle.rectclip.proofs.rect_clip.RectClip64.execute.Goals as goal

pub returns-in_err-bounds : goal.returns-in_err-bounds
returns-in_err-bounds c =
    let before : Lent =
    lent c.args.coordinates.now c.args.lengths.now c.args.store.now c.args.work.now in
    rw (thrown c.from_residual.result c.from_residual.ensures)
    (refused_call true c.args.allowance c.args.self.rect c.args.path.now before c.admit.result c.admit.ensures _ c.in_err-bounds.was)

pub invariant_of-call : goal.invariant_of-call
invariant_of-call c =
    let before : Lent =
    lent c.args.coordinates.now c.args.lengths.now c.args.store.now c.args.work.now in
    record {
      admitted = admitted true c.args.allowance c.args.self.rect c.args.path.now before c.admit.result _ c.in_ok-bounds.was c.admit.ensures;
      room = allowance true c.args.allowance c.args.self.rect c.args.path.now before c.admit.result _ c.in_ok-bounds.was c.admit.ensures;
    }

pub returns : goal.returns
returns c =
    let before : Lent =
    lent c.args.coordinates.now c.args.lengths.now c.args.store.now c.args.work.now in
    drawn_call true c.args.allowance c.args.self.rect c.args.path.now before c.admit.result c.admit.ensures _ c.in_ok-bounds.was c.draw_closed-answer.ensures.gives c.new-output.ensures.unfilled c.new-output.ensures.lists.0 c.new-output.ensures.lists.1 refl refl c.draw_closed-answer.ensures.same (search rules) (search rules) (search rules) (search rules)
