-- `add_corners` meets its contract: each step adds a corner.
use mathlib.Core.Bool.{false}
use Rattle.std.proofs.Common.{rules}
use Rattle.reference.specs.Walk.{add}
use Rattle.rectclip.specs.Walking.{turned}
use Rattle.rectclip.specs.Steps.{walk, full, Steps}
use Rattle.rectclip.proofs.Steps.{named, on_same}
use Rattle.rectclip.proofs.Turning.{corner_rounds}
use Rattle.rectclip.proofs.walk.Walker.add_corners.Goals as goal

pub returns : goal.returns
returns c = c.for_each_side.ensures _ _ (corner_rounds (full c.args.self.now) c.args.self.now.rect c.args.way.to c.args.way.is_clockwise) (λ v p r w S e.
    let R : Steps (add (full v.now) (walk v.now) (turned v.now.rect p c.args.way.is_clockwise) false) v.now w.now r = search rules in
    named R (on_same (λ full rect path. add full (walk v.now) (turned rect p c.args.way.is_clockwise) false) S))
