-- `push_start_locs` meets its contract: each step makes a side a start side.
use Rattle.std.proofs.Common.{rules}
use Rattle.reference.specs.Walk.{push_start_loc}
use Rattle.rectclip.specs.Steps.{walk, full, Steps}
use Rattle.rectclip.proofs.Steps.{named, on_same}
use Rattle.rectclip.proofs.Turning.{side_rounds}
use Rattle.rectclip.proofs.walk.Walker.push_start_locs.Goals as goal

pub returns : goal.returns
returns c = c.for_each_side.ensures _ _ (side_rounds (full c.args.self.now) c.args.self.now.rect c.args.way.to c.args.way.is_clockwise) (λ v p r w S e.
    let R : Steps (push_start_loc (full v.now) (walk v.now) p) v.now w.now r = search rules in
    named R (on_same (λ full rect path. push_start_loc full (walk v.now) p) S))
