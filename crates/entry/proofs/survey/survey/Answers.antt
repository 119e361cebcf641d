-- `survey` meets its contract. The loop's invariant: the bounds so far, grown by the points that are left, are the path's. Behind it they tell the limit. Assumes nothing.
use mathlib.Core.Path.{sym, ap, ◌∙◌}
use borrow.Author.Rules.{rules}
use native.Mathlib.Omega.{arith}
use lib.IntN.{pos}
use lib.ListN.{get_or}
use mir.Syntax.{w64}
use mir.Val.{SFits}
use mir.Facts.{to_z-of_z}
use Rattle.plane.specs.Points.{points_of}
use Rattle.plane.specs.Rectangle.{bounds_from, get_bounds_path}
use Rattle.plane.specs.declared.rect.Rect64.{Rect64}
use Rattle.entry.proofs.PathBounds.{grow_step, grow_short, surveyed_some}
use Rattle.entry.proofs.survey.survey.Goals as goal

pub loop-rest-init : goal.loop-rest-init
unfolding get_bounds_path
loop-rest-init c = ap (λ (s : Rect64). bounds_from s (points_of c.args.path.now)) c.no_bounds-bounds.ensures

pub loop-rest-preserved : goal.loop-rest-preserved
loop-rest-preserved c =
    let left = c.loop-rest.rest.now in
    let fx : SFits w64 (get_or left 0 (pos 0)) = search rules in
    let fy : SFits w64 (get_or left 1 (pos 0)) = search rules in
    grow_step left c.loop-rest.bounds c.in-len2-up.len_at_least (simp to_z-of_z at c.grown-bounds.ensures) c.loop-rest.invariant

pub returns : goal.returns
returns c =
    surveyed_some c.args.path.now c.if-path-lt2.false (sym (grow_short c.loop-rest.rest.now _ (omega arith)) ∙ c.loop-rest.invariant) c.in_limit-in_limit.ensures
