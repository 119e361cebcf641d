-- `skipped` meets its contract: it counts as the definition does. Assumes nothing.
use Rattle.std.specs.Prelude.{if◌then◌else◌}
use mathlib.Core.Path.{◌≡◌, sym, ap, ◌∙◌}
use mathlib.Core.Bool.{Bool}
use Prim.Native.Nat.{ℕ, ◌+◌, ◌-◌, ◌/◌, ◌<◌}
use borrow.Author.Rules.{rules}
use native.Mathlib.Omega.{arith}
use lib.IntN.{ℤ}
use lib.ListN.{length}
use lib.Signed.{lt_z}
use mir.Syntax.{w64}
use mir.Val.{SFits}
use mir.Facts.{to_z-of_z}
use Rattle.plane.specs.declared.point.Point64.{Point64}
use Rattle.rectclip.proofs.Scans.{skip_turn, skip_wraps, skip_stops, skip_end}
use Rattle.rectclip.proofs.polygon.Scanner.skipped.Goals as goal

same_height : (above : Bool) (y : ℤ) {p q : Point64} {b : Bool} → p ≡ q → b ≡ (if above then lt_z p.y y else lt_z y p.y) → b ≡ (if above then lt_z q.y y else lt_z y q.y)
same_height above y e f = f ∙ ap (λ (p : Point64). if above then lt_z p.y y else lt_z y p.y) e

pub returns-then-wrap-self : goal.returns-then-wrap-self
returns-then-wrap-self c =
    let a = c.args in
    let path = a.self.now.polygon.now in
    let i = c.loop-i.i in
    let h : i < length path / 2 = omega arith in
    record { is = sym (skip_wraps a.self.now.pt path a.is_above a.wrap a.self.now.first_idx a.from i c.loop-i.auto.i h c.if-wrap-self.true) ∙ c.loop-i.invariant; within = omega arith }

pub returns-then-not-same_side : goal.returns-then-not-same_side
returns-then-not-same_side c =
    let a = c.args in
    let path = a.self.now.polygon.now in
    let i = c.loop-i.i in
    let known : SFits w64 c.point_at-p.result.y × SFits w64 c.args.self.now.pt.y = search rules in
    let (f, g) = known in
    let e = same_height a.is_above a.self.now.pt.y c.point_at-p.ensures (simp to_z-of_z at c.same_side.ensures) in
    let h : i < length path / 2 = omega arith in
    record { is = sym (skip_stops a.self.now.pt path a.is_above a.wrap a.self.now.first_idx a.from i c.loop-i.auto.i h c.if-wrap-self.false (sym e ∙ c.if-not-same_side.true)) ∙ c.loop-i.invariant; within = omega arith }

pub loop-i-preserved : goal.loop-i-preserved
loop-i-preserved c =
    let a = c.args in
    let path = a.self.now.polygon.now in
    let i = c.loop-i.i in
    let known : SFits w64 c.point_at-p.result.y × SFits w64 c.args.self.now.pt.y = search rules in
    let (f, g) = known in
    let e = same_height a.is_above a.self.now.pt.y c.point_at-p.ensures (simp to_z-of_z at c.same_side.ensures) in
    let h : i < length path / 2 = omega arith in
    sym (skip_turn a.self.now.pt path a.is_above a.wrap a.self.now.first_idx a.from i c.loop-i.auto.i h c.if-wrap-self.false (sym e ∙ c.if-not-same_side.false)) ∙ c.loop-i.invariant

pub returns : goal.returns
returns c =
    let a = c.args in
    let n : ℕ = length a.self.now.polygon.now / 2 in
    let e : c.loop-i.i ≡ n = omega arith in
    record { is = sym e ∙ (sym (skip_end a.self.now.pt a.self.now.polygon.now a.is_above a.wrap a.self.now.first_idx (n + a.from - c.loop-i.i) c.loop-i.i (omega arith)) ∙ c.loop-i.invariant); within = omega arith }
