-- `admit` meets its contract: the checks, in number order. Assumes nothing.
use mathlib.Core.Path.{◌∙◌, ap}
use Prim.Native.Nat.{ℕ}
use Rattle.entry.specs.declared.answer.Refusal.TheVariants.{OddCoordinates, StoreTooLong, AllowanceTooLarge, WorkTooShort}
use Rattle.entry.specs.Answers.{admission}
use Rattle.entry.proofs.Admitting.{early_odd, early_store, early_allowance, early_work, early_sheet, stops}
use Rattle.entry.proofs.admission.admit.Goals as goal

pub returns-then-path-eq1 : goal.returns-then-path-eq1
returns-then-path-eq1 c = stops OddCoordinates c.args.path.now _ (early_odd c.args.room c.args.allowance c.args.cells c.args.rect c.args.path.now c.if-path-eq1.true)

pub returns-then-room-gt-MAX_ROOM : goal.returns-then-room-gt-MAX_ROOM
returns-then-room-gt-MAX_ROOM c = stops StoreTooLong c.args.path.now _ (early_store c.args.room c.args.allowance c.args.cells c.args.rect c.args.path.now c.if-path-eq1.false c.if-room-gt-MAX_ROOM.true)

pub returns-then-allowance-gt-MAX_ALLOWANCE : goal.returns-then-allowance-gt-MAX_ALLOWANCE
returns-then-allowance-gt-MAX_ALLOWANCE c = stops AllowanceTooLarge c.args.path.now _ (early_allowance c.args.room c.args.allowance c.args.cells c.args.rect c.args.path.now c.if-path-eq1.false c.if-room-gt-MAX_ROOM.false c.if-allowance-gt-MAX_ALLOWANCE.true)

pub returns-then-cells-room : goal.returns-then-cells-room
returns-then-cells-room c = stops WorkTooShort c.args.path.now _ (early_work c.args.room c.args.allowance c.args.cells c.args.rect c.args.path.now c.if-path-eq1.false c.if-room-gt-MAX_ROOM.false c.if-allowance-gt-MAX_ALLOWANCE.false c.if-cells-room.true)

pub returns : goal.returns
returns c =
    c.admit_sheet.ensures ∙ ap (λ (n : ℕ). admission n c.args.path.now) (early_sheet c.args.room c.args.allowance c.args.cells c.args.rect c.args.path.now c.if-path-eq1.false c.if-room-gt-MAX_ROOM.false c.if-allowance-gt-MAX_ALLOWANCE.false c.if-cells-room.false)
