-- A call that is the same but for what its working lists hold. Assumes nothing.
use mathlib.Core.Path.{refl}
use Rattle.rectclip.specs.declared.call.Call.{Call}
use Rattle.rectclip.specs.Delivering.{SameCall}

pub same_call : (x : Call) → SameCall x x
same_call x = record { rect = refl; path = refl; bounds = refl; allowance = refl; store = refl; work = refl; store_length = refl; work_length = refl }
