-- What the private functions that write a line answer. The definitions that the public ones cite are in Decimal, Printing and Written.
use Rattle.std.specs.Prelude.{◌≡◌, List, ℕ, ◌+◌, ◌-◌, length, leb, Option, Some, None, if◌then◌else◌}
use Rattle.std.proofs.lemmas.List.Edits.{sets}

-- bytes put one after another from `at` on, and where they end
pub record Put (bytes : List ℕ) (at : ℕ) (out : List ℕ) (next : ℕ) (after : List ℕ) : Type 0 where
  pub list_after : after ≡ sets out at bytes
  pub ends : next ≡ at + length bytes

-- what is left of the room behind so many bytes; None where it is too little
unfoldable pub room_after : ℕ → ℕ → Option ℕ
room_after room need = if leb need room then Some (room - need) else None
