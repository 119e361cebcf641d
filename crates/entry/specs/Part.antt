-- What `filled` promises.
use Rattle.std.specs.Prelude.{◌≡◌, List, ℕ, ℤ}
use Rattle.reference.specs.Entry.{filled_part}

-- the part is the definition's, and it is the front of the caller's own list, at that list's address
pub record FilledPart {A : Type 0} (coordinates : List ℤ) (address : A) (points : ℕ) (part : List ℤ) (place : A) : Type 0 where
  pub entries : part ≡ filled_part coordinates points
  pub own : place ≡ address
