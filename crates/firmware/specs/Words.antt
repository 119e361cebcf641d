-- Words of the functions over bytes.
use Rattle.std.specs.Prelude.{List, ℕ, ◌+◌, ◌*◌, get_or, ℤ}
use Rattle.reference.specs.Exported.{signed}

-- the signed number in four bytes of a list
abbrev pub word_at : List ℕ → ℕ → ℤ
word_at bytes at = signed (get_or bytes at 0 + 256 * get_or bytes (at + 1) 0 + 65536 * get_or bytes (at + 2) 0 + 16777216 * get_or bytes (at + 3) 0)
