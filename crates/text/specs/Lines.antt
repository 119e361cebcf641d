-- A line that is being written: the room for more bytes, and bytes written behind those that it has.
use Rattle.std.specs.Prelude.{◌≡◌, List, ℕ, ◌+◌, ◌≤◌, length}
use Rattle.text.specs.declared.line.Line.{Line}
use Rattle.text.specs.Putting.{Put}

abbrev pub HasRoom : Line → List ℕ → Type 0
HasRoom x bytes = x.end + length bytes ≤ length x.out.now

-- in the same list
pub record Puts (x y : Line) (bytes : List ℕ) : Type 0 where
  pub put : Put bytes x.end x.out.now y.end y.out.now
  pub same : y.out.ghost_name ≡ x.out.ghost_name
