-- The lent lists as memory. Slot i of the work list has sixteen cells, and field k of slot i is the cell 16 * i + k.
-- The store's point i is at 2 * i, x then y.
use Rattle.std.specs.Prelude.{List, [], ◌∷◌, ℕ, zero, suc, ◌+◌, ◌*◌, ◌<◌, ◌≤◌, get_or, set, length, ℤ}
use Rattle.plane.specs.declared.point.Point64.{Point64}

-- what field k of slot i holds
unfoldable pub at : ℕ → List ℕ → ℕ → ℕ
at k m i = get_or m (16 * i + k) 0

-- field k of slot i set to v
unfoldable pub put : ℕ → List ℕ → ℕ → ℕ → List ℕ
put k m i v = set m (16 * i + k) v

-- point i set to p
unfoldable pub put_point : List ℤ → ℕ → Point64 → List ℤ
put_point l i p = set (set l (2 * i) p.x) (2 * i + 1) p.y

-- the memory has room for N slots
pub record Room (N : ℕ) (m : List ℕ) : Type 0 where
  pub cells : 16 * N ≤ length m
  pub small : N < 4294967295

-- f i, f (i + 1), .., n values
unfoldable pub from : (ℕ → ℕ) → ℕ → ℕ → List ℕ
from f i zero = []
from f i (suc n) = f i ∷ from f (suc i) n

-- the first n entries of field k
unfoldable pub column : ℕ → ℕ → List ℕ → List ℕ
column k n m = from (at k m) 0 n
