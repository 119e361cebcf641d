-- `start_of` meets its contract: a result's start, or the end of the points.
use mathlib.Core.Path.{refl}
use borrow.Author.Tests.{lt-ltb, le-ltb}
use Rattle.rectclip.proofs.walk.Walker.start_of.Goals as goal

pub returns-then-j-self : goal.returns-then-j-self
returns-then-j-self c = rw (lt-ltb _ _ c.if-j-self.true) c.get.ensures

pub returns : goal.returns
returns c = rw (le-ltb _ _ c.if-j-self.false) refl
