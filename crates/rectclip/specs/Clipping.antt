-- What is left of the polygon clipper after its walk: edges checked, sides tidied, rings straightened and counted.
use Rattle.std.specs.Prelude.{◌≡◌, Result, MatchResult, List, ℕ, length}
use Rattle.plane.specs.declared.point.Point64.{Point64}
use Rattle.plane.specs.Basics.{upwards, Try, refuse, ok}
use Rattle.reference.specs.Arena.{Arena}
use Rattle.entry.specs.Answers.{number}
use Rattle.entry.specs.declared.answer.Refusal.{Refusal}
use Rattle.rectclip.specs.declared.arena.Arena as lent
use Rattle.rectclip.specs.declared.clipping.Clipped.{Clipped}
use Rattle.rectclip.specs.Changes.{arena_of, Same}
use Rattle.rectclip.specs.Paths.{straighten_results, nodes_read, CountedAll}

-- the tidied arena b: its rings are straightened and counted
pub record Straight (pts : List Point64) (y : lent.Arena) (r : Clipped) (t : Try (Arena × ℕ)) : Type 0 where
  pub b : Arena
  pub tidied : t ≡ ok (b, r.turns)
  pub is : arena_of y ≡ straighten_results pts b (upwards 0 (length b.results))
  pub counts : CountedAll r.counts (nodes_read y.sizes.nodes (arena_of y) (upwards 0 y.sizes.results))
  pub results : length b.results ≡ y.sizes.results

-- a refusal, or the straightened arena
pub record ClippedAs (pts : List Point64) (x y : lent.Arena) (r : Result Clipped Refusal) (t : Try (Arena × ℕ)) : Type 0 where
  pub answer : MatchResult r (λ c. Straight pts y c t) (λ why. t ≡ refuse (number why))
  pub nodes : y.sizes.nodes ≡ x.sizes.nodes
  pub same : Same x y
