-- A walk over points: one step at each point, given the point and the one before it. Both clippers' walks are such walks (FoldPoints, FoldLines).
-- Assumes nothing.
use mathlib.Core.List.{List, [], ◌∷◌}
use Rattle.plane.specs.declared.point.Point64.{Point64}
use Rattle.plane.specs.Basics.{Try, ok, ◌>>=◌}
use Rattle.theorems.proofs.Holds.{Holds, held, bind}
use Rattle.theorems.proofs.Alike.{Alike, comes, alike_bind}

-- `visit s q p`: the step from the state s at the point p, which comes after q
unfoldable pub walk_over : {S : Type 0} → (S → Point64 → Point64 → Try S) → S → Point64 → List Point64 → Try S
walk_over visit s q [] = ok s
walk_over visit s q (p ∷ ps) = visit s q p >>= λ t. walk_over visit t p ps

module _ {S : Type 0} (visit : S → Point64 → Point64 → Try S) where
  -- what each visit keeps
  pub over_holds : (Q : S → Type 0) → ((s : S) (q p : Point64) → Q s → Holds Q (visit s q p)) → (ps : List Point64) (s : S) (q : Point64) → Q s → Holds Q (walk_over visit s q ps)
  unfolding walk_over
  over_holds Q h [] s q k = held k
  over_holds Q h (p ∷ ps) s q k = bind Q Q (visit s q p) _ (h s q p k) (λ t g. over_holds Q h ps t p g)

  -- from states alike to states alike
  pub over_alike : (R : S → S → Type 0) → ((s t : S) (q p : Point64) → R s t → Alike R (visit s q p) (visit t q p)) → (ps : List Point64) (s t : S) (q : Point64) → R s t → Alike R (walk_over visit s q ps) (walk_over visit t q ps)
  unfolding walk_over
  over_alike R h [] s t q e = comes e
  over_alike R h (p ∷ ps) s t q e = alike_bind R R _ _ (h s t q p e) (λ a b g. over_alike R h ps a b p g)
