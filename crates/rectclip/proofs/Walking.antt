-- What follows an answer of the definition, what follows a refusal, and a refusal that is handed on. Assumes nothing.
use mathlib.Core.Path.{◌≡◌, refl, ◌∙◌, ap}
use Prim.Native.Nat.{ℕ}
use Rattle.plane.specs.Basics.{Try, refuse, ok, ◌>>=◌}
use Rattle.entry.specs.declared.answer.Refusal.{Refusal}
use Rattle.std.specs.Prelude.{Result, Err}
use Rattle.std.specs.Result.{IsErr, IsErrAnd}
use Rattle.std.proofs.lemmas.Result.{err_from_is_err_and}

-- what follows an answer, and what follows a refusal
pub on_ok : {A B : Type 0} {g : Try A} {a : A} (f : A → Try B) → ok a ≡ g → f a ≡ (g >>= f)
on_ok f e = rw (← e) refl

pub on_refuse : {A B : Type 0} {g : Try A} {n : ℕ} (f : A → Try B) → refuse n ≡ g → refuse n ≡ (g >>= f)
on_refuse f e = rw (← e) refl

-- a refusal that a `?` hands on is the one that came
pub thrown : {X : Type 0} {k : Refusal} (r : Result X Refusal) → IsErr r × IsErrAnd r (λ e. e ≡ k) → r ≡ Err k
thrown r e = let p = err_from_is_err_and r e.1 in p.1 ∙ ap Err p.2
