-- What is printed for a path is a refusal, or the lines of its drawing's paths, which have demand 3. Assumes nothing.
use mathlib.Core.Path.{◌≡◌, refl, sym, ◌∙◌, ap, subst}
use mathlib.Core.Bool.{Bool, true, false}
use mathlib.Core.List.{List}
use Prim.Native.Nat.{ℕ, ◌%◌}
use native.Mathlib.Omega.{arith}
use lib.ListN.{length, take, drop}
use lib.Seq.{take_at}
use lib.Dec.{eqb, ltb}
use lib.IntN.{ℤ}
use Rattle.plane.specs.declared.rect.Rect64.{Rect64}
use Rattle.plane.specs.Basics.{Try, refuse, ok}
use Rattle.reference.specs.Entry.{Drawing}
use Rattle.handheld.specs.Drawn.{clipped}
use Rattle.handheld.proofs.Exact.{always_exact}
use Rattle.text.specs.Reading.{Request}
use Rattle.text.specs.Printing.{refusal_line}
use Rattle.program.specs.Printed.{Gives, numbers_answer}
use Rattle.program.specs.Answered.{path_answer, answer}
use Rattle.program.specs.Exact.{ExactUnlessRefused, PrintsExact}

-- ---- the bytes of an answer
module _ (closed : Bool) (R : Rect64) (line : ℤ) (zs : List ℤ) where
  exact_refusal : (n : ℕ) → ExactUnlessRefused closed R line zs (refusal_line line n)
  exact_refusal n h = absurd (let z : ◌≡◌ {A = ℕ} 0 1 = cc in omega arith)

  exact_path : ExactUnlessRefused closed R line zs (path_answer closed line (clipped closed R zs))
  exact_path = go (clipped closed R zs) refl
    where
      go : (t : Try Drawing) → clipped closed R zs ≡ t → ExactUnlessRefused closed R line zs (path_answer closed line t)
      go (refuse n) e = exact_refusal n
      go (ok d) e = λ h. record { paths = d.0; are_lines = refl; exact = always_exact closed R zs d e }

  exact_numbers : (count : ℕ) → ExactUnlessRefused closed R line zs (numbers_answer R line closed count zs)
  exact_numbers count = go (eqb (count % 2) 1) refl (ltb 256 count) refl
    where
      go : (a : Bool) → eqb (count % 2) 1 ≡ a → (b : Bool) → ltb 256 count ≡ b → ExactUnlessRefused closed R line zs (numbers_answer R line closed count zs)
      go true p b q = rw p (exact_refusal 1)
      go false p true q = rw (p, q) (exact_refusal 5)
      go false p false q = rw (p, q) exact_path

-- ---- as they stand at a list's front
pub front_of : {bytes out : List ℕ} {r : ℕ} {after : List ℕ} → Gives bytes out r after → bytes ≡ take r after
front_of {bytes} {out} {r} {after} g = sym (ap (take r) g.list_after ∙ take_at bytes (drop (length bytes) out) r (sym g.count))

module _ {closed : Bool} {R : Rect64} {line : ℤ} {zs : List ℤ} {out : List ℕ} {r : ℕ} {after : List ℕ} where
  at_front : {bytes : List ℕ} → Gives bytes out r after → ExactUnlessRefused closed R line zs bytes → ExactUnlessRefused closed R line zs (take r after)
  at_front g e = subst (ExactUnlessRefused closed R line zs) (front_of g) e

  pub path_exact : Gives (path_answer closed line (clipped closed R zs)) out r after → ExactUnlessRefused closed R line zs (take r after)
  path_exact g = at_front g (exact_path closed R line zs)

  pub numbers_exact : (count : ℕ) → Gives (numbers_answer R line closed count zs) out r after → ExactUnlessRefused closed R line zs (take r after)
  numbers_exact count g = at_front g (exact_numbers closed R line zs count)

pub answer_exact : {R : Rect64} {line : ℤ} (asked : Request) {out : List ℕ} {r : ℕ} {after : List ℕ} → Gives (answer R line asked) out r after → PrintsExact R line asked r after
answer_exact {R} {line} asked {out} {r} {after} g closed zs e = path_exact (subst (λ (a : Request). Gives (answer R line a) out r after) e g)
