-- What `add` leaves: the point that was added is the last one, the start sides are as they were, and a point that differs from the
-- last one makes one point more. Assumes nothing.
use mathlib.Core.Path.{◌≡◌, refl, sym, ◌∙◌, ap, subst}
use mathlib.Core.Bool.{Bool, true, false}
use mathlib.Core.List.{List, [], ◌∷◌}
use mathlib.Core.Logic.{◌⊎◌, inl, inr, ⊎_elim}
use Prim.Native.Nat.{ℕ, ◌+◌, ◌-◌, ◌<◌}
use native.Mathlib.Omega.{arith}
use native.Mathlib.Decide.{ℕ_discrete}
use lib.ListN.{length, length-append}
use Rattle.plane.specs.declared.point.Point64.{Point64}
use Rattle.plane.specs.Basics.{push, Try, refuse, ok}
use Rattle.plane.specs.Points.{same_point, pt_at}
use Rattle.reference.specs.Walk.{Walk, add}
use Rattle.rectclip.proofs.Adding.{add_first, add_new_full, add_new, add_same, add_full, add_longer}
use Rattle.theorems.proofs.Crossings.{same_is}

pub either : (b : Bool) → (b ≡ true) ⊎ (b ≡ false)
either true = inl refl
either false = inr refl

pub record Added (w v : Walk) (pt : Point64) : Type 0 where
  pub locs : v.start_locs ≡ w.start_locs
  pub some : 0 < length v.points
  pub last : pt_at v.points (length v.points - 1) ≡ pt
  pub longer : 0 < length w.points → same_point (pt_at w.points (length w.points - 1)) pt ≡ false → length v.points ≡ length w.points + 1

push_length : (l : List Point64) (pt : Point64) → length (push l pt) ≡ length l + 1
push_length l pt = length-append l (pt ∷ [])

push_last : (l : List Point64) (pt : Point64) → pt_at (push l pt) (length l) ≡ pt
push_last [] pt = refl
push_last (p ∷ l) pt = push_last l pt

module _ (w : Walk) (pt : Point64) (S : List ℕ) where
  pushed : Added w (record { points = push w.points pt; starts = S; start_locs = w.start_locs }) pt
  pushed =
      let n = push_length w.points pt in
      let m : length (push w.points pt) - 1 ≡ length w.points = omega arith in
      record {
        locs = refl;
        some = omega arith;
        last = ap (pt_at (push w.points pt)) m ∙ push_last w.points pt;
        longer = λ h e. n;
      }

skipped : (w : Walk) (pt : Point64) → 0 < length w.points → same_point (pt_at w.points (length w.points - 1)) pt ≡ true → Added w w pt
skipped w pt h e = record {
  locs = refl;
  some = h;
  last = same_is (pt_at w.points (length w.points - 1)) pt e;
  longer = λ k f. absurd (let z : ◌≡◌ {A = Bool} true false = sym e ∙ f in let y : ◌≡◌ {A = ℕ} 0 1 = cc in omega arith);
}

module _ (full : ℕ → Bool) (w : Walk) (pt : Point64) {v : Walk} (e : ok v ≡ add full w pt false) where
  clash : add full w pt false ≡ refuse 8 → Added w v pt
  clash f = absurd (let z : ◌≡◌ {A = Try Walk} (ok v) (refuse 8) = e ∙ f in let y : ◌≡◌ {A = ℕ} 0 1 = cc in omega arith)

  is : {u : Walk} → add full w pt false ≡ ok u → Added w u pt → Added w v pt
  is {u} f A = let z : u ≡ v = let y : ◌≡◌ {A = Try Walk} (ok v) (ok u) = e ∙ f in cc in subst (λ (x : Walk). Added w x pt) z A

  pub added : Added w v pt
  added =
      elim (ℕ_discrete (length w.points) 0) [
        | yes z ↦
            let f = add_first full w pt (length w.points) refl z in
            ⊎_elim (λ t. clash (f ∙ add_new_full full w pt (length w.points) refl t)) (λ t. is (f ∙ add_new full w pt (length w.points) refl t) (pushed w pt (push w.starts (length w.points))))
            (either (full (length w.points)))
        | no q ↦
            let h : 0 < length w.points = omega arith in
            ⊎_elim (λ t. is (add_same full w pt (length w.points) refl h t) (skipped w pt h t))
            (λ t. ⊎_elim (λ u. clash (add_full full w pt (length w.points) refl h t u)) (λ u. is (add_longer full w pt (length w.points) refl h t u) (pushed w pt w.starts)) (either (full (length w.points))))
            (either (same_point (pt_at w.points (length w.points - 1)) pt))
      ]
