-- The count of `get_path`'s loop is enough: each node that is dropped lets op2 go round the others once more.
use mathlib.Core.Path.{◌≡◌, refl, sym, ap, ◌∙◌, subst}
use mathlib.Core.Bool.{Bool, true, false, cond, ◌||◌}
use mathlib.Core.List.{List, [], ◌∷◌, ◌++◌, append_assoc}
use Prim.Native.Nat.{ℕ, zero, suc, ◌+◌, ◌*◌, ◌<◌, ◌≤◌}
use native.Mathlib.Omega.{arith}
use native.Mathlib.Nat.{mul-le-mul}
use lib.ListN.{length, length-append}
use lib.Dec.{eqb}
use borrow.Author.Tests.{eq-eqb, eqb-false}
use Rattle.plane.specs.declared.point.Point64.{Point64}
use Rattle.plane.specs.Basics.{none}
use Rattle.reference.specs.Arena.{Arena, next_of, prev_of, unlink, unlink_op, is_flat, Round}
use Rattle.reference.specs.Clip.{straighten, straighten_pass}
use Rattle.theorems.specs.LoopsEnd.{Ended}
use Rattle.theorems.specs.Bounds as B
use Rattle.theorems.specs.Bounds.{StraightenEnds}
use Rattle.theorems.proofs.Ends.{more_of}
use Rattle.theorems.proofs.RingLaw.{end, Ring, Distinct, turn}
use Rattle.theorems.proofs.Unlinked.{simple, without, to_next, front}
use Rattle.integers.specs.Tests.{cond_true}
use Rattle.theorems.proofs.Tests.{or_left, or_right}
use Rattle.theorems.proofs.RingLists.{distinct_turn}

-- ---- 1 + 2 + .. + n
pub tri : ℕ → ℕ
tri zero = 0
tri (suc n) = tri n + suc n

tri_suc : (n : ℕ) → tri (suc n) ≡ tri n + suc n
unfolding tri
tri_suc n = refl

square_suc : (n : ℕ) → suc n * suc n ≡ n * n + (n + n) + 1
square_suc n = rw (native.Mathlib.Nat.suc-mul, native.Mathlib.Nat.mul-suc) (omega arith)

tri_square : (n : ℕ) → tri (suc n) + suc n ≤ suc n * suc n + 1
unfolding tri
tri_square zero = omega arith
tri_square (suc n) =
    let h = tri_square n in
    let e = square_suc (suc n) in
    let t = tri_suc (suc n) in
    omega arith

-- ---- `get_path`'s loop: op2 goes round to op, and starts again where a node is dropped
module _ (pts : List Point64) where
  at_op : (f : ℕ) (a : Arena) (op op2 : ℕ) → op2 ≡ op → straighten pts f a op op2 ≡ record { arena = a; op = op; op2 = op2 }
  unfolding straighten
  at_op zero a op op2 e = refl
  at_op (suc f) a op op2 e = cond_true (eqb op2 none || eqb op2 op) _ _ (or_right (eqb op2 none) (eqb op2 op) (eq-eqb op2 op e))

  -- one pass more than f changes nothing, and the loop has ended
  abbrev Claim : ℕ → Arena → ℕ → ℕ → Type 0
  Claim f a op op2 = (straighten pts (suc f) a op op2 ≡ straighten pts f a op op2) × Ended (straighten pts f a op op2)

  at_op_claim : (f : ℕ) (a : Arena) (op op2 : ℕ) → op2 ≡ op → Claim f a op op2
  at_op_claim f a op op2 e = (at_op (suc f) a op op2 e ∙ sym (at_op f a op op2 e), subst Ended (sym (at_op f a op op2 e)) (or_right (eqb op2 none) (eqb op2 op) (eq-eqb op2 op e)))

  -- the claim at f passes
  abbrev Stable : ℕ → Type 0
  Stable f = (a : Arena) (op op2 : ℕ) (ps qs : List ℕ) → Ring (next_of a) (prev_of a) op2 (ps ++ op ∷ qs) → Distinct (op2 ∷ ps ++ op ∷ qs)
      → tri (length ps + length qs + 2) + length ps < f → Claim f a op op2

  -- after a node is dropped
  gone : (g : ℕ) → Stable g → (a : Arena) (op2 y : ℕ) (ys : List ℕ) → Ring (next_of a) (prev_of a) op2 (y ∷ ys) → Distinct (op2 ∷ y ∷ ys) → (op2 ≡ none → ⊥) → tri (length ys + 2) < suc g
      → Claim g (unlink a op2) (prev_of a op2) (unlink_op a op2)
  gone g ih a op2 y ys r d n h =
      let e : unlink_op a op2 ≡ y = to_next a op2 y ys r d n ∙ r.chain.0.fore in
      subst (λ (p : ℕ). Claim g (unlink a op2) p (unlink_op a op2)) (sym r.closes.back)
      (subst (λ (q : ℕ). Claim g (unlink a op2) (end y ys) q) (sym e)
      (go ys (without a op2 y ys r d n) d.1 h))
    where
      go : (zs : List ℕ) → Ring (next_of (unlink a op2)) (prev_of (unlink a op2)) y zs → Distinct (y ∷ zs) → tri (length zs + 2) < suc g
          → Claim g (unlink a op2) (end y zs) y
      go [] r' d' h' = at_op_claim g (unlink a op2) y y refl
      go (z ∷ zs) r' d' h' =
          let v = front z zs in
          let e1 : tri (length (z ∷ zs) + 2) ≡ tri (length zs + 2) + suc (length zs + 2) = ap tri (omega arith) ∙ tri_suc (length zs + 2) in
          let e2 : tri (length v.0 + 0 + 2) ≡ tri (length zs + 2) = ap tri (omega (arith, v.2)) in
          ih (unlink a op2) (end z zs) y v.0 [] (subst (λ (l : List ℕ). Ring (next_of (unlink a op2)) (prev_of (unlink a op2)) y l) v.1 r') (subst (λ (l : List ℕ). Distinct (y ∷ l)) v.1 d') (omega (arith, v.2))

  one_pass : (g : ℕ) (a : Arena) (op op2 : ℕ)
      → ((op2 ≡ none → ⊥) → Claim g (unlink a op2) (prev_of a op2) (unlink_op a op2))
      → Claim g a op (next_of a op2) → Claim (suc g) a op op2
  unfolding straighten straighten_pass
  one_pass g a op op2 p q = (go (eqb op2 none) refl (is_flat pts a op2), ended (eqb op2 none) refl (eqb op2 op) refl (is_flat pts a op2))
    where
      dropped : Round
      dropped = record { arena = unlink a op2; op = prev_of a op2; op2 = unlink_op a op2 }

      kept : Round
      kept = record { arena = a; op = op; op2 = next_of a op2 }

      done : Round
      done = record { arena = a; op = op; op2 = op2 }

      go : (b : Bool) → eqb op2 none ≡ b → (f : Bool)
          → cond (b || eqb op2 op) done (straighten pts (suc g) (cond f dropped kept).arena (cond f dropped kept).op (cond f dropped kept).op2)
          ≡ cond (b || eqb op2 op) done (straighten pts g (cond f dropped kept).arena (cond f dropped kept).op (cond f dropped kept).op2)
      go true e f = refl
      go false e true = ap (cond (eqb op2 op) done) (p (eqb-false op2 none e)).0
      go false e false = ap (cond (eqb op2 op) done) q.0

      ended : (b : Bool) → eqb op2 none ≡ b → (c : Bool) → eqb op2 op ≡ c → (f : Bool)
          → Ended (cond (b || c) done (straighten pts g (cond f dropped kept).arena (cond f dropped kept).op (cond f dropped kept).op2))
      ended true e c h f = or_left (eqb op2 none) (eqb op2 op) e
      ended false e true h f = or_right (eqb op2 none) (eqb op2 op) h
      ended false e false h true = (p (eqb-false op2 none e)).1
      ended false e false h false = q.1

  stable : (f : ℕ) → Stable f
  stable zero a op op2 ps qs r d h = absurd (omega arith)
  stable (suc g) a op op2 [] qs r d h =
      one_pass g a op op2
      (λ n. gone g (stable g) a op2 op qs r d n (let e : tri (0 + length qs + 2) ≡ tri (length qs + 2) = ap tri (omega arith) in omega arith))
      (at_op_claim g a op (next_of a op2) r.chain.0.fore)
  stable (suc g) a op op2 (x ∷ ps) qs r d h =
      let l : length (ps ++ op ∷ qs) ≡ length ps + suc (length qs) = length-append ps (op ∷ qs) in
      let l2 : length (qs ++ op2 ∷ []) ≡ length qs + 1 = length-append qs (op2 ∷ []) in
      let e : tri (length (ps ++ op ∷ qs) + 2) ≡ tri (suc (length ps) + length qs + 2) = ap tri (omega arith) in
      let e2 : tri (length ps + length (qs ++ op2 ∷ []) + 2) ≡ tri (suc (length ps) + length qs + 2) = ap tri (omega arith) in
      one_pass g a op op2
      (λ n. gone g (stable g) a op2 x (ps ++ op ∷ qs) r d n (omega arith))
      (subst (λ (y : ℕ). Claim g a op y) (sym r.chain.0.fore)
      (stable g a op x ps (qs ++ op2 ∷ []) (subst (λ (l : List ℕ). Ring (next_of a) (prev_of a) x l) (append_assoc ps (op ∷ qs) (op2 ∷ [])) (turn op2 x [] (ps ++ op ∷ qs) r))
      (subst (λ (l : List ℕ). Distinct (x ∷ l)) (append_assoc ps (op ∷ qs) (op2 ∷ [])) (distinct_turn op2 (x ∷ ps ++ op ∷ qs) d.0 d.1)) (omega arith)))

  -- from the node behind op
  from_next : (m : ℕ) (a : Arena) (op : ℕ) (xs : List ℕ) → Ring (next_of a) (prev_of a) op xs → Distinct (op ∷ xs) → suc (length xs) * suc (length xs) ≤ m
      → Claim m a op (next_of a op)
  from_next m a op [] r d h = at_op_claim m a op (next_of a op) r.closes.fore
  from_next m a op (x ∷ xs) r d h =
      let t = tri_square (suc (length xs)) in
      let e : tri (length xs + 0 + 2) ≡ tri (suc (suc (length xs))) = ap tri (omega arith) in
      subst (λ (y : ℕ). Claim m a op y) (sym r.chain.0.fore)
      (stable m a op x xs [] (turn op x [] xs r) (distinct_turn op (x ∷ xs) d.0 d.1) (omega arith))

pub straighten_ends : StraightenEnds
straighten_ends pts a op r =
    let s = simple (length pts) a op r in
    let q : suc (length s.others) * suc (length s.others) ≤ length pts * length pts = mul-le-mul s.few s.few in
    more_of (λ (k : ℕ). straighten pts k a op (next_of a op)) (length pts * length pts) (λ m h. (from_next pts m a op s.others s.ring s.distinct (omega arith)).0)

pub straighten_ended : (pts : List Point64) (a : Arena) (op : ℕ) → B.Ring (length pts) a op → Ended (straighten pts (length pts * length pts) a op (next_of a op))
straighten_ended pts a op r = let s = simple (length pts) a op r in (from_next pts (length pts * length pts) a op s.others s.ring s.distinct (mul-le-mul s.few s.few)).1
