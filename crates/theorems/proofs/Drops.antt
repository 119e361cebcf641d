-- The count of `check_edges`' loop is enough: op2 goes round to op once, and a node that is dropped takes its own pass.
use mathlib.Core.Path.{◌≡◌, refl, sym, ap, ◌∙◌, subst}
use mathlib.Core.Bool.{Bool, true, false, cond, not, ◌&&◌, ◌||◌}
use mathlib.Core.List.{List, [], ◌∷◌, ◌++◌, append_assoc}
use Prim.Native.Nat.{ℕ, zero, suc, ◌+◌, ◌*◌, ◌≤◌}
use native.Mathlib.Omega.{arith}
use lib.ListN.{length, length-append}
use lib.Dec.{eqb}
use borrow.Author.Tests.{eq-eqb, ne_eqb, eqb-false}
use Rattle.plane.specs.declared.point.Point64.{Point64}
use Rattle.plane.specs.Basics.{none}
use Rattle.reference.specs.Arena.{Arena, next_of, prev_of, unlink, unlink_op_back, is_flat, Round, drop_collinear, drop_collinear_pass}
use Rattle.theorems.specs.LoopsEnd.{Ended}
use Rattle.theorems.specs.Bounds as B
use Rattle.theorems.specs.Bounds.{DropEnds}
use Rattle.theorems.proofs.Ends.{more_of}
use Rattle.theorems.proofs.RingLaw.{end, Ring, Distinct, turn, end_append}
use Rattle.theorems.proofs.RingLaw as L
use Rattle.theorems.proofs.Unlinked.{simple, without, to_back, front}
use Rattle.theorems.proofs.Tests.{or_left, or_right}
use Rattle.theorems.proofs.RingLists.{distinct_turn}

-- ---- `check_edges`' loop: op2 goes round to op once; a node that is dropped takes its own pass
-- the ring without its first node, from the last one on
pub record Shrunk (a : Arena) (b e : ℕ) (w : List ℕ) : Type 0 where
  pub ring : Ring (next_of (unlink a b)) (prev_of (unlink a b)) e w
  pub distinct : Distinct (e ∷ w)
  pub back : unlink_op_back a b ≡ e

shrink : (a : Arena) (b e : ℕ) (w : List ℕ) → Ring (next_of a) (prev_of a) b (w ++ e ∷ []) → Distinct (b ∷ w ++ e ∷ []) → (b ≡ none → ⊥) → Shrunk a b e w
shrink a b e [] r d n = record { ring = without a b e [] r d n; distinct = d.1; back = to_back a b e [] r d n ∙ r.closes.back }
shrink a b e (y ∷ w) r d n =
    record {
      ring = turn y e w [] (without a b y (w ++ e ∷ []) r d n);
      distinct = (L.across (y ∷ w) [] e d.1, L.distinct_left (y ∷ w) (e ∷ []) d.1);
      back = to_back a b y (w ++ e ∷ []) r d n ∙ r.closes.back ∙ end_append y e w [];
    }

module _ (pts : List Point64) where
  -- one pass more than f changes nothing, and the loop has ended
  abbrev Sure : ℕ → Arena → ℕ → ℕ → Type 0
  Sure f a op op2 = (drop_collinear pts (suc f) a op op2 ≡ drop_collinear pts f a op op2) × Ended (drop_collinear pts f a op op2)

  -- the pass that answers s is followed by others unless s ends the loop
  abbrev Same : ℕ → Round → Type 0
  Same g s = (s.op2 ≡ none → ⊥) → (s.op2 ≡ s.op → ⊥) → Sure g s.arena s.op s.op2

  abbrev dropped : Arena → ℕ → ℕ → Round
  dropped a op op2 = record { arena = unlink a op2; op = cond (eqb op2 op && not (eqb (unlink_op_back a op2) none)) (prev_of (unlink a op2) (unlink_op_back a op2)) op; op2 = unlink_op_back a op2 }

  abbrev kept : Arena → ℕ → ℕ → Round
  kept a op op2 = record { arena = a; op = op; op2 = next_of a op2 }

  one_drop : (g : ℕ) (a : Arena) (op op2 : ℕ) → Same g (dropped a op op2) → Same g (kept a op op2) → Sure (suc g) a op op2
  unfolding drop_collinear drop_collinear_pass
  one_drop g a op op2 p q = (go (is_flat pts a op2), ends (is_flat pts a op2))
    where
      after : (s : Round) → Same g s
          → cond (eqb s.op2 none || eqb s.op2 s.op) s (drop_collinear pts (suc g) s.arena s.op s.op2) ≡ cond (eqb s.op2 none || eqb s.op2 s.op) s (drop_collinear pts g s.arena s.op s.op2)
      after s h = on (eqb s.op2 none) refl (eqb s.op2 s.op) refl
        where
          on : (b : Bool) → eqb s.op2 none ≡ b → (c : Bool) → eqb s.op2 s.op ≡ c
              → cond (b || c) s (drop_collinear pts (suc g) s.arena s.op s.op2) ≡ cond (b || c) s (drop_collinear pts g s.arena s.op s.op2)
          on true e c f = refl
          on false e true f = refl
          on false e false f = (h (eqb-false s.op2 none e) (eqb-false s.op2 s.op f)).0

      ended : (s : Round) → Same g s → Ended (cond (eqb s.op2 none || eqb s.op2 s.op) s (drop_collinear pts g s.arena s.op s.op2))
      ended s h = on (eqb s.op2 none) refl (eqb s.op2 s.op) refl
        where
          on : (b : Bool) → eqb s.op2 none ≡ b → (c : Bool) → eqb s.op2 s.op ≡ c → Ended (cond (b || c) s (drop_collinear pts g s.arena s.op s.op2))
          on true e c f = or_left (eqb s.op2 none) (eqb s.op2 s.op) e
          on false e true f = or_right (eqb s.op2 none) (eqb s.op2 s.op) f
          on false e false f = (h (eqb-false s.op2 none e) (eqb-false s.op2 s.op f)).1

      ends : (f : Bool) → Ended (let s = cond f (dropped a op op2) (kept a op op2) in cond (eqb s.op2 none || eqb s.op2 s.op) s (drop_collinear pts g s.arena s.op s.op2))
      ends true = ended (dropped a op op2) p
      ends false = ended (kept a op op2) q

      go : (f : Bool) → (let s = cond f (dropped a op op2) (kept a op op2) in cond (eqb s.op2 none || eqb s.op2 s.op) s (drop_collinear pts (suc g) s.arena s.op s.op2))
          ≡ (let s = cond f (dropped a op op2) (kept a op op2) in cond (eqb s.op2 none || eqb s.op2 s.op) s (drop_collinear pts g s.arena s.op s.op2))
      go true = after (dropped a op op2) p
      go false = after (kept a op op2) q

  -- the claim at f passes; op2 is not op
  abbrev Settled : ℕ → Type 0
  Settled f = (a : Arena) (op op2 : ℕ) (ps qs : List ℕ) → Ring (next_of a) (prev_of a) op2 (ps ++ op ∷ qs) → Distinct (op2 ∷ ps ++ op ∷ qs) → (op2 ≡ none → ⊥)
      → length ps + 1 + (length ps + length qs + 2) ≤ f → Sure f a op op2

  -- from one state to an equal one
  moved : (g : ℕ) (a : Arena) (op op' op2 op2' : ℕ) → op ≡ op' → op2 ≡ op2' → Sure g a op' op2' → Sure g a op op2
  moved g a op op' op2 op2' e f h =
      subst (λ (x : ℕ). Sure g a x op2) (sym e)
      (subst (λ (y : ℕ). Sure g a op' y) (sym f) h)

  op_stays : (a : Arena) (op op2 : ℕ) → (op2 ≡ op → ⊥) → (dropped a op op2).op ≡ op
  op_stays a op op2 n = ap (λ (b : Bool). cond (b && not (eqb (unlink_op_back a op2) none)) (prev_of (unlink a op2) (unlink_op_back a op2)) op) (ne_eqb op2 op n)

  op_moves : (a : Arena) (op : ℕ) → (unlink_op_back a op ≡ none → ⊥) → (dropped a op op).op ≡ prev_of (unlink a op) (unlink_op_back a op)
  op_moves a op n = λ i. cond (eq-eqb op op refl i && not (ne_eqb (unlink_op_back a op) none n i)) (prev_of (unlink a op) (unlink_op_back a op)) op

  drop_on : (g : ℕ) → Settled g → (a : Arena) (op op2 : ℕ) (ps qs : List ℕ) → Ring (next_of a) (prev_of a) op2 (ps ++ op ∷ qs) → Distinct (op2 ∷ ps ++ op ∷ qs) → (op2 ≡ none → ⊥)
      → length ps + 1 + (length ps + length qs + 2) ≤ suc g → Same g (dropped a op op2)
  drop_on g ih a op op2 ps [] r d n h =
      let s = shrink a op2 op ps r d n in
      λ _ ne. absurd (ne (s.back ∙ sym (op_stays a op op2 (λ e. (L.off_right op2 ps (op ∷ []) d.0).0 (sym e)))))
  drop_on g ih a op op2 ps (z ∷ zs) r d n h =
      let v = front z zs in
      let e : ps ++ op ∷ z ∷ zs ≡ (ps ++ op ∷ v.0) ++ end z zs ∷ [] = ap (λ (l : List ℕ). ps ++ op ∷ l) v.1 ∙ sym (append_assoc ps (op ∷ v.0) (end z zs ∷ [])) in
      let s = shrink a op2 (end z zs) (ps ++ op ∷ v.0) (subst (λ (l : List ℕ). Ring (next_of a) (prev_of a) op2 l) e r) (subst (λ (l : List ℕ). Distinct (op2 ∷ l)) e d) n in
      λ nn _. moved g (unlink a op2) (dropped a op op2).op op (unlink_op_back a op2) (end z zs) (op_stays a op op2 (λ q. (L.off_right op2 ps (op ∷ z ∷ zs) d.0).0 (sym q))) s.back
      (ih (unlink a op2) op (end z zs) ps v.0 s.ring s.distinct (λ q. nn (s.back ∙ q)) (omega (arith, v.2)))

  keep_on : (g : ℕ) → Settled g → (a : Arena) (op op2 : ℕ) (ps qs : List ℕ) → Ring (next_of a) (prev_of a) op2 (ps ++ op ∷ qs) → Distinct (op2 ∷ ps ++ op ∷ qs)
      → length ps + 1 + (length ps + length qs + 2) ≤ suc g → Same g (kept a op op2)
  keep_on g ih a op op2 [] qs r d h = λ _ ne. absurd (ne r.chain.0.fore)
  keep_on g ih a op op2 (x ∷ ps) qs r d h =
      let l : length (qs ++ op2 ∷ []) ≡ length qs + 1 = length-append qs (op2 ∷ []) in
      λ nn _. moved g a op op (next_of a op2) x refl r.chain.0.fore
      (ih a op x ps (qs ++ op2 ∷ []) (subst (λ (l : List ℕ). Ring (next_of a) (prev_of a) x l) (append_assoc ps (op ∷ qs) (op2 ∷ [])) (turn op2 x [] (ps ++ op ∷ qs) r))
      (subst (λ (l : List ℕ). Distinct (x ∷ l)) (append_assoc ps (op ∷ qs) (op2 ∷ [])) (distinct_turn op2 (x ∷ ps ++ op ∷ qs) d.0 d.1)) (λ q. nn (r.chain.0.fore ∙ q)) (omega arith))

  settled : (f : ℕ) → Settled f
  settled zero a op op2 ps qs r d n h = absurd (omega arith)
  settled (suc g) a op op2 ps qs r d n h = one_drop g a op op2 (drop_on g (settled g) a op op2 ps qs r d n h) (keep_on g (settled g) a op op2 ps qs r d h)

  -- the first pass, at op itself
  first_kept : (g : ℕ) (a : Arena) (op : ℕ) (xs : List ℕ) → Ring (next_of a) (prev_of a) op xs → Distinct (op ∷ xs) → 2 * length xs + 1 ≤ g → Same g (kept a op op)
  first_kept g a op [] r d h = λ _ ne. absurd (ne r.closes.fore)
  first_kept g a op (x ∷ xs) r d h = λ nn _. moved g a op op (next_of a op) x refl r.chain.0.fore
      (settled g a op x xs [] (turn op x [] xs r) (distinct_turn op (x ∷ xs) d.0 d.1) (λ q. nn (r.chain.0.fore ∙ q)) (omega arith))

  first_shrunk : (g : ℕ) (a : Arena) (op e : ℕ) (w : List ℕ) → Shrunk a op e w → 2 * length w + 1 ≤ g → Same g (dropped a op op)
  first_shrunk g a op e [] s h = λ nn ne. absurd (ne (s.back ∙ sym (op_moves a op nn ∙ ap (prev_of (unlink a op)) s.back ∙ s.ring.closes.back)))
  first_shrunk g a op e (y ∷ w) s h =
      let v = front y w in
      λ nn _. moved g (unlink a op) (dropped a op op).op (end y w) (unlink_op_back a op) e (op_moves a op nn ∙ ap (prev_of (unlink a op)) s.back ∙ s.ring.closes.back) s.back
      (settled g (unlink a op) (end y w) e v.0 [] (subst (λ (l : List ℕ). Ring (next_of (unlink a op)) (prev_of (unlink a op)) e l) v.1 s.ring) (subst (λ (l : List ℕ). Distinct (e ∷ l)) v.1 s.distinct)
      (λ q. nn (s.back ∙ q)) (omega (arith, v.2)))

  first_dropped : (g : ℕ) (a : Arena) (op : ℕ) (xs : List ℕ) → Ring (next_of a) (prev_of a) op xs → Distinct (op ∷ xs) → (op ≡ none → ⊥) → 2 * length xs + 1 ≤ g → Same g (dropped a op op)
  first_dropped g a op [] r d n h = λ nn _. absurd (nn (ap (λ (b : Bool). cond b none (prev_of a op)) (eq-eqb (next_of a op) op r.closes.fore)))
  first_dropped g a op (x ∷ xs) r d n h =
      let v = front x xs in
      first_shrunk g a op (end x xs) v.0 (shrink a op (end x xs) v.0 (subst (λ (l : List ℕ). Ring (next_of a) (prev_of a) op l) v.1 r) (subst (λ (l : List ℕ). Distinct (op ∷ l)) v.1 d) n) (omega (arith, v.2))

  from_op : (m : ℕ) (a : Arena) (op : ℕ) (xs : List ℕ) → Ring (next_of a) (prev_of a) op xs → Distinct (op ∷ xs) → (op ≡ none → ⊥) → 2 * length xs + 2 ≤ m → Sure m a op op
  from_op zero a op xs r d n h = absurd (omega arith)
  from_op (suc g) a op xs r d n h = one_drop g a op op (first_dropped g a op xs r d n (omega arith)) (first_kept g a op xs r d (omega arith))

pub drop_ends : DropEnds
drop_ends pts a op n r =
    let s = simple (length pts) a op r in
    more_of (λ (k : ℕ). drop_collinear pts k a op op) (2 * length pts + 1) (λ m h. (from_op pts m a op s.others s.ring s.distinct (eqb-false op none n) (omega (arith, s.few))).0)

pub drop_ended : (pts : List Point64) (a : Arena) (op : ℕ) → eqb op none ≡ false → B.Ring (length pts) a op → Ended (drop_collinear pts (2 * length pts + 1) a op op)
drop_ended pts a op n r = let s = simple (length pts) a op r in (from_op pts (2 * length pts + 1) a op s.others s.ring s.distinct (eqb-false op none n) (omega (arith, s.few))).1
