-- Rings of distinct nodes, and what unlinking a node does to one.
use mathlib.Core.Path.{◌≡◌, refl, sym, ap, ◌∙◌, subst}
use mathlib.Core.Bool.{Bool, cond}
use mathlib.Core.List.{List, [], ◌∷◌, ◌++◌}
use Prim.Native.Nat.{ℕ, zero, suc, ◌<◌, ◌≤◌, suc-le-suc, zero-le}
use native.Mathlib.Omega.{arith}
use native.Mathlib.Decide.{ℕ_discrete}
use lib.ListN.{length, get_or}
use lib.Seq.{get_or-set_same, get_or-set_other}
use borrow.Author.Tests.{ne_eqb}
use Rattle.plane.specs.Basics.{none}
use Rattle.reference.specs.Arena.{Arena, next_of, prev_of, set_next, set_prev, unlink, unlink_op, unlink_op_back}
use Rattle.theorems.specs.Bounds as B
use Rattle.theorems.specs.Bounds.{Ringed, last, step}
use Rattle.theorems.proofs.RingLaw.{Link, Chain, end, Ring, Off, Distinct, Bypassed}
use Rattle.theorems.proofs.RingLaw as L

-- ---- from the ring of `Bounds` to a ring of distinct nodes
module _ (nx pv : ℕ → ℕ) where
  -- up to the first return to a
  pub record Once (a b : ℕ) (n : ℕ) : Type 0 where
    pub others : List ℕ
    pub few : length others ≤ n
    pub chain : Chain nx pv b others
    pub closes : Link nx pv (end b others) a
    pub off : Off a others

  once : (a b : ℕ) (xs : List ℕ) → Chain nx pv b xs → Link nx pv (end b xs) a → Once a b (length xs)
  once a b [] c l = record { others = []; few = omega arith; chain = tt; closes = l; off = tt }
  once a b (x ∷ xs) c l = go (ℕ_discrete x a) (once a x xs c.1 l)
    where
      go : Dec (x ≡ a) → Once a x (length xs) → Once a b (suc (length xs))
      go (yes e) r = record { others = []; few = zero-le; chain = tt; closes = subst (Link nx pv b) e c.0; off = tt }
      go (no h) r = record { others = x ∷ r.others; few = suc-le-suc r.few; chain = (c.0, r.chain); closes = r.closes; off = (h, r.off) }

  -- a later node whose `prev` is not a is not the node behind a
  off_next : (a x b : ℕ) (ys : List ℕ) → pv x ≡ a → Chain nx pv b ys → Off a (b ∷ ys) → Off x ys
  off_next a x b [] e c o = tt
  off_next a x b (y ∷ ys) e c o = ((λ q. o.0 (sym c.0.back ∙ ap pv q ∙ e)), off_next a x y ys e c.1 o.1)

  pub distinct : (a : ℕ) (xs : List ℕ) → Chain nx pv a xs → Off a xs → Distinct (a ∷ xs)
  distinct a [] c o = (tt, tt)
  distinct a (x ∷ xs) c o = (o, distinct x xs c.1 (off_next a x x xs c.0.back c.1 o))

chain_of : (a : Arena) (op x : ℕ) (ys : List ℕ) → Ringed a op x ys → Chain (next_of a) (prev_of a) x ys × Link (next_of a) (prev_of a) (end x ys) op
chain_of a op x ys (last e f) = (tt, record { fore = e; back = f })
chain_of a op x ys (step {y} {ys = zs} e f r) = let c = chain_of a op y zs r in ((record { fore = e; back = f }, c.0), c.1)

pub record Simple (n : ℕ) (a : Arena) (op : ℕ) : Type 0 where
  pub others : List ℕ
  pub few : length others < n
  pub ring : Ring (next_of a) (prev_of a) op others
  pub distinct : Distinct (op ∷ others)

pub simple : (n : ℕ) (a : Arena) (op : ℕ) → B.Ring n a op → Simple n a op
simple n a op r =
    let c = chain_of a op op r.others r.ringed in
    let o = once (next_of a) (prev_of a) op op r.others c.0 c.1 in
    record { others = o.others; few = omega (arith, o.few, r.few); ring = record { chain = o.chain; closes = o.closes }; distinct = distinct (next_of a) (prev_of a) op o.others o.chain o.off }

-- ---- a node that is not `none` is unlinked
in_range : (l : List ℕ) (i : ℕ) → (get_or l i none ≡ none → ⊥) → i < length l
in_range [] i h = absurd (h refl)
in_range (x ∷ l) zero h = suc-le-suc zero-le
in_range (x ∷ l) (suc i) h = suc-le-suc (in_range l i h)

-- the two stores lead past b
pub bypassed : (a : Arena) (b : ℕ) → (next_of a b ≡ b → ⊥) → prev_of a b < length a.next → next_of a b < length a.prev → Bypassed (next_of a) (prev_of a) (next_of (unlink a b)) (prev_of (unlink a b)) b
unfolding unlink set_next set_prev
bypassed a b more h k = rw (ne_eqb (next_of a b) b more) (record {
  over = record {
    fore = get_or-set_same a.next (prev_of a b) (next_of a b) none h;
    back = get_or-set_same a.prev (next_of a b) (prev_of a b) none k;
  };
  fore = λ i d. get_or-set_other a.next (prev_of a b) i (next_of a b) none d;
  back = λ i d. get_or-set_other a.prev (next_of a b) i (prev_of a b) none d;
})

module _ (a : Arena) (b x : ℕ) (xs : List ℕ) (r : Ring (next_of a) (prev_of a) b (x ∷ xs)) (d : Distinct (b ∷ x ∷ xs)) (nb : b ≡ none → ⊥) where
  pub not_alone : next_of a b ≡ b → ⊥
  not_alone q = d.0.0 (sym r.chain.0.fore ∙ q)

  before_in : prev_of a b < length a.next
  before_in = in_range a.next (prev_of a b) (λ z. nb (sym (ap (next_of a) r.closes.back ∙ r.closes.fore) ∙ z))

  behind_in : next_of a b < length a.prev
  behind_in = in_range a.prev (next_of a b) (λ z. nb (sym (ap (prev_of a) r.chain.0.fore ∙ r.chain.0.back) ∙ z))

  -- the ring without b
  pub without : Ring (next_of (unlink a b)) (prev_of (unlink a b)) x xs
  without = L.unlink b x xs d r (bypassed a b not_alone before_in behind_in)

  pub to_next : unlink_op a b ≡ next_of a b
  to_next = ap (λ (t : Bool). cond t none (next_of a b)) (ne_eqb (next_of a b) b not_alone)

  pub to_back : unlink_op_back a b ≡ prev_of a b
  to_back = ap (λ (t : Bool). cond t none (prev_of a b)) (ne_eqb (next_of a b) b not_alone)

-- ---- lists
-- the last of a list of one or more
pub front : (x : ℕ) (xs : List ℕ) → (zs : List ℕ) × (x ∷ xs ≡ zs ++ end x xs ∷ []) × (length zs ≡ length xs)
front x [] = ([], refl, refl)
front x (y ∷ ys) = let r = front y ys in (x ∷ r.0, ap (λ (l : List ℕ). x ∷ l) r.1, ap suc r.2)
