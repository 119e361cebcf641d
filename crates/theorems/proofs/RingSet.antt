-- All rings at once, over functions next, previous and owner of the node: ring number s is a list of nodes whose owner is s. So rings share no node.
use mathlib.Core.Path.{◌≡◌, refl, sym, ◌∙◌, ap, subst}
use mathlib.Core.List.{List, [], ◌∷◌, ◌++◌, append_assoc}
use mathlib.Core.Logic.{⊎_elim, inl, inr}
use Prim.Native.Nat.{ℕ, zero, suc, ◌<◌}
use lib.ListN.{length, get_or, set, length-set, get_or-append, get_or-eq_default, length-append}
use lib.Seq.{get_or-set_same, get_or-set_other, get_or_at}
use lib.IntN.{ℤ, pos, ◌+ℤ◌, ◌-ℤ◌, +ℤ_assoc, +ℤ_comm, +ℤ_idr, +ℤ_idl, +ℤ-neg_ℤ_cancel}
use native.Mathlib.Omega.{arith}
use native.Mathlib.Decide.{ℕ_discrete, dec_lt}
use Rattle.theorems.proofs.RingLaw.{Chain, Ring, end, Off, Distinct, Exchanged, Bypassed, split, join, unlink, turn, distinct_left, distinct_right, chain_seam, end_append}
use Rattle.theorems.proofs.AreaLaw.{area, area_split, area_turn}
use Rattle.theorems.proofs.RingLists.{RingOf, All, In, all_map, all_end, all_left, all_right, all_append, all_off, all_both, distinct_append, in_append, in_left, in_right, distinct_turn}

-- ---- rings
-- the nodes of xs are ring number s
pub record Ok (n : ℕ) (nx pv ow : ℕ → ℕ) (s : ℕ) (xs : List ℕ) : Type 0 where
  pub ring : RingOf nx pv xs
  pub once : Distinct xs
  pub own : All (λ i. (i < n) × (ow i ≡ s)) xs

abbrev pub Rings : ℕ → (ℕ → ℕ) → (ℕ → ℕ) → (ℕ → ℕ) → List (List ℕ) → Type 0
Rings n nx pv ow rs = (s : ℕ) → Ok n nx pv ow s (get_or rs s [])

-- a node keeps its three fields
abbrev pub Same : (nx pv ow nx' pv' ow' : ℕ → ℕ) → ℕ → Type 0
Same nx pv ow nx' pv' ow' i = (nx' i ≡ nx i) × (pv' i ≡ pv i) × (ow' i ≡ ow i)

module _ (nx pv ow nx' pv' ow' : ℕ → ℕ) where
  chain_same : (a : ℕ) (xs : List ℕ) → All (Same nx pv ow nx' pv' ow') (a ∷ xs) → Chain nx pv a xs → Chain nx' pv' a xs
  chain_same a [] h c = tt
  chain_same a (x ∷ xs) h c = (record { fore = h.0.0 ∙ c.0.fore; back = h.1.0.1 ∙ c.0.back }, chain_same x xs h.1 c.1)

  pub ring_same : (xs : List ℕ) → All (Same nx pv ow nx' pv' ow') xs → RingOf nx pv xs → RingOf nx' pv' xs
  ring_same [] h r = tt
  ring_same (a ∷ xs) h r = record {
    chain = chain_same a xs h r.chain;
    closes = record { fore = (all_end (Same nx pv ow nx' pv' ow') a xs h).0 ∙ r.closes.fore; back = h.0.1 ∙ r.closes.back };
  }

  -- ring number s is kept where its nodes keep their fields
  pub ok_kept : (n s : ℕ) (xs : List ℕ) → ((i : ℕ) → i < n → ow i ≡ s → Same nx pv ow nx' pv' ow' i) → Ok n nx pv ow s xs → Ok n nx' pv' ow' s xs
  ok_kept n s xs f k = record {
    ring = ring_same xs (all_map _ (Same nx pv ow nx' pv' ow') xs (λ i h. f i h.0 h.1) k.own) k.ring;
    once = k.once;
    own = all_map _ _ xs (λ i h. (h.0, (f i h.0 h.1).2 ∙ h.1)) k.own;
  }

-- a node of another owner is none of xs
pub other : (ow : ℕ → ℕ) (r s i : ℕ) (xs : List ℕ) (n : ℕ) → All (λ j. (j < n) × (ow j ≡ r)) xs → ow i ≡ s → (s ≡ r → ⊥) → Off i xs
other ow r s i [] n a e h = tt
other ow r s i (x ∷ xs) n a e h = ((λ q. h (sym e ∙ ap ow (sym q) ∙ a.0.1)), other ow r s i xs n a.1 e h)

-- ---- a node of a ring of two or more is unlinked: the other rings are kept, and its own has one node less
pub unlink_rings : (n : ℕ) (nx pv ow nx' pv' : ℕ → ℕ) (rs : List (List ℕ)) (r b a : ℕ) (xs : List ℕ) → Rings n nx pv ow rs → r < length rs → get_or rs r [] ≡ b ∷ a ∷ xs
    → Bypassed nx pv nx' pv' b → Rings n nx' pv' ow (set rs r (a ∷ xs))
unlink_rings n nx pv ow nx' pv' rs r b a xs G hr e B s =
    let K : Ok n nx pv ow r (b ∷ a ∷ xs) = rw e at (G r) in
    let nb : nx b ≡ a = K.ring.chain.0.fore in
    let pb : pv b ≡ end a xs = K.ring.closes.back in
    let oa : ow (nx b) ≡ r = ap ow nb ∙ K.own.1.0.1 in
    let op : ow (pv b) ≡ r = ap ow pb ∙ (all_end _ a xs K.own.1).1 in
    elim (ℕ_discrete s r) [
      | yes q ↦
          subst (λ (z : ℕ). Ok n nx' pv' ow z (get_or (set rs r (a ∷ xs)) z [])) (sym q)
          (rw (get_or-set_same rs r (a ∷ xs) [] hr)
          (record { ring = unlink b a xs K.once K.ring B; once = K.once.1; own = K.own.1 }))
      | no q ↦
          rw (get_or-set_other rs r s (a ∷ xs) [] q)
          (ok_kept nx pv ow nx' pv' ow n s (get_or rs s [])
          (λ i hi ho. (B.fore i (λ w. q (sym ho ∙ ap ow w ∙ op)), B.back i (λ w. q (sym ho ∙ ap ow w ∙ oa)), refl))
          (G s))
    ]

-- ---- a ring is split: the part b ∷ ys gets the next number
module _ (n : ℕ) (nx pv ow nx' pv' ow' : ℕ → ℕ) (rs : List (List ℕ)) (r a b : ℕ) (xs ys : List ℕ) (G : Rings n nx pv ow rs) (hr : r < length rs)
    (e : get_or rs r [] ≡ (a ∷ xs) ++ (b ∷ ys)) (X : Exchanged nx pv nx' pv' (end a xs) (end b ys))
    (own_in : All (λ i. ow' i ≡ length rs) (b ∷ ys)) (own_off : (i : ℕ) → Off i (b ∷ ys) → ow' i ≡ ow i) where
  was : Ok n nx pv ow r ((a ∷ xs) ++ (b ∷ ys))
  was = rw e at (G r)

  own_p : All (λ i. (i < n) × (ow i ≡ r)) (a ∷ xs)
  own_p = all_left _ (a ∷ xs) (b ∷ ys) was.own

  own_q : All (λ i. (i < n) × (ow i ≡ r)) (b ∷ ys)
  own_q = all_right _ (a ∷ xs) (b ∷ ys) was.own

  both : Ring nx' pv' a xs × Ring nx' pv' b ys
  both = split a b xs ys was.once was.ring X

  ok_p : Ok n nx' pv' ow' r (a ∷ xs)
  ok_p = record {
    ring = both.0;
    once = distinct_left (a ∷ xs) (b ∷ ys) was.once;
    own = all_map _ _ (a ∷ xs) (λ i h. (h.0.0, own_off i h.1 ∙ h.0.1)) (all_off _ (a ∷ xs) (b ∷ ys) was.once own_p);
  }

  ok_q : Ok n nx' pv' ow' (length rs) (b ∷ ys)
  ok_q = record {
    ring = both.1;
    once = distinct_right (a ∷ xs) (b ∷ ys) was.once;
    own = all_both _ _ (b ∷ ys) (all_map _ _ (b ∷ ys) (λ i h. h.0) own_q) own_in;
  }

  ok_s : (s : ℕ) → (s ≡ r → ⊥) → Ok n nx' pv' ow' s (get_or rs s [])
  ok_s s h =
      let nu : nx (end a xs) ≡ b = (chain_seam nx pv a b xs ys was.ring.chain).fore in
      let nv : nx (end b ys) ≡ a = rw (end_append a b xs ys) at was.ring.closes.fore in
      let ends : ow (end a xs) ≡ r = (all_end _ a xs own_p).1 in
      let endt : ow (end b ys) ≡ r = (all_end _ b ys own_q).1 in
      ok_kept nx pv ow nx' pv' ow' n s (get_or rs s [])
      (λ i hi ho. (
        X.fore i (λ w. h (sym ho ∙ ap ow w ∙ ends)) (λ w. h (sym ho ∙ ap ow w ∙ endt)),
        X.back i (λ w. h (sym ho ∙ ap ow (w ∙ nu) ∙ own_q.0.1)) (λ w. h (sym ho ∙ ap ow (w ∙ nv) ∙ own_p.0.1)),
        own_off i (other ow r s i (b ∷ ys) n own_q ho h),
      ))
      (G s)

  pub split_rings : Rings n nx' pv' ow' (set rs r (a ∷ xs) ++ (b ∷ ys) ∷ [])
  split_rings s =
      elim (dec_lt s (length rs)) [
        | yes h ↦
            rw (get_or-append (set rs r (a ∷ xs)) ((b ∷ ys) ∷ []) [] s (simp length-set h))
            (elim (ℕ_discrete s r) [
              | yes q ↦ subst (λ (z : ℕ). Ok n nx' pv' ow' z (get_or (set rs r (a ∷ xs)) z [])) (sym q) (rw (get_or-set_same rs r (a ∷ xs) [] hr) ok_p)
              | no q ↦ rw (get_or-set_other rs r s (a ∷ xs) [] q) (ok_s s q)
            ])
        | no h ↦
            elim (ℕ_discrete s (length rs)) [
              | yes q ↦ rw (q, get_or_at (set rs r (a ∷ xs)) (b ∷ ys) [] [] (length rs) (simp length-set)) ok_q
              | no q ↦
                  rw (get_or-eq_default (set rs r (a ∷ xs) ++ (b ∷ ys) ∷ []) [] {n = s} (simp (length-append, length-set) (omega arith)))
                  (record { ring = tt; once = tt; own = tt })
            ]
      ]

-- ---- two rings are joined: ring t becomes a part of ring r
module _ (n : ℕ) (nx pv ow nx' pv' ow' : ℕ → ℕ) (rs : List (List ℕ)) (r t a b : ℕ) (xs ys : List ℕ) (G : Rings n nx pv ow rs) (hr : r < length rs) (ht : t < length rs) (ne : r ≡ t → ⊥)
    (er : get_or rs r [] ≡ a ∷ xs) (et : get_or rs t [] ≡ b ∷ ys) (X : Exchanged nx pv nx' pv' (end a xs) (end b ys))
    (own_in : All (λ i. ow' i ≡ r) (b ∷ ys)) (own_off : (i : ℕ) → Off i (b ∷ ys) → ow' i ≡ ow i) where
  P : Ok n nx pv ow r (a ∷ xs)
  P = rw er at (G r)

  Q : Ok n nx pv ow t (b ∷ ys)
  Q = rw et at (G t)

  apart : All (λ i. ((i < n) × (ow i ≡ r)) × Off i (b ∷ ys)) (a ∷ xs)
  apart = all_map _ _ (a ∷ xs) (λ i h. (h, other ow t r i (b ∷ ys) n Q.own h.1 ne)) P.own

  dist : Distinct ((a ∷ xs) ++ (b ∷ ys))
  dist = distinct_append (a ∷ xs) (b ∷ ys) P.once Q.once (all_map _ _ (a ∷ xs) (λ i h. h.1) apart)

  ok_r : Ok n nx' pv' ow' r ((a ∷ xs) ++ (b ∷ ys))
  ok_r = record {
    ring = join a b xs ys dist P.ring Q.ring X;
    once = dist;
    own = all_append _ (a ∷ xs) (b ∷ ys)
        (all_map _ _ (a ∷ xs) (λ i h. (h.0.0, own_off i h.1 ∙ h.0.1)) apart)
        (all_both _ _ (b ∷ ys) (all_map _ _ (b ∷ ys) (λ i h. h.0) Q.own) own_in);
  }

  ok_j : (s : ℕ) → (s ≡ r → ⊥) → (s ≡ t → ⊥) → Ok n nx' pv' ow' s (get_or rs s [])
  ok_j s h k =
      let ends : ow (end a xs) ≡ r = (all_end _ a xs P.own).1 in
      let endt : ow (end b ys) ≡ t = (all_end _ b ys Q.own).1 in
      ok_kept nx pv ow nx' pv' ow' n s (get_or rs s [])
      (λ i hi ho. (
        X.fore i (λ w. h (sym ho ∙ ap ow w ∙ ends)) (λ w. k (sym ho ∙ ap ow w ∙ endt)),
        X.back i (λ w. h (sym ho ∙ ap ow (w ∙ P.ring.closes.fore) ∙ P.own.0.1)) (λ w. k (sym ho ∙ ap ow (w ∙ Q.ring.closes.fore) ∙ Q.own.0.1)),
        own_off i (other ow t s i (b ∷ ys) n Q.own ho k),
      ))
      (G s)

  pub join_rings : Rings n nx' pv' ow' (set (set rs r ((a ∷ xs) ++ (b ∷ ys))) t [])
  join_rings s =
      elim (ℕ_discrete s t) [
        | yes q ↦ rw (q, get_or-set_same (set rs r ((a ∷ xs) ++ (b ∷ ys))) t [] [] (simp length-set ht)) (record { ring = tt; once = tt; own = tt })
        | no q ↦
            rw (get_or-set_other (set rs r ((a ∷ xs) ++ (b ∷ ys))) t s [] [] q)
            (elim (ℕ_discrete s r) [
              | yes w ↦ rw (w, get_or-set_same rs r ((a ∷ xs) ++ (b ∷ ys)) [] hr) ok_r
              | no w ↦ rw (get_or-set_other rs r s ((a ∷ xs) ++ (b ∷ ys)) [] w) (ok_j s w q)
            ])
      ]

-- ---- the total area
cancel : (x y z : ℤ) → x +ℤ z ≡ y +ℤ z → x ≡ y
cancel x y z h = sym (+ℤ-neg_ℤ_cancel x z) ∙ ap (λ (w : ℤ). w -ℤ z) h ∙ +ℤ-neg_ℤ_cancel y z

module _ (wt : ℕ → ℕ → ℤ) where
  unfoldable pub area_of : List ℕ → ℤ
  area_of [] = pos 0
  area_of (a ∷ xs) = area wt a xs

  unfoldable pub total : List (List ℕ) → ℤ
  total [] = pos 0
  total (x ∷ rs) = area_of x +ℤ total rs

  -- one ring is changed for one of the same area
  pub total_set : (rs : List (List ℕ)) (r : ℕ) (xs : List ℕ) → r < length rs → area_of xs ≡ area_of (get_or rs r []) → total (set rs r xs) ≡ total rs
  unfolding total
  total_set [] r xs h e = refl
  total_set (x ∷ rs) zero xs h e = ap (λ (z : ℤ). z +ℤ total rs) e
  total_set (x ∷ rs) (suc r) xs h e = ap (λ (z : ℤ). area_of x +ℤ z) (total_set rs r xs (omega arith) e)

  pub total_change : (rs : List (List ℕ)) (r : ℕ) (xs : List ℕ) → r < length rs → total (set rs r xs) +ℤ area_of (get_or rs r []) ≡ total rs +ℤ area_of xs
  unfolding total
  total_change [] r xs h = absurd (omega arith)
  total_change (x ∷ rs) zero xs h =
      +ℤ_assoc (area_of xs) (total rs) (area_of x) ∙ +ℤ_comm (area_of xs) (total rs +ℤ area_of x)
      ∙ ap (λ (z : ℤ). z +ℤ area_of xs) (+ℤ_comm (total rs) (area_of x))
  total_change (x ∷ rs) (suc r) xs h =
      +ℤ_assoc (area_of x) (total (set rs r xs)) (area_of (get_or rs r [])) ∙ ap (λ (z : ℤ). area_of x +ℤ z) (total_change rs r xs (omega arith))
      ∙ sym (+ℤ_assoc (area_of x) (total rs) (area_of xs))

  total_snoc : (rs : List (List ℕ)) (xs : List ℕ) → total (rs ++ xs ∷ []) ≡ total rs +ℤ area_of xs
  unfolding total
  total_snoc [] xs = +ℤ_idr (area_of xs) ∙ sym (+ℤ_idl (area_of xs))
  total_snoc (x ∷ rs) xs = ap (λ (z : ℤ). area_of x +ℤ z) (total_snoc rs xs) ∙ sym (+ℤ_assoc (area_of x) (total rs) (area_of xs))

  module _ (rs : List (List ℕ)) (r a b : ℕ) (xs ys : List ℕ) (hr : r < length rs)
      (w : wt (end a xs) b +ℤ wt (end b ys) a ≡ wt (end a xs) a +ℤ wt (end b ys) b) where
    sums : area_of ((a ∷ xs) ++ (b ∷ ys)) ≡ area_of (a ∷ xs) +ℤ area_of (b ∷ ys)
    unfolding area_of
    sums = area_split wt a b xs ys w

    pub total_split : get_or rs r [] ≡ (a ∷ xs) ++ (b ∷ ys) → total (set rs r (a ∷ xs) ++ (b ∷ ys) ∷ []) ≡ total rs
    total_split e =
        let p = area_of (a ∷ xs) in
        let q = area_of (b ∷ ys) in
        let T = total (set rs r (a ∷ xs)) in
        let k : T +ℤ (p +ℤ q) ≡ total rs +ℤ p = ap (λ (z : ℤ). T +ℤ z) (sym sums ∙ ap area_of (sym e)) ∙ total_change rs r (a ∷ xs) hr in
        total_snoc (set rs r (a ∷ xs)) (b ∷ ys)
        ∙ cancel (T +ℤ q) (total rs) p (+ℤ_assoc T q p ∙ ap (λ (z : ℤ). T +ℤ z) (+ℤ_comm q p) ∙ k)

    pub total_join : (t : ℕ) → t < length rs → (t ≡ r → ⊥) → get_or rs r [] ≡ a ∷ xs → get_or rs t [] ≡ b ∷ ys → total (set (set rs r ((a ∷ xs) ++ (b ∷ ys))) t []) ≡ total rs
    unfolding area_of
    total_join t ht ne er et =
        let p = area_of (a ∷ xs) in
        let q = area_of (b ∷ ys) in
        let rs1 = set rs r ((a ∷ xs) ++ (b ∷ ys)) in
        let T1 = total rs1 in
        let T2 = total (set rs1 t []) in
        let k1 : T1 +ℤ p ≡ (total rs +ℤ q) +ℤ p =
        ap (λ (z : ℤ). T1 +ℤ z) (ap area_of (sym er)) ∙ total_change rs r ((a ∷ xs) ++ (b ∷ ys)) hr
        ∙ ap (λ (z : ℤ). total rs +ℤ z) (sums ∙ +ℤ_comm p q) ∙ sym (+ℤ_assoc (total rs) q p) in
        let k2 : T2 +ℤ q ≡ T1 +ℤ pos 0 =
        ap (λ (z : ℤ). T2 +ℤ z) (ap area_of (sym et ∙ sym (get_or-set_other rs r t ((a ∷ xs) ++ (b ∷ ys)) [] ne))) ∙ total_change rs1 t [] (simp length-set ht) in
        cancel T2 (total rs) q (k2 ∙ +ℤ_idr T1 ∙ cancel T1 (total rs +ℤ q) p k1)

-- ---- a ring may be read from any of its nodes
-- what a turn by one node keeps, any turn keeps
pub turns : (P : List ℕ → Type 0) → ((x : ℕ) (l : List ℕ) → P (x ∷ l) → P (l ++ x ∷ [])) → (l k : List ℕ) → P (l ++ k) → P (k ++ l)
turns P f [] k p = subst P (sym (append-nil k)) p
  where
    append-nil : (k : List ℕ) → k ++ [] ≡ k
    append-nil [] = refl
    append-nil (x ∷ k) = ap (λ (l : List ℕ). x ∷ l) (append-nil k)
turns P f (x ∷ l) k p = subst P (append_assoc k (x ∷ []) l) (turns P f l (k ++ x ∷ []) (subst P (append_assoc l k (x ∷ [])) (f x (l ++ k) p)))

all_turn : (Q : ℕ → Type 0) (a : ℕ) (xs : List ℕ) → Q a → All Q xs → All Q (xs ++ a ∷ [])
all_turn Q a [] h b = (h, tt)
all_turn Q a (x ∷ xs) h b = (b.0, all_turn Q a xs h b.1)

ring_turn : (nx pv : ℕ → ℕ) (x : ℕ) (l : List ℕ) → Ring nx pv x l → RingOf nx pv (l ++ x ∷ [])
ring_turn nx pv x [] r = r
ring_turn nx pv x (y ∷ l) r = turn x y [] l r

pub ok_turn : (n : ℕ) (nx pv ow : ℕ → ℕ) (s x : ℕ) (l : List ℕ) → Ok n nx pv ow s (x ∷ l) → Ok n nx pv ow s (l ++ x ∷ [])
ok_turn n nx pv ow s x l k = record {
  ring = ring_turn nx pv x l k.ring;
  once = distinct_turn x l k.once.0 k.once.1;
  own = all_turn _ x l k.own.0 k.own.1;
}

pub area_one : (wt : ℕ → ℕ → ℤ) (x : ℕ) (z : List ℕ) → area_of wt (z ++ x ∷ []) ≡ area_of wt (x ∷ z)
unfolding area_of
area_one wt x [] = refl
area_one wt x (y ∷ z) = sym (area_turn wt x y [] z)

pub cut : (u : ℕ) (xs : List ℕ) → In u xs → (l : List ℕ) × (k : List ℕ) × (xs ≡ l ++ u ∷ k)
cut u [] h = elim h [ ]
cut u (x ∷ xs) (inl e) = ([], xs, ap (λ (z : ℕ). z ∷ xs) e)
cut u (x ∷ xs) (inr h) = let r = cut u xs h in (x ∷ r.0, r.1, ap (λ (l : List ℕ). x ∷ l) r.2)

-- a list that ends with u, as its first node and the rest
snoc : (l : List ℕ) (u : ℕ) → (a : ℕ) × (xs : List ℕ) × (l ++ u ∷ [] ≡ a ∷ xs) × (end a xs ≡ u)
snoc [] u = (u, [], refl, refl)
snoc (x ∷ l) u = (x, l ++ u ∷ [], refl, end_append x u l [])

-- a list turned so that it ends with u
pub ending : (P : List ℕ → Type 0) → ((x : ℕ) (l : List ℕ) → P (x ∷ l) → P (l ++ x ∷ [])) → (u : ℕ) (zs : List ℕ) → In u zs → P zs
    → (a : ℕ) × (xs : List ℕ) × P (a ∷ xs) × (end a xs ≡ u)
ending P f u zs iu p =
    let c = cut u zs iu in
    let q : P (c.1 ++ (c.0 ++ u ∷ [])) = turns P f (c.0 ++ u ∷ []) c.1 (subst P (c.2 ∙ sym (append_assoc c.0 (u ∷ []) c.1)) p) in
    let s = snoc (c.1 ++ c.0) u in
    (s.0, s.1, subst P (sym (append_assoc c.1 c.0 (u ∷ [])) ∙ s.2) q, s.3)

-- and so that it begins with u
pub beginning : (P : List ℕ → Type 0) → ((x : ℕ) (l : List ℕ) → P (x ∷ l) → P (l ++ x ∷ [])) → (u : ℕ) (zs : List ℕ) → In u zs → P zs
    → (xs : List ℕ) × P (u ∷ xs)
beginning P f u zs iu p =
    let c = cut u zs iu in
    (c.1 ++ c.0, turns P f c.0 (u ∷ c.1) (subst P c.2 p))

-- two nodes cut a ring in two: a part that ends at u and one that ends at v; what any turn keeps of the ring holds of the two together
pub parts : (P : List ℕ → Type 0) → ((x : ℕ) (l : List ℕ) → P (x ∷ l) → P (l ++ x ∷ [])) → (u v : ℕ) (zs : List ℕ) → (v ≡ u → ⊥) → In u zs → In v zs → P zs
    → (a : ℕ) × (xs : List ℕ) × (b : ℕ) × (ys : List ℕ) × P ((a ∷ xs) ++ (b ∷ ys)) × (end a xs ≡ u) × (end b ys ≡ v)
parts P f u v zs ne iu iv p =
    let c = cut v zs iv in
    let l = c.0 in
    let k = c.1 in
    -- zs is l, v, k: turned, it is k, l, v
    let q : P (k ++ (l ++ v ∷ [])) = turns P f (l ++ v ∷ []) k (subst P (c.2 ∙ sym (append_assoc l (v ∷ []) k)) p) in
    let iu2 : In u (k ++ l) = ⊎_elim (λ w. in_right u k l w) (λ w. ⊎_elim (λ e. absurd (ne e)) (λ h. in_left u k l h) w) (in_append u l (v ∷ k) (subst (In u) c.2 iu)) in
    let d = cut u (k ++ l) iu2 in
    let s = snoc d.0 u in
    let t = snoc d.1 v in
    let e : k ++ (l ++ v ∷ []) ≡ (d.0 ++ u ∷ []) ++ (d.1 ++ v ∷ []) =
    sym (append_assoc k l (v ∷ [])) ∙ ap (λ (z : List ℕ). z ++ v ∷ []) d.2 ∙ append_assoc d.0 (u ∷ d.1) (v ∷ []) ∙ sym (append_assoc d.0 (u ∷ []) (d.1 ++ v ∷ [])) in
    (s.0, s.1, t.0, t.1, subst P (e ∙ ap (λ (z : List ℕ). z ++ (d.1 ++ v ∷ [])) s.2 ∙ ap (λ (z : List ℕ). (s.0 ∷ s.1) ++ z) t.2) q, s.3, t.3)
