-- The core of the invariant, over functions: all rings by owner, a result in each, and the total area. What one split and one rejoining do to it.
use mathlib.Core.Path.{◌≡◌, refl, sym, ◌∙◌, ap, subst, subst₂}
use mathlib.Core.List.{List, [], ◌∷◌, ◌++◌}
use mathlib.Core.Logic.{⊎_elim, ◌⊎◌, inl, inr}
use Prim.Native.Nat.{ℕ, suc, ◌<◌}
use lib.ListN.{length, get_or, set, length-set, get_or-append, get_or-eq_default, length-append}
use lib.Seq.{get_or-set_same, get_or-set_other, get_or_at}
use lib.IntN.{ℤ, ◌+ℤ◌}
use native.Mathlib.Omega.{arith}
use native.Mathlib.Decide.{ℕ_discrete, dec_lt}
use Rattle.plane.specs.Basics.{none}
use Rattle.theorems.proofs.RingLaw.{Link, end, Off, Distinct, Exchanged, split, distinct_right, chain_seam, end_append}
use Rattle.theorems.proofs.RingLists.{RingOf, All, In, all_map, all_in, all_of, all_right, in_append, in_left, in_right, all_off, in_end}
use Rattle.theorems.proofs.RingSet.{Ok, Rings, other, split_rings, join_rings, area_of, total, total_set, total_split, total_join, ok_turn, area_one, ending, beginning, parts}

-- the result of a ring is one of its nodes, and of no ring it is none
abbrev pub Found : ℕ → List ℕ → Type 0
Found x [] = x ≡ none
Found x (y ∷ ys) = In x (y ∷ ys)

-- node i is in the ring of its owner
abbrev pub Lives : (ℕ → ℕ) → List (List ℕ) → ℕ → Type 0
Lives ow rs i = In i (get_or rs (ow i) [])

pub record Core (wt : ℕ → ℕ → ℤ) (n : ℕ) (nx pv ow rf : ℕ → ℕ) (rs : List (List ℕ)) (A : ℤ) : Type 0 where
  pub rings : Rings n nx pv ow rs
  pub found : (s : ℕ) → s < length rs → Found (rf s) (get_or rs s [])
  pub area : total wt rs ≡ A

pub found_same : (x : ℕ) (zs z : List ℕ) → ((j : ℕ) → In j z → In j zs) → ((j : ℕ) → In j zs → In j z) → Found x zs → Found x z
found_same x [] [] f g h = h
found_same x [] (y ∷ z) f g h = absurd (f y (inl refl))
found_same x (y ∷ zs) [] f g h = absurd (g y (inl refl))
found_same x (y ∷ zs) (w ∷ z) f g h = g x h

pub found_of : (x : ℕ) (zs : List ℕ) → In x zs → Found x zs
found_of x [] h = elim h [ ]
found_of x (y ∷ zs) h = h

-- a ring has a number below the number of rings
pub numbered : (rs : List (List ℕ)) (s x : ℕ) → In x (get_or rs s []) → s < length rs
numbered rs s x h =
    elim (dec_lt s (length rs))
    [ yes l ↦ l | no l ↦ absurd (subst (In x) (get_or-eq_default rs [] {n = s} (omega arith)) h) ]

-- the same ring from another node on
pub record Turned (wt : ℕ → ℕ → ℤ) (n : ℕ) (nx pv ow : ℕ → ℕ) (s : ℕ) (zs z : List ℕ) : Type 0 where
  pub fine : Ok n nx pv ow s z
  pub area : area_of wt z ≡ area_of wt zs
  pub long : length z ≡ length zs
  pub from : (j : ℕ) → In j z → In j zs
  pub back : (j : ℕ) → In j zs → In j z

in_turn : (j x : ℕ) (l : List ℕ) → In j (x ∷ l) → In j (l ++ x ∷ [])
in_turn j x l (inl e) = in_right j l (x ∷ []) (inl e)
in_turn j x l (inr h) = in_left j l (x ∷ []) h

turn_in : (j x : ℕ) (l : List ℕ) → In j (l ++ x ∷ []) → In j (x ∷ l)
turn_in j x l h = ⊎_elim (λ w. inr w) (λ w. ⊎_elim (λ e. inl e) (λ v. absurd v) w) (in_append j l (x ∷ []) h)

module _ (wt : ℕ → ℕ → ℤ) (n : ℕ) (nx pv ow : ℕ → ℕ) (s : ℕ) (zs : List ℕ) where
  pub turned : (x : ℕ) (l : List ℕ) → Turned wt n nx pv ow s zs (x ∷ l) → Turned wt n nx pv ow s zs (l ++ x ∷ [])
  turned x l t = record {
    fine = ok_turn n nx pv ow s x l t.fine;
    area = area_one wt x l ∙ t.area;
    long = let e = length-append l (x ∷ []) in let h = t.long in omega arith;
    from = λ j h. t.from j (turn_in j x l h);
    back = λ j h. in_turn j x l (t.back j h);
  }

  pub unturned : Ok n nx pv ow s zs → Turned wt n nx pv ow s zs zs
  unturned k = record { fine = k; area = refl; long = refl; from = λ j h. h; back = λ j h. h }

module _ (wt : ℕ → ℕ → ℤ) (n : ℕ) (nx pv ow : ℕ → ℕ) (rs : List (List ℕ)) (G : Rings n nx pv ow rs) where
  -- the ring of a node, from it on
  pub from_node : (s i : ℕ) → In i (get_or rs s []) → (xs : List ℕ) × Turned wt n nx pv ow s (get_or rs s []) (i ∷ xs)
  from_node s i h = beginning (Turned wt n nx pv ow s (get_or rs s [])) (turned wt n nx pv ow s (get_or rs s [])) i (get_or rs s []) h (unturned wt n nx pv ow s (get_or rs s []) (G s))

  pub owner_is : (s i : ℕ) → In i (get_or rs s []) → ow i ≡ s
  owner_is s i h = (all_in _ i (get_or rs s []) (G s).own h).1

  pub node_in : (s i : ℕ) → In i (get_or rs s []) → i < n
  node_in s i h = (all_in _ i (get_or rs s []) (G s).own h).0

  pub prev_live : (s i : ℕ) → In i (get_or rs s []) → In (pv i) (get_or rs s [])
  prev_live s i h =
      let t = from_node s i h in
      subst (λ (j : ℕ). In j (get_or rs s [])) (sym t.1.fine.ring.closes.back) (t.1.from (end i t.0) (in_end i t.0))

  pub next_prev : (s i : ℕ) → In i (get_or rs s []) → nx (pv i) ≡ i
  next_prev s i h =
      let t = from_node s i h in
      ap nx t.1.fine.ring.closes.back ∙ t.1.fine.ring.closes.fore

  next_go : (s i : ℕ) (xs : List ℕ) → Turned wt n nx pv ow s (get_or rs s []) (i ∷ xs) → In (nx i) (get_or rs s []) × (pv (nx i) ≡ i)
  next_go s i [] t = (subst (λ (j : ℕ). In j (get_or rs s [])) (sym t.fine.ring.closes.fore) (t.from i (inl refl)), ap pv t.fine.ring.closes.fore ∙ t.fine.ring.closes.back)
  next_go s i (x ∷ xs) t =
      (subst (λ (j : ℕ). In j (get_or rs s [])) (sym t.fine.ring.chain.0.fore) (t.from x (inr (inl refl))), ap pv t.fine.ring.chain.0.fore ∙ t.fine.ring.chain.0.back)

  pub next_live : (s i : ℕ) → In i (get_or rs s []) → In (nx i) (get_or rs s [])
  next_live s i h = let t = from_node s i h in (next_go s i t.0 t.1).0

  pub prev_next : (s i : ℕ) → In i (get_or rs s []) → pv (nx i) ≡ i
  prev_next s i h = let t = from_node s i h in (next_go s i t.0 t.1).1

-- one ring may be turned
module _ (wt : ℕ → ℕ → ℤ) (n : ℕ) (nx pv ow rf : ℕ → ℕ) (rs : List (List ℕ)) (A : ℤ) (C : Core wt n nx pv ow rf rs A) (r : ℕ) (hr : r < length rs) (z : List ℕ)
    (t : Turned wt n nx pv ow r (get_or rs r []) z) where
  at_turned : (P : ℕ → List ℕ → Type 0) → P r z → ((s : ℕ) → P s (get_or rs s [])) → (s : ℕ) → P s (get_or (set rs r z) s [])
  at_turned P p q s =
      elim (ℕ_discrete s r) [
        | yes e ↦ subst (λ (k : ℕ). P k (get_or (set rs r z) k [])) (sym e) (rw (get_or-set_same rs r z [] hr) p)
        | no h ↦ rw (get_or-set_other rs r s z [] h) (q s)
      ]

  pub turn_core : Core wt n nx pv ow rf (set rs r z) A
  turn_core = record {
    rings = at_turned (λ s l. Ok n nx pv ow s l) t.fine C.rings;
    found = λ s h. at_turned (λ k l. k < length rs → Found (rf k) l) (λ l. found_same (rf r) (get_or rs r []) z t.from t.back (C.found r l)) C.found s (subst (λ (k : ℕ). s < k) (length-set rs r z) h);
    area = total_set wt rs r z hr t.area ∙ C.area;
  }

-- the nodes of zs get the owner new, and no others
pub record Owned (ow ow' : ℕ → ℕ) (new : ℕ) (zs : List ℕ) : Type 0 where
  pub inner : (i : ℕ) → In i zs → ow' i ≡ new
  pub outer : (i : ℕ) → Off i zs → ow' i ≡ ow i

-- what a step gives
pub record Stepped (wt : ℕ → ℕ → ℤ) (n : ℕ) (ow nx' pv' ow' rf' : ℕ → ℕ) (rs : List (List ℕ)) (count : ℕ) (A : ℤ) : Type 0 where
  pub rs' : List (List ℕ)
  pub core : Core wt n nx' pv' ow' rf' rs' A
  pub count_is : length rs' ≡ count
  pub lives : (i : ℕ) → Lives ow rs i → Lives ow' rs' i

module _ (wt : ℕ → ℕ → ℤ) (n : ℕ) (nx pv ow rf nx' pv' ow' rf' : ℕ → ℕ) (rs : List (List ℕ)) (A : ℤ) (C : Core wt n nx pv ow rf rs A)
    (r1 r2 : ℕ) (l1 : Lives ow rs r1) (l2 : Lives ow rs r2) (X : Exchanged nx pv nx' pv' (pv r1) (pv r2))
    (w : wt (pv r1) r1 +ℤ wt (pv r2) r2 ≡ wt (pv r1) r2 +ℤ wt (pv r2) r1) where
  -- ---- one ring is split: the part from r1 to pv r2 gets the next number
  module _ (ne : r1 ≡ r2 → ⊥) (same : ow r2 ≡ ow r1)
      (owned : (zs : List ℕ) → In r1 zs → In (pv r2) zs → RingOf nx' pv' zs → Distinct zs → All (λ i. i < n) zs → Owned ow ow' (length rs) zs)
      (rf1 : ow' r1 ≡ length rs → ow' r2 ≡ ow r1 → rf' (ow' r1) ≡ r1) (rf2 : ow' r1 ≡ length rs → ow' r2 ≡ ow r1 → rf' (ow' r2) ≡ r2)
      (rfo : (s : ℕ) → s < length rs → (s ≡ ow' r1 → ⊥) → (s ≡ ow' r2 → ⊥) → rf' s ≡ rf s) where
    pub split_step : Stepped wt n ow nx' pv' ow' rf' rs (suc (length rs)) A
    split_step =
        let r = ow r1 in
        let zs = get_or rs r [] in
        let hr : r < length rs = numbered rs r r1 l1 in
        let l2r : In r2 zs = subst (λ (k : ℕ). In r2 (get_or rs k [])) same l2 in
        let n1 : nx (pv r1) ≡ r1 = next_prev wt n nx pv ow rs C.rings r r1 l1 in
        let n2 : nx (pv r2) ≡ r2 = next_prev wt n nx pv ow rs C.rings r r2 l2r in
        let q = parts (Turned wt n nx pv ow r zs) (turned wt n nx pv ow r zs) (pv r1) (pv r2) zs (λ e. ne (sym n1 ∙ ap nx (sym e) ∙ n2))
        (prev_live wt n nx pv ow rs C.rings r r1 l1) (prev_live wt n nx pv ow rs C.rings r r2 l2r) (unturned wt n nx pv ow r zs (C.rings r)) in
        go r hr refl q.0 q.1 q.2 q.3 q.4 q.5 q.6 n1 n2
      where
        go : (r : ℕ) → r < length rs → r ≡ ow r1 → (a : ℕ) (xs : List ℕ) (b : ℕ) (ys : List ℕ) → Turned wt n nx pv ow r (get_or rs r []) ((a ∷ xs) ++ (b ∷ ys))
            → end a xs ≡ pv r1 → end b ys ≡ pv r2 → nx (pv r1) ≡ r1 → nx (pv r2) ≡ r2 → Stepped wt n ow nx' pv' ow' rf' rs (suc (length rs)) A
        go r hr er a xs b ys t ea eb n1 n2 =
            let rs1 = set rs r ((a ∷ xs) ++ (b ∷ ys)) in
            let C1 : Core wt n nx pv ow rf rs1 A = turn_core wt n nx pv ow rf rs A C r hr ((a ∷ xs) ++ (b ∷ ys)) t in
            let len1 : length rs1 ≡ length rs = length-set rs r ((a ∷ xs) ++ (b ∷ ys)) in
            let hr1 : r < length rs1 = subst (λ (k : ℕ). r < k) (sym len1) hr in
            let e1 : get_or rs1 r [] ≡ (a ∷ xs) ++ (b ∷ ys) = get_or-set_same rs r ((a ∷ xs) ++ (b ∷ ys)) [] hr in
            let br : b ≡ r1 = sym (chain_seam nx pv a b xs ys t.fine.ring.chain).fore ∙ ap nx ea ∙ n1 in
            let clo : Link nx pv (end b ys) a = subst (λ (k : ℕ). Link nx pv k a) (end_append a b xs ys) t.fine.ring.closes in
            let ar : a ≡ r2 = sym clo.fore ∙ ap nx eb ∙ n2 in
            let X' : Exchanged nx pv nx' pv' (end a xs) (end b ys) = subst₂ (λ (i j : ℕ). Exchanged nx pv nx' pv' i j) (sym ea) (sym eb) X in
            let two = split a b xs ys t.fine.once t.fine.ring X' in
            let O : Owned ow ow' (length rs) (b ∷ ys) =
            owned (b ∷ ys) (inl br) (subst (λ (k : ℕ). In k (b ∷ ys)) eb (in_last b ys)) two.1 (distinct_right (a ∷ xs) (b ∷ ys) t.fine.once)
            (all_map _ _ (b ∷ ys) (λ i h. h.0) (all_right _ (a ∷ xs) (b ∷ ys) t.fine.own)) in
            let rs2 = set rs1 r (a ∷ xs) ++ (b ∷ ys) ∷ [] in
            let len2 : length (set rs1 r (a ∷ xs)) ≡ length rs = length-set rs1 r (a ∷ xs) ∙ len1 in
            let R2 : Rings n nx' pv' ow' rs2 =
            split_rings n nx pv ow nx' pv' ow' rs1 r a b xs ys C1.rings hr1 e1 X' (all_of (λ i. ow' i ≡ length rs1) (b ∷ ys) (λ i h. O.inner i h ∙ sym len1)) O.outer in
            let at_r : get_or rs2 r [] ≡ a ∷ xs = get_or-append (set rs1 r (a ∷ xs)) ((b ∷ ys) ∷ []) [] r (subst (λ (k : ℕ). r < k) (sym len2) hr) ∙ get_or-set_same rs1 r (a ∷ xs) [] hr1 in
            let at_n : get_or rs2 (length rs) [] ≡ b ∷ ys = get_or_at (set rs1 r (a ∷ xs)) (b ∷ ys) [] [] (length rs) len2 in
            let at_o : (s : ℕ) → s < length rs → (s ≡ r → ⊥) → get_or rs2 s [] ≡ get_or rs s [] =
            λ s h k. get_or-append (set rs1 r (a ∷ xs)) ((b ∷ ys) ∷ []) [] s (subst (λ (m : ℕ). s < m) (sym len2) h) ∙ get_or-set_other rs1 r s (a ∷ xs) [] k ∙ get_or-set_other rs r s ((a ∷ xs) ++ (b ∷ ys)) [] k in
            let o1 : ow' r1 ≡ length rs = O.inner r1 (inl br) in
            let apart = all_off (λ i. Unit {0}) (a ∷ xs) (b ∷ ys) t.fine.once (all_of (λ i. Unit {0}) (a ∷ xs) (λ i h. tt)) in
            let o2 : ow' r2 ≡ r = O.outer r2 (subst (λ (k : ℕ). Off k (b ∷ ys)) ar apart.0.1) ∙ same ∙ sym er in
            record {
              rs' = rs2;
              core = record {
                rings = R2;
                found = λ s h.
                    elim (ℕ_discrete s r) [
                      | yes e ↦ subst (λ (k : ℕ). Found (rf' k) (get_or rs2 k [])) (sym e) (rw at_r (inl (ar ∙ sym (ap rf' (sym o2) ∙ rf2 o1 (o2 ∙ er)))))
                      | no k ↦ elim (ℕ_discrete s (length rs)) [
                        | yes e ↦ subst (λ (k : ℕ). Found (rf' k) (get_or rs2 k [])) (sym e) (rw at_n (inl (br ∙ sym (ap rf' (sym o1) ∙ rf1 o1 (o2 ∙ er)))))
                        | no m ↦ (let hs : s < length rs = omega (arith, simp (length-append, len2) at h, m) in
                            subst₂ Found (sym (rfo s hs (λ e. m (e ∙ o1)) (λ e. k (e ∙ o2)))) (sym (at_o s hs k)) (C.found s hs))
                      ]
                    ];
                area = total_split wt rs1 r a b xs ys hr1
                    (subst₂ (λ (i j : ℕ). wt i b +ℤ wt j a ≡ wt i a +ℤ wt j b) (sym ea) (sym eb) (subst₂ (λ (i j : ℕ). wt (pv r1) i +ℤ wt (pv r2) j ≡ wt (pv r1) j +ℤ wt (pv r2) i) (sym br) (sym ar) w)) e1 ∙ C1.area;
              };
              count_is = simp (length-append, len2) (omega arith);
              lives = λ i h.
                  elim (ℕ_discrete (ow i) r) [
                    | yes e ↦ ⊎_elim
                        (λ m. subst (λ (k : ℕ). In i (get_or rs2 k [])) (sym (O.outer i (all_in _ i (a ∷ xs) apart m).1 ∙ e)) (rw at_r m))
                        (λ m. subst (λ (k : ℕ). In i (get_or rs2 k [])) (sym (O.inner i m)) (rw at_n m))
                        (in_append i (a ∷ xs) (b ∷ ys) (t.back i (subst (λ (k : ℕ). In i (get_or rs k [])) e h)))
                    | no k ↦ (let hs = numbered rs (ow i) i h in
                        subst (λ (m : ℕ). In i (get_or rs2 m [])) (sym (O.outer i (other ow r (ow i) i (b ∷ ys) n (all_right _ (a ∷ xs) (b ∷ ys) t.fine.own) refl k))) (subst (In i) (sym (at_o (ow i) hs k)) h))
                  ];
            }
          where
            in_last : (c : ℕ) (cs : List ℕ) → In (end c cs) (c ∷ cs)
            in_last c [] = inl refl
            in_last c (x ∷ cs) = inr (in_last x cs)

  -- ---- two rings are joined: the ring of r2 becomes a part of the ring of r1
  module _ (apart : ow r1 ≡ ow r2 → ⊥)
      (owned : (zs : List ℕ) → In r2 zs → In (pv r2) zs → RingOf nx pv zs → Distinct zs → All (λ i. i < n) zs → Owned ow ow' (ow r1) zs)
      (rf1 : ow' r1 ≡ ow r1 → ow' r2 ≡ ow r1 → (rf' (ow r1) ≡ r1) ⊎ (rf' (ow r1) ≡ r2)) (rf2 : ow' r1 ≡ ow r1 → ow' r2 ≡ ow r1 → rf' (ow r2) ≡ none)
      (rfo : ow' r1 ≡ ow r1 → ow' r2 ≡ ow r1 → (s : ℕ) → (s ≡ ow r1 → ⊥) → (s ≡ ow r2 → ⊥) → rf' s ≡ rf s) where
    pub join_step : Stepped wt n ow nx' pv' ow' rf' rs (length rs) A
    join_step =
        let G = C.rings in
        let r = ow r1 in
        let t = ow r2 in
        let hr : r < length rs = numbered rs r r1 l1 in
        let ht : t < length rs = numbered rs t r2 l2 in
        let p = ending (Turned wt n nx pv ow r (get_or rs r [])) (turned wt n nx pv ow r (get_or rs r [])) (pv r1) (get_or rs r []) (prev_live wt n nx pv ow rs G r r1 l1) (unturned wt n nx pv ow r (get_or rs r []) (G r)) in
        let q = ending (Turned wt n nx pv ow t (get_or rs t [])) (turned wt n nx pv ow t (get_or rs t [])) (pv r2) (get_or rs t []) (prev_live wt n nx pv ow rs G t r2 l2) (unturned wt n nx pv ow t (get_or rs t []) (G t)) in
        go r t hr ht refl refl p.0 p.1 q.0 q.1 p.2 q.2 p.3 q.3 (next_prev wt n nx pv ow rs G r r1 l1) (next_prev wt n nx pv ow rs G t r2 l2)
      where
        go : (r t : ℕ) → r < length rs → t < length rs → r ≡ ow r1 → t ≡ ow r2 → (a : ℕ) (xs : List ℕ) (b : ℕ) (ys : List ℕ) → Turned wt n nx pv ow r (get_or rs r []) (a ∷ xs) → Turned wt n nx pv ow t (get_or rs t []) (b ∷ ys)
            → end a xs ≡ pv r1 → end b ys ≡ pv r2 → nx (pv r1) ≡ r1 → nx (pv r2) ≡ r2 → Stepped wt n ow nx' pv' ow' rf' rs (length rs) A
        go r t hr ht er et a xs b ys T U ea eb n1 n2 =
            let ne : r ≡ t → ⊥ = λ e. apart (sym er ∙ e ∙ et) in
            let ne' : t ≡ r → ⊥ = λ e. ne (sym e) in
            let rs0 = set rs r (a ∷ xs) in
            let len0 : length rs0 ≡ length rs = length-set rs r (a ∷ xs) in
            let C0 : Core wt n nx pv ow rf rs0 A = turn_core wt n nx pv ow rf rs A C r hr (a ∷ xs) T in
            let t0 : get_or rs0 t [] ≡ get_or rs t [] = get_or-set_other rs r t (a ∷ xs) [] ne' in
            let ht0 : t < length rs0 = subst (λ (k : ℕ). t < k) (sym len0) ht in
            let hr0 : r < length rs0 = subst (λ (k : ℕ). r < k) (sym len0) hr in
            let rs1 = set rs0 t (b ∷ ys) in
            let len1 : length rs1 ≡ length rs = length-set rs0 t (b ∷ ys) ∙ len0 in
            let C1 : Core wt n nx pv ow rf rs1 A = turn_core wt n nx pv ow rf rs0 A C0 t ht0 (b ∷ ys) (subst (λ (l : List ℕ). Turned wt n nx pv ow t l (b ∷ ys)) (sym t0) U) in
            let hr1 : r < length rs1 = subst (λ (k : ℕ). r < k) (sym len1) hr in
            let ht1 : t < length rs1 = subst (λ (k : ℕ). t < k) (sym len1) ht in
            let e1r : get_or rs1 r [] ≡ a ∷ xs = get_or-set_other rs0 t r (b ∷ ys) [] ne ∙ get_or-set_same rs r (a ∷ xs) [] hr in
            let e1t : get_or rs1 t [] ≡ b ∷ ys = get_or-set_same rs0 t (b ∷ ys) [] ht0 in
            let br : b ≡ r2 = sym U.fine.ring.closes.fore ∙ ap nx eb ∙ n2 in
            let ar : a ≡ r1 = sym T.fine.ring.closes.fore ∙ ap nx ea ∙ n1 in
            let X' : Exchanged nx pv nx' pv' (end a xs) (end b ys) = subst₂ (λ (i j : ℕ). Exchanged nx pv nx' pv' i j) (sym ea) (sym eb) X in
            let O : Owned ow ow' r (b ∷ ys) =
            subst (λ (k : ℕ). Owned ow ow' k (b ∷ ys)) (sym er)
            (owned (b ∷ ys) (inl br) (subst (λ (k : ℕ). In k (b ∷ ys)) eb (in_last b ys)) U.fine.ring U.fine.once (all_map _ _ (b ∷ ys) (λ i h. h.0) U.fine.own)) in
            let o2 : ow' r2 ≡ ow r1 = O.inner r2 (inl br) ∙ er in
            let o1 : ow' r1 ≡ ow r1 = O.outer r1 (other ow t r r1 (b ∷ ys) n U.fine.own (sym er) ne) in
            let big = (a ∷ xs) ++ (b ∷ ys) in
            let rs2 = set (set rs1 r big) t [] in
            let R2 : Rings n nx' pv' ow' rs2 = join_rings n nx pv ow nx' pv' ow' rs1 r t a b xs ys C1.rings hr1 ht1 ne e1r e1t X' (all_of (λ i. ow' i ≡ r) (b ∷ ys) O.inner) O.outer in
            let lenb : length (set rs1 r big) ≡ length rs = length-set rs1 r big ∙ len1 in
            let at_t : get_or rs2 t [] ≡ [] = get_or-set_same (set rs1 r big) t [] [] (subst (λ (k : ℕ). t < k) (sym lenb) ht) in
            let at_r : get_or rs2 r [] ≡ big = get_or-set_other (set rs1 r big) t r [] [] ne ∙ get_or-set_same rs1 r big [] hr1 in
            let at_o : (s : ℕ) → (s ≡ r → ⊥) → (s ≡ t → ⊥) → get_or rs2 s [] ≡ get_or rs s [] =
            λ s h k. get_or-set_other (set rs1 r big) t s [] [] k ∙ get_or-set_other rs1 r s big [] h ∙ get_or-set_other rs0 t s (b ∷ ys) [] k ∙ get_or-set_other rs r s (a ∷ xs) [] h in
            let len2 : length rs2 ≡ length rs = length-set (set rs1 r big) t [] ∙ lenb in
            record {
              rs' = rs2;
              core = record {
                rings = R2;
                found = λ s h.
                    elim (ℕ_discrete s r) [
                      | yes e ↦ subst (λ (k : ℕ). Found (rf' k) (get_or rs2 k [])) (sym e)
                          (rw at_r (⊎_elim (λ z. inl (ar ∙ sym (ap rf' er ∙ z))) (λ z. inr (in_right (rf' r) xs (b ∷ ys) (inl (br ∙ sym (ap rf' er ∙ z))))) (rf1 o1 o2)))
                      | no k ↦ elim (ℕ_discrete s t) [
                        | yes e ↦ subst (λ (k : ℕ). Found (rf' k) (get_or rs2 k [])) (sym e) (rw at_t (ap rf' et ∙ rf2 o1 o2))
                        | no m ↦ subst₂ Found (sym (rfo o1 o2 s (λ e. k (e ∙ sym er)) (λ e. m (e ∙ sym et)))) (sym (at_o s k m)) (C.found s (subst (λ (k : ℕ). s < k) len2 h))
                      ]
                    ];
                area = total_join wt rs1 r a b xs ys hr1
                    (subst₂ (λ (i j : ℕ). wt i b +ℤ wt j a ≡ wt i a +ℤ wt j b) (sym ea) (sym eb) (subst₂ (λ (i j : ℕ). wt (pv r1) i +ℤ wt (pv r2) j ≡ wt (pv r1) j +ℤ wt (pv r2) i) (sym br) (sym ar) (sym w))) t ht1 ne' e1r e1t ∙ C1.area;
              };
              count_is = len2;
              lives = λ i h.
                  elim (ℕ_discrete (ow i) r) [
                    | yes e ↦ (let m : In i (a ∷ xs) = T.back i (subst (λ (k : ℕ). In i (get_or rs k [])) e h) in
                        subst (λ (k : ℕ). In i (get_or rs2 k [])) (sym (O.outer i (other ow t r i (b ∷ ys) n U.fine.own e ne) ∙ e)) (subst (In i) (sym at_r) (in_left i (a ∷ xs) (b ∷ ys) m)))
                    | no k ↦ elim (ℕ_discrete (ow i) t) [
                      | yes e ↦ (let m : In i (b ∷ ys) = U.back i (subst (λ (k : ℕ). In i (get_or rs k [])) e h) in
                          subst (λ (k : ℕ). In i (get_or rs2 k [])) (sym (O.inner i m)) (subst (In i) (sym at_r) (in_right i (a ∷ xs) (b ∷ ys) m)))
                      | no m ↦ subst (λ (k : ℕ). In i (get_or rs2 k [])) (sym (O.outer i (other ow t (ow i) i (b ∷ ys) n U.fine.own refl m))) (subst (In i) (sym (at_o (ow i) k m)) h)
                    ]
                  ];
            }
          where
            in_last : (c : ℕ) (cs : List ℕ) → In (end c cs) (c ∷ cs)
            in_last c [] = inl refl
            in_last c (x ∷ cs) = inr (in_last x cs)
