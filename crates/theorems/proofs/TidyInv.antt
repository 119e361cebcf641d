-- The invariant of `tidy_edges`, and that the split or rejoining of a turn keeps it.
use mathlib.Core.Path.{◌≡◌, sym, ◌∙◌, ap, subst, subst₂}
use mathlib.Core.List.{List, [], ◌∷◌}
use mathlib.Core.Logic.{⊎_elim, ◌⊎◌, inl, inr}
use Prim.Native.Nat.{ℕ, suc, ◌+◌, ◌*◌, ◌<◌}
use lib.ListN.{length, get_or, set, length-set, length-append, get_or-append}
use lib.Seq.{get_or-set_same, get_or-set_other}
use lib.IntN.{ℤ, ◌+ℤ◌}
use native.Mathlib.Omega.{arith}
use native.Mathlib.Decide.{ℕ_discrete}
use Rattle.plane.specs.declared.point.Point64.{Point64}
use Rattle.plane.specs.Basics.{none, push}
use Rattle.reference.specs.Arena.{Arena, pt_of, next_of, prev_of, owner_of, result_of, edge_list, set_results, set_result, set_new_owner}
use Rattle.theorems.specs.Demand.{area_step}
use Rattle.theorems.proofs.RingLaw.{Exchanged}
use Rattle.theorems.proofs.RingLists.{RingOf, In}
use Rattle.theorems.proofs.RingStep.{Lives, Core, Stepped, Owned, numbered, next_prev, split_step, join_step}
use Rattle.theorems.proofs.TidyLinks.{level, coord, four, at, Keeps, keeps_new, owned_new}

abbrev pub weight : List Point64 → ℕ → ℕ → ℤ
weight pts i j = area_step (pt_of pts i) (pt_of pts j)

-- list e belongs to side k
abbrev pub Of : ℕ → ℕ → Type 0
Of k e = (e ≡ k * 2) ⊎ (e ≡ k * 2 + 1)

-- node i is in a ring, it and the one before are on the line of side k, and k is the side that the node is held for
pub record On (pts : List Point64) (line : ℕ → ℤ) (sd pv ow : ℕ → ℕ) (rs : List (List ℕ)) (k i : ℕ) : Type 0 where
  pub lives : Lives ow rs i
  pub here : coord (level k) (pt_of pts i) ≡ line k
  pub before : coord (level k) (pt_of pts (pv i)) ≡ line k
  pub side : sd i ≡ k

-- line k is where side k lies; sd says for each node which side's lists it may be in; A is the area of all rings
pub record Inv (pts : List Point64) (line : ℕ → ℤ) (sd : ℕ → ℕ) (A : ℤ) (a : Arena) : Type 0 where
  pub rs : List (List ℕ)
  pub core : Core (weight pts) (length pts) (next_of a) (prev_of a) (owner_of a) (result_of a) rs A
  pub nexts : length a.next ≡ length pts
  pub prevs : length a.prev ≡ length pts
  pub owners : length a.owner ≡ length pts
  pub results : length a.results ≡ length rs
  pub lists : (k e i : ℕ) → Of k e → In i (edge_list a e) → (i ≡ none → ⊥) → On pts line sd (prev_of a) (owner_of a) rs k i

module _ (pts : List Point64) (line : ℕ → ℤ) (sd : ℕ → ℕ) (A : ℤ) (a : Arena) (I : Inv pts line sd A a) (k r1 r2 : ℕ)
    (on1 : On pts line sd (prev_of a) (owner_of a) I.rs k r1) (on2 : On pts line sd (prev_of a) (owner_of a) I.rs k r2) (ne : r1 ≡ r2 → ⊥) where
  n1 : next_of a (prev_of a r1) ≡ r1
  n1 = next_prev (weight pts) (length pts) (next_of a) (prev_of a) (owner_of a) I.rs I.core.rings (owner_of a r1) r1 on1.lives

  n2 : next_of a (prev_of a r2) ≡ r2
  n2 = next_prev (weight pts) (length pts) (next_of a) (prev_of a) (owner_of a) I.rs I.core.rings (owner_of a r2) r2 on2.lives

  sums : weight pts (prev_of a r1) r1 +ℤ weight pts (prev_of a r2) r2 ≡ weight pts (prev_of a r1) r2 +ℤ weight pts (prev_of a r2) r1
  sums = four (level k) (line k) (pt_of pts (prev_of a r1)) (pt_of pts r1) (pt_of pts (prev_of a r2)) (pt_of pts r2) on1.before on1.here on2.before on2.here

  -- what is on its side stays so
  moved : (nx' pv' ow' : ℕ → ℕ) (rs' : List (List ℕ)) → Exchanged (next_of a) (prev_of a) nx' pv' (prev_of a r1) (prev_of a r2) → ((i : ℕ) → Lives (owner_of a) I.rs i → Lives ow' rs' i)
      → (j i : ℕ) → On pts line sd (prev_of a) (owner_of a) I.rs j i → On pts line sd pv' ow' rs' j i
  moved nx' pv' ow' rs' X L j i o = record {
    lives = L i o.lives;
    here = o.here;
    before =
        elim (ℕ_discrete i r1) [
          | yes e ↦ subst₂ (λ (h m : ℕ). coord (level h) (pt_of pts (pv' m)) ≡ line h) (sym on1.side ∙ ap sd (sym e) ∙ o.side) (sym e)
              (subst (λ (m : ℕ). coord (level k) (pt_of pts m) ≡ line k) (sym (ap pv' (sym n1) ∙ X.two.back)) on2.before)
          | no q ↦ elim (ℕ_discrete i r2) [
            | yes e ↦ subst₂ (λ (h m : ℕ). coord (level h) (pt_of pts (pv' m)) ≡ line h) (sym on2.side ∙ ap sd (sym e) ∙ o.side) (sym e)
                (subst (λ (m : ℕ). coord (level k) (pt_of pts m) ≡ line k) (sym (ap pv' (sym n2) ∙ X.one.back)) on1.before)
            | no w ↦ subst (λ (m : ℕ). coord (level j) (pt_of pts m) ≡ line j) (sym (X.back i (λ e. q (e ∙ n1)) (λ e. w (e ∙ n2)))) o.before
          ]
        ];
    side = o.side;
  }

  module _ (N P : List ℕ) (X : Exchanged (next_of a) (prev_of a) (at N) (at P) (prev_of a r1) (prev_of a r2)) (len_n : length N ≡ length pts) (len_p : length P ≡ length pts) where
    -- ---- a split: the part from r1 to the one before r2 is the new ring
    module _ (p : ℕ) (isp : (p ≡ r1) ⊎ (p ≡ prev_of a r2)) (same : owner_of a r2 ≡ owner_of a r1) where
      abbrev relinked : Arena
      relinked = record { owner = a.owner; edge = a.edge; next = N; prev = P; results = push a.results p; edges = a.edges }

      abbrev renamed : Arena
      renamed = set_new_owner (length pts) relinked p (length a.results)

      K : Keeps relinked renamed
      K = keeps_new (length pts) relinked p (length a.results)

      abbrev parted : Arena
      parted = set_result (set_result renamed (owner_of renamed r2) r2) (owner_of renamed r1) r1

      len_r : length renamed.results ≡ suc (length I.rs)
      len_r = ap length K.results ∙ length-append a.results (p ∷ []) ∙ ap (λ (m : ℕ). m + 1) I.results ∙ omega arith

      XN : Exchanged (next_of a) (prev_of a) (at renamed.next) (at renamed.prev) (prev_of a r1) (prev_of a r2)
      XN = subst₂ (λ (x y : List ℕ). Exchanged (next_of a) (prev_of a) (at x) (at y) (prev_of a r1) (prev_of a r2)) (sym K.next) (sym K.prev) X

      abbrev R1 : List ℕ
      R1 = set renamed.results (owner_of renamed r2) r2

      below1 : owner_of a r1 < length I.rs
      below1 = numbered I.rs (owner_of a r1) r1 on1.lives

      S : Stepped (weight pts) (length pts) (owner_of a) (at renamed.next) (at renamed.prev) (owner_of renamed) (at (set R1 (owner_of renamed r1) r1)) I.rs (suc (length I.rs)) A
      S =
          split_step (weight pts) (length pts) (next_of a) (prev_of a) (owner_of a) (result_of a) (at renamed.next) (at renamed.prev) (owner_of renamed) (at (set R1 (owner_of renamed r1) r1))
          I.rs A I.core r1 r2 on1.lives on2.lives XN sums ne same
          (λ zs h1 h2 g d b.
          subst (λ (m : ℕ). Owned (owner_of a) (owner_of renamed) m zs) I.results
          (owned_new (length pts) relinked p (length a.results) zs I.owners (⊎_elim (λ e. subst (λ (m : ℕ). In m zs) (sym e) h1) (λ e. subst (λ (m : ℕ). In m zs) (sym e) h2) isp)
          (subst₂ (λ (x y : List ℕ). RingOf (at x) (at y) zs) K.next K.prev g) d b))
          (λ o1 o2. get_or-set_same R1 (owner_of renamed r1) r1 none (subst₂ (λ (x y : ℕ). x < y) (sym o1) (sym (length-set renamed.results (owner_of renamed r2) r2 ∙ len_r)) (omega arith)))
          (λ o1 o2.
          get_or-set_other R1 (owner_of renamed r1) (owner_of renamed r2) r1 none (λ e. let z : owner_of a r1 ≡ length I.rs = sym o2 ∙ e ∙ o1 in omega (arith, below1))
          ∙ get_or-set_same renamed.results (owner_of renamed r2) r2 none (subst₂ (λ (x y : ℕ). x < y) (sym o2) (sym len_r) (omega (arith, below1))))
          (λ s hs m1 m2.
          get_or-set_other R1 (owner_of renamed r1) s r1 none m1 ∙ get_or-set_other renamed.results (owner_of renamed r2) s r2 none m2
          ∙ ap (λ (l : List ℕ). get_or l s none) K.results ∙ get_or-append a.results (p ∷ []) none s (subst (λ (m : ℕ). s < m) (sym I.results) hs))

      pub split_inv : Inv pts line sd A parted
      unfolding set_results
      split_inv = record {
        rs = S.rs';
        core = S.core;
        nexts = ap length K.next ∙ len_n;
        prevs = ap length K.prev ∙ len_p;
        owners = K.owners ∙ I.owners;
        results = length-set R1 (owner_of renamed r1) r1 ∙ length-set renamed.results (owner_of renamed r2) r2 ∙ len_r ∙ sym S.count_is;
        lists = λ j e i o h w. moved (at renamed.next) (at renamed.prev) (owner_of renamed) S.rs' XN S.lives j i (I.lists j e i o (subst (λ (l : List (List ℕ)). In i (get_or l e [])) K.edges h) w);
      }

    -- ---- a rejoining: the ring of r2 becomes a part of the ring of r1
    module _ (p t new x y : ℕ) (isp : (p ≡ r2) ⊎ (p ≡ prev_of a r2)) (apart : owner_of a r1 ≡ owner_of a r2 → ⊥) (et : t ≡ owner_of a r2) (en : new ≡ owner_of a r1)
        (dx : (x ≡ r1) ⊎ (x ≡ r2)) (dy : (y ≡ r1) ⊎ (y ≡ r2)) (b : Arena) where
      abbrev vacated : Arena
      vacated = record { owner = a.owner; edge = a.edge; next = a.next; prev = a.prev; results = set a.results t none; edges = a.edges }

      abbrev adopted : Arena
      adopted = set_new_owner (length pts) vacated p new

      J : Keeps vacated adopted
      J = keeps_new (length pts) vacated p new

      module _ (bn : b.next ≡ N) (bp : b.prev ≡ P) (bo : b.owner ≡ adopted.owner) (br : b.results ≡ adopted.results) (be : b.edges ≡ a.edges) where
        XJ : Exchanged (next_of a) (prev_of a) (at b.next) (at b.prev) (prev_of a r1) (prev_of a r2)
        XJ = subst₂ (λ (x y : List ℕ). Exchanged (next_of a) (prev_of a) (at x) (at y) (prev_of a r1) (prev_of a r2)) (sym bn) (sym bp) X

        abbrev R2 : List ℕ
        R2 = set b.results (owner_of b x) x

        was : b.results ≡ set a.results t none
        was = br ∙ J.results

        len_b : length b.results ≡ length I.rs
        len_b = ap length was ∙ length-set a.results t none ∙ I.results

        below_1 : owner_of a r1 < length I.rs
        below_1 = numbered I.rs (owner_of a r1) r1 on1.lives

        below_2 : owner_of a r2 < length I.rs
        below_2 = numbered I.rs (owner_of a r2) r2 on2.lives

        owner_at : (z : ℕ) → (z ≡ r1) ⊎ (z ≡ r2) → owner_of b r1 ≡ owner_of a r1 → owner_of b r2 ≡ owner_of a r1 → owner_of b z ≡ owner_of a r1
        owner_at z (inl e) o1 o2 = ap (owner_of b) e ∙ o1
        owner_at z (inr e) o1 o2 = ap (owner_of b) e ∙ o2

        SJ : Stepped (weight pts) (length pts) (owner_of a) (at b.next) (at b.prev) (owner_of b) (at (set R2 (owner_of b y) y)) I.rs (length I.rs) A
        SJ =
            join_step (weight pts) (length pts) (next_of a) (prev_of a) (owner_of a) (result_of a) (at b.next) (at b.prev) (owner_of b) (at (set R2 (owner_of b y) y))
            I.rs A I.core r1 r2 on1.lives on2.lives XJ sums apart
            (λ zs h1 h2 g d l.
            subst₂ (λ (m : ℕ) (o : List ℕ). Owned (owner_of a) (at o) m zs) en (sym bo)
            (owned_new (length pts) vacated p new zs I.owners (⊎_elim (λ e. subst (λ (m : ℕ). In m zs) (sym e) h1) (λ e. subst (λ (m : ℕ). In m zs) (sym e) h2) isp) g d l))
            (λ o1 o2.
            let oy = owner_at y dy o1 o2 in
            let q : at (set R2 (owner_of b y) y) (owner_of a r1) ≡ y =
            subst (λ (m : ℕ). at (set R2 m y) (owner_of a r1) ≡ y) (sym oy)
            (get_or-set_same R2 (owner_of a r1) y none (subst (λ (m : ℕ). owner_of a r1 < m) (sym (length-set b.results (owner_of b x) x ∙ len_b)) below_1)) in
            ⊎_elim (λ e. inl (q ∙ e)) (λ e. inr (q ∙ e)) dy)
            (λ o1 o2.
            let oy = owner_at y dy o1 o2 in
            let ox = owner_at x dx o1 o2 in
            get_or-set_other R2 (owner_of b y) (owner_of a r2) y none (λ e. apart (sym (e ∙ oy))) ∙ get_or-set_other b.results (owner_of b x) (owner_of a r2) x none (λ e. apart (sym (e ∙ ox)))
            ∙ ap (λ (l : List ℕ). get_or l (owner_of a r2) none) (was ∙ ap (λ (m : ℕ). set a.results m none) et)
            ∙ get_or-set_same a.results (owner_of a r2) none none (subst (λ (m : ℕ). owner_of a r2 < m) (sym I.results) below_2))
            (λ o1 o2 s m1 m2.
            let oy = owner_at y dy o1 o2 in
            let ox = owner_at x dx o1 o2 in
            get_or-set_other R2 (owner_of b y) s y none (λ e. m1 (e ∙ oy)) ∙ get_or-set_other b.results (owner_of b x) s x none (λ e. m1 (e ∙ ox))
            ∙ ap (λ (l : List ℕ). get_or l s none) was ∙ get_or-set_other a.results t s none none (λ e. m2 (e ∙ et)))

        pub join_inv : Inv pts line sd A (set_result (set_result b (owner_of b x) x) (owner_of b y) y)
        unfolding set_results
        join_inv = record {
          rs = SJ.rs';
          core = SJ.core;
          nexts = ap length bn ∙ len_n;
          prevs = ap length bp ∙ len_p;
          owners = ap length bo ∙ J.owners ∙ I.owners;
          results = length-set R2 (owner_of b y) y ∙ length-set b.results (owner_of b x) x ∙ len_b ∙ sym SJ.count_is;
          lists = λ j e i o h w. moved (at b.next) (at b.prev) (owner_of b) SJ.rs' XJ SJ.lives j i (I.lists j e i o (subst (λ (l : List (List ℕ)). In i (get_or l e [])) be h) w);
        }
