-- Every number of the arena stays in its range: one law for each of the definition's stores. Assumes nothing.
use mathlib.Core.Path.{◌≡◌, sym, ◌∙◌, ap, subst}
use mathlib.Core.List.{List, [], ◌∷◌}
use mathlib.Core.Logic.{◌⊎◌, inl, inr, ⊎_elim}
use Prim.Native.Nat.{ℕ, zero, suc, ◌+◌, ◌<◌}
use native.Mathlib.Omega.{arith}
use native.Mathlib.Decide.{ℕ_discrete, dec_lt}
use lib.ListN.{length, get_or, set, length-set, length-append}
use lib.Seq.{get_or-set_same, get_or-set_other, set_out}
use Rattle.plane.specs.Basics.{none, push}
use Rattle.reference.specs.Arena.{Arena, edge_list, set_owner, set_edge, set_next, set_prev, set_results, set_edge_list, set_result, set_entry}
use Rattle.rectclip.specs.Arenas.{Valid, Marked}

-- what stands at j after a store at i: the number stored, or what was there
pub set_or : {A : Type 0} (l : List A) (i j : ℕ) (v d : A) → (get_or (set l i v) j d ≡ v) ⊎ (get_or (set l i v) j d ≡ get_or l j d)
set_or l i j v d =
    elim (ℕ_discrete j i) [
      | yes e ↦
          elim (dec_lt i (length l)) [
            | yes h ↦ inl (ap (λ (k : ℕ). get_or (set l i v) k d) e ∙ get_or-set_same l i v d h)
            | no h ↦ inr (ap (λ k. get_or k j d) (set_out l i v (omega arith)))
          ]
      | no q ↦ inr (get_or-set_other l i j v d q)
    ]

-- a property of the number stored and of what was there holds of what stands there
pub set_keeps : {A : Type 0} (P : A → Type 0) (l : List A) (i j : ℕ) (v d : A) → P v → P (get_or l j d) → P (get_or (set l i v) j d)
set_keeps P l i j v d p q = ⊎_elim (λ e. subst P (sym e) p) (λ e. subst P (sym e) q) (set_or l i j v d)

-- the same of a list with v pushed behind its entries
pub push_keeps : (P : ℕ → Type 0) (l : List ℕ) (v j d : ℕ) → j < length (push l v) → P v → (j < length l → P (get_or l j d)) → P (get_or (push l v) j d)
push_keeps P [] v zero d h p q = p
push_keeps P [] v (suc j) d h p q = absurd (omega arith)
push_keeps P (x ∷ l) v zero d h p q = q (omega arith)
push_keeps P (x ∷ l) v (suc j) d h p q = push_keeps P l v j d (omega arith) p (λ g. q (omega arith))

module _ {n R : ℕ} {a : Arena} (ok : Valid n R a) where
  pub valid_next : (i v : ℕ) → v < n → Valid n R (set_next a i v)
  unfolding set_next
  valid_next i v h = record {
    next_in = λ j g. set_keeps (λ x. x < n) a.next i j v none h (ok.next_in j g);
    prev_in = ok.prev_in;
    owner_in = ok.owner_in;
    edge_in = ok.edge_in;
    result_in = ok.result_in;
    entry_in = ok.entry_in;
  }

  pub valid_prev : (i v : ℕ) → v < n → Valid n R (set_prev a i v)
  unfolding set_prev
  valid_prev i v h = record {
    prev_in = λ j g. set_keeps (λ x. x < n) a.prev i j v none h (ok.prev_in j g);
    next_in = ok.next_in;
    owner_in = ok.owner_in;
    edge_in = ok.edge_in;
    result_in = ok.result_in;
    entry_in = ok.entry_in;
  }

  pub valid_owner : (i v : ℕ) → v < R → Valid n R (set_owner a i v)
  unfolding set_owner
  valid_owner i v h = record {
    owner_in = λ j g. set_keeps (λ x. x < R) a.owner i j v none h (ok.owner_in j g);
    next_in = ok.next_in;
    prev_in = ok.prev_in;
    edge_in = ok.edge_in;
    result_in = ok.result_in;
    entry_in = ok.entry_in;
  }

  pub valid_edge : (i v : ℕ) → Marked 8 v → Valid n R (set_edge a i v)
  unfolding set_edge
  valid_edge i v h = record {
    edge_in = λ j g. set_keeps (Marked 8) a.edge i j v none h (ok.edge_in j g);
    next_in = ok.next_in;
    prev_in = ok.prev_in;
    owner_in = ok.owner_in;
    result_in = ok.result_in;
    entry_in = ok.entry_in;
  }

  pub valid_result : (r v : ℕ) → Marked n v → Valid n R (set_result a r v)
  unfolding set_results
  valid_result r v h = record {
    result_in = λ j g. set_keeps (Marked n) a.results r j v none h (ok.result_in j g);
    next_in = ok.next_in;
    prev_in = ok.prev_in;
    owner_in = ok.owner_in;
    edge_in = ok.edge_in;
    entry_in = ok.entry_in;
  }

  pub valid_push_result : (v : ℕ) → length a.results ≡ R → Marked n v → Valid n (R + 1) (set_results a (push a.results v))
  unfolding set_results
  valid_push_result v e h = record {
    result_in = λ j g. push_keeps (Marked n) a.results v j none (simp length-append (omega arith)) h (λ k. ok.result_in j (omega arith));
    owner_in = λ j g. omega (arith, ok.owner_in j g);
    next_in = ok.next_in;
    prev_in = ok.prev_in;
    edge_in = ok.edge_in;
    entry_in = ok.entry_in;
  }

  -- list e is l from now on, each entry of which is the mark or a node
  pub valid_edge_list : (e : ℕ) (l : List ℕ) → ((j : ℕ) → j < length l → Marked n (get_or l j none)) → Valid n R (set_edge_list a e l)
  unfolding set_edge_list
  valid_edge_list e l h = record {
    entry_in = λ f j g. set_keeps (λ k. j < length k → Marked n (get_or k j none)) a.edges e f l [] (h j) (ok.entry_in f j g);
    next_in = ok.next_in;
    prev_in = ok.prev_in;
    owner_in = ok.owner_in;
    edge_in = ok.edge_in;
    result_in = ok.result_in;
  }

  pub valid_entry : (e i v : ℕ) → e < 8 → Marked n v → Valid n R (set_entry a e i v)
  valid_entry e i v f h =
      valid_edge_list e (set (edge_list a e) i v) (λ j g. set_keeps (Marked n) (edge_list a e) i j v none h (ok.entry_in e j f (simp length-set at g)))

  pub valid_push_entry : (e v : ℕ) → e < 8 → Marked n v → Valid n R (set_edge_list a e (push (edge_list a e) v))
  valid_push_entry e v f h = valid_edge_list e (push (edge_list a e) v) (λ j g. push_keeps (Marked n) (edge_list a e) v j none g h (λ k. ok.entry_in e j f k))
