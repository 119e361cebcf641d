-- The turns of a side over the work list are the definition's, and refusal 10 comes where it does. Assumes nothing.
use Rattle.std.specs.Prelude.{Result, Ok, Err, IfOk}
use Rattle.std.proofs.Common.{zero-add, suc-add}
use mathlib.Core.Path.{◌≡◌, refl, sym, ◌∙◌, ap}
use mathlib.Core.Bool.{Bool, true, false}
use mathlib.Core.List.{List}
use Prim.Native.Nat.{ℕ, zero, suc, ◌+◌, ◌*◌, ◌-◌, ◌<◌, ◌≤◌}
use native.Mathlib.Omega.{arith}
use native.Mathlib.Numerals.{add-one}
use lib.ListN.{length, get_or}
use lib.Dec.{ltb}
use borrow.Author.Tests.{eq-eqb, ne_eqb}
use Rattle.plane.specs.declared.point.Point64.{Point64}
use Rattle.plane.specs.Basics.{Try, refuse, ok, ◌>>=◌}
use Rattle.reference.specs.Arena.{Arena, edge_list}
use Rattle.reference.specs.Tidy.{one_turn, turn, turns_from, tidy_edges}
use Rattle.reference.specs.Tidy as reference
use Rattle.entry.specs.Answers.{number}
use Rattle.entry.specs.declared.answer.Refusal.{Refusal}
use Rattle.entry.specs.declared.answer.Refusal.TheVariants.{TurnsSpent}
use Rattle.rectclip.specs.declared.arena.Arena as lent
use Rattle.rectclip.specs.declared.idle.Progress.{Progress}
use Rattle.rectclip.specs.declared.settle.Turn.{Turn}
use Rattle.rectclip.specs.declared.side.Side.{Side}
use Rattle.rectclip.specs.Arenas.{Spare}
use Rattle.rectclip.specs.Changes.{arena_of, pts_of, Becomes}
use Rattle.rectclip.specs.Turns.{Turned, Whole, Idles, TidiedAs, tidied_all}
use Rattle.rectclip.proofs.Spare.{spare_slots}
use Rattle.rectclip.proofs.Changes.{list_long, becomes_same, becomes_renamed, points_stay, then_becomes}
use Rattle.rectclip.proofs.Settling.{turn_at}

-- ---- the definition's loop
module _ (pts : List Point64) (idx : ℕ) where
  turns_stop : (left taken : ℕ) (t : reference.Turn) → ltb t.i (length (edge_list t.arena (idx * 2))) ≡ false → ok (t.arena, taken) ≡ turns_from pts idx left taken t
  unfolding turns_from
  turns_stop zero taken t e = rw e refl
  turns_stop (suc left) taken t e = rw e refl

  pub turns_on : (left taken : ℕ) (t : reference.Turn) → ltb t.i (length (edge_list t.arena (idx * 2))) ≡ true
      → turns_from pts idx left (taken + 1) (one_turn pts idx t.arena t.i t.j) ≡ turns_from pts idx (suc left) taken t
  unfolding turns_from
  turns_on left taken t e = rw e refl

  turns_full : (taken : ℕ) (t : reference.Turn) → ltb t.i (length (edge_list t.arena (idx * 2))) ≡ true → ◌≡◌ {A = Try (Arena × ℕ)} (refuse 10) (turns_from pts idx 0 taken t)
  unfolding turns_from
  turns_full taken t e = rw e refl

-- what a turn hands to the next, as the definition has it
pub turned_is : {m m' : lent.Arena} {at t : Turn} {b : reference.Turn} → Turned m m' at t b → turn (arena_of m') t.i t.j ≡ b
turned_is k = λ q. turn (k.becomes.is q) (k.i q) (k.j q)

-- ---- at the head of the loop, and after the idle turns
pub record Tidying (side : Side) (allowed : ℕ) (m₀ m : lent.Arena) (at : Turn) (left : ℕ) : Type 0 where
  pub goal : (A : ℕ) → allowed ≤ A
      → turns_from (pts_of m₀) side.idx left (A - left) (turn (arena_of m) at.i at.j) ≡ turns_from (pts_of m₀) side.idx allowed (A - allowed) (turn (arena_of m₀) 0 0)
  pub side_is : at.side.idx ≡ side.idx
  pub so_far : Becomes m₀ m (arena_of m)
  pub spare : Spare m₀.sizes.slots left (arena_of m)
  pub fewer : left ≤ allowed

pub tidying_start : {m : lent.Arena} (side : Side) {allowed : ℕ} → Spare m.sizes.slots allowed (arena_of m) → Tidying side allowed m m (turn_at side 0 0) allowed
tidying_start side S = record { goal = λ A h. refl; side_is = refl; so_far = becomes_same; spare = S; fewer = omega arith }

module _ {side : Side} {allowed : ℕ} {m₀ m : lent.Arena} {at : Turn} {left : ℕ} (I : Tidying side allowed m₀ m at left) where
  pub tidying_idle : {r : Progress} → Idles m at left r → Tidying side allowed m₀ m r.at r.left
  tidying_idle {r} k =
      let on : (A : ℕ) → left ≤ A → turns_from (pts_of m₀) side.idx r.left (A - r.left) (turn (arena_of m) r.at.i r.at.j) ≡ turns_from (pts_of m₀) side.idx left (A - left) (turn (arena_of m) at.i at.j) =
      λ A h. rw (← points_stay I.so_far, ← I.side_is) (k.idled.same A h) in
      record {
        goal = λ A h. on A (omega (arith, I.fewer)) ∙ I.goal A h;
        side_is = k.side ∙ I.side_is;
        so_far = I.so_far;
        spare = record { results = omega (arith, I.spare.results, k.idled.fewer); lists = λ e h. omega (arith, I.spare.lists e h, k.idled.fewer) };
        fewer = omega (arith, I.fewer, k.idled.fewer);
      }

  module _ (b : Bool) (w : b ≡ ltb at.i (get_or m.sizes.lens (at.side.idx * 2) 0)) where
    test : ltb at.i (length (edge_list (arena_of m) (side.idx * 2))) ≡ b
    test = rw (← I.side_is) (ap (ltb at.i) (list_long m (at.side.idx * 2) (omega (arith, at.side.within))) ∙ sym w)

    abbrev wanted : ℕ → Try (Arena × ℕ)
    wanted A = turns_from (pts_of m₀) side.idx allowed (A - allowed) (turn (arena_of m₀) 0 0)

    pub tidying_stop : b ≡ false → (A : ℕ) → allowed ≤ A → TidiedAs m₀ m allowed A (Ok left) (wanted A)
    tidying_stop t A h = record {
      is = turns_stop (pts_of m₀) side.idx left (A - left) (turn (arena_of m) at.i at.j) (test ∙ t) ∙ I.goal A h;
      becomes = I.so_far;
      spare = I.spare;
      fewer = I.fewer;
    }

    pub tidying_out : b ≡ false → left ≡ 0 → (A : ℕ) → allowed ≤ A → TidiedAs m₀ m allowed A (Ok 0) (wanted A)
    tidying_out t z = rw z at (tidying_stop t)

    -- no turn is left, and one more is needed
    pub tidying_full : b ≡ true → left ≡ 0 → (A : ℕ) → allowed ≤ A → TidiedAs m₀ m allowed A (Err TurnsSpent) (wanted A)
    tidying_full t z A h =
        let all = turn (arena_of m) at.i at.j in
        let spent = turns_full (pts_of m₀) side.idx (A - left) all (test ∙ t) in
        record { is = spent ∙ ap (λ (n : ℕ). turns_from (pts_of m₀) side.idx n (A - left) all) (sym z) ∙ I.goal A h; becomes = I.so_far; spare = tt; fewer = tt }

    pub tidying_again : 0 < left → b ≡ true → {m' : lent.Arena} (u : Turn) → Whole m m' at u (one_turn (pts_of m) at.side.idx (arena_of m) at.i at.j) → Tidying side allowed m₀ m' u (left - 1)
    tidying_again z t {m'} u k =
        let one : suc (left - 1) ≡ left = omega arith in
        let now = one_turn (pts_of m₀) side.idx (arena_of m) at.i at.j in
        let same : one_turn (pts_of m) at.side.idx (arena_of m) at.i at.j ≡ now = λ q. one_turn (points_stay I.so_far q) (I.side_is q) (arena_of m) at.i at.j in
        record {
          goal = λ A h.
              let taken : A - (left - 1) ≡ A - left + 1 = omega (arith, I.fewer) in
              (λ q. turns_from (pts_of m₀) side.idx (left - 1) (taken q) ((turned_is k.turned ∙ same) q))
              ∙ turns_on (pts_of m₀) side.idx (left - 1) (A - left) (turn (arena_of m) at.i at.j) (test ∙ t) ∙ rw one (I.goal A h);
          side_is = k.turned.side ∙ I.side_is;
          so_far = becomes_renamed (then_becomes (λ p _ a. (one_turn p at.side.idx a at.i at.j).arena) I.so_far k.turned.becomes)
              (sym (k.turned.becomes.is ∙ ap (λ (p : List Point64). (one_turn p at.side.idx (arena_of m) at.i at.j).arena) (points_stay I.so_far)));
          spare = rw k.turned.becomes.is (k.space m₀.sizes.slots (left - 1) (rw one I.spare));
          fewer = omega (arith, I.fewer);
        }

-- ---- a side without a counter-clockwise entry takes no turn
module _ (m : lent.Arena) (side : Side) (allowed A : ℕ) (h : allowed ≤ A) where
  ccw : length (edge_list (arena_of m) (side.idx * 2 + 1)) ≡ get_or m.sizes.lens (side.idx * 2 + 1) 0
  ccw = list_long m (side.idx * 2 + 1) (omega (arith, side.within))

  pub tidy_none : Spare m.sizes.slots allowed (arena_of m) → get_or m.sizes.lens (side.idx * 2 + 1) 0 ≡ 0
      → TidiedAs m m allowed A (Ok allowed) (tidy_edges (pts_of m) side.idx A (arena_of m, A - allowed))
  unfolding tidy_edges
  tidy_none S e = rw (eq-eqb (length (edge_list (arena_of m) (side.idx * 2 + 1))) 0 (ccw ∙ e)) (record { is = refl; becomes = becomes_same; spare = S; fewer = omega arith })

  pub tidy_some : (get_or m.sizes.lens (side.idx * 2 + 1) 0 ≡ 0 → ⊥) → {m' : lent.Arena} (r : Result ℕ Refusal)
      → TidiedAs m m' allowed A r (turns_from (pts_of m) side.idx allowed (A - allowed) (turn (arena_of m) 0 0))
      → TidiedAs m m' allowed A r (tidy_edges (pts_of m) side.idx A (arena_of m, A - allowed))
  unfolding tidy_edges
  tidy_some q r k =
      let left : A - (A - allowed) ≡ allowed = omega arith in
      rw (ne_eqb (length (edge_list (arena_of m) (side.idx * 2 + 1))) 0 (λ e. q (sym ccw ∙ e)), left) k

-- ---- the sides in their order
-- those before side i
pub sides_to : List Point64 → ℕ → Arena → ℕ → Try (Arena × ℕ)
sides_to pts A a zero = ok (a, 0)
sides_to pts A a (suc i) = sides_to pts A a i >>= tidy_edges pts i A

-- the turns spent at one side are spent in all
spent_on : (pts : List Point64) (A : ℕ) (a : Arena) (i n why : ℕ) → refuse why ≡ sides_to pts A a i → refuse why ≡ sides_to pts A a (n + i)
unfolding sides_to
spent_on pts A a i zero why e = rw zero-add e
spent_on pts A a i (suc n) why e = rw suc-add (ap (λ b. b >>= tidy_edges pts (n + i) A) (spent_on pts A a i n why e))

pub sides_start : {m : lent.Arena} {A : ℕ} → Spare m.sizes.slots A (arena_of m) → TidiedAs m m A A (Ok A) (sides_to (pts_of m) A (arena_of m) 0)
unfolding sides_to
sides_start {m} {A} S = record { is = let z : A - A ≡ 0 = omega arith in rw z refl; becomes = becomes_same; spare = S; fewer = omega arith }

module _ {m₀ m : lent.Arena} {A left : ℕ} (i : ℕ) (k : TidiedAs m₀ m A A (Ok left) (sides_to (pts_of m₀) A (arena_of m₀) i)) where
  module _ {m₁ : lent.Arena} {r : Result ℕ Refusal} (l : TidiedAs m m₁ left A r (tidy_edges (pts_of m) i A (arena_of m, A - left))) where
    kept : (r : Result ℕ Refusal) → IfOk r (λ t. Spare m.sizes.slots t (arena_of m₁)) → IfOk r (λ t. Spare m₀.sizes.slots t (arena_of m₁))
    kept (Ok t) S = spare_slots (sym k.becomes.slots) S
    kept (Err why) S = tt

    less : (r : Result ℕ Refusal) → IfOk r (λ t. t ≤ left) → IfOk r (λ t. t ≤ A)
    less (Ok t) h = omega (arith, h, k.fewer)
    less (Err why) h = tt

    pub sides_on : TidiedAs m₀ m₁ A A r (sides_to (pts_of m₀) A (arena_of m₀) (i + 1))
    unfolding sides_to
    sides_on =
        rw (add-one i)
        (record {
          is = l.is ∙ (λ q. k.is q >>= tidy_edges (points_stay k.becomes q) i A);
          becomes = then_becomes (λ _ _ _. arena_of m₁) k.becomes l.becomes;
          spare = kept r l.spare;
          fewer = less r l.fewer;
        })

  pub sides_spent : i < 4 → {m₁ : lent.Arena} {why : Refusal} → TidiedAs m m₁ left A (Err why) (tidy_edges (pts_of m) i A (arena_of m, A - left)) → TidiedAs m₀ m₁ A A (Err why) (tidied_all (pts_of m₀) A (arena_of m₀))
  unfolding sides_to tidied_all
  sides_spent h {why = why} l =
      let all : 3 - i + (i + 1) ≡ 4 = omega arith in
      let on = sides_on l in
      record { is = rw all at (spent_on (pts_of m₀) A (arena_of m₀) (i + 1) (3 - i) (number why) on.is); becomes = on.becomes; spare = tt; fewer = tt }

  pub sides_all : i ≡ 4 → TidiedAs m₀ m A A (Ok left) (tidied_all (pts_of m₀) A (arena_of m₀))
  unfolding sides_to tidied_all
  sides_all e = rw e at k
