-- One turn of `tidy_edges` over the work list is the definition's: what regroups the rings, and each way of the turn. Assumes nothing.
use Rattle.std.specs.Prelude.{if◌then◌else◌}
use mathlib.Core.Path.{◌≡◌, refl, ◌∙◌, ap, subst}
use mathlib.Core.Bool.{Bool, true, false, not}
use mathlib.Core.List.{List}
use Prim.Native.Nat.{ℕ, suc, ◌+◌, ◌*◌, ◌<◌, ◌≤◌}
use native.Mathlib.Omega.{arith}
use lib.ListN.{length, get_or, drop}
use lib.Dec.{eqb, leb}
use borrow.Author.Tests.{eq-eqb, ne_eqb, le-leb, lt-leb}
use Rattle.plane.specs.declared.point.Point64.{Point64}
use Rattle.plane.specs.Basics.{none}
use Rattle.reference.specs.Arena.{Arena, owner_of, edge_list, set_entry}
use Rattle.reference.specs.Tidy.{is_stub, seek, is_horz, cw_is_toward_larger, four_of, overlap, relink, regroup, first_op, second_op, settle, rejoin, one_turn, turn}
use Rattle.reference.specs.Tidy as reference
use Rattle.rectclip.specs.declared.arena.Arena as lent
use Rattle.rectclip.specs.declared.regroup.Four.{Four}
use Rattle.rectclip.specs.declared.settle.Turn.{Turn}
use Rattle.rectclip.specs.Arenas.{Space, Spare}
use Rattle.rectclip.specs.Changes.{arena_of, pts_of, Leaves, Becomes}
use Rattle.rectclip.specs.Turns.{Sought, four, Fourth, joined, split, regrouped, set_roots, Settling, Settled, Whole, Groups, Rejoining}
use Rattle.rectclip.proofs.Spare.{by_test}
use Rattle.rectclip.proofs.Space.{space_less, space_fewer, space_entry, space_joined, space_split, space_roots}
use Rattle.rectclip.proofs.Changes.{list_long, points_many, becomes_left, becomes_same, becomes_renamed, points_stay, then_becomes}
use Rattle.rectclip.proofs.Settling.{turn_at, entries_on}

-- ---- regroup
module _ {m m' : lent.Arena} (idx : ℕ) (f : Four) (b : Bool) where
  pub groups_joined : b ≡ true → Leaves m m' (joined idx m.sizes.nodes (arena_of m) (four f)) → Groups m m' (regrouped idx m.sizes.nodes (arena_of m) (four f) b)
  unfolding regrouped
  groups_joined t l = rw t (record { becomes = becomes_left l; space = λ N p k S. space_joined idx m.sizes.nodes (four f) S })

  pub groups_split : b ≡ false → Becomes m m' (split idx m.sizes.nodes (arena_of m) (four f)) → Groups m m' (regrouped idx m.sizes.nodes (arena_of m) (four f) b)
  unfolding regrouped
  groups_split t k = rw t (record { becomes = k; space = λ N p k S. space_split idx m.sizes.nodes (four f) S })

regroup_is : (pts : List Point64) (n idx : ℕ) (a : Arena) (f : reference.Four) (b : Bool) → length pts ≡ n → regrouped idx n a f b ≡ regroup (cw_is_toward_larger idx) (length pts) a f b
unfolding regroup regrouped joined split relink
regroup_is pts n idx a f b e = rw (← e) refl

-- ---- rejoin
module _ {m : lent.Arena} {at : Turn} {r1 r2 : ℕ} {f : Four} (x : Rejoining m at r1 r2 f)
    (o1 o2 : ℕ) (e1 : o1 ≡ owner_of (arena_of m) r1) (e2 : o2 ≡ owner_of (arena_of m) r2)
    {m₁ : lent.Arena} (g : Groups m m₁ (regrouped at.side.idx m.sizes.nodes (arena_of m) (four f) (not (eqb o1 o2))))
    (op op2 : ℕ) (eo : op ≡ first_op (cw_is_toward_larger at.side.idx) (four f)) (eo2 : op2 ≡ second_op (cw_is_toward_larger at.side.idx) (four f)) where
  pub op_within : op < m₁.sizes.nodes
  op_within = omega (arith, eo, g.becomes.nodes, by_test (cw_is_toward_larger at.side.idx) (λ b. (if b then f.p2 else f.p1) < m.sizes.nodes) x.four_in.p2_in x.four_in.p1_in)

  pub op2_within : op2 < m₁.sizes.nodes
  op2_within = omega (arith, eo2, g.becomes.nodes, by_test (cw_is_toward_larger at.side.idx) (λ b. (if b then f.p1a else f.p2a) < m.sizes.nodes) x.four_in.p1a_in x.four_in.p2a_in)

  module _ {m₂ : lent.Arena} (l : Leaves m₁ m₂ (set_roots (arena_of m₁) op op2)) where
    -- the arena to settle, and the turn
    b : Arena
    b = set_roots (regrouped at.side.idx m.sizes.nodes (arena_of m) (four f) (not (eqb o1 o2))) op op2

    to_b : arena_of m₂ ≡ b
    unfolding b
    to_b = l.is ∙ ap (λ a. set_roots a op op2) g.becomes.is

    pub may_settle : Settling m₂ at op op2
    unfolding b
    may_settle =
        let k = becomes_left l in
        let there : Space m.sizes.slots 0 1 (arena_of m₂) = rw to_b (space_roots op op2 (g.space m.sizes.slots 0 1 x.spare)) in
        record {
          entries = entries_on k (entries_on g.becomes x.entries);
          op_in = omega (arith, op_within, k.nodes);
          op2_in = omega (arith, op2_within, k.nodes);
          room = λ e h. omega (arith, there.lists e h, list_long m₂ e h, g.becomes.slots, k.slots);
        }

    is_turn : settle (pts_of m) at.side.idx b at.i at.j op op2 ≡ rejoin (pts_of m) at.side.idx (arena_of m) at.i at.j r1 r2 (four f)
    unfolding b rejoin set_roots
    is_turn =
        let pts = pts_of m in
        let a = arena_of m in
        let grouped : regrouped at.side.idx m.sizes.nodes a (four f) (not (eqb o1 o2)) ≡ regroup (cw_is_toward_larger at.side.idx) (length pts) a (four f) (not (eqb (owner_of a r1) (owner_of a r2))) =
        (λ q. regrouped at.side.idx m.sizes.nodes a (four f) (not (eqb (e1 q) (e2 q)))) ∙ regroup_is pts m.sizes.nodes at.side.idx a (four f) (not (eqb (owner_of a r1) (owner_of a r2))) (points_many m) in
        λ q. settle pts at.side.idx (set_roots (grouped q) (eo q) (eo2 q)) at.i at.j (eo q) (eo2 q)

    pub rejoined : {m₃ : lent.Arena} (t : Turn) → Settled m₂ m₃ at t (settle (pts_of m₂) at.side.idx (arena_of m₂) at.i at.j op op2) → Whole m m₃ at t (rejoin (pts_of m) at.side.idx (arena_of m) at.i at.j r1 r2 (four f))
    unfolding b
    rejoined t k =
        let roots = then_becomes (λ _ _ a. set_roots a op op2) g.becomes (becomes_left l) in
        let same : settle (pts_of m₂) at.side.idx (arena_of m₂) at.i at.j op op2 ≡ rejoin (pts_of m) at.side.idx (arena_of m) at.i at.j r1 r2 (four f) = (λ q. settle (points_stay roots q) at.side.idx (to_b q) at.i at.j op op2) ∙ is_turn in
        record {
          turned = record {
            becomes = becomes_renamed (then_becomes (λ pts _ a. (settle pts at.side.idx a at.i at.j op op2).arena) roots k.turned.becomes) (ap (λ z. z.arena) is_turn);
            side = k.turned.side;
            i = k.turned.i ∙ ap (λ z. z.i) same;
            j = k.turned.j ∙ ap (λ z. z.j) same;
          };
          space = λ N n S. subst (λ z. Spare N n z.arena) same (k.space N n n (rw to_b (space_roots op op2 (g.space N n (suc n) S))));
        }

-- ---- one_turn
-- the definition's turn over what it reads: the entry r1, the position k, the entry there, and the four nodes
turn_by : List Point64 → ℕ → Arena → (i r1 k r2 : ℕ) → reference.Four → reference.Turn
turn_by pts idx a i r1 k r2 f =
    let joined = rejoin pts idx a i k r1 r2 f in
    if eqb r1 none then turn a (i + 1) 0
    else if is_stub a r1 then turn (set_entry a (idx * 2) i none) (i + 1) 0
    else if leb (length (edge_list a (idx * 2 + 1))) k then turn a (i + 1) 0
    else if not (overlap pts (is_horz idx) f) then turn a i (k + 1)
    else joined

-- a turn depends on j by where `seek` stops alone
pub turn_sought : (pts : List Point64) (idx : ℕ) (a : Arena) (i j k : ℕ) → seek a j (drop j (edge_list a (idx * 2 + 1))) ≡ seek a k (drop k (edge_list a (idx * 2 + 1)))
    → one_turn pts idx a i j ≡ one_turn pts idx a i k
unfolding one_turn turn_by
turn_sought pts idx a i j k e = λ q.
    let r1 = get_or (edge_list a (idx * 2)) i none in
    let r2 = get_or (edge_list a (idx * 2 + 1)) (e q) none in
    turn_by pts idx a i r1 (e q) r2 (four_of (cw_is_toward_larger idx) a r1 r2)

-- a turn is told by its side alone
whole_from : {m m₁ : lent.Arena} {u : Turn} {b : reference.Turn} (at at' : Turn) → at.side.idx ≡ at'.side.idx → Whole m m₁ at u b → Whole m m₁ at' u b
whole_from at at' e k = record {
  turned = record { becomes = k.turned.becomes; side = k.turned.side ∙ e; i = k.turned.i; j = k.turned.j };
  space = k.space;
}

module _ (at : Turn) where
  abbrev idx : ℕ
  idx = at.side.idx

  abbrev i : ℕ
  i = at.i

  abbrev j : ℕ
  j = at.j

  side_in : idx < 4
  side_in = at.side.within

  module _ (m : lent.Arena) (r1 : ℕ) (e1 : r1 ≡ get_or (edge_list (arena_of m) (idx * 2)) i none) where
    -- k is where `seek` stops, r2 the entry there
    stop : ℕ
    stop = seek (arena_of m) j (drop j (edge_list (arena_of m) (idx * 2 + 1)))

    other : ℕ
    other = get_or (edge_list (arena_of m) (idx * 2 + 1)) stop none

    turn_is : (f : reference.Four) → f ≡ four_of (cw_is_toward_larger idx) (arena_of m) r1 other → turn_by (pts_of m) idx (arena_of m) i r1 stop other f ≡ one_turn (pts_of m) idx (arena_of m) i j
    unfolding one_turn turn_by stop other
    turn_is f e =
        λ q. turn_by (pts_of m) idx (arena_of m) i (e1 q) stop other ((e ∙ ap (λ (r : ℕ). four_of (cw_is_toward_larger idx) (arena_of m) r other) e1) q)

    untouched : (i' j' : ℕ) → turn (arena_of m) i' j' ≡ one_turn (pts_of m) idx (arena_of m) i j → Whole m m at (turn_at at.side i' j') (one_turn (pts_of m) idx (arena_of m) i j)
    untouched i' j' e = record {
      turned = record { becomes = becomes_renamed becomes_same (ap (λ z. z.arena) e); side = refl; i = ap (λ z. z.i) e; j = ap (λ z. z.j) e };
      space = λ N n S. subst (λ z. Spare N n z.arena) e (space_less (space_fewer S));
    }

    pub turn_none : r1 ≡ none → Whole m m at (turn_at at.side (i + 1) 0) (one_turn (pts_of m) idx (arena_of m) i j)
    unfolding turn_by
    turn_none q = untouched (i + 1) 0 (rw (eq-eqb r1 none q) at (turn_is (four_of (cw_is_toward_larger idx) (arena_of m) r1 other) refl))

    module _ (q : r1 ≡ none → ⊥) where
      pub turn_stub : is_stub (arena_of m) r1 ≡ true → {m₁ : lent.Arena} → Leaves m m₁ (set_entry (arena_of m) (idx * 2) i none)
          → Whole m m₁ at (turn_at at.side (i + 1) 0) (one_turn (pts_of m) idx (arena_of m) i j)
      unfolding turn_by
      turn_stub t l =
          let e : turn (set_entry (arena_of m) (idx * 2) i none) (i + 1) 0 ≡ one_turn (pts_of m) idx (arena_of m) i j =
          rw (ne_eqb r1 none q, t) at (turn_is (four_of (cw_is_toward_larger idx) (arena_of m) r1 other) refl) in
          record {
            turned = record { becomes = becomes_renamed (becomes_left l) (ap (λ z. z.arena) e); side = refl; i = ap (λ z. z.i) e; j = ap (λ z. z.j) e };
            space = λ N n S. subst (λ z. Spare N n z.arena) e (space_less (space_fewer (space_entry (idx * 2) i none (omega (arith, side_in)) S)));
          }

      module _ (t : is_stub (arena_of m) r1 ≡ false) (k : ℕ) (z : Sought (arena_of m) (idx * 2 + 1) j k) where
        pub turn_end : get_or m.sizes.lens (idx * 2 + 1) 0 ≤ k → Whole m m at (turn_at at.side (i + 1) 0) (one_turn (pts_of m) idx (arena_of m) i j)
        unfolding turn_by stop
        turn_end h =
            let l : length (edge_list (arena_of m) (idx * 2 + 1)) ≤ stop = omega (arith, z.is, list_long m (idx * 2 + 1) (omega (arith, side_in))) in
            untouched (i + 1) 0 (rw (ne_eqb r1 none q, t, le-leb (length (edge_list (arena_of m) (idx * 2 + 1))) stop l) at (turn_is (four_of (cw_is_toward_larger idx) (arena_of m) r1 other) refl))

        module _ (h : k < get_or m.sizes.lens (idx * 2 + 1) 0) (r2 : ℕ) (e2 : r2 ≡ get_or (edge_list (arena_of m) (idx * 2 + 1)) k none) (f : Four) (v : Fourth m.sizes.nodes at.side f (four_of (cw_is_toward_larger idx) (arena_of m) r1 r2)) where
          -- the turn over what the code has read
          read : turn_by (pts_of m) idx (arena_of m) i r1 k r2 (four f) ≡ one_turn (pts_of m) idx (arena_of m) i j
          unfolding stop other
          read =
              let to : r2 ≡ other = e2 ∙ ap (λ (p : ℕ). get_or (edge_list (arena_of m) (idx * 2 + 1)) p none) z.is in
              (λ p. turn_by (pts_of m) idx (arena_of m) i r1 (z.is p) (to p) ((v.is ∙ ap (four_of (cw_is_toward_larger idx) (arena_of m) r1) to) p)) ∙ turn_is (four_of (cw_is_toward_larger idx) (arena_of m) r1 other) refl

          long : leb (length (edge_list (arena_of m) (idx * 2 + 1))) k ≡ false
          long = lt-leb (length (edge_list (arena_of m) (idx * 2 + 1))) k (omega (arith, list_long m (idx * 2 + 1) (omega (arith, side_in))))

          pub turn_apart : {meets : Bool} → meets ≡ overlap (pts_of m) (is_horz idx) (four f) → meets ≡ false → Whole m m at (turn_at at.side i (k + 1)) (one_turn (pts_of m) idx (arena_of m) i j)
          unfolding turn_by
          turn_apart w o = untouched i (k + 1) (rw (ne_eqb r1 none q, t, long, ← w, o) at read)

          pub turn_rejoined : {meets : Bool} → meets ≡ overlap (pts_of m) (is_horz idx) (four f) → meets ≡ true → {m₁ : lent.Arena} (u : Turn)
              → Whole m m₁ (turn_at at.side i k) u (rejoin (pts_of m) idx (arena_of m) i k r1 r2 (four f)) → Whole m m₁ at u (one_turn (pts_of m) idx (arena_of m) i j)
          unfolding turn_by
          turn_rejoined w o {m₁} u y = whole_from (turn_at at.side i k) at refl (subst (λ b. Whole m m₁ (turn_at at.side i k) u b) (rw (ne_eqb r1 none q, t, long, ← w, o) at read) y)
