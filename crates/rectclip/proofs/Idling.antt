-- Turns of `tidy_edges` that change no list, one after another, are the definition's. Assumes nothing.
use Rattle.std.specs.Prelude.{if◌then◌else◌}
use mathlib.Core.Path.{◌≡◌, refl, sym, ◌∙◌, ap}
use mathlib.Core.Bool.{Bool, true, false}
use mathlib.Core.List.{List}
use Prim.Native.Nat.{ℕ, zero, suc, ◌+◌, ◌*◌, ◌-◌, ◌<◌, ◌≤◌}
use native.Mathlib.Omega.{arith}
use lib.ListN.{length, get_or}
use lib.Dec.{ltb}
use borrow.Author.Tests.{lt-ltb}
use Rattle.plane.specs.declared.point.Point64.{Point64}
use Rattle.plane.specs.Basics.{none, ok}
use Rattle.reference.specs.Arena.{Arena, edge_list}
use Rattle.reference.specs.Tidy.{is_horz, cw_is_toward_larger, four_of, overlap, one_turn, turn, turns_from}
use Rattle.reference.specs.Tidy as reference
use Rattle.rectclip.specs.declared.arena.Arena as lent
use Rattle.rectclip.specs.declared.idle.Progress.{Progress}
use Rattle.rectclip.specs.declared.regroup.Four.{Four}
use Rattle.rectclip.specs.declared.settle.Turn.{Turn}
use Rattle.rectclip.specs.Changes.{arena_of, pts_of}
use Rattle.rectclip.specs.Turns.{is_live, Sought, four, Fourth, Idling, Idled, Idles}
use Rattle.rectclip.proofs.Changes.{list_long}
use Rattle.rectclip.proofs.Settling.{turn_at}
use Rattle.rectclip.proofs.Seeking.{SeekingOn, live_some, live_ring, sought_there, seeking_end}
use Rattle.rectclip.proofs.Turns.{turn_sought, turn_end, turn_apart}
use Rattle.rectclip.proofs.Tidying.{turns_on, turned_is}

module _ {pts : List Point64} {idx : ℕ} {a : Arena} {left i j : ℕ} where
  idled_on : {left' i' j' left₂ i₂ j₂ : ℕ} → Idled pts idx a left i j left' i' j' → Idled pts idx a left' i' j' left₂ i₂ j₂ → Idled pts idx a left i j left₂ i₂ j₂
  idled_on k l = record { same = λ A h. l.same A (omega (arith, k.fewer)) ∙ k.same A h; fewer = omega (arith, k.fewer, l.fewer) }

  -- a turn that leaves the arena as it is
  idled_turn : 0 < left → i < length (edge_list a (idx * 2)) → (i' j' : ℕ) → turn a i' j' ≡ one_turn pts idx a i j → Idled pts idx a left i j (left - 1) i' j'
  idled_turn z h i' j' e = record {
    same = λ A l.
        let one : suc (left - 1) ≡ left = omega arith in
        let taken : A - (left - 1) ≡ A - left + 1 = omega arith in
        (λ q. turns_from pts idx (left - 1) (taken q) (e q)) ∙ turns_on pts idx (left - 1) (A - left) (turn a i j) (lt-ltb i (length (edge_list a (idx * 2))) h)
        ∙ ap (λ (n : ℕ). turns_from pts idx n (A - left) (turn a i j)) one;
    fewer = omega arith;
  }

  idled_sought : {k : ℕ} → Sought a (idx * 2 + 1) j k → Idled pts idx a left i j left i k
  unfolding turns_from
  idled_sought {k} z = record { same = λ A l. go left (A - left); fewer = omega arith }
    where
      there : one_turn pts idx a i k ≡ one_turn pts idx a i j
      there = turn_sought pts idx a i k j (sym (sought_there z).is ∙ z.is)

      go : (n taken : ℕ) → turns_from pts idx n taken (turn a i k) ≡ turns_from pts idx n taken (turn a i j)
      go zero taken = refl
      go (suc n) taken = ap (λ (t : reference.Turn). if ltb i (length (edge_list a (idx * 2))) then turns_from pts idx n (taken + 1) t else ok (a, taken)) there

-- ---- the turns at a live clockwise entry
pub may_idle : {m : lent.Arena} (at : Turn) (idx i : ℕ) → at.side.idx ≡ idx → at.i ≡ i → i < get_or m.sizes.lens (idx * 2) 0 → (r1 : ℕ) → r1 ≡ get_or (edge_list (arena_of m) (idx * 2)) i none
    → (b : Bool) → b ≡ is_live (arena_of m) r1 → b ≡ true → Idling m at
may_idle {m} at idx i es ei h r1 e b w t = record { i_in = rw (es, ei) h; live = rw (es, ei) (ap (is_live (arena_of m)) (sym e) ∙ sym w ∙ t) }

-- the places of the clockwise list and the side are the same
pub idling_as : {m : lent.Arena} {at at' : Turn} → Idling m at → at'.side.idx ≡ at.side.idx → at'.i ≡ at.i → Idling m at'
idling_as x es ei = record { i_in = rw (es, ei) x.i_in; live = rw (es, ei) x.live }

pub idles_on : {m : lent.Arena} {at : Turn} {left : ℕ} {r r' : Progress} → Idles m at left r → Idles m r.at r.left r' → Idles m at left r'
idles_on {m} {at} {left} {r} {r'} k l = record { side = l.side ∙ k.side; idled = idled_on k.idled (rw k.side at l.idled) }

-- the code's `seek` goes along the list e
pub idles_sought : {m : lent.Arena} {at₀ at : Turn} {left₀ left j e : ℕ} → Idles m at₀ left₀ (record { at = at; left = left }) → e ≡ at₀.side.idx * 2 + 1 → Sought (arena_of m) e at.j j
    → Idles m at₀ left₀ (record { at = turn_at at.side at.i j; left = left })
idles_sought {m} {at = at} I w z = idles_on I (record { side = refl; idled = idled_sought (rw (w, ← I.side) at z) })

module _ {m : lent.Arena} {at₀ at : Turn} {left₀ left : ℕ} (x : Idling m at) (I : Idles m at₀ left₀ (record { at = at; left = left })) (z : 0 < left) where
  abbrev idx : ℕ
  idx = at.side.idx

  abbrev i : ℕ
  i = at.i

  abbrev j : ℕ
  j = at.j

  side_in : idx < 4
  side_in = at.side.within

  inside : i < length (edge_list (arena_of m) (idx * 2))
  inside = omega (arith, x.i_in, list_long m (idx * 2) (omega (arith, side_in)))

  -- a turn that leaves the arena as it is
  idles_turn : (i' j' : ℕ) → turn (arena_of m) i' j' ≡ one_turn (pts_of m) idx (arena_of m) i j → Idles m at₀ left₀ (record { at = turn_at at.side i' j'; left = left - 1 })
  idles_turn i' j' e = idles_on I (record { side = refl; idled = idled_turn z inside i' j' e })

  -- the other list is worked off
  pub idles_end : get_or m.sizes.lens (idx * 2 + 1) 0 ≤ j → Idles m at₀ left₀ (record { at = turn_at at.side (i + 1) 0; left = left - 1 })
  idles_end out =
      let here : SeekingOn m (idx * 2 + 1) j j = record { goal = refl; most = omega arith } in
      let k : Sought (arena_of m) (idx * 2 + 1) j j = seeking_end here (omega (arith, side_in)) out in
      let r1 = get_or (edge_list (arena_of m) (idx * 2)) i none in
      idles_turn (i + 1) 0 (turned_is (turn_end at m r1 refl (live_some (arena_of m) r1 x.live) (live_ring (arena_of m) r1 x.live) j k out).turned)

-- the two edges do not overlap; cw and ccw are the side's lists
module _ {m : lent.Arena} {at₀ at : Turn} {left₀ left cw ccw : ℕ} (x : Idling m at₀) (I : Idles m at₀ left₀ (record { at = at; left = left })) (ei : at.i ≡ at₀.i) (z : 0 < left)
    (p : cw ≡ at₀.side.idx * 2) (q : ccw ≡ at₀.side.idx * 2 + 1) where
  pub idles_apart : (r1 : ℕ) → r1 ≡ get_or (edge_list (arena_of m) cw) at₀.i none → at.j < get_or m.sizes.lens ccw 0 → Sought (arena_of m) ccw at.j at.j → (r2 : ℕ) → r2 ≡ get_or (edge_list (arena_of m) ccw) at.j none
      → (f : Four) → Fourth m.sizes.nodes at.side f (four_of (cw_is_toward_larger at.side.idx) (arena_of m) r1 r2)
      → {meets : Bool} → meets ≡ overlap (pts_of m) (is_horz at.side.idx) (four f) → meets ≡ false → Idles m at₀ left₀ (record { at = turn_at at.side at.i (at.j + 1); left = left - 1 })
  idles_apart r1 e1 h k r2 e2 f v w o =
      let live : is_live (arena_of m) r1 ≡ true = rw (e1, p) x.live in
      let f1 : r1 ≡ get_or (edge_list (arena_of m) (at.side.idx * 2)) at.i none = rw (I.side, ei, ← p) e1 in
      let f2 : r2 ≡ get_or (edge_list (arena_of m) (at.side.idx * 2 + 1)) at.j none = rw (I.side, ← q) e2 in
      let long : at.j < get_or m.sizes.lens (at.side.idx * 2 + 1) 0 = rw (I.side, ← q) h in
      let there : Sought (arena_of m) (at.side.idx * 2 + 1) at.j at.j = rw (I.side, ← q) k in
      idles_turn (idling_as x I.side ei) I z at.i (at.j + 1) (turned_is (turn_apart at m r1 f1 (live_some (arena_of m) r1 live) (live_ring (arena_of m) r1 live) at.j there long r2 f2 f v w o).turned)
