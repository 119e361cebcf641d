-- An open path returns no more points than its store has room for: the returned paths are stretches of the walk's points, one behind the other.
use mathlib.Core.Path.{◌≡◌, refl, sym, ◌∙◌, subst}
use mathlib.Core.Bool.{Bool, true, false, cond, not, ◌||◌}
use mathlib.Core.List.{List, [], ◌∷◌, ◌++◌}
use Prim.Native.Nat.{ℕ, suc, ◌+◌, ◌-◌, ◌*◌, ◌<◌, ◌≤◌}
use native.Mathlib.Omega.{arith}
use lib.ListN.{length, take, drop, length-append, length-take, length-drop}
use lib.Dec.{ltb}
use borrow.Author.Tests.{ltb-true}
use Rattle.plane.specs.declared.point.Point64.{Point64}
use Rattle.plane.specs.Basics.{push, is_nil}
use Rattle.plane.specs.Rectangle.{is_empty, intersects, get_bounds_path}
use Rattle.plane.specs.Points.{pt_at, same_point}
use Rattle.reference.specs.Walk.{no_room, Walk, add, push_start_loc}
use Rattle.reference.specs.Lines.{pieces, longer_than_one, walk_open, execute_lines}
use Rattle.reference.specs.Entry.{joined}
use Rattle.theorems.specs.Sizes.{FewLines}
use Rattle.theorems.proofs.Holds.{refused, held, bind, either, holds_ok}
use Rattle.theorems.proofs.Points.{Keeping}
use Rattle.theorems.proofs.PointsOpen.{walk_open_kept}
use Rattle.theorems.proofs.Counted.{Any, any_input, has_room}
use Rattle.theorems.proofs.Sources.{inner}

-- ---- the results' starts rise, from at least lo, and all lie before n
abbrev Rising : ℕ → List ℕ → ℕ → Type 0
Rising lo [] n = Unit {0}
Rising lo (a ∷ starts) n = (lo ≤ a) × (a < n) × Rising (suc a) starts n

rise_longer : (lo : ℕ) (starts : List ℕ) (n : ℕ) → Rising lo starts n → Rising lo starts (suc n)
rise_longer lo [] n h = tt
rise_longer lo (a ∷ starts) n h = let k = h.1 in (h.0, omega arith, rise_longer (suc a) starts n h.2)

rise_push : (lo : ℕ) (starts : List ℕ) (n : ℕ) → lo ≤ n → Rising lo starts n → Rising lo (push starts n) (suc n)
rise_push lo [] n l h = (l, omega arith, tt)
rise_push lo (a ∷ starts) n l h = let k = h.1 in (h.0, omega arith, rise_push (suc a) starts n k h.2)

-- ---- the walk keeps that, and puts down at most W points
module _ (full : ℕ → Bool) (W : ℕ) (room : (n : ℕ) → full n ≡ false → n < W) where
  abbrev K : Walk → Type 0
  K w = (length w.points ≤ W) × Rising 0 w.starts (length w.points)

  more : (ps : List Point64) (p : Point64) → length (push ps p) ≡ suc (length ps)
  more ps p = length-append ps (p ∷ []) ∙ omega arith

  begun : (w : Walk) (p : Point64) → K w → full (length w.points) ≡ false → K (record { points = push w.points p; starts = push w.starts (length w.points); start_locs = w.start_locs })
  begun w p h f =
      let e = more w.points p in
      let l = room (length w.points) f in
      (omega arith, subst (Rising 0 (push w.starts (length w.points))) (sym e) (rise_push 0 w.starts (length w.points) (omega arith) h.1))

  longer : (w : Walk) (p : Point64) → K w → full (length w.points) ≡ false → K (record { points = push w.points p; starts = w.starts; start_locs = w.start_locs })
  longer w p h f =
      let e = more w.points p in
      let l = room (length w.points) f in
      (omega arith, subst (Rising 0 w.starts) (sym e) (rise_longer 0 w.starts (length w.points) h.1))

  rising : Keeping full Any K
  unfolding add push_start_loc
  rising = record {
    start = (omega arith, tt);
    adds = λ w p b h q.
        either K (is_nil w.points || b) _ _ (λ _. either K (full (length w.points)) _ _ (λ _. refused) (λ f. held (begun w p h f)))
        (λ _. either K (same_point (pt_at w.points (length w.points - 1)) p) _ _ (λ _. held h)
        (λ _. either K (full (length w.points)) _ _ (λ _. refused) (λ f. held (longer w p h f))));
    pushes = λ w loc h. either K (full (length w.start_locs)) _ _ (λ _. refused) (λ _. held h);
  }

-- ---- the stretches from start to start
pieces_few : (ps : List Point64) (lo : ℕ) (starts : List ℕ) → lo ≤ length ps → Rising lo starts (length ps) → length (joined (pieces ps starts)) + lo ≤ length ps
unfolding pieces
pieces_few ps lo [] l h = omega arith
pieces_few ps lo (a ∷ []) l h =
    let e = length-append (drop a ps) [] in
    let d = length-drop a ps in
    let k = h.0 in
    let m = h.1 in
    omega arith
pieces_few ps lo (a ∷ b ∷ starts) l h =
    let r = pieces_few ps b (b ∷ starts) (omega arith) (omega arith, h.2.1, h.2.2) in
    let e = length-append (drop a (take b ps)) (joined (pieces ps (b ∷ starts))) in
    let d = length-drop a (take b ps) in
    let t = length-take b ps in
    let k = h.0 in
    let m = h.2.0 in
    omega arith

-- those of more than one point
longer_few : (qs : List (List Point64)) → (length (joined (longer_than_one qs)) ≤ length (joined qs)) × (2 * length (longer_than_one qs) ≤ length (joined (longer_than_one qs)))
unfolding longer_than_one
longer_few [] = (omega arith, omega arith)
longer_few (q ∷ qs) = go (ltb 1 (length q)) refl (longer_few qs)
  where
    go : (b : Bool) → ltb 1 (length q) ≡ b → (length (joined (longer_than_one qs)) ≤ length (joined qs)) × (2 * length (longer_than_one qs) ≤ length (joined (longer_than_one qs)))
        → (length (joined (cond b (q ∷ longer_than_one qs) (longer_than_one qs))) ≤ length (q ++ joined qs)) × (2 * length (cond b (q ∷ longer_than_one qs) (longer_than_one qs)) ≤ length (joined (cond b (q ∷ longer_than_one qs) (longer_than_one qs))))
    go true e h =
        let l = ltb-true 1 (length q) e in
        let u = length-append q (joined (longer_than_one qs)) in
        let v = length-append q (joined qs) in
        let x = h.0 in
        let y = h.1 in
        (omega arith, omega arith)
    go false e h =
        let v = length-append q (joined qs) in
        let x = h.0 in
        (omega arith, h.1)

-- An open path returns at most the W points that its store has room for, and each returned path has two of them or more.
pub few_lines : FewLines
unfolding execute_lines
few_lines W rect path paths e =
    holds_ok {Q = Q} (execute_lines (no_room W) rect path) paths
    (either Q (is_empty rect) _ _ (λ _. held (omega arith, omega arith))
    (λ n. either Q (not (intersects rect (get_bounds_path path))) _ _ (λ _. held (omega arith, omega arith))
    (λ _. bind (K (no_room W) W (has_room W)) Q (walk_open (no_room W) rect path) _ (walk_open_kept (no_room W) Any (K (no_room W) W (has_room W)) (rising (no_room W) W (has_room W)) rect path (any_input rect path) (λ i z l s q t e. tt) (λ i z l s q t e. tt) n (inner rect))
    (λ w k.
    let a = k.0 in
    let b = pieces_few w.points 0 w.starts (omega arith) k.1 in
    let c = longer_few (pieces w.points w.starts) in
    let d = c.0 in
    let f = c.1 in
    held (omega arith, omega arith))))) e
  where
    Q : List (List Point64) → Type 0
    Q paths = (length (joined paths) ≤ W) × (2 * length paths ≤ W)
