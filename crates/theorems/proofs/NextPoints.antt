-- What `get_next_location` goes past, and where it stops.
use Rattle.std.specs.Prelude.{if◌then◌else◌}
use mathlib.Core.Path.{◌≡◌, refl, sym, ◌∙◌, ap, subst}
use mathlib.Core.Bool.{Bool, true, false, cond}
use mathlib.Core.List.{List, [], ◌∷◌}
use Prim.Native.Nat.{ℕ, zero, suc, ◌+◌, ◌-◌, ◌<◌, ◌≤◌}
use native.Mathlib.Omega.{arith}
use native.Mathlib.Decide.{dec_lt}
use lib.ListN.{length, get_or, drop}
use lib.Dec.{leb, leb→le}
use lib.IntN.{ℤ, pos}
use lib.Signed.{◌≤ℤ◌, ◌<ℤ◌}
use Rattle.integers.specs.Order.{zint, sub_pn}
use Rattle.integers.specs.Tests.{T_of, ltZ_true}
use Rattle.plane.specs.declared.point.Point64.{Point64}
use Rattle.plane.specs.declared.rect.Rect64.{Rect64}
use Rattle.plane.specs.declared.location.Location.{Location}
use Rattle.plane.specs.declared.location.Location.TheVariants.{Left, Top, Right, Bottom, Inside}
use Rattle.plane.specs.Basics.{lead, Try, refuse, ok}
use Rattle.plane.specs.Points.{origin, pt_at}
use Rattle.plane.specs.Rectangle.{beyond, beyond_or_on}
use Rattle.reference.specs.Walk.{Walk, add, Next, next_side, next_outside, next_inside, get_next_location}
use Rattle.theorems.proofs.Holds.{Holds, refused, held, bind, either}
use Rattle.theorems.proofs.GeoPlane.{Side, on_left, on_top, on_right, on_bottom, loc, depth}
use Rattle.theorems.proofs.GeoWalk.{Step, skip, stop, step}
use Rattle.theorems.proofs.GeoProgress.{In, Stop, leaves, Steps, goes, halts, steps}
use Rattle.theorems.proofs.Tests.{never}

-- ---- `get_next_location`
-- a list is what is left of the path from point i on
pub record Rest (path : List Point64) (i : ℕ) (ps : List Point64) : Type 0 where
  pub long : i + length ps ≡ length path
  pub same : (k : ℕ) → get_or ps k origin ≡ pt_at path (i + k)

pub rest_of : (path : List Point64) (i : ℕ) → i ≤ length path → Rest path i (drop i path)
rest_of path zero h = record { long = omega arith; same = λ k. ap (pt_at path) (let e : k ≡ 0 + k = omega arith in e) }
rest_of [] (suc i) h = absurd (omega arith)
rest_of (p ∷ path) (suc i) h =
    let r = rest_of path i (omega arith) in
    record {
      long = omega (arith, r.long);
      same = λ k. r.same k ∙ ap (pt_at (p ∷ path)) (let e : suc (i + k) ≡ suc i + k = omega arith in e);
    }

pub first_of : (path : List Point64) (i : ℕ) (p : Point64) (ps : List Point64) → Rest path i (p ∷ ps) → p ≡ pt_at path i
first_of path i p ps r = r.same 0 ∙ ap (pt_at path) (let e : i + 0 ≡ i = omega arith in e)

pub others_of : (path : List Point64) (i : ℕ) (p : Point64) (ps : List Point64) → Rest path i (p ∷ ps) → Rest path (i + 1) ps
others_of path i p ps r =
    record { long = omega (arith, r.long); same = λ k. r.same (suc k) ∙ ap (pt_at path) (let e : i + suc k ≡ i + 1 + k = omega arith in e) }

-- `lead`: the entry behind it does not pass the test
pub lead_ends : (f : Point64 → Bool) (ps : List Point64) → lead f ps < length ps → f (get_or ps (lead f ps) origin) ≡ false
lead_ends f [] h = absurd (omega arith)
lead_ends f (p ∷ ps) h = go (f p) refl (λ h. lead_ends f ps h) h
  where
    go : (b : Bool) → f p ≡ b → (lead f ps < length ps → f (get_or ps (lead f ps) origin) ≡ false) → cond b (suc (lead f ps)) 0 < suc (length ps) → f (get_or (p ∷ ps) (cond b (suc (lead f ps)) 0) origin) ≡ false
    go true e k h = k (omega arith)
    go false e k h = e

-- and all entries before it pass
pub lead_passes : (f : Point64 → Bool) (ps : List Point64) (k : ℕ) → k < lead f ps → f (get_or ps k origin) ≡ true
lead_passes f [] k h = absurd (omega arith)
lead_passes f (p ∷ ps) k h = go (f p) refl k h (lead_passes f ps)
  where
    go : (b : Bool) → f p ≡ b → (k : ℕ) → k < cond b (suc (lead f ps)) 0 → ((k : ℕ) → k < lead f ps → f (get_or ps k origin) ≡ true) → f (get_or (p ∷ ps) k origin) ≡ true
    go true e zero h m = e
    go true e (suc k) h m = m k (omega arith)
    go false e k h m = absurd (omega arith)

pub lead_more : (f : Point64 → Bool) (ps : List Point64) → 0 < length ps → f (get_or ps 0 origin) ≡ true → 0 < lead f ps
lead_more f [] h e = absurd (omega arith)
lead_more f (p ∷ ps) h e = go (f p) e
  where
    go : (b : Bool) → b ≡ true → 0 < cond b (suc (lead f ps)) 0
    go true e = omega arith
    go false e = let z : ◌≡◌ {A = ℕ} 0 1 = cc in absurd (omega arith)

module _ (full : ℕ → Bool) (r : Rect64) (path : List Point64) where
  pub record Reached (l : Location) (i : ℕ) (nx : Next) : Type 0 where
    pub later : i ≤ nx.i
    pub gone : In r l (pt_at path i) → i < nx.i
    pub passed : (k : ℕ) → i ≤ k → k < nx.i → In r l (pt_at path k)
    pub stopped : nx.i < length path → Stop r (pt_at path nx.i) l nx.loc

  side_step : (s : Side) (p : Point64) → beyond_or_on r (loc s) p ≡ false → step r (loc s) p ≡ stop (next_side r (loc s) p)
  unfolding next_side
  side_step on_left p e = λ j. cond (e j) skip (stop (next_side r Left p))
  side_step on_top p e = λ j. cond (e j) skip (stop (next_side r Top p))
  side_step on_right p e = λ j. cond (e j) skip (stop (next_side r Right p))
  side_step on_bottom p e = λ j. cond (e j) skip (stop (next_side r Bottom p))

  abbrev stops? : Step → Bool
  stops? skip = false
  stops? (stop l) = true

  abbrev stop_of : Step → Location
  stop_of skip = Inside
  stop_of (stop l) = l

  side_stop : (s : Side) (p : Point64) → beyond_or_on r (loc s) p ≡ false → Stop r p (loc s) (next_side r (loc s) p)
  side_stop s p e = go (steps r (loc s) p)
    where
      go : Steps r p (loc s) → Stop r p (loc s) (next_side r (loc s) p)
      go (goes f i) = absurd (never (ap stops? (side_step s p e)) (ap stops? f))
      go (halts l f t) = subst (λ (l : Location). Stop r p (loc s) l) (ap stop_of (sym f ∙ side_step s p e)) t

  -- what is gone past is in the location's region
  skip_in : (l : Location) (p : Point64) → step r l p ≡ skip → In r l p
  skip_in l p e = go (steps r l p)
    where
      go : Steps r p l → In r l p
      go (goes f i) = i
      go (halts l' f t) = absurd (never refl (ap stops? (sym f ∙ e)))

  side_skip : (s : Side) (p : Point64) → beyond_or_on r (loc s) p ≡ true → step r (loc s) p ≡ skip
  unfolding next_side
  side_skip on_left p e = λ j. cond (e j) skip (stop (next_side r Left p))
  side_skip on_top p e = λ j. cond (e j) skip (stop (next_side r Top p))
  side_skip on_right p e = λ j. cond (e j) skip (stop (next_side r Right p))
  side_skip on_bottom p e = λ j. cond (e j) skip (stop (next_side r Bottom p))

  in_beyond : (s : Side) (p : Point64) → In r (loc s) p → beyond_or_on r (loc s) p ≡ true
  in_beyond s p h = go (beyond_or_on r (loc s) p) refl
    where
      clash : {l : Location} → In r (loc s) p → Stop r p (loc s) l → ⊥
      clash i t = Rattle.theorems.proofs.GeoProgress.stop_clash t i

      go : (b : Bool) → beyond_or_on r (loc s) p ≡ b → b ≡ true
      go true e = refl
      go false e = absurd (clash h (side_stop s p e))

  outside_reached : (w : Walk) (s : Side) (i : ℕ) → i < length path → Reached (loc s) i (next_outside r path w (loc s) i)
  unfolding next_outside
  outside_reached w s i h =
      let f = beyond_or_on r (loc s) in
      let n = lead f (drop i path) in
      let rs = rest_of path i (omega arith) in
      record {
        later = omega arith;
        gone = λ g. let m : 0 < n = lead_more f (drop i path) (omega (arith, rs.long)) (ap f (rs.same 0 ∙ ap (pt_at path) (let e : i + 0 ≡ i = omega arith in e)) ∙ in_beyond s (pt_at path i) g) in omega arith;
        passed = λ k a b.
            let at : i + (k - i) ≡ k = omega arith in
            let e : f (pt_at path k) ≡ true = ap f (sym (rs.same (k - i) ∙ ap (pt_at path) at)) ∙ lead_passes f (drop i path) (k - i) (omega arith) in
            skip_in (loc s) (pt_at path k) (side_skip s (pt_at path k) e);
        stopped = λ g.
            let e : f (pt_at path (i + n)) ≡ false = ap f (sym (rs.same n)) ∙ lead_ends f (drop i path) (omega (arith, rs.long)) in
            subst (λ (b : Bool). Stop r (pt_at path (i + n)) (loc s) (if b then loc s else next_side r (loc s) (pt_at path (i + n)))) (sym (not_yet (i + n) g)) (side_stop s (pt_at path (i + n)) e);
      }
    where
      not_yet : (n : ℕ) → n < length path → leb (length path) n ≡ false
      not_yet n g = go (leb (length path) n) refl
        where
          go : (b : Bool) → leb (length path) n ≡ b → b ≡ false
          go true e = let z : length path ≤ n = leb→le (length path) n (T_of e) in absurd (omega arith)
          go false e = refl

  some_walk : (m : Try Walk) → Holds (λ (w : Walk). Unit {0}) m
  some_walk (refuse n) = refused
  some_walk (ok w) = held tt

  -- a step further, past a point inside
  first_or : (i : ℕ) → In r Inside (pt_at path i) → (m : ℕ) → ((k : ℕ) → i + 1 ≤ k → k < m → In r Inside (pt_at path k)) → (k : ℕ) → i ≤ k → k < m → In r Inside (pt_at path k)
  first_or i c m f k a b = elim (dec_lt i k) [ yes l ↦ f k (omega arith) b | no l ↦ subst (λ (j : ℕ). In r Inside (pt_at path j)) (let z : i ≡ k = omega arith in z) c ]

  onward : (i : ℕ) (nx : Next) → In r Inside (pt_at path i) → Reached Inside (i + 1) nx → Reached Inside i nx
  onward i nx c h = record { later = omega (arith, h.later); gone = λ _. omega (arith, h.later); passed = first_or i c nx.i h.passed; stopped = h.stopped }

  found_at : (w : Walk) (i : ℕ) (p : Point64) (t : Side) → p ≡ pt_at path i → depth r t p <ℤ pos 0 → Reached Inside i (record { walk = w; loc = loc t; i = i })
  found_at w i p t e n =
      let m : depth r t (pt_at path i) <ℤ pos 0 = subst (λ (p : Point64). depth r t p <ℤ pos 0) e n in
      record { later = omega arith; gone = λ c. absurd (clash m (c t)); passed = λ k a b. absurd (omega arith); stopped = λ _. leaves t m }
    where
      clash : {z : ℤ} → z <ℤ pos 0 → pos 0 ≤ℤ z → ⊥
      clash {z} g h = omega zint

  none_beyond : (p : Point64) → beyond r Left p ≡ false → beyond r Right p ≡ false → beyond r Bottom p ≡ false → beyond r Top p ≡ false → In r Inside p
  none_beyond p n1 n2 n3 n4 = skip_in Inside p (λ j. cond (n1 j) (stop Left) (cond (n2 j) (stop Right) (cond (n3 j) (stop Bottom) (cond (n4 j) (stop Top) skip))))

  inside_reached : (w : Walk) (i : ℕ) (ps : List Point64) → i ≤ length path → Rest path i ps → 0 < length ps → Holds (Reached Inside i) (next_inside full r w i ps)
  unfolding next_inside
  inside_reached w i [] h rs m = absurd (omega arith)
  inside_reached w i (p ∷ ps) h rs m =
      let e : p ≡ pt_at path i = first_of path i p ps rs in
      either (Reached Inside i) (beyond r Left p) _ _ (λ b. held (found_at w i p on_left e (omega (zint, ltZ_true {a = p.x} {b = r.left} b, sub_pn p.x r.left))))
      (λ n1. either (Reached Inside i) (beyond r Right p) _ _ (λ b. held (found_at w i p on_right e (omega (zint, ltZ_true {a = r.right} {b = p.x} b, sub_pn r.right p.x))))
      (λ n2. either (Reached Inside i) (beyond r Bottom p) _ _ (λ b. held (found_at w i p on_bottom e (omega (zint, ltZ_true {a = r.bottom} {b = p.y} b, sub_pn r.bottom p.y))))
      (λ n3. either (Reached Inside i) (beyond r Top p) _ _ (λ b. held (found_at w i p on_top e (omega (zint, ltZ_true {a = p.y} {b = r.top} b, sub_pn p.y r.top))))
      (λ n4. bind (λ (w : Walk). Unit {0}) (Reached Inside i) (add full w p false) _ (some_walk (add full w p false))
      (λ v _. further (subst (In r Inside) e (none_beyond p n1 n2 n3 n4)) v ps (others_of path i p ps rs) (λ m. inside_reached v (i + 1) ps (omega (arith, rs.long)) (others_of path i p ps rs) m))))))
    where
      further : In r Inside (pt_at path i) → (v : Walk) (qs : List Point64) → Rest path (i + 1) qs → (0 < length qs → Holds (Reached Inside (i + 1)) (next_inside full r v (i + 1) qs)) → Holds (Reached Inside i) (next_inside full r v (i + 1) qs)
      further c v [] rs k = held {a = record { walk = v; loc = Inside; i = i + 1 }} (record { later = omega arith; gone = λ _. omega arith; passed = first_or i c (i + 1) (λ k a b. absurd (omega arith)); stopped = λ g. absurd (omega (arith, rs.long)) })
      further c v (q ∷ qs) rs k = weaker _ (k (omega arith))
        where
          weaker : (m : Try Next) → Holds (Reached Inside (i + 1)) m → Holds (Reached Inside i) m
          weaker m refused = refused
          weaker m (held {a} h) = held (onward i a c h)

  pub reached : (w : Walk) (l : Location) (i : ℕ) → i < length path → Holds (Reached l i) (get_next_location full r path w l i)
  unfolding get_next_location
  reached w Left i h = held (outside_reached w on_left i h)
  reached w Top i h = held (outside_reached w on_top i h)
  reached w Right i h = held (outside_reached w on_right i h)
  reached w Bottom i h = held (outside_reached w on_bottom i h)
  reached w Inside i h = let rs = rest_of path i (omega arith) in inside_reached w i (drop i path) (omega arith) rs (omega (arith, rs.long))
