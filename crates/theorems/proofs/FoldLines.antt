-- The walk of lines without a count, as proofs/Fold for the closed walk.
use Rattle.std.specs.Prelude.{if◌then◌else◌, Option, None, Some}
use mathlib.Core.Path.{◌≡◌, refl, sym, ◌∙◌, ap, subst}
use mathlib.Core.Bool.{Bool, true, false, not}
use mathlib.Core.List.{List, [], ◌∷◌}
use Prim.Native.Nat.{ℕ, zero, suc, ◌+◌, ◌-◌, ◌<◌, ◌≤◌}
use native.Mathlib.Omega.{arith}
use lib.ListN.{length, drop}
use lib.Dec.{leb, ltb, ltb→lt, nltb→le}
use Rattle.integers.specs.Tests.{T_of, T_not_of, cond_true}
use Rattle.plane.specs.declared.crossing.SidePoint.{SidePoint}
use Rattle.plane.specs.declared.point.Point64.{Point64}
use Rattle.plane.specs.declared.rect.Rect64.{Rect64}
use Rattle.plane.specs.declared.location.Location.{Location}
use Rattle.plane.specs.Basics.{Try, ok, ◌>>=◌}
use Rattle.plane.specs.Points.{pt_at}
use Rattle.plane.specs.Locations.{same_location, is_inside}
use Rattle.plane.specs.Intersection.{get_intersection}
use Rattle.reference.specs.Walk.{Walk, add, Next, get_next_location, second_search}
use Rattle.reference.specs.Lines.{line_through, line_cross, line_from, line_passes}
use Rattle.theorems.proofs.Holds.{Holds, held, bind, either, anything}
use Rattle.theorems.proofs.GeoWalk.{skip, stop, step}
use Rattle.theorems.proofs.GeoProgress.{In, Stop, Steps, goes, halts, steps, skips_in}
use Rattle.theorems.proofs.NextPoints.{Rest, rest_of, first_of, others_of}
use Rattle.theorems.proofs.Passes.{stop_in}
use Rattle.theorems.proofs.WalkOver.{walk_over}
use Rattle.theorems.proofs.FoldPoints.{next_location, next_is, after, differ, past_next, lt_yes, lt_no, le_yes, le_no, cond_no}
use Rattle.theorems.proofs.Fold.{assoc, bind_same, Any, passed, chosen, next_chosen, next_end}

-- ---- the definition, as it would stand in specs/Lines
module _ (full : ℕ → Bool) (rect : Rect64) where
  unfoldable pub line_past : Point64 → Next → Try Next
  line_past p s =
      (if is_inside s.loc then add full s.walk p false else ok s.walk)
      >>= λ w. ok (record { walk = w; loc = s.loc; i = s.i + 1 })

  unfoldable pub line_at : Next → Point64 → Point64 → Try Next
  line_at s q p =
      let l = next_location full rect s.loc p in
      let nx : Next = record { walk = s.walk; loc = l; i = s.i } in
      let stopped : Try Next =
      elim (get_intersection rect p q l) [ None ↦ ok (record { walk = s.walk; loc = l; i = s.i + 1 }) | Some found ↦ line_cross full rect nx s.loc q p found.point >>= line_past p ] in
      if same_location l s.loc then line_past p s else stopped

  abbrev pub line_on : Next → Point64 → List Point64 → Try Next
  line_on = walk_over line_at

module _ (full : ℕ → Bool) (r : Rect64) (path : List Point64) where
  -- ---- a crossing leaves the walk where it was
  abbrev pub StaysAt : Next → Next → Type 0
  StaysAt nx t = (t.i ≡ nx.i) × (t.loc ≡ nx.loc)

  pub cross_stays : (nx : Next) (prev : Location) (q p ip : Point64) → Holds (StaysAt nx) (line_cross full r nx prev q p ip)
  unfolding line_cross line_through
  cross_stays nx prev q p ip =
      either (StaysAt nx) (is_inside nx.loc) _ _ (λ _. bind Any (StaysAt nx) (add full nx.walk ip true) _ (anything _) (λ w _. held (refl, refl)))
      (λ _. either (StaysAt nx) (not (is_inside prev)) _ _
      (λ _. bind Any (StaysAt nx) (add full nx.walk (second_search r q p prev ip).point true) _ (anything _) (λ w _. bind Any (StaysAt nx) (add full w ip false) _ (anything _) (λ v _. held (refl, refl))))
      (λ _. bind Any (StaysAt nx) (add full nx.walk ip false) _ (anything _) (λ w _. held (refl, refl))))

  abbrev Nexts : ℕ → Next → Type 0
  Nexts i t = t.i ≡ i + 1

  past_next_i : (p : Point64) (s : Next) → Holds (Nexts s.i) (line_past full r p s)
  unfolding line_past
  past_next_i p s = bind Any (Nexts s.i) (passed full r path s.loc s.walk p) _ (anything _) (λ w _. held refl)

  -- ---- the loop
  passes_over : (n : ℕ) (s : Next) → length path ≤ s.i → line_passes full r path n s ≡ ok s
  unfolding line_passes
  passes_over zero s h = refl
  passes_over (suc n) s h = cond_no (ltb s.i (length path)) _ _ (lt_no s.i (length path) h)

  passes_at : (n : ℕ) (s : Next) → s.i < length path → line_passes full r path (suc n) s ≡ (get_next_location full r path s.walk s.loc s.i >>= line_from full r path s.loc >>= line_passes full r path n)
  unfolding line_passes
  passes_at n s h = cond_true (ltb s.i (length path)) _ _ (lt_yes s.i (length path) h)

  abbrev further : Next → Walk → Next
  further s v = record { walk = v; loc = s.loc; i = s.i + 1 }

  over_end : (s : Next) (v : Walk) → length path ≤ s.i + 1 → line_from full r path s.loc (further s v) ≡ ok (further s v)
  unfolding line_from
  over_end s v h = cond_true (leb (length path) (s.i + 1)) _ _ (le_yes (length path) (s.i + 1) h)

  passes_on : (n : ℕ) (s : Next) (v : Walk) → (get_next_location full r path v s.loc (s.i + 1) >>= line_from full r path s.loc >>= line_passes full r path n) ≡ line_passes full r path (suc n) (further s v)
  passes_on n s v = go (ltb (s.i + 1) (length path)) refl
    where
      go : (b : Bool) → ltb (s.i + 1) (length path) ≡ b
          → (get_next_location full r path v s.loc (s.i + 1) >>= line_from full r path s.loc >>= line_passes full r path n) ≡ line_passes full r path (suc n) (further s v)
      go true e = sym (passes_at n (further s v) (ltb→lt (s.i + 1) (length path) (T_of e)))
      go false e =
          let h : length path ≤ s.i + 1 = nltb→le (s.i + 1) (length path) (T_not_of e) in
          ap (λ (m : Try Next). m >>= line_from full r path s.loc >>= line_passes full r path n) (next_end full r path v s.loc (s.i + 1) h)
          ∙ ap (λ (m : Try Next). m >>= line_passes full r path n) (over_end s v h)
          ∙ passes_over n (further s v) h ∙ sym (passes_over (suc n) (further s v) h)

  passes_past : (n : ℕ) (s : Next) → s.i < length path → step r s.loc (pt_at path s.i) ≡ skip → line_passes full r path (suc n) s ≡ (line_past full r (pt_at path s.i) s >>= line_passes full r path (suc n))
  unfolding line_past
  passes_past n s h e =
      passes_at n s h
      ∙ ap (λ (m : Try Next). m >>= line_from full r path s.loc >>= line_passes full r path n) (next_chosen full r path s.walk s.loc s.i h ∙ ap (chosen full r path s.walk s.loc s.i) e)
      ∙ ap (λ (m : Try Next). m >>= line_passes full r path n) (assoc w (λ v. get_next_location full r path v s.loc (s.i + 1)) (line_from full r path s.loc))
      ∙ assoc w (λ v. get_next_location full r path v s.loc (s.i + 1) >>= line_from full r path s.loc) (line_passes full r path n)
      ∙ bind_same Any w _ _ (anything w) (λ v _. passes_on n s v)
      ∙ sym (assoc w (λ v. ok (further s v)) (line_passes full r path (suc n)))
    where
      w : Try Walk
      w = passed full r path s.loc s.walk (pt_at path s.i)

  -- ---- at a point where it stops
  abbrev turned : Next → Location → Point64 → Point64 → Option SidePoint → Try Next
  turned nx prev q p None = ok (record { walk = nx.walk; loc = nx.loc; i = nx.i + 1 })
  turned nx prev q p (Some found) = line_cross full r nx prev q p found.point

  abbrev pub turned_past : Next → Location → Point64 → Point64 → Option SidePoint → Try Next
  turned_past nx prev q p None = ok (record { walk = nx.walk; loc = nx.loc; i = nx.i + 1 })
  turned_past nx prev q p (Some found) = line_cross full r nx prev q p found.point >>= line_past full r p

  stopped_at : (s : Next) (l : Location) → s.i < length path
      → line_from full r path s.loc (record { walk = s.walk; loc = l; i = s.i })
      ≡ turned (record { walk = s.walk; loc = l; i = s.i }) s.loc (pt_at path (s.i - 1)) (pt_at path s.i) (get_intersection r (pt_at path s.i) (pt_at path (s.i - 1)) l)
  unfolding line_from
  stopped_at s l h = cond_no (leb (length path) s.i) _ _ (le_no (length path) s.i h) ∙ go (get_intersection r (pt_at path s.i) (pt_at path (s.i - 1)) l)
    where
      nx : Next
      nx = record { walk = s.walk; loc = l; i = s.i }

      go : (z : Option SidePoint) → ◌≡◌ {A = Try Next} (elim z [ None ↦ ok (record { walk = nx.walk; loc = nx.loc; i = nx.i + 1 }) | Some found ↦ line_cross full r nx s.loc (pt_at path (s.i - 1)) (pt_at path s.i) found.point ])
          (turned nx s.loc (pt_at path (s.i - 1)) (pt_at path s.i) z)
      go None = refl
      go (Some found) = refl

  pub at_stopped : (s : Next) (q p : Point64) (l : Location) → next_location full r s.loc p ≡ l → same_location l s.loc ≡ false
      → line_at full r s q p ≡ turned_past (record { walk = s.walk; loc = l; i = s.i }) s.loc q p (get_intersection r p q l)
  unfolding line_at
  at_stopped s q p l e d =
      cond_no (same_location (next_location full r s.loc p) s.loc) _ _ (ap (λ (z : Location). same_location z s.loc) e ∙ d)
      ∙ go (next_location full r s.loc p) (get_intersection r p q (next_location full r s.loc p))
      ∙ ap (λ (z : Location). turned_past (record { walk = s.walk; loc = z; i = s.i }) s.loc q p (get_intersection r p q z)) e
    where
      go : (x : Location) (z : Option SidePoint)
          → ◌≡◌ {A = Try Next} (elim z [ None ↦ ok (record { walk = s.walk; loc = x; i = s.i + 1 }) | Some found ↦ line_cross full r (record { walk = s.walk; loc = x; i = s.i }) s.loc q p found.point >>= line_past full r p ])
          (turned_past (record { walk = s.walk; loc = x; i = s.i }) s.loc q p z)
      go x None = refl
      go x (Some found) = refl

  pub at_gone : (s : Next) (q p : Point64) → step r s.loc p ≡ skip → line_at full r s q p ≡ line_past full r p s
  unfolding line_at
  at_gone s q p e = cond_true (same_location (next_location full r s.loc p) s.loc) _ _ (past_next full r s.loc p e)

  abbrev Folds : List Point64 → Type 0
  Folds ps = (n : ℕ) (s : Next) → Rest path s.i ps → length path < n + s.i → line_passes full r path n s ≡ line_on full r s (pt_at path (s.i - 1)) ps

  module _ (ps : List Point64) (ih : Folds ps) where
    behind : (i : ℕ) → Rest path (i + 1) ps → (n : ℕ) → length path < n + (i + 1) → (m : Try Next) → Holds (Nexts i) m → (m >>= line_passes full r path n) ≡ (m >>= λ t. line_on full r t (pt_at path i) ps)
    behind i rs n h m g =
        bind_same (Nexts i) m _ _ g
        (λ t e. ih n t (subst (λ (j : ℕ). Rest path j ps) (sym e) rs) (omega (arith, e))
        ∙ ap (λ (q : Point64). line_on full r t q ps) (ap (pt_at path) (let z : t.i - 1 ≡ i = omega (arith, e) in z)))

    once_more : (n : ℕ) (i : ℕ) (l : Location) → i < length path → Rest path (i + 1) ps → length path < n + (i + 1) → In r l (pt_at path i) → (t : Next) → (t.i ≡ i) × (t.loc ≡ l)
        → line_passes full r path n t ≡ (line_past full r (pt_at path i) t >>= λ u. line_on full r u (pt_at path i) ps)
    once_more zero i l b rs h g t e = absurd (omega arith)
    once_more (suc n) i l b rs h g t e =
        passes_past n t (omega (arith, e.0)) (skips_in r t.loc (pt_at path t.i) (subst (λ (j : ℕ). In r t.loc (pt_at path j)) (sym e.0) (subst (λ (x : Location). In r x (pt_at path i)) (sym e.1) g)))
        ∙ ap (λ (j : ℕ). line_past full r (pt_at path j) t >>= line_passes full r path (suc n)) e.0
        ∙ behind i rs (suc n) h (line_past full r (pt_at path i) t) (subst (λ (j : ℕ). Holds (Nexts j) (line_past full r (pt_at path i) t)) e.0 (past_next_i (pt_at path i) t))

    stops : (n : ℕ) (s : Next) → s.i < length path → Rest path (s.i + 1) ps → length path < suc n + s.i → (l : Location) → step r s.loc (pt_at path s.i) ≡ stop l → Stop r (pt_at path s.i) s.loc l
        → line_passes full r path (suc n) s ≡ (line_at full r s (pt_at path (s.i - 1)) (pt_at path s.i) >>= λ t. line_on full r t (pt_at path s.i) ps)
    stops n s h rs b l f t =
        passes_at n s h
        ∙ ap (λ (m : Try Next). m >>= line_from full r path s.loc >>= line_passes full r path n) (next_chosen full r path s.walk s.loc s.i h ∙ ap (chosen full r path s.walk s.loc s.i) f)
        ∙ ap (λ (m : Try Next). m >>= line_passes full r path n) (stopped_at s l h)
        ∙ go (get_intersection r p q l)
        ∙ ap (λ (m : Try Next). m >>= λ t. line_on full r t p ps) (sym (at_stopped s q p l (next_is full r s.loc p ∙ ap (after s.loc) f) (differ full r p s.loc l t (same_location l s.loc) refl)))
      where
        p : Point64
        p = pt_at path s.i

        q : Point64
        q = pt_at path (s.i - 1)

        nx : Next
        nx = record { walk = s.walk; loc = l; i = s.i }

        go : (z : Option SidePoint) → (turned nx s.loc q p z >>= line_passes full r path n) ≡ (turned_past nx s.loc q p z >>= λ t. line_on full r t p ps)
        go None = behind s.i rs n (omega arith) (ok (record { walk = nx.walk; loc = nx.loc; i = nx.i + 1 })) (held refl)
        go (Some found) =
            bind_same (StaysAt nx) (line_cross full r nx s.loc q p found.point) _ _ (cross_stays nx s.loc q p found.point) (λ u g. once_more n s.i l h rs (omega arith) (stop_in r p t) u g)
            ∙ sym (assoc (line_cross full r nx s.loc q p found.point) (line_past full r p) (λ u. line_on full r u p ps))

  folds : (ps : List Point64) → Folds ps
  unfolding walk_over
  folds [] n s rs h = passes_over n s (omega (arith, rs.long))
  folds (p ∷ ps) zero s rs h = absurd (omega (arith, rs.long))
  folds (p ∷ ps) (suc n) s rs h = go (steps r s.loc (pt_at path s.i)) (folds ps) ∙ ap (λ (x : Point64). line_at full r s (pt_at path (s.i - 1)) x >>= λ t. line_on full r t x ps) (sym (first_of path s.i p ps rs))
    where
      l : s.i < length path
      l = omega (arith, rs.long)

      rest : Rest path (s.i + 1) ps
      rest = others_of path s.i p ps rs

      go : Steps r (pt_at path s.i) s.loc → Folds ps → line_passes full r path (suc n) s ≡ (line_at full r s (pt_at path (s.i - 1)) (pt_at path s.i) >>= λ t. line_on full r t (pt_at path s.i) ps)
      go (goes f g) ih =
          passes_past n s l f
          ∙ behind ps ih s.i rest (suc n) (omega arith) (line_past full r (pt_at path s.i) s) (past_next_i (pt_at path s.i) s)
          ∙ ap (λ (m : Try Next). m >>= λ t. line_on full r t (pt_at path s.i) ps) (sym (at_gone s (pt_at path (s.i - 1)) (pt_at path s.i) f))
      go (halts l' f t) ih = stops ps ih n s l rest h l' f t

  -- the whole walk, from anything location: the first point stands before the others
  pub line_folds : (w : Walk) (l : Location) → 0 < length path
      → (let s : Next = record { walk = w; loc = l; i = 1 } in line_passes full r path (length path) s ≡ line_on full r s (pt_at path 0) (drop 1 path))
  line_folds w l h = folds (drop 1 path) (length path) (record { walk = w; loc = l; i = 1 }) (rest_of path 1 h) (omega arith)
