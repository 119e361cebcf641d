-- The closed walk without a count: by recursion on the points, each of which is met once. The loop of the definitions, with its count, is this fold.
use Rattle.std.specs.Prelude.{if◌then◌else◌, Option, None, Some}
use mathlib.Core.Path.{◌≡◌, refl, sym, ◌∙◌, ap, subst}
use mathlib.Core.Bool.{Bool, true, false, cond}
use mathlib.Core.List.{List, [], ◌∷◌}
use Prim.Native.Nat.{ℕ, zero, suc, ◌+◌, ◌-◌, ◌<◌, ◌≤◌}
use native.Mathlib.Omega.{arith}
use lib.ListN.{length, drop}
use lib.Seq.{drop-cons}
use lib.Dec.{leb, ltb, ltb→lt, nltb→le}
use lib.Signed.{lt_z, le_z}
use Rattle.integers.specs.Tests.{T_of, T_not_of, cond_true}
use Rattle.plane.specs.declared.crossing.SidePoint.{SidePoint}
use Rattle.plane.specs.declared.point.Point64.{Point64}
use Rattle.plane.specs.Limit.{Limited, LimitedRect}
use Rattle.plane.specs.declared.rect.Rect64.{Rect64}
use Rattle.plane.specs.declared.location.Location.{Location}
use Rattle.plane.specs.declared.location.Location.TheVariants.{Left, Top, Right, Bottom, Inside}
use Rattle.plane.specs.Basics.{lead, Try, refuse, ok, ◌>>=◌}
use Rattle.plane.specs.Points.{origin, pt_at}
use Rattle.plane.specs.Locations.{same_location, is_inside}
use Rattle.plane.specs.Rectangle.{beyond_or_on}
use Rattle.plane.specs.Intersection.{get_intersection}
use Rattle.reference.specs.Walk.{Walk, add, Next, next_side, next_outside, next_inside, get_next_location, State, Pass, remain_outside, cross_boundary, pt_before, pass_from, passes}
use Rattle.theorems.proofs.Holds.{Holds, refused, held, bind, All, all_at, anything, holds_map}
use Rattle.theorems.proofs.GeoPlane.{Proper}
use Rattle.theorems.proofs.GeoWalk.{Step, skip, stop, step}
use Rattle.theorems.proofs.GeoProgress.{In, Stop, Steps, goes, halts, steps, skips_in}
use Rattle.theorems.proofs.NextPoints.{Rest, rest_of, first_of, others_of}
use Rattle.theorems.proofs.Passes.{Stays, cross_stays, before_limited, remain_goes_on}
use Rattle.theorems.proofs.WalkOver.{walk_over}
use Rattle.theorems.proofs.FoldPoints.{next_location, go_past, at_point, walk_on, after, next_is, past_next, differ, lt_yes, lt_no, le_yes, le_no, cond_no}

-- ---- binding
pub assoc : {A B C : Type 0} (m : Try A) (f : A → Try B) (g : B → Try C) → (m >>= f >>= g) ≡ (m >>= λ a. f a >>= g)
assoc (refuse n) f g = refl
assoc (ok a) f g = refl

pub bind_same : {A B : Type 0} (Q : A → Type 0) (m : Try A) (f g : A → Try B) → Holds Q m → ((a : A) → Q a → f a ≡ g a) → (m >>= f) ≡ (m >>= g)
bind_same Q m f g refused h = refl
bind_same Q m f g (held {a} q) h = h a q

abbrev pub Any : Walk → Type 0
Any w = Unit {0}

module _ (full : ℕ → Bool) (r : Rect64) (path : List Point64) where
  -- ---- `get_next_location`, point by point
  abbrev pub passed : Location → Walk → Point64 → Try Walk
  passed l w p = if is_inside l then add full w p false else ok w

  abbrev pub chosen : Walk → Location → ℕ → Step → Try Next
  chosen w l i skip = passed l w (pt_at path i) >>= λ v. get_next_location full r path v l (i + 1)
  chosen w l i (stop l') = ok (record { walk = w; loc = l'; i = i })

  -- what `next_outside` answers when it has come to point k
  abbrev come : Walk → Location → ℕ → Next
  come w s k = record { walk = w; loc = if leb (length path) k then s else next_side r s (pt_at path k); i = k }

  lead_one : (f : Point64 → Bool) (i : ℕ) → i < length path → f (pt_at path i) ≡ true → i + lead f (drop i path) ≡ i + 1 + lead f (drop (i + 1) path)
  lead_one f i h e =
      let a : lead f (drop i path) ≡ suc (lead f (drop (i + 1) path)) =
      ap (lead f) (drop-cons path i origin h) ∙ ap (λ (b : Bool). cond b (suc (lead f (drop (suc i) path))) 0) e ∙ ap (λ (j : ℕ). suc (lead f (drop j path))) (let z : suc i ≡ i + 1 = omega arith in z) in
      omega arith

  lead_none : (f : Point64 → Bool) (i : ℕ) → i < length path → f (pt_at path i) ≡ false → i + lead f (drop i path) ≡ i
  lead_none f i h e =
      let a : lead f (drop i path) ≡ 0 = ap (lead f) (drop-cons path i origin h) ∙ ap (λ (b : Bool). cond b (suc (lead f (drop (suc i) path))) 0) e in
      omega arith

  outside_is : (w : Walk) (s : Location) (i : ℕ) → i < length path → (b : Bool) → beyond_or_on r s (pt_at path i) ≡ b
      → ◌≡◌ {A = Try Next} (ok (next_outside r path w s i)) (elim b [ true ↦ ok (next_outside r path w s (i + 1)) | false ↦ ok (record { walk = w; loc = next_side r s (pt_at path i); i = i }) ])
  unfolding next_outside
  outside_is w s i h true e = ap (λ (k : ℕ). ok (come w s k)) (lead_one (beyond_or_on r s) i h e)
  outside_is w s i h false e =
      ap (λ (k : ℕ). ok (come w s k)) (lead_none (beyond_or_on r s) i h e)
      ∙ ap (λ (b : Bool). ok (record { walk = w; loc = if b then s else next_side r s (pt_at path i); i = i })) (le_no (length path) i h)

  pub next_chosen : (w : Walk) (l : Location) (i : ℕ) → i < length path → get_next_location full r path w l i ≡ chosen w l i (step r l (pt_at path i))
  unfolding get_next_location next_inside next_side
  next_chosen w Left i h = outside_is w Left i h (le_z (pt_at path i).x r.left) refl ∙ go (le_z (pt_at path i).x r.left)
    where
      go : (b : Bool) → ◌≡◌ {A = Try Next} (elim b [ true ↦ ok (next_outside r path w Left (i + 1)) | false ↦ ok (record { walk = w; loc = next_side r Left (pt_at path i); i = i }) ]) (chosen w Left i (cond b skip (stop (next_side r Left (pt_at path i)))))
      go true = refl
      go false = refl
  next_chosen w Top i h = outside_is w Top i h (le_z (pt_at path i).y r.top) refl ∙ go (le_z (pt_at path i).y r.top)
    where
      go : (b : Bool) → ◌≡◌ {A = Try Next} (elim b [ true ↦ ok (next_outside r path w Top (i + 1)) | false ↦ ok (record { walk = w; loc = next_side r Top (pt_at path i); i = i }) ]) (chosen w Top i (cond b skip (stop (next_side r Top (pt_at path i)))))
      go true = refl
      go false = refl
  next_chosen w Right i h = outside_is w Right i h (le_z r.right (pt_at path i).x) refl ∙ go (le_z r.right (pt_at path i).x)
    where
      go : (b : Bool) → ◌≡◌ {A = Try Next} (elim b [ true ↦ ok (next_outside r path w Right (i + 1)) | false ↦ ok (record { walk = w; loc = next_side r Right (pt_at path i); i = i }) ]) (chosen w Right i (cond b skip (stop (next_side r Right (pt_at path i)))))
      go true = refl
      go false = refl
  next_chosen w Bottom i h = outside_is w Bottom i h (le_z r.bottom (pt_at path i).y) refl ∙ go (le_z r.bottom (pt_at path i).y)
    where
      go : (b : Bool) → ◌≡◌ {A = Try Next} (elim b [ true ↦ ok (next_outside r path w Bottom (i + 1)) | false ↦ ok (record { walk = w; loc = next_side r Bottom (pt_at path i); i = i }) ]) (chosen w Bottom i (cond b skip (stop (next_side r Bottom (pt_at path i)))))
      go true = refl
      go false = refl
  next_chosen w Inside i h =
      ap (λ (ps : List Point64). next_inside full r w i ps) (drop-cons path i origin h)
      ∙ go (lt_z p.x r.left) (lt_z r.right p.x) (lt_z r.bottom p.y) (lt_z p.y r.top)
      ∙ ap (λ (j : ℕ). four j (lt_z p.x r.left) (lt_z r.right p.x) (lt_z r.bottom p.y) (lt_z p.y r.top)) (let z : suc i ≡ i + 1 = omega arith in z)
      ∙ as_chosen (step r Inside p)
    where
      p : Point64
      p = pt_at path i

      at : Location → Try Next
      at l = ok (record { walk = w; loc = l; i = i })

      on : ℕ → Try Next
      on j = add full w p false >>= λ v. next_inside full r v (i + 1) (drop j path)

      four : ℕ → Bool → Bool → Bool → Bool → Try Next
      four j a b c d = elim (cond a (stop Left) (cond b (stop Right) (cond c (stop Bottom) (cond d (stop Top) skip)))) [ skip ↦ on j | stop l ↦ at l ]

      as_chosen : (z : Step) → ◌≡◌ {A = Try Next} (elim z [ skip ↦ on (i + 1) | stop l ↦ at l ]) (chosen w Inside i z)
      as_chosen skip = refl
      as_chosen (stop l) = refl

      go : (a b c d : Bool) → cond a (at Left) (cond b (at Right) (cond c (at Bottom) (cond d (at Top) (on (suc i))))) ≡ four (suc i) a b c d
      go true b c d = refl
      go false true c d = refl
      go false false true d = refl
      go false false false true = refl
      go false false false false = refl

  -- past the last point
  pub next_end : (w : Walk) (l : Location) (i : ℕ) → length path ≤ i → get_next_location full r path w l i ≡ ok (record { walk = w; loc = l; i = i })
  unfolding get_next_location next_outside next_inside
  next_end w l i h = go l
    where
      none : drop i path ≡ []
      none = lib.ListN.drop_of_length-le path h

      out : (s : Location) → ◌≡◌ {A = Try Next} (ok (come w s (i + lead (beyond_or_on r s) (drop i path)))) (ok (record { walk = w; loc = s; i = i }))
      out s =
          ap (λ (k : ℕ). ok (come w s k)) (ap (λ (ps : List Point64). i + lead (beyond_or_on r s) ps) none ∙ (let z : i + 0 ≡ i = omega arith in z))
          ∙ ap (λ (b : Bool). ok (record { walk = w; loc = if b then s else next_side r s (pt_at path i); i = i })) (le_yes (length path) i h)

      go : (l : Location) → get_next_location full r path w l i ≡ ok (record { walk = w; loc = l; i = i })
      go Left = out Left
      go Top = out Top
      go Right = out Right
      go Bottom = out Bottom
      go Inside = ap (λ (ps : List Point64). next_inside full r w i ps) none

  -- ---- the loop at a point that is gone past
  passes_over : (n : ℕ) (s : State) → length path ≤ s.i → passes full r path n s ≡ ok s
  unfolding passes
  passes_over zero s h = refl
  passes_over (suc n) s h = ap (λ (b : Bool). cond b (get_next_location full r path s.walk s.loc s.i >>= pass_from full r path s >>= passes full r path n) (ok s)) (lt_no s.i (length path) h)

  passes_at : (n : ℕ) (s : State) → s.i < length path → passes full r path (suc n) s ≡ (get_next_location full r path s.walk s.loc s.i >>= pass_from full r path s >>= passes full r path n)
  unfolding passes
  passes_at n s h = ap (λ (b : Bool). cond b (get_next_location full r path s.walk s.loc s.i >>= pass_from full r path s >>= passes full r path n) (ok s)) (lt_yes s.i (length path) h)

  abbrev further : State → Walk → State
  further s v = record { walk = v; i = s.i + 1; loc = s.loc; crossing_loc = s.crossing_loc; first_cross = s.first_cross }

  over_end : (s : State) (v : Walk) → length path ≤ s.i + 1 → pass_from full r path s (record { walk = v; loc = s.loc; i = s.i + 1 }) ≡ ok (further s v)
  unfolding pass_from
  over_end s v h = cond_true (leb (length path) (s.i + 1)) _ _ (le_yes (length path) (s.i + 1) h)

  same_from : (s : State) (v : Walk) (n : ℕ) (m : Try Next) → (m >>= pass_from full r path (further s v) >>= passes full r path n) ≡ (m >>= pass_from full r path s >>= passes full r path n)
  unfolding pass_from
  same_from s v n (refuse k) = refl
  same_from s v n (ok nx) = refl

  passes_on : (n : ℕ) (s : State) (v : Walk) → (get_next_location full r path v s.loc (s.i + 1) >>= pass_from full r path s >>= passes full r path n) ≡ passes full r path (suc n) (further s v)
  passes_on n s v = go (ltb (s.i + 1) (length path)) refl
    where
      go : (b : Bool) → ltb (s.i + 1) (length path) ≡ b → (get_next_location full r path v s.loc (s.i + 1) >>= pass_from full r path s >>= passes full r path n) ≡ passes full r path (suc n) (further s v)
      go true e = sym (passes_at n (further s v) (ltb→lt (s.i + 1) (length path) (T_of e)) ∙ same_from s v n (get_next_location full r path v s.loc (s.i + 1)))
      go false e =
          let h : length path ≤ s.i + 1 = nltb→le (s.i + 1) (length path) (T_not_of e) in
          ap (λ (m : Try Next). m >>= pass_from full r path s >>= passes full r path n) (next_end v s.loc (s.i + 1) h)
          ∙ ap (λ (m : Try State). m >>= passes full r path n) (over_end s v h)
          ∙ passes_over n (further s v) h ∙ sym (passes_over (suc n) (further s v) h)

  passes_past : (n : ℕ) (s : State) → s.i < length path → step r s.loc (pt_at path s.i) ≡ skip → passes full r path (suc n) s ≡ (go_past full r (pt_at path s.i) s >>= passes full r path (suc n))
  unfolding go_past
  passes_past n s h e =
      passes_at n s h
      ∙ ap (λ (m : Try Next). m >>= pass_from full r path s >>= passes full r path n) (next_chosen s.walk s.loc s.i h ∙ ap (chosen s.walk s.loc s.i) e)
      ∙ ap (λ (m : Try State). m >>= passes full r path n) (assoc w (λ v. get_next_location full r path v s.loc (s.i + 1)) (pass_from full r path s))
      ∙ assoc w (λ v. get_next_location full r path v s.loc (s.i + 1) >>= pass_from full r path s) (passes full r path n)
      ∙ bind_same Any w _ _ (anything w) (λ v _. passes_on n s v)
      ∙ sym (assoc w (λ v. ok (further s v)) (passes full r path (suc n)))
    where
      w : Try Walk
      w = passed s.loc s.walk (pt_at path s.i)

  -- ---- the loop at a point where it stops
  abbrev Nexts : ℕ → State → Type 0
  Nexts i t = t.i ≡ i + 1

  remain_next : (c : Pass) → Holds (Nexts c.i) (remain_outside full r c)
  remain_next c = holds_map (λ t g. g.0) (remain_goes_on full r c)

  past_next_i : (p : Point64) (s : State) → Holds (Nexts s.i) (go_past full r p s)
  unfolding go_past
  past_next_i p s = bind Any (Nexts s.i) (passed s.loc s.walk p) _ (anything _) (λ w _. held refl)

  -- the pass at point i, at which `get_next_location` stops with the location l
  abbrev pub pass_at : State → Location → Point64 → Point64 → Pass
  pass_at s l q p = record { walk = s.walk; i = s.i; prev = s.loc; loc = l; crossing_prev = s.crossing_loc; first_cross = s.first_cross; prev_pt = q; pt = p }

  abbrev turned : Pass → Option SidePoint → Try State
  turned c None = remain_outside full r c
  turned c (Some found) = cross_boundary full r c found.point found.side

  abbrev pub turned_past : Pass → Option SidePoint → Try State
  turned_past c None = remain_outside full r c
  turned_past c (Some found) = cross_boundary full r c found.point found.side >>= go_past full r c.pt

  stopped_at : (s : State) (l : Location) → s.i < length path
      → pass_from full r path s (record { walk = s.walk; loc = l; i = s.i })
      ≡ turned (pass_at s l (pt_before path s.i) (pt_at path s.i)) (get_intersection r (pt_at path s.i) (pt_before path s.i) l)
  unfolding pass_from
  stopped_at s l h = cond_no (leb (length path) s.i) _ _ (le_no (length path) s.i h) ∙ go (get_intersection r (pt_at path s.i) (pt_before path s.i) l)
    where
      c : Pass
      c = pass_at s l (pt_before path s.i) (pt_at path s.i)

      go : (z : Option SidePoint) → ◌≡◌ {A = Try State} (elim z [ None ↦ remain_outside full r c | Some found ↦ cross_boundary full r c found.point found.side ]) (turned c z)
      go None = refl
      go (Some found) = refl

  pub at_stopped : (s : State) (q p : Point64) (l : Location) → next_location full r s.loc p ≡ l → same_location l s.loc ≡ false
      → at_point full r s q p ≡ turned_past (pass_at s l q p) (get_intersection r p q l)
  unfolding at_point
  at_stopped s q p l e d =
      cond_no (same_location (next_location full r s.loc p) s.loc) _ _ (ap (λ (z : Location). same_location z s.loc) e ∙ d)
      ∙ go (next_location full r s.loc p) (get_intersection r p q (next_location full r s.loc p))
      ∙ ap (λ (z : Location). turned_past (pass_at s z q p) (get_intersection r p q z)) e
    where
      go : (x : Location) (z : Option SidePoint) → ◌≡◌ {A = Try State} (elim z [ None ↦ remain_outside full r (pass_at s x q p) | Some found ↦ cross_boundary full r (pass_at s x q p) found.point found.side >>= go_past full r p ]) (turned_past (pass_at s x q p) z)
      go x None = refl
      go x (Some found) = refl

  pub at_gone : (s : State) (q p : Point64) → step r s.loc p ≡ skip → at_point full r s q p ≡ go_past full r p s
  unfolding at_point
  at_gone s q p e = cond_true (same_location (next_location full r s.loc p) s.loc) _ _ (past_next full r s.loc p e)

  pub before_is : (i : ℕ) → pt_before path (i + 1) ≡ pt_at path i
  before_is i = ap (λ (b : Bool). pt_at path (if b then i + 1 - 1 else length path - 1)) (lt_yes 0 (i + 1) (omega arith)) ∙ ap (pt_at path) (let z : i + 1 - 1 ≡ i = omega arith in z)

  module _ (lr : LimitedRect r) (k : Proper r) (lim : All Limited path) where
    -- the loop from s on, with a pass more than there are points left, is the fold over those points
    abbrev Folds : List Point64 → Type 0
    Folds ps = (n : ℕ) (s : State) → Rest path s.i ps → length path < n + s.i → passes full r path n s ≡ walk_on full r s (pt_before path s.i) ps

    -- from the point behind p on
    behind : (ps : List Point64) → Folds ps → (i : ℕ) → Rest path (i + 1) ps → (n : ℕ) → length path < n + (i + 1) → (m : Try State) → Holds (Nexts i) m
        → (m >>= passes full r path n) ≡ (m >>= λ t. walk_on full r t (pt_at path i) ps)
    behind ps ih i rs n h m g =
        bind_same (Nexts i) m _ _ g
        (λ t e. ih n t (subst (λ (j : ℕ). Rest path j ps) (sym e) rs) (omega (arith, e))
        ∙ ap (λ (q : Point64). walk_on full r t q ps) (ap (pt_before path) e ∙ before_is i))

    module _ (ps : List Point64) (ih : Folds ps) where
      -- a pass that finds a crossing is followed by one that goes past the point
      once_more : (n : ℕ) (i : ℕ) → i < length path → Rest path (i + 1) ps → length path < n + (i + 1) → (t : State) → (t.i ≡ i) × In r t.loc (pt_at path i)
          → passes full r path n t ≡ (go_past full r (pt_at path i) t >>= λ u. walk_on full r u (pt_at path i) ps)
      once_more zero i l rs h t g = absurd (omega arith)
      once_more (suc n) i l rs h t g =
          passes_past n t (omega (arith, g.0)) (skips_in r t.loc (pt_at path t.i) (subst (λ (j : ℕ). In r t.loc (pt_at path j)) (sym g.0) g.1))
          ∙ ap (λ (j : ℕ). go_past full r (pt_at path j) t >>= passes full r path (suc n)) g.0
          ∙ behind ps ih i rs (suc n) h (go_past full r (pt_at path i) t) (subst (λ (j : ℕ). Holds (Nexts j) (go_past full r (pt_at path i) t)) g.0 (past_next_i (pt_at path i) t))

      stops : (n : ℕ) (s : State) → s.i < length path → Rest path (s.i + 1) ps → length path < suc n + s.i → (l : Location) → step r s.loc (pt_at path s.i) ≡ stop l → Stop r (pt_at path s.i) s.loc l
          → passes full r path (suc n) s ≡ (at_point full r s (pt_before path s.i) (pt_at path s.i) >>= λ t. walk_on full r t (pt_at path s.i) ps)
      stops n s h rs b l f t =
          passes_at n s h
          ∙ ap (λ (m : Try Next). m >>= pass_from full r path s >>= passes full r path n) (next_chosen s.walk s.loc s.i h ∙ ap (chosen s.walk s.loc s.i) f)
          ∙ ap (λ (m : Try State). m >>= passes full r path n) (stopped_at s l h)
          ∙ go (get_intersection r p q l) refl
          ∙ ap (λ (m : Try State). m >>= λ t. walk_on full r t p ps) (sym (at_stopped s q p l (next_is full r s.loc p ∙ ap (after s.loc) f) (differ full r p s.loc l t (same_location l s.loc) refl)))
        where
          p : Point64
          p = pt_at path s.i

          q : Point64
          q = pt_before path s.i

          c : Pass
          c = pass_at s l q p

          go : (z : Option SidePoint) → get_intersection r p q l ≡ z → (turned c z >>= passes full r path n) ≡ (turned_past c z >>= λ t. walk_on full r t p ps)
          go None e = behind ps ih s.i rs n (omega arith) (remain_outside full r c) (remain_next c)
          go (Some found) e =
              bind_same (Stays full r lr k c) (cross_boundary full r c found.point found.side) _ _
              (cross_stays full r lr k c found.point found.side (all_at Limited path s.i origin lim h) (before_limited full r path lr k lim s.i h) t e)
              (λ u g. once_more n s.i h rs (omega arith) u g)
              ∙ sym (assoc (cross_boundary full r c found.point found.side) (go_past full r p) (λ u. walk_on full r u p ps))

    folds : (ps : List Point64) → Folds ps
    unfolding walk_over
    folds [] n s rs h = passes_over n s (omega (arith, rs.long))
    folds (p ∷ ps) zero s rs h = absurd (omega (arith, rs.long))
    folds (p ∷ ps) (suc n) s rs h = ap_point (steps r s.loc (pt_at path s.i)) (folds ps)
      where
        i : ℕ
        i = s.i

        l : s.i < length path
        l = omega (arith, rs.long)

        e : p ≡ pt_at path s.i
        e = first_of path s.i p ps rs

        rest : Rest path (s.i + 1) ps
        rest = others_of path s.i p ps rs

        q : Point64
        q = pt_before path s.i

        ap_point : Steps r (pt_at path s.i) s.loc → Folds ps → passes full r path (suc n) s ≡ (at_point full r s q p >>= λ t. walk_on full r t p ps)
        ap_point st ih = go st ∙ ap (λ (x : Point64). at_point full r s q x >>= λ t. walk_on full r t x ps) (sym e)
          where
            go : Steps r (pt_at path s.i) s.loc → passes full r path (suc n) s ≡ (at_point full r s q (pt_at path s.i) >>= λ t. walk_on full r t (pt_at path s.i) ps)
            go (goes f g) =
                passes_past n s l f
                ∙ behind ps ih s.i rest (suc n) (omega arith) (go_past full r (pt_at path s.i) s) (past_next_i (pt_at path s.i) s)
                ∙ ap (λ (m : Try State). m >>= λ t. walk_on full r t (pt_at path s.i) ps) (sym (at_gone s q (pt_at path s.i) f))
            go (halts l' f t) = stops ps ih n s l rest h l' f t

    -- the whole walk, from anything location: the point before the first is the last
    pub walk_folds : (w : Walk) (l : Location)
        → (let s : State = record { walk = w; i = 0; loc = l; crossing_loc = Inside; first_cross = Inside } in passes full r path (length path + 1) s ≡ walk_on full r s (pt_at path (length path - 1)) path)
    walk_folds w l = folds path (length path + 1) (record { walk = w; i = 0; loc = l; crossing_loc = Inside; first_cross = Inside }) (rest_of path 0 (omega arith)) (omega arith)

    -- so more passes change nothing
    pub walk_enough : (s : State) → s.i ≤ length path → (m n : ℕ) → length path < m + s.i → length path < n + s.i → passes full r path m s ≡ passes full r path n s
    walk_enough s h m n g b = folds (drop s.i path) m s (rest_of path s.i h) g ∙ sym (folds (drop s.i path) n s (rest_of path s.i h) b)
