-- What the walks do depends on what they have put down (points, starts and start sides) and on where they are, not on how many points they have gone
-- past: from states that agree in these they come to such states, or to the same refusal. Assumes nothing.
use Rattle.std.specs.Prelude.{if◌then◌else◌}
use mathlib.Core.Path.{◌≡◌, refl, sym, ◌∙◌, ap, subst}
use mathlib.Core.Bool.{Bool, true, false, not, ◌&&◌, ◌||◌}
use mathlib.Core.List.{List, [], ◌∷◌}
use Prim.Native.Nat.{ℕ, zero, suc}
use lib.ListN.{length}
use lib.Dec.{ltb}
use Rattle.plane.specs.declared.point.Point64.{Point64}
use Rattle.plane.specs.declared.rect.Rect64.{Rect64}
use Rattle.plane.specs.declared.location.Location.{Location}
use Rattle.plane.specs.Basics.{Try, ok, ◌>>=◌}
use Rattle.plane.specs.Points.{same_point}
use Rattle.plane.specs.Locations.{same_location, is_inside, get_adjacent_location, heading_clockwise}
use Rattle.plane.specs.Rectangle.{get_location}
use Rattle.plane.specs.Intersection.{get_intersection}
use Rattle.reference.specs.Counts.{corner_steps}
use Rattle.reference.specs.Walk.{Walk, Walked, add, Next, push_start_loc, add_corner_prev_curr, add_corner_loc, add_corners, push_start_locs, State, Pass, remain_outside, enter, pass_to, pass_through, leave, cross_boundary, retrace, close_outline, after_while}
use Rattle.reference.specs.Lines.{line_through, line_cross}
use Rattle.theorems.proofs.Alike.{Alike, comes, alike_refl, alike_bind, alike_if, alike_tests, alike_else, alike_search}
use Rattle.theorems.proofs.FirstCrossing.{NotIn}
use Rattle.theorems.proofs.FoldPoints.{next_location, go_past, at_point}
use Rattle.theorems.proofs.FoldLines.{line_past, line_at}

-- ---- the relation
-- what a drawing is made of: points, starts and start sides. Whatever else a walk may come to carry, such as the indexes of 3/13, is left out
pub record SameWalk (w v : Walk) : Type 0 where
  pub points : w.points ≡ v.points
  pub starts : w.starts ≡ v.starts
  pub start_locs : w.start_locs ≡ v.start_locs

-- no word of the index
pub record SameState (s t : State) : Type 0 where
  pub walk : SameWalk s.walk t.walk
  pub loc : s.loc ≡ t.loc
  pub crossing_loc : s.crossing_loc ≡ t.crossing_loc
  pub first_cross : s.first_cross ≡ t.first_cross

pub record SameNext (s t : Next) : Type 0 where
  pub walk : SameWalk s.walk t.walk
  pub loc : s.loc ≡ t.loc

pub record SameWalked (w v : Walked) : Type 0 where
  pub walk : SameWalk w.walk v.walk
  pub entered : w.entered ≡ v.entered

-- today a walk holds nothing else
pub one_walk : {w v : Walk} → SameWalk w v → w ≡ v
one_walk e = λ i. record { points = e.points i; starts = e.starts i; start_locs = e.start_locs i }

pub walk_refl : (w : Walk) → SameWalk w w
walk_refl w = record { points = refl; starts = refl; start_locs = refl }

walk_sym : {w v : Walk} → SameWalk w v → SameWalk v w
walk_sym e = record { points = sym e.points; starts = sym e.starts; start_locs = sym e.start_locs }

walk_trans : {u w v : Walk} → SameWalk u w → SameWalk w v → SameWalk u v
walk_trans e f = record { points = e.points ∙ f.points; starts = e.starts ∙ f.starts; start_locs = e.start_locs ∙ f.start_locs }

pub state_refl : (s : State) → SameState s s
state_refl s = record { walk = walk_refl s.walk; loc = refl; crossing_loc = refl; first_cross = refl }

pub state_sym : (s t : State) → SameState s t → SameState t s
state_sym s t e = record { walk = walk_sym e.walk; loc = sym e.loc; crossing_loc = sym e.crossing_loc; first_cross = sym e.first_cross }

pub state_trans : (s t u : State) → SameState s t → SameState t u → SameState s u
state_trans s t u e f = record { walk = walk_trans e.walk f.walk; loc = e.loc ∙ f.loc; crossing_loc = e.crossing_loc ∙ f.crossing_loc; first_cross = e.first_cross ∙ f.first_cross }

pub next_refl : (s : Next) → SameNext s s
next_refl s = record { walk = walk_refl s.walk; loc = refl }

pub next_sym : (s t : Next) → SameNext s t → SameNext t s
next_sym s t e = record { walk = walk_sym e.walk; loc = sym e.loc }

pub next_trans : (s t u : Next) → SameNext s t → SameNext t u → SameNext s u
next_trans s t u e f = record { walk = walk_trans e.walk f.walk; loc = e.loc ∙ f.loc }

-- ---- what is put down
module _ (full : ℕ → Bool) where
  add_same : {w v : Walk} → SameWalk w v → (p : Point64) (new : Bool) → Alike SameWalk (add full w p new) (add full v p new)
  add_same {w} e p new = subst (λ (v : Walk). Alike SameWalk (add full w p new) (add full v p new)) (one_walk e) (alike_refl SameWalk walk_refl (add full w p new))

  push_same : {w v : Walk} → SameWalk w v → (l : Location) → Alike SameWalk (push_start_loc full w l) (push_start_loc full v l)
  push_same {w} e l = subst (λ (v : Walk). Alike SameWalk (push_start_loc full w l) (push_start_loc full v l)) (one_walk e) (alike_refl SameWalk walk_refl (push_start_loc full w l))

-- a walk, and the location that it has come to
abbrev SameCome : Walk × Location → Walk × Location → Type 0
SameCome s t = SameWalk s.0 t.0 × (s.1 ≡ t.1)

module _ (full : ℕ → Bool) (r : Rect64) where
  corner_same : {w v : Walk} → SameWalk w v → (prev curr : Location) → Alike SameWalk (add_corner_prev_curr full r w prev curr) (add_corner_prev_curr full r v prev curr)
  unfolding add_corner_prev_curr
  corner_same e prev curr = add_same full e _ false

  corner_loc_same : {w v : Walk} → SameWalk w v → (p : Location) (cw : Bool) → Alike SameCome (add_corner_loc full r w p cw) (add_corner_loc full r v p cw)
  unfolding add_corner_loc
  corner_loc_same e p cw = alike_bind SameWalk SameCome _ _ (add_same full e _ false) (λ w v f. comes (f, refl))

  corners_same : (left : ℕ) {w v : Walk} → SameWalk w v → (p l : Location) (cw : Bool) → Alike SameWalk (add_corners full r left w p l cw) (add_corners full r left v p l cw)
  unfolding add_corners
  corners_same zero e p l cw = comes e
  corners_same (suc left) e p l cw =
      alike_bind SameCome SameWalk _ _ (corner_loc_same e p cw)
      (λ s t f. alike_tests SameWalk (same_location s.1 l) (same_location t.1 l) (ap (λ (q : Location). same_location q l) f.1) (comes f.0)
      (subst (λ (q : Location). Alike SameWalk (add_corners full r left s.0 s.1 l cw) (add_corners full r left t.0 q l cw)) f.1 (corners_same left f.0 s.1 l cw)))

  starts_same : (left : ℕ) {w v : Walk} → SameWalk w v → (p l : Location) (cw : Bool) → Alike SameWalk (push_start_locs full r left w p l cw) (push_start_locs full r left v p l cw)
  unfolding push_start_locs
  starts_same zero e p l cw = comes e
  starts_same (suc left) e p l cw =
      alike_bind SameWalk SameWalk _ _ (push_same full e p)
      (λ w v f. alike_if SameWalk (same_location (get_adjacent_location p cw) l) (comes f) (starts_same left f (get_adjacent_location p cw) l cw))

  retrace_same : (ls : List Location) {w v : Walk} → SameWalk w v → (p : Location) → Alike SameCome (retrace full r w p ls) (retrace full r v p ls)
  unfolding retrace
  retrace_same [] e p = comes (e, refl)
  retrace_same (l ∷ ls) e p =
      alike_if SameCome (same_location p l) (retrace_same ls e p)
      (alike_bind SameCome SameCome _ _ (corner_loc_same e p (heading_clockwise p l)) (λ s t f. retrace_same ls f.0 l))

-- ---- the closed walk: the same locations, with another walk and index
abbrev with_walk : Walk → ℕ → State → State
with_walk v j s = record { walk = v; i = j; loc = s.loc; crossing_loc = s.crossing_loc; first_cross = s.first_cross }

abbrev pass_with : Walk → ℕ → Pass → Pass
pass_with v j c = record { walk = v; i = j; prev = c.prev; loc = c.loc; crossing_prev = c.crossing_prev; first_cross = c.first_cross; prev_pt = c.prev_pt; pt = c.pt }

abbrev come_to : {l cl fc : Location} {i j : ℕ} {w v : Walk} → SameWalk w v
    → Alike SameState (ok (record { walk = w; i = i; loc = l; crossing_loc = cl; first_cross = fc })) (ok (record { walk = v; i = j; loc = l; crossing_loc = cl; first_cross = fc }))
come_to e = comes (record { walk = e; loc = refl; crossing_loc = refl; first_cross = refl })

module _ (full : ℕ → Bool) (r : Rect64) where
  module _ (v : Walk) (j : ℕ) (c : Pass) (e : SameWalk c.walk v) where
    remain_same : Alike SameState (remain_outside full r c) (remain_outside full r (pass_with v j c))
    unfolding remain_outside
    remain_same =
        alike_if SameState (is_inside c.crossing_prev)
        (alike_bind SameWalk SameState _ _ (starts_same full r corner_steps e c.prev c.loc _) (λ _ _ f. come_to f))
        (alike_if SameState (not (is_inside c.prev) && not (same_location c.prev c.loc))
        (alike_bind SameWalk SameState _ _ (corners_same full r corner_steps e c.prev c.loc _) (λ _ _ f. come_to f))
        (come_to e))

    enter_same : (ip : Point64) (l : Location) → Alike SameState (enter full r c ip l) (enter full r (pass_with v j c) ip l)
    unfolding enter
    enter_same ip l =
        alike_bind SameWalk SameState _ _
        (alike_if SameWalk (is_inside c.first_cross) (push_same full e c.prev)
        (alike_if SameWalk (not (same_location c.prev l)) (corners_same full r corner_steps e c.prev l _) (comes e)))
        (λ _ _ f. alike_bind SameWalk SameState _ _ (add_same full f ip false) (λ _ _ g. come_to g))

    pass_to_same : (ip : Point64) (l : Location) (ip2 : Point64) (l2 : Location) → Alike SameState (pass_to full r c ip l ip2 l2) (pass_to full r (pass_with v j c) ip l ip2 l2)
    unfolding pass_to
    pass_to_same ip l ip2 l2 =
        alike_bind SameWalk SameState _ _
        (alike_if SameWalk (not (is_inside c.crossing_prev) && not (same_location c.crossing_prev l2)) (corner_same full r e c.crossing_prev l2) (comes e))
        (λ _ _ f. alike_bind SameWalk SameState _ _ (alike_if SameWalk (is_inside c.first_cross) (push_same full f c.prev) (comes f))
        (λ _ _ g. alike_bind SameWalk SameState _ _ (add_same full g ip2 false)
        (λ _ _ h. alike_if SameState (same_point ip ip2)
        (alike_bind SameWalk SameState _ _ (corner_same full r h l (get_location r c.pt).loc) (λ _ _ k. come_to k))
        (alike_bind SameWalk SameState _ _ (add_same full h ip false) (λ _ _ k. come_to k)))))

    cross_same : (ip : Point64) (l : Location) → Alike SameState (cross_boundary full r c ip l) (cross_boundary full r (pass_with v j c) ip l)
    unfolding cross_boundary pass_through leave
    cross_same ip l =
        alike_if SameState (is_inside c.loc) (enter_same ip l)
        (alike_if SameState (not (is_inside c.prev))
        (pass_to_same ip l _ _)
        (alike_bind SameWalk SameState _ _ (add_same full e ip false) (λ _ _ f. come_to f)))

  -- the second state in the words of the first
  in_words : (P : State → Type 0) {s t : State} → SameState s t → P (with_walk t.walk t.i s) → P t
  in_words P {s} {t} e = subst P (λ k. record { walk = t.walk; i = t.i; loc = e.loc k; crossing_loc = e.crossing_loc k; first_cross = e.first_cross k })

  past_same : (p : Point64) {s t : State} → SameState s t → Alike SameState (go_past full r p s) (go_past full r p t)
  unfolding go_past
  past_same p {s} {t} e =
      in_words (λ t. Alike SameState (go_past full r p s) (go_past full r p t)) e
      (alike_bind SameWalk SameState _ _ (alike_if SameWalk (is_inside s.loc) (add_same full e.walk p false) (comes e.walk)) (λ _ _ f. come_to f))

  pub point_same : (s t : State) (q p : Point64) → SameState s t → Alike SameState (at_point full r s q p) (at_point full r t q p)
  unfolding at_point
  point_same s t q p e =
      in_words (λ t. Alike SameState (at_point full r s q p) (at_point full r t q p)) e
      (alike_if SameState (same_location l s.loc) (past_same p (record { walk = e.walk; loc = refl; crossing_loc = refl; first_cross = refl }))
      (alike_search SameState (get_intersection r p q l) _ _ _ _ (remain_same t.walk t.i c e.walk)
      (λ ip cl. alike_bind SameState SameState _ _ (cross_same t.walk t.i c e.walk ip cl) (λ _ _ f. past_same p f))))
    where
      l : Location
      l = next_location full r s.loc p

      c : Pass
      c = record { walk = s.walk; i = s.i; prev = s.loc; loc = l; crossing_prev = s.crossing_loc; first_cross = s.first_cross; prev_pt = q; pt = p }

  -- ---- what follows the `while`, where there is a first crossing: it does not look at the path
  close_same : {s t : State} → SameState s t → Alike SameWalked (close_outline full r s) (close_outline full r t)
  unfolding close_outline
  close_same {s} {t} e =
      in_words (λ t. Alike SameWalked (close_outline full r s) (close_outline full r t)) e
      (alike_bind SameCome SameWalked _ _
      (subst (λ (ls : List Location). Alike SameCome (retrace full r s.walk s.loc s.walk.start_locs) (retrace full r t.walk s.loc ls)) e.walk.start_locs (retrace_same full r s.walk.start_locs e.walk s.loc))
      (λ a b f. alike_bind SameWalk SameWalked _ _ (last_corner a b f) (λ _ _ g. comes (record { walk = g; entered = refl }))))
    where
      cornered : Walk × Location → Try Walk
      cornered a = if not (same_location a.1 s.first_cross) then (add_corner_loc full r a.0 a.1 (heading_clockwise a.1 s.first_cross) >>= λ u. ok u.0) else ok a.0

      last_corner : (a b : Walk × Location) → SameCome a b → Alike SameWalk (cornered a) (cornered b)
      last_corner a b f =
          subst (λ (l : Location). Alike SameWalk (cornered a) (cornered (b.0, l))) f.1
          (alike_if SameWalk (not (same_location a.1 s.first_cross))
          (alike_bind SameCome SameWalk _ _ (corner_loc_same full r f.0 a.1 (heading_clockwise a.1 s.first_cross)) (λ _ _ g. comes g.0))
          (comes f.0))

  pub after_same : (path path' : List Point64) (l : Location) (s t : State) → SameState s t → NotIn s → Alike SameWalked (after_while full r path l s) (after_while full r path' l t)
  unfolding after_while
  after_same path path' l s t e h =
      in_words (λ t. Alike SameWalked (after_while full r path l s) (after_while full r path' l t)) e
      (alike_else SameWalked (is_inside s.first_cross) _ _ h
      (alike_tests SameWalked (opened s.walk.start_locs) (opened t.walk.start_locs) (ap opened e.walk.start_locs)
      (close_same (record { walk = e.walk; loc = refl; crossing_loc = refl; first_cross = refl })) (comes (record { walk = e.walk; entered = refl }))))
    where
      opened : List Location → Bool
      opened ls = not (is_inside s.loc) && (not (same_location s.loc s.first_cross) || ltb 2 (length ls))

-- ---- the walk of lines
module _ (full : ℕ → Bool) (r : Rect64) where
  abbrev next_with : Walk → ℕ → Next → Next
  next_with v j s = record { walk = v; loc = s.loc; i = j }

  abbrev next_to : {l : Location} {i j : ℕ} {w v : Walk} → SameWalk w v → Alike SameNext (ok (record { walk = w; loc = l; i = i })) (ok (record { walk = v; loc = l; i = j }))
  next_to e = comes (record { walk = e; loc = refl })

  line_cross_same : (v : Walk) (j : ℕ) (nx : Next) → SameWalk nx.walk v → (prev : Location) (q p ip : Point64) → Alike SameNext (line_cross full r nx prev q p ip) (line_cross full r (next_with v j nx) prev q p ip)
  unfolding line_cross line_through
  line_cross_same v j nx e prev q p ip =
      alike_if SameNext (is_inside nx.loc) (alike_bind SameWalk SameNext _ _ (add_same full e ip true) (λ _ _ f. next_to f))
      (alike_if SameNext (not (is_inside prev))
      (alike_bind SameWalk SameNext _ _ (add_same full e _ true) (λ _ _ f. alike_bind SameWalk SameNext _ _ (add_same full f ip false) (λ _ _ g. next_to g)))
      (alike_bind SameWalk SameNext _ _ (add_same full e ip false) (λ _ _ f. next_to f)))

  line_in_words : (P : Next → Type 0) {s t : Next} → SameNext s t → P (next_with t.walk t.i s) → P t
  line_in_words P {s} {t} e = subst P (λ k. record { walk = t.walk; loc = e.loc k; i = t.i })

  line_past_same : (p : Point64) {s t : Next} → SameNext s t → Alike SameNext (line_past full r p s) (line_past full r p t)
  unfolding line_past
  line_past_same p {s} {t} e =
      line_in_words (λ t. Alike SameNext (line_past full r p s) (line_past full r p t)) e
      (alike_bind SameWalk SameNext _ _ (alike_if SameWalk (is_inside s.loc) (add_same full e.walk p false) (comes e.walk)) (λ _ _ f. next_to f))

  pub line_same : (s t : Next) (q p : Point64) → SameNext s t → Alike SameNext (line_at full r s q p) (line_at full r t q p)
  unfolding line_at
  line_same s t q p e =
      line_in_words (λ t. Alike SameNext (line_at full r s q p) (line_at full r t q p)) e
      (alike_if SameNext (same_location l s.loc) (line_past_same p (record { walk = e.walk; loc = refl }))
      (alike_search SameNext (get_intersection r p q l) _ _ _ _ (next_to e.walk)
      (λ ip cl. alike_bind SameNext SameNext _ _ (line_cross_same t.walk t.i (record { walk = s.walk; loc = l; i = s.i }) e.walk s.loc q p ip) (λ _ _ f. line_past_same p f))))
    where
      l : Location
      l = next_location full r s.loc p
