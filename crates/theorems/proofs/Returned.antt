-- Every returned point is a walked point: what holds of all walked points holds of all returned ones.
use Rattle.std.specs.Prelude.{if◌then◌else◌}
use mathlib.Core.Path.{◌≡◌, refl, sym, subst}
use mathlib.Core.Bool.{Bool, true, false, cond, not, ◌&&◌, ◌||◌}
use mathlib.Core.List.{List, [], ◌∷◌, ◌++◌}
use Prim.Native.Nat.{ℕ, zero, suc, ◌+◌, ◌-◌, ◌*◌, ◌<◌, suc-le-suc, zero-le}
use native.Mathlib.Omega.{arith}
use native.Mathlib.Nat.{not-suc-le-zero}
use lib.ListN.{length, get_or}
use lib.Dec.{ltb, eqb}
use Rattle.plane.specs.declared.point.Point64.{Point64}
use Rattle.plane.specs.declared.rect.Rect64.{Rect64}
use Rattle.plane.specs.declared.location.Location.{Location}
use Rattle.plane.specs.declared.location.Location.TheVariants.{Inside}
use Rattle.plane.specs.Basics.{none, is_nil, ok, ◌>>=◌}
use Rattle.plane.specs.Locations.{side, same_location, heading_clockwise, is_inside}
use Rattle.plane.specs.Points.{pt_at, same_point}
use Rattle.plane.specs.Rectangle.{get_location, mid_point, contains_point, get_bounds_path, as_path, corner}
use Rattle.plane.specs.Polygon.{path1_contains_path2}
use Rattle.reference.specs.Walk.{Walk, nothing_yet, add, add_all, State, Walked, add_corner_loc, passes, last_off, add_round, surround, retrace, close_outline, after_while, walk_from, walk_closed}
use Rattle.reference.specs.Arena.{Arena, pt_of, next_of, result_of, set_result, ring, check_edges, check_from}
use Rattle.reference.specs.Tidy.{is_stub, tidy_edges}
use Rattle.reference.specs.Clip.{enter_all, arena_of, straighten, points_from, get_path, get_paths, clip_walked}
use Rattle.theorems.proofs.Holds.{Holds, refused, held, bind, either, by_search, All, anything}

-- ---- where there is no point, nothing is entered in an edge list
pub data EnteredWithPoints (w : Walked) : Type 0 where
  nothing : w.entered ≡ [] → EnteredWithPoints w
  something : 0 < length w.walk.points → EnteredWithPoints w

module _ (full : ℕ → Bool) where
  longer : (ps : List Point64) (p : Point64) → 0 < length (ps ++ p ∷ [])
  longer [] p = suc-le-suc zero-le
  longer (x ∷ ps) p = suc-le-suc zero-le

  not_nil : (ps : List Point64) (b : Bool) → (is_nil ps || b) ≡ false → 0 < length ps
  not_nil [] b e = let z : ◌≡◌ {A = ℕ} 0 1 = cc in absurd (omega arith)
  not_nil (x ∷ ps) b e = suc-le-suc zero-le

  add_some : (w : Walk) (pt : Point64) (b : Bool) → Holds (λ v. 0 < length v.points) (add full w pt b)
  unfolding add
  add_some w pt b =
      either (λ v. 0 < length v.points) (is_nil w.points || b) _ _
      (λ _. either (λ v. 0 < length v.points) (full (length w.points)) _ _ (λ _. refused) (λ _. held (longer w.points pt)))
      (λ e. either (λ v. 0 < length v.points) (same_point (pt_at w.points (length w.points - 1)) pt) _ _ (λ _. held (not_nil w.points b e))
      (λ _. either (λ v. 0 < length v.points) (full (length w.points)) _ _ (λ _. refused) (λ _. held (longer w.points pt))))

  module _ (rect : Rect64) (path : List Point64) where
    round_some : (w : Walk) (es : List (ℕ × ℕ)) (ks : List ℕ) → 0 < length w.points → Holds EnteredWithPoints (add_round full rect w es ks)
    unfolding add_round
    round_some w es [] h = held (something h)
    round_some w es (k ∷ ks) h = bind (λ v. 0 < length v.points) EnteredWithPoints (add full w (corner rect (side k)) false) _ (add_some w (corner rect (side k)) false) (λ v g. round_some v _ ks g)

    round_entered : (w : Walk) (ks : List ℕ) → Holds EnteredWithPoints (add_round full rect w [] ks)
    unfolding add_round
    round_entered w [] = held (nothing refl)
    round_entered w (k ∷ ks) = bind (λ v. 0 < length v.points) EnteredWithPoints (add full w (corner rect (side k)) false) _ (add_some w (corner rect (side k)) false) (λ v g. round_some v _ ks g)

    surround_entered : (w : Walk) → Holds EnteredWithPoints (surround full rect path w)
    unfolding surround
    surround_entered w =
        either EnteredWithPoints (contains_point (get_bounds_path path) (mid_point rect) && path1_contains_path2 path (as_path rect)) _ _ (λ _. round_entered w _) (λ _. held (nothing refl))

    close_entered : (s : State) → Holds EnteredWithPoints (close_outline full rect s)
    unfolding close_outline
    close_entered s =
        bind (λ _. Unit {0}) EnteredWithPoints (retrace full rect s.walk s.loc s.walk.start_locs) _ (anything _)
        (λ t _. bind (λ _. Unit {0}) EnteredWithPoints
        (if not (same_location t.1 s.first_cross)
        then (add_corner_loc full rect t.0 t.1 (heading_clockwise t.1 s.first_cross) >>= λ u. ok u.0)
        else ok t.0) _ (anything _) (λ w _. held (nothing refl)))

    after_entered : (loc : Location) (s : State) → Holds EnteredWithPoints (after_while full rect path loc s)
    unfolding after_while
    after_entered loc s =
        either EnteredWithPoints (is_inside s.first_cross) _ _
        (λ _. either EnteredWithPoints (not (is_inside loc)) _ _ (λ _. surround_entered s.walk) (λ _. held (nothing refl)))
        (λ _. either EnteredWithPoints (not (is_inside s.loc) && (not (same_location s.loc s.first_cross) || ltb 2 (length s.walk.start_locs))) _ _ (λ _. close_entered s) (λ _. held (nothing refl)))

    from_entered : (loc : Location) → Holds EnteredWithPoints (walk_from full rect path loc)
    unfolding walk_from
    from_entered loc =
        bind (λ _. Unit {0}) EnteredWithPoints (passes full rect path (length path + 1) (record { walk = nothing_yet; i = 0; loc = loc; crossing_loc = Inside; first_cross = Inside })) _
        (anything _) (λ s _. after_entered loc s)

    pub walked_entered : Holds EnteredWithPoints (walk_closed full rect path)
    unfolding walk_closed
    walked_entered =
        either EnteredWithPoints (is_nil path) _ _ (λ _. held (nothing refl))
        (λ _. either EnteredWithPoints (get_location rect (pt_at path (length path - 1))).off _ _ (λ _. from_entered _)
        (λ _. by_search EnteredWithPoints (last_off rect path (length path - 1)) _ _
        (λ _. bind (λ _. Unit {0}) EnteredWithPoints (add_all full nothing_yet path) _ (anything _) (λ w _. held (nothing refl)))
        (λ p prev f. from_entered _)))

-- ---- reading rings out
module _ (P : Point64 → Type 0) where
  abbrev pub AllPaths : List (List Point64) → Type 0
  AllPaths [] = Unit {0}
  AllPaths (q ∷ qs) = All P q × AllPaths qs

  all_get : (ps : List Point64) (i : ℕ) (d : Point64) → All P ps → P d → P (get_or ps i d)
  all_get [] i d h q = q
  all_get (p ∷ ps) zero d h q = h.0
  all_get (p ∷ ps) (suc i) d h q = all_get ps i d h.1 q

  pt_kept : (pts : List Point64) (i : ℕ) → All P pts → 0 < length pts → P (pt_of pts i)
  pt_kept [] i h l = absurd (not-suc-le-zero l)
  pt_kept (p ∷ ps) i h l = all_get (p ∷ ps) i p h h.0

  all_cond : (b : Bool) (x y : List Point64) → All P x → All P y → All P (cond b x y)
  all_cond true x y h k = h
  all_cond false x y h k = k

  third_cond : (b : Bool) (x y : Arena × ℕ × List Point64) → All P x.2 → All P y.2 → All P (cond b x y).2
  third_cond true x y h k = h
  third_cond false x y h k = k

  paths_cond : (b : Bool) (x y : List (List Point64)) → AllPaths x → AllPaths y → AllPaths (cond b x y)
  paths_cond true x y h k = h
  paths_cond false x y h k = k

  module _ (pts : List Point64) (h : All P pts) (l : 0 < length pts) where
    points_kept : (left : ℕ) (a : Arena) (start curr : ℕ) → All P (points_from pts left a start curr)
    unfolding points_from
    points_kept zero a start curr = tt
    points_kept (suc left) a start curr = all_cond (eqb curr start) _ _ tt (pt_kept pts curr h l, points_kept left a start (next_of a curr))

    path_kept : (a : Arena) (op : ℕ) → All P (get_path pts a op).2
    unfolding get_path
    path_kept a op =
        let s = straighten pts (length pts * length pts) a op (next_of a op) in
        third_cond (eqb op none) _ _ tt
        (third_cond (is_stub a op) _ _ tt
        (third_cond (eqb s.op2 none) _ _ tt
        (third_cond (is_stub s.arena s.op2) _ _ tt
        (pt_kept pts s.op2 h l, points_kept (length pts) s.arena s.op2 (next_of s.arena s.op2)))))

    pub paths_kept : (a : Arena) (rs : List ℕ) → AllPaths (get_paths pts a rs)
    unfolding get_paths
    paths_kept a [] = tt
    paths_kept a (r ∷ rs) =
        let g = get_path pts a (result_of a r) in
        let rest = paths_kept (set_result g.0 r g.1) rs in
        paths_cond (is_nil g.2) _ _ rest (path_kept a (result_of a r), rest)

  abbrev pub KeptPaths : List (List Point64) × ℕ → Type 0
  KeptPaths d = AllPaths d.0

  -- without a point there is no result
  no_points : (A : ℕ) (rect : Rect64) (s : List ℕ) (ls : List Location) → Holds KeptPaths (clip_walked A rect (record { walk = record { points = []; starts = s; start_locs = ls }; entered = [] }))
  unfolding clip_walked arena_of enter_all ring check_edges check_from tidy_edges get_paths
  no_points A rect s ls = held tt

  some_points : (A : ℕ) (rect : Rect64) (w : Walked) → 0 < length w.walk.points → All P w.walk.points → Holds KeptPaths (clip_walked A rect w)
  unfolding clip_walked
  some_points A rect w l h =
      bind (λ _. Unit {0}) KeptPaths
      (tidy_edges w.walk.points 0 A (check_edges w.walk.points rect (arena_of w), 0) >>= tidy_edges w.walk.points 1 A >>= tidy_edges w.walk.points 2 A >>= tidy_edges w.walk.points 3 A) _
      (anything _) (λ t _. held (paths_kept w.walk.points h l t.0 _))

  pub clip_kept : (A : ℕ) (rect : Rect64) (w : Walked) → EnteredWithPoints w → All P w.walk.points → Holds KeptPaths (clip_walked A rect w)
  clip_kept A rect w e h = go w.walk.points refl e
    where
      go : (ps : List Point64) → w.walk.points ≡ ps → EnteredWithPoints w → Holds KeptPaths (clip_walked A rect w)
      go (p ∷ ps) q e = some_points A rect w (subst (λ (l : List Point64). 0 < length l) (sym q) (suc-le-suc zero-le)) h
      go [] q (something l) = some_points A rect w l h
      go [] q (nothing n) =
          let back : (record { walk = record { points = []; starts = w.walk.starts; start_locs = w.walk.start_locs }; entered = [] }) ≡ w =
          λ i. record { walk = record { points = sym q i; starts = w.walk.starts; start_locs = w.walk.start_locs }; entered = sym n i } in
          subst (λ (v : Walked). Holds KeptPaths (clip_walked A rect v)) back (no_points A rect w.walk.starts w.walk.start_locs)
