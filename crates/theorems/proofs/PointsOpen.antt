-- The same for the line clipper: its walk, and its returned points.
use Rattle.std.specs.Prelude.{if◌then◌else◌, None}
use mathlib.Core.Path.{◌≡◌, refl}
use mathlib.Core.Bool.{Bool, true, false, cond, not}
use mathlib.Core.List.{List, [], ◌∷◌}
use Prim.Native.Nat.{ℕ, zero, suc, ◌+◌, ◌-◌, ◌<◌}
use native.Mathlib.Omega.{arith}
use lib.ListN.{length, take, drop}
use lib.Dec.{leb, ltb, nleb→lt, nltb→le}
use Rattle.integers.specs.Tests.{T_not_of}
use Rattle.plane.specs.declared.point.Point64.{Point64}
use Rattle.plane.specs.declared.rect.Rect64.{Rect64}
use Rattle.plane.specs.declared.location.Location.{Location}
use Rattle.plane.specs.declared.location.Location.TheVariants.{Left, Top, Right, Bottom, Inside}
use Rattle.plane.specs.Basics.{lead, ok, ◌>>=◌}
use Rattle.plane.specs.Points.{pt_at, origin}
use Rattle.plane.specs.Rectangle.{get_location, get_bounds_path, is_empty, intersects, beyond, beyond_or_on}
use Rattle.plane.specs.Intersection.{found_at, get_intersection}
use Rattle.reference.specs.Walk.{Walk, nothing_yet, add, Next, next_inside, next_outside, get_next_location, second_search}
use Rattle.plane.specs.Locations.{is_inside}
use Rattle.reference.specs.Lines.{line_through, line_cross, line_from, line_passes, first_off_edge, line_walk_from, walk_open, pieces, longer_than_one, execute_lines}
use Rattle.theorems.proofs.Holds.{Holds, held, bind, either, by_search, All, all_drop, all_at, by_second_search}
use Rattle.theorems.proofs.Points.{WithinSides, Keeping, add_all_kept}
use Rattle.theorems.proofs.Returned.{AllPaths}
use Rattle.theorems.proofs.OnEdge.{on_edge}

module _ (full : ℕ → Bool) (P : Point64 → Type 0) (K : Walk → Type 0) (keep : Keeping full P K) (rect : Rect64) (path : List Point64) (inputs : All (λ p. WithinSides rect p → P p) path) where
  -- the points, and a place behind the first point
  abbrev pub LineKept : Next → Type 0
  LineKept n = K n.walk × (0 < n.i)

  inside_later : (w : Walk) (i : ℕ) (ps : List Point64) → 0 < i → K w → All (λ p. WithinSides rect p → P p) ps → Holds LineKept (next_inside full rect w i ps)
  unfolding next_inside
  inside_later w i [] l h a = held (h, l)
  inside_later w i (p ∷ ps) l h a =
      either LineKept (beyond rect Left p) _ _ (λ _. held (h, l))
      (λ e. either LineKept (beyond rect Right p) _ _ (λ _. held (h, l))
      (λ r. either LineKept (beyond rect Bottom p) _ _ (λ _. held (h, l))
      (λ b. either LineKept (beyond rect Top p) _ _ (λ _. held (h, l))
      (λ t. bind K LineKept (add full w p false) _ (keep.adds w p false h (a.0 (record { left = e; right = r; bottom = b; top = t })))
      (λ v k. inside_later v (i + 1) ps (omega arith) k a.1)))))

  outside_later : (w : Walk) (s : Location) (i : ℕ) → 0 < i → K w → LineKept (next_outside rect path w s i)
  unfolding next_outside
  outside_later w s i l h = (h, later (lead (beyond_or_on rect s) (drop i path)))
    where
      later : (k : ℕ) → 0 < i + k
      later k = omega arith

  next_later : (w : Walk) (loc : Location) (i : ℕ) → 0 < i → K w → Holds LineKept (get_next_location full rect path w loc i)
  unfolding get_next_location
  next_later w Left i l h = held (outside_later w Left i l h)
  next_later w Top i l h = held (outside_later w Top i l h)
  next_later w Right i l h = held (outside_later w Right i l h)
  next_later w Bottom i l h = held (outside_later w Bottom i l h)
  next_later w Inside i l h = inside_later w i (drop i path) l h (all_drop (λ p. WithinSides rect p → P p) i path inputs)

  abbrev pub Finds' : Point64 → Point64 → Type 0
  Finds' p p2 = (s : Location) (q : Point64) (t : Location) → get_intersection rect p p2 s ≡ found_at q t → P q

  through_kept : (n : Next) (prev : Location) (prev_pt pt ip : Point64) → LineKept n → P ip → Finds' prev_pt pt → Holds LineKept (line_through full rect n prev prev_pt pt ip)
  unfolding line_through
  through_kept n prev prev_pt pt ip h q f =
      bind K LineKept (add full n.walk (second_search rect prev_pt pt prev ip).point true) _ (keep.adds n.walk _ true h.0 (by_second_search (λ ip2 l. P ip2) rect prev_pt pt prev ip q (f prev)))
      (λ w k. bind K LineKept (add full w ip false) _ (keep.adds w ip false k q) (λ v g. held (g, h.1)))

  cross_kept : (n : Next) (prev : Location) (prev_pt pt ip : Point64) → LineKept n → P ip → Finds' prev_pt pt → Holds LineKept (line_cross full rect n prev prev_pt pt ip)
  unfolding line_cross
  cross_kept n prev prev_pt pt ip h q f =
      either LineKept (is_inside n.loc) _ _ (λ _. bind K LineKept (add full n.walk ip true) _ (keep.adds n.walk ip true h.0 q) (λ w k. held (k, h.1)))
      (λ _. either LineKept (not (is_inside prev)) _ _ (λ _. through_kept n prev prev_pt pt ip h q f)
      (λ _. bind K LineKept (add full n.walk ip false) _ (keep.adds n.walk ip false h.0 q) (λ w k. held (k, h.1))))

  module _ (finds : (i : ℕ) → 0 < i → i < length path → Finds' (pt_at path i) (pt_at path (i - 1))) (finds_back : (i : ℕ) → 0 < i → i < length path → Finds' (pt_at path (i - 1)) (pt_at path i)) where
    from_kept : (prev : Location) (n : Next) → LineKept n → Holds LineKept (line_from full rect path prev n)
    unfolding line_from
    from_kept prev n h =
        either LineKept (leb (length path) n.i) _ _ (λ _. held h)
        (λ e. let l : n.i < length path = nleb→lt (length path) n.i (T_not_of e) in
        by_search LineKept (get_intersection rect (pt_at path n.i) (pt_at path (n.i - 1)) n.loc) _ _
        (λ _. held (h.0, more n.i))
        (λ ip loc f. cross_kept n prev (pt_at path (n.i - 1)) (pt_at path n.i) ip h (finds n.i h.1 l n.loc ip loc f) (finds_back n.i h.1 l)))
      where
        more : (k : ℕ) → 0 < k + 1
        more k = omega arith

    passes_kept : (left : ℕ) (s : Next) → LineKept s → Holds LineKept (line_passes full rect path left s)
    unfolding line_passes
    passes_kept zero s h = held h
    passes_kept (suc left) s h =
        either LineKept (ltb s.i (length path)) _ _
        (λ _. bind LineKept LineKept (get_next_location full rect path s.walk s.loc s.i >>= line_from full rect path s.loc) _
        (bind LineKept LineKept (get_next_location full rect path s.walk s.loc s.i) _ (next_later s.walk s.loc s.i h.1 h.0) (λ n k. from_kept s.loc n k))
        (λ t k. passes_kept left t k))
        (λ _. held h)

    -- the walk begins with the first point, where it is inside
    line_walk_kept : (loc : Location) → 1 < length path → (is_inside loc ≡ true → P (pt_at path 0)) → Holds K (line_walk_from full rect path loc)
    unfolding line_walk_from
    line_walk_kept loc l first =
        bind K K (if is_inside loc then add full nothing_yet (pt_at path 0) false else ok nothing_yet) _
        (either K (is_inside loc) _ _ (λ e. keep.adds nothing_yet (pt_at path 0) false keep.start (first e)) (λ _. held keep.start))
        (λ w k. bind LineKept K (line_passes full rect path (length path) (record { walk = w; loc = loc; i = 1 })) _
        (passes_kept (length path) _ (k, one)) (λ s g. held g.0))
      where
        one : 0 < 1
        one = omega arith

    -- a first point that is off the edges and inside, or on an edge, is beyond no side
    first_kept : 1 < length path → WithinSides rect (pt_at path 0) → P (pt_at path 0)
    first_kept l h = all_at (λ p. WithinSides rect p → P p) path 0 origin inputs (omega arith) h

    off_missed : (ps : List Point64) → first_off_edge rect ps ≡ None → All (λ p. (get_location rect p).off ≡ false) ps
    unfolding first_off_edge
    off_missed [] e = tt
    off_missed (p ∷ ps) e = go (get_location rect p).off refl e (λ z. off_missed ps z)
      where
        go : (b : Bool) → (get_location rect p).off ≡ b → cond b (found_at p (get_location rect p).loc) (first_off_edge rect ps) ≡ None
            → (first_off_edge rect ps ≡ None → All (λ p. (get_location rect p).off ≡ false) ps) → ((get_location rect p).off ≡ false) × All (λ p. (get_location rect p).off ≡ false) ps
        go true q m f = let z : ◌≡◌ {A = ℕ} 0 1 = cc in absurd (omega arith)
        go false q m f = (q, f m)

    module _ (not_empty : is_empty rect ≡ false) where
      on_edges : (ps : List Point64) → All (λ p. WithinSides rect p → P p) ps → All (λ p. (get_location rect p).off ≡ false) ps → All P ps
      on_edges [] a h = tt
      on_edges (p ∷ ps) a h = (a.0 (on_edge rect not_empty p h.0), on_edges ps a.1 h.1)

      all_off : (ps : List Point64) → (get_location rect (pt_at ps 0)).off ≡ false → All (λ p. (get_location rect p).off ≡ false) (drop 1 ps) → All (λ p. (get_location rect p).off ≡ false) ps
      all_off [] e h = tt
      all_off (p ∷ ps) e h = (e, h)

      -- a location Inside, off the edges, is beyond no side
      pub walk_open_kept : ((p : Point64) → (get_location rect p).off ≡ true → is_inside (get_location rect p).loc ≡ true → WithinSides rect p) → Holds K (walk_open full rect path)
      unfolding walk_open
      walk_open_kept inner =
          either K (ltb (length path) 2) _ _ (λ _. held keep.start)
          (λ n. let l : 1 < length path = nltb→le (length path) 2 (T_not_of n) in
          either K (get_location rect (pt_at path 0)).off _ _
          (λ o. line_walk_kept (get_location rect (pt_at path 0)).loc l (λ e. first_kept l (inner (pt_at path 0) o e)))
          (λ o. by_search K (first_off_edge rect (drop 1 path)) _ _
          (λ m. add_all_kept full P K keep nothing_yet path keep.start (on_edges path inputs (all_off path o (off_missed (drop 1 path) m))))
          (λ p prev f. line_walk_kept (if is_inside prev then Inside else (get_location rect (pt_at path 0)).loc) l (λ _. first_kept l (on_edge rect not_empty (pt_at path 0) o)))))

-- ---- the returned paths are parts of the walk's points
module _ (P : Point64 → Type 0) where
  all_take : (i : ℕ) (ps : List Point64) → All P ps → All P (take i ps)
  all_take zero ps h = tt
  all_take (suc i) [] h = tt
  all_take (suc i) (p ∷ ps) h = (h.0, all_take i ps h.1)

  pieces_kept : (ps : List Point64) (starts : List ℕ) → All P ps → AllPaths P (pieces ps starts)
  unfolding pieces
  pieces_kept ps [] h = tt
  pieces_kept ps (a ∷ []) h = (all_drop P a ps h, tt)
  pieces_kept ps (a ∷ b ∷ starts) h = (all_drop P a (take b ps) (all_take b ps h), pieces_kept ps (b ∷ starts) h)

  longer_kept : (qs : List (List Point64)) → AllPaths P qs → AllPaths P (longer_than_one qs)
  unfolding longer_than_one
  longer_kept [] h = tt
  longer_kept (q ∷ qs) h = go (ltb 1 (length q)) (longer_kept qs h.1)
    where
      go : (b : Bool) → AllPaths P (longer_than_one qs) → AllPaths P (cond b (q ∷ longer_than_one qs) (longer_than_one qs))
      go true k = (h.0, k)
      go false k = k

  pub lines_kept : (full : ℕ → Bool) (rect : Rect64) (path : List Point64) → (is_empty rect ≡ false → Holds (λ w. All P w.points) (walk_open full rect path)) → Holds (AllPaths P) (execute_lines full rect path)
  unfolding execute_lines
  lines_kept full rect path h =
      either (AllPaths P) (is_empty rect) _ _ (λ _. held tt)
      (λ e. either (AllPaths P) (not (intersects rect (get_bounds_path path))) _ _ (λ _. held tt)
      (λ _. bind (λ w. All P w.points) (AllPaths P) (walk_open full rect path) _ (h e) (λ w k. held (longer_kept (pieces w.points w.starts) (pieces_kept w.points w.starts k)))))
