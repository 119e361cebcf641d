-- The number of turns is at most the allowance, and each turn adds at most one result to the one that the walk leaves.
use Rattle.std.specs.Prelude.{if◌then◌else◌}
use mathlib.Core.Path.{◌≡◌, refl, ◌∙◌, ap, subst}
use mathlib.Core.Bool.{Bool, true, false, cond, not, ◌||◌}
use mathlib.Core.List.{List, [], ◌∷◌}
use Prim.Native.Nat.{ℕ, zero, suc, ◌+◌, ◌-◌, ◌*◌, ◌≤◌}
use native.Mathlib.Omega.{arith}
use lib.ListN.{length, get_or, drop, length-set, length-append}
use lib.Dec.{eqb, ltb, leb, lit≤}
use Rattle.plane.specs.declared.point.Point64.{Point64}
use Rattle.plane.specs.declared.rect.Rect64.{Rect64}
use Rattle.plane.specs.Basics.{none, push, is_nil, upwards, ◌>>=◌}
use Rattle.plane.specs.Rectangle.{is_empty, intersects, contains_rect, get_bounds_path, get_edges_for_pt}
use Rattle.reference.specs.Walk.{Walked, walk_closed}
use Rattle.reference.specs.Arena.{Arena, add_to_edge, pt_of, prev_of, owner_of, edge_list, result_of, set_next, set_prev, set_results, set_result, set_edge_list, ring, is_flat, Round, drop_collinear_pass, drop_collinear, check_ring, check_from, check_edges}
use Rattle.reference.specs.Tidy.{Four, Turn, turn, is_horz, cw_is_toward_larger, first_op, second_op, is_stub, four_of, overlap, relink, regroup, seek, settle, rejoin, one_turn, turns_from, tidy_edges}
use Rattle.reference.specs.Clip.{enter_all, arena_of, get_path, get_paths, clip_walked, execute}
use Rattle.theorems.specs.Sizes.{FewResults}
use Rattle.theorems.proofs.Holds.{Holds, refused, held, bind, either, anything, holds_ok}
use Rattle.theorems.proofs.Ends.{edge_links, assign_links}
use Rattle.theorems.proofs.TidyLinks.{keeps_new}
use Rattle.theorems.proofs.TidyTurn.{fine_settle}
use Rattle.theorems.proofs.Dropping.{unlink_still, len_up}

-- how many results an arena has
abbrev pub size : Arena → ℕ
size a = length a.results

size_set : (a : Arena) (r v : ℕ) → size (set_result a r v) ≡ size a
unfolding set_results
size_set a r v = length-set a.results r v

size_cond : (b : Bool) (x y : Arena) (n : ℕ) → size x ≡ n → size y ≡ n → size (cond b x y) ≡ n
size_cond true x y n h k = h
size_cond false x y n h k = k

size_round : (a : Arena) (b : Bool) (x y : Round) → size x.arena ≡ size a → size y.arena ≡ size a → size (cond b x y).arena ≡ size a
size_round a true x y h k = h
size_round a false x y h k = k

size_most : (n : ℕ) (b : Bool) (x y : Arena) → size x ≤ n → size y ≤ n → size (cond b x y) ≤ n
size_most n true x y h k = h
size_most n false x y h k = k

-- ---- `check_edges` keeps their number
module _ (pts : List Point64) where
  pass_size : (a : Arena) (op op2 : ℕ) → size (drop_collinear_pass pts a op op2).arena ≡ size a
  unfolding drop_collinear_pass
  pass_size a op op2 = size_round a (is_flat pts a op2) _ _ (ap length (unlink_still a op2).results) refl

  drop_size : (left : ℕ) (a : Arena) (op op2 : ℕ) → size (drop_collinear pts left a op op2).arena ≡ size a
  unfolding drop_collinear
  drop_size zero a op op2 = refl
  drop_size (suc left) a op op2 =
      let s = drop_collinear_pass pts a op op2 in
      size_round a (eqb s.op2 none || eqb s.op2 s.op) s (drop_collinear pts left s.arena s.op s.op2) (pass_size a op op2) (drop_size left s.arena s.op s.op2 ∙ pass_size a op op2)

  ring_size : (rect : Rect64) (a : Arena) (r : ℕ) → size (check_ring pts rect a r) ≡ size a
  unfolding check_ring
  ring_size rect a r =
      let s = drop_collinear pts (2 * length pts + 1) a (result_of a r) (result_of a r) in
      let d = drop_size (2 * length pts + 1) a (result_of a r) (result_of a r) in
      size_cond (eqb s.op2 none) _ _ (size a) (size_set s.arena r none ∙ d)
      (ap length (assign_links pts (length pts) rect (set_result s.arena r s.op) s.op s.op (get_edges_for_pt (pt_of pts (prev_of (set_result s.arena r s.op) s.op)) rect)).results ∙ size_set s.arena r s.op ∙ d)

  pub check_size : (rect : Rect64) (a : Arena) (rs : List ℕ) → size (check_from pts rect a rs) ≡ size a
  unfolding check_from
  check_size rect a [] = refl
  check_size rect a (r ∷ rs) = check_size rect (if eqb (result_of a r) none then a else check_ring pts rect a r) rs ∙ size_cond (eqb (result_of a r) none) a (check_ring pts rect a r) (size a) refl (ring_size rect a r)

  -- ---- a turn adds at most one
  relink_size : (c : Bool) (a : Arena) (f : Four) → size (relink c a f) ≡ size a
  unfolding relink set_next set_prev
  relink_size true a f = refl
  relink_size false a f = refl

  regroup_size : (c : Bool) (a : Arena) (f : Four) (t : Bool) → size (regroup c (length pts) a f t) ≤ suc (size a)
  unfolding regroup set_results
  regroup_size c a f true =
      let b = set_result a (owner_of a f.p2) none in
      let e = relink_size c (Rattle.reference.specs.Arena.set_new_owner (length pts) b f.p2 (owner_of a f.p1)) f in
      let k = ap length (keeps_new (length pts) b f.p2 (owner_of a f.p1)).results in
      let q = size_set a (owner_of a f.p2) none in
      omega arith
  regroup_size c a f false =
      let x = set_results (relink c a f) (push (relink c a f).results f.p1a) in
      let k = ap length (keeps_new (length pts) x f.p1a (length (relink c a f).results)).results in
      let q = length-append (relink c a f).results (f.p1a ∷ []) in
      let e = relink_size c a f in
      omega arith

  -- the new entries change no result
  settle_size : (k : ℕ) (a : Arena) (i j op op2 : ℕ) → size (settle pts k a i j op op2).arena ≡ size a
  settle_size k a i j op op2 =
      ap length (fine_settle (λ k i. Unit {0}) a pts k a i j op op2 (record { next = refl; prev = refl; owner = refl; results = refl; lists = λ k e i o h n. tt }) tt tt).results

  pick : (n : ℕ) (t : Bool) (x y : Turn) → size x.arena ≤ n → size y.arena ≤ n → size (cond t x y).arena ≤ n
  pick n true x y h k = h
  pick n false x y h k = k

  pub turn_size : (k : ℕ) (a : Arena) (i j : ℕ) → size (one_turn pts k a i j).arena ≤ suc (size a)
  unfolding one_turn rejoin set_edge_list
  turn_size k a i j =
      let r1 = get_or (edge_list a (k * 2)) i none in
      let s = seek a j (drop j (edge_list a (k * 2 + 1))) in
      let r2 = get_or (edge_list a (k * 2 + 1)) s none in
      let d = cw_is_toward_larger k in
      let f = four_of d a r1 r2 in
      let b = regroup d (length pts) a f (not (eqb (owner_of a r1) (owner_of a r2))) in
      let x = set_result b (owner_of b (first_op d f)) (first_op d f) in
      let y = set_result x (owner_of b (second_op d f)) (second_op d f) in
      let e1 = settle_size k y i s (first_op d f) (second_op d f) in
      let e2 = size_set x (owner_of b (second_op d f)) (second_op d f) in
      let e3 = size_set b (owner_of b (first_op d f)) (first_op d f) in
      let e4 = regroup_size d a f (not (eqb (owner_of a r1) (owner_of a r2))) in
      pick (suc (size a)) (eqb r1 none) _ _ (omega arith)
      (pick (suc (size a)) (is_stub a r1) _ _ (omega arith)
      (pick (suc (size a)) (leb (length (edge_list a (k * 2 + 1))) s) _ _ (omega arith)
      (pick (suc (size a)) (not (overlap pts (is_horz k) f)) _ _ (omega arith) (omega arith))))

  -- at most `limit` turns, and at most one result more than turns
  abbrev pub Few : ℕ → Arena × ℕ → Type 0
  Few limit t = (t.1 ≤ limit) × (size t.0 ≤ suc t.1)

  turns_few : (k left turns : ℕ) (t : Turn) → size t.arena ≤ suc turns → Holds (Few (turns + left)) (turns_from pts k left turns t)
  unfolding turns_from
  turns_few k zero turns t h = either (Few (turns + 0)) (ltb t.i (length (edge_list t.arena (k * 2)))) _ _ (λ e. refused) (λ e. held (omega arith, h))
  turns_few k (suc left) turns t h =
      let s = turn_size k t.arena t.i t.j in
      either (Few (turns + suc left)) (ltb t.i (length (edge_list t.arena (k * 2)))) _ _
      (λ e. subst (λ (m : ℕ). Holds (Few m) (turns_from pts k left (turns + 1) (one_turn pts k t.arena t.i t.j))) (step turns left) (turns_few k left (turns + 1) (one_turn pts k t.arena t.i t.j) (omega arith)))
      (λ e. held (omega arith, h))
    where
      step : (m n : ℕ) → m + 1 + n ≡ m + suc n
      step m n = omega arith

  pub tidy_few : (k limit : ℕ) (s : Arena × ℕ) → Few limit s → Holds (Few limit) (tidy_edges pts k limit s)
  unfolding tidy_edges
  tidy_few k limit s h =
      let l = h.0 in
      let e : s.1 + (limit - s.1) ≡ limit = omega arith in
      either (Few limit) (eqb (length (edge_list s.0 (k * 2 + 1))) 0) _ _ (λ _. held h)
      (λ _. subst (λ (m : ℕ). Holds (Few m) (turns_from pts k (limit - s.1) s.1 (turn s.0 0 0))) e (turns_few k (limit - s.1) s.1 (turn s.0 0 0) h.1))

  -- each result gives at most one path
  paths_few : (a : Arena) (rs : List ℕ) → length (get_paths pts a rs) ≤ length rs
  unfolding get_paths
  paths_few a [] = omega arith
  paths_few a (r ∷ rs) =
      let g = get_path pts a (result_of a r) in
      let h = paths_few (set_result g.0 r g.1) rs in
      go (is_nil g.2) g.2 (get_paths pts (set_result g.0 r g.1) rs) h
    where
      go : (b : Bool) (x : List Point64) (y : List (List Point64)) → length y ≤ length rs → length (cond b y (x ∷ y)) ≤ suc (length rs)
      go true x y h = omega arith
      go false x y h = omega arith

-- ---- the walk leaves at most one
enter_size : (a : Arena) (es : List (ℕ × ℕ)) → size (enter_all a es) ≡ size a
unfolding enter_all
enter_size a [] = refl
enter_size a (e ∷ es) = enter_size (add_to_edge a e.0 e.1) es ∙ ap length (edge_links a e.0 e.1).results

one_size : (n : ℕ) → size (ring n) ≤ 1
unfolding ring
one_size n = size_most 1 (eqb n 0) _ _ (lit≤ tt) (lit≤ tt)

pub walk_size : (w : Walked) → size (arena_of w) ≤ 1
unfolding arena_of
walk_size w =
    let e = enter_size (ring (length w.walk.points)) w.entered in
    let l = one_size (length w.walk.points) in
    omega arith

abbrev Both : ℕ → List (List Point64) × ℕ → Type 0
Both A d = (d.1 ≤ A) × (length d.0 ≤ suc d.1)

clip_few : (A : ℕ) (rect : Rect64) (w : Walked) → Holds (Both A) (clip_walked A rect w)
unfolding clip_walked check_edges
clip_few A rect w =
    let pts = w.walk.points in
    let c = check_edges pts rect (arena_of w) in
    let e = check_size pts rect (arena_of w) (upwards 0 (size (arena_of w))) in
    let l = walk_size w in
    bind (Few pts A) (Both A) (tidy_edges pts 0 A (c, 0) >>= tidy_edges pts 1 A >>= tidy_edges pts 2 A >>= tidy_edges pts 3 A) _
    (bind (Few pts A) (Few pts A) (tidy_edges pts 0 A (c, 0) >>= tidy_edges pts 1 A >>= tidy_edges pts 2 A) (tidy_edges pts 3 A)
    (bind (Few pts A) (Few pts A) (tidy_edges pts 0 A (c, 0) >>= tidy_edges pts 1 A) (tidy_edges pts 2 A)
    (bind (Few pts A) (Few pts A) (tidy_edges pts 0 A (c, 0)) (tidy_edges pts 1 A) (tidy_few pts 0 A (c, 0) (omega arith, omega arith)) (λ t. tidy_few pts 1 A t))
    (λ t. tidy_few pts 2 A t)) (λ t. tidy_few pts 3 A t))
    (λ t h.
    let p = paths_few pts t.0 (upwards 0 (size t.0)) in
    let q = len_up 0 (size t.0) in
    let s = h.1 in
    held (h.0, omega arith))

-- Each turn adds at most one result to the walk's one, and no more turns are taken than the allowance; each result gives at most one path.
pub few_results : FewResults
unfolding execute
few_results full A rect path paths turns e =
    holds_ok {Q = Both A} (execute full A rect path) (paths, turns)
    (either (Both A) (is_empty rect) _ _ (λ _. held (omega arith, omega arith))
    (λ _. either (Both A) (ltb (length path) 3) _ _ (λ _. held (omega arith, omega arith))
    (λ _. either (Both A) (not (intersects rect (get_bounds_path path))) _ _ (λ _. held (omega arith, omega arith))
    (λ _. either (Both A) (contains_rect rect (get_bounds_path path)) _ _ (λ _. held (omega arith, omega arith))
    (λ _. bind (λ w. Unit {0}) (Both A) (walk_closed full rect path) (clip_walked A rect) (anything _) (λ w _. clip_few A rect w)))))) e
