-- What is known in every pass of both walks: the point before the one at which `get_next_location` stops is in the region of the location that the
-- pass comes from. So what follows of that holds in every pass of a call.
use Rattle.std.specs.Prelude.{if◌then◌else◌}
use mathlib.Core.Path.{◌≡◌, refl, sym, ◌∙◌, ap, subst}
use mathlib.Core.Bool.{Bool, true, false}
use mathlib.Core.Logic.{◌⊎◌, inl, inr}
use mathlib.Core.List.{List}
use Prim.Native.Nat.{ℕ, zero, suc, ◌+◌, ◌-◌, ◌<◌, ◌≤◌}
use native.Mathlib.Omega.{arith}
use native.Mathlib.Decide.{dec_lt}
use lib.ListN.{length}
use lib.Dec.{leb, leb→le, nleb→lt, ltb→lt}
use Rattle.integers.specs.Tests.{T_of, T_not_of}
use Rattle.plane.specs.declared.point.Point64.{Point64}
use Rattle.plane.specs.declared.rect.Rect64.{Rect64}
use Rattle.plane.specs.declared.location.Location.{Location}
use Rattle.plane.specs.Basics.{ok}
use Rattle.plane.specs.Limit.{Limited, LimitedRect}
use Rattle.plane.specs.Points.{origin, pt_at}
use Rattle.plane.specs.Locations.{is_inside}
use Rattle.plane.specs.Intersection.{get_intersection}
use Rattle.reference.specs.Walk.{Walk, nothing_yet, add, Next, get_next_location, State, Pass, cross_boundary, remain_outside, pt_before, pass_from}
use Rattle.reference.specs.Lines.{line_cross, line_from}
use Rattle.theorems.specs.CornerLoops.{pass_of}
use Rattle.theorems.specs.Walks.{StateOf, given, start_point, StartsFrom, off_edges, on_edge, begun, pass_count, point_before, pass_behind, EachPass, InEveryPass}
use Rattle.theorems.proofs.Holds.{Holds, held, bind, either, by_search, All, all_at, weaker, anything, holds_ok}
use Rattle.theorems.proofs.GeoPlane.{Proper}
use Rattle.theorems.proofs.GeoProgress.{In}
use Rattle.theorems.proofs.NextPoints.{Reached, reached}
use Rattle.theorems.proofs.Passes.{stop_in, GoesOn, remain_goes_on, Stays, cross_stays, before_limited, get_location_in, edge_start}
use Rattle.theorems.proofs.Fold.{before_is}
use Rattle.theorems.proofs.FoldLines.{StaysAt, cross_stays as line_stays}

module _ (full : ℕ → Bool) (r : Rect64) (path : List Point64) where
  -- The point before is in the location's region, or the point itself is, behind a crossing: then it will be gone past.
  abbrev pub Placed : Bool → Next → Type 0
  Placed closed s = In r s.loc (point_before path closed s.i) ⊎ In r s.loc (pt_at path s.i)

  next_before : (closed : Bool) (i : ℕ) → point_before path closed (i + 1) ≡ pt_at path i
  next_before true i = before_is full r path i
  next_before false i = ap (pt_at path) (let z : i + 1 - 1 ≡ i = omega arith in z)

  -- the point before the one at which `get_next_location` stops
  pub came : (closed : Bool) (s nx : Next) → Placed closed s → Reached full r path s.loc s.i nx → In r s.loc (point_before path closed nx.i)
  came closed s nx h R =
      elim (dec_lt s.i nx.i) [
        | yes l ↦
            let m : nx.i - 1 + 1 ≡ nx.i = omega arith in
            subst (In r s.loc) (sym (next_before closed (nx.i - 1)) ∙ ap (point_before path closed) m) (R.passed (nx.i - 1) (omega arith) (omega arith))
        | no l ↦ go h (let z : s.i ≡ nx.i = omega (arith, R.later) in z) l
      ]
    where
      go : Placed closed s → s.i ≡ nx.i → (s.i < nx.i → ⊥) → In r s.loc (point_before path closed nx.i)
      go (inl i) e l = subst (λ (j : ℕ). In r s.loc (point_before path closed j)) e i
      go (inr i) e l = absurd (l (R.gone i))

  module _ (lr : LimitedRect r) (k : Proper r) (lim : All Limited path) where
    pub before_within : (closed : Bool) (i : ℕ) → i < length path → Limited (point_before path closed i)
    before_within true i l = before_limited full r path lr k lim i l
    before_within false i l = all_at Limited path (i - 1) origin lim (omega arith)

    -- ---- a pass leaves the walk placed
    abbrev pub Kept : (closed : Bool) → StateOf closed → Type 0
    Kept closed t = (given closed t).i < length path → Placed closed (given closed t)

    past_all : {W : Type 0} (i j : ℕ) → leb (length path) i ≡ true → j ≡ i → j < length path → W
    past_all i j e f g = let z : length path ≤ i = leb→le (length path) i (T_of e) in absurd (omega (arith, f))

    closed_kept : (s : State) (nx : Next) → Reached full r path s.loc s.i nx → Holds (Kept true) (pass_from full r path s nx)
    unfolding pass_from
    closed_kept s nx R =
        either (Kept true) (leb (length path) nx.i) _ _ (λ e. held (past_all nx.i _ e refl))
        (λ e. let l : nx.i < length path = nleb→lt (length path) nx.i (T_not_of e) in
        by_search (Kept true) (get_intersection r (pt_at path nx.i) (pt_before path nx.i) nx.loc) _ _
        (λ _. weaker (GoesOn full r c) (Kept true) (remain_outside full r c) (remain_goes_on full r c) (λ t g _. inl (onward t g (stop_in r (pt_at path nx.i) (R.stopped l)))))
        (λ ip cl f. weaker (Stays full r lr k c) (Kept true) (cross_boundary full r c ip cl) (cross_stays full r lr k c ip cl (all_at Limited path nx.i origin lim l) (before_within true nx.i l) (R.stopped l) f)
        (λ t g _. inr (subst (λ (n : ℕ). In r t.loc (pt_at path n)) (sym g.0) g.1))))
      where
        c : Pass
        c = pass_of full r path s nx

        onward : (t : State) → GoesOn full r c t → In r nx.loc (pt_at path nx.i) → In r t.loc (pt_before path t.i)
        onward t g i = subst (λ (l : Location). In r l (pt_before path t.i)) (sym g.1) (subst (In r nx.loc) (sym (ap (pt_before path) g.0 ∙ before_is full r path nx.i)) i)

    open_kept : (s nx : Next) → Reached full r path s.loc s.i nx → Holds (Kept false) (line_from full r path s.loc nx)
    unfolding line_from
    open_kept s nx R =
        either (Kept false) (leb (length path) nx.i) _ _ (λ e. held (past_all nx.i _ e refl))
        (λ e. let l : nx.i < length path = nleb→lt (length path) nx.i (T_not_of e) in
        let i : In r nx.loc (pt_at path nx.i) = stop_in r (pt_at path nx.i) (R.stopped l) in
        by_search (Kept false) (get_intersection r (pt_at path nx.i) (pt_at path (nx.i - 1)) nx.loc) _ _
        (λ _. held (λ _. inl (subst (In r nx.loc) (sym (next_before false nx.i)) i)))
        (λ ip cl f. weaker (StaysAt full r path nx) (Kept false) (line_cross full r nx s.loc (pt_at path (nx.i - 1)) (pt_at path nx.i) ip) (line_stays full r path nx s.loc (pt_at path (nx.i - 1)) (pt_at path nx.i) ip)
        (λ t g _. inr (subst (λ (j : ℕ). In r t.loc (pt_at path j)) (sym g.0) (subst (λ (x : Location). In r x (pt_at path nx.i)) (sym g.1) i)))))

    pub pass_kept : (closed : Bool) (s : StateOf closed) (nx : Next) → Reached full r path (given closed s).loc (given closed s).i nx → Holds (Kept closed) (pass_behind full r path closed s nx)
    pass_kept true s nx R = closed_kept s nx R
    pass_kept false s nx R = open_kept s nx R

    -- ---- the start
    starts_in : (closed : Bool) (loc : Location) → StartsFrom r path closed loc → In r loc (start_point path closed)
    starts_in closed loc (off_edges e) = get_location_in r (start_point path closed)
    starts_in closed loc (on_edge e p prev f) = edge_start r (start_point path closed) k e (is_inside prev)

    pub begun_kept : (closed : Bool) (loc : Location) → StartsFrom r path closed loc → Holds (Kept closed) (begun full path closed loc)
    begun_kept true loc from = held (λ _. inl (starts_in true loc from))
    begun_kept false loc from = bind (λ (w : Walk). Unit {0}) (Kept false) (if is_inside loc then add full nothing_yet (pt_at path 0) false else ok nothing_yet) _ (anything _) (λ w _. held (λ _. inl (starts_in false loc from)))

    -- ---- all passes
    module _ (closed : Bool) (P : StateOf closed → Next → Type 0)
        (pass : (s : StateOf closed) (nx : Next) → Reached full r path (given closed s).loc (given closed s).i nx → In r (given closed s).loc (point_before path closed nx.i) → nx.i < length path → P s nx) where
      each_pass : (n : ℕ) (s : StateOf closed) → Kept closed s → EachPass full r path closed P n s
      each_pass zero s h = tt
      each_pass (suc n) s h = λ e nx g.
          let l : (given closed s).i < length path = ltb→lt (given closed s).i (length path) (T_of e) in
          let R = holds_ok {Q = Reached full r path (given closed s).loc (given closed s).i} (get_next_location full r path (given closed s).walk (given closed s).loc (given closed s).i) nx
          (reached full r path (given closed s).walk (given closed s).loc (given closed s).i l) g in (
            (λ f. pass s nx R (came closed (given closed s) nx (h l) R) (nleb→lt (length path) nx.i (T_not_of f))),
            (λ t f. each_pass n t (holds_ok {Q = Kept closed} (pass_behind full r path closed s nx) t (pass_kept closed s nx R) f)),
          )

      pub in_every_pass : InEveryPass full r path closed P
      in_every_pass loc from s e = each_pass (pass_count path closed) s (holds_ok {Q = Kept closed} (begun full path closed loc) s (begun_kept closed loc from) e)
