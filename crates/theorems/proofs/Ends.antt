-- The counts of three loops round a ring are enough: `set_new_owner`, "Assign edges", and reading a path out. Each ends where it comes to op
-- again, which on a ring takes no more steps than there are nodes.
use mathlib.Core.Path.{◌≡◌, refl, sym, ap, ◌∙◌, subst}
use mathlib.Core.Bool.{Bool, true, false, cond, not, ◌&&◌}
use mathlib.Core.List.{List, [], ◌∷◌}
use mathlib.Core.Logic.{inl, inr}
use Prim.Native.Nat.{ℕ, zero, suc, ◌+◌, ◌-◌, ◌≤◌}
use native.Mathlib.Omega.{arith}
use lib.ListN.{length, get_or, length-set}
use lib.Dec.{eqb}
use borrow.Author.Tests.{eq-eqb}
use Rattle.plane.specs.declared.point.Point64.{Point64}
use Rattle.plane.specs.declared.rect.Rect64.{Rect64}
use Rattle.plane.specs.Basics.{none}
use Rattle.plane.specs.Rectangle.{get_edges_for_pt, has_edge}
use Rattle.reference.specs.Arena.{Arena, pt_of, next_of, edge_of, set_owner, set_edge, set_edge_list, own_from, add_to_edge, assign_side, assign_sides, assign_edges}
use Rattle.reference.specs.Clip.{points_from}
use Rattle.theorems.specs.LoopsEnd.{Comes}
use Rattle.theorems.specs.Bounds.{Ringed, last, step, Ring, ReadEnds, OwnersEnd, AssignEnds}
use Rattle.integers.specs.Tests.{cond_true}

cond_both : {A : Type 0} (b : Bool) (x y y' : A) → b ≡ true → cond b x y ≡ cond b x y'
cond_both b x y y' e = cond_true b x y e ∙ sym (cond_true b x y' e)

-- one more pass, and any number more
pub more_of : {A : Type 0} (loop : ℕ → A) (n : ℕ) → ((m : ℕ) → n ≤ m → loop (suc m) ≡ loop m) → (k : ℕ) → loop (n + k) ≡ loop n
more_of loop n h zero = ap loop (let e : n + zero ≡ n = omega arith in e)
more_of loop n h (suc k) = ap loop (let e : n + suc k ≡ suc (n + k) = omega arith in e) ∙ h (n + k) (omega arith) ∙ more_of loop n h k

-- ---- a ring comes back to op
pub comes_now : (next : ℕ → ℕ) (op n x : ℕ) → x ≡ op → Comes next op n x
comes_now next op zero x e = e
comes_now next op (suc n) x e = inl e

ringed_comes : (a : Arena) (op x : ℕ) (ys : List ℕ) → Ringed a op x ys → (n : ℕ) → length ys ≤ n → Comes (next_of a) op n (next_of a x)
ringed_comes a op x ys (last e f) n h = comes_now (next_of a) op n (next_of a x) e
ringed_comes a op x ys (step {y} {ys = zs} e f r) zero h = absurd (omega arith)
ringed_comes a op x ys (step {y} {ys = zs} e f r) (suc n) h = inr (subst (λ (z : ℕ). Comes (next_of a) op n (next_of a z)) (sym e) (ringed_comes a op y zs r n (omega arith)))

-- The node behind op comes back to op along a ring of at most n nodes in less than n steps.
pub ring_back : (n m : ℕ) (a : Arena) (op : ℕ) → Ring n a op → n ≤ suc m → Comes (next_of a) op m (next_of a op)
ring_back n m a op r h = let f = r.few in ringed_comes a op op r.others r.ringed m (omega arith)

-- ---- a loop that has come to op in n passes takes no further one
pub reads : (pts : List Point64) (a : Arena) (op n x : ℕ) → Comes (next_of a) op n x → points_from pts (suc n) a op x ≡ points_from pts n a op x
unfolding points_from
reads pts a op zero x c = cond_true (eqb x op) _ _ (eq-eqb x op c)
reads pts a op (suc n) x (inl e) = cond_both (eqb x op) _ _ _ (eq-eqb x op e)
reads pts a op (suc n) x (inr c) = ap (λ (l : List Point64). cond (eqb x op) [] (pt_of pts x ∷ l)) (reads pts a op n (next_of a x) c)

pub owns : (n : ℕ) (a : Arena) (op x new : ℕ) → Comes (next_of a) op n x → own_from (suc n) a op x new ≡ own_from n a op x new
unfolding own_from set_owner
owns zero a op x new c = cond_true (eqb x op) _ _ (eq-eqb x op c)
owns (suc n) a op x new (inl e) = cond_both (eqb x op) _ _ _ (eq-eqb x op e)
owns (suc n) a op x new (inr c) = ap (cond (eqb x op) a) (owns n (set_owner a x new) op (next_of a x) new c)

-- ---- "Assign edges" changes no link and no result
pub record SameLinks (a b : Arena) : Type 0 where
  pub next : b.next ≡ a.next
  pub prev : b.prev ≡ a.prev
  pub results : b.results ≡ a.results
  pub fields : length b.edge ≡ length a.edge

same_links : (c : Bool) (a b d : Arena) → SameLinks a b → SameLinks a d → SameLinks a (cond c b d)
same_links true a b d h k = h
same_links false a b d h k = k

pub no_change : (a : Arena) → SameLinks a a
no_change a = record { next = refl; prev = refl; results = refl; fields = refl }

pub two_changes : (a b c : Arena) → SameLinks a b → SameLinks b c → SameLinks a c
two_changes a b c h k = record { next = k.next ∙ h.next; prev = k.prev ∙ h.prev; results = k.results ∙ h.results; fields = k.fields ∙ h.fields }

pub edge_links : (a : Arena) (e op : ℕ) → SameLinks a (add_to_edge a e op)
unfolding add_to_edge set_edge_list set_edge
edge_links a e op = same_links (not (eqb (edge_of a op) none)) a a _ (no_change a) (record { next = refl; prev = refl; results = refl; fields = length-set a.edge op e })

side_links : (pts : List Point64) (a : Arena) (op s t j : ℕ) → SameLinks a (assign_side pts a op s t j)
unfolding assign_side
side_links pts a op s t j = same_links (has_edge j s && has_edge j t) a _ a (edge_links a _ op) (no_change a)

sides_links : (pts : List Point64) (a : Arena) (op s t : ℕ) (js : List ℕ) → SameLinks a (assign_sides pts a op s t js)
sides_links pts a op s t [] = no_change a
sides_links pts a op s t (j ∷ js) = two_changes a (assign_side pts a op s t j) _ (side_links pts a op s t j) (sides_links pts (assign_side pts a op s t j) op s t js)

-- the arena after one pass
abbrev pub assigned : List Point64 → Rect64 → Arena → ℕ → ℕ → Arena
assigned pts rect a x set =
    cond (not (eqb (get_edges_for_pt (pt_of pts x) rect) 0) && eqb (edge_of a x) none) (assign_sides pts a x set (get_edges_for_pt (pt_of pts x) rect) (0 ∷ 1 ∷ 2 ∷ 3 ∷ [])) a

pub assigned_links : (pts : List Point64) (rect : Rect64) (a : Arena) (x set : ℕ) → SameLinks a (assigned pts rect a x set)
assigned_links pts rect a x set = same_links (not (eqb (get_edges_for_pt (pt_of pts x) rect) 0) && eqb (edge_of a x) none) a _ a (sides_links pts a x set (get_edges_for_pt (pt_of pts x) rect) (0 ∷ 1 ∷ 2 ∷ 3 ∷ [])) (no_change a)

pub assigned_next : (pts : List Point64) (rect : Rect64) (a : Arena) (x set : ℕ) → next_of (assigned pts rect a x set) x ≡ next_of a x
assigned_next pts rect a x set = ap (λ (l : List ℕ). get_or l x none) (assigned_links pts rect a x set).next

pub assign_links : (pts : List Point64) (left : ℕ) (rect : Rect64) (a : Arena) (op x set : ℕ) → SameLinks a (assign_edges pts left rect a op x set)
unfolding assign_edges
assign_links pts zero rect a op x set = no_change a
assign_links pts (suc left) rect a op x set =
    let b = assigned pts rect a x set in
    let k = assigned_links pts rect a x set in
    same_links (eqb (next_of b x) op) a b _ k (two_changes a b _ k (assign_links pts left rect b op (next_of b x) (get_edges_for_pt (pt_of pts x) rect)))

-- the first pass is at x itself
pub assigns : (pts : List Point64) (rect : Rect64) (n : ℕ) (a : Arena) (op x set : ℕ) → Comes (next_of a) op n (next_of a x) → assign_edges pts (suc (suc n)) rect a op x set ≡ assign_edges pts (suc n) rect a op x set
unfolding assign_edges
assigns pts rect zero a op x set e = cond_both (eqb (next_of (assigned pts rect a x set) x) op) _ _ _ (eq-eqb _ _ (assigned_next pts rect a x set ∙ e))
assigns pts rect (suc n) a op x set (inl e) = cond_both (eqb (next_of (assigned pts rect a x set) x) op) _ _ _ (eq-eqb _ _ (assigned_next pts rect a x set ∙ e))
assigns pts rect (suc n) a op x set (inr c) =
    let b = assigned pts rect a x set in
    ap (cond (eqb (next_of b x) op) b)
    (assigns pts rect n b op (next_of b x) (get_edges_for_pt (pt_of pts x) rect)
    (subst (λ (z : ℕ). Comes (next_of b) op n (next_of b z)) (sym (assigned_next pts rect a x set))
    (subst (λ (l : List ℕ). Comes (λ i. get_or l i none) op n (get_or l (next_of a x) none)) (sym (assigned_links pts rect a x set).next) c)))

-- ---- the statements of Bounds
pub read_ends : ReadEnds
read_ends pts a op r = more_of (λ (m : ℕ). points_from pts m a op (next_of a op)) (length pts) (λ m h. reads pts a op m (next_of a op) (ring_back (length pts) m a op r (omega arith)))

pub owners_end : OwnersEnd
owners_end n a op new r = more_of (λ (m : ℕ). own_from m a op (next_of a op) new) n (λ m h. owns m a op (next_of a op) new (ring_back n m a op r (omega arith)))

pub assign_ends : AssignEnds
assign_ends pts rect a op set r =
    let f = r.few in
    more_of (λ (m : ℕ). assign_edges pts m rect a op op set) (length pts)
    (λ m h.
    let e : m ≡ suc (m - 1) = omega arith in
    subst (λ (z : ℕ). assign_edges pts (suc z) rect a op op set ≡ assign_edges pts z rect a op op set) (sym e) (assigns pts rect (m - 1) a op op set (ring_back (length pts) (m - 1) a op r (omega arith))))
