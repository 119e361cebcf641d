-- The path goes round the rectangle: the four corners are added one after the other, and since neighbours differ, they are the last
-- four points of the walk. Assumes nothing.
use Rattle.std.specs.Prelude.{if◌then◌else◌, Some}
use mathlib.Core.Path.{◌≡◌, refl, sym, ◌∙◌, ap, subst}
use mathlib.Core.Bool.{Bool, true, false, ◌&&◌}
use mathlib.Core.List.{List, [], ◌∷◌}
use Prim.Native.Nat.{ℕ, ◌+◌, ◌-◌, ◌<◌, ◌≤◌}
use native.Mathlib.Omega.{arith}
use lib.IntN.{ℤ}
use lib.ListN.{length}
use lib.Signed.{le_z}
use Rattle.integers.specs.Order.{zint}
use Rattle.integers.specs.Tests.{eq_z, leZ_false, ne_eqZ}
use Rattle.plane.specs.declared.point.Point64.{Point64}
use Rattle.plane.specs.declared.rect.Rect64.{Rect64}
use Rattle.plane.specs.declared.location.Location.TheVariants.{Left, Top, Right, Bottom}
use Rattle.plane.specs.Basics.{Try, refuse, ok, ◌>>=◌}
use Rattle.plane.specs.Points.{same_point, pt_at}
use Rattle.plane.specs.Rectangle.{is_empty, corner}
use Rattle.reference.specs.Walk.{Walk, add, add_all, add_round}
use Rattle.reference.specs.Walk as def
use Rattle.rectclip.specs.Outlining.{entered_of, round_corners}
use Rattle.rectclip.proofs.Walking.{on_ok}
use Rattle.rectclip.proofs.Added.{Added, added}
use Rattle.theorems.proofs.Tests.{neither}

-- ---- neighbouring corners differ
and_right : (a b : Bool) → b ≡ false → (a && b) ≡ false
and_right true b e = e
and_right false b e = refl

x_apart : (p q : Point64) → eq_z p.x q.x ≡ false → same_point p q ≡ false
x_apart p q e = rw e refl

y_apart : (p q : Point64) → eq_z p.y q.y ≡ false → same_point p q ≡ false
y_apart p q e = and_right (eq_z p.x q.x) (eq_z p.y q.y) e

less_apart : (a b : ℤ) → le_z b a ≡ false → (eq_z a b ≡ false) × (eq_z b a ≡ false)
less_apart a b e =
    let h = leZ_false {a = b} {b = a} e in
    (ne_eqZ a b (λ q. omega (zint, h, q)), ne_eqZ b a (λ q. omega (zint, h, q)))

-- ---- four points, each unlike the one before
pub bind_take : {A B : Type 0} (t : Try A) (f : A → Try B) {v : B} {C : Type 0} → ok v ≡ (t >>= f) → ((u : A) → ok u ≡ t → ok v ≡ f u → C) → C
bind_take (refuse n) f e k = absurd (let z : ◌≡◌ {A = ℕ} 0 1 = cc in omega arith)
bind_take (ok a) f e k = k a refl e

bind_map : {A B C : Type 0} (t : Try A) (f : A → Try B) (g : B → Try C) (h : A → Try C) → ((a : A) → (f a >>= g) ≡ h a) → (t >>= f >>= g) ≡ (t >>= h)
bind_map (refuse n) f g h e = refl
bind_map (ok a) f g h e = e a

next_longer : {w x : Walk} {p q : Point64} → Added w x q → pt_at w.points (length w.points - 1) ≡ p → 0 < length w.points → same_point p q ≡ false → length x.points ≡ length w.points + 1
next_longer {w} {x} {p} {q} A e h f = A.longer h (subst (λ (o : Point64). same_point o q ≡ false) (sym e) f)

-- where the four stand, seen from the end
record Behind (w x y z v : ℕ) : Type 0 where
  pub one : v - 4 ≡ w - 1
  pub two : v - 3 ≡ x - 1
  pub three : v - 2 ≡ y - 1
  pub four : v - 1 ≡ z - 1
  pub all : 4 ≤ v

less : (a b i : ℕ) → b ≡ a + i → 0 < a → b - (i + 1) ≡ a - 1
less a b i e h = omega arith

behind : (w x y z v : ℕ) → 0 < w → x ≡ w + 1 → y ≡ x + 1 → z ≡ y + 1 → v ≡ z → Behind w x y z v
behind w x y z v h ex ey ez ev = record {
  one = less w v 3 (omega arith) h;
  two = less x v 2 (omega arith) (omega arith);
  three = less y v 1 (omega arith) (omega arith);
  four = less z v 0 (omega arith) (omega arith);
  all = omega arith;
}

module _ (full : ℕ → Bool) (a b c d : Point64) (k l m n : ℕ) where
  -- the four points, and the places where they come to stand
  abbrev places : Walk → Walk → Walk → Walk → Try def.Walked
  places w x y z = ok (record { walk = z; entered = (k, length w.points - 1) ∷ (l, length x.points - 1) ∷ (m, length y.points - 1) ∷ (n, length z.points - 1) ∷ [] })

  abbrev four : Walk → Try def.Walked
  four s = add full s a false >>= λ w. add full w b false >>= λ x. add full x c false >>= λ y. add full y d false >>= λ z. places w x y z

  walk_alone : (s : Walk) → (four s >>= λ u. ok u.walk) ≡ add_all full s (a ∷ b ∷ c ∷ d ∷ [])
  unfolding add_all
  walk_alone s =
      bind_map (add full s a false) (λ w. add full w b false >>= λ x. add full x c false >>= λ y. add full y d false >>= λ z. places w x y z) (λ u. ok u.walk)
      (λ w. add full w b false >>= λ x. add full x c false >>= λ y. add full y d false >>= λ z. ok z)
      (λ w.
      bind_map (add full w b false) (λ x. add full x c false >>= λ y. add full y d false >>= λ z. places w x y z) (λ u. ok u.walk) (λ x. add full x c false >>= λ y. add full y d false >>= λ z. ok z)
      (λ x.
      bind_map (add full x c false) (λ y. add full y d false >>= λ z. places w x y z) (λ u. ok u.walk) (λ y. add full y d false >>= λ z. ok z)
      (λ y. bind_map (add full y d false) (λ z. places w x y z) (λ u. ok u.walk) (λ z. ok z) (λ z. refl))))

  pub four_lost : (s : Walk) {r : ℕ} → refuse r ≡ add_all full s (a ∷ b ∷ c ∷ d ∷ []) → refuse r ≡ four s
  four_lost s {r} e = go (four s) (e ∙ sym (walk_alone s))
    where
      go : (t : Try def.Walked) → refuse r ≡ (t >>= λ u. ok u.walk) → refuse r ≡ t
      go (refuse q) f = let z : r ≡ q = cc in ap refuse z
      go (ok u) f = absurd (let z : ◌≡◌ {A = ℕ} 0 1 = cc in omega arith)

  pub four_done : same_point a b ≡ false → same_point b c ≡ false → same_point c d ≡ false → (s : Walk) {v : Walk} → ok v ≡ add_all full s (a ∷ b ∷ c ∷ d ∷ [])
      → (ok (record { walk = v; entered = (k, length v.points - 4) ∷ (l, length v.points - 3) ∷ (m, length v.points - 2) ∷ (n, length v.points - 1) ∷ [] }) ≡ four s) × (4 ≤ length v.points)
  unfolding add_all
  four_done ab bc cd s {v} e =
      bind_take (add full s a false) (λ w. add_all full w (b ∷ c ∷ d ∷ [])) e
      (λ w ew f.
      bind_take (add full w b false) (λ x. add_all full x (c ∷ d ∷ [])) f
      (λ x ex g.
      bind_take (add full x c false) (λ y. add_all full y (d ∷ [])) g
      (λ y ey h.
      bind_take (add full y d false) (λ z. add_all full z []) h
      (λ z ez q.
      let A = added full s a ew in
      let B = added full w b ex in
      let C = added full x c ey in
      let D = added full y d ez in
      let p : v ≡ z = cc in
      let first : length x.points ≡ length w.points + 1 = next_longer B A.last A.some ab in
      let second : length y.points ≡ length x.points + 1 = next_longer C B.last B.some bc in
      let third : length z.points ≡ length y.points + 1 = next_longer D C.last C.some cd in
      let L = behind (length w.points) (length x.points) (length y.points) (length z.points) (length v.points) A.some first second third (ap (λ (o : Walk). length o.points) p) in (
        (λ j. ok (record { walk = p j; entered = (k, L.one j) ∷ (l, L.two j) ∷ (m, L.three j) ∷ (n, L.four j) ∷ [] }))
            ∙ on_ok (λ z. places w x y z) ez
            ∙ on_ok (λ y. add full y d false >>= λ z. places w x y z) ey
            ∙ on_ok (λ x. add full x c false >>= λ y. add full y d false >>= λ z. places w x y z) ex
            ∙ on_ok (λ w. add full w b false >>= λ x. add full x c false >>= λ y. add full y d false >>= λ z. places w x y z) ew,
        L.all,
      )))))

-- ---- round the rectangle, either way
abbrev pub order : Bool → List ℕ
order is_clockwise = if is_clockwise then 0 ∷ 1 ∷ 2 ∷ 3 ∷ [] else 3 ∷ 2 ∷ 1 ∷ 0 ∷ []

module _ (full : ℕ → Bool) (rect : Rect64) where
  abbrev wide : is_empty rect ≡ false → le_z rect.right rect.left ≡ false
  wide e = (neither (le_z rect.right rect.left) (le_z rect.bottom rect.top) e).0

  abbrev high : is_empty rect ≡ false → le_z rect.bottom rect.top ≡ false
  high e = (neither (le_z rect.right rect.left) (le_z rect.bottom rect.top) e).1

  pub round_done : (cw : Bool) → is_empty rect ≡ false → (s : Walk) {v : Walk} → ok v ≡ add_all full s (round_corners rect cw)
      → (ok (record { walk = v; entered = entered_of (length v.points) (Some cw) }) ≡ add_round full rect s [] (order cw)) × (4 ≤ length v.points)
  unfolding add_round
  round_done true e s f =
      four_done full (corner rect Left) (corner rect Top) (corner rect Right) (corner rect Bottom) 0 2 4 6
      (x_apart (corner rect Left) (corner rect Top) (less_apart rect.left rect.right (wide e)).0)
      (y_apart (corner rect Top) (corner rect Right) (less_apart rect.top rect.bottom (high e)).0)
      (x_apart (corner rect Right) (corner rect Bottom) (less_apart rect.left rect.right (wide e)).1) s f
  round_done false e s f =
      four_done full (corner rect Bottom) (corner rect Right) (corner rect Top) (corner rect Left) 6 4 2 0
      (x_apart (corner rect Bottom) (corner rect Right) (less_apart rect.left rect.right (wide e)).0)
      (y_apart (corner rect Right) (corner rect Top) (less_apart rect.top rect.bottom (high e)).1)
      (x_apart (corner rect Top) (corner rect Left) (less_apart rect.left rect.right (wide e)).1) s f

  pub round_lost : (cw : Bool) (s : Walk) {r : ℕ} → refuse r ≡ add_all full s (round_corners rect cw) → refuse r ≡ add_round full rect s [] (order cw)
  unfolding add_round
  round_lost true s f = four_lost full (corner rect Left) (corner rect Top) (corner rect Right) (corner rect Bottom) 0 2 4 6 s f
  round_lost false s f = four_lost full (corner rect Bottom) (corner rect Right) (corner rect Top) (corner rect Left) 6 4 2 0 s f
