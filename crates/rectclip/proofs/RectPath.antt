-- The rectangle's corners as a path: within the limit, added one way or the other, and asked whether the path contains them. Assumes nothing.
use mathlib.Core.Path.{◌≡◌, refl, sym, ◌∙◌, subst}
use mathlib.Core.Bool.{Bool, true, false}
use mathlib.Core.List.{List}
use Prim.Native.Nat.{ℕ, zero, suc, ◌<◌}
use native.Mathlib.Omega.{arith}
use lib.IntN.{ℤ}
use Rattle.plane.specs.declared.rect.Rect64.{Rect64}
use Rattle.plane.specs.declared.location.Location.{Location}
use Rattle.plane.specs.declared.location.Location.TheVariants.{Left, Top, Right, Bottom}
use Rattle.plane.specs.Basics.{Try, ok, ◌>>=◌}
use Rattle.plane.specs.Locations.{same_location, get_adjacent_location}
use Rattle.plane.specs.Limit.{rect_in_limit}
use Rattle.plane.specs.Points.{pt_at, coordinates_of}
use Rattle.plane.specs.Rectangle.{as_path}
use Rattle.reference.specs.Walk.{Walk, add, add_all, add_corner_loc, add_corners}
use Rattle.std.specs.Prelude.{if◌then◌else◌, Result}
use Rattle.entry.specs.declared.answer.Refusal.{Refusal}
use Rattle.rectclip.specs.Bounds.{Reached, BothPaths}
use Rattle.rectclip.specs.declared.walk.Walker.{Walker}
use Rattle.rectclip.specs.Walking.{Sheet, turned}
use Rattle.rectclip.specs.Steps.{walk, full, Steps}
use Rattle.rectclip.specs.Outlining.{round_corners, Bounded}
use Rattle.rectclip.proofs.Limits.{path_limited, close_corner}
use Rattle.rectclip.proofs.Reach.{reached}
use Rattle.rectclip.proofs.Closing.{bind_assoc, bind_ap}
use Rattle.rectclip.proofs.Steps.{named}

-- ---- the corners, one way or the other
-- the corners from the left side to itself, one at a time
module _ (full : ℕ → Bool) (rect : Rect64) where
  abbrev next : ℕ → Location → Bool → Walk → Try Walk
  next left p cw v = if same_location (get_adjacent_location p cw) Left then ok v else add_corners full rect left v (get_adjacent_location p cw) Left cw

  turn : (left : ℕ) (w : Walk) (p : Location) (cw : Bool) → add_corners full rect (suc left) w p Left cw ≡ (add full w (turned rect p cw) false >>= next left p cw)
  unfolding add_corners add_corner_loc
  turn left w p cw = bind_assoc (add full w (turned rect p cw) false) (λ v. ok (v, get_adjacent_location p cw)) (λ (t : Walk × Location). if same_location t.1 Left then ok t.0 else add_corners full rect left t.0 t.1 Left cw)

  round_is : (cw : Bool) (w : Walk) → add_corners full rect 4 w Left Left cw ≡ add_all full w (round_corners rect cw)
  unfolding add_all
  round_is true w = turn 3 w Left true ∙ bind_ap _ _ _ (λ v. turn 2 v Top true ∙ bind_ap _ _ _ (λ v. turn 1 v Right true ∙ bind_ap _ _ _ (λ v. turn 0 v Bottom true)))
  round_is false w = turn 3 w Left false ∙ bind_ap _ _ _ (λ v. turn 2 v Bottom false ∙ bind_ap _ _ _ (λ v. turn 1 v Right false ∙ bind_ap _ _ _ (λ v. turn 0 v Top false)))

pub round_added : (x : Walker) (cw : Bool) {y : Walker} {r : Result Unit Refusal} → Steps (add_corners (full x) x.rect 4 (walk x) Left Left cw) x y r → Steps (add_all (full x) (walk x) (round_corners x.rect cw)) x y r
round_added x cw R = named R (round_is (full x) x.rect cw (walk x))

-- ---- whether the path contains them
corner_reached : (rect : Rect64) → rect_in_limit rect ≡ true → (i : ℕ) → i < 4 → Reached (pt_at (as_path rect) i)
corner_reached rect e zero h = close_corner rect Left e
corner_reached rect e (suc zero) h = close_corner rect Top e
corner_reached rect e (suc (suc zero)) h = close_corner rect Right e
corner_reached rect e (suc (suc (suc zero))) h = close_corner rect Bottom e
corner_reached rect e (suc (suc (suc (suc i)))) h = absurd (omega arith)

pub both_paths : {rect : Rect64} {path : List ℤ} {bounds : Rect64} {cs : List ℤ} → Sheet rect path → Bounded path bounds → cs ≡ coordinates_of (as_path rect) → BothPaths path cs
both_paths {rect} {path} {bounds} {cs} S H e =
    subst (λ (l : List ℤ). BothPaths path l) (sym e)
    (record {
      even = refl;
      asked = λ i h. record { even = H.even; asked = corner_reached rect S.frame i h; vertex = λ j k. reached (path_limited path S.points j) };
    })
