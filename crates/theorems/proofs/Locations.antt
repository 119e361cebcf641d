-- Facts of every location: what a test that is computed for each says of one, and that locations of one number are equal. Assumes nothing.
use mathlib.Core.Path.{◌≡◌, refl, sym, ap, ◌∙◌}
use mathlib.Core.Bool.{Bool, true, ◌&&◌}
use Prim.Native.Nat.{ℕ, zero, suc}
use borrow.Author.Tests.{eqb-true}
use Rattle.plane.specs.declared.location.Location.{Location}
use Rattle.plane.specs.declared.location.Location.TheVariants.{Left, Top, Right, Bottom, Inside}
use Rattle.plane.specs.Locations.{side_number, same_location}
use Rattle.theorems.proofs.Tests.{both}

abbrev pub every : (Location → Bool) → Bool
every test = test Left && (test Top && (test Right && (test Bottom && test Inside)))

pub each : (test : Location → Bool) → every test ≡ true → (l : Location) → test l ≡ true
each test e l =
    let left = both (test Left) (test Top && (test Right && (test Bottom && test Inside))) e in
    let top = both (test Top) (test Right && (test Bottom && test Inside)) left.1 in
    let right = both (test Right) (test Bottom && test Inside) top.1 in
    let bottom = both (test Bottom) (test Inside) right.1 in
    go l left.0 top.0 right.0 bottom.0 bottom.1
  where
    go : (l : Location) → test Left ≡ true → test Top ≡ true → test Right ≡ true → test Bottom ≡ true → test Inside ≡ true → test l ≡ true
    go Left a b c d i = a
    go Top a b c d i = b
    go Right a b c d i = c
    go Bottom a b c d i = d
    go Inside a b c d i = i

-- the location of a number
abbrev place : ℕ → Location
place zero = Left
place (suc zero) = Top
place (suc (suc zero)) = Right
place (suc (suc (suc zero))) = Bottom
place (suc (suc (suc (suc n)))) = Inside

place_number : (l : Location) → place (side_number l) ≡ l
place_number Left = refl
place_number Top = refl
place_number Right = refl
place_number Bottom = refl
place_number Inside = refl

pub same_place : (p q : Location) → same_location p q ≡ true → p ≡ q
same_place p q e = sym (place_number p) ∙ ap place (eqb-true (side_number p) (side_number q) e) ∙ place_number q
