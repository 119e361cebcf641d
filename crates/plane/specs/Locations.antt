-- `Location` of rectclip.rs: the side order, neighbours, directions along the boundary, and `start_locs_are_clockwise`.
use Rattle.std.specs.Prelude.{Bool, List, [], ◌∷◌, ℕ, zero, suc, ◌+◌, ◌%◌, eqb, ℤ, pos, negsuc, nat_abs, ◌+ℤ◌, ◌-ℤ◌, if◌then◌else◌}
use Rattle.std.specs.Int.Signed.{lt_z}
use Rattle.integers.specs.Tests.{eq_z}
use Rattle.plane.specs.declared.location.Location.{Location}
use Rattle.plane.specs.declared.location.Location.TheVariants.{Left, Top, Right, Bottom, Inside}

-- locations, in the side order: `loc as i32`
abbrev pub side_number : Location → ℕ
side_number Left = 0
side_number Top = 1
side_number Right = 2
side_number Bottom = 3
side_number Inside = 4

abbrev pub side : ℕ → Location
side zero = Left
side (suc zero) = Top
side (suc (suc zero)) = Right
side (suc (suc (suc n))) = Bottom

-- `a == b`
abbrev pub same_location : Location → Location → Bool
same_location a b = eqb (side_number a) (side_number b)

abbrev pub is_inside : Location → Bool
is_inside loc = same_location loc Inside

abbrev pub opposite : Location → Location
opposite Left = Right
opposite Top = Bottom
opposite Right = Left
opposite Bottom = Top
opposite Inside = Inside

-- the sides at the two ends of a side, the one of the smaller coordinates first, and the side across
abbrev pub lower : Location → Location
lower Left = Top
lower Top = Left
lower Right = Top
lower Bottom = Left
lower Inside = Inside

abbrev pub upper : Location → Location
upper Left = Bottom
upper Top = Right
upper Right = Bottom
upper Bottom = Right
upper Inside = Inside

-- directions along the boundary
abbrev pub get_adjacent_location : Location → Bool → Location
get_adjacent_location loc is_clockwise = side ((side_number loc + (if is_clockwise then 1 else 3)) % 4)

abbrev pub heading_clockwise : Location → Location → Bool
heading_clockwise prev curr = eqb ((side_number prev + 1) % 4) (side_number curr)

abbrev pub are_opposites : Location → Location → Bool
are_opposites prev curr = eqb (nat_abs (pos (side_number prev) -ℤ pos (side_number curr))) 2

-- `start_locs_are_clockwise`
abbrev pub step_of : ℤ → ℤ
step_of d = if eq_z d (negsuc 0) then negsuc 0 else if eq_z d (pos 1) then pos 1 else if eq_z d (negsuc 2) then pos 1 else if eq_z d (pos 3) then negsuc 0 else pos 0

abbrev pub steps_of : List Location → ℤ
steps_of [] = pos 0
steps_of (a ∷ []) = pos 0
steps_of (a ∷ b ∷ locs) = step_of (pos (side_number b) -ℤ pos (side_number a)) +ℤ steps_of (b ∷ locs)

unfoldable pub start_locs_are_clockwise : List Location → Bool
start_locs_are_clockwise locs = lt_z (pos 0) (steps_of locs)
