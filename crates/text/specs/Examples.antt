-- The reading rules case by case, and document 01's example, by computation.
use Rattle.std.specs.Prelude.{◌≡◌, refl, true, false, List, [], ◌∷◌, ◌++◌, ℕ, replicate, pos, negsuc}
use Rattle.plane.specs.Points.{point}
use Rattle.plane.specs.Rectangle.{rect}
use Rattle.text.specs.Decimal.{digits_of, field, decimal, signed_decimal}
use Rattle.text.specs.Reading.{Request, unreadable, rectangle, path, asked, request}
use Rattle.text.specs.Printing.{refusal_line, path_lines}

-- `R,0,0,100,100`
abbrev owner : List ℕ
owner = 82 ∷ 44 ∷ 48 ∷ 44 ∷ 48 ∷ 44 ∷ 49 ∷ 48 ∷ 48 ∷ 44 ∷ 49 ∷ 48 ∷ 48 ∷ []

-- `9223372036854775808`
abbrev too_large : List ℕ
too_large = 57 ∷ 50 ∷ 50 ∷ 51 ∷ 51 ∷ 55 ∷ 50 ∷ 48 ∷ 51 ∷ 54 ∷ 56 ∷ 53 ∷ 52 ∷ 55 ∷ 55 ∷ 53 ∷ 56 ∷ 48 ∷ 56 ∷ []

requests : List Request
requests =
    -- line 1
    request true owner ∷ request true [] ∷ request true (67 ∷ []) ∷ request true (82 ∷ 44 ∷ 49 ∷ []) ∷
    -- a bare letter, `L,-007,8`, `C,`, `C,-`, `C,+1`, `C1`, an R line again, an empty line, a carriage return
    request false (67 ∷ []) ∷
    request false (76 ∷ 44 ∷ 45 ∷ 48 ∷ 48 ∷ 55 ∷ 44 ∷ 56 ∷ []) ∷
    request false (67 ∷ 44 ∷ []) ∷
    request false (67 ∷ 44 ∷ 45 ∷ []) ∷
    request false (67 ∷ 44 ∷ 43 ∷ 49 ∷ []) ∷
    request false (67 ∷ 49 ∷ []) ∷
    request false owner ∷
    request false [] ∷
    request false (67 ∷ 13 ∷ []) ∷
    -- 2 ^ 63 without and with a minus
    request false (67 ∷ 44 ∷ too_large) ∷
    request false (67 ∷ 44 ∷ 45 ∷ too_large) ∷
    -- 4,096 bytes and one more: `C,000..`
    request false (67 ∷ 44 ∷ replicate 4094 48) ∷
    request false (67 ∷ 44 ∷ replicate 4095 48) ∷
    []

rules : requests
    ≡ rectangle (rect (pos 0) (pos 0) (pos 100) (pos 100)) ∷ unreadable ∷ unreadable ∷ unreadable
    ∷ path true [] ∷ path false (negsuc 6 ∷ pos 8 ∷ []) ∷ unreadable ∷ unreadable ∷ unreadable ∷ unreadable ∷ unreadable ∷ unreadable ∷ unreadable
    ∷ unreadable ∷ path true (negsuc 9223372036854775807 ∷ []) ∷ path true (pos 0 ∷ []) ∷ unreadable ∷ []
unfolding requests request asked field digits_of
rules = refl

-- `C,2,1,-50,80`, and `X,3,12`
printed : path_lines true (pos 2) ((point (negsuc 49) (pos 80) ∷ []) ∷ []) ++ refusal_line (pos 3) 12
    ≡ 67 ∷ 44 ∷ 50 ∷ 44 ∷ 49 ∷ 44 ∷ 45 ∷ 53 ∷ 48 ∷ 44 ∷ 56 ∷ 48 ∷ 10 ∷ 88 ∷ 44 ∷ 51 ∷ 44 ∷ 49 ∷ 50 ∷ 10 ∷ []
unfolding signed_decimal decimal
printed = refl
