-- A drawing with the Rust's answer: what is given to an entry, and what is shown of the call.
-- Made by tools/tables.py.
use Rattle.std.specs.Prelude.{Bool, true, false, List, [], ◌∷◌, ℕ, ◌+◌, ◌*◌, length, replicate, ℤ, pos, neg_ℤ, if◌then◌else◌}
use Rattle.plane.specs.declared.rect.Rect64.{Rect64}
use Rattle.plane.specs.Points.{points_of, coordinates_of}
use Rattle.reference.specs.Entry.{Lent, After, Outcome, refused, drawn, clip_closed, clip_open}
use Rattle.reference.specs.Walk.{walked_outline}

abbrev pub minus : ℕ → ℤ
minus n = neg_ℤ (pos n)

abbrev pub R : ℤ → ℤ → ℤ → ℤ → Rect64
R l t r b = record { left = l; top = t; right = r; bottom = b }

-- answer, coordinate list, length list, walked outline
abbrev pub Shown : Type 0
Shown = Outcome × List ℤ × List ℕ × List ℤ

-- W is the number of points that the store holds, A the turn allowance
pub record Case : Type 0 where
  pub closed : Bool
  pub walked : Bool
  pub rect : Rect64
  pub W : ℕ
  pub A : ℕ
  pub coords : List ℤ
  pub expected : Shown

-- a closed path that is walked, so that it has an outline; one that is not; an open one
abbrev pub C : Rect64 → ℕ → ℕ → List ℤ → Shown → Case
C r w a c e = record { closed = true; walked = true; rect = r; W = w; A = a; coords = c; expected = e }

abbrev pub U : Rect64 → ℕ → ℕ → List ℤ → Shown → Case
U r w a c e = record { closed = true; walked = false; rect = r; W = w; A = a; coords = c; expected = e }

abbrev pub L : Rect64 → ℕ → List ℤ → Shown → Case
L r w c e = record { closed = false; walked = false; rect = r; W = w; A = 0; coords = c; expected = e }

-- a result of so many paths, points and turns, and what the two lists hold; then the outline
abbrev pub returned : ℕ → ℕ → ℕ → List ℤ → List ℕ → List ℤ → Shown
returned paths points turns c n o = (drawn paths points turns, c, n, o)

-- a refusal; both lists, of two and one, are as they came
abbrev pub refusal : ℕ → List ℤ → Shown
refusal n o = (refused n, pos 7 ∷ pos 7 ∷ [], 7 ∷ [], o)

-- lists to fill as long as those that are expected, each entry 7
abbrev pub lent : Case → Lent
lent c = record {
  coordinates = replicate (length c.expected.1) (pos 7);
  lengths = replicate (length c.expected.2) 7;
  store = replicate (2 * c.W) (pos 0);
  work = replicate (16 * (c.W + c.A + 1)) 0;
}

abbrev pub outline : Case → List ℤ
outline c = if c.walked then coordinates_of (walked_outline c.rect (points_of c.coords)) else []

abbrev pub shown : Case → Shown
shown c =
    let after : After = if c.closed then clip_closed c.A c.rect c.coords (lent c) else clip_open c.rect c.coords (lent c) in
    (after.answer, after.lists.coordinates, after.lists.lengths, outline c)
