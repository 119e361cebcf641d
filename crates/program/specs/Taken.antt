-- A line of the input, of document 01's sentence 'Lines end with a line feed, which the last may lack': what `take_held` takes of bytes at
-- hand, and what `take_line` takes of those and of the bytes that are read behind them.
use Rattle.std.specs.Prelude.{◌≡◌, Bool, true, false, ℕ, ◌+◌, ◌-◌, ◌≤◌, min, length, take, drop, eqb, Option, Some, None, if◌then◌else◌}
use mathlib.Core.List.{List, [], ◌∷◌, ◌++◌, Memᴰ}
use Rattle.std.proofs.lemmas.List.Edits.{sets}
use Rattle.std.specs.Io.KnownBytes.{Consumes}
use Rattle.program.specs.declared.input.Input.{Input}
use Rattle.program.specs.declared.input.Taken.{Taken}
use Rattle.program.specs.declared.input.Held.{Held}

-- ---- a line's bytes: those before the first line feed, or all; whether there is a line feed; and the bytes behind it
abbrev pub before_feed : List ℕ → List ℕ
before_feed [] = []
before_feed (b ∷ bs) =
    let rest = before_feed bs in
    if eqb b 10 then [] else b ∷ rest

abbrev pub has_feed : List ℕ → Bool
has_feed [] = false
has_feed (b ∷ bs) =
    let rest = has_feed bs in
    if eqb b 10 then true else rest

abbrev pub behind_feed : List ℕ → List ℕ
behind_feed [] = []
behind_feed (b ∷ bs) =
    let rest = behind_feed bs in
    if eqb b 10 then bs else rest

abbrev pub has_bytes : List ℕ → Bool
has_bytes [] = false
has_bytes (b ∷ bs) = true

-- ---- what is at hand
-- the bytes of the buffer from `at` to `end`; none where `at` is no less
abbrev pub at_hand : {N : ℕ} → Input N → List ℕ
at_hand i = take (i.end - i.at) (drop i.at i.buffer)

-- the buffer and the two places
abbrev pub parts : {N : ℕ} → Input N → List ℕ × ℕ × ℕ
parts i = (i.buffer, i.at, i.end)

-- how many bytes are taken: the line's, and its line feed
abbrev pub passed : List ℕ → ℕ
passed bytes = length (before_feed bytes) + (if has_feed bytes then 1 else 0)

-- what is taken of a line: how many of its bytes its list has, which has room for so many and had `count`; whether the line has ended
abbrev pub held : List ℕ → ℕ → ℕ → Taken
held bytes room count = record { count = count + min (length (before_feed bytes)) (room - count); ended = has_feed bytes }

-- of any bytes: the line's are stored from entry `count` on, as far as the list has room
pub record TakesHeld (hand line : List ℕ) (count : ℕ) (r : Held) (after : List ℕ) : Type 0 where
  pub used : r.used ≡ passed hand
  pub is : r.line ≡ held hand (length line) count
  pub line_after : after ≡ sets line count (before_feed hand)

-- of those at hand: what is behind the line feed is left
pub record TakesAtHand (hand line : List ℕ) (count : ℕ) (r : Taken) (hand' after : List ℕ) : Type 0 where
  pub is : r ≡ held hand (length line) count
  pub left : hand' ≡ behind_feed hand
  pub line_after : after ≡ sets line count (before_feed hand)

-- the bytes that a read brings are at hand
pub record ReadsMore (ahead ahead' : Option (List ℕ)) (r : ℕ) (hand' : List ℕ) : Type 0 where
  pub count : r ≡ length hand'
  pub given : Consumes ahead ahead' hand'

-- ---- a line
-- of these bytes and a list of so many: the line, where there is a byte. One that is too long for its list is cut
abbrev pub line_of : List ℕ → ℕ → Option Taken
line_of bytes room = if has_bytes bytes then Some (record { count = min (length (before_feed bytes)) room; ended = has_feed bytes }) else None

-- by the bytes that came, where any were read: the next ones of the reader, where it says which it has (`ahead`, and `ahead'` afterwards). Of standard
-- input the rules leave open which they are, and all else follows from them and the bytes at hand.
-- What is left at hand stands behind the line feed; where a whole line is at hand, nothing is read
pub record TakesLine (ahead ahead' : Option (List ℕ)) (hand line : List ℕ) (r : Option Taken) (hand' line' : List ℕ) : Type 0 where
  pub came : List ℕ
  pub given : Consumes ahead ahead' came
  pub is : r ≡ line_of (hand ++ came) (length line)
  pub line_after : line' ≡ sets line 0 (before_feed (hand ++ came))
  pub left : hand' ≡ behind_feed (hand ++ came)
  pub unread : has_feed hand ≡ true → came ≡ []

-- where a whole line is at hand the buffer and the end of its bytes stay as they were, and the first byte at hand is the one behind the line feed
pub record Unread {N : ℕ} (i i' : Input N) : Type 0 where
  pub at : i'.at ≡ i.at + passed (at_hand i)
  pub end : i'.end ≡ i.end
  pub buffer : i'.buffer ≡ i.buffer

-- whatever came: the line lies within its list, no byte of it is a line feed, the other entries are as they came, and so are all where there is none
pub record LineIn (line : List ℕ) (count : ℕ) (line' : List ℕ) : Type 0 where
  pub fits : count ≤ length line'
  pub no_feed : (b : ℕ) → Memᴰ b (take count line') → b ≡ 10 → ⊥
  pub others : drop count line' ≡ drop count line

abbrev pub IsLine : List ℕ → Option Taken → List ℕ → Type 0
IsLine line None line' = line' ≡ line
IsLine line (Some t) line' = LineIn line t.count line'
