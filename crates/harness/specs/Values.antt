-- The value of an exported function: 0 or the refusal's number, with the counts of a result in a list of their own. `present`: 0, 1, or 100 and the number.
use Rattle.std.specs.Prelude.{◌≡◌, List, [], ◌∷◌, Bool, ℕ, ◌+◌, ◌<◌, length, get_or, ltb, ℤ, if◌then◌else◌}
use Rattle.plane.specs.declared.rect.Rect64.{Rect64}
use Rattle.reference.specs.Entry.{Outcome, refused, drawn, Lent, After, filled, cleared, clip_path, Presence, unknown, yes, no}
use Rattle.rectclip.specs.Promises.{lent, Returned}

abbrev pub presence_value : Presence → ℕ
presence_value (unknown n) = 100 + n
presence_value yes = 1
presence_value no = 0

-- what an exported clipper leaves: its value, the four lists, and the counts
pub record Exported : Type 0 where
  pub value : ℕ
  pub lists : Lent
  pub counts : List ℕ

-- a list of counts shorter than three is too short like any other: 11, with store and work zero and the other lists as they came
abbrev pub counted_by : Lent → List ℕ → Outcome → Lent → Exported
counted_by before counts (refused n) after = record { value = n; lists = after; counts = counts }
counted_by before counts (drawn paths points turns) after =
    if ltb (length counts) 3 then record { value = 11; lists = cleared before.coordinates before.lengths before; counts = counts }
    else record { value = 0; lists = after; counts = filled (paths ∷ points ∷ turns ∷ []) counts }

unfoldable pub counted : Lent → List ℕ → After → Exported
counted before counts a = counted_by before counts a.answer a.lists

-- r is the value, and the lists are those of e
pub record Hands (e : Exported) (r : ℕ) (after : Lent) (numbers : List ℕ) : Type 0 where
  pub value : r ≡ e.value
  pub coordinates : after.coordinates ≡ e.lists.coordinates
  pub lengths : after.lengths ≡ e.lists.lengths
  pub store : after.store ≡ e.lists.store
  pub work : after.work ≡ e.lists.work
  pub counts : numbers ≡ e.counts

-- value 0: the leading entries hold as many paths with as many points as the first two counts say, and they have demand 3
abbrev pub ReturnedAt : Bool → Rect64 → List ℤ → ℕ → List ℤ → List ℕ → List ℕ → Type 0
ReturnedAt closed rect path r coordinates lengths counts = r ≡ 0 → Returned closed rect path (get_or counts 0 0) (get_or counts 1 0) coordinates lengths

-- ---- words of the private functions
abbrev pub uncounted_value : Outcome → ℕ
uncounted_value (refused n) = n
uncounted_value (drawn paths points turns) = 11

abbrev pub counted_value : Outcome → ℕ
counted_value (refused n) = n
counted_value (drawn paths points turns) = 0

abbrev pub counted_list : Outcome → List ℕ → List ℕ
counted_list (refused n) counts = counts
counted_list (drawn paths points turns) counts = filled (paths ∷ points ∷ turns ∷ []) counts

-- a call with counts shorter than three, whatever the lists of the result: its value, and the two working lists
pub record Uncounted (closed : Bool) (A : ℕ) (R : Rect64) (path store : List ℤ) (work : List ℕ) (v : ℕ) (store' : List ℤ) (work' : List ℕ) : Type 0 where
  pub hands : (coordinates : List ℤ) (lengths counts : List ℕ) → length counts < 3
      → Hands (counted (lent coordinates lengths store work) counts (clip_path closed A R path (lent coordinates lengths store work))) v (lent coordinates lengths store' work') counts
  pub none : v ≡ 0 → ⊥

pub record Counted (o : Outcome) (before : List ℕ) (r : ℕ) (after : List ℕ) : Type 0 where
  pub value : r ≡ counted_value o
  pub list : after ≡ counted_list o before
