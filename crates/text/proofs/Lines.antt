-- A line's letter and the numbers behind it are the definition's `request`. Assumes nothing.
use Rattle.std.specs.Prelude.{Option, Some, None, if◌then◌else◌}
use Rattle.std.specs.List.{onto_first}
use mathlib.Core.Path.{◌≡◌, refl, sym, ◌∙◌, ap, subst}
use mathlib.Core.Bool.{Bool, true, false}
use mathlib.Core.List.{List, [], ◌∷◌}
use Prim.Native.Nat.{ℕ, ◌+◌, ◌<◌, ◌≤◌}
use native.Mathlib.Omega.{arith}
use lib.ListN.{length, get_or}
use lib.Dec.{eqb}
use lib.IntN.{ℤ, pos}
use lib.Seq.{sets}
use borrow.Author.Tests.{eqb-true, eq-eqb, ne_eqb, lt-ltb, le-ltb}
use Rattle.plane.specs.Basics.{Try, refuse, ok, ◌>>=◌}
use Rattle.plane.specs.Rectangle.{rect}
use Rattle.text.specs.declared.reading.Request.{Request as Answer}
use Rattle.text.specs.declared.reading.Request.TheVariants.{Rectangle, Path}
use Rattle.text.specs.Decimal.{field}
use Rattle.text.specs.Reading.{Request, unreadable, rectangle_of, fields, numbers, asked, asked_by, request}
use Rattle.text.specs.Scanning.{counted, leading, behind, leading_behind, path_asked, rectangle_asked}
use Rattle.text.specs.Asked.{Asks, told_path, told, tells, led_by}
use Rattle.text.proofs.Stores.{sets_lead}

no : {A : Type 0} → ◌≡◌ {A = ℕ} 0 1 → A
no e = absurd (omega arith)

-- no numbers, and the list is as it came
kept : (list : List ℤ) → list ≡ led_by [] list
kept list = sets_lead [] list

-- ---- behind the letter
-- where all fields are numbers, those before the first that is none are all
numbers_leading : (fs : List (List ℕ)) (zs : List ℤ) → numbers fs ≡ ok zs → leading fs ≡ zs
numbers_leading [] zs e = cc
numbers_leading (f ∷ fs) zs e = go (numbers_leading fs) (field f) refl (numbers fs) refl e
  where
    go : ((zs : List ℤ) → numbers fs ≡ ok zs → leading fs ≡ zs)
        → (x : Option ℤ) → field f ≡ x → (t : Try (List ℤ)) → numbers fs ≡ t
        → (elim x [ None ↦ refuse 12 | Some z ↦ t >>= λ zs. ok (z ∷ zs) ]) ≡ ok zs
        → (elim x [ None ↦ [] | Some z ↦ z ∷ leading fs ]) ≡ zs
    go ih None p t q e = no (cc)
    go ih (Some z) p (refuse k) q e = no (cc)
    go ih (Some z) p (ok ys) q e = let u : leading fs ≡ ys = ih ys q in cc

behind_leading : (bs : List ℕ) (zs : List ℤ) → behind bs ≡ ok zs → leading_behind bs ≡ zs
behind_leading [] zs e = cc
behind_leading (c ∷ bs) zs e = go (eqb c 44) e
  where
    go : (t : Bool) → (if t then numbers (fields bs) else refuse 12) ≡ ok zs → (if t then leading (fields bs) else []) ≡ zs
    go true e = numbers_leading (fields bs) zs e
    go false e = no (cc)

-- ---- a path
pub path_read : (closed : Bool) (line : List ℕ) (list after : List ℤ) (k : ℕ) → Some k ≡ counted 0 (behind line) → after ≡ sets list 0 (leading_behind line)
    → Asks (path_asked closed (behind line)) list (Some (Path closed k)) after
path_read closed line list after k e a = go (behind line) refl e
  where
    go : (t : Try (List ℤ)) → behind line ≡ t → Some k ≡ counted 0 t → Asks (path_asked closed t) list (Some (Path closed k)) after
    go (refuse n) p q = no (cc)
    go (ok zs) p q =
        let h : k ≡ 0 + length zs = cc in
        record { is = ap (told_path closed) (omega arith); list_after = a ∙ ap (sets list 0) (behind_leading line zs p) ∙ sets_lead zs list }

-- ---- the rectangle
abbrev pub zeros : List ℤ
zeros = pos 0 ∷ pos 0 ∷ pos 0 ∷ pos 0 ∷ []

pub rectangle_read : (line : List ℕ) (k : ℕ) (four : List ℤ) → Some k ≡ counted 0 (behind line) → k ≡ 4 → four ≡ sets zeros 0 (leading_behind line)
    → told (Some (Rectangle (rect (get_or four 0 (pos 0)) (get_or four 1 (pos 0)) (get_or four 2 (pos 0)) (get_or four 3 (pos 0))))) ≡ tells (rectangle_asked (behind line))
rectangle_read line k four e h a = go (behind line) refl e
  where
    all : (zs : List ℤ) → length zs ≡ 4 → four ≡ sets zeros 0 zs
        → told (Some (Rectangle (rect (get_or four 0 (pos 0)) (get_or four 1 (pos 0)) (get_or four 2 (pos 0)) (get_or four 3 (pos 0))))) ≡ tells (rectangle_of zs)
    all [] h a = absurd (omega arith)
    all (l ∷ []) h a = absurd (omega arith)
    all (l ∷ t ∷ []) h a = absurd (omega arith)
    all (l ∷ t ∷ r ∷ []) h a = absurd (omega arith)
    all (l ∷ t ∷ r ∷ b ∷ []) h a = rw a refl
    all (l ∷ t ∷ r ∷ b ∷ x ∷ more) h a = absurd (omega arith)

    go : (t : Try (List ℤ)) → behind line ≡ t → Some k ≡ counted 0 t
        → told (Some (Rectangle (rect (get_or four 0 (pos 0)) (get_or four 1 (pos 0)) (get_or four 2 (pos 0)) (get_or four 3 (pos 0))))) ≡ tells (rectangle_asked t)
    go (refuse n) p q = no (cc)
    go (ok zs) p q = let g : k ≡ 0 + length zs = cc in all zs (omega arith) (a ∙ ap (sets zeros 0) (behind_leading line zs p))

-- ---- the whole line
asked_comma : (first : Bool) (b : ℕ) (t : Try (List ℤ)) → eqb b 44 ≡ true → asked first b t ≡ unreadable
unfolding asked
asked_comma first b t e = rw (eqb-true b 44 e) (go first t)
  where
    go : (first : Bool) (t : Try (List ℤ)) → asked first 44 t ≡ unreadable
    go first (refuse n) = refl
    go true (ok zs) = refl
    go false (ok zs) = refl

asked_two : (first : Bool) (b c : ℕ) (fs : List (List ℕ)) → asked_by first (onto_first b (onto_first c fs)) ≡ unreadable
asked_two first b c [] = refl
asked_two first b c (f ∷ fs) = refl

asked_line : (first : Bool) (b : ℕ) (bs : List ℕ) → asked_by first (fields (b ∷ bs)) ≡ asked first b (behind bs)
unfolding asked
asked_line first b bs = go (eqb b 44) refl bs
  where
    second : (c : ℕ) (cs : List ℕ) (t : Bool) → asked_by first (onto_first b (if t then [] ∷ fields cs else onto_first c (fields cs))) ≡ asked first b (if t then numbers (fields cs) else refuse 12)
    second c cs true = refl
    second c cs false = asked_two first b c (fields cs)

    go : (t : Bool) → eqb b 44 ≡ t → (bs : List ℕ) → asked_by first (if t then [] ∷ fields bs else onto_first b (fields bs)) ≡ asked first b (behind bs)
    go true e bs = sym (asked_comma first b (behind bs) e)
    go false e [] = refl
    go false e (c ∷ cs) = second c cs (eqb c 44)

module _ (first : Bool) (line : List ℕ) where
  pub request_empty : length line ≡ 0 → request first line ≡ unreadable
  unfolding request
  request_empty e = go line e
    where
      go : (line : List ℕ) → length line ≡ 0 → request first line ≡ unreadable
      go [] e = refl
      go (b ∷ bs) e = absurd (omega arith)

  pub request_long : 4096 < length line → request first line ≡ unreadable
  unfolding request
  request_long h = rw (lt-ltb 4096 (length line) h) refl

  pub request_is : {b : ℕ} {bs : List ℕ} → line ≡ b ∷ bs → length line ≤ 4096 → request first line ≡ asked first b (behind bs)
  unfolding request
  request_is {b} {bs} e g = rw (le-ltb 4096 (length line) g) (ap (λ (l : List ℕ). asked_by first (fields l)) e ∙ asked_line first b bs)

-- what the letter makes of the numbers
module _ (letter : ℕ) (t : Try (List ℤ)) where
  pub asked_rectangle : letter ≡ 82 → asked true letter t ≡ rectangle_asked t
  unfolding asked
  asked_rectangle e = go t
    where
      go : (t : Try (List ℤ)) → asked true letter t ≡ rectangle_asked t
      go (refuse n) = refl
      go (ok zs) = rw (eq-eqb letter 82 e) refl

  pub asked_no_rectangle : (letter ≡ 82 → ⊥) → asked true letter t ≡ unreadable
  unfolding asked
  asked_no_rectangle e = go t
    where
      go : (t : Try (List ℤ)) → asked true letter t ≡ unreadable
      go (refuse n) = refl
      go (ok zs) = rw (ne_eqb letter 82 e) refl

  pub asked_closed : letter ≡ 67 → asked false letter t ≡ path_asked true t
  unfolding asked
  asked_closed e = go t
    where
      go : (t : Try (List ℤ)) → asked false letter t ≡ path_asked true t
      go (refuse n) = refl
      go (ok zs) = rw (eq-eqb letter 67 e) refl

  pub asked_open : letter ≡ 76 → asked false letter t ≡ path_asked false t
  unfolding asked
  asked_open e = go t
    where
      go : (t : Try (List ℤ)) → asked false letter t ≡ path_asked false t
      go (refuse n) = refl
      go (ok zs) = rw e refl

  pub asked_other : (letter ≡ 67 → ⊥) → (letter ≡ 76 → ⊥) → asked false letter t ≡ unreadable
  unfolding asked
  asked_other e g = go t
    where
      go : (t : Try (List ℤ)) → asked false letter t ≡ unreadable
      go (refuse n) = refl
      go (ok zs) = rw (ne_eqb letter 67 e, ne_eqb letter 76 g) refl

pub nothing_asked : {q : Request} (list : List ℤ) → q ≡ unreadable → Asks q list None list
nothing_asked list e = subst (λ (q : Request). Asks q list None list) (sym e) (record { is = refl; list_after = kept list })

pub empty_asked : (first : Bool) (line : List ℕ) (list : List ℤ) → length line ≡ 0 → Asks (request first line) list None list
empty_asked first line list e = nothing_asked list (request_empty first line e)

pub rectangle_asks : (t : Try (List ℤ)) (list : List ℤ) {r : Option Answer} → told r ≡ tells (rectangle_asked t) → Asks (rectangle_asked t) list r list
rectangle_asks (refuse n) list e = record { is = e; list_after = kept list }
rectangle_asks (ok zs) list {r} e = go zs e
  where
    go : (zs : List ℤ) → told r ≡ tells (rectangle_of zs) → Asks (rectangle_of zs) list r list
    go [] e = record { is = e; list_after = kept list }
    go (l ∷ []) e = record { is = e; list_after = kept list }
    go (l ∷ t ∷ []) e = record { is = e; list_after = kept list }
    go (l ∷ t ∷ r ∷ []) e = record { is = e; list_after = kept list }
    go (l ∷ t ∷ r ∷ b ∷ []) e = record { is = e; list_after = kept list }
    go (l ∷ t ∷ r ∷ b ∷ x ∷ more) e = record { is = e; list_after = kept list }

-- ---- the line's ways
asks_by : {q p : Request} {list after : List ℤ} {r : Option Answer} → q ≡ p → Asks p list r after → Asks q list r after
asks_by {q} {p} {list} {after} {r} e a = subst (λ (q : Request). Asks q list r after) (sym e) a

module _ {first : Bool} {line : List ℕ} {letter : ℕ} {bs : List ℕ} (list : List ℤ) (e : line ≡ letter ∷ bs) (g : length line ≤ 4096) where
  request_as : (t : Bool) → first ≡ t → request first line ≡ asked t letter (behind bs)
  request_as t f = request_is first line e g ∙ ap (λ (t : Bool). asked t letter (behind bs)) f

  pub line_rectangle : {r : Option Answer} → first ≡ true → letter ≡ 82 → told r ≡ tells (rectangle_asked (behind bs)) → Asks (request first line) list r list
  line_rectangle f l q = asks_by (request_as true f ∙ asked_rectangle _ (behind bs) l) (rectangle_asks (behind bs) list q)

  pub line_no_rectangle : first ≡ true → (letter ≡ 82 → ⊥) → Asks (request first line) list None list
  line_no_rectangle f l = nothing_asked list (request_as true f ∙ asked_no_rectangle _ (behind bs) l)

  pub line_closed : {r : Option Answer} {after : List ℤ} → first ≡ false → letter ≡ 67 → Asks (path_asked true (behind bs)) list r after → Asks (request first line) list r after
  line_closed f l a = asks_by (request_as false f ∙ asked_closed _ (behind bs) l) a

  pub line_open : {r : Option Answer} {after : List ℤ} → first ≡ false → letter ≡ 76 → Asks (path_asked false (behind bs)) list r after → Asks (request first line) list r after
  line_open f l a = asks_by (request_as false f ∙ asked_open _ (behind bs) l) a

  pub line_other : first ≡ false → (letter ≡ 67 → ⊥) → (letter ≡ 76 → ⊥) → Asks (request first line) list None list
  line_other f l m = nothing_asked list (request_as false f ∙ asked_other _ (behind bs) l m)
