-- Bytes put one after another: numbers, each with a comma before it, and whole lines. Assumes nothing.
use Rattle.std.specs.Prelude.{Option, Some, None, if◌then◌else◌}
use mathlib.Core.Path.{◌≡◌, refl, sym, ◌∙◌, ap, subst}
use mathlib.Core.Bool.{Bool, true, false}
use mathlib.Core.List.{List, [], ◌∷◌, ◌++◌, append-nil, append_assoc}
use Prim.Native.Nat.{ℕ, suc, ◌+◌, ◌-◌, ◌<◌, ◌≤◌}
use native.Mathlib.Omega.{arith}
use native.Mathlib.Numerals.{add-one}
use lib.ListN.{length, take, drop, get_or, length-append, drop_of_length-le, take-append-drop}
use lib.Dec.{leb}
use lib.IntN.{ℤ, pos}
use lib.Seq.{sets-eq, length-sets, drop-cons, drop-drop, take-suc, take_all}
use borrow.Author.Tests.{le-leb, lt-leb, leb-true, leb-false}
use Rattle.std.specs.Option.{is_some}
use Rattle.text.specs.declared.line.Line.{Line}
use Rattle.text.specs.Lines.{HasRoom, Puts}
use Rattle.text.specs.Decimal.{signed_decimal}
use Rattle.text.specs.Printing.{comma_numbers, line_of}
use Rattle.text.specs.Putting.{Put, room_after}
use Rattle.text.specs.Written.{Written}
use Rattle.text.proofs.Stores.{sets_append, sets_front}

-- ---- bytes put behind those that a line has
put_kept : {x y : Line} {xs : List ℕ} → Puts x y xs → length y.out.now ≡ length x.out.now
put_kept {x} {y} {xs} p = ap length p.put.list_after ∙ length-sets x.out.now x.end xs

pub puts_then : {x y z : Line} {xs ys : List ℕ} → Puts x y xs → Puts y z ys → Puts x z (xs ++ ys)
puts_then {x} {y} {z} {xs} {ys} p q =
    record {
      put = record {
        list_after = q.put.list_after ∙ rw (p.put.ends, p.put.list_after) (sym (sets_append xs ys x.out.now x.end));
        ends = omega (arith, p.put.ends, q.put.ends, length-append xs ys);
      };
      same = q.same ∙ p.same;
    }

-- the room for both is room for the second behind the first
pub room_then : {x y : Line} {xs : List ℕ} (ys : List ℕ) → HasRoom x (xs ++ ys) → Puts x y xs → HasRoom y ys
room_then {x} {y} {xs} ys h p = omega (arith, h, length-append xs ys, p.put.ends, put_kept p)

-- bytes in place of as many others
pub put_part : {xs l : List ℕ} {at : ℕ} {k : List ℕ} → k ≡ xs → at + length xs ≤ length l
    → Put xs at l (at + length xs) (take at l ++ (k ++ drop (at + length xs - at) (drop at l)))
put_part {xs} {l} {at} {k} q h =
    let m : at + length xs - at ≡ length xs = omega arith in
    record {
      list_after = (λ i. take at l ++ (q i ++ drop (m i) (drop at l))) ∙ ap (λ (r : List ℕ). take at l ++ (xs ++ r)) (drop-drop (length xs) at l) ∙ sym (append_assoc (take at l) xs (drop (at + length xs) l)) ∙ sym (sets-eq xs l at h);
      ends = refl;
    }

-- ---- whether numbers fit
comma_drop : (list : List ℤ) (i : ℕ) → i < length list → comma_numbers (drop i list) ≡ 44 ∷ signed_decimal (get_or list i (pos 0)) ++ comma_numbers (drop (i + 1) list)
comma_drop list i h = ap comma_numbers (drop-cons list i (pos 0) h ∙ ap (λ (k : ℕ). get_or list i (pos 0) ∷ drop k list) (sym (add-one i)))

comma_length : (list : List ℤ) (i : ℕ) → i < length list → length (comma_numbers (drop i list)) ≡ suc (length (signed_decimal (get_or list i (pos 0))) + length (comma_numbers (drop (i + 1) list)))
comma_length list i h = ap length (comma_drop list i h) ∙ ap suc (length-append (signed_decimal (get_or list i (pos 0))) (comma_numbers (drop (i + 1) list)))

room_full : {room need : ℕ} → room < need → None ≡ room_after room need
unfolding room_after
room_full h = rw (lt-leb _ _ h) refl

room_less : (room a b : ℕ) → a ≤ room → room_after room (a + b) ≡ room_after (room - a) b
unfolding room_after
room_less room a b h = go (leb b (room - a)) refl
  where
    go : (t : Bool) → leb b (room - a) ≡ t → (if leb (a + b) room then Some (room - (a + b)) else None) ≡ (if leb b (room - a) then Some (room - a - b) else None)
    go true e =
        let g : b ≤ room - a = leb-true _ _ e in
        let q : room - (a + b) ≡ room - a - b = omega arith in
        rw (e, le-leb (a + b) room (omega arith)) (ap Some q)
    go false e = let g : room - a < b = leb-false _ _ e in rw (e, lt-leb (a + b) room (omega arith)) refl

pub record RoomTo (list : List ℤ) (room left i : ℕ) : Type 0 where
  pub goal : room_after left (length (comma_numbers (drop i list))) ≡ room_after room (length (comma_numbers list))
  pub within : i ≤ length list

pub room_start : (list : List ℤ) (room : ℕ) → RoomTo list room room 0
room_start list room = record { goal = refl; within = omega arith }

module _ {list : List ℤ} {room left i : ℕ} (s : RoomTo list room left i) where
  module _ {need : ℕ} (h : i < length list) (e : need ≡ length (signed_decimal (get_or list i (pos 0)))) where
    pub room_out : left ≤ need → None ≡ room_after room (length (comma_numbers list))
    room_out g =
        let q : left < length (comma_numbers (drop i list)) = omega (arith, comma_length list i h) in
        room_full q ∙ s.goal

    pub room_again : need < left → RoomTo list room (left - (need + 1)) (i + 1)
    room_again g =
        let q : length (comma_numbers (drop i list)) ≡ (need + 1) + length (comma_numbers (drop (i + 1) list)) = omega (arith, comma_length list i h) in
        record {
          goal = sym (room_less left (need + 1) (length (comma_numbers (drop (i + 1) list))) (omega arith)) ∙ sym (ap (room_after left) q) ∙ s.goal;
          within = omega arith;
        }

  pub room_end : length list ≤ i → Some left ≡ room_after room (length (comma_numbers list))
  unfolding room_after
  room_end h =
      let e : left - 0 ≡ left = omega arith in
      sym (ap (λ (k : List ℤ). room_after left (length (comma_numbers k))) (drop_of_length-le list h) ∙ rw (le-leb 0 left (omega arith)) (ap Some e)) ∙ s.goal

-- what the answers say
pub room_full_is : (room need : ℕ) → None ≡ room_after room need → room < need
unfolding room_after
room_full_is room need e = go (leb need room) refl e
  where
    go : (t : Bool) → leb need room ≡ t → None ≡ (if t then Some (room - need) else None) → room < need
    go true p q = absurd (let y : ◌≡◌ {A = ℕ} 0 1 = cc in omega arith)
    go false p q = leb-false _ _ p

pub record Fitted (room need more : ℕ) : Type 0 where
  pub fits : need ≤ room
  pub left : more ≡ room - need

pub room_left_is : (room need : ℕ) {more : ℕ} → Some more ≡ room_after room need → Fitted room need more
unfolding room_after
room_left_is room need {more} e = go (leb need room) refl e
  where
    go : (t : Bool) → leb need room ≡ t → Some more ≡ (if t then Some (room - need) else None) → Fitted room need more
    go true p q = record { fits = leb-true _ _ p; left = cc }
    go false p q = absurd (let y : ◌≡◌ {A = ℕ} 0 1 = cc in omega arith)

-- ---- the numbers one after another
pub comma_append : (xs ys : List ℤ) → comma_numbers (xs ++ ys) ≡ comma_numbers xs ++ comma_numbers ys
comma_append [] ys = refl
comma_append (x ∷ xs) ys = ap (λ (l : List ℕ). 44 ∷ signed_decimal x ++ l) (comma_append xs ys) ∙ ap (λ (l : List ℕ). 44 ∷ l) (sym (append_assoc (signed_decimal x) (comma_numbers xs) (comma_numbers ys)))

pub commas_length : (xs ys : List ℤ) → length (comma_numbers (xs ++ ys)) ≡ length (comma_numbers xs) + length (comma_numbers ys)
commas_length xs ys = ap length (comma_append xs ys) ∙ length-append (comma_numbers xs) (comma_numbers ys)

-- so many bytes and so many more fit where the second fit into what the first leave
is_left : (room need : ℕ) → is_some (room_after room need) ≡ leb need room
unfolding room_after
is_left room need = go (leb need room)
  where
    go : (t : Bool) → is_some (if t then Some (room - need) else None) ≡ t
    go true = refl
    go false = refl

pub fit_left : (room a b : ℕ) {more : ℕ} → Some more ≡ room_after room a → is_some (room_after more b) ≡ leb (a + b) room
fit_left room a b e =
    let f = room_left_is room a e in
    ap (λ (k : ℕ). is_some (room_after k b)) f.left ∙ sym (ap is_some (room_less room a b f.fits)) ∙ is_left room (a + b)

pub fit_none : (room a b : ℕ) → None ≡ room_after room a → false ≡ leb (a + b) room
fit_none room a b e = let h = room_full_is room a e in sym (lt-leb (a + b) room (omega (arith, h)))

pub record PutTo (list : List ℤ) (x y : Line) (i : ℕ) : Type 0 where
  pub puts : Puts x y (comma_numbers (take i list))
  pub within : i ≤ length list

pub puts_start : (list : List ℤ) (x : Line) → PutTo list x x 0
puts_start list x = record { puts = record { put = record { list_after = refl; ends = omega arith }; same = refl }; within = omega arith }

comma_take : (list : List ℤ) (i : ℕ) → i < length list → comma_numbers (take (i + 1) list) ≡ comma_numbers (take i list) ++ 44 ∷ signed_decimal (get_or list i (pos 0))
comma_take list i h =
    ap (λ (k : ℕ). comma_numbers (take k list)) (add-one i) ∙ ap comma_numbers (take-suc list i (pos 0) h) ∙ comma_append (take i list) (get_or list i (pos 0) ∷ [])
    ∙ ap (λ (l : List ℕ). comma_numbers (take i list) ++ 44 ∷ l) (append-nil (signed_decimal (get_or list i (pos 0))))

module _ {list : List ℤ} {x y : Line} {i : ℕ} (s : PutTo list x y i) where
  pub puts_room : HasRoom x (comma_numbers list) → i < length list → HasRoom y (44 ∷ signed_decimal (get_or list i (pos 0)))
  puts_room r h =
      let e : comma_numbers list ≡ comma_numbers (take i list) ++ comma_numbers (drop i list) = ap comma_numbers (sym (take-append-drop i list)) ∙ comma_append (take i list) (drop i list) in
      let q : HasRoom y (comma_numbers (drop i list)) = room_then (comma_numbers (drop i list)) (subst (HasRoom x) e r) s.puts in
      omega (arith, comma_length list i h, q)

  pub puts_again : {z : Line} → i < length list → Puts y z (44 ∷ signed_decimal (get_or list i (pos 0))) → PutTo list x z (i + 1)
  puts_again {z} h p = record { puts = subst (Puts x z) (sym (comma_take list i h)) (puts_then s.puts p); within = omega arith }

  pub puts_end : length list ≤ i → Puts x y (comma_numbers list)
  puts_end h = subst (λ (l : List ℤ). Puts x y (comma_numbers l)) (take_all i list h) s.puts

-- ---- a line
line_parts : (letter : ℕ) (xs ys : List ℤ) → line_of letter (xs ++ ys) ≡ (letter ∷ []) ++ (comma_numbers xs ++ (comma_numbers ys ++ 10 ∷ []))
line_parts letter xs ys = ap (λ (l : List ℕ). letter ∷ l ++ 10 ∷ []) (comma_append xs ys) ∙ ap (λ (l : List ℕ). letter ∷ l) (append_assoc (comma_numbers xs) (comma_numbers ys) (10 ∷ []))

pub line_length : (letter : ℕ) (xs ys : List ℤ) → length (line_of letter (xs ++ ys)) ≡ length (comma_numbers xs) + length (comma_numbers ys) + 2
line_length letter xs ys =
    omega (arith, length-append (comma_numbers (xs ++ ys)) (10 ∷ []), ap length (comma_append xs ys), length-append (comma_numbers xs) (comma_numbers ys))

pub written_none : (line out : List ℕ) → length out < length line → Written line out None out
written_none line out h = record { count = rw (lt-leb _ _ h) refl; list_after = rw (lt-leb _ _ h) refl; within = tt }

pub written_all : {line out : List ℕ} {r : ℕ} {after : List ℕ} → length line ≤ length out → Put line 0 out r after → Written line out (Some r) after
written_all {line} {out} h p =
    let n : 0 + length line ≡ length line = omega arith in
    record {
      count = ap Some (p.ends ∙ n) ∙ rw (le-leb (length line) (length out) h) refl;
      list_after = p.list_after ∙ sets_front line out h ∙ rw (le-leb (length line) (length out) h) refl;
      within = omega (arith, p.ends, ap length p.list_after, length-sets out 0 line);
    }

-- a path's line, by its number and its count as they came
pub written_head : (letter : ℕ) {x y a b : ℤ} (zs : List ℤ) {out : List ℕ} {r : Option ℕ} {after : List ℕ} → x ≡ a → y ≡ b
    → Written (line_of letter (x ∷ y ∷ zs)) out r after → Written (line_of letter (a ∷ b ∷ zs)) out r after
written_head letter {x} {y} {a} {b} zs {out} {r} {after} p q w =
    subst (λ (b : ℤ). Written (line_of letter (a ∷ b ∷ zs)) out r after) q (subst (λ (a : ℤ). Written (line_of letter (a ∷ y ∷ zs)) out r after) p w)

module _ (letter : ℕ) (head tail : List ℤ) {x a : Line} (p : Puts x a (letter ∷ [])) (h : HasRoom x (line_of letter (head ++ tail))) where
  behind_letter : HasRoom a (comma_numbers head ++ (comma_numbers tail ++ 10 ∷ []))
  behind_letter = room_then (comma_numbers head ++ (comma_numbers tail ++ 10 ∷ [])) (subst (HasRoom x) (line_parts letter head tail) h) p

  pub head_room : HasRoom a (comma_numbers head)
  head_room = omega (arith, behind_letter, length-append (comma_numbers head) (comma_numbers tail ++ 10 ∷ []))

  module _ {b : Line} (q : Puts a b (comma_numbers head)) where
    pub tail_room : HasRoom b (comma_numbers tail)
    tail_room = omega (arith, room_then (comma_numbers tail ++ 10 ∷ []) behind_letter q, length-append (comma_numbers tail) (10 ∷ []))

    module _ {c : Line} (r : Puts b c (comma_numbers tail)) where
      pub feed_room : HasRoom c (10 ∷ [])
      feed_room = room_then (10 ∷ []) (room_then (comma_numbers tail ++ 10 ∷ []) behind_letter q) r

      pub line_put : {d : Line} → Puts c d (10 ∷ []) → Puts x d (line_of letter (head ++ tail))
      line_put {d} s = subst (Puts x d) (sym (line_parts letter head tail)) (puts_then p (puts_then q (puts_then r s)))

-- the caller's list is the line's
pub line_ends : {x y : Line} {xs after : List ℕ} → Puts x y xs → after ≡ y.out.now → Put xs x.end x.out.now y.end after
line_ends {x} {y} {xs} p e = subst (Put xs x.end x.out.now y.end) (sym e) p.put
