-- Four bytes to a number: what the loops over bytes have read or put so far. Assumes nothing.
use mathlib.Core.Path.{◌≡◌, refl, sym, ◌∙◌, ap}
use mathlib.Core.List.{List, [], ◌∷◌, ◌++◌, map}
use Prim.Native.Nat.{ℕ, zero, suc, ◌+◌, ◌*◌, ◌/◌, ◌<◌, ◌≤◌}
use native.Mathlib.Omega.{arith}
use native.Mathlib.Numerals.{add-one}
use lib.ListN.{length, take, drop, get_or, set, length-append, length-drop, length-map, get_or-map}
use lib.Seq.{sets, sets-eq, take-suc, take_at, drop_at, drop-drop, take_all, length-take-le}
use lib.IntN.{ℤ, pos}
use Rattle.reference.specs.Entry.{filled}
use Rattle.reference.specs.Exported.{word, signed, words, read_words}
use Rattle.firmware.specs.Words.{word_at}

-- ---- bytes that are put
pub put_four : (l : List ℕ) (at a b c d : ℕ) → set (set (set (set l at a) (at + 1) b) (at + 2) c) (at + 3) d ≡ sets l at (a ∷ b ∷ c ∷ d ∷ [])
put_four l at a b c d =
    let p : at + 1 ≡ suc at = omega arith in
    let q : at + 2 ≡ suc (suc at) = omega arith in
    let r : at + 3 ≡ suc (suc (suc at)) = omega arith in
    λ i. set (set (set (set l at a) (p i) b) (q i) c) (r i) d

pub words_length : (ns : List ℕ) → length (words ns) ≡ 4 * length ns
words_length [] = refl
words_length (n ∷ ns) = let e = words_length ns in omega arith

words_append : (ns ms : List ℕ) → words (ns ++ ms) ≡ words ns ++ words ms
words_append [] ms = refl
words_append (n ∷ ns) ms = ap (λ (l : List ℕ). word n ++ l) (words_append ns ms)

-- a run behind the filled part
module _ {A : Type 0} where
  pub fill_more : (xs ys l : List A) (at : ℕ) → length xs ≡ at → at + length ys ≤ length l → sets (filled xs l) at ys ≡ filled (xs ++ ys) l
  fill_more xs ys l at e h =
      let long : length (filled xs l) ≡ length l = length-append xs (drop (length xs) l) ∙ omega (arith, length-drop (length xs) l) in
      let rest : drop (at + length ys) (filled xs l) ≡ drop (length (xs ++ ys)) l =
      sym (drop-drop (length ys) at (filled xs l)) ∙ ap (drop (length ys)) (drop_at xs (drop (length xs) l) at e) ∙ drop-drop (length ys) (length xs) l ∙ ap (λ (k : ℕ). drop k l) (sym (length-append xs ys)) in
      sets-eq ys (filled xs l) at (omega arith)
      ∙ (λ i. take_at xs (drop (length xs) l) at e i ++ ys ++ rest i)

  pub fill_length : (xs l : List A) → length xs ≤ length l → length (filled xs l) ≡ length l
  fill_length xs l h = length-append xs (drop (length xs) l) ∙ omega (arith, length-drop (length xs) l)

-- the first i of the numbers ns are put
pub record PutTo (ns before out : List ℕ) (i : ℕ) : Type 0 where
  pub goal : out ≡ filled (words (take i ns)) before
  pub within : i ≤ length ns
  pub room : 4 * length ns ≤ length before

pub put_start : (ns before : List ℕ) → 4 * length ns ≤ length before → PutTo ns before before 0
put_start ns before h = record { goal = refl; within = omega arith; room = h }

module _ {ns before out : List ℕ} {i : ℕ} (s : PutTo ns before out i) where
  so_far : length (words (take i ns)) ≡ 4 * i
  so_far = words_length (take i ns) ∙ ap (λ (k : ℕ). 4 * k) (length-take-le i ns s.within)

  pub put_length : length out ≡ length before
  put_length = ap length s.goal ∙ fill_length (words (take i ns)) before (omega (arith, so_far, s.within, s.room))

  pub put_room : i < length ns → 4 * i + 4 ≤ length out
  put_room h = omega (arith, put_length, s.room)

  pub put_again : (d : ℕ) {n : ℕ} {after : List ℕ} → i < length ns → n ≡ get_or ns i d → after ≡ sets out (4 * i) (word n) → PutTo ns before after (i + 1)
  put_again d {n} {after} h e a =
      let one : take (i + 1) ns ≡ take i ns ++ n ∷ [] = ap (λ (k : ℕ). take k ns) (add-one i) ∙ take-suc ns i d h ∙ ap (λ (k : ℕ). take i ns ++ k ∷ []) (sym e) in
      record {
        goal =
            a ∙ ap (λ (l : List ℕ). sets l (4 * i) (word n)) s.goal
            ∙ fill_more (words (take i ns)) (word n) before (4 * i) so_far (omega (arith, s.room))
            ∙ ap (λ (l : List ℕ). filled l before) (sym (ap words one ∙ words_append (take i ns) (n ∷ [])));
        within = omega arith;
        room = s.room;
      }

  pub put_end : length ns ≤ i → out ≡ filled (words ns) before
  put_end h = s.goal ∙ ap (λ (l : List ℕ). filled (words l) before) (take_all i ns h)

-- the same for what numbers stand for
module _ {A : Type 0} (low : A → ℕ) (xs : List A) where
  pub items_start : {before : List ℕ} → 4 * length xs ≤ length before → PutTo (map low xs) before before 0
  items_start {before} h = put_start (map low xs) before (omega (arith, length-map xs low))

  module _ {before out : List ℕ} {i : ℕ} (s : PutTo (map low xs) before out i) where
    pub item_room : i < length xs → 4 * i + 4 ≤ length out
    item_room h = put_room s (omega (arith, length-map xs low))

    pub item_again : {x : A} {n : ℕ} {after : List ℕ} → i < length xs → x ≡ get_or xs i x → n ≡ low x → after ≡ sets out (4 * i) (word n) → PutTo (map low xs) before after (i + 1)
    item_again {x} h ex en a = put_again s (low x) (omega (arith, length-map xs low)) (en ∙ ap low ex ∙ sym (get_or-map low xs i x)) a

    pub items_end : length xs ≤ i → out ≡ filled (words (map low xs)) before
    items_end h = put_end s (omega (arith, length-map xs low))

-- ---- bytes that are read
pub read_length : (bytes : List ℕ) → length (read_words bytes) ≡ length bytes / 4
read_length [] = refl
read_length (a ∷ []) = refl
read_length (a ∷ b ∷ []) = refl
read_length (a ∷ b ∷ c ∷ []) = refl
read_length (a ∷ b ∷ c ∷ d ∷ bytes) = let e = read_length bytes in omega arith

behind : (a b c d : ℕ) (bytes : List ℕ) (k m : ℕ) → m ≡ suc (suc (suc (suc k))) → get_or bytes k 0 ≡ get_or (a ∷ b ∷ c ∷ d ∷ bytes) m 0
behind a b c d bytes k m e = sym (ap (λ (j : ℕ). get_or (a ∷ b ∷ c ∷ d ∷ bytes) j 0) e)

pub read_at : (bytes : List ℕ) (i : ℕ) → i < length bytes / 4 → get_or (read_words bytes) i (pos 0) ≡ word_at bytes (4 * i)
read_at [] i h = absurd (omega arith)
read_at (a ∷ []) i h = absurd (omega arith)
read_at (a ∷ b ∷ []) i h = absurd (omega arith)
read_at (a ∷ b ∷ c ∷ []) i h = absurd (omega arith)
read_at (a ∷ b ∷ c ∷ d ∷ bytes) zero h = refl
read_at (a ∷ b ∷ c ∷ d ∷ bytes) (suc i) h =
    let p0 = behind a b c d bytes (4 * i) (4 * suc i) (omega arith) in
    let p1 = behind a b c d bytes (4 * i + 1) (4 * suc i + 1) (omega arith) in
    let p2 = behind a b c d bytes (4 * i + 2) (4 * suc i + 2) (omega arith) in
    let p3 = behind a b c d bytes (4 * i + 3) (4 * suc i + 3) (omega arith) in
    read_at bytes i (omega arith) ∙ (λ j. signed (p0 j + 256 * p1 j + 65536 * p2 j + 16777216 * p3 j))

-- the first i numbers are read
pub record ReadTo (bytes : List ℕ) (before path : List ℤ) (i : ℕ) : Type 0 where
  pub goal : path ≡ filled (take i (read_words bytes)) before
  pub within : i ≤ length bytes / 4
  pub room : length bytes / 4 ≤ length before

pub read_start : (bytes : List ℕ) (before : List ℤ) → length bytes / 4 ≤ length before → ReadTo bytes before before 0
read_start bytes before h = record { goal = refl; within = omega arith; room = h }

module _ {bytes : List ℕ} {before path : List ℤ} {i : ℕ} (s : ReadTo bytes before path i) where
  come : length (take i (read_words bytes)) ≡ i
  come = length-take-le i (read_words bytes) (omega (arith, read_length bytes, s.within))

  pub path_length : length path ≡ length before
  path_length = ap length s.goal ∙ fill_length (take i (read_words bytes)) before (omega (arith, come, s.within, s.room))

  pub read_room : i < length bytes / 4 → 4 * i + 4 ≤ length bytes
  read_room h = omega arith

  pub read_again : {z : ℤ} {after : List ℤ} → i < length bytes / 4 → z ≡ word_at bytes (4 * i) → after ≡ set path i z → ReadTo bytes before after (i + 1)
  read_again {z} {after} h e a =
      let one : take (i + 1) (read_words bytes) ≡ take i (read_words bytes) ++ z ∷ [] =
      ap (λ (k : ℕ). take k (read_words bytes)) (add-one i) ∙ take-suc (read_words bytes) i (pos 0) (omega (arith, read_length bytes)) ∙ ap (λ (k : ℤ). take i (read_words bytes) ++ k ∷ []) (read_at bytes i h ∙ sym e) in
      record {
        goal =
            a ∙ ap (λ (l : List ℤ). set l i z) s.goal
            ∙ fill_more (take i (read_words bytes)) (z ∷ []) before i come (omega (arith, s.room))
            ∙ ap (λ (l : List ℤ). filled l before) (sym one);
        within = omega arith;
        room = s.room;
      }

  pub read_end : length bytes / 4 ≤ i → path ≡ filled (read_words bytes) before
  read_end h = s.goal ∙ ap (λ (l : List ℤ). filled l before) (take_all i (read_words bytes) (omega (arith, read_length bytes)))
