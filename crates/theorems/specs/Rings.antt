-- The rings of the arena: what the walk leaves, and what `check_edges` and every turn of `tidy_edges` keep. Statements only; proofs/Rings.antt.
use Rattle.std.specs.Prelude.{◌≡◌, Bool, true, false, ◌⊎◌, ℕ, zero, suc, ◌-◌, ◌<◌, length, get_or, T, eqb, ltb, ℤ}
use mathlib.Core.List.{List, [], ◌∷◌, Memᴰ}
use Rattle.plane.specs.declared.point.Point64.{Point64}
use Rattle.plane.specs.declared.rect.Rect64.{Rect64}
use Rattle.plane.specs.declared.location.Location.{Location}
use Rattle.plane.specs.Basics.{none, upwards, Try, ok, ◌>>=◌}
use Rattle.plane.specs.Locations.{side}
use Rattle.plane.specs.Points.{points_of}
use Rattle.plane.specs.Rectangle.{is_empty}
use Rattle.plane.specs.Limit.{rect_in_limit, all_in_limit}
use Rattle.reference.specs.Walk.{Walked, walk_closed}
use Rattle.reference.specs.Arena.{Arena, pt_of, next_of, prev_of, owner_of, result_of, edge_list, check_edges}
use Rattle.reference.specs.Tidy.{Turn, turn, cw_idx, ccw_idx, one_turn, tidy_edges}
use Rattle.reference.specs.Clip.{arena_of}
use Rattle.theorems.specs.Demand.{Bounded, across, line_of}
use Rattle.theorems.specs.Bounds.{Ringed}

-- ---- what the walk enters in edge lists: nothing, or each of the four corners that it has put down, in the lists of one direction
abbrev pub clockwise_corners : List (ℕ × ℕ)
clockwise_corners = (0, 0) ∷ (2, 1) ∷ (4, 2) ∷ (6, 3) ∷ []

abbrev pub other_corners : List (ℕ × ℕ)
other_corners = (6, 0) ∷ (4, 1) ∷ (2, 2) ∷ (0, 3) ∷ []

abbrev pub Entered : Walked → Type 0
Entered w = (w.entered ≡ []) ⊎ ((length w.walk.points ≡ 4) × ((w.entered ≡ clockwise_corners) ⊎ (w.entered ≡ other_corners)))

-- ---- rings
-- no node stands twice
abbrev pub Different : List ℕ → Type 0
Different [] = Unit {0}
Different (x ∷ xs) = (Memᴰ x xs → ⊥) × Different xs

-- the nodes of a list, in order, are one ring of the arena: each `next` leads to the node behind it, the last one's to the first, and each `prev` back
abbrev pub OneRing : Arena → List ℕ → Type 0
OneRing a [] = Unit {0}
OneRing a (x ∷ xs) = Ringed a x x xs

-- node i is in ring number s
abbrev pub InRing : List (List ℕ) → ℕ → ℕ → Type 0
InRing rings i s = Memᴰ i (get_or rings s [])

-- `rings` are the arena's rings of live nodes by number; the list of a ring that is gone is empty. A node that has been unlinked is in none.
pub record RingsAre (nodes : ℕ) (a : Arena) (rings : List (List ℕ)) : Type 0 where
  pub numbered : length rings ≡ length a.results
  pub is_node : (i s : ℕ) → InRing rings i s → i < nodes
  -- each is one ring, whose nodes are different; the two links are inverse, and stay in it
  pub one_ring : (s : ℕ) → OneRing a (get_or rings s [])
  pub different : (s : ℕ) → Different (get_or rings s [])
  pub next_in : (i s : ℕ) → InRing rings i s → InRing rings (next_of a i) s
  pub prev_in : (i s : ℕ) → InRing rings i s → InRing rings (prev_of a i) s
  pub next_prev : (i s : ℕ) → InRing rings i s → next_of a (prev_of a i) ≡ i
  pub prev_next : (i s : ℕ) → InRing rings i s → prev_of a (next_of a i) ≡ i
  -- the owner of a node is the number of its ring: rings share no node, and live nodes have the same owner exactly if they are in one ring
  pub owner_is : (i s : ℕ) → InRing rings i s → owner_of a i ≡ s
  pub disjoint : (i s t : ℕ) → InRing rings i s → InRing rings i t → s ≡ t
  pub one_owner : (i j s : ℕ) → InRing rings i s → InRing rings j s → owner_of a i ≡ owner_of a j
  pub same_ring : (i j s t : ℕ) → InRing rings i s → InRing rings j t → owner_of a i ≡ owner_of a j → InRing rings j s
  -- a result that is not `none` names a node of the ring that it owns, and a ring with a node has such a result
  pub result_in : (s : ℕ) → (result_of a s ≡ none → ⊥) → InRing rings (result_of a s) s
  pub has_result : (i s : ℕ) → InRing rings i s → result_of a s ≡ none → ⊥

module _ (pts : List Point64) (rect : Rect64) where
  -- ---- edge lists
  -- an entry of an edge list: a live node on that edge's line, with the node before it
  pub record OnEdgeLine (a : Arena) (rings : List (List ℕ)) (s : Location) (i : ℕ) : Type 0 where
    pub live : InRing rings i (owner_of a i)
    pub here : across s (pt_of pts i) ≡ line_of rect s
    pub before : across s (pt_of pts (prev_of a i)) ≡ line_of rect s

  -- entries of both lists of each side; an entry that was struck out is `none`
  pub record EntriesOnLines (a : Arena) (rings : List (List ℕ)) : Type 0 where
    pub clockwise : (k : ℕ) → k < 4 → (i : ℕ) → Memᴰ i (edge_list a (cw_idx k)) → (i ≡ none → ⊥) → OnEdgeLine a rings (side k) i
    pub other : (k : ℕ) → k < 4 → (i : ℕ) → Memᴰ i (edge_list a (ccw_idx k)) → (i ≡ none → ⊥) → OnEdgeLine a rings (side k) i

  -- `tidy_edges` does nothing to an arena whose counter-clockwise lists are all empty. So they are where the path goes round the rectangle and
  -- the walk puts down the four corners, each in a clockwise list; counter-clockwise, the corner before one is not on the line of its edge.
  abbrev pub NothingToTidy : Arena → Type 0
  NothingToTidy a = (k : ℕ) → edge_list a (ccw_idx k) ≡ []

  pub record Ringwise (a : Arena) : Type 0 where
    pub rings : List (List ℕ)
    pub are : RingsAre (length pts) a rings
    pub entries : EntriesOnLines a rings ⊎ NothingToTidy a

  -- ---- every turn on side idx that is taken
  module _ (idx : ℕ) where
    abbrev pub TurnsKeep : ℕ → Turn → Type 0
    TurnsKeep zero t = Unit {0}
    TurnsKeep (suc left) t = ltb t.i (length (edge_list t.arena (cw_idx idx))) ≡ true → let u = one_turn pts idx t.arena t.i t.j in Ringwise u.arena × TurnsKeep left u

    abbrev pub TidyKeeps : ℕ → Arena × ℕ → Type 0
    TidyKeeps A s = eqb (length (edge_list s.0 (ccw_idx idx))) 0 ≡ false → TurnsKeep (A - s.1) (turn s.0 0 0)

-- ---- behind the walk
-- the walk's one ring: its points in order. Without a point there is none
abbrev pub walked_rings : List Point64 → List (List ℕ)
walked_rings [] = []
walked_rings (p ∷ ps) = upwards 0 (length (p ∷ ps)) ∷ []

module _ (A : ℕ) (rect : Rect64) (w : Walked) where
  abbrev pts : List Point64
  pts = w.walk.points

  -- when the sides below k are tidied; `execute` reads the paths from `tidied 4`
  abbrev pub tidied : ℕ → Try (Arena × ℕ)
  tidied zero = ok (check_edges pts rect (arena_of w), 0)
  tidied (suc k) = tidied k >>= tidy_edges pts k A

  pub record RingsKept : Type 0 where
    pub walk : RingsAre (length pts) (arena_of w) (walked_rings pts)
    pub check : Ringwise pts rect (check_edges pts rect (arena_of w))
    pub turns : (k : ℕ) (s : Arena × ℕ) → tidied k ≡ ok s → TidyKeeps pts rect k A s
    pub sides : (k : ℕ) (s : Arena × ℕ) → tidied k ≡ ok s → Ringwise pts rect s.0

-- in every call within the coordinate limit whose store is bounded
abbrev pub RingsAlwaysKept : Type 0
RingsAlwaysKept = (full : ℕ → Bool) (A : ℕ) (rect : Rect64) (coords : List ℤ) (w : Walked) → Bounded full → T (rect_in_limit rect) → T (all_in_limit coords) → is_empty rect ≡ false
    → walk_closed full rect (points_of coords) ≡ ok w → RingsKept A rect w
