-- What a walk may be refused for, and that the walked outline is what walks put down. Its definition gives the empty list where the unlimited walk is
-- refused; without these statements a reader of `AreaKept` could not exclude that it always is. Statements only; proofs: Room, Unlimited.
use Rattle.std.specs.Prelude.{◌≡◌, Bool, true, List, ℕ}
use Rattle.plane.specs.declared.point.Point64.{Point64}
use Rattle.plane.specs.declared.rect.Rect64.{Rect64}
use Rattle.plane.specs.Basics.{Try, refuse, ok}
use Rattle.reference.specs.Walk.{Walked, unlimited, walk_closed, walked_outline}
use Rattle.theorems.specs.Walks.{walk_of}

-- refused for want of room alone: by 8, of a list of n entries that is full
pub data RoomAlone (full : ℕ → Bool) {A : Type 0} : Try A → Type 0 where
  no_room_left : (n : ℕ) → full n ≡ true → RoomAlone full (refuse 8)
  not_refused : (a : A) → RoomAlone full (ok a)

-- every walk, of closed paths and of open ones, whatever the rectangle and the path
abbrev pub OnlyRoomRefuses : Type 0
OnlyRoomRefuses = (closed : Bool) (full : ℕ → Bool) (rect : Rect64) (path : List Point64) → RoomAlone full (walk_of closed full rect path)

-- the unlimited walk is not refused, and the walked outline is the points that it puts down
pub record Outlined (rect : Rect64) (path : List Point64) : Type 0 where
  pub walked : Walked
  pub is_walk : walk_closed unlimited rect path ≡ ok walked
  pub outline : walked_outline rect path ≡ walked.walk.points

abbrev pub OutlineDrawn : Type 0
OutlineDrawn = (rect : Rect64) (path : List Point64) → Outlined rect path

-- a walk that had room, whatever the lists, puts down exactly the walked outline
abbrev pub WalksOutline : Type 0
WalksOutline = (full : ℕ → Bool) (rect : Rect64) (path : List Point64) (w : Walked) → walk_closed full rect path ≡ ok w → walked_outline rect path ≡ w.walk.points
