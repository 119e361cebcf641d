-- Words of both clippers' functions below their entries: the walk's arena, what is left to read out of it, what is handed out, and the call.
use Rattle.std.specs.Prelude.{◌≡◌, Bool, List, ℕ, ◌+◌, ◌*◌, ◌/◌, ◌%◌, ◌<◌, ◌≤◌, ℤ, length, ◌⊎◌, Result}
use Rattle.plane.specs.declared.point.Point64.{Point64}
use Rattle.plane.specs.declared.rect.Rect64.{Rect64}
use Rattle.plane.specs.Basics.{upwards, Try, ok, ◌>>=◌}
use Rattle.reference.specs.Walk as def
use Rattle.reference.specs.Arena.{ring}
use Rattle.reference.specs.Clip.{enter_all, clip_walked}
use Rattle.reference.specs.Entry.{Drawing, joined, answered}
use Rattle.theorems.specs.Rings.{Entered}
use Rattle.entry.specs.declared.answer.Counts.{Counts}
use Rattle.entry.specs.declared.answer.Refusal.{Refusal}
use Rattle.entry.specs.declared.answer.Refusal.TheVariants.{ListsTooShort}
use Rattle.rectclip.specs.declared.arena.Arena as lent
use Rattle.rectclip.specs.declared.paths.Tally.{Tally}
use Rattle.rectclip.specs.declared.call.Call.{Call}
use Rattle.rectclip.specs.declared.output.Output.{Output}
use Rattle.rectclip.specs.declared.clipping.Clipped.{Clipped}
use Rattle.rectclip.specs.declared.outline.Outline.{Outline}
use Rattle.rectclip.specs.Memory.{Room}
use Rattle.rectclip.specs.Walking.{walk_of, Fits}
use Rattle.rectclip.specs.Arenas.{Spare}
use Rattle.rectclip.specs.Changes.{arena_of}
use Rattle.rectclip.specs.Stored.{Drawn}
use Rattle.rectclip.specs.Outlining.{entered_of, entries}
use Rattle.rectclip.specs.Paths.{nodes_read, paths_at, CountedAll}
use Rattle.rectclip.specs.Outputs.{Unfilled, SameLists}
use Rattle.rectclip.specs.Promises.{lent, Leaves}

-- ---- the walk's arena
-- the walk as the definition has it
abbrev pub walked_of : List ℤ → List ℕ → Outline → def.Walked
walked_of store work o = record { walk = walk_of store work o.walk; entered = entered_of o.walk.points o.around }

-- k nodes may enter lists
pub record Cornered (m : lent.Arena) (k : ℕ) : Type 0 where
  pub spare : Spare m.sizes.slots 0 (arena_of m)
  pub corners : k ≤ m.sizes.nodes

-- the arena of an outline may be built in so many slots
pub record Arranging (store : List ℤ) (m : List ℕ) (slots : ℕ) (o : Outline) : Type 0 where
  pub room : Room slots m
  pub drawn : Drawn store o.walk.points
  pub points : o.walk.points < slots
  pub corners : entries o.around ≤ o.walk.points

-- and it is; as many slots as are left have room for results and entries
pub record Arranged (list : List ℤ) (m : List ℕ) (slots : ℕ) (o : Outline) (r : lent.Arena) : Type 0 where
  pub is : arena_of r ≡ enter_all (ring o.walk.points) (entered_of o.walk.points o.around)
  pub store : r.store.now ≡ list
  pub nodes_are : r.sizes.nodes ≡ o.walk.points
  pub slots_are : r.sizes.slots ≡ slots
  pub spare : (k : ℕ) → o.walk.points + k < slots → Spare slots k (arena_of r)
  pub cells : length r.work.now ≡ length m

-- ---- what is handed out
-- the drawing of a path that is walked
abbrev pub walk_drawing : (ℕ → Bool) → ℕ → Rect64 → List Point64 → Try Drawing
walk_drawing full A rect path = def.walk_closed full rect path >>= clip_walked A rect

-- the answer and the lists of a call that works out the drawing d; what store and work hold does not matter
pub record Gives (d : Try Drawing) (x : Output) (r : Result Counts Refusal) (y : Output) : Type 0 where
  pub same : SameLists x y
  pub is : Unfilled x → (store : List ℤ) (work : List ℕ) → Leaves (answered (lent x.coordinates.now x.lengths.now store work) 0 d) r y.coordinates.now y.lengths.now

-- the nodes of each path that is left
abbrev pub rings_left : lent.Arena → List (List ℕ)
rings_left m = nodes_read m.sizes.nodes (arena_of m) (upwards 0 m.sizes.results)

-- the drawing that is left: the points of those nodes
unfoldable pub drawing_left : lent.Arena → Clipped → Try Drawing
drawing_left m c = ok (paths_at m (upwards 0 m.sizes.results), c.turns)

-- the counts are those of the rings, and small
pub record Readable (m : lent.Arena) (c : Clipped) : Type 0 where
  pub counts : CountedAll c.counts (rings_left m)
  pub few_paths : c.counts.paths ≤ 65536
  pub few_points : c.counts.points ≤ 65536
  pub few_turns : c.turns ≤ 65535

-- the caller's lists have room for so many paths and points more, and these are the counts; or they have not, which is refusal 11
pub record Roomy (counts : Tally) (turns : ℕ) (x : Output) (r : Counts) : Type 0 where
  pub points : 2 * (x.points + counts.points) ≤ length x.coordinates.now
  pub paths : x.paths + counts.paths ≤ length x.lengths.now
  pub is : r ≡ record { paths = counts.paths; points = counts.points; turns = turns }

pub record Short (counts : Tally) (x : Output) (why : Refusal) : Type 0 where
  pub lacks : (length x.coordinates.now < 2 * (x.points + counts.points)) ⊎ (length x.lengths.now < x.paths + counts.paths)
  pub is : why ≡ ListsTooShort

-- a path that is handed out as it came
pub record Copyable (path : List ℤ) : Type 0 where
  pub even : length path % 2 ≡ 0
  pub few : length path / 2 ≤ 4096

-- ---- a call
-- the same call, whatever its working lists hold
pub record SameCall (x y : Call) : Type 0 where
  pub rect : y.rect ≡ x.rect
  pub path : y.path.now ≡ x.path.now
  pub bounds : y.bounds ≡ x.bounds
  pub allowance : y.allowance ≡ x.allowance
  pub store : y.store.ghost_name ≡ x.store.ghost_name
  pub work : y.work.ghost_name ≡ x.work.ghost_name
  pub store_length : length y.store.now ≡ length x.store.now
  pub work_length : length y.work.now ≡ length x.work.now

-- a walked outline: what it entered, and that few points come of it
pub record OutlineClips (x : Call) (o : Outline) : Type 0 where
  pub fits : Fits x.store.now x.work.now o.walk
  pub corners : entries o.around ≤ o.walk.points
  pub entered : Entered (walked_of x.store.now x.work.now o)
  pub few : (paths : List (List Point64)) (turns : ℕ) → clip_walked x.allowance x.rect (walked_of x.store.now x.work.now o) ≡ ok (paths, turns)
      → (turns ≤ x.allowance) × (length paths ≤ turns + 1) × (length (joined paths) ≤ 65536)
