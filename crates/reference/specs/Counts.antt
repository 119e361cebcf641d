-- The counts by which the definition bounds the Rust's loops, and why each is enough. None of them ever runs out: the statements are in
-- theorems/specs (Bounds, LoopsEnd, CornerLoops) and proved there, so the counted definition is the Rust's own.
use Rattle.std.specs.Prelude.{ℕ, ◌+◌, ◌*◌}

-- round the rectangle to a side: three steps at most lead from one side to another, and four back to the first
abbrev pub corner_steps : ℕ
corner_steps = 4

-- the walk of a closed path of n points: each pass goes past a point, or is followed by one that does
abbrev pub walk_passes : ℕ → ℕ
walk_passes n = n + 1

-- the walk of an open path, which begins at its second point
abbrev pub line_walk_passes : ℕ → ℕ
line_walk_passes n = n

-- once round a ring of at most n nodes
abbrev pub ring_passes : ℕ → ℕ
ring_passes n = n

-- "Remove collinear points" of `check_edges`: each pass drops a node or comes nearer to the node where it ends
abbrev pub drop_passes : ℕ → ℕ
drop_passes n = 2 * n + 1

-- the first loop of `get_path`: each node that is dropped lets it go round the others once more
abbrev pub straighten_passes : ℕ → ℕ
straighten_passes n = n * n
