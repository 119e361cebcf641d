-- `get_segment_intersect_pt` of core.rs: a segment's float working against an edge, the crossing, and the crossing's point.
-- Each operation rounds once, none is fused.
use Rattle.std.specs.Prelude.{Float, if◌then◌else◌, Option, None, Some}
use Rattle.std.specs.Float.{binary64}
use Rattle.std.specs.Float.Ieee.{add, sub, mul, div, eq, le, to_signed}
use Rattle.rounding.specs.Coordinate.{float, difference, zero_f, one_f}
use Rattle.plane.specs.declared.crossing.Crossing.{Crossing}
use Rattle.plane.specs.declared.crossing.Crossing.TheVariants.{At, Along}
use Rattle.plane.specs.declared.crossing.Working.{Working}
use Rattle.plane.specs.declared.point.Point64.{Point64}

-- the segment is from a to b, and the edge from c to d
unfoldable pub determinant : Point64 → Point64 → Point64 → Point64 → Float
determinant a b c d = sub binary64 (mul binary64 (difference b.y a.y) (difference d.x c.x)) (mul binary64 (difference d.y c.y) (difference b.x a.x))

unfoldable pub numerator : Point64 → Point64 → Point64 → Float
numerator a c d = sub binary64 (mul binary64 (difference a.x c.x) (difference d.y c.y)) (mul binary64 (difference a.y c.y) (difference d.x c.x))

unfoldable pub fraction : Point64 → Point64 → Point64 → Point64 → Float
unfolding determinant numerator
fraction a b c d = div binary64 (numerator a c d) (determinant a b c d)

unfoldable pub working_of : Point64 → Point64 → Point64 → Point64 → Working
unfolding fraction
working_of a b c d = record {
  x = float a.x;
  y = float a.y;
  dx = difference b.x a.x;
  dy = difference b.y a.y;
  det = determinant a b c d;
  t = fraction a b c d;
}

unfoldable pub crossing_of : Working → Point64 → Point64 → Option Crossing
crossing_of w a b =
    if eq w.det zero_f then None
    else if le w.t zero_f then Some (At a)
    else if le one_f w.t then Some (At b)
    else Some (Along w.t)

-- the point at the fraction t, cut toward zero
unfoldable pub point_at : Working → Float → Point64
point_at w t = record {
  x = to_signed 63 (add binary64 w.x (mul binary64 t w.dx));
  y = to_signed 63 (add binary64 w.y (mul binary64 t w.dy));
}

abbrev pub settled_of : Option Crossing → Working → Option Point64
settled_of None w = None
settled_of (Some (At p)) w = Some p
settled_of (Some (Along t)) w = Some (point_at w t)

-- `get_segment_intersect_pt` whole
unfoldable pub intersection : Point64 → Point64 → Point64 → Point64 → Option Point64
unfolding working_of crossing_of point_at
intersection a b c d = let w = working_of a b c d in settled_of (crossing_of w a b) w
