-- That the coordinates of a rectangle and of a point fit 64 bits, as `search rules` finds of arguments. Assumes nothing.
use Rattle.std.proofs.Common.{w64, FitsSigned}
use Rattle.plane.specs.declared.point.Point64.{Point64}
use Rattle.plane.specs.declared.rect.Rect64.{Rect64}

abbrev pub RectFits : Rect64 → Type 0
RectFits r = FitsSigned w64 r.left × FitsSigned w64 r.top × FitsSigned w64 r.right × FitsSigned w64 r.bottom

abbrev pub PointFits : Point64 → Type 0
PointFits p = FitsSigned w64 p.x × FitsSigned w64 p.y
