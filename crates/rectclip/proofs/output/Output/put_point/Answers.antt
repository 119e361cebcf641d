-- `put_point` meets its contract.
use mathlib.Core.Path.{◌∙◌, refl}
use Rattle.rectclip.proofs.Writing.{point_put}
use Rattle.rectclip.proofs.output.Output.put_point.Goals as goal

pub returns : goal.returns
returns c = record {
  coordinates = c.put_point.ensures ∙ point_put c.args.self.now.coordinates.now c.args.self.now.points c.args.p;
  points = refl;
  lengths = refl;
  paths = refl;
  same = record { coordinates = refl; lengths = refl };
}
