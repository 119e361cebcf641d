-- `path_contains` meets its contract: bounds first, then the corners. Assumes nothing.
use Rattle.rectclip.proofs.RectPath.{both_paths}
use Rattle.rectclip.proofs.walk.Walker.path_contains.Goals as goal

pub path1_contains_path2-requires : goal.path1_contains_path2-requires
path1_contains_path2-requires c = both_paths c.args.self.now.sheet c.requires c.corners-corners.ensures
