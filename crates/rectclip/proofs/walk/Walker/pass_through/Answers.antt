-- `pass_through` meets its contract: in and out at what the two searches found. Assumes nothing.
use Rattle.rectclip.proofs.ClosedPass.{passed_through}
use Rattle.rectclip.proofs.Searches.{second_of}
use Rattle.rectclip.proofs.walk.Walker.pass_through.Goals as goal

pub returns : goal.returns
returns c = passed_through c.args.self.now c.args.c c.args.crossing.point c.args.crossing.side (second_of c.search.ensures.frame c.search.ensures.starts c.search.ensures.ends _ _ c.second_search-second.ensures) c.pass_to.ensures
